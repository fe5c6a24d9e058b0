-- `messages_buffer::check_limits` meets its contract: the test of each element.
use borrow.Author.Rules.{rules}
use borrow.Author.Tests.{tests}
use Rattle.messages_buffer.specs.Fullness.{limit_fits, limits_number}
use Rattle.messages_buffer.proofs.Laws.{passed, failed}
use Rattle.messages_buffer.proofs.check_limits.Goals as goal

pub returns-then-not-all : goal.returns-then-not-all
unfolding limits_number
returns-then-not-all c = failed limit_fits c.args.limits 4 _ c.all.ensures.ran c.iter.ensures.rest (λ x b q k. search (rules, tests)) c.if-not-all.true

pub returns : goal.returns
unfolding limits_number
returns c = passed limit_fits c.args.limits 4 _ c.all.ensures.ran c.iter.ensures.rest (λ x b q k. search (rules, tests)) c.if-not-all.false
