-- `messages_buffer::check_partitions` meets its contract: the test of each element.
use borrow.Author.Rules.{rules}
use borrow.Author.Tests.{tests}
use Rattle.messages_buffer.specs.Fullness.{count_fits, partitions_number}
use Rattle.messages_buffer.proofs.Laws.{passed, failed}
use Rattle.messages_buffer.proofs.check_partitions.Goals as goal

pub returns-then-not-all : goal.returns-then-not-all
unfolding partitions_number
returns-then-not-all c = failed count_fits c.args.partitions 5 _ c.all.ensures.ran c.iter.ensures.rest (λ x b q k. search (rules, tests)) c.if-not-all.true

pub returns : goal.returns
unfolding partitions_number
returns c = passed count_fits c.args.partitions 5 _ c.all.ensures.ran c.iter.ensures.rest (λ x b q k. search (rules, tests)) c.if-not-all.false
