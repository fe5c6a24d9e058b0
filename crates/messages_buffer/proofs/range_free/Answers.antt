-- `messages_buffer::range_free` meets its contract: the fold over the pairs of the two tables.
use mathlib.Core.Path.{◌∙◌}
use borrow.Author.Rules.{rules}
use borrow.Author.Tests.{tests}
use Rattle.std.proofs.lemmas.Iterator.{YieldsList-from_slice, YieldsList-from_zip}
use Rattle.std.proofs.lemmas.Iterator.Consumers.{fold_from_yields_List}
use Rattle.messages_buffer.specs.Fullness.{with_free, buffer_cap}
use Rattle.messages_buffer.proofs.Free.{free_of_all}
use Rattle.messages_buffer.proofs.range_free.Goals as goal

pub returns : goal.returns
returns c =
    let a = c.args in
    let pairs = YieldsList-from_zip {s = c.zip.result} (YieldsList-from_slice a.limits cc) (YieldsList-from_slice a.partitions cc) in
    fold_from_yields_List _ (λ m q. with_free q.0 q.1 m) buffer_cap _ c.fold.ensures.ran pairs (λ m x b q k. search (rules, tests)) ∙ free_of_all a.limits a.partitions
