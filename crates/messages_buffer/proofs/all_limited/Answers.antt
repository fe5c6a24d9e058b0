-- `messages_buffer::all_limited` meets its contract: the test of each pair of the two tables.
use mathlib.Core.Path.{◌∙◌}
use borrow.Author.Rules.{rules}
use borrow.Author.Tests.{tests}
use Rattle.std.proofs.lemmas.Iterator.{YieldsList-from_slice, YieldsList-from_zip}
use Rattle.std.proofs.lemmas.Iterator.Search.{all_from_yields_List}
use Rattle.messages_buffer.specs.Fullness.{limited, all_limited}
use Rattle.messages_buffer.proofs.Laws.{beside, all_buffers}
use Rattle.messages_buffer.proofs.all_limited.Goals as goal

pub returns : goal.returns
unfolding all_limited
returns c =
    let a = c.args in
    let pairs = YieldsList-from_zip {s = c.zip.result} (YieldsList-from_slice a.limits cc) (YieldsList-from_slice a.partitions cc) in
    all_from_yields_List (λ q. limited (beside q)) c.all.new.self _ _ c.all.ensures.ran pairs (λ x b q k. search (rules, tests)) ∙ all_buffers limited a.limits a.partitions
