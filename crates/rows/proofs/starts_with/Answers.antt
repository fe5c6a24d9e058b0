-- `rows::starts_with` meets its contract: byte by byte; of too few bytes none is the key's.
use mathlib.Core.Path.{sym, ◌∙◌}
use borrow.Author.Tests.{lt-leb}
use borrow.Author.Rules.{rules}
use borrow.Author.Tests.{tests}
use lib.Dec.{eqb}
use Rattle.std.proofs.lemmas.Iterator.{YieldsList-from_slice, YieldsList-from_zip}
use Rattle.std.proofs.lemmas.Iterator.Search.{all_from_yields_List}
use Rattle.rows.proofs.Laws.{same_zipped, same_short}
use native.Mathlib.Omega.{arith}
use Rattle.rows.proofs.starts_with.Goals as goal

pub returns-then-key-s : goal.returns-then-key-s
returns-then-key-s c =
    let a = c.args in
    all_from_yields_List (λ q. eqb q.0 q.1) c.all.new.self _ _ c.all.ensures.ran (YieldsList-from_zip {s = c.zip.result} (YieldsList-from_slice a.s.now cc) (YieldsList-from_slice a.key.now cc)) (λ x b q k. search (rules, tests))
    ∙ same_zipped a.s.now a.key.now (omega (arith, c.if-key-s.true))

pub returns-else-key-s : goal.returns-else-key-s
returns-else-key-s c = let a = c.args in lt-leb _ _ c.if-key-s.false ∙ sym (same_short a.s.now a.key.now c.if-key-s.false)
