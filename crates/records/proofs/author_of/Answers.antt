use Rattle.records.proofs.Laws.{rest_got, author_front}
use mathlib.Core.List.{List}
use mathlib.Core.Path.{refl, ap, ◌∙◌}
use Prim.Native.Nat.{ℕ}
use denote.Ref.{Bor}
use Rattle.records.proofs.author_of.Goals as goal

pub returns : goal.returns
returns c =
    let p = c.args.p.now in
    let rest = ap (λ (b : Bor (List ℕ)). b.now) c.unwrap_or-rest.ensures ∙ rest_got p 12 c.get.result _ refl c.get.ensures.lookup in
    author_front p _ rest _ _ _ c.first_chunk.ensures.cases c.copied.ensures c.unwrap_or.ensures
