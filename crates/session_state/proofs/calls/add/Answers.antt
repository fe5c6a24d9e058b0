use Rattle.records.proofs.Laws.{rest_got}
use Rattle.session_rules.specs.Said.{anchor_number, anchor_taken, tables_after, area_after}
use mathlib.Core.List.{List}
use mathlib.Core.Path.{refl, ap, ◌∙◌}
use Prim.Native.Nat.{ℕ}
use denote.Ref.{Bor}
use Rattle.session_state.proofs.calls.add.Goals as goal

pub returns : goal.returns
unfolding anchor_number anchor_taken tables_after area_after
returns c =
    let messages = ap (λ (b : Bor (List ℕ)). b.now) c.unwrap_or-messages.ensures ∙ rest_got c.args.p.now 50 c.get.result _ refl c.get.ensures.lookup in
    rw (c.anchor_of.ensures, c.num_at.ensures, messages) at c.add.ensures
