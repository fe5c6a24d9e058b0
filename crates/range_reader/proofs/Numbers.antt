-- The first "no" of the questions, and what a number 0 says.
use Prim.Native.Nat.{ℕ, ◌<◌}
use mathlib.Core.Path.{◌≡◌, refl}
use mathlib.Core.Bool.{true}
use mathlib.Core.List.{List, ◌∷◌}
use native.Mathlib.Omega.{arith}
use lib.ListN.{length}
use Rattle.shard_ident.specs.declared.ShardIdent.{ShardIdent}
use Rattle.shard_ident.specs.Shard.{is_shard, shard_number}
use Rattle.shard_ident.proofs.Laws.{question_yes}
use Rattle.router.specs.Router.{routes_number}
use Rattle.messages_buffer.specs.Fullness.{first_no}
use Rattle.anchors_cache.specs.declared.AnchorsCacheTransaction.{AnchorsCacheTransaction}
use Rattle.anchors_cache.specs.Calls.{refusal}
use Rattle.range_rules.specs.declared.ExternalsRangeReaderState.{ExternalsRangeReaderState}
use Rattle.messages_buffer.proofs.Laws.{first_no_lem, first_yes, first_zero, first_alone}
use Rattle.refusals.proofs.Laws.{number_is_some}
use Rattle.range_reader.specs.Calls.{asked_number}

pub first_some : (n : ℕ) (l : List ℕ) → 0 < n → first_no (n ∷ l) ≡ n
first_some n l h = first_no_lem n l (λ e. omega arith)

-- for functions that ask one question after the other: those behind a "yes", and the refusal by a "no"
pub ruleset questions = (first_some, first_yes, first_alone, number_is_some)

-- what questions 1 to 10 say where they are answered "yes"
pub record Passed (tables area : List ℕ) (t : AnchorsCacheTransaction) (shard : ShardIdent) (routes : List ℕ) : Type 0 where
  pub shard_sound : is_shard shard ≡ true
  pub routes_sound : routes_number routes ≡ 0
  pub cache_sound : refusal (length area) tables t ≡ 0

pub passed : (tables area : List ℕ) (t : AnchorsCacheTransaction) (shard : ShardIdent) (routes limits : List ℕ) (range : ExternalsRangeReaderState)
    → asked_number tables area t shard routes limits range ≡ 0 → Passed tables area t shard routes
unfolding asked_number
passed tables area t shard routes limits range e =
    let p1 = first_zero _ _ e in
    let p2 = first_zero _ _ p1.1 in
    let p3 = first_zero _ _ p2.1 in
    let p4 = first_zero _ _ p3.1 in
    let p5 = first_zero _ _ p4.1 in
    record { shard_sound = question_yes shard (shard_number shard) refl p2.0; routes_sound = p3.0; cache_sound = p5.0 }
