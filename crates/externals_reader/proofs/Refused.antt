-- What a call on the reader answers where a question refuses it, and where none does.
use Prim.Native.Nat.{ℕ}
use mathlib.Core.Path.{◌≡◌}
use mathlib.Core.Bool.{Bool, false}
use mathlib.Core.List.{List}
use lib.Dec.{eqb}
use lib.ListN.{replicate}
use borrow.Author.Tests.{ne_eqb}
use Rattle.std.specs.Prelude.{Result}
use Rattle.std.specs.Result.{IsErr, IsErrAnd}
use Rattle.refusals.specs.declared.Refusal.{Refusal}
use Rattle.refusals.specs.Refusals.{number_of}
use Rattle.refusals.proofs.Laws.{handed_on, refused_is_not_done}
use Rattle.rows.specs.Rows.{pick}
use Rattle.range_rules.specs.declared.ExternalsRangeReaderState.{ExternalsRangeReaderState}
use Rattle.reader_rules.specs.declared.ExternalsReader.{ExternalsReader}
use Rattle.externals_reader.specs.Answers.{reader_done_of, partition_ids_of, next_range_of, no_next_range}
use Rattle.externals_reader.specs.Calls.{changed}

pub change_done : (k : ℕ) (r s : ExternalsReader) → 0 ≡ k → record { number = 0; reader = s } ≡ changed k r s
change_done k r s e = rw (← e)

pub change_refused : (k : ℕ) (r s : ExternalsReader) (x : Result ExternalsReader Refusal) (e : Refusal)
    → IsErr x × IsErrAnd x (λ y. y ≡ e) → number_of e ≡ k → reader_done_of r x ≡ changed k r s
change_refused k r s x e h q = rw (handed_on x e h, ← q, ne_eqb (number_of e) 0 (refused_is_not_done e))

pub ids_refused : (k : ℕ) (present : List Bool) (x : Result (List Bool) Refusal) (e : Refusal)
    → IsErr x × IsErrAnd x (λ y. y ≡ e) → number_of e ≡ k → partition_ids_of x ≡ record { number = k; present = pick (eqb k 0) present (replicate 8 false) }
ids_refused k present x e h q = rw (handed_on x e h, ← q, ne_eqb (number_of e) 0 (refused_is_not_done e))

pub next_refused : (k : ℕ) (range : ExternalsRangeReaderState) (x : Result ExternalsRangeReaderState Refusal) (e : Refusal)
    → IsErr x × IsErrAnd x (λ y. y ≡ e) → number_of e ≡ k → next_range_of x ≡ record { number = k; range = pick (eqb k 0) range no_next_range }
next_refused k range x e h q = rw (handed_on x e h, ← q, ne_eqb (number_of e) 0 (refused_is_not_done e))
