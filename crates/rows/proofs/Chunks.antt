-- What `chunks_exact` gives are the whole rows of its width.
use Prim.Native.Nat.{ℕ, ◌<◌}
use mathlib.Core.Path.{◌≡◌, sym, ◌∙◌}
use mathlib.Core.List.{List}
use native.Mathlib.Nat.{div-eq_of_lt}
use Rattle.std.specs.Slice.Iter.{chunks_exact_rest, chunks_exact_size, chunks_exact_steps}
use Rattle.std.proofs.lemmas.Iterator.{YieldsList}
use Rattle.std.proofs.lemmas.Iterator.Splits.{YieldsList-from_shown_while}
use Rattle.rows.specs.Rows.{whole_rows}
use Rattle.rows.proofs.Laws.{rows_length, whole_cons}

pub YieldsList-from_chunks_exact : {s : _} (w : ℕ) (l : List ℕ) → 0 < w → chunks_exact_size s ≡ w → chunks_exact_rest s ≡ l → YieldsList (chunks_exact_steps {A = ℕ}) (λ y. y.now) s (whole_rows w l)
YieldsList-from_chunks_exact {s} w l some size rest =
    let all = YieldsList-from_shown_while chunks_exact_steps (λ y. y.now) (λ t. whole_rows (chunks_exact_size t) (chunks_exact_rest t)) (λ t. 0 < chunks_exact_size t)
    (λ t u p h. rows_length (chunks_exact_size t) _ _ ∙ div-eq_of_lt h.1.0)
    (λ t x u p h. (rw h.0 p, rw (h.0, h.1.0) (whole_cons (chunks_exact_size t) x.now (chunks_exact_rest u) p h.1.1)))
    s (rw size some) in
    rw (sym size, sym rest) all
