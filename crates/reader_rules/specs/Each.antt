-- A table filled place by place.
use Rattle.std.specs.Prelude.{ℕ, zero, suc, List, [], ◌∷◌}

-- f 0, f 1, .. : the first n of them
unfoldable pub each : {A : Type 0} → ℕ → (ℕ → A) → List A
each zero f = []
each (suc n) f = f 0 ∷ each n (λ i. f (suc i))
