-- Laws of a table that is filled place by place: where a loop starts, its turn, and its end.
use Prim.Native.Nat.{ℕ, zero, suc, ◌+◌, ◌<◌, ◌≤◌}
use mathlib.Core.Path.{◌≡◌, refl, sym, ap, subst, ◌∙◌}
use mathlib.Core.List.{List, [], ◌∷◌, ◌++◌, map, append-nil}
use native.Mathlib.Omega.{arith}
use lib.ListN.{length, get_or, set, take, drop, drop_of_length-le, length-map}
use lib.Seq.{sets, sets-eq, take_all}
use Rattle.std.proofs.lemmas.List.Edits.{map_over_more}
use Rattle.std.proofs.lemmas.List.{length-take-le}
use denote.Param.Members.{Mut}
use Rattle.std.specs.Array.{IsMapOf, MapsFrom, IsFromFnResult, IsFromFnResultFrom}
use Rattle.std.specs.Fn.{Called}
use Rattle.reader_rules.specs.Each.{each}

pub each_length : {A : Type 0} (n : ℕ) (f : ℕ → A) → length (each n f) ≡ n
unfolding each
each_length zero f = refl
each_length (suc n) f = ap suc (each_length n (λ i. f (suc i)))

pub each_at : {A : Type 0} (n : ℕ) (f : ℕ → A) (i : ℕ) (d : A) → i < n → get_or (each n f) i d ≡ f i
unfolding each
each_at zero f i d h = absurd (omega arith)
each_at (suc n) f zero d h = refl
each_at (suc n) f (suc i) d h = each_at n (λ j. f (suc j)) i d (omega arith)

pub each_map : {A B : Type 0} (f : A → B) (d : A) (n : ℕ) (l : List A) → n ≤ length l → each n (λ i. f (get_or l i d)) ≡ map f (take n l)
unfolding each
each_map f d zero l h = refl
each_map f d (suc n) [] h = absurd (omega arith)
each_map {B = B} f d (suc n) (x ∷ l) h = ap (λ (m : List B). f x ∷ m) (each_map f d n l (omega arith))

-- a table by its places
each_all : {A : Type 0} (f : ℕ → A) (n : ℕ) (m : List A) → length m ≡ n → ((i : ℕ) (d : A) → i < n → get_or m i d ≡ f i) → m ≡ each n f
unfolding each
each_all f zero [] e at = refl
each_all f zero (x ∷ m) e at = absurd (omega arith)
each_all f (suc n) [] e at = absurd (omega arith)
each_all {A = A} f (suc n) (x ∷ m) e at =
    ap (λ (y : A). y ∷ m) (at 0 x (omega arith)) ∙ ap (λ (l : List A). f 0 ∷ l) (each_all (λ i. f (suc i)) n m (omega arith) (λ i d h. at (suc i) d (omega arith)))

map_all : {A B : Type 0} (f : A → B) (l : List A) (m : List B) → length m ≡ length l → ((i : ℕ) (d : A) (e : B) → i < length l → get_or m i e ≡ f (get_or l i d)) → m ≡ map f l
map_all f [] [] e at = refl
map_all f [] (y ∷ m) e at = absurd (omega arith)
map_all f (x ∷ l) [] e at = absurd (omega arith)
map_all {B = B} f (x ∷ l) (y ∷ m) e at =
    ap (λ (z : B). z ∷ m) (at 0 x y (omega arith)) ∙ ap (λ (k : List B). f x ∷ k) (map_all f l m (omega arith) (λ i d b h. at (suc i) d b (omega arith)))

-- what `array::from_fn` makes, where each call gives f of the place and leaves the callee as it is
module _ {F A : Type 0} (g : Mut F (ℕ × Unit {0}) A) (callee : F) (f : ℕ → A) (gives : (i : ℕ) (x : A) (q : F) → Called g callee (i, tt) x q → (q ≡ callee) × (x ≡ f i)) where
  made_at : (m : List A) (at n : ℕ) → IsFromFnResultFrom g callee m at n → (i : ℕ) (d : A) → i < n → get_or m (at + i) d ≡ f (at + i)
  made_at m at zero made i d h = absurd (omega arith)
  made_at m at (suc n) made zero d h = let z : at + 0 ≡ at = omega arith in rw z (made.2.1 d ∙ (gives at _ _ made.3).1)
  made_at m at (suc n) made (suc i) d h =
      let rest = subst (λ (q : F). IsFromFnResultFrom g q m (at + 1) n) (gives at _ _ made.3).0 made.4 in
      let z : at + suc i ≡ at + 1 + i = omega arith in
      rw z (made_at m (at + 1) n rest i d (omega arith))

  pub each_made : (n : ℕ) (m : List A) → IsFromFnResult g callee m n → m ≡ each n f
  each_made n m made = each_all f n m made.long (λ i d h. let z : 0 + i ≡ i = omega arith in rw z at (made_at m 0 n made.each i d h))

-- what an array's `map` makes, where each call gives f of the element and leaves the callee as it is
module _ {F A B : Type 0} (g : Mut F (A × Unit {0}) B) (callee : F) (f : A → B) (gives : (x : A) (y : B) (q : F) → Called g callee (x, tt) y q → (q ≡ callee) × (y ≡ f x)) where
  mapped_at : (l : List A) (m : List B) (at n : ℕ) → MapsFrom g callee l m at n → (i : ℕ) (d : A) (e : B) → i < n → get_or m (at + i) e ≡ f (get_or l (at + i) d)
  mapped_at l m at zero made i d e h = absurd (omega arith)
  mapped_at l m at (suc n) made zero d e h =
      let z : at + 0 ≡ at = omega arith in
      rw z (made.4.1 e ∙ ((gives _ _ _ made.5).1 ∙ ap f (sym (made.3.1 d))))
  mapped_at l m at (suc n) made (suc i) d e h =
      let rest = subst (λ (q : F). MapsFrom g q l m (at + 1) n) (gives _ _ _ made.5).0 made.6 in
      let z : at + suc i ≡ at + 1 + i = omega arith in
      rw z (mapped_at l m (at + 1) n rest i d e (omega arith))

  pub each_mapped : (n : ℕ) (l : List A) (m : List B) → length l ≡ n → IsMapOf g callee l m n → m ≡ map f l
  each_mapped n l m long made = map_all f l m (made.long ∙ sym long) (λ i d e h. let z : 0 + i ≡ i = omega arith in rw z at (mapped_at l m 0 n made.each i d e (omega arith)))

-- a loop over a table that changes each element in place: its turn, and its end
get_or_again : {A : Type 0} (l : List A) (i : ℕ) (d : A) → get_or l i d ≡ get_or l i (get_or l i d)
get_or_again [] i d = refl
get_or_again (x ∷ l) zero d = refl
get_or_again (x ∷ l) (suc i) d = get_or_again l i d

module _ {A : Type 0} (f : A → A) (l : List A) (i : ℕ) (m : List A) (so_far : m ≡ map f (take i l) ++ drop i l) where
  pub mapped_next : (d x : A) → i < length l → x ≡ f (get_or m i d) → set m i x ≡ map f (take (i + 1) l) ++ drop (i + 1) l
  mapped_next d x h e = rw e (map_over_more f l m i (get_or m i d) h so_far (get_or_again m i d))

  pub mapped_end : length l ≤ i → m ≡ map f l
  mapped_end h = so_far ∙ rw (take_all i l h, drop_of_length-le l h, append-nil)

-- a table of which the first n are stored anew
pub sets_mapped : {A : Type 0} (f : A → A) (n : ℕ) (l : List A) → n ≤ length l → sets l 0 (map f (take n l)) ≡ map f (take n l) ++ drop n l
sets_mapped f n l h =
    let k : length (map f (take n l)) ≡ n = length-map (take n l) f ∙ length-take-le n l h in
    let z : 0 + n ≡ n = omega arith in
    sets-eq (map f (take n l)) l 0 (omega arith) ∙ rw (k, z)
