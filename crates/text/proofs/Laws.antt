-- A text shown after another is both shown as one; what is shown where a text fits, fits in part or not at all; numbers
-- and lines.
use Prim.Native.Nat.{ℕ, zero, suc, ◌+◌, ◌-◌, ◌≤◌, ◌<◌}
use mathlib.Core.Path.{◌≡◌, refl, sym, ap, ◌∙◌}
use mathlib.Core.List.{List, [], ◌∷◌, ◌++◌, append-nil}
use native.Mathlib.Omega.{arith}
use native.Mathlib.Numerals.{add-one}
use lib.Dec.{leb}
use lib.ListN.{length, take, drop, get_or, length-append, length-take, drop_of_length-le}
use lib.Seq.{sets, length-sets, take-nil, drop-cons}
use Rattle.rows.specs.Rows.{written}
use Rattle.rows.proofs.Laws.{sets_append, written_in, pick_same}
use Rattle.text.specs.Shown.{Text, Puts, show, decimal, marked, spaced, joined, line}

-- ---- text after text
take_of_append : {A : Type 0} (n : ℕ) (a b : List A) → take n (a ++ b) ≡ take n a ++ take (n - length (take n a)) b
take_of_append zero a b = refl
take_of_append (suc n) [] b = let e : suc n - 0 ≡ suc n = omega arith in rw e
take_of_append (suc n) (x ∷ a) b =
    let e : suc n - suc (length (take n a)) ≡ n - length (take n a) = omega arith in
    rw e (ap (λ (l : List _). x ∷ l) (take_of_append n a b))

show_at : (a b : List ℕ) (at : ℕ) (l : List ℕ) → show b (show a (record { at = at; bytes = l })) ≡ show (a ++ b) (record { at = at; bytes = l })
unfolding show
show_at a b at l =
    let f = take (length l - at) a in
    let r : length l - (at + length f) ≡ length l - at - length f = omega arith in
    let g = take (length l - at - length f) b in
    let s : at + length f + length g ≡ at + (length f + length g) = omega arith in
    rw (length-sets l at f, r, take_of_append (length l - at) a b, length-append f g, sets_append l at f g, s)

pub show_on : (a b : List ℕ) (p : Text) → show b (show a p) ≡ show (a ++ b) p
show_on a b p = show_at a b p.at p.bytes

pub show_nothing : (p : Text) → show [] p ≡ p
unfolding show
show_nothing p =
    let e : p.at + 0 ≡ p.at = omega arith in
    rw (take-nil {A = ℕ} (length p.bytes - p.at)) (ap (λ (n : ℕ). record { at = n; bytes = p.bytes }) e)

-- ---- past the end nothing is shown
pub show_past : (text : List ℕ) (at : ℕ) (l : List ℕ) → length l < at → record { at = at; bytes = l } ≡ show text (record { at = at; bytes = l })
unfolding show
show_past text at l h =
    let z : length l - at ≡ 0 = omega arith in
    let e : at + 0 ≡ at = omega arith in
    rw (z, e)

-- ---- a store of what fits; past the end nothing does
stored : (at : ℕ) (vs l : List ℕ) → length vs ≤ length l - at → written at vs l ≡ sets l at vs
unfolding written
stored at [] l h = pick_same (leb (at + 0) (length l)) l
stored at (v ∷ vs) l h = written_in at (v ∷ vs) l (omega arith)

pub show_fitting : (text fitting : List ℕ) (at : ℕ) (l m : List ℕ) → fitting ≡ take (length l - at) text → m ≡ written at fitting l
    → record { at = at + length fitting; bytes = m } ≡ show text (record { at = at; bytes = l })
unfolding show
show_fitting text fitting at l m f e =
    let h : length (take (length l - at) text) ≤ length l - at = omega (arith, length-take (length l - at) text) in
    rw (e, f) (ap (λ (b : List ℕ). record { at = at + length (take (length l - at) text); bytes = b }) (stored at (take (length l - at) text) l h))

-- ---- numbers and lines
pub show_marked : (mark n : ℕ) (p q r : Text) → q ≡ show (mark ∷ []) p → r ≡ show (decimal n) q → r ≡ show (marked mark (n ∷ [])) p
unfolding marked
show_marked mark n p q r e f =
    f ∙ (ap (show (decimal n)) e ∙ (show_on (mark ∷ []) (decimal n) p ∙ ap (λ (l : List ℕ). show (mark ∷ l) p) (sym (append-nil (decimal n)))))

pub show_line : (name numbers : List ℕ) (p q r s : Text) → q ≡ show name p → r ≡ show (spaced numbers) q → s ≡ show (10 ∷ []) r → s ≡ show (line name numbers) p
unfolding line
show_line name numbers p q r s d e f =
    f
    ∙ (ap (show (10 ∷ [])) (e ∙ ap (show (spaced numbers)) d)
    ∙ (show_on (spaced numbers) (10 ∷ []) (show name p)
    ∙ show_on name (spaced numbers ++ (10 ∷ [])) p))

pub show_joined : (first : ℕ) (rest : List ℕ) (p q r : Text) → q ≡ show (spaced (first ∷ [])) p → r ≡ show (marked 58 rest) q → r ≡ show (joined first rest) p
unfolding joined
show_joined first rest p q r d e = e ∙ (ap (show (marked 58 rest)) d ∙ show_on (spaced (first ∷ [])) (marked 58 rest) p)

-- ---- the turns of the loop: what is left to show after a turn is what was left before it
marked_cons : (mark n : ℕ) (l : List ℕ) → marked mark (n ∷ l) ≡ marked mark (n ∷ []) ++ marked mark l
unfolding marked
marked_cons mark n l = rw (append-nil (decimal n))

pub numbers_turn : (mark : ℕ) (l : List ℕ) (i : ℕ) (p q : Text) → i < length l → q ≡ show (marked mark (get_or l i 0 ∷ [])) p
    → show (marked mark (drop (i + 1) l)) q ≡ show (marked mark (drop i l)) p
numbers_turn mark l i p q h e =
    rw (e, add-one i, drop-cons l i 0 h, marked_cons mark (get_or l i 0) (drop (suc i) l)) (show_on (marked mark (get_or l i 0 ∷ [])) (marked mark (drop (suc i) l)) p)

pub numbers_end : (mark : ℕ) (l : List ℕ) (i : ℕ) (p : Text) → length l ≤ i → show (marked mark (drop i l)) p ≡ p
unfolding marked
numbers_end mark l i p h = rw (drop_of_length-le l h) (show_nothing p)

-- ---- some text, and some more
pub puts_nothing : (p : Text) → Puts p p
puts_nothing p = ([], sym (show_nothing p))

pub puts_on : (p q r : Text) → Puts p q → Puts q r → Puts p r
puts_on p q r a b = (a.0 ++ b.0, b.1 ∙ (ap (show b.0) a.1 ∙ show_on a.0 b.0 p))
