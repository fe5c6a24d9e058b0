-- The bytes in front of a place, when a part from there on is written or read.
use Rattle.std.proofs.Common.{◌≡◌, ℕ, ◌+◌, ◌-◌, ◌≤◌, List, ◌++◌, length, take, drop, sym, ap, ◌∙◌, le_refl, drop_at, length-take-le, arith}
use Rattle.std.proofs.lemmas.List.{take_rest}
use Rattle.std.proofs.lemmas.Slice.{take-put_mid_below}
use borrow.Rule.Slice.PartMut.{put_mid, post_of}
use lib.ListN.{length-drop}
use lib.Seq.{take-add, take-append-le, drop-drop}

part_of : (a k n : ℕ) (xs ys : List ℕ) → a ≤ length xs → n ≤ length ys → take n (drop a (put_mid a k xs ys)) ≡ take n ys
part_of a k n xs ys within fits =
    let after = post_of a k xs in
    ap (take n) (drop_at (take a xs) (ys ++ after) a (length-take-le a xs within)) ∙ take-append-le n ys after fits

-- where the bytes from a on are replaced by ys: the first a, and n of ys
pub front_replaced : (a k n : ℕ) (xs ys : List ℕ) → a ≤ length xs → n ≤ length ys → take a xs ++ take n ys ≡ take (a + n) (put_mid a k xs ys)
front_replaced a k n xs ys within fits =
    ap (λ l. take a xs ++ l) (sym (part_of a k n xs ys within fits))
    ∙ ap (λ l. l ++ take n (drop a (put_mid a k xs ys))) (sym (take-put_mid_below _ _ _ _ _ (le_refl _) within))
    ∙ sym (take-add a n (put_mid a k xs ys))

-- where a rest of the bytes is left, and n of it go: what is left then, and the bytes in front of it
pub rest_behind : (n : ℕ) (xs left new : List ℕ) → length left ≤ length xs → left ≡ drop (length xs - length left) xs → n ≤ length left → new ≡ take (length left - n) (drop n left) → (length new ≤ length xs) × (new ≡ drop (length xs - length new) xs) × (take (length xs - length left) xs ++ take n left ≡ take (length xs - length new) xs)
rest_behind n xs left new within is fits next = (omega (arith, long, within), rest ∙ ap (λ k. drop k xs) (sym place), ap (λ l. take a xs ++ take n l) is ∙ sym (take-add a n xs) ∙ ap (λ k. take k xs) (sym place))
  where
    a : ℕ
    a = length xs - length left

    now : new ≡ drop n left
    now = next ∙ take_rest left n

    long : length new ≡ length left - n
    long = ap length now ∙ length-drop n left

    place : length xs - length new ≡ a + n
    place = omega (arith, long, within, fits)

    rest : new ≡ drop (a + n) xs
    rest = now ∙ ap (drop n) is ∙ drop-drop n a xs
