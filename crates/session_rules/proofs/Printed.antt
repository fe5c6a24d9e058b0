-- What a session prints: a text, or nothing; a record that may be refused, a malformed one, one that is too long.
use Prim.Native.Nat.{ℕ}
use mathlib.Core.Path.{◌≡◌, sym, ap, ◌∙◌}
use mathlib.Core.Bool.{true, false}
use mathlib.Core.List.{List}
use lib.Dec.{eqb}
use borrow.Author.Tests.{ne_eqb}
use Rattle.rows.proofs.Laws.{pick_yes, pick_no}
use Rattle.text.specs.Shown.{Text, show}
use Rattle.text.proofs.Laws.{show_nothing}
use Rattle.session_rules.specs.declared.Session.{Session}
use Rattle.session_rules.specs.Said.{with_at, record_counted, printed, nothing_said, bad_said, after_or_bad, malformed_said, long_said}

-- ---- a text that a call put there, and silence
pub printed_text : (s : Session) (text bytes m : List ℕ) (r : ℕ) → record { at = r; bytes = m } ≡ show text (record { at = s.at; bytes = bytes })
    → record { session = with_at s r; bytes = m } ≡ printed (record { session = s; text = text }) bytes
printed_text s text bytes m r e = ap (λ (p : Text). record { session = with_at s p.at; bytes = p.bytes }) e

pub printed_nothing : (s : Session) (bytes : List ℕ) → record { session = s; bytes = bytes } ≡ printed (nothing_said s) bytes
printed_nothing s bytes = rw (show_nothing (record { at = s.at; bytes = bytes }))

-- ---- a record that may be refused, a malformed one
module _ (before after : Session) (number : ℕ) where
  pub bad_where_refused : (number ≡ 0 → ⊥) → bad_said before number ≡ after_or_bad before after number
  unfolding after_or_bad
  bad_where_refused h = sym (pick_no (eqb number 0) (nothing_said after) (bad_said before number) (ne_eqb number 0 h))

pub malformed_stopped : (s : Session) → s.stopped ≡ true → nothing_said s ≡ malformed_said s
unfolding malformed_said
malformed_stopped s h = sym (pick_yes s.stopped (nothing_said s) (bad_said (record_counted s) 17) h)

pub malformed_refused : (s n : Session) → s.stopped ≡ false → n ≡ record_counted s → bad_said n 17 ≡ malformed_said s
unfolding malformed_said
malformed_refused s n h e = ap (λ (x : Session). bad_said x 17) e ∙ sym (pick_no s.stopped (nothing_said s) (bad_said (record_counted s) 17) h)

pub long_stopped : (len : ℕ) (tables : List ℕ) (s : Session) (head : List ℕ) (n : ℕ) → s.stopped ≡ true → nothing_said s ≡ long_said len tables s head n
unfolding long_said
long_stopped len tables s head n h = sym (pick_yes s.stopped (nothing_said s) _ h)
