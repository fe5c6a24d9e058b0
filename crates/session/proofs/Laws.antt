-- A read's text, shown in its parts; each record that reaches the reader by its cases; one record.
use Prim.Native.Nat.{ℕ, ◌-◌, ◌≤◌, ◌<◌}
use mathlib.Core.Path.{◌≡◌, refl, sym, ap, ◌∙◌}
use mathlib.Core.Bool.{true, false}
use mathlib.Core.List.{List, [], ◌∷◌, ◌++◌, append-nil}
use native.Mathlib.Omega.{arith}
use Rattle.std.proofs.lemmas.Bool.Decides.{nat_tests}
use Rattle.session_state.specs.Dos.{do_byte, do_of}
use Rattle.session_state.specs.declared.calls.Do.{Do}
use Rattle.session_state.specs.declared.calls.Do.TheVariants as Calls
use Rattle.reader_rules.specs.declared.GetNextMessageGroupMode.{GetNextMessageGroupMode}
use Rattle.reader_rules.specs.declared.GetNextMessageGroupMode.TheVariants as Mode
use Rattle.session_state.proofs.Laws.{said_of}
use lib.Dec.{eqb}
use lib.ListN.{length, take, drop, get_or}
use borrow.Author.Tests.{le-leb, lt-leb, ne_eqb}
use Rattle.rows.specs.Rows.{num_at, whole_rows}
use Rattle.rows.proofs.Laws.{pick_no}
use Rattle.reader_rules.specs.declared.ExternalsReader.{ExternalsReader}
use Rattle.std.specs.Prelude.{Result, Ok, Err}
use Rattle.refusals.specs.declared.Refusal.{Refusal}
use Rattle.refusals.specs.Refusals.{number_of, number}
use Rattle.refusals.proofs.Laws.{refused_is_not_done}
use Rattle.externals_reader.specs.Answers.{ReaderDone, reader_done_of, ReadAllAnswer, read_all_answer_of}
use Rattle.externals_reader.specs.declared.ReadIntoBuffers.{ReadIntoBuffers}
use Rattle.externals_reader.specs.Calls.{ReadAllResult, read_all_call}
use Rattle.text.specs.Shown.{Text, show, line}
use Rattle.lines.specs.Lines.{free_line, entry_lines, range_lines}
use Rattle.text.proofs.Laws.{show_on}
use Rattle.session_rules.specs.declared.Session.{Session}
use Rattle.session_rules.specs.Said.{Printed, printed, with_at, with_transaction, record_counted, bad_said, after_or_bad, malformed_said, is_read, do_name, PlainLeft, plain_left, plain_said, plain_tables, plain_area, plain_routes, AnchorLeft, anchor_left, route_said, routes_after, cache_said, is_taken}
use Rattle.session_rules.proofs.Printed.{printed_text}
use Rattle.session_rules.specs.Steps.{shard_done, settings_done, done_reader, mode_of, read_text, read_said, Lent, reaches_reader, reader_said, reader_reader, reader_entries, ReadLeft, read_left, StepOutcome, reader_outcome, plain_outcome, taken_outcome, step_of, Whole, whole, leaves, whole_after}
use Rattle.range_rules.specs.Rules.{entry_len}

pub show_both : (a b : List ℕ) (p q r : Text) → q ≡ show a p → r ≡ show b q → r ≡ show (a ++ b) p
show_both a b p q r e f = f ∙ (ap (show b) e ∙ show_on a b p)

-- ---- the shard and the settings
pub done_as : (r h : ExternalsReader) (x : Result ExternalsReader Refusal) (d : ReaderDone) → reader_done_of h x ≡ d → (number x ≡ d.number) × ((reader_done_of r x).reader ≡ done_reader r d)
done_as r h (Ok s) d e = rw (← e) (refl, refl)
done_as r h (Err k) d e = rw (← e) (refl, sym (pick_no (eqb (number_of k) 0) h r (ne_eqb (number_of k) 0 (refused_is_not_done k))))

-- what a byte asks for
pub mode_said : (d : ℕ) → mode_of (do_byte (do_of d)) ≡ mode_of d
unfolding do_of
mode_said d = grind (arith, nat_tests)

read_said_of : (d : ℕ) → is_read (do_byte (do_of d)) ≡ is_read d
unfolding is_read do_of
read_said_of d = grind (arith, nat_tests)

pub reaches_said : (kind d : ℕ) → reaches_reader kind (do_byte (do_of d)) ≡ reaches_reader kind d
unfolding reaches_reader
reaches_said kind d = rw (read_said_of d)

-- ---- a record that does not reach the reader
module _ (s : Session) (tables area routes text : List ℕ) (kind : ℕ) (p : List ℕ) where
  pub as_anchor : (x : AnchorLeft) → kind ≡ 4 → x ≡ anchor_left s tables area text p
      → record { session = x.session; tables = x.tables; area = x.area; routes = routes; text = x.text } ≡ plain_left s tables area routes text kind p
  unfolding plain_said plain_tables plain_area plain_routes
  as_anchor x k e = rw (k, e)

  pub as_route : (t : Printed) (routes' : List ℕ) → kind ≡ 2 → t ≡ printed (route_said s routes p) text → routes' ≡ routes_after s routes p
      → record { session = t.session; tables = tables; area = area; routes = routes'; text = t.bytes } ≡ plain_left s tables area routes text kind p
  unfolding plain_said plain_tables plain_area plain_routes
  as_route t routes' k e f = rw (k, e, f)

  pub as_call : (t : Printed) → kind ≡ 5 → t ≡ printed (cache_said s (length area) tables (get_or p 0 0)) text
      → record { session = t.session; tables = tables; area = area; routes = routes; text = t.bytes } ≡ plain_left s tables area routes text kind p
  unfolding plain_said plain_tables plain_area plain_routes
  as_call t k e = rw (k, e)

-- ---- a read
module _ (s : Session) (r : ExternalsReader) (out : List ℕ) (x : ReadAllResult) (text : List ℕ) where
  abbrev left : ReadAllAnswer → Text → ReadLeft
  left a t = record { session = with_at (with_transaction s a.state) t.at; reader = a.reader; entries = out; text = t.bytes }

  read_leaves : (a : ReadAllAnswer) → record { answer = a; out = out } ≡ x → (t : Text) → t ≡ show (read_text a out) (record { at = s.at; bytes = text }) → left a t ≡ read_left s x text
  unfolding read_said
  read_leaves a e t f =
      ap (λ (y : Printed). record { session = y.session; reader = a.reader; entries = out; text = y.bytes }) (printed_text (with_transaction s a.state) (read_text a out) text t.bytes t.at f)
      ∙ ap (λ (y : ReadAllResult). read_left s y text) e

  pub read_no : (k : Refusal) → record { answer = read_all_answer_of r s.transaction (Err k); out = out } ≡ x
      → (t : Text) → t ≡ show (line (do_name 3) (number_of k ∷ [])) (record { at = s.at; bytes = text })
      → left (read_all_answer_of r s.transaction (Err k)) t ≡ read_left s x text
  unfolding read_text
  read_no k e t f =
      read_leaves (read_all_answer_of r s.transaction (Err k)) e t
      (rw (ne_eqb (number_of k) 0 (refused_is_not_done k), append-nil (line (do_name 3) (number_of k ∷ []))) f)

  pub read_yes : (a : ReadIntoBuffers) → record { answer = read_all_answer_of r s.transaction (Ok a); out = out } ≡ x
      → (q : Text) → q ≡ show (line (do_name 3) (0 ∷ [])) (record { at = s.at; bytes = text })
      → (t : Text) → t ≡ show (free_line a.free ++ (entry_lines (whole_rows entry_len (take a.used out)) ++ range_lines (take a.reader.reader_state.len a.reader.reader_state.ranges))) q
      → left (read_all_answer_of r s.transaction (Ok a)) t ≡ read_left s x text
  unfolding read_text
  read_yes a e q g t f = read_leaves (read_all_answer_of r s.transaction (Ok a)) e t (show_both _ _ _ q t g f)

-- ---- what is printed and the reader, in the whole
abbrev pub whole_by : Lent → Printed → ExternalsReader → Whole
whole_by l t r = record { session = t.session; reader = r; lent = l; text = t.bytes }

pub whole_same : (l : Lent) (t u : Printed) (q r : ExternalsReader) → t ≡ u → q ≡ r → whole_by l t q ≡ whole_by l u r
whole_same l t u q r e f = rw (e, f)

-- ---- a record that reaches the reader
module _ (l : Lent) (s : Session) (r : ExternalsReader) (kind : ℕ) (p text : List ℕ) (t : Printed) (q : ExternalsReader) where
  module _ (n : ℕ) (said : t ≡ printed (after_or_bad s s n) text) where
    pub shard_step : kind ≡ 1 → (n ≡ (shard_done r p).number) × (q ≡ done_reader r (shard_done r p)) → whole_by l t q ≡ leaves (reader_outcome l s r kind p) text
    unfolding reader_outcome reader_said reader_reader reader_entries
    shard_step k e = rw k (whole_same l t _ q _ (said ∙ ap (λ (x : ℕ). printed (after_or_bad s s x) text) e.0) e.1)

    pub settings_step : kind ≡ 3 → (n ≡ (settings_done r p).number) × (q ≡ done_reader r (settings_done r p)) → whole_by l t q ≡ leaves (reader_outcome l s r kind p) text
    unfolding reader_outcome reader_said reader_reader reader_entries
    settings_step k e = rw k (whole_same l t _ q _ (said ∙ ap (λ (x : ℕ). printed (after_or_bad s s x) text) e.0) e.1)

  pub routes_missing : kind ≡ 5 → length l.routes < s.routes_len → t ≡ printed (bad_said s 3) text → q ≡ r → whole_by l t q ≡ leaves (reader_outcome l s r kind p) text
  unfolding reader_outcome reader_said reader_reader reader_entries
  routes_missing k h e f = rw (k, lt-leb s.routes_len (length l.routes) h) (whole_same l t _ q _ e f)

-- ---- the read
pub name_read : (m : GetNextMessageGroupMode) → do_name (do_byte (Calls.Read m)) ≡ do_name 3
unfolding do_name is_read
name_read Mode.Continue = refl
name_read Mode.Refill = refl

mode_read : (m : GetNextMessageGroupMode) → mode_of (do_byte (Calls.Read m)) ≡ m
mode_read Mode.Continue = refl
mode_read Mode.Refill = refl

module _ (l : Lent) (s : Session) (r : ExternalsReader) (m : GetNextMessageGroupMode) (text : List ℕ) where
  pub read_step : (x : ReadLeft) → s.routes_len ≤ length l.routes
      → x ≡ read_left s (read_all_call l.tables l.area s.transaction (take (s.routes_len - 0) l.routes) r m l.entries) text
      → whole x.session x.reader l.tables l.area l.routes x.entries x.text ≡ leaves (reader_outcome l s r 5 (do_byte (Calls.Read m) ∷ [])) text
  unfolding reader_outcome reader_said reader_reader reader_entries
  read_step x h f =
      let z : s.routes_len - 0 ≡ s.routes_len = omega arith in
      rw (le-leb s.routes_len (length l.routes) h, mode_read m)
      (ap (λ (y : ReadLeft). whole y.session y.reader l.tables l.area l.routes y.entries y.text) (rw z at f))

-- ---- one record
-- what an outcome leaves, where it is the step's
pub by_outcome : (w : Whole) (rec : List ℕ) (x : Whole) (o : StepOutcome) → x ≡ leaves o w.text → o ≡ step_of w.lent w.session w.reader rec → x ≡ whole_after rec w
by_outcome w rec x o e f = e ∙ ap (λ (y : StepOutcome). leaves y w.text) f

pub not_taken : (l : Lent) (s : Session) (r : ExternalsReader) (rec : List ℕ) → is_taken s rec ≡ false → record { said = malformed_said s; reader = r; lent = l } ≡ step_of l s r rec
unfolding step_of
not_taken l s r rec e = sym (pick_no (is_taken s rec) _ _ e)

pub taken_step : (l : Lent) (s n : Session) (r : ExternalsReader) (rec p : List ℕ) (kind : ℕ) → is_taken s rec ≡ true → n ≡ record_counted s → kind ≡ num_at 2 0 rec → p ≡ drop 2 rec
    → taken_outcome l n r kind p ≡ step_of l s r rec
unfolding step_of
taken_step l s n r rec p kind e f g h = rw (e, f, g, h)

pub plain_leaves : (l : Lent) (s : Session) (r : ExternalsReader) (kind : ℕ) (p text : List ℕ) (x : PlainLeft)
    → x ≡ plain_left s l.tables l.area l.routes text kind p
    → whole x.session r x.tables x.area x.routes l.entries x.text ≡ leaves (plain_outcome l s r kind p) text
unfolding plain_outcome
plain_leaves l s r kind p text x e = ap (λ (y : PlainLeft). whole y.session r y.tables y.area y.routes l.entries y.text) e

-- a do record, by the call that its byte asks for
pub called_by : (l : Lent) (s : Session) (r : ExternalsReader) (p text : List ℕ) (d : ℕ) (x : Whole) → d ≡ get_or p 0 0
    → x ≡ leaves (taken_outcome l s r 5 (do_byte (do_of d) ∷ [])) text → x ≡ leaves (taken_outcome l s r 5 p) text
unfolding taken_outcome reader_outcome reader_said reader_reader reader_entries plain_outcome plain_said plain_tables plain_area plain_routes
called_by l s r p text d x e f = rw (reaches_said 5 d, mode_said d, said_of s (length l.area) l.tables d, e) at f

read_reaches : (m : GetNextMessageGroupMode) → reaches_reader 5 (do_byte (Calls.Read m)) ≡ true
unfolding reaches_reader is_read
read_reaches Mode.Continue = refl
read_reaches Mode.Refill = refl

no_other_reaches : (call : Do) → ((m : GetNextMessageGroupMode) → call ≡ Calls.Read m → ⊥) → reaches_reader 5 (do_byte call) ≡ false
unfolding reaches_reader is_read
no_other_reaches Calls.Open h = refl
no_other_reaches Calls.Pop h = refl
no_other_reaches (Calls.Read m) h = absurd (h m refl)
no_other_reaches Calls.Commit h = refl
no_other_reaches Calls.Rollback h = refl
no_other_reaches Calls.Close h = refl

module _ (l : Lent) (s : Session) (r : ExternalsReader) (text : List ℕ) where
  pub read_taken : (m : GetNextMessageGroupMode) (x : Whole) → x ≡ leaves (reader_outcome l s r 5 (do_byte (Calls.Read m) ∷ [])) text → x ≡ leaves (taken_outcome l s r 5 (do_byte (Calls.Read m) ∷ [])) text
  unfolding taken_outcome
  read_taken m x e = rw (read_reaches m) e

  pub call_taken : (call : Do) (x : Whole) → ((m : GetNextMessageGroupMode) → call ≡ Calls.Read m → ⊥) → x ≡ leaves (plain_outcome l s r 5 (do_byte call ∷ [])) text → x ≡ leaves (taken_outcome l s r 5 (do_byte call ∷ [])) text
  unfolding taken_outcome
  call_taken call x h e = rw (no_other_reaches call h) e
