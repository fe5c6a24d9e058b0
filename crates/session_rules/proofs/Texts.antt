-- How long a record's text is, where it is shown, and what a session says that has stopped.
use Prim.Native.Nat.{ℕ, ◌+◌, ◌/◌, ◌≤◌}
use mathlib.Core.Path.{◌≡◌, refl, ap, ◌∙◌}
use mathlib.Core.Bool.{Bool, true, false}
use mathlib.Core.List.{List, [], ◌∷◌, ◌++◌}
use native.Mathlib.Nat.{mul-div-le}
use native.Mathlib.Omega.{arith}
use lib.Dec.{eqb}
use lib.ListN.{length, take, drop, get_or, length-append, length-take}
use lib.Seq.{sets, length-sets}
use borrow.Author.Tests.{eqb-true}
use Rattle.rows.specs.Rows.{pick, num_at, whole_rows}
use Rattle.rows.proofs.Laws.{pick_both, rows_length}
use Rattle.anchors_cache.specs.declared.AnchorsCacheTransaction.{AnchorsCacheTransaction}
use Rattle.reader_rules.specs.declared.ExternalsReader.{ExternalsReader}
use Rattle.reader_rules.specs.declared.GetNextMessageGroupMode.{GetNextMessageGroupMode}
use Rattle.externals_reader.specs.Answers.{ReadAllAnswer}
use Rattle.externals_reader.specs.Calls.{ReadAllResult, asked_of_read, all_ranges_read, read_all_call}
use Rattle.text.specs.Shown.{places, decimal, marked, line}
use Rattle.lines.specs.Lines.{free_line, entry_lines, range_lines}
use Rattle.text.proofs.Lengths.{line_length, a_text_that_fits_is_shown_whole}
use Rattle.lines.proofs.Lengths.{free_line_length, entry_lines_length, range_lines_length}
use Rattle.session_rules.specs.declared.Session.{Session}
use Rattle.session_rules.specs.Said.{Said, printed, with_at, record_counted, nothing_said, bad_said, after_or_bad, malformed_said, route_said, anchor_said, is_read, do_name, cache_said, is_taken, plain_said, end_said}
use Rattle.session_rules.proofs.TextLengths.{bad_length, after_or_bad_length, a_plain_record_says_at_most_46_bytes, a_malformed_record_says_at_most_46_bytes}
use Rattle.session_rules.proofs.AfterBad.{nothing_is_said_once_stopped}
use Rattle.session_rules.specs.Steps.{shard_done, settings_done, done_said, done_reader, mode_of, read_text, read_said, Lent, reaches_reader, session_read, has_routes, reader_said, reader_reader, StepOutcome, reader_outcome, plain_outcome, taken_outcome, step_of}
use Rattle.range_rules.specs.Rules.{entry_len}
use Rattle.reader_rules.specs.State.{max_ranges}

-- ---- a read
pub a_read_keeps_the_output's_length : (tables area : List ℕ) (t : AnchorsCacheTransaction) (routes : List ℕ) (r : ExternalsReader) (mode : GetNextMessageGroupMode) (out : List ℕ)
    → length (read_all_call tables area t routes r mode out).out ≡ length out
unfolding read_all_call
a_read_keeps_the_output's_length tables area t routes r mode out =
    let s = all_ranges_read tables area t routes r mode (length out) in
    let P : ReadAllResult → Type 0 = λ x. length x.out ≡ length out in
    pick_both P (eqb (asked_of_read tables area t routes r) 0) _ _
    (pick_both P r.all_ranges_fully_read _ _ refl (pick_both P (eqb s.value.so_far.number 0) _ _ (length-sets out 0 s.entries) refl))
    refl

entries_length : (used : ℕ) (out : List ℕ) → length out ≤ 26624 → length (entry_lines (whole_rows entry_len (take used out))) ≤ 111616
entries_length used out h =
    let l = take used out in
    let n = length-take used out in
    let k = entry_lines_length (whole_rows entry_len l) in
    let e = rows_length entry_len (length l / entry_len) l in
    let m = mul-div-le (length l) entry_len in
    omega arith

ranges_length : (a : ReadAllAnswer) → length a.reader.reader_state.ranges ≤ max_ranges
    → length (range_lines (take a.reader.reader_state.len a.reader.reader_state.ranges)) ≤ 2112
ranges_length a h =
    let l = take a.reader.reader_state.len a.reader.reader_state.ranges in
    let n = length-take a.reader.reader_state.len a.reader.reader_state.ranges in
    let k = range_lines_length l in
    omega arith

-- read 0
read_line : length (line (do_name 3) (0 ∷ [])) ≡ 7
unfolding line marked decimal places do_name is_read
read_line = refl

pub a_read's_text_fits : (a : ReadAllAnswer) (out : List ℕ) → length out ≤ 26624 → length a.reader.reader_state.ranges ≤ max_ranges → length (read_text a out) ≤ 113761
unfolding read_text do_name is_read
a_read's_text_fits a out h k = go a.number (eqb a.number 0) refl
  where
    free : List ℕ
    free = free_line a.free

    entries : List ℕ
    entries = entry_lines (whole_rows entry_len (take a.used out))

    ranges : List ℕ
    ranges = range_lines (take a.reader.reader_state.len a.reader.reader_state.ranges)

    go : (n : ℕ) (b : Bool) → eqb n 0 ≡ b → length (line (do_name 3) (n ∷ []) ++ pick b (free ++ (entries ++ ranges)) []) ≤ 113761
    go n true e =
        let m = entries_length a.used out h in
        let o = ranges_length a k in
        let f = free_line_length a.free in
        rw (eqb-true n 0 e, length-append (line (do_name 3) (0 ∷ [])) (free ++ (entries ++ ranges)), length-append free (entries ++ ranges), length-append entries ranges, read_line) (omega arith)
    go n false e =
        let m = line_length (do_name 3) (n ∷ []) in
        rw (length-append (line (do_name 3) (n ∷ [])) []) (omega arith)

-- ---- the place of the text
abbrev At : ℕ → Said → Type 0
At at a = a.session.at ≡ at

after_or_bad_at : (before after : Session) (number : ℕ) → after.at ≡ before.at → At before.at (after_or_bad before after number)
unfolding after_or_bad bad_said
after_or_bad_at before after number h = pick_both (At before.at) (eqb number 0) (nothing_said after) (bad_said before number) h refl

reader_at : (l : Lent) (s : Session) (r : ExternalsReader) (kind : ℕ) (p : List ℕ) → At s.at (reader_said l s r kind p)
unfolding reader_said read_said bad_said
reader_at l s r kind p =
    pick_both (At s.at) (eqb kind 1) _ _ (after_or_bad_at s s (shard_done r p).number refl)
    (pick_both (At s.at) (eqb kind 3) _ _ (after_or_bad_at s s (settings_done r p).number refl)
    (pick_both (At s.at) (has_routes l s) (read_said s (session_read l s r p)) (bad_said s 3) refl refl))

plain_at : (tables area routes : List ℕ) (s : Session) (kind : ℕ) (p : List ℕ) → At s.at (plain_said tables area routes s kind p)
unfolding plain_said anchor_said route_said cache_said
plain_at tables area routes s kind p =
    pick_both (At s.at) (eqb kind 4) _ _ (after_or_bad_at s _ _ refl)
    (pick_both (At s.at) (eqb kind 2) _ _ (after_or_bad_at s _ _ refl) refl)

malformed_at : (s : Session) → At s.at (malformed_said s)
unfolding malformed_said bad_said record_counted
malformed_at s = pick_both (At s.at) s.stopped (nothing_said s) (bad_said (record_counted s) 17) refl refl

-- ---- one record
module _ (l : Lent) (s : Session) (r : ExternalsReader) (kind : ℕ) (p : List ℕ) where
  reader_fits : length l.entries ≤ 26624 → length (reader_reader l s r kind p).reader_state.ranges ≤ max_ranges → length (reader_said l s r kind p).text ≤ 113761
  unfolding reader_said reader_reader read_said
  reader_fits h = go (eqb kind 1) (eqb kind 3) (has_routes l s)
    where
      a : ReadAllResult
      a = session_read l s r p

      go : (shard settings routes : Bool)
          → length (pick shard (done_reader r (shard_done r p)) (pick settings (done_reader r (settings_done r p)) (pick routes a.answer.reader r))).reader_state.ranges ≤ max_ranges
          → length (pick shard (done_said s (shard_done r p)) (pick settings (done_said s (settings_done r p)) (pick routes (read_said s a) (bad_said s 3)))).text ≤ 113761
      go true settings routes k = let m = after_or_bad_length s s (shard_done r p).number in omega arith
      go false true routes k = let m = after_or_bad_length s s (settings_done r p).number in omega arith
      go false false true k =
          let e = a_read_keeps_the_output's_length l.tables l.area s.transaction (take s.routes_len l.routes) r (mode_of (get_or p 0 0)) l.entries in
          a_read's_text_fits a.answer a.out (omega arith) k
      go false false false k = let m = bad_length s 3 in omega arith

  taken_fits : length l.entries ≤ 26624 → length (taken_outcome l s r kind p).reader.reader_state.ranges ≤ max_ranges → length (taken_outcome l s r kind p).said.text ≤ 113761
  unfolding taken_outcome reader_outcome plain_outcome
  taken_fits h = go (reaches_reader kind (get_or p 0 0))
    where
      go : (b : Bool) → length (pick b (reader_outcome l s r kind p) (plain_outcome l s r kind p)).reader.reader_state.ranges ≤ max_ranges
          → length (pick b (reader_outcome l s r kind p) (plain_outcome l s r kind p)).said.text ≤ 113761
      go true k = reader_fits h k
      go false k = let m = a_plain_record_says_at_most_46_bytes l.tables l.area l.routes s kind p in omega arith

module _ (l : Lent) (s : Session) (r : ExternalsReader) (rec : List ℕ) where
  pub every_record's_text_fits : length l.entries ≤ 26624 → length (step_of l s r rec).reader.reader_state.ranges ≤ max_ranges → length (step_of l s r rec).said.text ≤ 113761
  unfolding step_of
  every_record's_text_fits h = go (is_taken s rec)
    where
      taken : StepOutcome
      taken = taken_outcome l (record_counted s) r (num_at 2 0 rec) (drop 2 rec)

      malformed : StepOutcome
      malformed = record { said = malformed_said s; reader = r; lent = l }

      go : (b : Bool) → length (pick b taken malformed).reader.reader_state.ranges ≤ max_ranges → length (pick b taken malformed).said.text ≤ 113761
      go true k = taken_fits l (record_counted s) r (num_at 2 0 rec) (drop 2 rec) h k
      go false k = let m = a_malformed_record_says_at_most_46_bytes s in omega arith

  -- a record's text goes to the session's place, so all of it is shown where that many bytes follow
  step_at : At s.at (step_of l s r rec).said
  unfolding step_of taken_outcome reader_outcome plain_outcome record_counted
  step_at =
      let P : StepOutcome → Type 0 = λ o. At s.at o.said in
      let kind = num_at 2 0 rec in
      let p = drop 2 rec in
      pick_both P (is_taken s rec) _ _
      (pick_both P (reaches_reader kind (get_or p 0 0)) _ _ (reader_at l (record_counted s) r kind p) (plain_at l.tables l.area l.routes (record_counted s) kind p))
      (malformed_at s)

  pub every_record's_text_is_shown_whole : length l.entries ≤ 26624 → length (step_of l s r rec).reader.reader_state.ranges ≤ max_ranges → (bytes : List ℕ) → s.at + 113761 ≤ length bytes
      → printed (step_of l s r rec).said bytes
      ≡ record { session = with_at (step_of l s r rec).said.session (s.at + length (step_of l s r rec).said.text); bytes = sets bytes s.at (step_of l s r rec).said.text }
  every_record's_text_is_shown_whole h k bytes room =
      let fits = every_record's_text_fits h k in
      rw step_at (rw (a_text_that_fits_is_shown_whole (step_of l s r rec).said.text (record { at = s.at; bytes = bytes }) (omega arith)))

  -- a session that has stopped says nothing, and changes nothing
  pub nothing_is_said_after_bad : s.stopped ≡ true → step_of l s r rec ≡ record { said = nothing_said s; reader = r; lent = l }
  unfolding step_of
  nothing_is_said_after_bad h =
      let silence = nothing_is_said_once_stopped s h in
      rw (silence.no_record_is_taken rec, silence.malformed)

-- ---- a session: each record's text, then that of the input's end
unfoldable pub session_text : Lent → Session → ExternalsReader → List (List ℕ) → List ℕ
session_text l s r [] = (end_said s false).text
session_text l s r (x ∷ rest) =
    let o = step_of l s r x in
    o.said.text ++ session_text o.lent o.said.session o.reader rest

pub nothing_follows_bad : (l : Lent) (s : Session) (r : ExternalsReader) (records : List (List ℕ)) → s.stopped ≡ true → session_text l s r records ≡ []
unfolding session_text
nothing_follows_bad l s r [] h = ap (λ (a : Said). a.text) ((nothing_is_said_once_stopped s h).end false)
nothing_follows_bad l s r (x ∷ rest) h =
    ap (λ (o : StepOutcome). o.said.text ++ session_text o.lent o.said.session o.reader rest) (nothing_is_said_after_bad l s r x h) ∙ nothing_follows_bad l s r rest h
