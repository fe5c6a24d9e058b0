-- What a record of a session says (document 01, "Session program"), where it does not reach the reader: its text,
-- and the state and the lent bytes that it leaves.
use Rattle.std.specs.Prelude.{ℕ, ◌+◌, ◌*◌, ◌/◌, Bool, true, false, ◌&&◌, ◌||◌, List, [], ◌∷◌, ltb, leb, eqb, length, take, drop, get_or, Option, Some, None}
use Rattle.rows.specs.Rows.{pick, num_at, written, whole_rows, find_row}
use Rattle.messages_buffer.specs.Fullness.{first_no}
use Rattle.anchors_cache.specs.declared.AnchorsCacheTransaction.{AnchorsCacheTransaction}
use Rattle.anchors_cache.specs.Answers.{Done}
use Rattle.cache_rules.specs.Rules.{Row}
use Rattle.anchors_cache.specs.Windows.{added_tables, added_area}
use Rattle.anchors_cache.specs.Calls.{on_zero, refusal, row_for, add_number, add_call, pop_call, open_call, commit_call, rollback_call, close_call, closed_transaction}
use Rattle.records.specs.Records.{record_number, anchor_in}
use Rattle.text.specs.Shown.{show, line}
use Rattle.lines.specs.Lines.{bad_line, end_line}
use Rattle.session_rules.specs.declared.Session.{Session}
use Rattle.router.specs.Router.{max_routes}

-- ---- the session changed in one place
abbrev pub with_transaction : Session → AnchorsCacheTransaction → Session
with_transaction s t = record { records = s.records; stopped = s.stopped; at = s.at; routes_len = s.routes_len; transaction = t }

abbrev pub with_routes_len : Session → ℕ → Session
with_routes_len s n = record { records = s.records; stopped = s.stopped; at = s.at; routes_len = n; transaction = s.transaction }

abbrev pub with_record_count : Session → ℕ → Session
with_record_count s n = record { records = n; stopped = s.stopped; at = s.at; routes_len = s.routes_len; transaction = s.transaction }

abbrev pub with_at : Session → ℕ → Session
with_at s at = record { records = s.records; stopped = s.stopped; at = at; routes_len = s.routes_len; transaction = s.transaction }

-- nothing follows a refused record, nor the end
abbrev pub stop : Session → Session
stop s = record { records = s.records; stopped = true; at = s.at; routes_len = s.routes_len; transaction = s.transaction }

-- one record more, counted from 1; the count stays at the greatest number of 64 bits
unfoldable pub record_counted : Session → Session
record_counted s = with_record_count s (pick (ltb s.records 18446744073709551615) (s.records + 1) s.records)

unfoldable pub new_session : Session
new_session = record { records = 0; stopped = false; at = 0; routes_len = 0; transaction = closed_transaction }

-- ---- what a record says: the session as it then is, and its text
pub record Said : Type 0 where
  pub session : Session
  pub text : List ℕ

-- the session with the place behind the text, and the lent bytes with the text
pub record Printed : Type 0 where
  pub session : Session
  pub bytes : List ℕ

abbrev pub printed : Said → List ℕ → Printed
printed a bytes =
    let p = show a.text (record { at = a.session.at; bytes = bytes }) in
    record { session = with_at a.session p.at; bytes = p.bytes }

abbrev pub nothing_said : Session → Said
nothing_said s = record { session = s; text = [] }

-- a refused record: `bad`, its number from 1, the refusal, and no `end`
unfoldable pub bad_said : Session → ℕ → Said
bad_said s number = record { session = stop s; text = bad_line s.records number }

unfoldable pub after_or_bad : Session → Session → ℕ → Said
after_or_bad before after number = pick (eqb number 0) (nothing_said after) (bad_said before number)

-- a malformed record; a session that has stopped takes none
unfoldable pub malformed_said : Session → Said
malformed_said s = pick s.stopped (nothing_said s) (bad_said (record_counted s) 17)

-- ---- 0002
abbrev pub is_nothing : Option ℕ → Bool
is_nothing (Some i) = false
is_nothing None = true

-- question 3 of one route more: there are fewer than 256, the partition is at most 7, the address is not listed
unfoldable pub route_number : List ℕ → List ℕ → ℕ
route_number routes p =
    pick (ltb (length routes / 34) max_routes && (leb 34 (length p) && (leb (get_or p 33 0) 7 && is_nothing (find_row (take 33 p) (whole_rows 34 routes))))) 0 3

-- the lent routes, of which n bytes are listed, must have a place for it
unfoldable pub placed_number : ℕ → List ℕ → List ℕ → ℕ
placed_number n routes p = pick (leb (n + length p) (length routes)) (route_number (take n routes) p) 3

unfoldable pub routes_with : ℕ → List ℕ → List ℕ → List ℕ
routes_with n routes p = pick (eqb (placed_number n routes p) 0) (written n p routes) routes

unfoldable pub route_said : Session → List ℕ → List ℕ → Said
route_said s routes p = after_or_bad s (with_routes_len s (s.routes_len + 34)) (placed_number s.routes_len routes p)

abbrev pub routes_after : Session → List ℕ → List ℕ → List ℕ
routes_after s routes p = routes_with s.routes_len routes p

-- ---- 0004
abbrev pub messages_of : List ℕ → List ℕ
messages_of p = drop 50 p

abbrev pub ours_of : List ℕ → ℕ
ours_of p = num_at 4 44 p

abbrev pub route_row_in : List ℕ → Row
route_row_in p = row_for (anchor_in p) (ours_of p) (length (messages_of p))

unfoldable pub anchor_number : ℕ → List ℕ → AnchorsCacheTransaction → List ℕ → ℕ
anchor_number n tables t p = add_number n tables t (anchor_in p).id (ours_of p) (length (messages_of p))

unfoldable pub anchor_taken : ℕ → List ℕ → AnchorsCacheTransaction → List ℕ → Done
anchor_taken n tables t p = add_call (anchor_number n tables t p) (route_row_in p) n (length (messages_of p)) tables t

unfoldable pub tables_after : ℕ → List ℕ → AnchorsCacheTransaction → List ℕ → List ℕ
tables_after n tables t p = on_zero (anchor_number n tables t p) (added_tables (route_row_in p) t.cache tables) tables

unfoldable pub area_after : List ℕ → List ℕ → AnchorsCacheTransaction → List ℕ → List ℕ
area_after area tables t p = on_zero (anchor_number (length area) tables t p) (added_area (route_row_in p) (messages_of p) tables t.cache area) area

unfoldable pub anchor_said : Session → ℕ → List ℕ → List ℕ → Said
anchor_said s n tables p =
    let d = anchor_taken n tables s.transaction p in
    after_or_bad s (with_transaction s d.state) d.number

-- ---- 0005: 1 open, 2 pop, 3 read `Continue`, 4 read `Refill`, 5 commit, 6 rollback, 7 close
unfoldable pub is_read : ℕ → Bool
is_read d = pick (eqb d 3) true (eqb d 4)

-- each call's line is its name and number
unfoldable pub do_name : ℕ → List ℕ
do_name d =
    pick (is_read d) (114 ∷ 101 ∷ 97 ∷ 100 ∷ [])
    (pick (eqb d 1) (111 ∷ 112 ∷ 101 ∷ 110 ∷ [])
    (pick (eqb d 2) (112 ∷ 111 ∷ 112 ∷ [])
    (pick (eqb d 5) (99 ∷ 111 ∷ 109 ∷ 109 ∷ 105 ∷ 116 ∷ [])
    (pick (eqb d 6) (114 ∷ 111 ∷ 108 ∷ 108 ∷ 98 ∷ 97 ∷ 99 ∷ 107 ∷ []) (99 ∷ 108 ∷ 111 ∷ 115 ∷ 101 ∷ [])))))

abbrev pub pop_done : ℕ → List ℕ → AnchorsCacheTransaction → Done
pop_done n tables t = record { number = (pop_call n tables t).number; state = (pop_call n tables t).state }

-- the calls of the cache; n is the length of the message area
unfoldable pub called : ℕ → List ℕ → AnchorsCacheTransaction → ℕ → Done
called n tables t d =
    pick (eqb d 1) (open_call n tables t)
    (pick (eqb d 2) (pop_done n tables t) (pick (eqb d 5) (commit_call n tables t) (pick (eqb d 6) (rollback_call n tables t) (close_call n tables t))))

unfoldable pub cache_said : Session → ℕ → List ℕ → ℕ → Said
cache_said s n tables d =
    let c = called n tables s.transaction d in
    record { session = with_transaction s c.state; text = line (do_name d) (c.number ∷ []) }

-- ---- a record that is taken and does not reach the reader: its kind, its payload
unfoldable pub plain_said : List ℕ → List ℕ → List ℕ → Session → ℕ → List ℕ → Said
plain_said tables area routes s kind p =
    pick (eqb kind 4) (anchor_said s (length area) tables p) (pick (eqb kind 2) (route_said s routes p) (cache_said s (length area) tables (get_or p 0 0)))

unfoldable pub plain_tables : List ℕ → List ℕ → List ℕ → Session → ℕ → List ℕ → List ℕ
plain_tables tables area routes s kind p = pick (eqb kind 4) (tables_after (length area) tables s.transaction p) tables

unfoldable pub plain_area : List ℕ → List ℕ → List ℕ → Session → ℕ → List ℕ → List ℕ
plain_area tables area routes s kind p = pick (eqb kind 4) (area_after area tables s.transaction p) area

unfoldable pub plain_routes : List ℕ → List ℕ → List ℕ → Session → ℕ → List ℕ → List ℕ
plain_routes tables area routes s kind p = pick (eqb kind 2) (routes_after s routes p) routes

-- ---- what a call leaves: the session with the place behind its text, and every byte that it may write
pub record AnchorLeft : Type 0 where
  pub session : Session
  pub tables : List ℕ
  pub area : List ℕ
  pub text : List ℕ

abbrev pub anchor_left : Session → List ℕ → List ℕ → List ℕ → List ℕ → AnchorLeft
anchor_left s tables area text p =
    let o = printed (anchor_said s (length area) tables p) text in
    record { session = o.session; tables = tables_after (length area) tables s.transaction p; area = area_after area tables s.transaction p; text = o.bytes }

pub record PlainLeft : Type 0 where
  pub session : Session
  pub tables : List ℕ
  pub area : List ℕ
  pub routes : List ℕ
  pub text : List ℕ

abbrev pub plain_left : Session → List ℕ → List ℕ → List ℕ → List ℕ → ℕ → List ℕ → PlainLeft
plain_left s tables area routes text kind p =
    let o = printed (plain_said tables area routes s kind p) text in
    record {
      session = o.session;
      tables = plain_tables tables area routes s kind p;
      area = plain_area tables area routes s kind p;
      routes = plain_routes tables area routes s kind p;
      text = o.bytes;
    }

-- question 17 is asked of a record first; a session that has stopped takes none
unfoldable pub is_taken : Session → List ℕ → Bool
is_taken s r = pick s.stopped false (pick (ltb (length r) 2) false (eqb (record_number (record_counted s).records (num_at 2 0 r) (drop 2 r)) 0))

-- ---- a record of n bytes that are too many to be lent, by its first 52: 17 unless it is an anchor of its stated
-- length, else as `add` answers for more than 512 messages
unfoldable pub long_number : ℕ → List ℕ → ℕ → AnchorsCacheTransaction → List ℕ → ℕ → ℕ
long_number len tables number t head n =
    pick (ltb number 3) 17
    (pick (eqb (num_at 2 0 head) 4) (pick (eqb n (52 + 33 * num_at 2 50 head)) (first_no (refusal len tables t ∷ 6 ∷ [])) 17) 17)

unfoldable pub long_said : ℕ → List ℕ → Session → List ℕ → ℕ → Said
long_said len tables s head n = pick s.stopped (nothing_said s) (bad_said (record_counted s) (long_number len tables (record_counted s).records s.transaction head n))

-- ---- the input's end: inside a record, or before 0003, it is one malformed record
unfoldable pub end_said : Session → Bool → Said
end_said s cut =
    pick (cut || ltb s.records 2) (malformed_said s) (pick s.stopped (nothing_said s) (record { session = stop s; text = end_line s.transaction.cache }))
