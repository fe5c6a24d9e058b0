-- The claim about any list of calls between an open and a close that answer 0: numbers and final cache are the book's.
use Prim.Native.Nat.{ℕ, zero, suc, ◌*◌, ◌/◌, ◌≤◌, ◌<◌}
use mathlib.Core.Path.{◌≡◌, refl, sym, ap, subst, ◌∙◌}
use mathlib.Core.Bool.{Bool, true, false, not}
use mathlib.Core.List.{List, [], ◌∷◌, map}
use mathlib.Core.Option.{Option}
use native.Mathlib.Omega.{arith}
use lib.Dec.{ltb}
use lib.ListN.{length, drop}
use borrow.Author.Tests.{le-leb, lt-leb}
use Rattle.rows.specs.Rows.{pick}
use Rattle.anchors_cache.specs.declared.AnchorsCache.{AnchorsCache}
use Rattle.anchors_cache.specs.declared.AnchorsCacheTransaction.{AnchorsCacheTransaction}
use Rattle.anchors_cache.specs.declared.MempoolAnchor.{MempoolAnchor}
use Rattle.cache_rules.specs.Rules.{Info, Row, Cache, row_of, pop_front, trim, total, last_of, right_size, above_last, room, same_bool, ask, max_history, area_bytes}
use Rattle.anchors_cache.specs.Tables.{anchors_of, view}
use Rattle.anchors_cache.specs.Windows.{popped_times, used_by, any_places}
use Rattle.anchors_cache.specs.Calls.{places_in, refusal, refusal_at, on_zero, answer, with_cache, add_number, add_call, add_info_number, add_info_call, pop_answer, pop_call, pops_call, trim_answer, trim_call, clear_call, open_call, commit_call, rollback_call, close_call, refusal_seen, info_answer, shown_info, id_answer, get_answer, shown_anchor, flag_answer, last_info_call, info_at_ct_call, last_id_call, get_call, pending_call, pending_in_range_call}
use Rattle.anchors_cache.proofs.Laws.{anchors_length, infos_length, rows_of_messages, length_messages}
use Rattle.anchors_cache.proofs.Asked.{Parts, valid_parts, refusal_zero, at_asked, at_refused, first_asked, add_asked, info_asked}
use Rattle.cache_laws.specs.Book.{Book, begin, finish, holds, asked_of_caches, book_refusal, book_add, book_add_info, pop_times, Area, same, short, lend, Call, Reading, reading, enter, entered, book_numbers, performed, numbers}
use Rattle.cache_laws.specs.Entries.{popping, popping_many, trimming, committing, rolling_back, closing, opening, clearing, adding, adding_info, Question, last_info, info_at, last_id, get_at, is_pending, is_pending_up_to, number_of, longest_slice, asking}
use Rattle.cache_laws.proofs.Views.{view_popped, view_popped_times, view_trimmed}
use Rattle.cache_laws.proofs.Kept.{whole, popped_parts, times_parts, trimmed_parts, valid_of, holds_view}

-- the transaction stands for the book
pub record Stands (tables area : List ℕ) (t : AnchorsCacheTransaction) (b : Book) : Type 0 where
  pub is_open : t.active ≡ true
  pub now_ok : Parts (places_in (length area)) tables t.cache
  pub then_ok : Parts (places_in (length area)) tables t.undo
  pub present : view tables area t.cache ≡ b.present
  pub opening : view tables area t.undo ≡ b.opening
  pub mark : t.committed ≡ b.mark

-- ---- an area that question 1 refuses
module _ (n : ℕ) (few : n < area_bytes) where
  short_book : (b : Book) (rest : ℕ) → book_refusal n b rest ≡ 1
  unfolding book_refusal
  short_book b rest = rw (lt-leb area_bytes n few)

  module _ (tables : List ℕ) (t : AnchorsCacheTransaction) where
    short_refusal : refusal n tables t ≡ 1
    unfolding refusal
    short_refusal = rw (lt-leb area_bytes n few)

    short_at : (must : Bool) → refusal_at must n tables t ≡ 1
    unfolding refusal_at
    short_at must = rw (lt-leb area_bytes n few)

    short_add : (id ours k : ℕ) → add_number n tables t id ours k ≡ 1
    unfolding add_number
    short_add id ours k = rw (lt-leb area_bytes n few)

    short_info : add_info_number n tables t ≡ 1
    unfolding add_info_number
    short_info = rw (lt-leb area_bytes n few)

-- ---- no area is lent
wider : {places more : ℕ} {tables : List ℕ} {c : AnchorsCache} → places ≤ more → Parts places tables c → Parts more tables c
wider m p = record { tall = p.tall; anchors_within = p.anchors_within; history_within = p.history_within; sound = p.sound; few = p.few; in_area = omega (arith, m, p.in_area); pend = p.pend }

places_fit : (n : ℕ) → n ≤ longest_slice → places_in n ≤ any_places
places_fit n m = omega arith

-- each question's number is that of question 5
info_seen : (n : ℕ) (o : Option Info) → (info_answer n o).number ≡ n
unfolding info_answer shown_info
info_seen zero o = refl
info_seen (suc n) o = refl

id_seen : (n : ℕ) (o : Option Info) → (id_answer n o).number ≡ n
unfolding id_answer
id_seen zero o = refl
id_seen (suc n) o = refl

get_seen : (n i base : ℕ) (l : List Row) → (get_answer n i base l).number ≡ n
unfolding get_answer shown_anchor
get_seen zero i base l = refl
get_seen (suc n) i base l = refl

number_seen : (tables : List ℕ) (t : AnchorsCacheTransaction) (q : Question) → number_of q tables t ≡ refusal_seen tables t
unfolding last_info_call info_at_ct_call last_id_call get_call pending_call pending_in_range_call flag_answer
number_seen tables t last_info = info_seen _ _
number_seen tables t (info_at ct) = info_seen _ _
number_seen tables t last_id = id_seen _ _
number_seen tables t (get_at i) = get_seen _ _ _ _
number_seen tables t is_pending = refl
number_seen tables t (is_pending_up_to up_to) = refl

-- ---- the area of the run
-- questions 6 to 8 with the transaction open never give 0
add_never : {A : Type 0} (id ours k : ℕ) (v : Cache) (x y : A) → on_zero (book_add id ours k v 9) x y ≡ y
unfolding book_add
add_never id ours k v x y = go (right_size ours k) (above_last id (last_of (map row_of v.anchors))) (room (length v.anchors) (total (map row_of v.anchors)) (length v.history) ours (k / 33))
  where
    go : (a b c : Bool) → on_zero (ask 6 a (ask 7 b (ask 8 c 9))) x y ≡ y
    go false b c = refl
    go true false c = refl
    go true true false = refl
    go true true true = refl

info_never : {A : Type 0} (v : Cache) (x y : A) → on_zero (book_add_info v 9) x y ≡ y
unfolding book_add_info
info_never v x y = go (ltb (length v.history) max_history)
  where
    go : (a : Bool) → on_zero (ask 8 a 9) x y ≡ y
    go false = refl
    go true = refl

module _ (tables area : List ℕ) (big : area_bytes ≤ length area) (t : AnchorsCacheTransaction) (b : Book) (s : Stands tables area t b) where
  accepted : refusal (length area) tables t ≡ 0
  unfolding refusal
  accepted = rw (le-leb area_bytes (length area) big, valid_of (places_in (length area)) tables t s.now_ok (λ h. s.then_ok))

  accepted_at : (must : Bool) → refusal_at must (length area) tables t ≡ ask 9 must 0
  accepted_at must = at_asked (length area) tables t must accepted ∙ (ap (λ (x : Bool). ask 9 (same_bool must x) 0) s.is_open ∙ go must)
    where
      go : (m : Bool) → ask 9 (same_bool m true) 0 ≡ ask 9 m 0
      go true = refl
      go false = refl

  book_accepts : (rest : ℕ) → book_refusal (length area) b rest ≡ rest
  unfolding book_refusal
  book_accepts rest =
      let p : holds b.present ≡ true = ap holds (sym s.present) ∙ holds_view (places_in (length area)) tables area t.cache s.now_ok in
      let q : holds b.opening ≡ true = ap holds (sym s.opening) ∙ holds_view (places_in (length area)) tables area t.undo s.then_ok in
      rw (le-leb area_bytes (length area) big, p, q)

  book_sees : (rest : ℕ) → asked_of_caches b.present b.opening rest ≡ rest
  unfolding book_refusal
  book_sees rest = ap (λ (x : Bool). ask 1 x (asked_of_caches b.present b.opening rest)) (sym (le-leb area_bytes (length area) big)) ∙ book_accepts rest

  seen_accepted : places_in (length area) ≤ any_places → refusal_seen tables t ≡ 0
  unfolding refusal_seen
  seen_accepted few = rw (valid_of any_places tables t (wider few s.now_ok) (λ h. wider few s.then_ok))

  rows_same : map row_of b.present.anchors ≡ anchors_of tables t.cache
  unfolding view
  rows_same = ap (λ (v : Cache). map row_of v.anchors) (sym s.present) ∙ rows_of_messages (drop (33 * t.cache.base) area) (anchors_of tables t.cache)

  len_same : length b.present.anchors ≡ t.cache.len
  unfolding view
  len_same = ap (λ (v : Cache). length v.anchors) (sym s.present) ∙ (length_messages (drop (33 * t.cache.base) area) (anchors_of tables t.cache) ∙ anchors_length t.cache.first t.cache.len tables)

  history_same : length b.present.history ≡ t.cache.history_len
  unfolding view
  history_same = ap (λ (v : Cache). length v.history) (sym s.present) ∙ infos_length t.cache.history_first t.cache.history_len tables

  add_number_lem : (id ours k : ℕ) → add_number (length area) tables t id ours k ≡ book_add id ours k b.present 9
  unfolding book_add
  add_number_lem id ours k = add_asked (length area) tables t id ours k accepted ∙ (ap (λ (x : Bool). tail (not x)) s.is_open ∙ rw (rows_same, len_same, history_same))
    where
      tail : Bool → ℕ
      tail x = ask 6 (right_size ours k) (ask 7 (above_last id (last_of (anchors_of tables t.cache))) (ask 8 (room t.cache.len (used_by tables t.cache) t.cache.history_len ours (k / 33)) (ask 9 x 0)))

  info_number : add_info_number (length area) tables t ≡ book_add_info b.present 9
  unfolding book_add_info
  info_number = info_asked (length area) tables t accepted ∙ (ap (λ (x : Bool). ask 8 (ltb t.cache.history_len max_history) (ask 9 (not x) 0)) s.is_open ∙ rw history_same)

pub on_self : {A : Type 0} (k : ℕ) (x : A) → on_zero k x x ≡ x
on_self zero x = refl
on_self (suc k) x = refl

-- ---- one call
-- on the window and on the book the same number, and what is left still stands for the book
abbrev pub Follows : List ℕ → List ℕ → Call → Type 0
Follows tables area k = (t : AnchorsCacheTransaction) (b : Book) → Stands tables area t b
    → ((k.on_window tables area t).number ≡ k.number area b) × Stands tables area (k.on_window tables area t).state (enter area k b)

-- 1 on both sides, where question 1 refuses the area
abbrev pub Refuses : Call → Type 0
Refuses k = (tables bytes : List ℕ) → length bytes < area_bytes → (t : AnchorsCacheTransaction) (b : Book) → (k.on_window tables bytes t ≡ record { number = 1; state = t }) × (k.number bytes b ≡ 1)

-- what a call owes the book
pub record Simulates (k : Call) : Type 0 where
  pub follows : (tables area : List ℕ) → area_bytes ≤ length area → Follows tables area k
  pub refuses : Refuses k

-- a call that is lent an area which question 1 refuses follows, whatever it does on others: so a close may stand in the
-- list
pub short_follows : (k : Call) → Refuses k → (bytes : List ℕ) (p : length bytes < area_bytes) (tables area : List ℕ) → Follows tables area (lend (short bytes p) k)
unfolding enter
short_follows k r bytes p tables area t b s = let q = r tables bytes p t b in rw (q.0, q.1) (refl, s)

pub lent_follows : (k : Call) → Simulates k → (a : Area) (tables area : List ℕ) → area_bytes ≤ length area → Follows tables area (lend a k)
lent_follows k m same tables area big = m.follows tables area big
lent_follows k m (short bytes p) tables area big = short_follows k m.refuses bytes p tables area

-- ---- the calls of the cache
module _ (tables area : List ℕ) (big : area_bytes ≤ length area) (t : AnchorsCacheTransaction) (b : Book) (s : Stands tables area t b) where
  abbrev places : ℕ
  places = places_in (length area)

  abbrev Next : Call → Type 0
  Next k = ((k.on_window tables area t).number ≡ k.number area b) × Stands tables area (k.on_window tables area t).state (enter area k b)

  stands_by : (k : ℕ) (u : AnchorsCacheTransaction) (c : Book) → Stands tables area u c → Stands tables area (on_zero k u t) (on_zero k c b)
  stands_by zero u c p = p
  stands_by (suc k) u c p = s

  pop_next : Next popping
  unfolding enter pop_call pop_answer pop_times
  pop_next =
      rw (accepted tables area big t b s, book_accepts tables area big t b s 0) (
        refl,
        record {
          is_open = s.is_open;
          now_ok = popped_parts places tables t.cache s.now_ok;
          then_ok = s.then_ok;
          present = view_popped tables area t.cache ∙ ap pop_front s.present;
          opening = s.opening;
          mark = s.mark;
        },
      )

  pops_next : (n : ℕ) → Next (popping_many n)
  unfolding enter pops_call answer
  pops_next n =
      rw (accepted tables area big t b s, book_accepts tables area big t b s 0) (
        refl,
        record {
          is_open = s.is_open;
          now_ok = times_parts places tables n t.cache s.now_ok;
          then_ok = s.then_ok;
          present = view_popped_times n tables area t.cache ∙ ap (pop_times n) s.present;
          opening = s.opening;
          mark = s.mark;
        },
      )

  trim_next : (ct : ℕ) → Next (trimming ct)
  unfolding enter trim_call trim_answer
  trim_next ct =
      rw (accepted tables area big t b s, book_accepts tables area big t b s 0) (
        refl,
        record {
          is_open = s.is_open;
          now_ok = trimmed_parts places tables ct t.cache s.now_ok;
          then_ok = s.then_ok;
          present = view_trimmed tables area ct t.cache ∙ ap (trim ct) s.present;
          opening = s.opening;
          mark = s.mark;
        },
      )

  -- a read enters as the pops that the rules make
  reading_next : (r : Reading) → Next (reading r.number r.pops r.on_window)
  unfolding enter answer
  reading_next r =
      let e = r.agrees tables area t s.is_open big (whole places tables t.cache s.now_ok) (whole places tables t.undo s.then_ok) in
      let n : r.number area (view tables area t.cache) (view tables area t.undo) ≡ r.number area b.present b.opening = rw (s.present, s.opening) in
      let m : r.pops area (view tables area t.cache) ≡ r.pops area b.present = ap (r.pops area) s.present in
      let k = r.pops area b.present in
      rw (e, n, m) (
        refl,
        stands_by (r.number area b.present b.opening) (with_cache t (popped_times k tables t.cache)) (record { opening = b.opening; present = pop_times k b.present; mark = b.mark })
            (record {
              is_open = s.is_open;
              now_ok = times_parts places tables k t.cache s.now_ok;
              then_ok = s.then_ok;
              present = view_popped_times k tables area t.cache ∙ ap (pop_times k) s.present;
              opening = s.opening;
              mark = s.mark;
            }),
      )

  commit_next : Next committing
  unfolding enter commit_call answer
  commit_next =
      rw (accepted_at tables area big t b s true, book_accepts tables area big t b s 0)
      (refl, record { is_open = s.is_open; now_ok = s.now_ok; then_ok = s.then_ok; present = s.present; opening = s.opening; mark = refl })

  rollback_next : Next rolling_back
  unfolding enter rollback_call answer
  rollback_next =
      rw (accepted_at tables area big t b s true, book_accepts tables area big t b s 0)
      (refl, record { is_open = s.is_open; now_ok = s.then_ok; then_ok = s.then_ok; present = s.opening; opening = s.opening; mark = s.mark })

  add_next : (m : MempoolAnchor) (ours : ℕ) (messages : List ℕ) → Next (adding m ours messages)
  unfolding enter add_call answer
  add_next m ours messages =
      let k = length messages in
      let x = book_add m.id ours k b.present 9 in
      rw (add_number_lem tables area big t b s m.id ours k, book_accepts tables area big t b s x) (refl, rw (add_never m.id ours k b.present _ t, on_self x b) s)

  info_next : Next adding_info
  unfolding enter add_info_call answer
  info_next =
      let x = book_add_info b.present 9 in
      rw (info_number tables area big t b s, book_accepts tables area big t b s x) (refl, rw (info_never b.present _ t, on_self x b) s)

  open_next : Next opening
  unfolding enter open_call answer
  open_next = rw (accepted_at tables area big t b s false, book_accepts tables area big t b s 9) (refl, s)

  clear_next : Next clearing
  unfolding enter clear_call answer
  clear_next = rw (accepted_at tables area big t b s false, book_accepts tables area big t b s 9) (refl, s)

  ask_next : length area ≤ longest_slice → (q : Question) → Next (asking q)
  unfolding enter
  ask_next lendable q =
      let seen = seen_accepted tables area big t b s (places_fit (length area) lendable) in
      let n = asked_of_caches b.present b.opening 0 in
      (number_seen tables t q ∙ (seen ∙ sym (book_sees tables area big t b s 0)), subst (Stands tables area t) (sym (on_self n b)) s)

module _ (tables bytes : List ℕ) (few : length bytes < area_bytes) (t : AnchorsCacheTransaction) where
  abbrev One : Call → Type 0
  One k = k.on_window tables bytes t ≡ record { number = 1; state = t }

  pop_1 : One popping
  unfolding pop_call pop_answer
  pop_1 = rw (short_refusal (length bytes) few tables t)

  pops_1 : (n : ℕ) → One (popping_many n)
  unfolding pops_call answer
  pops_1 n = rw (short_refusal (length bytes) few tables t)

  trim_1 : (ct : ℕ) → One (trimming ct)
  unfolding trim_call trim_answer
  trim_1 ct = rw (short_refusal (length bytes) few tables t)

  commit_1 : One committing
  unfolding commit_call answer
  commit_1 = rw (short_at (length bytes) few tables t true)

  rollback_1 : One rolling_back
  unfolding rollback_call answer
  rollback_1 = rw (short_at (length bytes) few tables t true)

  close_1 : One closing
  unfolding close_call answer
  close_1 = rw (short_at (length bytes) few tables t true)

  open_1 : One opening
  unfolding open_call answer
  open_1 = rw (short_at (length bytes) few tables t false)

  clear_1 : One clearing
  unfolding clear_call answer
  clear_1 = rw (short_at (length bytes) few tables t false)

  add_1 : (m : MempoolAnchor) (ours : ℕ) (messages : List ℕ) → One (adding m ours messages)
  unfolding add_call answer
  add_1 m ours messages = rw (short_add (length bytes) few tables t m.id ours (length messages))

  info_1 : One adding_info
  unfolding add_info_call answer
  info_1 = rw (short_info (length bytes) few tables t)

pub pop_simulates : Simulates popping
pop_simulates = record { follows = pop_next; refuses = λ tables bytes few t b. (pop_1 tables bytes few t, short_book (length bytes) few b 0) }

pub pops_simulates : (n : ℕ) → Simulates (popping_many n)
pops_simulates n = record { follows = λ tables area big t b s. pops_next tables area big t b s n; refuses = λ tables bytes few t b. (pops_1 tables bytes few t n, short_book (length bytes) few b 0) }

pub trim_simulates : (ct : ℕ) → Simulates (trimming ct)
trim_simulates ct = record { follows = λ tables area big t b s. trim_next tables area big t b s ct; refuses = λ tables bytes few t b. (trim_1 tables bytes few t ct, short_book (length bytes) few b 0) }

pub reading_simulates : (r : Reading) → Simulates (reading r.number r.pops r.on_window)
reading_simulates r = record { follows = λ tables area big t b s. reading_next tables area big t b s r; refuses = λ tables bytes few t b. r.refused tables bytes t b.present b.opening few }

pub commit_simulates : Simulates committing
commit_simulates = record { follows = commit_next; refuses = λ tables bytes few t b. (commit_1 tables bytes few t, short_book (length bytes) few b 0) }

pub rollback_simulates : Simulates rolling_back
rollback_simulates = record { follows = rollback_next; refuses = λ tables bytes few t b. (rollback_1 tables bytes few t, short_book (length bytes) few b 0) }

pub add_simulates : (m : MempoolAnchor) (ours : ℕ) (messages : List ℕ) → Simulates (adding m ours messages)
add_simulates m ours messages =
    record {
      follows = λ tables area big t b s. add_next tables area big t b s m ours messages;
      refuses = λ tables bytes few t b. (add_1 tables bytes few t m ours messages, short_book (length bytes) few b (book_add m.id ours (length messages) b.present 9));
    }

pub info_simulates : Simulates adding_info
info_simulates = record { follows = info_next; refuses = λ tables bytes few t b. (info_1 tables bytes few t, short_book (length bytes) few b (book_add_info b.present 9)) }

pub open_simulates : Simulates opening
open_simulates = record { follows = open_next; refuses = λ tables bytes few t b. (open_1 tables bytes few t, short_book (length bytes) few b 9) }

pub clear_simulates : Simulates clearing
clear_simulates = record { follows = clear_next; refuses = λ tables bytes few t b. (clear_1 tables bytes few t, short_book (length bytes) few b 9) }

pub ask_follows : (q : Question) (tables area : List ℕ) → area_bytes ≤ length area → length area ≤ longest_slice → Follows tables area (asking q)
ask_follows q tables area big lendable t b s = ask_next tables area big t b s lendable q

pub close_refuses : Refuses closing
close_refuses tables bytes few t b = (close_1 tables bytes few t, short_book (length bytes) few b 0)

-- ---- lists of calls
module _ (tables area : List ℕ) (big : area_bytes ≤ length area) where
  pub list_follows : {K : Type 0} (call : K → Call) → ((k : K) → Follows tables area (call k)) → (ks : List K) (t : AnchorsCacheTransaction) (b : Book) → Stands tables area t b
      → (numbers tables area (map call ks) t ≡ book_numbers area (map call ks) b) × Stands tables area (performed tables area (map call ks) t) (entered area (map call ks) b)
  unfolding numbers book_numbers performed entered
  list_follows call each [] t b s = (refl, s)
  list_follows call each (k ∷ ks) t b s =
      let p = each k t b s in
      let q = list_follows call each ks ((call k).on_window tables area t).state (enter area (call k) b) p.1 in
      (rw p.0 (ap (λ (l : List ℕ). (call k).number area b ∷ l) q.0), q.1)

  closed : (u : AnchorsCacheTransaction) (b : Book) → Stands tables area u b → ((close_call (length area) tables u).number ≡ 0) × (view tables area (close_call (length area) tables u).state.cache ≡ finish b)
  unfolding close_call answer
  closed u b s = rw (accepted_at tables area big u b s true) (refl, fin u.committed ∙ ap (λ (m : Bool). pick m b.present b.opening) s.mark)
    where
      fin : (m : Bool) → view tables area (pick m u.cache u.undo) ≡ pick m b.present b.opening
      fin true = s.present
      fin false = s.opening

opened : (tables area : List ℕ) (t : AnchorsCacheTransaction) → refusal (length area) tables t ≡ 0 → refusal_at false (length area) tables t ≡ 0
    → Stands tables area (open_call (length area) tables t).state (begin (view tables area t.cache))
unfolding open_call answer
opened tables area t z e =
    let p = valid_parts (places_in (length area)) tables t (refusal_zero (length area) tables t z).1 in
    rw e (record { is_open = refl; now_ok = p; then_ok = p; present = refl; opening = refl; mark = refl })

-- an open that answers 0 was refused by none of questions 1 and 5
pub open_asked : (n : ℕ) (tables : List ℕ) (t : AnchorsCacheTransaction) → refusal_at false n tables t ≡ 0 → refusal n tables t ≡ 0
open_asked n tables t e = first_asked _ _ (at_refused n tables t false) e

-- Any cache and area for which the questions give open the number 0, any list of calls that follow the book, then a
-- close with the area of the run:
-- each number is the book's, the close answers 0, and the cache is the book's.
pub the_book : {K : Type 0} (call : K → Call) (tables area : List ℕ) → (area_bytes ≤ length area → (k : K) → Follows tables area (call k))
    → (t : AnchorsCacheTransaction) (ks : List K) → (open_call (length area) tables t).number ≡ 0
    → let u = (open_call (length area) tables t).state in
    let d = close_call (length area) tables (performed tables area (map call ks) u) in
    let b = begin (view tables area t.cache) in
    (numbers tables area (map call ks) u ≡ book_numbers area (map call ks) b) × (d.number ≡ 0) × (view tables area d.state.cache ≡ finish (entered area (map call ks) b))
unfolding open_call answer
the_book call tables area each t ks e =
    let z = open_asked (length area) tables t e in
    let big = (refusal_zero (length area) tables t z).0 in
    let b = begin (view tables area t.cache) in
    let p = list_follows tables area big call (each big) ks (open_call (length area) tables t).state b (opened tables area t z e) in
    let q = closed tables area big (performed tables area (map call ks) (open_call (length area) tables t).state) (entered area (map call ks) b) p.1 in
    (p.0, q.0, q.1)

-- what an open that answers 0 leaves stands for the book as it begins
pub opened_stands : (tables area : List ℕ) (t : AnchorsCacheTransaction) → (open_call (length area) tables t).number ≡ 0
    → (area_bytes ≤ length area) × Stands tables area (open_call (length area) tables t).state (begin (view tables area t.cache))
unfolding open_call answer
opened_stands tables area t e =
    let z = open_asked (length area) tables t e in
    ((refusal_zero (length area) tables t z).0, opened tables area t z e)

-- The tables are one list for the whole run: an add in it, of an anchor or of an entry, is refused, and its contract
-- writes tables and area only on number 0.
pub an_add_in_the_list_writes_nothing : {A : Type 0} (tables area : List ℕ) → area_bytes ≤ length area → (t : AnchorsCacheTransaction) (b : Book) → Stands tables area t b
    → (id ours k : ℕ) (x y : A) → on_zero (add_number (length area) tables t id ours k) x y ≡ y
an_add_in_the_list_writes_nothing tables area big t b s id ours k x y =
    ap (λ (n : ℕ). on_zero n x y) (add_number_lem tables area big t b s id ours k) ∙ add_never id ours k b.present x y

pub an_entry_in_the_list_writes_nothing : {A : Type 0} (tables area : List ℕ) → area_bytes ≤ length area → (t : AnchorsCacheTransaction) (b : Book) → Stands tables area t b
    → (x y : A) → on_zero (add_info_number (length area) tables t) x y ≡ y
an_entry_in_the_list_writes_nothing tables area big t b s x y = ap (λ (n : ℕ). on_zero n x y) (info_number tables area big t b s) ∙ info_never b.present x y
