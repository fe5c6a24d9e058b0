-- Document 01's book: a transaction as an opening and a present cache and a mark, fed the calls and what each is handed
-- beside cache and transaction.
use Rattle.std.specs.Prelude.{ℕ, zero, suc, ◌/◌, ◌≤◌, ◌<◌, ◌≡◌, Bool, true, false, ◌&&◌, ◌||◌, List, [], ◌∷◌, ◌++◌, map, ltb, leb, length}
use Rattle.rows.specs.Rows.{pick}
use Rattle.anchors_cache.specs.declared.AnchorsCacheTransaction.{AnchorsCacheTransaction}
use Rattle.anchors_cache.specs.Answers.{Done}
use Rattle.cache_rules.specs.Rules.{Cache, row_of, pop_front, trim, sound_cache, total, last_of, right_size, above_last, room, ask, max_history, area_bytes}
use Rattle.anchors_cache.specs.Tables.{view}
use Rattle.anchors_cache.specs.Windows.{popped_times}
use Rattle.anchors_cache.specs.Calls.{places_in, valid_cache, on_zero, answer, with_cache}

-- document 01's book: "an opening and a present cache", and its mark, which `commit` sets and nothing unsets
pub record Book : Type 0 where
  pub opening : Cache
  pub present : Cache
  pub mark : Bool

-- at `open` both caches are the one being opened, and the mark is unset
abbrev pub begin : Cache → Book
begin v = record { opening = v; present = v; mark = false }

-- closing makes the present cache the opening one unless the mark was ever set
abbrev pub finish : Book → Cache
finish b = pick b.mark b.present b.opening

-- ---- the questions on the book's caches
-- question 5
unfoldable pub holds : Cache → Bool
holds v = sound_cache (map row_of v.anchors) (length v.history) v.pending

-- of the caches that a book holds
abbrev pub asked_of_caches : Cache → Cache → ℕ → ℕ
asked_of_caches present opening rest = ask 5 (holds present && holds opening) rest

-- questions 1 and 5; n is the length of the message area that the call is handed
unfoldable pub book_refusal : ℕ → Book → ℕ → ℕ
book_refusal n b rest = ask 1 (leb area_bytes n) (asked_of_caches b.present b.opening rest)

-- questions 6, 7 and 8 of an add of k bytes of messages
unfoldable pub book_add : ℕ → ℕ → ℕ → Cache → ℕ → ℕ
book_add id ours k v rest =
    ask 6 (right_size ours k)
    (ask 7 (above_last id (last_of (map row_of v.anchors)))
    (ask 8 (room (length v.anchors) (total (map row_of v.anchors)) (length v.history) ours (k / 33)) rest))

-- question 8 of an entry to the history alone
unfoldable pub book_add_info : Cache → ℕ → ℕ
book_add_info v rest = ask 8 (ltb (length v.history) max_history) rest

-- n pops by the rule
unfoldable pub pop_times : ℕ → Cache → Cache
pop_times zero v = v
pop_times (suc n) v = pop_times n (pop_front v)

-- ---- what a call does
-- pops and trims: what a call makes of the present cache
pub data Change : Type 0 where
  pops : ℕ → Change
  trims : ℕ → Change

abbrev pub apply : Change → Cache → Cache
apply (pops n) v = pop_times n v
apply (trims ct) v = trim ct v

unfoldable pub applied : List Change → Cache → Cache
applied [] v = v
applied (c ∷ l) v = applied l (apply c v)

-- what a call that answers 0 does to the book
pub data Effect : Type 0 where
  changes : Change → Effect
  commits : Effect
  rolls_back : Effect
  nothing : Effect

-- "Pop and trim work on the present cache, a read by the pops that the rules below make there. `commit` sets the mark
-- and ends nothing; `rollback` makes the present cache the opening one"
abbrev pub on_book : Effect → Book → Book
on_book (changes c) b = record { opening = b.opening; present = apply c b.present; mark = b.mark }
on_book commits b = record { opening = b.opening; present = b.present; mark = true }
on_book rolls_back b = record { opening = b.opening; present = b.opening; mark = b.mark }
on_book nothing b = b

-- A call with what it is handed beside cache and transaction: on the book its number, by the questions, and what it
-- does where that is 0; on the window what its contract says.
pub record Call : Type 0 where
  pub number : List ℕ → Book → ℕ
  pub effect : List ℕ → Cache → Effect
  pub on_window : List ℕ → List ℕ → AnchorsCacheTransaction → Done

-- the message area of the run, or one that question 1 refuses
pub data Area : Type 0 where
  same : Area
  short : (bytes : List ℕ) → length bytes < area_bytes → Area

abbrev pub lent : List ℕ → Area → List ℕ
lent area same = area
lent area (short bytes p) = bytes

-- a call that is lent its own area
abbrev pub lend : Area → Call → Call
lend a k = record { number = λ area b. k.number (lent area a) b; effect = λ area v. k.effect (lent area a) v; on_window = λ tables area t. k.on_window tables (lent area a) t }

-- a call that changes the cache by pops alone: its number and its pops come from the area and the book's caches
abbrev pub reading : (List ℕ → Cache → Cache → ℕ) → (List ℕ → Cache → ℕ) → (List ℕ → List ℕ → AnchorsCacheTransaction → Done) → Call
reading number count on_window = record { number = λ area b. number area b.present b.opening; effect = λ area v. changes (pops (count area v)); on_window = on_window }

-- ---- lists of calls
-- "a refused call is skipped"
unfoldable pub enter : List ℕ → Call → Book → Book
enter area k b = on_zero (k.number area b) (on_book (k.effect area b.present) b) b

unfoldable pub entered : List ℕ → List Call → Book → Book
entered area [] b = b
entered area (k ∷ ks) b = entered area ks (enter area k b)

unfoldable pub book_numbers : List ℕ → List Call → Book → List ℕ
book_numbers area [] b = []
book_numbers area (k ∷ ks) b = k.number area b ∷ book_numbers area ks (enter area k b)

-- the same calls on the window
unfoldable pub performed : List ℕ → List ℕ → List Call → AnchorsCacheTransaction → AnchorsCacheTransaction
performed tables area [] t = t
performed tables area (k ∷ ks) t = performed tables area ks (k.on_window tables area t).state

unfoldable pub numbers : List ℕ → List ℕ → List Call → AnchorsCacheTransaction → List ℕ
numbers tables area [] t = []
numbers tables area (k ∷ ks) t = (k.on_window tables area t).number ∷ numbers tables area ks (k.on_window tables area t).state

-- ---- for the two corollaries
abbrev pub is_commit : Effect → Bool
is_commit (changes c) = false
is_commit commits = true
is_commit rolls_back = false
is_commit nothing = false

-- whether a commit in the list answers 0
unfoldable pub committed_in : List ℕ → List Call → Book → Bool
committed_in area [] b = false
committed_in area (k ∷ ks) b = on_zero (k.number area b) (is_commit (k.effect area b.present)) false || committed_in area ks (enter area k b)

-- the changes that a call answering 0 adds to those done so far; a rollback starts anew
abbrev pub kept_by : Effect → List Change → List Change
kept_by (changes c) done = done ++ (c ∷ [])
kept_by commits done = done
kept_by rolls_back done = []
kept_by nothing done = done

unfoldable pub since_rollback : List ℕ → List Call → Book → List Change → List Change
since_rollback area [] b done = done
since_rollback area (k ∷ ks) b done = since_rollback area ks (enter area k b) (on_zero (k.number area b) (kept_by (k.effect area b.present) done) done)

-- What a call of the kind `reading` is proved by: `agrees` on an area that is large enough, `refused` on one that
-- question 1 refuses.
pub record Reading : Type 0 where
  pub number : List ℕ → Cache → Cache → ℕ
  pub pops : List ℕ → Cache → ℕ
  pub on_window : List ℕ → List ℕ → AnchorsCacheTransaction → Done
  pub agrees : (tables area : List ℕ) (t : AnchorsCacheTransaction)
      → t.active ≡ true → area_bytes ≤ length area → valid_cache (places_in (length area)) tables t.cache ≡ true → valid_cache (places_in (length area)) tables t.undo ≡ true
      → on_window tables area t ≡ answer (number area (view tables area t.cache) (view tables area t.undo)) t (with_cache t (popped_times (pops area (view tables area t.cache)) tables t.cache))
  pub refused : (tables area : List ℕ) (t : AnchorsCacheTransaction) (v w : Cache) → length area < area_bytes → (on_window tables area t ≡ record { number = 1; state = t }) × (number area v w ≡ 1)
