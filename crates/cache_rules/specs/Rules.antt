-- Document 01's cache and its rules, on lists. Nothing here knows of tables, windows or places.
use Rattle.std.specs.Prelude.{ℕ, ◌+◌, ◌*◌, ◌/◌, Bool, true, false, ◌&&◌, ◌||◌, List, [], ◌∷◌, ◌++◌, ltb, leb, length}
use Rattle.std.proofs.Math.Option.{Option, none, some}
use Rattle.rows.specs.Rows.{pick}

-- the caps of document 01
abbrev pub max_anchors : ℕ
max_anchors = 32

abbrev pub max_anchor_messages : ℕ
max_anchor_messages = 512

abbrev pub max_messages : ℕ
max_messages = 1024

abbrev pub max_history : ℕ
max_history = 256

-- question 1: the message area has 33 bytes a message
abbrev pub area_bytes : ℕ
area_bytes = 33 * max_messages

-- an author's bytes
abbrev pub author_bytes : ℕ
author_bytes = 32

-- an entry of the imported history
pub record Info : Type 0 where
  pub id : ℕ
  pub time : ℕ
  pub all : ℕ
  pub ours : ℕ
  pub author : List ℕ

-- a cached anchor with its messages, 33 bytes each
pub record Anchor : Type 0 where
  pub id : ℕ
  pub time : ℕ
  pub author : List ℕ
  pub ours : ℕ
  pub messages : List (List ℕ)

pub record Cache : Type 0 where
  pub anchors : List Anchor
  pub history : List Info
  pub pending : Bool

abbrev pub nonempty : {A : Type 0} → List A → Bool
nonempty [] = false
nonempty (x ∷ l) = true

-- ---- add
-- `AnchorInfo::from_anchor`
abbrev pub from_anchor : Anchor → Info
from_anchor a = record { id = a.id; time = a.time; all = length a.messages; ours = a.ours; author = a.author }

-- to the history always, to the cache only where ours is above 0; then pending is set
unfoldable pub add_anchor : Anchor → Cache → Cache
add_anchor a v =
    record {
      anchors = pick (ltb 0 a.ours) (v.anchors ++ (a ∷ [])) v.anchors;
      history = v.history ++ (from_anchor a ∷ []);
      pending = pick (ltb 0 a.ours) true v.pending;
    }

-- `add_imported_anchor_info`: to the history alone
unfoldable pub add_info : Info → Cache → Cache
add_info i v = record { anchors = v.anchors; history = v.history ++ (i ∷ []); pending = v.pending }

-- ---- pop
-- history entries go from the front while their chain time is below ct and more than one remains
unfoldable pub drop_stale : ℕ → List Info → List Info
drop_stale ct [] = []
drop_stale ct (x ∷ []) = x ∷ []
drop_stale ct (x ∷ y ∷ l) = pick (ltb x.time ct) (drop_stale ct (y ∷ l)) (x ∷ y ∷ l)

abbrev pub pop_from : List Anchor → Cache → Cache
pop_from [] v = v
pop_from (a ∷ l) v = record { anchors = l; history = drop_stale a.time v.history; pending = nonempty l }

-- on an empty cache nothing; else the front goes, then stale history, and pending says whether the cache is nonempty
unfoldable pub pop_front : Cache → Cache
pop_front v = pop_from v.anchors v

-- ---- trim
abbrev pub info_time : Info → ℕ
info_time x = x.time

abbrev pub anchor_time : Anchor → ℕ
anchor_time x = x.time

abbrev pub keep_front : {A : Type 0} → (A → ℕ) → ℕ → A → List A → List A
keep_front time ct x [] = pick (ltb ct (time x)) [] (x ∷ [])
keep_front time ct x (y ∷ l) = x ∷ y ∷ l

-- from the back, elements go while their chain time is above ct
unfoldable pub trim_back : {A : Type 0} → (A → ℕ) → ℕ → List A → List A
trim_back time ct [] = []
trim_back time ct (x ∷ l) = keep_front time ct x (trim_back time ct l)

-- history likewise, never the last entry
unfoldable pub trim_history : ℕ → List Info → List Info
trim_history ct [] = []
trim_history ct (x ∷ l) = x ∷ trim_back info_time ct l

-- pending changes only if a cached anchor went
abbrev pub trim_to : ℕ → List Anchor → Cache → Cache
trim_to ct l v = record { anchors = l; history = trim_history ct v.history; pending = pick (ltb (length l) (length v.anchors)) (nonempty l) v.pending }

unfoldable pub trim : ℕ → Cache → Cache
trim ct v = trim_to ct (trim_back anchor_time ct v.anchors) v

-- ---- clear
abbrev pub empty_cache : Cache
empty_cache = record { anchors = []; history = []; pending = false }

-- ---- answers
unfoldable pub last_of : {A : Type 0} → List A → Option A
last_of [] = none
last_of (x ∷ []) = some x
last_of (x ∷ y ∷ l) = last_of (y ∷ l)

abbrev pub front_of : {A : Type 0} → List A → Option A
front_of [] = none
front_of (x ∷ l) = some x

abbrev pub or_else : {A : Type 0} → Option A → Option A → Option A
or_else none o = o
or_else (some x) o = some x

-- from the back, the first entry not above ct
unfoldable pub last_not_above : ℕ → List Info → Option Info
last_not_above ct [] = none
last_not_above ct (x ∷ l) = or_else (last_not_above ct l) (pick (leb x.time ct) (some x) none)

-- `last_imported_anchor_info_at_ct`: failing that, the front; in an empty history, none
unfoldable pub info_at_ct : ℕ → List Info → Option Info
info_at_ct ct l = or_else (last_not_above ct l) (front_of l)

-- ---- the questions' lists: what question 5 asks of an anchor, without its messages' bytes
pub record Row : Type 0 where
  pub id : ℕ
  pub time : ℕ
  pub author : List ℕ
  pub ours : ℕ
  pub count : ℕ

abbrev pub row_of : Anchor → Row
row_of a = record { id = a.id; time = a.time; author = a.author; ours = a.ours; count = length a.messages }

-- the anchor of a row with its messages
abbrev pub with_row : Row → List (List ℕ) → Anchor
with_row r messages = record { id = r.id; time = r.time; author = r.author; ours = r.ours; messages = messages }

-- ids from low on, ours above 0 and at most the message count, at most 512 messages
unfoldable pub sound_row : ℕ → Row → Bool
sound_row low a = leb low a.id && (ltb 0 a.ours && (leb a.ours a.count && leb a.count max_anchor_messages))

-- rising ids: each is above the one before
unfoldable pub sound_from : ℕ → List Row → Bool
sound_from low [] = true
sound_from low (a ∷ l) = sound_row low a && sound_from (a.id + 1) l

unfoldable pub total : List Row → ℕ
total [] = 0
total (a ∷ l) = a.count + total l

abbrev pub same_bool : Bool → Bool → Bool
same_bool true b = b
same_bool false true = false
same_bool false false = true

-- question 5 of a cache: within the caps, rising ids, ours, pending set exactly if it is nonempty
unfoldable pub sound_cache : List Row → ℕ → Bool → Bool
sound_cache l history pending =
    leb (length l) max_anchors && (leb history max_history && (sound_from 0 l && (leb (total l) max_messages && same_bool pending (nonempty l))))

-- `check_has_pending_externals_in_range`: some cached anchor with id at most the key's id and ours above 0
unfoldable pub pending_up_to : ℕ → List Row → Bool
pending_up_to id [] = false
pending_up_to id (a ∷ l) = (leb a.id id && ltb 0 a.ours) || pending_up_to id l

-- question 6, of k bytes of messages: whole messages, at most 512, ours at most their count
unfoldable pub right_size : ℕ → ℕ → Bool
right_size ours k = leb k (33 * max_anchor_messages) && (leb k (33 * (k / 33)) && leb ours (k / 33))

-- question 7: the id is above that of the last cached anchor, if any
abbrev pub above_last : ℕ → Option Row → Bool
above_last id none = true
above_last id (some a) = ltb a.id id

-- question 8: history below 256 entries; where ours is above 0 the cache below 32 anchors and, with the new ones, at
-- most 1,024 messages
unfoldable pub room : ℕ → ℕ → ℕ → ℕ → ℕ → Bool
room anchors messages history ours count = ltb history max_history && pick (ltb 0 ours) (ltb anchors max_anchors && leb (messages + count) max_messages) true

-- questions asked in order: the first "no" gives the number, and 0 means done
abbrev pub ask : ℕ → Bool → ℕ → ℕ
ask number holds rest = pick holds rest number
