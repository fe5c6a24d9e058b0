-- What the inner functions ask of their arguments, and what they say of the lent output.
use Rattle.std.specs.Prelude.{ℕ, ◌+◌, ◌*◌, ◌≤◌, ◌<◌, ◌≡◌, Bool, true, List, [], ltb, eqb, length, drop, Result, Ok, Err}
use Rattle.std.proofs.lemmas.List.Edits.{sets}
use Rattle.rows.specs.Rows.{pick}
use Rattle.refusals.specs.declared.Refusal.{Refusal}
use Rattle.refusals.specs.Refusals.{number_of}
use Rattle.range_rules.specs.Bounds.{Few}
use Rattle.shard_ident.specs.Shard.{is_shard}
use Rattle.router.specs.Router.{routes_number}
use Rattle.anchors_cache.specs.declared.AnchorsCache.{AnchorsCache}
use Rattle.anchors_cache.specs.declared.CachedAnchor.{CachedAnchor}
use Rattle.cache_rules.specs.Rules.{total, max_anchors, max_messages}
use Rattle.anchors_cache.specs.Tables.{anchors, anchors_of, with_messages, tables_bytes}
use Rattle.range_rules.specs.declared.Context.{Context}
use Rattle.range_rules.specs.Walks.{Walk, RangeRead}
use Rattle.range_rules.specs.Rules.{Outcome, anchors_read}
use Rattle.range_reader.specs.declared.Walk.{Walk as CodeWalk}
use Rattle.range_reader.specs.declared.RangeRead.{RangeRead as CodeRead}

-- questions 2 and 3 were answered "yes", and the room is the output's length
pub record Ready (x : Context) (routes out : List ℕ) : Type 0 where
  pub shard_sound : is_shard x.shard ≡ true
  pub routes_sound : routes_number routes ≡ 0
  pub room : length out ≡ x.room

-- the answer, and its entries in the output where the run writes
pub record Wrote {A : Type 0} (write : Bool) (used : ℕ) (before after : List ℕ) (answer : A) (s : Outcome A) : Type 0 where
  pub value : answer ≡ s.value
  pub out : after ≡ pick write (sets before used s.entries) before

-- ---- the code has a walk and a read only where no question refused them: the rules' are those with number 0
abbrev pub walk_told : CodeWalk → Walk
walk_told w = record { number = 0; place = w.place; buffers = w.buffers; counts = w.counts }

abbrev pub range_told : CodeRead → RangeRead
range_told r = record { walk = walk_told r.walk; pops = r.pops; fully_read = r.fully_read; ended = r.ended; last = r.last }

-- what a call that changes `a` in place leaves: `a`, or its refusal
abbrev pub left_by : {A : Type 0} → Result Unit Refusal → A → Result A Refusal
left_by (Ok u) a = Ok a
left_by (Err r) a = Err r

-- what a result says of the rules' walk: all of it, or the number of the question that was answered "no"
abbrev pub walk_tells : Result CodeWalk Refusal → Walk → Type 0
walk_tells (Ok w) v = walk_told w ≡ v
walk_tells (Err r) v = number_of r ≡ v.number

-- and of the rules' read
abbrev pub range_tells : Result CodeRead Refusal → RangeRead → Type 0
range_tells (Ok r) v = range_told r ≡ v
range_tells (Err e) v = number_of e ≡ v.walk.number

-- an answer that says something of the value, and the entries in the output where the run writes
pub record Tells {A : Type 0} (write : Bool) (used : ℕ) (before after : List ℕ) (says : A → Type 0) (s : Outcome A) : Type 0 where
  pub value : says s.value
  pub out : after ≡ pick write (sets before used s.entries) before

abbrev pub first_unread : ℕ → ℕ → ℕ
first_unread offset count = pick (ltb offset count) offset count

-- behind a reference nothing but this says how many partitions there are
pub record Eight (w : Walk) : Type 0 where
  pub partitions : length w.buffers.by_partitions ≡ 8
  pub read : length w.counts.read ≡ 8
  pub expired : length w.counts.expired ≡ 8
  pub buffered : length w.counts.buffered ≡ 8

-- a window that stands in its table, with at most as many messages as the cache holds
abbrev pub Windowed : List ℕ → ℕ → ℕ → Type 0
Windowed tables first len = (first + len ≤ max_anchors) × (tables_bytes ≤ length tables) × (total (anchors first len tables) ≤ max_messages)

pub record AnchorReady (x : Context) (routes area : List ℕ) (a : CachedAnchor) (r : CodeRead) (out : List ℕ) : Type 0 where
  pub fixed : Ready x routes out
  pub placed : 33 * (a.place + a.count) ≤ length area
  pub few : Few x a.count (walk_told r.walk)
  pub eight : Eight (walk_told r.walk)
  pub pops : r.pops < max_anchors

pub record RangeReady (tables area : List ℕ) (c : AnchorsCache) (routes : List ℕ) (x : Context) (r : CodeRead) (out : List ℕ) : Type 0 where
  pub fixed : Ready x routes out
  pub tall : tables_bytes ≤ length tables
  pub window : c.first + c.len ≤ max_anchors
  pub placed : 33 * (c.base + total (anchors_of tables c)) ≤ length area
  pub few : Few x (total (anchors_of tables c)) (walk_told r.walk)
  pub eight : Eight (walk_told r.walk)
  pub pops : r.pops ≡ 0
  pub used : r.walk.buffers.used ≡ 0

-- the six steps over the anchors that a window stands for
abbrev pub whole_window_read : Context → List ℕ → List ℕ → List ℕ → AnchorsCache → CodeRead → Outcome RangeRead
whole_window_read x routes tables area c begin = anchors_read x routes (with_messages (drop (33 * c.base) area) (anchors_of tables c)) (record { value = range_told begin; entries = [] })

-- a refused read leaves the output as it is, and so does one that does not write
unfoldable pub read_or_refused : Bool → List ℕ → ℕ → Outcome RangeRead → Outcome RangeRead
read_or_refused write out used s = record { value = s.value; entries = pick (eqb s.value.walk.number 0) (pick write (sets out used s.entries) out) out }
