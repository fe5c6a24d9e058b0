-- What the calls answer, from what their parts answer.
use Prim.Native.Nat.{ℕ, zero, suc, ◌+◌}
use mathlib.Core.Path.{◌≡◌, refl, ap}
use mathlib.Core.List.{List}
use mathlib.Core.Option.{Option as Maybe, none, some}
use native.Mathlib.Omega.{arith}
use Rattle.std.specs.Prelude.{Option, Some, None, IsSomeAnd}
use Rattle.std.specs.Option.{MatchOption}
use Rattle.ext_types.specs.declared.ChainTime.{ChainTime}
use Rattle.anchors_cache.specs.declared.Authored.{Authored}
use Rattle.anchors_cache.specs.declared.AnchorInfo.{AnchorInfo}
use Rattle.anchors_cache.specs.Answers.{InfoAnswer, IdAnswer, value_of}
use Rattle.cache_rules.specs.Rules.{Info, Row, total}
use Rattle.anchors_cache.specs.Calls.{shown_anchor, anchor_found, anchor_author, info_answer, id_answer, shown_info}

-- the anchor at index 0 is the front, and its messages stand at the base
pub front_shown : (base : ℕ) (l : List Row) → ((shown_anchor 0 base l).anchor ≡ anchor_found base l) × ((shown_anchor 0 base l).author ≡ anchor_author l)
unfolding shown_anchor total
front_shown base l = let e : base + 0 ≡ base = omega arith in (rw e, refl)

-- id and chain time of the answered entry
abbrev pub ids : Option AnchorInfo → Option (ℕ × ChainTime)
ids None = None
ids (Some i) = Some (i.id, i.ct)

abbrev pub ids_of : InfoAnswer → IdAnswer
ids_of a = record { number = a.number; last = ids a.info }

pub ids_answered : (k : ℕ) (o : Maybe Info) → ids_of (info_answer k o) ≡ id_answer k o
unfolding info_answer id_answer shown_info
ids_answered zero none = refl
ids_answered zero (some i) = refl
ids_answered (suc k) o = refl

-- where the answered entry is mapped to them
pub ids_mapped : {Q : Authored AnchorInfo → ℕ × ChainTime → Type 0} (o : Option (Authored AnchorInfo)) (r : Option (ℕ × ChainTime)) → ((x : Authored AnchorInfo) (y : ℕ × ChainTime) → Q x y → y ≡ (x.value.id, x.value.ct)) → MatchOption o (r ≡ None) (λ x. IsSomeAnd r (Q x)) → r ≡ ids (value_of o)
ids_mapped None r k h = h
ids_mapped (Some x) None k h = absurd h
ids_mapped (Some x) (Some y) k h = ap Some (k x y h)
