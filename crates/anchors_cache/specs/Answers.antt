-- What the calls answer, in document 01's terms: its number, the values that it names, and the transaction that is left. For
-- each kind of answer the record, and the record that a call's result stands for: a refused call leaves the transaction
-- as it was, and answers no value.
use Rattle.std.specs.Prelude.{ℕ, List, Bool, false, replicate, Result, Ok, Err, Option, Some, None}
use Rattle.refusals.specs.declared.Refusal.{Refusal}
use Rattle.refusals.specs.Refusals.{number_of}
use Rattle.ext_types.specs.declared.ChainTime.{ChainTime}
use Rattle.anchors_cache.specs.declared.AnchorsCacheTransaction.{AnchorsCacheTransaction}
use Rattle.anchors_cache.specs.declared.CachedAnchor.{CachedAnchor}
use Rattle.anchors_cache.specs.declared.AnchorInfo.{AnchorInfo}
use Rattle.anchors_cache.specs.declared.Authored.{Authored}
use Rattle.anchors_cache.specs.declared.After.{After}
use Rattle.cache_rules.specs.Rules.{author_bytes}

pub record Done : Type 0 where
  pub number : ℕ
  pub state : AnchorsCacheTransaction

pub record Popped : Type 0 where
  pub number : ℕ
  pub front : Option CachedAnchor
  pub author : List ℕ
  pub state : AnchorsCacheTransaction

pub record Trimmed : Type 0 where
  pub number : ℕ
  pub last : Option AnchorInfo
  pub author : List ℕ
  pub state : AnchorsCacheTransaction

pub record AnchorAnswer : Type 0 where
  pub number : ℕ
  pub anchor : Option CachedAnchor
  pub author : List ℕ

pub record InfoAnswer : Type 0 where
  pub number : ℕ
  pub info : Option AnchorInfo
  pub author : List ℕ

pub record IdAnswer : Type 0 where
  pub number : ℕ
  pub last : Option (ℕ × ChainTime)

pub record FlagAnswer : Type 0 where
  pub number : ℕ
  pub flag : Bool

-- no value has no author: its bytes are 0
abbrev pub no_author : List ℕ
no_author = replicate author_bytes 0

abbrev pub value_of : {A : Type 0} → Option (Authored A) → Option A
value_of None = None
value_of (Some a) = Some a.value

abbrev pub author_of : {A : Type 0} → Option (Authored A) → List ℕ
author_of None = no_author
author_of (Some a) = a.author

-- t is the transaction that the call was handed
abbrev pub done_of : AnchorsCacheTransaction → Result AnchorsCacheTransaction Refusal → Done
done_of t (Ok s) = record { number = 0; state = s }
done_of t (Err r) = record { number = number_of r; state = t }

abbrev pub popped_of : AnchorsCacheTransaction → Result (After (Option (Authored CachedAnchor))) Refusal → Popped
popped_of t (Ok p) = record { number = 0; front = value_of p.answer; author = author_of p.answer; state = p.state }
popped_of t (Err r) = record { number = number_of r; front = None; author = no_author; state = t }

abbrev pub trimmed_of : AnchorsCacheTransaction → Result (After (Option (Authored AnchorInfo))) Refusal → Trimmed
trimmed_of t (Ok p) = record { number = 0; last = value_of p.answer; author = author_of p.answer; state = p.state }
trimmed_of t (Err r) = record { number = number_of r; last = None; author = no_author; state = t }

abbrev pub anchor_answer_of : Result (Option (Authored CachedAnchor)) Refusal → AnchorAnswer
anchor_answer_of (Ok a) = record { number = 0; anchor = value_of a; author = author_of a }
anchor_answer_of (Err r) = record { number = number_of r; anchor = None; author = no_author }

abbrev pub info_answer_of : Result (Option (Authored AnchorInfo)) Refusal → InfoAnswer
info_answer_of (Ok a) = record { number = 0; info = value_of a; author = author_of a }
info_answer_of (Err r) = record { number = number_of r; info = None; author = no_author }

abbrev pub id_answer_of : Result (Option (ℕ × ChainTime)) Refusal → IdAnswer
id_answer_of (Ok last) = record { number = 0; last = last }
id_answer_of (Err r) = record { number = number_of r; last = None }

abbrev pub flag_answer_of : Result Bool Refusal → FlagAnswer
flag_answer_of (Ok flag) = record { number = 0; flag = flag }
flag_answer_of (Err r) = record { number = number_of r; flag = false }
