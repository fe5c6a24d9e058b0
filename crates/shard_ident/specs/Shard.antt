-- The TON shard rule, by single bits, and question 2.
use Rattle.std.specs.Prelude.{ℕ, zero, suc, ◌+◌, ◌-◌, ◌*◌, ◌/◌, ◌%◌, ◌^◌, Bool, true, false, not, ◌&&◌, List, [], ◌∷◌, ltb, leb, eqb, ℤ, pos, negsuc, length, get_or, Result, Ok, Err}
use Rattle.refusals.specs.declared.Refusal.{Refusal}
use Rattle.refusals.specs.Refusals.{number_of}
use Rattle.rows.specs.Rows.{pick, part}
use Rattle.shard_ident.specs.declared.ShardIdent.{ShardIdent}

-- bit i of n, bit 0 the lowest
abbrev pub bit : ℕ → ℕ → ℕ
bit i n = n / 2 ^ i % 2

-- the lowest set one of n's k bits from bit i on; i + k where none of them is set
unfoldable pub lowest_set : ℕ → ℕ → ℕ → ℕ
lowest_set zero i n = i
lowest_set (suc k) i n = pick (eqb (bit i n) 1) i (lowest_set k (suc i) n)

-- Document 01: the prefix's "lowest set bit is the tag".
abbrev pub tag : ℕ → ℕ
tag prefix = lowest_set 64 0 prefix

-- the prefix of a whole workchain, 8000000000000000 in hexadecimal
abbrev pub prefix_full : ℕ
prefix_full = 9223372036854775808

abbrev pub equalℤ : ℤ → ℤ → Bool
equalℤ (pos a) (pos b) = eqb a b
equalℤ (pos a) (negsuc b) = false
equalℤ (negsuc a) (pos b) = false
equalℤ (negsuc a) (negsuc b) = eqb a b

-- a part of the masterchain, workchain -1; document 02, ticket 2: "TON never splits the masterchain."
abbrev pub splits_masterchain : ShardIdent → Bool
splits_masterchain s = equalℤ (negsuc 0) s.workchain && not (eqb s.prefix prefix_full)

-- Document 01, question 2: "Is the shard prefix nonzero with its lowest set bit at bit 3 or above (bit 0 lowest)?"
-- Document 02, ticket 2: "workchain -1 is accepted only with prefix 8000000000000000 in hexadecimal".
unfoldable pub is_shard : ShardIdent → Bool
is_shard s = not (eqb s.prefix 0) && (leb 3 (tag s.prefix) && not (splits_masterchain s))

abbrev pub shard_number : ShardIdent → ℕ
shard_number s = pick (is_shard s) 0 2

-- the k bits from bit i on are the same in a and b
unfoldable pub same_bits : ℕ → ℕ → ℕ → ℕ → Bool
same_bits zero i a b = true
same_bits (suc k) i a b = eqb (bit i a) (bit i b) && same_bits k (suc i) a b

-- Document 01: "the bits above the tag equal those of the account's first 64 bits".
unfoldable pub same_above_tag : ℕ → ℕ → Bool
same_above_tag prefix account = same_bits (63 - tag prefix) (tag prefix + 1) prefix account

-- a byte as the signed 8 bits of a message's workchain
abbrev pub signed_byte : ℕ → ℤ
signed_byte b = pick (ltb b 128) (pos b) (negsuc (255 - b))

unfoldable pub same_workchain : ℤ → ℕ → Bool
same_workchain workchain byte = equalℤ (signed_byte byte) workchain

-- Document 01: ours is "exactly if its workchain is equal and the bits above the tag equal those of the account's first
-- 64 bits".
abbrev pub in_shard : ShardIdent → ℕ → ℕ → Bool
in_shard s workchain account = same_workchain s.workchain workchain && same_above_tag s.prefix account

-- the number that bytes stand for, the first byte the highest
unfoldable pub big_endian : List ℕ → ℕ
big_endian [] = 0
big_endian (b ∷ l) = b * 256 ^ length l + big_endian l

-- Document 01: a message is "workchain (signed 8 bits) and 32-byte account".
unfoldable pub is_ours : ShardIdent → List ℕ → Bool
is_ours s m = leb 33 (length m) && in_shard s (get_or m 0 0) (big_endian (part 1 8 m))

-- what a membership call answers: document 01's number, and whether it is ours
pub record Answer : Type 0 where
  pub number : ℕ
  pub ours : Bool

abbrev pub answer_of : Result Bool Refusal → Answer
answer_of (Ok ours) = record { number = 0; ours = ours }
answer_of (Err r) = record { number = number_of r; ours = false }

unfoldable pub after_question : ShardIdent → Bool → Answer
after_question s ours = record { number = shard_number s; ours = is_shard s && ours }

abbrev pub contains_address : ShardIdent → ℕ → ℕ → Answer
contains_address s workchain account = after_question s (in_shard s workchain account)

abbrev pub contains_message : ShardIdent → List ℕ → Answer
contains_message s m = after_question s (is_ours s m)
