-- Records of a session (document 01, "Session program"): question 17, and the fields of a payload, little-endian.
-- Fields past its end are 0.
use Rattle.std.specs.Prelude.{ℕ, ◌+◌, ◌-◌, ◌*◌, Bool, false, not, ◌&&◌, List, [], ◌∷◌, map, ltb, leb, eqb, ℤ, pos, negsuc, length, drop, get_or, replicate, ◌≡◌, ◌≢◌, Result, MatchResult}
use Rattle.rows.specs.Rows.{pick, part, num_at}
use Rattle.shard_ident.specs.declared.ShardIdent.{ShardIdent}
use Rattle.anchors_cache.specs.declared.MempoolAnchor.{MempoolAnchor}
use Rattle.cache_rules.specs.Rules.{ask, max_anchor_messages, author_bytes}
use Rattle.reader_rules.specs.declared.MsgsExecutionParams.{MsgsExecutionParams}
use Rattle.refusals.specs.declared.Refusal.{Refusal}
use Rattle.refusals.specs.declared.Refusal.TheVariants.{Malformed}
use Rattle.records.specs.declared.Kind.{Kind}
use Rattle.records.specs.declared.Kind.TheVariants.{Shard, Route, Settings, Anchor, Do}
use Rattle.records.specs.declared.Next.{Next}
use Rattle.records.specs.declared.Next.TheVariants.{Whole, Long, Part}

-- the longest record that can be taken: kind 2, an anchor's 50 bytes, then its messages
abbrev pub longest_record : ℕ
longest_record = 52 + 33 * max_anchor_messages

-- ---- kinds
abbrev pub kind_number : Kind → ℕ
kind_number Shard = 1
kind_number Route = 2
kind_number Settings = 3
kind_number Anchor = 4
kind_number Do = 5

-- the kind with this number, or question 17 of a number that no kind has
abbrev pub Decodes : ℕ → Result Kind Refusal → Type 0
Decodes n r = MatchResult r (λ kind. kind_number kind ≡ n) (λ e. (e ≡ Malformed) × ((kind : Kind) → kind_number kind ≢ n))

-- ---- framing: length 4, counting kind and payload
-- a record longer than 16,948 bytes, an anchor's with 512 messages, is judged by its first 52; input that ends before a
-- record's end has only a part of it
unfoldable pub next_record : List ℕ → ℕ → ℕ → Next
next_record input from end =
    let n = num_at 4 from input in
    pick (ltb (end - from) 4) Part
    (pick (ltb longest_record n) (pick (ltb (end - from) 56) Part (Long n)) (pick (ltb (end - from - 4) n) Part (Whole (from + 4) n)))

-- ---- question 17
-- one 0001, then one 0003, then the others; the number is counted from 1
unfoldable pub in_place : ℕ → ℕ → Bool
in_place number kind = pick (ltb number 2) (eqb kind 1) (pick (eqb number 2) (eqb kind 3) (not (eqb kind 1) && not (eqb kind 3)))

-- a byte of the payload is between two numbers
unfoldable pub byte_within : ℕ → ℕ → ℕ → List ℕ → Bool
byte_within at low high p = leb low (get_or p at 0) && leb (get_or p at 0) high

-- a stated kind, length, flag and do byte
unfoldable pub as_stated : ℕ → List ℕ → Bool
as_stated kind p =
    pick (eqb kind 1) (eqb (length p) 12)
    (pick (eqb kind 2) (eqb (length p) 34)
    (pick (eqb kind 3) (eqb (length p) 34 && byte_within 17 0 1 p)
    (pick (eqb kind 4) (eqb (length p) (50 + 33 * num_at 2 48 p))
    (pick (eqb kind 5) (eqb (length p) 1 && byte_within 0 1 7 p) false))))

unfoldable pub record_number : ℕ → ℕ → List ℕ → ℕ
record_number number kind p = ask 17 (in_place number kind && as_stated kind p) 0

-- ---- fields
-- 32 bits in two's complement
abbrev pub signed_of : ℕ → ℤ
signed_of x = pick (ltb x 2147483648) (pos x) (negsuc (4294967295 - x))

-- 0001: workchain 4, prefix 8
unfoldable pub shard_of : List ℕ → ShardIdent
shard_of p = record { workchain = signed_of (num_at 4 0 p); prefix = num_at 8 4 p }

-- eight limits of 2 bytes
abbrev pub limit_at : List ℕ → ℕ → ℕ
limit_at bytes i = num_at 2 (2 * i) bytes

unfoldable pub limits_of : List ℕ → List ℕ
limits_of bytes = map (limit_at bytes) (0 ∷ 1 ∷ 2 ∷ 3 ∷ 4 ∷ 5 ∷ 6 ∷ 7 ∷ [])

-- 0003: next chain time 8, timeout 4, block seqno 4, open-ranges limit 1, new waiting 1, the limits
abbrev pub limits_in : List ℕ → List ℕ
limits_in p = limits_of (drop 18 p)

unfoldable pub params_of : List ℕ → MsgsExecutionParams
params_of p = record { externals_expire_timeout = record { 0 = num_at 4 8 p }; open_ranges_limit = get_or p 16 0; new_is_some = eqb (get_or p 17 0) 1 }

-- 0004: id 4, chain time 8, author 32, ours 4, count 2, then 33 bytes a message
unfoldable pub author_of : List ℕ → List ℕ
author_of p = pick (leb 44 (length p)) (part 12 author_bytes p) (replicate author_bytes 0)

unfoldable pub anchor_in : List ℕ → MempoolAnchor
anchor_in p = record { id = num_at 4 0 p; chain_time = record { 0 = num_at 8 4 p }; author = author_of p }
