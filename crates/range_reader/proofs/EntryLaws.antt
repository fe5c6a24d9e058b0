-- An entry in the lent output: five stores are one.
use Prim.Native.Nat.{ℕ, ◌+◌, ◌≤◌}
use mathlib.Core.Path.{◌≡◌}
use mathlib.Core.List.{List}
use native.Mathlib.Omega.{arith}
use lib.ListN.{length}
use lib.Seq.{sets, length-sets}
use Rattle.rows.specs.Rows.{le, written}
use Rattle.rows.proofs.Laws.{sets_append, length_le, written_in}
use Rattle.ext_types.specs.declared.ChainTime.{ChainTime}
use Rattle.ext_types.specs.declared.ExternalKey.{ExternalKey}
use Rattle.range_rules.specs.Rules.{entry_bytes, entry_len}

-- ---- the stores
put_in : (at k v : ℕ) (l : List ℕ) → at + k ≤ length l → written at (le k v) l ≡ sets l at (le k v)
put_in at k v l h = written_in at (le k v) l (rw (length_le k v) h)

-- the five stores of an entry
pub entry_written : (l : List ℕ) (at seqno p : ℕ) (key : ExternalKey) (time : ChainTime) → at + entry_len ≤ length l
    → written (at + 18) (le 8 time.0) (written (at + 10) (le 8 key.msgs_offset) (written (at + 6) (le 4 key.anchor_id) (written (at + 4) (le 2 p) (written at (le 4 seqno) l))))
    ≡ sets l at (entry_bytes seqno p key time)
unfolding entry_bytes
entry_written l at seqno p key time h =
    let l1 = sets l at (le 4 seqno) in
    let l2 = sets l1 (at + 4) (le 2 p) in
    let l3 = sets l2 (at + 6) (le 4 key.anchor_id) in
    let l4 = sets l3 (at + 10) (le 8 key.msgs_offset) in
    let e2 : at + 4 + 2 ≡ at + 6 = omega arith in
    let e3 : at + 6 + 4 ≡ at + 10 = omega arith in
    let e4 : at + 10 + 8 ≡ at + 18 = omega arith in
    rw (
      put_in at 4 seqno l (omega arith),
      put_in (at + 4) 2 p l1 (simp length-sets (omega arith)),
      put_in (at + 6) 4 key.anchor_id l2 (simp length-sets (omega arith)),
      put_in (at + 10) 8 key.msgs_offset l3 (simp length-sets (omega arith)),
      put_in (at + 18) 8 time.0 l4 (simp length-sets (omega arith)),
    )
    (simp (sets_append, length_le, e2, e3, e4))
