-- The five stores, one behind the other, are one store of the entry, in its own part of the output.
use Prim.Native.Nat.{◌+◌, ◌-◌}
use mathlib.Core.Path.{◌≡◌, sym, ◌∙◌}
use lib.Seq.{sets}
use native.Mathlib.Omega.{arith}
use lib.ListN.{length, take, drop, length-take, length-drop}
use Rattle.range_reader.specs.Locals.{bytes_of}
use Rattle.rows.proofs.Laws.{part_stored, sets_all}
use Rattle.range_reader.proofs.EntryLaws.{entry_written}
use Rattle.range_rules.proofs.Counts.{length_entry}
use Rattle.range_rules.specs.Rules.{entry_len}
use Rattle.range_reader.proofs.messages.put_entry.Goals as goal

-- src/messages.rt:207:1
pub returns : goal.returns
returns c =
    let a = c.args in
    let n = a.at + entry_len - a.at in
    let row = take n (drop a.at a.out.now) in
    let l : length row ≡ entry_len = simp (length-take, length-drop) (omega arith) in
    let k : length (bytes_of a.e) ≡ entry_len = length_entry _ _ _ _ in
    let s : c.put-5.new.out ≡ sets row 0 (bytes_of a.e) =
    rw (c.put-5.ensures, c.put-4.ensures, c.put-3.ensures, c.put-2.ensures, c.put.ensures)
    (entry_written row 0 a.e.seqno a.e.partition a.e.key a.e.time (omega arith)) in
    let e : c.put-5.new.out ≡ bytes_of a.e = s ∙ sets_all row (bytes_of a.e) (k ∙ sym l) in
    rw e (part_stored a.out.now a.at n (bytes_of a.e) (omega (arith, k)) (omega (arith, k)))
