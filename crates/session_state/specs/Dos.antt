-- What a do record asks for, and its byte (document 01, kind 0005).
use Rattle.std.specs.Prelude.{ℕ, eqb}
use Rattle.rows.specs.Rows.{pick}
use Rattle.session_state.specs.declared.calls.Do.{Do}
use Rattle.session_state.specs.declared.calls.Do.TheVariants.{Open, Pop, Read, Commit, Rollback, Close}
use Rattle.reader_rules.specs.declared.GetNextMessageGroupMode.TheVariants.{Continue, Refill}

abbrev pub do_byte : Do → ℕ
do_byte Open = 1
do_byte Pop = 2
do_byte (Read Continue) = 3
do_byte (Read Refill) = 4
do_byte Commit = 5
do_byte Rollback = 6
do_byte Close = 7

-- what a byte asks for; one that is none of these closes
unfoldable pub do_of : ℕ → Do
do_of d = pick (eqb d 1) Open (pick (eqb d 2) Pop (pick (eqb d 3) (Read Continue) (pick (eqb d 4) (Read Refill) (pick (eqb d 5) Commit (pick (eqb d 6) Rollback Close)))))
