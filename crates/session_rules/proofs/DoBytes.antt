-- Each do byte (document 01, kind 0005) and its call.
use Prim.Native.Nat.{ℕ}
use mathlib.Core.Path.{◌≡◌, refl, ap}
use mathlib.Core.List.{List, [], ◌∷◌}
use lib.ListN.{take}
use Rattle.anchors_cache.specs.declared.AnchorsCacheTransaction.{AnchorsCacheTransaction}
use Rattle.anchors_cache.specs.Calls.{open_call, commit_call, rollback_call, close_call}
use Rattle.reader_rules.specs.declared.ExternalsReader.{ExternalsReader}
use Rattle.reader_rules.specs.declared.GetNextMessageGroupMode.TheVariants.{Continue, Refill}
use Rattle.externals_reader.specs.Calls.{read_all_call}
use Rattle.session_rules.specs.declared.Session.{Session}
use Rattle.session_rules.specs.Said.{pop_done, called}
use Rattle.session_rules.specs.Steps.{mode_of, Lent, session_read}

-- the calls of the cache
module _ (n : ℕ) (tables : List ℕ) (t : AnchorsCacheTransaction) where
  pub record CacheCalls : Type 0 where
    pub byte_1_opens : called n tables t 1 ≡ open_call n tables t
    pub byte_2_pops : called n tables t 2 ≡ pop_done n tables t
    pub byte_5_commits : called n tables t 5 ≡ commit_call n tables t
    pub byte_6_rolls_back : called n tables t 6 ≡ rollback_call n tables t
    pub byte_7_closes : called n tables t 7 ≡ close_call n tables t

  pub each_do_byte_is_its_call : CacheCalls
  unfolding called
  each_do_byte_is_its_call =
      record { byte_1_opens = refl; byte_2_pops = refl; byte_5_commits = refl; byte_6_rolls_back = refl; byte_7_closes = refl }

-- the mode by itself: a wrong one is then refused here, without the two calls worked out
pub byte_4_means_Refill : mode_of 4 ≡ Refill
byte_4_means_Refill = refl

-- the reads, on the routes that are listed
module _ (l : Lent) (s : Session) (r : ExternalsReader) where
  pub byte_3_reads_in_Continue : session_read l s r (3 ∷ []) ≡ read_all_call l.tables l.area s.transaction (take s.routes_len l.routes) r Continue l.entries
  byte_3_reads_in_Continue = refl

  pub byte_4_reads_in_Refill : session_read l s r (4 ∷ []) ≡ read_all_call l.tables l.area s.transaction (take s.routes_len l.routes) r Refill l.entries
  byte_4_reads_in_Refill = ap (λ m. read_all_call l.tables l.area s.transaction (take s.routes_len l.routes) r m l.entries) byte_4_means_Refill
