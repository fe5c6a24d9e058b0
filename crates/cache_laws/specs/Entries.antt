-- The calls of the cache as document 01's book counts them: number by the questions, what is done where that is 0, and
-- what the contract says on the window.
use Rattle.std.specs.Prelude.{ℕ, ◌^◌, List, length}
use Rattle.anchors_cache.specs.declared.AnchorsCacheTransaction.{AnchorsCacheTransaction}
use Rattle.anchors_cache.specs.declared.MempoolAnchor.{MempoolAnchor}
use Rattle.anchors_cache.specs.Answers.{Done}
use Rattle.anchors_cache.specs.Answers.{Popped}
use Rattle.anchors_cache.specs.Answers.{Trimmed}
use Rattle.ext_types.specs.declared.ExternalKey.{ExternalKey}
use Rattle.anchors_cache.specs.Calls.{row_for, add_number, add_call, add_info_call, pop_call, pops_call, trim_call, clear_call, open_call, commit_call, rollback_call, close_call, last_info_call, info_at_ct_call, last_id_call, get_call, pending_call, pending_in_range_call}
use Rattle.cache_laws.specs.Book.{Call, Effect, changes, commits, rolls_back, nothing, pops, trims, asked_of_caches, book_refusal, book_add, book_add_info}

-- questions 1 and 5
abbrev plain : Effect → (List ℕ → List ℕ → AnchorsCacheTransaction → Done) → Call
plain effect on_window = record { number = λ area b. book_refusal (length area) b 0; effect = λ area v. effect; on_window = on_window }

-- and 9, which is "no" while a transaction is open
abbrev closed_only : (List ℕ → List ℕ → AnchorsCacheTransaction → Done) → Call
closed_only on_window = record { number = λ area b. book_refusal (length area) b 9; effect = λ area v. nothing; on_window = on_window }

abbrev pop_done : Popped → Done
pop_done d = record { number = d.number; state = d.state }

abbrev trim_done : Trimmed → Done
trim_done d = record { number = d.number; state = d.state }

abbrev pub popping : Call
popping = plain (changes (pops 1)) (λ tables area t. pop_done (pop_call (length area) tables t))

abbrev pub popping_many : ℕ → Call
popping_many n = plain (changes (pops n)) (λ tables area t. pops_call (length area) n tables t)

abbrev pub trimming : ℕ → Call
trimming ct = plain (changes (trims ct)) (λ tables area t. trim_done (trim_call (length area) ct tables t))

abbrev pub committing : Call
committing = plain commits (λ tables area t. commit_call (length area) tables t)

abbrev pub rolling_back : Call
rolling_back = plain rolls_back (λ tables area t. rollback_call (length area) tables t)

abbrev pub closing : Call
closing = plain nothing (λ tables area t. close_call (length area) tables t)

abbrev pub opening : Call
opening = closed_only (λ tables area t. open_call (length area) tables t)

abbrev pub clearing : Call
clearing = closed_only (λ tables area t. clear_call (length area) tables t)

-- questions 6, 7 and 8 come before 9
abbrev pub adding : MempoolAnchor → ℕ → List ℕ → Call
adding m ours messages =
    let k = length messages in
    record {
      number = λ area b. book_refusal (length area) b (book_add m.id ours k b.present 9);
      effect = λ area v. nothing;
      on_window = λ tables area t. add_call (add_number (length area) tables t m.id ours k) (row_for m ours k) (length area) k tables t;
    }

-- question 8 of the history comes before 9
abbrev pub adding_info : Call
adding_info =
    record {
      number = λ area b. book_refusal (length area) b (book_add_info b.present 9);
      effect = λ area v. nothing;
      on_window = λ tables area t. add_info_call (length area) tables t;
    }

-- ---- what is asked of the cache and changes nothing
-- `last_imported_anchor_info`, the same at a chain time, `get_last_imported_anchor_id_and_ct`, `get` at an index,
-- `has_pending_externals`, `check_has_pending_externals_in_range` up to a key
pub data Question : Type 0 where
  last_info : Question
  info_at : ℕ → Question
  last_id : Question
  get_at : ℕ → Question
  is_pending : Question
  is_pending_up_to : ExternalKey → Question

-- no slice has more bytes: a question is lent no message area and asks as of the longest
abbrev pub longest_slice : ℕ
longest_slice = 2 ^ 64

abbrev pub number_of : Question → List ℕ → AnchorsCacheTransaction → ℕ
number_of last_info tables t = (last_info_call tables t).number
number_of (info_at ct) tables t = (info_at_ct_call ct tables t).number
number_of last_id tables t = (last_id_call tables t).number
number_of (get_at i) tables t = (get_call i tables t).number
number_of is_pending tables t = (pending_call tables t).number
number_of (is_pending_up_to up_to) tables t = (pending_in_range_call up_to tables t).number

-- question 5 alone
abbrev pub asking : Question → Call
asking q =
    record {
      number = λ area b. asked_of_caches b.present b.opening 0;
      effect = λ area v. nothing;
      on_window = λ tables area t. record { number = number_of q tables t; state = t };
    }
