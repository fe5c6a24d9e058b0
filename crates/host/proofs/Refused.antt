-- A refused call leaves what it was lent: every field of the transaction, the reader and the range, free numbers too,
-- and every byte of the tables, the message area and the output.
use Rattle.anchors_cache.specs.declared.AnchorInfo.{AnchorInfo}
use Rattle.anchors_cache.specs.declared.CachedAnchor.{CachedAnchor}
use Rattle.std.specs.Prelude.{Option, None, Some}
use Prim.Native.Nat.{ℕ, zero, suc}
use mathlib.Core.Path.{◌≡◌, refl, ap, ◌∙◌}
use mathlib.Core.Bool.{Bool, true, false}
use mathlib.Core.List.{List, [], ◌∷◌}
use lib.Dec.{eqb}
use lib.ListN.{length}
use Rattle.rows.proofs.Laws.{pick_both, never}
use Rattle.ext_types.specs.declared.ChainTime.{ChainTime}
use Rattle.messages_buffer.specs.Fullness.{first_no}
use Rattle.anchors_cache.specs.declared.AnchorsCacheTransaction.{AnchorsCacheTransaction}
use Rattle.anchors_cache.specs.declared.AnchorInfo.{AnchorInfo}
use Rattle.anchors_cache.specs.declared.CachedAnchor.{CachedAnchor}
use Rattle.anchors_cache.specs.declared.MempoolAnchor.{MempoolAnchor}
use Rattle.anchors_cache.specs.Answers.{Done}
use Rattle.anchors_cache.specs.Calls.{on_zero, answer, refusal_at, with_cache, row_for, add_number, add_call, info_with, add_info_number, add_info_call, clear_call, open_call, pop_call, commit_call, rollback_call, trim_call, close_call}
use Rattle.anchors_cache.specs.Tables.{info_row}
use Rattle.anchors_cache.specs.Windows.{in_history, history_added, added_cache, added_tables, added_area}
use Rattle.anchors_cache.proofs.Asked.{on_not}
use Rattle.by_reference.proofs.Refused.{a_refused_open_leaves_the_transaction, a_refused_pop_leaves_the_transaction, a_refused_commit_leaves_the_transaction, a_refused_rollback_leaves_the_transaction, a_refused_trim_leaves_the_transaction, a_refused_close_leaves_the_transaction}
use Rattle.range_rules.specs.declared.ExternalsRangeReaderState.{ExternalsRangeReaderState}
use Rattle.reader_rules.specs.declared.ExternalsReader.{ExternalsReader}
use Rattle.reader_rules.specs.declared.GetNextMessageGroupMode.{GetNextMessageGroupMode}
use Rattle.range_rules.specs.Walks.{RangeRead}
use Rattle.range_rules.specs.Rules.{Outcome}
use Rattle.range_reader.specs.Calls.{ReadResult, asked_number, range_read, refused_answer, done_result, read_answer, read_call}
use Rattle.externals_reader.specs.Answers.{ReaderDone}
use Rattle.externals_reader.specs.Calls.{ReadAllResult, unchanged, asked_of_read, all_ranges_read, read_all_call}
use Rattle.host.specs.declared.HistoryEntry.{HistoryEntry}
use Rattle.host.specs.declared.Reader.{Reader}
use Rattle.host.specs.declared.SavedTime.{SavedTime}
use Rattle.host.specs.declared.RangeSettings.{RangeSettings}
use Rattle.host.specs.Shapes.{reader_of, group_mode, range_mode, last_time, saved_time, held_reader, left_reader, anchor_shown, info_shown}
use Rattle.host.specs.Calls.{Added, ReaderAfter, add_shown, entry_shown, pop_shown, trim_shown, reader_shown, on_reader, new_shown, read_all_shown, read_all, read_range_shown, read_range}

-- ---- what the calls that change something are lent to change, and what they leave
pub record Lent : Type 0 where
  pub transaction : AnchorsCacheTransaction
  pub reader : Reader
  pub range : ExternalsRangeReaderState
  pub tables : List ℕ
  pub area : List ℕ
  pub out : List ℕ

pub record Left : Type 0 where
  pub number : ℕ
  pub lent : Lent

-- the exported calls that change something, with what else they take
pub data Change : Type 0 where
  ext_open : Change
  ext_commit : Change
  ext_rollback : Change
  ext_close : Change
  ext_clear : Change
  ext_pop_front : Change
  ext_remove_last_imported_above : ChainTime → Change
  ext_add : MempoolAnchor → ℕ → List ℕ → Change
  ext_add_imported_anchor_info : HistoryEntry → Change
  ext_new_reader : Change
  -- the eleven that take the reader alone: from `ext_set_buffer_limits_by_partition` to `ext_messages_taken`
  on_the_reader : (ExternalsReader → ReaderDone) → Change
  ext_read_into_buffers : List ℕ → Bool → Change
  ext_read_externals_into_buffers : List ℕ → RangeSettings → Change

abbrev with_transaction_lem : Lent → ℕ → AnchorsCacheTransaction → Left
with_transaction_lem l number t = record { number = number; lent = record { transaction = t; reader = l.reader; range = l.range; tables = l.tables; area = l.area; out = l.out } }

abbrev with_done : Lent → Done → Left
with_done l d = with_transaction_lem l d.number d.state

abbrev with_added : Lent → Added → Left
with_added l a = record { number = a.done.number; lent = record { transaction = a.done.state; reader = l.reader; range = l.range; tables = a.tables; area = a.area; out = l.out } }

abbrev with_reader : Lent → ReaderAfter → Left
with_reader l a = record { number = a.number; lent = record { transaction = l.transaction; reader = a.reader; range = l.range; tables = l.tables; area = l.area; out = l.out } }

abbrev with_all_read : Lent → ReadAllResult → Left
with_all_read l q =
    let d = read_all_shown l.reader q.answer in
    record { number = d.answer.number; lent = record { transaction = d.state.transaction; reader = d.state.reader; range = l.range; tables = l.tables; area = l.area; out = q.out } }

abbrev with_range_read : Lent → ReadResult → Left
with_range_read l q =
    let d = read_range_shown q.answer in
    record { number = d.answer.number; lent = record { transaction = d.state.transaction; reader = l.reader; range = d.state.range; tables = l.tables; area = l.area; out = q.out } }

-- as the contracts say
abbrev pub called : Change → Lent → Left
called ext_open l = with_done l (open_call (length l.area) l.tables l.transaction)
called ext_commit l = with_done l (commit_call (length l.area) l.tables l.transaction)
called ext_rollback l = with_done l (rollback_call (length l.area) l.tables l.transaction)
called ext_close l = with_done l (close_call (length l.area) l.tables l.transaction)
called ext_clear l = with_done l (clear_call (length l.area) l.tables l.transaction)
called ext_pop_front l = let p = pop_shown (pop_call (length l.area) l.tables l.transaction) in with_transaction_lem l p.answer.number p.state
called (ext_remove_last_imported_above ct) l = let p = trim_shown (trim_call (length l.area) ct.0 l.tables l.transaction) in with_transaction_lem l p.answer.number p.state
called (ext_add anchor ours messages) l = with_added l (add_shown l.tables l.area anchor ours messages l.transaction)
called (ext_add_imported_anchor_info e) l = with_added l (entry_shown l.tables l.area e l.transaction)
called ext_new_reader l = with_reader l (new_shown l.reader)
called (on_the_reader call) l = with_reader l (on_reader call l.reader)
called (ext_read_into_buffers routes refill) l = with_all_read l (read_all l.out l.tables l.area routes refill (record { transaction = l.transaction; reader = l.reader }))
called (ext_read_externals_into_buffers routes settings) l =
    with_range_read l (read_range l.out l.tables l.area routes settings (record { transaction = l.transaction; range = l.range }))

-- ---- each kind of call
front_number : (n : ℕ) (f : Option CachedAnchor) (author : List ℕ) → (anchor_shown n f author).number ≡ n
front_number n (Some a) author = refl
front_number n None author = refl

last_number : (n : ℕ) (f : Option AnchorInfo) (author : List ℕ) → (info_shown n f author).number ≡ n
last_number n (Some i) author = refl
last_number n None author = refl

pub a_refused_call_leaves_the_host's_reader : (was : Reader) (n : ℕ) (r : ExternalsReader) → (n ≡ 0 → ⊥) → left_reader was n r ≡ was
unfolding left_reader
a_refused_call_leaves_the_host's_reader was n r h = on_not n _ was h

module _ (l : Lent) where
  transaction_left : (t : AnchorsCacheTransaction) → t ≡ l.transaction → (with_transaction_lem l 0 t).lent ≡ l
  transaction_left t e = ap (λ (u : AnchorsCacheTransaction). (with_transaction_lem l 0 u).lent) e

  clear_leaves : let d = clear_call (length l.area) l.tables l.transaction in (d.number ≡ 0 → ⊥) → d.state ≡ l.transaction
  unfolding clear_call answer
  clear_leaves h = on_not (refusal_at false (length l.area) l.tables l.transaction) _ l.transaction h

  add_leaves_lem : (n : ℕ) (t : AnchorsCacheTransaction) (tables area : List ℕ) → (n ≡ 0 → ⊥)
      → (with_added l (record { done = answer n l.transaction t; tables = on_zero n tables l.tables; area = on_zero n area l.area })).lent ≡ l
  unfolding answer
  add_leaves_lem zero t tables area h = absurd (h refl)
  add_leaves_lem (suc n) t tables area h = refl

  entry_leaves : (n : ℕ) (t : AnchorsCacheTransaction) (tables : List ℕ) → (n ≡ 0 → ⊥) → (with_added l (record { done = answer n l.transaction t; tables = on_zero n tables l.tables; area = l.area })).lent ≡ l
  unfolding answer
  entry_leaves zero t tables h = absurd (h refl)
  entry_leaves (suc n) t tables h = refl

  reader_leaves : (d : ReaderDone) → (d.number ≡ 0 → ⊥) → (with_reader l (reader_shown l.reader d)).lent ≡ l
  unfolding reader_shown
  reader_leaves d h = ap (λ (r : Reader). (with_reader l (record { number = 0; reader = r })).lent) (a_refused_call_leaves_the_host's_reader l.reader d.number d.reader h)

  module _ (routes : List ℕ) where
    all_leaves : (r : ExternalsReader) (mode : GetNextMessageGroupMode) → let q = read_all_call l.tables l.area l.transaction routes r mode l.out in
        (q.answer.number ≡ 0 → ⊥) → (with_all_read l q).lent ≡ l
    unfolding read_all_call
    all_leaves r mode =
        let P : ReadAllResult → Type 0 = λ q. (q.answer.number ≡ 0 → ⊥) → (with_all_read l q).lent ≡ l in
        let no : (n : ℕ) → P (unchanged n r l.transaction l.out) = λ n h. ap (λ (x : Reader). (with_reader l (record { number = 0; reader = x })).lent) (a_refused_call_leaves_the_host's_reader l.reader n r h) in
        pick_both P (eqb (asked_of_read l.tables l.area l.transaction routes r) 0) _ _
        (pick_both P r.all_ranges_fully_read _ _ (no 0) (pick_both P (eqb (all_ranges_read l.tables l.area l.transaction routes r mode (length l.out)).value.so_far.number 0) _ _ (λ h. absurd (h refl)) (no _)))
        (no _)

    answer_leaves : (n : ℕ) (s : Outcome RangeRead) → let q = read_answer n l.tables l.transaction l.range s l.out in
        (q.answer.number ≡ 0 → ⊥) → (with_range_read l q).lent ≡ l
    answer_leaves n s =
        let P : ReadResult → Type 0 = λ q. (q.answer.number ≡ 0 → ⊥) → (with_range_read l q).lent ≡ l in
        pick_both P (eqb n 0) (done_result l.tables l.transaction l.range s l.out) (record { answer = refused_answer n l.range l.transaction; out = l.out }) (λ h. absurd (h refl)) (λ h. refl)

    range_leaves : (s : RangeSettings) → let q = read_range l.out l.tables l.area routes s (record { transaction = l.transaction; range = l.range }) in
        (q.answer.number ≡ 0 → ⊥) → (with_range_read l q).lent ≡ l
    unfolding read_range read_call
    range_leaves s =
        let steps = range_read l.tables l.area l.transaction s.shard routes s.limits s.processed s.timeout (range_mode s.to_previous) l.range (length l.out) in
        answer_leaves (first_no (asked_number l.tables l.area l.transaction s.shard routes s.limits l.range ∷ steps.value.walk.number ∷ [])) steps

-- ---- all calls
pub a_call_with_a_number_other_than_0_leaves_all_that_it_was_lent : (c : Change) (l : Lent) → ((called c l).number ≡ 0 → ⊥) → (called c l).lent ≡ l
unfolding pop_shown trim_shown add_shown add_call entry_shown add_info_call answer new_shown reader_shown read_all
a_call_with_a_number_other_than_0_leaves_all_that_it_was_lent ext_open l h = transaction_left l _ (a_refused_open_leaves_the_transaction (length l.area) 0 l.tables l.transaction h)
a_call_with_a_number_other_than_0_leaves_all_that_it_was_lent ext_commit l h = transaction_left l _ (a_refused_commit_leaves_the_transaction (length l.area) 0 l.tables l.transaction h)
a_call_with_a_number_other_than_0_leaves_all_that_it_was_lent ext_rollback l h = transaction_left l _ (a_refused_rollback_leaves_the_transaction (length l.area) 0 l.tables l.transaction h)
a_call_with_a_number_other_than_0_leaves_all_that_it_was_lent ext_close l h = transaction_left l _ (a_refused_close_leaves_the_transaction (length l.area) 0 l.tables l.transaction h)
a_call_with_a_number_other_than_0_leaves_all_that_it_was_lent ext_clear l h = transaction_left l _ (clear_leaves l h)
a_call_with_a_number_other_than_0_leaves_all_that_it_was_lent ext_pop_front l h =
    let p = pop_call (length l.area) l.tables l.transaction in
    transaction_left l _ (a_refused_pop_leaves_the_transaction (length l.area) 0 l.tables l.transaction (λ q. h (front_number p.number p.front p.author ∙ q)))
a_call_with_a_number_other_than_0_leaves_all_that_it_was_lent (ext_remove_last_imported_above ct) l h =
    let p = trim_call (length l.area) ct.0 l.tables l.transaction in
    transaction_left l _ (a_refused_trim_leaves_the_transaction (length l.area) ct.0 l.tables l.transaction (λ q. h (last_number p.number p.last p.author ∙ q)))
a_call_with_a_number_other_than_0_leaves_all_that_it_was_lent (ext_add anchor ours messages) l h =
    let a = row_for anchor ours (length messages) in
    let c = l.transaction.cache in
    add_leaves_lem l
    (add_number (length l.area) l.tables l.transaction anchor.id ours (length messages))
    (with_cache l.transaction (added_cache a (length l.area) (length messages) l.tables c))
    (added_tables a c l.tables)
    (added_area a messages l.tables c l.area)
    h
a_call_with_a_number_other_than_0_leaves_all_that_it_was_lent (ext_add_imported_anchor_info e) l h =
    let c = l.transaction.cache in
    let n = add_info_number (length l.area) l.tables l.transaction in
    entry_leaves l n (with_cache l.transaction (in_history c)) (history_added (info_row (info_with e.info e.author)) c l.tables) h
a_call_with_a_number_other_than_0_leaves_all_that_it_was_lent ext_new_reader l h = reader_leaves l _ h
a_call_with_a_number_other_than_0_leaves_all_that_it_was_lent (on_the_reader call) l h = reader_leaves l (call (reader_of l.reader)) h
a_call_with_a_number_other_than_0_leaves_all_that_it_was_lent (ext_read_into_buffers routes refill) l h = all_leaves l routes (reader_of l.reader) (group_mode refill) h
a_call_with_a_number_other_than_0_leaves_all_that_it_was_lent (ext_read_externals_into_buffers routes settings) l h = range_leaves l routes settings h

-- ---- free numbers of a done call
abbrev time_of_lem : Reader → SavedTime
time_of_lem r = r.reader_state.last_read_to_anchor_chain_time

pub a_time_that_is_not_marked_stays_as_it_was : (was : Reader) (n : ℕ) (r : ExternalsReader) → (time_of_lem (left_reader was n r)).present ≡ false → (time_of_lem (left_reader was n r)).time ≡ (time_of_lem was).time
unfolding left_reader held_reader
a_time_that_is_not_marked_stays_as_it_was was (suc n) r e = refl
a_time_that_is_not_marked_stays_as_it_was was zero r e = go r.reader_state.last_read_to_anchor_chain_time e
  where
    go : (l : Option ChainTime) → (saved_time (time_of_lem was).time l).present ≡ false → (saved_time (time_of_lem was).time l).time ≡ (time_of_lem was).time
    go None e = refl
    go (Some ct) e = never e

-- what the core leaves as it was, the host keeps as it was
pub a_call_that_changes_nothing_leaves_every_field : (was : Reader) (n : ℕ) → left_reader was n (reader_of was) ≡ was
unfolding left_reader held_reader reader_of
a_call_that_changes_nothing_leaves_every_field was (suc n) = refl
a_call_that_changes_nothing_leaves_every_field was zero = ap (λ (t : SavedTime). with_time t) (go (time_of_lem was).present (time_of_lem was).time)
  where
    go : (b : Bool) (t : ChainTime) → saved_time t (last_time b t) ≡ record { present = b; time = t }
    go true t = refl
    go false t = refl

    with_time : SavedTime → Reader
    with_time t =
        let s = was.reader_state in
        record {
          for_shard_id = was.for_shard_id;
          block_seqno = was.block_seqno;
          next_chain_time = was.next_chain_time;
          msgs_exec_params = was.msgs_exec_params;
          buffer_limits_by_partitions = was.buffer_limits_by_partitions;
          reader_state = record { ranges = s.ranges; len = s.len; by_partitions = s.by_partitions; last_read_to_anchor_chain_time = t };
          all_ranges_fully_read = was.all_ranges_fully_read;
        }
