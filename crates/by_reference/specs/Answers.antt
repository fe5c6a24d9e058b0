-- What the thin calls answer, and what a list of them leaves. n is the length of the message area.
use Rattle.std.specs.Prelude.{ℕ, List}
use Rattle.anchors_cache.specs.declared.AnchorsCacheTransaction.{AnchorsCacheTransaction}
use Rattle.refusals.specs.Refusals.{number}
use Rattle.anchors_cache.specs.Answers.{AnchorAnswer, InfoAnswer, Popped, Trimmed, anchor_answer_of, info_answer_of}
use Rattle.anchors_cache.specs.Calls.{pop_call, trim_call, open_call, commit_call, rollback_call, close_call}
use Rattle.by_reference.specs.declared.InTurn.{InTurn as SixResults}

-- a pop's answer, and a trim's, without the state
abbrev pub pop_answer_of : Popped → AnchorAnswer
pop_answer_of p = record { number = p.number; anchor = p.front; author = p.author }

abbrev pub trim_answer_of : Trimmed → InfoAnswer
trim_answer_of p = record { number = p.number; info = p.last; author = p.author }

-- the six answers in document 01's terms, and what they leave
pub record InTurn : Type 0 where
  pub opened : ℕ
  pub popped : AnchorAnswer
  pub committed : ℕ
  pub rolled_back : ℕ
  pub trimmed : InfoAnswer
  pub closed : ℕ
  pub state : AnchorsCacheTransaction

abbrev pub told : SixResults → InTurn
told r =
    record {
      opened = number r.opened;
      popped = anchor_answer_of r.popped;
      committed = number r.committed;
      rolled_back = number r.rolled_back;
      trimmed = info_answer_of r.trimmed;
      closed = number r.closed;
      state = r.state;
    }

-- open, pop, commit, rollback, trim, close: each on the transaction that the one before left
abbrev pub in_turn : ℕ → ℕ → List ℕ → AnchorsCacheTransaction → InTurn
in_turn n ct tables t =
    let opened = open_call n tables t in
    let popped = pop_call n tables opened.state in
    let committed = commit_call n tables popped.state in
    let rolled = rollback_call n tables committed.state in
    let trimmed = trim_call n ct tables rolled.state in
    let closed = close_call n tables trimmed.state in
    record {
      opened = opened.number;
      popped = pop_answer_of popped;
      committed = committed.number;
      rolled_back = rolled.number;
      trimmed = trim_answer_of trimmed;
      closed = closed.number;
      state = closed.state;
    }
