use Rattle.session_state.proofs.Laws.{cache_called}
use Rattle.session_state.proofs.cache_call.Goals as goal

pub returns : goal.returns
returns c = cache_called c.args.session _ _ _ _ _ _ _ _ _ c.called-left.ensures c.number.ensures c.unwrap_or.ensures c.put.ensures
