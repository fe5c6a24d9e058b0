use Rattle.std.proofs.Common.{rules}
use Rattle.rows.proofs.Laws.{num_front}
use Rattle.rows.proofs.U32LittleEndian.of_front.Goals as goal

pub returns : goal.returns
returns c = num_front 3 c.args.bytes.now c.first_chunk.result _ _ _ c.first_chunk.ensures.cases c.copied.ensures c.map_or.ensures (λ few. search rules)
