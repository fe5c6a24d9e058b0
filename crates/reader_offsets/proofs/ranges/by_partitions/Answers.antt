-- By an attribute the law of the library's call is not found (tried).
use Rattle.std.proofs.Common.{ℕ, ◌∙◌, ap, arith}
use Rattle.std.specs.Prelude.{List, Option, Ok}
use Rattle.reader_rules.specs.Offsets.{tally_of}
use Rattle.reader_rules.proofs.Each.{each_made}
use Rattle.reader_offsets.specs.Answers.{shown_if_present, by_partitions_of}
use Rattle.reader_offsets.proofs.Shown.{shown_all}
use Rattle.reader_offsets.proofs.ranges.by_partitions.Goals as goal

pub returns : goal.returns
returns c =
    let a = c.args in
    ap (λ (l : List (Option ℕ)). by_partitions_of (Ok l)) (each_made _ _ (λ (j : ℕ). shown_if_present a.offsets (tally_of j a.ranges.now)) (λ i x q k. grind arith) 8 _ c.from_fn.ensures.items)
    ∙ shown_all a.offsets a.ranges.now
