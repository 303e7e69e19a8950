use Rattle.bounds.specs.CentredLaws.{centred_laws, sum_parts}
use Rattle.bounds.proofs.centred.CentredBoundKind.close.Goals as goal

pub ends-requires : goal.ends-requires
ends-requires c = sum_parts c.requires.running.2

pub outward-low-requires-clause-ends : goal.outward-low-requires-clause-ends
outward-low-requires-clause-ends c =
    let run = c.requires.running in (
      rw c.ends.ensures.low (centred_laws.sum_low_sized run.0 c.args.whole run.2),
      rw c.ends.ensures.high (centred_laws.sum_high_sized run.0 c.args.whole run.2),
    )
