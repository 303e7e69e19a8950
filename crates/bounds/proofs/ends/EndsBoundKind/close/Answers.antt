use Rattle.bounds.specs.EndsLaws.{sum_within}
use Rattle.bounds.proofs.ends.EndsBoundKind.close.Goals as goal

pub outward-low-requires-clause-ends : goal.outward-low-requires-clause-ends
outward-low-requires-clause-ends c = sum_within c.requires.running.2
