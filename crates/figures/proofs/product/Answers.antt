use Rattle.std.proofs.Common.{arith}
use Rattle.bounds.specs.Kinds.{begun, added}
use Rattle.figures.proofs.product.Goals as goal

pub add-sum-requires-clause-running : goal.add-sum-requires-clause-running
add-sum-requires-clause-running g c = (0, omega arith, rw c.start.ensures begun)

pub close-low-requires-clause-running : goal.close-low-requires-clause-running
close-low-requires-clause-running g c =
    let run = added begun (omega arith) _ _ c.requires.weight _ _ c.requires.activation in
    (1, omega arith, rw (c.add-sum.ensures, c.start.ensures, c.make.ensures, c.make-2.ensures) run)
