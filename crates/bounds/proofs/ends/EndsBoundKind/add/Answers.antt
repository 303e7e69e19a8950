use Rattle.std.proofs.Common.{lit≤}
use Rattle.rounding.proofs.Machine.{sized_more}
use Rattle.bounds.specs.EndsLaws.{sum_within, least_sized, greatest_sized}
use Rattle.bounds.proofs.ends.EndsBoundKind.add.Goals as goal

pub add-requires : goal.add-requires
add-requires c =
    let small = c.of.ensures.sizes in (
      sum_within c.requires.running.2,
      (
        rw c.hull.ensures.low (sized_more (least_sized small.0 small.1 small.2 small.3) (lit≤ tt)),
        rw c.hull.ensures.high (sized_more (greatest_sized small.0 small.1 small.2 small.3) (lit≤ tt)),
      ),
    )
