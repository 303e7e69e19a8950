use Rattle.std.proofs.Common.{◌*◌, sym, subst, arith}
use Rattle.std.proofs.lemmas.Int.{ints}
use Rattle.bounds.specs.Balls.{Parts}
use Rattle.bounds.specs.Kinds.{weight_reach, activation_reach}
use Rattle.bounds.specs.Sizes.{weight_sized, activation_sized}
use Rattle.bounds.specs.CentredLaws.{element_sized, sum_parts}
use Rattle.bounds.proofs.centred.CentredBoundKind.add.Goals as goal

-- the elements are as large as the numbers that they were made of
pub of-requires-clause-weight : goal.of-requires-clause-weight
of-requires-clause-weight c =
    let (a, b, h, e) = c.requires.weight in
    subst (Parts weight_reach (2 * weight_reach)) (sym e) (element_sized a b h.1 (weight_sized a b h))

pub of-requires-clause-activation : goal.of-requires-clause-activation
of-requires-clause-activation c =
    let (a, b, h, e) = c.requires.activation in
    subst (Parts activation_reach (2 * activation_reach)) (sym e) (element_sized a b h.1 (activation_sized a b h))

pub add-requires : goal.add-requires
add-requires c =
    let small = c.of.ensures.sizes in
    let centre = c.joined.ensures.centre in
    let radius = c.joined.ensures.radius in
    (sum_parts c.requires.running.2, (record { size = omega (arith, ints) }, record { size = omega (arith, ints) }))
