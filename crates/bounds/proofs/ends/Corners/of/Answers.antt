use Rattle.std.proofs.Common.{ℤ, ◌*ℤ◌, lit<, lit≤, w64, to_z, of_z}
use Rattle.rounding.specs.Numbers.{Sized}
use Rattle.rounding.proofs.Machine.{Is, plain, product, back, sized_more}
use Rattle.bounds.specs.Kinds.{weight_reach, activation_reach}
use Rattle.bounds.specs.Sizes.{product_size}
use Rattle.bounds.proofs.ends.Corners.of.Goals as goal

-- the machine's product of two ends
of_ends : {x y : ℤ} → Sized weight_reach x → Sized activation_reach y → Is product_size (to_z w64 (of_z w64 x) *ℤ to_z w64 (of_z w64 y)) (x *ℤ y)
of_ends h k = product (back w64 (plain h) (lit< tt)) (back w64 (plain k) (lit< tt))

pub returns-clause-sizes : goal.returns-clause-sizes
returns-clause-sizes c =
    let a = back w64 (of_ends c.requires.weight.0 c.requires.activation.0) (lit< tt) in
    let b = back w64 (of_ends c.requires.weight.0 c.requires.activation.1) (lit< tt) in
    let d = back w64 (of_ends c.requires.weight.1 c.requires.activation.0) (lit< tt) in
    let e = back w64 (of_ends c.requires.weight.1 c.requires.activation.1) (lit< tt) in (
      rw a.same (sized_more a.sized (lit≤ tt)),
      rw b.same (sized_more b.sized (lit≤ tt)),
      rw d.same (sized_more d.sized (lit≤ tt)),
      rw e.same (sized_more e.sized (lit≤ tt)),
    )
