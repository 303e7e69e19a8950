-- Balls: the sizes of their parts, and their sum.
use Rattle.std.specs.Prelude.{ℕ, ◌+ℤ◌}
use Rattle.rounding.specs.Numbers.{Sized}
use Rattle.bounds.specs.declared.centred.Ball.{Ball}

-- the centre is at most m and the radius at most n away from 0
abbrev pub Parts : ℕ → ℕ → Ball → Type 0
Parts m n u = Sized m u.centre × Sized n u.radius

-- the sum of two balls, part by part
abbrev pub sum_of : Ball → Ball → Ball
sum_of u v = record { centre = u.centre +ℤ v.centre; radius = u.radius +ℤ v.radius }
