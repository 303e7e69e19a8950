-- Kind 1: a centre and a radius.
use Rattle.std.specs.Prelude.{ℤ, pos, ◌+ℤ◌, ◌-ℤ◌, ◌*ℤ◌, unsigned_abs}
use Rattle.rounding.specs.Numbers.{floor_over}
use Rattle.bounds.specs.Kinds.{Meanings}
use Rattle.bounds.specs.declared.centred.Ball.{Ball}

-- the size of z
abbrev pub abs : ℤ → ℤ
abs z = pos (unsigned_abs z)

-- the middle of a and b, rounded down
abbrev pub middle : ℤ → ℤ → ℤ
middle a b = floor_over (a +ℤ b) 2

-- the radius of the product of u and v
abbrev pub product_radius : Ball → Ball → ℤ
product_radius u v = (abs u.centre *ℤ v.radius +ℤ abs v.centre *ℤ u.radius) +ℤ u.radius *ℤ v.radius

-- a ball has its centre less and plus its radius as ends; ADD moves the centre by the product of the centres
abbrev pub centred_meanings : Meanings
centred_meanings = record {
  number = 1;
  Element = Ball;
  Sum = Ball;
  low = λ u. u.centre -ℤ u.radius;
  high = λ u. u.centre +ℤ u.radius;
  sum_low = λ s. s.centre -ℤ s.radius;
  sum_high = λ s. s.centre +ℤ s.radius;
  makes = λ a b. record { centre = middle a b; radius = b -ℤ middle a b };
  starts = record { centre = pos 0; radius = pos 0 };
  adds = λ s u v. record { centre = s.centre +ℤ u.centre *ℤ v.centre; radius = s.radius +ℤ product_radius u v };
}
