-- Intervals of whole numbers: their size, their sum, and a running sum rounded outward.
use Rattle.std.specs.Prelude.{ℕ, ℤ, pos, ◌+ℤ◌, ◌*ℤ◌}
use Rattle.rounding.specs.Numbers.{Sized, per_unit, floor_over, ceiling_over}
use Rattle.rounding.specs.declared.interval.Interval.{Interval}

-- the numbers from low to high
abbrev pub from_to : ℤ → ℤ → Interval
from_to low high = record { low = low; high = high }

-- both ends are at most n away from 0
abbrev pub Within : ℕ → Interval → Type 0
Within n a = Sized n a.low × Sized n a.high

-- the sum of two intervals, end by end
abbrev pub sum_of : Interval → Interval → Interval
sum_of a b = record { low = a.low +ℤ b.low; high = a.high +ℤ b.high }

-- the ends of a running sum of products with the bias b, in whole units: the low rounded down, the high rounded up
abbrev pub rounded_outward : ℤ → ℤ → ℤ → ℕ → Interval
rounded_outward low high b F = record {
  low = floor_over (low +ℤ (b *ℤ pos (per_unit F))) (per_unit F);
  high = ceiling_over (high +ℤ (b *ℤ pos (per_unit F))) (per_unit F);
}
