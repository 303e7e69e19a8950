-- Kind 0: a low and a high end.
use Rattle.std.specs.Prelude.{ℤ, pos, ◌+ℤ◌, ◌*ℤ◌}
use Rattle.std.specs.Int.{int_min, int_max}
use Rattle.bounds.specs.Kinds.{Meanings}
use Rattle.rounding.specs.declared.interval.Interval.{Interval}

-- the least of four numbers
abbrev pub least_of : ℤ → ℤ → ℤ → ℤ → ℤ
least_of x y z w = int_min (int_min x y) (int_min z w)

-- the greatest of four numbers
abbrev pub greatest_of : ℤ → ℤ → ℤ → ℤ → ℤ
greatest_of x y z w = int_max (int_max x y) (int_max z w)

-- the least and the greatest of the four products of an end of u and an end of v
abbrev pub products : Interval → Interval → Interval
products u v = record {
  low = least_of (u.low *ℤ v.low) (u.low *ℤ v.high) (u.high *ℤ v.low) (u.high *ℤ v.high);
  high = greatest_of (u.low *ℤ v.low) (u.low *ℤ v.high) (u.high *ℤ v.low) (u.high *ℤ v.high);
}

-- an interval keeps its ends; ADD moves each end by the least and by the greatest product
abbrev pub ends_meanings : Meanings
ends_meanings = record {
  number = 0;
  Element = Interval;
  Sum = Interval;
  low = λ u. u.low;
  high = λ u. u.high;
  sum_low = λ s. s.low;
  sum_high = λ s. s.high;
  makes = λ a b. record { low = a; high = b };
  starts = record { low = pos 0; high = pos 0 };
  adds = λ s u v. record { low = s.low +ℤ (products u v).low; high = s.high +ℤ (products u v).high };
}
