-- A row as a list of numbers: the fraction bits, the distance of the weights, the distance of the values, the bias, then the weights, then as many values.
use Rattle.std.specs.Prelude.{◌≡◌, ℕ, ◌+◌, ◌-◌, ◌*◌, ◌/◌, ◌<◌, ◌≤◌, List, map, length, take, drop, ℤ, pos, neg_ℤ, ◌==◌, nat_lt, if◌then◌else◌, slice_index_or, unsigned_abs}
use Rattle.rounding.specs.Intervals.{from_to}
use Rattle.rounding.specs.Numbers.{Between, largest}
use Rattle.bounds.specs.Kinds.{Meanings}
use Rattle.rounding.specs.declared.interval.Interval.{Interval}
use Rattle.rows.specs.Sums.{spread, row_bounds, RowLimits}
use Rattle.rows.specs.declared.fault.RowFault.{RowFault}
use Rattle.rows.specs.declared.fault.RowFault.TheVariants.{Count, Limit}

-- how many columns a row has that is written in n numbers
abbrev pub columns_of : ℕ → ℕ
columns_of n = (n - 4) / 2

-- n numbers can write a row: four, and 1 to 64 weights and as many values
abbrev pub Counted : ℕ → Type 0
Counted n = (1 ≤ columns_of n) × (columns_of n ≤ 64) × (n ≡ 4 + 2 * columns_of n)

-- the numbers that may stand at a place
abbrev pub limits : (columns place : ℕ) → Interval
limits columns place =
    if place == 0 then from_to (pos 0) (pos 16)
    else if place == 1 then from_to (pos 0) (pos 32767)
    else if place == 2 then from_to (pos 0) (pos 65535)
    else if place == 3 then from_to (neg_ℤ largest) largest
    else if nat_lt place (4 + columns) then from_to (neg_ℤ (pos 32768)) (pos 32767)
    else from_to (neg_ℤ largest) largest

-- the number at a place is within its limits
abbrev pub FitsAt : List ℤ → ℕ → Type 0
FitsAt ns i = let a = limits (columns_of (length ns)) i in Between a.low a.high (slice_index_or ns i (pos 0))

-- every number is within its limits
abbrev pub AllFit : List ℤ → Type 0
AllFit ns = (i : ℕ) → i < length ns → FitsAt ns i

-- i is the first place whose number is not
abbrev pub FirstOutside : List ℤ → ℕ → Type 0
FirstOutside ns i = (i < length ns) × (FitsAt ns i → ⊥) × ((j : ℕ) → j < i → FitsAt ns j)

-- the numbers write a row
abbrev pub Written : List ℤ → Type 0
Written ns = Counted (length ns) × AllFit ns

-- why they write none: their count, or the first that is outside its limits
abbrev pub Refused : List ℤ → RowFault → Type 0
Refused ns Count = Counted (length ns) → ⊥
Refused ns (Limit i) = Counted (length ns) × FirstOutside ns i

-- the parts of a row that is written
abbrev pub bits_of : List ℤ → ℕ
bits_of ns = unsigned_abs (slice_index_or ns 0 (pos 0))

abbrev pub weight_distance_of : List ℤ → ℕ
weight_distance_of ns = unsigned_abs (slice_index_or ns 1 (pos 0))

abbrev pub value_distance_of : List ℤ → ℕ
value_distance_of ns = unsigned_abs (slice_index_or ns 2 (pos 0))

abbrev pub bias_of : List ℤ → ℤ
bias_of ns = slice_index_or ns 3 (pos 0)

abbrev pub weights_of : List ℤ → List ℤ
weights_of ns = take (columns_of (length ns)) (drop 4 ns)

abbrev pub values_of : List ℤ → List ℤ
values_of ns = drop (4 + columns_of (length ns)) ns

-- what is written keeps the limits of a row
abbrev pub WrittenLimits : Type 0
WrittenLimits = (ns : List ℤ) → Written ns → RowLimits (weight_distance_of ns) (map (spread (value_distance_of ns)) (values_of ns)) (weights_of ns)

-- its bounds, in a kind that means k
abbrev pub written_bounds : Meanings → List ℤ → Interval
written_bounds k ns = row_bounds k (bits_of ns) (weight_distance_of ns) (map (spread (value_distance_of ns)) (values_of ns)) (weights_of ns) (bias_of ns)
