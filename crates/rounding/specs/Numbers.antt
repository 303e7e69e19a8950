-- Whole numbers: their limits, and division rounded outward.
use Rattle.std.specs.Prelude.{ℕ, ◌^◌, ◌≤◌, ℤ, pos, ◌+ℤ◌, ◌-ℤ◌, ◌*ℤ◌, neg_ℤ, ◌≤ℤ◌, ◌<ℤ◌, unsigned_abs}
use Rattle.std.specs.Int.Signed.{shr_z}

-- the limit of an input, a bias, a curve's number and a recorded bound
abbrev pub largest : ℤ
largest = pos 1073741823

-- x lies from low to high, both included
abbrev pub Between : ℤ → ℤ → ℤ → Type 0
Between low high x = (low ≤ℤ x) × (x ≤ℤ high)

-- x is at most `largest` away from 0
abbrev pub InRange : ℤ → Type 0
InRange = Between (neg_ℤ largest) largest

-- a weight keeps to 16 bits
abbrev pub Weight : ℤ → Type 0
Weight = Between (neg_ℤ (pos 32768)) (pos 32767)

-- x is at most d away from y
abbrev pub Near : ℤ → ℤ → ℤ → Type 0
Near d y x = Between (y -ℤ d) (y +ℤ d) x

-- the fraction x / d lies from low to high
abbrev pub Over : ℕ → ℤ → ℤ → ℤ → Type 0
Over d low high x = Between (pos d *ℤ low) (pos d *ℤ high) x

-- there are 0 to 16 fraction bits
abbrev pub FractionBits : ℕ → Type 0
FractionBits F = F ≤ 16

-- z is at most n away from 0
pub record Sized (n : ℕ) (z : ℤ) : Type 0 where
  pub size : unsigned_abs z ≤ n

-- with F fraction bits a unit is 2^-F, and so many of the units of a product of two make one unit
abbrev pub per_unit : ℕ → ℕ
per_unit F = 2 ^ F

-- r is x / d rounded down: the greatest whole number that is not above it
pub record RoundedDown (x : ℤ) (d : ℕ) (r : ℤ) : Type 0 where
  pub not_above : (pos d *ℤ r) ≤ℤ x
  pub greatest : x <ℤ (pos d *ℤ (r +ℤ pos 1))

-- r is x / d rounded up: the least whole number that is not below it
pub record RoundedUp (x : ℤ) (d : ℕ) (r : ℤ) : Type 0 where
  pub not_below : x ≤ℤ (pos d *ℤ r)
  pub least : (pos d *ℤ (r -ℤ pos 1)) <ℤ x

-- x / d rounded down
abbrev pub floor_over : ℤ → ℕ → ℤ
floor_over x d = shr_z x d

-- x / d rounded up
abbrev pub ceiling_over : ℤ → ℕ → ℤ
ceiling_over x d = neg_ℤ (floor_over (neg_ℤ x) d)
