-- A bound kind: what its elements and its running sums mean, and the laws that it keeps.
use Rattle.std.specs.Prelude.{◌≡◌, ℕ, ◌+◌, ◌*◌, ◌^◌, ◌<◌, ◌≤◌, ℤ, pos, ◌+ℤ◌, ◌*ℤ◌, neg_ℤ, ◌≤ℤ◌}
use Rattle.rounding.specs.Numbers.{Over, Sized}
use Rattle.rounding.specs.Intervals.{rounded_outward}

-- how far from 0 an end of a weight can be: a weight of 16 bits and a distance of at most 32,767
abbrev pub weight_reach : ℕ
weight_reach = 65535

-- and an end of an activation: a number in range and a distance of at most 65,535
abbrev pub activation_reach : ℕ
activation_reach = 1073807358

-- the ends that a weight can have
abbrev pub WeightEnds : ℤ → ℤ → Type 0
WeightEnds a b = (neg_ℤ (pos weight_reach) ≤ℤ a) × (a ≤ℤ b) × (b ≤ℤ pos weight_reach)

-- the ends that an activation can have; those of a weight are among them
abbrev pub ActivationEnds : ℤ → ℤ → Type 0
ActivationEnds a b = (neg_ℤ (pos activation_reach) ≤ℤ a) × (a ≤ℤ b) × (b ≤ℤ pos activation_reach)

-- what a kind means: its number, the values of its elements and of its running sums, the ends that each value fixes, and MAKE, START and ADD on values
pub record Meanings : Type 1 where
  pub number : ℕ
  pub Element : Type 0
  pub Sum : Type 0
  pub low : Element → ℤ
  pub high : Element → ℤ
  pub sum_low : Sum → ℤ
  pub sum_high : Sum → ℤ
  pub makes : ℤ → ℤ → Element
  pub starts : Sum
  pub adds : Sum → Element → Element → Sum

-- u is the element of a weight
abbrev pub WeightElement : (k : Meanings) → k.Element → Type 0
WeightElement k u = (a b : ℤ) × WeightEnds a b × (u ≡ k.makes a b)

-- v is the element of an activation
abbrev pub ActivationElement : (k : Meanings) → k.Element → Type 0
ActivationElement k v = (c d : ℤ) × ActivationEnds c d × (v ≡ k.makes c d)

-- s is the running sum of n products, each of a weight and an activation; a kind serves 64 of them
pub data Running (k : Meanings) : ℕ → k.Sum → Type 0 where
  begun : Running k 0 k.starts
  added : {n : ℕ} {s : k.Sum} → Running k n s → n < 64 → (a b : ℤ) → WeightEnds a b → (c d : ℤ) → ActivationEnds c d
      → Running k (n + 1) (k.adds s (k.makes a b) (k.makes c d))

-- CLOSE: the low and the high of a row with the bias b, in whole units
abbrev pub closes : (k : Meanings) → k.Sum → ℤ → ℕ → ℤ × ℤ
closes k s b F = let a = rounded_outward (k.sum_low s) (k.sum_high s) b F in (a.low, a.high)

-- the laws of a bound kind
pub record KindLaws (k : Meanings) : Type 0 where
  pub number_below : k.number < 128
  -- MAKE encloses both of its numbers
  pub makes_low : (a b : ℤ) → ActivationEnds a b → k.low (k.makes a b) ≤ℤ a
  pub makes_high : (a b : ℤ) → ActivationEnds a b → b ≤ℤ k.high (k.makes a b)
  -- START has both ends 0
  pub starts_low : k.sum_low k.starts ≡ pos 0
  pub starts_high : k.sum_high k.starts ≡ pos 0
  -- ADD: where x, u and v lie within a sum and two elements, x + u * v lies within the new sum, as fractions over q * q, q and q
  pub encloses : (n : ℕ) (s : k.Sum) → Running k n s → n < 64 → (a b : ℤ) → WeightEnds a b → (c d : ℤ) → ActivationEnds c d
      → (q : ℕ) → 1 ≤ q → (x u v : ℤ) → Over (q * q) (k.sum_low s) (k.sum_high s) x
      → Over q (k.low (k.makes a b)) (k.high (k.makes a b)) u → Over q (k.low (k.makes c d)) (k.high (k.makes c d)) v
      → let t = k.adds s (k.makes a b) (k.makes c d) in Over (q * q) (k.sum_low t) (k.sum_high t) (x +ℤ (u *ℤ v))
  -- points stay points
  pub point_low : (a : ℤ) → ActivationEnds a a → k.low (k.makes a a) ≡ a
  pub point_high : (a : ℤ) → ActivationEnds a a → k.high (k.makes a a) ≡ a
  pub point_adds : (n : ℕ) (s : k.Sum) → Running k n s → n < 64 → (x a c : ℤ) → WeightEnds a a → ActivationEnds c c
      → k.sum_low s ≡ x → k.sum_high s ≡ x
      → let t = k.adds s (k.makes a a) (k.makes c c) in (k.sum_low t ≡ x +ℤ (a *ℤ c)) × (k.sum_high t ≡ x +ℤ (a *ℤ c))
  -- the ends stay within 2^60
  pub sum_low_sized : (n : ℕ) (s : k.Sum) → Running k n s → Sized (2 ^ 60) (k.sum_low s)
  pub sum_high_sized : (n : ℕ) (s : k.Sum) → Running k n s → Sized (2 ^ 60) (k.sum_high s)

-- a kind with its laws
pub record Kind : Type 1 where
  pub means : Meanings
  pub laws : KindLaws means
