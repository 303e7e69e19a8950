-- The sizes of the ends that weights and activations have.
-- Assumes nothing.
use Rattle.std.specs.Prelude.{ℕ, ◌*◌, ◌^◌, ◌≤◌, ℤ, pos, neg_ℤ, ◌≤ℤ◌}
use Rattle.std.proofs.Common.{arith}
use Rattle.std.proofs.lemmas.Int.{ints}
use Rattle.rounding.specs.Numbers.{Sized}
use Rattle.rounding.proofs.Machine.{sized_more}
use Rattle.bounds.specs.Kinds.{weight_reach, activation_reach, WeightEnds, ActivationEnds}

-- ends in order, within n of 0
ends_sized : (n : ℕ) (a b : ℤ) → neg_ℤ (pos n) ≤ℤ a → a ≤ℤ b → b ≤ℤ pos n → Sized n a × Sized n b
ends_sized n a b h k l = (record { size = omega (arith, ints) }, record { size = omega (arith, ints) })

pub weight_sized : (a b : ℤ) → WeightEnds a b → Sized weight_reach a × Sized weight_reach b
weight_sized a b h = ends_sized weight_reach a b h.0 h.1 h.2

pub activation_sized : (a b : ℤ) → ActivationEnds a b → Sized activation_reach a × Sized activation_reach b
activation_sized a b h = ends_sized activation_reach a b h.0 h.1 h.2

-- a weight's ends are ones that an activation can have
pub weight_is_activation : (a b : ℤ) → WeightEnds a b → ActivationEnds a b
weight_is_activation a b h = omega (arith, ints)

-- the size of one product
abbrev pub product_size : ℕ
product_size = weight_reach * activation_reach

-- 64 sums, each of up to nine products
pub sums_sized : {n : ℕ} {z : ℤ} → n ≤ 64 → Sized (n * (9 * product_size)) z → Sized (2 ^ 60) z
sums_sized {n} few h = sized_more h (within n few)
  where
    within : (n : ℕ) → n ≤ 64 → n * (9 * product_size) ≤ 2 ^ 60
    within n few = omega arith
