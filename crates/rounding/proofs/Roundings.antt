-- Division rounded down and up: that it is what it says, and what it keeps of a scaled bound.
-- Assumes nothing.
use Rattle.std.proofs.Common.{◌≡◌, ℕ, ◌*◌, ◌≤◌, ℤ, pos, negsuc, ◌+ℤ◌, ◌*ℤ◌, neg_ℤ, ◌≤ℤ◌, ◌<ℤ◌, ap, ◌∙◌, mod-lt, mul-le-mul_left, div-add-mod', div-le_self, arith, pow_pos}
use lib.IntN.{neg_ℤ-neg_ℤ}
use borrow.Author.Differences.{ints, lt_out}
use Rattle.std.proofs.lemmas.Int.{by_lt_z}
use Rattle.rounding.specs.Numbers.{RoundedDown, RoundedUp, Sized, per_unit, floor_over, ceiling_over}
use Rattle.rounding.proofs.Ring.{linear, ≤ℤ_trans, mul_pos_le, mul_assoc_ℤ, mul_neg_ℤ, mul_add_ℤ, mul_sub_ℤ}

pub per_unit_positive : (F : ℕ) → 1 ≤ per_unit F
per_unit_positive F = pow_pos F

within_one : (z : ℤ) (d : ℕ) → 1 ≤ d → ((pos d *ℤ floor_over z d) ≤ℤ z) × (z <ℤ (pos d *ℤ floor_over z d +ℤ pos d))
within_one (pos a) d p = let s = div-add-mod' a d in let l = mod-lt a p in omega (arith, ints)
within_one (negsuc a) d p = let s = div-add-mod' a d in let l = mod-lt a p in omega (arith, ints)

mul_one : (d : ℕ) → pos d *ℤ pos 1 ≡ pos d
mul_one d = omega (arith, ints)

pub floor_is : (z : ℤ) (d : ℕ) → 1 ≤ d → RoundedDown z d (floor_over z d)
floor_is z d p =
    let h = within_one z d p in
    record { not_above = h.0; greatest = omega (arith, linear, mul_add_ℤ (pos d) (floor_over z d) (pos 1), mul_one d) }

pub ceiling_is : (z : ℤ) (d : ℕ) → 1 ≤ d → RoundedUp z d (ceiling_over z d)
ceiling_is z d p =
    let h = within_one (neg_ℤ z) d p in
    let n = mul_neg_ℤ (pos d) (floor_over (neg_ℤ z) d) in
    record {
      not_below = omega (arith, linear);
      least = omega (arith, linear, mul_sub_ℤ (pos d) (ceiling_over z d) (pos 1), mul_one d);
    }

-- a bound of n times x is one of n * d times x / d, rounded down or up
pub floor_keeps : (n d : ℕ) → 1 ≤ d → (x h : ℤ) → (pos n *ℤ x) ≤ℤ h → (pos (n * d) *ℤ floor_over x d) ≤ℤ h
floor_keeps n d p x h k =
    ≤ℤ_trans (rw (mul_assoc_ℤ (pos n) (pos d) (floor_over x d)) (mul_pos_le n (pos d *ℤ floor_over x d) x (floor_is x d p).not_above)) k

pub ceiling_keeps : (n d : ℕ) → 1 ≤ d → (x h : ℤ) → h ≤ℤ (pos n *ℤ x) → h ≤ℤ (pos (n * d) *ℤ ceiling_over x d)
ceiling_keeps n d p x h k =
    ≤ℤ_trans k (rw (mul_assoc_ℤ (pos n) (pos d) (ceiling_over x d)) (mul_pos_le n x (pos d *ℤ ceiling_over x d) (ceiling_is x d p).not_below))

-- a factor of at least 1 is taken off both sides
pub cancel_le : (n : ℕ) → 1 ≤ n → (x y : ℤ) → (pos n *ℤ x) ≤ℤ (pos n *ℤ y) → x ≤ℤ y
cancel_le n p x y h = by_lt_z y x (λ k. absurd (apart n p x y h k)) (λ k. k)
  where
    apart : (n : ℕ) → 1 ≤ n → (x y : ℤ) → (pos n *ℤ x) ≤ℤ (pos n *ℤ y) → y <ℤ x → ⊥
    apart n p x y h k = let m = mul-le-mul_left n (lt_out y x k) in omega (arith, ints)

-- no further from 0
pub floor_sized : {n : ℕ} {z : ℤ} (d : ℕ) → Sized n z → Sized n (floor_over z d)
floor_sized {z = pos a} d h = record { size = let k = div-le_self a d in omega (arith, h.size) }
floor_sized {z = negsuc a} d h = record { size = let k = div-le_self a d in omega (arith, h.size) }

-- over 1 there is nothing to round
pub floor_one : (z : ℤ) → floor_over z 1 ≡ z
floor_one (pos a) = ap pos (omega arith)
floor_one (negsuc a) = ap negsuc (omega arith)

pub ceiling_one : (z : ℤ) → ceiling_over z 1 ≡ z
ceiling_one z = ap neg_ℤ (floor_one (neg_ℤ z)) ∙ neg_ℤ-neg_ℤ z
