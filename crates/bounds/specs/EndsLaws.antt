-- Kind 0 keeps the laws of a kind.
-- Assumes nothing.
use Rattle.std.specs.Prelude.{◌≡◌, ℕ, ◌+◌, ◌*◌, ◌^◌, ◌≤◌, ℤ, pos, ◌+ℤ◌, ◌*ℤ◌, ◌≤ℤ◌, refl}
use Rattle.std.proofs.Common.{arith}
use Rattle.std.specs.Int.Signed.{≤ℤ_refl}
use Rattle.std.proofs.lemmas.Int.{clamps, ints}
use Rattle.rounding.specs.Intervals.{Within, from_to}
use Rattle.rounding.specs.Numbers.{Over, Sized}
use Rattle.rounding.proofs.Ring.{mul_pos_le, mul_swap_ℤ, mul_add_ℤ, corners_below, corners_above}
use Rattle.rounding.proofs.Machine.{sized_mul, sized_add, sized_more}
use Rattle.bounds.specs.Kinds.{KindLaws, Running, begun, added}
use Rattle.bounds.specs.Ends.{least_of, greatest_of, products, ends_meanings}
use Rattle.rounding.specs.declared.interval.Interval.{Interval}
use Rattle.bounds.specs.Sizes.{weight_sized, activation_sized, product_size, sums_sized}

-- ---- the least and the greatest of four
least_below : (x y z w : ℤ) → (least_of x y z w ≤ℤ x) × (least_of x y z w ≤ℤ y) × (least_of x y z w ≤ℤ z) × (least_of x y z w ≤ℤ w)
least_below x y z w = omega (arith, ints, clamps)

greatest_above : (x y z w : ℤ) → (x ≤ℤ greatest_of x y z w) × (y ≤ℤ greatest_of x y z w) × (z ≤ℤ greatest_of x y z w) × (w ≤ℤ greatest_of x y z w)
greatest_above x y z w = omega (arith, ints, clamps)

least_point : (z : ℤ) → least_of z z z z ≡ z
least_point z = omega (arith, ints, clamps)

greatest_point : (z : ℤ) → greatest_of z z z z ≡ z
greatest_point z = omega (arith, ints, clamps)

pub least_sized : {n : ℕ} {x y z w : ℤ} → Sized n x → Sized n y → Sized n z → Sized n w → Sized n (least_of x y z w)
least_sized {n} {x} {y} {z} {w} h₁ h₂ h₃ h₄ = record { size = omega (arith, ints, clamps) }

pub greatest_sized : {n : ℕ} {x y z w : ℤ} → Sized n x → Sized n y → Sized n z → Sized n w → Sized n (greatest_of x y z w)
greatest_sized {n} {x} {y} {z} {w} h₁ h₂ h₃ h₄ = record { size = omega (arith, ints, clamps) }

-- ---- products of two numbers, each within a scaled interval
module _ (u v : Interval) where
  -- the sizes of the least and the greatest product
  pub products_sized : {m n : ℕ} → Sized m u.low × Sized m u.high → Sized n v.low × Sized n v.high
      → Sized (m * n) (products u v).low × Sized (m * n) (products u v).high
  products_sized h k = (
    least_sized (sized_mul h.0 k.0) (sized_mul h.0 k.1) (sized_mul h.1 k.0) (sized_mul h.1 k.1),
    greatest_sized (sized_mul h.0 k.0) (sized_mul h.0 k.1) (sized_mul h.1 k.0) (sized_mul h.1 k.1),
  )

  module _ (q : ℕ) (x y : ℤ) (in_u : Over q u.low u.high x) (in_v : Over q v.low v.high y) where
    -- a bound of the product of two ends, scaled by the square
    scaled_below : (l a c : ℤ) → l ≤ℤ (a *ℤ c) → (pos (q * q) *ℤ l) ≤ℤ (pos q *ℤ a *ℤ (pos q *ℤ c))
    scaled_below l a c h = rw (mul_swap_ℤ (pos q) a (pos q) c) (mul_pos_le (q * q) l (a *ℤ c) h)

    scaled_above : (l a c : ℤ) → (a *ℤ c) ≤ℤ l → (pos q *ℤ a *ℤ (pos q *ℤ c)) ≤ℤ (pos (q * q) *ℤ l)
    scaled_above l a c h = rw (mul_swap_ℤ (pos q) a (pos q) c) (mul_pos_le (q * q) (a *ℤ c) l h)

    product_below : (pos (q * q) *ℤ (products u v).low) ≤ℤ (x *ℤ y)
    product_below =
        let l = (products u v).low in
        let k = least_below (u.low *ℤ v.low) (u.low *ℤ v.high) (u.high *ℤ v.low) (u.high *ℤ v.high) in
        corners_below (pos q *ℤ u.low) (pos q *ℤ u.high) (pos q *ℤ v.low) (pos q *ℤ v.high) x y (pos (q * q) *ℤ l) in_u.0 in_u.1 in_v.0 in_v.1
        (scaled_below l u.low v.low k.0) (scaled_below l u.low v.high k.1) (scaled_below l u.high v.low k.2) (scaled_below l u.high v.high k.3)

    product_above : (x *ℤ y) ≤ℤ (pos (q * q) *ℤ (products u v).high)
    product_above =
        let l = (products u v).high in
        let k = greatest_above (u.low *ℤ v.low) (u.low *ℤ v.high) (u.high *ℤ v.low) (u.high *ℤ v.high) in
        corners_above (pos q *ℤ u.low) (pos q *ℤ u.high) (pos q *ℤ v.low) (pos q *ℤ v.high) x y (pos (q * q) *ℤ l) in_u.0 in_u.1 in_v.0 in_v.1
        (scaled_above l u.low v.low k.0) (scaled_above l u.low v.high k.1) (scaled_above l u.high v.low k.2) (scaled_above l u.high v.high k.3)

-- sums of scaled bounds
add_below : (m : ℕ) (a b s p : ℤ) → (pos m *ℤ a) ≤ℤ s → (pos m *ℤ b) ≤ℤ p → (pos m *ℤ (a +ℤ b)) ≤ℤ (s +ℤ p)
add_below m a b s p h k = rw (mul_add_ℤ (pos m) a b) (omega (arith, ints))

add_above : (m : ℕ) (a b s p : ℤ) → s ≤ℤ (pos m *ℤ a) → p ≤ℤ (pos m *ℤ b) → (s +ℤ p) ≤ℤ (pos m *ℤ (a +ℤ b))
add_above m a b s p h k = rw (mul_add_ℤ (pos m) a b) (omega (arith, ints))

-- ---- the sizes of running sums
sum_sized : {n : ℕ} {s : Interval} → Running ends_meanings n s → Sized (n * product_size) s.low × Sized (n * product_size) s.high × (n ≤ 64)
sum_sized begun = (record { size = omega arith }, record { size = omega arith }, omega arith)
sum_sized (added {n} {s} h l a b wab c d acd) =
    let i = sum_sized h in
    let p = products_sized (from_to a b) (from_to c d) (weight_sized a b wab) (activation_sized c d acd) in
    (sized_more (sized_add i.0 p.0) (next n), sized_more (sized_add i.1 p.1) (next n), omega arith)
  where
    next : (n : ℕ) → n * product_size + product_size ≤ (n + 1) * product_size
    next n = omega arith

nine : (n : ℕ) → n * product_size ≤ n * (9 * product_size)
nine n = omega arith

pub ends_laws : KindLaws ends_meanings
ends_laws = record {
  number_below = omega arith;
  makes_low = λ a b h. ≤ℤ_refl a;
  makes_high = λ a b h. ≤ℤ_refl b;
  starts_low = refl;
  starts_high = refl;
  encloses = λ n s h l a b wab c d acd q p x u v ox ou ov.
      let e = from_to a b in
      let f = from_to c d in (
        add_below (q * q) s.low (products e f).low x (u *ℤ v) ox.0 (product_below e f q u v ou ov),
        add_above (q * q) s.high (products e f).high x (u *ℤ v) ox.1 (product_above e f q u v ou ov),
      );
  point_low = λ a h. refl;
  point_high = λ a h. refl;
  point_adds = λ n s h l x a c wa ac lo hi. (rw (lo, least_point (a *ℤ c)) refl, rw (hi, greatest_point (a *ℤ c)) refl);
  sum_low_sized = λ n s h. let i = sum_sized h in sums_sized i.2 (sized_more i.0 (nine n));
  sum_high_sized = λ n s h. let i = sum_sized h in sums_sized i.2 (sized_more i.1 (nine n));
}

-- both ends of a running sum
pub sum_within : {n : ℕ} {s : Interval} → Running ends_meanings n s → Within (2 ^ 60) s
sum_within {n} {s} h = (ends_laws.sum_low_sized n s h, ends_laws.sum_high_sized n s h)
