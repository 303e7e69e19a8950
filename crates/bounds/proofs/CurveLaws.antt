-- The four curves keep the laws of a curve.
-- Assumes nothing.
use Rattle.std.proofs.Common.{◌≡◌, ℕ, ◌≤◌, cond, ℤ, pos, ◌*ℤ◌, ◌≤ℤ◌, ◌<ℤ◌, sym, refl, ap, ◌∙◌, mul-le-mul_left, arith}
use lib.Signed.{lt_z, ≤ℤ_refl}
use borrow.Author.Differences.{ints, lt_out, le_out}
use Rattle.std.proofs.lemmas.Int.{clamps, by_lt_z}
use Rattle.std.specs.Int.{int_min, int_max}
use Rattle.rounding.specs.Numbers.{InRange}
use Rattle.bounds.specs.Curves.{FourCurves}
use Rattle.bounds.specs.declared.curve.Curve.TheVariants.{Identity, Relu, Clip, Step}
use Rattle.rounding.proofs.Ring.{linear, mul_pos_le, one_mul_ℤ}

max_left : (x y : ℤ) → y ≤ℤ x → int_max x y ≡ x
max_left x y h = omega (arith, ints, clamps)

max_right : (x y : ℤ) → x ≤ℤ y → int_max x y ≡ y
max_right x y h = omega (arith, ints, clamps)

min_left : (x y : ℤ) → x ≤ℤ y → int_min x y ≡ x
min_left x y h = omega (arith, ints, clamps)

min_right : (x y : ℤ) → y ≤ℤ x → int_min x y ≡ y
min_right x y h = omega (arith, ints, clamps)

lt_le : {x y : ℤ} → x <ℤ y → x ≤ℤ y
lt_le h = omega (arith, ints)

-- a natural times the larger and the lesser of two
pub mul_max : (n : ℕ) (x y : ℤ) → int_max (pos n *ℤ x) (pos n *ℤ y) ≡ pos n *ℤ int_max x y
mul_max n x y =
    by_lt_z x y
    (λ h. max_right _ _ (mul_pos_le n x y (lt_le h)) ∙ ap (λ z. pos n *ℤ z) (sym (max_right x y (lt_le h))))
    (λ h. max_left _ _ (mul_pos_le n y x h) ∙ ap (λ z. pos n *ℤ z) (sym (max_left x y h)))

pub mul_min : (n : ℕ) (x y : ℤ) → int_min (pos n *ℤ x) (pos n *ℤ y) ≡ pos n *ℤ int_min x y
mul_min n x y =
    by_lt_z x y
    (λ h. min_left _ _ (mul_pos_le n x y (lt_le h)) ∙ ap (λ z. pos n *ℤ z) (sym (min_left x y (lt_le h))))
    (λ h. min_right _ _ (mul_pos_le n y x h) ∙ ap (λ z. pos n *ℤ z) (sym (min_right x y h)))

-- the step
below : (m a b : ℤ) → m <ℤ pos 0 → cond (lt_z m (pos 0)) a b ≡ a
below m a b h = grind (arith, ints)

from : (m a b : ℤ) → pos 0 ≤ℤ m → cond (lt_z m (pos 0)) a b ≡ b
from m a b h = grind (arith, ints)

-- a natural of at least 1 keeps the sign
mul_below : (n : ℕ) → 1 ≤ n → (m : ℤ) → m <ℤ pos 0 → (pos n *ℤ m) <ℤ pos 0
mul_below n p m h = let k = mul-le-mul_left n (lt_out m (pos 0) h) in omega (arith, ints)

mul_from : (n : ℕ) (m : ℤ) → pos 0 ≤ℤ m → pos 0 ≤ℤ (pos n *ℤ m)
mul_from n m h = let k = mul-le-mul_left n (le_out (pos 0) m h) in omega (arith, ints)

step_rises : (m n a b : ℤ) → m ≤ℤ n → a ≤ℤ b → cond (lt_z m (pos 0)) a b ≤ℤ cond (lt_z n (pos 0)) a b
step_rises m n a b h k =
    by_lt_z n (pos 0)
    (λ u. rw (below n a b u, below m a b (omega (arith, ints))) (≤ℤ_refl a))
    (λ u. rw (from n a b u) (by_lt_z m (pos 0) (λ v. rw (below m a b v) k) (λ v. rw (from m a b v) (≤ℤ_refl b))))

pub step_scales : (D : ℕ) → 1 ≤ D → (m a b : ℤ) → cond (lt_z (pos D *ℤ m) (pos 0)) (pos D *ℤ a) (pos D *ℤ b) ≡ pos D *ℤ cond (lt_z m (pos 0)) a b
step_scales D p m a b =
    by_lt_z m (pos 0)
    (λ u. below (pos D *ℤ m) _ _ (mul_below D p m u) ∙ ap (λ z. pos D *ℤ z) (sym (below m a b u)))
    (λ u. from (pos D *ℤ m) _ _ (mul_from D m u) ∙ ap (λ z. pos D *ℤ z) (sym (from m a b u)))

step_stays : (m a b : ℤ) → InRange a → InRange b → InRange (cond (lt_z m (pos 0)) a b)
step_stays m a b h k = by_lt_z m (pos 0) (λ u. rw (below m a b u) h) (λ u. rw (from m a b u) k)

pub clip_scales : (D : ℕ) (m a b : ℤ) → int_min (int_max (pos D *ℤ m) (pos D *ℤ a)) (pos D *ℤ b) ≡ pos D *ℤ int_min (int_max m a) b
clip_scales D m a b = ap (λ z. int_min z (pos D *ℤ b)) (mul_max D m a) ∙ mul_min D (int_max m a) b

clip_stays : (m a b : ℤ) → InRange a → InRange b → InRange m → InRange (int_min (int_max m a) b)
clip_stays m a b h k l = omega (arith, ints, clamps)

clip_rises : (m n a b : ℤ) → m ≤ℤ n → int_min (int_max m a) b ≤ℤ int_min (int_max n a) b
clip_rises m n a b h = omega (arith, linear, clamps)

pub relu_scales : (D : ℕ) (m : ℤ) → int_max (pos D *ℤ m) (pos 0) ≡ pos D *ℤ int_max m (pos 0)
relu_scales D m = ap (λ z. int_max (pos D *ℤ m) z) (zero_is D) ∙ mul_max D m (pos 0)
  where
    zero_is : (D : ℕ) → pos 0 ≡ pos D *ℤ pos 0
    zero_is D = omega (arith, ints)

-- over 1 a curve acts on p and r themselves
pub four_curves : FourCurves
four_curves Identity h = record { rises = λ D p m n k. k; scales = λ D p m. refl; stays = λ m k. k }
four_curves Relu h = record {
  rises = λ D p m n k. omega (arith, ints, clamps);
  scales = λ D p m. relu_scales D m;
  stays = λ m k. omega (arith, ints, clamps);
}
four_curves (Clip p r) h = record {
  rises = λ D q m n k. clip_rises m n (pos D *ℤ p) (pos D *ℤ r) k;
  scales = λ D q m. rw (one_mul_ℤ p, one_mul_ℤ r) (clip_scales D m p r);
  stays = λ m k. rw (one_mul_ℤ p, one_mul_ℤ r) (clip_stays m p r h.0 h.1 k);
}
four_curves (Step p r) h = record {
  rises = λ D q m n k. step_rises m n (pos D *ℤ p) (pos D *ℤ r) k (mul_pos_le D p r h.2);
  scales = λ D q m. rw (one_mul_ℤ p, one_mul_ℤ r) (step_scales D q m p r);
  stays = λ m k. rw (one_mul_ℤ p, one_mul_ℤ r) (step_stays m p r h.0 h.1);
}
