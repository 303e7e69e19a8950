-- Signed numbers as the machine computes them: each goes to its bits and back, which changes nothing where its size fits the width.
-- Assumes nothing.
use Rattle.std.proofs.Common.{◌≡◌, ℕ, ◌+◌, ◌*◌, ◌^◌, ◌<◌, ◌≤◌, ℤ, ◌+ℤ◌, ◌-ℤ◌, ◌*ℤ◌, refl, ◌∙◌, ap₂, le_trans, lt_of_le_of_lt, add-le-add, mul-le-mul, arith, SFits, to_z, of_z}
use mir.Syntax.{Width}
use mir.Val.{hbits}
use Rattle.std.proofs.lemmas.Int.{to_z-of_z, unsigned_abs-mul, fits_signed_from_abs}
use Rattle.rounding.specs.Numbers.{Sized}
use Rattle.rounding.proofs.Ring.{linear, nat_abs_add_le}

-- sizes of products and sums
pub sized_mul : {m n : ℕ} {a c : ℤ} → Sized m a → Sized n c → Sized (m * n) (a *ℤ c)
sized_mul {m} {n} {a} {c} h k = record { size = rw (unsigned_abs-mul a c) (mul-le-mul h.size k.size) }

pub sized_add : {m n : ℕ} {a b : ℤ} → Sized m a → Sized n b → Sized (m + n) (a +ℤ b)
sized_add {a = a} {b = b} h k = record { size = le_trans (nat_abs_add_le a b) (add-le-add h.size k.size) }

pub sized_more : {m n : ℕ} {a : ℤ} → Sized m a → m ≤ n → Sized n a
sized_more h k = record { size = le_trans h.size k }

pub sized_sub : {m n : ℕ} {a b : ℤ} → Sized m a → Sized n b → Sized (m + n) (a -ℤ b)
sized_sub h k = record { size = omega (arith, linear, h.size, k.size) }

-- what the machine computed, x, is the number z, which has the size n
pub record Is (n : ℕ) (x z : ℤ) : Type 0 where
  pub same : x ≡ z
  pub sized : Sized n z

pub plain : {n : ℕ} {z : ℤ} → Sized n z → Is n z z
plain h = record { same = refl; sized = h }

pub product : {m n : ℕ} {x y a b : ℤ} → Is m x a → Is n y b → Is (m * n) (x *ℤ y) (a *ℤ b)
product h k = record { same = ap₂ ◌*ℤ◌ h.same k.same; sized = sized_mul h.sized k.sized }

pub sum : {m n : ℕ} {x y a b : ℤ} → Is m x a → Is n y b → Is (m + n) (x +ℤ y) (a +ℤ b)
sum h k = record { same = ap₂ ◌+ℤ◌ h.same k.same; sized = sized_add h.sized k.sized }

pub difference : {m n : ℕ} {x y a b : ℤ} → Is m x a → Is n y b → Is (m + n) (x -ℤ y) (a -ℤ b)
difference h k = record { same = ap₂ ◌-ℤ◌ h.same k.same; sized = sized_sub h.sized k.sized }

module _ (w : Width) {n : ℕ} {x z : ℤ} (h : Is n x z) (small : n < 2 ^ hbits w) where
  -- it fits the width, and going to its bits and back changes nothing
  pub fits : SFits w x
  fits = rw h.same (fits_signed_from_abs w z (lt_of_le_of_lt h.sized.size small))

  pub back : Is n (to_z w (of_z w x)) z
  back = record { same = to_z-of_z w x fits ∙ h.same; sized = h.sized }
