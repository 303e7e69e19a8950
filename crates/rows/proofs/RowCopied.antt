-- A row's own numbers, scaled by the fineness, are a copy of it.
-- Assumes nothing.
use Rattle.std.proofs.Common.{◌≡◌, ℕ, ◌*◌, List, [], ◌∷◌, map, ℤ, pos, ◌+ℤ◌, ◌*ℤ◌, sym, ap, ◌∙◌, ap₂, arith}
use Rattle.rounding.specs.Numbers.{Near, per_unit}
use Rattle.rounding.proofs.Ring.{linear, mul_add_ℤ, mul_swap_ℤ}
use Rattle.rows.specs.Sums.{spread}
use Rattle.rows.specs.Copies.{none, more, dot, AllNear, Held}
use Rattle.rows.specs.Claims.{RowCopied}
use Rattle.rows.proofs.RowSound.{near_over, scaled_bias}

module _ (q : ℕ) where
  abbrev scaled : List ℤ → List ℤ
  scaled = map (λ x. pos q *ℤ x)

  itself : (e : ℕ) (x : ℤ) → Near (pos e) x x
  itself e x = omega (arith, linear)

  scaled_near : (e : ℕ) (xs : List ℤ) → AllNear q e xs (scaled xs)
  scaled_near e [] = none
  scaled_near e (x ∷ xs) = more (itself (q * e) (pos q *ℤ x)) (scaled_near e xs)

  scaled_held : (e : ℕ) (xs : List ℤ) → Held q (map (spread e) xs) (scaled xs)
  scaled_held e [] = none
  scaled_held e (x ∷ xs) = more (near_over q e x (pos q *ℤ x) (itself (q * e) (pos q *ℤ x))) (scaled_held e xs)

  nothing : pos 0 ≡ pos (q * q) *ℤ pos 0
  nothing = ap pos (omega arith)

  dot_scaled : (ws xs : List ℤ) → dot (scaled ws) (scaled xs) ≡ pos (q * q) *ℤ dot ws xs
  dot_scaled [] xs = nothing
  dot_scaled (w ∷ ws) [] = nothing
  dot_scaled (w ∷ ws) (x ∷ xs) =
      ap₂ ◌+ℤ◌ (mul_swap_ℤ (pos q) w (pos q) x) (dot_scaled ws xs) ∙ sym (mul_add_ℤ (pos (q * q)) (w *ℤ x) (dot ws xs))

pub row_copied : RowCopied
row_copied q F e_w e_x ws xs b = (scaled_held q e_x xs, record { weights = scaled q ws; near = scaled_near q e_w ws; numerator = scaled_bias (q * q) (per_unit F) (dot ws xs) b ∙ ap (λ x. x +ℤ pos (q * q * per_unit F) *ℤ b) (sym (dot_scaled q ws xs)) })
