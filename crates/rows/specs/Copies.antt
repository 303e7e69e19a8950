-- The copies of one row: its weights and what they are multiplied by, rounded within their distances, as fractions over the fineness q.
use Rattle.std.specs.Prelude.{◌≡◌, ℕ, ◌*◌, List, [], ◌∷◌, ℤ, pos, ◌+ℤ◌, ◌*ℤ◌}
use Rattle.rounding.specs.Numbers.{Near, Over, per_unit}
use Rattle.rounding.specs.declared.interval.Interval.{Interval}

-- there are as many in ys as in xs, and R holds of the two at each place
pub data Pairs {A B : Type 0} (R : A → B → Type 0) : List A → List B → Type 0 where
  none : Pairs R [] []
  more : {x : A} {y : B} {xs : List A} {ys : List B} → R x y → Pairs R xs ys → Pairs R (x ∷ xs) (y ∷ ys)

-- the sum over j of w_j z_j
abbrev pub dot : List ℤ → List ℤ → ℤ
dot [] zs = pos 0
dot (w ∷ ws) [] = pos 0
dot (w ∷ ws) (z ∷ zs) = (w *ℤ z) +ℤ dot ws zs

-- numbers over q, each within e of its number in xs
abbrev pub AllNear : (q e : ℕ) → List ℤ → List ℤ → Type 0
AllNear q e = Pairs (λ x y. Near (pos (q * e)) (pos q *ℤ x) y)

-- numbers over q, each within its interval
abbrev pub Held : ℕ → List Interval → List ℤ → Type 0
Held q = Pairs (λ a z. Over q a.low a.high z)

-- h is the numerator, over q * q * 2^F, of the row in a copy of fineness q whose activations are zs
pub record RowCopy (q F e_w : ℕ) (ws : List ℤ) (b : ℤ) (zs : List ℤ) (h : ℤ) : Type 0 where
  pub weights : List ℤ
  pub near : AllNear q e_w ws weights
  pub numerator : h ≡ dot weights zs +ℤ (pos (q * q * per_unit F) *ℤ b)
