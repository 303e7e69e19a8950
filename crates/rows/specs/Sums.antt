-- One row: what it takes in, its running sum and its bounds.
use Rattle.std.specs.Prelude.{ℕ, ◌≤◌, List, [], ◌∷◌, All, length, ℤ, pos, ◌+ℤ◌, ◌-ℤ◌}
use Rattle.rounding.specs.Numbers.{Weight}
use Rattle.bounds.specs.Kinds.{Meanings, ActivationEnds, closes}
use Rattle.rounding.specs.declared.interval.Interval.{Interval}

-- the interval of a number that is known to within e
abbrev pub spread : ℕ → ℤ → Interval
spread e x = record { low = x -ℤ pos e; high = x +ℤ pos e }

-- intervals that activations can have
abbrev pub Activations : List Interval → Type 0
Activations = All (λ a. ActivationEnds a.low a.high)

-- the running sum s with one column more: the product of the weight w, within e_w, and of the interval a
abbrev pub column : (k : Meanings) (e_w : ℕ) → k.Sum → ℤ → Interval → k.Sum
column k e_w s w a = k.adds s (k.makes (w -ℤ pos e_w) (w +ℤ pos e_w)) (k.makes a.low a.high)

-- the running sum s with the products of the weights, each within e_w, and what they are multiplied by, column by column
abbrev pub summed : (k : Meanings) (e_w : ℕ) → k.Sum → List ℤ → List Interval → k.Sum
summed k e_w s [] vs = s
summed k e_w s (w ∷ ws) [] = s
summed k e_w s (w ∷ ws) (a ∷ vs) =
    summed k e_w (column k e_w s w a) ws vs

-- the bounds of the row with the bias b: MAKE on each pair of ends, START, one ADD a column and CLOSE
abbrev pub row_bounds : (k : Meanings) (F e_w : ℕ) → List Interval → List ℤ → ℤ → Interval
row_bounds k F e_w vs ws b = record {
  low = (closes k (summed k e_w k.starts ws vs) b F).0;
  high = (closes k (summed k e_w k.starts ws vs) b F).1;
}

-- the limits of a row: at most 64 columns, weights of 16 bits, a distance of at most 32,767, and intervals that activations can have
pub record RowLimits (e_w : ℕ) (vs : List Interval) (ws : List ℤ) : Type 0 where
  pub few : length ws ≤ 64
  pub distance : e_w ≤ 32767
  pub weights : All Weight ws
  pub activations : Activations vs
