-- What a row's bounds stand for, in a kind that means k.
use Rattle.std.specs.Prelude.{◌≡◌, ℕ, ◌*◌, ◌≤◌, List, map, ℤ, pos, ◌+ℤ◌, ◌*ℤ◌}
use Rattle.rounding.specs.Numbers.{Over, per_unit}
use Rattle.bounds.specs.Kinds.{Meanings}
use Rattle.rounding.specs.declared.interval.Interval.{Interval}
use Rattle.rows.specs.Sums.{spread, row_bounds, RowLimits}
use Rattle.rows.specs.Copies.{dot, Held, RowCopy}

-- in every copy, at every fineness, the row lies within its bounds
abbrev pub RowSound : Meanings → Type 0
RowSound k =
    (F e_w : ℕ) (vs : List Interval) (ws : List ℤ) (b : ℤ) → RowLimits e_w vs ws
    → (q : ℕ) → 1 ≤ q → (zs : List ℤ) → Held q vs zs → (h : ℤ) → RowCopy q F e_w ws b zs h
    → Over (q * q * per_unit F) (row_bounds k F e_w vs ws b).low (row_bounds k F e_w vs ws b).high h

-- with no fraction bits and no distances both bounds are the row's own value
abbrev pub RowExact : Meanings → Type 0
RowExact k =
    (ws xs : List ℤ) (b : ℤ) → RowLimits 0 (map (spread 0) xs) ws
    → row_bounds k 0 0 (map (spread 0) xs) ws b ≡ record { low = dot ws xs +ℤ b; high = dot ws xs +ℤ b }

-- there are such copies at every fineness: the row's own numbers, scaled, make one
abbrev pub RowCopied : Type 0
RowCopied =
    (q F e_w e_x : ℕ) (ws xs : List ℤ) (b : ℤ) → let scaled = map (λ x. pos q *ℤ x) in
    Held q (map (spread e_x) xs) (scaled xs) × RowCopy q F e_w ws b (scaled xs) (pos (q * q) *ℤ (dot ws xs +ℤ (b *ℤ pos (per_unit F))))
