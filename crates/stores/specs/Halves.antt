-- The two halves of one byte.
use Rattle.std.specs.Prelude.{ℕ, ◌+◌, ◌*◌, ◌/◌, ◌%◌, if◌then◌else◌, ◌==◌}

-- the half of the byte b that an even or an odd place has
abbrev pub half_at : ℕ → ℕ → ℕ
half_at b p = if p % 2 == 0 then b % 16 else b / 16 % 16

-- the byte b with another half there
abbrev pub with_half : ℕ → ℕ → ℕ → ℕ
with_half b p h = if p % 2 == 0 then b / 16 % 16 * 16 + h else h * 16 + b % 16
