use Rattle.std.proofs.Common.{◌≡◌, ℕ, ◌*◌, ◌%◌, ◌^◌, ◌≤◌, ℤ, pos, ◌*ℤ◌, arith, lit<, pow_mono, w64, to_z, of_z}
use Rattle.std.proofs.lemmas.Int.{to_z_pos, ints}
use Rattle.rounding.specs.Numbers.{Sized, InRange}
use Rattle.rounding.proofs.Machine.{Is, plain, product, fits, back}
use Rattle.rounding.proofs.scale.Scale.units.Goals as goal

-- the machine's 1 << bits
unit : (bits : ℕ) → bits ≤ 16 → Is (2 ^ 16) (to_z w64 (1 * 2 ^ bits % 2 ^ 64)) (pos (2 ^ bits))
unit bits few =
    let m : 2 ^ bits ≤ 2 ^ 16 = pow_mono few in
    let e : 1 * 2 ^ bits % 2 ^ 64 ≡ 2 ^ bits = omega arith in
    record { same = rw e (to_z_pos w64 (2 ^ bits) (omega arith)); sized = record { size = m } }

ones_sized : (z : ℤ) → InRange z → Sized (2 ^ 30) z
ones_sized z h = record { size = omega (arith, ints) }

-- its product with the ones
whole : (z : ℤ) (bits : ℕ) → InRange z → bits ≤ 16 → Is (2 ^ 46) (to_z w64 (of_z w64 z) *ℤ to_z w64 (1 * 2 ^ bits % 2 ^ 64)) (z *ℤ pos (2 ^ bits))
whole z bits h few = product (back w64 (plain (ones_sized z h)) (lit< tt)) (unit bits few)

pub overflow_mul-result : goal.overflow_mul-result
overflow_mul-result c = fits w64 (whole c.args.ones c.args.self.bits c.requires c.args.self.few) (lit< tt)

pub returns : goal.returns
returns c =
    let found = back w64 (whole c.args.ones c.args.self.bits c.requires c.args.self.few) (lit< tt) in
    record { value = found.same; size = rw found.same found.sized }
