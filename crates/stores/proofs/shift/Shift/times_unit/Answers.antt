use Rattle.std.proofs.Common.{◌≡◌, ◌*ℤ◌, arith, w16, SFits, to_z, of_z}
use Rattle.std.proofs.lemmas.Int.{to_z-of_z, ints}
use Rattle.rounding.specs.Numbers.{Weight}
use Rattle.stores.specs.Packed.{scaled}
use Rattle.stores.specs.HalvesLemmas.{scaled_weight, unit_small}
use Rattle.stores.proofs.shift.Shift.times_unit.Goals as goal

-- the machine's product is the product
product : (c : goal.After-unit) → to_z w16 (of_z w16 c.unit.result) *ℤ to_z w16 (of_z w16 c.args.number) ≡ scaled c.args.self.bits c.args.number
product c =
    let unit : SFits w16 c.unit.result = record { sfits = c.unit.type_inv } in
    let number : SFits w16 c.args.number = c.ranges.number in
    simp to_z-of_z (cc)

weight : (c : goal.After-unit) → Weight (scaled c.args.self.bits c.args.number)
weight c = scaled_weight c.args.self.bits c.args.number (unit_small c.args.self.bits c.args.self.small) c.requires

pub overflow_mul-result : goal.overflow_mul-result
overflow_mul-result c = let w = weight c in rw (product c) (omega (arith, ints))

pub returns : goal.returns
returns c = let w = weight c in rw (product c) (omega (arith, ints))
