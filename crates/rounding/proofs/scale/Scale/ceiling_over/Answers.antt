use Rattle.std.proofs.Common.{rules, ◌≡◌, pos, ◌-ℤ◌, w64, to_z, of_z}
use Rattle.rounding.specs.Numbers.{per_unit, ceiling_over}
use Rattle.rounding.proofs.Roundings.{ceiling_is, per_unit_positive}
use Rattle.rounding.proofs.scale.Scale.ceiling_over.Goals as goal

pub returns-clause-rounded : goal.returns-clause-rounded
returns-clause-rounded c =
    let d = per_unit c.args.self.bits in
    let same : to_z w64 (of_z w64 (pos 0 -ℤ to_z w64 (of_z w64 c.floor_over.result))) ≡ ceiling_over c.args.x d = search rules in
    rw same (ceiling_is c.args.x d (per_unit_positive c.args.self.bits))
