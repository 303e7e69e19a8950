use Rattle.std.proofs.Common.{vec_items, ◌∙◌, ap, arith, w16, rules}
use Rattle.std.proofs.lemmas.Int.{to_z-of_z}
use Rattle.stores.specs.Packed.{packed_entries}
use Rattle.stores.specs.HalvesLemmas.{halves_written, packed_written}
use Rattle.stores.proofs.packed.PackedStore.write.Goals as goal

pub returns-clause-written : goal.returns-clause-written
returns-clause-written c =
    let half = c.in_ok-half.half in
    let worth = c.in_ok-half.ensures.worth ∙ to_z-of_z w16 c.args.value c.ranges.value in (
      search rules,
      ap (λ s. packed_entries s.bits (vec_items c.put.new.self.bytes)) c.put.ensures.shift
          ∙ packed_written c.args.self.now.shift.bits (vec_items c.args.self.now.bytes) (vec_items c.put.new.self.bytes) c.args.place half.bits (omega (arith, c.in_ok-half.ensures.inside)) half.four_bits c.put.ensures.bytes c.args.value worth,
    )

pub returns-clause-half : goal.returns-clause-half
returns-clause-half c =
    let half = c.in_ok-half.half in
    let worth = c.in_ok-half.ensures.worth ∙ to_z-of_z w16 c.args.value c.ranges.value in
    (half.bits, worth, halves_written c.args.self.now.shift.bits (vec_items c.args.self.now.bytes) (vec_items c.put.new.self.bytes) c.args.place half.bits (omega (arith, c.in_ok-half.ensures.inside)) half.four_bits c.put.ensures.bytes)
