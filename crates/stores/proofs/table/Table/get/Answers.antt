use Rattle.std.proofs.Common.{◌≡◌, get_or, sym, ◌∙◌, None, rules, tests}
use Rattle.std.specs.Option.{option_map}
use Rattle.stores.proofs.Tables.{slot_value}
use Rattle.stores.proofs.table.Table.get.Goals as goal

pub returns : goal.returns
returns c =
    let slots = c.args.self.now.slots in
    let told = c.in_ok-slot.ensures in
    let value : c.map.result ≡ option_map (λ x. x.value) (get_or slots c.in_ok-slot.slot None) = search (rules, tests) in
    value ∙ sym (slot_value c.args.place c.in_ok-slot.slot slots told.0 told.1)
