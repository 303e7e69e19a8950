use Rattle.std.proofs.Common.{◌≡◌, rules, tests}
use Rattle.stores.specs.Tables.{slot_with}
use Rattle.stores.proofs.Tables.{filled_apart, filled_changed, filled_weights}
use Rattle.stores.proofs.table.Table.fill.Goals as goal

pub invariant_of-self : goal.invariant_of-self
invariant_of-self c =
    let self = c.args.self.now in
    let place = c.args.place in
    let value = c.args.value in
    let kept : c.map.result ≡ slot_with place value = search (rules, tests) in
    record {
      apart = rw kept (filled_apart place c.args.slot self.slots value c.requires self.apart);
      weights = rw kept (filled_weights place c.args.slot self.slots value c.requires self.weights (λ n e. search rules));
    }

pub returns : goal.returns
returns c =
    let kept : c.map.result ≡ slot_with c.args.place c.args.value = search (rules, tests) in
    rw kept (filled_changed c.args.place c.args.slot c.args.self.now.slots c.args.value c.requires)
