use Rattle.std.proofs.Common.{rules, tests}
use Rattle.stores.proofs.Tables.{seat_for}
use Rattle.stores.proofs.table.Table.seat.Goals as goal

pub returns : goal.returns
returns c = seat_for c.args.place c.args.self.now.slots (search rules) c.own_slot.result c.or_else.result c.own_slot.ensures c.or_else.ensures (λ k. search (rules, tests))
