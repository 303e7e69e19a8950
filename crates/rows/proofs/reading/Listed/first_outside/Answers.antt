use Rattle.std.proofs.Common.{rules, tests}
use Rattle.std.proofs.lemmas.Iterator.{YieldsList-from_slice, IsFirst-from_position}
use Rattle.std.proofs.lemmas.Iterator.Consumers.{YieldsList-from_enumerate}
use Rattle.rows.proofs.Parts.{Allowed, first_is}
use Rattle.rows.proofs.reading.Listed.first_outside.Goals as goal

pub returns : goal.returns
returns c =
    let ns = c.args.self.now.numbers.now in
    let split = c.args.self.now.split in
    first_is ns c.position.result
    (IsFirst-from_position _ _ c.position.result (λ p. Allowed ns p → ⊥) (Allowed ns) c.position.ensures.ran
    (YieldsList-from_enumerate (YieldsList-from_slice ns (cc)) c.enumerate.ensures.count)
    (λ x q k. search (rules, tests))
    (λ x q k. search (rules, tests)))
