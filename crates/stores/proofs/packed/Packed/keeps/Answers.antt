use Rattle.stores.specs.HalvesLemmas.{packable_decides}
use Rattle.stores.proofs.packed.Packed.keeps.Goals as goal

pub returns-clause-test : goal.returns-clause-test
returns-clause-test c = packable_decides
