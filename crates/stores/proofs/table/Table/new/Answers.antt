use Rattle.stores.specs.Overlay.{table_size}
use Rattle.stores.proofs.Tables.{empty_apart, empty_weights}
use Rattle.stores.proofs.table.Table.new.Goals as goal

pub invariant_of-result : goal.invariant_of-result
invariant_of-result c = record { apart = empty_apart table_size; weights = empty_weights table_size }
