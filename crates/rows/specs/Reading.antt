-- Reading a row from a list of numbers.
use Rattle.std.specs.Prelude.{◌≡◌, List, ℤ, Ok, Err, Result}
use Rattle.rows.specs.Numbers.{Refused, Written, bits_of, weight_distance_of, value_distance_of, bias_of, weights_of, values_of}
use Rattle.rows.specs.declared.fault.RowFault.{RowFault}
use Rattle.rows.specs.declared.row.Row.{Row}

-- the row has the parts that the numbers write
pub record IsRowOf (ns : List ℤ) (row : Row) : Type 0 where
  pub bits : row.scale.bits ≡ bits_of ns
  pub weight_distance : row.weight_distance ≡ weight_distance_of ns
  pub value_distance : row.value_distance ≡ value_distance_of ns
  pub bias : row.bias ≡ bias_of ns
  pub weights : row.weights.now ≡ weights_of ns
  pub values : row.values.now ≡ values_of ns

-- the answer is the row that the numbers write, or why they write none
abbrev pub Reads : List ℤ → Result Row RowFault → Type 0
Reads ns (Ok row) = Written ns × IsRowOf ns row
Reads ns (Err e) = Refused ns e
