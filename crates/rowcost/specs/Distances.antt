-- What a row comes to in the two kinds, with the distances that are written in it or with others.
use Rattle.std.specs.Prelude.{List, ℤ, slice_set}
use Rattle.bounds.specs.Centred.{centred_meanings}
use Rattle.bounds.specs.Ends.{ends_meanings}
use Rattle.rowcost.specs.declared.report.BothKinds.{BothKinds}
use Rattle.rowcost.specs.declared.report.Distances.{Distances}
use Rattle.rows.specs.Numbers.{written_bounds}

-- the numbers of a row with these distances in the place of its own
abbrev pub with_distances : List ℤ → Distances → List ℤ
with_distances ns d = slice_set (slice_set ns 1 d.weights) 2 d.values

-- the bounds, in each of the two kinds, of the row that is written in these numbers
abbrev pub both_bounds : List ℤ → BothKinds
both_bounds ns = record {
  ends = written_bounds ends_meanings ns;
  centred = written_bounds centred_meanings ns;
}
