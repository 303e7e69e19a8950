use Rattle.std.proofs.Common.{◌≡◌, map, length}
use Rattle.std.specs.Slice.Iter.{iter_rest}
use Rattle.bounds.specs.Kinds.{Running}
use Rattle.rows.specs.Sums.{spread, summed}
use Rattle.rows.proofs.row.Row.sum.Given as goal

-- what is left to add comes to the same sum
abbrev pub invariant-loop-w : goal.invariant-loop-w
invariant-loop-w g l =
    let k = g.K.BoundKind.means in
    let s = g.K.BoundKind.sum l.sum in
    let ws = iter_rest l.w-iterator.a in
    let xs = iter_rest l.w-iterator.b in
    let spread_over = map (spread l.self.value_distance) in
    Running k (length l.yielded) s
    × (summed k l.self.weight_distance s ws (spread_over xs) ≡ summed k l.self.weight_distance k.starts l.self.weights.now (spread_over l.self.values.now))
