use Rattle.std.proofs.Common.{◌≡◌, pos, ◌+ℤ◌, ◌-ℤ◌, arith, rules}
use Rattle.std.proofs.lemmas.Int.{ints}
use Rattle.bounds.specs.Kinds.{WeightEnds, ActivationEnds, added}
use Rattle.rows.specs.Sums.{column, spread}
use Rattle.rows.proofs.row.Row.with_column.Goals as goal

pub add-requires-clause-weight : goal.add-requires-clause-weight
add-requires-clause-weight g c = let near = c.args.self.now.near in (_, _, omega (arith, ints), c.element-weight.ensures)

pub add-requires-clause-activation : goal.add-requires-clause-activation
add-requires-clause-activation g c = (_, _, omega (arith, ints), c.element-value.ensures)

pub returns-clause-running : goal.returns-clause-running
returns-clause-running g c n few run =
    let row = c.args.self.now in
    let e = row.weight_distance in
    let d = row.value_distance in
    let near = row.near in
    let w : WeightEnds (c.args.w -ℤ pos e) (c.args.w +ℤ pos e) = omega (arith, ints) in
    let x : ActivationEnds (c.args.x -ℤ pos d) (c.args.x +ℤ pos d) = omega (arith, ints) in
    let is : g.K.BoundKind.sum c.add.result ≡ column g.K.BoundKind.means e (g.K.BoundKind.sum c.args.so_far) c.args.w (spread d c.args.x) = search rules in
    rw is (added run few _ _ w _ _ x)
