use Rattle.std.proofs.Common.{◌≡◌, ℕ, ◌*◌, ◌^◌, ◌<◌, ℤ, ◌*ℤ◌, ap, ◌∙◌, lit<, lit≤, w64, to_z, of_z}
use Rattle.rounding.specs.Numbers.{Sized}
use Rattle.rounding.proofs.Machine.{Is, plain, product, back, sized_more}
use Rattle.bounds.specs.Centred.{abs}
use Rattle.bounds.specs.CentredLaws.{abs_sized}
use Rattle.bounds.proofs.centred.Terms.of.Goals as goal

-- the machine's product of two parts
parts : {m n : ℕ} {x y : ℤ} → Sized m x → Sized n y → m < 2 ^ 63 → n < 2 ^ 63 → Is (m * n) (to_z w64 (of_z w64 x) *ℤ to_z w64 (of_z w64 y)) (x *ℤ y)
parts h k l r = product (back w64 (plain h) l) (back w64 (plain k) r)

-- the same with what `abs` answered of the first
sizes : {m n : ℕ} {x y c : ℤ} → x ≡ abs (to_z w64 (of_z w64 c)) → Sized m c → Sized n y → m < 2 ^ 63 → n < 2 ^ 63
    → Is (m * n) (to_z w64 (of_z w64 x) *ℤ to_z w64 (of_z w64 y)) (abs c *ℤ y)
sizes e h k l r =
    product (back w64 (record { same = e ∙ ap abs (back w64 (plain h) l).same; sized = abs_sized h }) l) (back w64 (plain k) r)

pub returns : goal.returns
returns c =
    let centres = back w64 (parts c.requires.weight.0 c.requires.activation.0 (lit< tt) (lit< tt)) (lit< tt) in
    let first = back w64 (sizes c.abs.ensures.value c.requires.weight.0 c.requires.activation.1 (lit< tt) (lit< tt)) (lit< tt) in
    let second = back w64 (sizes c.abs-2.ensures.value c.requires.activation.0 c.requires.weight.1 (lit< tt) (lit< tt)) (lit< tt) in
    let radii = back w64 (parts c.requires.weight.1 c.requires.activation.1 (lit< tt) (lit< tt)) (lit< tt) in
    record {
      centres = centres.same;
      first = first.same;
      second = second.same;
      radii = radii.same;
      sizes = (
        rw centres.same (sized_more centres.sized (lit≤ tt)),
        rw first.same (sized_more first.sized (lit≤ tt)),
        rw second.same (sized_more second.sized (lit≤ tt)),
        rw radii.same (sized_more radii.sized (lit≤ tt)),
      );
    }
