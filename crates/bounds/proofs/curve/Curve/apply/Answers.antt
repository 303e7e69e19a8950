use Rattle.std.proofs.Common.{◌≡◌, ℤ, sym, refl, ap, ◌∙◌, w64, SFits, rules}
use Rattle.std.specs.Int.{int_min, int_max}
use Rattle.std.proofs.lemmas.Int.{to_z-of_z}
use Rattle.bounds.specs.Curves.{curve_at}
use Rattle.bounds.specs.declared.curve.Curve.TheVariants.{Clip}
use Rattle.rounding.proofs.Ring.{one_mul_ℤ}
use Rattle.bounds.proofs.curve.Curve.apply.Goals as goal

-- over 1 a clip has its own numbers
clipped : (m p r : ℤ) → int_min (int_max m p) r ≡ curve_at (Clip p r) 1 m
clipped m p r = rw (one_mul_ℤ p, one_mul_ℤ r) refl

pub returns-in-Clip-clause-value : goal.returns-in-Clip-clause-value
returns-in-Clip-clause-value c =
    let p = c.in-Clip.p in
    let r = c.in-Clip.r in
    let m = c.args.m in
    let fm : SFits w64 m = c.ranges.m in
    let fp : SFits w64 p = search rules in
    let fr : SFits w64 r = search rules in
    let ft : SFits w64 c.max-in-Clip.result = record { sfits = c.max-in-Clip.type_inv } in
    let fz : SFits w64 c.min.result = record { sfits = c.min.type_inv } in
    let raised : c.max-in-Clip.result ≡ int_max m p = simp to_z-of_z at c.max-in-Clip.ensures.value in
    let held : c.min.result ≡ int_min c.max-in-Clip.result r = simp to_z-of_z at c.min.ensures.value in
    to_z-of_z w64 _ fz ∙ held ∙ ap (λ x. int_min x r) raised ∙ clipped m p r ∙ ap (λ f. curve_at f 1 m) (sym c.in-Clip.is)
