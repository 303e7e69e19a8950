use Rattle.std.proofs.Common.{ℕ, ◌<◌, List, length, get_or, ℤ, pos, nat_abs, sym, ap, ◌∙◌, subst, arith, w64, SFits, rules}
use Rattle.std.proofs.lemmas.Int.{to_z-of_z}
use Rattle.rounding.specs.Numbers.{InRange, Weight}
use Rattle.rows.specs.Numbers.{Written}
use Rattle.rows.proofs.Parts.{weight_distance_fits, bias_fits, weights_length, values_length, weights_fit, values_fit, halves}
use Rattle.rows.proofs.reading.Listed.row.Goals as goal

pub invariant_of-result-2 : goal.invariant_of-result-2
invariant_of-result-2 c =
    let ns = c.args.self.now.numbers.now in
    let written : Written ns = (c.args.self.now.counted, c.requires) in
    let f₁ : SFits w64 (get_or ns 1 (pos 0)) = search rules in
    let f₃ : SFits w64 (get_or ns 3 (pos 0)) = search rules in
    let parts = halves ns c.args.self.now.columns c.args.self.now.split in
    let ws = c.split_at.ensures.front ∙ parts.0 in
    let xs = c.split_at.ensures.back ∙ parts.1 in
    let W : List ℤ → Type 0 = λ l. (i : ℕ) → i < length l → Weight (get_or l i (pos 0)) in
    let X : List ℤ → Type 0 = λ l. (i : ℕ) → i < length l → InRange (get_or l i (pos 0)) in
    let wl = ap length ws ∙ weights_length ns written in
    let xl = ap length xs ∙ values_length ns written in
    let counted = written.0 in
    record {
      near = rw (to_z-of_z w64 _ f₁) (weight_distance_fits ns written);
      bias_fits = rw (to_z-of_z w64 _ f₃) (bias_fits ns written);
      few = omega (arith, wl);
      level = xl ∙ sym wl;
      weights_fit = subst W (sym ws) (weights_fit ns written);
      values_fit = subst X (sym xs) (values_fit ns written);
    }

pub returns : goal.returns
returns c =
    let ns = c.args.self.now.numbers.now in
    let f₀ : SFits w64 (get_or ns 0 (pos 0)) = search rules in
    let f₁ : SFits w64 (get_or ns 1 (pos 0)) = search rules in
    let f₂ : SFits w64 (get_or ns 2 (pos 0)) = search rules in
    let f₃ : SFits w64 (get_or ns 3 (pos 0)) = search rules in
    let parts = halves ns c.args.self.now.columns c.args.self.now.split in
    record {
      bits = ap nat_abs (to_z-of_z w64 _ f₀);
      weight_distance = ap nat_abs (to_z-of_z w64 _ f₁);
      value_distance = ap nat_abs (to_z-of_z w64 _ f₂);
      bias = to_z-of_z w64 _ f₃;
      weights = c.split_at.ensures.front ∙ parts.0;
      values = c.split_at.ensures.back ∙ parts.1;
    }
