use Rattle.std.proofs.Common.{◌≡◌, ℕ, Iter, List, [], ◌∷◌, ℤ, pos, ap, ◌∙◌, sym, refl, length, map, ⊎_elim, ◌⊎◌, arith, w64, SFits, rules}
use Rattle.std.proofs.lemmas.Int.{to_z-of_z}
use Rattle.std.proofs.lemmas.Slice.Zip.{zip_turn, either_empty_from_Zip}
use Rattle.std.specs.Slice.Iter.{iter_rest}
use Rattle.std.specs.declared.iter.Zip.{Zip}
use Rattle.bounds.specs.Kinds.{Meanings, begun}
use Rattle.rows.specs.Sums.{summed, spread}
use Rattle.rows.proofs.row.Row.sum.Goals as goal

-- what is zipped
zipped : {i z : Zip (Iter ℤ) (Iter ℤ)} {a : Iter ℤ} {ws xs : List ℤ} → i ≡ z → z.a ≡ a → iter_rest a ≡ ws → iter_rest z.b ≡ xs → (iter_rest i.a ≡ ws) × (iter_rest i.b ≡ xs)
zipped same first ws xs = (ap (λ i. iter_rest i.a) same ∙ ap iter_rest first ∙ ws, ap (λ i. iter_rest i.b) same ∙ xs)

pub loop-w-init : goal.loop-w-init
loop-w-init g c =
    let z = zipped c.into_iter-w-iterator.ensures.into_iter_gives c.zip-w-items.ensures.first c.iter.ensures.rest c.zip-w-items.ensures.second.0 in
    rw (c.start-sum.ensures, z.0, z.1) (begun, refl)

pub with_column-sum-requires : goal.with_column-sum-requires
with_column-sum-requires g c =
    let row = c.args.self.now in
    let z = zipped c.into_iter-w-iterator.ensures.into_iter_gives c.zip-w-items.ensures.first c.iter.ensures.rest c.zip-w-items.ensures.second.0 in
    let turn = zip_turn row.weights.now row.values.now c.loop-w.yielded c.into_iter-w-iterator.result c.loop-w.w-iterator c.next.new.self c.next.result z.0 z.1 c.loop-w.yielded_by _ c.in-Some.is c.next.ensures.steps in
    let fw : SFits w64 c.in-Some.field-0-0.now = search rules in
    let fx : SFits w64 c.in-Some.field-0-1.now = search rules in
    record {
      running = (length c.loop-w.yielded, omega (arith, turn.0, row.few), c.loop-w.invariant.0);
      weight = rw (to_z-of_z w64 _ fw, turn.2 (pos 0)) (row.weights_fit _ turn.0);
      value = rw (to_z-of_z w64 _ fx, turn.3 (pos 0)) (row.values_fit _ turn.1);
    }

-- no weight or no interval is left
module _ (k : Meanings) (e : ℕ) (s : k.Sum) where
  without_values : (ws : List ℤ) → summed k e s ws [] ≡ s
  without_values [] = refl
  without_values (w ∷ ws) = refl

  ended : (d : ℕ) (ws xs : List ℤ) (t : k.Sum) → (ws ≡ []) ⊎ (xs ≡ []) → summed k e s ws (map (spread d) xs) ≡ t → s ≡ t
  ended d ws xs t none h =
      ⊎_elim (λ n. sym (rw n refl) ∙ h) (λ n. sym (rw n (without_values ws)) ∙ h) none

pub returns-clause-value : goal.returns-clause-value
returns-clause-value g c =
    let row = c.args.self.now in
    let z = c.loop-w.w-iterator in
    let none = either_empty_from_Zip z c.next.new.self c.next.result c.in-None.is c.next.ensures.steps in
    ended g.K.BoundKind.means row.weight_distance _ row.value_distance (iter_rest z.a) (iter_rest z.b) _ none c.loop-w.invariant.1
