-- With no fraction bits and no distances, a row's bounds are its value.
-- Assumes nothing.
use Rattle.std.proofs.Common.{◌≡◌, ℕ, ◌+◌, ◌≤◌, List, [], ◌∷◌, All, map, length, ℤ, pos, ◌+ℤ◌, ◌-ℤ◌, ◌*ℤ◌, sym, ap, ◌∙◌, subst, ap₂, arith}
use lib.IntN.{+ℤ_assoc, +ℤ_idr, +ℤ_idl}
use borrow.Author.Differences.{ints}
use Rattle.std.proofs.lemmas.List.Elements.{All-head, All-tail}
use Rattle.rounding.specs.Numbers.{Weight}
use Rattle.rounding.proofs.Roundings.{floor_one, ceiling_one}
use Rattle.bounds.specs.Kinds.{Kind, KindLaws, Meanings, Running, begun, added, WeightEnds, ActivationEnds}
use Rattle.rounding.specs.declared.interval.Interval.{Interval}
use Rattle.rounding.specs.Intervals.{from_to}
use Rattle.rows.specs.Sums.{Activations, spread, summed}
use Rattle.rows.specs.Copies.{Pairs, none, more, dot}
use Rattle.rows.specs.Claims.{RowExact}
use Rattle.rows.proofs.RowSound.{Activation, weight_ends}

-- each interval is one number
abbrev pub Points : List Interval → List ℤ → Type 0
Points = Pairs (λ a z. (a.low ≡ z) × (a.high ≡ z))

less_none : (w : ℤ) → w -ℤ pos 0 ≡ w
less_none w = omega (arith, ints)

pub spread_points : (xs : List ℤ) → Points (map (spread 0) xs) xs
spread_points [] = none
spread_points (x ∷ xs) = more (less_none x, +ℤ_idr x) (spread_points xs)

module _ (k : Kind) where
  pub summed_points : (ws : List ℤ) {vs : List Interval} {zs : List ℤ} → Points vs zs → Activations vs → All Weight ws
      → {n : ℕ} {s : k.means.Sum} → Running k.means n s → n + length ws ≤ 64 → (x : ℤ) → k.means.sum_low s ≡ x → k.means.sum_high s ≡ x
      → (k.means.sum_low (summed k.means 0 s ws vs) ≡ x +ℤ dot ws zs) × (k.means.sum_high (summed k.means 0 s ws vs) ≡ x +ℤ dot ws zs)
  summed_points [] p ha hw h l x lo hi = (lo ∙ sym (+ℤ_idr x), hi ∙ sym (+ℤ_idr x))
  summed_points (w ∷ ws) none ha hw h l x lo hi = (lo ∙ sym (+ℤ_idr x), hi ∙ sym (+ℤ_idr x))
  summed_points (w ∷ ws) (more {x = e} {y = z} {xs = es} {ys = zs} ez p) ha hw {n} {s} h l x lo hi =
      let m = k.means in
      let a = w -ℤ pos 0 in
      let b = w +ℤ pos 0 in
      let t = m.adds s (m.makes a b) (m.makes e.low e.high) in
      let same : t ≡ m.adds s (m.makes w w) (m.makes z z) = ap₂ (m.adds s) (ap₂ m.makes (less_none w) (+ℤ_idr w)) (ap₂ m.makes ez.0 ez.1) in
      let hh : Weight w = All-head Weight w ws hw in
      let ww : WeightEnds w w = omega (arith, ints) in
      let ee : ActivationEnds e.low e.high = All-head Activation e es ha in
      let zz : ActivationEnds z z = subst (λ y. ActivationEnds y z) ez.0 (subst (λ y. ActivationEnds e.low y) ez.1 ee) in
      let r = k.laws.point_adds n s h (omega arith) x w z ww zz lo hi in
      let i = summed_points ws p (All-tail Activation e es ha) (All-tail Weight w ws hw) (added h (omega arith) a b (weight_ends 0 w (omega arith) hh) e.low e.high ee) (omega arith) (x +ℤ w *ℤ z) (ap m.sum_low same ∙ r.0) (ap m.sum_high same ∙ r.1) in
      (i.0 ∙ +ℤ_assoc x (w *ℤ z) (dot ws zs), i.1 ∙ +ℤ_assoc x (w *ℤ z) (dot ws zs))

  exact : RowExact k.means
  exact ws xs b r =
      let i = summed_points ws (spread_points xs) r.activations r.weights begun (omega (arith, r.few)) (pos 0) k.laws.starts_low k.laws.starts_high in
      let e : (s : ℤ) → s ≡ pos 0 +ℤ dot ws xs → s +ℤ b *ℤ pos 1 ≡ dot ws xs +ℤ b = λ s h. ap₂ ◌+ℤ◌ (h ∙ +ℤ_idl (dot ws xs)) (mul_one b) in
      ap₂ from_to (floor_one _ ∙ e _ i.0) (ceiling_one _ ∙ e _ i.1)
    where
      mul_one : (b : ℤ) → b *ℤ pos 1 ≡ b
      mul_one b = omega (arith, ints)

pub row_exact : (m : Meanings) → KindLaws m → RowExact m
row_exact m laws = exact (record { means = m; laws = laws })
