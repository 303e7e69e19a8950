-- Running sums of a bound kind and the bounds that close them: their ends stand in order, and every copy lies within them.
-- Assumes nothing.
use Rattle.std.proofs.Common.{◌≡◌, ℕ, ◌+◌, ◌*◌, ◌≤◌, List, [], ◌∷◌, All, length, ℤ, pos, ◌+ℤ◌, ◌-ℤ◌, ◌*ℤ◌, ◌≤ℤ◌, sym, ap, ◌∙◌, arith}
use lib.IntN.{*ℤ_comm, +ℤ_assoc, +ℤ_idl, +ℤ_idr}
use lib.Signed.{≤ℤ_refl}
use borrow.Author.Differences.{ints}
use Rattle.std.proofs.lemmas.List.Elements.{All-head, All-tail}
use Rattle.rounding.specs.Numbers.{Near, Over, Weight, per_unit, floor_over, ceiling_over}
use Rattle.rounding.proofs.Ring.{linear, ≤ℤ_trans, mul_pos_le, mul_add_ℤ, mul_sub_ℤ, mul_assoc_ℤ, one_mul_ℤ}
use Rattle.rounding.proofs.Roundings.{per_unit_positive, floor_is, ceiling_is, floor_keeps, ceiling_keeps, cancel_le}
use Rattle.bounds.specs.Kinds.{Kind, KindLaws, Meanings, Running, begun, added, WeightEnds, ActivationEnds}
use Rattle.rounding.specs.declared.interval.Interval.{Interval}
use Rattle.bounds.specs.Sizes.{weight_is_activation}
use Rattle.rows.specs.Sums.{Activations, RowLimits, summed, row_bounds}
use Rattle.rows.specs.Copies.{none, more, dot, AllNear, Held}
use Rattle.rows.specs.Claims.{RowSound}

-- ---- fractions between ends
pub over_one : (low high x : ℤ) → low ≤ℤ x → x ≤ℤ high → Over 1 low high x
over_one low high x h k = rw (one_mul_ℤ low, one_mul_ℤ high) (h, k)

pub over_one_out : (low high x : ℤ) → Over 1 low high x → (low ≤ℤ x) × (x ≤ℤ high)
over_one_out low high x h = rw (one_mul_ℤ low, one_mul_ℤ high) at h

-- wider ends hold what narrower ones hold
pub over_wider : (q : ℕ) (low high low' high' x : ℤ) → low' ≤ℤ low → high ≤ℤ high' → Over q low high x → Over q low' high' x
over_wider q low high low' high' x h k o = (≤ℤ_trans (mul_pos_le q low' low h) o.0, ≤ℤ_trans o.1 (mul_pos_le q high high' k))

-- within q * e of q * x is between q * (x - e) and q * (x + e)
pub near_over : (q e : ℕ) (x y : ℤ) → Near (pos (q * e)) (pos q *ℤ x) y → Over q (x -ℤ pos e) (x +ℤ pos e) y
near_over q e x y h = rw (mul_sub_ℤ (pos q) x (pos e), mul_add_ℤ (pos q) x (pos e)) h

pub weight_ends : (e : ℕ) (w : ℤ) → e ≤ 32767 → Weight w → WeightEnds (w -ℤ pos e) (w +ℤ pos e)
weight_ends e w h k = omega (arith, ints)

-- ---- running sums
-- an interval that an activation can have
abbrev pub Activation : Interval → Type 0
Activation a = ActivationEnds a.low a.high

module _ (k : Kind) where
  pub running_ordered : {n : ℕ} {s : k.means.Sum} → Running k.means n s → k.means.sum_low s ≤ℤ k.means.sum_high s
  running_ordered begun = rw (k.laws.starts_low, k.laws.starts_high) (≤ℤ_refl (pos 0))
  running_ordered (added {n} {s} h l a b wab c d acd) =
      let o = running_ordered h in
      let m = k.means in
      let x = m.sum_low s in
      let aab = weight_is_activation a b wab in
      let e = k.laws.encloses n s h l a b wab c d acd 1 (omega arith) x a c
      (over_one x (m.sum_high s) x (≤ℤ_refl x) o)
      (over_one (m.low (m.makes a b)) (m.high (m.makes a b)) a (k.laws.makes_low a b aab) (≤ℤ_trans wab.1 (k.laws.makes_high a b aab)))
      (over_one (m.low (m.makes c d)) (m.high (m.makes c d)) c (k.laws.makes_low c d acd) (≤ℤ_trans acd.1 (k.laws.makes_high c d acd))) in
      let t = m.adds s (m.makes a b) (m.makes c d) in
      let r = over_one_out (m.sum_low t) (m.sum_high t) (x +ℤ (a *ℤ c)) e in
      ≤ℤ_trans r.0 r.1

  module _ (e_w : ℕ) (small : e_w ≤ 32767) where
    pub summed_running : (ws : List ℤ) (vs : List Interval) {n : ℕ} {s : k.means.Sum} → Running k.means n s → n + length ws ≤ 64 → All Weight ws → Activations vs
        → (m : ℕ) × Running k.means m (summed k.means e_w s ws vs)
    summed_running [] vs {n} h l hw ha = (n, h)
    summed_running (w ∷ ws) [] {n} h l hw ha = (n, h)
    summed_running (w ∷ ws) (a ∷ vs) {n} h l hw ha =
        summed_running ws vs (added h (omega arith) (w -ℤ pos e_w) (w +ℤ pos e_w) (weight_ends e_w w small (All-head Weight w ws hw)) a.low a.high (All-head Activation a vs ha)) (omega arith) (All-tail Weight w ws hw) (All-tail Activation a vs ha)

    -- the sum of a copy's products lies within the running sum
    pub summed_holds : (q : ℕ) → 1 ≤ q → {ws us : List ℤ} {vs : List Interval} {zs : List ℤ} → AllNear q e_w ws us → Held q vs zs
        → {n : ℕ} {s : k.means.Sum} → Running k.means n s → n + length ws ≤ 64 → All Weight ws → Activations vs
        → (x : ℤ) → Over (q * q) (k.means.sum_low s) (k.means.sum_high s) x
        → Over (q * q) (k.means.sum_low (summed k.means e_w s ws vs)) (k.means.sum_high (summed k.means e_w s ws vs)) (x +ℤ dot us zs)
    summed_holds q p none none h l hw ha x o = rw (+ℤ_idr x) o
    summed_holds q p none (more z r) h l hw ha x o = rw (+ℤ_idr x) o
    summed_holds q p (more w v) none h l hw ha x o = rw (+ℤ_idr x) o
    summed_holds q p (more {x = w} {y = u} {xs = ws} {ys = us} nw v) (more {x = e} {y = z} {xs = es} {ys = zs} hz r) {n} {s} h l hw ha x o =
        let m = k.means in
        let a = w -ℤ pos e_w in
        let b = w +ℤ pos e_w in
        let wab : WeightEnds a b = weight_ends e_w w small (All-head Weight w ws hw) in
        let aab = weight_is_activation a b wab in
        let acd : ActivationEnds e.low e.high = All-head Activation e es ha in
        let t = m.adds s (m.makes a b) (m.makes e.low e.high) in
        let i : Over (q * q) (m.sum_low t) (m.sum_high t) (x +ℤ u *ℤ z) = k.laws.encloses n s h (omega arith) a b wab e.low e.high acd q p x u z o
        (over_wider q a b _ _ u (k.laws.makes_low a b aab) (k.laws.makes_high a b aab) (near_over q e_w w u nw))
        (over_wider q e.low e.high _ _ z (k.laws.makes_low _ _ acd) (k.laws.makes_high _ _ acd) hz) in
        rw (← (+ℤ_assoc x (u *ℤ z) (dot us zs)))
        (summed_holds q p v r (added h (omega arith) a b wab e.low e.high acd) (omega arith) (All-tail Weight w ws hw) (All-tail Activation e es ha) (x +ℤ u *ℤ z) i)

-- ---- closing a row
-- the bias is added at the scale of the products
pub scaled_bias : (n d : ℕ) (s b : ℤ) → pos n *ℤ (s +ℤ b *ℤ pos d) ≡ pos n *ℤ s +ℤ pos (n * d) *ℤ b
scaled_bias n d s b =
    mul_add_ℤ (pos n) s (b *ℤ pos d) ∙ ap (λ x. pos n *ℤ s +ℤ x) (ap (λ x. pos n *ℤ x) (*ℤ_comm b (pos d)) ∙ sym (mul_assoc_ℤ (pos n) (pos d) b))

add_le : (x y c : ℤ) → x ≤ℤ y → (x +ℤ c) ≤ℤ (y +ℤ c)
add_le x y c h = omega (arith, linear)

pub closed_holds : (n F : ℕ) (low high b x : ℤ) → Over n low high x
    → Over (n * per_unit F) (floor_over (low +ℤ b *ℤ pos (per_unit F)) (per_unit F)) (ceiling_over (high +ℤ b *ℤ pos (per_unit F)) (per_unit F)) (x +ℤ pos (n * per_unit F) *ℤ b)
closed_holds n F low high b x h =
    let d = per_unit F in (
      floor_keeps n d (per_unit_positive F) (low +ℤ b *ℤ pos d) _ (rw (scaled_bias n d low b) (add_le _ _ _ h.0)),
      ceiling_keeps n d (per_unit_positive F) (high +ℤ b *ℤ pos d) _ (rw (scaled_bias n d high b) (add_le _ _ _ h.1)),
    )

pub closed_ordered : (F : ℕ) (low high b : ℤ) → low ≤ℤ high
    → floor_over (low +ℤ b *ℤ pos (per_unit F)) (per_unit F) ≤ℤ ceiling_over (high +ℤ b *ℤ pos (per_unit F)) (per_unit F)
closed_ordered F low high b h =
    let d = per_unit F in
    let x = low +ℤ b *ℤ pos d in
    let y = high +ℤ b *ℤ pos d in
    cancel_le d (per_unit_positive F) (floor_over x d) (ceiling_over y d)
    (≤ℤ_trans (floor_is x d (per_unit_positive F)).not_above (≤ℤ_trans (add_le low high (b *ℤ pos d) h) (ceiling_is y d (per_unit_positive F)).not_below))

starts_over : (k : Kind) (n : ℕ) → Over n (k.means.sum_low k.means.starts) (k.means.sum_high k.means.starts) (pos 0)
starts_over k n = rw (k.laws.starts_low, k.laws.starts_high) (omega (arith, ints))

pub row_ordered : (k : Kind) (F e_w : ℕ) (vs : List Interval) (ws : List ℤ) (b : ℤ) → RowLimits e_w vs ws
    → (row_bounds k.means F e_w vs ws b).low ≤ℤ (row_bounds k.means F e_w vs ws b).high
row_ordered k F e_w vs ws b r =
    closed_ordered F _ _ b (running_ordered k (summed_running k e_w r.distance ws vs begun (omega (arith, r.few)) r.weights r.activations).1)

pub row_sound : (m : Meanings) → KindLaws m → RowSound m
row_sound m laws F e_w vs ws b r q fine zs held h c =
    let k : Kind = record { means = m; laws = laws } in
    let s = summed_holds k e_w r.distance q fine c.near held begun (omega (arith, r.few)) r.weights r.activations (pos 0) (starts_over k (q * q)) in
    rw c.numerator (closed_holds (q * q) F _ _ b (dot c.weights zs) (rw (+ℤ_idl (dot c.weights zs)) at s))
