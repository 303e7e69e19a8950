-- Kind 1 keeps the laws of a kind.
-- Assumes nothing.
use Rattle.std.specs.Prelude.{◌≡◌, ℕ, ◌+◌, ◌*◌, ◌^◌, ◌≤◌, ℤ, pos, negsuc, ◌+ℤ◌, ◌-ℤ◌, ◌*ℤ◌, ◌≤ℤ◌, unsigned_abs, refl}
use Rattle.std.proofs.Common.{ap, ◌∙◌, mul-le-mul_left, mul-le-mul, arith}
use Rattle.std.proofs.Math.IntN.{+ℤ_invr}
use Rattle.std.specs.Int.Signed.{≤ℤ_refl}
use Rattle.std.proofs.lemmas.Int.{ints, unsigned_abs-mul}
use Rattle.rounding.specs.Numbers.{Over, Sized}
use Rattle.rounding.proofs.Ring.{linear, mul_add_ℤ, mul_sub_ℤ, mul_swap_ℤ, nat_abs_add_le, mul_add_add_ℤ}
use Rattle.rounding.proofs.Roundings.{floor_is}
use Rattle.rounding.proofs.Machine.{sized_mul, sized_add, sized_sub, sized_more}
use Rattle.bounds.specs.Kinds.{KindLaws, Running, begun, added}
use Rattle.bounds.specs.Centred.{abs, middle, product_radius, centred_meanings}
use Rattle.bounds.specs.declared.centred.Ball.{Ball}
use Rattle.bounds.specs.Sizes.{weight_sized, activation_sized, product_size, sums_sized}

abbrev pub ball : ℤ → ℤ → Ball
ball c r = record { centre = c; radius = r }

-- the element of a and b
abbrev element : ℤ → ℤ → Ball
element a b = ball (middle a b) (b -ℤ middle a b)

-- ---- the middle of two numbers
around_middle : (a b : ℤ) → ((pos 2 *ℤ middle a b) ≤ℤ (a +ℤ b)) × ((a +ℤ b) ≤ℤ (pos 2 *ℤ middle a b +ℤ pos 1))
around_middle a b =
    let f = floor_is (a +ℤ b) 2 (omega arith) in
    let g = f.greatest in
    let h = f.not_above in
    omega (arith, ints)

pub middle_between : (a b : ℤ) → a ≤ℤ b → (a ≤ℤ middle a b) × (middle a b ≤ℤ b)
middle_between a b h = let f = around_middle a b in omega (arith, ints)

middle_low : (a b : ℤ) → (middle a b -ℤ (b -ℤ middle a b)) ≤ℤ a
middle_low a b = let f = around_middle a b in omega (arith, ints)

middle_high : (a b : ℤ) → middle a b +ℤ (b -ℤ middle a b) ≡ b
middle_high a b = omega (arith, ints)

middle_point : (a : ℤ) → middle a a ≡ a
middle_point a = let f = around_middle a a in omega (arith, ints)

radius_from : (a b : ℤ) → a ≤ℤ b → pos 0 ≤ℤ (b -ℤ middle a b)
radius_from a b h = let k = middle_between a b h in omega (arith, ints)

-- ---- the product of two numbers, each near a scaled centre, is near the scaled product of the centres
-- q * (c - r) ≤ u ≤ q * (c + r) says that u is within q * r of q * c
within : (q r : ℕ) (c u : ℤ) → Over q (c -ℤ pos r) (c +ℤ pos r) u → unsigned_abs (u -ℤ pos q *ℤ c) ≤ q * r
within q r c u h = omega (arith, linear, mul_sub_ℤ (pos q) c (pos r), mul_add_ℤ (pos q) c (pos r))

-- the same in ℕ
spreads : (q a b r s e f : ℕ) → e ≤ q * r → f ≤ q * s → q * a * f + (q * b * e + e * f) ≤ q * q * (a * s + b * r + r * s)
spreads q a b r s e f h k =
    let k₁ = mul-le-mul_left (q * a) k in
    let k₂ = mul-le-mul_left (q * b) h in
    let k₃ = mul-le-mul h k in
    omega arith

product_near : (q r s : ℕ) (c d u v : ℤ) → unsigned_abs (u -ℤ pos q *ℤ c) ≤ q * r → unsigned_abs (v -ℤ pos q *ℤ d) ≤ q * s
    → unsigned_abs (u *ℤ v -ℤ pos (q * q) *ℤ (c *ℤ d)) ≤ q * q * (unsigned_abs c * s + unsigned_abs d * r + r * s)
product_near q r s c d u v h k =
    let p = pos q *ℤ c in
    let t = pos q *ℤ d in
    let e = u -ℤ p in
    let f = v -ℤ t in
    let is_u : u ≡ p +ℤ e = omega (arith, linear) in
    let is_v : v ≡ t +ℤ f = omega (arith, linear) in
    let whole : u *ℤ v ≡ p *ℤ t +ℤ (p *ℤ f +ℤ (t *ℤ e +ℤ e *ℤ f)) = ap (λ x. x *ℤ v) is_u ∙ ap (λ x. (p +ℤ e) *ℤ x) is_v ∙ mul_add_add_ℤ p e t f in
    let sq = mul_swap_ℤ (pos q) c (pos q) d in
    let rest : u *ℤ v -ℤ pos (q * q) *ℤ (c *ℤ d) ≡ p *ℤ f +ℤ (t *ℤ e +ℤ e *ℤ f) = omega (arith, linear, whole, sq) in
    let a₁ = nat_abs_add_le (p *ℤ f) (t *ℤ e +ℤ e *ℤ f) in
    let a₂ = nat_abs_add_le (t *ℤ e) (e *ℤ f) in
    let m₁ : unsigned_abs (p *ℤ f) ≡ q * unsigned_abs c * unsigned_abs f = unsigned_abs-mul p f ∙ ap (λ n. n * unsigned_abs f) (unsigned_abs-mul (pos q) c) in
    let m₂ : unsigned_abs (t *ℤ e) ≡ q * unsigned_abs d * unsigned_abs e = unsigned_abs-mul t e ∙ ap (λ n. n * unsigned_abs e) (unsigned_abs-mul (pos q) d) in
    let m₃ = unsigned_abs-mul e f in
    let z = spreads q (unsigned_abs c) (unsigned_abs d) r s (unsigned_abs e) (unsigned_abs f) h k in
    rw rest (omega arith)

-- ---- a sum of such products
low_joined : (n s r p t x y : ℤ) → (n *ℤ (s -ℤ r)) ≤ℤ x → (n *ℤ p -ℤ n *ℤ t) ≤ℤ y → (n *ℤ (s +ℤ p -ℤ (r +ℤ t))) ≤ℤ (x +ℤ y)
low_joined n s r p t x y h k =
    omega (arith, linear, mul_sub_ℤ n s r, mul_sub_ℤ n (s +ℤ p) (r +ℤ t), mul_add_ℤ n s p, mul_add_ℤ n r t)

high_joined : (n s r p t x y : ℤ) → x ≤ℤ (n *ℤ (s +ℤ r)) → y ≤ℤ (n *ℤ p +ℤ n *ℤ t) → (x +ℤ y) ≤ℤ (n *ℤ (s +ℤ p +ℤ (r +ℤ t)))
high_joined n s r p t x y h k =
    omega (arith, linear, mul_add_ℤ n s r, mul_add_ℤ n (s +ℤ p) (r +ℤ t), mul_add_ℤ n s p, mul_add_ℤ n r t)

apart : (y p : ℤ) (n : ℕ) → unsigned_abs (y -ℤ p) ≤ n → ((p -ℤ pos n) ≤ℤ y) × (y ≤ℤ (p +ℤ pos n))
apart y p n h = omega (arith, linear)

sum_encloses : (q : ℕ) (s u v : Ball) (x y z : ℤ) → pos 0 ≤ℤ u.radius → pos 0 ≤ℤ v.radius → Over (q * q) (s.centre -ℤ s.radius) (s.centre +ℤ s.radius) x
    → Over q (u.centre -ℤ u.radius) (u.centre +ℤ u.radius) y → Over q (v.centre -ℤ v.radius) (v.centre +ℤ v.radius) z
    → let t = centred_meanings.adds s u v in Over (q * q) (t.centre -ℤ t.radius) (t.centre +ℤ t.radius) (x +ℤ y *ℤ z)
sum_encloses q s u v x y z hu hv ox oy oz = enclosed u.radius v.radius hu hv oy oz
  where
    enclosed : (r t : ℤ) → pos 0 ≤ℤ r → pos 0 ≤ℤ t → Over q (u.centre -ℤ r) (u.centre +ℤ r) y → Over q (v.centre -ℤ t) (v.centre +ℤ t) z
        → let w = s.radius +ℤ product_radius (ball u.centre r) (ball v.centre t) in
        Over (q * q) (s.centre +ℤ u.centre *ℤ v.centre -ℤ w) (s.centre +ℤ u.centre *ℤ v.centre +ℤ w) (x +ℤ y *ℤ z)
    enclosed (pos r) (pos t) hr ht oy oz =
        let c = u.centre in
        let d = v.centre in
        let n = product_near q r t c d y z (within q r c y oy) (within q t d z oz) in
        let k = apart (y *ℤ z) (pos (q * q) *ℤ (c *ℤ d)) _ n in
        let w = product_radius (ball c (pos r)) (ball d (pos t)) in (
          low_joined (pos (q * q)) s.centre s.radius (c *ℤ d) w x (y *ℤ z) ox.0 k.0,
          high_joined (pos (q * q)) s.centre s.radius (c *ℤ d) w x (y *ℤ z) ox.1 k.1,
        )
    enclosed (pos r) (negsuc t) hr ht oy oz = absurd ht.le
    enclosed (negsuc r) t hr ht oy oz = absurd hr.le

-- ---- sizes
pub element_sized : {n : ℕ} (a b : ℤ) → a ≤ℤ b → Sized n a × Sized n b → Sized n (middle a b) × Sized (2 * n) (b -ℤ middle a b)
element_sized {n} a b h k =
    let m = middle_between a b h in
    (record { size = omega (arith, ints, k.0.size, k.1.size) }, record { size = omega (arith, ints, k.0.size, k.1.size) })

pub abs_sized : {n : ℕ} {z : ℤ} → Sized n z → Sized n (abs z)
abs_sized h = record { size = h.size }

pub radius_sized : {m n : ℕ} (u v : Ball) → Sized m u.centre × Sized (2 * m) u.radius → Sized n v.centre × Sized (2 * n) v.radius → Sized (8 * (m * n)) (product_radius u v)
radius_sized {m} {n} u v hu hv =
    sized_more (sized_add (sized_add (sized_mul (abs_sized hu.0) hv.1) (sized_mul (abs_sized hv.0) hu.1)) (sized_mul hu.1 hv.1)) (total m n)
  where
    total : (m n : ℕ) → m * (2 * n) + n * (2 * m) + 2 * m * (2 * n) ≤ 8 * (m * n)
    total m n = omega arith

sum_sized : {n : ℕ} {s : Ball} → Running centred_meanings n s → Sized (n * product_size) s.centre × Sized (n * (8 * product_size)) s.radius × (n ≤ 64)
sum_sized begun = (record { size = omega arith }, record { size = omega arith }, omega arith)
sum_sized (added {n} {s} h l a b wab c d acd) =
    let i = sum_sized h in
    let e = element_sized a b wab.1 (weight_sized a b wab) in
    let f = element_sized c d acd.1 (activation_sized c d acd) in (
      sized_more (sized_add i.0 (sized_mul e.0 f.0)) (next n product_size),
      sized_more (sized_add i.1 (radius_sized (element a b) (element c d) e f)) (next n (8 * product_size)),
      omega arith,
    )
  where
    next : (n m : ℕ) → n * m + m ≤ (n + 1) * m
    next n m = omega arith

-- the sizes of the centre and the radius of a running sum
pub sum_parts : {n : ℕ} {s : Ball} → Running centred_meanings n s → Sized (2 ^ 60) s.centre × Sized (2 ^ 60) s.radius
sum_parts {n} h = let i = sum_sized h in (sums_sized i.2 (sized_more i.0 (one n)), sums_sized i.2 (sized_more i.1 (eight n)))
  where
    one : (n : ℕ) → n * product_size ≤ n * (9 * product_size)
    one n = omega arith

    eight : (n : ℕ) → n * (8 * product_size) ≤ n * (9 * product_size)
    eight n = omega arith

joined : (n : ℕ) → n * product_size + n * (8 * product_size) ≤ n * (9 * product_size)
joined n = omega arith

-- ---- at points the radius is 0
radius_point : (a c : ℤ) → product_radius (ball a (a -ℤ a)) (ball c (c -ℤ c)) ≡ pos 0
radius_point a c = rw (+ℤ_invr a, +ℤ_invr c) (omega (arith, ints))

point_sum : (s : Ball) (x a c : ℤ) → s.centre -ℤ s.radius ≡ x → s.centre +ℤ s.radius ≡ x
    → let t = centred_meanings.adds s (element a a) (element c c) in (t.centre -ℤ t.radius ≡ x +ℤ a *ℤ c) × (t.centre +ℤ t.radius ≡ x +ℤ a *ℤ c)
point_sum s x a c lo hi = rw (middle_point a, middle_point c, radius_point a c) (omega (arith, linear))

less_self : (a : ℤ) → a -ℤ (a -ℤ a) ≡ a
less_self a = omega (arith, ints)

pub centred_laws : KindLaws centred_meanings
centred_laws = record {
  number_below = omega arith;
  makes_low = λ a b h. middle_low a b;
  makes_high = λ a b h. rw (middle_high a b) (≤ℤ_refl b);
  starts_low = refl;
  starts_high = refl;
  encloses = λ n s h l a b wab c d acd q p x u v ox ou ov.
      sum_encloses q s (element a b) (element c d) x u v (radius_from a b wab.1) (radius_from c d acd.1) ox ou ov;
  point_low = λ a h. rw (middle_point a) (less_self a);
  point_high = λ a h. middle_high a a;
  point_adds = λ n s h l x a c wa ac lo hi. point_sum s x a c lo hi;
  sum_low_sized = λ n s h. let i = sum_sized h in sums_sized i.2 (sized_more (sized_sub i.0 i.1) (joined n));
  sum_high_sized = λ n s h. let i = sum_sized h in sums_sized i.2 (sized_more (sized_add i.0 i.1) (joined n));
}
