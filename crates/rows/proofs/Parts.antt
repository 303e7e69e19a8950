-- The parts of a row that is written keep their limits.
-- Assumes nothing.
use Rattle.std.proofs.Common.{◌≡◌, ℕ, ◌+◌, ◌-◌, ◌<◌, ◌≤◌, List, map, length, get_or, take, drop, drop-drop, refl, le_refl, ◌∙◌, zero-add, Option, Some, None, MatchOption, ℤ, pos, ◌+ℤ◌, ◌-ℤ◌, neg_ℤ, subst, arith, length-drop, length-take, get_or-drop, get_or-take}
use borrow.Author.Differences.{ints}
use Rattle.std.proofs.lemmas.Bool.Decides.{nat_tests}
use Rattle.std.proofs.lemmas.List.{take_rest}
use Rattle.std.specs.List.{AllWithin, HoldsAt, enumerate_from}
use Rattle.std.proofs.lemmas.List.FromFn.{length-enumerate_from, get_or-enumerate_from}
use Rattle.rounding.specs.Intervals.{from_to}
use Rattle.rounding.specs.Numbers.{Between, InRange, Weight, largest}
use Rattle.std.proofs.lemmas.List.Elements.{All-from_get_or, All-map, All-weaker}
use Rattle.bounds.specs.Kinds.{ActivationEnds}
use Rattle.rounding.specs.declared.interval.Interval.{Interval}
use Rattle.rows.specs.Sums.{spread, RowLimits}
use Rattle.rows.specs.Numbers.{AllFit, FirstOutside, columns_of, limits, Written, FitsAt, bits_of, weight_distance_of, value_distance_of, bias_of, weights_of, values_of}

weight_limits : (n i : ℕ) → i < n → limits n (4 + i) ≡ from_to (neg_ℤ (pos 32768)) (pos 32767)
weight_limits n i h = grind (arith, nat_tests)

value_limits : (n i : ℕ) → n ≤ i → limits n (4 + i) ≡ from_to (neg_ℤ largest) largest
value_limits n i h = grind (arith, nat_tests)

module _ (ns : List ℤ) (written : Written ns) where
  at : (i : ℕ) → i < length ns → FitsAt ns i
  at = written.1

  pub long : 6 ≤ length ns
  long = let c = written.0 in omega arith

  pub bits_fit : bits_of ns ≤ 16
  bits_fit = let h = at 0 (omega (arith, long)) in omega (arith, ints)

  pub weight_distance_fits : weight_distance_of ns ≤ 32767
  weight_distance_fits = let h = at 1 (omega (arith, long)) in omega (arith, ints)

  pub value_distance_fits : value_distance_of ns ≤ 65535
  value_distance_fits = let h = at 2 (omega (arith, long)) in omega (arith, ints)

  pub bias_fits : InRange (bias_of ns)
  bias_fits = at 3 (omega (arith, long))

  pub weights_length : length (weights_of ns) ≡ columns_of (length ns)
  weights_length = let c = written.0 in simp (length-take, length-drop) (omega arith)

  pub values_length : length (values_of ns) ≡ columns_of (length ns)
  values_length = let c = written.0 in simp length-drop (omega arith)

  pub weights_fit : (i : ℕ) → i < length (weights_of ns) → Weight (get_or (weights_of ns) i (pos 0))
  weights_fit i h =
      let c = written.0 in
      let few : i < columns_of (length ns) = omega (arith, weights_length) in
      let P : Interval → Type 0 = λ a. Between a.low a.high (get_or ns (4 + i) (pos 0)) in
      rw (get_or-take (columns_of (length ns)) (drop 4 ns) i (pos 0) few, get_or-drop 4 ns i (pos 0))
      (subst P (weight_limits (columns_of (length ns)) i few) (at (4 + i) (omega arith)))

  pub values_fit : (i : ℕ) → i < length (values_of ns) → InRange (get_or (values_of ns) i (pos 0))
  values_fit i h =
      let n = columns_of (length ns) in
      let c = written.0 in
      let few : i < n = omega (arith, values_length) in
      let P : Interval → Type 0 = λ a. Between a.low a.high (get_or ns (4 + (n + i)) (pos 0)) in
      let moved : 4 + n + i ≡ 4 + (n + i) = omega arith in
      rw (get_or-drop (4 + n) ns i (pos 0), moved) (subst P (value_limits n (n + i) (omega arith)) (at (4 + (n + i)) (omega arith)))

  -- the interval of a value is one that an activation can have
  value_ends : (e : ℕ) (x : ℤ) → e ≤ 65535 → InRange x → ActivationEnds (x -ℤ pos e) (x +ℤ pos e)
  value_ends e x h k = omega (arith, ints)

  pub keeps_limits : RowLimits (weight_distance_of ns) (map (spread (value_distance_of ns)) (values_of ns)) (weights_of ns)
  keeps_limits =
      let e = value_distance_of ns in
      let c = written.0 in
      record {
        few = omega (arith, weights_length);
        distance = weight_distance_fits;
        weights = All-from_get_or Weight (weights_of ns) (pos 0) weights_fit;
        activations = All-map (λ a. ActivationEnds a.low a.high) (spread e) (values_of ns)
            (All-weaker InRange _ (λ x h. value_ends e x value_distance_fits h) (values_of ns) (All-from_get_or InRange (values_of ns) (pos 0) values_fit));
      }

-- the weights and the values, as they lie behind the first four numbers
pub halves : (ns : List ℤ) (n : ℕ) → n ≡ columns_of (length ns)
    → (take n (take (length ns - 4) (drop 4 ns)) ≡ weights_of ns) × (drop n (take (length ns - 4) (drop 4 ns)) ≡ values_of ns)
halves ns n is = rw (take_rest ns 4, is) (refl, drop-drop (columns_of (length ns)) 4 ns)

-- ---- the first number outside its limits, among the numbers with their places
-- a number may stand at the place
abbrev pub Allowed : List ℤ → ℕ × ℤ → Type 0
Allowed ns p = Between (limits (columns_of (length ns)) p.0).low (limits (columns_of (length ns)) p.0).high p.1

placed : (ns : List ℤ) (i : ℕ) → i < length ns → get_or (enumerate_from 0 ns) i (0, pos 0) ≡ (i, get_or ns i (pos 0))
placed ns i h = get_or-enumerate_from 0 ns i (0, pos 0) h ∙ (rw zero-add refl)

fits : (ns : List ℤ) (n : ℕ) → n ≤ length ns → AllWithin (Allowed ns) (enumerate_from 0 ns) 0 n → (i : ℕ) → i < n → FitsAt ns i
fits ns n h all i l = subst (Allowed ns) (placed ns i (omega arith)) (all i (0, pos 0) (omega arith) l)

pub first_is : (ns : List ℤ) (r : Option ℕ)
    → MatchOption r (AllWithin (Allowed ns) (enumerate_from 0 ns) 0 (length (enumerate_from 0 ns))) (λ i. (i < length (enumerate_from 0 ns)) × HoldsAt (λ p. Allowed ns p → ⊥) (enumerate_from 0 ns) i × AllWithin (Allowed ns) (enumerate_from 0 ns) 0 i)
    → MatchOption r (AllFit ns) (FirstOutside ns)
first_is ns None h = fits ns (length ns) (le_refl (length ns)) (rw (length-enumerate_from 0 ns) at h)
first_is ns (Some i) h =
    let l : i < length ns = rw (length-enumerate_from 0 ns) at h.0 in
    (l, λ f. h.1 (0, pos 0) (rw (placed ns i l) f), fits ns i (omega arith) h.2)
