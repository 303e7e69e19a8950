-- Half bytes: what they are worth, and the bytes as a list of halves.
-- Assumes nothing.
use Rattle.std.specs.Prelude.{◌≡◌, ℕ, zero, suc, ◌+◌, ◌*◌, ◌/◌, ◌%◌, ◌^◌, ◌<◌, ◌≤◌, true, false, ◌&&◌, List, [], ◌∷◌, All, map, length, ℤ, pos, ◌+ℤ◌, neg_ℤ, ◌≤ℤ◌, ◌<ℤ◌, Some, None, Err, ◌≢◌, int_le, nat_lt, slice_get, slice_index, slice_set, Option, refl}
use Rattle.std.specs.Ordering.{int_eq}
use Rattle.std.proofs.Common.{ap, ◌∙◌, arith, pow_mono, pow_pos}
use Rattle.std.proofs.lemmas.List.Elements.{All-nil, All-cons}
use Rattle.std.specs.Option.{option_map}
use Rattle.std.proofs.lemmas.Option.{slice_get-map}
use Rattle.std.proofs.lemmas.List.{length-map, map-set}
use Rattle.std.proofs.lemmas.Int.{by_lt_z, ints}
use Rattle.std.proofs.lemmas.Bool.Decides.{nat_tests, Decides-int_eq}
use Rattle.rounding.specs.Numbers.{Between, Weight, floor_over}
use Rattle.rounding.proofs.Ring.{mul_pos_le}
use Rattle.rounding.proofs.Roundings.{floor_is, cancel_le}
use Rattle.stores.specs.Shared.{not_place}
use Rattle.stores.specs.Halves.{half_at, with_half}
use Rattle.stores.specs.Packed.{PackableTested, halves, most_shift, packable, packed_answer, packed_entries, scaled, signed_half}
use Rattle.stores.specs.Stores.{read_at}
use Rattle.stores.specs.declared.fault.StoreFault.TheVariants.{Place, Value}

pub unit_small : (s : ℕ) → s ≤ most_shift → 2 ^ s ≤ 4096
unit_small s h = pow_mono h

-- a number of four bits times a unit is a weight
pub scaled_weight : (s : ℕ) (n : ℤ) → 2 ^ s ≤ 4096 → Between (neg_ℤ (pos 8)) (pos 7) n → Weight (scaled s n)
scaled_weight s n h b =
    let l = mul_pos_le (2 ^ s) (neg_ℤ (pos 8)) n b.0 in
    let u = mul_pos_le (2 ^ s) n (pos 7) b.1 in
    (omega (arith, ints), omega (arith, ints))

-- ---- the bytes as a list of halves
pub length_halves : (bs : List ℕ) → length (halves bs) ≡ 2 * length bs
length_halves [] = refl
length_halves (b ∷ bs) = let ih = length_halves bs in omega arith

half_up : (p : ℕ) → suc (suc p) / 2 ≡ suc (p / 2)
half_up p = omega arith

even_up : (p : ℕ) → suc (suc p) % 2 ≡ p % 2
even_up p = omega arith

past : {A : Type 0} (n : ℕ) → n < 0 → A
past n h = let z : ⊥ = omega arith in absurd z

-- the half that a place has, by the byte that has it
pub slice_get-halves : (bs : List ℕ) (p : ℕ) → slice_get (halves bs) p ≡ option_map (λ b. half_at b p) (slice_get bs (p / 2))
slice_get-halves [] p = refl
slice_get-halves (b ∷ bs) zero = refl
slice_get-halves (b ∷ bs) (suc zero) = refl
slice_get-halves (b ∷ bs) (suc (suc p)) = rw (half_up p, even_up p) (slice_get-halves bs p)

joined_front : (x y : ℕ) → x < 16 → y < 16 → (x * 16 + y) / 16 % 16 ≡ x
joined_front x y h k = let q : (x * 16 + y) / 16 ≡ x = omega arith in rw q (omega arith)

pub set_halves : (bs : List ℕ) (p h : ℕ) → p / 2 < length bs → h < 16 → halves (slice_set bs (p / 2) (with_half (slice_index bs (p / 2)) p h)) ≡ slice_set (halves bs) p h
set_halves [] p h k l = past (p / 2) k
set_halves (b ∷ bs) zero h k l =
    let here : (b / 16 % 16 * 16 + h) % 16 ≡ h = omega arith in
    let there = joined_front (b / 16 % 16) h (omega arith) l in
    cc
set_halves (b ∷ bs) (suc zero) h k l =
    let there : (h * 16 + b % 16) % 16 ≡ b % 16 = omega arith in
    let here = joined_front h (b % 16) l (omega arith) in
    cc
set_halves (b ∷ bs) (suc (suc p)) h k l = rw (half_up p, even_up p) (ap (λ t. b % 16 ∷ b / 16 % 16 ∷ t) (set_halves bs p h (omega arith) l))

four_bits : (h : ℕ) → h < 16 → Between (neg_ℤ (pos 8)) (pos 7) (signed_half h)
four_bits h k = grind (arith, ints, nat_tests)

-- what a half is worth is a weight
pub half_weight : (s h : ℕ) → s ≤ most_shift → h < 16 → Weight (scaled s (signed_half h))
half_weight s h small half = scaled_weight s (signed_half h) (unit_small s small) (four_bits h half)

module _ (s : ℕ) (bs : List ℕ) where
  pub packed_length : length (packed_entries s bs) ≡ 2 * length bs
  packed_length = length-map (halves bs) (λ h. scaled s (signed_half h)) ∙ length_halves bs

  -- READ, by the byte that has the place
  pub read_packed : (p : ℕ) → read_at (packed_entries s bs) p ≡ option_map (λ b. scaled s (signed_half (half_at b p))) (slice_get bs (p / 2))
  read_packed p =
      slice_get-map (λ h. scaled s (signed_half h)) (halves bs) p ∙ ap (option_map (λ h. scaled s (signed_half h))) (slice_get-halves bs p) ∙ both (slice_get bs (p / 2))
    where
      both : (o : Option ℕ) → option_map (λ h. scaled s (signed_half h)) (option_map (λ b. half_at b p) o) ≡ option_map (λ b. scaled s (signed_half (half_at b p))) o
      both None = refl
      both (Some b) = refl

-- WRITE: the byte with another half at p, which is worth v
module _ (s : ℕ) (bs cs : List ℕ) (p h : ℕ) (inside : p / 2 < length bs) (half : h < 16) (put : cs ≡ slice_set bs (p / 2) (with_half (slice_index bs (p / 2)) p h)) where
  pub halves_written : halves cs ≡ slice_set (halves bs) p h
  halves_written = ap halves put ∙ set_halves bs p h inside half

  pub packed_written : (v : ℤ) → scaled s (signed_half h) ≡ v → packed_entries s cs ≡ slice_set (packed_entries s bs) p v
  packed_written v worth =
      ap (map (λ n. scaled s (signed_half n))) halves_written ∙ map-set (λ n. scaled s (signed_half n)) (halves bs) p h ∙ ap (slice_set (packed_entries s bs) p) worth

-- every entry of a packed store is a weight
pub packed_weights : (s : ℕ) → s ≤ most_shift → (bs : List ℕ) → All Weight (packed_entries s bs)
packed_weights s h [] = All-nil Weight
packed_weights s h (b ∷ bs) =
    let low = half_weight s (b % 16) h (omega arith) in
    let high = half_weight s (b / 16 % 16) h (omega arith) in
    let upper = scaled s (signed_half (b / 16 % 16)) in
    let rest = packed_entries s bs in
    All-cons Weight _ (upper ∷ rest) low (All-cons Weight upper rest high (packed_weights s h bs))

-- ---- the test says what it should
unscaled : (s : ℕ) (n : ℤ) → floor_over (scaled s n) (2 ^ s) ≡ n
unscaled s n =
    let floor = floor_over (scaled s n) (2 ^ s) in
    let rounded = floor_is (scaled s n) (2 ^ s) (pow_pos s) in
    let up = cancel_le (2 ^ s) (pow_pos s) floor n rounded.not_above in
    let down = by_lt_z floor n (λ k. let m = mul_pos_le (2 ^ s) (floor +ℤ pos 1) n (omega (arith, ints)) in absurd (less rounded.greatest m)) (λ k. k) in
    omega (arith, ints)
  where
    less : {x y : ℤ} → x <ℤ y → y ≤ℤ x → ⊥
    less h k = omega (arith, ints)

passed : (n w v : ℤ) → (int_le (neg_ℤ (pos 8)) n && int_le n (pos 7) && int_eq w v) ≡ true → Between (neg_ℤ (pos 8)) (pos 7) n × (v ≡ w)
passed n w v h = grind (arith, ints, Decides-int_eq)

passes : (n w v : ℤ) → Between (neg_ℤ (pos 8)) (pos 7) n → v ≡ w → (int_le (neg_ℤ (pos 8)) n && int_le n (pos 7) && int_eq w v) ≡ true
passes n w v b e = grind (arith, ints, Decides-int_eq)

pub packable_decides : PackableTested
packable_decides s v = (
  λ t. let h = passed (floor_over v (2 ^ s)) (scaled s (floor_over v (2 ^ s))) v t in (floor_over v (2 ^ s), h.0, h.1),
  λ h.
      let f = ap (λ x. floor_over x (2 ^ s)) h.2 ∙ unscaled s h.0 in
      passes (floor_over v (2 ^ s)) (scaled s (floor_over v (2 ^ s))) v (rw f h.1) (rw f h.2),
)

-- ---- HOLDS gives the reason `Place` from the size on, and nowhere else
pub answer_outside : (n s p : ℕ) (v : ℤ) → 2 * n ≤ p → packed_answer n s p v ≡ Err Place
answer_outside n s p v h = let t : nat_lt p (2 * n) ≡ false = grind (arith, nat_tests) in rw t refl

pub answer_inside : (n s p : ℕ) (v : ℤ) → p < 2 * n → packed_answer n s p v ≢ Err Place
answer_inside n s p v h e = let t : nat_lt p (2 * n) ≡ true = grind (arith, nat_tests) in not_place Value (packable s v) (λ is. omega arith) (rw t at e)
