-- A store of half bytes: two entries a byte, the lower half first, each a number of four bits times a power of two.
use Rattle.std.specs.Prelude.{◌≡◌, ℕ, ◌*◌, ◌/◌, ◌%◌, ◌^◌, Bool, if◌then◌else◌, ◌&&◌, List, [], ◌∷◌, map, length, ℤ, pos, ◌-ℤ◌, ◌*ℤ◌, neg_ℤ, Ok, Err, IsTrue, ◌↔◌, int_le, nat_lt, slice_set}
use Rattle.std.specs.Ordering.{int_eq}
use Rattle.rounding.specs.Numbers.{Between, floor_over}
use Rattle.stores.specs.declared.fault.StoreFault.TheVariants.{Place, Value}
use Rattle.stores.specs.Stores.{Answer, Meaning}

-- the most bytes that a packed store uses, two places each
abbrev pub most_bytes : ℕ
most_bytes = 16384

-- the largest shift
abbrev pub most_shift : ℕ
most_shift = 12

-- the halves of the bytes, in the order of their places
abbrev pub halves : List ℕ → List ℕ
halves [] = []
halves (b ∷ bs) = b % 16 ∷ b / 16 % 16 ∷ halves bs

-- a half byte in two's complement: -8 to 7
abbrev pub signed_half : ℕ → ℤ
signed_half n = if nat_lt n 8 then pos n else pos n -ℤ pos 16

-- under the shift s, a half with the number n is worth n times 2^s
abbrev pub scaled : ℕ → ℤ → ℤ
scaled s n = pos (2 ^ s) *ℤ n

-- the entries that the bytes show under the shift s
abbrev pub packed_entries : ℕ → List ℕ → List ℤ
packed_entries s bs = map (λ h. scaled s (signed_half h)) (halves bs)

-- some half is worth v under the shift s
abbrev pub Packable : ℕ → ℤ → Type 0
Packable s v = (n : ℤ) × Between (neg_ℤ (pos 8)) (pos 7) n × (v ≡ scaled s n)

-- the same as a test: v over 2^s, rounded down, is the number of a half, and that half is worth v
abbrev pub packable : ℕ → ℤ → Bool
packable s v = int_le (neg_ℤ (pos 8)) (floor_over v (2 ^ s)) && int_le (floor_over v (2 ^ s)) (pos 7) && int_eq (scaled s (floor_over v (2 ^ s))) v

-- the test is passed by those values and no others, whatever the shift
abbrev pub PackableTested : Type 0
PackableTested = (s : ℕ) (v : ℤ) → IsTrue (packable s v) ↔ Packable s v

-- HOLDS on n bytes under the shift s
abbrev pub packed_answer : ℕ → ℕ → ℕ → ℤ → Answer
packed_answer n s p v = if nat_lt p (2 * n) then (if packable s v then Ok tt else Err Value) else Err Place

-- the bytes under the shift s show what their halves are worth, and accept what some half is worth
abbrev pub packed_meaning : ℕ → List ℕ → Meaning
packed_meaning s bs = record { entries = packed_entries s bs; holds = packed_answer (length bs) s }

-- a write of v at p, accepted, gives p a half that is worth v, and leaves every other half as it was
abbrev pub HalfWritten : ℕ → List ℕ → ℕ → ℤ → Answer → List ℕ → Type 0
HalfWritten s before p v (Ok u) after = (h : ℕ) × (scaled s (signed_half h) ≡ v) × (halves after ≡ slice_set (halves before) p h)
HalfWritten s before p v (Err e) after = after ≡ before
