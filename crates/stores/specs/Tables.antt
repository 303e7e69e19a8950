-- The inside of an overlay's table: which slot a place has, and which it can take.
use Rattle.std.specs.Prelude.{◌≡◌, ℕ, ◌<◌, true, false, List, length, ℤ, Some, None, Ok, Err, Option, slice_index_or}
use Rattle.std.specs.Option.{option_map}
use Rattle.rounding.specs.Numbers.{Weight}
use Rattle.stores.specs.declared.fault.StoreFault.TheVariants.{Full}
use Rattle.stores.specs.Overlay.{Changed, Slot, lookup, room}
use Rattle.stores.specs.Stores.{Answer}

-- the place that has taken the slot
abbrev pub place_of : Slot → Option ℕ
place_of = option_map (λ x. x.place)

-- a slot that keeps the value for p, or a free one where there is none
abbrev pub slot_with : ℕ → Option ℤ → Slot
slot_with p = option_map (λ v. record { place = p; value = v })

-- one place has taken both slots
abbrev pub Clash : Slot → Slot → Type 0
Clash s t = (p : ℕ) × (place_of s ≡ Some p) × (place_of t ≡ Some p)

-- no place has taken two slots
abbrev pub Apart : List Slot → Type 0
Apart ss = (i j : ℕ) → Clash (slice_index_or ss i None) (slice_index_or ss j None) → i ≡ j

-- every value in the table is a weight
abbrev pub TableWeights : List Slot → Type 0
TableWeights ss = (p : ℕ) (v : ℤ) → lookup p ss ≡ Some v → Weight v

-- the slot is free or taken by p
abbrev pub OpenTo : ℕ → Slot → Type 0
OpenTo p s = (q : ℕ) → place_of s ≡ Some q → q ≡ p

-- p has taken the slot i at most
abbrev pub Only : ℕ → ℕ → List Slot → Type 0
Only p i ss = (j : ℕ) → place_of (slice_index_or ss j None) ≡ Some p → j ≡ i

-- the slot i can take a value for p
abbrev pub Seat : ℕ → List Slot → ℕ → Type 0
Seat p ss i = (i < length ss) × OpenTo p (slice_index_or ss i None) × Only p i ss

-- a value is put for p where there is room, and else the table is full and stays as it was
abbrev pub Put : ℕ → ℤ → List Slot → Answer → List Slot → Type 0
Put p v before (Ok u) after = (room p before ≡ true) × Changed p (Some v) before after
Put p v before (Err e) after = (room p before ≡ false) × (e ≡ Full) × (after ≡ before)
