-- A weight store, by what it means.
use Rattle.std.specs.Prelude.{◌≡◌, ℕ, ◌<◌, ◌≤◌, List, All, length, ℤ, Ok, Err, Option, Result, slice_get, ◌≢◌, slice_set}
use Rattle.rounding.specs.Numbers.{Weight}
use Rattle.stores.specs.declared.fault.StoreFault.{StoreFault}
use Rattle.stores.specs.declared.fault.StoreFault.TheVariants.{Place, Value, Full}

-- the number of each reason to refuse a write
abbrev pub reason : StoreFault → ℕ
reason Place = 1
reason Value = 2
reason Full = 3

-- a write is accepted, or refused for a reason
abbrev pub Answer : Type 0
Answer = Result (Unit {0}) StoreFault

-- what a store means: an entry for each place below its size, and what a write of a value at a place would be answered now
pub record Meaning : Type 0 where
  pub entries : List ℤ
  pub holds : ℕ → ℤ → Answer

-- the most places that a store has
abbrev pub most_places : ℕ
most_places = 32768

-- what every store owes: a size within the limit, weights as entries, and for a weight the reason `Place` from the size on and nowhere else
pub record StoreLaws (m : Meaning) : Type 0 where
  pub few : length m.entries ≤ most_places
  pub weights : All Weight m.entries
  pub outside : (p : ℕ) (v : ℤ) → Weight v → length m.entries ≤ p → m.holds p v ≡ Err Place
  pub inside : (p : ℕ) (v : ℤ) → Weight v → p < length m.entries → m.holds p v ≢ Err Place

-- READ: the entry at a place, or none from the size on
abbrev pub read_at : List ℤ → ℕ → Option ℤ
read_at = slice_get

-- WRITE: it answers as HOLDS would; accepted, it sets that entry and no other, and refused, it alters nothing
abbrev pub Written : Meaning → ℕ → ℤ → Answer → Meaning → Type 0
Written before p v (Ok u) after = (before.holds p v ≡ Ok u) × (after.entries ≡ slice_set before.entries p v)
Written before p v (Err e) after = (before.holds p v ≡ Err e) × (after ≡ before)

-- a refused write leaves the store itself as it was, and not only what it means
abbrev pub Untouched : {S : Type 0} → Answer → S → S → Type 0
Untouched (Ok u) before after = Unit {0}
Untouched (Err e) before after = after ≡ before
