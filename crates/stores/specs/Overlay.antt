-- An overlay: a table of places with values, over the entries of the store below.
use Rattle.std.specs.Prelude.{◌≡◌, ℕ, suc, ◌+◌, Bool, if◌then◌else◌, ◌||◌, List, [], ◌∷◌, ℤ, is_some, Some, None, Ok, Err, count_by, Option, ◌==◌, nat_lt}
use Rattle.std.specs.Ordering.{int_eq}
use Rattle.std.specs.Option.{unwrap_or}
use Rattle.stores.specs.declared.fault.StoreFault.TheVariants.{Place, Full}
use Rattle.stores.specs.declared.patch.Patch.{Patch}
use Rattle.stores.specs.Stores.{Answer, Meaning, read_at}

-- a slot of the table: free, or taken by a place with its value
abbrev pub Slot : Type 0
Slot = Option Patch

-- the value that the table has for a place
abbrev pub lookup : ℕ → List Slot → Option ℤ
lookup p [] = None
lookup p (None ∷ ss) = lookup p ss
lookup p (Some x ∷ ss) = if x.place == p then Some x.value else lookup p ss

-- how many slots are taken
abbrev pub taken : List Slot → ℕ
taken = count_by is_some

-- how many slots a table has
abbrev pub table_size : ℕ
table_size = 32

-- the table can take a value for the place: the place is in it, or it is not full
abbrev pub room : ℕ → List Slot → Bool
room p ss = is_some (lookup p ss) || nat_lt (taken ss) table_size

-- the entries from place i on, each with the table's value in its place where there is one
abbrev pub overlaid : ℕ → List Slot → List ℤ → List ℤ
overlaid i ss [] = []
overlaid i ss (e ∷ es) = unwrap_or (lookup i ss) e ∷ overlaid (suc i) ss es

-- HOLDS, by the entry below: there is none from the size on; that entry is always accepted, and another value where there is room
abbrev pub over_answer : List Slot → ℕ → ℤ → Option ℤ → Answer
over_answer ss p v None = Err Place
over_answer ss p v (Some e) = if int_eq e v || room p ss then Ok tt else Err Full

-- the table over what the store below means
abbrev pub over_meaning : List Slot → Meaning → Meaning
over_meaning ss m = record { entries = overlaid 0 ss m.entries; holds = λ p v. over_answer ss p v (read_at m.entries p) }

-- what a write of v leaves in the table, where e stands below: nothing for that entry, else the value
abbrev pub patch : ℤ → ℤ → Option ℤ
patch e v = if int_eq e v then None else Some v

-- 1 for a place that is in the table
abbrev pub counted : Option ℤ → ℕ
counted o = if is_some o then 1 else 0

-- the table has w for the place p now, and is else as it was
pub record Changed (p : ℕ) (w : Option ℤ) (before after : List Slot) : Type 0 where
  pub shows : (q : ℕ) → lookup q after ≡ (if q == p then w else lookup q before)
  pub counts : taken after + counted (lookup p before) ≡ taken before + counted w

-- a write of v at p, where e stands below: accepted, it changes what the table has for p and nothing else, and refused, nothing
abbrev pub TableWritten : List Slot → ℕ → ℤ → ℤ → Answer → List Slot → Type 0
TableWritten before p e v (Ok u) after = Changed p (patch e v) before after
TableWritten before p e v (Err f) after = after ≡ before
