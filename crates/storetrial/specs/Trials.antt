-- The five stores of a trial: what each means, what is asked of all of them, and what they answer.
use Rattle.std.specs.Prelude.{◌≡◌, ℕ, ◌*◌, ◌++◌, min, List, length, take, replicate, codes, pos, Option, Some, None, Ok, Err, vec_items}
use Rattle.std.specs.Fmt.{decimal, signed_decimal}
use Rattle.stores.specs.Differing.{differing}
use Rattle.stores.specs.Overlay.{over_meaning, table_size}
use Rattle.stores.specs.Packed.{most_bytes, most_shift, packed_meaning}
use Rattle.stores.specs.Plain.{plain_meaning}
use Rattle.stores.specs.Stores.{Answer as Answered, Meaning, Written, most_places, read_at, reason}
use Rattle.stores.specs.declared.packed.Packed.{Packed}
use Rattle.stores.specs.declared.plain.Plain.{Plain}
use Rattle.storetrial.specs.declared.action.Action.{Action}
use Rattle.storetrial.specs.declared.action.Action.TheVariants.{Read, Holds, Write}
use Rattle.storetrial.specs.declared.action.Outcome.{Outcome}
use Rattle.storetrial.specs.declared.action.Outcome.TheVariants.{Entry, Answer}
use Rattle.storetrial.specs.declared.five.Five.{Five}
use Rattle.storetrial.specs.declared.trial.Opening.{Opening}
use Rattle.storetrial.specs.declared.trial.Trial.{Trial}

-- the outcome is what the store means by it; only a write can alter the meaning
abbrev pub Acted : Meaning → Action → Outcome → Meaning → Type 0
Acted before (Read p) o after = (o ≡ Entry (read_at before.entries p)) × (after ≡ before)
Acted before (Holds p v) o after = (o ≡ Answer (before.holds p v)) × (after ≡ before)
Acted before (Write p v) o after = (a : Answered) × (o ≡ Answer a) × Written before p v a after

-- what is printed of an outcome
abbrev pub printed : Outcome → Option (List ℕ)
printed (Entry (Some n)) = Some (signed_decimal n)
printed (Entry None) = Some (codes "none")
printed (Answer (Ok u)) = Some (codes "ok")
printed (Answer (Err e)) = Some (codes "no " ++ decimal (reason e))

-- what a plain store and a packed store mean
abbrev pub of_plain : Plain → Meaning
of_plain s = plain_meaning (vec_items s.words)

abbrev pub of_packed : Packed → Meaning
of_packed s = packed_meaning s.shift.bits (vec_items s.bytes)

-- what each of the five means
abbrev pub meanings : Trial → Five Meaning
meanings t = record {
  plain = of_plain t.plain;
  packed = of_packed t.packed;
  over_plain = over_meaning t.over_plain.table.slots (of_plain t.over_plain.below);
  over_packed = over_meaning t.over_packed.table.slots (of_packed t.over_packed.below);
  twice = over_meaning t.twice.table.slots (over_meaning t.twice.below.table.slots (of_packed t.twice.below.below));
}

-- the same was asked of all five
pub record Asked (before : Five Meaning) (action : Action) (answers : Five Outcome) (after : Five Meaning) : Type 0 where
  pub plain : Acted before.plain action answers.plain after.plain
  pub packed : Acted before.packed action answers.packed after.packed
  pub over_plain : Acted before.over_plain action answers.over_plain after.over_plain
  pub over_packed : Acted before.over_packed action answers.over_packed after.over_packed
  pub twice : Acted before.twice action answers.twice after.twice

-- how many places a store has, and how many of them differ from those of p
abbrev pub size_of : Meaning → ℕ
size_of m = length m.entries

abbrev pub apart_from : Meaning → Meaning → ℕ
apart_from p m = differing m.entries p.entries

-- a number of each
abbrev pub of_each : (Meaning → ℕ) → Five Meaning → Five ℕ
of_each f m = record {
  plain = f m.plain;
  packed = f m.packed;
  over_plain = f m.over_plain;
  over_packed = f m.over_packed;
  twice = f m.twice;
}

-- a plain store of two words to a byte, all 0
abbrev pub zeros : ℕ → Meaning
zeros bytes = plain_meaning (take most_places (replicate (bytes * 2) (pos 0)))

-- a packed store of so many bytes with one value
abbrev pub filled : Opening → Meaning
filled o = packed_meaning (min o.shift most_shift) (take most_bytes (replicate o.bytes o.fill))

-- an overlay with nothing in its table
abbrev pub covered : Meaning → Meaning
covered = over_meaning (replicate table_size None)

-- what the five mean at first
abbrev pub opened : Opening → Five Meaning
opened o = record {
  plain = zeros o.bytes;
  packed = filled o;
  over_plain = covered (zeros o.bytes);
  over_packed = covered (filled o);
  twice = covered (covered (filled o));
}
