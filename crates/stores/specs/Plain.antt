-- A store of plain words, which keeps every weight.
use Rattle.std.specs.Prelude.{if◌then◌else◌, List, length, ℤ, Ok, Err, nat_lt}
use Rattle.stores.specs.declared.fault.StoreFault.TheVariants.{Place}
use Rattle.stores.specs.Stores.{Meaning}

-- the words are the entries, and every value is accepted
abbrev pub plain_meaning : List ℤ → Meaning
plain_meaning ws = record { entries = ws; holds = λ p v. if nat_lt p (length ws) then Ok tt else Err Place }
