-- What all stores' proofs share: the test for equal numbers, and an answer that is not `Place`.
-- Assumes nothing.
use Rattle.std.specs.Prelude.{◌≡◌, Bool, true, false, cond, ℤ, Ok, Err, ◌≢◌}
use Rattle.std.specs.Ordering.{int_eq}
use Rattle.std.proofs.Common.{ap, arith}
use Rattle.std.proofs.lemmas.Bool.Decides.{Decides-int_eq}
use Rattle.stores.specs.declared.fault.StoreFault.{StoreFault}
use Rattle.stores.specs.declared.fault.StoreFault.TheVariants.{Place}
use Rattle.stores.specs.Stores.{Answer, reason}

pub same_not : (x y : ℤ) → x ≢ y → int_eq x y ≡ false
same_not x y h = grind (arith, Decides-int_eq)

-- accepted or refused for another reason
pub not_place : (f : StoreFault) (b : Bool) → (reason f ≢ 1) → cond {A = Answer} b (Ok tt) (Err f) ≡ Err Place → ⊥
not_place f true n e = grind arith
not_place f false n e = let is : f ≡ Place = cc in n (ap reason is)
