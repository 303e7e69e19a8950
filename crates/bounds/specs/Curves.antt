-- The curves, over every denominator, and the three laws that layer work rests on.
use Rattle.std.specs.Prelude.{◌≡◌, ℕ, ◌≤◌, if◌then◌else◌, ℤ, pos, ◌*ℤ◌, ◌≤ℤ◌, Some, None, Ok, Err, Option, Result, ◌≢◌, int_lt}
use Rattle.std.specs.Int.{int_max, int_min}
use Rattle.rounding.specs.Numbers.{InRange}
use Rattle.bounds.specs.declared.curve.Curve.{Curve}
use Rattle.bounds.specs.declared.curve.CurveNumbers.{CurveNumbers}
use Rattle.bounds.specs.declared.curve.NoCurve.{NoCurve}
use Rattle.bounds.specs.declared.curve.Curve.TheVariants.{Identity, Relu, Clip, Step}

-- what a curve makes of the numerator m over the denominator D
abbrev pub curve_at : Curve → ℕ → ℤ → ℤ
curve_at Identity D m = m
curve_at Relu D m = int_max m (pos 0)
curve_at (Clip p r) D m = int_min (int_max m (pos D *ℤ p)) (pos D *ℤ r)
curve_at (Step p r) D m = if int_lt m (pos 0) then pos D *ℤ p else pos D *ℤ r

-- the laws of a curve: it never falls, it is one function over all denominators, and over 1 it stays in range
pub record CurveLaws (f : ℕ → ℤ → ℤ) : Type 0 where
  pub rises : (D : ℕ) → 1 ≤ D → (m n : ℤ) → m ≤ℤ n → f D m ≤ℤ f D n
  pub scales : (D : ℕ) → 1 ≤ D → (m : ℤ) → f D (pos D *ℤ m) ≡ pos D *ℤ f 1 m
  pub stays : (m : ℤ) → InRange m → InRange (f 1 m)

-- the numbers of a clip or a step are in range, and p is not above r
abbrev pub Lawful : Curve → Type 0
Lawful Identity = Unit {0}
Lawful Relu = Unit {0}
Lawful (Clip p r) = InRange p × InRange r × (p ≤ℤ r)
Lawful (Step p r) = InRange p × InRange r × (p ≤ℤ r)

-- every lawful curve keeps the laws
abbrev pub FourCurves : Type 0
FourCurves = (f : Curve) → Lawful f → CurveLaws (curve_at f)

-- the numbers that a curve is written in: its code, p and r
abbrev pub numbers_of : Curve → CurveNumbers
numbers_of Identity = record { code = pos 0; p = pos 0; r = pos 0 }
numbers_of Relu = record { code = pos 1; p = pos 0; r = pos 0 }
numbers_of (Clip p r) = record { code = pos 2; p = p; r = r }
numbers_of (Step p r) = record { code = pos 3; p = p; r = r }

-- the answer is the lawful curve that has these numbers, or none where there is no such curve
abbrev pub Named : CurveNumbers → Option Curve → Type 0
Named n (Some f) = Lawful f × (numbers_of f ≡ n)
Named n None = (f : Curve) → Lawful f → numbers_of f ≢ n

-- the same where the refusal hands back the numbers
abbrev pub NamedBy : CurveNumbers → Result Curve NoCurve → Type 0
NamedBy n (Ok f) = Named n (Some f)
NamedBy n (Err e) = Named n None × (e.numbers ≡ n)
