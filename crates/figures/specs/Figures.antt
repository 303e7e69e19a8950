-- The worked figures, over the definitions.
use Rattle.std.specs.Prelude.{◌≡◌, true, false, [], ◌∷◌, pos, negsuc, Ok, Err}
use Rattle.rounding.specs.Intervals.{from_to, rounded_outward}
use Rattle.rounding.specs.declared.interval.Interval.{Interval}
use Rattle.bounds.specs.Kinds.{Meanings}
use Rattle.bounds.specs.Ends.{ends_meanings}
use Rattle.bounds.specs.Centred.{centred_meanings}
use Rattle.bounds.specs.Curves.{curve_at}
use Rattle.bounds.specs.declared.curve.Curve.TheVariants.{Clip, Step}
use Rattle.stores.specs.Packed.{packed_answer, packed_entries}
use Rattle.stores.specs.Stores.{reason}
use Rattle.stores.specs.declared.fault.StoreFault.TheVariants.{Value}
use Rattle.figures.specs.declared.worked.WorkedFigures.{WorkedFigures}

-- the ends of the sum of one product: a weight within a times an activation within b
abbrev pub product_ends : (k : Meanings) → Interval → Interval → Interval
product_ends k a b =
    let s = k.adds k.starts (k.makes a.low a.high) (k.makes b.low b.high) in
    from_to (k.sum_low s) (k.sum_high s)

-- the figures, of the definitions
pub record Figures : Type 0 where
  -- the sum -3 with one fraction bit closes to -2 and -1
  pub closed : rounded_outward (negsuc 2) (negsuc 2) (pos 0) 1 ≡ from_to (negsuc 1) (negsuc 0)
  -- 2..4 times -3..1 is -12..4 in kind 0, and -12..6 in kind 1
  pub in_ends : product_ends ends_meanings (from_to (pos 2) (pos 4)) (from_to (negsuc 2) (pos 1)) ≡ from_to (negsuc 11) (pos 4)
  pub in_centred : product_ends centred_meanings (from_to (pos 2) (pos 4)) (from_to (negsuc 2) (pos 1)) ≡ from_to (negsuc 11) (pos 6)
  -- the weight 0 with a distance of 1 on 2..3 gives -3..3 in kind 0
  pub around_zero : product_ends ends_meanings (from_to (negsuc 0) (pos 1)) (from_to (pos 2) (pos 3)) ≡ from_to (negsuc 2) (pos 3)
  -- a clip to -2..5 turns 6 into 5
  pub clipped : curve_at (Clip (negsuc 1) (pos 5)) 1 (pos 6) ≡ pos 5
  -- a step from -1 to 1 gives 1 at 0
  pub stepped : curve_at (Step (negsuc 0) (pos 1)) 1 (pos 0) ≡ pos 1
  -- a packed store with the shift 2 keeps 28 and -32, and answers 2 for 6 and 32
  pub keeps_high : packed_answer 1 2 0 (pos 28) ≡ Ok tt
  pub keeps_low : packed_answer 1 2 1 (negsuc 31) ≡ Ok tt
  pub refuses_part : packed_answer 1 2 0 (pos 6) ≡ Err Value
  pub refuses_past : packed_answer 1 2 1 (pos 32) ≡ Err Value
  pub reason_two : reason Value ≡ 2
  -- kept together, they are one byte
  pub one_byte : packed_entries 2 (0x87 ∷ []) ≡ pos 28 ∷ negsuc 31 ∷ []

-- the code's results are the figures
pub record Agrees (f : WorkedFigures) : Type 0 where
  pub closed : f.closed ≡ from_to (negsuc 1) (negsuc 0)
  pub in_ends : f.in_ends ≡ from_to (negsuc 11) (pos 4)
  pub in_centred : f.in_centred ≡ from_to (negsuc 11) (pos 6)
  pub around_zero : f.around_zero ≡ from_to (negsuc 2) (pos 3)
  pub clipped : f.clipped ≡ pos 5
  pub stepped : f.stepped ≡ pos 1
  pub keeps_high : f.keeps_high ≡ true
  pub keeps_low : f.keeps_low ≡ true
  pub keeps_part : f.keeps_part ≡ false
  pub keeps_past : f.keeps_past ≡ false
