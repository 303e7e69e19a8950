-- The worked figures, by computing.
-- Assumes nothing.
use Rattle.std.proofs.Common.{refl}
use Rattle.figures.specs.Figures.{Figures}

pub worked_figures : Figures
worked_figures = record { closed = refl; in_ends = refl; in_centred = refl; around_zero = refl; clipped = refl; stepped = refl; keeps_high = refl; keeps_low = refl; refuses_part = refl; refuses_past = refl; reason_two = refl; one_byte = refl }
