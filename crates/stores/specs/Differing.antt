-- How far two stores differ.
use Rattle.std.specs.Prelude.{ℕ, max, Bool, not, List, length, ℤ, Option, count_by}
use Rattle.std.specs.List.{range_with_len}
use Rattle.std.specs.Option.{option_eq}
use Rattle.std.specs.Ordering.{int_eq}
use Rattle.stores.specs.Stores.{read_at}

-- two reads give the same
abbrev pub alike : Option ℤ → Option ℤ → Bool
alike = option_eq int_eq

-- how many places read otherwise in one store than in the other; a place that only one of them has is such a place
abbrev pub differing : List ℤ → List ℤ → ℕ
differing xs ys = count_by (λ p. not (alike (read_at xs p) (read_at ys p))) (range_with_len 0 (max (length xs) (length ys)))
