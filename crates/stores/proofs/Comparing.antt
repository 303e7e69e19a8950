-- Counting the places at which two stores differ.
-- Assumes nothing.
use Rattle.std.proofs.Common.{◌≡◌, ◌∷◌, suc, ℕ, ◌<◌, ◌≤◌, max, Bool, true, false, cond, not, List, [], length, get_or, ℤ, Some, None, Option, sym, refl, ap, ◌∙◌, ⊎_elim, zero-add, arith}
use Rattle.std.specs.List.{count_by, range_with_len}
use Rattle.std.specs.Ordering.{int_eq}
use Rattle.std.proofs.lemmas.Option.{none-some, slice_get_past}
use Rattle.std.proofs.lemmas.List.FromFn.{length-range_with_len, get_or-range_with_len}
use Rattle.std.proofs.lemmas.List.Sums.{get_or-le-sum_by}
use Rattle.std.proofs.lemmas.Bool.Decides.{leb_tells, Decides-int_eq}
use Rattle.stores.specs.Differing.{alike, differing}
use Rattle.stores.specs.Stores.{read_at}

agreed : (o u : Option ℤ) → not (alike o u) ≡ false → o ≡ u
agreed None None h = refl
agreed None (Some y) h = grind arith
agreed (Some x) None h = grind arith
agreed (Some x) (Some y) h = let s : int_eq x y ≡ true = grind arith in ap Some ((Decides-int_eq x y).0 s)

-- where none of the first n numbers passes, each fails
count_zero : (test : ℕ → Bool) (n : ℕ) → count_by test (range_with_len 0 n) ≡ 0 → (k : ℕ) → k < n → test k ≡ false
count_zero test n e k h =
    let long = length-range_with_len 0 n in
    let here : get_or (range_with_len 0 n) k 0 ≡ k = get_or-range_with_len 0 n k 0 h ∙ zero-add k in
    let most : cond (test k) 1 0 ≤ count_by test (range_with_len 0 n) = rw here at (get_or-le-sum_by (λ p. cond (test p) 1 0) (range_with_len 0 n) k 0 (omega arith)) in
    fails (test k) (omega arith)
  where
    fails : (b : Bool) → cond b 1 0 ≤ 0 → b ≡ false
    fails b e = grind arith

-- lists that read alike at each place are one
alike_all : (xs ys : List ℤ) → ((p : ℕ) → read_at xs p ≡ read_at ys p) → xs ≡ ys
alike_all [] [] h = refl
alike_all [] (y ∷ ys) h = absurd (none-some y (h 0))
alike_all (x ∷ xs) [] h = absurd (none-some x (sym (h 0)))
alike_all (x ∷ xs) (y ∷ ys) h = let rest = alike_all xs ys (λ p. h (suc p)) in cc (h 0)

pub differing_none : (xs ys : List ℤ) → differing xs ys ≡ 0 → xs ≡ ys
differing_none xs ys e =
    let size = max (length xs) (length ys) in
    alike_all xs ys (λ p.
    ⊎_elim
    (λ t. agreed (read_at xs p) (read_at ys p) (count_zero (λ p. not (alike (read_at xs p) (read_at ys p))) size e p t.1))
    (λ t. slice_get_past xs p (omega arith) ∙ sym (slice_get_past ys p (omega arith)))
    (leb_tells (suc p) size))
