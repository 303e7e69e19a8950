-- The entries under an overlay's table: what they are, and what a change of the table does to them.
-- Assumes nothing.
use Rattle.std.specs.Prelude.{◌≡◌, ℕ, zero, suc, ◌+◌, ◌<◌, ◌≤◌, true, if◌then◌else◌, ◌||◌, ◌≢◌, List, [], ◌∷◌, All, length, ℤ, pos, Some, None, Ok, Err, Option, ◌==◌, slice_get, slice_index_or, slice_set, refl}
use Rattle.std.specs.Ordering.{int_eq}
use Rattle.std.proofs.Common.{ap, ◌∙◌, add-zero, zero-add, add-suc, suc-add, le_of_suc-le-suc, arith}
use Rattle.std.proofs.lemmas.Int.{ints}
use Rattle.std.proofs.lemmas.Bool.Decides.{nat_tests, Decides-int_eq}
use Rattle.std.specs.Option.{option_map, unwrap_or}
use Rattle.std.proofs.lemmas.Option.{slice_get_past, slice_get_within, slice_get-get_or, get_or_from_slice_get}
use Rattle.std.proofs.lemmas.List.Elements.{All-nil, All-cons, All-head, All-tail}
use Rattle.rounding.specs.Numbers.{Weight}
use Rattle.stores.specs.declared.fault.StoreFault.TheVariants.{Place, Full}
use Rattle.stores.specs.Shared.{not_place, same_not}
use Rattle.stores.specs.Overlay.{Slot, Changed, TableWritten, lookup, over_answer, over_meaning, overlaid, patch, room}
use Rattle.stores.specs.Tables.{Put, TableWeights}
use Rattle.stores.specs.Stores.{Answer, Meaning, Written, read_at}

pub overlaid_length : (i : ℕ) (ss : List Slot) (es : List ℤ) → length (overlaid i ss es) ≡ length es
overlaid_length i ss [] = refl
overlaid_length i ss (e ∷ es) = ap suc (overlaid_length (suc i) ss es)

slice_get-overlaid : (i : ℕ) (ss : List Slot) (es : List ℤ) (k : ℕ) → slice_get (overlaid i ss es) k ≡ option_map (unwrap_or (lookup (i + k) ss)) (slice_get es k)
slice_get-overlaid i ss [] k = refl
slice_get-overlaid i ss (e ∷ es) zero = rw add-zero refl
slice_get-overlaid i ss (e ∷ es) (suc k) = slice_get-overlaid (suc i) ss es k ∙ (rw (add-suc, suc-add) refl)

-- READ prefers the table
pub read_overlaid : (ss : List Slot) (es : List ℤ) (p : ℕ) → read_at (overlaid 0 ss es) p ≡ option_map (unwrap_or (lookup p ss)) (read_at es p)
read_overlaid ss es p = slice_get-overlaid 0 ss es p ∙ (rw zero-add refl)

-- ---- a table that has nothing for any place shows what is below
pub overlaid_none : (i : ℕ) (ss : List Slot) → ((p : ℕ) → lookup p ss ≡ None) → (es : List ℤ) → overlaid i ss es ≡ es
overlaid_none i ss n [] = refl
overlaid_none i ss n (e ∷ es) = let here = n i in let rest = overlaid_none (suc i) ss n es in cc

-- ---- weights over weights are weights
pub overlaid_weights : (i : ℕ) (ss : List Slot) → TableWeights ss → (es : List ℤ) → All Weight es → All Weight (overlaid i ss es)
overlaid_weights i ss w [] a = All-nil Weight
overlaid_weights i ss w (e ∷ es) a = All-cons Weight _ _ (here (lookup i ss) (w i)) (overlaid_weights (suc i) ss w es (All-tail Weight e es a))
  where
    here : (o : Option ℤ) → ((v : ℤ) → o ≡ Some v → Weight v) → Weight (unwrap_or o e)
    here None k = All-head Weight e es a
    here (Some v) k = k v refl

-- ---- one place of the table changes
overlaid_same : (j : ℕ) (ss ts : List Slot) (es : List ℤ) → ((q : ℕ) → j ≤ q → lookup q ts ≡ lookup q ss) → overlaid j ts es ≡ overlaid j ss es
overlaid_same j ss ts [] h = refl
overlaid_same j ss ts (e ∷ es) h =
    let rest = overlaid_same (suc j) ss ts es (λ q l. h q (omega arith)) in
    let here = h j (omega arith) in cc

overlaid_set : (i : ℕ) (ss ts : List Slot) (es : List ℤ) (k : ℕ) (v d : ℤ) → k < length es → unwrap_or (lookup (i + k) ts) (slice_index_or es k d) ≡ v →
    ((q : ℕ) → q ≢ i + k → lookup q ts ≡ lookup q ss) → overlaid i ts es ≡ slice_set (overlaid i ss es) k v
overlaid_set i ss ts [] k v d l e h = let z : ⊥ = omega arith in absurd z
overlaid_set i ss ts (x ∷ es) zero v d l e h =
    let first = rw add-zero at e in
    let rest = overlaid_same (suc i) ss ts es (λ q m. h q (omega arith)) in cc
overlaid_set i ss ts (x ∷ es) (suc k) v d l e h =
    let here = h i (omega arith) in
    let rest = overlaid_set (suc i) ss ts es k v d (le_of_suc-le-suc l) (rw suc-add (rw add-suc at e)) (λ q m. h q (omega arith)) in cc

-- an entry that is read lies inside
pub read_inside : (es : List ℤ) (p : ℕ) (e : ℤ) → read_at es p ≡ Some e → (p < length es) × (slice_index_or es p (pos 0) ≡ e)
read_inside es p e r = (slice_get_within es p e r, get_or_from_slice_get es p e (pos 0) r)

patched : (e v : ℤ) → unwrap_or (patch e v) e ≡ v
patched e v = grind (arith, ints, Decides-int_eq)

pub changed_entries : (ss ts : List Slot) (es : List ℤ) (p : ℕ) (e v : ℤ) → read_at es p ≡ Some e → Changed p (patch e v) ss ts → overlaid 0 ts es ≡ slice_set (overlaid 0 ss es) p v
changed_entries ss ts es p e v r c =
    let inside = read_inside es p e r in
    overlaid_set 0 ss ts es p v (pos 0) inside.0
    (rw (zero-add, inside.1) (ap (λ o. unwrap_or o e) (c.shows p ∙ itself p (patch e v) (lookup p ss)) ∙ patched e v))
    (λ q n. c.shows q ∙ others q p (patch e v) (lookup q ss) (rw zero-add at n))
  where
    itself : (p : ℕ) (o u : Option ℤ) → (if p == p then o else u) ≡ o
    itself p o u = grind (arith, nat_tests)

    others : (q p : ℕ) (o u : Option ℤ) → q ≢ p → (if q == p then o else u) ≡ u
    others q p o u n = grind (arith, nat_tests)

-- ---- HOLDS gives the reason `Place` from the size on, and nowhere else
pub over_outside : (ss : List Slot) (es : List ℤ) (p : ℕ) (v : ℤ) → length es ≤ p → over_answer ss p v (read_at es p) ≡ Err Place
over_outside ss es p v h = rw (slice_get_past es p h) refl

pub over_inside : (ss : List Slot) (es : List ℤ) (p : ℕ) (v : ℤ) → p < length es → over_answer ss p v (read_at es p) ≢ Err Place
over_inside ss es p v h e =
    not_place Full (int_eq (slice_index_or es p (pos 0)) v || room p ss) (λ is. omega arith) (rw (slice_get-get_or es p (pos 0) h) at e)

-- ---- a write, where e stands below
module _ (m : Meaning) (ss ts : List Slot) (p : ℕ) (e v : ℤ) (read : read_at m.entries p ≡ Some e) where
  changed : int_eq e v || room p ss ≡ true → Changed p (patch e v) ss ts
      → Written (over_meaning ss m) p v (Ok tt) (over_meaning ts m) × TableWritten ss p (slice_index_or m.entries p (pos 0)) v (Ok tt) ts
  changed free c = ((rw (read, free) refl, changed_entries ss ts m.entries p e v read c), rw (read_inside m.entries p e read).1 c)

  -- of that entry: the place leaves the table
  pub wrote_entry : e ≡ v → Changed p None ss ts → Written (over_meaning ss m) p v (Ok tt) (over_meaning ts m) × TableWritten ss p (slice_index_or m.entries p (pos 0)) v (Ok tt) ts
  wrote_entry is c = let s : int_eq e v ≡ true = (Decides-int_eq e v).1 is in changed (rw s refl) (rw s c)

  -- of another value: it replaces or joins, or the table is full
  pub wrote_other : (e ≢ v) → (a : Answer) → Put p v ss a ts → Written (over_meaning ss m) p v a (over_meaning ts m) × TableWritten ss p (slice_index_or m.entries p (pos 0)) v a ts
  wrote_other not (Ok u) put = let s = same_not e v not in changed (rw (s, put.0) refl) (rw s put.1)
  wrote_other not (Err f) put =
      let s = same_not e v not in
      ((rw (read, s, put.0, put.1) refl, ap (λ us. over_meaning us m) put.2), put.2)
