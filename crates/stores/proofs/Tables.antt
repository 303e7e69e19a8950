-- The table of an overlay: what it has for each place once one slot is written.
-- Assumes nothing.
use Rattle.std.proofs.Common.{◌≡◌, ℕ, zero, suc, pred, ◌<◌, true, false, cond, eqb, ltb, ◌⊎◌, List, [], ◌∷◌, length, get_or, set, replicate, ◌≢◌, All, ℤ, pos, is_some, Some, None, Option, sym, refl, ap, ◌∙◌, subst, inl, inr, ⊎_elim, le_of_suc-le-suc, arith, MatchOption}
use Rattle.std.specs.Option.{option_map}
use Rattle.std.proofs.lemmas.Option.{none-some, same_Some}
use Rattle.std.proofs.lemmas.List.{length-set, get_or_past, get_or-set_same, get_or-set_other, set-get_or}
use Rattle.std.proofs.lemmas.List.Sums.{count_by-le-length, sum_by-cons, sum_by-set}
use Rattle.std.proofs.lemmas.Bool.Decides.{nat_tests, eqb_tells, leb_tells}
use Rattle.rounding.specs.Numbers.{Weight}
use Rattle.stores.specs.declared.patch.Patch.{Patch}
use Rattle.stores.specs.Overlay.{Slot, Changed, counted, lookup, room, table_size, taken}
use Rattle.stores.specs.Tables.{Apart, Only, OpenTo, Seat, TableWeights, place_of, slot_with}

-- ---- one slot more, or another one, in front
skip : (p : ℕ) (s : Slot) (ss : List Slot) → (place_of s ≡ Some p → ⊥) → lookup p (s ∷ ss) ≡ lookup p ss
skip p None ss n = refl
skip p (Some x) ss n = let m : (x.place ≡ p → ⊥) = λ e. n (ap Some e) in grind (arith, nat_tests)

under : (p : ℕ) (s : Slot) (ss ts : List Slot) → lookup p ss ≡ lookup p ts → lookup p (s ∷ ss) ≡ lookup p (s ∷ ts)
under p None ss ts e = e
under p (Some x) ss ts e = ap (cond (eqb x.place p) (Some x.value)) e

pub lookup_none : (p : ℕ) (ss : List Slot) → ((j : ℕ) → place_of (get_or ss j None) ≡ Some p → ⊥) → lookup p ss ≡ None
lookup_none p [] n = refl
lookup_none p (s ∷ ss) n = skip p s ss (n 0) ∙ lookup_none p ss (λ j. n (suc j))

-- ---- a slot is written
lookup_same : (p i : ℕ) (ss : List Slot) (w : Slot) → i < length ss → Only p i ss → lookup p (set ss i w) ≡ lookup p (w ∷ [])
lookup_same p i [] w h o = let z : ⊥ = omega arith in absurd z
lookup_same p zero (s ∷ ss) w h o = under p w ss [] (lookup_none p ss (λ j e. let z = o (suc j) e in omega arith))
lookup_same p (suc i) (s ∷ ss) w h o =
    skip p s (set ss i w) (λ e. let z = o 0 e in omega arith) ∙ lookup_same p i ss w (le_of_suc-le-suc h) (λ j e. ap pred (o (suc j) e))

lookup_other : (q i : ℕ) (ss : List Slot) (w : Slot) → (place_of (get_or ss i None) ≡ Some q → ⊥) → (place_of w ≡ Some q → ⊥) → lookup q (set ss i w) ≡ lookup q ss
lookup_other q i [] w n m = refl
lookup_other q zero (s ∷ ss) w n m = skip q w ss m ∙ sym (skip q s ss n)
lookup_other q (suc i) (s ∷ ss) w n m = under q s (set ss i w) ss (lookup_other q i ss w n m)

open_counted : (p : ℕ) (s : Slot) → OpenTo p s → counted (lookup p (s ∷ [])) ≡ cond (is_some s) 1 0
open_counted p None o = refl
open_counted p (Some x) o = let e = o x.place refl in grind (arith, nat_tests)

module _ (p i : ℕ) (ss : List Slot) (inside : i < length ss) (only : Only p i ss) where
  -- what the table has for the place is what that slot has
  pub lookup_slot : lookup p ss ≡ lookup p (get_or ss i None ∷ [])
  lookup_slot = ap (lookup p) (sym (set-get_or ss i None)) ∙ lookup_same p i ss (get_or ss i None) inside only

  module _ (w : Slot) (was : OpenTo p (get_or ss i None)) (is : OpenTo p w) where
    -- the place has what was written, and each other what it had
    pub slot_changed : Changed p (lookup p (w ∷ [])) ss (set ss i w)
    slot_changed = record {
      shows = λ q.
          ⊎_elim
          (λ t. rw (t.0, t.1) (lookup_same p i ss w inside only))
          (λ t. rw t.0 (lookup_other q i ss w (λ e. t.1 (was q e)) (λ e. t.1 (is q e))))
          (eqb_tells q p);
      counts =
          let more = sum_by-set (λ s. cond (is_some s) 1 0) ss i w None inside in
          let old = ap counted lookup_slot ∙ open_counted p (get_or ss i None) was in
          let new = open_counted p w is in
          omega arith;
    }

    -- a slot that is taken now is the one that was written, or was taken before
    now_taken : (j q : ℕ) → place_of (get_or (set ss i w) j None) ≡ Some q → ((j ≡ i) × (q ≡ p)) ⊎ (place_of (get_or ss j None) ≡ Some q)
    now_taken j q e =
        ⊎_elim
        (λ t. inl (t.1, is q (ap place_of (sym (get_or-set_same ss i w None inside) ∙ ap (λ k. get_or (set ss i w) k None) (sym t.1)) ∙ e)))
        (λ t. inr (ap place_of (sym (get_or-set_other ss i j w None t.1)) ∙ e))
        (eqb_tells j i)

    -- no place has taken two slots
    pub slot_apart : Apart ss → Apart (set ss i w)
    slot_apart apart a b clash =
        let q = clash.0 in
        ⊎_elim
        (λ t. ⊎_elim (λ u. t.0 ∙ sym u.0) (λ u. t.0 ∙ sym (only b (u ∙ ap Some t.1))) (now_taken b q clash.2))
        (λ t. ⊎_elim (λ u. only a (t ∙ ap Some u.1) ∙ sym u.0) (λ u. apart a b (q, t, u)) (now_taken b q clash.2))
        (now_taken a q clash.1)

-- ---- free slots
-- with a free slot, not all are taken
pub slot_free : (i : ℕ) (ss : List Slot) → i < length ss → place_of (get_or ss i None) ≡ None → taken ss < length ss
slot_free i ss h e =
    let new : Patch = record { place = 0; value = pos 0 } in
    let more = sum_by-set (λ s. cond (is_some s) 1 0) ss i (Some new) None h in
    let most = count_by-le-length is_some (set ss i (Some new)) in
    let long = length-set ss i (Some new) in
    let none = vacant (get_or ss i None) e in
    omega arith
  where
    vacant : (s : Slot) → place_of s ≡ None → ◌≡◌ {A = ℕ} (cond (is_some s) 1 0) 0
    vacant None e = refl
    vacant (Some x) e = absurd (none-some x.place (sym e))

-- with no free slot, all are taken
pub all_taken : (ss : List Slot) → All (λ s. place_of s ≢ None) ss → taken ss ≡ length ss
all_taken [] n = refl
all_taken (None ∷ ss) n = absurd (n 0 None (omega arith) refl)
all_taken (Some x ∷ ss) n = sum_by-cons (λ s. cond (is_some s) 1 0) (Some x) ss ∙ (let ih = all_taken ss (λ k d h. n (suc k) d (omega arith)) in omega arith)

-- past the last slot there is none
pub beyond : (p : ℕ) (ss : List Slot) → All (λ s. place_of s ≢ Some p) ss → (j : ℕ) → place_of (get_or ss j None) ≡ Some p → ⊥
beyond p ss n j e =
    ⊎_elim
    (λ t. n j None t.1 e)
    (λ t. none-some p (ap place_of (sym (get_or_past ss j None (le_of_suc-le-suc t.1))) ∙ e))
    (leb_tells (suc j) (length ss))

-- ---- a new table
empty_slot : (n i : ℕ) → get_or {A = Slot} (replicate n None) i None ≡ None
empty_slot zero i = refl
empty_slot (suc n) zero = refl
empty_slot (suc n) (suc i) = empty_slot n i

pub empty_apart : (n : ℕ) → Apart (replicate n None)
empty_apart n i j clash = absurd (none-some clash.0 (ap place_of (sym (empty_slot n i)) ∙ clash.1))

pub empty_lookup : (n p : ℕ) → lookup p (replicate n None) ≡ None
empty_lookup n p = lookup_none p (replicate n None) (λ j e. none-some p (ap place_of (sym (empty_slot n j)) ∙ e))

pub empty_weights : (n : ℕ) → TableWeights (replicate n None)
empty_weights n p v e = absurd (none-some v (sym (empty_lookup n p) ∙ e))

-- ---- the slot for a place
-- a place that has taken a slot is in the table
found : (p : ℕ) (ss : List Slot) (j : ℕ) → place_of (get_or ss j None) ≡ Some p → is_some (lookup p ss) ≡ true
found p [] j e = absurd (none-some p e)
found p (None ∷ ss) zero e = absurd (none-some p e)
found p (None ∷ ss) (suc j) e = found p ss j e
found p (Some x ∷ ss) zero e = let k = same_Some x.place p e in grind (arith, nat_tests)
found p (Some x ∷ ss) (suc j) e = let ih = found p ss j e in grind (arith, nat_tests)

module _ (p : ℕ) (ss : List Slot) where
  -- its own
  pub own_slot : Apart ss → (r : Option ℕ)
      → MatchOption r (All (λ s. place_of s ≢ Some p) ss) (λ i. (i < length ss) × (place_of (get_or ss i None) ≡ Some p))
      → MatchOption r (lookup p ss ≡ None) (λ i. Seat p ss i × (place_of (get_or ss i None) ≡ Some p))
  own_slot apart None nowhere = lookup_none p ss (beyond p ss nowhere)
  own_slot apart (Some i) here =
      let own = here.1 in
      ((here.0, λ q e. same_Some q p (sym e ∙ own), λ j e. apart j i (p, e, own)), own)

  -- or a free one
  pub free_slot : length ss ≡ table_size → lookup p ss ≡ None → (r : Option ℕ)
      → MatchOption r (All (λ s. place_of s ≢ None) ss) (λ i. (i < length ss) × (place_of (get_or ss i None) ≡ None))
      → MatchOption r (room p ss ≡ false) (λ i. (room p ss ≡ true) × Seat p ss i)
  free_slot long gone None full =
      let all = all_taken ss full in
      let t : ltb (taken ss) table_size ≡ false = grind (arith, nat_tests) in
      rw (gone, t) refl
  free_slot long gone (Some i) here =
      let some = slot_free i ss here.0 here.1 in
      let t : ltb (taken ss) table_size ≡ true = grind (arith, nat_tests) in
      (rw (gone, t) refl, (here.0, λ q e. absurd (none-some q (sym here.1 ∙ e)), λ j e. absurd (grind (arith, gone, found p ss j e))))

  -- its own, and else a free one
  pub seat_for : length ss ≡ table_size → (own r : Option ℕ) {Free : Type 0}
      → MatchOption own (lookup p ss ≡ None) (λ i. Seat p ss i × (place_of (get_or ss i None) ≡ Some p))
      → MatchOption own Free (λ i. r ≡ Some i)
      → (Free → MatchOption r (All (λ s. place_of s ≢ None) ss) (λ i. (i < length ss) × (place_of (get_or ss i None) ≡ None)))
      → MatchOption r (room p ss ≡ false) (λ i. (room p ss ≡ true) × Seat p ss i)
  seat_for long None r gone free is = free_slot long gone r (is free)
  seat_for long (Some i) r own e is = rw e (rw (found p ss i own.1) refl, own.0)

-- ---- a value is kept for a place, or the place is taken out
kept_open : (p : ℕ) (v : Option ℤ) → OpenTo p (slot_with p v)
kept_open p None q e = absurd (none-some q e)
kept_open p (Some v) q e = same_Some q p (sym e)

kept_lookup : (p : ℕ) (v : Option ℤ) → lookup p (slot_with p v ∷ []) ≡ v
kept_lookup p None = refl
kept_lookup p (Some v) = grind (arith, nat_tests)

module _ (p i : ℕ) (ss : List Slot) (v : Option ℤ) (seat : Seat p ss i) where
  pub filled_apart : Apart ss → Apart (set ss i (slot_with p v))
  filled_apart = slot_apart p i ss seat.0 seat.2 (slot_with p v) seat.1 (kept_open p v)

  pub filled_changed : Changed p v ss (set ss i (slot_with p v))
  filled_changed = subst (λ w. Changed p w ss (set ss i (slot_with p v))) (kept_lookup p v) (slot_changed p i ss seat.0 seat.2 (slot_with p v) seat.1 (kept_open p v))

  pub filled_weights : TableWeights ss → ((n : ℤ) → v ≡ Some n → Weight n) → TableWeights (set ss i (slot_with p v))
  filled_weights old new q n e =
      ⊎_elim
      (λ t. new n (sym (ap (λ b. cond b v (lookup q ss)) t.0) ∙ sym (filled_changed.shows q) ∙ e))
      (λ t. old q n (sym (ap (λ b. cond b v (lookup q ss)) t.0) ∙ sym (filled_changed.shows q) ∙ e))
      (eqb_tells q p)

-- ---- the table's own value
pub slot_value : (p i : ℕ) (ss : List Slot) → Seat p ss i → place_of (get_or ss i None) ≡ Some p → lookup p ss ≡ option_map (λ x. x.value) (get_or ss i None)
slot_value p i ss seat own = lookup_slot p i ss seat.0 seat.2 ∙ alone (get_or ss i None) own
  where
    alone : (s : Slot) → place_of s ≡ Some p → lookup p (s ∷ []) ≡ option_map (λ x. x.value) s
    alone None e = refl
    alone (Some x) e = let k = same_Some x.place p e in grind (arith, nat_tests)
