-- The first fault of a pool's entries, found index by index.
use Rattle.std.proofs.Common.{◌≡◌, ℕ, zero, suc, ◌+◌, ◌-◌, ◌≤◌, false, length, List, [], ◌∷◌, map, drop, Option, Some}
use Rattle.std.proofs.Common.{None, Result, Ok, Err, refl, sym, ap, ◌∙◌, arith}
use Rattle.std.specs.Prelude.{slice_get}
use Rattle.std.proofs.Math.ListN.{drop_of_length-le}
use Rattle.jv_base.specs.Place.{Place}
use Rattle.format_reading.specs.Reader.{u2, bind, give, of_result}
use Rattle.format_reading.specs.declared.fault.FormatFault.{FormatFault}
use Rattle.format_reading.specs.declared.fault.FormatKind.{FormatKind}
use Rattle.class_model.specs.declared.pool.Entry.{Entry}
use Rattle.class_model.specs.Lookups.{names_right}
use Rattle.class_model.specs.ReadingPool.{Slot, slots, fault_of, entries_of, all_name_right, read_pool}
use Rattle.class_read.specs.bodies.Entries.{found_at, fault_in, faults_in, offsets_of}

-- the first of two faults
abbrev pub first_of : Result (Unit {0}) FormatFault → Result (Unit {0}) FormatFault → Result (Unit {0}) FormatFault
first_of (Ok x) others = others
first_of (Err f) others = Err f

is_first : (at : ℕ) (r : Result (Unit {0}) FormatKind) (others : Result (Unit {0}) FormatFault)
    → fault_of at r others ≡ first_of (found_at at r) others
is_first at (Ok x) others = refl
is_first at (Err kind) others = refl

no_offset : (pool es : List Entry) → faults_in pool es [] ≡ Ok tt
unfolding faults_in
no_offset pool [] = refl
no_offset pool (e ∷ es) = refl

no_fault : (pool : List Entry) (e : Option Entry) → fault_in pool e None ≡ Ok tt
no_fault pool None = refl
no_fault pool (Some e) = refl

-- the fault of the entry at an index comes before those behind it
pub step : (pool : List Entry) (i : ℕ) (es : List Entry) (offsets : List ℕ)
    → faults_in pool (drop i es) (drop i offsets)
    ≡ first_of (fault_in pool (slice_get es i) (slice_get offsets i))
    (faults_in pool (drop (suc i) es) (drop (suc i) offsets))
unfolding faults_in
step pool zero [] offsets = refl
step pool zero (e ∷ es) [] = sym (no_offset pool es)
step pool zero (e ∷ es) (at ∷ offsets) = is_first at (names_right pool e) (faults_in pool es offsets)
step pool (suc i) [] offsets = refl
step pool (suc i) (e ∷ es) [] =
    no_offset pool (drop i es)
    ∙ sym (ap (λ r. first_of r (faults_in pool (drop (suc i) es) [])) (no_fault pool (slice_get es i))
    ∙ no_offset pool (drop (suc i) es))
step pool (suc i) (e ∷ es) (at ∷ offsets) = step pool i es offsets

behind_first : (pool : List Entry) (xs : List Slot)
    → faults_in pool (map (λ (s : Slot). s.entry) xs) (map (λ (s : Slot). s.at) xs) ≡ all_name_right pool xs
unfolding faults_in all_name_right
behind_first pool [] = refl
behind_first pool (s ∷ xs) = ap (fault_of s.at (names_right pool s.entry)) (behind_first pool xs)

-- all entries of a pool are those of its indices
pub all_are : (pool : List Entry) (xs : List Slot)
    → faults_in pool (entries_of xs) (offsets_of xs) ≡ all_name_right pool xs
unfolding faults_in names_right
all_are pool xs = behind_first pool xs

-- behind the last offset there is no fault
pub is_done : (pool : List Entry) (i : ℕ) (offsets : List ℕ) (total : Result (Unit {0}) FormatFault)
    → length offsets ≤ i → faults_in pool (drop i pool) (drop i offsets) ≡ total → Ok tt ≡ total
is_done pool i offsets total le so_far =
    sym (ap (faults_in pool (drop i pool)) (drop_of_length-le offsets le) ∙ no_offset pool (drop i pool)) ∙ so_far

-- the first fault is the whole
pub ends : (pool : List Entry) (i : ℕ) (offsets : List ℕ) (f : FormatFault) (total : Result (Unit {0}) FormatFault)
    → fault_in pool (slice_get pool i) (slice_get offsets i) ≡ Err f
    → faults_in pool (drop i pool) (drop i offsets) ≡ total → Err f ≡ total
ends pool i offsets f total h so_far =
    sym (step pool i pool offsets ∙ ap (λ r. first_of r (faults_in pool (drop (suc i) pool) (drop (suc i) offsets))) h)
    ∙ so_far

-- no fault at an index leaves those behind it
pub goes_on : (pool : List Entry) (i : ℕ) (offsets : List ℕ) (total : Result (Unit {0}) FormatFault)
    → fault_in pool (slice_get pool i) (slice_get offsets i) ≡ Ok tt
    → faults_in pool (drop i pool) (drop i offsets) ≡ total
    → faults_in pool (drop (i + 1) pool) (drop (i + 1) offsets) ≡ total
goes_on pool i offsets total h so_far =
    let e : i + 1 ≡ suc i = omega arith in
    ap (λ j. faults_in pool (drop j pool) (drop j offsets)) e
    ∙ sym (step pool i pool offsets ∙ ap (λ r. first_of r
    (faults_in pool (drop (suc i) pool) (drop (suc i) offsets))) h) ∙ so_far

-- what is told of the entries is what is found by their indices
pub told_is : (xs : List Slot) (pool : List Entry) (offsets : List ℕ) (r : Result (Unit {0}) FormatFault)
    → pool ≡ entries_of xs → offsets ≡ offsets_of xs → r ≡ faults_in pool pool offsets
    → all_name_right (entries_of xs) xs ≡ r
told_is xs pool offsets r p o h = rw (h, p, o) (sym (all_are (entries_of xs) xs))

-- the pool of these indices, or the fault that was found in them
abbrev pub judged : Result (Unit {0}) FormatFault → List Slot → Place → Result (List Entry × Place) FormatFault
judged (Ok x) xs p = Ok (entries_of xs, p)
judged (Err f) xs p = Err f

-- the pool is read where its indices are read and judged
pub pool_is : (p q r : Place) (count : ℕ) (xs : List Slot) (found : Result (Unit {0}) FormatFault)
    → u2 p ≡ Ok (count, q) → slots (count - 1) false q ≡ Ok (xs, r)
    → all_name_right (entries_of xs) xs ≡ found → read_pool p ≡ judged found xs r
unfolding read_pool bind give of_result
pool_is p q r count xs (Ok x) h k j = rw (h, k, j) refl
pool_is p q r count xs (Err f) h k j = rw (h, k, j) refl
