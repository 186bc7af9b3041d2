-- How the nearest instance methods are noted.
use Rattle.std.proofs.Common.{◌≡◌, ◌≤◌, ◌<◌, ◌+◌, ◌==◌, ℕ, zero, suc, Bool, true, false, cond, List, [], ◌∷◌, ◌++◌}
use Rattle.std.proofs.Common.{length, get_or, set, slice_get, drop, take, Option, Some, None, refl, sym, ap, subst}
use Rattle.std.proofs.Common.{◌∙◌, arith, length-set, append-nil, append_assoc}
use Rattle.std.specs.List.{All, flat_map}
use Rattle.std.specs.Option.{option_or}
use Rattle.std.proofs.lemmas.Bool.{eq-eqb, eqb-true}
use Rattle.std.proofs.lemmas.List.{get_or-set_same}
use Rattle.std.proofs.lemmas.List.Concat.{flat_map-append}
use Rattle.std.proofs.lemmas.List.Folds.{find-append}
use Rattle.std.proofs.lemmas.Option.{get_or_from_slice_get, slice_get-get_or, slice_get_within}
use Rattle.class_model.specs.declared.class.Class.{Class}
use Rattle.class_pool.specs.Hierarchy.{IsClass}
use Rattle.class_pool.specs.declared.id.ClassId.{ClassId}
use Rattle.class_pool.specs.declared.id.ClassId.TheVariants.{Lib, Prog}
use Rattle.method_places.specs.bodies.Nearest.{AreNoted, AreUpTo, IsBefore, front_rows, noted, program_front, row_with}
use Rattle.method_places.specs.bodies.Nearest.{rows_by}
use Rattle.method_places.specs.declared.methods.InstanceMethod.{InstanceMethod}
use Rattle.method_places.specs.declared.nearest.Note.{Note}
use Rattle.require_sys.proofs.Steps.{more_of}

-- ---- one row

-- the first row with a number among some more
with_more : (number : ℕ) (before : List InstanceMethod) (row : InstanceMethod)
    → row_with number (before ++ row ∷ []) ≡ option_or (row_with number before)
    (cond (row.number == number) (Some row) None)
with_more number before row = find-append (λ r. r.number == number) before (row ∷ [])

-- a row with another number changes nothing
pub other_row : (number : ℕ) (before : List InstanceMethod) (row : InstanceMethod) → (row.number == number) ≡ false
    → row_with number before ≡ row_with number (before ++ row ∷ [])
other_row number before row other =
    sym (with_more number before row
    ∙ ap (λ b. option_or (row_with number before) (cond b (Some row) None)) other ∙ by (row_with number before))
  where
    by : (o : Option InstanceMethod) → option_or o None ≡ o
    by None = refl
    by (Some r) = refl

-- nor does one whose number another one has
pub later_row : (number : ℕ) (before : List InstanceMethod) (row first : InstanceMethod)
    → row_with number before ≡ Some first → Some first ≡ row_with number (before ++ row ∷ [])
later_row number before row first found =
    sym (with_more number before row ∙ ap (λ o. option_or o (cond (row.number == number) (Some row) None)) found)

-- the first one with its number
pub first_row : (number : ℕ) (before : List InstanceMethod) (row : InstanceMethod) → row_with number before ≡ None
    → (row.number == number) ≡ true → Some row ≡ row_with number (before ++ row ∷ [])
first_row number before row none same =
    sym (with_more number before row
    ∙ ap (λ o. option_or o (cond (row.number == number) (Some row) None)) none
    ∙ ap (λ b. cond b (Some row) None) same)

itself : (n : ℕ) → (n == n) ≡ true
itself n = eq-eqb n n refl

pub not_same : (a b : ℕ) → (a ≡ b → ⊥) → (a == b) ≡ false
not_same a b other = by (a == b) refl
  where
    by : (t : Bool) → (a == b) ≡ t → t ≡ false
    by true e = absurd (other (eqb-true a b e))
    by false e = refl

slice_get-set_same : {X : Type 0} (xs : List X) (i : ℕ) (y : X) → i < length xs → slice_get (set xs i y) i ≡ Some y
slice_get-set_same xs i y within =
    let long = length-set xs i y in
    slice_get-get_or (set xs i y) i y (omega (arith, within, long)) ∙ ap Some (get_or-set_same xs i y y within)

slice_get-set_other : {X : Type 0} (xs : List X) (i j : ℕ) (y : X) → (j ≡ i → ⊥)
    → slice_get (set xs i y) j ≡ slice_get xs j
slice_get-set_other [] i j y other = refl
slice_get-set_other (x ∷ xs) zero zero y other = absurd (other refl)
slice_get-set_other (x ∷ xs) zero (suc j) y other = refl
slice_get-set_other (x ∷ xs) (suc i) zero y other = refl
slice_get-set_other (x ∷ xs) (suc i) (suc j) y other = slice_get-set_other xs i j y (λ e. other (ap suc e))

-- ---- one note

module _ (stamp : ℕ) (notes : List Note) (row : InstanceMethod) (before : List InstanceMethod)
    (so_far : AreNoted stamp before notes) where
  -- it is made
  pub row_put : (old : Note) → slice_get notes row.number ≡ Some old → (old.stamp == stamp) ≡ false
      → AreNoted stamp (before ++ row ∷ []) (set notes row.number (record { stamp = stamp; row = row }))
  row_put old at other number some within =
      let long = length-set notes row.number (record { stamp = stamp; row = row }) in
      by number some (omega (arith, within, long)) (row.number == number) refl
    where
      by : (g : ℕ) → 0 < g → g < length notes → (b : Bool) → (row.number == g) ≡ b
          → noted stamp (slice_get (set notes row.number (record { stamp = stamp; row = row })) g)
          ≡ row_with g (before ++ row ∷ [])
      by g some inside true e =
          let same : row.number ≡ g = eqb-true row.number g e in
          let there : row.number < length notes = omega (arith, same, inside) in
          let old_at : slice_get notes g ≡ Some old = ap (slice_get notes) (sym same) ∙ at in
          ap (λ (k : ℕ). noted stamp (slice_get (set notes row.number (record { stamp = stamp; row = row })) k))
          (sym same)
          ∙ ap (noted stamp) (slice_get-set_same notes row.number (record { stamp = stamp; row = row }) there)
          ∙ ap (λ b. cond b (Some row) None) (itself stamp)
          ∙ first_row g before row
          (sym (so_far g some inside) ∙ ap (noted stamp) old_at ∙ ap (λ b. cond b (Some old.row) None) other) e
      by g some inside false e =
          ap (noted stamp) (slice_get-set_other notes row.number g (record { stamp = stamp; row = row })
          (λ q. absurd (let h = eq-eqb row.number g (sym q) in cc)))
          ∙ so_far g some inside ∙ other_row g before row e

  -- another one with its number is made already
  pub row_before : (old : Note) → slice_get notes row.number ≡ Some old → (old.stamp == stamp) ≡ true
      → AreNoted stamp (before ++ row ∷ []) notes
  row_before old at same number some within = by number some within (row.number == number) refl
    where
      by : (g : ℕ) → 0 < g → g < length notes → (b : Bool) → (row.number == g) ≡ b
          → noted stamp (slice_get notes g) ≡ row_with g (before ++ row ∷ [])
      by g some inside true e =
          let is : noted stamp (slice_get notes g) ≡ Some old.row =
          ap (λ (k : ℕ). noted stamp (slice_get notes k)) (sym (eqb-true row.number g e)) ∙ ap (noted stamp) at
          ∙ ap (λ b. cond b (Some old.row) None) same in
          is ∙ later_row g before row old.row (sym (so_far g some inside) ∙ is)
      by g some inside false e = so_far g some inside ∙ other_row g before row e

  -- there is no note for its number
  pub row_beyond : length notes ≤ row.number → AreNoted stamp (before ++ row ∷ []) notes
  row_beyond over number some within = by (row.number == number) refl
    where
      by : (b : Bool) → (row.number == number) ≡ b
          → noted stamp (slice_get notes number) ≡ row_with number (before ++ row ∷ [])
      by true e = absurd (let same : row.number ≡ number = eqb-true row.number number e in omega
          (arith, same, over, within))
      by false e = so_far number some within ∙ other_row number before row e

-- ---- rows

pub rows_more : (before rows : List InstanceMethod) (i : ℕ) (row : InstanceMethod) → i < length rows
    → row ≡ get_or rows i row → (before ++ take i rows) ++ row ∷ [] ≡ before ++ take (i + 1) rows
rows_more before rows i row lt at =
    append_assoc before (take i rows) (row ∷ []) ∙ ap (λ t. before ++ t) (sym (more_of rows i row lt at))

-- ---- classes

-- where no note has a stamp, nothing is noted with it
pub none_noted : (stamp : ℕ) (notes : List Note) → All (λ note. note.stamp < stamp) notes → AreNoted stamp [] notes
none_noted stamp notes old number some within = by (slice_get notes number) refl
  where
    by : (o : Option Note) → slice_get notes number ≡ o → noted stamp o ≡ None
    by None e = refl
    by (Some note) e =
        let less : note.stamp < stamp = subst (λ (n : Note). n.stamp < stamp)
        (get_or_from_slice_get notes number note note e) (old number note within) in
        ap (λ b. cond b (Some note.row) None)
        (not_same note.stamp stamp (λ same. absurd (omega (arith, less, same))))

pub up_to : (stamp : ℕ) (notes : List Note) → All (λ note. note.stamp < stamp) notes → AreUpTo stamp notes
up_to stamp notes old k d within = let less = old k d within in omega (arith, less)

drop_step : (xs : List ClassId) (i : ℕ) (x : ClassId) → i < length xs → x ≡ get_or xs i x
    → drop i xs ≡ x ∷ drop (i + 1) xs
drop_step [] i x lt is = absurd (omega (arith, lt))
drop_step (y ∷ ys) zero x lt is = ap (λ z. z ∷ ys) (sym is)
drop_step (y ∷ ys) (suc i) x lt is =
    let next : suc (i + 1) ≡ suc i + 1 = omega arith in
    drop_step ys i x (omega (arith, lt)) is ∙ ap (λ k. x ∷ drop k (y ∷ ys)) next

drop_all : (xs : List ClassId) (i : ℕ) → length xs ≤ i → drop i xs ≡ []
drop_all [] zero over = refl
drop_all [] (suc i) over = refl
drop_all (x ∷ xs) zero over = absurd (omega (arith, over))
drop_all (x ∷ xs) (suc i) over = drop_all xs i (omega (arith, over))

module _ (table : List (List InstanceMethod)) (chain : List ClassId) (i : ℕ) where
  -- one more class of the program
  pub front_more : (x : ClassId) (n : ℕ) → i < length chain → x ≡ get_or chain i x → x ≡ Prog n
      → program_front chain ≡ take i chain ++ program_front (drop i chain)
      → program_front chain ≡ take (i + 1) chain ++ program_front (drop (i + 1) chain)
  front_more x n lt at is so_far =
      so_far ∙ ap (λ t. take i chain ++ program_front t) (drop_step chain i x lt at)
      ∙ ap (λ c. take i chain ++ program_front (c ∷ drop (i + 1) chain)) is
      ∙ ap (λ c. take i chain ++ (c ∷ program_front (drop (i + 1) chain))) (sym is)
      ∙ sym (append_assoc (take i chain) (x ∷ []) (program_front (drop (i + 1) chain)))
      ∙ ap (λ t. t ++ program_front (drop (i + 1) chain)) (sym (more_of chain i x lt at))

  -- with its rows
  pub rows_of_more : (x : ClassId) (n : ℕ) → i < length chain → x ≡ get_or chain i x → x ≡ Prog n
      → flat_map (rows_by table) (take i chain) ++ get_or table n []
      ≡ flat_map (rows_by table) (take (i + 1) chain)
  rows_of_more x n lt at is =
      ap (λ t. flat_map (rows_by table) (take i chain) ++ t) (sym (append-nil (get_or table n [])))
      ∙ ap (λ c. flat_map (rows_by table) (take i chain) ++ flat_map (rows_by table) (c ∷ [])) (sym is)
      ∙ sym (flat_map-append (rows_by table) (take i chain) (x ∷ []))
      ∙ ap (flat_map (rows_by table)) (sym (more_of chain i x lt at))

  -- a class of the library, and no more
  pub front_ends : (x : ClassId) (id : ℕ) → i < length chain → x ≡ get_or chain i x → x ≡ Lib id
      → program_front chain ≡ take i chain ++ program_front (drop i chain)
      → flat_map (rows_by table) (take i chain) ≡ front_rows table chain
  front_ends x id lt at is so_far =
      ap (flat_map (rows_by table)) (sym (so_far ∙ ap (λ t. take i chain ++ program_front t) (drop_step chain i x lt at)
      ∙ ap (λ c. take i chain ++ program_front (c ∷ drop (i + 1) chain)) is ∙ append-nil (take i chain)))

  -- no class more
  pub front_done : length chain ≤ i → program_front chain ≡ take i chain ++ program_front (drop i chain)
      → flat_map (rows_by table) (take i chain) ≡ front_rows table chain
  front_done over so_far =
      ap (flat_map (rows_by table)) (sym (so_far ∙ ap (λ t. take i chain ++ program_front t) (drop_all chain i over)
      ∙ append-nil (take i chain)))

-- ---- what is noted

-- what is noted is the first row with the number
pub nearest_noted : (stamp : ℕ) (rows : List InstanceMethod) (notes : List Note) (number : ℕ) (row : InstanceMethod)
    → AreNoted stamp rows notes → 0 < number → noted stamp (slice_get notes number) ≡ Some row
    → row_with number rows ≡ Some row
nearest_noted stamp rows notes number row are some is = by (slice_get notes number) refl is
  where
    by : (o : Option Note) → slice_get notes number ≡ o → noted stamp o ≡ Some row → row_with number rows ≡ Some row
    by None e h = absurd cc
    by (Some note) e h = sym (are number some (slice_get_within notes number note e)) ∙ is

-- ---- where the notes are begun

-- the classes of a chain are in the table
pub classes_before : (classes : List Class) (count : ℕ) (cs : List ClassId) → count ≡ length classes
    → All (IsClass classes) cs → All (IsBefore count) cs
classes_before classes count cs same there k d within = by (get_or cs k d) (there k d within)
  where
    by : (c : ClassId) → IsClass classes c → IsBefore count c
    by (Prog n) h = omega (arith, h, same)
    by (Lib id) h = tt
