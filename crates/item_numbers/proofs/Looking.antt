-- How the classes are found in which the same methods run.
use Rattle.std.proofs.Common.{◌≡◌, ℕ, zero, suc, ◌+◌, ◌-◌, ◌<◌, ◌≤◌, ◌==◌, ◌||◌, Bool, true, false, List, [], ◌∷◌, ◌++◌}
use Rattle.std.proofs.Common.{length, get_or, lit<}
use Rattle.std.proofs.Common.{set, slice_get, Option, Some, None, IfSome, refl, sym, ap, subst, ◌∙◌, arith, eqb}
use Rattle.std.proofs.Common.{get_or-set_same, get_or-set_other, length-set, ⊎_elim}
use Rattle.std.specs.List.{list_any}
use Rattle.std.specs.Option.{option_map_or}
use Rattle.std.proofs.lemmas.Bool.{cases_lt, eq-eqb, eqb-true}
use Rattle.class_model.specs.declared.class.Class.{Class}
use Rattle.class_pool.specs.Found.{is_instance_method, is_instance_row, rows_in}
use Rattle.class_pool.specs.Hierarchy.{IsClass, superclass}
use Rattle.class_pool.specs.Ranks.{HasRanks}
use Rattle.class_pool.specs.Resolution.{is_class_below}
use Rattle.class_pool.specs.Walk.{each_once, highest, own_superinterfaces, same_class, upwards}
use Rattle.class_pool.specs.declared.id.ClassId.{ClassId}
use Rattle.class_pool.specs.declared.id.ClassId.TheVariants.{Lib, Prog}
use Rattle.class_pool.proofs.Declaring.{superclass_there}
use Rattle.class_pool.proofs.EachOnce.{same_itself}
use Rattle.class_pool.proofs.Climbing.{upwards_step}
use Rattle.std.proofs.lemmas.Option.{same_Some}
use Rattle.require_sys.specs.Requires.{is_program}
use Rattle.item_numbers.specs.bodies.Supers.{program_number}
use Rattle.item_numbers.specs.bodies.Tops.{AreAbove, AreGiven, AreLibraryTops, AreTops, HasNoMethod, IsBlank}
use Rattle.item_numbers.specs.bodies.Tops.{IsLibraryTop, IsTop}
use Rattle.item_numbers.proofs.TopsLaw.{blank_top, library_top_itself, library_top_up, top_itself}

-- each class for itself
pub own_are : (numbers : List ℕ) (bound k : ℕ) → length numbers ≡ k → bound ≤ k → k ≤ bound
    → ((n : ℕ) → n < k → get_or numbers n 0 ≡ n) → AreGiven (λ n x. x ≡ n) bound numbers
own_are numbers bound k count low high each = record {
  count = omega (arith, count, low, high);
  each = λ n lt. each n (omega (arith, lt, low));
}

own_given : (Is : ℕ → ℕ → Type 0) (bound : ℕ) (numbers : List ℕ) → ((n : ℕ) → n < bound → Is n n)
    → AreGiven (λ n x. x ≡ n) bound numbers → AreGiven Is bound numbers
own_given Is bound numbers itself own = record {
  count = own.count;
  each = λ n lt. subst (Is n) (sym (own.each n lt)) (itself n lt);
}

pub own_tops : (classes : List Class) (numbers : List ℕ) → AreGiven (λ n x. x ≡ n) (length classes) numbers
    → AreTops classes numbers
own_tops classes numbers own = own_given (IsTop classes) (length classes) numbers (top_itself classes) own

pub own_library_tops : (classes : List Class) (numbers : List ℕ) → AreGiven (λ n x. x ≡ n) (length classes) numbers
    → AreLibraryTops classes numbers
own_library_tops classes numbers own =
    own_given (IsLibraryTop classes) (length classes) numbers (library_top_itself classes) own

above_itself : (classes : List Class) (n : ℕ) → is_class_below classes (Prog n) (Prog n) ≡ true
above_itself classes n =
    ap (list_any (same_class (Prog n))) (upwards_step highest classes (Prog n) (lit< tt))
    ∙ ap (λ b. b || list_any (same_class (Prog n)) (option_map_or (upwards (highest - 1) classes)
    (superclass classes (Prog n)) [])) (same_itself (Prog n))

pub own_above : (classes : List Class) (numbers : List ℕ) → AreGiven (λ n x. x ≡ n) (length classes) numbers
    → AreAbove classes numbers
own_above classes numbers own =
    own_given (λ n k. is_class_below classes (Prog k) (Prog n) ≡ true) (length classes) numbers
    (λ n lt. above_itself classes n) own

-- one more number
pub own_more : (tops new : List ℕ) (k : ℕ) → length tops ≡ k → ((n : ℕ) → n < k → get_or tops n 0 ≡ n)
    → new ≡ tops ++ k ∷ [] → (n : ℕ) → n < k + 1 → get_or new n 0 ≡ n
own_more tops new k count each put n lt =
    ap (λ (t : List ℕ). get_or t n 0) put ∙ by tops k count each n lt
  where
    later : (x : ℕ) (xs : List ℕ) (m : ℕ) → get_or (x ∷ xs) (suc m) 0 ≡ get_or xs m 0
    later x xs m = refl

    last : (xs : List ℕ) (x : ℕ) → get_or (xs ++ x ∷ []) (length xs) 0 ≡ x
    last [] x = refl
    last (y ∷ xs) x = last xs x

    before : (xs : List ℕ) (x m : ℕ) → m < length xs → get_or (xs ++ x ∷ []) m 0 ≡ get_or xs m 0
    before [] x m within = absurd (omega (arith, within))
    before (y ∷ xs) x zero within = refl
    before (y ∷ xs) x (suc m) within = before xs x m (omega (arith, within))

    by : (xs : List ℕ) (j : ℕ) → length xs ≡ j → ((m : ℕ) → m < j → get_or xs m 0 ≡ m) → (m : ℕ) → m < j + 1
        → get_or (xs ++ j ∷ []) m 0 ≡ m
    by xs j long are m low =
        ⊎_elim
        (λ within. before xs j m (omega (arith, long, within)) ∙ are m within)
        (λ over. let e : m ≡ length xs = omega (arith, long, over, low) in
        ap (λ i. get_or (xs ++ j ∷ []) i 0) e ∙ last xs j ∙ sym long ∙ sym e)
        (cases_lt m j)

put_here : (Is : ℕ → ℕ → Type 0) (bound : ℕ) (old : List ℕ) (i t n : ℕ) (b : Bool) → AreGiven Is bound old
    → i < bound → Is i t → eqb n i ≡ b → n < bound → Is n (get_or (set old i t) n 0)
put_here Is bound old i t n true are i-in one same n-in =
    let count = are.count in
    let e : i ≡ n = sym (eqb-true n i same) in
    subst (λ (m : ℕ). Is m (get_or (set old i t) m 0)) e
    (subst (λ (u : ℕ). Is i u) (sym (get_or-set_same old i t 0 (omega (arith, i-in, count)))) one)
put_here Is bound old i t n false are i-in one other n-in =
    subst (λ (u : ℕ). Is n u)
    (sym (get_or-set_other old i n t 0 (λ e. absurd (let h = eq-eqb n i e in cc)))) (are.each n n-in)

-- one number is put
given_put : (Is : ℕ → ℕ → Type 0) (bound : ℕ) (old new : List ℕ) (i t : ℕ) → AreGiven Is bound old → i < bound
    → Is i t → new ≡ set old i t → AreGiven Is bound new
given_put Is bound old new i t are i-in one put =
    subst (AreGiven Is bound) (sym put)
    (record {
      count = length-set old i t ∙ are.count;
      each = λ n n-in. put_here Is bound old i t n (eqb n i) are i-in one refl n-in;
    })

-- one class is found
pub top_put : (classes : List Class) (old new : List ℕ) (i t : ℕ) → AreTops classes old → i < length classes
    → IsTop classes i t → new ≡ set old i t → AreTops classes new
top_put classes old new i t are i-in top put = given_put (IsTop classes) (length classes) old new i t are i-in top put

pub library_top_put : (classes : List Class) (old new : List ℕ) (i t : ℕ) → AreLibraryTops classes old
    → i < length classes → IsLibraryTop classes i t → new ≡ set old i t → AreLibraryTops classes new
library_top_put classes old new i t are i-in top put =
    given_put (IsLibraryTop classes) (length classes) old new i t are i-in top put

pub above_put : (classes : List Class) (old new : List ℕ) (i t : ℕ) → AreAbove classes old → i < length classes
    → is_class_below classes (Prog t) (Prog i) ≡ true → new ≡ set old i t → AreAbove classes new
above_put classes old new i t are i-in above put =
    given_put (λ n k. is_class_below classes (Prog k) (Prog n) ≡ true) (length classes) old new i t are i-in above put

-- a class of a list is among it
pub among_at : (xs : List ClassId) (i : ℕ) (x : ClassId) → i < length xs → x ≡ get_or xs i x
    → list_any (same_class x) xs ≡ true
among_at [] i x lt is = absurd (omega (arith, lt))
among_at (y ∷ ys) zero x lt is =
    ap (λ b. b || list_any (same_class x) ys) (ap (same_class x) (sym is) ∙ same_itself x)
among_at (y ∷ ys) (suc i) x lt is = by (same_class x y) (among_at ys i x (omega (arith, lt)) is)
  where
    by : (b : Bool) → list_any (same_class x) ys ≡ true → (b || list_any (same_class x) ys) ≡ true
    by true h = refl
    by false h = h

pub above_is : (o : Option ClassId) (n : ℕ) → Some n ≡ program_number o → o ≡ Some (Prog n)
above_is (Some (Prog m)) n is = ap (λ k. Some (Prog k)) (sym (same_Some n m is))
above_is (Some (Lib id)) n is = absurd cc
above_is None n is = absurd cc

pub above_none : (o : Option ClassId) → None ≡ program_number o → IfSome o (λ x. is_program x ≡ false)
above_none (Some (Prog m)) is = absurd cc
above_none (Some (Lib id)) is = refl
above_none None is = tt

pub above_there : (classes : List Class) (n p : ℕ) (r : Option ℕ) → r ≡ program_number (superclass classes (Prog n))
    → r ≡ Some p → p < length classes
above_there classes n p r up is =
    subst (λ (o : Option ClassId). IfSome o (IsClass classes)) (above_is (superclass classes (Prog n)) p (sym is ∙ up))
    (superclass_there classes (Prog n))

-- where the class is blank
pub top_above : (classes : List Class) (r : HasRanks classes) (tops : List ℕ) (n p : ℕ) (o : Option ℕ)
    → length classes ≤ 4294967295 → n < length classes → AreTops classes tops
    → o ≡ program_number (superclass classes (Prog n)) → o ≡ Some p → IsBlank classes n p
    → IsTop classes n (get_or tops p 0)
top_above classes r tops n p o few n-in are up is blank =
    blank_top classes r n p few n-in (above_is (superclass classes (Prog n)) p (sym is ∙ up)) blank (get_or tops p 0)
    (are.each p (above_there classes n p o up is))

-- where the class has no superinterface
pub library_top_above : (classes : List Class) (r : HasRanks classes) (tops : List ℕ) (n p : ℕ) (o : Option ℕ)
    → length classes ≤ 4294967295 → n < length classes → AreLibraryTops classes tops
    → o ≡ program_number (superclass classes (Prog n)) → o ≡ Some p → own_superinterfaces classes (Prog n) ≡ []
    → IsLibraryTop classes n (get_or tops p 0)
library_top_above classes r tops n p o few n-in are up is own =
    library_top_up classes r n p few n-in (above_is (superclass classes (Prog n)) p (sym is ∙ up)) own (get_or tops p 0)
    (are.each p (above_there classes n p o up is))

-- it has no superinterface where none comes once
pub none_own : (xs : List ClassId) → each_once [] xs ≡ [] → xs ≡ []
unfolding each_once
none_own [] none = refl
none_own (x ∷ xs) none = absurd cc

empty_if : (xs : List ClassId) → (length xs == 0) ≡ true → xs ≡ []
empty_if [] h = refl
empty_if (x ∷ xs) h = absurd (let e = eqb-true (length (x ∷ xs)) 0 h in omega (arith, e))

pub own_empty : (own met : List ClassId) (b : Bool) → met ≡ each_once [] own → b ≡ (length met == 0) → b ≡ true
    → own ≡ []
own_empty own met b are is said = none_own own (sym are ∙ empty_if met (sym is ∙ said))

-- a class has no member that isn't there
past_none : {X : Type 0} (f : X → Bool) (xs : List X) (k : ℕ) → length xs ≤ k
    → option_map_or f (slice_get xs k) false ≡ false
past_none f [] k over = refl
past_none f (x ∷ xs) zero over = absurd (omega (arith, over))
past_none f (x ∷ xs) (suc k) over = past_none f xs k (omega (arith, over))

pub all_no_method : (classes : List Class) (n count : ℕ)
    → ((k : ℕ) → k < count → is_instance_method classes (record { class = Prog n; index = k }) ≡ false)
    → length (rows_in classes (Prog n)) ≤ count → HasNoMethod classes n
all_no_method classes n count none all k =
    ⊎_elim (λ low. none k low)
    (λ over. past_none is_instance_row (rows_in classes (Prog n)) k (omega (arith, all, over)))
    (cases_lt k count)

pub one_no_method : (classes : List Class) (n k : ℕ) (b : Bool)
    → ((j : ℕ) → j < k → is_instance_method classes (record { class = Prog n; index = j }) ≡ false)
    → b ≡ is_instance_method classes (record { class = Prog n; index = k }) → b ≡ false
    → (j : ℕ) → j < k + 1 → is_instance_method classes (record { class = Prog n; index = j }) ≡ false
one_no_method classes n k b none is other j lt =
    ⊎_elim (λ low. none j low)
    (λ over. let e : j ≡ k = omega (arith, over, lt) in
    ap (λ i. is_instance_method classes (record { class = Prog n; index = i })) e ∙ sym is ∙ other)
    (cases_lt j k)
