-- Which method runs where one is called that those of all packages may override.
use Rattle.std.proofs.Common.{◌≡◌, ℕ, ◌<◌, ◌==◌, not, ◌&&◌, ◌||◌, ⊎_elim, Bool, true, false, cond, List, []}
use Rattle.std.proofs.Common.{◌∷◌, Some, refl, sym, ap, ◌∙◌}
use Rattle.std.specs.List.{All, find, list_any}
use Rattle.std.proofs.lemmas.Bool.{eq-eqb, or_right}
use Rattle.std.proofs.lemmas.Option.{same_Some}
use Rattle.class_model.specs.declared.class.Class.{Class}
use Rattle.class_pool.specs.Found.{declared_by, declared_in, is_instance_method, is_private_member, is_protected_member}
use Rattle.class_pool.specs.Found.{is_public_member, named_at, same_member, same_package}
use Rattle.class_pool.specs.Hierarchy.{IsClass}
use Rattle.class_pool.specs.Resolution.{first, is_class_below, is_interface_in}
use Rattle.class_pool.specs.Selection.{first_instance, may_be_overridden, may_override, overriding, overriding_from}
use Rattle.class_pool.specs.Selection.{selected, with_nearest}
use Rattle.class_pool.specs.Walk.{superclasses_from}
use Rattle.class_pool.specs.declared.id.ClassId.{ClassId}
use Rattle.class_pool.specs.declared.id.ClassId.TheVariants.{Prog}
use Rattle.class_pool.specs.declared.id.MemberAt.{MemberAt}
use Rattle.class_pool.proofs.Among.{member_is}
use Rattle.link_check.specs.bodies.Overriding.{alike_from, has_open_override, overrides_where}
use Rattle.link_check.proofs.OverridingLaws.{alike_above, first_found}
use Rattle.method_places.specs.bodies.Alike.{AreRows, IsRow, member_at}
use Rattle.method_places.specs.bodies.Nearest.{Runs, front_rows, is_overriding, row_with}
use Rattle.override_pairs.specs.bodies.Overriding.{IsOpenAbove, overrides_openly}
use Rattle.method_places.specs.declared.methods.InstanceMethod.{InstanceMethod}
use Rattle.method_places.specs.declared.methods.Openness.TheVariants.{Abstract, Open, Package, Private}
use Rattle.method_places.proofs.InstanceRows.{alike_first, alike_named, nearest_is}
use Rattle.class_pool.proofs.Among.{member_itself}

-- ---- the first one

openly : (s mo i p q r : Bool) → i ≡ true → (p || q) ≡ true
    → (s || mo) ≡ (s || (mo && (false || (i && ((p || q) || r)))))
openly true mo i p q r one wide = refl
openly false false i p q r one wide = refl
openly false true false p q r one wide = absurd cc
openly false true true true q r one wide = refl
openly false true true false true r one wide = refl
openly false true true false false r one wide = absurd cc

closed : (p q h : Bool) → (p || q) ≡ true → false ≡ ((not p && not q) && h)
closed true q h wide = refl
closed false true h wide = refl
closed false false h wide = absurd cc

-- of the methods from a class upwards the first one that is this one or overrides it
pub open_selected : (classes : List Class) (n : ℕ) (m : MemberAt) (chain : List ClassId)
    → is_instance_method classes m ≡ true → chain ≡ superclasses_from classes (Prog n) → IsOpenAbove classes n m
    → find (overrides_openly classes m) (declared_by classes (named_at classes m) chain)
    ≡ selected classes (Prog n) m
open_selected classes n m chain one up above =
    let ms : List MemberAt = alike_from classes m (Prog n) in
    let same : overrides_openly classes m ≡ overrides_where classes m false =
    λ i x. openly (same_member x m) (may_override classes x) (is_instance_method classes m) (is_public_member classes m)
    (is_protected_member classes m)
    (not (is_private_member classes m) && same_package classes x.class m.class) one above.wide i in
    ap (λ cs. find (overrides_openly classes m) (declared_by classes (named_at classes m) cs)) up
    ∙ ap (λ t. find t ms) same
    ∙ first_found classes m ms false (alike_above classes m (Prog n) above.first ∙ above.above)
    (closed (is_public_member classes m) (is_protected_member classes m) (has_open_override classes m ms) above.wide)
    ∙ sym (ap (λ b. cond b (first_instance classes (Prog n) (named_at classes m))
    (first (overriding_from classes (Prog n) m))) above.class)

-- ---- the nearest instance method

not_before : (P : Type 0) (a b : Bool) → a ≡ true → a ≡ b → b ≡ false → P
not_before P a b one same other = absurd (let q : true ≡ false = sym one ∙ same ∙ other in cc)

-- a member that is no instance method isn't an instance method
other_member : (classes : List Class) (x m : MemberAt) → is_instance_method classes m ≡ true
    → is_instance_method classes x ≡ false → same_member x m ≡ false
other_member classes x m one none = by (same_member x m) refl
  where
    by : (b : Bool) → same_member x m ≡ b → b ≡ false
    by false e = refl
    by true e = not_before (true ≡ false) (is_instance_method classes m) (is_instance_method classes x) one
        (ap (is_instance_method classes) (sym (member_is x m e))) none

-- it overrides the one above where it may override any
pub nearest_openly : (classes : List Class) (m y : MemberAt) (ms : List MemberAt) → is_instance_method classes m ≡ true
    → find (is_instance_method classes) ms ≡ Some y → may_override classes y ≡ true
    → find (overrides_openly classes m) ms ≡ Some y
nearest_openly classes m y [] one found may = absurd cc
nearest_openly classes m y (x ∷ ms) one found may =
    by (is_instance_method classes x) refl found (λ h. nearest_openly classes m y ms one h may)
  where
    by : (b : Bool) → is_instance_method classes x ≡ b
        → cond b (Some x) (find (is_instance_method classes) ms) ≡ Some y
        → (find (is_instance_method classes) ms ≡ Some y → find (overrides_openly classes m) ms ≡ Some y)
        → cond (overrides_openly classes m x) (Some x) (find (overrides_openly classes m) ms) ≡ Some y
    by true e h next =
        let same : x ≡ y = same_Some x y h in
        ap (λ b. cond (same_member x m || b) (Some x) (find (overrides_openly classes m) ms))
        (ap (may_override classes) same ∙ may)
        ∙ ap (λ b. cond b (Some x) (find (overrides_openly classes m) ms)) (or_right (same_member x m) true refl) ∙ h
    by false e h next =
        ap (λ b. cond (b || may_override classes x) (Some x) (find (overrides_openly classes m) ms))
        (other_member classes x m one e)
        ∙ ap (λ b. cond (b && not (is_private_member classes x) && not (is_interface_in classes x.class)) (Some x)
        (find (overrides_openly classes m) ms)) e
        ∙ next h

-- where it is the one above, that one runs
pub nearest_itself : (classes : List Class) (m : MemberAt) (ms : List MemberAt) → is_instance_method classes m ≡ true
    → find (is_instance_method classes) ms ≡ Some m → first (overriding classes m ms) ≡ Some m
nearest_itself classes m [] one found = absurd cc
nearest_itself classes m (x ∷ ms) one found =
    by (is_instance_method classes x) refl found (λ h. nearest_itself classes m ms one h)
  where
    by : (b : Bool) → is_instance_method classes x ≡ b
        → cond b (Some x) (find (is_instance_method classes) ms) ≡ Some m
        → (find (is_instance_method classes) ms ≡ Some m → first (overriding classes m ms) ≡ Some m)
        → first (with_nearest classes m x (overriding classes m ms)) ≡ Some m
    by true e h next =
        let same : x ≡ m = same_Some x m h in
        ap (λ b. first (cond (b || (may_override classes x
        && list_any (may_be_overridden classes x.class) (overriding classes m ms))) (x ∷ overriding classes m ms)
        (overriding classes m ms))) (ap (λ z. same_member z m) same ∙ member_itself m) ∙ h
    by false e h next =
        ap (λ b. first (cond (b || (may_override classes x
        && list_any (may_be_overridden classes x.class) (overriding classes m ms))) (x ∷ overriding classes m ms)
        (overriding classes m ms))) (other_member classes x m one e)
        ∙ ap (λ b. first (cond ((b && not (is_private_member classes x) && not (is_interface_in classes x.class))
        && list_any (may_be_overridden classes x.class) (overriding classes m ms)) (x ∷ overriding classes m ms)
        (overriding classes m ms))) e
        ∙ next h

-- ---- what runs

is_abstract : (p i o : Bool) → cond p Private (cond i Abstract (cond o Open Package)) ≡ Abstract → i ≡ true
is_abstract true i o is = absurd cc
is_abstract false true o is = refl
is_abstract false false true is = absurd cc
is_abstract false false false is = absurd cc

is_open : (p i o : Bool) → cond p Private (cond i Abstract (cond o Open Package)) ≡ Open → o ≡ true
is_open true i o is = absurd cc
is_open false true o is = absurd cc
is_open false false true is = refl
is_open false false false is = absurd cc

-- its package alone may override it
pub of_package : (p i o : Bool) → cond p Private (cond i Abstract (cond o Open Package)) ≡ Package
    → (p ≡ false) × ((i ≡ false) × (o ≡ false))
of_package true i o is = absurd cc
of_package false true o is = absurd cc
of_package false false true is = absurd cc
of_package false false false is = (refl, (refl, refl))

any_where : (s mo : Bool) → (s || mo) ≡ (s || (mo && true))
any_where true mo = refl
any_where false true = refl
any_where false false = refl

opened_where : (p q h : Bool) → (p || q) ≡ false → h ≡ true → true ≡ ((not p && not q) && h)
opened_where true q h narrow opened = absurd cc
opened_where false true h narrow opened = absurd cc
opened_where false false h narrow opened = sym opened

open_class : (p i o : Bool) → cond p Private (cond i Abstract (cond o Open Package)) ≡ Open → i ≡ false
open_class true i o is = absurd cc
open_class false true o is = absurd cc
open_class false false o is = refl

is_free : (p i o : Bool) → is_overriding (cond p Private (cond i Abstract (cond o Open Package))) ≡ true
    → (not p && not i) ≡ true
is_free true i o is = is
is_free false true o is = is
is_free false false true is = refl
is_free false false false is = refl

-- where a method between opens one to all packages, the first one that is it or may override is selected
pub opened_selected : (classes : List Class) (table : List (List InstanceMethod)) (are : AreRows classes table)
    (run : ℕ) (row : InstanceMethod) (n : ℕ) → IsRow classes are.number n row → 0 < row.number
    → row.openness ≡ Package → is_class_below classes (Prog run) (Prog row.class) ≡ true
    → has_open_override classes (member_at row) (alike_from classes (member_at row) (Prog run)) ≡ true
    → selected classes (Prog run) (member_at row)
    ≡ find (overrides_openly classes (member_at row)) (alike_from classes (member_at row) (Prog run))
opened_selected classes table are run row n is some kind above opened =
    let m : MemberAt = member_at row in
    let ms : List MemberAt = alike_from classes m (Prog run) in
    let flags = of_package (is_private_member classes m) (is_interface_in classes m.class)
    (is_public_member classes m || is_protected_member classes m) (sym is.openness ∙ kind) in
    let same : overrides_openly classes m ≡ overrides_where classes m true =
    λ i x. any_where (same_member x m) (may_override classes x) i in
    ap (λ b. cond b (first_instance classes (Prog run) (named_at classes m))
    (first (overriding_from classes (Prog run) m))) flags.1.0
    ∙ sym (first_found classes m ms true
    (alike_above classes m (Prog run)
    (alike_first classes table are row n is some row n is (eq-eqb row.number row.number refl)) ∙ above)
    (opened_where (is_public_member classes m) (is_protected_member classes m) (has_open_override classes m ms)
    flags.1.1 opened))
    ∙ ap (λ (t : MemberAt → Bool). find t ms) (sym same)

-- the same of one that those of all packages may override
pub open_row_selected : (classes : List Class) (table : List (List InstanceMethod)) (are : AreRows classes table)
    (run : ℕ) (row : InstanceMethod) (n : ℕ) → IsRow classes are.number n row → 0 < row.number
    → row.openness ≡ Open → is_class_below classes (Prog run) (Prog row.class) ≡ true
    → selected classes (Prog run) (member_at row)
    ≡ find (overrides_openly classes (member_at row)) (alike_from classes (member_at row) (Prog run))
open_row_selected classes table are run row n is some kind above =
    let m : MemberAt = member_at row in
    sym (open_selected classes run m (superclasses_from classes (Prog run)) is.instance refl (record {
      class = open_class (is_private_member classes m) (is_interface_in classes m.class)
          (is_public_member classes m || is_protected_member classes m) (sym is.openness ∙ kind);
      first = alike_first classes table are row n is some row n is (eq-eqb row.number row.number refl);
      above = above;
      wide = is_open (is_private_member classes m) (is_interface_in classes m.class)
          (is_public_member classes m || is_protected_member classes m) (sym is.openness ∙ kind);
    }))

module _ (classes : List Class) (table : List (List InstanceMethod)) (are : AreRows classes table) (run : ℕ)
    (there : All (IsClass classes) (superclasses_from classes (Prog run))) (row nearest : InstanceMethod) (n o : ℕ)
    (is : IsRow classes are.number n row) (that : IsRow classes are.number o nearest) (some : 0 < row.number)
    (alike : (nearest.number == row.number) ≡ true)
    (found : row_with row.number (front_rows table (superclasses_from classes (Prog run))) ≡ Some nearest) where
  abbrev m : MemberAt
  m = member_at row

  abbrev y : MemberAt
  y = member_at nearest

  first_found_is : find (is_instance_method classes)
      (declared_by classes (named_at classes m) (superclasses_from classes (Prog run))) ≡ Some y
  first_found_is = nearest_is classes table are row n is some (superclasses_from classes (Prog run)) there nearest found

  -- of one class
  one_is : nearest.class ≡ row.class → y ≡ m
  one_is same = same_Some y m
      (sym (alike_first classes table are row n is some nearest o that alike)
      ∙ ap (λ (k : ℕ). declared_in classes (named_at classes y) (Prog k)) same
      ∙ ap (λ t. declared_in classes t (Prog row.class))
      (sym (alike_named classes table are row n is some nearest o that alike))
      ∙ alike_first classes table are row n is some row n is (eq-eqb row.number row.number refl))

  of_class : is_interface_in classes m.class ≡ false → Runs classes run row nearest
      → first (overriding_from classes (Prog run) m) ≡ Some y
  of_class class runs =
      ⊎_elim
      (λ same. let at = one_is same in
      nearest_itself classes m (declared_by classes (named_at classes m) (superclasses_from classes (Prog run)))
      is.instance (first_found_is ∙ ap Some at) ∙ ap Some (sym at))
      (λ others. ⊎_elim
      (λ abstracted. not_before (first (overriding_from classes (Prog run) m) ≡ Some y) true
      (is_interface_in classes m.class) refl
      (sym (is_abstract (is_private_member classes m) (is_interface_in classes m.class)
      (is_public_member classes m || is_protected_member classes m) (sym is.openness ∙ abstracted))) class)
      (λ opened. opened_is opened)
      others)
      runs
    where
      opened_is : (row.openness ≡ Open) × (is_overriding nearest.openness ≡ true)
          × (is_class_below classes (Prog run) (Prog row.class) ≡ true)
          → first (overriding_from classes (Prog run) m) ≡ Some y
      opened_is opened =
          let free = is_free (is_private_member classes y) (is_interface_in classes y.class)
          (is_public_member classes y || is_protected_member classes y)
          (ap is_overriding (sym that.openness) ∙ opened.1) in
          sym (ap (λ b. cond b (first_instance classes (Prog run) (named_at classes m))
          (first (overriding_from classes (Prog run) m))) class)
          ∙ sym (open_selected classes run m (superclasses_from classes (Prog run)) is.instance refl (record {
            class = class;
            first = alike_first classes table are row n is some row n is (eq-eqb row.number row.number refl);
            above = opened.2;
            wide = is_open (is_private_member classes m) (is_interface_in classes m.class)
                (is_public_member classes m || is_protected_member classes m) (sym is.openness ∙ opened.0);
          }))
          ∙ nearest_openly classes m y
          (declared_by classes (named_at classes m) (superclasses_from classes (Prog run))) is.instance first_found_is
          (ap (λ b. b && not (is_private_member classes y) && not (is_interface_in classes y.class)) that.instance
          ∙ free)

  -- where it is known to run, it is selected
  pub nearest_runs : Runs classes run row nearest → selected classes (Prog run) m ≡ Some y
  nearest_runs runs = by (is_interface_in classes m.class) refl
    where
      by : (b : Bool) → is_interface_in classes m.class ≡ b
          → cond b (first_instance classes (Prog run) (named_at classes m))
          (first (overriding_from classes (Prog run) m)) ≡ Some y
      by true e = first_found_is
      by false e = of_class e runs

  free : is_overriding nearest.openness ≡ true → may_override classes y ≡ true
  free over =
      ap (λ b. b && not (is_private_member classes y) && not (is_interface_in classes y.class)) that.instance
      ∙ is_free (is_private_member classes y) (is_interface_in classes y.class)
      (is_public_member classes y || is_protected_member classes y) (ap is_overriding (sym that.openness) ∙ over)

  -- where a method between opens it to all packages, the nearest one that may override is selected
  pub opened_runs : row.openness ≡ Package → is_class_below classes (Prog run) (Prog row.class) ≡ true
      → is_overriding nearest.openness ≡ true → has_open_override classes m (alike_from classes m (Prog run)) ≡ true
      → selected classes (Prog run) m ≡ Some y
  opened_runs kind above over opened =
      opened_selected classes table are run row n is some kind above opened
      ∙ nearest_openly classes m y (alike_from classes m (Prog run)) is.instance first_found_is (free over)
