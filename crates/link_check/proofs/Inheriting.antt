-- What a class has from the classes above it.
use Rattle.std.proofs.Common.{◌≡◌, ℕ, zero, suc, ◌<◌, ◌≤◌, ◌&&◌, ◌||◌, Bool, true, false, cond, eqb, not, List, [], ◌∷◌}
use Rattle.std.proofs.Common.{◌++◌, length, map, get_or, set, Option, Some, None, IfSome, refl, sym, ap, ◌∙◌, subst}
use Rattle.std.proofs.Common.{arith, get_or-set_same, get_or-set_other, length-set, is_some}
use Rattle.std.specs.Prelude.{if◌then◌else◌, slice_get, slice_index_or}
use Rattle.std.specs.List.{cons_option, find, flat_map, list_any}
use Rattle.std.specs.Option.{option_map_or}
use Rattle.std.proofs.lemmas.List.{append-nil}
use Rattle.std.proofs.lemmas.List.Concat.{flat_map-append}
use Rattle.std.proofs.lemmas.Bool.{eq-eqb, eqb-true, or_parts}
use Rattle.jv_base.proofs.Lists.{nil_parts}
use Rattle.class_model.specs.Flags.{acc_final, has}
use Rattle.class_model.specs.declared.class.Class.{Class}
use Rattle.class_model.specs.declared.class.Field.{Field}
use Rattle.class_model.specs.declared.class.Method.{Method}
use Rattle.lib_table.proofs.Computed.{count}
use Rattle.class_pool.specs.declared.id.ClassId.{ClassId}
use Rattle.class_pool.specs.declared.id.ClassId.TheVariants.{Prog}
use Rattle.class_pool.specs.declared.id.MemberAt.{MemberAt}
use Rattle.class_pool.specs.Found.{is_method_at, MemberRow, declared_by, declared_in, field_row, is_final_member}
use Rattle.class_pool.specs.Found.{is_instance_method}
use Rattle.class_pool.specs.Found.{method_row, named_at, role_at, row_at, rows_in}
use Rattle.class_pool.specs.Hierarchy.{IsClass, superclass}
use Rattle.class_pool.specs.Ranks.{HasRanks}
use Rattle.class_pool.specs.Resolution.{first, is_interface_in}
use Rattle.class_pool.specs.Selection.{first_instance, overrides, overriding}
use Rattle.class_pool.specs.Selection.{overriding_from}
use Rattle.class_pool.specs.Walk.{own_superinterfaces, same_class, superclasses_from, superinterfaces}
use Rattle.class_pool.proofs.Walking.{superclasses_next}
use Rattle.link_check.specs.declared.fault.ProfileKind.{ProfileKind}
use Rattle.link_check.specs.declared.fault.ProfileKind.TheVariants.{LeftOutMember, WrongKind}
use Rattle.link_check.specs.declared.overriding.inherited.Known.{Known}
use Rattle.link_check.specs.bodies.Inherited.{AreKnown, Fits, IsKnown, IsPlain, IsStart, has_final_method}
use Rattle.link_check.specs.bodies.Inherited.{running_kinds}
use Rattle.link_check.specs.bodies.Inherited.{running_kinds_of, start_at}
use Rattle.link_check.specs.Links.{is_callable_role}
use Rattle.link_check.specs.Profile.{least, may_be_overridden_role, methods_of, overridden_kinds, overriding_kinds}
use Rattle.link_check.specs.Profile.{selected_kinds, unless}
use Rattle.class_pool.specs.Walk.{superclasses_up}
use Rattle.class_pool.proofs.Declaring.{superclass_there}
use Rattle.link_check.proofs.Least.{least_empty}
use Rattle.link_check.proofs.Likes.{like_is_method}
use Rattle.link_check.proofs.Methods.{rows_are}
use Rattle.link_check.proofs.OverridingLaws.{class_Decides, declared_class}
use Rattle.link_check.proofs.Walks.{flat_filter}

-- ---- lists

-- where the one has nothing of each element, the other has nothing
none_then : {X A B : Type 0} (f : X → List A) (g : X → List B) → ((x : X) → f x ≡ [] → g x ≡ []) → (xs : List X)
    → flat_map f xs ≡ [] → flat_map g xs ≡ []
none_then f g each [] none = refl
none_then f g each (x ∷ xs) none =
    let h = nil_parts (f x) (flat_map f xs) none in
    ap (λ ys. ys ++ flat_map g xs) (each x h.0) ∙ none_then f g each xs h.1

-- ---- superclasses

pub up_first : (classes : List Class) (r : HasRanks classes) (c : ClassId) → length classes ≤ 4294967295
    → IsClass classes c
    → superclasses_from classes c ≡ c ∷ superclasses_up classes (superclass classes c)
up_first classes r c few c-in =
    let most = r.most c c-in in
    superclasses_next classes r.rank c r.falls c-in (omega (arith, count, most, few))

-- ---- from which class on methods look

module _ (classes : List Class) (r : HasRanks classes) (n : ℕ) (few : length classes ≤ 4294967295)
    (n-in : n < length classes) where
  from_super : (kinds : ClassId → List ProfileKind) → kinds (Prog n) ≡ []
      → flat_map kinds (superclasses_from classes (Prog n))
      ≡ flat_map kinds (superclasses_up classes (superclass classes (Prog n)))
  from_super kinds own =
      ap (flat_map kinds) (up_first classes r (Prog n) few n-in)
      ∙ ap (λ ks. ks ++ flat_map kinds (superclasses_up classes (superclass classes (Prog n)))) own

  pub start_super : (above : Option ClassId) → above ≡ superclass classes (Prog n) → IsStart classes n above
  start_super above is = record {
    there = subst (λ (o : Option ClassId). IfSome o (IsClass classes)) (sym is) (superclass_there classes (Prog n));
    same = λ kinds own plain. from_super kinds own ∙ ap (λ o. flat_map kinds (superclasses_up classes o)) (sym is);
  }

  pub start_plain : (s : ℕ) (start : Option ClassId) → superclass classes (Prog n) ≡ Some (Prog s)
      → IsPlain classes (Prog s) → IsStart classes s start → IsStart classes n start
  start_plain s start is s-plain st = record {
    there = st.there;
    same = λ kinds own plain.
        from_super kinds own ∙ ap (λ o. flat_map kinds (superclasses_up classes o)) is
        ∙ st.same kinds (plain (Prog s) s-plain) plain;
  }

-- ---- what is known

start_of_option : (classes : List Class) (n : ℕ) (o : Option Known) → n < length classes → IfSome o (IsKnown classes n)
    → IsStart classes n (option_map_or (λ one. one.start) o (Some (Prog n)))
start_of_option classes n (Some k) n-in h = h.start
start_of_option classes n None n-in h = record { there = n-in; same = λ kinds own plain. refl }

pub start_known : (classes : List Class) (known : List (Option Known)) (n : ℕ) → AreKnown classes known
    → n < length classes → IsStart classes n (start_at known n)
start_known classes known n are n-in = start_of_option classes n (slice_index_or known n None) n-in (are.each n)

plain_of_option : (classes : List Class) (n : ℕ) (o : Option Known) → IfSome o (IsKnown classes n)
    → option_map_or (λ one. one.plain) o false ≡ true → IsPlain classes (Prog n)
plain_of_option classes n (Some k) h is = h.plain is
plain_of_option classes n None h is = absurd cc

pub plain_known : (classes : List Class) (known : List (Option Known)) (n : ℕ) → AreKnown classes known
    → option_map_or (λ one. one.plain) (slice_index_or known n None) false ≡ true → IsPlain classes (Prog n)
plain_known classes known n are is = plain_of_option classes n (slice_index_or known n None) (are.each n) is

fits_of_option : (classes : List Class) (n : ℕ) (o : Option Known) → IfSome o (IsKnown classes n)
    → option_map_or (λ one. one.fits) o false ≡ true → Fits classes n
fits_of_option classes n (Some k) h is = h.fits is
fits_of_option classes n None h is = absurd cc

pub fits_known : (classes : List Class) (known : List (Option Known)) (n : ℕ) → AreKnown classes known
    → option_map_or (λ one. one.fits) (slice_index_or known n None) false ≡ true → Fits classes n
fits_known classes known n are is = fits_of_option classes n (slice_index_or known n None) (are.each n) is

put_here : (classes : List Class) (old : List (Option Known)) (i n : ℕ) (k : Known) (t : Bool) → AreKnown classes old
    → i < length classes → IsKnown classes i k
    → eqb n i ≡ t → IfSome (get_or (set old i (Some k)) n None) (IsKnown classes n)
put_here classes old i n k true are i-in k-is same =
    let count = are.count in
    let e : i ≡ n = sym (eqb-true n i same) in
    subst (λ (m : ℕ). IfSome (get_or (set old i (Some k)) m None) (IsKnown classes m)) e
    (subst (λ (o : Option Known). IfSome o (IsKnown classes i))
    (sym (get_or-set_same old i (Some k) None (omega (arith, i-in, count)))) k-is)
put_here classes old i n k false are i-in k-is other =
    subst (λ (o : Option Known). IfSome o (IsKnown classes n))
    (sym (get_or-set_other old i n (Some k) None (λ e. absurd (let h = eq-eqb n i e in cc)))) (are.each n)

put_at : (classes : List Class) (old : List (Option Known)) (i : ℕ) (k : Known) → AreKnown classes old
    → i < length classes → IsKnown classes i k
    → (n : ℕ) → IfSome (slice_index_or (set old i (Some k)) n None) (IsKnown classes n)
put_at classes old i k are i-in k-is n = put_here classes old i n k (eqb n i) are i-in k-is refl

pub known_put : (classes : List Class) (old new : List (Option Known)) (i : ℕ) (k : Known) → AreKnown classes old
    → i < length classes → IsKnown classes i k
    → new ≡ set old i (Some k) → AreKnown classes new
known_put classes old new i k are i-in k-is put =
    subst (AreKnown classes) (sym put)
    (record { count = length-set old i (Some k) ∙ are.count; each = put_at classes old i k are i-in k-is })

-- where the superclass is plain, its methods begin to look where those of the class do
pub start_above : (classes : List Class) (r : HasRanks classes) (known : List (Option Known)) (n s : ℕ)
    (above : Option ClassId) (few : length classes ≤ 4294967295)
    (n-in : n < length classes) → AreKnown classes known → above ≡ superclass classes (Prog n) → above ≡ Some (Prog s)
    → option_map_or (λ one. one.plain) (slice_index_or known s None) false ≡ true → IsStart classes n (start_at known s)
start_above classes r known n s above few n-in are up is plain =
    let super : superclass classes (Prog n) ≡ Some (Prog s) = sym up ∙ is in
    let s-in : s < length classes = subst (λ (o : Option ClassId). IfSome o (IsClass classes)) super
    (superclass_there classes (Prog n)) in
    start_plain classes r n few n-in s (start_at known s) super (plain_known classes known s are plain)
    (start_known classes known s are s-in)

-- ---- overriding

-- what is wrong with the method that a class declares like this one, where it overrides it
abbrev pub overridden_in : List Class → MemberAt → ClassId → List ProfileKind
overridden_in classes m c = option_map_or (overridden_kinds classes m) (declared_in classes (named_at classes m) c) []

own_declared : (classes : List Class) (m : MemberAt) (n : ℕ) (o : Option MemberAt) → m.class ≡ Prog n
    → declared_in classes (named_at classes m) (Prog n) ≡ o
    → option_map_or (overridden_kinds classes m) o [] ≡ []
own_declared classes m n None own is = refl
own_declared classes m n (Some x) own is =
    let one : same_class m.class x.class
    ≡ true = (class_Decides m.class x.class).1
    (own ∙ sym (declared_class classes (named_at classes m) (Prog n) x is)) in
    ap (λ t. if not t && overrides classes m x
    then unless (not (is_final_member classes x)) WrongKind ++ unless
    (may_be_overridden_role (role_at x)) LeftOutMember else []) one

pub own_none : (classes : List Class) (m : MemberAt) (n : ℕ) → m.class ≡ Prog n → overridden_in classes m (Prog n) ≡ []
own_none classes m n own = own_declared classes m n (declared_in classes (named_at classes m) (Prog n)) own refl

-- ---- methods that are not final

any_method : (ms : List Method)
    → list_any (λ row. row.is_method && has acc_final row.flags) (map method_row ms)
    ≡ list_any (λ m. has acc_final m.flags.0) ms
any_method [] = refl
any_method (m ∷ ms) = ap (λ t. has acc_final m.flags.0 || t) (any_method ms)

any_row : (fs : List Field) (ms : List Method)
    → list_any (λ row. row.is_method && has acc_final row.flags) (map field_row fs ++ map method_row ms)
    ≡ list_any (λ m. has acc_final m.flags.0) ms
any_row [] ms = any_method ms
any_row (f ∷ fs) ms = any_row fs ms

row_here : (row : MemberRow) → row.is_method ≡ true → (row.is_method && has acc_final row.flags) ≡ false
    → has acc_final row.flags ≡ false
row_here row is none = sym (ap (λ t. t && has acc_final row.flags) is) ∙ none

row_none : (rows : List MemberRow) (i : ℕ) → option_map_or (λ row. row.is_method) (slice_get rows i) false ≡ true
    → list_any (λ row. row.is_method && has acc_final row.flags) rows ≡ false
    → option_map_or (λ row. has acc_final row.flags) (slice_get rows i) false ≡ false
row_none [] i is none = refl
row_none (row ∷ rows) zero is none = row_here row is (or_parts _ _ none).0
row_none (row ∷ rows) (suc i) is none =
    row_none rows i is (or_parts (row.is_method && has acc_final row.flags) _ none).1

final_none : (classes : List Class) (n : ℕ) (c : Class) (y : MemberAt) → slice_get classes n ≡ Some c
    → has_final_method c ≡ false → y.class ≡ Prog n
    → is_method_at classes y ≡ true → is_final_member classes y ≡ false
final_none classes n c y is none at method =
    let rows : List MemberRow = map field_row c.fields ++ map method_row c.methods in
    let e : row_at classes y ≡ slice_get rows y.index = ap (λ d. slice_get (rows_in classes d) y.index) at
    ∙ ap (λ rs. slice_get rs y.index) (rows_are classes n c is) in
    ap (λ o. option_map_or (λ row. has acc_final row.flags) o false) e
    ∙ row_none rows y.index (sym (ap (λ o. option_map_or (λ row. row.is_method) o false) e) ∙ method)
    (any_row c.fields c.methods ∙ none)

-- a method of the program may be named
callable_own : (y : MemberAt) (n : ℕ) → y.class ≡ Prog n → unless (is_callable_role (role_at y)) LeftOutMember ≡ []
callable_own y n at = ap
    (λ d. unless (is_callable_role (role_at (record { class = d; index = y.index }))) LeftOutMember) at

open_own : (y : MemberAt) (n : ℕ) → y.class ≡ Prog n → unless (may_be_overridden_role (role_at y)) LeftOutMember ≡ []
open_own y n at = ap (λ d. unless (may_be_overridden_role (role_at
    (record { class = d; index = y.index }))) LeftOutMember) at

none_if : {A : Type 0} (b : Bool) (xs : List A) → xs ≡ [] → (if b then xs else []) ≡ []
none_if true xs none = none
none_if false xs none = refl

plain_declared : (classes : List Class) (m : MemberAt) (n : ℕ) (c : Class) (o : Option MemberAt)
    → slice_get classes n ≡ Some c → has_final_method c ≡ false
    → is_method_at classes m ≡ true
    → declared_in classes (named_at classes m) (Prog n) ≡ o
    → option_map_or (overridden_kinds classes m) o [] ≡ []
plain_declared classes m n c None at none method is = refl
plain_declared classes m n c (Some y) at none method is =
    let class : y.class ≡ Prog n = declared_class classes (named_at classes m) (Prog n) y is in
    none_if (not (same_class m.class y.class) && overrides classes m y)
    (unless (not (is_final_member classes y)) WrongKind ++ unless (may_be_overridden_role (role_at y)) LeftOutMember)
    (ap (λ t. unless (not t) WrongKind ++ unless (may_be_overridden_role (role_at y)) LeftOutMember)
    (final_none classes n c y at none class (like_is_method classes m y (Prog n) method is))
    ∙ open_own y n class)

plain_none : (classes : List Class) (m : MemberAt) (x : ClassId)
    → is_method_at classes m ≡ true → IsPlain classes x
    → overridden_in classes m x ≡ []
plain_none classes m x method plain =
    ap (overridden_in classes m) plain.2
    ∙ plain_declared classes m plain.0 plain.1
    (declared_in classes (named_at classes m) (Prog plain.0)) plain.3 plain.4 method refl

-- what a method overrides from where it begins to look is all that it overrides
pub overridden_from : (classes : List Class) (m : MemberAt) (n : ℕ) (start : Option ClassId) → IsStart classes n start
    → m.class ≡ Prog n
    → is_method_at classes m ≡ true
    → flat_map (overridden_in classes m) (superclasses_up classes start) ≡ overriding_kinds classes n m
overridden_from classes m n start st own method =
    sym (flat_filter (overridden_kinds classes m) (declared_in classes (named_at classes m))
    (superclasses_from classes (Prog n))
    ∙ st.same (overridden_in classes m) (own_none classes m n own) (λ x plain. plain_none classes m x method plain))

-- ---- what runs where the methods of superinterfaces are called

picked : (kinds : MemberAt → List ProfileKind) (b : Bool) (x : MemberAt) (o : Option MemberAt) → kinds x ≡ []
    → option_map_or kinds o [] ≡ []
    → option_map_or kinds (cond b (Some x) o) [] ≡ []
picked kinds true x o here later = here
picked kinds false x o here later = later

found_none : (kinds : MemberAt → List ProfileKind) (test : MemberAt → Bool) (o : Option MemberAt) (ms : List MemberAt)
    → IfSome o (λ x. kinds x ≡ [])
    → option_map_or kinds (find test ms) [] ≡ [] → option_map_or kinds (find test (cons_option o ms)) [] ≡ []
found_none kinds test None ms here later = later
found_none kinds test (Some x) ms here later = picked kinds (test x) x (find test ms) here later

first_if : (b : Bool) (x : MemberAt) (ms : List MemberAt)
    → first (if b then x ∷ ms else ms) ≡ cond b (Some x) (first ms)
first_if true x ms = refl
first_if false x ms = refl

overriding_none : (classes : List Class) (kinds : MemberAt → List ProfileKind) (above : MemberAt) (o : Option MemberAt)
    (ms : List MemberAt) → IfSome o (λ x. kinds x ≡ [])
    → option_map_or kinds (first (overriding classes above ms)) [] ≡ []
    → option_map_or kinds (first (overriding classes above (cons_option o ms))) [] ≡ []
overriding_none classes kinds above None ms here later = later
overriding_none classes kinds above (Some x) ms here later =
    ap (λ p. option_map_or kinds p []) (first_if _ x (overriding classes above ms))
    ∙ picked kinds _ x (first (overriding classes above ms)) here later

either_none : (kinds : MemberAt → List ProfileKind) (t : Bool) (a b x y : Option MemberAt)
    → (option_map_or kinds a [] ≡ [] → option_map_or kinds x [] ≡ [])
    → (option_map_or kinds b [] ≡ [] → option_map_or kinds y [] ≡ [])
    → option_map_or kinds (if t then a else b) [] ≡ [] → option_map_or kinds (if t then x else y) [] ≡ []
either_none kinds true a b x y one other none = one none
either_none kinds false a b x y one other none = other none

own_callable : (classes : List Class) (n : ℕ) (m : MemberAt) (o : Option MemberAt)
    → declared_in classes (named_at classes m) (Prog n) ≡ o
    → IfSome o (λ x. unless (is_callable_role (role_at x)) LeftOutMember ≡ [])
own_callable classes n m None is = tt
own_callable classes n m (Some x) is = callable_own x n (declared_class classes (named_at classes m) (Prog n) x is)

module _ (classes : List Class) (r : HasRanks classes) (n : ℕ) (few : length classes ≤ 4294967295)
    (n-in : n < length classes) where
  -- what runs in the superclass runs in the class, or a method that the class itself has
  selected_none : (s : ℕ) (m : MemberAt) → superclass classes (Prog n) ≡ Some (Prog s) → selected_kinds classes s m ≡ []
      → selected_kinds classes n m ≡ []
  selected_none s m is none =
      let kinds : MemberAt → List ProfileKind = λ one. unless (is_callable_role (role_at one)) LeftOutMember in
      let own : Option MemberAt = declared_in classes (named_at classes m) (Prog n) in
      let here = own_callable classes n m own refl in
      let up : superclasses_from classes (Prog n) ≡ Prog n ∷ superclasses_from classes (Prog s) =
      up_first classes r (Prog n) few n-in ∙ ap (λ o. Prog n ∷ superclasses_up classes o) is in
      let rest : List MemberAt = declared_by classes (named_at classes m) (superclasses_from classes (Prog s)) in
      either_none kinds (is_interface_in classes m.class) (first_instance classes (Prog s) (named_at classes m))
      (first (overriding_from classes (Prog s) m))
      (first_instance classes (Prog n) (named_at classes m)) (first (overriding_from classes (Prog n) m))
      (λ later.
      ap (λ cs. option_map_or kinds
      (find (is_instance_method classes) (declared_by classes (named_at classes m) cs)) []) up
      ∙ found_none kinds (is_instance_method classes) own rest here later)
      (λ later.
      ap (λ cs. option_map_or kinds (first (overriding classes m (declared_by classes (named_at classes m) cs))) []) up
      ∙ overriding_none classes kinds m own rest here later)
      none

  fits_super : (s : ℕ) → superclass classes (Prog n) ≡ Some (Prog s) → Fits classes s
      → flat_map (running_kinds_of classes n)
      (flat_map (own_superinterfaces classes) (superclasses_up classes (superclass classes (Prog n)))) ≡ []
  fits_super s is fits =
      ap (λ o. flat_map (running_kinds_of classes n)
      (flat_map (own_superinterfaces classes) (superclasses_up classes o))) is
      ∙ none_then (running_kinds_of classes s) (running_kinds_of classes n)
      (λ i none. none_then (selected_kinds classes s) (selected_kinds classes n) (λ m h. selected_none s m is h)
      (methods_of classes i) none)
      (superinterfaces classes (Prog s)) fits

  -- of its own superinterfaces, and of those of its superclasses
  pub running_parts : running_kinds classes n
      ≡ flat_map (running_kinds_of classes n) (own_superinterfaces classes (Prog n))
      ++ flat_map (running_kinds_of classes n)
      (flat_map (own_superinterfaces classes) (superclasses_up classes (superclass classes (Prog n))))
  running_parts =
      ap (λ cs. flat_map (running_kinds_of classes n) (flat_map (own_superinterfaces classes) cs))
      (up_first classes r (Prog n) few n-in)
      ∙ flat_map-append (running_kinds_of classes n) (own_superinterfaces classes (Prog n))
      (flat_map (own_superinterfaces classes) (superclasses_up classes (superclass classes (Prog n))))

  -- where those of the superclass fit
  pub running_own : (s : ℕ) (above : Option ClassId) → above ≡ superclass classes (Prog n) → above ≡ Some (Prog s)
      → Fits classes s
      → flat_map (running_kinds_of classes n) (own_superinterfaces classes (Prog n)) ≡ running_kinds classes n
  running_own s above up is fits =
      sym (running_parts
      ∙ ap (λ ks. flat_map (running_kinds_of classes n) (own_superinterfaces classes (Prog n)) ++ ks)
      (fits_super s (sym up ∙ is) fits)
      ∙ append-nil (flat_map (running_kinds_of classes n) (own_superinterfaces classes (Prog n))))

pub none_fits : (classes : List Class) (n : ℕ) (o : Option ProfileKind) → o ≡ least (running_kinds classes n) → o ≡ None
    → Fits classes n
none_fits classes n o is none = least_empty (running_kinds classes n) (sym is ∙ none)

no_option : (o : Option ProfileKind) (b : Bool) → is_some o ≡ not b → b ≡ true → o ≡ None
no_option None b some is = refl
no_option (Some k) b some is = absurd cc

pub fits_if : (classes : List Class) (n : ℕ) (o : Option ProfileKind) (b : Bool) → o ≡ least (running_kinds classes n)
    → is_some o ≡ not b → b ≡ true → Fits classes n
fits_if classes n o b is some none = none_fits classes n o is (no_option o b some none)
