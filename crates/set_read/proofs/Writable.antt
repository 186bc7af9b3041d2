-- Each class of a set that is taken can be written.
use Rattle.std.proofs.Common.{◌≡◌, ⊎_elim, ℕ, ◌+◌, ◌<◌, ◌≤◌, Bool, true, false, not, eqb, List, [], ◌∷◌, ◌++◌}
use Rattle.std.proofs.Common.{length}
use Rattle.std.proofs.Common.{Option, Some, None, Ok, refl, sym, ap, subst, ◌∙◌, arith}
use Rattle.std.specs.List.{AllByRecursion, enumerate_from, filter_map, flat_map}
use Rattle.std.proofs.lemmas.Bool.{cases_lt, eq-eqb}
use Rattle.tree_io.specs.declared.file_at.FileAt.{FileAt}
use Rattle.class_model.specs.declared.class.Class.{Class}
use Rattle.class_model.specs.declared.class.LeftKind.{LeftKind}
use Rattle.class_model.specs.declared.class.LeftOut.{LeftOut}
use Rattle.class_model.specs.declared.class.Method.{Method}
use Rattle.class_model.specs.ClassFile.{File, first_left_out, left_out_of_class, left_out_of_members}
use Rattle.class_model.specs.Flags.{is_interface}
use Rattle.class_model.specs.Members.{IsField}
use Rattle.class_pool.specs.Faults.{classes_of}
use Rattle.class_pool.specs.declared.fault.NamedClass.{NamedClass}
use Rattle.class_laws.specs.SpellingLaws.{IsWritable}
use Rattle.class_laws.proofs.FormedFile.{spelled_writable}
use Rattle.link_check.specs.Profile.{all_kinds, declaration_kinds, fault_at, faults_of, kinds_of_class, kinds_of_field}
use Rattle.link_check.specs.Profile.{kinds_of_method}
use Rattle.link_check.specs.Profile.{left_out_at, links_checked, of_left, unless}
use Rattle.link_check.specs.declared.fault.ProfileFault.{ProfileFault}
use Rattle.link_check.specs.declared.fault.ProfileKind.{ProfileKind}
use Rattle.link_check.specs.declared.fault.ProfileKind.TheVariants.{LeftOutFlag, LeftOutConstant, LeftOutOpcode}
use Rattle.link_check.specs.declared.fault.ProfileKind.TheVariants.{LeftOutType}
use Rattle.link_check.specs.declared.fault.ProfileKind.TheVariants.{Unresolved, Inaccessible, WrongKind, LeftOutMember}
use Rattle.set_read.specs.Accepted.{AreRead, IsAccepted}
use Rattle.set_read.proofs.Few.{as_long, as_many}
use Rattle.link_check.proofs.Taken.{option_parts, no_kind}
use Rattle.link_check.proofs.Least.{stands}

-- ---- lists

front_empty : {X : Type 0} (xs ys : List X) → xs ++ ys ≡ [] → xs ≡ []
front_empty [] ys h = refl
front_empty (x ∷ xs) ys h = absurd cc

back_empty : {X : Type 0} (xs ys : List X) → xs ++ ys ≡ [] → ys ≡ []
back_empty [] ys h = h
back_empty (x ∷ xs) ys h = absurd cc

-- what holds where no result is given holds of the number of each element
each_number : {X Y : Type 0} (h : ℕ × X → Option Y) (P : ℕ → Type 0) → ((m : ℕ) (x : X) → h (m, x) ≡ None → P m)
    → (n : ℕ) (xs : List X)
    → filter_map h (enumerate_from n xs) ≡ [] → (m : ℕ) → n ≤ m → m < n + length xs → P m
each_number h P holds n [] none m low high = absurd omega (arith, low, high)
each_number h P holds n (x ∷ xs) none m low high =
    let parts = option_parts (h (n, x)) (filter_map h (enumerate_from (n + 1) xs)) none in
    ⊎_elim
    (λ later. each_number h P holds (n + 1) xs parts.1 m (omega (arith, later)) (omega (arith, high)))
    (λ here. subst P (omega (arith, here, low)) (holds n x parts.0))
    (cases_lt n m)

-- ---- kinds

-- the first of some kinds is one of all kinds
not_there : (k : ProfileKind) (ks : List ProfileKind) → AllByRecursion (λ j. stands (k ∷ ks) j ≡ false) all_kinds
    → k ∷ ks ≡ []
not_there LeftOutFlag ks h = absurd (let e = h.0 in cc)
not_there LeftOutConstant ks h = absurd (let e = h.1.0 in cc)
not_there LeftOutOpcode ks h = absurd (let e = h.1.1.0 in cc)
not_there LeftOutType ks h = absurd (let e = h.1.1.1.0 in cc)
not_there Unresolved ks h = absurd (let e = h.1.1.1.1.0 in cc)
not_there Inaccessible ks h = absurd (let e = h.1.1.1.1.1.0 in cc)
not_there WrongKind ks h = absurd (let e = h.1.1.1.1.1.1.0 in cc)
not_there LeftOutMember ks h = absurd (let e = h.1.1.1.1.1.1.1.0 in cc)

-- ---- what is left out

elsewhere : (same : Bool) (k : ProfileKind) → unless (not same) k ≡ [] → same ≡ false
elsewhere true k h = absurd cc
elsewhere false k h = refl

abbrev Nothing : Option LeftOut → ℕ → Type 0
Nothing o m = left_out_at o (Some m) ≡ []

nothing_of_members : (n : ℕ) (kinds : List (Option LeftKind))
    → ((m : ℕ) → n ≤ m → m < n + length kinds → Nothing (left_out_of_members n kinds) m)
    → left_out_of_members n kinds ≡ None
nothing_of_members n [] h = refl
nothing_of_members n (Some kind ∷ kinds) h =
    absurd (let e : true ≡ false = sym (eq-eqb n n refl)
    ∙ elsewhere (eqb n n) (of_left kind) (h n (omega arith) (omega arith)) in cc)
nothing_of_members n (None ∷ kinds) h = nothing_of_members (n + 1) kinds
    (λ m low high. h m (omega (arith, low)) (omega (arith, high)))

nothing : (own : Option LeftKind) (n : ℕ) (kinds : List (Option LeftKind))
    → left_out_at (first_left_out own n kinds) None ≡ []
    → ((m : ℕ) → n ≤ m → m < n + length kinds → Nothing (first_left_out own n kinds) m)
    → first_left_out own n kinds ≡ None
nothing (Some kind) n kinds class members = absurd cc
nothing None n kinds class members = nothing_of_members n kinds members

-- ---- classes

-- the faults of some classes of the set, numbered from one on
abbrev faults_from : List Class → ℕ → List Class → List ProfileFault
faults_from classes number cs = flat_map (λ p. faults_of classes p.0 p.1) (enumerate_from number cs)

module _ (classes : List Class) where
  own_place : (number : ℕ) (c : Class) → kinds_of_class classes number c ≡ [] → left_out_at c.left_out None ≡ []
  own_place number c h = front_empty (left_out_at c.left_out None) _ (front_empty _ _ (front_empty _ _ h))

  method_place : (number : ℕ) (c : Class) (n : ℕ) (m : Method) → kinds_of_method classes number c n m ≡ []
      → Nothing c.left_out n
  method_place number c n m h =
      let of_declaration : declaration_kinds classes number c n m
      ≡ [] = front_empty _ _ (front_empty _ _ (front_empty _ _ h)) in
      front_empty (left_out_at c.left_out (Some n)) _ (front_empty _ _ (front_empty _ _ of_declaration))

  -- a class with no fault leaves nothing out
  nothing_left : (number : ℕ) (bytes : List ℕ) (c : Class) → File bytes c → faults_of classes number c ≡ []
      → c.left_out ≡ None
  nothing_left number bytes c h none =
      let raw = h.0 in
      let pool = h.2 in
      let class = h.3 in
      let kinds = class.left_out_kinds in
      let own = left_out_of_class raw.access_flags pool in
      let fields = as_long (IsField pool (is_interface raw.access_flags)) raw.fields c.fields class.fields in
      let methods = as_many pool (is_interface raw.access_flags) c.name raw.methods c.methods kinds class.methods in
      let of_fields = filter_map (λ p. fault_at number (Some p.0) (kinds_of_field classes number c p.0 p.1))
      (enumerate_from 0 c.fields) in
      let of_method : ℕ × Method
      → Option ProfileFault = λ p. fault_at number (Some p.0) (kinds_of_method classes number c p.0 p.1) in
      let of_methods = filter_map of_method (enumerate_from (length c.fields) c.methods) in
      let parts = option_parts (fault_at number None (kinds_of_class classes number c))
      (of_fields ++ of_methods) none in
      let at_class = own_place number c (no_kind number None (kinds_of_class classes number c) parts.0) in
      let at_method : (m : ℕ) → length c.fields ≤ m → m < length c.fields + length c.methods → Nothing c.left_out m =
      each_number of_method (Nothing c.left_out)
      (λ m x e. method_place number c m x (no_kind number (Some m) (kinds_of_method classes number c m x) e))
      (length c.fields) c.methods (back_empty of_fields of_methods parts.1) in
      let is = class.left_out in
      is ∙ nothing own (length raw.fields) kinds (ap (λ (o : Option LeftOut). left_out_at o None) (sym is) ∙ at_class)
      (λ m low high. ap (λ (o : Option LeftOut). left_out_at o (Some m)) (sym is)
      ∙ at_method m (omega (arith, low, fields)) (omega (arith, high, fields, methods.0, methods.1)))

  each_writable : (number : ℕ) (files : List FileAt) (named : List NamedClass) → AreRead files named
      → faults_from classes number (classes_of named) ≡ [] → AllByRecursion IsWritable (classes_of named)
  each_writable number [] [] read none = tt
  each_writable number (f ∷ files) (n ∷ named) read none =
      let own = faults_of classes number n.class in
      let others = faults_from classes (number + 1) (classes_of named) in (
        spelled_writable f.bytes n.class read.0.1
            (nothing_left number f.bytes n.class read.0.1 (front_empty own others none)),
        each_writable (number + 1) files named read.1 (back_empty own others none),
      )
  each_writable number [] (n ∷ named) read none = absurd read
  each_writable number (f ∷ files) [] read none = absurd read

-- a set whose check ends well has no faults
no_faults : (classes : List Class) → links_checked classes ≡ Ok tt → faults_from classes 0 classes ≡ []
no_faults classes h = by (faults_from classes 0 classes) refl
  where
    by : (faults : List ProfileFault) → faults_from classes 0 classes ≡ faults → faults ≡ []
    by [] e = refl
    by (f ∷ fs) e = absurd (let k = rw e at h in cc)

pub accepted_are_writable : (files : List FileAt) (classes : List Class) → IsAccepted files classes
    → AllByRecursion IsWritable classes
accepted_are_writable files classes h =
    let all = classes_of h.named in
    let linked : links_checked all ≡ Ok tt = subst (λ (cs : List Class). links_checked cs ≡ Ok tt) h.are h.linked in
    subst (AllByRecursion IsWritable) (sym h.are) (each_writable all 0 files h.named h.read (no_faults all linked))
