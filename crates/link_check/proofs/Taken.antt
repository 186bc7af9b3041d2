-- Where the rules tell no fault, no kind is due at any place.
use Rattle.std.proofs.Common.{◌≡◌, ℕ, zero, suc, ◌+◌, List, [], ◌∷◌, ◌++◌, length, Option, Some, None, Ok}
use Rattle.std.proofs.Common.{refl, sym, ap, subst, ◌∙◌, arith}
use Rattle.std.specs.List.{cons_option, enumerate_from, filter_map, flat_map}
use Rattle.std.specs.Option.{option_map}
use Rattle.std.specs.Prelude.{slice_get}
use Rattle.std.proofs.lemmas.Option.{same_Some}
use Rattle.jv_base.proofs.Lists.{nil_parts}
use Rattle.class_model.specs.declared.class.Class.{Class}
use Rattle.class_model.specs.declared.class.Field.{Field}
use Rattle.class_model.specs.declared.class.Method.{Method}
use Rattle.class_pool.specs.Resolution.{first}
use Rattle.link_check.specs.declared.fault.ProfileFault.{ProfileFault}
use Rattle.link_check.specs.declared.fault.ProfileKind.{ProfileKind}
use Rattle.link_check.specs.Profile.{fault_at, faults_of, kinds_of_class, kinds_of_field, kinds_of_method, least}
use Rattle.link_check.specs.Profile.{links_checked}
use Rattle.link_check.specs.Taken.{BreaksNoRule}
use Rattle.link_check.proofs.Least.{least_empty}

first_none : {A : Type 0} (xs : List A) → first xs ≡ None → xs ≡ []
first_none [] none = refl
first_none (x ∷ xs) none = absurd cc

pub option_parts : {A : Type 0} (o : Option A) (xs : List A) → cons_option o xs ≡ [] → (o ≡ None) × (xs ≡ [])
option_parts None xs none = (refl, none)
option_parts (Some x) xs none = absurd cc

-- at each place of a numbered list
each_flat : {X Y : Type 0} (f : ℕ × X → List Y) (n : ℕ) (xs : List X) (i : ℕ) (x : X)
    → flat_map f (enumerate_from n xs) ≡ [] → slice_get xs i ≡ Some x
    → f (n + i, x) ≡ []
each_flat f n [] i x none is = absurd cc
each_flat f n (y ∷ xs) zero x none is =
    let e : n + 0 ≡ n = omega arith in
    ap (λ k. f (k, x)) e ∙ ap (λ z. f (n, z)) (sym (same_Some y x is))
    ∙ (nil_parts (f (n, y)) (flat_map f (enumerate_from (n + 1) xs)) none).0
each_flat f n (y ∷ xs) (suc i) x none is =
    let e : n + suc i ≡ n + 1 + i = omega arith in
    ap (λ k. f (k, x)) e ∙ each_flat f (n + 1) xs i x (nil_parts (f (n, y))
    (flat_map f (enumerate_from (n + 1) xs)) none).1 is

each_map : {X Y : Type 0} (h : ℕ × X → Option Y) (n : ℕ) (xs : List X) (i : ℕ) (x : X)
    → filter_map h (enumerate_from n xs) ≡ [] → slice_get xs i ≡ Some x
    → h (n + i, x) ≡ None
each_map h n [] i x none is = absurd cc
each_map h n (y ∷ xs) zero x none is =
    let e : n + 0 ≡ n = omega arith in
    ap (λ k. h (k, x)) e ∙ ap (λ z. h (n, z)) (sym (same_Some y x is))
    ∙ (option_parts (h (n, y)) (filter_map h (enumerate_from (n + 1) xs)) none).0
each_map h n (y ∷ xs) (suc i) x none is =
    let e : n + suc i ≡ n + 1 + i = omega arith in
    ap (λ k. h (k, x)) e ∙ each_map h (n + 1) xs i x (option_parts (h (n, y))
    (filter_map h (enumerate_from (n + 1) xs)) none).1 is

pub mapped_none : {A B : Type 0} (f : A → B) (o : Option A) → option_map f o ≡ None → o ≡ None
mapped_none f None none = refl
mapped_none f (Some x) none = absurd cc

-- where there is no fault at a place, no kind is due there
pub no_kind : (number : ℕ) (place : Option ℕ) (kinds : List ProfileKind) → fault_at number place kinds ≡ None
    → kinds ≡ []
no_kind number place kinds none = least_empty kinds
    (mapped_none (λ kind. record { class = number; member = place; kind = kind }) (least kinds) none)

no_fault : (classes : List Class) → links_checked classes ≡ Ok tt
    → first (flat_map (λ p. faults_of classes p.0 p.1) (enumerate_from 0 classes)) ≡ None
no_fault classes ok = by (first (flat_map (λ p. faults_of classes p.0 p.1) (enumerate_from 0 classes))) refl ok where
  by : (o : Option ProfileFault) → first (flat_map (λ p. faults_of classes p.0 p.1) (enumerate_from 0 classes)) ≡ o
      → links_checked classes ≡ Ok tt
      → first (flat_map (λ p. faults_of classes p.0 p.1) (enumerate_from 0 classes)) ≡ None
  by None is ok = is
  by (Some f) is ok = absurd cc

module _ (classes : List Class) (ok : links_checked classes ≡ Ok tt) (n : ℕ) (c : Class)
    (is : slice_get classes n ≡ Some c) where
  none_here : faults_of classes n c ≡ []
  none_here =
      let e : 0 + n ≡ n = omega arith in
      subst (λ k. faults_of classes k c ≡ []) e
      (each_flat (λ p. faults_of classes p.0 p.1) 0 classes n c
      (first_none (flat_map (λ p. faults_of classes p.0 p.1) (enumerate_from 0 classes)) (no_fault classes ok)) is)

  abbrev of_fields : List ProfileFault
  of_fields = filter_map (λ p. fault_at n (Some p.0) (kinds_of_field classes n c p.0 p.1)) (enumerate_from 0 c.fields)

  abbrev of_methods : List ProfileFault
  of_methods = filter_map (λ p. fault_at n (Some p.0) (kinds_of_method classes n c p.0 p.1))
      (enumerate_from (length c.fields) c.methods)

  none_of_class : fault_at n None (kinds_of_class classes n c) ≡ None
  none_of_class = (option_parts (fault_at n None (kinds_of_class classes n c)) (of_fields ++ of_methods) none_here).0

  none_of_members : (of_fields ≡ []) × (of_methods ≡ [])
  none_of_members =
      nil_parts of_fields of_methods
      (option_parts (fault_at n None (kinds_of_class classes n c)) (of_fields ++ of_methods) none_here).1

  class_taken : kinds_of_class classes n c ≡ []
  class_taken = no_kind n None (kinds_of_class classes n c) none_of_class

  field_taken : (i : ℕ) (f : Field) → slice_get c.fields i ≡ Some f → kinds_of_field classes n c i f ≡ []
  field_taken i f at =
      let e : 0 + i ≡ i = omega arith in
      let h = each_map
      (λ p. fault_at n (Some p.0) (kinds_of_field classes n c p.0 p.1)) 0 c.fields i f none_of_members.0 at in
      subst (λ k. kinds_of_field classes n c k f ≡ []) e
      (no_kind n (Some (0 + i)) (kinds_of_field classes n c (0 + i) f) h)

  method_taken : (i : ℕ) (m : Method) → slice_get c.methods i ≡ Some m
      → kinds_of_method classes n c (length c.fields + i) m ≡ []
  method_taken i m at =
      let h = each_map (λ p. fault_at n (Some p.0) (kinds_of_method classes n c p.0 p.1))
      (length c.fields) c.methods i m none_of_members.1 at in
      no_kind n (Some (length c.fields + i)) (kinds_of_method classes n c (length c.fields + i) m) h

pub links_taken : (classes : List Class) → links_checked classes ≡ Ok tt → BreaksNoRule classes
links_taken classes ok = record {
  class = λ n c is. class_taken classes ok n c is;
  field = λ n c i f is at. field_taken classes ok n c is i f at;
  method = λ n c i m is at. method_taken classes ok n c is i m at;
}
