-- Members and classes that are told apart by their names.
use Rattle.std.proofs.Common.{◌≡◌, ◌≢◌, ℕ, zero, suc, ◌+◌, Bool, true, false, cond, List, [], ◌∷◌, length, get_or}
use Rattle.std.proofs.Common.{Option, Some, None, slice_get, refl, sym, ap, ◌∙◌, arith}
use Rattle.std.specs.List.{AllPairs, position}
use Rattle.std.specs.Option.{option_map}
use Rattle.std.proofs.lemmas.List.Quantifiers.{position-Some}
use Rattle.jv_base.specs.Names.{is_text}
use Rattle.jv_base.specs.Types.{field_text, method_text}
use Rattle.jv_base.specs.declared.types.MethodType.{MethodType}
use Rattle.jv_base.proofs.Equality.{text_Decides}
use Rattle.class_model.specs.Members.{FieldsDiffer, MethodsDiffer}
use Rattle.class_model.specs.WellFormed.{IsWellFormed}
use Rattle.class_model.specs.declared.class.Class.{Class}
use Rattle.class_model.specs.declared.class.Field.{Field}
use Rattle.class_model.specs.declared.class.Method.{Method}
use Rattle.lib_table.specs.Lookups as table
use Rattle.class_pool.specs.declared.id.ClassId.TheVariants.{Prog, Lib}
use Rattle.class_pool.specs.Distinct.{MembersDiffer, Once}
use Rattle.class_pool.specs.bodies.Faults.{NamesDiffer}
use Rattle.class_pool.specs.Hierarchy.{class_named, or_found}
use Rattle.class_pool.specs.Members.{is_field, is_method}
use Rattle.class_pool.proofs.LikeMethods.{begins, field_begins}
use Rattle.class_pool.proofs.NamedMembers.{position_step}
use Rattle.std.proofs.lemmas.Bool.{and_parts}

-- ---- places

one_is : (o : Option ℕ) → option_map (λ k. 1 + k) o ≡ option_map suc o
one_is None = refl
one_is (Some n) = let e : 1 + n ≡ suc n = omega arith in ap Some e

-- one step of the search for a place
pub position_next : {A : Type 0} (test : A → Bool) (x : A) (xs : List A)
    → position test (x ∷ xs) ≡ cond (test x) (Some 0) (option_map suc (position test xs))
position_next test x xs =
    position_step (test x) _ (length xs) ∙ ap (λ o. cond (test x) (Some 0) o) (one_is (position test xs))

-- one passes at most, where no two that pass are told apart
pub once_from_pairs : {A : Type 0} (q : A → Bool) (R : A → A → Type 0)
    → ((x y : A) → q x ≡ true → q y ≡ true → R x y → ⊥) → (xs : List A) → AllPairs R xs → Once q xs
once_from_pairs q R never [] h = tt
once_from_pairs q R never (x ∷ xs) h = (
  λ e. by e (position q xs) refl,
  once_from_pairs q R never xs
      (λ i j d lt low. h (suc i) (suc j) d (omega (arith, lt)) (omega (arith, low))),
)
  where
    by : q x ≡ true → (o : Option ℕ) → position q xs ≡ o → o ≡ None
    by e None is = refl
    by e (Some k) is =
        let found = position-Some q xs k x is in
        let low = found.0 in
        absurd (never x (get_or xs k x) e found.1 (h 0 (suc k) x (omega arith) (omega (arith, low))))

-- the first that passes stands where the only one does
pub position_at : {A : Type 0} (q : A → Bool) (xs : List A) (n : ℕ) (x : A) → Once q xs → slice_get xs n ≡ Some x
    → q x ≡ true → position q xs ≡ Some n
position_at q [] n x once is e = absurd cc
position_at q (y ∷ xs) zero x once is e =
    let same : y ≡ x = cc in
    position_next q y xs ∙ ap (λ (b : Bool). cond b (Some 0) (option_map suc (position q xs))) (ap q same ∙ e)
position_at q (y ∷ xs) (suc n) x once is e =
    let rest = position_at q xs n x once.1 is e in
    position_next q y xs ∙ by (q y) refl (λ t. once.0 t) rest ∙ ap (option_map suc) rest
  where
    by : (b : Bool) → q y ≡ b → (q y ≡ true → position q xs ≡ None) → position q xs ≡ Some n
        → cond (q y) (Some 0) (option_map suc (position q xs)) ≡ option_map suc (position q xs)
    by false t only some = ap (λ (b : Bool). cond b (Some 0) (option_map suc (position q xs))) t
    by true t only some = absurd (let r : None ≡ Some n = sym (only t) ∙ some in cc)

-- ---- members

method_begins : (ty : MethodType) → begins (method_text ty) ≡ true
unfolding method_text
method_begins ty = refl

pub members_differ : (c : Class) → IsWellFormed c → MembersDiffer c
members_differ c well = record {
  fields = λ name descriptor. once_from_pairs (is_field name descriptor) FieldsDiffer (λ x y h k other.
      let p = and_parts (is_text x.name name) (is_text descriptor (field_text x.ty)) h in
      let q = and_parts (is_text y.name name) (is_text descriptor (field_text y.ty)) k in
      other (
        (text_Decides x.name name).0 p.0
            ∙ sym ((text_Decides y.name name).0 q.0),
        sym ((text_Decides descriptor (field_text x.ty)).0 p.1)
            ∙ (text_Decides descriptor (field_text y.ty)).0 q.1,
      )) c.fields well.fields_differ;
  methods = λ name descriptor. once_from_pairs (is_method name descriptor) MethodsDiffer (λ x y h k other.
      let p = and_parts (is_text x.name name) (is_text descriptor (method_text x.ty)) h in
      let q = and_parts (is_text y.name name) (is_text descriptor (method_text y.ty)) k in
      other (
        (text_Decides x.name name).0 p.0
            ∙ sym ((text_Decides y.name name).0 q.0),
        sym ((text_Decides descriptor (method_text x.ty)).0 p.1)
            ∙ (text_Decides descriptor (method_text y.ty)).0 q.1,
      )) c.methods well.methods_differ;
  apart = λ name descriptor k is. by name descriptor k is (position (is_method name descriptor) c.methods) refl;
}
  where
    field_of : (xs : List Field) (k : ℕ) (name descriptor : List ℕ) → position (is_field name descriptor) xs ≡ Some k
        → begins descriptor ≡ false
    field_of [] k name descriptor is = absurd cc
    field_of (x ∷ xs) k name descriptor is =
        let found = position-Some (is_field name descriptor) (x ∷ xs) k x is in
        let f = get_or (x ∷ xs) k x in
        let p = and_parts (is_text f.name name) (is_text descriptor (field_text f.ty)) found.1 in
        ap begins ((text_Decides descriptor (field_text f.ty)).0 p.1) ∙ field_begins f.ty

    method_of : (xs : List Method) (k : ℕ) (name descriptor : List ℕ) → position (is_method name descriptor) xs ≡ Some k
        → begins descriptor ≡ true
    method_of [] k name descriptor is = absurd cc
    method_of (x ∷ xs) k name descriptor is =
        let found = position-Some (is_method name descriptor) (x ∷ xs) k x is in
        let m = get_or (x ∷ xs) k x in
        let p = and_parts (is_text m.name name) (is_text descriptor (method_text m.ty)) found.1 in
        ap begins ((text_Decides descriptor (method_text m.ty)).0 p.1) ∙ method_begins m.ty

    by : (name descriptor : List ℕ) (k : ℕ) → position (is_field name descriptor) c.fields ≡ Some k → (o : Option ℕ)
        → position (is_method name descriptor) c.methods ≡ o → o ≡ None
    by name descriptor k is None e = refl
    by name descriptor k is (Some j) e = absurd
        (let q : true ≡ false = sym (method_of c.methods j name descriptor e)
        ∙ field_of c.fields k name descriptor is in cc)

-- ---- classes

-- a program class is found by its own name
pub program_named : (classes : List Class) → NamesDiffer classes → (n : ℕ) (c : Class) → slice_get classes n ≡ Some c
    → class_named classes c.name ≡ Some (Prog n)
program_named classes differ n c is =
    let once = once_from_pairs (λ (d : Class). is_text c.name d.name) (λ x y. x.name ≢ y.name)
    (λ x y h k other. other (sym ((text_Decides c.name x.name).0 h)
    ∙ (text_Decides c.name y.name).0 k)) classes differ in
    ap (λ o. or_found o (option_map Lib (table.class_named c.name)))
    (position_at (λ (d : Class). is_text c.name d.name) classes n c once is ((text_Decides c.name c.name).1 refl))
