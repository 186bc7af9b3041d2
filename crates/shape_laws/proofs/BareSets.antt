-- Sets that differ in their codes alone are one program, their codes aside; and codes that are
-- related place by place are related name by name.
use Rattle.std.proofs.Common.{◌≡◌, ℕ, zero, suc, ◌+◌, List, [], ◌∷◌, ◌++◌, map, Option, Some, None}
use Rattle.std.proofs.Common.{slice_get}
use Rattle.std.proofs.Common.{refl, sym, ap, subst, ◌∙◌, length}
use Rattle.std.specs.List.{AllZip, position}
use Rattle.std.specs.Option.{option_and_then, option_map}
use Rattle.std.proofs.lemmas.Option.{slice_get-map, same_Some}
use Rattle.class_model.specs.declared.class.Class.{Class}
use Rattle.class_model.specs.declared.class.Constant.{Constant}
use Rattle.class_model.specs.declared.class.Field.{Field}
use Rattle.class_model.specs.declared.class.Method.{Method}
use Rattle.class_model.specs.declared.code.Code.{Code}
use Rattle.lib_table.proofs.Classes.{position_map}
use Rattle.class_pool.specs.Found.{MemberRow, field_row, method_row}
use Rattle.class_pool.specs.Members.{is_field, is_method, member_named, or_method}
use Rattle.class_pool.specs.declared.id.ClassId.{ClassId}
use Rattle.class_pool.specs.declared.id.ClassId.TheVariants.{Prog, Lib}
use Rattle.class_pool.specs.declared.id.MemberAt.{MemberAt}
use Rattle.jvm_model.specs.Value.{Key}
use Rattle.set_view.specs.ViewOf.{code_at, member_of, shape_of, told_in, view_of}
use Rattle.shape_laws.specs.Bare.{CodesAre, DifferInCodes, bare, bare_method}
use Rattle.shape_laws.specs.KeepsMembers.{KeepsMembers, no_constant}
use Rattle.shape_laws.proofs.Shape.{member_of_is, shape_of_is}

-- ---- without codes

same_rows : (ms : List Method) → map method_row (map bare_method ms) ≡ map method_row ms
same_rows [] = refl
same_rows (m ∷ ms) = ap (λ (t : List MemberRow). method_row m ∷ t) (same_rows ms)

same_constants : (ms : List Method) → map no_constant (map bare_method ms) ≡ map no_constant ms
same_constants [] = refl
same_constants (m ∷ ms) = λ i. None ∷ same_constants ms i

same_named : (c : Class) (name ty : List ℕ) → member_named (bare c) name ty ≡ member_named c name ty
same_named c name ty = by (position (is_field name ty) c.fields)
  where
    by : (o : Option ℕ) → or_method (bare c) name ty o ≡ or_method c name ty o
    by (Some n) = refl
    by None =
        ap (option_map (λ k. length c.fields + k))
        (position_map bare_method (is_method name ty) c.methods)

pub bare_keeps : KeepsMembers bare
bare_keeps = record {
  name = λ c. refl;
  super_name = λ c. refl;
  interfaces = λ c. refl;
  kind = λ c. refl;
  is_public = λ c. refl;
  rows = λ c. ap (λ (t : List MemberRow). map field_row c.fields ++ t) (same_rows c.methods);
  named = same_named;
  constants = λ c.
      ap (λ (t : List (Option Constant)). map (λ (f : Field). f.constant) c.fields ++ t)
      (same_constants c.methods);
}

-- what is the same without codes is the same of both
pub same : {X : Type 0} (a b : List Class) → DifferInCodes a b → (of : List Class → X)
    → ((s : List Class) → of (map bare s) ≡ of s) → of b ≡ of a
same a b like of is = sym (is b) ∙ ap of (sym like) ∙ is a

pub same_shape : (a b : List Class) → DifferInCodes a b → shape_of b ≡ shape_of a
same_shape a b like = same a b like shape_of (shape_of_is bare bare_keeps)

-- ---- codes

-- a class of the one set has its class in the other
pub class_from : (a b : List Class) → DifferInCodes a b → (n : ℕ) (e : Class) → slice_get b n ≡ Some e
    → (c : Class) × (slice_get a n ≡ Some c) × (bare e ≡ bare c)
class_from a b like n e there = by (slice_get a n) refl
    (sym (slice_get-map bare a n) ∙ ap (λ (s : List Class). slice_get s n) like
    ∙ slice_get-map bare b n
    ∙ ap (option_map bare) there)
  where
    by : (o : Option Class) → slice_get a n ≡ o → option_map bare o ≡ Some (bare e)
        → (c : Class) × (slice_get a n ≡ Some c) × (bare e ≡ bare c)
    by None at q = absurd cc
    by (Some c) at q = (c, at, sym (same_Some (bare c) (bare e) q))

abbrev no_code : Field → Option Code
no_code f = None

module _ (R : Option Code → Option Code → Type 0) (none : R None None) where
  fields_are : (fs : List Field) (xs ys : List (Option Code)) → AllZip R xs ys
      → AllZip R (map no_code fs ++ xs) (map no_code fs ++ ys)
  fields_are [] xs ys h = h
  fields_are (f ∷ fs) xs ys h = (none, fields_are fs xs ys h)

  methods_are : (ms os : List Method) → AllZip (λ (m o : Method). R m.code o.code) ms os
      → AllZip R (map (λ (m : Method). m.code) ms) (map (λ (m : Method). m.code) os)
  methods_are [] [] h = tt
  methods_are [] (o ∷ os) h = absurd h
  methods_are (m ∷ ms) [] h = absurd h
  methods_are (m ∷ ms) (o ∷ os) h = (h.0, methods_are ms os h.1)

  at_are : (xs ys : List (Option Code)) → AllZip R xs ys → (k : ℕ)
      → R (option_and_then (λ x. x) (slice_get xs k)) (option_and_then (λ x. x) (slice_get ys k))
  at_are [] [] h k = none
  at_are [] (y ∷ ys) h k = absurd h
  at_are (x ∷ xs) [] h k = absurd h
  at_are (x ∷ xs) (y ∷ ys) h zero = h.0
  at_are (x ∷ xs) (y ∷ ys) h (suc k) = at_are xs ys h.1 k

  abbrev told_of : ℕ → Class → Option Code
  told_of k c = option_and_then (λ x. x)
      (slice_get (map no_code c.fields ++ map (λ (m : Method). m.code) c.methods) k)

  class_is : (c e : Class) → bare e ≡ bare c
      → AllZip (λ (m o : Method). R m.code o.code) c.methods e.methods → (k : ℕ)
      → R (told_of k c) (told_of k e)
  class_is c e like h k =
      subst (λ (fs : List Field). R (told_of k c) (option_and_then (λ x. x)
      (slice_get (map no_code fs ++ map (λ (m : Method). m.code) e.methods) k)))
      (λ i. (sym like i).fields)
      (at_are (map no_code c.fields ++ map (λ (m : Method). m.code) c.methods)
      (map no_code c.fields ++ map (λ (m : Method). m.code) e.methods)
      (fields_are c.fields (map (λ (m : Method). m.code) c.methods)
      (map (λ (m : Method). m.code) e.methods)
      (methods_are c.methods e.methods h)) k)

  module _ (a b : List Class) (like : DifferInCodes a b) (are : CodesAre R a b) where
    at_both : (n k : ℕ) (o p : Option Class) → slice_get a n ≡ o → slice_get b n ≡ p
        → R (option_and_then (told_of k) o) (option_and_then (told_of k) p)
    at_both n k None None at there = none
    at_both n k (Some c) (Some e) at there =
        let g = class_from a b like n e there in
        let one : g.0 ≡ c = same_Some g.0 c (sym g.1 ∙ at) in
        class_is c e (g.2 ∙ ap bare one) (are n c e at there) k
    at_both n k None (Some e) at there =
        let g = class_from a b like n e there in
        absurd (let no : None ≡ Some g.0 = sym at ∙ g.1 in cc)
    at_both n k (Some c) None at there =
        let g = class_from b a (sym like) n c at in
        absurd (let no : None ≡ Some g.0 = sym there ∙ g.1 in cc)

    codes_are : (x : ClassId) (k : ℕ)
        → R (told_in a no_code (λ (m : Method). m.code) x k)
        (told_in b no_code (λ (m : Method). m.code) x k)
    codes_are (Lib id) k = none
    codes_are (Prog n) k = at_both n k (slice_get a n) (slice_get b n) refl refl

    of_member : (o : Option MemberAt)
        → R (option_and_then (code_at a) o) (option_and_then (code_at b) o)
    of_member None = none
    of_member (Some m) = codes_are m.class m.index

    -- the codes that a name leads to in both are related
    pub views_are : (k : Key) → R ((view_of a).code k) ((view_of b).code k)
    views_are k =
        subst (λ (o : Option MemberAt). R (option_and_then (code_at a) (member_of a k))
        (option_and_then (code_at b) o))
        (λ i. sym (same a b like member_of (member_of_is bare bare_keeps)) i k)
        (of_member (member_of a k))
