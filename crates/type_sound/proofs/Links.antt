-- What a reference without a fault is linked to (JVMS 5.4.3, 5.4.4).
use Rattle.std.proofs.Common.{◌≡◌, ◌≢◌, ◌++◌, ℕ, not, Bool, true, false, cond, List, [], ◌∷◌, Option}
use Rattle.std.proofs.Common.{Some, None, Result, Ok, Err, refl, sym, ap, subst, ◌∙◌, codes}
use Rattle.std.specs.Prelude.{◌==◌, is_some}
use Rattle.std.specs.Bool.{beq}
use Rattle.std.specs.List.{AllByRecursion, cons_option, flat_map}
use Rattle.std.proofs.lemmas.Bool.{eqb-true}
use Rattle.jv_base.specs.Descriptors.{read_field, read_method}
use Rattle.jv_base.specs.Names.{is_text}
use Rattle.jv_base.specs.declared.types.Base.{Base}
use Rattle.jv_base.specs.declared.types.Base.TheVariants as base
use Rattle.jv_base.specs.declared.types.FieldType.{FieldType}
use Rattle.jv_base.proofs.FieldLaw.{read_field-only}
use Rattle.jv_base.proofs.Lists.{nil_parts}
use Rattle.jv_base.proofs.MethodLaw.{read_method-only}
use Rattle.class_model.specs.Frames.{base_vtype, vtype_of}
use Rattle.class_model.specs.ConstantPool.{IsFieldText, IsMethodText}
use Rattle.class_model.specs.declared.class.Class.{Class}
use Rattle.class_model.specs.declared.frame.VType.TheVariants as vtype
use Rattle.class_model.specs.declared.op.MemberRef.{MemberRef}
use Rattle.class_pool.specs.Found.{is_static_member, role_at}
use Rattle.class_pool.specs.Hierarchy.{class_named}
use Rattle.class_pool.specs.Resolution.{field_found, is_class_accessible, is_interface_in, is_member_accessible}
use Rattle.class_pool.specs.Resolution.{method_found}
use Rattle.class_pool.specs.declared.id.ClassId.{ClassId}
use Rattle.class_pool.specs.declared.id.ClassId.TheVariants.{Prog}
use Rattle.class_pool.specs.declared.id.MemberAt.{MemberAt}
use Rattle.link_check.specs.Links.{is_callable_role, linked, linked_field, linked_method, of_array, of_class, through}
use Rattle.link_check.specs.Profile.{base_kinds, call_kinds, class_kinds, class_of, field_kinds, field_text_kinds}
use Rattle.link_check.specs.Profile.{member_kinds}
use Rattle.link_check.specs.Profile.{method_text_kinds, static_kinds, type_kinds, unless}
use Rattle.link_check.specs.Profile.{used_kinds}
use Rattle.link_check.specs.declared.fault.LinkKind.{LinkKind}
use Rattle.link_check.specs.declared.fault.LinkKind.TheVariants as link
use Rattle.link_check.specs.declared.fault.ProfileKind.{ProfileKind}
use Rattle.link_check.specs.declared.fault.ProfileKind.TheVariants.{LeftOutMember, WrongKind}
use Rattle.type_verifier.specs.Assignable.{class_type}
use Rattle.fit_laws.specs.Held.{is_base_there, is_there}
use Rattle.fit_laws.specs.Meaning.{IsFieldTyped, IsMethodTyped}

-- a rule that isn't broken
pub unbroken : (b : Bool) (kind : ProfileKind) → unless b kind ≡ [] → b ≡ true
unbroken true kind h = refl
unbroken false kind h = absurd cc

module _ (classes : List Class) (number : ℕ) where
  abbrev pub from : ClassId
  from = Prog number

  -- ---- types

  -- a type that breaks no rule is neither float nor double
  pub no_float : (ty : FieldType) → type_kinds classes number ty ≡ [] → vtype_of ty ≢ vtype.Top
  no_float ty h = by (ty.dims == 0) where
    on_base : (b : Base) → base_kinds classes number b ≡ [] → base_vtype ty b ≢ vtype.Top
    on_base base.Float h e = absurd cc
    on_base base.Double h e = absurd cc
    on_base base.Boolean h e = cc
    on_base base.Byte h e = cc
    on_base base.Char h e = cc
    on_base base.Short h e = cc
    on_base base.Int h e = cc
    on_base base.Long h e = cc
    on_base (base.Class name) h e = cc

    by : (t : Bool) → cond t (base_vtype ty ty.base) (vtype.Object ty) ≢ vtype.Top
    by true e = on_base ty.base h e
    by false e = cc

  -- the class of such a type is there
  pub type_there : (ty : FieldType) → type_kinds classes number ty ≡ []
      → is_there classes ty ≡ true
  type_there ty h = by ty.base h where
    at : (name : List ℕ) (o : Option ClassId) → class_named classes name ≡ o
        → class_kinds classes number o ≡ [] → is_some o ≡ true
    at name None e k = absurd cc
    at name (Some c) e k = refl

    by : (b : Base) → base_kinds classes number b ≡ [] → is_base_there classes b ≡ true
    by (base.Class name) k = at name (class_named classes name) refl k
    by base.Boolean k = refl
    by base.Byte k = refl
    by base.Char k = refl
    by base.Short k = refl
    by base.Int k = refl
    by base.Long k = refl
    by base.Float k = refl
    by base.Double k = refl

  each_type : (ts : List FieldType) → flat_map (type_kinds classes number) ts ≡ []
      → AllByRecursion (λ ty. vtype_of ty ≢ vtype.Top) ts
  each_type [] h = tt
  each_type (ty ∷ ts) h =
      let p = nil_parts (type_kinds classes number ty) (flat_map (type_kinds classes number) ts) h in
      (no_float ty p.0, each_type ts p.1)

  arguments_of : (ret : Option FieldType) (ts : List FieldType)
      → flat_map (type_kinds classes number) (cons_option ret ts) ≡ []
      → flat_map (type_kinds classes number) ts ≡ []
  arguments_of None ts h = h
  arguments_of (Some ty) ts h = (nil_parts (type_kinds classes number ty) (flat_map (type_kinds classes number) ts) h).1

  -- what a descriptor tells
  pub field_typed : (r : MemberRef) → IsFieldText r.ty → field_text_kinds classes number (read_field r.ty) ≡ []
      → IsFieldTyped r
  field_typed r d h = record {
    ty = d.0;
    read = read;
    no_float = no_float d.0 (sym (ap (field_text_kinds classes number) read) ∙ h);
  } where
    read : read_field r.ty ≡ Ok d.0
    read = read_field-only r.ty d.0 (d.1, sym d.2)

  pub method_typed : (r : MemberRef) → IsMethodText r.ty → method_text_kinds classes number (read_method r.ty) ≡ []
      → IsMethodTyped r
  method_typed r d h = record {
    ty = d.0;
    read = read;
    no_floats = each_type d.0.args (arguments_of d.0.ret d.0.args
        (sym (ap (method_text_kinds classes number) read) ∙ h));
  } where
    read : read_method r.ty ≡ Ok d.0
    read = read_method-only r.ty d.0 (d.1, sym d.2)

  -- ---- links

  -- a member that is found through a class
  pub record Linked (r : MemberRef) (found : ClassId → Option MemberAt) (right : ClassId → Bool) (m : MemberAt)
      : Type 0 where
    pub class : ClassId
    pub name : List ℕ
    pub class_is : r.class ≡ class_type name
    pub named : class_named classes name ≡ Some class
    pub member_is : found class ≡ Some m
    pub rightly : right class ≡ true

  module _ (found : ClassId → Option MemberAt) (right : ClassId → Bool) (m : MemberAt) where
    at_class : (c : ClassId) → linked classes from c (right c) (found c) ≡ Ok m
        → (found c ≡ Some m) × (right c ≡ true)
    at_class c e = by (found c) refl e where
      tests : (z : MemberAt) → found c ≡ Some z → (s : Bool) → (t : Bool) → right c ≡ t
          → cond (not s) (Err link.Inaccessible) (cond t (Ok z) (Err link.WrongKind)) ≡ Ok m
          → (found c ≡ Some m) × (right c ≡ true)
      tests z is true true r e = let q : z ≡ m = cc in (is ∙ ap (λ (y : MemberAt). Some y) q, r)
      tests z is true false r e = absurd cc
      tests z is false t r e = absurd cc

      by : (o : Option MemberAt) → found c ≡ o → linked classes from c (right c) o ≡ Ok m
          → (found c ≡ Some m) × (right c ≡ true)
      by None is e = absurd cc
      by (Some z) is e = tests z is (is_member_accessible classes from c z) (right c) refl e

    in_class : (o : Option ClassId) → through classes from o (λ c. linked classes from c (right c) (found c)) ≡ Ok m
        → (c : ClassId) × (o ≡ Some c) × (found c ≡ Some m) × (right c ≡ true)
    in_class None e = absurd cc
    in_class (Some c) e = by (is_class_accessible classes from c) e where
      by : (t : Bool) → cond t (linked classes from c (right c) (found c)) (Err link.Inaccessible) ≡ Ok m
          → (d : ClassId) × (Some c ≡ Some d) × (found d ≡ Some m) × (right d ≡ true)
      by true e = let p = at_class c e in (c, refl, p.0, p.1)
      by false e = absurd cc

    -- no member of an array is linked
    in_array : (t : Bool) (b : Base) → of_array classes from t b ≡ Ok m → ⊥
    in_array t (base.Class name) e = by (class_named classes name) e where
      at : (u : Bool) (v : Bool) → cond u (cond v (Err link.LeftOutMember) (Err link.WrongKind)) (Err link.Inaccessible)
          ≡ Ok m → ⊥
      at true true e = cc
      at true false e = cc
      at false v e = cc

      by : (o : Option ClassId)
          → through classes from o (λ c. cond t (Err link.LeftOutMember) (Err link.WrongKind)) ≡ Ok m → ⊥
      by None e = cc
      by (Some c) e = at (is_class_accessible classes from c) t e
    in_array true base.Boolean e = cc
    in_array true base.Byte e = cc
    in_array true base.Char e = cc
    in_array true base.Short e = cc
    in_array true base.Int e = cc
    in_array true base.Long e = cc
    in_array true base.Float e = cc
    in_array true base.Double e = cc
    in_array false base.Boolean e = cc
    in_array false base.Byte e = cc
    in_array false base.Char e = cc
    in_array false base.Short e = cc
    in_array false base.Int e = cc
    in_array false base.Long e = cc
    in_array false base.Float e = cc
    in_array false base.Double e = cc

    in_type : (r : MemberRef) (u : Bool)
        → cond (r.class.dims == 0)
        (of_class classes from r.class.base (λ c. linked classes from c (right c) (found c)))
        (of_array classes from u r.class.base) ≡ Ok m
        → Linked r found right m
    in_type r u e = by (r.class.dims == 0) refl e where
      flat : (b : Base) → r.class.base ≡ b → (r.class.dims == 0) ≡ true
          → of_class classes from b (λ c. linked classes from c (right c) (found c)) ≡ Ok m → Linked r found right m
      flat (base.Class name) q z e =
          let p = in_class (class_named classes name) e in
          record {
            class = p.0;
            name = name;
            class_is = λ i. record { dims = eqb-true r.class.dims 0 z i; base = q i };
            named = p.1;
            member_is = p.2;
            rightly = p.3;
          }
      flat base.Boolean q z e = absurd cc
      flat base.Byte q z e = absurd cc
      flat base.Char q z e = absurd cc
      flat base.Short q z e = absurd cc
      flat base.Int q z e = absurd cc
      flat base.Long q z e = absurd cc
      flat base.Float q z e = absurd cc
      flat base.Double q z e = absurd cc

      by : (t : Bool) → (r.class.dims == 0) ≡ t
          → cond t (of_class classes from r.class.base (λ c. linked classes from c (right c) (found c)))
          (of_array classes from u r.class.base) ≡ Ok m → Linked r found right m
      by true z e = flat r.class.base refl z e
      by false z e = absurd (in_array u r.class.base e)

  abbrev pub FieldLinked : MemberRef → MemberAt → Type 0
  FieldLinked r m = Linked r (λ c. field_found classes c (r.name, r.ty)) (λ c. true) m

  abbrev pub MethodLinked : MemberRef → MemberAt → Type 0
  MethodLinked r m = Linked r (λ c. method_found classes c (r.name, r.ty))
      (λ c. beq (is_interface_in classes c) r.of_interface) m

  -- the class that the reference names
  pub class_of_link : (r : MemberRef) (found : ClassId → Option MemberAt) (right : ClassId → Bool) (m : MemberAt)
      (l : Linked r found right m) → class_of classes r ≡ Some l.class
  class_of_link r found right m l = by r.class l.class_is where
    by : (c : FieldType) → c ≡ class_type l.name
        → class_of classes (record { class = c; name = r.name; ty = r.ty; of_interface = r.of_interface })
        ≡ Some l.class
    by c e = subst (λ (d : FieldType).
        class_of classes (record { class = d; name = r.name; ty = r.ty; of_interface = r.of_interface })
        ≡ Some l.class) (sym e) l.named

  -- ---- what a reference breaks no rule by

  pub record Taken (r : Result MemberAt LinkKind) (of_member : MemberAt → List ProfileKind) : Type 0 where
    pub member : MemberAt
    pub linked : r ≡ Ok member
    pub callable : is_callable_role (role_at member) ≡ true
    pub rest : of_member member ≡ []

  pub is_taken : (r : Result MemberAt LinkKind) (of_member : MemberAt → List ProfileKind)
      → member_kinds r of_member ≡ [] → Taken r of_member
  is_taken (Ok m) of_member e =
      let p = nil_parts (unless (is_callable_role (role_at m)) LeftOutMember) (of_member m) e in
      record {
        member = m;
        linked = refl;
        callable = unbroken (is_callable_role (role_at m)) LeftOutMember p.0;
        rest =
            p.1;
      }
  is_taken (Err kind) of_member e = absurd cc

  -- a field
  pub record TakenField (static : Bool) (r : MemberRef) : Type 0 where
    pub typed : IsFieldTyped r
    pub member : MemberAt
    pub callable : is_callable_role (role_at member) ≡ true
    pub link : FieldLinked r member
    pub static_is : is_static_member classes member ≡ static

  same_bool : (a b : Bool) → beq a b ≡ true → a ≡ b
  same_bool true true h = refl
  same_bool false false h = refl
  same_bool true false h = absurd cc
  same_bool false true h = absurd cc

  static_is : (static : Bool) (m : MemberAt) → static_kinds classes static m ≡ []
      → is_static_member classes m ≡ static
  static_is static m h = same_bool (is_static_member classes m) static
      (unbroken (beq (is_static_member classes m) static) WrongKind h)

  pub field_taken : (method : List ℕ) (static written : Bool) (r : MemberRef) → IsFieldText r.ty
      → field_kinds classes number method static written r ≡ [] → TakenField static r
  field_taken method static written r d h =
      let p = nil_parts (field_text_kinds classes number (read_field r.ty))
      (member_kinds (linked_field classes from r) (used_kinds classes number method static written)) h in
      let m = is_taken (linked_field classes from r) (used_kinds classes number method static written) p.1 in
      record {
        typed = field_typed r d p.0;
        member = m.member;
        callable = m.callable;
        link = in_type (λ c. field_found classes c (r.name, r.ty)) (λ c. true) m.member r true m.linked;
        static_is = static_is static m.member (nil_parts (static_kinds classes static m.member) _ m.rest).0;
      }

  -- a method
  pub record TakenMethod (static : Bool) (r : MemberRef) : Type 0 where
    pub typed : IsMethodTyped r
    pub member : MemberAt
    pub linked : linked_method classes from r ≡ Ok member
    pub callable : is_callable_role (role_at member) ≡ true
    pub link : MethodLinked r member
    pub static_is : is_static_member classes member ≡ static

  pub method_taken : (static : Bool) (r : MemberRef) → IsMethodText r.ty → call_kinds classes number static r ≡ []
      → TakenMethod static r
  method_taken static r d h =
      let p = nil_parts (method_text_kinds classes number (read_method r.ty)
      ++ unless (not (is_text r.name (codes "<clinit>"))) WrongKind)
      (member_kinds (linked_method classes from r) (static_kinds classes static)) h in
      let q = nil_parts (method_text_kinds classes number (read_method r.ty))
      (unless (not (is_text r.name (codes "<clinit>"))) WrongKind) p.0 in
      let m = is_taken (linked_method classes from r) (static_kinds classes static) p.1 in
      record {
        typed = method_typed r d q.0;
        member = m.member;
        linked = m.linked;
        callable = m.callable;
        link = in_type (λ c. method_found classes c (r.name, r.ty))
            (λ c. beq (is_interface_in classes c) r.of_interface)
            m.member r (not r.of_interface) m.linked;
        static_is = static_is static m.member m.rest;
      }
