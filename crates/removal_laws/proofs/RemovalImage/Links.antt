-- References that are linked, in parts: the class that is named, the member that is found through it, and access.
use Rattle.std.proofs.Common.{◌≡◌, not, Bool, true, false, cond, List, [], ◌++◌, Option, Some, None}
use Rattle.std.proofs.Common.{Result}
use Rattle.std.proofs.Common.{Ok, Err, refl, sym, ap, ◌∙◌}
use Rattle.std.specs.Bool.{beq}
use Rattle.std.specs.Prelude.{◌==◌}
use Rattle.jv_base.specs.declared.types.Base.{Base}
use Rattle.jv_base.specs.declared.types.Base.TheVariants as base
use Rattle.class_model.specs.declared.class.Class.{Class}
use Rattle.class_model.specs.declared.op.MemberRef.{MemberRef}
use Rattle.class_pool.specs.Found.{role_at}
use Rattle.class_pool.specs.Hierarchy.{class_named}
use Rattle.class_pool.specs.Resolution.{field_found, is_class_accessible, is_interface_in, is_member_accessible}
use Rattle.class_pool.specs.Resolution.{method_found}
use Rattle.class_pool.specs.declared.id.ClassId.{ClassId}
use Rattle.class_pool.specs.declared.id.MemberAt.{MemberAt}
use Rattle.link_check.specs.Links.{is_callable_role, linked, linked_field, linked_method, of_array, of_class}
use Rattle.link_check.specs.Links.{callable, through}
use Rattle.link_check.specs.Profile.{class_of, member_kinds, unless}
use Rattle.link_check.specs.declared.fault.LinkKind.{LinkKind}
use Rattle.link_check.specs.declared.fault.LinkKind.TheVariants as link
use Rattle.link_check.specs.declared.fault.ProfileKind.{ProfileKind}
use Rattle.link_check.specs.declared.fault.ProfileKind.TheVariants.{LeftOutMember}

-- the class that a type without dimensions names
abbrev pub base_class : List Class → Base → Option ClassId
base_class classes (base.Class name) = class_named classes name
base_class classes _ = None

-- what a class finds by the name of a reference
abbrev pub fields_of : List Class → MemberRef → ClassId → Option MemberAt
fields_of classes r c = field_found classes c (r.name, r.ty)

abbrev pub methods_of : List Class → MemberRef → ClassId → Option MemberAt
methods_of classes r c = method_found classes c (r.name, r.ty)

-- a reference leads to a member: its class is there and accessible, and so is the member that the class finds
pub record Link (classes : List Class) (from : ClassId) (o : Option ClassId) (found : ClassId → Option MemberAt)
    (right : ClassId → Bool) (m : MemberAt) : Type 0 where
  pub class : ClassId
  pub class_is : o ≡ Some class
  pub accessible : is_class_accessible classes from class ≡ true
  pub member_is : found class ≡ Some m
  pub member_accessible : is_member_accessible classes from class m ≡ true
  pub rightly : right class ≡ true

module _ (classes : List Class) (from : ClassId) (found : ClassId → Option MemberAt) (right : ClassId → Bool)
    (m : MemberAt) where
  -- ---- into parts

  at_class : (c : ClassId) → is_class_accessible classes from c ≡ true
      → linked classes from c (right c) (found c) ≡ Ok m → Link classes from (Some c) found right m
  at_class c open_class e = by (found c) refl e
    where
      tests : (z : MemberAt) → found c ≡ Some z → (s : Bool) → is_member_accessible classes from c z ≡ s → (t : Bool)
          → right c ≡ t → cond (not s) (Err link.Inaccessible) (cond t (Ok z) (Err link.WrongKind)) ≡ Ok m
          → Link classes from (Some c) found right m
      tests z is true s true t e =
          let q : z ≡ m = cc in
          record {
            class = c;
            class_is = refl;
            accessible = open_class;
            member_is = is ∙ ap (λ (y : MemberAt). Some y) q;
            member_accessible = ap (is_member_accessible classes from c) (sym q) ∙ s;
            rightly = t;
          }
      tests z is true s false t e = absurd cc
      tests z is false s t u e = absurd cc

      by : (o : Option MemberAt) → found c ≡ o → linked classes from c (right c) o ≡ Ok m
          → Link classes from (Some c) found right m
      by None is e = absurd cc
      by (Some z) is e = tests z is (is_member_accessible classes from c z) refl (right c) refl e

  in_class : (o : Option ClassId)
      → through classes from o (λ c. linked classes from c (right c) (found c)) ≡ Ok m
      → Link classes from o found right m
  in_class None e = absurd cc
  in_class (Some c) e = by (is_class_accessible classes from c) refl e
    where
      by : (t : Bool) → is_class_accessible classes from c ≡ t
          → cond t (linked classes from c (right c) (found c)) (Err link.Inaccessible) ≡ Ok m
          → Link classes from (Some c) found right m
      by true k e = at_class c k e
      by false k e = absurd cc

  in_base : (b : Base) → of_class classes from b (λ c. linked classes from c (right c) (found c)) ≡ Ok m
      → Link classes from (base_class classes b) found right m
  in_base (base.Class name) e = in_class (class_named classes name) e
  in_base base.Boolean e = absurd cc
  in_base base.Byte e = absurd cc
  in_base base.Char e = absurd cc
  in_base base.Short e = absurd cc
  in_base base.Int e = absurd cc
  in_base base.Long e = absurd cc
  in_base base.Float e = absurd cc
  in_base base.Double e = absurd cc

  -- no member of an array is linked
  in_array : (t : Bool) (b : Base) → of_array classes from t b ≡ Ok m → ⊥
  in_array t (base.Class name) e = by (class_named classes name) e
    where
      wrong : (u : Bool) → cond u (Err link.LeftOutMember) (Err link.WrongKind) ≡ Ok m → ⊥
      wrong true e = cc
      wrong false e = cc

      at : (u : Bool) → cond u (cond t (Err link.LeftOutMember) (Err link.WrongKind)) (Err link.Inaccessible) ≡ Ok m
          → ⊥
      at true e = wrong t e
      at false e = cc

      by : (o : Option ClassId)
          → through classes from o (λ c. cond t (Err link.LeftOutMember) (Err link.WrongKind)) ≡ Ok m → ⊥
      by None e = cc
      by (Some c) e = at (is_class_accessible classes from c) e
  in_array true base.Boolean e = cc
  in_array true base.Byte e = cc
  in_array true base.Char e = cc
  in_array true base.Short e = cc
  in_array true base.Int e = cc
  in_array true base.Long e = cc
  in_array true base.Float e = cc
  in_array true base.Double e = cc
  in_array false base.Boolean e = cc
  in_array false base.Byte e = cc
  in_array false base.Char e = cc
  in_array false base.Short e = cc
  in_array false base.Int e = cc
  in_array false base.Long e = cc
  in_array false base.Float e = cc
  in_array false base.Double e = cc

  in_type : (t u : Bool) (b : Base)
      → cond t (of_class classes from b (λ c. linked classes from c (right c) (found c)))
      (of_array classes from u b) ≡ Ok m
      → Link classes from (cond t (base_class classes b) None) found right m
  in_type true u b e = in_base b e
  in_type false u b e = absurd (in_array u b e)

  -- ---- and from parts

  put : (c : ClassId) → is_class_accessible classes from c ≡ true → found c ≡ Some m
      → is_member_accessible classes from c m ≡ true → right c ≡ true
      → through classes from (Some c) (λ c. linked classes from c (right c) (found c)) ≡ Ok m
  put c k is l r =
      ap (λ (t : Bool). cond t (linked classes from c (right c) (found c)) (Err link.Inaccessible)) k
      ∙ ap (λ o. linked classes from c (right c) o) is
      ∙ ap (λ (t : Bool). cond (not t) (Err link.Inaccessible) (cond (right c) (Ok m) (Err link.WrongKind))) l
      ∙ ap (λ (t : Bool). cond t (Ok m) (Err link.WrongKind)) r

  to_type : (t u : Bool) (b : Base) (c : ClassId) → cond t (base_class classes b) None ≡ Some c
      → is_class_accessible classes from c ≡ true → found c ≡ Some m
      → is_member_accessible classes from c m ≡ true → right c ≡ true
      → cond t (of_class classes from b (λ c. linked classes from c (right c) (found c)))
      (of_array classes from u b) ≡ Ok m
  to_type true u (base.Class name) c e k is l r =
      ap (λ o. through classes from o (λ c. linked classes from c (right c) (found c))) e ∙ put c k is l r
  to_type true u base.Boolean c e k is l r = absurd cc
  to_type true u base.Byte c e k is l r = absurd cc
  to_type true u base.Char c e k is l r = absurd cc
  to_type true u base.Short c e k is l r = absurd cc
  to_type true u base.Int c e k is l r = absurd cc
  to_type true u base.Long c e k is l r = absurd cc
  to_type true u base.Float c e k is l r = absurd cc
  to_type true u base.Double c e k is l r = absurd cc
  to_type false u b c e k is l r = absurd cc

abbrev pub FieldLink : List Class → ClassId → MemberRef → MemberAt → Type 0
FieldLink classes from r m = Link classes from (class_of classes r) (fields_of classes r) (λ c. true) m

abbrev pub MethodLink : List Class → ClassId → MemberRef → MemberAt → Type 0
MethodLink classes from r m = Link classes from (class_of classes r) (methods_of classes r)
    (λ c. beq (is_interface_in classes c) r.of_interface) m

pub field_link : (classes : List Class) (from : ClassId) (r : MemberRef) (m : MemberAt)
    → linked_field classes from r ≡ Ok m → FieldLink classes from r m
field_link classes from r m e =
    in_type classes from (fields_of classes r) (λ c. true) m (r.class.dims == 0) true r.class.base e

pub method_link : (classes : List Class) (from : ClassId) (r : MemberRef) (m : MemberAt)
    → linked_method classes from r ≡ Ok m → MethodLink classes from r m
method_link classes from r m e =
    in_type classes from (methods_of classes r) (λ c. beq (is_interface_in classes c) r.of_interface) m
    (r.class.dims == 0) (not r.of_interface) r.class.base e

pub field_from : (classes : List Class) (from : ClassId) (r : MemberRef) (m : MemberAt) → FieldLink classes from r m
    → linked_field classes from r ≡ Ok m
field_from classes from r m l =
    to_type classes from (fields_of classes r) (λ c. true) m (r.class.dims == 0) true r.class.base l.class l.class_is
    l.accessible l.member_is l.member_accessible refl

pub method_from : (classes : List Class) (from : ClassId) (r : MemberRef) (m : MemberAt) → MethodLink classes from r m
    → linked_method classes from r ≡ Ok m
method_from classes from r m l =
    to_type classes from (methods_of classes r) (λ c. beq (is_interface_in classes c) r.of_interface) m
    (r.class.dims == 0) (not r.of_interface) r.class.base l.class l.class_is l.accessible l.member_is
    l.member_accessible l.rightly

-- ---- references without a fault

-- such a reference is linked to a member that a program may name
pub record Taken (classes : List Class) (from : ClassId) (r : Result MemberAt LinkKind)
    (of_member : MemberAt → List ProfileKind) : Type 0 where
  pub member : MemberAt
  pub linked : r ≡ Ok member
  pub callable : callable classes from r ≡ Ok member
  pub rest : of_member member ≡ []

pub is_taken : (classes : List Class) (from : ClassId) (r : Result MemberAt LinkKind)
    (of_member : MemberAt → List ProfileKind) → member_kinds r of_member ≡ [] → Taken classes from r of_member
is_taken classes from (Ok m) of_member e = by (is_callable_role (role_at m)) refl e
  where
    by : (t : Bool) → is_callable_role (role_at m) ≡ t → unless t LeftOutMember ++ of_member m ≡ []
        → Taken classes from (Ok m) of_member
    by true is e = record {
      member = m;
      linked = refl;
      callable = ap (λ (t : Bool). cond t (Ok m) (Err link.LeftOutMember)) is;
      rest = e;
    }
    by false is e = absurd cc
is_taken classes from (Err kind) of_member e = absurd cc
