-- What items of a set want is what they want of it without the codes of its methods. Each lemma is named after the
-- definition of which it says so.
use Rattle.std.proofs.Common.{◌≡◌, ℕ, zero, suc, ◌+◌, not, ◌&&◌, cond, List, [], ◌∷◌, ◌++◌, length}
use Rattle.std.proofs.Common.{map, take, Option, Some, None, Result, Ok, Err, refl, ap, ◌∙◌, codes, filter}
use Rattle.std.specs.Prelude.{◌==◌}
use Rattle.std.specs.List.{cons_option, enumerate_from, filter_map, flat_map, list_any, range_with_len}
use Rattle.std.specs.Option.{option_and_then, option_map, option_map_or}
use Rattle.jv_base.specs.Descriptors.{read_field, read_method}
use Rattle.jv_base.specs.declared.types.Base.{Base}
use Rattle.jv_base.specs.declared.types.Base.TheVariants as base
use Rattle.jv_base.specs.declared.types.FieldType.{FieldType}
use Rattle.jv_base.specs.declared.types.MethodType.{MethodType}
use Rattle.jv_base.specs.declared.descriptors.BadDescriptor.{BadDescriptor}
use Rattle.class_model.specs.Flags.{acc_private, is_interface}
use Rattle.class_model.specs.declared.class.Class.{Class}
use Rattle.class_model.specs.declared.code.Ins.{Ins}
use Rattle.class_model.specs.declared.frame.VType.{VType}
use Rattle.class_model.specs.declared.frame.VType.TheVariants as vtype
use Rattle.class_model.specs.declared.op.Op.{Op}
use Rattle.class_model.specs.declared.op.Op.TheVariants as op
use Rattle.class_pool.specs.Count.{item_count}
use Rattle.class_pool.specs.Found.{same_member}
use Rattle.class_pool.specs.Items.{class_item, item_in}
use Rattle.class_pool.specs.Supers.{is_below}
use Rattle.class_pool.specs.Walk.{each_once, same_class, supers}
use Rattle.class_pool.specs.declared.id.ClassId.{ClassId}
use Rattle.class_pool.specs.declared.id.ClassId.TheVariants.{Prog, Lib}
use Rattle.class_pool.specs.declared.id.MemberAt.{MemberAt}
use Rattle.link_check.specs.Links.{callable, resolved_field, resolved_method}
use Rattle.require_sys.specs.Requires.{Item, OfClass, OfMember, ascending, base_wants, class_needs, class_number, class_pairs}
use Rattle.require_sys.specs.Requires.{called_wants, class_wants, code_wants, field_ref_wants, field_text_wants, field_wants, is_program}
use Rattle.require_sys.specs.Requires.{initialisation_wants, instance_methods, is_inheritable, library_supers}
use Rattle.require_sys.specs.Requires.{members_of, method_ref_wants, method_text_wants, method_type_wants, method_wants, methods_above, name_wants}
use Rattle.require_sys.specs.Requires.{needs_of, number_of, op_wants, pair_from, pair_of, program_supers, resolved_wants, rule_wants}
use Rattle.require_sys.specs.Requires.{seeds_of, special_wants, super_wants, throws_wants, type_wants, verification_wants}
use Rattle.require_sys.specs.declared.kept.KeptByRules.{KeptByRules}
use Rattle.shape_laws.specs.Bare.{bare}
use Rattle.shape_laws.proofs.Alike as alike
use Rattle.shape_laws.proofs.BareSets.{bare_keeps}
use Rattle.swap_laws.proofs.Referring as refers
use Rattle.swap_laws.proofs.LinkKinds as kinds
use Rattle.swap_laws.proofs.Taken.{items_same}

take_bare : (n : ℕ) (cs : List Class) → take n (map bare cs) ≡ map bare (take n cs)
take_bare zero cs = refl
take_bare (suc n) [] = refl
take_bare (suc n) (c ∷ cs) = ap (λ (ds : List Class). bare c ∷ ds) (take_bare n cs)

numbered : (k : ℕ) (cs : List Class)
    → map (λ (p : ℕ × Class). Prog p.0) (enumerate_from k (map bare cs))
    ≡ map (λ (p : ℕ × Class). Prog p.0) (enumerate_from k cs)
numbered k [] = refl
numbered k (c ∷ cs) = ap (λ (xs : List ClassId). Prog k ∷ xs) (numbered (k + 1) cs)

module _ (s : List Class) where
  abbrev t : List Class
  t = map bare s

  pub class_item_is : class_item t ≡ class_item s
  class_item_is = λ i n. (ap item_count (take_bare n s) ∙ items_same (take n s)) i

  pub item_in_is : (x : ClassId) (k : ℕ) → item_in t x k ≡ item_in s x k
  item_in_is (Prog n) k = λ i. Some (class_item_is i n + 1 + k)
  item_in_is (Lib id) k = refl

  class_number_is : (x : ClassId) → class_number t x ≡ class_number s x
  class_number_is (Prog n) = λ i. Some (class_item_is i n)
  class_number_is (Lib id) = refl

  number_of_is : (x : Item) → number_of t x ≡ number_of s x
  number_of_is (OfClass x) = class_number_is x
  number_of_is (OfMember m) = item_in_is m.class m.index

  needs_of_is : needs_of t ≡ needs_of s
  needs_of_is = λ i own wants. filter (λ x. not (x == own)) (ascending (filter_map (λ w. number_of_is w i) wants))

  pub seeds_of_is : (kept : KeptByRules) → seeds_of t kept ≡ seeds_of s kept
  seeds_of_is kept = λ i. cond kept.shrink kept.seeds (range_with_len 0 (items_same s i))

  name_wants_is : name_wants t ≡ name_wants s
  name_wants_is = λ i name. cons_option (option_map OfClass (alike.class_named_is bare bare_keeps s i name)) []

  super_wants_is : super_wants t ≡ super_wants s
  super_wants_is = λ i c. flat_map (name_wants_is i) (c.super_name ∷ c.interfaces)

  initialisation_wants_is : initialisation_wants t ≡ initialisation_wants s
  initialisation_wants_is = λ i n.
      cons_option (option_map OfMember (alike.declared_in_is bare bare_keeps s i (codes "<clinit>", codes "()V") (Prog n))) []

  members_of_is : members_of t ≡ members_of s
  members_of_is = λ i x. map (λ p. record { class = x; index = p.0 }) (enumerate_from 0 (alike.rows_in_is bare bare_keeps s i x))

  instance_methods_is : instance_methods t ≡ instance_methods s
  instance_methods_is = λ i xs. filter (alike.is_instance_method_is bare bare_keeps s i) (flat_map (members_of_is i) xs)

  supers_is : supers t ≡ supers s
  supers_is = λ i x. each_once (x ∷ []) (alike.superclasses_from_is bare bare_keeps s i x ++ alike.superinterfaces_is bare bare_keeps s i x)

  library_supers_is : library_supers t ≡ library_supers s
  library_supers_is = λ i x. filter (λ y. not (is_program y)) (supers_is i x)

  called_wants_is : called_wants t ≡ called_wants s
  called_wants_is = λ i n c. cond (is_interface c.flags.0) []
      (filter_map (λ m. option_map OfMember (alike.selected_is bare bare_keeps s i (Prog n) m))
      (instance_methods_is i (library_supers_is i (Prog n))))

  class_wants_is : class_wants t ≡ class_wants s
  class_wants_is = λ i kept n c.
      super_wants_is i c ++ (initialisation_wants_is i n ++ (rule_wants s kept n ++ called_wants_is i n c))

  base_wants_at : (ty : Base) → base_wants t ty ≡ base_wants s ty
  base_wants_at (base.Class name) = λ i. name_wants_is i name
  base_wants_at ty = refl

  type_wants_is : type_wants t ≡ type_wants s
  type_wants_is = λ i ty. base_wants_at ty.base i

  method_type_wants_is : method_type_wants t ≡ method_type_wants s
  method_type_wants_is = λ i ty. flat_map (type_wants_is i) (cons_option ty.ret ty.args)

  field_wants_is : field_wants t ≡ field_wants s
  field_wants_is = λ i n f. OfClass (Prog n) ∷ type_wants_is i f.ty

  field_text_wants_at : (r : Result FieldType BadDescriptor) → field_text_wants t r ≡ field_text_wants s r
  field_text_wants_at (Ok ty) = λ i. type_wants_is i ty
  field_text_wants_at (Err bad) = refl

  method_text_wants_at : (r : Result MethodType BadDescriptor) → method_text_wants t r ≡ method_text_wants s r
  method_text_wants_at (Ok ty) = λ i. method_type_wants_is i ty
  method_text_wants_at (Err bad) = refl

  throws_wants_is : throws_wants t ≡ throws_wants s
  throws_wants_is = λ i kept m. cond kept.exceptions (flat_map (name_wants_is i) m.throws) []

  resolved_field_is : resolved_field t ≡ resolved_field s
  resolved_field_is = λ i from r. callable s from (refers.linked_field_is s i from r)

  resolved_method_is : resolved_method t ≡ resolved_method s
  resolved_method_is = λ i from r. callable s from (refers.linked_method_is s i from r)

  module _ (n : ℕ) where
    field_ref_wants_is : field_ref_wants t n ≡ field_ref_wants s n
    field_ref_wants_is = λ i r. base_wants_at r.class.base i
        ++ (field_text_wants_at (read_field r.ty) i ++ resolved_wants s (resolved_field_is i (Prog n) r))

    method_ref_wants_is : method_ref_wants t n ≡ method_ref_wants s n
    method_ref_wants_is = λ i r. base_wants_at r.class.base i
        ++ (method_text_wants_at (read_method r.ty) i ++ resolved_wants s (resolved_method_is i (Prog n) r))

    special_wants_at : (o : Option ClassId) (r : Result MemberAt _) → special_wants t n o r ≡ special_wants s n o r
    special_wants_at (Some named) (Ok m) = λ i.
        cons_option (option_map OfMember (alike.selected_special_is bare bare_keeps s i (Prog n) named m)) []
    special_wants_at (Some named) (Err kind) = refl
    special_wants_at None r = refl

    op_wants_at : (o : Op) → op_wants t n o ≡ op_wants s n o
    op_wants_at (op.GetStatic r) = λ i. field_ref_wants_is i r
    op_wants_at (op.PutStatic r) = λ i. field_ref_wants_is i r
    op_wants_at (op.GetField r) = λ i. field_ref_wants_is i r
    op_wants_at (op.PutField r) = λ i. field_ref_wants_is i r
    op_wants_at (op.InvokeVirtual r) = λ i. method_ref_wants_is i r
    op_wants_at (op.InvokeSpecial r) = λ i. method_ref_wants_is i r
        ++ special_wants_at (kinds.class_of_is s i r) (resolved_method_is i (Prog n) r) i
    op_wants_at (op.InvokeStatic r) = λ i. method_ref_wants_is i r
    op_wants_at (op.InvokeInterface r) = λ i. method_ref_wants_is i r
    op_wants_at (op.New name) = λ i. name_wants_is i name
    op_wants_at (op.ANewArray ty) = λ i. type_wants_is i ty
    op_wants_at (op.CheckCast ty) = λ i. type_wants_is i ty
    op_wants_at (op.InstanceOf ty) = λ i. type_wants_is i ty
    op_wants_at (op.MultiNewArray ty dimensions) = λ i. type_wants_is i ty
    op_wants_at o = refl

    verification_wants_at : (ty : VType) → verification_wants t ty ≡ verification_wants s ty
    verification_wants_at (vtype.Object ty) = λ i. type_wants_is i ty
    verification_wants_at ty = refl

    code_wants_is : code_wants t n ≡ code_wants s n
    code_wants_is = λ i code. flat_map (λ (j : Ins). op_wants_at j.op i) code.ins
        ++ (flat_map (λ h. option_map_or (name_wants_is i) h.caught []) code.handlers
        ++ flat_map (λ f. flat_map (λ ty. verification_wants_at ty i) (f.frame.locals ++ f.frame.stack)) code.frames)

    method_wants_is : method_wants t n ≡ method_wants s n
    method_wants_is = λ i kept m. OfClass (Prog n)
        ∷ (method_type_wants_is i m.ty ++ (throws_wants_is i kept m ++ option_map_or (code_wants_is i) m.code []))

  pub class_needs_is : (kept : KeptByRules) → class_needs t kept ≡ class_needs s kept
  class_needs_is kept = λ i p. needs_of_is i (class_item_is i p.0) (class_wants_is i kept p.0 p.1)
      ∷ (map (λ q. needs_of_is i (class_item_is i p.0 + 1 + q.0) (field_wants_is i p.0 q.1)) (enumerate_from 0 p.1.fields)
      ++ map (λ q. needs_of_is i (class_item_is i p.0 + 1 + q.0) (method_wants_is p.0 i kept q.1))
      (enumerate_from (length p.1.fields) p.1.methods))

  -- ---- pairs

  is_below_is : is_below t ≡ is_below s
  is_below_is = λ i x y. list_any (same_class y) (alike.superclasses_from_is bare bare_keeps s i x ++ alike.superinterfaces_is bare bare_keeps s i x)

  program_supers_is : program_supers t ≡ program_supers s
  program_supers_is = λ i x. filter (λ y. is_below_is i x y && not (same_class x y)) (numbered 0 s i)

  is_inheritable_is : is_inheritable t ≡ is_inheritable s
  is_inheritable_is = λ i m. alike.is_instance_method_is bare bare_keeps s i m && not (alike.has_flag_is bare bare_keeps s i acc_private m)

  methods_above_is : methods_above t ≡ methods_above s
  methods_above_is = λ i x. filter (is_inheritable_is i) (flat_map (members_of_is i) (program_supers_is i x))

  pair_of_is : pair_of t ≡ pair_of s
  pair_of_is = λ i x m n. cond (same_member n m) None
      (pair_from s (class_number_is x i) (item_in_is m.class m.index i) (item_in_is n.class n.index i))

  pub class_pairs_is : class_pairs t ≡ class_pairs s
  class_pairs_is = λ i p. cond (is_interface p.1.flags.0) []
      (filter_map (λ m. option_and_then (pair_of_is i (Prog p.0) m) (alike.selected_is bare bare_keeps s i (Prog p.0) m))
      (methods_above_is i (Prog p.0)))
