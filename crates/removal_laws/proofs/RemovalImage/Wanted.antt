-- What is wanted and named is kept.
use Rattle.std.proofs.Common.{◌≡◌, ℕ, ◌+◌, length, Bool, true, false, cond, List, [], ◌++◌, Some, None}
use Rattle.std.proofs.Common.{slice_get, subst}
use Rattle.std.specs.Prelude.{IfSome}
use Rattle.std.specs.List.{AllByRecursion, cons_option, flat_map}
use Rattle.std.specs.Option.{option_map, option_map_or}
use Rattle.jv_base.specs.Descriptors.{read_field, read_method}
use Rattle.jv_base.specs.declared.types.Base.{Base}
use Rattle.jv_base.specs.declared.types.Base.TheVariants as base
use Rattle.jv_base.proofs.Lists.{all_split}
use Rattle.mark_core.specs.Marks.{Closed}
use Rattle.class_model.specs.declared.class.Class.{Class}
use Rattle.class_model.specs.declared.class.Method.{Method}
use Rattle.class_model.specs.declared.code.Code.{Code}
use Rattle.class_model.specs.declared.code.Ins.{Ins}
use Rattle.class_model.specs.declared.op.MemberRef.{MemberRef}
use Rattle.class_pool.specs.Found.{NameAndType}
use Rattle.class_pool.specs.Hierarchy.{IsClass, class_named}
use Rattle.class_pool.specs.Items.{class_item}
use Rattle.class_pool.specs.declared.id.ClassId.{ClassId}
use Rattle.class_pool.specs.declared.id.ClassId.TheVariants.{Prog}
use Rattle.class_pool.specs.declared.id.MemberAt.{MemberAt}
use Rattle.class_pool.proofs.Declaring.{named_there}
use Rattle.link_check.specs.Links.{callable, linked_field, linked_method}
use Rattle.member_shrink.specs.Shrunk.{is_marked}
use Rattle.require_sys.specs.Requires.{Item, OfClass, OfMember, base_wants, code_wants, field_ref_wants}
use Rattle.require_sys.specs.Requires.{field_text_wants}
use Rattle.require_sys.specs.Requires.{frame_wants, handler_wants, method_ref_wants, method_text_wants}
use Rattle.require_sys.specs.Requires.{method_type_wants, name_wants, op_wants, requires, resolved_wants, throws_wants}
use Rattle.require_sys.specs.declared.kept.KeptByRules.{KeptByRules}
use Rattle.require_sys.proofs.Closing.{method_in}
use Rattle.image_laws.specs.ShrunkImage.Keeping.{is_class_kept, is_member_kept}
use Rattle.image_laws.proofs.ViewImage.Standing.{Stands}
use Rattle.removal_laws.proofs.RemovalImage.Links.{base_class}
use Rattle.removal_laws.proofs.RemovalImage.Marked.{ItemIn, class_kept, member_kept, stands_there}

module _ (classes : List Class) (rules : KeptByRules) (marks : List Bool)
    (closed : Closed (requires classes rules) (is_marked marks)) where
  abbrev pub In : Item → Type 0
  In item = ItemIn classes rules marks closed item

  abbrev pub AllIn : List Item → Type 0
  AllIn items = AllByRecursion In items

  -- the class of a name is kept
  pub name_kept : (name : List ℕ) (c : ClassId) → class_named classes name ≡ Some c → AllIn (name_wants classes name)
      → is_class_kept classes marks c ≡ true
  name_kept name c is all =
      class_kept classes rules marks closed c (subst (λ o. IfSome o (IsClass classes)) is (named_there classes name))
      (subst (λ o. AllIn (cons_option (option_map OfClass o) [])) is all).0

  -- so is that of a type without dimensions
  pub base_kept : (t : Bool) (b : Base) (c : ClassId) → cond t (base_class classes b) None ≡ Some c
      → AllIn (base_wants classes b) → is_class_kept classes marks c ≡ true
  base_kept true (base.Class name) c is all = name_kept name c is all
  base_kept true base.Boolean c is all = absurd cc
  base_kept true base.Byte c is all = absurd cc
  base_kept true base.Char c is all = absurd cc
  base_kept true base.Short c is all = absurd cc
  base_kept true base.Int c is all = absurd cc
  base_kept true base.Long c is all = absurd cc
  base_kept true base.Float c is all = absurd cc
  base_kept true base.Double c is all = absurd cc
  base_kept false b c is all = absurd cc

  -- and the member that a reference leads to
  pub found_kept : (n : NameAndType) (m : MemberAt) → Stands classes n m → In (OfMember m)
      → is_member_kept classes marks m ≡ true
  found_kept n m stands h =
      member_kept classes rules marks closed m (stands_there classes rules marks closed n m stands) h

  module _ (n : ℕ) where
    -- what is wanted of a reference to a field: its class, what its descriptor names, and the field
    pub field_parts : (r : MemberRef) → AllIn (field_ref_wants classes n r)
        → AllIn (base_wants classes r.class.base) × AllIn (field_text_wants classes (read_field r.ty))
        × AllIn (resolved_wants classes (callable classes (Prog n) (linked_field classes (Prog n) r)))
    field_parts r all =
        let one = all_split In (base_wants classes r.class.base) (field_text_wants classes (read_field r.ty)
        ++ resolved_wants classes (callable classes (Prog n) (linked_field classes (Prog n) r))) all in
        let two = all_split In (field_text_wants classes (read_field r.ty))
        (resolved_wants classes (callable classes (Prog n) (linked_field classes (Prog n) r))) one.1 in
        (one.0, two.0, two.1)

    pub method_parts : (r : MemberRef) → AllIn (method_ref_wants classes n r)
        → AllIn (base_wants classes r.class.base) × AllIn (method_text_wants classes (read_method r.ty))
        × AllIn (resolved_wants classes (callable classes (Prog n) (linked_method classes (Prog n) r)))
    method_parts r all =
        let one = all_split In (base_wants classes r.class.base) (method_text_wants classes (read_method r.ty)
        ++ resolved_wants classes (callable classes (Prog n) (linked_method classes (Prog n) r))) all in
        let two = all_split In (method_text_wants classes (read_method r.ty))
        (resolved_wants classes (callable classes (Prog n) (linked_method classes (Prog n) r))) one.1 in
        (one.0, two.0, two.1)

    -- what a marked method wants, part by part
    pub record MethodWants (c : Class) (m : Method) : Type 0 where
      pub typed : AllIn (method_type_wants classes m.ty)
      pub throws : AllIn (throws_wants classes rules m)
      pub code : AllIn (option_map_or (code_wants classes n) m.code [])

    pub wants_of_method : (c : Class) (k : ℕ) (m : Method) → slice_get classes n ≡ Some c
        → slice_get c.methods k ≡ Some m
        → is_marked marks (class_item classes n + 1 + (length c.fields + k)) ≡ true → MethodWants c m
    wants_of_method c k m is at marked =
        let wants = method_in classes rules (is_marked marks) closed n c is k m at marked in
        let one = all_split In (method_type_wants classes m.ty)
        (throws_wants classes rules m ++ option_map_or (code_wants classes n) m.code []) wants.1 in
        let two = all_split In (throws_wants classes rules m) (option_map_or (code_wants classes n) m.code []) one.1 in
        record { typed = one.0; throws = two.0; code = two.1 }

    -- and its code
    pub record CodeWants (code : Code) : Type 0 where
      pub instructions : AllIn (flat_map (λ (i : Ins). op_wants classes n i.op) code.ins)
      pub handlers : AllIn (flat_map (handler_wants classes) code.handlers)
      pub frames : AllIn (flat_map (frame_wants classes) code.frames)

    pub wants_of_code : (code : Code) → AllIn (code_wants classes n code) → CodeWants code
    wants_of_code code all =
        let one = all_split In (flat_map (λ (i : Ins). op_wants classes n i.op) code.ins)
        (flat_map (handler_wants classes) code.handlers ++ flat_map (frame_wants classes) code.frames) all in
        let two = all_split In (flat_map (handler_wants classes) code.handlers)
        (flat_map (frame_wants classes) code.frames) one.1 in
        record { instructions = one.0; handlers = two.0; frames = two.1 }
