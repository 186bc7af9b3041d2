-- A set is the same program without optional attributes, but for the lines of its codes; so it does the same.
use Rattle.std.proofs.Common.{◌≡◌, ℕ, Bool, true, false, cond, List, [], ◌∷◌, ◌++◌, map, Option, Some}
use Rattle.std.proofs.Common.{None, slice_get, refl, sym, ap, subst, ◌∙◌}
use Rattle.std.specs.List.{AllZip}
use Rattle.std.specs.Option.{option_and_then, option_map}
use Rattle.std.proofs.lemmas.Option.{slice_get-map}
use Rattle.class_model.specs.declared.class.Class.{Class}
use Rattle.class_model.specs.declared.class.Field.{Field}
use Rattle.class_model.specs.declared.class.Method.{Method}
use Rattle.class_model.specs.declared.code.Code.{Code}
use Rattle.class_model.specs.declared.code.Handler.{Handler}
use Rattle.class_model.specs.declared.code.Ins.{Ins}
use Rattle.class_model.specs.declared.op.MemberRef.{MemberRef}
use Rattle.class_model.specs.declared.op.Op.{Op}
use Rattle.class_model.specs.declared.op.Op.TheVariants as op
use Rattle.class_pool.specs.declared.id.ClassId.{ClassId}
use Rattle.class_pool.specs.declared.id.ClassId.TheVariants.{Prog, Lib}
use Rattle.class_pool.specs.declared.id.MemberAt.{MemberAt}
use Rattle.attribute_filter.specs.Filtered.{code_kept, filtered, without_line}
use Rattle.attribute_filter.specs.Filtered.{without_lines}
use Rattle.attribute_filter.specs.declared.filter.AttributeFilter.{AttributeFilter}
use Rattle.jvm_model.specs.Fields.{blank, stored_in}
use Rattle.jvm_model.specs.Mapped.{CodeMap, HandlerMap, InsMap, Mapped, Mapping, OptionCorr, ShapeMap, TargetMap}
use Rattle.jvm_model.specs.Mapped.{op_map}
use Rattle.jvm_model.specs.Program.{Fails, Library, Program, Shape, Target}
use Rattle.jvm_model.specs.Same.{own_names}
use Rattle.jvm_model.specs.Types.{argument_kinds, field_kind}
use Rattle.jvm_model.specs.Value.{Key}
use Rattle.jvm_model.proofs.Side.{mapped_same}
use Rattle.jvm_model.proofs.Compose.{line_refl, zip_refl, own_base, own_type}
use Rattle.set_view.specs.ViewOf.{code_at, member_of, shape_of, told_in, view_of}
use Rattle.type_verifier.proofs.Lists.{append_map}
use Rattle.shape_laws.specs.KeepsMembers.{KeepsMembers}
use Rattle.shape_laws.proofs.Shape.{member_of_is, shape_of_is}
use Rattle.removal_laws.proofs.FilteredSet.Keeping.{filtered_keeps, map_map, told_lists}
use Rattle.removal_laws.specs.FilteredSame.Laws.{FilteringKeepsSame}

-- ---- each name stands for itself

abbrev own : Mapping
own = record { names = own_names; field_ref = λ r. Some r; method_ref = λ r. Some r; special_ref = λ from r. Some r }

one : {A : Type 0} (x y : A) → Some x ≡ Some y → x ≡ y
one x y e = cc

target_itself : (t : Target) → TargetMap own_names t t
target_itself (Program k) = (k, refl, refl)
target_itself (Library row) = refl
target_itself (Fails exception) = refl

corr_itself : {A : Type 0} (R : A → A → Type 0) → ((x : A) → R x x) → (o : Option A) → OptionCorr R o o
corr_itself R h None = refl
corr_itself R h (Some x) = (x, refl, h x)

shape_itself : (p : Shape) → ShapeMap own p p
shape_itself p = record {
  one_class = λ a b c e f. one a c e ∙ sym (one b c f);
  one_field = λ a b c e f. one a c e ∙ sym (one b c f);
  own_class = λ c e. refl;
  own_field = refl;
  field_class = λ k l e. ap (λ (z : Key). Some z.class) (one k l e);
  method_class = λ k l e. ap (λ (z : Key). Some z.class) (one k l e);
  field_default = λ k l e. ap blank (sym (one k l e));
  field_stored = λ k l e v. ap (λ (z : Key). stored_in z v) (sym (one k l e));
  field_kind = λ r s e. ap (λ (z : MemberRef). field_kind z.ty) (sym (one r s e));
  method_kinds = λ r s e. ap (λ (z : MemberRef). argument_kinds z.ty) (sym (one r s e));
  special_kinds = λ c r s e. ap (λ (z : MemberRef). argument_kinds z.ty) (sym (one r s e));
  field = λ r s e. subst (λ (z : MemberRef). OptionCorr (λ k l. Some k ≡ Some l) (p.field r) (p.field z)) (one r s e)
      (corr_itself (λ k l. Some k ≡ Some l) (λ k. refl) (p.field r));
  static_target = λ r s e. subst (λ (z : MemberRef). OptionCorr (TargetMap own_names) (p.static_target r)
      (p.static_target z)) (one r s e) (corr_itself (TargetMap own_names) target_itself (p.static_target r));
  special_target = λ c d r s f e. subst (λ (y : List ℕ). OptionCorr (TargetMap own_names) (p.special_target c r)
      (p.special_target y s)) (one c d f)
      (subst (λ (z : MemberRef). OptionCorr (TargetMap own_names) (p.special_target c r) (p.special_target c z))
      (one r s e)
      (corr_itself (TargetMap own_names) target_itself (p.special_target c r)));
  selected_target = λ c d r s f e. subst (λ (y : List ℕ). OptionCorr (TargetMap own_names) (p.selected_target c r)
      (p.selected_target y s)) (one c d f)
      (subst (λ (z : MemberRef). OptionCorr (TargetMap own_names) (p.selected_target c r) (p.selected_target c z))
      (one r s e) (corr_itself (TargetMap own_names) target_itself (p.selected_target c r)));
  array_target = λ r s e. subst (λ (z : MemberRef). OptionCorr (TargetMap own_names) (p.array_target r)
      (p.array_target z)) (one r s e) (corr_itself (TargetMap own_names) target_itself (p.array_target r));
  is_sub = λ a b c d e f. sym (ap (λ (y : List ℕ). p.is_sub y b) (one a c e) ∙ ap (p.is_sub c) (one b d f));
  is_library = λ c d e. ap p.is_library (sym (one c d e));
  firsts = λ c d e. subst (λ (y : List ℕ). AllZip (λ x z. Some x ≡ Some z) (p.firsts c) (p.firsts y)) (one c d e)
      (zip_refl (λ x z. Some x ≡ Some z) (λ x. refl) (p.firsts c));
  clinit = λ c d e. subst (λ (y : List ℕ). OptionCorr (λ k l. Some k ≡ Some l) (p.clinit c) (p.clinit y)) (one c d e)
      (corr_itself (λ k l. Some k ≡ Some l) (λ k. refl) (p.clinit c));
  constant = λ k l e. ap p.constant (sym (one k l e));
}

-- ---- codes

op_own : (from : List ℕ) (o : Op) → op_map own from o ≡ Some o
op_own from (op.NewArray ty) = ap (option_map op.NewArray) (own_base ty)
op_own from (op.ANewArray ty) = ap (option_map op.ANewArray) (own_type ty)
op_own from (op.CheckCast ty) = ap (option_map op.CheckCast) (own_type ty)
op_own from (op.InstanceOf ty) = ap (option_map op.InstanceOf) (own_type ty)
op_own from (op.MultiNewArray ty n) = ap (option_map (λ u. op.MultiNewArray u n)) (own_type ty)
op_own from o = refl

handler_own : (h : Handler) → HandlerMap own h h
handler_own h = record {
  places = (refl, refl, refl);
  caught = corr_itself (λ c d. Some c ≡ Some d) (λ c. refl) h.caught;
}

code_own : (from : List ℕ) (code : Code) → CodeMap own from code code
code_own from code = record {
  ins = zip_refl (InsMap own from) (λ j. record { op = op_own from j.op; line = line_refl j.line }) code.ins;
  handlers = zip_refl (HandlerMap own) handler_own code.handlers;
}

code_bare : (from : List ℕ) (code : Code) → CodeMap own from code (without_lines code)
code_bare from code = record {
  ins = each code.ins;
  handlers = zip_refl (HandlerMap own) handler_own code.handlers;
}
  where
    each : (js : List Ins) → AllZip (InsMap own from) js (map without_line js)
    each [] = tt
    each (j ∷ js) = (record { op = op_own from j.op; line = tt }, each js)

-- a code is kept, or goes on without lines
code_corr : (filter_by : AttributeFilter) (from : List ℕ) (o : Option Code)
    → OptionCorr (CodeMap own from) o (code_kept filter_by o)
code_corr filter_by from o = by filter_by.line_numbers o
  where
    by : (t : Bool) (o : Option Code) → OptionCorr (CodeMap own from) o (cond t o (option_map without_lines o))
    by true o = corr_itself (CodeMap own from) (code_own from) o
    by false None = refl
    by false (Some code) = (without_lines code, refl, code_bare from code)

-- ---- what is told of members

kept_none : (filter_by : AttributeFilter) → code_kept filter_by None ≡ None
kept_none filter_by = by filter_by.line_numbers
  where
    by : (t : Bool) → cond t None (option_map without_lines None) ≡ None
    by true = refl
    by false = refl

-- the codes of the members of a class
abbrev no_code : Field → Option Code
no_code f = None

abbrev codes_of : Class → List (Option Code)
codes_of c = map no_code c.fields ++ map (λ (m : Method). m.code) c.methods

abbrev code_of : ℕ → Class → Option Code
code_of index c = option_and_then (λ x. x) (slice_get (codes_of c) index)

module _ (filter_by : AttributeFilter) (a : List Class) where
  abbrev filters : Class → Class
  filters = filtered filter_by

  abbrev keeps : KeepsMembers filters
  keeps = filtered_keeps filter_by

  abbrev b : List Class
  b = map filters a

  codes_kept : (c : Class) → codes_of (filtered filter_by c) ≡ map (code_kept filter_by) (codes_of c)
  codes_kept c =
      told_lists filter_by no_code no_code (λ m. m.code) (λ m. code_kept filter_by m.code) (λ f. refl) (λ m. refl) c
      ∙ sym (append_map (code_kept filter_by) (map no_code c.fields) (map (λ (m : Method). m.code) c.methods)
      ∙ ap (λ (t : List (Option Code)). t ++ map (code_kept filter_by) (map (λ (m : Method). m.code) c.methods))
      (map_map no_code (code_kept filter_by) no_code (λ f. kept_none filter_by) c.fields)
      ∙ ap (λ (t : List (Option Code)). map no_code c.fields ++ t)
      (map_map (λ (m : Method). m.code) (code_kept filter_by) (λ (m : Method). code_kept filter_by m.code)
      (λ m. refl) c.methods))

  code_in : (x : ClassId) (index : ℕ)
      → told_in b no_code (λ (m : Method). m.code) x index
      ≡ code_kept filter_by (told_in a no_code (λ (m : Method). m.code) x index)
  code_in (Lib id) index = sym (kept_none filter_by)
  code_in (Prog n) index = ap (option_and_then (code_of index)) (slice_get-map filters a n) ∙ by (slice_get a n)
    where
      flat : (o : Option (Option Code))
          → option_and_then (λ x. x) (option_map (code_kept filter_by) o)
          ≡ code_kept filter_by (option_and_then (λ x. x) o)
      flat None = sym (kept_none filter_by)
      flat (Some x) = refl

      by : (o : Option Class)
          → option_and_then (code_of index) (option_map filters o)
          ≡ code_kept filter_by (option_and_then (code_of index) o)
      by None = sym (kept_none filter_by)
      by (Some c) =
          ap (λ (t : List (Option Code)). option_and_then (λ x. x) (slice_get t index)) (codes_kept c)
          ∙ ap (option_and_then (λ x. x)) (slice_get-map (code_kept filter_by) (codes_of c) index)
          ∙ flat (slice_get (codes_of c) index)

  code_at_kept : (m : MemberAt) → code_at b m ≡ code_kept filter_by (code_at a m)
  code_at_kept m = code_in m.class m.index

  -- ---- the whole

  code_mapped : (k : Key)
      → OptionCorr (CodeMap own k.class) (option_and_then (code_at a) (member_of a k))
      (option_and_then (code_at b) (member_of b k))
  code_mapped k =
      subst (λ o. OptionCorr (CodeMap own k.class) (option_and_then (code_at a) (member_of a k))
      (option_and_then (code_at b) o)) (sym (λ i. member_of_is filters keeps a i k)) (by (member_of a k))
    where
      by : (o : Option MemberAt)
          → OptionCorr (CodeMap own k.class) (option_and_then (code_at a) o) (option_and_then (code_at b) o)
      by None = refl
      by (Some m) =
          subst (OptionCorr (CodeMap own k.class) (code_at a m)) (sym (code_at_kept m))
          (code_corr filter_by k.class (code_at a m))

  mapped : Mapped own (view_of a) (view_of b)
  mapped = record {
    shape = subst (ShapeMap own (shape_of a)) (sym (shape_of_is filters keeps a)) (shape_itself (shape_of a));
    code = λ k l e. subst (λ (z : Key). OptionCorr (CodeMap own k.class) (option_and_then (code_at a) (member_of a k))
        (option_and_then (code_at b) (member_of b z))) (one k l e) (code_mapped k);
  }

pub filtered_does_the_same : FilteringKeepsSame
filtered_does_the_same filter_by classes entries =
    mapped_same own (view_of classes) (view_of (map (filtered filter_by) classes)) (mapped filter_by classes) entries
    (λ entry there. refl)
