-- No rule looks at the codes of the methods of a set: a code is typed, and has a first fault, in a set without them
-- where it is and has it in the set.
use Rattle.std.proofs.Common.{◌≡◌, ◌⊎◌, ℕ, ◌+◌, ◌-◌, Bool, false, not, ◌&&◌, ◌||◌, IsTrue, List, [], ◌∷◌, length, take}
use Rattle.std.proofs.Common.{Option, Some, None, Result, Ok, Err, refl, ap, ◌∙◌}
use Rattle.std.specs.Prelude.{◌==◌, if◌then◌else◌, is_some, nat_le, nat_lt, slice_get}
use Rattle.std.specs.Cmp.Lexicographic.{pointwise}
use Rattle.std.specs.List.{list_all}
use Rattle.std.specs.Option.{option_map}
use Rattle.jv_base.specs.Names.{is_text}
use Rattle.jv_base.specs.Outcome.{◌>>=◌}
use Rattle.jv_base.specs.declared.types.Base.{Base}
use Rattle.jv_base.specs.declared.types.Base.TheVariants as base
use Rattle.jv_base.specs.declared.types.FieldType.{FieldType}
use Rattle.jv_base.specs.declared.types.MethodType.{MethodType}
use Rattle.class_model.specs.Flags.{acc_protected, acc_static, is_init}
use Rattle.class_model.specs.Frames.{vtype_of, words_of_type}
use Rattle.class_model.specs.declared.class.Class.{Class}
use Rattle.class_model.specs.declared.code.Handler.{Handler}
use Rattle.class_model.specs.declared.code.Ins.{Ins}
use Rattle.class_model.specs.declared.frame.VType.{VType}
use Rattle.class_model.specs.declared.frame.VType.TheVariants as vtype
use Rattle.class_model.specs.declared.op.Elem.TheVariants as elem
use Rattle.class_model.specs.declared.op.Kind.{Kind}
use Rattle.class_model.specs.declared.op.MemberRef.{MemberRef}
use Rattle.class_model.specs.declared.op.Op.{Op}
use Rattle.class_model.specs.declared.op.Op.TheVariants as op
use Rattle.class_pool.specs.Hierarchy.{class_named}
use Rattle.class_pool.specs.declared.id.ClassId.{ClassId}
use Rattle.class_pool.specs.declared.id.ClassId.TheVariants.{Prog}
use Rattle.class_pool.specs.declared.id.MemberAt.{MemberAt}
use Rattle.link_check.specs.Links.{resolved_field, resolved_method}
use Rattle.link_check.specs.declared.fault.LinkKind.{LinkKind}
use Rattle.type_verifier.specs.declared.fault.TypeFault.{TypeFault}
use Rattle.type_verifier.specs.declared.fault.TypeKind.{TypeKind}
use Rattle.type_verifier.specs.declared.fault.TypeKind.TheVariants.{Mismatch, Local, Operand, Protected, Uninit}
use Rattle.type_verifier.specs.declared.fault.TypeKind.TheVariants.{Handler as BadHandler, FallsOff}
use Rattle.type_verifier.specs.declared.frame.TypeFrame.{TypeFrame}
use Rattle.type_verifier.specs.Assignable.{is_above_arrays, is_assignable, is_base_assignable, is_class_assignable}
use Rattle.type_verifier.specs.Assignable.{is_frame_assignable, is_java_assignable, reaches}
use Rattle.type_verifier.specs.Effects.{acted, all_popped, class_made_at, constructor_returned, counted_from, element}
use Rattle.type_verifier.specs.Effects.{given_words, gives, guarded_use, has_room, if_ruled, initialised}
use Rattle.type_verifier.specs.Effects.{is_returned_by, loaded_from, new_initialised, object_initialised, popped_from}
use Rattle.type_verifier.specs.Effects.{put_local, pushed, read_from, result_taken, stepped, stored_from, taken_words}
use Rattle.type_verifier.specs.Effects.{used_from, with_stack, words_of_kind}
use Rattle.type_verifier.specs.Environment.{Environment, declared_frame_at, initial_frame, own_type, targets}
use Rattle.type_verifier.specs.Members.{is_class_type, is_early_field, is_guarded, is_guarded_field, is_guarded_method}
use Rattle.type_verifier.specs.Rules.{Rule, Takes, Loads, Stores, Counts, ReadsReference}
use Rattle.type_verifier.specs.Rules.{Returns, Uses, Initialises, Wanted, Assignable, OrThis}
use Rattle.type_verifier.specs.Rules.{arguments, array_wanted, class_of, field_type, meets, method_type}
use Rattle.type_verifier.specs.Rules.{moved, receiver, returned, rule_of, special_call, throwable, written_receiver}
use Rattle.type_verifier.specs.Typed.{AreInstructionsTyped, IsFirstFault, IsTypedBefore, Stands, Typed}
use Rattle.type_verifier.specs.Walk.{arrived, at_instruction, caught_type, covers, fault_at, fits_at, fits_declared}
use Rattle.type_verifier.specs.Walk.{fits_targets, flow_after, instruction_checked, satisfies_handlers}
use Rattle.type_verifier.proofs.WithoutCodes.{bare, bare_method, bared, same_below, same_declared, same_flag}
use Rattle.type_verifier.proofs.WithoutCodes.{same_in_package, same_interface, same_named, same_resolved_field}
use Rattle.type_verifier.proofs.WithoutCodes.{same_resolved_method}

-- ---- which types fit

module _ (classes : List Class) where
  reaches_same : (from to : Option ClassId) → reaches (bared classes) from to ≡ reaches classes from to
  reaches_same None (Some t) = λ i. same_interface classes i t
  reaches_same (Some f) (Some t) = λ i. same_interface classes i t || same_below classes i f t
  reaches_same from to = refl

  named_reach : (from to : List ℕ)
      → reaches (bared classes) (class_named (bared classes) from) (class_named (bared classes) to)
      ≡ reaches classes (class_named classes from) (class_named classes to)
  named_reach from to = (λ i. reaches (bared classes) (same_named classes i from) (same_named classes i to))
      ∙ reaches_same (class_named classes from) (class_named classes to)

  class_same : is_class_assignable (bared classes) ≡ is_class_assignable classes
  class_same = λ i from to. is_text from to || named_reach from to i

  base_at : (from to : Base) → is_base_assignable (bared classes) from to ≡ is_base_assignable classes from to
  base_at (base.Class a) (base.Class b) = λ i. class_same i a b
  base_at from to = refl

  java_same : (from to : FieldType) → is_java_assignable (bared classes) from to ≡ is_java_assignable classes from to
  unfolding is_java_assignable
  java_same from to = λ i. if from.dims == to.dims then base_at from.base to.base i
      else nat_lt to.dims from.dims && is_above_arrays to.base

  assign_at : (from to : VType) → is_assignable (bared classes) from to ≡ is_assignable classes from to
  unfolding is_assignable
  assign_at (vtype.Object a) (vtype.Object b) = java_same a b
  assign_at from to = refl

  assign_same : is_assignable (bared classes) ≡ is_assignable classes
  assign_same = λ i from to. assign_at from to i

  frame_same : is_frame_assignable (bared classes) ≡ is_frame_assignable classes
  frame_same = λ i from to. pointwise (assign_same i) from.locals to.locals
      && pointwise (λ a b. words_of_type a == words_of_type b && assign_same i a b) from.stack to.stack
      && (not from.marked || to.marked)

  -- ---- what the rules want

  meets_at : (w : Wanted) (ty : VType) → meets (bared classes) w ty ≡ meets classes w ty
  meets_at (Assignable to) ty = λ i. assign_same i ty to
  meets_at (OrThis to) vtype.UninitThis = refl
  meets_at (OrThis to) ty = λ i. assign_same i ty (vtype.Object to)
  meets_at w ty = refl

  popped_at : (w : Wanted) (f : TypeFrame) (stack : List VType)
      → popped_from (bared classes) w f stack ≡ popped_from classes w f stack
  popped_at w f [] = refl
  popped_at w f (ty ∷ stack) = λ i. if meets_at w ty i then Ok (with_stack f stack) else Err Operand

  all_same : (ws : List Wanted) → all_popped (bared classes) ws ≡ all_popped classes ws
  all_same [] = λ i f. Ok f
  all_same (w ∷ ws) = λ i f. popped_at w f f.stack i >>= all_same ws i

  loaded_at : (w : Wanted) (f : TypeFrame) (o : Option VType)
      → loaded_from (bared classes) w f o ≡ loaded_from classes w f o
  loaded_at w f None = refl
  loaded_at w f (Some ty) = λ i. if meets_at w ty i then Ok (pushed ty f) else Err Local

  stored_at : (w : Wanted) (slot : ℕ) (f : TypeFrame) (stack : List VType)
      → stored_from (bared classes) w slot f stack ≡ stored_from classes w slot f stack
  stored_at w slot f [] = refl
  stored_at w slot f (ty ∷ stack) = λ i. if meets_at w ty i
      then Ok (record { locals = put_local slot ty f.locals; stack = stack; marked = f.marked }) else Err Operand

  counted_at : (f : TypeFrame) (o : Option VType) → counted_from (bared classes) f o ≡ counted_from classes f o
  counted_at f None = refl
  counted_at f (Some ty) = λ i. if meets_at (Assignable vtype.Int) ty i then Ok f else Err Local

  read_at : (f : TypeFrame) (stack : List VType) → read_from (bared classes) f stack ≡ read_from classes f stack
  read_at f [] = refl
  read_at f (ty ∷ stack) =
      λ i. if meets_at (array_wanted elem.Ref) ty i then Ok (with_stack f (element ty ∷ stack)) else Err Operand

-- what the rules look at, without the codes of the methods of the set
abbrev pub bare_env : Environment → Environment
bare_env env = record {
  classes = bared env.classes;
  own = env.own;
  class = bare env.class;
  number = env.number;
  method = bare_method env.method;
  code = env.code;
}

module _ (env : Environment) where
  -- ---- members

  guarded_at : (r : Result MemberAt LinkKind) → is_guarded (bare_env env) r ≡ is_guarded env r
  guarded_at (Ok m) = λ i. same_flag env.classes i acc_protected m && not (same_flag env.classes i acc_static m)
      && not (same_in_package env.classes i (Prog env.own) m.class)
  guarded_at (Err kind) = refl

  guarded_field_same : (r : MemberRef) → is_guarded_field (bare_env env) r ≡ is_guarded_field env r
  guarded_field_same r = ap (is_guarded (bare_env env)) (same_resolved_field env.classes (Prog env.own) r)
      ∙ guarded_at (resolved_field env.classes (Prog env.own) r)

  guarded_method_same : (r : MemberRef) → is_guarded_method (bare_env env) r ≡ is_guarded_method env r
  guarded_method_same r = ap (is_guarded (bare_env env)) (same_resolved_method env.classes (Prog env.own) r)
      ∙ guarded_at (resolved_method env.classes (Prog env.own) r)

  early_same : (r : MemberRef) → is_early_field (bare_env env) r ≡ is_early_field env r
  early_same r = λ i. is_init env.method.name && is_class_type env.class.name r.class
      && is_some (same_declared env.classes i (Prog env.own) r.name r.ty)

  -- ---- rules

  written_same : (r : MemberRef) → written_receiver (bare_env env) r ≡ written_receiver env r
  written_same r = λ i. if early_same r i then OrThis r.class else receiver env r

  special_same : (r : MemberRef) (ty : MethodType) → special_call (bare_env env) r ty ≡ special_call env r ty
  special_same r ty = λ i. if is_init r.name then Initialises (arguments ty) r.class (guarded_method_same r i)
      else Uses (arguments ty) (Assignable (own_type env)) false (returned ty)

  rule_at : (o : Op) → rule_of (bare_env env) o ≡ rule_of env o
  unfolding rule_of
  rule_at (op.GetField r) =
      λ i. option_map (λ ty. Uses [] (receiver env r) (guarded_field_same r i) (Some ty)) (field_type r)
  rule_at (op.PutField r) =
      λ i. option_map (λ ty. Uses (Assignable ty ∷ []) (written_same r i) (guarded_field_same r i) None) (field_type r)
  rule_at (op.InvokeVirtual r) =
      λ i. option_map (λ ty. Uses (arguments ty) (receiver env r) (guarded_method_same r i) (returned ty))
      (method_type r)
  rule_at (op.InvokeSpecial r) = λ i. option_map (λ ty. special_same r ty i) (method_type r)
  rule_at (op.InvokeInterface r) =
      λ i. option_map (λ ty. Uses (arguments ty) (receiver env r) (guarded_method_same r i) (returned ty))
      (method_type r)
  rule_at o = refl

  made_at : (at : ℕ) (class : FieldType) (guarded : Bool) (o : Option (List ℕ)) (f : TypeFrame) (stack : List VType)
      → new_initialised (bare_env env) at class guarded o f stack ≡ new_initialised env at class guarded o f stack
  made_at at class guarded None f stack = refl
  made_at at class guarded (Some name) f stack = λ i.
      if guarded && not (assign_same env.classes i (class_of name) (own_type env)) then Err Protected
      else if is_class_type name class
      then Ok (initialised env (vtype.Uninit at) (class_of name) f.marked f stack)
      else Err Uninit

  object_at : (class : FieldType) (guarded : Bool) (f : TypeFrame) (stack : List VType)
      → object_initialised (bare_env env) class guarded f stack ≡ object_initialised env class guarded f stack
  object_at class guarded f (vtype.Uninit n ∷ stack) = made_at n class guarded (class_made_at env.code n) f stack
  object_at class guarded f stack = refl

  use_at : (guarded : Bool) (ty : VType) → guarded_use (bare_env env) guarded ty ≡ guarded_use env guarded ty
  use_at guarded ty = λ i. if guarded && not (assign_same env.classes i ty (own_type env)) then Err Protected else Ok tt

  used_at : (w : Wanted) (guarded : Bool) (f : TypeFrame) (stack : List VType)
      → used_from (bare_env env) w guarded f stack ≡ used_from env w guarded f stack
  used_at w guarded f [] = refl
  used_at w guarded f (ty ∷ stack) = λ i.
      if meets_at env.classes w ty i then use_at guarded ty i >>= (λ _. Ok (with_stack f stack)) else Err Operand

  result_at : (k : Option Kind) (ret : Option FieldType) (f : TypeFrame)
      → result_taken (bare_env env) k ret f ≡ result_taken env k ret f
  result_at (Some k) (Some ty) f = λ i. if is_returned_by k (vtype_of ty)
      then popped_at env.classes (Assignable (vtype_of ty)) f f.stack i else Err Operand
  result_at k ret f = refl

  acted_at : (at : ℕ) (r : Rule) (f : TypeFrame) → acted (bare_env env) at r f ≡ acted env at r f
  acted_at at (Takes wanted given) f = λ i. all_same env.classes wanted i f >>= λ g. Ok (gives given g)
  acted_at at (Loads k slot) f = loaded_at env.classes (moved k) f (slice_get f.locals slot)
  acted_at at (Stores k slot) f = λ i. if nat_le (slot + words_of_kind k) (length f.locals)
      then stored_at env.classes (moved k) slot f f.stack i else Err Local
  acted_at at (Counts slot) f = counted_at env.classes f (slice_get f.locals slot)
  acted_at at ReadsReference f = λ i. popped_at env.classes (Assignable vtype.Int) f f.stack i
      >>= λ g. read_at env.classes g g.stack i
  acted_at at (Returns k) f = λ i. result_at k env.method.ty.ret f i >>= constructor_returned env
  acted_at at (Uses wanted to guarded given) f = λ i. all_same env.classes wanted i f
      >>= λ g. used_at to guarded g g.stack i >>= λ h. Ok (gives given h)
  acted_at at (Initialises wanted class guarded) f = λ i. all_same env.classes wanted i f
      >>= λ g. object_at class guarded g g.stack i
  acted_at at r f = refl

  if_ruled_at : (at : ℕ) (o : Option Rule) (f : TypeFrame) → if_ruled (bare_env env) at o f ≡ if_ruled env at o f
  if_ruled_at at None f = refl
  if_ruled_at at (Some r) f = λ i.
      has_room env.code.max_stack env.code.max_locals (taken_words r) (given_words r) f >>= λ _. acted_at at r f i

  step_same : (at : ℕ) (o : Op) (f : TypeFrame) → stepped (bare_env env) at o f ≡ stepped env at o f
  step_same at o f = (λ i. if_ruled (bare_env env) at (rule_at o i) f) ∙ if_ruled_at at (rule_of env o) f

  -- ---- from instruction to instruction

  declared_fits : (f : TypeFrame) (d : Option TypeFrame) → fits_declared (bare_env env) f d ≡ fits_declared env f d
  declared_fits f None = refl
  declared_fits f (Some d) = λ i. frame_same env.classes i f d

  fits_same : fits_at (bare_env env) ≡ fits_at env
  fits_same = λ i f to. nat_lt to (length env.code.ins) && declared_fits f (declared_frame_at env to) i

  targets_same : (o : Op) (f : TypeFrame) → fits_targets (bare_env env) o f ≡ fits_targets env o f
  targets_same o f = λ i. list_all (fits_same i f) (targets o)

  handlers_same : (at : ℕ) (f : TypeFrame) → satisfies_handlers (bare_env env) at f ≡ satisfies_handlers env at f
  handlers_same at f = λ i. list_all (λ (h : Handler). not (covers at h) || (not f.marked
      && assign_same env.classes i (caught_type h) throwable
      && fits_same i (with_stack f (caught_type h ∷ [])) h.entry)) env.code.handlers

  arrived_at : (at : ℕ) (flow declared : Option TypeFrame)
      → arrived (bare_env env) at flow declared ≡ arrived env at flow declared
  arrived_at at (Some f) (Some d) = λ i. if frame_same env.classes i f d then Ok d else Err Mismatch
  arrived_at at flow declared = refl

  abbrev Flow : Type 0
  Flow = Result (Option TypeFrame) TypeKind

  checked_same : (at : ℕ) (o : Op) → instruction_checked (bare_env env) at o ≡ instruction_checked env at o
  checked_same at o = λ i f. step_same at o f i >>= λ after. (let R : Flow =
      if not (targets_same o after i) then Err Mismatch
      else if not (handlers_same at f i) then Err BadHandler
      else Ok (flow_after o after) in R)

  instruction_same : (at : ℕ) (o : Op) (flow : Option TypeFrame)
      → at_instruction (bare_env env) at o flow ≡ at_instruction env at o flow
  instruction_same at o flow = λ i. arrived_at at flow (declared_frame_at env at) i >>= checked_same at o i

  -- ---- what is typed, and what is the first fault

  stands_same : (at : ℕ) (flow declared : Option TypeFrame) (f : TypeFrame)
      → Stands (bare_env env) at flow declared f ≡ Stands env at flow declared f
  stands_same at (Some from) (Some d) f = λ i. (f ≡ d) × IsTrue (frame_same env.classes i from d)
  stands_same at flow declared f = refl

  all_typed : (at : ℕ) (flow : Option TypeFrame) (ins : List Ins) (fs : List TypeFrame) (behind : Option TypeFrame)
      → AreInstructionsTyped (bare_env env) at flow ins fs behind ≡ AreInstructionsTyped env at flow ins fs behind
  all_typed at flow (n ∷ ins) (f ∷ fs) behind = λ i.
      stands_same at flow (declared_frame_at env at) f i
      × (after : TypeFrame) × (step_same at n.op f i ≡ Ok after)
      × IsTrue (targets_same n.op after i)
      × IsTrue (handlers_same at f i)
      × all_typed (at + 1) (flow_after n.op after) ins fs behind i
  all_typed at flow ins fs behind = refl

  pub typed_same : Typed (bare_env env) ≡ Typed env
  typed_same = λ i. (frames : List TypeFrame) × all_typed 0 (Some (initial_frame env)) env.code.ins frames None i

  before_same : (at : ℕ) (flow : Option TypeFrame) → IsTypedBefore (bare_env env) at flow ≡ IsTypedBefore env at flow
  before_same at flow = λ i. (frames : List TypeFrame)
      × all_typed 0 (Some (initial_frame env)) (take at env.code.ins) frames flow i

  pub fault_same : (fault : TypeFault) → IsFirstFault (bare_env env) fault ≡ IsFirstFault env fault
  fault_same fault = λ i. (fault ≡ fault_at env fault.index fault.kind)
      × (((n : Ins) × (slice_get env.code.ins fault.index ≡ Some n) × (flow : Option TypeFrame)
      × before_same fault.index flow i × (instruction_same fault.index n.op flow i ≡ Err fault.kind))
      ⊎ ((fault.kind ≡ FallsOff)
      × ((fault.index ≡ length env.code.ins - 1) × (f : TypeFrame) × before_same (length env.code.ins) (Some f) i)))
