-- Each instruction of a set that is taken names what means something (JVMS 5.4.3, 6.5).
use Rattle.std.proofs.Common.{◌≡◌, ◌&&◌, ◌+◌, ◌++◌, ℕ, not, Bool, true, false, cond, List, [], ◌∷◌, length}
use Rattle.std.proofs.Common.{Option, Some, None, slice_get, refl, sym, ap, subst, ◌∙◌}
use Rattle.std.specs.Prelude.{◌==◌, IfSome}
use Rattle.std.specs.List.{flat_map}
use Rattle.std.specs.Option.{option_and_then, option_map_or}
use Rattle.std.proofs.lemmas.Bool.{and_parts, not-true}
use Rattle.jv_base.specs.declared.types.Base.{Base}
use Rattle.jv_base.specs.declared.types.Base.TheVariants as base
use Rattle.std.proofs.lemmas.Option.{slice_get_within}
use Rattle.jv_base.proofs.Lists.{all_at, nil_parts}
use Rattle.class_model.specs.ConstantPool.{IsMethodText}
use Rattle.class_model.specs.Flags.{is_init, is_interface, is_left_out_class}
use Rattle.class_model.specs.Opcodes.{array_type_of}
use Rattle.class_model.specs.WellFormed.{IsGoodCode, IsGoodMethod, IsGoodOp}
use Rattle.class_model.specs.declared.class.Class.{Class}
use Rattle.class_model.specs.declared.code.Ins.{Ins}
use Rattle.class_model.specs.declared.op.MemberRef.{MemberRef}
use Rattle.class_model.specs.declared.op.Op.{Op}
use Rattle.class_model.specs.declared.op.Op.TheVariants as op
use Rattle.class_pool.specs.Found.{declared_in}
use Rattle.class_pool.specs.Hierarchy.{IsClass, class_named, superclass_of}
use Rattle.class_pool.specs.Resolution.{is_interface_in}
use Rattle.class_pool.specs.declared.id.ClassId.{ClassId}
use Rattle.class_pool.specs.declared.id.ClassId.TheVariants.{Prog}
use Rattle.class_pool.specs.declared.id.MemberAt.{MemberAt}
use Rattle.link_check.specs.Profile.{body_kinds, call_kinds, class_kinds, code_kinds, declaration_kinds, frame_kinds}
use Rattle.link_check.specs.Profile.{handler_kinds, implementing_kinds, is_abstract_class, left_out_at}
use Rattle.link_check.specs.Profile.{made_kinds, name_kinds, new_kinds, no_init_kinds, op_kinds, overriding_kinds}
use Rattle.link_check.specs.Profile.{special_kinds, unless}
use Rattle.link_check.specs.declared.fault.ProfileKind.TheVariants.{LeftOutFlag, WrongKind}
use Rattle.link_check.proofs.Taken.{links_taken}
use Rattle.jvm_model.specs.Value.{Key}
use Rattle.type_verifier.specs.Assignable.{class_type}
use Rattle.type_verifier.specs.Environment.{Environment}
use Rattle.type_verifier.specs.Verified.{AreTyped}
use Rattle.fit_laws.specs.Frames.{Environs}
use Rattle.fit_laws.specs.Held.{IsConcrete, is_base_there, is_held}
use Rattle.fit_laws.specs.Meaning.{CallsSelected, CallsSpecialBy, CallsStatic, IsMeant}
use Rattle.image_laws.specs.TakenSet.TakenSet.{IsTaken}
use Rattle.image_laws.proofs.TakenSet.Names.{class_found}
use Rattle.image_laws.proofs.TakenSet.Rows.{none_each}
use Rattle.type_sound.proofs.ArrayCalls.{calls_selected}
use Rattle.type_sound.proofs.CallMeaning.{calls_static}
use Rattle.type_sound.proofs.Chains.{below_itself, below_super}
use Rattle.type_sound.proofs.FieldMeaning.{means_field, means_object_field}
use Rattle.type_sound.proofs.InitMeaning.{calls_init}
use Rattle.type_sound.proofs.LibraryClasses.{held_class}
use Rattle.type_sound.proofs.Links.{field_taken, method_taken, type_there, unbroken}
use Rattle.type_sound.proofs.Selecting.{declared_class}
use Rattle.type_sound.proofs.SuperMeaning.{calls_special}

-- newarray makes arrays of numbers (JVMS 6.5.newarray)
number_base : (c : Base) (code : ℕ) → array_type_of code ≡ Some c → (name : List ℕ) → c ≡ base.Class name → ⊥
number_base c code e name q = by (code == 4) (code == 5) (code == 8) (code == 9) (code == 10) (code == 11)
    (e ∙ ap (λ (b : Base). Some b) q)
  where
    by : (b4 b5 b8 b9 b10 b11 : Bool) → cond b4 (Some base.Boolean) (cond b5 (Some base.Char) (cond b8 (Some base.Byte)
        (cond b9 (Some base.Short) (cond b10 (Some base.Int) (cond b11 (Some base.Long) None)))))
        ≡ Some (base.Class name)
        → ⊥
    by true b5 b8 b9 b10 b11 h = cc
    by false true b8 b9 b10 b11 h = cc
    by false false true b9 b10 b11 h = cc
    by false false false true b10 b11 h = cc
    by false false false false true b11 h = cc
    by false false false false false true h = cc
    by false false false false false false h = cc

module _ (classes : List Class) (t : IsTaken classes) (typed : AreTyped classes) (k : Key) (env : Environment)
    (is : Environs classes k env) where
  -- the class of the method by its names
  from_named : class_named classes k.class ≡ Some (Prog env.own)
  from_named = by (class_named classes k.class) refl is.member where
    same : (c : ClassId) (m : MemberAt) → m.class ≡ c → (z : MemberAt) → m ≡ z → c ≡ z.class
    same c m e z q = sym e ∙ ap (λ (x : MemberAt). x.class) q

    by : (o : Option ClassId) → class_named classes k.class ≡ o
        → option_and_then (declared_in classes (k.name, k.descriptor)) o
        ≡ Some (record { class = Prog env.own; index = length env.class.fields + env.number })
        → class_named classes k.class ≡ Some (Prog env.own)
    by None e h = absurd cc
    by (Some c) e h = e ∙ ap (λ x. Some x) (sym (declared_class classes t (k.name, k.descriptor) c
        (record { class = Prog env.own; index = length env.class.fields + env.number }) h))

  own_in : IsClass classes (Prog env.own)
  own_in = slice_get_within classes env.own env.class is.class_there

  own_named : class_named classes env.class.name ≡ Some (Prog env.own)
  own_named = ap (λ o. class_named classes (option_map_or (λ (c : Class). c.name) o [])) (sym is.class_there)
      ∙ class_found classes t (Prog env.own) own_in

  -- ---- its superclass

  pub super_held : is_held classes (class_type env.class.name) (class_type env.class.super_name) ≡ true
  super_held = by (class_named classes env.class.super_name) refl kinds where
    rules : flat_map (name_kinds classes env.own) (env.class.super_name ∷ env.class.interfaces) ≡ []
    rules = (nil_parts (left_out_at env.class.left_out None ++ unless (not (is_left_out_class env.class.flags.0))
        LeftOutFlag)
        (flat_map (name_kinds classes env.own) (env.class.super_name ∷ env.class.interfaces))
        (nil_parts (left_out_at env.class.left_out None ++ unless (not (is_left_out_class env.class.flags.0))
        LeftOutFlag
        ++ flat_map (name_kinds classes env.own) (env.class.super_name ∷ env.class.interfaces))
        (implementing_kinds classes env.own env.class)
        ((links_taken classes t.linked).class env.own env.class is.class_there)).0).1

    kinds : class_kinds classes env.own (class_named classes env.class.super_name) ≡ []
    kinds = (nil_parts (name_kinds classes env.own env.class.super_name)
        (flat_map (name_kinds classes env.own) env.class.interfaces) rules).0

    by : (o : Option ClassId) → class_named classes env.class.super_name ≡ o → class_kinds classes env.own o ≡ []
        → is_held classes (class_type env.class.name) (class_type env.class.super_name) ≡ true
    by None e h = absurd cc
    by (Some s) e h = held_class classes t env.class.name env.class.super_name (Prog env.own) s own_named e
        (below_super classes t (Prog env.own) s s own_in
        (ap (option_and_then (superclass_of classes)) is.class_there ∙ e) (below_itself classes t s))

  -- ---- its instructions

  code_rules : code_kinds classes env.own env.method.name env.code ≡ []
  code_rules = sym (ap (λ o. option_map_or (code_kinds classes env.own env.method.name) o []) is.code_there)
      ∙ (nil_parts (declaration_kinds classes env.own env.class (length env.class.fields + env.number) env.method
      ++ body_kinds env.class env.method
      ++ overriding_kinds classes env.own
      (record { class = Prog env.own; index = length env.class.fields + env.number }))
      (option_map_or (code_kinds classes env.own env.method.name) env.method.code [])
      ((links_taken classes t.linked).method env.own env.class env.number env.method is.class_there
      is.method_there)).1

  op_rules : (n : ℕ) (i : Ins) → slice_get env.code.ins n ≡ Some i
      → op_kinds classes env.own env.method.name i.op ≡ []
  op_rules n i at = all_at (λ (j : Ins). op_kinds classes env.own env.method.name j.op ≡ []) env.code.ins n i
      (none_each (λ (j : Ins). op_kinds classes env.own env.method.name j.op) env.code.ins
      (nil_parts (flat_map (λ (j : Ins). op_kinds classes env.own env.method.name j.op) env.code.ins)
      (flat_map (handler_kinds classes env.own) env.code.handlers)
      (nil_parts (flat_map (λ (j : Ins). op_kinds classes env.own env.method.name j.op) env.code.ins
      ++ flat_map (handler_kinds classes env.own) env.code.handlers)
      (flat_map (frame_kinds classes env.own) env.code.frames) code_rules).0).0) at

  good_code : IsGoodCode env.code
  good_code = subst (λ o. IfSome o IsGoodCode) is.code_there
      (all_at (IsGoodMethod (is_interface env.class.flags.0)) env.class.methods env.number env.method
      (t.formed env.own env.class is.class_there).methods is.method_there).code

  -- ---- by its operands

  selected_at : (r : MemberRef) → IsMethodText r.ty → call_kinds classes env.own false r ++ no_init_kinds r ≡ []
      → CallsSelected classes r
  selected_at r d h =
      let p = nil_parts (call_kinds classes env.own false r) (no_init_kinds r) h in
      calls_selected classes t typed env.own r (method_taken classes env.own false r d p.0)
      (not-true (is_init r.name) (unbroken (not (is_init r.name)) WrongKind p.1))

  static_at : (r : MemberRef) → IsMethodText r.ty → call_kinds classes env.own true r ++ no_init_kinds r ≡ []
      → CallsStatic classes r
  static_at r d h =
      let p = nil_parts (call_kinds classes env.own true r) (no_init_kinds r) h in
      calls_static classes t typed env.own r (method_taken classes env.own true r d p.0)

  special_at : (b : Bool) (r : MemberRef) → is_init r.name ≡ b → IsMethodText r.ty
      → special_kinds classes env.own r ≡ []
      → CallsSpecialBy classes b k.class env.class.name r
  special_at true r e d h = calls_init classes t typed env.own k.class from_named r d h e
  special_at false r e d h = calls_special classes t typed env.own k.class env.class.name from_named own_named r d h e

  made_at : (name : List ℕ) → new_kinds classes env.own name ≡ [] → IsConcrete classes name
  made_at name h = by (class_named classes name) refl
      (nil_parts (name_kinds classes env.own name) _ h).0 (nil_parts (name_kinds classes env.own name) _ h).1
    where
      by : (o : Option ClassId) → class_named classes name ≡ o → class_kinds classes env.own o ≡ []
          → option_map_or (made_kinds classes) o [] ≡ [] → IsConcrete classes name
      by None e p q = absurd cc
      by (Some c) e p q =
          let z = and_parts (not (is_interface_in classes c)) (not (is_abstract_class classes c))
          (unbroken (not (is_interface_in classes c) && not (is_abstract_class classes c)) WrongKind q) in
          record {
            id = c;
            named = e;
            no_interface = not-true (is_interface_in classes c) z.0;
            not_abstract = not-true (is_abstract_class classes c) z.1;
          }

  number_there : (c : Base) (code : ℕ) → array_type_of code ≡ Some c → is_base_there classes c ≡ true
  number_there (base.Class name) code e = absurd (number_base (base.Class name) code e name refl)
  number_there base.Boolean code e = refl
  number_there base.Byte code e = refl
  number_there base.Char code e = refl
  number_there base.Short code e = refl
  number_there base.Int code e = refl
  number_there base.Long code e = refl
  number_there base.Float code e = refl
  number_there base.Double code e = refl

  op_means : (o : Op) → op_kinds classes env.own env.method.name o ≡ [] → IsGoodOp (length env.code.ins) o
      → IsMeant classes k env o
  op_means op.Nop h g = tt
  op_means op.PushNull h g = tt
  op_means (op.PushInt n) h g = tt
  op_means (op.PushLong n) h g = tt
  op_means (op.PushText units) h g = tt
  op_means (op.Load d slot) h g = tt
  op_means (op.Store d slot) h g = tt
  op_means (op.ALoad elem) h g = tt
  op_means (op.AStore elem) h g = tt
  op_means op.Pop h g = tt
  op_means op.Pop2 h g = tt
  op_means op.Dup h g = tt
  op_means op.DupX1 h g = tt
  op_means op.DupX2 h g = tt
  op_means op.Dup2 h g = tt
  op_means op.Dup2X1 h g = tt
  op_means op.Dup2X2 h g = tt
  op_means op.Swap h g = tt
  op_means (op.Arith a n) h g = tt
  op_means (op.Neg n) h g = tt
  op_means (op.Shift o n) h g = tt
  op_means (op.Logic o n) h g = tt
  op_means (op.Inc slot z) h g = tt
  op_means (op.Conv c) h g = tt
  op_means op.LCmp h g = tt
  op_means (op.IfZero c to) h g = tt
  op_means (op.IfCmp c to) h g = tt
  op_means (op.IfRef c to) h g = tt
  op_means (op.IfNull c to) h g = tt
  op_means (op.Goto to) h g = tt
  op_means (op.TableSwitch low other cases) h g = tt
  op_means (op.LookupSwitch other cases) h g = tt
  op_means (op.Return d) h g = tt
  op_means op.Throw h g = tt
  op_means (op.GetStatic r) h g = means_field classes t env.own true r
      (field_taken classes env.own env.method.name true false r g.0.descriptor h)
  op_means (op.PutStatic r) h g = means_field classes t env.own true r
      (field_taken classes env.own env.method.name true true r g.0.descriptor h)
  op_means (op.GetField r) h g = means_object_field classes t env.own r g.0.descriptor
      (field_taken classes env.own env.method.name false false r g.0.descriptor h)
  op_means (op.PutField r) h g = means_object_field classes t env.own r g.0.descriptor
      (field_taken classes env.own env.method.name false true r g.0.descriptor h)
  op_means (op.InvokeVirtual r) h g = selected_at r g.0.descriptor h
  op_means (op.InvokeSpecial r) h g = special_at (is_init r.name) r refl g.descriptor h
  op_means (op.InvokeStatic r) h g = static_at r g.descriptor h
  op_means (op.InvokeInterface r) h g = selected_at r g.0.descriptor h
  op_means (op.New class) h g = made_at class h
  op_means (op.NewArray c) h g = number_there c g.0 g.1
  op_means (op.ANewArray ty) h g = type_there classes env.own ty h
  op_means op.ArrayLength h g = tt
  op_means (op.CheckCast ty) h g = tt
  op_means (op.InstanceOf ty) h g = tt
  op_means (op.MultiNewArray ty n) h g = (type_there classes env.own ty h, g.1, g.2)

  pub means : (n : ℕ) (i : Ins) → slice_get env.code.ins n ≡ Some i → IsMeant classes k env i.op
  means n i at = op_means i.op (op_rules n i at)
      (all_at (λ (j : Ins). IsGoodOp (length env.code.ins) j.op) env.code.ins n i good_code.instructions at)
