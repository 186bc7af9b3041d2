-- The rule of an instruction under new names, family by family.
use Rattle.std.proofs.Common.{◌≡◌, ℕ, zero, suc, Bool, true, false, cond, List, [], ◌∷◌, map, reverse}
use Rattle.std.proofs.Common.{replicate}
use Rattle.std.proofs.Common.{Option, Some, None, refl, sym, ap, subst, ◌∙◌}
use Rattle.std.specs.Prelude.{IfSome}
use Rattle.std.specs.List.{AllByRecursion}
use Rattle.std.specs.Option.{option_map}
use Rattle.jv_base.specs.Descriptors.{read_field}
use Rattle.jv_base.specs.declared.types.Base.TheVariants as base
use Rattle.jv_base.specs.declared.types.FieldType.{FieldType}
use Rattle.jv_base.specs.declared.types.MethodType.{MethodType}
use Rattle.jv_base.proofs.Lists.{all_append}
use Rattle.class_model.specs.Flags.{is_init}
use Rattle.class_model.specs.Frames.{vtype_of}
use Rattle.class_model.specs.declared.frame.VType.{VType}
use Rattle.class_model.specs.declared.frame.VType.TheVariants as vtype
use Rattle.class_model.specs.declared.op.ConvOp.{ConvOp}
use Rattle.class_model.specs.declared.op.ConvOp.TheVariants as conv
use Rattle.class_model.specs.declared.op.Elem.{Elem}
use Rattle.class_model.specs.declared.op.Elem.TheVariants as elem
use Rattle.class_model.specs.declared.op.MemberRef.{MemberRef}
use Rattle.class_model.specs.declared.op.Num.{Num}
use Rattle.class_model.specs.declared.op.Num.TheVariants as num
use Rattle.class_model.specs.declared.op.Op.{Op}
use Rattle.class_model.specs.declared.op.Op.TheVariants as op
use Rattle.class_rename.specs.Names.{Names}
use Rattle.class_rename.specs.Renamed.{renamed_field_ref, renamed_method_ref, renamed_method_type, renamed_op}
use Rattle.class_rename.specs.Renamed.{renamed_type, renamed_vtype}
use Rattle.image_laws.specs.SetImage.Image.{Image}
use Rattle.type_verifier.specs.Environment.{Environment, own_type}
use Rattle.type_verifier.specs.Effects.{if_ruled, stepped}
use Rattle.type_verifier.specs.Members.{is_early_field, is_guarded_field, is_guarded_method}
use Rattle.type_verifier.specs.Rules.{Wanted, Assignable, OrThis, Rule, Takes, Uses, Initialises, arguments, array_load}
use Rattle.type_verifier.specs.Rules.{array_store, binary, conversion, field_read, field_type, field_write, method_type}
use Rattle.type_verifier.specs.Rules.{number, object_call, returned, rule_of, shift, special_call, static_call}
use Rattle.type_verifier.specs.Rules.{static_read, static_write, told_type, written_receiver}
use Rattle.type_verifier.specs.declared.frame.TypeFrame.{TypeFrame}
use Rattle.type_verifier.proofs.Lists.{map_reversed, reverse_cons}
use Rattle.image_laws.specs.TypedImage.Named.{IsCodeNamed, IsFieldNamed, IsMethodNamed, IsMethodTypeNamed, IsOpNamed}
use Rattle.image_laws.specs.TypedImage.Named.{IsTypeNamed, KeepsKnownNames}
use Rattle.image_laws.proofs.TypedImage.Assigning.{FrameNamed, VTypeNamed, renamed_types_frame}
use Rattle.image_laws.proofs.TypedImage.Acting.{Follows, WantedNamed, renamed_wanted}
use Rattle.image_laws.proofs.TypedImage.Ruling as ruling
use Rattle.image_laws.proofs.TypedImage.Ruling.{RuleNamed, renamed_rule, vtype_named, vtype_renamed}

pub all_reversed : {A : Type 0} (P : A → Type 0) (xs : List A) → AllByRecursion P xs → AllByRecursion P (reverse xs)
all_reversed P [] h = tt
all_reversed P (x ∷ xs) h = subst (AllByRecursion P) (sym (reverse_cons x xs))
    (all_append P (reverse xs) (x ∷ []) (all_reversed P xs h.1) (h.0, tt))

module _ (names : Names) (a b : Environment) (i : Image a.classes b.classes) (stay : KeepsKnownNames names)
    (c : IsCodeNamed names a b i) where
  abbrev new : VType → VType
  new ty = renamed_vtype names ty

  abbrev wanted : Wanted → Wanted
  wanted w = renamed_wanted names a.classes b.classes i stay w

  abbrev rule : Rule → Rule
  rule r = renamed_rule names a b i stay c r

  abbrev Named : VType → Type 0
  Named ty = VTypeNamed names a.classes b.classes i stay ty

  abbrev WNamed : Wanted → Type 0
  WNamed w = WantedNamed names a.classes b.classes i stay w

  abbrev Ruled : Rule → Type 0
  Ruled r = RuleNamed names a b i stay c r

  abbrev TypeNamed : FieldType → Type 0
  TypeNamed ty = IsTypeNamed names a.classes b.classes i ty

  abbrev MethodTypeNamed : MethodType → Type 0
  MethodTypeNamed ty = IsMethodTypeNamed names a.classes b.classes i ty

  -- ---- types of members

  abbrev wanted_of : FieldType → Wanted
  wanted_of ty = Assignable (vtype_of ty)

  each_argument : (tys : List FieldType)
      → map wanted_of (map (renamed_type names) tys) ≡ map wanted (map wanted_of tys)
  each_argument [] = refl
  each_argument (ty ∷ tys) =
      ap (λ (t : VType). Assignable t ∷ map wanted_of (map (renamed_type names) tys))
      (vtype_renamed names a b i stay c ty)
      ∙ ap (λ (t : List Wanted). Assignable (new (vtype_of ty)) ∷ t) (each_argument tys)

  arguments_renamed : (ty : MethodType) → arguments (renamed_method_type names ty) ≡ map wanted (arguments ty)
  arguments_renamed ty = ap reverse (each_argument ty.args) ∙ sym (map_reversed wanted (map wanted_of ty.args))

  arguments_named : (ty : MethodType) → MethodTypeNamed ty → AllByRecursion WNamed (arguments ty)
  arguments_named ty h = all_reversed WNamed (map wanted_of ty.args) (each ty.args h.args)
    where
      each : (tys : List FieldType) → AllByRecursion TypeNamed tys → AllByRecursion WNamed (map wanted_of tys)
      each [] h = tt
      each (ty ∷ tys) h = (vtype_named names a b i stay c ty h.0, each tys h.1)

  result_renamed : (o : Option FieldType)
      → option_map vtype_of (option_map (renamed_type names) o) ≡ option_map new (option_map vtype_of o)
  result_renamed None = refl
  result_renamed (Some ty) = ap (λ (t : VType). Some t) (vtype_renamed names a b i stay c ty)

  result_named : (o : Option FieldType) → IfSome o TypeNamed → IfSome (option_map vtype_of o) Named
  result_named None h = tt
  result_named (Some ty) h = vtype_named names a b i stay c ty h

  returned_renamed : (ty : MethodType) → returned (renamed_method_type names ty) ≡ option_map new (returned ty)
  returned_renamed ty = result_renamed ty.ret

  returned_named : (ty : MethodType) → MethodTypeNamed ty → IfSome (returned ty) Named
  returned_named ty h = result_named ty.ret h.ret

  -- ---- fields

  field_renamed : (r : MemberRef) → IsFieldNamed names a b i r
      → field_type (renamed_field_ref names r) ≡ option_map new (field_type r)
  field_renamed r h = ap (option_map vtype_of) h.told ∙ result_renamed (told_type (read_field r.ty))

  field_named : (r : MemberRef) → IsFieldNamed names a b i r → IfSome (field_type r) Named
  field_named r h = result_named (told_type (read_field r.ty)) h.type

  -- a rule that is made of a type is made of the new one
  by_type : {T : Type 0} (f : T → T) (make over : T → Rule) → ((t : T) → over (f t) ≡ rule (make t)) → (o p : Option T)
      → p ≡ option_map f o → option_map over p ≡ option_map rule (option_map make o)
  by_type {T} f make over same o p e = ap (option_map over) e ∙ on o
    where
      on : (o : Option T) → option_map over (option_map f o) ≡ option_map rule (option_map make o)
      on None = refl
      on (Some t) = ap (λ (r : Rule). Some r) (same t)

  by_named : {T : Type 0} (P : T → Type 0) (make : T → Rule) → ((t : T) → P t → Ruled (make t)) → (o : Option T)
      → IfSome o P → IfSome (option_map make o) Ruled
  by_named P make each None h = tt
  by_named P make each (Some t) h = each t h

  read_renamed : (r : MemberRef) → IsFieldNamed names a b i r → (ty : VType)
      → field_read b (renamed_field_ref names r) (new ty) ≡ rule (field_read a r ty)
  read_renamed r h ty = ap
      (λ (t : Bool). Uses [] (wanted (Assignable (vtype.Object r.class))) t (Some (new ty))) h.guarded

  receiver_renamed : (r : MemberRef) (t : Bool)
      → cond t (OrThis (renamed_type names r.class)) (Assignable (vtype.Object (renamed_type names r.class)))
      ≡ wanted (cond t (OrThis r.class) (Assignable (vtype.Object r.class)))
  receiver_renamed r true = refl
  receiver_renamed r false = refl

  receiver_named : (r : MemberRef) → TypeNamed r.class → (t : Bool)
      → WNamed (cond t (OrThis r.class) (Assignable (vtype.Object r.class)))
  receiver_named r h true = h
  receiver_named r h false = h

  write_renamed : (r : MemberRef) → IsFieldNamed names a b i r → (ty : VType)
      → field_write b (renamed_field_ref names r) (new ty) ≡ rule (field_write a r ty)
  write_renamed r h ty =
      ap (λ (t : Bool). Uses (Assignable (new ty) ∷ [])
      (written_receiver b (renamed_field_ref names r)) t None) h.guarded
      ∙ ap (λ (t : Bool). Uses (Assignable (new ty) ∷ []) (cond t (OrThis (renamed_type names r.class))
      (Assignable (vtype.Object (renamed_type names r.class)))) (is_guarded_field a r) None) h.early
      ∙ ap (λ (w : Wanted). Uses (Assignable (new ty) ∷ []) w (is_guarded_field a r) None)
      (receiver_renamed r (is_early_field a r))

  -- ---- methods

  static_renamed : (ty : MethodType) → static_call (renamed_method_type names ty) ≡ rule (static_call ty)
  static_renamed ty =
      ap (λ ws. Takes ws (returned (renamed_method_type names ty))) (arguments_renamed ty)
      ∙ ap (Takes (map wanted (arguments ty))) (returned_renamed ty)

  call_renamed : (r : MemberRef) → IsMethodNamed names a b i r → (ty : MethodType)
      → object_call b (renamed_method_ref names r) (renamed_method_type names ty) ≡ rule (object_call a r ty)
  call_renamed r h ty =
      ap (λ ws. Uses ws (wanted (Assignable (vtype.Object r.class)))
      (is_guarded_method b (renamed_method_ref names r)) (returned (renamed_method_type names ty)))
      (arguments_renamed ty)
      ∙ ap (λ (t : Bool). Uses (map wanted (arguments ty)) (wanted (Assignable (vtype.Object r.class))) t
      (returned (renamed_method_type names ty))) h.guarded
      ∙ ap (Uses (map wanted (arguments ty)) (wanted (Assignable (vtype.Object r.class))) (is_guarded_method a r))
      (returned_renamed ty)

  special_renamed : (r : MemberRef) → IsMethodNamed names a b i r → (ty : MethodType)
      → special_call b (renamed_method_ref names r) (renamed_method_type names ty) ≡ rule (special_call a r ty)
  special_renamed r h ty =
      ap (λ (t : Bool). cond t first second) h.constructor
      ∙ ap (λ (z : Rule). cond (is_init r.name) z second) first_is
      ∙ ap (λ (z : Rule). cond (is_init r.name) (Initialises (map wanted (arguments ty)) (renamed_type names r.class)
      (is_guarded_method a r)) z) second_is
      ∙ by (is_init r.name)
    where
      first : Rule
      first = Initialises (arguments (renamed_method_type names ty)) (renamed_type names r.class)
          (is_guarded_method b (renamed_method_ref names r))

      second : Rule
      second = Uses (arguments (renamed_method_type names ty)) (Assignable (own_type b)) false
          (returned (renamed_method_type names ty))

      first_is : first
          ≡ Initialises (map wanted (arguments ty)) (renamed_type names r.class) (is_guarded_method a r)
      first_is =
          ap (λ ws. Initialises ws (renamed_type names r.class) (is_guarded_method b (renamed_method_ref names r)))
          (arguments_renamed ty)
          ∙ ap (Initialises (map wanted (arguments ty)) (renamed_type names r.class)) h.guarded

      second_is : second
          ≡ Uses (map wanted (arguments ty)) (Assignable (new (own_type a))) false (option_map new (returned ty))
      second_is =
          ap (λ ws. Uses ws (Assignable (own_type b)) false (returned (renamed_method_type names ty)))
          (arguments_renamed ty)
          ∙ ap (λ (t : VType). Uses (map wanted (arguments ty)) (Assignable t) false
          (returned (renamed_method_type names ty))) (ruling.own_renamed names a b i stay c)
          ∙ ap (Uses (map wanted (arguments ty)) (Assignable (new (own_type a))) false) (returned_renamed ty)

      by : (t : Bool)
          → cond t (Initialises (map wanted (arguments ty)) (renamed_type names r.class) (is_guarded_method a r))
          (Uses (map wanted (arguments ty)) (Assignable (new (own_type a))) false (option_map new (returned ty)))
          ≡ rule (cond t (Initialises (arguments ty) r.class (is_guarded_method a r))
          (Uses (arguments ty) (Assignable (own_type a)) false (returned ty)))
      by true = refl
      by false = refl

  special_named : (r : MemberRef) → IsMethodNamed names a b i r → (ty : MethodType) → MethodTypeNamed ty
      → Ruled (special_call a r ty)
  special_named r h ty k = by (is_init r.name)
    where
      by : (t : Bool)
          → Ruled (cond t (Initialises (arguments ty) r.class (is_guarded_method a r))
          (Uses (arguments ty) (Assignable (own_type a)) false (returned ty)))
      by true = (arguments_named ty k, h.class)
      by false = (arguments_named ty k, (c.own_named, returned_named ty k))

  -- ---- numbers and arrays

  number_renamed : (n : Num) → new (number n) ≡ number n
  number_renamed num.Int = refl
  number_renamed num.Long = refl

  number_named : (n : Num) → Named (number n)
  number_named num.Int = tt
  number_named num.Long = tt

  load_renamed : (e : Elem) → array_load e ≡ rule (array_load e)
  load_renamed elem.Ref = refl
  load_renamed elem.Int = refl
  load_renamed elem.Long = refl
  load_renamed elem.Byte = refl
  load_renamed elem.Char = refl
  load_renamed elem.Short = refl

  load_named : (e : Elem) → Ruled (array_load e)
  load_named elem.Ref = tt
  load_named elem.Int = ((tt, (tt, tt)), tt)
  load_named elem.Long = ((tt, (tt, tt)), tt)
  load_named elem.Byte = ((tt, (tt, tt)), tt)
  load_named elem.Char = ((tt, (tt, tt)), tt)
  load_named elem.Short = ((tt, (tt, tt)), tt)

  -- an object, an index and an array of objects of this name
  abbrev stores_at : List ℕ → Rule
  stores_at name = Takes (Assignable (vtype.Object (record { dims = 0; base = base.Class name }))
      ∷ Assignable vtype.Int ∷ Assignable (vtype.Object (record { dims = 1; base = base.Class name })) ∷ []) None

  store_renamed : (e : Elem) → array_store e ≡ rule (array_store e)
  store_renamed elem.Ref = ap stores_at (sym stay.object)
  store_renamed elem.Int = refl
  store_renamed elem.Long = refl
  store_renamed elem.Byte = refl
  store_renamed elem.Char = refl
  store_renamed elem.Short = refl

  store_named : (e : Elem) → Ruled (array_store e)
  store_named elem.Ref = ((c.known.object, (tt, (c.known.object, tt))), tt)
  store_named elem.Int = ((tt, (tt, (tt, tt))), tt)
  store_named elem.Long = ((tt, (tt, (tt, tt))), tt)
  store_named elem.Byte = ((tt, (tt, (tt, tt))), tt)
  store_named elem.Char = ((tt, (tt, (tt, tt))), tt)
  store_named elem.Short = ((tt, (tt, (tt, tt))), tt)

  conversion_renamed : (o : ConvOp) → conversion o ≡ rule (conversion o)
  conversion_renamed conv.I2l = refl
  conversion_renamed conv.L2i = refl
  conversion_renamed o = refl

  conversion_named : (o : ConvOp) → Ruled (conversion o)
  conversion_named conv.I2l = ((tt, tt), tt)
  conversion_named conv.L2i = ((tt, tt), tt)
  conversion_named o = ((tt, tt), tt)

  binary_renamed : (n : Num) → binary (number n) ≡ rule (binary (number n))
  binary_renamed num.Int = refl
  binary_renamed num.Long = refl

  shift_renamed : (n : Num) → shift (number n) ≡ rule (shift (number n))
  shift_renamed num.Int = refl
  shift_renamed num.Long = refl

  counts_renamed : (n : ℕ) → map wanted (replicate n (Assignable vtype.Int)) ≡ replicate n (Assignable vtype.Int)
  counts_renamed zero = refl
  counts_renamed (suc n) = ap (λ (t : List Wanted). Assignable vtype.Int ∷ t) (counts_renamed n)

  counts_named : (n : ℕ) → AllByRecursion WNamed (replicate n (Assignable vtype.Int))
  counts_named zero = tt
  counts_named (suc n) = (tt, counts_named n)

  -- ---- each family

  pub rule_is : (o : Op) → IsOpNamed names a b i o → rule_of b (renamed_op names o) ≡ option_map rule (rule_of a o)
  unfolding rule_of
  rule_is (op.PushText units) h =
      ap (λ (name : List ℕ). Some (Takes [] (Some (vtype.Object (record { dims = 0; base = base.Class name })))))
      (sym stay.string)
  rule_is (op.ALoad e) h = ap (λ (r : Rule). Some r) (load_renamed e)
  rule_is (op.AStore e) h = ap (λ (r : Rule). Some r) (store_renamed e)
  rule_is (op.Arith o n) h = ap (λ (r : Rule). Some r) (binary_renamed n)
  rule_is (op.Neg n) h = ap (λ (t : VType). Some (Takes (Assignable t ∷ []) (Some t))) (sym (number_renamed n))
  rule_is (op.Shift o n) h = ap (λ (r : Rule). Some r) (shift_renamed n)
  rule_is (op.Logic o n) h = ap (λ (r : Rule). Some r) (binary_renamed n)
  rule_is (op.Conv o) h = ap (λ (r : Rule). Some r) (conversion_renamed o)
  rule_is (op.GetStatic r) h =
      by_type new static_read static_read (λ ty. refl) (field_type r) (field_type (renamed_field_ref names r))
      (field_renamed r h)
  rule_is (op.PutStatic r) h =
      by_type new static_write static_write (λ ty. refl) (field_type r) (field_type (renamed_field_ref names r))
      (field_renamed r h)
  rule_is (op.GetField r) h =
      by_type new (field_read a r) (field_read b (renamed_field_ref names r)) (read_renamed r h) (field_type r)
      (field_type (renamed_field_ref names r)) (field_renamed r h)
  rule_is (op.PutField r) h =
      by_type new (field_write a r) (field_write b (renamed_field_ref names r)) (write_renamed r h) (field_type r)
      (field_type (renamed_field_ref names r)) (field_renamed r h)
  rule_is (op.InvokeVirtual r) h =
      by_type (renamed_method_type names) (object_call a r) (object_call b (renamed_method_ref names r))
      (call_renamed r h) (method_type r) (method_type (renamed_method_ref names r)) h.told
  rule_is (op.InvokeSpecial r) h =
      by_type (renamed_method_type names) (special_call a r) (special_call b (renamed_method_ref names r))
      (special_renamed r h) (method_type r) (method_type (renamed_method_ref names r)) h.told
  rule_is (op.InvokeStatic r) h =
      by_type (renamed_method_type names) static_call static_call static_renamed (method_type r)
      (method_type (renamed_method_ref names r)) h.told
  rule_is (op.InvokeInterface r) h =
      by_type (renamed_method_type names) (object_call a r) (object_call b (renamed_method_ref names r))
      (call_renamed r h) (method_type r) (method_type (renamed_method_ref names r)) h.told
  rule_is op.Throw h =
      ap (λ (name : List ℕ). Some (Takes
      (Assignable (vtype.Object (record { dims = 0; base = base.Class name })) ∷ []) None)) (sym stay.throwable)
  rule_is (op.CheckCast ty) h =
      ap (λ (name : List ℕ). Some (Takes
      (Assignable (vtype.Object (record { dims = 0; base = base.Class name })) ∷ [])
      (Some (vtype.Object (renamed_type names ty))))) (sym stay.object)
  rule_is (op.InstanceOf ty) h =
      ap (λ (name : List ℕ). Some (Takes
      (Assignable (vtype.Object (record { dims = 0; base = base.Class name })) ∷ []) (Some vtype.Int)))
      (sym stay.object)
  rule_is (op.MultiNewArray ty dimensions) h =
      ap (λ ws. Some (Takes ws (Some (vtype.Object (renamed_type names ty))))) (sym (counts_renamed dimensions))
  rule_is o h = refl

  pub rule_named : (o : Op) → IsOpNamed names a b i o → IfSome (rule_of a o) Ruled
  unfolding rule_of
  rule_named (op.PushText units) h = (tt, c.known.string)
  rule_named (op.ALoad e) h = load_named e
  rule_named (op.AStore e) h = store_named e
  rule_named (op.Arith o n) h = ((number_named n, (number_named n, tt)), number_named n)
  rule_named (op.Neg n) h = ((number_named n, tt), number_named n)
  rule_named (op.Shift o n) h = ((tt, (number_named n, tt)), number_named n)
  rule_named (op.Logic o n) h = ((number_named n, (number_named n, tt)), number_named n)
  rule_named (op.Conv o) h = conversion_named o
  rule_named (op.GetStatic r) h = by_named Named static_read (λ ty k. (tt, k)) (field_type r) (field_named r h)
  rule_named (op.PutStatic r) h =
      by_named Named static_write (λ ty k. ((k, tt), tt)) (field_type r) (field_named r h)
  rule_named (op.GetField r) h =
      by_named Named (field_read a r) (λ ty k. (tt, (h.class, k))) (field_type r) (field_named r h)
  rule_named (op.PutField r) h =
      by_named Named (field_write a r) (λ ty k. ((k, tt), (receiver_named r h.class (is_early_field a r), tt)))
      (field_type r) (field_named r h)
  rule_named (op.InvokeVirtual r) h =
      by_named MethodTypeNamed (object_call a r)
      (λ ty k. (arguments_named ty k, (h.class, returned_named ty k))) (method_type r) h.type
  rule_named (op.InvokeSpecial r) h =
      by_named MethodTypeNamed (special_call a r) (special_named r h) (method_type r) h.type
  rule_named (op.InvokeStatic r) h =
      by_named MethodTypeNamed static_call (λ ty k. (arguments_named ty k, returned_named ty k)) (method_type r) h.type
  rule_named (op.InvokeInterface r) h =
      by_named MethodTypeNamed (object_call a r)
      (λ ty k. (arguments_named ty k, (h.class, returned_named ty k))) (method_type r) h.type
  rule_named op.Throw h = ((c.known.throwable, tt), tt)
  rule_named (op.NewArray ty) h = ((tt, tt), h)
  rule_named (op.ANewArray ty) h = ((tt, tt), h)
  rule_named (op.CheckCast ty) h = ((c.known.object, tt), h)
  rule_named (op.InstanceOf ty) h = ((c.known.object, tt), tt)
  rule_named (op.MultiNewArray ty dimensions) h = (counts_named dimensions, h)
  rule_named (op.IfCmp o to) h = ((tt, (tt, tt)), tt)
  rule_named (op.IfRef o to) h = ((tt, (tt, tt)), tt)
  rule_named op.LCmp h = ((tt, (tt, tt)), tt)
  rule_named op.PushNull h = (tt, tt)
  rule_named (op.PushInt n) h = (tt, tt)
  rule_named (op.PushLong n) h = (tt, tt)
  rule_named op.Nop h = (tt, tt)
  rule_named (op.Goto to) h = (tt, tt)
  rule_named op.ArrayLength h = ((tt, tt), tt)
  rule_named (op.IfZero o to) h = ((tt, tt), tt)
  rule_named (op.IfNull o to) h = ((tt, tt), tt)
  rule_named (op.TableSwitch low other cases) h = ((tt, tt), tt)
  rule_named (op.LookupSwitch other cases) h = ((tt, tt), tt)
  rule_named o h = tt

  -- ---- an instruction

  pub stepped_follows : (at : ℕ) (o : Op) (f : TypeFrame) → IsOpNamed names a b i o
      → FrameNamed names a.classes b.classes i stay f
      → Follows names a.classes b.classes i stay (stepped a at o f)
      (stepped b at (renamed_op names o) (renamed_types_frame names a.classes b.classes i stay f))
  stepped_follows at o f h named =
      subst (λ z. Follows names a.classes b.classes i stay (stepped a at o f)
      (if_ruled b at z (renamed_types_frame names a.classes b.classes i stay f))) (sym (rule_is o h))
      (by (rule_of a o) (rule_named o h))
    where
      by : (r : Option Rule) → IfSome r Ruled
          → Follows names a.classes b.classes i stay (if_ruled a at r f)
          (if_ruled b at (option_map rule r) (renamed_types_frame names a.classes b.classes i stay f))
      by None k = tt
      by (Some r) k = ruling.ruled_follows names a b i stay c at r f k named
