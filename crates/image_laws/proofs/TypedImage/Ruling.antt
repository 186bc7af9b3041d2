-- What rules do with frames in a method under new names, and which rule an instruction has.
use Rattle.std.proofs.Common.{◌≡◌, ℕ, zero, suc, ◌+◌, ◌-◌, not, ◌&&◌, Bool, true, false, cond, List, [], ◌∷◌, length}
use Rattle.std.proofs.Common.{map}
use Rattle.std.proofs.Common.{Option, Some, None, Ok, Err, Result, nat_lt, slice_get, refl, sym, ap}
use Rattle.std.proofs.Common.{subst, ◌∙◌}
use Rattle.std.specs.Prelude.{◌==◌, nat_le, IfSome}
use Rattle.std.specs.List.{AllByRecursion}
use Rattle.std.specs.Option.{option_and_then, option_map}
use Rattle.std.proofs.lemmas.List.{length-map}
use Rattle.std.proofs.lemmas.List.Sums.{sum_by-cons}
use Rattle.std.proofs.lemmas.Option.{slice_get-map}
use Rattle.std.proofs.lemmas.Bool.{and_from, not-false}
use Rattle.jv_base.specs.Outcome.{◌>>=◌}
use Rattle.jv_base.specs.declared.types.Base.{Base}
use Rattle.jv_base.specs.declared.types.Base.TheVariants as base
use Rattle.jv_base.specs.declared.types.FieldType.{FieldType}
use Rattle.jv_base.specs.declared.types.MethodType.{MethodType}
use Rattle.class_model.specs.Frames.{base_vtype, vtype_of, words_of_type, words_of_types}
use Rattle.class_model.specs.declared.code.Ins.{Ins}
use Rattle.class_model.specs.declared.frame.VType.{VType}
use Rattle.class_model.specs.declared.frame.VType.TheVariants as vtype
use Rattle.class_model.specs.declared.op.Elem.TheVariants as elem
use Rattle.class_model.specs.declared.op.Kind.{Kind}
use Rattle.class_model.specs.declared.op.Kind.TheVariants as kind
use Rattle.class_model.specs.declared.op.Op.{Op}
use Rattle.class_model.specs.declared.op.Op.TheVariants as op
use Rattle.class_rename.specs.Names.{Names}
use Rattle.class_rename.specs.Renamed.{renamed_base}
use Rattle.class_rename.specs.Renamed.{renamed_op, renamed_type, renamed_vtype}
use Rattle.image_laws.specs.SetImage.Image.{Image}
use Rattle.type_verifier.specs.Assignable.{class_type, is_assignable}
use Rattle.type_verifier.specs.Effects.{Checked, acted, all_popped, all_words_wanted, class_made_at}
use Rattle.type_verifier.specs.Effects.{constructor_returned}
use Rattle.type_verifier.specs.Effects.{doubled, dropped, given_words, gives, guarded_use, has_depth, has_room}
use Rattle.type_verifier.specs.Effects.{initialised, is_copy, is_returned_by, made_class, new_initialised}
use Rattle.type_verifier.specs.Effects.{object_initialised, popped, read_from, result_taken}
use Rattle.type_verifier.specs.Effects.{ruled, substituted, swapped, taken_words, this_initialised}
use Rattle.type_verifier.specs.Effects.{used_from}
use Rattle.type_verifier.specs.Effects.{with_stack, words_given, words_wanted}
use Rattle.type_verifier.specs.Environment.{Environment, in_constructor, own_type}
use Rattle.type_verifier.specs.Members.{is_class_base, is_class_type, is_own_or_super}
use Rattle.type_verifier.specs.Rules.{Wanted, Assignable, array_wanted, class_of, meets}
use Rattle.type_verifier.specs.Rules.{Rule, Takes, Loads, Stores, Counts, Drops, Doubles, Swaps, ReadsReference, Makes}
use Rattle.type_verifier.specs.Rules.{Returns, Uses, Initialises}
use Rattle.type_verifier.specs.declared.fault.TypeKind.{TypeKind}
use Rattle.type_verifier.specs.declared.fault.TypeKind.TheVariants.{Depth, Local, Operand, Protected, Uninit}
use Rattle.type_verifier.specs.declared.frame.TypeFrame.{TypeFrame}
use Rattle.image_laws.specs.TypedImage.Named.{IsCodeNamed, IsNamed, IsOpNamed, IsTypeNamed}
use Rattle.image_laws.specs.TypedImage.Named.{KeepsKnownNames, renamed_at}
use Rattle.image_laws.proofs.TypedImage.Assigning.{AllNamed, FrameNamed, VTypeNamed, all_renamed, assignable}
use Rattle.image_laws.proofs.TypedImage.Assigning.{renamed_types_frame, both, either, text_kept, words_same}
use Rattle.image_laws.proofs.TypedImage.Acting as acting
use Rattle.image_laws.proofs.TypedImage.Acting.{Follows, WantedNamed, renamed_wanted}

-- what is answered where an object is of another class than a guarded member wants
abbrev verdict : Bool → Result (Unit {0}) TypeKind
verdict t = cond t (Err Protected) (Ok tt)

module _ (names : Names) (a b : Environment) (i : Image a.classes b.classes) (stay : KeepsKnownNames names)
    (c : IsCodeNamed names a b i) where
  abbrev new : VType → VType
  new ty = renamed_vtype names ty

  abbrev news : List VType → List VType
  news tys = all_renamed names a.classes b.classes i stay tys

  abbrev frame : TypeFrame → TypeFrame
  frame f = renamed_types_frame names a.classes b.classes i stay f

  abbrev Named : VType → Type 0
  Named ty = VTypeNamed names a.classes b.classes i stay ty

  abbrev Framed : TypeFrame → Type 0
  Framed f = FrameNamed names a.classes b.classes i stay f

  abbrev To : Checked → Checked → Type 0
  To r s = Follows names a.classes b.classes i stay r s

  abbrev wanted : Wanted → Wanted
  wanted w = renamed_wanted names a.classes b.classes i stay w

  abbrev WNamed : Wanted → Type 0
  WNamed w = WantedNamed names a.classes b.classes i stay w

  -- ---- the own class

  pub own_renamed : own_type b ≡ new (own_type a)
  own_renamed = ap (λ (name : List ℕ). vtype.Object (class_type name)) c.own

  -- ---- rules under new names

  abbrev pub renamed_rule : Rule → Rule
  renamed_rule (Takes ws given) = Takes (map wanted ws) (option_map new given)
  renamed_rule (Uses ws receiver guarded given) =
      Uses (map wanted ws) (wanted receiver) guarded (option_map new given)
  renamed_rule (Initialises ws class guarded) = Initialises (map wanted ws) (renamed_type names class) guarded
  renamed_rule other = other

  abbrev pub RuleNamed : Rule → Type 0
  RuleNamed (Takes ws given) = AllByRecursion WNamed ws × IfSome given Named
  RuleNamed (Uses ws receiver guarded given) = AllByRecursion WNamed ws × (WNamed receiver × IfSome given Named)
  RuleNamed (Initialises ws class guarded) =
      AllByRecursion WNamed ws × IsTypeNamed names a.classes b.classes i class
  RuleNamed _ = Unit {0}

  -- ---- words

  wanted_words : (w : Wanted) → words_wanted (wanted w) ≡ words_wanted w
  wanted_words (Assignable ty) = words_same names a.classes b.classes i stay ty
  wanted_words w = refl

  all_wanted_words : (ws : List Wanted) → all_words_wanted (map wanted ws) ≡ all_words_wanted ws
  all_wanted_words [] = refl
  all_wanted_words (w ∷ ws) =
      sum_by-cons words_wanted (wanted w) (map wanted ws)
      ∙ ap (λ (n : ℕ). n + all_words_wanted (map wanted ws)) (wanted_words w)
      ∙ ap (λ (n : ℕ). words_wanted w + n) (all_wanted_words ws)
      ∙ sym (sum_by-cons words_wanted w ws)

  given_same : (o : Option VType) → words_given (option_map new o) ≡ words_given o
  given_same None = refl
  given_same (Some ty) = words_same names a.classes b.classes i stay ty

  taken_same : (r : Rule) → taken_words (renamed_rule r) ≡ taken_words r
  taken_same (Takes ws given) = all_wanted_words ws
  taken_same (Uses ws receiver guarded given) = ap (λ (n : ℕ). n + 1) (all_wanted_words ws)
  taken_same (Initialises ws class guarded) = ap (λ (n : ℕ). n + 1) (all_wanted_words ws)
  taken_same r = refl

  put_same : (r : Rule) → given_words (renamed_rule r) ≡ given_words r
  put_same (Takes ws given) = given_same given
  put_same (Uses ws receiver guarded given) = given_same given
  put_same r = refl

  stack_words : (tys : List VType) → words_of_types (news tys) ≡ words_of_types tys
  stack_words [] = refl
  stack_words (ty ∷ tys) =
      sum_by-cons words_of_type (new ty) (news tys)
      ∙ ap (λ (n : ℕ). n + words_of_types (news tys)) (words_same names a.classes b.classes i stay ty)
      ∙ ap (λ (n : ℕ). words_of_type ty + n) (stack_words tys)
      ∙ sym (sum_by-cons words_of_type ty tys)

  room_same : (r : Rule) (f : TypeFrame)
      → has_room b.code.max_stack b.code.max_locals (taken_words (renamed_rule r)) (given_words (renamed_rule r))
      (frame f)
      ≡ has_room a.code.max_stack a.code.max_locals (taken_words r) (given_words r) f
  room_same r f =
      ap (λ (n : ℕ). has_room n b.code.max_locals (taken_words (renamed_rule r)) (given_words (renamed_rule r))
      (frame f))
      c.code.max_stack
      ∙ ap (λ (n : ℕ). has_room a.code.max_stack n (taken_words (renamed_rule r)) (given_words (renamed_rule r))
      (frame f))
      c.code.max_locals
      ∙ ap (λ (n : ℕ). has_room a.code.max_stack a.code.max_locals n (given_words (renamed_rule r)) (frame f))
      (taken_same r)
      ∙ ap (λ (n : ℕ). has_room a.code.max_stack a.code.max_locals (taken_words r) n (frame f)) (put_same r)
      ∙ ap (λ (n : ℕ). cond (not (nat_le (taken_words r) n
      && nat_le (n - taken_words r + given_words r) a.code.max_stack)) (Err Depth)
      (cond (nat_lt a.code.max_locals (length (news f.locals))) (Err Local) (Ok tt))) (stack_words f.stack)
      ∙ ap (λ (n : ℕ). cond (not (has_depth a.code.max_stack (taken_words r) (given_words r) f.stack)) (Err Depth)
      (cond (nat_lt a.code.max_locals n) (Err Local) (Ok tt))) (length-map f.locals new)

  -- ---- what is given

  gives_follows : (o : Option VType) (f : TypeFrame) → IfSome o Named → Framed f
      → To (Ok (gives o f)) (Ok (gives (option_map new o) (frame f)))
  gives_follows None f h named = (refl, named)
  gives_follows (Some ty) f h named = (refl, (named.0, (h, named.1)))

  -- ---- constructors

  base_is : (name : List ℕ) (ty : Base) → is_class_base name ty ≡ true
      → is_class_base (names.class name) (renamed_base names ty) ≡ true
  base_is name (base.Class other) h = text_kept names.class name other h
  base_is name ty h = absurd cc

  class_is : (name : List ℕ) (ty : FieldType) → is_class_type name ty ≡ true
      → is_class_type (names.class name) (renamed_type names ty) ≡ true
  class_is name ty h =
      let parts = both (ty.dims == 0) (is_class_base name ty.base) h in
      and_from (ty.dims == 0) (is_class_base (names.class name) (renamed_base names ty.base)) parts.0
      (base_is name ty.base parts.1)

  own_or_super : (ty : FieldType) → is_own_or_super a ty ≡ true → is_own_or_super b (renamed_type names ty) ≡ true
  own_or_super ty =
      either (is_class_type a.class.name ty) (is_class_type a.class.super_name ty)
      (is_class_type b.class.name (renamed_type names ty)) (is_class_type b.class.super_name (renamed_type names ty))
      (λ e. ap (λ (n : List ℕ). is_class_type n (renamed_type names ty)) c.own ∙ class_is a.class.name ty e)
      (λ e. ap (λ (n : List ℕ). is_class_type n (renamed_type names ty)) c.super ∙ class_is a.class.super_name ty e)

  initialised_follows : (old to : VType) (marked : Bool) (f : TypeFrame) (stack : List VType)
      → ((ty : VType) → is_copy old (new ty) ≡ is_copy old ty) → Named to → Framed f
      → AllNamed names a.classes b.classes i stay stack
      → (initialised b old (new to) marked (frame f) (news stack) ≡ frame (initialised a old to marked f stack))
      × Framed (initialised a old to marked f stack)
  initialised_follows old to marked f stack same h named all = (
    ap (λ (t : List VType). let g : TypeFrame = record {
      locals = t;
      stack = substituted old (new to) (news stack);
      marked = marked;
    } in g) (acting.substituted_renamed names a.classes b.classes i stay old same to f.locals)
        ∙ ap (λ (t : List VType). let g : TypeFrame = record {
          locals = news (substituted old to f.locals);
          stack = t;
          marked = marked;
        } in g) (acting.substituted_renamed names a.classes b.classes i stay old same to stack),
    (
      acting.substituted_named names a.classes b.classes i stay old same to f.locals h named.0,
      acting.substituted_named names a.classes b.classes i stay old same to stack h all,
    ),
  )

  this_follows : (class : FieldType) (f : TypeFrame) (stack : List VType) → Framed f
      → AllNamed names a.classes b.classes i stay stack
      → To (this_initialised a class f stack) (this_initialised b (renamed_type names class) (frame f) (news stack))
  this_follows class f stack named all =
      let step = initialised_follows vtype.UninitThis (own_type a) false f stack
      (acting.this_copies names a.classes b.classes i stay) c.own_named named all in
      subst (λ (g : TypeFrame). To (this_initialised a class f stack)
      (cond (is_own_or_super b (renamed_type names class)) (Ok g) (Err Uninit)))
      (sym (ap (λ (t : VType). initialised b vtype.UninitThis t false (frame f) (news stack)) own_renamed ∙ step.0))
      (acting.if_follows names a.classes b.classes i stay (is_own_or_super a class)
      (is_own_or_super b (renamed_type names class)) (initialised a vtype.UninitThis (own_type a) false f stack) Uninit
      (own_or_super class) step.1)

  -- an object of the class that a new names; a guarded constructor fits where it did
  guard_kept : (guarded : Bool) (ty : VType) → Named ty
      → (guarded && not (is_assignable a.classes ty (own_type a))) ≡ false
      → (guarded && not (is_assignable b.classes (new ty) (own_type b))) ≡ false
  guard_kept false ty h e = refl
  guard_kept true ty h e =
      ap (λ (t : VType). not (is_assignable b.classes (new ty) t)) own_renamed
      ∙ ap not (assignable names a.classes b.classes i stay ty (own_type a) h c.own_named
      (not-false (is_assignable a.classes ty (own_type a)) e))

  new_follows : (at : ℕ) (class : FieldType) (guarded : Bool) (o : Option (List ℕ)) (f : TypeFrame)
      (stack : List VType) → IfSome o (IsNamed names a.classes b.classes i) → Framed f
      → AllNamed names a.classes b.classes i stay stack
      → To (new_initialised a at class guarded o f stack)
      (new_initialised b at (renamed_type names class) guarded (option_map names.class o) (frame f) (news stack))
  new_follows at class guarded None f stack h named all = tt
  new_follows at class guarded (Some name) f stack h named all =
      by (guarded && not (is_assignable a.classes (class_of name) (own_type a))) refl
    where
      after : TypeFrame
      after = initialised a (vtype.Uninit at) (class_of name) f.marked f stack

      tested : To (cond (is_class_type name class) (Ok after) (Err Uninit))
          (cond (is_class_type (names.class name) (renamed_type names class))
          (Ok (initialised b (vtype.Uninit at) (new (class_of name)) f.marked (frame f) (news stack))) (Err Uninit))
      tested =
          let step = initialised_follows (vtype.Uninit at) (class_of name) f.marked f stack
          (acting.new_copies names a.classes b.classes i stay at) h named all in
          subst (λ (g : TypeFrame). To (cond (is_class_type name class) (Ok after) (Err Uninit))
          (cond (is_class_type (names.class name) (renamed_type names class)) (Ok g) (Err Uninit))) (sym step.0)
          (acting.if_follows names a.classes b.classes i stay (is_class_type name class)
          (is_class_type (names.class name) (renamed_type names class)) after Uninit (class_is name class) step.1)

      by : (t : Bool) → (guarded && not (is_assignable a.classes (class_of name) (own_type a))) ≡ t
          → To (cond t (Err Protected) (cond (is_class_type name class) (Ok after) (Err Uninit)))
          (new_initialised b at (renamed_type names class) guarded (Some (names.class name)) (frame f) (news stack))
      by true e = tt
      by false e =
          subst (λ (t : Bool). To (cond (is_class_type name class) (Ok after) (Err Uninit))
          (cond t (Err Protected) (cond (is_class_type (names.class name) (renamed_type names class))
          (Ok (initialised b (vtype.Uninit at) (new (class_of name)) f.marked (frame f) (news stack))) (Err Uninit))))
          (sym (guard_kept guarded (class_of name) h e)) tested

  made_same : (o : Op) → made_class (renamed_op names o) ≡ option_map names.class (made_class o)
  made_same (op.New name) = refl
  made_same o = refl

  made_named : (o : Op) → IsOpNamed names a b i o → IfSome (made_class o) (IsNamed names a.classes b.classes i)
  made_named (op.New name) h = h
  made_named o h = tt

  made_at_named : (ins : List Ins) (at : ℕ) → AllByRecursion (λ (j : Ins). IsOpNamed names a b i j.op) ins
      → IfSome (option_and_then (λ (j : Ins). made_class j.op) (slice_get ins at)) (IsNamed names a.classes b.classes i)
  made_at_named [] at h = tt
  made_at_named (j ∷ ins) zero h = made_named j.op h.0
  made_at_named (j ∷ ins) (suc at) h = made_at_named ins at h.1

  made_at_same : (at : ℕ) → class_made_at b.code at ≡ option_map names.class (class_made_at a.code at)
  made_at_same at =
      ap (λ (ins : List Ins). option_and_then (λ (j : Ins). made_class j.op) (slice_get ins at)) c.code.ins
      ∙ ap (option_and_then (λ (j : Ins). made_class j.op)) (slice_get-map (renamed_at names c.code.line) a.code.ins at)
      ∙ by (slice_get a.code.ins at)
    where
      by : (o : Option Ins)
          → option_and_then (λ (j : Ins). made_class j.op) (option_map (renamed_at names c.code.line) o)
          ≡ option_map names.class (option_and_then (λ (j : Ins). made_class j.op) o)
      by None = refl
      by (Some j) = made_same j.op

  object_follows : (class : FieldType) (guarded : Bool) (f : TypeFrame) (stack : List VType) → Framed f
      → AllNamed names a.classes b.classes i stay stack
      → To (object_initialised a class guarded f stack)
      (object_initialised b (renamed_type names class) guarded (frame f) (news stack))
  object_follows class guarded f (vtype.UninitThis ∷ stack) named all = this_follows class f stack named all.1
  object_follows class guarded f (vtype.Uninit at ∷ stack) named all =
      subst (λ o. To (new_initialised a at class guarded (class_made_at a.code at) f stack)
      (new_initialised b at (renamed_type names class) guarded o (frame f) (news stack))) (sym (made_at_same at))
      (new_follows at class guarded (class_made_at a.code at) f stack
      (made_at_named a.code.ins at c.instructions) named all.1)
  object_follows class guarded f stack named all = tt

  -- ---- members

  used_follows : (w : Wanted) (guarded : Bool) (f : TypeFrame) (stack : List VType) → WNamed w → Framed f
      → AllNamed names a.classes b.classes i stay stack
      → To (used_from a w guarded f stack) (used_from b (wanted w) guarded (frame f) (news stack))
  used_follows w guarded f [] h named all = tt
  used_follows w guarded f (ty ∷ stack) h named all =
      met (meets a.classes w ty) (meets b.classes (wanted w) (new ty))
      (acting.meets_kept names a.classes b.classes i stay w ty h all.0)
    where
      after : TypeFrame
      after = with_stack f stack

      guarding : To (guarded_use a guarded ty >>= (λ _. Ok after))
          (guarded_use b guarded (new ty) >>= (λ _. Ok (frame after)))
      guarding = by (guarded && not (is_assignable a.classes ty (own_type a))) refl
        where
          by : (t : Bool) → (guarded && not (is_assignable a.classes ty (own_type a))) ≡ t
              → To (verdict t >>= (λ _. Ok after))
              (guarded_use b guarded (new ty) >>= (λ _. Ok (frame after)))
          by true e = tt
          by false e = (
            ap (λ (t : Bool). verdict t >>= (λ _. Ok (frame after))) (guard_kept guarded ty all.0 e),
            (named.0, all.1),
          )

      met : (s t : Bool) → (s ≡ true → t ≡ true)
          → To (cond s (guarded_use a guarded ty >>= (λ _. Ok after)) (Err Operand))
          (cond t (guarded_use b guarded (new ty) >>= (λ _. Ok (frame after))) (Err Operand))
      met true t to =
          subst (λ (u : Bool). To (guarded_use a guarded ty >>= (λ _. Ok after))
          (cond u (guarded_use b guarded (new ty) >>= (λ _. Ok (frame after))) (Err Operand))) (sym (to refl)) guarding
      met false t to = tt

  -- ---- returning

  pub vtype_renamed : (ty : FieldType) → vtype_of (renamed_type names ty) ≡ new (vtype_of ty)
  vtype_renamed ty = by (ty.dims == 0) ty.base
    where
      by : (t : Bool) (bs : Base)
          → cond t (base_vtype (renamed_type names ty) (renamed_base names bs)) (vtype.Object (renamed_type names ty))
          ≡ new (cond t (base_vtype ty bs) (vtype.Object ty))
      by true (base.Class name) = refl
      by true base.Long = refl
      by true base.Float = refl
      by true base.Double = refl
      by true bs = refl
      by false bs = refl

  pub vtype_named : (ty : FieldType) → IsTypeNamed names a.classes b.classes i ty → Named (vtype_of ty)
  vtype_named ty h = by (ty.dims == 0) ty.base
    where
      by : (t : Bool) (bs : Base) → Named (cond t (base_vtype ty bs) (vtype.Object ty))
      by true (base.Class name) = h
      by true bs = tt
      by false bs = h

  returned_kept : (k : Kind) (ty : VType) → is_returned_by k ty ≡ true → is_returned_by k (new ty) ≡ true
  returned_kept kind.Int vtype.Int e = refl
  returned_kept kind.Long vtype.Long e = refl
  returned_kept kind.Ref (vtype.Object ty) e = refl
  returned_kept k ty e = absurd cc

  result_follows : (k : Option Kind) (ret : Option FieldType) (f : TypeFrame)
      → IfSome ret (IsTypeNamed names a.classes b.classes i) → Framed f
      → To (result_taken a k ret f) (result_taken b k (option_map (renamed_type names) ret) (frame f))
  result_follows None None f h named = (refl, named)
  result_follows None (Some ty) f h named = tt
  result_follows (Some k) None f h named = tt
  result_follows (Some k) (Some ty) f h named =
      subst (λ (t : VType). To (result_taken a (Some k) (Some ty) f)
      (cond (is_returned_by k t) (popped b.classes (Assignable t) (frame f)) (Err Operand))) (sym (vtype_renamed ty))
      (by (is_returned_by k (vtype_of ty)) (is_returned_by k (new (vtype_of ty))) (returned_kept k (vtype_of ty)))
    where
      by : (s t : Bool) → (s ≡ true → t ≡ true)
          → To (cond s (popped a.classes (Assignable (vtype_of ty)) f) (Err Operand))
          (cond t (popped b.classes (Assignable (new (vtype_of ty))) (frame f)) (Err Operand))
      by true t to =
          subst (λ (u : Bool). To (popped a.classes (Assignable (vtype_of ty)) f)
          (cond u (popped b.classes (Assignable (new (vtype_of ty))) (frame f)) (Err Operand))) (sym (to refl))
          (acting.popped_follows names a.classes b.classes i stay (Assignable (vtype_of ty)) f f.stack
          (vtype_named ty h) named named.1)
      by false t to = tt

  constructor_follows : (f : TypeFrame) → Framed f → To (constructor_returned a f) (constructor_returned b (frame f))
  constructor_follows f named =
      subst (λ (t : Bool). To (constructor_returned a f) (cond (t && f.marked) (Err Uninit) (Ok (frame f))))
      (sym c.constructor) (by (in_constructor a && f.marked))
    where
      by : (t : Bool) → To (cond t (Err Uninit) (Ok f)) (cond t (Err Uninit) (Ok (frame f)))
      by true = tt
      by false = (refl, named)

  returns_follows : (k : Option Kind) (f : TypeFrame) → Framed f
      → To (result_taken a k a.method.ty.ret f >>= constructor_returned a)
      (result_taken b k b.method.ty.ret (frame f) >>= constructor_returned b)
  returns_follows k f named =
      acting.bind_follows names a.classes b.classes i stay (result_taken a k a.method.ty.ret f)
      (result_taken b k b.method.ty.ret (frame f)) (constructor_returned a) (constructor_returned b)
      (subst (λ (ty : MethodType). To (result_taken a k a.method.ty.ret f) (result_taken b k ty.ret (frame f)))
      (sym c.type) (result_follows k a.method.ty.ret f c.type_named.ret named))
      constructor_follows

  -- ---- rules

  string_ref : wanted (array_wanted elem.Ref) ≡ array_wanted elem.Ref
  string_ref = ap (λ (name : List ℕ). Assignable
      (vtype.Object (record { dims = 1; base = base.Class name }))) stay.object

  pub acted_follows : (at : ℕ) (r : Rule) (f : TypeFrame) → RuleNamed r → Framed f
      → To (acted a at r f) (acted b at (renamed_rule r) (frame f))
  acted_follows at (Takes ws given) f h named =
      acting.bind_follows names a.classes b.classes i stay (all_popped a.classes ws f)
      (all_popped b.classes (map wanted ws) (frame f)) (λ g. Ok (gives given g))
      (λ g. Ok (gives (option_map new given) g))
      (acting.all_popped_follows names a.classes b.classes i stay ws f h.0 named)
      (λ g n. gives_follows given g h.1 n)
  acted_follows at (Loads k slot) f h named = acting.loaded_follows names a.classes b.classes i stay k slot f named
  acted_follows at (Stores k slot) f h named = acting.stored_follows names a.classes b.classes i stay k slot f named
  acted_follows at (Counts slot) f h named = acting.counted_follows names a.classes b.classes i stay slot f named
  acted_follows at (Drops n) f h named =
      acting.operand_follows names a.classes b.classes i stay f (dropped n f.stack) (dropped n (news f.stack)) named
      (acting.dropped_follows names a.classes b.classes i stay n f.stack named.1)
  acted_follows at (Doubles copied under) f h named =
      acting.operand_follows names a.classes b.classes i stay f (doubled copied under f.stack)
      (doubled copied under (news f.stack)) named
      (acting.doubled_follows names a.classes b.classes i stay copied under f.stack named.1)
  acted_follows at Swaps f h named =
      acting.operand_follows names a.classes b.classes i stay f (swapped f.stack) (swapped (news f.stack)) named
      (acting.swapped_follows names a.classes b.classes i stay f.stack named.1)
  acted_follows at ReadsReference f h named =
      acting.bind_follows names a.classes b.classes i stay (popped a.classes (Assignable vtype.Int) f)
      (popped b.classes (Assignable vtype.Int) (frame f)) (λ g. read_from a.classes g g.stack)
      (λ g. read_from b.classes g g.stack)
      (acting.popped_follows names a.classes b.classes i stay (Assignable vtype.Int) f f.stack tt named named.1)
      (λ g n. acting.read_follows names a.classes b.classes i stay (Assignable vtype.Int) g g.stack string_ref
      c.known.object n n.1)
  acted_follows at Makes f h named = acting.made_follows names a.classes b.classes i stay at f named
  acted_follows at (Returns k) f h named = returns_follows k f named
  acted_follows at (Uses ws receiver guarded given) f h named =
      acting.bind_follows names a.classes b.classes i stay (all_popped a.classes ws f)
      (all_popped b.classes (map wanted ws) (frame f))
      (λ g. used_from a receiver guarded g g.stack >>= λ k. Ok (gives given k))
      (λ g. used_from b (wanted receiver) guarded g g.stack >>= λ k. Ok (gives (option_map new given) k))
      (acting.all_popped_follows names a.classes b.classes i stay ws f h.0 named)
      (λ g n. acting.bind_follows names a.classes b.classes i stay (used_from a receiver guarded g g.stack)
      (used_from b (wanted receiver) guarded (frame g) (news g.stack)) (λ k. Ok (gives given k))
      (λ k. Ok (gives (option_map new given) k)) (used_follows receiver guarded g g.stack h.1.0 n n.1)
      (λ k m. gives_follows given k h.1.1 m))
  acted_follows at (Initialises ws class guarded) f h named =
      acting.bind_follows names a.classes b.classes i stay (all_popped a.classes ws f)
      (all_popped b.classes (map wanted ws) (frame f)) (λ g. object_initialised a class guarded g g.stack)
      (λ g. object_initialised b (renamed_type names class) guarded g g.stack)
      (acting.all_popped_follows names a.classes b.classes i stay ws f h.0 named)
      (λ g n. object_follows class guarded g g.stack n n.1)

  pub ruled_follows : (at : ℕ) (r : Rule) (f : TypeFrame) → RuleNamed r → Framed f
      → To (ruled a at r f) (ruled b at (renamed_rule r) (frame f))
  ruled_follows at r f h named =
      subst (λ room. To (ruled a at r f) (room >>= λ _. acted b at (renamed_rule r) (frame f))) (sym (room_same r f))
      (by (has_room a.code.max_stack a.code.max_locals (taken_words r) (given_words r) f))
    where
      by : (room : Result (Unit {0}) TypeKind)
          → To (room >>= λ _. acted a at r f) (room >>= λ _. acted b at (renamed_rule r) (frame f))
      by (Ok _) = acted_follows at r f h named
      by (Err kind) = tt
