-- What rules do with the words of frames, under new names.
use Rattle.std.proofs.Common.{◌≡◌, ℕ, zero, suc, ◌+◌, ◌-◌, not, ◌&&◌, ◌||◌, Bool, true, false, cond, List, [], ◌∷◌}
use Rattle.std.proofs.Common.{◌++◌, length, map}
use Rattle.std.proofs.Common.{Option, Some, None, Ok, Err, slice_get, slice_set, refl, sym, ap, subst, ◌∙◌}
use Rattle.std.specs.Prelude.{◌==◌, nat_le, IfSome}
use Rattle.std.specs.List.{AllByRecursion, list_any}
use Rattle.std.specs.Option.{option_and_then, option_map, option_map_or}
use Rattle.std.proofs.lemmas.List.{length-map, map-append, map-set}
use Rattle.std.proofs.lemmas.Option.{slice_get-map}
use Rattle.jv_base.specs.Outcome.{◌>>=◌}
use Rattle.jv_base.specs.declared.types.Base.{Base}
use Rattle.jv_base.specs.declared.types.Base.TheVariants as base
use Rattle.jv_base.specs.declared.types.FieldType.{FieldType}
use Rattle.jv_base.proofs.Lists.{all_append}
use Rattle.class_model.specs.Frames.{words_of_type}
use Rattle.class_model.specs.declared.class.Class.{Class}
use Rattle.class_model.specs.declared.frame.VType.{VType}
use Rattle.class_model.specs.declared.frame.VType.TheVariants as vtype
use Rattle.class_model.specs.declared.op.Elem.TheVariants as elem
use Rattle.class_model.specs.declared.op.Kind.{Kind}
use Rattle.class_model.specs.declared.op.Kind.TheVariants as kind
use Rattle.class_rename.specs.Names.{Names}
use Rattle.class_rename.specs.Renamed.{renamed_base, renamed_type, renamed_vtype}
use Rattle.image_laws.specs.SetImage.Image.{Image}
use Rattle.type_verifier.specs.Assignable.{is_assignable, is_reference}
use Rattle.type_verifier.specs.Effects.{Checked, Split, all_popped, counted, counted_from, cut_before, doubled, dropped}
use Rattle.type_verifier.specs.Effects.{element, is_category_1, is_copy, loaded, loaded_from, object_made, one_word}
use Rattle.type_verifier.specs.Effects.{or_operand, popped, popped_from, pushed, put_below, put_local, read_from}
use Rattle.type_verifier.specs.Effects.{second_word, split_words, stored, stored_from, substituted}
use Rattle.type_verifier.specs.Effects.{swapped, top_behind, two_words, with_stack, words_of_kind}
use Rattle.type_verifier.specs.Rules.{Wanted, Assignable, AnyArray, OrThis, Reference, SmallArray, array_wanted}
use Rattle.type_verifier.specs.Rules.{is_small_array, meets, moved}
use Rattle.type_verifier.specs.declared.fault.TypeKind.{TypeKind}
use Rattle.type_verifier.specs.declared.fault.TypeKind.TheVariants.{Local, Operand, Uninit}
use Rattle.type_verifier.specs.declared.frame.TypeFrame.{TypeFrame}
use Rattle.image_laws.specs.TypedImage.Named.{IsTypeNamed, KeepsKnownNames}
use Rattle.image_laws.proofs.TypedImage.Assigning.{AllNamed, FrameNamed, VTypeNamed, all_renamed, assignable}
use Rattle.image_laws.proofs.TypedImage.Assigning.{renamed_types_frame, words_same}

module _ (names : Names) (a b : List Class) (i : Image a b) (stay : KeepsKnownNames names) where
  abbrev new : VType → VType
  new ty = renamed_vtype names ty

  abbrev news : List VType → List VType
  news tys = all_renamed names a b i stay tys

  abbrev frame : TypeFrame → TypeFrame
  frame f = renamed_types_frame names a b i stay f

  abbrev Named : VType → Type 0
  Named ty = VTypeNamed names a b i stay ty

  abbrev Each : List VType → Type 0
  Each tys = AllNamed names a b i stay tys

  abbrev Framed : TypeFrame → Type 0
  Framed f = FrameNamed names a b i stay f

  -- ---- outcomes

  -- where the first is a frame, the second is it under new names
  abbrev pub Follows : Checked → Checked → Type 0
  Follows (Ok f) r = (r ≡ Ok (frame f)) × Framed f
  Follows (Err kind) r = Unit {0}

  pub if_follows : (s t : Bool) (f : TypeFrame) (kind : TypeKind) → (s ≡ true → t ≡ true) → Framed f
      → Follows (cond s (Ok f) (Err kind)) (cond t (Ok (frame f)) (Err kind))
  if_follows true t f kind to named = (ap (λ (x : Bool). cond x (Ok (frame f)) (Err kind)) (to refl), named)
  if_follows false t f kind to named = tt

  pub then_follows : (t : Bool) (r s : Checked) (kind : TypeKind) → Follows r s
      → Follows (cond t r (Err kind)) (cond t s (Err kind))
  then_follows true r s kind h = h
  then_follows false r s kind h = tt

  pub bind_follows : (r s : Checked) (next over : TypeFrame → Checked) → Follows r s
      → ((f : TypeFrame) → Framed f → Follows (next f) (over (frame f))) → Follows (r >>= next) (s >>= over)
  bind_follows (Ok f) s next over h each =
      subst (λ (z : Checked). Follows (next f) (z >>= over)) (sym h.0) (each f h.1)
  bind_follows (Err e) s next over h each = tt

  -- ---- what is wanted

  abbrev pub renamed_wanted : Wanted → Wanted
  renamed_wanted (Assignable ty) = Assignable (new ty)
  renamed_wanted (OrThis ty) = OrThis (renamed_type names ty)
  renamed_wanted other = other

  abbrev pub WantedNamed : Wanted → Type 0
  WantedNamed (Assignable ty) = Named ty
  WantedNamed (OrThis ty) = IsTypeNamed names a b i ty
  WantedNamed _ = Unit {0}

  reference_same : (ty : VType) → is_reference (new ty) ≡ is_reference ty
  reference_same vtype.Top = refl
  reference_same vtype.Int = refl
  reference_same vtype.Long = refl
  reference_same vtype.Null = refl
  reference_same vtype.UninitThis = refl
  reference_same (vtype.Object ty) = refl
  reference_same (vtype.Uninit at) = refl

  small_same : (ty : FieldType) → is_small_array (renamed_type names ty) ≡ is_small_array ty
  small_same ty = by ty.dims ty.base
    where
      by : (dims : ℕ) (ty : Base)
          → is_small_array (record { dims = dims; base = renamed_base names ty })
          ≡ is_small_array (record { dims = dims; base = ty })
      by dims base.Byte = refl
      by dims base.Boolean = refl
      by dims ty = refl

  pub meets_kept : (w : Wanted) (ty : VType) → WantedNamed w → Named ty → meets a w ty ≡ true
      → meets b (renamed_wanted w) (new ty) ≡ true
  unfolding is_assignable
  meets_kept (Assignable to) ty k h e = assignable names a b i stay ty to h k e
  meets_kept Reference ty k h e = reference_same ty ∙ e
  meets_kept (OrThis to) vtype.UninitThis k h e = refl
  meets_kept (OrThis to) vtype.Null k h e = refl
  meets_kept (OrThis to) (vtype.Object ty) k h e =
      assignable names a b i stay (vtype.Object ty) (vtype.Object to) h k e
  meets_kept (OrThis to) ty k h e = absurd cc
  meets_kept AnyArray vtype.Null k h e = refl
  meets_kept AnyArray (vtype.Object ty) k h e = e
  meets_kept AnyArray ty k h e = absurd cc
  meets_kept SmallArray vtype.Null k h e = refl
  meets_kept SmallArray (vtype.Object ty) k h e = small_same ty ∙ e
  meets_kept SmallArray ty k h e = absurd cc

  -- ---- values from the stack

  pub popped_follows : (w : Wanted) (f : TypeFrame) (stack : List VType) → WantedNamed w → Framed f → Each stack
      → Follows (popped_from a w f stack) (popped_from b (renamed_wanted w) (frame f) (news stack))
  popped_follows w f [] k named all = tt
  popped_follows w f (ty ∷ stack) k named all =
      if_follows (meets a w ty) (meets b (renamed_wanted w) (new ty)) (with_stack f stack) Operand
      (meets_kept w ty k all.0) (named.0, all.1)

  pub all_popped_follows : (ws : List Wanted) (f : TypeFrame) → AllByRecursion WantedNamed ws → Framed f
      → Follows (all_popped a ws f) (all_popped b (map renamed_wanted ws) (frame f))
  all_popped_follows [] f k named = (refl, named)
  all_popped_follows (w ∷ ws) f k named =
      bind_follows (popped a w f) (popped b (renamed_wanted w) (frame f)) (all_popped a ws)
      (all_popped b (map renamed_wanted ws)) (popped_follows w f f.stack k.0 named named.1)
      (λ g h. all_popped_follows ws g k.1 h)

  -- ---- locals

  get_named : (tys : List VType) (k : ℕ) → Each tys → IfSome (slice_get tys k) Named
  get_named [] k all = tt
  get_named (ty ∷ tys) zero all = all.0
  get_named (ty ∷ tys) (suc k) all = get_named tys k all.1

  set_named : (tys : List VType) (k : ℕ) (ty : VType) → Each tys → Named ty → Each (slice_set tys k ty)
  set_named [] k ty all h = tt
  set_named (x ∷ tys) zero ty all h = (h, all.1)
  set_named (x ∷ tys) (suc k) ty all h = (all.0, set_named tys k ty all.1 h)

  moved_same : (k : Kind) → renamed_wanted (moved k) ≡ moved k
  moved_same kind.Int = refl
  moved_same kind.Long = refl
  moved_same kind.Ref = refl

  moved_named : (k : Kind) → WantedNamed (moved k)
  moved_named kind.Int = tt
  moved_named kind.Long = tt
  moved_named kind.Ref = tt

  loaded_from_follows : (w : Wanted) (f : TypeFrame) (o : Option VType) → WantedNamed w → Framed f → IfSome o Named
      → Follows (loaded_from a w f o) (loaded_from b (renamed_wanted w) (frame f) (option_map new o))
  loaded_from_follows w f None k named h = tt
  loaded_from_follows w f (Some ty) k named h =
      if_follows (meets a w ty) (meets b (renamed_wanted w) (new ty)) (pushed ty f) Local (meets_kept w ty k h)
      (named.0, (h, named.1))

  pub loaded_follows : (k : Kind) (slot : ℕ) (f : TypeFrame) → Framed f
      → Follows (loaded a k slot f) (loaded b k slot (frame f))
  loaded_follows k slot f named =
      subst (λ (w : Wanted). Follows (loaded a k slot f) (loaded_from b w (frame f) (slice_get (news f.locals) slot)))
      (moved_same k)
      (subst (λ (o : Option VType). Follows (loaded a k slot f) (loaded_from b (renamed_wanted (moved k)) (frame f) o))
      (sym (slice_get-map new f.locals slot))
      (loaded_from_follows (moved k) f (slice_get f.locals slot) (moved_named k) named
      (get_named f.locals slot named.0)))

  -- ---- a local is set

  set_renamed : (tys : List VType) (k : ℕ) (ty : VType) → slice_set (news tys) k (new ty) ≡ news (slice_set tys k ty)
  set_renamed tys k ty = sym (map-set new tys k ty)

  long_same : (o : Option VType)
      → option_map_or (λ ty. words_of_type ty == 2) (option_map new o) false
      ≡ option_map_or (λ ty. words_of_type ty == 2) o false
  long_same None = refl
  long_same (Some ty) = ap (λ (n : ℕ). n == 2) (words_same names a b i stay ty)

  cut_renamed : (slot : ℕ) (tys : List VType) → cut_before slot (news tys) ≡ news (cut_before slot tys)
  cut_renamed slot tys =
      ap (λ (o : Option VType). cond (not (slot == 0) && option_map_or (λ ty. words_of_type ty == 2) o false)
      (slice_set (news tys) (slot - 1) vtype.Top) (news tys)) (slice_get-map new tys (slot - 1))
      ∙ ap (λ (t : Bool). cond (not (slot == 0) && t) (slice_set (news tys) (slot - 1) vtype.Top) (news tys))
      (long_same (slice_get tys (slot - 1)))
      ∙ by (not (slot == 0) && option_map_or (λ ty. words_of_type ty == 2) (slice_get tys (slot - 1)) false)
    where
      by : (t : Bool) → cond t (slice_set (news tys) (slot - 1) vtype.Top) (news tys)
          ≡ news (cond t (slice_set tys (slot - 1) vtype.Top) tys)
      by true = set_renamed tys (slot - 1) vtype.Top
      by false = refl

  cut_named : (slot : ℕ) (tys : List VType) → Each tys → Each (cut_before slot tys)
  cut_named slot tys all =
      by (not (slot == 0) && option_map_or (λ ty. words_of_type ty == 2) (slice_get tys (slot - 1)) false)
    where
      by : (t : Bool) → Each (cond t (slice_set tys (slot - 1) vtype.Top) tys)
      by true = set_named tys (slot - 1) vtype.Top all tt
      by false = all

  top_renamed : (slot : ℕ) (ty : VType) (tys : List VType)
      → top_behind slot (new ty) (news tys) ≡ news (top_behind slot ty tys)
  top_renamed slot ty tys =
      ap (λ (n : ℕ). cond (n == 2) (slice_set (news tys) (slot + 1) vtype.Top) (news tys))
      (words_same names a b i stay ty)
      ∙ by (words_of_type ty == 2)
    where
      by : (t : Bool) → cond t (slice_set (news tys) (slot + 1) vtype.Top) (news tys)
          ≡ news (cond t (slice_set tys (slot + 1) vtype.Top) tys)
      by true = set_renamed tys (slot + 1) vtype.Top
      by false = refl

  top_named : (slot : ℕ) (ty : VType) (tys : List VType) → Each tys → Each (top_behind slot ty tys)
  top_named slot ty tys all = by (words_of_type ty == 2)
    where
      by : (t : Bool) → Each (cond t (slice_set tys (slot + 1) vtype.Top) tys)
      by true = set_named tys (slot + 1) vtype.Top all tt
      by false = all

  put_renamed : (slot : ℕ) (ty : VType) (tys : List VType)
      → put_local slot (new ty) (news tys) ≡ news (put_local slot ty tys)
  put_renamed slot ty tys =
      ap (λ (t : List VType). top_behind slot (new ty) (slice_set t slot (new ty))) (cut_renamed slot tys)
      ∙ ap (top_behind slot (new ty)) (set_renamed (cut_before slot tys) slot ty)
      ∙ top_renamed slot ty (slice_set (cut_before slot tys) slot ty)

  put_named : (slot : ℕ) (ty : VType) (tys : List VType) → Each tys → Named ty → Each (put_local slot ty tys)
  put_named slot ty tys all h =
      top_named slot ty (slice_set (cut_before slot tys) slot ty)
      (set_named (cut_before slot tys) slot ty (cut_named slot tys all) h)

  stored_from_follows : (w : Wanted) (slot : ℕ) (f : TypeFrame) (stack : List VType) → WantedNamed w → Framed f
      → Each stack
      → Follows (stored_from a w slot f stack) (stored_from b (renamed_wanted w) slot (frame f) (news stack))
  stored_from_follows w slot f [] k named all = tt
  stored_from_follows w slot f (ty ∷ stack) k named all =
      subst (λ (t : List VType). Follows (stored_from a w slot f (ty ∷ stack))
      (cond (meets b (renamed_wanted w) (new ty))
      (Ok (record { locals = t; stack = news stack; marked = f.marked })) (Err Operand)))
      (sym (put_renamed slot ty f.locals))
      (if_follows (meets a w ty) (meets b (renamed_wanted w) (new ty))
      (record { locals = put_local slot ty f.locals; stack = stack; marked = f.marked }) Operand
      (meets_kept w ty k all.0) (put_named slot ty f.locals named.0 all.0, all.1))

  pub stored_follows : (k : Kind) (slot : ℕ) (f : TypeFrame) → Framed f
      → Follows (stored a k slot f) (stored b k slot (frame f))
  stored_follows k slot f named =
      subst (λ (n : ℕ). Follows (stored a k slot f) (cond (nat_le (slot + words_of_kind k) n)
      (stored_from b (moved k) slot (frame f) (news f.stack)) (Err Local)))
      (sym (length-map f.locals new))
      (then_follows (nat_le (slot + words_of_kind k) (length f.locals)) (stored_from a (moved k) slot f f.stack)
      (stored_from b (moved k) slot (frame f) (news f.stack)) Local
      (subst (λ (w : Wanted). Follows (stored_from a (moved k) slot f f.stack)
      (stored_from b w slot (frame f) (news f.stack))) (moved_same k)
      (stored_from_follows (moved k) slot f f.stack (moved_named k) named named.1)))

  pub counted_follows : (slot : ℕ) (f : TypeFrame) → Framed f → Follows (counted a slot f) (counted b slot (frame f))
  counted_follows slot f named =
      subst (λ (o : Option VType). Follows (counted a slot f) (counted_from b (frame f) o))
      (sym (slice_get-map new f.locals slot)) (by (slice_get f.locals slot) (get_named f.locals slot named.0))
    where
      by : (o : Option VType) → IfSome o Named → Follows (counted_from a f o)
          (counted_from b (frame f) (option_map new o))
      by None h = tt
      by (Some ty) h =
          if_follows (meets a (Assignable vtype.Int) ty) (meets b (Assignable vtype.Int) (new ty)) f Local
          (meets_kept (Assignable vtype.Int) ty tt h) named

  -- ---- words at the top of the stack

  category_same : (ty : VType) → is_category_1 (new ty) ≡ is_category_1 ty
  category_same vtype.Top = refl
  category_same vtype.Int = refl
  category_same vtype.Long = refl
  category_same vtype.Null = refl
  category_same vtype.UninitThis = refl
  category_same (vtype.Object ty) = refl
  category_same (vtype.Uninit at) = refl

  -- where the first is values and a stack, the second is them under new names
  abbrev Splits : Option Split → Option Split → Type 0
  Splits (Some s) r = (r ≡ Some (news s.0, news s.1)) × (Each s.0 × Each s.1)
  Splits None r = Unit {0}

  abbrev Stacks : Option (List VType) → Option (List VType) → Type 0
  Stacks (Some s) r = (r ≡ Some (news s)) × Each s
  Stacks None r = Unit {0}

  if_splits : (t u : Bool) (s : Split) → u ≡ t → Each s.0 → Each s.1
      → Splits (cond t (Some s) None) (cond u (Some (news s.0, news s.1)) None)
  if_splits true u s e h k = (ap (λ (x : Bool). cond x (Some (news s.0, news s.1)) None) e, (h, k))
  if_splits false u s e h k = tt

  one_splits : (tys : List VType) → Each tys → Splits (one_word tys) (one_word (news tys))
  one_splits [] all = tt
  one_splits (ty ∷ tys) all =
      if_splits (is_category_1 ty) (is_category_1 (new ty)) (ty ∷ [], tys) (category_same ty) (all.0, tt) all.1

  second_splits : (upper : VType) (tys : List VType) → Named upper → Each tys
      → Splits (second_word upper tys) (second_word (new upper) (news tys))
  second_splits upper [] h all = tt
  second_splits upper (ty ∷ tys) h all =
      if_splits (is_category_1 ty) (is_category_1 (new ty)) (upper ∷ ty ∷ [], tys) (category_same ty)
      (h, (all.0, tt)) all.1

  two_splits : (tys : List VType) → Each tys → Splits (two_words tys) (two_words (news tys))
  two_splits [] all = tt
  two_splits (ty ∷ tys) all =
      subst (λ (n : ℕ). Splits (two_words (ty ∷ tys)) (cond (n == 2) (Some (new ty ∷ [], news tys))
      (cond (is_category_1 (new ty)) (second_word (new ty) (news tys)) None)))
      (sym (words_same names a b i stay ty))
      (subst (λ (t : Bool). Splits (two_words (ty ∷ tys)) (cond (words_of_type ty == 2) (Some (new ty ∷ [], news tys))
      (cond t (second_word (new ty) (news tys)) None))) (sym (category_same ty))
      (by (words_of_type ty == 2) (is_category_1 ty)))
    where
      by : (t u : Bool) → Splits (cond t (Some (ty ∷ [], tys)) (cond u (second_word ty tys) None))
          (cond t (Some (new ty ∷ [], news tys)) (cond u (second_word (new ty) (news tys)) None))
      by true u = (refl, ((all.0, tt), all.1))
      by false true = second_splits ty tys all.0 all.1
      by false false = tt

  splits : (n : ℕ) (tys : List VType) → Each tys → Splits (split_words n tys) (split_words n (news tys))
  splits n tys all = by (n == 0) (n == 1)
    where
      by : (t u : Bool) → Splits (cond t (Some ([], tys)) (cond u (one_word tys) (two_words tys)))
          (cond t (Some ([], news tys)) (cond u (one_word (news tys)) (two_words (news tys))))
      by true u = (refl, (tt, all))
      by false true = one_splits tys all
      by false false = two_splits tys all

  pub operand_follows : (f : TypeFrame) (o p : Option (List VType)) → Framed f → Stacks o p
      → Follows (or_operand f o) (or_operand (frame f) p)
  operand_follows f None p named h = tt
  operand_follows f (Some s) p named h = (ap (or_operand (frame f)) h.0, (named.0, h.1))

  pub dropped_follows : (n : ℕ) (tys : List VType) → Each tys → Stacks (dropped n tys) (dropped n (news tys))
  dropped_follows n tys all = by (split_words n tys) (split_words n (news tys)) (splits n tys all)
    where
      by : (o p : Option Split) → Splits o p → Stacks (option_map (λ s. s.1) o) (option_map (λ s. s.1) p)
      by None p h = tt
      by (Some s) p h = (ap (option_map (λ (z : Split). z.1)) h.0, h.1.1)

  below_follows : (values : List VType) (under : ℕ) (tys : List VType) → Each values → Each tys
      → Stacks (put_below values under tys) (put_below (news values) under (news tys))
  below_follows values under tys first all =
      by (split_words under tys) (split_words under (news tys)) (splits under tys all)
    where
      by : (o p : Option Split) → Splits o p
          → Stacks (option_map (λ s. s.0 ++ (values ++ s.1)) o) (option_map (λ s. s.0 ++ (news values ++ s.1)) p)
      by None p h = tt
      by (Some s) p h = (
        ap (option_map (λ (z : Split). z.0 ++ (news values ++ z.1))) h.0
            ∙ ap (λ (t : List VType). Some (news s.0 ++ t)) (sym (map-append new values s.1))
            ∙ ap (λ (t : List VType). Some t) (sym (map-append new s.0 (values ++ s.1))),
        all_append Named s.0 (values ++ s.1) h.1.0 (all_append Named values s.1 first h.1.1),
      )

  pub doubled_follows : (copied under : ℕ) (tys : List VType) → Each tys
      → Stacks (doubled copied under tys) (doubled copied under (news tys))
  doubled_follows copied under tys all =
      by (split_words copied tys) (split_words copied (news tys)) (splits copied tys all)
    where
      on : (top : List VType) (o p : Option (List VType)) → Each top → Stacks o p
          → Stacks (option_map (λ below. top ++ below) o) (option_map (λ below. news top ++ below) p)
      on top None p k h = tt
      on top (Some s) p k h = (
        ap (option_map (λ (t : List VType). news top ++ t)) h.0
            ∙ ap (λ (t : List VType). Some t) (sym (map-append new top s)),
        all_append Named top s k h.1,
      )

      by : (o p : Option Split) → Splits o p
          → Stacks (option_and_then (λ top. option_map (λ below. top.0 ++ below) (put_below top.0 under top.1)) o)
          (option_and_then (λ top. option_map (λ below. top.0 ++ below) (put_below top.0 under top.1)) p)
      by None p h = tt
      by (Some s) p h =
          subst (λ (z : Option Split). Stacks (option_map (λ below. s.0 ++ below) (put_below s.0 under s.1))
          (option_and_then (λ top. option_map (λ below. top.0 ++ below) (put_below top.0 under top.1)) z)) (sym h.0)
          (on s.0 (put_below s.0 under s.1) (put_below (news s.0) under (news s.1)) h.1.0
          (below_follows s.0 under s.1 h.1.0 h.1.1))

  pub swapped_follows : (tys : List VType) → Each tys → Stacks (swapped tys) (swapped (news tys))
  swapped_follows tys all = by (split_words 1 tys) (split_words 1 (news tys)) (splits 1 tys all)
    where
      by : (o p : Option Split) → Splits o p
          → Stacks (option_and_then (λ top. put_below top.0 1 top.1) o)
          (option_and_then (λ top. put_below top.0 1 top.1) p)
      by None p h = tt
      by (Some s) p h =
          subst (λ (z : Option Split). Stacks (put_below s.0 1 s.1)
          (option_and_then (λ top. put_below top.0 1 top.1) z)) (sym h.0) (below_follows s.0 1 s.1 h.1.0 h.1.1)

  -- ---- arrays

  element_renamed : (ty : VType) → element (new ty) ≡ new (element ty)
  element_renamed vtype.Top = refl
  element_renamed vtype.Int = refl
  element_renamed vtype.Long = refl
  element_renamed vtype.Null = refl
  element_renamed vtype.UninitThis = refl
  element_renamed (vtype.Object ty) = refl
  element_renamed (vtype.Uninit at) = refl

  element_named : (ty : VType) → Named ty → Named (element ty)
  element_named (vtype.Object ty) h = h
  element_named ty h = tt

  pub read_follows : (w : Wanted) (f : TypeFrame) (tys : List VType) → renamed_wanted (array_wanted elem.Ref)
      ≡ array_wanted elem.Ref
      → WantedNamed (array_wanted elem.Ref) → Framed f → Each tys
      → Follows (read_from a f tys) (read_from b (frame f) (news tys))
  read_follows w f [] same k named all = tt
  read_follows w f (ty ∷ tys) same k named all =
      subst (λ (t : VType). Follows (read_from a f (ty ∷ tys))
      (cond (meets b (array_wanted elem.Ref) (new ty)) (Ok (with_stack (frame f) (t ∷ news tys))) (Err Operand)))
      (sym (element_renamed ty))
      (if_follows (meets a (array_wanted elem.Ref) ty) (meets b (array_wanted elem.Ref) (new ty))
      (with_stack f (element ty ∷ tys)) Operand
      (λ e. subst (λ (x : Wanted). meets b x (new ty) ≡ true) same (meets_kept (array_wanted elem.Ref) ty k all.0 e))
      (named.0, (element_named ty all.0, all.1)))

  -- ---- objects that no constructor was called on

  pub this_copies : (ty : VType) → is_copy vtype.UninitThis (new ty) ≡ is_copy vtype.UninitThis ty
  this_copies vtype.Top = refl
  this_copies vtype.Int = refl
  this_copies vtype.Long = refl
  this_copies vtype.Null = refl
  this_copies vtype.UninitThis = refl
  this_copies (vtype.Object ty) = refl
  this_copies (vtype.Uninit at) = refl

  pub new_copies : (n : ℕ) (ty : VType) → is_copy (vtype.Uninit n) (new ty) ≡ is_copy (vtype.Uninit n) ty
  new_copies n vtype.Top = refl
  new_copies n vtype.Int = refl
  new_copies n vtype.Long = refl
  new_copies n vtype.Null = refl
  new_copies n vtype.UninitThis = refl
  new_copies n (vtype.Object ty) = refl
  new_copies n (vtype.Uninit at) = refl

  module _ (old : VType) (same : (ty : VType) → is_copy old (new ty) ≡ is_copy old ty) where
    pub any_copy : (tys : List VType) → list_any (is_copy old) (news tys) ≡ list_any (is_copy old) tys
    any_copy [] = refl
    any_copy (ty ∷ tys) =
        ap (λ (t : Bool). t || list_any (is_copy old) (news tys)) (same ty)
        ∙ ap (λ (t : Bool). is_copy old ty || t) (any_copy tys)

    pub substituted_renamed : (to : VType) (tys : List VType)
        → substituted old (new to) (news tys) ≡ news (substituted old to tys)
    substituted_renamed to [] = refl
    substituted_renamed to (ty ∷ tys) =
        ap (λ (t : VType). t ∷ substituted old (new to) (news tys))
        (ap (λ (t : Bool). cond t (new to) (new ty)) (same ty) ∙ by (is_copy old ty))
        ∙ ap (λ (t : List VType). new (cond (is_copy old ty) to ty) ∷ t) (substituted_renamed to tys)
      where
        by : (t : Bool) → cond t (new to) (new ty) ≡ new (cond t to ty)
        by true = refl
        by false = refl

    pub substituted_named : (to : VType) (tys : List VType) → Named to → Each tys → Each (substituted old to tys)
    substituted_named to [] h all = tt
    substituted_named to (ty ∷ tys) h all = (by (is_copy old ty), substituted_named to tys h all.1)
      where
        by : (t : Bool) → Named (cond t to ty)
        by true = h
        by false = all.0

  pub made_follows : (at : ℕ) (f : TypeFrame) → Framed f → Follows (object_made at f) (object_made at (frame f))
  made_follows at f named =
      subst (λ (t : Bool). Follows (object_made at f) (cond t (Err Uninit) (Ok (record {
        locals = substituted (vtype.Uninit at) vtype.Top (news f.locals);
        stack = vtype.Uninit at ∷ news f.stack;
        marked = f.marked;
      })))) (sym (any_copy (vtype.Uninit at) (new_copies at) f.stack))
      (subst (λ (t : List VType). Follows (object_made at f)
      (cond (list_any (is_copy (vtype.Uninit at)) f.stack) (Err Uninit)
      (Ok (record { locals = t; stack = vtype.Uninit at ∷ news f.stack; marked = f.marked }))))
      (sym (substituted_renamed (vtype.Uninit at) (new_copies at) vtype.Top f.locals))
      (by (list_any (is_copy (vtype.Uninit at)) f.stack)))
    where
      after : TypeFrame
      after = record {
        locals = substituted (vtype.Uninit at) vtype.Top f.locals;
        stack = vtype.Uninit at ∷ f.stack;
        marked = f.marked;
      }

      by : (t : Bool) → Follows (cond t (Err Uninit) (Ok after)) (cond t (Err Uninit) (Ok (frame after)))
      by true = tt
      by false = (
        refl,
        (
          substituted_named (vtype.Uninit at) (new_copies at) vtype.Top f.locals tt named.0,
          (tt, named.1),
        ),
      )
