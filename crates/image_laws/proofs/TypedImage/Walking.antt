-- A code under new names is typed in the image, by the same frames under new names.
use Rattle.std.proofs.Common.{◌≡◌, ℕ, zero, suc, ◌+◌, ◌-◌, not, ◌&&◌, ◌||◌, Bool, true, false, cond, List, [], ◌∷◌}
use Rattle.std.proofs.Common.{◌++◌}
use Rattle.std.proofs.Common.{length, map, reverse, replicate, nat_eq, nat_lt, Option, Some, None}
use Rattle.std.proofs.Common.{refl, sym, ap, subst, ◌∙◌}
use Rattle.std.specs.Prelude.{◌==◌, IfSome, codes}
use Rattle.std.specs.List.{AllByRecursion, find, flat_map, list_all, list_any}
use Rattle.std.specs.Option.{option_map, option_map_or}
use Rattle.std.proofs.lemmas.List.{length-map, map-append}
use Rattle.std.proofs.lemmas.Bool.{and_from}
use Rattle.jv_base.specs.Names.{is_text}
use Rattle.jv_base.specs.declared.types.FieldType.{FieldType}
use Rattle.jv_base.specs.declared.types.MethodType.{MethodType}
use Rattle.jv_base.proofs.Lists.{all_append}
use Rattle.class_model.specs.Flags.{is_static}
use Rattle.class_model.specs.Frames.{initial_locals, this_type, vtype_of}
use Rattle.class_model.specs.declared.code.Handler.{Handler}
use Rattle.class_model.specs.declared.code.Ins.{Ins}
use Rattle.class_model.specs.declared.frame.FrameAt.{FrameAt}
use Rattle.class_model.specs.declared.frame.VType.{VType}
use Rattle.class_model.specs.declared.frame.VType.TheVariants as vtype
use Rattle.class_model.specs.declared.op.Op.{Op}
use Rattle.class_model.specs.declared.op.Op.TheVariants as op
use Rattle.class_rename.specs.Names.{Names}
use Rattle.class_rename.specs.Renamed.{renamed_frame, renamed_handler, renamed_op}
use Rattle.class_rename.specs.Renamed.{renamed_type, renamed_vtype}
use Rattle.image_laws.specs.SetImage.Image.{Image}
use Rattle.type_verifier.specs.Assignable.{is_assignable}
use Rattle.type_verifier.specs.Effects.{Checked, stepped, with_stack}
use Rattle.type_verifier.specs.Environment.{Environment, declared_frame_at, goes_elsewhere, initial_frame, is_entered}
use Rattle.type_verifier.specs.Environment.{targets}
use Rattle.type_verifier.specs.Frames.{declared_frame, expanded, framed, is_uninit_this, padded, local_words}
use Rattle.type_verifier.specs.Rules.{class_of, throwable}
use Rattle.type_verifier.specs.Typed.{AreInstructionsTyped, Stands, Typed}
use Rattle.type_verifier.specs.Walk.{caught_type, covers, fits_at, fits_declared, fits_targets, flow_after, satisfies}
use Rattle.type_verifier.specs.Walk.{satisfies_handlers}
use Rattle.type_verifier.specs.declared.frame.TypeFrame.{TypeFrame}
use Rattle.type_verifier.proofs.Lists.{map_reversed}
use Rattle.image_laws.specs.TypedImage.Named.{IsCodeNamed, IsFrameNamed, IsHandlerNamed, IsNamed, IsOpNamed}
use Rattle.image_laws.specs.TypedImage.Named.{IsTypeNamed, KeepsKnownNames, renamed_at}
use Rattle.image_laws.proofs.TypedImage.Assigning.{AllNamed, FrameNamed, VTypeNamed, all_renamed, assignable, both}
use Rattle.image_laws.proofs.TypedImage.Assigning.{either, frame_assignable, renamed_types_frame}
use Rattle.image_laws.proofs.TypedImage.Acting.{Follows}
use Rattle.image_laws.proofs.TypedImage.Instructions.{all_reversed, stepped_follows}
use Rattle.image_laws.proofs.TypedImage.Ruling.{vtype_named, vtype_renamed}

-- targets are numbers, and stay
targets_same : (names : Names) (o : Op) → targets (renamed_op names o) ≡ targets o
targets_same names (op.New name) = refl
targets_same names o = refl

elsewhere_same : (names : Names) (o : Op) → goes_elsewhere (renamed_op names o) ≡ goes_elsewhere o
elsewhere_same names (op.New name) = refl
elsewhere_same names o = refl

-- ---- frames

module _ (names : Names) (a b : Environment) (i : Image a.classes b.classes) (stay : KeepsKnownNames names) where
  abbrev new : VType → VType
  new ty = renamed_vtype names ty

  abbrev news : List VType → List VType
  news tys = all_renamed names a.classes b.classes i stay tys

  abbrev frame : TypeFrame → TypeFrame
  frame f = renamed_types_frame names a.classes b.classes i stay f

  abbrev Named : VType → Type 0
  Named ty = VTypeNamed names a.classes b.classes i stay ty

  abbrev Each : List VType → Type 0
  Each tys = AllNamed names a.classes b.classes i stay tys

  abbrev Framed : TypeFrame → Type 0
  Framed f = FrameNamed names a.classes b.classes i stay f

  words_renamed : (ty : VType) → local_words (new ty) ≡ news (local_words ty)
  words_renamed vtype.Long = refl
  words_renamed ty = refl

  words_named : (ty : VType) → Named ty → Each (local_words ty)
  words_named vtype.Long h = (tt, (tt, tt))
  words_named (vtype.Object ty) h = (h, tt)
  words_named ty h = (tt, tt)

  all_words_renamed : (tys : List VType) → flat_map local_words (news tys) ≡ news (flat_map local_words tys)
  all_words_renamed [] = refl
  all_words_renamed (ty ∷ tys) =
      ap (λ (t : List VType). t ++ flat_map local_words (news tys)) (words_renamed ty)
      ∙ ap (λ (t : List VType). news (local_words ty) ++ t) (all_words_renamed tys)
      ∙ sym (map-append new (local_words ty) (flat_map local_words tys))

  all_words_named : (tys : List VType) → Each tys → Each (flat_map local_words tys)
  all_words_named [] h = tt
  all_words_named (ty ∷ tys) h =
      all_append Named (local_words ty) (flat_map local_words tys) (words_named ty h.0) (all_words_named tys h.1)

  tops_renamed : (n : ℕ) → news (replicate n vtype.Top) ≡ replicate n vtype.Top
  tops_renamed zero = refl
  tops_renamed (suc n) = ap (λ (t : List VType). vtype.Top ∷ t) (tops_renamed n)

  tops_named : (n : ℕ) → Each (replicate n vtype.Top)
  tops_named zero = tt
  tops_named (suc n) = (tt, tops_named n)

  expanded_renamed : (max : ℕ) (tys : List VType) → expanded max (news tys) ≡ news (expanded max tys)
  expanded_renamed max tys =
      let words = flat_map local_words tys in
      ap (padded max) (all_words_renamed tys)
      ∙ ap (λ (n : ℕ). news words ++ replicate (max - n) vtype.Top) (length-map words new)
      ∙ ap (λ (t : List VType). news words ++ t) (sym (tops_renamed (max - length words)))
      ∙ sym (map-append new words (replicate (max - length words) vtype.Top))

  expanded_named : (max : ℕ) (tys : List VType) → Each tys → Each (expanded max tys)
  expanded_named max tys h =
      all_append Named (flat_map local_words tys) (replicate (max - length (flat_map local_words tys)) vtype.Top)
      (all_words_named tys h) (tops_named (max - length (flat_map local_words tys)))

  uninit_same : (ty : VType) → is_uninit_this (new ty) ≡ is_uninit_this ty
  uninit_same vtype.UninitThis = refl
  uninit_same ty = refl

  marked_same : (tys : List VType) → list_any is_uninit_this (news tys) ≡ list_any is_uninit_this tys
  marked_same [] = refl
  marked_same (ty ∷ tys) =
      ap (λ (t : Bool). t || list_any is_uninit_this (news tys)) (uninit_same ty)
      ∙ ap (λ (t : Bool). is_uninit_this ty || t) (marked_same tys)

  framed_renamed : (max : ℕ) (locals stack : List VType)
      → framed max (news locals) (news stack) ≡ frame (framed max locals stack)
  framed_renamed max locals stack =
      ap (λ (t : List VType). let f : TypeFrame = record {
        locals = t;
        stack = reverse (news stack);
        marked = list_any is_uninit_this (news locals);
      } in f) (expanded_renamed max locals)
      ∙ ap (λ (t : List VType). let f : TypeFrame = record {
        locals = news (expanded max locals);
        stack = t;
        marked = list_any is_uninit_this (news locals);
      } in f) (sym (map_reversed new stack))
      ∙ ap (λ (t : Bool). let f : TypeFrame = record {
        locals = news (expanded max locals);
        stack = news (reverse stack);
        marked = t;
      } in f) (marked_same locals)

  framed_named : (max : ℕ) (locals stack : List VType) → Each locals → Each stack
      → Framed (framed max locals stack)
  framed_named max locals stack h k = (expanded_named max locals h, all_reversed Named stack k)

  module _ (c : IsCodeNamed names a b i) where
    abbrev renewed : Ins → Ins
    renewed j = renamed_at names c.code.line j

    -- ---- declared frames

    find_renamed : (at : ℕ) (fs : List FrameAt)
        → find (λ (f : FrameAt). f.index == at) (map (renamed_frame names) fs)
        ≡ option_map (renamed_frame names) (find (λ (f : FrameAt). f.index == at) fs)
    find_renamed at [] = refl
    find_renamed at (f ∷ fs) = by (f.index == at) (find_renamed at fs)
      where
        by : (t : Bool)
            → find (λ (f : FrameAt). f.index == at) (map (renamed_frame names) fs)
            ≡ option_map (renamed_frame names) (find (λ (f : FrameAt). f.index == at) fs)
            → cond t (Some (renamed_frame names f))
            (find (λ (f : FrameAt). f.index == at) (map (renamed_frame names) fs))
            ≡ option_map (renamed_frame names) (cond t (Some f) (find (λ (f : FrameAt). f.index == at) fs))
        by true rest = refl
        by false rest = rest

    find_named : (at : ℕ) (fs : List FrameAt)
        → AllByRecursion (IsFrameNamed names a.classes b.classes i) fs
        → IfSome (find (λ (f : FrameAt). f.index == at) fs) (IsFrameNamed names a.classes b.classes i)
    find_named at [] h = tt
    find_named at (f ∷ fs) h = by (f.index == at) (find_named at fs h.1)
      where
        by : (t : Bool)
            → IfSome (find (λ (f : FrameAt). f.index == at) fs) (IsFrameNamed names a.classes b.classes i)
            → IfSome (cond t (Some f) (find (λ (f : FrameAt). f.index == at) fs))
            (IsFrameNamed names a.classes b.classes i)
        by true rest = h.0
        by false rest = rest

    declared_same : (at : ℕ) → declared_frame_at b at ≡ option_map frame (declared_frame_at a at)
    declared_same at =
        ap (λ (n : ℕ). option_map (λ (f : FrameAt). declared_frame n f.frame)
        (find (λ (f : FrameAt). f.index == at) b.code.frames)) c.code.max_locals
        ∙ ap (λ fs. option_map (λ (f : FrameAt). declared_frame a.code.max_locals f.frame)
        (find (λ (f : FrameAt). f.index == at) fs)) c.code.frames
        ∙ ap (option_map (λ (f : FrameAt). declared_frame a.code.max_locals f.frame)) (find_renamed at a.code.frames)
        ∙ by (find (λ (f : FrameAt). f.index == at) a.code.frames)
      where
        by : (o : Option FrameAt)
            → option_map (λ (f : FrameAt). declared_frame a.code.max_locals f.frame)
            (option_map (renamed_frame names) o)
            ≡ option_map frame (option_map (λ (f : FrameAt). declared_frame a.code.max_locals f.frame) o)
        by None = refl
        by (Some f) = ap (λ (g : TypeFrame). Some g) (framed_renamed a.code.max_locals f.frame.locals f.frame.stack)

    declared_named : (at : ℕ) → IfSome (declared_frame_at a at) Framed
    declared_named at =
        by (find (λ (f : FrameAt). f.index == at) a.code.frames) (find_named at a.code.frames c.frames)
      where
        by : (o : Option FrameAt) → IfSome o (IsFrameNamed names a.classes b.classes i)
            → IfSome (option_map (λ (f : FrameAt). declared_frame a.code.max_locals f.frame) o) Framed
        by None h = tt
        by (Some f) h = framed_named a.code.max_locals f.frame.locals f.frame.stack h.locals h.stack

    -- ---- the first frame

    abbrev locals_of : Environment → List VType
    locals_of env = initial_locals env.class.name (is_static env.method.flags.0) env.method.name env.method.ty

    arguments_are : (tys : List FieldType) → map vtype_of (map (renamed_type names) tys) ≡ news (map vtype_of tys)
    arguments_are [] = refl
    arguments_are (ty ∷ tys) =
        ap (λ (t : VType). t ∷ map vtype_of (map (renamed_type names) tys)) (vtype_renamed names a b i stay c ty)
        ∙ ap (λ (t : List VType). new (vtype_of ty) ∷ t) (arguments_are tys)

    arguments_each : (tys : List FieldType) → AllByRecursion (IsTypeNamed names a.classes b.classes i) tys
        → Each (map vtype_of tys)
    arguments_each [] h = tt
    arguments_each (ty ∷ tys) h = (vtype_named names a b i stay c ty h.0, arguments_each tys h.1)

    -- `this` of a constructor, or of another method of the class of this name
    abbrev this_of : Bool → List ℕ → VType
    this_of init name = cond init vtype.UninitThis (class_of name)

    this_renamed : (init : Bool) (name : List ℕ) → this_of init (names.class name) ≡ new (this_of init name)
    this_renamed true name = refl
    this_renamed false name = refl

    locals_renamed : locals_of b ≡ news (locals_of a)
    locals_renamed =
        ap (λ (t : VType). cond (is_static b.method.flags.0) [] (t ∷ []) ++ map vtype_of b.method.ty.args) this
        ∙ ap (λ flags. cond (is_static flags.0) [] (new (this_type a.class.name a.method.name) ∷ [])
        ++ map vtype_of b.method.ty.args) c.flags
        ∙ ap (λ (ty : MethodType). cond (is_static a.method.flags.0) []
        (new (this_type a.class.name a.method.name) ∷ []) ++ map vtype_of ty.args) c.type
        ∙ ap (λ (t : List VType). cond (is_static a.method.flags.0) []
        (new (this_type a.class.name a.method.name) ∷ []) ++ t) (arguments_are a.method.ty.args)
        ∙ by (is_static a.method.flags.0)
      where
        this : this_type b.class.name b.method.name ≡ new (this_type a.class.name a.method.name)
        this =
            ap (λ (t : Bool). this_of t b.class.name) c.constructor
            ∙ ap (this_of (is_text a.method.name (codes "<init>"))) c.own
            ∙ this_renamed (is_text a.method.name (codes "<init>")) a.class.name

        by : (t : Bool)
            → cond t [] (new (this_type a.class.name a.method.name) ∷ []) ++ news (map vtype_of a.method.ty.args)
            ≡ news (cond t [] (this_type a.class.name a.method.name ∷ []) ++ map vtype_of a.method.ty.args)
        by true = refl
        by false = refl

    locals_named : Each (locals_of a)
    locals_named =
        all_append Named (cond (is_static a.method.flags.0) [] (this_type a.class.name a.method.name ∷ []))
        (map vtype_of a.method.ty.args) (by (is_static a.method.flags.0))
        (arguments_each a.method.ty.args c.type_named.args)
      where
        this : (t : Bool) → Named (this_of t a.class.name)
        this true = tt
        this false = c.own_named

        by : (t : Bool) → Each (cond t [] (this_type a.class.name a.method.name ∷ []))
        by true = tt
        by false = (this (is_text a.method.name (codes "<init>")), tt)

    initial_same : initial_frame b ≡ frame (initial_frame a)
    initial_same =
        ap (λ (n : ℕ). framed n (locals_of b) []) c.code.max_locals
        ∙ ap (λ (t : List VType). framed a.code.max_locals t []) locals_renamed
        ∙ framed_renamed a.code.max_locals (locals_of a) []

    initial_named : Framed (initial_frame a)
    initial_named = framed_named a.code.max_locals (locals_of a) [] locals_named tt

    -- ---- targets

    entered_same : (at : ℕ) → is_entered b.code at ≡ is_entered a.code at
    entered_same at =
        ap (λ (ins : List Ins). list_any (λ (j : Ins). list_any (nat_eq at) (targets j.op)) ins
        || list_any (λ (h : Handler). nat_eq at h.entry) b.code.handlers) c.code.ins
        ∙ ap (λ hs. list_any (λ (j : Ins). list_any (nat_eq at) (targets j.op)) (map renewed a.code.ins)
        || list_any (λ (h : Handler). nat_eq at h.entry) hs) c.code.handlers
        ∙ ap (λ (t : Bool). t || list_any (λ (h : Handler). nat_eq at h.entry)
        (map (renamed_handler names) a.code.handlers))
        (instructions a.code.ins)
        ∙ ap (λ (t : Bool). list_any (λ (j : Ins). list_any (nat_eq at) (targets j.op)) a.code.ins || t)
        (handlers a.code.handlers)
      where
        instructions : (ins : List Ins)
            → list_any (λ (j : Ins). list_any (nat_eq at) (targets j.op)) (map renewed ins)
            ≡ list_any (λ (j : Ins). list_any (nat_eq at) (targets j.op)) ins
        instructions [] = refl
        instructions (j ∷ ins) =
            ap (λ (t : List ℕ). list_any (nat_eq at) t
            || list_any (λ (j : Ins). list_any (nat_eq at) (targets j.op)) (map renewed ins))
            (targets_same names j.op)
            ∙ ap (λ (t : Bool). list_any (nat_eq at) (targets j.op) || t) (instructions ins)

        handlers : (hs : List Handler)
            → list_any (λ (h : Handler). nat_eq at h.entry) (map (renamed_handler names) hs)
            ≡ list_any (λ (h : Handler). nat_eq at h.entry) hs
        handlers [] = refl
        handlers (h ∷ hs) = ap (λ (t : Bool). nat_eq at h.entry || t) (handlers hs)

    all_kept : {A B : Type 0} (P : A → Type 0) (f : A → B) (test : A → Bool) (over : B → Bool)
        → ((x : A) → P x → test x ≡ true → over (f x) ≡ true) → (xs : List A) → AllByRecursion P xs
        → list_all test xs ≡ true → list_all over (map f xs) ≡ true
    all_kept P f test over each [] h e = refl
    all_kept P f test over each (x ∷ xs) h e =
        let parts = both (test x) (list_all test xs) e in
        and_from (over (f x)) (list_all over (map f xs)) (each x h.0 parts.0)
        (all_kept P f test over each xs h.1 parts.1)

    fits_declared_kept : (f : TypeFrame) (o : Option TypeFrame) → Framed f → IfSome o Framed
        → fits_declared a f o ≡ true → fits_declared b (frame f) (option_map frame o) ≡ true
    fits_declared_kept f None named h e = refl
    fits_declared_kept f (Some d) named h e = frame_assignable names a.classes b.classes i stay f d named h e

    fits_kept : (f : TypeFrame) (to : ℕ) → Framed f → fits_at a f to ≡ true → fits_at b (frame f) to ≡ true
    fits_kept f to named e =
        let parts = both (nat_lt to (length a.code.ins)) (fits_declared a f (declared_frame_at a to)) e in
        and_from (nat_lt to (length b.code.ins)) (fits_declared b (frame f) (declared_frame_at b to))
        (ap (λ (ins : List Ins). nat_lt to (length ins)) c.code.ins
        ∙ ap (nat_lt to) (length-map a.code.ins renewed) ∙ parts.0)
        (ap (fits_declared b (frame f)) (declared_same to)
        ∙ fits_declared_kept f (declared_frame_at a to) named (declared_named to) parts.1)

    fits_targets_kept : (o : Op) (f : TypeFrame) → Framed f → fits_targets a o f ≡ true
        → fits_targets b (renamed_op names o) (frame f) ≡ true
    fits_targets_kept o f named e = ap (list_all (fits_at b (frame f))) (targets_same names o) ∙ each (targets o) e
      where
        each : (ts : List ℕ) → list_all (fits_at a f) ts ≡ true → list_all (fits_at b (frame f)) ts ≡ true
        each [] e = refl
        each (t ∷ ts) e =
            let parts = both (fits_at a f t) (list_all (fits_at a f) ts) e in
            and_from (fits_at b (frame f) t) (list_all (fits_at b (frame f)) ts) (fits_kept f t named parts.0)
            (each ts parts.1)

    -- ---- handlers

    throwable_same : throwable ≡ new throwable
    throwable_same = ap class_of (sym stay.throwable)

    caught_same : (h : Handler) → caught_type (renamed_handler names h) ≡ new (caught_type h)
    caught_same h = by h.caught
      where
        by : (o : Option (List ℕ))
            → option_map_or class_of (option_map names.class o) throwable ≡ new (option_map_or class_of o throwable)
        by None = throwable_same
        by (Some name) = refl

    caught_named : (h : Handler) → IsHandlerNamed names a.classes b.classes i h → Named (caught_type h)
    caught_named h = by h.caught
      where
        by : (o : Option (List ℕ)) → IfSome o (IsNamed names a.classes b.classes i) → Named
            (option_map_or class_of o throwable)
        by None k = c.known.throwable
        by (Some name) k = k

    satisfies_kept : (f : TypeFrame) (h : Handler) → IsHandlerNamed names a.classes b.classes i h → Framed f
        → satisfies a f h ≡ true → satisfies b (frame f) (renamed_handler names h) ≡ true
    satisfies_kept f h k named e =
        let caught = caught_type h in
        let one = both (not f.marked && is_assignable a.classes caught throwable)
        (fits_at a (with_stack f (caught ∷ [])) h.entry) e in
        let two = both (not f.marked) (is_assignable a.classes caught throwable) one.0 in
        ap (λ (t : VType). not f.marked && is_assignable b.classes t throwable
        && fits_at b (with_stack (frame f) (t ∷ [])) h.entry) (caught_same h)
        ∙ and_from (not f.marked && is_assignable b.classes (new caught) throwable)
        (fits_at b (with_stack (frame f) (new caught ∷ [])) h.entry)
        (and_from (not f.marked) (is_assignable b.classes (new caught) throwable) two.0
        (ap (is_assignable b.classes (new caught)) throwable_same
        ∙ assignable names a.classes b.classes i stay caught throwable (caught_named h k) c.known.throwable two.1))
        (fits_kept (with_stack f (caught ∷ [])) h.entry (named.0, (caught_named h k, tt)) one.1)

    handlers_kept : (at : ℕ) (f : TypeFrame) → Framed f → satisfies_handlers a at f ≡ true
        → satisfies_handlers b at (frame f) ≡ true
    handlers_kept at f named e =
        ap (list_all (λ h. not (covers at h) || satisfies b (frame f) h)) c.code.handlers
        ∙ all_kept (IsHandlerNamed names a.classes b.classes i) (renamed_handler names)
        (λ h. not (covers at h) || satisfies a f h) (λ h. not (covers at h) || satisfies b (frame f) h)
        (λ h k. either (not (covers at h)) (satisfies a f h) (not (covers at h))
        (satisfies b (frame f) (renamed_handler names h)) (λ s. s) (λ s. satisfies_kept f h k named s))
        a.code.handlers c.handlers e

    -- ---- instruction by instruction

    stands_named : (at : ℕ) (flow d : Option TypeFrame) (f : TypeFrame) → IfSome flow Framed → IfSome d Framed
        → Stands a at flow d f → Framed f
    stands_named at (Some from) (Some d) f h k s = subst Framed (sym s.0) k
    stands_named at None (Some d) f h k s = subst Framed (sym s) k
    stands_named at (Some from) None f h k s = subst Framed (sym s.0) h
    stands_named at None None f h k s = absurd s

    stands_kept : (at : ℕ) (flow d : Option TypeFrame) (f : TypeFrame) → IfSome flow Framed → IfSome d Framed
        → Stands a at flow d f → Stands b at (option_map frame flow) (option_map frame d) (frame f)
    stands_kept at (Some from) (Some d) f h k s = (
      ap frame s.0,
      frame_assignable names a.classes b.classes i stay from d h k s.1,
    )
    stands_kept at None (Some d) f h k s = ap frame s
    stands_kept at (Some from) None f h k s = (ap frame s.0, entered_same at ∙ s.1)
    stands_kept at None None f h k s = absurd s

    flow_same : (o : Op) (f : TypeFrame)
        → flow_after (renamed_op names o) (frame f) ≡ option_map frame (flow_after o f)
    flow_same o f = ap (λ (t : Bool). cond t None (Some (frame f))) (elsewhere_same names o) ∙ by (goes_elsewhere o)
      where
        by : (t : Bool) → cond t None (Some (frame f)) ≡ option_map frame (cond t None (Some f))
        by true = refl
        by false = refl

    flow_named : (o : Op) (f : TypeFrame) → Framed f → IfSome (flow_after o f) Framed
    flow_named o f named = by (goes_elsewhere o)
      where
        by : (t : Bool) → IfSome (cond t None (Some f)) Framed
        by true = tt
        by false = named

    abbrev flow_to : Option TypeFrame → Option TypeFrame
    flow_to o = option_map frame o

    pub are_typed : (at : ℕ) (flow : Option TypeFrame) (ins : List Ins) (frames : List TypeFrame)
        (behind : Option TypeFrame) → AllByRecursion (λ (j : Ins). IsOpNamed names a b i j.op) ins → IfSome flow Framed
        → AreInstructionsTyped a at flow ins frames behind
        → AreInstructionsTyped b at (flow_to flow) (map renewed ins) (map frame frames) (flow_to behind)
    are_typed at flow [] [] behind h named t = ap flow_to t
    are_typed at flow [] (f ∷ fs) behind h named t = absurd t
    are_typed at flow (j ∷ ins) [] behind h named t = absurd t
    are_typed at flow (j ∷ ins) (f ∷ fs) behind h named t =
        let framed = stands_named at flow (declared_frame_at a at) f named (declared_named at) t.0 in
        let step = subst (λ (r : Checked). Follows names a.classes b.classes i stay r
        (stepped b at (renamed_op names j.op) (frame f))) t.2
        (stepped_follows names a b i stay c at j.op f h.0 framed) in (
          subst (λ (d : Option TypeFrame). Stands b at (flow_to flow) d (frame f)) (sym (declared_same at))
              (stands_kept at flow (declared_frame_at a at) f named (declared_named at) t.0),
          frame t.1,
          step.0,
          fits_targets_kept j.op t.1 step.1 t.3,
          handlers_kept at f framed t.4,
          subst (λ (o : Option TypeFrame). AreInstructionsTyped b (at + 1) o (map renewed ins)
              (map frame fs) (flow_to behind)) (sym (flow_same j.op t.1))
              (are_typed (at + 1) (flow_after j.op t.1) ins fs behind h.1 (flow_named j.op t.1 step.1) t.5),
        )

    -- a code that is typed is so under new names
    pub is_typed : Typed a → Typed b
    is_typed t = (
      map frame t.0,
      subst (λ (f : TypeFrame). AreInstructionsTyped b 0 (Some f) b.code.ins (map frame t.0) None) (sym initial_same)
          (subst (λ (ins : List Ins). AreInstructionsTyped b 0 (Some (frame (initial_frame a))) ins
          (map frame t.0) None)
          (sym c.code.ins)
          (are_typed 0 (Some (initial_frame a)) a.code.ins t.0 None c.instructions initial_named t.1)),
    )
