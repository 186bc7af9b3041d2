-- A set in which methods get codes that name nothing more breaks no rule for links where it broke none.
use Rattle.std.proofs.Common.{◌≡◌, ℕ, zero, suc, ◌+◌, not, true, List, [], ◌∷◌, ◌++◌, length, map, Option}
use Rattle.std.proofs.Common.{Some, None, slice_get, refl, sym, ap, subst, ◌∙◌, codes}
use Rattle.std.specs.List.{AllByRecursion, AllZip, flat_map}
use Rattle.std.specs.Option.{option_map, option_map_or}
use Rattle.std.proofs.lemmas.Option.{slice_get-map, same_Some}
use Rattle.jv_base.proofs.Lists.{all_weaker, mapped_from, nil_parts, nil_joined}
use Rattle.class_model.specs.Flags.{is_left_out_class, is_native}
use Rattle.class_model.specs.declared.class.Class.{Class}
use Rattle.class_model.specs.declared.class.Field.{Field}
use Rattle.class_model.specs.declared.class.Method.{Method}
use Rattle.class_model.specs.declared.code.Code.{Code}
use Rattle.class_model.specs.declared.code.Handler.{Handler}
use Rattle.class_model.specs.declared.code.Ins.{Ins}
use Rattle.class_model.specs.declared.frame.FrameAt.{FrameAt}
use Rattle.class_model.specs.declared.frame.VType.{VType}
use Rattle.class_model.specs.declared.op.Op.{Op}
use Rattle.class_model.specs.declared.op.Op.TheVariants as op
use Rattle.class_pool.specs.declared.id.ClassId.TheVariants.{Prog}
use Rattle.link_check.specs.Profile.{body_kinds, code_kinds, declaration_kinds, frame_kinds, handler_kinds}
use Rattle.link_check.specs.Profile.{kinds_of_class, kinds_of_field, kinds_of_method, left_out_at}
use Rattle.link_check.specs.Profile.{name_kinds, op_kinds, overriding_kinds, unless}
use Rattle.link_check.specs.Profile.{verification_kinds}
use Rattle.link_check.specs.Taken.{BreaksNoRule}
use Rattle.link_check.specs.declared.fault.ProfileKind.{ProfileKind}
use Rattle.link_check.specs.declared.fault.ProfileKind.TheVariants.{LeftOutFlag}
use Rattle.link_check.proofs.Taken.{links_taken}
use Rattle.shape_laws.specs.Bare.{bare, bare_method}
use Rattle.swap_laws.specs.Laws.{SwapKeepsLinks}
use Rattle.edit_laws.specs.NamesNoMore.{IsCaughtIn, IsOpOf, names_nothing, plain, there}
use Rattle.swap_laws.specs.Swapped.{CodeSwaps, IsFrameOf, IsSwapped, IsTypeOf, NamesLess, NamesLessThan}
use Rattle.swap_laws.specs.Swapped.{in_locals, in_stack, top, uninit}
use Rattle.shape_laws.proofs.BareSets.{class_from, same}
use Rattle.swap_laws.proofs.LinkKinds as kinds
use Rattle.swap_laws.proofs.Places.{none_broken}

-- ---- lists

at_flat : {A B : Type 0} (f : A → List B) (xs : List A) → flat_map f xs ≡ [] → (k : ℕ) (x : A)
    → slice_get xs k ≡ Some x → f x ≡ []
at_flat f [] none k x is = absurd cc
at_flat f (y ∷ xs) none zero x is =
    subst (λ z. f z ≡ []) (same_Some y x is) (nil_parts (f y) (flat_map f xs) none).0
at_flat f (y ∷ xs) none (suc k) x is = at_flat f xs (nil_parts (f y) (flat_map f xs) none).1 k x is

all_flat : {A B : Type 0} (f : A → List B) (xs : List A) → AllByRecursion (λ x. f x ≡ []) xs → flat_map f xs ≡ []
all_flat f [] h = refl
all_flat f (x ∷ xs) h = nil_joined (f x) (flat_map f xs) h.0 (all_flat f xs h.1)

flat_parts : {A B : Type 0} (f : A → List B) (xs ys : List A) → flat_map f (xs ++ ys) ≡ []
    → (flat_map f xs ≡ []) × (flat_map f ys ≡ [])
flat_parts f [] ys h = (refl, h)
flat_parts f (x ∷ xs) ys h =
    let p = nil_parts (f x) (flat_map f (xs ++ ys)) h in
    let q = flat_parts f xs ys p.1 in
    (nil_joined (f x) (flat_map f xs) p.0 q.0, q.1)

flat_joined : {A B : Type 0} (f : A → List B) (xs ys : List A) → flat_map f xs ≡ [] → flat_map f ys ≡ []
    → flat_map f (xs ++ ys) ≡ []
flat_joined f [] ys h k = k
flat_joined f (x ∷ xs) ys h k =
    let p = nil_parts (f x) (flat_map f xs) h in
    nil_joined (f x) (flat_map f (xs ++ ys)) p.0 (flat_joined f xs ys p.1 k)

pub at_zip : {A B : Type 0} (R : A → B → Type 0) (xs : List A) (ys : List B) → AllZip R xs ys → (k : ℕ) (x : A) (y : B)
    → slice_get xs k ≡ Some x → slice_get ys k ≡ Some y → R x y
at_zip R [] ys h k x y one other = absurd cc
at_zip R (x ∷ xs) [] h k z y one other = absurd cc
at_zip R (x ∷ xs) (y ∷ ys) h zero z w one other =
    subst (λ v. R v w) (same_Some x z one) (subst (R x) (same_Some y w other) h.0)
at_zip R (x ∷ xs) (y ∷ ys) h (suc k) z w one other = at_zip R xs ys h.1 k z w one other

-- ---- codes

module _ (a : List Class) (n : ℕ) (method : List ℕ) where
  plain_op : (o : Op) → names_nothing o ≡ true → op_kinds a n method o ≡ []
  plain_op (op.GetStatic r) h = absurd cc
  plain_op (op.PutStatic r) h = absurd cc
  plain_op (op.GetField r) h = absurd cc
  plain_op (op.PutField r) h = absurd cc
  plain_op (op.InvokeVirtual r) h = absurd cc
  plain_op (op.InvokeSpecial r) h = absurd cc
  plain_op (op.InvokeStatic r) h = absurd cc
  plain_op (op.InvokeInterface r) h = absurd cc
  plain_op (op.New name) h = absurd cc
  plain_op (op.NewArray b) h = absurd cc
  plain_op (op.ANewArray ty) h = absurd cc
  plain_op (op.CheckCast ty) h = absurd cc
  plain_op (op.InstanceOf ty) h = absurd cc
  plain_op (op.MultiNewArray ty k) h = absurd cc
  plain_op o h = refl

  module _ (old new : Code) (none : code_kinds a n method old ≡ []) (no_more : NamesLess old new) where
    in_old : Ins → List ProfileKind
    in_old i = op_kinds a n method i.op

    front : (flat_map (λ (i : Ins). op_kinds a n method i.op) old.ins ≡ [])
        × (flat_map (handler_kinds a n) old.handlers ≡ [])
    front =
        nil_parts (flat_map (λ (i : Ins). op_kinds a n method i.op) old.ins)
        (flat_map (handler_kinds a n) old.handlers)
        (nil_parts (flat_map (λ (i : Ins). op_kinds a n method i.op) old.ins
        ++ flat_map (handler_kinds a n) old.handlers) (flat_map (frame_kinds a n) old.frames) none).0

    back : flat_map (frame_kinds a n) old.frames ≡ []
    back = (nil_parts (flat_map (λ (i : Ins). op_kinds a n method i.op) old.ins
        ++ flat_map (handler_kinds a n) old.handlers) (flat_map (frame_kinds a n) old.frames) none).1

    op_none : (o : Op) → IsOpOf old.ins o → op_kinds a n method o ≡ []
    op_none o (plain h) = plain_op o h
    op_none o (there k i at same) =
        subst (λ (p : Op). op_kinds a n method p ≡ []) same
        (at_flat (λ (j : Ins). op_kinds a n method j.op) old.ins front.0 k i at)

    handler_none : (h : Handler) → IsCaughtIn old.handlers h.caught → handler_kinds a n h ≡ []
    handler_none h (k, o, at, same) =
        ap (λ (c : Option (List ℕ)). option_map_or (name_kinds a n) c []) (sym same)
        ∙ at_flat (handler_kinds a n) old.handlers front.1 k o at

    type_none : (ty : VType) → IsTypeOf old.frames ty → verification_kinds a n ty ≡ []
    type_none ty (in_locals k j f at is) =
        let whole = at_flat (frame_kinds a n) old.frames back k f at in
        at_flat (verification_kinds a n) f.frame.locals
        (flat_parts (verification_kinds a n) f.frame.locals f.frame.stack whole).0 j ty is
    type_none ty (in_stack k j f at is) =
        let whole = at_flat (frame_kinds a n) old.frames back k f at in
        at_flat (verification_kinds a n) f.frame.stack
        (flat_parts (verification_kinds a n) f.frame.locals f.frame.stack whole).1 j ty is
    type_none ty (top is) = ap (verification_kinds a n) is
    type_none ty (uninit k is) = ap (verification_kinds a n) is

    types_none : (tys : List VType) → AllByRecursion (IsTypeOf old.frames) tys
        → flat_map (verification_kinds a n) tys ≡ []
    types_none tys h = all_flat (verification_kinds a n) tys
        (all_weaker (IsTypeOf old.frames) (λ ty. verification_kinds a n ty ≡ []) type_none tys h)

    frame_none : (f : FrameAt) → IsFrameOf old.frames f → frame_kinds a n f ≡ []
    frame_none f is = flat_joined (verification_kinds a n) f.frame.locals f.frame.stack
        (types_none f.frame.locals is.locals) (types_none f.frame.stack is.stack)

    pub code_none : code_kinds a n method new ≡ []
    code_none =
        nil_joined (flat_map (λ (i : Ins). op_kinds a n method i.op) new.ins
        ++ flat_map (handler_kinds a n) new.handlers) (flat_map (frame_kinds a n) new.frames)
        (nil_joined (flat_map (λ (i : Ins). op_kinds a n method i.op) new.ins)
        (flat_map (handler_kinds a n) new.handlers)
        (all_flat (λ (i : Ins). op_kinds a n method i.op) new.ins
        (all_weaker (λ (i : Ins). IsOpOf old.ins i.op) (λ (i : Ins). op_kinds a n method i.op ≡ [])
        (λ (i : Ins). op_none i.op) new.ins no_more.code.ins))
        (all_flat (handler_kinds a n) new.handlers
        (all_weaker (λ (h : Handler). IsCaughtIn old.handlers h.caught) (λ h. handler_kinds a n h ≡ []) handler_none new.handlers
        no_more.code.handlers)))
        (all_flat (frame_kinds a n) new.frames
        (all_weaker (IsFrameOf old.frames) (λ f. frame_kinds a n f ≡ []) frame_none new.frames no_more.frames))

-- ---- sets

pub method_from : (c e : Class) → bare e ≡ bare c → (k : ℕ) (m : Method) → slice_get e.methods k ≡ Some m
    → (o : Method) × (slice_get c.methods k ≡ Some o) × (bare_method m ≡ bare_method o)
method_from c e same k m at =
    mapped_from bare_method c.methods k (bare_method m)
    ((λ i. slice_get (sym same i).methods k) ∙ slice_get-map bare_method e.methods k ∙ ap (option_map bare_method) at)

module _ (a b : List Class) (swapped : IsSwapped a b) (right : BreaksNoRule a) where
  class_right : (n : ℕ) (e : Class) → slice_get b n ≡ Some e → kinds_of_class b n e ≡ []
  class_right n e at =
      let g = class_from a b swapped.alike n e at in
      same a b swapped.alike (λ s. kinds_of_class s n e)
      (λ s i. left_out_at e.left_out None ++ unless (not (is_left_out_class e.flags.0)) LeftOutFlag
      ++ flat_map (kinds.name_kinds_is s n i) (e.super_name ∷ e.interfaces) ++ kinds.implementing_kinds_is s n i e)
      ∙ (λ i. kinds_of_class a n (g.2 i))
      ∙ right.class n g.0 g.1

  field_right : (n : ℕ) (e : Class) (k : ℕ) (f : Field) → slice_get b n ≡ Some e → slice_get e.fields k ≡ Some f
      → kinds_of_field b n e k f ≡ []
  field_right n e k f at in_fields =
      let g = class_from a b swapped.alike n e at in
      same a b swapped.alike (λ s. kinds_of_field s n e k f)
      (λ s i. left_out_at e.left_out (Some k) ++ kinds.type_kinds_is s n i f.ty)
      ∙ (λ i. kinds_of_field a n (g.2 i) k f)
      ∙ right.field n g.0 k f g.1 (subst (λ (x : Class). slice_get x.fields k ≡ Some f) g.2 in_fields)

  -- of a method all but its code
  abbrev heads : List Class → ℕ → Class → ℕ → Method → List ProfileKind
  heads s n c j m = declaration_kinds s n c j m ++ body_kinds c m
      ++ overriding_kinds s n (record { class = Prog n; index = j })

  abbrev of_code : List Class → ℕ → List ℕ → Option Code → List ProfileKind
  of_code s n name code = option_map_or (code_kinds s n name) code []

  code_right : (n : ℕ) (name : List ℕ) (old new : Option Code) → NamesLessThan old new → of_code a n name old ≡ []
      → of_code a n name new ≡ []
  code_right n name (Some old) (Some new) no_more none = code_none a n name old new none no_more
  code_right n name None None no_more none = refl
  code_right n name (Some old) None no_more none = absurd no_more
  code_right n name None (Some new) no_more none = absurd no_more

  method_right : (n : ℕ) (e : Class) (k : ℕ) (m : Method) → slice_get b n ≡ Some e → slice_get e.methods k ≡ Some m
      → kinds_of_method b n e (length e.fields + k) m ≡ []
  method_right n e k m at in_methods =
      let g = class_from a b swapped.alike n e at in
      let h = method_from g.0 e g.2 k m in_methods in
      let none = nil_parts (heads a n g.0 (length g.0.fields + k) h.0) (of_code a n h.0.name h.0.code)
      (right.method n g.0 k h.0 g.1 h.1) in
      let j : ℕ = length e.fields + k in
      let head : heads b n e j m ≡ [] =
      same a b swapped.alike (λ s. heads s n e j m)
      (λ s i. left_out_at e.left_out (Some j) ++ unless (not (is_native m.flags.0)) LeftOutFlag
      ++ kinds.method_type_kinds_is s n i m.ty ++ flat_map (kinds.name_kinds_is s n i) m.throws
      ++ body_kinds e m ++ kinds.overriding_kinds_is s n i (record { class = Prog n; index = j }))
      ∙ (λ i. heads a n (g.2 i) (length (g.2 i).fields + k) (h.2 i)) ∙ none.0 in
      let code : of_code b n m.name m.code ≡ [] =
      same a b swapped.alike (λ s. of_code s n m.name m.code)
      (λ s i. option_map_or (kinds.code_kinds_is s n i m.name) m.code [])
      ∙ code_right n m.name h.0.code m.code (at_zip CodeSwaps g.0.methods e.methods (swapped.codes n g.0 e g.1 at) k h.0 m h.1 in_methods).no_more
      (subst (λ (name : List ℕ). of_code a n name h.0.code ≡ []) (λ i. (sym h.2 i).name) none.1) in
      nil_joined (heads b n e j m) (of_code b n m.name m.code) head code

  pub right_again : BreaksNoRule b
  right_again = record { class = class_right; field = field_right; method = method_right }

pub links_again : SwapKeepsLinks
links_again a b swapped ok = none_broken b (right_again a b swapped (links_taken a ok))
