-- A constructor is called: all copies of its object are initialised (JVMS 4.10.1.9.invokespecial).
use Rattle.std.proofs.lemmas.Bool.{eq-eqb, or_cases, eqb-true}
use Rattle.jv_base.proofs.Equality.{same_text}
use Rattle.fit_laws.proofs.Assigning.{held_reference}
use Rattle.class_model.specs.declared.frame.VType.{VType}
use Rattle.fit_laws.proofs.Held.{IsHierarchy}
use Rattle.fit_laws.proofs.Lists.{some_same}
use Rattle.fit_laws.specs.Frames.{FitsLocals, FitsSlot, FitsStack}
use Rattle.fit_laws.specs.Held.{is_held, is_there}
use Rattle.fit_laws.specs.Values.{FitsReference, FitsValue, IsMadeAt, is_whole}
use Rattle.jv_base.proofs.Lists.{mapped_from}
use Rattle.jv_base.specs.Names.{is_text}
use Rattle.jv_base.specs.declared.types.FieldType.{FieldType}
use Rattle.jvm_model.specs.Heap.{Object, Instance, Array, Str, Builder, string, type_of}
use Rattle.jvm_model.specs.Value.{Value, Ref}
use Rattle.std.proofs.Common.{false, ◌≡◌, ⊎_elim, refl, sym, ap, ◌∙◌, subst}
use Rattle.std.proofs.Common.{not, ◌&&◌, ℕ, List, [], ◌∷◌}
use Rattle.std.proofs.Common.{Option, Some, None, Bool, true}
use Rattle.std.specs.Prelude.{cond, Ok, not, Err}
use Rattle.type_verifier.specs.Assignable.{class_type, is_assignable}
use Rattle.type_verifier.specs.Effects.{Checked}
use Rattle.type_verifier.specs.Effects.{class_made_at, initialised, is_copy}
use Rattle.type_verifier.specs.Effects.{substituted, new_initialised}
use Rattle.type_verifier.specs.Effects.{object_initialised}
use Rattle.type_verifier.specs.Environment.{Environment, own_type}
use Rattle.type_verifier.specs.Members.{is_class_type, is_own_or_super}
use Rattle.type_verifier.specs.Rules.{class_of}
use Rattle.type_verifier.specs.declared.fault.TypeKind.TheVariants.{Protected, Uninit}
use Rattle.type_verifier.specs.declared.fault.TypeKind.{TypeKind}
use Rattle.type_verifier.specs.declared.frame.TypeFrame.{TypeFrame}
use Rattle.class_model.specs.declared.frame.VType.TheVariants as vtype
use Rattle.jv_base.specs.declared.types.Base.TheVariants as base

-- ---- a constructor was called

module _ (env : Environment) (heap : List Object) where
  -- each value of a type fits another type in place of it
  abbrev pub Becomes : VType → VType → Type 0
  Becomes old new = (t : VType) → is_copy old t ≡ true → (v : Value) → FitsValue env heap t v
      → FitsValue env heap new v

  one_becomes : (old new : VType) → Becomes old new → (t : VType) (v : Value)
      → FitsValue env heap t v → (c : Bool)
      → is_copy old t ≡ c → FitsValue env heap (cond c new t) v
  one_becomes old new y t v x true e = y t e v x
  one_becomes old new y t v x false e = x

  no_top : (old : VType) → is_copy old vtype.Top ≡ false
  no_top vtype.Top = refl
  no_top vtype.Int = refl
  no_top vtype.Long = refl
  no_top vtype.Null = refl
  no_top vtype.UninitThis = refl
  no_top (vtype.Object ty) = refl
  no_top (vtype.Uninit at) = refl

  slot_becomes : (old new : VType) → Becomes old new → (t : VType) (o : Option Value)
      → FitsSlot env heap t o
      → FitsSlot env heap (cond (is_copy old t) new t) o
  slot_becomes old new y t None x = subst (λ (z : VType). cond (is_copy old z) new z ≡ vtype.Top)
      (sym x)
      (ap (λ (c : Bool). cond c new vtype.Top) (no_top old))
  slot_becomes old new y t (Some v) x = one_becomes old new y t v x (is_copy old t) refl

  pub stack_becomes : (old new : VType) → Becomes old new → (ts : List VType) (s : List Value)
      → FitsStack env heap ts s
      → FitsStack env heap (substituted old new ts) s
  stack_becomes old new y [] [] x = x
  stack_becomes old new y [] (v ∷ s) x = x
  stack_becomes old new y (t ∷ ts) [] x = x
  stack_becomes old new y (t ∷ ts) (v ∷ s) x =
      (one_becomes old new y t v x.0 (is_copy old t) refl, stack_becomes old new y ts s x.1)

  pub locals_become : (old new : VType) → Becomes old new
      → (ts : List VType) (locals : ℕ → Option Value)
      → FitsLocals env heap ts locals → FitsLocals env heap (substituted old new ts) locals
  locals_become old new y ts locals x slot ty e =
      let m = mapped_from (λ t. cond (is_copy old t) new t) ts slot ty e in
      subst (λ (z : VType). FitsSlot env heap z (locals slot)) (sym m.2)
      (slot_becomes old new y m.0 (locals slot) (x slot m.0 m.1))

  -- `this` becomes an object of the own class
  pub this_becomes : Becomes vtype.UninitThis (own_type env)
  this_becomes vtype.UninitThis e v x = x.2
  this_becomes vtype.Top e v x = absurd cc
  this_becomes vtype.Int e v x = absurd cc
  this_becomes vtype.Long e v x = absurd cc
  this_becomes vtype.Null e v x = absurd cc
  this_becomes (vtype.Object ty) e v x = absurd cc
  this_becomes (vtype.Uninit at) e v x = absurd cc

  -- what a New made becomes an object of its class, which isn't that of strings
  whole_of : (name : List ℕ) → is_text name string ≡ false → (o : Object)
      → type_of o ≡ class_type name → is_whole o ≡ true
  whole_of name n (Instance class fields message cause) e =
      ap not (subst (λ (c : List ℕ). is_text c string ≡ false) (sym (name_is class name e)) n)
    where
      name_is : (c d : List ℕ) → class_type c ≡ class_type d → c ≡ d
      name_is c d e = base_is c d (ap (λ (t : FieldType). t.base) e)
        where
          base_is : (c d : List ℕ) → base.Class c ≡ base.Class d → c ≡ d
          base_is c d e = cc
  whole_of name n (Array component values) e = refl
  whole_of name n (Str units) e = refl
  whole_of name n (Builder units) e = refl

  pub made_becomes : (at : ℕ) (name : List ℕ) → class_made_at env.code at ≡ Some name
      → is_text name string ≡ false
      → is_there env.classes (class_type name) ≡ true
      → is_held env.classes (class_type name) (class_type name) ≡ true
      → Becomes (vtype.Uninit at) (class_of name)
  made_becomes at name c n there self (vtype.Uninit m) e v x =
      subst (λ (z : Value). FitsReference env.classes heap (class_type name) z)
      (sym x.1) (
        made.object,
        made.there,
        record {
          whole = whole_of name n made.object type;
          there = subst (λ (t : FieldType). is_there env.classes t ≡ true) (sym type) there;
          held = subst (λ (t : FieldType). is_held env.classes t (class_type name) ≡ true)
              (sym type) self;
        },
      )
    where
      made : IsMadeAt env heap at x.0
      made = subst (λ (i : ℕ). IsMadeAt env heap i x.0) (sym (eqb-true at m e)) x.2

      type : type_of made.object ≡ class_type name
      type = made.type ∙ ap class_type (some_same made.name name (sym made.new ∙ c))
  made_becomes at name c n there self vtype.Top e v x = absurd cc
  made_becomes at name c n there self vtype.Int e v x = absurd cc
  made_becomes at name c n there self vtype.Long e v x = absurd cc
  made_becomes at name c n there self vtype.Null e v x = absurd cc
  made_becomes at name c n there self vtype.UninitThis e v x = absurd cc
  made_becomes at name c n there self (vtype.Object ty) e v x = absurd cc

-- ---- a constructor is called

chosen : (c : Bool) (x y : TypeFrame) (k : TypeKind)
    → (let R : Checked = cond c (Ok x) (Err k) in R) ≡ Ok y → (c ≡ true) × (x ≡ y)
chosen true x y k h = (refl, cc)
chosen false x y k h = absurd cc

refused : (c : Bool) (r : Checked) (y : TypeFrame) (k : TypeKind)
    → (let R : Checked = cond c (Err k) r in R) ≡ Ok y → r ≡ Ok y
refused true r y k h = absurd cc
refused false r y k h = h

module _ (env : Environment) (heap : List Object) (hierarchy : IsHierarchy env.classes)
    (super : is_held env.classes (class_type env.class.name) (class_type env.class.super_name) ≡ true)
    (name : List ℕ) (no_string : is_text name string ≡ false)
    (there : is_there env.classes (class_type name) ≡ true) where
  -- The object that a constructor of a class is called on, below the arguments, and the body that waits: it fits what
  -- comes behind already, since the object was of its class from the beginning.
  pub record IsCalledOn (after : TypeFrame) (locals : ℕ → Option Value) (s : List Value) : Type 0 where
    pub number : ℕ
    pub rest : List Value
    pub stack : s ≡ Ref number ∷ rest
    pub receiver : FitsReference env.classes heap (class_type name) (Ref number)
    pub fits_locals : FitsLocals env heap after.locals locals
    pub fits_stack : FitsStack env heap after.stack rest

  called_on : (old new : VType) (marked : Bool) → Becomes env heap old new → (f after : TypeFrame)
      (stack : List VType) → initialised env old new marked f stack ≡ after
      → (locals : ℕ → Option Value) → FitsLocals env heap f.locals locals → (n : ℕ) (v : Value) → v ≡ Ref n
      → FitsReference env.classes heap (class_type name) v → (s : List Value)
      → FitsStack env heap stack s → IsCalledOn after locals (v ∷ s)
  called_on old new marked y f after stack e locals l n v q r s x = record {
    number = n;
    rest = s;
    stack = ap (λ (z : Value). z ∷ s) q;
    receiver = subst (λ (z : Value). FitsReference env.classes heap (class_type name) z) q r;
    fits_locals = subst (λ (z : TypeFrame). FitsLocals env heap z.locals locals) e
        (locals_become env heap old new y f.locals locals l);
    fits_stack = subst (λ (z : TypeFrame). FitsStack env heap z.stack s) e
        (stack_becomes env heap old new y stack s x);
  }

  -- `this` is of the own class, so of the superclass too
  own_or_super : is_own_or_super env (class_type name) ≡ true → (v : Value)
      → FitsReference env.classes heap (class_type env.class.name) v
      → FitsReference env.classes heap (class_type name) v
  own_or_super h v x = ⊎_elim
      (λ e. subst (λ (c : List ℕ). FitsReference env.classes heap (class_type c) v)
      (same_text env.class.name name e) x)
      (λ e. subst (λ (c : List ℕ). FitsReference env.classes heap (class_type c) v)
      (same_text env.class.super_name name e)
      (held_reference env.classes heap hierarchy (class_type env.class.name) (class_type env.class.super_name) super v
      x))
      (or_cases (is_text env.class.name name) (is_text env.class.super_name name) h)

  of_new : (at : ℕ) (guarded : Bool) (o : Option (List ℕ)) → class_made_at env.code at ≡ o
      → (f after : TypeFrame) (stack : List VType)
      → new_initialised env at (class_type name) guarded o f stack ≡ Ok after
      → (locals : ℕ → Option Value) → FitsLocals env heap f.locals locals → (v : Value)
      → FitsValue env heap (vtype.Uninit at) v → (s : List Value) → FitsStack env heap stack s
      → IsCalledOn after locals (v ∷ s)
  of_new at guarded None e f after stack h locals l v x s y = absurd cc
  of_new at guarded (Some made) e f after stack h locals l v x s y =
      let p = chosen (is_class_type made (class_type name))
      (initialised env (vtype.Uninit at) (class_of made) f.marked f stack) after Uninit
      (refused (guarded && not (is_assignable env.classes (class_of made) (own_type env))) _ after Protected h) in
      by (same_text made name p.0) p.1
    where
      by : made ≡ name → initialised env (vtype.Uninit at) (class_of made) f.marked f stack ≡ after
          → IsCalledOn after locals (v ∷ s)
      by same q = called_on (vtype.Uninit at) (class_of made) f.marked becomes f after stack q locals l x.0 v x.1
          (subst (λ (c : List ℕ). FitsReference env.classes heap (class_type c) v) same
          (becomes (vtype.Uninit at) (eq-eqb at at refl) v x)) s y
        where
          becomes : Becomes env heap (vtype.Uninit at) (class_of made)
          becomes = made_becomes env heap at made e
              (subst (λ (c : List ℕ). is_text c string ≡ false) (sym same) no_string)
              (subst (λ (c : List ℕ). is_there env.classes (class_type c) ≡ true) (sym same) there)
              (subst (λ (c : List ℕ). is_held env.classes (class_type c) (class_type c) ≡ true) (sym same)
              (hierarchy.itself (class_type name) there))

  pub constructor_called : (guarded : Bool) (f after : TypeFrame) (ts : List VType)
      → object_initialised env (class_type name) guarded f ts ≡ Ok after → (locals : ℕ → Option Value)
      → FitsLocals env heap f.locals locals → (s : List Value) → FitsStack env heap ts s
      → IsCalledOn after locals s
  constructor_called guarded f after [] h locals l s x = absurd cc
  constructor_called guarded f after (t ∷ ts) h locals l [] x = absurd x
  constructor_called guarded f after (vtype.UninitThis ∷ ts) h locals l (v ∷ s) x =
      let p = chosen (is_own_or_super env (class_type name))
      (initialised env vtype.UninitThis (own_type env) false f ts) after Uninit h in
      called_on vtype.UninitThis (own_type env) false (this_becomes env heap) f after ts p.1 locals l x.0.0 v x.0.1
      (own_or_super p.0 v x.0.2) s x.1
  constructor_called guarded f after (vtype.Uninit at ∷ ts) h locals l (v ∷ s) x =
      of_new at guarded (class_made_at env.code at) refl f after ts h locals l v x.0 s x.1
  constructor_called guarded f after (vtype.Top ∷ ts) h locals l (v ∷ s) x = absurd cc
  constructor_called guarded f after (vtype.Int ∷ ts) h locals l (v ∷ s) x = absurd cc
  constructor_called guarded f after (vtype.Long ∷ ts) h locals l (v ∷ s) x = absurd cc
  constructor_called guarded f after (vtype.Null ∷ ts) h locals l (v ∷ s) x = absurd cc
  constructor_called guarded f after (vtype.Object ty ∷ ts) h locals l (v ∷ s) x = absurd cc
