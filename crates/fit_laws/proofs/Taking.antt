-- What a rule takes from the stack of types, a reader takes from the stack of values.
use Rattle.std.proofs.Common.{ℤ, List, [], ◌∷◌, Option, Some, Bool, true, false, ◌≡◌, refl, sym, ap}
use Rattle.std.proofs.Common.{◌∙◌, subst}
use Rattle.std.specs.Prelude.{cond, Ok, Err}
use Rattle.jv_base.specs.declared.types.FieldType.{FieldType}
use Rattle.class_model.specs.declared.frame.VType.{VType}
use Rattle.class_model.specs.declared.frame.VType.TheVariants as vtype
use Rattle.class_model.specs.declared.op.Kind.TheVariants as kind
use Rattle.jvm_model.specs.Heap.{Object}
use Rattle.jvm_model.specs.Stack.{◌>>=◌, Reader, one, top, two, three, with}
use Rattle.jvm_model.specs.Value.{Value, Int, Long, Null, Ref, Lit, as_int, as_kind}
use Rattle.type_verifier.specs.declared.fault.TypeKind.TheVariants.{Operand}
use Rattle.type_verifier.specs.declared.frame.TypeFrame.{TypeFrame}
use Rattle.type_verifier.specs.Effects.{Checked, all_popped, popped, popped_from, with_stack}
use Rattle.type_verifier.specs.Environment.{Environment}
use Rattle.type_verifier.specs.Rules.{Assignable, Wanted, meets}
use Rattle.type_verifier.proofs.TypedLaw.{bound}
use Rattle.fit_laws.specs.Frames.{FitsStack}
use Rattle.fit_laws.specs.Values.{FitsReference, FitsValue}
use Rattle.fit_laws.proofs.Assigning.{assign_value}
use Rattle.fit_laws.proofs.Held.{IsHierarchy}

module _ (env : Environment) (heap : List Object) where
  -- a value that is wanted is read, and this holds of what is read
  abbrev pub TakesOne : {A : Type 0} → Wanted → (Value → Option A) → (A → Type 0) → Type 0
  TakesOne w read P = (t : VType) (v : Value) → meets env.classes w t ≡ true
      → FitsValue env heap t v
      → (x : _) × (read v ≡ Some x) × P x

  -- values were read, and are gone from both stacks
  pub record Took {A : Type 0} (read : Reader A) (P : A → Type 0) (f g : TypeFrame)
      (s : List Value) : Type 0 where
    pub value : A
    pub rest : List Value
    pub reads : read s ≡ Some (value, rest)
    pub holds : P value
    pub fits : FitsStack env heap g.stack rest
    pub locals : g.locals ≡ f.locals

  -- what is wanted is read
  abbrev pub Reads : {A : Type 0} → List Wanted → Reader A → (A → Type 0) → Type 0
  Reads wanted read P = (f g : TypeFrame) (s : List Value) → FitsStack env heap f.stack s
      → all_popped env.classes wanted f ≡ Ok g → Took read P f g s

  picked : (c : Bool) (f g : TypeFrame) (ts : List VType)
      → (let R : Checked = cond c (Ok (with_stack f ts)) (Err Operand) in R) ≡ Ok g
      → (c ≡ true) × (g ≡ with_stack f ts)
  picked true f g ts h = (refl, sym cc)
  picked false f g ts h = absurd cc

  top_of : {A : Type 0} (w : Wanted) (read : Value → Option A) (P : A → Type 0) → TakesOne w read P
      → (f g : TypeFrame)
      (ts : List VType) (s : List Value) → FitsStack env heap ts s
      → popped_from env.classes w f ts ≡ Ok g
      → Took (top read) P f g s
  top_of w read P t f g [] s x h = absurd cc
  top_of w read P t f g (ty ∷ ts) [] x h = absurd x
  top_of w read P t f g (ty ∷ ts) (v ∷ s) x h =
      let p = picked (meets env.classes w ty) f g ts h in
      let r = t ty v p.0 x.0 in
      record {
        value = r.0;
        rest = s;
        reads = ap (λ (o : Option _). o >>= (λ y. Some (y, s))) r.1;
        holds = r.2;
        fits = subst (λ (k : TypeFrame). FitsStack env heap k.stack s) (sym p.1) x.1;
        locals = ap (λ (k : TypeFrame). k.locals) p.1;
      }

  pub top_taken : {A : Type 0} (w : Wanted) (read : Value → Option A) (P : A → Type 0)
      → TakesOne w read P → (f g : TypeFrame)
      (s : List Value) → FitsStack env heap f.stack s → popped env.classes w f ≡ Ok g
      → Took (top read) P f g s
  top_taken w read P t f g s x h = top_of w read P t f g f.stack s x h

  pub with_reads : {X : Type 0} (Q : X → Type 0) (x : X) → Q x → Reads [] (with x) Q
  with_reads Q x q f g s y h = record {
    value = x;
    rest = s;
    reads = refl;
    holds = q;
    fits = subst (λ (k : TypeFrame). FitsStack env heap k.stack s) (same h) y;
    locals = ap (λ (k : TypeFrame). k.locals) (sym (same h));
  } where
    same : (let R : Checked = Ok f in R) ≡ Ok g → f ≡ g
    same h = cc

  pub one_reads : {A X : Type 0} (w : Wanted) (read : Value → Option A) (P : A → Type 0)
      → TakesOne w read P
      → (fn : A → X) (Q : X → Type 0) → ((x : A) → P x → Q (fn x)) → Reads (w ∷ []) (one read fn) Q
  one_reads w read P t fn Q q f g s y h =
      let m = bound (popped env.classes w f) (all_popped env.classes []) g h in
      let k = top_taken w read P t f m.0 s y m.1 in
      let e = same m.0 g m.2 in
      record {
        value = fn k.value;
        rest = k.rest;
        reads = ap (λ (o : Option _). o >>= (λ p. Some (fn p.0, p.1))) k.reads;
        holds = q k.value k.holds;
        fits = subst (λ (z : TypeFrame). FitsStack env heap z.stack k.rest) e k.fits;
        locals = ap (λ (z : TypeFrame). z.locals) (sym e) ∙ k.locals;
      }
    where
      same : (m g : TypeFrame) → (let R : Checked = Ok m in R) ≡ Ok g → m ≡ g
      same m g h = cc

  pub two_reads : {A B X : Type 0} (w1 w2 : Wanted) (read1 : Value → Option A) (read2 : Value
      → Option B) (P1 : A → Type 0)
      (P2 : B → Type 0) → TakesOne w1 read1 P1 → TakesOne w2 read2 P2
      → (fn : A → B → X) (Q : X → Type 0)
      → ((x : A) (y : B) → P1 x → P2 y → Q (fn x y)) → Reads (w2 ∷ w1 ∷ []) (two read1 read2 fn) Q
  two_reads w1 w2 read1 read2 P1 P2 t1 t2 fn Q q f g s y h =
      let m = bound (popped env.classes w2 f) (all_popped env.classes (w1 ∷ [])) g h in
      let k = top_taken w2 read2 P2 t2 f m.0 s y m.1 in
      let l = one_reads w1 read1 P1 t1 (λ x. fn x k.value) Q (λ x p. q x k.value p k.holds) m.0 g
      k.rest k.fits m.2 in
      record {
        value = l.value;
        rest = l.rest;
        reads = ap (λ (o : Option _). o >>= (λ u. top read1 u.1 >>= (λ p. Some (fn p.0 u.0, p.1))))
            k.reads ∙ l.reads;
        holds = l.holds;
        fits = l.fits;
        locals = l.locals ∙ k.locals;
      }

  pub three_reads : {A B C X : Type 0} (w1 w2 w3 : Wanted) (read1 : Value
      → Option A) (read2 : Value → Option B)
      (read3 : Value → Option C) (P1 : A → Type 0) (P2 : B → Type 0) (P3 : C → Type 0)
      → TakesOne w1 read1 P1
      → TakesOne w2 read2 P2 → TakesOne w3 read3 P3 → (fn : A → B → C → X) (Q : X → Type 0)
      → ((x : A) (y : B) (z : C) → P1 x → P2 y → P3 z → Q (fn x y z))
      → Reads (w3 ∷ w2 ∷ w1 ∷ []) (three read1 read2 read3 fn) Q
  three_reads w1 w2 w3 read1 read2 read3 P1 P2 P3 t1 t2 t3 fn Q q f g s y h =
      let m = bound (popped env.classes w3 f) (all_popped env.classes (w2 ∷ w1 ∷ [])) g h in
      let k = top_taken w3 read3 P3 t3 f m.0 s y m.1 in
      let l = two_reads w1 w2 read1 read2 P1 P2 t1 t2 (λ x z. fn x z k.value) Q
      (λ x z p r. q x z k.value p r k.holds)
      m.0 g k.rest k.fits m.2 in
      record {
        value = l.value;
        rest = l.rest;
        reads = ap (λ (o : Option _). o >>=
            (λ r. top read2 r.1 >>= (λ u. top read1 u.1 >>= (λ p. Some (fn p.0 u.0 r.0, p.1)))))
            k.reads ∙ l.reads;
        holds = l.holds;
        fits = l.fits;
        locals = l.locals ∙ k.locals;
      }

-- ---- values of a kind

module _ (env : Environment) (heap : List Object) (hierarchy : IsHierarchy env.classes) where
  pub int_of : (v : Value) → FitsValue env heap vtype.Int v → (x : ℤ) × (as_int v ≡ Some x)
      × Unit {0}
  int_of (Int z) x = (z, refl, tt)
  int_of (Long z) x = absurd cc
  int_of Null x = absurd cc
  int_of (Ref n) x = absurd cc
  int_of (Lit units) x = absurd cc

  pub int_taken : TakesOne env heap (Assignable vtype.Int) as_int (λ z. Unit {0})
  int_taken t v m x = int_of v (assign_value env heap hierarchy t vtype.Int m v x)

  reference_of : (ty : FieldType) (v : Value) → FitsReference env.classes heap ty v
      → (x : Value) × (as_kind kind.Ref v ≡ Some x) × FitsReference env.classes heap ty x
  reference_of ty (Int z) x = absurd x
  reference_of ty (Long z) x = absurd x
  reference_of ty Null x = (Null, refl, x)
  reference_of ty (Ref n) x = (Ref n, refl, x)
  reference_of ty (Lit units) x = (Lit units, refl, x)

  pub object_taken : (ty : FieldType)
      → TakesOne env heap (Assignable (vtype.Object ty)) (as_kind kind.Ref)
      (FitsReference env.classes heap ty)
  object_taken ty t v m x =
      reference_of ty v (assign_value env heap hierarchy t (vtype.Object ty) m v x)
