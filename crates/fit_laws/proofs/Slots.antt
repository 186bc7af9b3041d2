-- Local variables and words of the stack (JVMS 2.6.1, 2.11.1, 4.10.1.7).
use Rattle.class_model.specs.Frames.{words_of_type}
use Rattle.class_model.specs.declared.class.Class.{Class}
use Rattle.class_model.specs.declared.frame.VType.{VType}
use Rattle.class_model.specs.declared.op.Kind.{Kind}
use Rattle.fit_laws.proofs.Arguments.{at_first, elsewhere, top_fits}
use Rattle.fit_laws.proofs.Assigning.{assign_value}
use Rattle.fit_laws.proofs.Held.{IsHierarchy}
use Rattle.fit_laws.proofs.Lists.{some_same}
use Rattle.fit_laws.proofs.Sorts.{moves_to, taken_of}
use Rattle.fit_laws.proofs.Taking.{top_taken, object_taken}
use Rattle.fit_laws.proofs.Words.{doubled_fit, dropped_fit, swapped_fit}
use Rattle.fit_laws.specs.Answered.{FitsLocal}
use Rattle.fit_laws.specs.Frames.{Environs, FitsBody, FitsLocals, FitsSlot, FitsStack, Leads}
use Rattle.fit_laws.specs.Held.{is_held}
use Rattle.fit_laws.specs.Values.{FitsReference, FitsValue}
use Rattle.fit_laws.specs.Values.{throwable as thrown_type}
use Rattle.jvm_model.specs.Heap.{Object, World, string}
use Rattle.jvm_model.specs.Instructions.{Sort, OnStack, Loads, Stores, Incs, Throws}
use Rattle.jvm_model.specs.Local.{Moves, after_inc, after_load, after_stack, after_store}
use Rattle.jvm_model.specs.Local.{after_throw, by_sort, goes_on}
use Rattle.jvm_model.specs.Stack.{◌>>=◌, top}
use Rattle.jvm_model.specs.State.{Body}
use Rattle.jvm_model.specs.Value.{Key, Value, Int, Long, Null, Ref, Lit, as_int, as_kind, set_at}
use Rattle.std.proofs.Common.{false, ◌≡◌, ◌≢◌, ◌⊎◌, inl, inr, ⊎_elim, refl, sym, ap, ◌∙◌, subst}
use Rattle.std.proofs.Common.{slice_get, arith, ℕ, zero, suc, ◌+◌, List, [], ◌∷◌, Option}
use Rattle.std.proofs.Common.{Some, None, Bool, true, ℤ}
use Rattle.std.proofs.lemmas.Bool.{eqb-true}
use Rattle.std.specs.Int.{w32, int_wrapping_add}
use Rattle.std.specs.Option.{option_and_then}
use Rattle.std.specs.Prelude.{cond, nat_le, ◌==◌, Ok, Err, length, ◌-◌, slice_set}
use Rattle.type_verifier.proofs.TypedLaw.{bound}
use Rattle.type_verifier.specs.Assignable.{class_type, is_assignable, is_reference}
use Rattle.type_verifier.specs.Effects.{Checked, acted, counted_from, loaded_from, or_operand}
use Rattle.type_verifier.specs.Effects.{all_popped, cut_before}
use Rattle.type_verifier.specs.Effects.{popped, put_local}
use Rattle.type_verifier.specs.Effects.{pushed, stored_from, with_stack, words_of_kind}
use Rattle.type_verifier.specs.Environment.{Environment}
use Rattle.type_verifier.specs.Rules.{Assignable, Counts, Doubles, Drops, Swaps, Takes}
use Rattle.type_verifier.specs.Rules.{meets, moved, throwable}
use Rattle.type_verifier.specs.declared.fault.TypeKind.TheVariants.{Local as BadLocal, Operand}
use Rattle.type_verifier.specs.declared.fault.TypeKind.{TypeKind}
use Rattle.type_verifier.specs.declared.frame.TypeFrame.{TypeFrame}
use Rattle.class_model.specs.declared.frame.VType.TheVariants as vtype
use Rattle.class_model.specs.declared.op.Kind.TheVariants as kind
use Rattle.jvm_model.specs.Stack as machine
use Rattle.type_verifier.specs.Effects as checker
use Rattle.type_verifier.specs.Rules as rules

-- ---- slots

got_at : {A : Type 0} (xs : List A) (n : ℕ) (y : A) (m : ℕ) (x : A)
    → slice_get (slice_set xs n y) m ≡ Some x
    → ((m ≡ n) × (y ≡ x)) ⊎ ((m ≢ n) × (slice_get xs m ≡ Some x))
got_at [] n y m x e = absurd cc
got_at (z ∷ xs) zero y zero x e = inl (refl, some_same y x e)
got_at (z ∷ xs) zero y (suc m) x e = inr ((λ q. omega (arith, q)), e)
got_at (z ∷ xs) (suc n) y zero x e = inr ((λ q. omega (arith, q)), e)
got_at (z ∷ xs) (suc n) y (suc m) x e = ⊎_elim (λ p. inl (ap suc p.0, p.1))
    (λ p. inr ((λ q. p.0 (omega (arith, q))), p.1)) (got_at xs n y m x e)

module _ (env : Environment) (heap : List Object) where
  top_set : (ts : List VType) (n : ℕ) (locals : ℕ → Option Value) → FitsLocals env heap ts locals
      → FitsLocals env heap (slice_set ts n vtype.Top) locals
  top_set ts n locals x slot ty e = ⊎_elim
      (λ p. subst (λ (z : VType). FitsSlot env heap z (locals slot)) p.1
      (top_fits env heap (locals slot)))
      (λ p. x slot ty p.1) (got_at ts n vtype.Top slot ty e)

  value_set : (ts : List VType) (n : ℕ) (t : VType) (v : Value) (locals : ℕ → Option Value)
      → FitsLocals env heap ts locals
      → FitsValue env heap t v → FitsLocals env heap (slice_set ts n t) (set_at locals n (Some v))
  value_set ts n t v locals x y slot ty e = ⊎_elim
      (λ p. subst (λ (o : Option Value). FitsSlot env heap ty o)
      (sym (at_first env heap locals n slot v p.0))
      (subst (λ (z : VType). FitsValue env heap z v) p.1 y))
      (λ p. subst (λ (o : Option Value). FitsSlot env heap ty o)
      (sym (elsewhere env heap locals n slot (Some v) p.0))
      (x slot ty p.1))
      (got_at ts n t slot ty e)

  -- a value in a slot, and Top where that cuts a long
  pub put_local_fits : (slot : ℕ) (t : VType) (v : Value) (ts : List VType) (locals : ℕ
      → Option Value)
      → FitsLocals env heap ts locals → FitsValue env heap t v
      → FitsLocals env heap (put_local slot t ts) (set_at locals slot (Some v))
  put_local_fits slot t v ts locals x y = behind (words_of_type t == 2) where
    before : (c : Bool) → FitsLocals env heap (cond c (slice_set ts (slot - 1) vtype.Top) ts) locals
    before true = top_set ts (slot - 1) locals x
    before false = x

    set : FitsLocals env heap (slice_set (cut_before slot ts) slot t) (set_at locals slot (Some v))
    set = value_set (cut_before slot ts) slot t v locals (before _) y

    behind : (c : Bool)
        → FitsLocals env heap
        (cond c (slice_set (slice_set (cut_before slot ts) slot t) (slot + 1) vtype.Top)
        (slice_set (cut_before slot ts) slot t)) (set_at locals slot (Some v))
    behind true =
        top_set (slice_set (cut_before slot ts) slot t) (slot + 1) (set_at locals slot (Some v)) set
    behind false = set

module _ (env : Environment) (heap : List Object) (hierarchy : IsHierarchy env.classes) where
  pub reference_value : (ty : VType) (v : Value) → is_reference ty ≡ true → FitsValue env heap ty v
      → as_kind kind.Ref v ≡ Some v
  reference_value vtype.Top v e x = absurd cc
  reference_value vtype.Int v e x = absurd cc
  reference_value vtype.Long v e x = absurd cc
  reference_value vtype.Null v e x = subst (λ (z : Value). as_kind kind.Ref z ≡ Some z) (sym x) refl
  reference_value vtype.UninitThis v e x =
      subst (λ (z : Value). as_kind kind.Ref z ≡ Some z) (sym x.1) refl
  reference_value (vtype.Uninit at) v e x =
      subst (λ (z : Value). as_kind kind.Ref z ≡ Some z) (sym x.1) refl
  reference_value (vtype.Object ty) (Int z) e x = absurd x
  reference_value (vtype.Object ty) (Long z) e x = absurd x
  reference_value (vtype.Object ty) Null e x = refl
  reference_value (vtype.Object ty) (Ref n) e x = refl
  reference_value (vtype.Object ty) (Lit units) e x = refl

  int_value : (v : Value) → FitsValue env heap vtype.Int v → as_kind kind.Int v ≡ Some v
  int_value v x = subst (λ (z : Value). as_kind kind.Int z ≡ Some z) (sym x.1) refl

  long_value : (v : Value) → FitsValue env heap vtype.Long v → as_kind kind.Long v ≡ Some v
  long_value v x = subst (λ (z : Value). as_kind kind.Long z ≡ Some z) (sym x.1) refl

  -- a value of what an instruction moves is of its kind
  moved_value : (k : Kind) (ty : VType) (v : Value) → meets env.classes (moved k) ty ≡ true
      → FitsValue env heap ty v
      → as_kind k v ≡ Some v
  moved_value kind.Int ty v e x = int_value v (assign_value env heap hierarchy ty vtype.Int e v x)
  moved_value kind.Long ty v e x =
      long_value v (assign_value env heap hierarchy ty vtype.Long e v x)
  moved_value kind.Ref ty v e x = reference_value ty v e x

  no_top : (k : Kind) → meets env.classes (moved k) vtype.Top ≡ true → ⊥
  unfolding is_assignable
  no_top kind.Int e = cc
  no_top kind.Long e = cc
  no_top kind.Ref e = cc

  -- what may be counted is an int
  only_int : (ty : VType) → is_assignable env.classes ty vtype.Int ≡ true → ty ≡ vtype.Int
  unfolding is_assignable
  only_int vtype.Int e = refl
  only_int vtype.Top e = absurd cc
  only_int vtype.Long e = absurd cc
  only_int vtype.Null e = absurd cc
  only_int vtype.UninitThis e = absurd cc
  only_int (vtype.Uninit at) e = absurd cc
  only_int (vtype.Object ty) e = absurd cc

  -- the value of a slot that is moved
  slot_value : (k : Kind) (ty : VType) → meets env.classes (moved k) ty ≡ true → (o : Option Value)
      → FitsSlot env heap ty o
      → (v : Value) × (option_and_then (as_kind k) o ≡ Some v) × FitsValue env heap ty v
  slot_value k ty e None x =
      absurd (no_top k (subst (λ (t : VType). meets env.classes (moved k) t ≡ true) x e))
  slot_value k ty e (Some v) x = (v, moved_value k ty v e x, x)

met : (c : Bool) (x y : TypeFrame) (k : TypeKind)
    → (let R : Checked = cond c (Ok x) (Err k) in R) ≡ Ok y → (c ≡ true) × (x ≡ y)
met true x y k h = (refl, cc)
met false x y k h = absurd cc

module _ (classes : List Class) (w : World) (k : Key) (env : Environment)
    (is : Environs classes k env)
    (hierarchy : IsHierarchy env.classes) (b : Body) (f : TypeFrame) (x : FitsBody env w.heap f b)
  where
    abbrev Next : TypeFrame → Type 0
    Next after = Leads env.classes is.frames (b.at + 1) after

    abbrev Does : Sort → Type 0
    Does s = FitsLocal classes w k env is.frames b (by_sort b s)

    -- loads
    pub loads_fit : (kd : Kind) (slot : ℕ) (after : TypeFrame)
        → acted env b.at (rules.Loads kd slot) f ≡ Ok after → Next after
        → Does (Loads kd slot)
    loads_fit kd slot after h l = by (slice_get f.locals slot) refl h where
      by : (o : Option VType) → slice_get f.locals slot ≡ o
          → loaded_from env.classes (moved kd) f o ≡ Ok after → Does (Loads kd slot)
      by None e h = absurd cc
      by (Some ty) e h =
          let m = met (meets env.classes (moved kd) ty) (pushed ty f) after BadLocal h in
          let v = slot_value env w.heap hierarchy kd ty m.0 (b.locals slot) (x.locals slot ty e) in
          subst (λ (o : Option Value). FitsLocal classes w k env is.frames b (after_load b o))
          (sym v.1)
          (moves_to classes w k env is hierarchy b f x after (goes_on b (v.0 ∷ b.stack)) l
          (subst (λ (g : TypeFrame). FitsBody env w.heap g (goes_on b (v.0 ∷ b.stack))) m.1 (record {
            locals = x.locals;
            stack = (v.2, x.stack);
          })))

    -- stores
    pub stores_fit : (kd : Kind) (slot : ℕ) (after : TypeFrame)
        → acted env b.at (rules.Stores kd slot) f ≡ Ok after → Next after
        → Does (Stores kd slot)
    stores_fit kd slot after h l = room (nat_le (slot + words_of_kind kd) (length f.locals)) h where
      by : (ts : List VType) (s : List Value) → FitsStack env w.heap ts s
          → stored_from env.classes (moved kd) slot f ts ≡ Ok after
          → FitsLocal classes w k env is.frames b (after_store b slot (top (as_kind kd) s))
      by [] s y h = absurd cc
      by (ty ∷ ts) [] y h = absurd y
      by (ty ∷ ts) (v ∷ s) y h =
          let m = met (meets env.classes (moved kd) ty)
          (record { locals = put_local slot ty f.locals; stack = ts; marked = f.marked })
          after Operand h in
          subst (λ (o : Option Value). FitsLocal classes w k env is.frames b
          (after_store b slot (o >>= (λ z. Some (z, s)))))
          (sym (moved_value env w.heap hierarchy kd ty v m.0 y.0))
          (moves_to classes w k env is hierarchy b f x after
          (record b { at = b.at + 1; locals = set_at b.locals slot (Some v); stack = s }) l
          (subst (λ (g : TypeFrame). FitsBody env w.heap g
          (record b { at = b.at + 1; locals = set_at b.locals slot (Some v); stack = s })) m.1
          (record {
            locals = put_local_fits env w.heap slot ty v f.locals b.locals x.locals y.0;
            stack = y.1;
          })))

      room : (c : Bool)
          → (let R : Checked =
          cond c (stored_from env.classes (moved kd) slot f f.stack) (Err BadLocal) in R) ≡ Ok after
          → Does (Stores kd slot)
      room true h = by f.stack b.stack x.stack h
      room false h = absurd cc

    -- iinc
    pub incs_fit : (slot : ℕ) (z : ℤ) (after : TypeFrame) → acted env b.at (Counts slot) f ≡ Ok after
        → Next after
        → Does (Incs slot z)
    incs_fit slot z after h l = by (slice_get f.locals slot) refl h where
      kept : (n : ℤ) → slice_get f.locals slot ≡ Some vtype.Int
          → FitsLocals env w.heap f.locals (set_at b.locals slot (Some (Int n)))
      kept n e m ty q = choose (m == slot) refl where
        choose : (c : Bool) → (m == slot) ≡ c
            → FitsSlot env w.heap ty (set_at b.locals slot (Some (Int n)) m)
        choose true s = subst (λ (o : Option Value). FitsSlot env w.heap ty o)
            (sym (at_first env w.heap b.locals slot m (Int n) (eqb-true m slot s)))
            (subst (λ (t : VType). FitsValue env w.heap t (Int n))
            (some_same vtype.Int ty (sym e ∙ ap (slice_get f.locals) (sym (eqb-true m slot s)) ∙ q))
            (n, refl))
        choose false s = subst (λ (o : Option Value). FitsSlot env w.heap ty o)
            (ap (λ (c : Bool). cond c (Some (Int n)) (b.locals m)) (sym s)) (x.locals m ty q)

      counted : (o : Option Value) → slice_get f.locals slot ≡ Some vtype.Int
          → FitsSlot env w.heap vtype.Int o → f ≡ after
          → FitsLocal classes w k env is.frames b (after_inc b slot z (option_and_then as_int o))
      counted None e y q = absurd (no_int y) where
        no_int : vtype.Int ≡ vtype.Top → ⊥
        no_int e = cc
      counted (Some v) e y q =
          subst (λ (u : Value). FitsLocal classes w k env is.frames b
          (after_inc b slot z (as_int u))) (sym y.1)
          (moves_to classes w k env is hierarchy b f x after
          (record b {
            at = b.at + 1;
            locals =
                set_at b.locals slot (Some (Int (int_wrapping_add w32 y.0 z)));
          }) l
          (subst (λ (g : TypeFrame). FitsBody env w.heap g
          (record b {
            at = b.at + 1;
            locals =
                set_at b.locals slot (Some (Int (int_wrapping_add w32 y.0 z)));
          })) q (record {
            locals = kept (int_wrapping_add w32 y.0 z) e;
            stack = x.stack;
          })))

      by : (o : Option VType) → slice_get f.locals slot ≡ o → counted_from env.classes f o ≡ Ok after
          → Does (Incs slot z)
      by None e h = absurd cc
      by (Some ty) e h =
          let m = met (meets env.classes (Assignable vtype.Int) ty) f after BadLocal h in
          let t = only_int env w.heap hierarchy ty m.0 in
          let q = e ∙ ap (λ (u : VType). Some u) t in
          counted (b.locals slot) q (x.locals slot vtype.Int q) m.1

    -- words
    or_there : (o : Option (List VType)) (after : TypeFrame) → or_operand f o ≡ Ok after
        → (ts : List VType) × (o ≡ Some ts) × (with_stack f ts ≡ after)
    or_there None after h = absurd cc
    or_there (Some ts) after h = (ts, refl, cc)

    other_stack : (ts : List VType) (s : List Value) (after : TypeFrame) → FitsStack env w.heap ts s
        → with_stack f ts ≡ after
        → Next after → FitsLocal classes w k env is.frames b (Moves (goes_on b s))
    other_stack ts s after y e l = moves_to classes w k env is hierarchy b f x after (goes_on b s) l
        (subst (λ (g : TypeFrame). FitsBody env w.heap g (goes_on b s)) e
        (record { locals = x.locals; stack = y }))

    pub drops_fit : (n : ℕ) (after : TypeFrame) → acted env b.at (Drops n) f ≡ Ok after → Next after
        → Does (OnStack (machine.dropped n))
    drops_fit n after h l =
        let t = or_there (checker.dropped n f.stack) after h in
        let r = dropped_fit env w.heap n f.stack t.0 t.1 b.stack x.stack in
        subst (λ (o : Option (List Value)). FitsLocal classes w k env is.frames b (after_stack b o))
        (sym r.1)
        (other_stack t.0 r.0 after r.2 t.2 l)

    pub doubles_fit : (n m : ℕ) (after : TypeFrame) → acted env b.at (Doubles n m) f ≡ Ok after
        → Next after
        → Does (OnStack (machine.doubled n m))
    doubles_fit n m after h l =
        let t = or_there (checker.doubled n m f.stack) after h in
        let r = doubled_fit env w.heap n m f.stack t.0 t.1 b.stack x.stack in
        subst (λ (o : Option (List Value)). FitsLocal classes w k env is.frames b (after_stack b o))
        (sym r.1)
        (other_stack t.0 r.0 after r.2 t.2 l)

    pub swaps_fit : (after : TypeFrame) → acted env b.at Swaps f ≡ Ok after → Next after
        → Does (OnStack machine.swapped)
    swaps_fit after h l =
        let t = or_there (checker.swapped f.stack) after h in
        let r = swapped_fit env w.heap f.stack t.0 t.1 b.stack x.stack in
        subst (λ (o : Option (List Value)). FitsLocal classes w k env is.frames b (after_stack b o)) (sym r.1)
        (other_stack t.0 r.0 after r.2 t.2 l)

    -- athrow
    pub throws_fit : (after : TypeFrame)
        → is_held env.classes (class_type string) thrown_type ≡ false
        → acted env b.at (Takes (Assignable throwable ∷ []) None) f ≡ Ok after → Does Throws
    throws_fit after never h =
        let t = taken_of env (Assignable throwable ∷ []) None f after b.at h in
        let m = bound (checker.popped env.classes (Assignable throwable) f)
        (checker.all_popped env.classes []) t.0 t.1 in
        let r = top_taken env w.heap (Assignable throwable) (as_kind kind.Ref)
        (FitsReference env.classes w.heap _)
        (object_taken env w.heap hierarchy thrown_type) f m.0 b.stack
        x.stack m.1 in
        subst (λ (o : Option (Value × List Value)). FitsLocal classes w k env is.frames b
        (after_throw o)) (sym r.reads)
        (record {
          fits = subst
              (λ (c : List Class). FitsReference c w.heap thrown_type
              r.value) is.classes_are r.holds;
          no_text =
              λ units e. both _ never
              (subst (λ (v : Value). FitsReference env.classes w.heap
              thrown_type v) e r.holds);
        })
      where
        both : (c : Bool) → c ≡ false → c ≡ true → ⊥
        both c e f = cc
