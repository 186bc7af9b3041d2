-- Leaving out stores to slots that nothing loads meets the premise.
use Rattle.std.proofs.Common.{ℕ, ◌+◌, List, [], ◌∷◌, Option, Some, None, Bool, true, false, ◌≡◌}
use Rattle.std.proofs.Common.{◌≢◌, ◌⊎◌, inl, inr, refl, sym, ap, ◌∙◌, subst}
use Rattle.std.specs.Prelude.{ℤ, ◌==◌, map, slice_get, if◌then◌else◌}
use Rattle.std.specs.Int.{w32, int_wrapping_add}
use Rattle.std.specs.List.{AllByRecursion, AllZip, find}
use Rattle.std.specs.Option.{option_and_then, option_map}
use Rattle.class_model.specs.declared.code.Code.{Code}
use Rattle.class_model.specs.declared.code.Handler.{Handler}
use Rattle.class_model.specs.declared.code.Ins.{Ins}
use Rattle.class_model.specs.declared.op.ArithOp.{ArithOp}
use Rattle.class_model.specs.declared.op.ArithOp.TheVariants as arith
use Rattle.class_model.specs.declared.op.Case.{Case}
use Rattle.class_model.specs.declared.op.ConvOp.{ConvOp}
use Rattle.class_model.specs.declared.op.ConvOp.TheVariants as conv
use Rattle.class_model.specs.declared.op.Num.{Num}
use Rattle.class_model.specs.declared.op.Kind.{Kind}
use Rattle.class_model.specs.declared.op.Kind.TheVariants as kind
use Rattle.class_model.specs.declared.op.Op.{Op}
use Rattle.class_model.specs.declared.op.Op.TheVariants as op
use Rattle.jvm_model.specs.Instructions.{Stores, Incs, arithmetic, conversion, sort_of}
use Rattle.jvm_model.specs.Local.{after_inc, after_load, after_stack, after_store, by_instruction}
use Rattle.jvm_model.specs.Local.{by_sort, handler_for, handles}
use Rattle.jvm_model.specs.Mapped.{OptionCorr}
use Rattle.jvm_model.specs.Premise.{Effect, Enters, Meets, Premise, Turn, together}
use Rattle.jvm_model.specs.Same.{LineCorr}
use Rattle.jvm_model.specs.Stack.{◌>>=◌, dropped, one_word, top}
use Rattle.jvm_model.specs.State.{Body}
use Rattle.jvm_model.specs.Value.{Value, Int, Long, Null, Ref, Lit, as_int, as_kind, is_wide}
use Rattle.jvm_model.specs.Value.{set_at}
use Rattle.std.proofs.lemmas.Bool.Decides.{eqb_tells}
use Rattle.jvm_model.proofs.Compose.{line_refl}
use Rattle.edit_premises.specs.Aims.{CaseAims, OpAims}
use Rattle.edit_premises.specs.Cutting.{AreAlike, AtOne, CutIns, CutOp, Cuts, StackAlike, adds}
use Rattle.edit_premises.specs.Cutting.{pops, pushes, stays, stores}
use Rattle.code_edit.specs.Flow.{targets}
use Rattle.edit_premises.proofs.Aiming.{sorts_aim}
use Rattle.edit_premises.proofs.Effects.{GoOn, Locals, LocalsFit, body, sort_like}
use Rattle.edit_premises.proofs.Retargeting.{popped, ref_narrow}
use Rattle.code_edit.specs.Slots.{is_push, pop_of}

-- ---- what a pop takes

int_kind : (v y : Value) → as_kind kind.Int v ≡ Some y → is_wide v ≡ false
int_kind (Int z) y e = refl
int_kind (Long z) y e = absurd cc
int_kind Null y e = refl
int_kind (Ref n) y e = refl
int_kind (Lit u) y e = refl

long_kind : (v y : Value) → as_kind kind.Long v ≡ Some y → is_wide v ≡ true
long_kind (Int z) y e = absurd cc
long_kind (Long z) y e = refl
long_kind Null y e = absurd cc
long_kind (Ref n) y e = absurd cc
long_kind (Lit u) y e = absurd cc

popped_long : (v : Value) (s : List Value) → is_wide v ≡ true → dropped 2 (v ∷ s) ≡ Some s
popped_long v s h =
    ap
    (λ b.
    (if b then Some (v ∷ [], s) else
    (one_word s >>= (λ (p : List Value × List Value). Some (v ∷ p.0, p.1)))) >>= (λ
    (p : List Value × List Value). Some p.1)) h

module _ (c d : Code) (by : Cuts c d) where
  abbrev R : ℕ → Body → Body → Type 0
  R = AtOne by.loaded by.lost by.takes

  abbrev L : Locals → Locals → Type 0
  L = AreAlike by.loaded by.lost by.takes

  -- ---- locals

  own_alike : (a : Locals) → L a a
  own_alike a = record { equal = λ slot h. refl; ints = λ slot h i e. (i, e) }

  set_both : (a b : Locals) (slot : ℕ) (v : Value) → L a b
      → L (set_at a slot (Some v)) (set_at b slot (Some v))
  set_both a b slot v l = record {
    equal = λ x h. equal_by (x == slot) (b x) (a x) (l.equal x h);
    ints = λ x h i e. ints_by (x == slot) (a x) (b x) (l.ints x h) i e;
  }
    where
      equal_by : (t : Bool) (y z : Option Value) → y ≡ z
          → (if t then Some v else y) ≡ (if t then Some v else z)
      equal_by true y z e = refl
      equal_by false y z e = e

      ints_by : (t : Bool) (y z : Option Value)
          → ((i : ℤ) → option_and_then as_int y ≡ Some i → (j : ℤ)
          × (option_and_then as_int z ≡ Some j)) → (i : ℤ)
          → option_and_then as_int (if t then Some v else y) ≡ Some i
          → (j : ℤ) × (option_and_then as_int (if t then Some v else z) ≡ Some j)
      ints_by true y z h i e = (i, e)
      ints_by false y z h i e = h i e

  unequal : {P : Type 0} → true ≡ false → P
  unequal e = absurd cc

  -- a value in a slot of which nothing is promised
  set_lost : (a b : Locals) (slot : ℕ) (v : Value) → by.loaded slot ≡ false → by.lost slot ≡ true
      → L a b
      → L (set_at a slot (Some v)) b
  set_lost a b slot v u k l = record {
    equal = λ x h. equal_by x h (eqb_tells x slot);
    ints = λ x h i e. ints_by x h i (eqb_tells x slot) e;
  }
    where
      equal_by : (x : ℕ) → by.loaded x ≡ true → (((x == slot) ≡ true) × (x ≡ slot))
          ⊎ (((x == slot) ≡ false) × (x ≢ slot))
          → b x ≡ (if x == slot then Some v else a x)
      equal_by x h (inl q) = unequal (sym h ∙ ap by.loaded q.1 ∙ u)
      equal_by x h (inr q) = l.equal x h ∙ ap (λ t. if t then Some v else a x) (sym q.0)

      ints_by : (x : ℕ) → by.lost x ≡ false → (i : ℤ) → (((x == slot) ≡ true) × (x ≡ slot))
          ⊎ (((x == slot) ≡ false) × (x ≢ slot))
          → option_and_then as_int (if x == slot then Some v else a x) ≡ Some i → (j : ℤ)
          × (option_and_then as_int (b x) ≡ Some j)
      ints_by x h i (inl q) e = unequal (sym k ∙ ap by.lost (sym q.1) ∙ h)
      ints_by x h i (inr q) e =
          l.ints x h i (ap (λ t. option_and_then as_int (if t then Some v else a x)) (sym q.0) ∙ e)

  -- another int in a slot that isn't loaded
  set_added : (a b : Locals) (slot : ℕ) (old new : ℤ) → by.loaded slot ≡ false
      → option_and_then as_int (a slot) ≡ Some old → L a b
      → L (set_at a slot (Some (Int new))) b
  set_added a b slot old new u o l = record {
    equal = λ x h. equal_by x h (eqb_tells x slot);
    ints = λ x h i e. ints_by x h i (eqb_tells x slot) e;
  }
    where
      equal_by : (x : ℕ) → by.loaded x ≡ true → (((x == slot) ≡ true) × (x ≡ slot))
          ⊎ (((x == slot) ≡ false) × (x ≢ slot))
          → b x ≡ (if x == slot then Some (Int new) else a x)
      equal_by x h (inl q) = unequal (sym h ∙ ap by.loaded q.1 ∙ u)
      equal_by x h (inr q) = l.equal x h ∙ ap (λ t. if t then Some (Int new) else a x) (sym q.0)

      ints_by : (x : ℕ) → by.lost x ≡ false → (i : ℤ) → (((x == slot) ≡ true) × (x ≡ slot))
          ⊎ (((x == slot) ≡ false) × (x ≢ slot))
          → option_and_then as_int (if x == slot then Some (Int new) else a x) ≡ Some i → (j : ℤ)
          × (option_and_then as_int (b x) ≡ Some j)
      ints_by x h i (inl q) e = l.ints x h old (ap (λ y. option_and_then as_int (a y)) q.1 ∙ o)
      ints_by x h i (inr q) e =
          l.ints x h i (ap (λ t. option_and_then as_int (if t then Some (Int new) else a x))
          (sym q.0) ∙ e)

  -- ints in a slot that held ints, which were equal where it is loaded
  set_ints : (a b : Locals) (slot : ℕ) (y z : ℤ) → (by.loaded slot ≡ true → z ≡ y) → L a b
      → L (set_at a slot (Some (Int y))) (set_at b slot (Some (Int z)))
  set_ints a b slot y z u l = record {
    equal = λ x h. equal_by x h (eqb_tells x slot);
    ints = λ x h i e. ints_by (x == slot) (a x) (b x) (l.ints x h) i e;
  }
    where
      equal_by : (x : ℕ) → by.loaded x ≡ true → (((x == slot) ≡ true) × (x ≡ slot))
          ⊎ (((x == slot) ≡ false) × (x ≢ slot))
          → (if x == slot then Some (Int z) else b x) ≡ (if x == slot then Some (Int y) else a x)
      equal_by x h (inl q) = ap (λ t. if t then Some (Int z) else b x) q.0
          ∙ ap (λ n. Some (Int n)) (u (ap by.loaded (sym q.1) ∙ h))
          ∙ ap (λ t. if t then Some (Int y) else a x) (sym q.0)
      equal_by x h (inr q) = ap (λ t. if t then Some (Int z) else b x) q.0 ∙ l.equal x h
          ∙ ap (λ t. if t then Some (Int y) else a x) (sym q.0)

      ints_by : (t : Bool) (p q : Option Value)
          → ((i : ℤ) → option_and_then as_int p ≡ Some i → (j : ℤ)
          × (option_and_then as_int q ≡ Some j)) → (i : ℤ)
          → option_and_then as_int (if t then Some (Int y) else p) ≡ Some i
          → (j : ℤ) × (option_and_then as_int (if t then Some (Int z) else q) ≡ Some j)
      ints_by true p q h i e = (z, refl)
      ints_by false p q h i e = h i e

  -- ---- one instruction

  module _ (f : Body) (b : Locals) (l : L f.locals b) where
    -- the stacks are equal
    abbrev g : Body
    g = body f.at b f.stack

    after : (takes : by.takes (f.at + 1) ≡ false) → (a' b' : Locals) → L a' b' → (s : List Value)
        → (n : ℕ) × R n (body (f.at + 1) a' s) (body (f.at + 1) b' s)
    after t a' b' l' s = (
      0,
      (
        refl,
        l',
        subst (λ (x : Bool). StackAlike by.loaded by.lost by.takes x s s)
            (sym t) refl,
      ),
    )

    abbrev T : ℕ → ℕ → Type 0
    T t u = (u ≡ t) × (by.takes t ≡ false)

    went : by.takes (f.at + 1) ≡ false → GoOn R T (Unit {0}) L f.at f.at f.locals b l
    went t = record {
      next = λ n a' b' l' s. after t a' b' l' s;
      jump =
          λ x y e s. (
            0,
            (
              e.0,
              l,
              subst (λ (z : Bool). StackAlike by.loaded by.lost by.takes z s s)
                  (sym e.1) refl,
            ),
          );
    }

    fits_arith : (o : ArithOp) (n : Num) → LocalsFit R T (Unit {0}) L f.locals b (arithmetic o n)
    fits_arith arith.Add n = tt
    fits_arith arith.Sub n = tt
    fits_arith arith.Mul n = tt
    fits_arith arith.Div n = tt
    fits_arith arith.Rem n = tt

    fits_conv : (o : ConvOp) → LocalsFit R T (Unit {0}) L f.locals b (conversion o)
    fits_conv conv.I2l = tt
    fits_conv conv.L2i = tt
    fits_conv conv.I2b = tt
    fits_conv conv.I2c = tt
    fits_conv conv.I2s = tt

    fits : (o : Op) → ((k : Kind) (slot : ℕ) → o ≡ op.Load k slot → by.loaded slot ≡ true)
        → ((slot : ℕ) (z : ℤ) → o ≡ op.Inc slot z → by.lost slot ≡ false)
        → LocalsFit R T (Unit {0}) L f.locals b (sort_of o)
    fits (op.Load x slot) h k = l.equal slot (h x slot refl)
    fits (op.Store x slot) h k = λ v. set_both f.locals b slot v l
    fits (op.Inc slot z) h k = λ i e.
        let j = l.ints slot (k slot z refl) i e in (
          j.0,
          j.1,
          set_ints f.locals b slot (int_wrapping_add w32 i z) (int_wrapping_add w32 j.0 z)
              (λ u. let same : Some j.0 ≡ Some i = sym j.1
              ∙ ap (option_and_then as_int) (l.equal slot u) ∙ e in let same' : j.0 ≡ i = cc in
              ap (λ q. int_wrapping_add w32 q z) same') l,
        )
    fits (op.Arith o n) h k = fits_arith o n
    fits (op.Conv o) h k = fits_conv o
    fits (op.Return None) h k = tt
    fits (op.Return (Some x)) h k = tt
    fits o h k = tt

    -- an instruction that stays
    table_aims : (ts : List ℕ) → AllByRecursion (λ t. by.takes t ≡ false) ts → AllZip T ts ts
    table_aims [] h = tt
    table_aims (t ∷ ts) h = ((refl, h.0), table_aims ts h.1)

    case_aims : (cs : List Case)
        → AllByRecursion (λ t. by.takes t ≡ false) (map (λ (x : Case). x.to) cs)
        → AllZip (CaseAims T (Unit {0})) cs cs
    case_aims [] h = tt
    case_aims (x ∷ cs) h = ((refl, (refl, h.0)), case_aims cs h.1)

    own_aims : (o : Op) → AllByRecursion (λ t. by.takes t ≡ false) (targets o)
        → OpAims T (Unit {0}) o o
    own_aims (op.IfZero x t) h = (t, refl, (refl, h.0), tt)
    own_aims (op.IfCmp x t) h = (t, refl, (refl, h.0), tt)
    own_aims (op.IfRef x t) h = (t, refl, (refl, h.0), tt)
    own_aims (op.IfNull x t) h = (t, refl, (refl, h.0), tt)
    own_aims (op.Goto t) h = (t, refl, (refl, h.0))
    own_aims (op.TableSwitch low t ts) h = (t, ts, refl, (refl, h.0), table_aims ts h.1)
    own_aims (op.LookupSwitch t cs) h = (t, cs, refl, (refl, h.0), case_aims cs h.1)
    own_aims (op.Return x) h = refl
    own_aims op.Throw h = refl
    own_aims o h = (refl, tt)

    same_like : (o : Op) → AllByRecursion (λ t. by.takes t ≡ false) (targets o)
        → by.takes (f.at + 1) ≡ false
        → ((k : Kind) (slot : ℕ) → o ≡ op.Load k slot → by.loaded slot ≡ true)
        → ((slot : ℕ) (z : ℤ) → o ≡ op.Inc slot z → by.lost slot ≡ false)
        → Effect R f g (by_sort f (sort_of o)) (by_sort g (sort_of o))
    same_like o a t h k =
        sort_like R T (Unit {0}) L f.at f.at f.locals b l (went t) f.stack (sort_of o) (sort_of o)
        (sorts_aim T (Unit {0}) o o (own_aims o a)) (fits o h k)

    -- a push that goes
    pushed : by.takes (f.at + 1) ≡ true → (v : Value)
        → (n : ℕ) × R n (body (f.at + 1) f.locals (v ∷ f.stack)) (body (f.at + 1) b f.stack)
    pushed t v = (
      0,
      (
        refl,
        l,
        subst (λ (x : Bool). StackAlike by.loaded by.lost by.takes x (v ∷ f.stack) f.stack) (sym t)
            (v, refl),
      ),
    )

    loaded_like : by.takes (f.at + 1) ≡ true → (o : Option Value)
        → Effect R f g (after_load f o) (by_sort g (sort_of op.Nop))
    loaded_like t None = tt
    loaded_like t (Some v) = (_, refl, (pushed t v).0, (pushed t v).1)

    push_like : (o : Op) → is_push o ≡ true → by.takes (f.at + 1) ≡ true
        → Effect R f g (by_sort f (sort_of o)) (by_sort g (sort_of op.Nop))
    push_like op.PushNull e t = (_, refl, (pushed t Null).0, (pushed t Null).1)
    push_like (op.PushInt n) e t = (_, refl, (pushed t (Int n)).0, (pushed t (Int n)).1)
    push_like (op.PushLong n) e t = (_, refl, (pushed t (Long n)).0, (pushed t (Long n)).1)
    push_like (op.PushText u) e t = (_, refl, (pushed t (Lit u)).0, (pushed t (Lit u)).1)
    push_like (op.Load k x) e t = loaded_like t (option_and_then (as_kind k) (f.locals x))
    push_like o e t = absurd cc

    -- an addition that goes
    added_like : by.takes (f.at + 1) ≡ false → (slot : ℕ) (z : ℤ) → by.loaded slot ≡ false
        → (o : Option ℤ)
        → option_and_then as_int (f.locals slot) ≡ o
        → Effect R f g (after_inc f slot z o) (by_sort g (sort_of op.Nop))
    added_like t slot z u None e = tt
    added_like t slot z u (Some i) e =
        let r =
        after t _ b (set_added f.locals b slot i (int_wrapping_add w32 i z) u e l) f.stack in
        (_, refl, r.0, r.1)

    -- a store that becomes a pop
    module _ (t : by.takes (f.at + 1) ≡ false) (slot : ℕ) (u : by.loaded slot ≡ false)
        (w : by.lost slot ≡ true) where
      taken : (v : Value) (s : List Value) (o : Option (List Value)) → o ≡ Some s
          → Effect R f g (after_store f slot (Some (v, s))) (after_stack g o)
      taken v s o e =
          let r = after t _ b (set_lost f.locals b slot v u w l) s in
          subst (λ q. Effect R f g (after_store f slot (Some (v, s))) (after_stack g q)) (sym e)
          (_, refl, r.0, r.1)

      read_like : (n : ℕ) (v : Value) (s : List Value) (o : Option Value)
          → ((y : Value) → o ≡ Some y → dropped n (v ∷ s) ≡ Some s)
          → Effect R f g (after_store f slot (o >>= (λ y. Some (y, s))))
          (after_stack g (dropped n (v ∷ s)))
      read_like n v s None h = tt
      read_like n v s (Some y) h = taken y s (dropped n (v ∷ s)) (h y refl)

      store_like : (n : ℕ) (k : Kind)
          → ((v : Value) (s : List Value) (y : Value) → as_kind k v ≡ Some y
          → dropped n (v ∷ s) ≡ Some s)
          → (s : List Value)
          → Effect R f g (after_store f slot (top (as_kind k) s)) (after_stack g (dropped n s))
      store_like n k h [] = tt
      store_like n k h (v ∷ s) = read_like n v s (as_kind k v) (h v s)

      pop_like : (k : Kind)
          → Effect R f g (by_sort f (Stores k slot)) (by_sort g (sort_of (pop_of k)))
      pop_like kind.Int = store_like 1 kind.Int (λ v s y e. popped v s (int_kind v y e)) f.stack
      pop_like kind.Ref = store_like 1 kind.Ref (λ v s y e. popped v s (ref_narrow v y e)) f.stack
      pop_like kind.Long =
          store_like 2 kind.Long (λ v s y e. popped_long v s (long_kind v y e)) f.stack

    equal_like : (o o' : Op) → by.takes f.at ≡ false
        → AllByRecursion (λ t. by.takes t ≡ false) (targets o)
        → CutOp by.loaded by.lost by.takes f.at o o'
        → Effect R f g (by_sort f (sort_of o)) (by_sort g (sort_of o'))
    equal_like o o' t a (stays t' n e h k) =
        subst (λ q. Effect R f g (by_sort f (sort_of o)) (by_sort g (sort_of q))) (sym e)
        (same_like o a n h k)
    equal_like o o' t a (pushes t' n e q) =
        subst (λ q. Effect R f g (by_sort f (sort_of o)) (by_sort g (sort_of q))) (sym q)
        (push_like o e n)
    equal_like o o' t a (stores t' n k slot e u w q) = unequal (sym t' ∙ t)
    equal_like o o' t a (pops t' n k slot e u w q) =
        subst (λ p. Effect R f g (by_sort f (sort_of p)) (by_sort g (sort_of o'))) (sym e)
        (subst (λ p. Effect R f g (by_sort f (Stores k slot)) (by_sort g (sort_of p))) (sym q)
        (pop_like n slot u w k))
    equal_like o o' t a (adds t' n slot z e u q) =
        subst (λ p. Effect R f g (by_sort f (sort_of p)) (by_sort g (sort_of o'))) (sym e)
        (subst (λ p. Effect R f g (by_sort f (Incs slot z)) (by_sort g (sort_of p))) (sym q)
        (added_like n slot z u (option_and_then as_int (f.locals slot)) refl))

  -- a store that goes with the push before it
  module _ (f : Body) (b : Locals) (l : L f.locals b) (v : Value) (s : List Value)
      (e : f.stack ≡ v ∷ s) where
    abbrev under : Body
    under = body f.at b s

    gone : by.takes (f.at + 1) ≡ false → (slot : ℕ) → by.loaded slot ≡ false → by.lost slot ≡ true
        → (o : Option Value)
        → Effect R f under (after_store f slot (o >>= (λ y. Some (y, s))))
        (by_sort under (sort_of op.Nop))
    gone t slot u w None = tt
    gone t slot u w (Some y) = (
      _,
      refl,
      0,
      (
        refl,
        set_lost f.locals b slot y u w l,
        subst (λ (x : Bool). StackAlike by.loaded by.lost by.takes x s s) (sym t) refl,
      ),
    )

    under_like : (o o' : Op) → by.takes f.at ≡ true → CutOp by.loaded by.lost by.takes f.at o o'
        → Effect R f under (by_sort f (sort_of o)) (by_sort under (sort_of o'))
    under_like o o' t (stays t' n q h k) = unequal (sym t ∙ t')
    under_like o o' t (pushes t' n q p) = unequal (sym t ∙ t')
    under_like o o' t (pops t' n k slot q u w p) = unequal (sym t ∙ t')
    under_like o o' t (adds t' n slot z q u p) = unequal (sym t ∙ t')
    under_like o o' t (stores t' n k slot q u w p) =
        subst (λ x. Effect R f under (by_sort f (sort_of x)) (by_sort under (sort_of o'))) (sym q)
        (subst (λ x. Effect R f under (by_sort f (Stores k slot)) (by_sort under (sort_of x)))
        (sym p)
        (subst (λ (x : List Value). Effect R f under (after_store f slot (top (as_kind k) x))
        (by_sort under (sort_of op.Nop))) (sym e)
        (gone n slot u w (as_kind k v))))

  -- ---- both bodies

  lines : (at : ℕ) (a b : Option Ins) → OptionCorr (CutIns by.loaded by.lost by.takes at) a b
      → LineCorr (option_and_then (λ (i : Ins). i.line) a) (option_and_then (λ (i : Ins). i.line) b)
  lines at None b h =
      subst (λ q. LineCorr None (option_and_then (λ (i : Ins). i.line) q)) (sym h) tt
  lines at (Some i) b h = subst (λ q. LineCorr i.line (option_and_then (λ (i : Ins). i.line) q))
      (sym h.1)
      (subst (LineCorr i.line) (sym h.2.0) (line_refl i.line))

  enters : (f g : Body) → L f.locals g.locals → (i : List ℕ → Bool) (hs : List Handler)
      → AllByRecursion (λ (h : Handler). by.takes h.entry ≡ false) hs
      → Enters R f g (handler_for i f.at hs) (handler_for i f.at hs)
  enters f g l i [] z = refl
  enters f g l i (h ∷ hs) z =
      one (handles i f.at h) (find (handles i f.at) hs) (enters f g l i hs z.1)
    where
      one : (t : Bool) (o : Option Handler)
          → Enters R f g (option_map (λ (h : Handler). h.entry) o)
          (option_map (λ (h : Handler). h.entry) o)
          → Enters R f g (option_map (λ (h : Handler). h.entry) (if t then Some h else o))
          (option_map (λ (h : Handler). h.entry) (if t then Some h else o))
      one true o k = (
        h.entry,
        refl,
        λ x. (
          0,
          (
            refl,
            l,
            subst (λ (y : Bool). StackAlike by.loaded by.lost by.takes y (Ref x ∷ []) (Ref x ∷ []))
                (sym z.0) refl,
          ),
        ),
      )
      one false o k = k

  ins_like : (f g : Body) → ((o o' : Op) → AllByRecursion (λ t. by.takes t ≡ false) (targets o)
      → CutOp by.loaded by.lost by.takes f.at o o'
      → Effect R f g (by_sort f (sort_of o)) (by_sort g (sort_of o')))
      → (a x : Option Ins) → slice_get c.ins f.at ≡ a
      → OptionCorr (CutIns by.loaded by.lost by.takes f.at) a x
      → Effect R f g (by_instruction f a) (by_instruction g x)
  ins_like f g like None x e h = tt
  ins_like f g like (Some i) x e h =
      subst (λ q. Effect R f g (by_instruction f (Some i)) (by_instruction g q)) (sym h.1)
      (like i.op h.0.op (by.jump f.at i e) h.2.1)

  -- the new body is where the old one is
  meets : (f : Body) (b : Locals) (s : List Value) → L f.locals b
      → ((o o' : Op) → AllByRecursion (λ t. by.takes t ≡ false) (targets o)
      → CutOp by.loaded by.lost by.takes f.at o o'
      → Effect R f (body f.at b s) (by_sort f (sort_of o)) (by_sort (body f.at b s) (sort_of o')))
      → Meets R c d f (body f.at b s)
  meets f b s l like = record {
    line = lines f.at _ _ (by.ins f.at);
    caught =
        λ i. subst
        (λ hs. Enters R f (body f.at b s) (handler_for i f.at c.handlers) (handler_for i f.at hs))
        (sym by.handlers)
        (enters f (body f.at b s) l i c.handlers by.entry);
    effect = ins_like f (body f.at b s) like _ _ refl (by.ins f.at);
  }

  turn : (n : ℕ) (f : Body) (b : Locals) (s : List Value) → L f.locals b → (t : Bool)
      → by.takes f.at ≡ t
      → StackAlike by.loaded by.lost by.takes t f.stack s → Turn R c d n f (body f.at b s)
  turn n f b s l false t h =
      subst (λ q. Turn R c d n f (body f.at b q)) (sym h)
      (together (meets f b f.stack l (λ o o' a k. equal_like f b l o o' t a k)))
  turn n f b s l true t h =
      together (meets f b s l (λ o o' a k. under_like f b l h.0 s h.1 o o' t k))

  pub cuts_premise : Premise R c d
  cuts_premise = record {
    begins =
        λ args. (
          0,
          (
            refl,
            own_alike _,
            subst (λ (x : Bool). StackAlike by.loaded by.lost by.takes x [] [])
                (sym by.first) refl,
          ),
        );
    turn = λ n f g r. subst (λ q. Turn R c d n f (body q g.locals g.stack)) (sym r.0)
        (turn n f g.locals g.stack r.1 (by.takes f.at) refl r.2);
  }
