-- Going past gotos meets the premise.
use Rattle.std.proofs.Common.{ℕ, zero, suc, ◌+◌, List, [], ◌∷◌, Option, Some, None, Bool, true}
use Rattle.std.proofs.Common.{false, ◌≡◌, refl, sym, ap, ◌∙◌, subst, arith}
use Rattle.std.specs.Prelude.{ℤ, if◌then◌else◌}
use Rattle.std.specs.Option.{option_and_then}
use Rattle.class_model.specs.declared.code.Code.{Code}
use Rattle.class_model.specs.declared.code.Ins.{Ins}
use Rattle.class_model.specs.declared.op.Kind.TheVariants as kind
use Rattle.class_model.specs.declared.op.Op.{Op}
use Rattle.class_model.specs.declared.op.Op.TheVariants as op
use Rattle.jvm_model.specs.Instructions.{Sort, OnStack, Loads, Stores, Incs, Jumps, Asks, Leaves}
use Rattle.jvm_model.specs.Instructions.{Throws, jump_if, sort_of}
use Rattle.jvm_model.specs.Local.{after_jump, after_stack, by_instruction, by_sort, handler_for}
use Rattle.jvm_model.specs.Mapped.{OptionCorr}
use Rattle.jvm_model.specs.Premise.{Effect, Enters, Meets, Premise, Turn, alone, together}
use Rattle.jvm_model.specs.Same.{LineCorr}
use Rattle.jvm_model.specs.Stack.{◌>>=◌, dropped, one, top, two}
use Rattle.jvm_model.specs.State.{Body}
use Rattle.jvm_model.specs.Value.{Value, Int, Long, Null, Ref, Lit, as_int, as_kind, is_wide}
use Rattle.jvm_model.proofs.Compose.{line_refl}
use Rattle.edit_premises.specs.Aims.{OpAims}
use Rattle.edit_premises.specs.Retargets.{Before, Falls, InsRetargeted, Retargeted, Retargets}
use Rattle.edit_premises.specs.Retargets.{falls, goes_past}
use Rattle.edit_premises.proofs.Aiming.{sorts_aim}
use Rattle.edit_premises.proofs.Effects.{GoOn, LocalsFit, body, sort_like}
use Rattle.code_edit.specs.Jumps.{LeadsTo}

-- ---- operands that are dropped

pub int_narrow : (v : Value) (z : ℤ) → as_int v ≡ Some z → is_wide v ≡ false
int_narrow (Int y) z e = refl
int_narrow (Long y) z e = absurd cc
int_narrow Null z e = refl
int_narrow (Ref n) z e = refl
int_narrow (Lit u) z e = refl

pub ref_narrow : (v w : Value) → as_kind kind.Ref v ≡ Some w → is_wide v ≡ false
ref_narrow (Int y) z e = refl
ref_narrow (Long y) z e = absurd cc
ref_narrow Null z e = refl
ref_narrow (Ref n) z e = refl
ref_narrow (Lit u) z e = refl

pub popped : (v : Value) (s : List Value) → is_wide v ≡ false → dropped 1 (v ∷ s) ≡ Some s
popped v s h =
    ap (λ b. (if b then None else Some (v ∷ [], s)) >>= (λ (p : List Value × List Value). Some p.1))
    h

pub popped_two : (v w : Value) (s : List Value) → is_wide v ≡ false → is_wide w ≡ false
    → dropped 2 (v ∷ w ∷ s) ≡ Some s
popped_two v w s h k =
    ap
    (λ b.
    (if b then Some (v ∷ [], w ∷ s) else
    ((if is_wide w then None else Some (w ∷ [], s)) >>=
    (λ (p : List Value × List Value). Some (v ∷ p.0, p.1)))) >>= (λ (p : List Value
    × List Value). Some p.1)) h
    ∙ ap
    (λ b.
    ((if b then None else Some (w ∷ [], s)) >>=
    (λ (p : List Value × List Value). Some (v ∷ p.0, p.1))) >>= (λ (p : List Value
    × List Value). Some p.1)) k

module _ (c d : Code) (by : Retargets c d) where
  went : (f : Body)
      → GoOn (Before c) (LeadsTo c) (Unit {0}) (λ a b. b ≡ a) f.at f.at f.locals f.locals refl
  went f = record {
    next = λ n a b e s. (0, (refl, λ i. body (f.at + 1) (e i) s));
    jump = λ t u e s. (e.0, (e.1, refl));
  }

  fits : (f : Body) (s : Sort)
      → LocalsFit (Before c) (LeadsTo c) (Unit {0}) (λ a b. b ≡ a) f.locals f.locals s
  fits f (OnStack g) = tt
  fits f (Loads k x) = refl
  fits f (Stores k x) = λ v. refl
  fits f (Incs x z) = λ i e. (i, e, refl)
  fits f (Jumps g) = tt
  fits f (Asks g) = tt
  fits f (Leaves g) = tt
  fits f Throws = tt

  past : (f : Body) (o o' : Op) → OpAims (LeadsTo c) (Unit {0}) o o'
      → Effect (Before c) f f (by_sort f (sort_of o)) (by_sort f (sort_of o'))
  past f o o' h =
      sort_like (Before c) (LeadsTo c) (Unit {0}) (λ a b. b ≡ a) f.at f.at f.locals f.locals refl
      (went f) f.stack
      (sort_of o) (sort_of o') (sorts_aim (LeadsTo c) (Unit {0}) o o' h) (fits f (sort_of o))

  module _ (f : Body) (t : ℕ) (l : LeadsTo c t (f.at + 1)) where
    either : (b : Bool) (s : List Value) (o : Option (List Value)) → o ≡ Some s
        → Effect (Before c) f f (after_jump f (Some (jump_if b t, s))) (after_stack f o)
    either true s o e =
        subst (λ q. Effect (Before c) f f (after_jump f (Some (Some t, s))) (after_stack f q))
        (sym e) (_, refl, l.0, (l.1, refl))
    either false s o e =
        subst (λ q. Effect (Before c) f f (after_jump f (Some (None, s))) (after_stack f q)) (sym e)
        (_, refl, 0, (refl, refl))

    module _ {A : Type 0} (read : Value → Option A) (narrow : (v : Value) (x : A) → read v ≡ Some x
        → is_wide v ≡ false) where
      one_read : (test : A → Bool) (v : Value) (s : List Value) (o : Option A) → read v ≡ o
          → Effect (Before c) f f
          (after_jump f
          ((o >>= (λ x. Some (x, s))) >>=
          (λ (p : A × List Value). Some (jump_if (test p.0) t, p.1))))
          (after_stack f (dropped 1 (v ∷ s)))
      one_read test v s None e = tt
      one_read test v s (Some x) e =
          either (test x) s (dropped 1 (v ∷ s)) (popped v s (narrow v x e))

      one_falls : (test : A → Bool) (s : List Value)
          → Effect (Before c) f f (after_jump f (one read (λ a. jump_if (test a) t) s))
          (after_stack f (dropped 1 s))
      one_falls test [] = tt
      one_falls test (v ∷ s) = one_read test v s (read v) refl

      second_read : (test : A → A → Bool) (v : Value) (x : A) → read v ≡ Some x
          → (s : List Value) (w : Value) (o : Option A) → read w ≡ o
          → Effect (Before c) f f
          (after_jump f
          ((o >>= (λ y. Some (y, s))) >>=
          (λ (p : A × List Value). Some (jump_if (test p.0 x) t, p.1))))
          (after_stack f (dropped 2 (v ∷ w ∷ s)))
      second_read test v x e s w None k = tt
      second_read test v x e s w (Some y) k =
          either (test y x) s (dropped 2 (v ∷ w ∷ s))
          (popped_two v w s (narrow v x e) (narrow w y k))

      first_read : (test : A → A → Bool) (v : Value) (s : List Value) (o : Option A) → read v ≡ o
          → Effect (Before c) f f
          (after_jump f
          ((o >>= (λ x. Some (x, s))) >>=
          (λ (q : A × List Value). top read q.1 >>=
          (λ (p : A × List Value). Some (jump_if (test p.0 q.0) t, p.1)))))
          (after_stack f (dropped 2 (v ∷ s)))
      first_read test v s None e = tt
      first_read test v [] (Some x) e = tt
      first_read test v (w ∷ s) (Some x) e = second_read test v x e s w (read w) refl

      two_falls : (test : A → A → Bool) (s : List Value)
          → Effect (Before c) f f (after_jump f (two read read (λ a b. jump_if (test a b) t) s))
          (after_stack f (dropped 2 s))
      two_falls test [] = tt
      two_falls test (v ∷ s) = first_read test v s (read v) refl

  in_place : (f : Body) (o o' p : Op) → o' ≡ p
      → Effect (Before c) f f (by_sort f (sort_of o)) (by_sort f (sort_of p))
      → Effect (Before c) f f (by_sort f (sort_of o)) (by_sort f (sort_of o'))
  in_place f o o' p e h =
      subst (λ q. Effect (Before c) f f (by_sort f (sort_of o)) (by_sort f (sort_of q))) (sym e) h

  falls_on : (f : Body) (o o' : Op) → Falls c f.at o o'
      → Effect (Before c) f f (by_sort f (sort_of o)) (by_sort f (sort_of o'))
  falls_on f (op.Goto t) o' h = in_place f (op.Goto t) o' op.Nop h.1 (_, refl, h.0.0, (h.0.1, refl))
  falls_on f (op.IfZero x t) o' h =
      in_place f (op.IfZero x t) o' op.Pop h.1 (one_falls f t h.0 as_int int_narrow _ f.stack)
  falls_on f (op.IfNull x t) o' h =
      in_place f (op.IfNull x t) o' op.Pop h.1
      (one_falls f t h.0 (as_kind kind.Ref) ref_narrow _ f.stack)
  falls_on f (op.IfCmp x t) o' h =
      in_place f (op.IfCmp x t) o' op.Pop2 h.1 (two_falls f t h.0 as_int int_narrow _ f.stack)
  falls_on f (op.IfRef x t) o' h =
      in_place f (op.IfRef x t) o' op.Pop2 h.1
      (two_falls f t h.0 (as_kind kind.Ref) ref_narrow _ f.stack)
  falls_on f o o' h = absurd h

  turned : (f : Body) (o o' : Op) → Retargeted c f.at o o'
      → Effect (Before c) f f (by_sort f (sort_of o)) (by_sort f (sort_of o'))
  turned f o o' (goes_past h) = past f o o' h
  turned f o o' (falls h) = falls_on f o o' h

  at_like : (f : Body) (a b : Option Ins) → OptionCorr (InsRetargeted c f.at) a b
      → Effect (Before c) f f (by_instruction f a) (by_instruction f b)
  at_like f None b h = tt
  at_like f (Some i) b h =
      subst (λ q. Effect (Before c) f f (by_instruction f (Some i)) (by_instruction f q)) (sym h.1)
      (turned f i.op h.0.op h.2.1)

  lines : (at : ℕ) (a b : Option Ins) → OptionCorr (InsRetargeted c at) a b
      → LineCorr (option_and_then (λ (i : Ins). i.line) a) (option_and_then (λ (i : Ins). i.line) b)
  lines at None b h =
      subst (λ q. LineCorr None (option_and_then (λ (i : Ins). i.line) q)) (sym h) tt
  lines at (Some i) b h = subst (λ q. LineCorr i.line (option_and_then (λ (i : Ins). i.line) q))
      (sym h.1) (subst (LineCorr i.line) (sym h.2.0) (line_refl i.line))

  enters : (f : Body) (o : Option ℕ) → Enters (Before c) f f o o
  enters f None = refl
  enters f (Some h) = (h, refl, λ x. (0, (refl, refl)))

  meets : (f : Body) → Meets (Before c) c d f f
  meets f = record {
    line = lines f.at _ _ (by.ins f.at);
    caught =
        λ i. subst
        (λ hs. Enters (Before c) f f (handler_for i f.at c.handlers) (handler_for i f.at hs))
        (sym by.handlers) (enters f _);
    effect = at_like f _ _ (by.ins f.at);
  }

  turn : (n : ℕ) (f g : Body) → Before c n f g → Turn (Before c) c d n f g
  turn zero f g r =
      let same : f ≡ g = ap (λ i. record f { at = i }) r.0 ∙ sym r.1 in
      subst (Turn (Before c) c d zero f) same (together (meets f))
  turn (suc n) f g r =
      alone (record f { at = r.0.1 }) (ap (by_instruction f) r.0.2
      ∙ ap (λ o. by_sort f (sort_of o)) r.0.3) n (r.0.4, r.1) (omega arith)

  pub retargets_premise : Premise (Before c) c d
  retargets_premise = record { begins = λ args. (0, (refl, refl)); turn = turn }
