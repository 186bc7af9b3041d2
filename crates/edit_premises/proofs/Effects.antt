-- Two bodies at like instructions have like effects.
use Rattle.std.proofs.Common.{ℕ, ◌+◌, List, ◌∷◌, Option, Some, None, ◌≡◌, refl, sym, subst}
use Rattle.std.specs.Prelude.{ℤ}
use Rattle.std.specs.Int.{w32, int_wrapping_add}
use Rattle.std.specs.Option.{option_and_then, unwrap_or}
use Rattle.class_model.specs.declared.op.Kind.TheVariants as kind
use Rattle.jvm_model.specs.Instructions.{Request, Sort, OnStack, Loads, Stores, Incs, Jumps, Asks}
use Rattle.jvm_model.specs.Instructions.{Leaves, Throws}
use Rattle.jvm_model.specs.Local.{after_ask, after_inc, after_jump, after_leave, after_load}
use Rattle.jvm_model.specs.Local.{after_stack, after_store}
use Rattle.jvm_model.specs.Local.{after_throw, by_sort, resumed, with_stack}
use Rattle.jvm_model.specs.Premise.{Effect}
use Rattle.jvm_model.specs.Stack.{top}
use Rattle.jvm_model.specs.State.{Body}
use Rattle.jvm_model.specs.Value.{Value, Int, as_int, as_kind, set_at}
use Rattle.edit_premises.specs.Aims.{PlaceAims, ReadAims, SortAims}

abbrev pub Locals : Type 0
Locals = ℕ → Option Value

abbrev pub body : ℕ → Locals → List Value → Body
body at l s = record { at = at; locals = l; stack = s }

module _ (R : ℕ → Body → Body → Type 0) (T : ℕ → ℕ → Type 0) (N : Type 0) (L : Locals → Locals
    → Type 0) where
  -- what an instruction of a sort owes of the locals
  abbrev pub LocalsFit : Locals → Locals → Sort → Type 0
  LocalsFit a b (Loads k x) = b x ≡ a x
  LocalsFit a b (Stores k x) = (v : Value) → L (set_at a x (Some v)) (set_at b x (Some v))
  LocalsFit a b (Incs x z) = (i : ℤ) → option_and_then as_int (a x) ≡ Some i
      → (j : ℤ) × (option_and_then as_int (b x) ≡ Some j)
      × L (set_at a x (Some (Int (int_wrapping_add w32 i z))))
      (set_at b x (Some (Int (int_wrapping_add w32 j z))))
  LocalsFit a b s = Unit {0}

  module _ (at here : ℕ) (a b : Locals) (l : L a b) where
    -- where control goes, the bodies are related
    pub record GoOn : Type 0 where
      pub next : N → (a' b' : Locals) → L a' b' → (s : List Value) → (n : ℕ)
          × R n (body (at + 1) a' s) (body (here + 1) b' s)
      pub jump : (t u : ℕ) → T t u → (s : List Value) → (n : ℕ) × R n (body t a s) (body u b s)

    module _ (go : GoOn) (st : List Value) where
      abbrev f : Body
      f = body at a st

      abbrev g : Body
      g = body here b st

      stack_like : N → (o : Option (List Value)) → Effect R f g (after_stack f o) (after_stack g o)
      stack_like n None = tt
      stack_like n (Some s) = let r = go.next n a b l s in (_, refl, r.0, r.1)

      load_like : N → (o : Option Value) → Effect R f g (after_load f o) (after_load g o)
      load_like n None = tt
      load_like n (Some v) = let r = go.next n a b l (v ∷ st) in (_, refl, r.0, r.1)

      store_like : N → (x : ℕ) → ((v : Value) → L (set_at a x (Some v)) (set_at b x (Some v)))
          → (o : Option (Value × List Value)) → Effect R f g (after_store f x o) (after_store g x o)
      store_like n x h None = tt
      store_like n x h (Some p) = let r = go.next n _ _ (h p.0) p.1 in (_, refl, r.0, r.1)

      inc_like : N → (x : ℕ) (z : ℤ) (p q : Option ℤ)
          → ((i : ℤ) → p ≡ Some i → (j : ℤ) × (q ≡ Some j)
          × L (set_at a x (Some (Int (int_wrapping_add w32 i z))))
          (set_at b x (Some (Int (int_wrapping_add w32 j z)))))
          → Effect R f g (after_inc f x z p) (after_inc g x z q)
      inc_like n x z None q h = tt
      inc_like n x z (Some i) q h =
          let k = h i refl in
          let r = go.next n _ _ k.2 st in
          subst (λ o. Effect R f g (after_inc f x z (Some i)) (after_inc g x z o)) (sym k.1)
          (_, refl, r.0, r.1)

      place_like : (s : List Value) (o o' : Option ℕ) → PlaceAims T N o o'
          → (n : ℕ) × R n (body (unwrap_or o (at + 1)) a s) (body (unwrap_or o' (here + 1)) b s)
      place_like s None o' h =
          subst (λ q. (n : ℕ) × R n (body (at + 1) a s) (body (unwrap_or q (here + 1)) b s))
          (sym h.0)
          (go.next h.1 a b l s)
      place_like s (Some t) o' h =
          subst (λ q. (n : ℕ) × R n (body t a s) (body (unwrap_or q (here + 1)) b s)) (sym h.1)
          (go.jump t h.0 h.2 s)

      jump_like : (o o' : Option (Option ℕ × List Value)) → ReadAims T N o o'
          → Effect R f g (after_jump f o) (after_jump g o')
      jump_like None o' h = tt
      jump_like (Some p) o' h =
          let r = place_like p.1 p.0 h.0 h.2 in
          subst (λ q. Effect R f g (after_jump f (Some p)) (after_jump g q)) (sym h.1)
          (_, refl, r.0, r.1)

      back_like : N → (s : List Value) (o : Option Value)
          → (n : ℕ) × R n (resumed (with_stack f s) o) (resumed (with_stack g s) o)
      back_like n s None = go.next n a b l s
      back_like n s (Some v) = go.next n a b l (v ∷ s)

      ask_like : N → (o : Option (Request × List Value)) → Effect R f g (after_ask o) (after_ask o)
      ask_like n None = tt
      ask_like n (Some p) = (p.1, refl, back_like n p.1)

      leave_like : (o : Option (Option Value × List Value))
          → Effect R f g (after_leave o) (after_leave o)
      leave_like None = tt
      leave_like (Some p) = refl

      throw_like : (o : Option (Value × List Value)) → Effect R f g (after_throw o) (after_throw o)
      throw_like None = tt
      throw_like (Some p) = refl

      to : (s t : Sort) → t ≡ s → Effect R f g (by_sort f s) (by_sort g s)
          → Effect R f g (by_sort f s) (by_sort g t)
      to s t e h = subst (λ q. Effect R f g (by_sort f s) (by_sort g q)) (sym e) h

      pub sort_like : (s t : Sort) → SortAims T N s t → LocalsFit a b s
          → Effect R f g (by_sort f s) (by_sort g t)
      sort_like (OnStack r) t h k = to (OnStack r) t h.0 (stack_like h.1 (r st))
      sort_like (Loads c x) t h k = to (Loads c x) t h.0
          (subst
          (λ o. Effect R f g (by_sort f (Loads c x))
          (after_load g (option_and_then (as_kind c) o))) (sym k)
          (load_like h.1 (option_and_then (as_kind c) (a x))))
      sort_like (Stores c x) t h k = to (Stores c x) t h.0 (store_like h.1 x k (top (as_kind c) st))
      sort_like (Incs x z) t h k = to (Incs x z) t h.0
          (inc_like h.1 x z (option_and_then as_int (a x)) (option_and_then as_int (b x)) k)
      sort_like (Jumps r) t h k =
          subst (λ q. Effect R f g (by_sort f (Jumps r)) (by_sort g q)) (sym h.1)
          (jump_like (r st) (h.0 st) (h.2 st))
      sort_like (Asks r) t h k = to (Asks r) t h.0 (ask_like h.1 (r st))
      sort_like (Leaves r) t h k = to (Leaves r) t h (leave_like (r st))
      sort_like Throws t h k = to Throws t h (throw_like (top (as_kind kind.Ref) st))
