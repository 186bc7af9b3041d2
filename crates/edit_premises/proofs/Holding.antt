-- Supported facts hold of every body.
use Rattle.std.proofs.Common.{ℕ, ◌+◌, ◌-◌, ◌<◌, List, [], ◌∷◌, ◌++◌, Option, Some, None, Bool}
use Rattle.std.proofs.Common.{true, false, IsTrue, ◌≡◌, ◌≢◌, ◌⊎◌, inl, inr}
use Rattle.std.proofs.Common.{refl, sym, ap, ◌∙◌, subst, arith, rules, length}
use Rattle.std.specs.Prelude.{ℤ, slice_get, ◌==◌, ◌||◌, nat_lt, if◌then◌else◌}
use Rattle.std.specs.Int.{w32, int_wrapping_add}
use Rattle.std.specs.List.{Contains, find}
use Rattle.std.specs.Option.{option_and_then, option_map, unwrap_or}
use Rattle.std.proofs.lemmas.Bool.Decides.{eqb_tells}
use Rattle.std.proofs.lemmas.List.Elements.{All-contains, Contains-append_left}
use Rattle.std.proofs.lemmas.List.Elements.{Contains-append_right, Contains-push}
use Rattle.class_model.specs.declared.code.Code.{Code}
use Rattle.class_model.specs.declared.code.Handler.{Handler}
use Rattle.class_model.specs.declared.code.Ins.{Ins}
use Rattle.class_model.specs.declared.op.Kind.{Kind}
use Rattle.class_model.specs.declared.op.Kind.TheVariants as kind
use Rattle.class_model.specs.declared.op.Op.{Op}
use Rattle.class_model.specs.declared.op.Op.TheVariants as op
use Rattle.jvm_model.specs.Instructions.{Request, Sort, OnStack, Loads, Stores, Incs, Jumps, Asks}
use Rattle.jvm_model.specs.Instructions.{Leaves, Throws, sort_of}
use Rattle.jvm_model.specs.Local.{Local, Moves, Wants, after_ask, after_inc}
use Rattle.jvm_model.specs.Local.{after_jump, after_leave, after_load}
use Rattle.jvm_model.specs.Local.{after_stack, after_store, after_throw, at_handler, by_instruction}
use Rattle.jvm_model.specs.Local.{by_sort, goes_on}
use Rattle.jvm_model.specs.Local.{handler_for, handles, resumed, with_stack}
use Rattle.jvm_model.specs.Stack.{top}
use Rattle.jvm_model.specs.State.{Body}
use Rattle.jvm_model.specs.Value.{Value, Int, as_int, as_kind, set_at}
use Rattle.code_edit.specs.Facts.{change_at, change_by, change_of, int_pushed, int_pushed_by}
use Rattle.code_edit.specs.Facts.{pushed_before, stored}
use Rattle.code_edit.specs.Facts.{Facts, IsSupported, Yields}
use Rattle.code_edit.specs.Flow.{goes_elsewhere, is_target, next_of, successors, successors_by}
use Rattle.code_edit.specs.Flow.{targets}
use Rattle.code_edit.specs.declared.change.Change.{Change}
use Rattle.code_edit.specs.declared.change.Change.TheVariants.{Keeps as LeavesIt, Adds}
use Rattle.code_edit.specs.declared.change.Change.TheVariants.{Clobbers}
use Rattle.edit_premises.specs.Aims.{PlaceAims, ReadAims, SortAims}
use Rattle.edit_premises.proofs.Aiming.{sorts_aim}
use Rattle.edit_premises.proofs.Places.{get_below}
use Rattle.edit_premises.specs.Keeping.{Holds, Keeps}
use Rattle.edit_premises.proofs.Targets.{entries_marked, jumps_marked}
use Rattle.edit_premises.proofs.OwnAims.{SortChange, own_aims, sort_change}

-- ---- where an int was pushed

pushed_by : (b : Bool) (o : Option Ins) (z : ℤ) → (if b then None else int_pushed_by o) ≡ Some z
    → (b ≡ false) × (int_pushed_by o ≡ Some z)
pushed_by true o z e = absurd cc
pushed_by false o z e = (refl, e)

push_is : (o : Op) (z : ℤ) → int_pushed o ≡ Some z → o ≡ op.PushInt z
push_is (op.PushInt v) z e = let s : v ≡ z = cc in ap (λ q. op.PushInt q) s
push_is o z e = absurd cc

ins_is : (o : Option Ins) (z : ℤ) → int_pushed_by o ≡ Some z
    → (i : Ins) × (o ≡ Some i) × (i.op ≡ op.PushInt z)
ins_is None z e = absurd cc
ins_is (Some i) z e = (i, refl, push_is i.op z e)

or_parts : (a b : Bool) → (a || b) ≡ false → (a ≡ false) × (b ≡ false)
or_parts true b e = absurd cc
or_parts false b e = (refl, e)

module _ (c : Code) where
  -- directly before is a push, and control comes from nowhere else
  pub push_before : (at : ℕ) (z : ℤ) → pushed_before c at ≡ Some z
      → (is_target c at ≡ false) × (at ≢ 0) × (i : Ins) × (slice_get c.ins (at - 1) ≡ Some i)
      × (i.op ≡ op.PushInt z)
  push_before at z e =
      let p = pushed_by ((at == 0) || is_target c at) (slice_get c.ins (at - 1)) z e in
      let q = or_parts (at == 0) (is_target c at) p.0 in
      let r = ins_is (slice_get c.ins (at - 1)) z p.1 in
      (q.1, not_first at q.0, r.0, r.1, r.2)
    where
      not_first : (n : ℕ) → (n == 0) ≡ false → n ≢ 0
      not_first n h = by (eqb_tells n 0)
        where
          by : (((n == 0) ≡ true) × (n ≡ 0)) ⊎ (((n == 0) ≡ false) × (n ≢ 0)) → n ≢ 0
          by (inl a) = absurd (let x : true ≡ false = sym a.0 ∙ h in cc)
          by (inr a) = a.1

-- ---- slots after a store and an addition

same_slot : (slot x : ℕ) (v w : Option Value) → ((slot == x) ≡ true → v ≡ w)
    → ((slot ≢ x) → v ≡ w) → v ≡ w
same_slot slot x v w h k = by (eqb_tells slot x)
  where
    by : (((slot == x) ≡ true) × (slot ≡ x)) ⊎ (((slot == x) ≡ false) × (slot ≢ x)) → v ≡ w
    by (inl a) = h a.0
    by (inr a) = k a.1

-- the test by which changes tell a slot, and the one by which locals do
pub data Slots (to slot : ℕ) : Type 0 where
  one : (to == slot) ≡ true → (slot == to) ≡ true → to ≡ slot → Slots to slot
  two : (to == slot) ≡ false → (slot == to) ≡ false → Slots to slot

slots : (to slot : ℕ) → Slots to slot
slots to slot = by (eqb_tells to slot) (eqb_tells slot to)
  where
    by : (((to == slot) ≡ true) × (to ≡ slot)) ⊎ (((to == slot) ≡ false) × (to ≢ slot))
        → (((slot == to) ≡ true) × (slot ≡ to)) ⊎ (((slot == to) ≡ false) × (slot ≢ to))
        → Slots to slot
    by (inl a) (inl b) = one a.0 b.0 a.1
    by (inl a) (inr b) = absurd (b.1 (sym a.1))
    by (inr a) (inl b) = absurd (a.1 (sym b.1))
    by (inr a) (inr b) = two a.0 b.0

module _ (c : Code) (facts : ℕ → Facts)
    (supported : (slot : ℕ) → IsSupported c slot (facts slot)) where
  abbrev I : Body → Type 0
  I = Holds c facts

  module _ (f : Body) (i : Ins) (here : slice_get c.ins f.at ≡ Some i) (is : I f) where
    abbrev pushed : Option ℤ
    pushed = pushed_before c f.at

    abbrev change : ℕ → Change
    change slot = change_of i.op pushed slot

    change_is : (slot : ℕ) → change_at c slot f.at ≡ change slot
    change_is slot = ap (λ o. change_by o pushed slot) here

    -- an index that comes next
    abbrev IsNext : ℕ → Type 0
    IsNext t = t < length c.ins → Contains (successors c f.at) t

    next_by : (b d : Bool) (t : ℕ) → b ≡ false → d ≡ true
        → Contains (if b then [] else if d then t ∷ [] else []) t
    next_by false true t e k = Contains-push [] t
    next_by false false t e k = absurd cc
    next_by true d t e k = absurd cc

    -- of the next index, and of a target
    comes_next : (t : ℕ) → Contains (next_of (length c.ins) f.at i.op ++ targets i.op) t
        → Contains (successors c f.at) t
    comes_next t h =
        subst (λ l. Contains l t) (sym (ap (successors_by (length c.ins) f.at) here)) h

    next_is : goes_elsewhere i.op ≡ false → IsNext (f.at + 1)
    next_is e lt = comes_next (f.at + 1)
        (Contains-append_left (next_of (length c.ins) f.at i.op) (targets i.op) (f.at + 1)
        (next_by (goes_elsewhere i.op) (nat_lt (f.at + 1) (length c.ins)) (f.at + 1) e (below lt)))
      where
        below : f.at + 1 < length c.ins → nat_lt (f.at + 1) (length c.ins) ≡ true
        below lt = search rules

    target_is : (t : ℕ) → Contains (targets i.op) t → Contains (successors c f.at) t
    target_is t h = comes_next t
        (Contains-append_right (next_of (length c.ins) f.at i.op) (targets i.op) t h)

    -- what a supported fact says before
    before : (slot t : ℕ) (z : ℤ) → IsNext t → IsTrue (facts slot t z)
        → Yields (facts slot) f.at z (change slot)
    before slot t z next fact =
        subst (Yields (facts slot) f.at z) (change_is slot)
        ((supported slot).flows f.at t z (inside f.at here)
        (next ((supported slot).within t z fact)) fact)
      where
        inside : (n : ℕ) → slice_get c.ins n ≡ Some i → n < length c.ins
        inside n e = get_below c.ins n i e

    -- where no slot changes
    kept : ((slot : ℕ) → change slot ≡ LeavesIt) → (t : ℕ) → IsNext t → (slot : ℕ) (z : ℤ)
        → IsTrue (facts slot t z)
        → f.locals slot ≡ Some (Int z)
    kept none t next slot z fact =
        is.ints slot z (subst (Yields (facts slot) f.at z) (none slot) (before slot t z next fact))

    -- where a slot is stored to
    stored_by : (k : Kind) (x : ℕ) (slot : ℕ) (z : ℤ) (v : Value) (s : List Value)
        → top (as_kind k) f.stack ≡ Some (v, s)
        → Yields (facts slot) f.at z (change_of (op.Store k x) pushed slot)
        → set_at f.locals x (Some v) slot ≡ Some (Int z)
    stored_by kind.Int x slot z v s e y = int_by (slots x slot)
      where
        top_is : (w : ℤ) → pushed ≡ Some w → v ≡ Int w
        top_is w p =
            let q = is.pushed w p in
            let r : Some (v, s) ≡ Some (Int w, q.0) = sym e ∙ ap (top (as_kind kind.Int)) q.1 in
            let r' : ◌≡◌ {A = Value × List Value} (v, s) (Int w, q.0) = cc r in
            ap (λ (m : Value × List Value). m.0) r'

        value_by : (p : Option ℤ) → pushed ≡ p → Yields (facts slot) f.at z (stored p) → v ≡ Int z
        value_by None p y = absurd y
        value_by (Some w) p y = top_is w p ∙ ap (λ n. Int n) (sym y)

        int_by : Slots x slot → set_at f.locals x (Some v) slot ≡ Some (Int z)
        int_by (one a b same) =
            ap (λ t. if t then Some v else f.locals slot) b
            ∙ ap (λ n. Some n) (value_by pushed refl
            (subst (λ t. Yields (facts slot) f.at z (if t then stored pushed else LeavesIt)) a y))
        int_by (two a b) =
            ap (λ t. if t then Some v else f.locals slot) b
            ∙ is.ints slot z (subst
            (λ t. Yields (facts slot) f.at z (if t then stored pushed else LeavesIt)) a y)
    stored_by kind.Long x slot z v s e y = long_by (slots x slot) (x + 1 == slot) refl
      where
        long_by : Slots x slot → (b : Bool) → (x + 1 == slot) ≡ b
            → set_at f.locals x (Some v) slot ≡ Some (Int z)
        long_by (one a b same) t q =
            absurd (subst (λ t. Yields (facts slot) f.at z
            (if t || (x + 1 == slot) then Clobbers else LeavesIt)) a y)
        long_by (two a b) true q =
            absurd (subst (λ t. Yields (facts slot) f.at z (if t then Clobbers else LeavesIt)) q
            (subst (λ t. Yields (facts slot) f.at z
            (if t || (x + 1 == slot) then Clobbers else LeavesIt)) a y))
        long_by (two a b) false q =
            ap (λ t. if t then Some v else f.locals slot) b
            ∙ is.ints slot z (subst
            (λ t. Yields (facts slot) f.at z (if t then Clobbers else LeavesIt)) q
            (subst (λ t. Yields (facts slot) f.at z
            (if t || (x + 1 == slot) then Clobbers else LeavesIt)) a y))
    stored_by kind.Ref x slot z v s e y = ref_by (slots x slot)
      where
        ref_by : Slots x slot → set_at f.locals x (Some v) slot ≡ Some (Int z)
        ref_by (one a b same) = absurd
            (subst (λ t. Yields (facts slot) f.at z (if t then Clobbers else LeavesIt)) a y)
        ref_by (two a b) =
            ap (λ t. if t then Some v else f.locals slot) b
            ∙ is.ints slot z (subst
            (λ t. Yields (facts slot) f.at z (if t then Clobbers else LeavesIt)) a y)

    -- where a number is added to a slot
    added_by : (x : ℕ) (k : ℤ) (old : ℤ) → option_and_then as_int (f.locals x) ≡ Some old
        → (slot : ℕ) (z : ℤ)
        → Yields (facts slot) f.at z (change_of (op.Inc x k) pushed slot)
        → set_at f.locals x (Some (Int (int_wrapping_add w32 old k))) slot ≡ Some (Int z)
    added_by x k old e slot z y = by (slots x slot)
      where
        sum_is : (d : ℤ) → x ≡ slot → IsTrue (facts slot f.at d) → old ≡ d
        sum_is d same fact =
            let r : Some old ≡ Some d = sym e ∙ ap (λ n. option_and_then as_int (f.locals n)) same
            ∙ ap (option_and_then as_int) (is.ints slot d fact) in cc

        by : Slots x slot → set_at f.locals x (Some (Int (int_wrapping_add w32 old k))) slot ≡ Some
            (Int z)
        by (one a b same) =
            let p : Yields (facts slot) f.at z (Adds k) =
            subst (λ t. Yields (facts slot) f.at z (if t then Adds k else LeavesIt)) a y in
            ap (λ t. if t then Some (Int (int_wrapping_add w32 old k)) else f.locals slot) b
            ∙ ap (λ n. Some (Int n))
            (ap (λ n. int_wrapping_add w32 n k) (sum_is p.0 same p.1) ∙ sym p.2)
        by (two a b) =
            ap (λ t. if t then Some (Int (int_wrapping_add w32 old k)) else f.locals slot) b
            ∙ is.ints slot z (subst
            (λ t. Yields (facts slot) f.at z (if t then Adds k else LeavesIt)) a y)

    -- ---- by sorts

    -- the facts at the index of the body hold of it
    abbrev AreInts : Body → Type 0
    AreInts g = (slot : ℕ) (z : ℤ) → IsTrue (facts slot g.at z) → g.locals slot ≡ Some (Int z)

    -- the next index, or a marked one
    abbrev Arrives : Body → Type 0
    Arrives g = (g.at ≡ f.at + 1) ⊎ (is_target c g.at ≡ true)

    abbrev Ok : Local → Type 0
    Ok (Moves g) = AreInts g × Arrives g
    Ok (Wants r s) = (slot : ℕ) (z : ℤ) → IsTrue (facts slot (f.at + 1) z)
        → f.locals slot ≡ Some (Int z)
    Ok l = Unit {0}

    abbrev P : ℕ → Type 0
    P t = IsNext t × (is_target c t ≡ true)

    abbrev N : Type 0
    N = IsNext (f.at + 1)

    abbrev To : ℕ → ℕ → Type 0
    To t u = (u ≡ t) × P t

    stack_ok : N → ((slot : ℕ) → change slot ≡ LeavesIt) → (o : Option (List Value))
        → Ok (after_stack f o)
    stack_ok n none None = tt
    stack_ok n none (Some s) = (kept none (f.at + 1) n, inl refl)

    load_ok : N → ((slot : ℕ) → change slot ≡ LeavesIt) → (o : Option Value) → Ok (after_load f o)
    load_ok n none None = tt
    load_ok n none (Some v) = (kept none (f.at + 1) n, inl refl)

    store_ok : N → (k : Kind) (x : ℕ)
        → ((slot : ℕ) → change slot ≡ change_of (op.Store k x) pushed slot)
        → (o : Option (Value × List Value)) → top (as_kind k) f.stack ≡ o → Ok (after_store f x o)
    store_ok n k x same None e = tt
    store_ok n k x same (Some p) e = (
      λ slot z fact. stored_by k x slot z p.0 p.1 e
          (subst (Yields (facts slot) f.at z) (same slot) (before slot (f.at + 1) z n fact)),
      inl refl,
    )

    inc_ok : N → (x : ℕ) (k : ℤ) → ((slot : ℕ) → change slot ≡ change_of (op.Inc x k) pushed slot)
        → (o : Option ℤ) → option_and_then as_int (f.locals x) ≡ o → Ok (after_inc f x k o)
    inc_ok n x k same None e = tt
    inc_ok n x k same (Some old) e = (
      λ slot z fact. added_by x k old e slot z
          (subst (Yields (facts slot) f.at z) (same slot) (before slot (f.at + 1) z n fact)),
      inl refl,
    )

    place_ok : ((slot : ℕ) → change slot ≡ LeavesIt) → (s : List Value) (o o' : Option ℕ)
        → PlaceAims To N o o'
        → Ok (Moves (record f { at = unwrap_or o (f.at + 1); stack = s }))
    place_ok none s None o' h = (kept none (f.at + 1) h.1, inl refl)
    place_ok none s (Some t) o' h = (kept none t h.2.1.0, inr h.2.1.1)

    jump_ok : ((slot : ℕ) → change slot ≡ LeavesIt) → (o o' : Option (Option ℕ × List Value))
        → ReadAims To N o o'
        → Ok (after_jump f o)
    jump_ok none None o' h = tt
    jump_ok none (Some p) o' h = place_ok none p.1 p.0 h.0 h.2

    ask_ok : N → ((slot : ℕ) → change slot ≡ LeavesIt) → (o : Option (Request × List Value))
        → Ok (after_ask o)
    ask_ok n none None = tt
    ask_ok n none (Some p) = kept none (f.at + 1) n

    leave_ok : (o : Option (Option Value × List Value)) → Ok (after_leave o)
    leave_ok None = tt
    leave_ok (Some p) = tt

    throw_ok : (o : Option (Value × List Value)) → Ok (after_throw o)
    throw_ok None = tt
    throw_ok (Some p) = tt

    sort_ok : (s : Sort) → SortAims To N s s → ((slot : ℕ) → SortChange s pushed slot (change slot))
        → Ok (by_sort f s)
    sort_ok (OnStack g) a h = stack_ok a.1 h (g f.stack)
    sort_ok (Loads k x) a h = load_ok a.1 h (option_and_then (as_kind k) (f.locals x))
    sort_ok (Stores k x) a h = store_ok a.1 k x h (top (as_kind k) f.stack) refl
    sort_ok (Incs x k) a h = inc_ok a.1 x k h (option_and_then as_int (f.locals x)) refl
    sort_ok (Jumps g) a h = jump_ok h (g f.stack) (a.0 f.stack) (a.2 f.stack)
    sort_ok (Asks g) a h = ask_ok a.1 h (g f.stack)
    sort_ok (Leaves g) a h = leave_ok (g f.stack)
    sort_ok Throws a h = throw_ok (top (as_kind kind.Ref) f.stack)

    pub op_ok : Ok (by_sort f (sort_of i.op))
    op_ok = sort_ok (sort_of i.op)
        (sorts_aim To N i.op i.op
        (own_aims P N i.op
        (λ t h. (
          λ lt. target_is t h,
          All-contains (λ t. is_target c t ≡ true) (targets i.op) t (jumps_marked c f.at i here) h,
        ))
        next_is))
        (λ slot. sort_change i.op pushed slot)

    -- an int that was pushed directly before is on the top
    pushed_after : (g : Body) → by_sort f (sort_of i.op) ≡ Moves g → Arrives g → (z : ℤ)
        → pushed_before c g.at ≡ Some z → (s : List Value) × (g.stack ≡ Int z ∷ s)
    pushed_after g e (inr m) z p =
        absurd (let q : true ≡ false = sym m ∙ (push_before c g.at z p).0 in cc)
    pushed_after g e (inl n) z p =
        let q = push_before c g.at z p in
        let same : g.at - 1 ≡ f.at = omega (arith, n) in
        let r : Some q.2 ≡ Some i = sym q.3 ∙ ap (slice_get c.ins) same ∙ here in
        let r' : q.2 ≡ i = cc in
        let o : i.op ≡ op.PushInt z = ap (λ (x : Ins). x.op) (sym r') ∙ q.4 in
        let went : Moves (goes_on f (Int z ∷ f.stack)) ≡ Moves g = sym
        (ap (λ x. by_sort f (sort_of x)) o) ∙ e in
        let w : goes_on f (Int z ∷ f.stack) ≡ g = cc in
        (f.stack, ap (λ (x : Body). x.stack) (sym w))

    no_push : (r : Request) (s : List Value) → by_sort f (sort_of i.op) ≡ Wants r s → (z : ℤ)
        → pushed_before c (f.at + 1) ≡ Some z → ⊥
    no_push r s e z p =
        let q = push_before c (f.at + 1) z p in
        let same : f.at + 1 - 1 ≡ f.at = omega arith in
        let t : Some q.2 ≡ Some i = sym q.3 ∙ ap (slice_get c.ins) same ∙ here in
        let t' : q.2 ≡ i = cc in
        let o : i.op ≡ op.PushInt z = ap (λ (x : Ins). x.op) (sym t') ∙ q.4 in
        let went : Moves (goes_on f (Int z ∷ f.stack)) ≡ Wants r s = sym
        (ap (λ x. by_sort f (sort_of x)) o) ∙ e in
        cc

    pub moved : (g : Body) → by_sort f (sort_of i.op) ≡ Moves g → I g
    moved g e =
        let k : Ok (Moves g) = subst Ok e op_ok in
        record { ints = k.0; pushed = pushed_after g e k.1 }

    pub returned : (r : Request) (s : List Value) → by_sort f (sort_of i.op) ≡ Wants r s
        → (o : Option Value)
        → I (resumed (with_stack f s) o)
    returned r s e None =
        let k : Ok (Wants r s) = subst Ok e op_ok in
        record { ints = k; pushed = λ z p. absurd (no_push r s e z p) }
    returned r s e (Some v) =
        let k : Ok (Wants r s) = subst Ok e op_ok in
        record { ints = k; pushed = λ z p. absurd (no_push r s e z p) }

  -- ---- all of it

  move_by : (f g : Body) (o : Option Ins) → slice_get c.ins f.at ≡ o → I f
      → by_instruction f o ≡ Moves g → I g
  move_by f g None here is e = absurd cc
  move_by f g (Some i) here is e = moved f i here is g e

  return_by : (f : Body) (r : Request) (s : List Value) (o : Option Ins) → slice_get c.ins f.at ≡ o
      → I f
      → by_instruction f o ≡ Wants r s → (v : Option Value) → I (resumed (with_stack f s) v)
  return_by f r s None here is e v = absurd cc
  return_by f r s (Some i) here is e v = returned f i here is r s e v

  entry_in : (is : List ℕ → Bool) (at entry : ℕ) (hs : List Handler)
      → handler_for is at hs ≡ Some entry
      → (h : Handler) × Contains hs h × (h.entry ≡ entry)
  entry_in is at entry [] e = absurd cc
  entry_in is at entry (h ∷ hs) e = by (handles is at h) e (entry_in is at entry hs)
    where
      by : (b : Bool) → option_map (λ (k : Handler). k.entry)
          (if b then Some h else find (handles is at) hs) ≡ Some entry
          → (handler_for is at hs ≡ Some entry → (k : Handler) × Contains hs k × (k.entry ≡ entry))
          → (k : Handler) × Contains (h ∷ hs) k × (k.entry ≡ entry)
      by true e r = (
        h,
        Contains-append_left (h ∷ []) hs h
            (Contains-push [] h),
        let q : Some h.entry ≡ Some entry = e in cc,
      )
      by false e r = let x = r e in (x.0, Contains-append_right (h ∷ []) hs x.0 x.1, x.2)

  entered_is : (f : Body) (is : List ℕ → Bool) (entry : ℕ)
      → handler_for is f.at c.handlers ≡ Some entry → (x : ℕ)
      → I (at_handler f entry x)
  entered_is f is entry e x =
      let h = entry_in is f.at entry c.handlers e in
      let m : is_target c entry ≡ true =
      subst (λ t. is_target c t ≡ true) h.2
      (All-contains (λ (k : Handler). is_target c k.entry ≡ true) c.handlers h.0
      (entries_marked c) h.1) in
      record {
        ints = λ slot z fact. absurd
            (All-contains (λ (k : Handler). (z : ℤ) → IsTrue (facts slot k.entry z) → ⊥) c.handlers
            h.0
            (supported slot).handlers h.1 z (subst (λ t. IsTrue (facts slot t z)) (sym h.2) fact));
        pushed = λ z p. absurd (let q : true ≡ false = sym m ∙ (push_before c entry z p).0 in cc);
      }

  pub facts_keep : Keeps I c
  facts_keep = record {
    begins = λ args. record {
      ints = λ slot z fact. absurd ((supported slot).first z fact);
      pushed = λ z p. absurd ((push_before c 0 z p).1 refl);
    };
    moves = λ f g is e. move_by f g (slice_get c.ins f.at) refl is e;
    returns = λ f r s is e. return_by f r s (slice_get c.ins f.at) refl is e;
    enters = λ f _ is entry e x. entered_is f is entry e x;
  }
