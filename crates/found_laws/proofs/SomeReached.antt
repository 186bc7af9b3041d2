-- There are marks of the indices that control reaches.
use Rattle.std.proofs.Common.{◌≡◌, ◌⊎◌, inl, inr, ⊎_elim, ℕ, suc, ◌≤◌, ◌<◌, Bool, true, false, cond}
use Rattle.std.proofs.Common.{IsTrue, List, length, replicate, get_or, set, refl, sym, ap, subst, ◌∙◌}
use Rattle.std.proofs.Common.{arith, length-set}
use Rattle.std.specs.Prelude.{Some, slice_get}
use Rattle.std.specs.List.{All, Contains}
use Rattle.std.proofs.lemmas.Bool.{and_from, both_ways, cases_lt, le-leb}
use Rattle.std.proofs.lemmas.List.{get_or_default, get_or_past, get_or-replicate, length-replicate}
use Rattle.std.proofs.lemmas.List.Elements.{All-contains}
use Rattle.jv_base.proofs.Lists.{all_at, found_at}
use Rattle.class_model.specs.declared.code.Code.{Code}
use Rattle.class_model.specs.declared.code.Handler.{Handler}
use Rattle.code_edit.specs.Facts.{HoldsReached, IsAllReached}
use Rattle.code_edit.specs.Flow.{successors, successors_by, successors_of}
use Rattle.code_edit.specs.Passes.{IsReached, TellsReached, entered, first, led_to}
use Rattle.code_edit.specs.SoundCode.{IsPlaced, IsSound}
use Rattle.const_laws.proofs.Reached.{in_set}
use Rattle.found_laws.proofs.Settling.{Lacks, after_set, below_or, each_or, settle, stands}

module _ (code : Code) (sound : IsSound code) where
  -- what is marked is reached
  record AreReached (marks : List Bool) : Type 0 where
    long : length marks ≡ length code.ins
    only : (at : ℕ) → get_or marks at false ≡ true → IsReached code at

  -- an index is marked, or no index of the code
  abbrev is_in : List Bool → ℕ → Bool
  is_in marks at = get_or marks at true

  abbrev IsClosed : List Bool → Type 0
  IsClosed marks = HoldsReached code (is_in marks)

  abbrev rank : Bool → ℕ
  rank marked = cond marked 0 1

  abbrev LacksMark : List Bool → Type 0
  LacksMark = Lacks Bool rank true AreReached IsClosed

  module _ (marks : List Bool) (good : AreReached marks) where
    within : (at : ℕ) → is_in marks at ≡ false → at < length marks
    within at e =
        ⊎_elim (λ lt. lt) (λ le. absurd (both_ways _ e (get_or_past marks at true le)))
        (cases_lt at (length marks))

    put : (at : ℕ) → IsReached code at → at < length marks → AreReached (set marks at true)
    put at reached lt = record {
      long = length-set marks at true ∙ good.long;
      only = λ x marked.
          ⊎_elim (λ old. good.only x (sym old ∙ marked))
          (λ new. subst (IsReached code) (sym new.0) reached)
          (after_set marks at x true false lt);
    }

    -- what is reached is in, or lacks a mark
    has_by : (at : ℕ) → IsReached code at → (b : Bool) → is_in marks at ≡ b
        → IsTrue (is_in marks at) ⊎ LacksMark marks
    has_by at reached true e = inl e
    has_by at reached false e =
        let lt = within at e in
        let one : rank (is_in marks at) ≡ 1 = ap rank e in
        inr (at, true, lt, omega (arith, one), put at reached lt)

    has : (at : ℕ) → IsReached code at → IsTrue (is_in marks at) ⊎ LacksMark marks
    has at reached = has_by at reached (is_in marks at) refl

    -- an index of the code that is in is reached
    reached_in : (p : ℕ) → p < length code.ins → IsTrue (is_in marks p) → IsReached code p
    reached_in p lt is =
        let below : p < length marks = omega (arith, lt, good.long) in
        good.only p (get_or_default marks p false true below ∙ is)

    leads : (p at : ℕ) → p < length code.ins → IsReached code p → Contains (successors code p) at
        → IsReached code at
    leads p at lt reached next =
        let i = found_at code.ins p lt in
        let k = stands (successors_of (length code.ins) p i.0.op) at
        (subst (λ l. Contains l at) (ap (successors_by (length code.ins) p) i.1) next) in
        led_to p k.0 i.0 reached i.1 k.1

    next_by : (p : ℕ) → p < length code.ins → (b : Bool) → is_in marks p ≡ b
        → (IsTrue (is_in marks p) → All (λ at. IsTrue (is_in marks at)) (successors code p))
        ⊎ LacksMark marks
    next_by p lt false e = inl (λ is. absurd (both_ways _ e is))
    next_by p lt true e =
        ⊎_elim (λ all. inl (λ _. all)) inr
        (each_or (λ at. IsTrue (is_in marks at)) (successors code p)
        (λ at next. has at (leads p at lt (reached_in p lt e) next)))

    nexts : ((p : ℕ) → p < length code.ins → IsTrue (is_in marks p)
        → All (λ at. IsTrue (is_in marks at)) (successors code p)) ⊎ LacksMark marks
    nexts = below_or (λ p. IsTrue (is_in marks p)
        → All (λ at. IsTrue (is_in marks at)) (successors code p)) (length code.ins)
        (λ p lt. next_by p lt (is_in marks p) refl)

    abbrev Enters : Handler → Type 0
    Enters h = (p : ℕ) → IsTrue (is_in marks p) → h.from ≤ p → p < h.to
        → IsTrue (is_in marks h.entry)

    abbrev EntersFrom : Handler → ℕ → Type 0
    EntersFrom h p = IsTrue (is_in marks p) → h.from ≤ p → IsTrue (is_in marks h.entry)

    enters_by : (k : ℕ) (h : Handler) → slice_get code.handlers k ≡ Some h → (p : ℕ) → p < h.to
        → (b : Bool) → is_in marks p ≡ b → (h.from ≤ p) ⊎ (p < h.from)
        → EntersFrom h p ⊎ LacksMark marks
    enters_by k h here p lt false e order = inl (λ is. absurd (both_ways _ e is))
    enters_by k h here p lt true e (inr low) = inl (λ is le. absurd (omega (arith, low, le)))
    enters_by k h here p lt true e (inl le) =
        let placed = all_at (IsPlaced (length code.ins)) code.handlers k h sound.handlers here in
        let below : p < length code.ins = omega (arith, lt, placed.1) in
        ⊎_elim (λ is. inl (λ _ _. is)) inr
        (has h.entry (entered p k h (reached_in p below e) below here
        (and_from _ _ (le-leb h.from p le) (le-leb (suc p) h.to lt)) refl))

    order_of : (a b : ℕ) → (a ≤ b) ⊎ (b < a)
    order_of a b = ⊎_elim inr inl (cases_lt b a)

    enters : (h : Handler) → Contains code.handlers h → Enters h ⊎ LacksMark marks
    enters h listed =
        let k = stands code.handlers h listed in
        ⊎_elim (λ each. inl (λ p is le lt. each p lt is le)) inr
        (below_or (EntersFrom h) h.to
        (λ p lt. enters_by k.0 h k.1 p lt (is_in marks p) refl (order_of h.from p)))

    closed_or_lacks : IsClosed marks ⊎ LacksMark marks
    closed_or_lacks =
        ⊎_elim
        (λ start. ⊎_elim
        (λ next. ⊎_elim
        (λ handlers. inl (record {
          first = start;
          next = λ p at lt is to.
              All-contains (λ t. IsTrue (is_in marks t)) (successors code p) at (next p lt is) to;
          handlers = handlers;
        })) inr (each_or Enters code.handlers enters))
        inr nexts)
        inr (has 0 (first refl))

  none_marked : (n at : ℕ) → get_or (replicate n false) at false ≡ false
  none_marked n at =
      ⊎_elim (λ lt. get_or-replicate n at false false lt)
      (λ le. get_or_past (replicate n false) at false
      (subst (λ k. k ≤ at) (sym (length-replicate n false)) le))
      (cases_lt at n)

  -- marks that are closed
  closed_marks : (marks : List Bool) × AreReached marks × IsClosed marks
  closed_marks =
      settle Bool rank true AreReached IsClosed closed_or_lacks (replicate (length code.ins) false)
      (record {
        long = length-replicate (length code.ins) false;
        only = λ at is. absurd (both_ways _ (none_marked (length code.ins) at) is);
      })

  pub some_reached : (marks : List Bool) × TellsReached code marks
  some_reached =
      let r = closed_marks in (
        r.0,
        record {
          long = r.1.long;
          only = r.1.only;
          all = λ at lt reached.
              let below : at < length r.0 = omega (arith, lt, r.1.long) in
              get_or_default r.0 at false true below ∙ in_set code (is_in r.0) r.2 at reached;
        },
      )

  -- control reaches an index that each set holds which holds what is reached
  pub all_reached : IsAllReached code → (at : ℕ) → at < length code.ins → IsReached code at
  all_reached all at lt =
      let r = closed_marks in reached_in r.0 r.1 at lt (all at lt (is_in r.0) r.2)
