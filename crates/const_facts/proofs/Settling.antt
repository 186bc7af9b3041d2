-- The worklist at the beginning and after an instruction was looked at.
use Rattle.std.proofs.Common.{◌≡◌, ◌≢◌, ℕ, ◌<◌, [], ◌∷◌, ◌++◌, length, replicate}
use Rattle.std.proofs.Common.{get_or, inl, inr, ⊎_elim}
use Rattle.std.proofs.Common.{subst, sym, ◌∙◌, ap, arith}
use Rattle.std.specs.List.{All, Contains}
use Rattle.std.proofs.lemmas.List.{get_or-replicate, get_or_past, length-replicate}
use Rattle.std.proofs.lemmas.List.Elements.{All-nil, All-weaker, Contains-push_cases}
use Rattle.std.proofs.lemmas.Bool.{cases_lt}
use Rattle.class_model.specs.declared.code.Code.{Code}
use Rattle.class_model.specs.declared.code.Handler.{Handler}
use Rattle.const_facts.specs.declared.held.Held.{Held}
use Rattle.const_facts.specs.declared.held.Held.TheVariants.{Unreached, Always, Varies}
use Rattle.const_facts.specs.declared.work.Work.{Work}
use Rattle.code_edit.specs.Facts.{change_at}
use Rattle.code_edit.specs.Flow.{successors}
use Rattle.const_facts.specs.Order.{AtMost, through}
use Rattle.const_facts.specs.Worklist.{Flows, Grows, IsDone, IsOpen, IsAbove, held_at}
use Rattle.const_facts.proofs.Lowering.{flows_grow}

pub nothing_held : (n i : ℕ) → get_or (replicate n Unreached) i Unreached ≡ Unreached
nothing_held n i = ⊎_elim (λ lt. get_or-replicate n i Unreached Unreached lt)
    (λ le. get_or_past (replicate n Unreached) i Unreached
    (omega (arith, le, length-replicate n Unreached)))
    (cases_lt i n)

pub begun_above : (code : Code) (slot : ℕ) (work : Work)
    → work.held.items ≡ replicate (length code.ins) Unreached → work.waiting.items ≡ []
    → IsAbove code slot work
begun_above code slot work held waiting = record {
  count = ap length held ∙ length-replicate (length code.ins) Unreached;
  below = subst (λ l. All (λ i. i < length code.ins) l) (sym waiting)
      (All-nil (λ i. i < length code.ins));
  known = subst (λ l. All (λ i. held_at work i ≢ Unreached) l) (sym waiting)
      (All-nil (λ i. held_at work i ≢ Unreached));
  due = λ i facts supported c fact.
      subst (λ x. AtMost x (Always c))
      (sym (ap (λ l. get_or l i Unreached) held ∙ nothing_held (length code.ins) i)) tt;
}

pub begun_open : (code : Code) (slot : ℕ) (old new : Work)
    → old.held.items ≡ replicate (length code.ins) Unreached → IsAbove code slot new → Grows old new
    → held_at new 0 ≡ Varies → All (λ (h : Handler). held_at new h.entry ≡ Varies) code.handlers
    → IsOpen code slot new
begun_open code slot old new held above grows first handlers = record {
  above = above;
  first = first;
  handlers = handlers;
  done = λ i. ⊎_elim
      (λ e. inl (e ∙ (ap (λ l. get_or l i Unreached) held ∙ nothing_held (length code.ins) i)))
      (λ w. inr (inl w))
      (grows.fresh i);
}

-- at was popped from old, which left mid, and what is known after it was taken on, which gave new
pub open_after : (code : Code) (slot : ℕ) (old mid new : Work) (at : ℕ)
    → IsOpen code slot old → mid.held.items ≡ old.held.items
    → old.waiting.items ≡ mid.waiting.items ++ at ∷ []
    → IsAbove code slot new → Grows mid new
    → All (Flows new (through (change_at code slot at) (held_at mid at))) (successors code at)
    → IsOpen code slot new
open_after code slot old mid new at opened held waiting above grows flows =
    let same : (i : ℕ) → held_at mid i ≡ held_at old i = λ i. ap (λ l. get_or l i Unreached) held in
    let varies : (i : ℕ) → held_at old i ≡ Varies → held_at new i ≡ Varies = λ i e.
    subst (λ x. AtMost x (held_at new i)) (same i ∙ e) (grows.falls i) in
    record {
      above = above;
      first = varies 0 opened.first;
      handlers = All-weaker (λ (h : Handler). held_at old h.entry ≡ Varies)
          (λ (h : Handler). held_at new h.entry ≡ Varies)
          (λ h e. varies h.entry e) code.handlers opened.handlers;
      done = λ i. ⊎_elim
          (λ e.
          let now : held_at new i ≡ held_at old i = e ∙ same i in
          ⊎_elim
          (λ u. inl (now ∙ u))
          (λ rest. ⊎_elim
          (λ w. ⊎_elim
          (λ v. inr (inl (grows.waits i v)))
          (λ is. inr (inr (taken i is e)))
          (Contains-push_cases mid.waiting.items at i (subst (λ l. Contains l i) waiting w)))
          (λ done. inr (inr (kept i now done)))
          rest)
          (opened.done i))
          (λ w. inr (inl w))
          (grows.fresh i);
    }
  where
    taken : (i : ℕ) → at ≡ i → held_at new i ≡ held_at mid i → IsDone code slot new i
    taken i is e =
        subst (λ x. All (Flows new (through (change_at code slot i) x)) (successors code i)) (sym e)
        (subst (λ k. All (Flows new (through (change_at code slot k) (held_at mid k)))
        (successors code k)) is
        flows)

    kept : (i : ℕ) → held_at new i ≡ held_at old i → IsDone code slot old i → IsDone code slot new i
    kept i now done =
        let out : Held = through (change_at code slot i) (held_at old i) in
        subst (λ x. All (Flows new (through (change_at code slot i) x)) (successors code i))
        (sym now)
        (All-weaker (Flows old out) (Flows new out)
        (λ t f. flows_grow mid new out t grows
        (subst (λ x. AtMost out x) (sym (ap (λ l. get_or l t Unreached) held)) f))
        (successors code i) done)
