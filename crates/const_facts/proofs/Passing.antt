-- What is known after an instruction counts at all that may come next.
use Rattle.std.proofs.Common.{◌≡◌, ℕ, ◌<◌, ℤ, IsTrue, List, ◌++◌, length, inl}
use Rattle.std.proofs.Common.{⊎_elim, subst, sym}
use Rattle.std.proofs.Common.{◌∙◌, ap}
use Rattle.std.specs.Int.{w32, int_wrapping_add}
use Rattle.std.specs.List.{All, Contains}
use Rattle.std.proofs.lemmas.List.Elements.{All-weaker, All-contains_itself, Contains-append_left}
use Rattle.std.proofs.lemmas.List.Elements.{Contains-append_right}
use Rattle.std.specs.Prelude.{Some, slice_get}
use Rattle.class_model.specs.declared.code.Code.{Code}
use Rattle.class_model.specs.declared.code.Ins.{Ins}
use Rattle.code_edit.specs.declared.change.Change.{Change}
use Rattle.code_edit.specs.declared.change.Change.TheVariants.{Keeps, Becomes, Adds, Clobbers}
use Rattle.const_facts.specs.declared.held.Held.{Held}
use Rattle.const_facts.specs.declared.held.Held.TheVariants.{Unreached, Always, Varies}
use Rattle.const_facts.specs.declared.work.Work.{Work}
use Rattle.code_edit.specs.Facts.{change_at}
use Rattle.code_edit.specs.Facts.{Facts, Yields}
use Rattle.code_edit.specs.Flow.{next_of, successors_by, targets}
use Rattle.const_facts.specs.Order.{AtMost, through}
use Rattle.const_facts.specs.Worklist.{Due, IsAbove, held_at}

-- what a supported set says after an instruction isn't ruled out, where what it says before isn't
pub passed : (facts : Facts) (p : ℕ) (c : ℤ) (ch : Change) (h : Held) → Yields facts p c ch
    → ((d : ℤ) → IsTrue (facts p d) → AtMost h (Always d)) → AtMost (through ch h) (Always c)
passed facts p c Keeps h yields due = due c yields
passed facts p c (Becomes v) h yields due = inl (ap (λ z. Always z) yields)
passed facts p c (Adds k) Unreached yields due = tt
passed facts p c (Adds k) (Always a) yields due =
    ⊎_elim
    (λ e. inl (let f : yields.0 ≡ a = (cc) in
    ap (λ z. Always z) (yields.2 ∙ ap (λ z. int_wrapping_add w32 z k) f)))
    (λ e. absurd (cc))
    (due yields.0 yields.1)
passed facts p c (Adds k) Varies yields due = absurd
    (let e : Always yields.0 ≡ Varies = due yields.0 yields.1 in (cc))
passed facts p c Clobbers h yields due = absurd yields

module _ (code : Code) (slot : ℕ) (work : Work) (at : ℕ) (i : Ins) (above : IsAbove code slot work)
    (lt : at < length code.ins) (here : slice_get code.ins at ≡ Some i) where
  abbrev out : Held
  out = through (change_at code slot at) (held_at work at)

  abbrev next : List ℕ
  next = next_of (length code.ins) at i.op

  due_next : (t : ℕ) → Contains (next ++ targets i.op) t → Due code slot out t
  due_next t has facts supported c fact =
      passed facts at c (change_at code slot at) (held_at work at)
      (supported.flows at t c lt
      (subst (λ l. Contains l t) (sym (ap (successors_by (length code.ins) at) here)) has) fact)
      (λ d f. above.due at facts supported d f)

  pub due_onward : All (Due code slot out) next
  due_onward = All-weaker (Contains next) (Due code slot out)
      (λ t has. due_next t (Contains-append_left next (targets i.op) t has))
      next (All-contains_itself next)

  pub due_targets : All (Due code slot out) (targets i.op)
  due_targets = All-weaker (Contains (targets i.op)) (Due code slot out)
      (λ t has. due_next t (Contains-append_right next (targets i.op) t has))
      (targets i.op) (All-contains_itself (targets i.op))
