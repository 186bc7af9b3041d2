-- Answers of `jump`: what its calls ask for, and what it promises.
use Rattle.std.proofs.Common.{◌<◌, ℕ, [], ◌∷◌, length, subst, sym, ◌∙◌, ⊎_elim, refl}
use Rattle.std.specs.List.{All}
use Rattle.std.proofs.lemmas.List.Elements.{All-cons, All-head, All-tail}
use Rattle.code_edit.specs.Flow.{targets}
use Rattle.const_facts.specs.Worklist.{Due, Flows, case_targets}
use Rattle.const_facts.proofs.Lowering.{grows_trans}
use Rattle.const_facts.proofs.Taking.{all_one, all_flow, on_ok, on_ok2, single}
use Rattle.const_facts.proofs.work.jump.Goals as goal

pub lower_all-requires-clause-due : goal.lower_all-requires-clause-due
lower_all-requires-clause-due c =
    let P = Due c.args.code.now c.args.slot c.args.out in
    all_one P c.in-TableSwitch.other
    (All-head P c.in-TableSwitch.other _
    (subst (λ o. All P (targets o)) c.in-TableSwitch.is c.requires.due))

pub lower_all-requires-in-LookupSwitch-clause-due :
    goal.lower_all-requires-in-LookupSwitch-clause-due
lower_all-requires-in-LookupSwitch-clause-due c =
    let P = Due c.args.code.now c.args.slot c.args.out in
    all_one P c.in-LookupSwitch.other
    (All-head P c.in-LookupSwitch.other _
    (subst (λ o. All P (targets o)) c.in-LookupSwitch.is c.requires.due))

pub lower_cases-requires-clause-below : goal.lower_cases-requires-clause-below
lower_cases-requires-clause-below c =
    let P : ℕ → Type 0 = λ t. t < length c.args.code.now.ins in
    subst (λ l. All P (case_targets l))
    (sym (c.as_slice-in-LookupSwitch.ensures ∙ c.deref-in-LookupSwitch.ensures))
    (All-tail P c.in-LookupSwitch.other _
    (subst (λ o. All P (targets o)) c.in-LookupSwitch.is c.requires.below))

pub lower_cases-requires-clause-due : goal.lower_cases-requires-clause-due
lower_cases-requires-clause-due c =
    let P = Due c.args.code.now c.args.slot c.args.out in
    subst (λ l. All P (case_targets l))
    (sym (c.as_slice-in-LookupSwitch.ensures ∙ c.deref-in-LookupSwitch.ensures))
    (All-tail P c.in-LookupSwitch.other _
    (subst (λ o. All P (targets o)) c.in-LookupSwitch.is c.requires.due))

pub lower_all-requires-in-IfZero-clause-due : goal.lower_all-requires-in-IfZero-clause-due
lower_all-requires-in-IfZero-clause-due c =
    let P = Due c.args.code.now c.args.slot c.args.out in
    let o = c.args.op.now in
    let to = c.in-IfZero.to in
    let due = c.requires.due in
    ⊎_elim (λ p. single P o _ to p.1 refl due)
    (λ r. ⊎_elim (λ p. single P o _ to p.1 refl due)
    (λ r. ⊎_elim (λ p. single P o _ to p.1 refl due)
    (λ r. ⊎_elim (λ p. single P o _ to p.1 refl due) (λ e. single P o _ to e refl due) r) r) r)
    c.in-IfZero.is

pub returns-in_ok-lower_all-in-TableSwitch-clause-grows :
    goal.returns-in_ok-lower_all-in-TableSwitch-clause-grows
returns-in_ok-lower_all-in-TableSwitch-clause-grows c = on_ok
    (λ g. grows_trans c.args.work.now c.lower_all.new.work c.lower_all-in-TableSwitch.new.work
    c.in_ok-lower_all-in-TableSwitch.ensures.grows g)
    c.lower_all-in-TableSwitch.result c.lower_all-in-TableSwitch.ensures.grows

pub returns-in_ok-lower_all-in-TableSwitch-clause-flows :
    goal.returns-in_ok-lower_all-in-TableSwitch-clause-flows
returns-in_ok-lower_all-in-TableSwitch-clause-flows c =
    let old = c.lower_all.new.work in
    let new = c.lower_all-in-TableSwitch.new.work in
    let P = Flows new c.args.out in
    on_ok2
    (λ g f. subst (λ o. All P (targets o)) (sym c.in-TableSwitch.is)
    (All-cons P c.in-TableSwitch.other _
    (All-head P c.in-TableSwitch.other []
    (all_flow old new c.args.out
    (c.in-TableSwitch.other ∷ []) g c.in_ok-lower_all-in-TableSwitch.ensures.flows))
    (subst (All P) (c.as_slice.ensures ∙ c.deref.ensures) f)))
    c.lower_all-in-TableSwitch.result c.lower_all-in-TableSwitch.ensures.grows
    c.lower_all-in-TableSwitch.ensures.flows

pub returns-in_ok-lower_all-in-LookupSwitch-clause-grows :
    goal.returns-in_ok-lower_all-in-LookupSwitch-clause-grows
returns-in_ok-lower_all-in-LookupSwitch-clause-grows c = on_ok
    (λ g. grows_trans c.args.work.now c.lower_all-in-LookupSwitch.new.work c.lower_cases.new.work
    c.in_ok-lower_all-in-LookupSwitch.ensures.grows g)
    c.lower_cases.result c.lower_cases.ensures.grows

pub returns-in_ok-lower_all-in-LookupSwitch-clause-flows :
    goal.returns-in_ok-lower_all-in-LookupSwitch-clause-flows
returns-in_ok-lower_all-in-LookupSwitch-clause-flows c =
    let old = c.lower_all-in-LookupSwitch.new.work in
    let new = c.lower_cases.new.work in
    let P = Flows new c.args.out in
    on_ok2
    (λ g f. subst (λ o. All P (targets o)) (sym c.in-LookupSwitch.is)
    (All-cons P c.in-LookupSwitch.other _
    (All-head P c.in-LookupSwitch.other []
    (all_flow old new c.args.out
    (c.in-LookupSwitch.other ∷ []) g c.in_ok-lower_all-in-LookupSwitch.ensures.flows))
    (subst (λ l. All P (case_targets l))
    (c.as_slice-in-LookupSwitch.ensures ∙ c.deref-in-LookupSwitch.ensures) f)))
    c.lower_cases.result c.lower_cases.ensures.grows c.lower_cases.ensures.flows

pub lower_all-requires-in-TableSwitch-clause-below :
    goal.lower_all-requires-in-TableSwitch-clause-below
lower_all-requires-in-TableSwitch-clause-below c =
    let P : ℕ → Type 0 = λ t. t < length c.args.code.now.ins in
    subst (All P) (sym (c.as_slice.ensures ∙ c.deref.ensures))
    (All-tail P c.in-TableSwitch.other _
    (subst (λ o. All P (targets o)) c.in-TableSwitch.is c.requires.below))

pub lower_all-requires-in-TableSwitch-clause-due : goal.lower_all-requires-in-TableSwitch-clause-due
lower_all-requires-in-TableSwitch-clause-due c =
    let P = Due c.args.code.now c.args.slot c.args.out in
    subst (All P) (sym (c.as_slice.ensures ∙ c.deref.ensures))
    (All-tail P c.in-TableSwitch.other _
    (subst (λ o. All P (targets o)) c.in-TableSwitch.is c.requires.due))
