-- Answers of `look`: what its calls ask for, and what it promises.
use Rattle.std.proofs.Common.{◌≡◌, ◌≢◌, ◌<◌, length, subst, sym, ap, ◌∙◌}
use Rattle.std.specs.List.{All}
use Rattle.std.proofs.lemmas.List.{get_or_default}
use Rattle.std.proofs.lemmas.List.Elements.{All-append, All-get_or}
use Rattle.std.proofs.lemmas.Option.{get_or_from_slice_get}
use Rattle.class_model.specs.declared.code.Ins.{Ins}
use Rattle.code_edit.specs.Facts.{change_at}
use Rattle.code_edit.specs.Flow.{next_of, successors_by, targets}
use Rattle.const_facts.specs.declared.held.Held.TheVariants.{Unreached}
use Rattle.const_facts.specs.Order.{through}
use Rattle.const_facts.specs.Worklist.{Due, Flows, held_at}
use Rattle.const_facts.proofs.Ordering.{through_known}
use Rattle.const_facts.proofs.Passing.{due_onward, due_targets}
use Rattle.const_facts.proofs.Taking.{all_flow}
use Rattle.const_facts.proofs.work.look.Goals as goal

pub go_on-requires-clause-known : goal.go_on-requires-clause-known
go_on-requires-clause-known c =
    let lt : c.args.at < length c.args.work.now.held.items =
    subst (λ k. c.args.at < k) (sym c.requires.above.count) c.requires.at in
    let read : c.index-known.result.now ≡ held_at c.args.work.now c.args.at =
    c.index-known.ensures ∙ get_or_default c.args.work.now.held.items c.args.at _ Unreached lt in
    let known : c.index-known.result.now ≢ Unreached =
    subst (λ h. h ≢ Unreached) (sym read) c.requires.known in
    subst (λ o. o ≢ Unreached) (sym c.through-out.ensures)
    (through_known c.change_at-change.result _ known)

pub go_on-requires-clause-due : goal.go_on-requires-clause-due
go_on-requires-clause-due c =
    let code = c.args.code.now in
    let at = c.args.at in
    let i = c.index-ins.result.now in
    let change = change_at code c.args.slot at in
    let lt : at < length c.args.work.now.held.items =
    subst (λ k. at < k) (sym c.requires.above.count) c.requires.at in
    let read : c.index-known.result.now ≡ held_at c.args.work.now at =
    c.index-known.ensures ∙ get_or_default c.args.work.now.held.items at _ Unreached lt in
    let is : c.through-out.result ≡ through change (held_at c.args.work.now at) =
    c.through-out.ensures ∙ (ap (λ x. through x c.index-known.result.now) c.change_at-change.ensures
    ∙ ap (through change) read) in
    subst (λ o. All (Due code c.args.slot o) (next_of (length code.ins) at i.op)) (sym is)
    (due_onward code c.args.slot c.args.work.now at i c.requires.above c.requires.at
    c.index-ins.ensures)

pub jump-requires-clause-below : goal.jump-requires-clause-below
jump-requires-clause-below c =
    let ins = c.args.code.now.ins in
    let i = c.index-ins.result.now in
    let P : Ins → Type 0 = λ i. All (λ t. t < length ins) (targets i.op) in
    subst P (get_or_from_slice_get ins c.args.at i i c.index-ins.ensures)
    (All-get_or P ins c.args.at i c.requires.at c.requires.whole.targets)

pub jump-requires-clause-due : goal.jump-requires-clause-due
jump-requires-clause-due c =
    let code = c.args.code.now in
    let at = c.args.at in
    let i = c.index-ins.result.now in
    let change = change_at code c.args.slot at in
    let lt : at < length c.args.work.now.held.items =
    subst (λ k. at < k) (sym c.requires.above.count) c.requires.at in
    let read : c.index-known.result.now ≡ held_at c.args.work.now at =
    c.index-known.ensures ∙ get_or_default c.args.work.now.held.items at _ Unreached lt in
    let is : c.through-out.result ≡ through change (held_at c.args.work.now at) =
    c.through-out.ensures ∙ (ap (λ x. through x c.index-known.result.now) c.change_at-change.ensures
    ∙ ap (through change) read) in
    subst (λ o. All (Due code c.args.slot o) (targets i.op)) (sym is)
    (due_targets code c.args.slot c.args.work.now at i c.requires.above c.requires.at
    c.index-ins.ensures)

pub returns-clause-flows : goal.returns-clause-flows
returns-clause-flows c =
    let code = c.args.code.now in
    let at = c.args.at in
    let i = c.index-ins.result.now in
    let change = change_at code c.args.slot at in
    let lt : at < length c.args.work.now.held.items =
    subst (λ k. at < k) (sym c.requires.above.count) c.requires.at in
    let read : c.index-known.result.now ≡ held_at c.args.work.now at =
    c.index-known.ensures ∙ get_or_default c.args.work.now.held.items at _ Unreached lt in
    let is : c.through-out.result ≡ through change (held_at c.args.work.now at) =
    c.through-out.ensures ∙ (ap (λ x. through x c.index-known.result.now) c.change_at-change.ensures
    ∙ ap (through change) read) in
    let new = c.jump.new.work in
    let next = next_of (length code.ins) at i.op in
    let P = Flows new (through change (held_at c.args.work.now at)) in
    subst (All P) (sym (ap (successors_by (length code.ins) at) c.index-ins.ensures))
    (All-append P next (targets i.op)
    (subst (λ o. All (Flows new o) next) is
    (all_flow c.go_on.new.work new c.through-out.result next c.in_ok-jump.ensures.grows
    c.in_ok-go_on.ensures.flows))
    (subst (λ o. All (Flows new o) (targets i.op)) is c.in_ok-jump.ensures.flows))
