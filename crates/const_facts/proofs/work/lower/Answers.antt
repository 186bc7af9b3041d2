-- Answers of `lower`: what its calls ask for, and what it promises.
use Rattle.std.proofs.Common.{◌≡◌, ◌<◌, length, refl, sym, subst, ap, ◌∙◌}
use Rattle.std.proofs.lemmas.List.{get_or_default}
use Rattle.std.specs.Vec.{with_item}
use Rattle.const_facts.specs.declared.held.Held.TheVariants.{Unreached}
use Rattle.const_facts.specs.declared.work.Work.{Work}
use Rattle.const_facts.specs.Order.{meet}
use Rattle.const_facts.specs.Worklist.{held_at}
use Rattle.const_facts.proofs.Lowering.{lowered_above, lowered_grows}
use Rattle.const_facts.proofs.work.lower.Goals as goal

pub returns-in_ok-push-clause-above : goal.returns-in_ok-push-clause-above
returns-in_ok-push-clause-above c =
    let lt : c.args.to < length c.args.work.now.held.items =
    subst (λ k. c.args.to < k) (sym c.requires.above.count) c.requires.to in
    let read : c.index-before.result.now ≡ held_at c.args.work.now c.args.to =
    c.index-before.ensures ∙ get_or_default c.args.work.now.held.items c.args.to _ Unreached lt in
    let new : Work = record {
      held = with_item c.args.work.now.held c.args.to c.meet-now.result;
      waiting =
          c.push.new.self;
    } in
    lowered_above c.args.code.now c.args.slot c.args.work.now new c.args.to c.args.out
    c.meet-now.result
    c.requires.above c.requires.to refl c.in_ok-push.ensures.items
    (c.meet-now.ensures ∙ ap (λ h. meet h c.args.out) read) c.requires.known c.requires.due

pub returns-in_ok-push-clause-grows : goal.returns-in_ok-push-clause-grows
returns-in_ok-push-clause-grows c =
    let lt : c.args.to < length c.args.work.now.held.items =
    subst (λ k. c.args.to < k) (sym c.requires.above.count) c.requires.to in
    let read : c.index-before.result.now ≡ held_at c.args.work.now c.args.to =
    c.index-before.ensures ∙ get_or_default c.args.work.now.held.items c.args.to _ Unreached lt in
    let new : Work = record {
      held = with_item c.args.work.now.held c.args.to c.meet-now.result;
      waiting =
          c.push.new.self;
    } in
    lowered_grows c.args.code.now c.args.slot c.args.work.now new c.args.to c.args.out
    c.meet-now.result
    c.requires.above c.requires.to refl c.in_ok-push.ensures.items
    (c.meet-now.ensures ∙ ap (λ h. meet h c.args.out) read) c.requires.known
    (λ e. let f : c.index-before.result.now ≡ c.meet-now.result = read ∙ e in
    let t = c.is_same.ensures.1 f in (cc))
