-- Answers of `begin`: what its calls ask for, and what it promises.
use Rattle.std.proofs.Common.{◌≡◌, ◌<◌, ◌≤◌, length, get_or, sym, subst, take, take_all}
use Rattle.std.specs.List.{All}
use Rattle.std.proofs.lemmas.List.Elements.{All-more, All-weaker}
use Rattle.class_model.specs.declared.code.Handler.{Handler}
use Rattle.const_facts.specs.declared.held.Held.TheVariants.{Varies}
use Rattle.const_facts.specs.Worklist.{held_at}
use Rattle.const_facts.proofs.Lowering.{grows_trans}
use Rattle.const_facts.proofs.Taking.{varies_grow}
use Rattle.const_facts.proofs.work.begin.Goals as goal

pub loop-handler-preserved : goal.loop-handler-preserved
loop-handler-preserved c =
    let grows = c.in_ok-lower-2.ensures.grows in
    let old = c.loop-handler.work in
    let new = c.lower-in-loop-handler.new.work in
    let e = c.as_slice-handler-items.ensures in
    let i = c.loop-handler.handler-index in
    let item : Handler = c.handler-item.result in
    let read : get_or c.args.code.now.handlers i item ≡ item =
    subst (λ l. get_or l i item ≡ item) e (sym c.handler-item.is) in (
      c.in_ok-lower-2.ensures.above,
      grows_trans c.args.work.now old new c.loop-handler.invariant.1 grows,
      varies_grow old new 0 grows c.loop-handler.invariant.2,
      All-more (λ (h : Handler). held_at new h.entry ≡ Varies) c.args.code.now.handlers i item
          (subst (λ l. i < length l) e c.loop-handler-test.true)
          (All-weaker (λ (h : Handler). held_at old h.entry ≡ Varies)
          (λ (h : Handler). held_at new h.entry ≡ Varies)
          (λ h e. varies_grow old new h.entry grows e)
          (take i c.args.code.now.handlers) c.loop-handler.invariant.3)
          (subst (λ (h : Handler). held_at new h.entry ≡ Varies)
          (sym read) c.in_ok-lower-2.ensures.flows),
    )

pub returns-clause-handlers : goal.returns-clause-handlers
returns-clause-handlers c =
    subst (All (λ (h : Handler). held_at c.loop-handler.work h.entry ≡ Varies))
    (take_all c.loop-handler.handler-index c.args.code.now.handlers
    (subst (λ l. length l ≤ c.loop-handler.handler-index) c.as_slice-handler-items.ensures
    c.loop-handler-test.false))
    c.loop-handler.invariant.3
