-- Answers of `known_slots`: what its calls ask for, and what it promises.
use Rattle.std.proofs.Common.{◌+◌, ◌≡◌, true, ap, sym, subst}
use Rattle.edit_tables.specs.Marks.{has}
use Rattle.pass_const.specs.Known.{KnowsSlots}
use Rattle.pass_const.proofs.Knowing.{known_more}
use Rattle.pass_const.proofs.known.known_slots.Goals as goal

pub loop-is_asked-preserved : goal.loop-is_asked-preserved
loop-is_asked-preserved c =
    let code = c.args.code.now in
    let asked = c.args.asked.now in
    let slot = c.loop-is_asked.slot in
    let known = c.loop-is_asked.invariant in (
      subst (KnowsSlots code asked (slot + 1)) (sym c.in_ok-push.ensures.items)
          (known_more code asked slot c.loop-is_asked.lists.items c.in_ok-known.known known.0
          (λ h. c.in_ok-known.ensures.largest (subst (λ k. has asked k ≡ true) known.1 h))
          c.in_ok-known.ensures.few),
      ap (λ n. n + 1) known.1,
    )
