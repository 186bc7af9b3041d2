-- Answers of `OldMethods::of`: what its calls ask for, and what it promises.
use Rattle.std.proofs.Common.{◌≡◌, ◌+◌, ◌-◌, ◌<◌, ℕ, List, length, refl, sym, subst, arith}
use Rattle.std.proofs.lemmas.Option.{slice_get_read}
use Rattle.retrace_core.specs.bodies.Linked.{AreLinked}
use Rattle.retrace_core.proofs.Links.{link_more}
use Rattle.retrace_core.proofs.tables.OldMethods.of.Goals as goal

pub loop-left-preserved : goal.loop-left-preserved
loop-left-preserved c =
    let methods = c.args.methods.now in
    let left : ℕ = c.loop-left.left - 1 in
    let m = c.index-methods-left.result in
    let low : left < length methods = omega (arith, c.loop-left-test.true, c.loop-left.invariant.0) in
    let one : c.loop-left.left ≡ left + 1 = omega (arith, c.loop-left-test.true) in (
      omega (arith, low),
      subst (λ (ns : List ℕ). AreLinked methods left c.put_place.new.firsts ns)
          (sym c.in_ok-put_place.ensures.nexts)
          (link_more methods left m c.loop-left.firsts c.put_place.new.firsts c.loop-left.nexts.items low
          (slice_get_read methods (length methods) left m refl low c.index-methods-left.is)
          (subst (λ (n : ℕ). AreLinked methods n c.loop-left.firsts c.loop-left.nexts.items) one c.loop-left.invariant.1)
          c.in_ok-put_place.ensures.firsts),
    )
