-- Answers of `all_aimed`: what its calls ask for, and what it promises.
use Rattle.std.proofs.Common.{rules, ◌≡◌, ◌++◌, ◌∷◌, [], length, arith, sym, ap, ◌∙◌}
use Rattle.std.proofs.lemmas.List.{nil_from_length}
use Rattle.std.proofs.lemmas.Result.{err_from_is_err_and}
use Rattle.std.specs.Vec.Iter.{into_iter_items}
use Rattle.code_read.specs.Targets.{collected, placed_aimed}
use Rattle.code_read.specs.bodies.Targets.{aim_in}
use Rattle.code_read.proofs.Collecting.{onto, one_more, fault_comes, no_more}
use Rattle.code_read.proofs.targets.all_aimed.Goals as goal

pub returns-in_err-op : goal.returns-in_err-op
returns-in_err-op c =
    let f = placed_aimed (aim_in c.args.table.now) in
    let total = collected f c.args.placed in
    let p = err_from_is_err_and c.from_residual-in_err-op.result c.from_residual-in_err-op.ensures.1 in
    let next : into_iter_items c.loop-next.next-iterator
    ≡ c.in-Some.next ∷ into_iter_items c.next.new.self = search rules in
    rw (p.1, p.2) (fault_comes f c.loop-next.ops c.in-Some.next
    (into_iter_items c.next.new.self) c.in_err-op.field-0.0 total c.in_err-op.ensures
    (ap (λ xs. onto c.loop-next.ops (collected f xs)) (sym next) ∙ c.loop-next.invariant.0))

pub loop-next-preserved : goal.loop-next-preserved
loop-next-preserved c =
    let f = placed_aimed (aim_in c.args.table.now) in
    let total = collected f c.args.placed in
    let e : c.push.new.self ≡ c.loop-next.ops ++ c.in_ok-op.op ∷ [] = c.in_ok-push.ensures in
    let next : into_iter_items c.loop-next.next-iterator
    ≡ c.in-Some.next ∷ into_iter_items c.next.new.self = search rules in
    let steps = rw c.in-Some.is at c.next.ensures.steps in
    rw e (
      one_more f c.loop-next.ops c.in-Some.next
          (into_iter_items c.next.new.self) c.in_ok-op.op total c.in_ok-op.ensures
          (ap (λ xs. onto c.loop-next.ops (collected f xs)) (sym next) ∙ c.loop-next.invariant.0),
      omega
          (arith, c.loop-next.invariant.1, steps.1, ap length next),
    )

pub returns : goal.returns
returns c =
    let f = placed_aimed (aim_in c.args.table.now) in
    let steps = rw c.in-None.is at c.next.ensures.steps in
    let none : into_iter_items c.loop-next.next-iterator
    ≡ [] = nil_from_length (into_iter_items c.loop-next.next-iterator) (sym c.loop-next.invariant.1 ∙ steps.0) in
    no_more f c.loop-next.ops (collected f c.args.placed)
    (ap (λ xs. onto c.loop-next.ops (collected f xs)) (sym none) ∙ c.loop-next.invariant.0)
