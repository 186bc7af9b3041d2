-- Answers of `lined_by`: what its calls ask for, and what it promises.
use Rattle.std.proofs.Common.{rules, ◌≡◌, ◌++◌, ◌∷◌, [], length, arith, sym, ap, ◌∙◌}
use Rattle.std.proofs.lemmas.List.{nil_from_length}
use Rattle.std.specs.Slice.Iter.{iter_rest}
use Rattle.std.specs.Vec.Iter.{into_iter_items}
use Rattle.class_model.specs.declared.code.Ins.{Ins}
use Rattle.frame_read.specs.bodies.Numbers.{found}
use Rattle.class_read.specs.bodies.Lines.{lined_by}
use Rattle.class_read.proofs.LineTable.{one_more, no_more}
use Rattle.class_read.proofs.lines.lined_by.Goals as goal

pub loop-op-preserved : goal.loop-op-preserved
loop-op-preserved c =
    let f = found c.args.lines.now in
    let total = lined_by f c.args.starts.now c.args.ops in
    let next : into_iter_items c.loop-op.op-iterator ≡ c.in-Some.op ∷ into_iter_items c.next.new.self = search rules in
    let started : iter_rest c.loop-op.starts
    ≡ c.in-Some-next.start.now ∷ iter_rest c.next-in-loop-op.new.self = search rules in
    let steps = rw c.in-Some.is at c.next.ensures.steps in
    let one : Ins = record { op = c.in-Some.op; line = c.line_in-line.result } in
    let pushed : c.push.new.self ≡ c.loop-op.ins ++ one ∷ [] = c.in_ok-push.ensures in
    rw pushed (
      one_more f c.loop-op.ins c.in-Some-next.start.now (iter_rest c.next-in-loop-op.new.self) c.in-Some.op
          (into_iter_items c.next.new.self) c.line_in-line.result total c.line_in-line.ensures
          (ap (λ starts. c.loop-op.ins ++ lined_by f starts (c.in-Some.op ∷ into_iter_items c.next.new.self))
          (sym started) ∙ ap (λ ops. c.loop-op.ins ++ lined_by f (iter_rest c.loop-op.starts) ops) (sym next)
          ∙ c.loop-op.invariant.0),
      omega (arith, c.loop-op.invariant.1, steps.1, ap length next),
    )

pub returns : goal.returns
returns c =
    let f = found c.args.lines.now in
    let steps = rw c.in-None.is at c.next.ensures.steps in
    let none : into_iter_items c.loop-op.op-iterator
    ≡ [] = nil_from_length (into_iter_items c.loop-op.op-iterator) (sym c.loop-op.invariant.1 ∙ steps.0) in
    no_more f c.loop-op.ins (iter_rest c.loop-op.starts) (lined_by f c.args.starts.now c.args.ops)
    (ap (λ ops. c.loop-op.ins ++ lined_by f (iter_rest c.loop-op.starts) ops) (sym none) ∙ c.loop-op.invariant.0)
