use Rattle.std.proofs.Common.{◌≡◌, ◌++◌, drop, map}
use Rattle.class_model.specs.declared.code.Ins.{Ins}
use Rattle.edit_legal.specs.Cuttable.{is_cuttable}
use Rattle.edit_legal.proofs.cuts.cuttable.Given as goal

abbrev pub invariant-loop-ins : goal.invariant-loop-ins
invariant-loop-ins l =
    l.marks.items
    ++ map (λ (i : Ins). is_cuttable l.loads.items l.additions.items i.op)
    (drop l.ins-index l.code.ins)
    ≡ map (λ (i : Ins). is_cuttable l.loads.items l.additions.items i.op) l.code.ins
