use Rattle.std.proofs.Common.{◌≡◌, map, take}
use Rattle.class_model.specs.declared.code.Ins.{Ins}
use Rattle.pass_const.specs.Taking.{asks}
use Rattle.pass_const.proofs.slots.asking.Given as goal

abbrev pub invariant-loop-ins : goal.invariant-loop-ins
invariant-loop-ins l = l.marks.items ≡ map (λ (i : Ins). asks i.op) (take l.ins-index l.code.ins)
