use Rattle.std.proofs.Common.{◌≡◌, drop, length}
use Rattle.class_model.specs.declared.code.Ins.{Ins}
use Rattle.code_edit.specs.Flow.{successors_of}
use Rattle.edit_tables.specs.Spread.{spread}
use Rattle.edit_legal.proofs.drops.mark_all_successors.Given as goal

abbrev pub invariant-loop-ins : goal.invariant-loop-ins
invariant-loop-ins l =
    (spread (λ at (i : Ins). successors_of (length l.fn.ins) at i.op) l.left l.at
    (drop l.ins-index l.fn.ins) l.marks.items
    ≡ spread (λ at (i : Ins). successors_of (length l.fn.ins) at i.op) l.left 0 l.fn.ins
    l.fn.marks.items)
    × (l.at ≡ l.ins-index)
