-- Answers of `number`: what its calls ask for, and what it promises.
use Rattle.std.proofs.Common.{◌∙◌, ◌+◌, sym, ap, arith}
use Rattle.lib_table.proofs.Computed.{count}
use Rattle.class_pool.specs.bodies.Graph.{number}
use Rattle.class_pool.proofs.Graphing.{library_length}
use Rattle.class_pool.proofs.hierarchy.graph.number.Goals as goal

pub overflow_add-result : goal.overflow_add-result
overflow_add-result c =
    let long = library_length c.args.library.now c.requires.library in
    grind (arith, count, long, c.len.ensures)

pub returns-in-Prog : goal.returns-in-Prog
returns-in-Prog c = ap (λ k. k + c.in-Prog.number)
    (c.len.ensures ∙ library_length c.args.library.now c.requires.library) ∙ ap number (sym c.in-Prog.is)
