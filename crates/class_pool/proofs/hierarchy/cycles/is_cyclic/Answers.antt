-- Answers of `is_cyclic`: what its calls ask for, and what it promises.
use Rattle.std.proofs.Common.{◌≡◌, ◌∙◌, false, sym}
use Rattle.std.proofs.lemmas.Option.{get_or_from_slice_get}
use Rattle.mark_core.specs.declared.system.System.{System}
use Rattle.mark_core.specs.Marks.{set_of}
use Rattle.class_pool.proofs.Above.{seeded, valid}
use Rattle.class_pool.proofs.CycleLaws.{marked_proper, proper_marked}
use Rattle.class_pool.proofs.hierarchy.cycles.is_cyclic.Goals as goal

pub plain_marks-requires : goal.plain_marks-requires
plain_marks-requires c =
    valid c.args.set.now (record c.args.hierarchy.now { seeds = c.in_ok-hierarchy.field-0 })
    (seeded c.args.set.now c.class.result.now c.args.hierarchy.now c.in_ok-hierarchy.field-0 c.requires.hierarchy
    c.in_ok-hierarchy.ensures)

pub returns-clause-is : goal.returns-clause-is
returns-clause-is c =
    let sys : System = record c.args.hierarchy.now { seeds = c.in_ok-hierarchy.field-0 } in
    let h =
    seeded c.args.set.now c.class.result.now c.args.hierarchy.now c.in_ok-hierarchy.field-0 c.requires.hierarchy
    c.in_ok-hierarchy.ensures in
    let read : set_of c.in_ok-marks.marks c.args.number ≡ c.index.result.now =
    get_or_from_slice_get c.in_ok-marks.marks c.args.number c.index.result.now false c.index.ensures in (
      λ has.
          marked_proper c.args.set.now sys c.in_ok-marks.marks c.args.number c.args.number c.class.result.now h
          c.class.ensures.is c.in_ok-hierarchy.ensures c.in_ok-marks.ensures (read ∙ has),
      λ cyclic.
          sym read
          ∙ proper_marked c.args.set.now sys c.in_ok-marks.marks c.args.number c.args.number c.class.result.now h
          c.class.ensures.is c.in_ok-hierarchy.ensures c.in_ok-marks.ensures cyclic,
    )

pub returns-clause-test : goal.returns-clause-test
returns-clause-test c =
    let sys : System = record c.args.hierarchy.now { seeds = c.in_ok-hierarchy.field-0 } in
    let h =
    seeded c.args.set.now c.class.result.now c.args.hierarchy.now c.in_ok-hierarchy.field-0 c.requires.hierarchy
    c.in_ok-hierarchy.ensures in (
      set_of c.in_ok-marks.marks,
      λ m within. (
        λ has.
            marked_proper c.args.set.now sys c.in_ok-marks.marks c.args.number m c.class.result.now h
            c.class.ensures.is c.in_ok-hierarchy.ensures c.in_ok-marks.ensures has,
        λ proper.
            proper_marked c.args.set.now sys c.in_ok-marks.marks c.args.number m c.class.result.now h
            c.class.ensures.is c.in_ok-hierarchy.ensures c.in_ok-marks.ensures proper,
      ),
    )
