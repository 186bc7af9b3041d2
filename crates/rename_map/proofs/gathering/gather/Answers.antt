-- Answers of `gather`: what its calls ask for, and what it promises.
use Rattle.std.proofs.Common.{List, Bool, [], ap, subst, arith}
use Rattle.std.specs.Prelude.{slice_index_or}
use Rattle.std.proofs.lemmas.List.{take_all}
use Rattle.class_model.specs.declared.class.Class.{Class}
use Rattle.rename_map.specs.Fixed.{marked, of_each}
use Rattle.jv_base.specs.Names.{is_text}
use Rattle.rename_map.specs.bodies.Adding.{Adds}
use Rattle.rename_map.proofs.Added.{adds_none, numbered_adds}
use Rattle.rename_map.proofs.gathering.gather.Goals as goal

pub loop-number-init : goal.loop-number-init
loop-number-init c = adds_none c.args.names.now

pub loop-number-preserved : goal.loop-number-preserved
loop-number-preserved c =
    numbered_adds (λ e. marked c.args.what (slice_index_or c.args.rows.now e.0 []) e.1) c.args.input.now
    c.loop-number.number
    c.class.result.now c.args.names.now c.loop-number.names c.add_marked.new.names
    (marked c.args.what c.row_of.result.now c.class.result.now) c.class.ensures.is
    (ap (λ (row : List Bool). marked c.args.what row c.class.result.now) c.row_of.ensures) c.loop-number.invariant
    c.in_ok-add_marked.ensures

pub returns : goal.returns
returns c =
    subst (λ (l : List Class). Adds is_text c.args.names.now (of_each c.args.what c.args.rows.now l)
    c.loop-number.names)
    (take_all c.loop-number.number c.args.input.now (omega (arith, c.loop-number-test.false, c.len-number-end.ensures)))
    c.loop-number.invariant
