-- Answers of `end_of`: what its calls ask for, and what it promises.
use Rattle.std.proofs.Common.{◌∙◌, Bor, Option, Some, sym, ap}
use Rattle.std.specs.Option.{option_copied}
use Rattle.class_run.specs.Ended.{back_of, end_of}
use Rattle.class_run.specs.declared.ended.End.TheVariants as end
use Rattle.jvm_model.specs.Value.{Value}
use Rattle.run_machine.specs.States.{state_of}
use Rattle.run_entry.proofs.Ran.{thrown_so}
use Rattle.run_entry.proofs.ending.end_of.Goals as goal

pub returns-in-Running : goal.returns-in-Running
returns-in-Running c p = ap (end_of (state_of p c.args.state.now).world.heap) (c.in-Running.ensures p)

pub returns-in_ok-back_of-in-Returned-Some : goal.returns-in_ok-back_of-in-Returned-Some
returns-in_ok-back_of-in-Returned-Some c p =
    ap end.Returned c.in_ok-back_of-in-Returned-Some.ensures
    ∙ ap (λ (v : Bor Value). end.Returned (back_of (Some v.now))) c.in-Returned-Some.value-is
    ∙ ap (λ (o : Option (Bor Value)). end.Returned (back_of (option_copied o))) (sym c.in-Returned-Some.field-0-is)
    ∙ ap (end_of (state_of p c.args.state.now).world.heap) (c.in-Returned-Some.ensures p)

pub returns-in-Returned-None : goal.returns-in-Returned-None
returns-in-Returned-None c p =
    ap (λ (o : Option (Bor Value)). end.Returned (back_of (option_copied o))) (sym c.in-Returned-None.field-0-is)
    ∙ ap (end_of (state_of p c.args.state.now).world.heap) (c.in-Returned-None.ensures p)

pub returns-in-Threw : goal.returns-in-Threw
returns-in-Threw c = thrown_so c.thrown.result c.args.state.now c.in-Threw.number c.thrown.ensures c.in-Threw.ensures

pub returns-in-Wrong : goal.returns-in-Wrong
returns-in-Wrong c p = ap (end_of (state_of p c.args.state.now).world.heap) (c.in-Wrong.ensures p)
