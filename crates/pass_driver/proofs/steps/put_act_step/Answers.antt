-- Answers of `put_act_step`: what its calls ask for, and what it promises.
use Rattle.std.proofs.Common.{Some, ◌∙◌, ap, refl}
use Rattle.class_model.specs.declared.code.Code.{Code}
use Rattle.frame_rebuild.specs.Rebuilt.{rebuilt}
use Rattle.pass_driver.specs.bodies.After.{code_of}
use Rattle.pass_driver.proofs.Stepping.{acted, found_right}
use Rattle.pass_driver.proofs.steps.put_act_step.Goals as goal

pub returns : goal.returns
returns c =
    let pass = c.args.edits.pass in
    let acts = c.args.edits.acts in
    acted c.args.own.now c.args.after (record { code = Some c.in_ok-code.code; steps = c.push.new.self })
    c.args.edits c.requires.right c.requires.found c.in_ok-push.ensures c.rebuilt_codes_are_good.ensures.format
    c.right_acts_keep_sound.ensures.step
    (found_right c.found_acts_are_legal.ensures pass acts (code_of c.args.own.now c.args.after) c.requires.found
    c.requires.right.sound)
    c.in_ok-code.code
    (c.in_ok-code.ensures ∙ ap (λ (code : Code). rebuilt pass acts code) c.code_of.ensures) refl c.requires.act
