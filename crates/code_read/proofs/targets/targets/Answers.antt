-- Answers of `targets`: what its calls ask for, and what it promises.
use Rattle.std.proofs.Common.{◌≡◌, ◌++◌, ◌∷◌, [], sym}
use Rattle.class_model.specs.InstructionMeaning.{aimed}
use Rattle.code_read.specs.Targets.{collected}
use Rattle.code_read.specs.bodies.Targets.{aim_in}
use Rattle.code_read.proofs.Collecting.{goes_on, stops, is_done}
use Rattle.code_read.proofs.targets.targets.Goals as goal

pub returns-in-Err : goal.returns-in-Err
returns-in-Err c =
    let f = aimed (aim_in c.args.table.now) c.args.at in
    stops f c.loop-offset.targets c.args.offsets.now c.loop-offset.offset-index _ c.in-Err.kind
    (collected f c.args.offsets.now) c.loop-offset-test.true (sym c.in-Err.ensures) c.loop-offset.invariant

pub loop-offset-preserved : goal.loop-offset-preserved
loop-offset-preserved c =
    let f = aimed (aim_in c.args.table.now) c.args.at in
    let e : c.push.new.self ≡ c.loop-offset.targets ++ c.in-Ok.to ∷ [] = c.in_ok-push-in-Ok.ensures in
    rw e (goes_on f c.loop-offset.targets c.args.offsets.now c.loop-offset.offset-index _ c.in-Ok.to
    (collected f c.args.offsets.now) c.loop-offset-test.true (sym c.in-Ok.ensures) c.loop-offset.invariant)

pub returns : goal.returns
returns c =
    let f = aimed (aim_in c.args.table.now) c.args.at in
    is_done f c.loop-offset.targets c.args.offsets.now c.loop-offset.offset-index
    (collected f c.args.offsets.now) c.loop-offset-test.false c.loop-offset.invariant
