-- Answers of `cases`: what its calls ask for, and what it promises.
use Rattle.std.proofs.Common.{◌≡◌, ◌++◌, ◌∷◌, [], sym}
use Rattle.code_read.specs.Targets.{collected, case_aimed}
use Rattle.code_read.specs.bodies.Targets.{aim_in}
use Rattle.code_read.proofs.Collecting.{goes_on, stops, is_done}
use Rattle.code_read.proofs.targets.cases.Goals as goal

pub returns-in-Err : goal.returns-in-Err
returns-in-Err c =
    let f = case_aimed (aim_in c.args.table.now) c.args.at in
    stops f c.loop-next.cases c.args.matches.now c.loop-next.next-index _ c.in-Err.kind
    (collected f c.args.matches.now) c.loop-next-test.true (sym c.in-Err.ensures) c.loop-next.invariant

pub loop-next-preserved : goal.loop-next-preserved
loop-next-preserved c =
    let f = case_aimed (aim_in c.args.table.now) c.args.at in
    let e : c.push.new.self ≡ c.loop-next.cases ++ c.in-Ok.case ∷ [] = c.in_ok-push-in-Ok.ensures in
    rw e (goes_on f c.loop-next.cases c.args.matches.now c.loop-next.next-index _ c.in-Ok.case
    (collected f c.args.matches.now) c.loop-next-test.true (sym c.in-Ok.ensures) c.loop-next.invariant)

pub returns : goal.returns
returns c =
    let f = case_aimed (aim_in c.args.table.now) c.args.at in
    is_done f c.loop-next.cases c.args.matches.now c.loop-next.next-index
    (collected f c.args.matches.now) c.loop-next-test.false c.loop-next.invariant
