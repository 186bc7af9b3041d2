-- Answers of `frames_after`: what its calls ask for, and what it promises.
use Rattle.std.proofs.Common.{ℕ, ◌≤◌, ◌<◌, ◌∙◌, sym, subst, rules, arith}
use Rattle.std.specs.Prelude.{◌^◌}
use Rattle.frame_rebuild.proofs.Telling.{frames_are, frames_fit}
use Rattle.frame_rebuild.proofs.rebuilding.frames_after.Goals as goal

pub carried-requires-clause-moves : goal.carried-requires-clause-moves
carried-requires-clause-moves c = c.in_ok-moves.ensures.moved

pub carried-requires-clause-few : goal.carried-requires-clause-few
carried-requires-clause-few c = subst (λ (n : ℕ). n < 4294967295) (sym c.in_ok-moves.ensures.long) c.requires.few

pub carried-requires-clause-fits : goal.carried-requires-clause-fits
carried-requires-clause-fits c =
    let locals : c.args.max_locals < 2 ^ 16 = search rules in
    let most = c.requires.locals in
    frames_fit c.args.edits.now.pass c.args.edits.now.acts c.args.code.now c.in_ok-moves.moves c.in_ok-moves.ensures
    (omega (arith, locals, most)) c.requires.good.frames

pub returns : goal.returns
returns c =
    c.in_ok-frames.ensures
    ∙ frames_are c.args.edits.now.pass c.args.edits.now.acts c.args.code.now c.in_ok-moves.moves
    c.in_ok-moves.ensures c.requires.good.frames
