-- Answers of `push_frame`: what its calls ask for, and what it promises.
use Rattle.std.proofs.Common.{◌≡◌, ◌++◌, ℕ, List, sym, ap, subst, ◌∙◌}
use Rattle.std.specs.Prelude.{OnOk}
use Rattle.std.specs.Option.{option_copied}
use Rattle.retrace_core.specs.Retraced.{frame_retraced, joined}
use Rattle.retrace_core.specs.bodies.Parts.{frame_shown}
use Rattle.retrace_core.specs.bodies.Tables.{TellsClass}
use Rattle.retrace_core.proofs.LineParts.{joined_one}
use Rattle.retrace_core.proofs.Telling.{answers_none, answers_some}
use Rattle.retrace_core.proofs.trace.push_frame.Goals as goal

pub returns-in-Some : goal.returns-in-Some
returns-in-Some c = λ m told.
    let found = answers_some TellsClass c.in-Some.class.now _ _ (ap option_copied (sym c.in-Some.is)
    ∙ c.class_named.ensures)
    (told c.args.frame.now.class.now) in
    subst (λ o. OnOk c.push_old_frames.result (c.push_old_frames.new.out.items
    ≡ c.args.out.now.items
    ++ joined c.args.between.now (frame_retraced c.args.line.now (frame_shown c.args.frame.now) o))) (sym found.1)
    (c.push_old_frames.ensures found.0 found.2)

pub returns-in-None : goal.returns-in-None
returns-in-None c = λ m told.
    let none = answers_none TellsClass _ _ (ap option_copied (sym c.in-None.is) ∙ c.class_named.ensures)
    (told c.args.frame.now.class.now) in
    subst (λ o. OnOk c.push_text.result (c.push_text.new.out.items
    ≡ c.args.out.now.items
    ++ joined c.args.between.now (frame_retraced c.args.line.now (frame_shown c.args.frame.now) o))) (sym none)
    (subst (λ (t : List ℕ). OnOk c.push_text.result (c.push_text.new.out.items ≡ c.args.out.now.items ++ t))
    (sym (joined_one c.args.between.now c.args.line.now)) c.push_text.ensures)
