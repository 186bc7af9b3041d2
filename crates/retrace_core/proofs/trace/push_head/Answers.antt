-- Answers of `push_head`: what its calls ask for, and what it promises.
use Rattle.std.proofs.Common.{◌≡◌, ◌++◌, sym, ap, subst, ◌∙◌, List, ℕ}
use Rattle.std.specs.Prelude.{OnOk}
use Rattle.std.specs.Option.{option_copied}
use Rattle.retrace_core.specs.Retraced.{head_retraced}
use Rattle.retrace_core.specs.bodies.Parts.{head_shown}
use Rattle.retrace_core.specs.bodies.Tables.{TellsClass}
use Rattle.retrace_core.proofs.Telling.{answers_none, answers_some}
use Rattle.retrace_core.proofs.trace.push_head.Goals as goal

pub returns-in-Some : goal.returns-in-Some
returns-in-Some c = λ m told.
    let found = answers_some TellsClass c.in-Some.class.now _ _ (ap option_copied (sym c.in-Some.is)
    ∙ c.class_named.ensures)
    (told c.args.head.now.class.now) in
    subst (λ o. OnOk c.push_old_head.result (c.push_old_head.new.out.items
    ≡ c.args.out.now.items ++ head_retraced c.args.line.now (head_shown c.args.head.now) o)) (sym found.1)
    (subst (λ (t : List ℕ). OnOk c.push_old_head.result (c.push_old_head.new.out.items
    ≡ c.args.out.now.items ++ (c.args.head.now.front.now ++ (t ++ c.args.head.now.text.now))))
    (c.deref.ensures.value ∙ found.2.old) c.push_old_head.ensures)

pub returns-in-None : goal.returns-in-None
returns-in-None c = λ m told.
    let none = answers_none TellsClass _ _ (ap option_copied (sym c.in-None.is) ∙ c.class_named.ensures)
    (told c.args.head.now.class.now) in
    subst (λ o. OnOk c.push_text.result (c.push_text.new.out.items
    ≡ c.args.out.now.items ++ head_retraced c.args.line.now (head_shown c.args.head.now) o)) (sym none)
    c.push_text.ensures
