-- Answers of `lives_after_cuts`: what its calls ask for, and what it promises.
use Rattle.std.proofs.Common.{◌≡◌, ℕ, List, Bool, ◌∙◌, ap}
use Rattle.edit_check.specs.StepTables.{cuts_of}
use Rattle.edit_check.specs.Uncut.{uncut}
use Rattle.edit_check.proofs.Living.{cuts_tell}
use Rattle.edit_tables.specs.Marks.{none, target_marks, with_cuts}
use Rattle.edit_check.proofs.lives.lives_after_cuts.Goals as goal

pub returns : goal.returns
returns c =
    let cuts : c.deref.result.now ≡ cuts_of c.args.acts.now c.args.code.now =
    c.deref.ensures.value ∙ c.in_ok-cuts.ensures
    ∙ ap (λ (n : ℕ). with_cuts c.args.acts.now (none n)) c.len.ensures in
    let targets : c.deref-2.result.now ≡ target_marks c.args.code.now =
    c.deref-2.ensures.value ∙ c.in_ok-targets.ensures in
    cuts_tell c.args.acts.now c.args.code.now c.in_ok-lives.lives.items
    (c.in_ok-lives.ensures ∙ (λ i. uncut (cuts i) (targets i) c.args.code.now))
