-- Answers of `skippable`: what its calls ask for, and what it promises.
use Rattle.std.proofs.Common.{◌∙◌, List, Bool, ap}
use Rattle.std.proofs.lemmas.Result.{IfOk-weaker}
use Rattle.edit_legal.specs.Movable.{skippable_by}
use Rattle.edit_tables.specs.Marks.{none, with_skips}
use Rattle.edit_tables.specs.Unskipped.{unskipped}
use Rattle.edit_legal.proofs.Lengths.{unskipped_few}
use Rattle.edit_legal.proofs.jumps.skippable.Goals as goal

pub skippable_by-requires-clause-lives : goal.skippable_by-requires-clause-lives
skippable_by-requires-clause-lives c =
    unskipped_few c.deref.result.now c.deref-3.result.now c.args.code.now 4294967295
    (c.deref-3.ensures.value ∙ c.in_ok-lives.ensures) c.requires

pub returns : goal.returns
returns c =
    let skips =
    c.in_ok-skips.ensures ∙ ap (λ n. with_skips c.args.acts.now (none n)) c.len.ensures in
    let lives =
    c.deref-3.ensures.value ∙ c.in_ok-lives.ensures
    ∙ ap (λ (xs : List Bool). unskipped xs c.args.code.now) (c.deref.ensures.value ∙ skips) in
    IfOk-weaker c.skippable_by.result _ _
    (λ marks h. h
    ∙ (λ i. skippable_by c.args.aims.now ((c.deref-2.ensures.value ∙ skips) i) (lives i)
    c.args.code.now)) c.skippable_by.ensures
