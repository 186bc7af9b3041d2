-- Answers of `listed_acts`: what its calls ask for, and what it promises.
use Rattle.std.proofs.Common.{◌++◌, ◌<◌, ◌∙◌, ap, false, length, map, subst, sym}
use Rattle.std.specs.List.{flat_map}
use Rattle.std.specs.Option.{is_some}
use Rattle.std.specs.Prelude.{slice_index_or}
use Rattle.class_model.specs.declared.code.Ins.{Ins}
use Rattle.code_edit.specs.ConstEdits.{Shut, fold_target, runs}
use Rattle.code_edit.specs.Rewriting.{map_from}
use Rattle.edit_tables.proofs.Marking.{targets_marked}
use Rattle.pass_const.specs.Folding.{acts_to}
use Rattle.pass_const.specs.Known.{known_in}
use Rattle.pass_const.specs.Taking.{marked_from, slot_marks}
use Rattle.pass_const.proofs.Listing.{listed_are, targets_long}
use Rattle.pass_const.proofs.acts.listed_acts.Goals as goal

pub known_slots-requires-clause-marks : goal.known_slots-requires-clause-marks
known_slots-requires-clause-marks c = λ at lt.
    ap (λ l. slice_index_or l at false) (c.deref.ensures.value ∙ c.in_ok-marks.ensures)
    ∙ targets_marked c.args.code.now at lt

pub fold_targets-requires-clause-marks : goal.fold_targets-requires-clause-marks
fold_targets-requires-clause-marks c = λ at lt.
    ap (λ l. slice_index_or l at false) (c.deref-2.ensures.value ∙ c.in_ok-marks.ensures)
    ∙ targets_marked c.args.code.now at lt

pub push_folds-requires : goal.push_folds-requires
push_folds-requires c =
    subst (λ n. n < 4294967295)
    (sym (ap length (c.deref-7.ensures.value ∙ c.in_ok-targets.ensures)
    ∙ targets_long c.args.code.now (known_in c.deref-3.result.now))) c.requires.few

pub returns : goal.returns
returns c =
    let code = c.args.code.now in
    let lists = c.in_ok-lists.lists.items in
    let facts = c.push_all_runs.new.acts.items in
    listed_are code c.args.asked.now lists c.in_ok-targets.targets.items c.in_ok-taken.taken.items
    facts c.push_folds.new.acts.items c.requires.asked c.in_ok-lists.ensures
    (c.in_ok-targets.ensures
    ∙ ap (λ l. map_from (λ at (i : Ins). fold_target (known_in l) code at) 0 code.ins)
    c.deref-3.ensures.value)
    (c.in_ok-taken.ensures.is ∙ ap (λ t. slot_marks code (map is_some t)) c.deref-4.ensures.value)
    (c.in_ok-push_all_runs.ensures
    ∙ ap (λ old. old ++ flat_map (λ slot. runs slot 0 Shut (known_in c.deref-5.result.now slot))
    (marked_from 0 c.deref-6.result.now)) c.new-acts.ensures.items
    ∙ ap (λ l. flat_map (λ slot. runs slot 0 Shut (known_in l slot))
    (marked_from 0 c.deref-6.result.now)) c.deref-5.ensures.value
    ∙ ap (λ t. flat_map (λ slot. runs slot 0 Shut (known_in lists slot)) (marked_from 0 t))
    c.deref-6.ensures.value)
    (c.in_ok-push_folds.ensures
    ∙ ap (λ t. facts ++ acts_to t (length t)) c.deref-7.ensures.value)
