-- Answers of `files_of`: what its calls ask for, and what it promises.
use Rattle.std.proofs.Common.{rules, ◌≡◌, List, [], ◌∷◌, ◌∙◌, Result, ap, length, map, subst, sym, arith}
use Rattle.std.proofs.lemmas.List.{nil_from_length}
use Rattle.std.proofs.lemmas.Result.{err_from_is_err_and}
use Rattle.std.specs.Vec.Iter.{into_iter_items}
use Rattle.jv_base.specs.declared.outcome.Or.{Or}
use Rattle.tree_io.specs.declared.file_at.FileAt.{FileAt}
use Rattle.attribute_filter.specs.Filtered.{filtered}
use Rattle.class_model.specs.declared.limit.WriteLimit.{WriteLimit}
use Rattle.set_shrink.proofs.Written.{AreWritten, all_written, more_written, none_written, stops}
use Rattle.set_shrink.proofs.files.files_of.Goals as goal

pub loop-written-init : goal.loop-written-init
loop-written-init g c =
    let classes = map (filtered c.args.filter.now) c.args.classes in
    let dir = c.args.directory.now in
    let given : into_iter_items c.into_iter-written-iterator.result
    ≡ c.in_ok-all.all.items = c.into_iter-written-iterator.ensures.into_iter_gives.0 in
    record {
      written = rw (c.new-files.ensures, given) (none_written classes dir c.in_ok-all.all.items c.in_ok-all.ensures);
      counted = search rules;
    }

pub loop-written-preserved : goal.loop-written-preserved
loop-written-preserved g c =
    let classes = map (filtered c.args.filter.now) c.args.classes in
    let dir = c.args.directory.now in
    let rest : List (Result FileAt (Or WriteLimit)) = into_iter_items c.next.new.self in
    let first = c.in-Some.ensures.steps.0 ∙ ap (λ (r : Result FileAt (Or WriteLimit)). r ∷ rest) c.in_ok-file.was in
    let before = subst (λ (l : List (Result FileAt (Or WriteLimit))). AreWritten classes dir c.loop-written.files l) first
    c.loop-written.invariant.written in
    record {
      written = rw c.in_ok-push.ensures (more_written classes dir c.loop-written.files rest c.in_ok-file.file before);
      counted = omega (
        arith,
        c.in-Some.ensures.steps.1,
        c.loop-written.invariant.counted,
        ap length c.in-Some.ensures.steps.0,
      );
    }

pub returns-in_err-file : goal.returns-in_err-file
returns-in_err-file g c =
    let classes = map (filtered c.args.filter.now) c.args.classes in
    let dir = c.args.directory.now in
    let rest : List (Result FileAt (Or WriteLimit)) = into_iter_items c.next.new.self in
    let first = c.in-Some.ensures.steps.0 ∙ ap (λ (r : Result FileAt (Or WriteLimit)). r ∷ rest) c.in_err-file.was in
    let before = subst (λ (l : List (Result FileAt (Or WriteLimit))). AreWritten classes dir c.loop-written.files l) first
    c.loop-written.invariant.written in
    let p = err_from_is_err_and c.from_residual-in_err-file.result c.from_residual-in_err-file.ensures.1 in
    record { exact = rw (p.1, p.2) (stops classes dir c.loop-written.files rest c.in_err-file.field-0.0 before) }

pub returns : goal.returns
returns g c =
    let classes = map (filtered c.args.filter.now) c.args.classes in
    let dir = c.args.directory.now in
    let left : List (Result FileAt (Or WriteLimit)) = into_iter_items c.loop-written.written-iterator in
    let none : left ≡ [] = nil_from_length left (sym c.loop-written.invariant.counted ∙ c.in-None.ensures.steps.0) in
    record {
      exact = all_written classes dir c.loop-written.files
          (subst (λ (l : List (Result FileAt (Or WriteLimit))). AreWritten classes dir c.loop-written.files l) none
          c.loop-written.invariant.written);
    }
