-- Answers of `read_files`: what its calls ask for, and what it promises.
use Rattle.std.proofs.Common.{rules, ◌≡◌, ◌∷◌, ◌++◌, [], List, length, ap, sym, subst, ◌∙◌, arith}
use Rattle.std.specs.Vec.Iter.{into_iter_items}
use Rattle.std.proofs.lemmas.List.{nil_from_length}
use Rattle.std.proofs.lemmas.Result.{err_from_is_err_and}
use Rattle.tree_io.specs.declared.file_at.FileAt.{FileAt}
use Rattle.class_pool.specs.declared.fault.NamedClass.{NamedClass}
use Rattle.set_read.proofs.Files.{ReadSoFar, ends, goes_on, is_short, starts, stops_at}
use Rattle.set_read.proofs.reading.read_files.Goals as goal

pub loop-file-init : goal.loop-file-init
loop-file-init c =
    let all : into_iter_items c.into_iter-file-iterator.result
    ≡ c.args.files = c.into_iter-file-iterator.ensures.into_iter_gives.0 ∙ c.into_vec-file-items.ensures in
    record {
      read = rw (all, c.new-classes.ensures) (starts c.args.files);
      counted = search rules;
    }

pub read_file-requires : goal.read_file-requires
read_file-requires c =
    let rest : List FileAt = into_iter_items c.next.new.self in
    let so : ReadSoFar c.args.files (c.in-Some.file ∷ rest) c.loop-file.classes =
    subst (λ (left : List FileAt). ReadSoFar c.args.files left c.loop-file.classes) c.in-Some.ensures.steps.0
    c.loop-file.invariant.read in
    record { short = is_short c.args.files rest c.loop-file.classes c.in-Some.file 4294967295 so c.requires.short }

pub returns-in_err-class : goal.returns-in_err-class
returns-in_err-class c =
    let rest : List FileAt = into_iter_items c.next.new.self in
    let so : ReadSoFar c.args.files (c.in-Some.file ∷ rest) c.loop-file.classes =
    subst (λ (left : List FileAt). ReadSoFar c.args.files left c.loop-file.classes) c.in-Some.ensures.steps.0
    c.loop-file.invariant.read in
    let p = err_from_is_err_and c.from_residual.result c.from_residual.ensures.1 in
    record {
      exact = rw (p.1, p.2)
          (stops_at c.args.files rest c.loop-file.classes c.in-Some.file c.in_err-class.field-0.0 so
          c.in_err-class.ensures.exact);
    }

pub loop-file-preserved : goal.loop-file-preserved
loop-file-preserved c =
    let rest : List FileAt = into_iter_items c.next.new.self in
    let first : into_iter_items c.loop-file.file-iterator ≡ c.in-Some.file ∷ rest = c.in-Some.ensures.steps.0 in
    let so : ReadSoFar c.args.files (c.in-Some.file ∷ rest) c.loop-file.classes =
    subst (λ (left : List FileAt). ReadSoFar c.args.files left c.loop-file.classes) first c.loop-file.invariant.read in
    let put : c.push.new.self ≡ c.loop-file.classes ++ c.in_ok-class.class ∷ [] = c.in_ok-push.ensures in
    record {
      read =
          subst (λ (named : List NamedClass). ReadSoFar c.args.files rest named) (sym put)
          (goes_on c.args.files rest c.loop-file.classes c.in-Some.file c.in_ok-class.class so
          c.in_ok-class.ensures.exact);
      counted = omega (arith, c.in-Some.ensures.steps.1, c.loop-file.invariant.counted, ap length first);
    }

pub returns : goal.returns
returns c =
    let left : List FileAt = into_iter_items c.loop-file.file-iterator in
    let none : left ≡ [] = nil_from_length left (sym c.loop-file.invariant.counted ∙ c.in-None.ensures.steps.0) in
    record {
      exact = ends c.args.files c.loop-file.classes
          (subst (λ (fs : List FileAt). ReadSoFar c.args.files fs c.loop-file.classes) none c.loop-file.invariant.read);
    }
