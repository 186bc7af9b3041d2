-- Answers of `classes_of`: what its calls ask for, and what it promises.
use Rattle.std.proofs.Common.{◌≡◌, ◌∙◌, ℕ, Option, Some, cond, drop, ap, subst, arith}
use Rattle.jv_base.specs.Names.{is_text}
use Rattle.mapping_file.specs.declared.mapping.MapClass.{MapClass}
use Rattle.new_names.specs.NewNames.{class_lines}
use Rattle.new_names.specs.bodies.Tables.{TellsClasses}
use Rattle.new_names.proofs.Telling.{put_before}
use Rattle.new_names.proofs.tables.classes_of.Goals as goal

pub loop-left-preserved : goal.loop-left-preserved
loop-left-preserved c =
    let x : MapClass = c.index-lines-left.result in
    record {
      within = omega (arith, c.loop-left.invariant.within);
      told = λ name. put_before (λ old. is_text old name) class_lines c.args.lines.now c.loop-left.left x _
          c.loop-left-test.true c.loop-left.invariant.within c.index-lines-left.is
          (c.in_ok-put_class.ensures name
          ∙ ap (λ (o : Option MapClass). cond (is_text x.old name) (Some x) o) (c.loop-left.invariant.told name));
    }

pub returns : goal.returns
returns c =
    let zero : c.loop-left.left ≡ 0 = omega arith in
    subst (λ (n : ℕ). TellsClasses c.loop-left.table (drop n c.args.lines.now)) zero c.loop-left.invariant.told
