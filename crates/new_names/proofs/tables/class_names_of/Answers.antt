-- Answers of `class_names_of`: what its calls ask for, and what it promises.
use Rattle.std.proofs.Common.{◌≡◌, ◌∙◌, ℕ, List, Option, Some, cond, drop, ap, subst, arith}
use Rattle.jv_base.specs.Names.{is_text}
use Rattle.mapping_file.specs.declared.mapping.MapClass.{MapClass}
use Rattle.new_names.specs.NewNames.{class_names}
use Rattle.new_names.specs.bodies.Tables.{TellsNames}
use Rattle.new_names.proofs.Telling.{put_before}
use Rattle.new_names.proofs.tables.class_names_of.Goals as goal

pub loop-left-preserved : goal.loop-left-preserved
loop-left-preserved c =
    let x : MapClass = c.index-lines-left.result in
    record {
      within = omega (arith, c.loop-left.invariant.within);
      told = λ name. put_before (λ old. is_text old name) class_names c.args.lines.now c.loop-left.left x _
          c.loop-left-test.true c.loop-left.invariant.within c.index-lines-left.is
          (c.in_ok-put_class_name.ensures name
          ∙ ap (λ (o : Option (List ℕ)). cond (is_text x.old name) (Some x.new) o)
          (c.loop-left.invariant.told name));
    }

pub returns : goal.returns
returns c =
    let zero : c.loop-left.left ≡ 0 = omega arith in
    subst (λ (n : ℕ). TellsNames c.loop-left.table (class_names (drop n c.args.lines.now))) zero
    c.loop-left.invariant.told
