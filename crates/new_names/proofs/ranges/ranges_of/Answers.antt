-- Answers of `ranges_of`: what its calls ask for, and what it promises.
use Rattle.std.proofs.Common.{◌≡◌, ◌∙◌, ℕ, Option, Some, cond, drop, ap, subst, arith}
use Rattle.jv_base.specs.Types as descriptor
use Rattle.mapping_file.specs.declared.mapping.MapMethod.{MapMethod}
use Rattle.mapping_file.specs.declared.mapping.Range.{Range}
use Rattle.new_names.specs.NewNames.{range_lines, is_same}
use Rattle.new_names.specs.bodies.Tables.{TellsRanges}
use Rattle.new_names.proofs.Telling.{put_before}
use Rattle.new_names.proofs.ranges.ranges_of.Goals as goal

pub loop-left-preserved : goal.loop-left-preserved
loop-left-preserved c =
    let x : MapMethod = c.index-lines-left.result in
    record {
      within = omega (arith, c.loop-left.invariant.within);
      told = λ key. put_before (λ old. is_same old key) range_lines c.args.lines.now c.loop-left.left x _
          c.loop-left-test.true c.loop-left.invariant.within c.index-lines-left.is
          (c.in_ok-put_range.ensures key
          ∙ ap (λ (o : Option (Option Range)). cond (is_same (x.old, descriptor.method_text x.ty) key) (Some x.lines) o)
          (c.loop-left.invariant.told key));
    }

pub returns : goal.returns
returns c =
    let zero : c.loop-left.left ≡ 0 = omega arith in
    subst (λ (n : ℕ). TellsRanges c.loop-left.table (range_lines (drop n c.args.lines.now))) zero
    c.loop-left.invariant.told
