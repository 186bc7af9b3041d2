-- Answers of `fields_in`: what its calls ask for, and what it promises.
use Rattle.std.proofs.Common.{◌≡◌, ◌∙◌, ℕ, List, Option, Some, cond, drop, ap, subst, arith}
use Rattle.jv_base.specs.Types as descriptor
use Rattle.mapping_file.specs.declared.mapping.MapField.{MapField}
use Rattle.new_names.specs.NewNames.{field_lines, is_same}
use Rattle.new_names.specs.bodies.Tables.{TellsMembers}
use Rattle.new_names.proofs.Telling.{put_before}
use Rattle.new_names.proofs.members.fields_in.Goals as goal

pub loop-left-preserved : goal.loop-left-preserved
loop-left-preserved c =
    let x : MapField = c.index-lines-left.result in
    record {
      within = omega (arith, c.loop-left.invariant.within);
      told = λ key. put_before (λ old. is_same old key) field_lines c.args.lines.now c.loop-left.left x _
          c.loop-left-test.true c.loop-left.invariant.within c.index-lines-left.is
          (c.in_ok-put_field.ensures key
          ∙ ap (λ (o : Option (List ℕ)). cond (is_same (x.old, descriptor.field_text x.ty) key) (Some x.new) o)
          (c.loop-left.invariant.told key));
    }

pub returns : goal.returns
returns c =
    let zero : c.loop-left.left ≡ 0 = omega arith in
    subst (λ (n : ℕ). TellsMembers c.loop-left.table (field_lines (drop n c.args.lines.now))) zero
    c.loop-left.invariant.told
