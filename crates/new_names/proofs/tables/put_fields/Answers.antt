-- Answers of `put_fields`: what its calls ask for, and what it promises.
use Rattle.std.proofs.Common.{◌≡◌, ◌++◌, ◌∙◌, ℕ, List, Option, Some, cond, drop, sym, ap, arith}
use Rattle.std.proofs.lemmas.List.{drop_all}
use Rattle.std.specs.Map.{lookup}
use Rattle.jv_base.specs.Names.{is_text}
use Rattle.mapping_file.specs.declared.mapping.MapField.{MapField}
use Rattle.new_names.specs.NewNames.{field_names}
use Rattle.new_names.proofs.Telling.{put_before}
use Rattle.new_names.proofs.tables.put_fields.Goals as goal

pub loop-left-init : goal.loop-left-init
loop-left-init c = record {
  within = omega arith;
  told = λ rest h name. h name
      ∙ ap (λ (ls : List MapField). lookup (λ old. is_text old name) (field_names ls ++ rest))
      (sym (drop_all _ c.args.lines.now (omega arith)));
}

pub loop-left-preserved : goal.loop-left-preserved
loop-left-preserved c =
    let x : MapField = c.index-lines-left.result in
    record {
      within = omega (arith, c.loop-left.invariant.within);
      told = λ rest h name. put_before (λ old. is_text old name) (λ (ls : List MapField). field_names ls ++ rest)
          c.args.lines.now c.loop-left.left x _ c.loop-left-test.true c.loop-left.invariant.within c.index-lines-left.is
          (c.in_ok-put_field.ensures name
          ∙ ap (λ (o : Option (List ℕ)). cond (is_text x.old name) (Some x.new) o)
          (c.loop-left.invariant.told rest h name));
    }

pub returns : goal.returns
returns c =
    let zero : c.loop-left.left ≡ 0 = omega arith in
    λ rest h name. c.loop-left.invariant.told rest h name
    ∙ ap (λ (n : ℕ). lookup (λ old. is_text old name) (field_names (drop n c.args.lines.now) ++ rest)) zero
