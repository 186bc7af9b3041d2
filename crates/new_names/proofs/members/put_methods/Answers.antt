-- Answers of `put_methods`: what its calls ask for, and what it promises.
use Rattle.std.proofs.Common.{◌≡◌, ◌++◌, ◌∙◌, ℕ, List, Option, Some, cond, drop, sym, ap, arith}
use Rattle.std.proofs.lemmas.List.{drop_all}
use Rattle.std.specs.Map.{lookup}
use Rattle.jv_base.specs.Types.{method_text}
use Rattle.mapping_file.specs.declared.mapping.MapMethod.{MapMethod}
use Rattle.new_names.specs.NewNames.{is_same, method_lines}
use Rattle.new_names.proofs.Telling.{put_before}
use Rattle.new_names.proofs.members.put_methods.Goals as goal

pub loop-left-init : goal.loop-left-init
loop-left-init c = record {
  within = omega arith;
  told = λ rest h key. h key
      ∙ ap (λ (ls : List MapMethod). lookup (λ old. is_same old key) (method_lines ls ++ rest))
      (sym (drop_all _ c.args.lines.now (omega arith)));
}

pub loop-left-preserved : goal.loop-left-preserved
loop-left-preserved c =
    let x : MapMethod = c.index-lines-left.result in
    record {
      within = omega (arith, c.loop-left.invariant.within);
      told = λ rest h key. put_before (λ old. is_same old key) (λ (ls : List MapMethod). method_lines ls ++ rest)
          c.args.lines.now c.loop-left.left x _ c.loop-left-test.true c.loop-left.invariant.within c.index-lines-left.is
          (c.in_ok-put_method.ensures key
          ∙ ap (λ (o : Option (List ℕ)). cond (is_same (x.old, method_text x.ty) key) (Some x.new) o)
          (c.loop-left.invariant.told rest h key));
    }

pub returns : goal.returns
returns c =
    let zero : c.loop-left.left ≡ 0 = omega arith in
    λ rest h key. c.loop-left.invariant.told rest h key
    ∙ ap (λ (n : ℕ). lookup (λ old. is_same old key) (method_lines (drop n c.args.lines.now) ++ rest)) zero
