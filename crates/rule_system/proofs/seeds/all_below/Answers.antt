-- Answers of `all_below`: what its calls ask for, and what it promises.
use Rattle.std.proofs.Common.{◌≡◌, ◌+◌, ◌∷◌, [], ◌++◌, ℕ, ap, arith, sym, ◌∙◌}
use Rattle.std.specs.List.{range_with_len}
use Rattle.require_sys.proofs.Steps.{range_more}
use Rattle.rule_system.proofs.seeds.all_below.Goals as goal

pub loop-item-preserved : goal.loop-item-preserved
loop-item-preserved c =
    let e : 0 + c.loop-item.item ≡ c.loop-item.item = omega arith in
    c.in_ok-push.ensures ∙ ap (λ t. t ++ c.loop-item.item ∷ []) c.loop-item.invariant
    ∙ ap (λ (k : ℕ). range_with_len 0 c.loop-item.item ++ k ∷ []) (sym e) ∙ sym (range_more 0 c.loop-item.item)
