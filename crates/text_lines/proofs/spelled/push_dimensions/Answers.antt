-- Answers of `push_dimensions`: what its calls ask for, and what it promises.
use Rattle.std.proofs.Common.{ℕ, List, ◌++◌, codes, ap, ◌∙◌, append_assoc}
use Rattle.std.specs.List.{repeat}
use Rattle.jv_base.proofs.Swapping.{repeat_push}
use Rattle.text_lines.proofs.spelled.push_dimensions.Goals as goal

pub loop-preserved : goal.loop-preserved
loop-preserved c =
    let before = c.args.out.now.items in
    let n = c.loop.counter in
    c.in_ok-extend_from_slice.ensures.items ∙ ap (λ (t : List ℕ). t ++ codes "[]") c.loop.invariant
    ∙ append_assoc before (repeat n (codes "[]")) (codes "[]")
    ∙ ap (λ (t : List ℕ). before ++ t) (repeat_push n (codes "[]"))
