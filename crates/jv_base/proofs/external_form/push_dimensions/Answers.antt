-- Answers of `push_dimensions`: what its calls ask for, and what it promises.
use Rattle.std.proofs.Common.{ℕ, List, ◌++◌, codes, ap, ◌∙◌, append_assoc}
use Rattle.std.specs.List.{repeat}
use Rattle.std.specs.Prelude.{string_bytes}
use Rattle.jv_base.proofs.Swapping.{repeat_push}
use Rattle.jv_base.proofs.external_form.push_dimensions.Goals as goal

pub loop-preserved : goal.loop-preserved
loop-preserved c =
    let before = string_bytes c.args.text.now in
    let n = c.loop.counter in
    c.in_ok-push_str.ensures.bytes ∙ ap (λ (t : List ℕ). t ++ codes "[]") c.loop.invariant
    ∙ append_assoc before (repeat n (codes "[]")) (codes "[]")
    ∙ ap (λ (t : List ℕ). before ++ t) (repeat_push n (codes "[]"))
