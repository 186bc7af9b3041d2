-- Answers of `with_swapped`: what its calls ask for, and what it promises.
use Rattle.std.proofs.Common.{ℕ, List, ◌++◌, map, string_bytes, ap, ◌∙◌}
use Rattle.std.specs.Prelude.{encode_utf8}
use Rattle.std.specs.Str.Iter.{chars_rest}
use Rattle.jv_base.specs.External.{swapped}
use Rattle.jv_base.proofs.Swapping.{swapped_on}
use Rattle.jv_base.proofs.external_form.with_swapped.Goals as goal

pub loop-c-preserved : goal.loop-c-preserved
loop-c-preserved c =
    let from = c.args.from in
    let to = c.args.to in
    let rest = chars_rest c.next.new.self in
    ap (λ (t : List ℕ). t ++ map (swapped from to) rest)
    (c.in_ok-push.ensures.bytes ∙ ap (λ (n : ℕ). string_bytes c.loop-c.made ++ encode_utf8 n) c.swapped.ensures)
    ∙ swapped_on from to c.in-Some.c (string_bytes c.loop-c.made)
    (chars_rest c.loop-c.c-iterator) rest _ c.requires.from c.requires.to c.in-Some.ensures.steps.0 c.loop-c.invariant
