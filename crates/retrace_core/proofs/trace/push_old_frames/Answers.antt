-- Answers of `push_old_frames`: what its calls ask for, and what it promises.
use Rattle.std.proofs.Common.{◌≡◌, ◌∷◌, ◌++◌, [], ℕ, List, map, ap, subst, ◌∙◌}
use Rattle.std.specs.Prelude.{OnOk}
use Rattle.retrace_core.specs.Frames.{line_of}
use Rattle.retrace_core.specs.OldNames.{old_names, or_these}
use Rattle.retrace_core.specs.Retraced.{joined, old_frame_text}
use Rattle.retrace_core.specs.bodies.Parts.{frame_shown}
use Rattle.retrace_core.proofs.LineParts.{none_named, several}
use Rattle.retrace_core.proofs.trace.push_old_frames.Goals as goal

pub returns-in-len1-up : goal.returns-in-len1-up
returns-in-len1-up c = λ k told.
    let method = c.args.frame.now.method.now in
    let text : List ℕ → List ℕ = old_frame_text (frame_shown c.args.frame.now) k in
    let names : c.as_slice.result.now ≡ old_names k.methods method (line_of c.args.frame.now.number.now) =
    c.as_slice.ensures ∙ c.in_ok-names.ensures ∙ (λ i. old_names (told.methods i) method (c.line_of.ensures i)) in
    subst (λ (t : List ℕ). OnOk c.push_several.result (c.push_several.new.out.items ≡ c.args.out.now.items ++ t))
    (several c.args.between.now text c.as_slice.result.now c.first-item.result method c.in-len1-up.len_at_least
    c.first-item.is
    ∙ ap (λ (ns : List (List ℕ)). joined c.args.between.now (map text (or_these ns (method ∷ [])))) names)
    (c.push_several.ensures k told)

pub returns : goal.returns
returns c = λ k told.
    let method = c.args.frame.now.method.now in
    let text : List ℕ → List ℕ = old_frame_text (frame_shown c.args.frame.now) k in
    let names : c.as_slice.result.now ≡ old_names k.methods method (line_of c.args.frame.now.number.now) =
    c.as_slice.ensures ∙ c.in_ok-names.ensures ∙ (λ i. old_names (told.methods i) method (c.line_of.ensures i)) in
    subst (λ (t : List ℕ). OnOk c.push_old_frame.result (c.push_old_frame.new.out.items ≡ c.args.out.now.items ++ t))
    (none_named c.args.between.now text c.as_slice.result.now method c.in-empty.len_below
    ∙ ap (λ (ns : List (List ℕ)). joined c.args.between.now (map text (or_these ns (method ∷ [])))) names)
    (c.push_old_frame.ensures k told)
