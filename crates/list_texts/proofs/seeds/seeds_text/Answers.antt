-- Answers of `seeds_text`: what its calls ask for, and what it promises.
use Rattle.std.proofs.Common.{◌≡◌, ℕ, Bool, List, Ok, sym, ap, subst, ◌∙◌}
use Rattle.std.proofs.lemmas.Result.{err_from_is_err_and}
use Rattle.std.specs.List.{enumerate_from, flat_map}
use Rattle.jv_base.specs.Outcome.{FaultIs}
use Rattle.mark_core.specs.Marks.{set_of}
use Rattle.list_texts.specs.ItemTexts.{item_texts, line_if, seeds_text, up_to}
use Rattle.list_texts.specs.bodies.Places.{AreMarksOf}
use Rattle.list_texts.proofs.Marking.{lines_same}
use Rattle.list_texts.proofs.seeds.seeds_text.Goals as goal

pub returns-in_err-text : goal.returns-in_err-text
returns-in_err-text c =
    let of_items = subst (λ (t : List ℕ). AreMarksOf c.args.set.now t c.in_ok-marks.marks.items) c.as_slice.ensures
    c.in_ok-marks.ensures in
    let are = subst (λ (t : List Bool). AreMarksOf c.args.set.now c.args.seeds.now t) (sym c.as_slice-2.ensures.value)
    of_items in
    let p = err_from_is_err_and c.from_residual-in_err-text.result c.from_residual-in_err-text.ensures.1 in
    rw (p.1, p.2)
    (subst (λ (t : List ℕ). FaultIs c.in_err-text.field-0.0 (up_to c.args.limit t))
    (lines_same c.args.set.now c.args.seeds.now c.as_slice-2.result.now are) c.in_err-text.ensures)

pub returns : goal.returns
returns c =
    let of_items = subst (λ (t : List ℕ). AreMarksOf c.args.set.now t c.in_ok-marks.marks.items) c.as_slice.ensures
    c.in_ok-marks.ensures in
    let are = subst (λ (t : List Bool). AreMarksOf c.args.set.now c.args.seeds.now t) (sym c.as_slice-2.ensures.value)
    of_items in
    ap (up_to c.args.limit) (sym (lines_same c.args.set.now c.args.seeds.now c.as_slice-2.result.now are))
    ∙ c.in_ok-text.ensures ∙ ap (λ (t : List ℕ). Ok t) (sym c.in_ok-from_string.ensures)
