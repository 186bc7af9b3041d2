-- Answers of `text_of_units`: what its calls ask for, and what it promises.
use Rattle.std.proofs.Common.{◌∙◌, ℕ, List, Some, ap, subst, sym}
use Rattle.std.proofs.lemmas.Str.{IsUtf8-string_bytes}
use Rattle.jv_base.specs.Utf16.{IsTextOf}
use Rattle.jv_base.proofs.Utf16Text.{IsTextOf-made, IsTextOf-paired, IsTextOf-read}
use Rattle.jv_base.proofs.utf16.text_of_units.Goals as goal

pub returns-in_ok-from_string-in-Ok-clause-found : goal.returns-in_ok-from_string-in-Ok-clause-found
returns-in_ok-from_string-in-Ok-clause-found c =
    let made = rw c.in-Ok.is at c.in_ok-text.ensures.ok in
    let P : List ℕ → Type 0 = λ (t : List ℕ). IsTextOf t c.args.units.now in
    subst P (sym c.in_ok-from_string-in-Ok.ensures)
    (IsTextOf-made _ c.args.units.now (IsUtf8-string_bytes c.in-Ok.text) made)

pub returns-in_ok-from_string-in-Ok-clause-only : goal.returns-in_ok-from_string-in-Ok-clause-only
returns-in_ok-from_string-in-Ok-clause-only c = λ t h.
    let read = rw c.in-Ok.is at c.in_ok-text.ensures.chars in
    ap (λ (u : List ℕ). Some u) (c.in_ok-from_string-in-Ok.ensures ∙ read ∙ IsTextOf-read t c.args.units.now h)

pub returns-in-Err-clause-only : goal.returns-in-Err-clause-only
returns-in-Err-clause-only c = λ t h.
    let unpaired = rw c.in-Err.is at c.in_ok-text.ensures.unpaired in
    let paired = IsTextOf-paired t c.args.units.now h in
    cc
