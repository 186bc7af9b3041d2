-- Frames whose lists are short pass no limit (JVMS 4.7.4).
use Rattle.std.proofs.Common.{◌≡◌, ℕ, ◌-◌, ◌^◌, ◌<◌, drop, Bool, true, false, cond, List, [], ◌∷◌, length, None, Some}
use Rattle.std.proofs.Common.{Option, Result, Ok, Err, refl, sym, ap, ◌∙◌}
use Rattle.std.specs.Prelude.{All}
use Rattle.std.specs.List.{AllByRecursion}
use Rattle.std.proofs.lemmas.Bool.{lt-ltb}
use Rattle.std.proofs.lemmas.List.Elements.{recursion_from_All}
use Rattle.jv_base.specs.Outcome.{◌>>=◌}
use Rattle.class_model.specs.declared.limit.WriteLimit.{WriteLimit}
use Rattle.class_model.specs.declared.limit.WriteLimit.TheVariants.{AttributeFull}
use Rattle.class_model.specs.declared.code.Code.{Code}
use Rattle.class_model.specs.declared.frame.VType.{VType}
use Rattle.class_model.specs.declared.frame.FrameAt.{FrameAt}
use Rattle.class_model.specs.CanonicalClass.{line_rows}
use Rattle.class_model.specs.CanonicalFrames.{same, same_with_item, chop, append, full, form_of, same_types, is_chop}
use Rattle.class_model.specs.CanonicalFrames.{is_append}
use Rattle.class_model.specs.WriteLimits.{table_fits, form_fits, frames_fit, body_tables_fit}
use Rattle.frame_write.specs.Writing.{HasShortLists}

abbrev Limited : Type 0
Limited = Result (Unit {0}) WriteLimit

few : (n : ℕ) → n < 2 ^ 16 → table_fits n ≡ Ok tt
few n lt = ap (λ b. let R : Limited = cond b (Ok tt) (Err (AttributeFull n)) in R) (lt-ltb n (2 ^ 16) lt)

module _ (locals stack : List VType) (few_locals : length locals < 2 ^ 16) (few_items : length stack < 2 ^ 16) where
  full_fits : form_fits (full locals stack) ≡ Ok tt
  full_fits = ap (λ (r : Limited). r >>= (λ fits. table_fits (length stack))) (few (length locals) few_locals)
      ∙ few (length stack) few_items

  one_of : (a b d : Bool) (n : ℕ) (new : List VType)
      → form_fits (cond a same (cond b (chop n) (cond d (append new) (full locals stack)))) ≡ Ok tt
  one_of true b d n new = refl
  one_of false true d n new = refl
  one_of false false true n new = refl
  one_of false false false n new = full_fits

  item_or_full : (a : Bool) (item : VType) → form_fits (cond a (same_with_item item) (full locals stack)) ≡ Ok tt
  item_or_full true item = refl
  item_or_full false item = full_fits

form_few : (before locals stack : List VType) → length locals < 2 ^ 16 → length stack < 2 ^ 16
    → form_fits (form_of before locals stack) ≡ Ok tt
form_few before locals [] l s = one_of locals [] l s (same_types before locals) (is_chop before locals)
    (is_append before locals) (length before - length locals) (drop (length before) locals)
form_few before locals (item ∷ []) l s = item_or_full locals (item ∷ []) l s (same_types before locals) item
form_few before locals (item ∷ next ∷ stack) l s = full_fits locals (item ∷ next ∷ stack) l s

frames_few : (before : List VType) (frames : List FrameAt)
    → AllByRecursion (λ (f : FrameAt). HasShortLists f.frame) frames → frames_fit before frames ≡ Ok tt
frames_few before [] h = refl
frames_few before (f ∷ frames) h =
    ap (λ (r : Limited). r >>= (λ fits. frames_fit f.frame.locals frames))
    (form_few before f.frame.locals f.frame.stack h.0.locals h.0.stack)
    ∙ frames_few f.frame.locals frames h.1

alone : (r : Limited) → (r >>= (λ done. let R : Limited = Ok tt in R)) ≡ r
alone (Ok tt) = refl
alone (Err e) = refl

-- the tables of a code are those of three counts
pub tables_are : (first : List VType) (code : Code) → All (λ (f : FrameAt). HasShortLists f.frame) code.frames
    → (h l f : ℕ) (last : Limited)
    → h ≡ length code.handlers → l ≡ length (line_rows None [] code.ins) → f ≡ length code.frames
    → Ok tt ≡ table_fits h → Ok tt ≡ table_fits l → last ≡ table_fits f
    → last ≡ body_tables_fit first (let O : Option Code = Some code in O)
tables_are first code short h l f last eh el ef one two three =
    let third : Limited = table_fits (length code.frames) >>= (λ frames. frames_fit first code.frames) in
    let second : Limited = table_fits (length (line_rows None [] code.ins)) >>= (λ lines. third) in
    let all : second ≡ body_tables_fit first (let O : Option Code = Some code in O) = ap
    (λ (r : Limited). r >>= (λ handlers. second)) (one ∙ ap table_fits eh) in
    let behind : third ≡ second = ap (λ (r : Limited). r >>= (λ lines. third)) (two ∙ ap table_fits el) in
    let frames : third ≡ table_fits (length code.frames) =
    ap (λ (r : Limited). table_fits (length code.frames) >>= (λ done. r))
    (frames_few first code.frames (recursion_from_All (λ (f : FrameAt). HasShortLists f.frame) code.frames short))
    ∙ alone (table_fits (length code.frames)) in
    three ∙ (ap table_fits ef ∙ (sym frames ∙ (behind ∙ all)))
