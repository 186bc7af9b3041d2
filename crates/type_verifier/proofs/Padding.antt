-- Tops up to so many words, and the numbers of declared frames.
use Rattle.std.proofs.Common.{◌≡◌, ◌≤◌, ◌<◌, ℕ, suc, ◌+◌, ◌-◌, ◌==◌, Bool, false, cond, refl, List, [], ◌∷◌, ◌++◌}
use Rattle.std.proofs.Common.{length, replicate, get_or, set, drop, Option, Some, None, sym, ap, ◌∙◌, arith, ⊎_elim}
use Rattle.std.specs.Prelude.{slice_get}
use Rattle.std.specs.List.{find, flat_map, list_any}
use Rattle.std.specs.Option.{option_and_then}
use Rattle.std.proofs.lemmas.Bool.Decides.{eqb_tells}
use Rattle.std.proofs.lemmas.List.{append_assoc, get_or-set_other, get_or-set_same, get_or_append_left, get_or_default}
use Rattle.std.proofs.lemmas.List.{length-set, length_push}
use Rattle.std.proofs.lemmas.Option.{get_or_from_slice_get, slice_get-get_or, slice_get_within}
use Rattle.std.proofs.Math.Seq.{get_or-append_seam}
use Rattle.jv_base.proofs.Lists.{rest_is}
use Rattle.class_model.specs.declared.code.Code.{Code}
use Rattle.class_model.specs.declared.frame.FrameAt.{FrameAt}
use Rattle.class_model.specs.declared.frame.VType.{VType}
use Rattle.class_model.specs.declared.frame.VType.TheVariants as vtype
use Rattle.type_verifier.specs.declared.frame.TypeFrame.{TypeFrame}
use Rattle.type_verifier.specs.Frames.{padded, local_words}
use Rattle.type_verifier.specs.bodies.Longs.{is_long}
use Rattle.type_verifier.specs.bodies.Marks.{AreKept, AreNumbersFrom, declared_numbered}

pub pad_more : (max_locals : ℕ) (words new : List VType) (total : List VType) → length words < max_locals
    → new ≡ words ++ vtype.Top ∷ [] → padded max_locals words ≡ total → padded max_locals new ≡ total
pad_more max_locals words new total lt e so_far =
    let longer : length (words ++ vtype.Top ∷ []) ≡ length words + 1 = length_push words vtype.Top in
    let k : ℕ = max_locals - length (words ++ vtype.Top ∷ []) in
    let n : max_locals - length words ≡ suc k = omega (arith, lt, longer) in
    ap (λ (ws : List VType). padded max_locals ws) e
    ∙ append_assoc words (vtype.Top ∷ []) (replicate k vtype.Top)
    ∙ sym (ap (λ (m : ℕ). words ++ replicate m vtype.Top) n) ∙ so_far

-- the frame before those from one on is declared where it is
pub numbers_more : (frames : List FrameAt) (number n count : ℕ) (numbers : List (Option ℕ)) (x : FrameAt)
    → number ≡ n + 1
    → n < length frames → (get_or frames n x).index < count → AreNumbersFrom frames number count numbers
    → AreNumbersFrom frames n count (set numbers (get_or frames n x).index (Some n))
numbers_more frames number n count numbers x e lt within so_far =
    let y : FrameAt = get_or frames n x in
    let is_y : y ≡ get_or frames n y = get_or_default frames n x y lt in
    record {
      long = length-set numbers y.index (Some n) ∙ so_far.long;
      first = λ at below. ⊎_elim
          (λ here.
          ap (λ (o : Option ℕ). option_and_then (slice_get frames) o)
          (ap (λ (k : ℕ). get_or (set numbers y.index (Some n)) k None) (sym here.1)
          ∙ get_or-set_same numbers y.index (Some n) None (omega (arith, within, so_far.long)))
          ∙ slice_get-get_or frames n x lt
          ∙ ap (λ (b : Bool). cond b (Some y) (find (λ (f : FrameAt). f.index == at) (drop (n + 1) frames)))
          (sym here.0)
          ∙ sym (ap (λ (r : List FrameAt). find (λ (f : FrameAt). f.index == at) r) (rest_is frames n y lt is_y)))
          (λ there.
          ap (λ (o : Option ℕ). option_and_then (slice_get frames) o)
          (get_or-set_other numbers y.index at (Some n) None (λ (h : at ≡ y.index). there.1 (sym h)))
          ∙ so_far.first at below
          ∙ ap (λ (k : ℕ). find (λ (f : FrameAt). f.index == at) (drop k frames)) e
          ∙ ap (λ (b : Bool). cond b (Some y) (find (λ (f : FrameAt). f.index == at) (drop (n + 1) frames)))
          (sym there.0)
          ∙ sym (ap (λ (r : List FrameAt). find (λ (f : FrameAt). f.index == at) r) (rest_is frames n y lt is_y)))
          (eqb_tells y.index at);
    }

-- a frame that is declared behind the last instruction
pub numbers_kept : (frames : List FrameAt) (number n count : ℕ) (numbers : List (Option ℕ)) (x : FrameAt)
    → number ≡ n + 1
    → n < length frames → count ≤ (get_or frames n x).index → AreNumbersFrom frames number count numbers
    → AreNumbersFrom frames n count numbers
numbers_kept frames number n count numbers x e lt over so_far =
    let y : FrameAt = get_or frames n x in
    let is_y : y ≡ get_or frames n y = get_or_default frames n x y lt in
    record {
      long = so_far.long;
      first = λ at below. ⊎_elim
          (λ here. let same = here.1 in absurd (omega (arith, over, below, same)))
          (λ there.
          so_far.first at below
          ∙ ap (λ (k : ℕ). find (λ (f : FrameAt). f.index == at) (drop k frames)) e
          ∙ ap (λ (b : Bool). cond b (Some y) (find (λ (f : FrameAt). f.index == at) (drop (n + 1) frames)))
          (sym there.0)
          ∙ sym (ap (λ (r : List FrameAt). find (λ (f : FrameAt). f.index == at) r) (rest_is frames n y lt is_y)))
          (eqb_tells y.index at);
    }

-- locals without a long are their words
pub narrow : (types : List VType) → list_any is_long types ≡ false → flat_map local_words types ≡ types
narrow [] h = refl
narrow (vtype.Long ∷ types) h = absurd cc
narrow (ty ∷ types) h = ap (λ (r : List VType). ty ∷ r) (narrow types h)

-- a frame more is kept, or none
pub kept_more : (code : Code) (kept : List (Option TypeFrame)) (number : ℕ) (new : Option TypeFrame)
    → ((f : TypeFrame) → new ≡ Some f → declared_numbered code number ≡ Some f) → length kept ≡ number
    → AreKept code kept
    → (length (kept ++ new ∷ []) ≡ number + 1) × AreKept code (kept ++ new ∷ [])
kept_more code kept number new is long so_far =
    let longer = length_push kept new in (
      omega (arith, longer, long),
      λ k f h.
          let kept_one : List (Option TypeFrame) = kept ++ new ∷ [] in
          let lt = slice_get_within kept_one k (Some f) h in
          let got : get_or kept_one k None ≡ Some f = get_or_from_slice_get kept_one k (Some f) None h in
          ⊎_elim
          (λ here.
          let e : k ≡ length kept = here.1 ∙ sym long in
          let last : new ≡ Some f = sym (get_or-append_seam kept new [] None)
          ∙ ap (λ (n : ℕ). get_or kept_one n None) (sym e) ∙ got in
          ap (declared_numbered code) here.1 ∙ is f last)
          (λ there.
          let ne = there.1 in
          let less : k < length kept = omega (arith, lt, longer, long, ne) in
          so_far k f (slice_get-get_or kept k None less
          ∙ ap (λ (o : Option TypeFrame). let R : Option (Option TypeFrame) = Some o in R)
          (sym (get_or_append_left kept (new ∷ []) None k less) ∙ got)))
          (eqb_tells k number),
    )
