-- Codes after right steps name nothing more and follow the format, so a set with them is swapped for its own.
use Rattle.std.proofs.Common.{◌≡◌, ℕ, suc, List, [], ◌∷◌, Option, Some, None, slice_get, inl, inr, refl, sym}
use Rattle.std.proofs.Common.{subst}
use Rattle.std.specs.Prelude.{IfSome}
use Rattle.std.specs.List.{AllByRecursion, AllZip}
use Rattle.jv_base.proofs.Lists.{all_at, all_from}
use Rattle.class_model.specs.Flags.{is_interface}
use Rattle.class_model.specs.WellFormed.{IsGoodCode, IsGoodMethod}
use Rattle.class_model.specs.declared.class.Method.{Method}
use Rattle.class_model.specs.declared.code.Code.{Code}
use Rattle.class_model.specs.declared.frame.FrameAt.{FrameAt}
use Rattle.code_edit.specs.Applied.{edited}
use Rattle.code_edit.specs.SoundCode.{IsSound}
use Rattle.code_edit.specs.declared.act.PassEdits.{PassEdits}
use Rattle.edit_premises.specs.Steps.{IsEdited}
use Rattle.flow_laws.proofs.LastGoes.{typed_sound}
use Rattle.edit_laws.proofs.NamingLess.{edited_names_no_more}
use Rattle.swap_laws.specs.Laws.{EditedSetsAreSwapped}
use Rattle.swap_laws.specs.Swapped.{CodeSwaps, IsFrameOf, IsTypeOf, NamesLess, NamesLessThan, in_locals, in_stack}
use Rattle.swap_laws.proofs.InFormat.{edited_good, frames_of}

-- ---- codes

own_frames : (frames : List FrameAt) → AllByRecursion (IsFrameOf frames) frames
own_frames frames = all_from (IsFrameOf frames) frames (λ k f at. record {
  locals = all_from (IsTypeOf frames) f.frame.locals (λ j ty is. in_locals k j f at is);
  stack = all_from (IsTypeOf frames) f.frame.stack (λ j ty is. in_stack k j f at is);
})

names_less : (steps : List PassEdits) (code : Code) → NamesLess code (edited steps code)
names_less [] code = record { code = edited_names_no_more code []; frames = own_frames code.frames }
names_less (s ∷ steps) code = record {
  code = edited_names_no_more code (s ∷ steps);
  frames = subst (AllByRecursion (IsFrameOf code.frames)) (sym (frames_of s steps code)) tt;
}

own_less : (o : Option Code) → NamesLessThan o o
own_less None = tt
own_less (Some code) = names_less [] code

-- ---- methods

module _ (m o : Method) (good : IfSome m.code IsGoodCode) (sound : (code : Code) → m.code ≡ Some code → IsSound code)
  where
    swaps : IsEdited m.code o.code → CodeSwaps m o
    swaps (inl e) = record {
      no_more = subst (NamesLessThan m.code) (sym e) (own_less m.code);
      good = subst (λ c. IfSome c IsGoodCode) (sym e) good;
    }
    swaps (inr (old, steps, is, passes, right, after)) =
        let follows : IsGoodCode old = subst (λ c. IfSome c IsGoodCode) is good in
        record {
          no_more = subst (λ c. NamesLessThan c o.code) (sym is)
              (subst (NamesLessThan (Some old)) (sym after) (names_less steps old));
          good = subst (λ c. IfSome c IsGoodCode) (sym after) (edited_good steps old right (sound old is) follows);
        }

methods_swap : (ms os : List Method) → AllByRecursion (λ (m : Method). IfSome m.code IsGoodCode) ms
    → ((k : ℕ) (m : Method) → slice_get ms k ≡ Some m → (code : Code) → m.code ≡ Some code → IsSound code)
    → AllZip (λ (m o : Method). IsEdited m.code o.code) ms os → AllZip CodeSwaps ms os
methods_swap [] [] good sound zip = tt
methods_swap [] (o ∷ os) good sound zip = absurd zip
methods_swap (m ∷ ms) [] good sound zip = absurd zip
methods_swap (m ∷ ms) (o ∷ os) good sound zip =
    (swaps m o good.0 (sound 0 m refl) zip.0, methods_swap ms os good.1 (λ k n at. sound (suc k) n at) zip.1)

-- ---- sets

pub edited_swapped : EditedSetsAreSwapped
edited_swapped a b taken typed like codes = record {
  alike = like;
  codes = λ n c e at there.
      let formed = taken.formed n c at in
      methods_swap c.methods e.methods
      (all_from (λ (m : Method). IfSome m.code IsGoodCode) c.methods
      (λ k m in_methods. (all_at (IsGoodMethod (is_interface c.flags.0)) c.methods k m formed.methods in_methods).code))
      (λ k m in_methods code has. typed_sound a n c k m code formed at in_methods has typed) (codes n c e at there);
}
