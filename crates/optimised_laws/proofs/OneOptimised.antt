-- One thing becomes of the codes of a set.
use Rattle.std.proofs.Common.{◌≡◌, ℕ, ◌+◌, true, false, List, [], ◌∷◌, ◌++◌, slice_get, refl, sym, ap, subst, ◌∙◌}
use Rattle.std.proofs.lemmas.Option.{same_Some}
use Rattle.class_model.specs.declared.class.Class.{Class}
use Rattle.class_model.specs.declared.class.Method.{Method}
use Rattle.class_model.specs.declared.code.Code.{Code}
use Rattle.code_edit.specs.declared.act.Pass.{Pass}
use Rattle.code_edit.specs.declared.act.PassEdits.{PassEdits}
use Rattle.code_edit.specs.Acts.{step_passes}
use Rattle.code_edit.specs.Passes.{IsFound}
use Rattle.code_edit.specs.SoundCode.{IsSound}
use Rattle.found_laws.proofs.OneActs.{one_acts}
use Rattle.optimised_laws.specs.OneOptimised.{OneIsOptimised}
use Rattle.pass_driver.specs.Optimised.{AreDone, IsAt, code_for, entry_for, fallback_for, spots}
use Rattle.pass_driver.specs.Outcomes.{IsOutcome, IsTypedWith}
use Rattle.pass_driver.specs.Stepped.{AreFound, AreSteps, has_act, step_after, stepped}
use Rattle.pass_driver.specs.declared.judging.Outcome.{Outcome}
use Rattle.pass_driver.specs.declared.judging.Outcome.TheVariants.{Own, Edited, Fallback}
use Rattle.pass_driver.specs.declared.optimising.NewCode.{NewCode}
use Rattle.pass_driver.specs.declared.spots.Spot.{Spot}
use Rattle.witness_file.specs.declared.witness.MethodWitness.{MethodWitness}
use Rattle.optimised_laws.proofs.OneStep.{spot_sound, step_sound}

-- ---- steps

one_list : (passes : List Pass) (steps others : List PassEdits) (code : Code) → IsSound code
    → AreFound passes steps code → AreFound passes others code → steps ≡ others
one_list [] [] [] code sound a b = refl
one_list [] [] (t ∷ others) code sound a b = absurd b
one_list [] (s ∷ steps) others code sound a b = absurd a
one_list (p ∷ passes) [] others code sound a b = absurd a
one_list (p ∷ passes) (s ∷ steps) [] code sound a b = absurd b
one_list (p ∷ passes) (s ∷ steps) (t ∷ others) code sound a b =
    let passes_same : s.pass ≡ t.pass = a.0 ∙ sym b.0 in
    let acts_same : s.acts ≡ t.acts = one_acts p code s.acts t.acts sound a.1 b.1 in
    let same : s ≡ t = λ i. record { pass = passes_same i; acts = acts_same i } in
    let found : IsFound t.pass code t.acts = subst (λ (q : Pass). IsFound q code t.acts) (sym b.0) b.1 in
    ap (λ (x : PassEdits). x ∷ steps) same
    ∙ ap (λ (xs : List PassEdits). t ∷ xs)
    (one_list passes steps others (step_after t code) (step_sound t code found sound)
    (subst (λ (x : PassEdits). AreFound passes steps (step_after x code)) same a.2) b.2)

module _ (classes : List Class) (own number : ℕ) (code : Code) (sound : IsSound code) where
  one_steps : (steps others : List PassEdits) → AreSteps steps code → AreSteps others code → steps ≡ others
  one_steps steps others a b = one_list step_passes steps others code sound a b

  apart : (steps others : List PassEdits) → AreSteps steps code → AreSteps others code → has_act steps ≡ false
      → has_act others ≡ true → ⊥
  apart steps others a b none some =
      let e : false ≡ true = sym none ∙ (ap has_act (one_steps steps others a b) ∙ some) in cc

  untyped : (steps others : List PassEdits) (after : Code) → AreSteps steps code → AreSteps others code
      → after ≡ stepped steps code → IsTypedWith classes own number after
      → (IsTypedWith classes own number (stepped others code) → ⊥) → ⊥
  untyped steps others after a b is typed fails =
      fails (subst (IsTypedWith classes own number)
      (is ∙ ap (λ (xs : List PassEdits). stepped xs code) (one_steps steps others a b)) typed)

  one_outcome : (a b : Outcome) → IsOutcome classes own number code a → IsOutcome classes own number code b → a ≡ b
  one_outcome Own Own h k = refl
  one_outcome Own (Edited after edits) h k = absurd (apart h.0 edits.steps h.1 k.0 h.2 k.1)
  one_outcome Own Fallback h k = absurd (apart h.0 k.0 h.1 k.1 h.2 k.2)
  one_outcome (Edited after edits) Own h k = absurd (apart k.0 edits.steps k.1 h.0 k.2 h.1)
  one_outcome Fallback Own h k = absurd (apart k.0 h.0 k.1 h.1 k.2 h.2)
  one_outcome (Edited after edits) Fallback h k =
      absurd (untyped edits.steps k.0 after h.0 k.1 h.2 h.3 k.3)
  one_outcome Fallback (Edited after edits) h k =
      absurd (untyped edits.steps h.0 after k.0 h.1 k.2 k.3 h.3)
  one_outcome (Edited after edits) (Edited after2 edits2) h k =
      let same : edits.steps ≡ edits2.steps = one_steps edits.steps edits2.steps h.0 k.0 in
      let codes : after ≡ after2 =
      h.2 ∙ ap (λ (xs : List PassEdits). stepped xs code) same ∙ sym k.2 in
      λ i. Edited (codes i) (record { steps = same i })
  one_outcome Fallback Fallback h k = refl

-- ---- spots

module _ (classes : List Class)
    (sounds : (s : Spot) (c : Class) (m : Method) (code : Code) → IsAt classes s c m code → IsSound code) where
  one_done : (spots : List Spot) (codes codes2 : List NewCode) (entries entries2 : List MethodWitness)
      (count count2 : ℕ) → AreDone classes spots codes entries count → AreDone classes spots codes2 entries2 count2
      → (codes ≡ codes2) × (entries ≡ entries2) × (count ≡ count2)
  one_done [] codes codes2 entries entries2 count count2 h k =
      (h.0 ∙ sym k.0, h.1 ∙ sym k.1, h.2 ∙ sym k.2)
  one_done (s ∷ spots) codes codes2 entries entries2 count count2 h k =
      let class_same : h.0 ≡ k.0 = same_Some h.0 k.0 (sym (h.3).in_set ∙ (k.3).in_set) in
      let method_same : h.1 ≡ k.1 =
      same_Some h.1 k.1 (sym (h.3).in_class ∙ (ap (λ (c : Class). slice_get c.methods s.method) class_same
      ∙ (k.3).in_class)) in
      let code_same : h.2 ≡ k.2 =
      same_Some h.2 k.2 (sym (h.3).has ∙ (ap (λ (m : Method). m.code) method_same ∙ (k.3).has)) in
      let out : h.4 ≡ k.4 =
      one_outcome classes s.class s.method h.2 (sounds s h.0 h.1 h.2 h.3) h.4 k.4 h.5
      (subst (λ (x : Code). IsOutcome classes s.class s.method x k.4) (sym code_same) k.5) in
      let rest = one_done spots h.6 k.6 h.7 k.7 h.8 k.8 h.12 k.12 in (
        h.9 ∙ ((λ i. code_for s (out i) ++ rest.0 i) ∙ sym k.9),
        h.10 ∙ ((λ i. entry_for (class_same i) (method_same i) (out i) ++ rest.1 i) ∙ sym k.10),
        h.11 ∙ ((λ i. fallback_for (out i) + rest.2 i) ∙ sym k.11),
      )

pub one_optimised : OneIsOptimised
one_optimised true marks classes one other taken typed a b =
    let r = one_done classes (spot_sound classes taken typed) (spots marks classes) one.codes other.codes
    one.witness.methods other.witness.methods one.fallback other.fallback a b in
    λ i. record { codes = r.0 i; witness = record { methods = r.1 i }; fallback = r.2 i }
one_optimised false marks classes one other taken typed a b = a ∙ sym b
