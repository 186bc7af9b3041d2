-- Something becomes of each sound code.
use Rattle.std.proofs.Common.{◌≡◌, inl, inr, ℕ, Bool, true, false, List, [], ◌∷◌, Option, Some, None, Result, Ok, Err}
use Rattle.std.proofs.Common.{slice_get, refl, sym, subst, ◌∙◌}
use Rattle.std.specs.List.{AllByRecursion}
use Rattle.std.proofs.lemmas.Option.{same_Some}
use Rattle.class_model.specs.declared.class.Class.{Class}
use Rattle.class_model.specs.declared.class.Method.{Method}
use Rattle.class_model.specs.declared.code.Code.{Code}
use Rattle.code_edit.specs.declared.act.Act.{Act}
use Rattle.code_edit.specs.declared.act.Pass.{Pass}
use Rattle.code_edit.specs.declared.act.Pass.TheVariants.{Reach, Const, Slots, Jumps}
use Rattle.code_edit.specs.declared.act.PassEdits.{PassEdits}
use Rattle.code_edit.specs.Facts.{IsAllReached}
use Rattle.code_edit.specs.Passes.{IsReachEdits}
use Rattle.code_edit.specs.Reach.{left_code}
use Rattle.code_edit.specs.SoundCode.{IsSound}
use Rattle.const_laws.proofs.Reached.{all_reached}
use Rattle.edit_premises.proofs.Reaching.{closed}
use Rattle.found_laws.proofs.Listing.{OrNot}
use Rattle.found_laws.proofs.SomeActs.{some_acts}
use Rattle.pass_driver.specs.Outcomes.{IsOutcome, IsTypedWith}
use Rattle.pass_driver.specs.Stepped.{AreFound, AreSteps, has_act, step_after, stepped}
use Rattle.pass_driver.specs.declared.judging.Outcome.{Outcome}
use Rattle.pass_driver.specs.declared.judging.Outcome.TheVariants.{Own, Edited, Fallback}
use Rattle.pass_driver.proofs.LeftReached.{left_reached}
use Rattle.type_verifier.specs.Environment.{Environment}
use Rattle.type_verifier.specs.Typed.{Typed}
use Rattle.type_verifier.specs.Verified.{environment}
use Rattle.type_verifier.specs.WithCode.{set_with_code}
use Rattle.type_verifier.specs.bodies.Walked.{code_checked}
use Rattle.type_verifier.specs.declared.fault.TypeFault.{TypeFault}
use Rattle.type_verifier.proofs.TypedLaw.{typed_where_yes, yes_where_typed}
use Rattle.optimised_laws.proofs.OneStep.{found_right, step_sound}

-- ---- a code is typed or isn't

typed_or : (env : Environment) → OrNot (Typed env)
typed_or env = by (code_checked env) refl
  where
    by : (r : Result (Unit {0}) TypeFault) → code_checked env ≡ r → OrNot (Typed env)
    by (Ok done) e = inl (typed_where_yes env e)
    by (Err fault) e = inr (λ t.
        let differ : (let R : Result (Unit {0}) TypeFault = Ok tt in R) ≡ Err fault = sym (yes_where_typed env t) ∙ e in
        cc)

-- what there is, if something is, has a property that can be tested
each_some : {A : Type 0} (o : Option A) (P : A → Type 0) → ((x : A) → OrNot (P x))
    → OrNot ((x : A) → o ≡ Some x → P x)
each_some None P test = inl (λ x e. absurd cc)
each_some {A} (Some y) P test = by (test y)
  where
    by : OrNot (P y) → OrNot ((x : A) → Some y ≡ Some x → P x)
    by (inl p) = inl (λ x e. subst P (same_Some y x e) p)
    by (inr never) = inr (λ each. never (each y refl))

typed_with_or : (classes : List Class) (own number : ℕ) (code : Code) → OrNot (IsTypedWith classes own number code)
typed_with_or classes own number code =
    let set = set_with_code classes own number code in
    each_some (slice_get set own)
    (λ c. (m : Method) → slice_get c.methods number ≡ Some m → (x : Code) → m.code ≡ Some x
    → Typed (environment set own c number m x))
    (λ c. each_some (slice_get c.methods number)
    (λ m. (x : Code) → m.code ≡ Some x → Typed (environment set own c number m x))
    (λ m. each_some m.code (λ x. Typed (environment set own c number m x))
    (λ x. typed_or (environment set own c number m x))))

-- ---- steps

abbrev IsNotConst : Pass → Type 0
IsNotConst p = p ≡ Const → ⊥

-- control may come to each index of what a step of reach leaves
after_reach : (acts : List Act) (code : Code) → IsSound code → IsReachEdits code acts
    → IsAllReached (step_after (record { pass = Reach; acts = acts }) code)
after_reach [] code sound found = all_reached code found
after_reach (a ∷ acts) code sound found =
    let drops = found_right Reach (a ∷ acts) code found sound in
    let all : IsAllReached (left_code (a ∷ acts) code) =
    left_reached (a ∷ acts) code found.0 found.1 found.2 (closed (a ∷ acts) code drops) in
    λ at lt set holds.
    all at lt set (record { first = holds.first; next = holds.next; handlers = holds.handlers })

-- steps of passes other than const
some_list : (passes : List Pass) → AllByRecursion IsNotConst passes → (code : Code) → IsSound code
    → (steps : List PassEdits) × AreFound passes steps code
some_list [] others code sound = ([], tt)
some_list (p ∷ passes) others code sound =
    let found = some_acts p code sound (λ e. absurd (others.0 e)) in
    let s : PassEdits = record { pass = p; acts = found.0 } in
    let rest = some_list passes others.1 (step_after s code) (step_sound s code found.1 sound) in
    (s ∷ rest.0, (refl, found.1, rest.1))

some_steps : (code : Code) → IsSound code → (steps : List PassEdits) × AreSteps steps code
some_steps code sound =
    let one = some_acts Reach code sound (λ e. absurd cc) in
    let s : PassEdits = record { pass = Reach; acts = one.0 } in
    let after : Code = step_after s code in
    let after_sound = step_sound s code one.1 sound in
    let two = some_acts Const after after_sound (λ e. after_reach one.0 code sound one.1) in
    let t : PassEdits = record { pass = Const; acts = two.0 } in
    let rest = some_list (Reach ∷ Slots ∷ Jumps ∷ Reach ∷ []) ((λ e. cc), ((λ e. cc), ((λ e. cc), ((λ e. cc), tt))))
    (step_after t after) (step_sound t after two.1 after_sound) in
    (s ∷ (t ∷ rest.0), (refl, one.1, (refl, two.1, rest.1)))

-- ---- outcomes

module _ (classes : List Class) (own number : ℕ) (code : Code) (sound : IsSound code) where
  outcome_by : (steps : List PassEdits) → AreSteps steps code → (b : Bool) → has_act steps ≡ b
      → OrNot (IsTypedWith classes own number (stepped steps code))
      → (o : Outcome) × IsOutcome classes own number code o
  outcome_by steps found false e typed = (Own, (steps, found, e))
  outcome_by steps found true e (inl typed) =
      (Edited (stepped steps code) (record { steps = steps }), (found, e, refl, typed))
  outcome_by steps found true e (inr never) = (Fallback, (steps, found, e, never))

  pub some_outcome : (o : Outcome) × IsOutcome classes own number code o
  some_outcome =
      let r = some_steps code sound in
      outcome_by r.0 r.1 (has_act r.0) refl (typed_with_or classes own number (stepped r.0 code))
