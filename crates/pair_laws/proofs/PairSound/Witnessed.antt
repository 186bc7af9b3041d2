-- Of a pair that is one each code of the edited input is that of the input after steps of right acts.
use Rattle.std.proofs.Common.{◌≡◌, ℕ, zero, suc, not, ◌||◌, Bool, true, false, List, [], ◌∷◌, ◌++◌, map}
use Rattle.std.proofs.Common.{Option, Some, None}
use Rattle.std.proofs.Common.{slice_get, inl, inr, refl, sym, ap, subst, ◌∙◌}
use Rattle.std.specs.Prelude.{if◌then◌else◌}
use Rattle.std.specs.Cmp.Lexicographic.{pointwise}
use Rattle.std.specs.List.{AllByRecursion, AllZip, find}
use Rattle.std.specs.Option.{option_map, option_map_or, option_or}
use Rattle.std.proofs.lemmas.Bool.{and_parts}
use Rattle.std.proofs.lemmas.Option.{same_Some, slice_get-map}
use Rattle.jv_base.proofs.Lists.{all_from}
use Rattle.jv_base.specs.Types.{method_text}
use Rattle.class_model.specs.declared.class.Class.{Class}
use Rattle.class_model.specs.declared.class.Method.{Method}
use Rattle.class_model.specs.declared.code.Code.{Code}
use Rattle.code_edit.specs.Acts.{is_pass, step_passes}
use Rattle.code_edit.specs.Applied.{applied, edited}
use Rattle.code_edit.specs.Legal.{AreLegal, AreRightActs, AreRightSteps, IsRightAct}
use Rattle.code_edit.specs.declared.act.Act.{Act}
use Rattle.code_edit.specs.declared.act.Pass.{Pass}
use Rattle.code_edit.specs.declared.act.Pass.TheVariants.{Reach, Const, Slots, Jumps}
use Rattle.code_edit.specs.declared.act.PassEdits.{PassEdits}
use Rattle.edit_premises.specs.Steps.{IsEdited}
use Rattle.mapping_file.specs.declared.mapping.Mapping.{Mapping}
use Rattle.witness_file.specs.Witnesses.{has_method, is_method}
use Rattle.witness_file.specs.declared.witness.MethodWitness.{MethodWitness}
use Rattle.witness_file.specs.declared.witness.Witness.{Witness}
use Rattle.pair_clauses.specs.Finding.{FindsUnless, FirstOf}
use Rattle.pair_clauses.specs.Places.{place_if, place_of_method}
use Rattle.pair_clauses.specs.declared.place.Place.{Place}
use Rattle.pair_edits.specs.Edits.{AreLegalOn, AreLegalSteps, ClassEditIllegal, EditIllegal, are_all_steps}
use Rattle.pair_edits.specs.Edits.{entries_fault}
use Rattle.pair_edits.specs.Edits.{entry_place, is_kept, is_stray, method_named, stray_fault}
use Rattle.pair_edits.specs.Entries.{edited_class, edited_input, edited_method, entry_of, steps_in, steps_of}
use Rattle.shape_laws.specs.Bare.{CodesAre, DifferInCodes, bare, bare_method}

-- ---- steps of each pass

same_pass : (p q : Pass) → is_pass p q ≡ true → p ≡ q
same_pass Reach Reach h = refl
same_pass Const Const h = refl
same_pass Slots Slots h = refl
same_pass Jumps Jumps h = refl
same_pass Reach Const h = absurd cc
same_pass Reach Slots h = absurd cc
same_pass Reach Jumps h = absurd cc
same_pass Const Reach h = absurd cc
same_pass Const Slots h = absurd cc
same_pass Const Jumps h = absurd cc
same_pass Slots Reach h = absurd cc
same_pass Slots Const h = absurd cc
same_pass Slots Jumps h = absurd cc
same_pass Jumps Reach h = absurd cc
same_pass Jumps Const h = absurd cc
same_pass Jumps Slots h = absurd cc

same_passes : (ps qs : List Pass) → pointwise is_pass ps qs ≡ true → ps ≡ qs
same_passes [] [] h = refl
same_passes [] (q ∷ qs) h = absurd cc
same_passes (p ∷ ps) [] h = absurd cc
same_passes (p ∷ ps) (q ∷ qs) h =
    let both = and_parts (is_pass p q) (pointwise is_pass ps qs) h in
    λ i. same_pass p q both.0 i ∷ same_passes ps qs both.1 i

-- ---- entries that aren't stray

abbrev HasSteps : MethodWitness → Type 0
HasSteps e = map (λ (s : PassEdits). s.pass) e.edits.steps ≡ step_passes

-- no place is found, so nothing is at fault here or behind
not_placed : (b : Bool) (p : Place) (rest : Option Place) → None ≡ option_or (place_if b p) rest
    → (b ≡ false) × (None ≡ rest)
not_placed true p rest h = absurd cc
not_placed false p rest h = (refl, h)

not_stray : (a b c : Bool) → (not a || (b || not c)) ≡ false → c ≡ true
not_stray a b true h = refl
not_stray true true false h = absurd cc
not_stray true false false h = absurd cc
not_stray false b false h = absurd cc

module _ (mapping : Mapping) (input : List Class) where
  pub all_have_steps : (before es : List MethodWitness) → None ≡ entries_fault mapping input before es
      → AllByRecursion HasSteps es
  all_have_steps before [] h = tt
  all_have_steps before (e ∷ es) h =
      let parts = not_placed (is_stray mapping input before e) (entry_place e)
      (entries_fault mapping input (before ++ e ∷ []) es) h in (
        same_passes (map (λ (s : PassEdits). s.pass) e.edits.steps) step_passes
            (not_stray (option_map_or (is_kept mapping) (method_named input e) false)
            (has_method before e.class e.name e.ty) (are_all_steps e.edits.steps) parts.0),
        all_have_steps (before ++ e ∷ []) es parts.1,
      )

-- the entry that is found is one of these
found_holds : (P : MethodWitness → Type 0) (test : MethodWitness → Bool) (es : List MethodWitness)
    → AllByRecursion P es → (e : MethodWitness) → find test es ≡ Some e → P e
found_holds P test [] all e h = absurd cc
found_holds P test (x ∷ es) all e h = by (test x) h (found_holds P test es all.1 e)
  where
    by : (b : Bool) → (if b then Some x else find test es) ≡ Some e → (find test es ≡ Some e → P e) → P e
    by true h later = subst P (same_Some x e h) all.0
    by false h later = later h

-- ---- acts that are legal

pub legal_right : (p : Pass) (acts : List Act) (code : Code) → AreLegal p acts code → AreRightActs p acts code
legal_right p acts code h = all_from (IsRightAct p acts code) acts (λ k a at. (h k a at).0)

steps_right : (steps : List PassEdits) (code : Code) → AreLegalSteps steps code → AreRightSteps steps code
steps_right [] code h = tt
steps_right (s ∷ steps) code h =
    (legal_right s.pass s.acts code h.0, steps_right steps (applied s.pass s.acts code) h.1)

-- ---- methods

module _ (entries : List MethodWitness) (have : AllByRecursion HasSteps entries) (c : Class) where
  by_entry : (m : Method) (o : Option MethodWitness) → entry_of entries c m ≡ o → (code : Option Code)
      → AreLegalOn (steps_in o) code → IsEdited code (option_map (edited (steps_in o)) code)
  by_entry m o is None legal = inl refl
  by_entry m None is (Some code) legal = inl refl
  by_entry m (Some e) is (Some code) legal = inr (
    code,
    e.edits.steps,
    refl,
    found_holds HasSteps (is_method c.name m.name (method_text m.ty)) entries have e is,
    steps_right e.edits.steps code legal,
    refl,
  )

  methods_edited : (ms : List Method)
      → FirstOf (λ (m : Method). FindsUnless (AreLegalOn (steps_of entries c m) m.code) (place_of_method c m)) ms None
      → AllZip (λ (m o : Method). IsEdited m.code o.code) ms (map (edited_method entries c) ms)
  methods_edited [] h = tt
  methods_edited (m ∷ ms) h = (by_entry m (entry_of entries c m) refl m.code h.0, methods_edited ms h.1)

bare_methods : (entries : List MethodWitness) (c : Class) (ms : List Method)
    → map bare_method (map (edited_method entries c) ms) ≡ map bare_method ms
bare_methods entries c [] = refl
bare_methods entries c (m ∷ ms) = ap (λ (os : List Method). bare_method m ∷ os) (bare_methods entries c ms)

-- ---- sets

bare_classes : (entries : List MethodWitness) (cs : List Class)
    → map bare (map (edited_class entries) cs) ≡ map bare cs
bare_classes entries [] = refl
bare_classes entries (c ∷ cs) =
    λ i. record c { methods = bare_methods entries c c.methods i } ∷ bare_classes entries cs i

first_at : (entries : List MethodWitness) (cs : List Class) → FirstOf (ClassEditIllegal entries) cs None → (n : ℕ)
    (c : Class) → slice_get cs n ≡ Some c → ClassEditIllegal entries c None
first_at entries [] h n c at = absurd cc
first_at entries (d ∷ cs) h zero c at =
    subst (λ (x : Class). ClassEditIllegal entries x None) (same_Some d c at) h.0
first_at entries (d ∷ cs) h (suc n) c at = first_at entries cs h.1 n c at

pub edited_alike : (witness : Witness) (input : List Class) → DifferInCodes input (edited_input witness input)
edited_alike witness input = sym (bare_classes witness.methods input)

pub codes_edited : (mapping : Mapping) (witness : Witness) (input : List Class) → None ≡ stray_fault mapping input witness
    → EditIllegal witness input None → CodesAre IsEdited input (edited_input witness input)
codes_edited mapping witness input stray legal n c e at there =
    let same : edited_class witness.methods c ≡ e = same_Some (edited_class witness.methods c) e
    (sym (slice_get-map (edited_class witness.methods) input n ∙ ap (option_map (edited_class witness.methods)) at)
    ∙ there) in
    subst (λ (x : Class). AllZip (λ (m o : Method). IsEdited m.code o.code) c.methods x.methods) same
    (methods_edited witness.methods (all_have_steps mapping input [] witness.methods stray) c c.methods
    (first_at witness.methods input legal n c at))
