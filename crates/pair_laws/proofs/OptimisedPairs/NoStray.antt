-- No entry of the witness is stray: each is of a marked method with a code, none is of one again, and each has six steps.
use Rattle.std.proofs.Common.{◌≡◌, inl, inr, ℕ, ◌+◌, ◌||◌, not, Bool, true, false, List, [], ◌∷◌, ◌++◌, map, Option, Some, None}
use Rattle.std.proofs.Common.{slice_get, is_some, refl, sym, ap, subst, ◌∙◌, arith}
use Rattle.std.specs.Cmp.Lexicographic.{pointwise}
use Rattle.std.specs.List.{AllByRecursion, find}
use Rattle.std.specs.Option.{option_and_then, option_map, option_map_or, option_or}
use Rattle.std.proofs.lemmas.Bool.{and_from, and_parts}
use Rattle.std.proofs.lemmas.List.{map-append}
use Rattle.std.proofs.lemmas.Option.{same_Some}
use Rattle.jv_base.specs.Names.{is_text}
use Rattle.jv_base.specs.Types.{method_text}
use Rattle.jv_base.proofs.Equality.{text_Decides}
use Rattle.jv_base.proofs.Lists.{all_append}
use Rattle.class_model.specs.declared.class.Class.{Class}
use Rattle.class_model.specs.declared.class.Method.{Method}
use Rattle.class_pool.specs.Members as members
use Rattle.code_edit.specs.Acts.{is_pass, step_passes}
use Rattle.code_edit.specs.declared.act.Pass.{Pass}
use Rattle.image_laws.specs.TakenSet.TakenSet.{IsTaken}
use Rattle.mapping_file.specs.declared.mapping.Mapping.{Mapping}
use Rattle.new_names.specs.NewNames.{new_method}
use Rattle.pair_clauses.specs.Places.{place_if}
use Rattle.pair_clauses.specs.declared.place.Place.{Place}
use Rattle.pair_edits.specs.Edits.{are_all_steps, entries_fault, entry_place, is_kept, is_stray, method_in, method_named}
use Rattle.pair_edits.specs.Edits.{stray_fault}
use Rattle.pass_driver.specs.declared.optimising.NewCode.{NewCode}
use Rattle.witness_file.specs.Witnesses.{has_method, is_method}
use Rattle.witness_file.specs.declared.witness.MethodWitness.{MethodWitness}
use Rattle.pair_laws.proofs.OptimisedPairs.EditedMethods.{AreEdited, AreOrdered, EditedMethod, IsBelow, IsEditedMethod, IsMarkedAt}
use Rattle.pair_laws.proofs.OptimisedPairs.EditedMethods.{entry_of}
use Rattle.pair_laws.proofs.OptimisedPairs.Looked.{class_one, method_one, that_one}
use Rattle.pair_laws.proofs.OptimisedPairs.OnePlace.{found_one}
use Rattle.pair_laws.proofs.OptimisedPairs.SteppedCodes.{passes_are}

-- ---- searches

no_place : (b : Bool) (p : Place) (rest : Option Place) → b ≡ false → rest ≡ None → option_or (place_if b p) rest ≡ None
no_place b p rest fails none = ap (λ (x : Bool). option_or (place_if x p) rest) fails ∙ none

not_stray : (a b c : Bool) → a ≡ true → b ≡ false → c ≡ true → (not a || (b || not c)) ≡ false
not_stray a b c kept new all = λ i. not (kept i) || (new i || not (all i))

-- ---- entries

module _ (classes : List Class) (taken : IsTaken classes) where
  abbrev Is : EditedMethod → Type 0
  Is d = IsEditedMethod classes d

  pub below_differ : (d e : EditedMethod) → IsBelow d.spot e.spot → d.spot.class ≡ e.spot.class
      → d.spot.method ≡ e.spot.method → ⊥
  below_differ d e (inl low) class method = omega (arith, low, class)
  below_differ d e (inr low) class method = omega (arith, low.1, method)

  -- an edited method isn't one that stands behind it
  pub not_again : (d e : EditedMethod) → Is d → Is e → IsBelow d.spot e.spot
      → is_method e.class.name e.method.name (method_text e.method.ty) (entry_of d) ≡ false
  not_again d e is other low =
      by (is_method e.class.name e.method.name (method_text e.method.ty) (entry_of d)) refl
    where
      by : (b : Bool) → is_method e.class.name e.method.name (method_text e.method.ty) (entry_of d) ≡ b → b ≡ false
      by false h = refl
      by true h =
          let that = that_one classes taken e.spot.class e.spot.method e.class e.method other.at.in_set other.at.in_class
          d is h in
          absurd (below_differ d e low that.class that.method)

  class_found : (d : EditedMethod) → Is d → find (λ (c : Class). is_text d.class.name c.name) classes ≡ Some d.class
  class_found d is =
      found_one (λ (c : Class). is_text d.class.name c.name) classes d.spot.class d.class is.at.in_set
      ((text_Decides d.class.name d.class.name).1 refl)
      (λ j c there same.
      let place : j ≡ d.spot.class = class_one classes taken j d.spot.class c d.class there is.at.in_set
      (sym ((text_Decides d.class.name c.name).0 same)) in
      same_Some c d.class (sym there ∙ ap (slice_get classes) place ∙ is.at.in_set))

  abbrev text_of : EditedMethod → List ℕ
  text_of d = method_text d.method.ty

  method_found : (d : EditedMethod) → Is d
      → find (members.is_method d.method.name (text_of d)) d.class.methods ≡ Some d.method
  method_found d is =
      found_one (members.is_method d.method.name (text_of d)) d.class.methods d.spot.method d.method is.at.in_class
      (and_from (is_text d.method.name d.method.name) (is_text (text_of d) (text_of d))
      ((text_Decides d.method.name d.method.name).1 refl) ((text_Decides (text_of d) (text_of d)).1 refl))
      (λ j m there same.
      let both = and_parts (is_text m.name d.method.name) (is_text (text_of d) (method_text m.ty)) same in
      let place : j ≡ d.spot.method =
      method_one classes taken d.spot.class d.class is.at.in_set j d.spot.method m d.method there is.at.in_class
      ((text_Decides m.name d.method.name).0 both.0, sym ((text_Decides (text_of d) (method_text m.ty)).0 both.1)) in
      same_Some m d.method (sym there ∙ ap (slice_get d.class.methods) place ∙ is.at.in_class))

  pub it_is_named : (d : EditedMethod) → Is d → method_named classes (entry_of d) ≡ Some (d.class, d.method)
  it_is_named d is =
      ap (option_and_then (method_in (entry_of d))) (class_found d is)
      ∙ ap (option_map (λ m. (d.class, m))) (method_found d is)

  -- ---- in the witness's order

  module _ (mapping : Mapping) where
    abbrev Lined : EditedMethod → Type 0
    Lined d = is_some (new_method mapping d.class d.method) ≡ true

    all_steps : (d : EditedMethod) → Is d → are_all_steps d.edits.steps ≡ true
    all_steps d is =
        ap (λ (ps : List Pass). pointwise is_pass ps step_passes) (passes_are step_passes d.edits.steps d.own is.steps)

    kept : (d : EditedMethod) → Is d → Lined d
        → option_map_or (is_kept mapping) (method_named classes (entry_of d)) false ≡ true
    kept d is line =
        ap (λ (o : Option (Class × Method)). option_map_or (is_kept mapping) o false) (it_is_named d is)
        ∙ and_from (is_some d.method.code) (is_some (new_method mapping d.class d.method)) (ap is_some is.at.has) line

    none_before : (before : List EditedMethod) (d : EditedMethod) → AllByRecursion Is before → Is d
        → AllByRecursion (λ (b : EditedMethod). IsBelow b.spot d.spot) before
        → has_method (map entry_of before) d.class.name d.method.name (text_of d) ≡ false
    none_before [] d are is below = refl
    none_before (b ∷ before) d are is below =
        λ i. not_again b d are.0 is below.0 i || none_before before d are.1 is below.1 i

    next_below : (before : List EditedMethod) (d : EditedMethod) (ds : List EditedMethod)
        → AllByRecursion (λ (b : EditedMethod). AllByRecursion (λ (e : EditedMethod). IsBelow b.spot e.spot) (d ∷ ds))
        before
        → AllByRecursion (λ (e : EditedMethod). IsBelow d.spot e.spot) ds
        → AllByRecursion (λ (b : EditedMethod). AllByRecursion (λ (e : EditedMethod). IsBelow b.spot e.spot) ds)
        (before ++ d ∷ [])
    next_below [] d ds below after = (after, tt)
    next_below (b ∷ before) d ds below after = (below.0.1, next_below before d ds below.1 after)

    first_below : (before : List EditedMethod) (d : EditedMethod) (ds : List EditedMethod)
        → AllByRecursion (λ (b : EditedMethod). AllByRecursion (λ (e : EditedMethod). IsBelow b.spot e.spot) (d ∷ ds))
        before
        → AllByRecursion (λ (b : EditedMethod). IsBelow b.spot d.spot) before
    first_below [] d ds below = tt
    first_below (b ∷ before) d ds below = (below.0.0, first_below before d ds below.1)

    none_stray : (before ds : List EditedMethod) → AllByRecursion Is before → AllByRecursion Is ds
        → AllByRecursion Lined ds
        → AllByRecursion (λ (b : EditedMethod). AllByRecursion (λ (e : EditedMethod). IsBelow b.spot e.spot) ds) before
        → AreOrdered ds → entries_fault mapping classes (map entry_of before) (map entry_of ds) ≡ None
    none_stray before [] are is lines below ordered = refl
    none_stray before (d ∷ ds) are is lines below ordered =
        let rest : entries_fault mapping classes (map entry_of (before ++ d ∷ [])) (map entry_of ds) ≡ None =
        none_stray (before ++ d ∷ []) ds (all_append Is before (d ∷ []) are (is.0, tt)) is.1 lines.1
        (next_below before d ds below ordered.0) ordered.1 in
        no_place (is_stray mapping classes (map entry_of before) (entry_of d)) (entry_place (entry_of d))
        (entries_fault mapping classes (map entry_of before ++ entry_of d ∷ []) (map entry_of ds))
        (not_stray (option_map_or (is_kept mapping) (method_named classes (entry_of d)) false)
        (has_method (map entry_of before) d.class.name d.method.name (text_of d)) (are_all_steps d.edits.steps)
        (kept d is.0 lines.0) (none_before before d are is.0 (first_below before d ds below)) (all_steps d is.0))
        (subst (λ (es : List MethodWitness). entries_fault mapping classes es (map entry_of ds) ≡ None)
        (map-append entry_of before (d ∷ [])) rest)

-- no place is found
pub not_stray_at_all : (marks : List Bool) (classes : List Class) (codes : List NewCode) (entries : List MethodWitness)
    → IsTaken classes → (g : AreEdited marks classes codes entries) → (mapping : Mapping)
    → ((d : EditedMethod) → IsEditedMethod classes d → IsMarkedAt marks classes d.spot
    → is_some (new_method mapping d.class d.method) ≡ true)
    → None ≡ stray_fault mapping classes (record { methods = entries })
not_stray_at_all marks classes codes entries taken g mapping lined =
    sym (ap (entries_fault mapping classes []) g.entries_are
    ∙ none_stray classes taken mapping [] g.edited tt g.are
    (lines g.edited g.are g.marked) tt g.ordered)
  where
    lines : (ds : List EditedMethod) → AllByRecursion (IsEditedMethod classes) ds
        → AllByRecursion (λ (d : EditedMethod). IsMarkedAt marks classes d.spot) ds
        → AllByRecursion (λ (d : EditedMethod). is_some (new_method mapping d.class d.method) ≡ true) ds
    lines [] are marked = tt
    lines (d ∷ ds) are marked = (lined d are.0 marked.0, lines ds are.1 marked.1)
