-- What the output does is what the edited input does, and this does what the input does.
use Rattle.std.proofs.Common.{◌≡◌, List, [], ◌∷◌, Option, Some, refl, sym, subst, inl, inr, ◌∙◌}
use Rattle.std.specs.Prelude.{is_some}
use Rattle.std.specs.List.{AllZip}
use Rattle.class_model.specs.declared.class.Class.{Class}
use Rattle.class_model.specs.declared.class.Method.{Method}
use Rattle.class_model.specs.declared.code.Code.{Code}
use Rattle.keep_rules.specs.declared.rules.Rules.{Rules}
use Rattle.mapping_file.specs.declared.mapping.Mapping.{Mapping}
use Rattle.jvm_model.specs.Same.{Corr, FrameCorr, Names, Same, own_names}
use Rattle.jvm_model.specs.State.{Frame, State, frames}
use Rattle.jvm_model.specs.Value.{Key}
use Rattle.jvm_model.proofs.Compose.{same_trans}
use Rattle.set_view.specs.ViewOf.{view_of}
use Rattle.type_verifier.specs.Verified.{AreTyped}
use Rattle.image_laws.specs.TakenSet.TakenSet.{IsTaken}
use Rattle.edit_premises.specs.Steps.{IsEdited}
use Rattle.edit_premises.proofs.Changes.{own_entries}
use Rattle.edit_premises.proofs.Steps.{edited_same}
use Rattle.shape_laws.specs.Bare.{CodesAre}
use Rattle.shape_laws.proofs.BareSets.{same_shape, views_are}
use Rattle.swap_laws.specs.Swapped.{IsSwapped}
use Rattle.swap_laws.proofs.EditedSets.{edited_swapped}
use Rattle.swap_laws.proofs.Taken.{swap_keeps_taken}
use Rattle.pair_laws.specs.EditedPairs.Laws.{EditedPairsDoTheSame, IsEditedPair}
use Rattle.pair_laws.specs.PairSame.Entries.{AreEntries}
use Rattle.pair_laws.specs.PairSame.Laws.{pair_names}
use Rattle.pair_laws.specs.PairSame.OneToOne.{AreOneToOne}
use Rattle.pair_laws.specs.PairSame.Pairs.{IsPair}
use Rattle.pair_laws.specs.PairTrace.Laws.{IsRetraced}
use Rattle.pair_laws.proofs.PairSame.Entered.{entries_kept}
use Rattle.pair_laws.proofs.PairSame.OneToOne.{one_to_one}
use Rattle.pair_laws.proofs.PairSame.PairSame.{pair_same}
use Rattle.pair_laws.proofs.PairTrace.Traced.{AreNamed, frames_named}
use Rattle.pair_laws.proofs.SwappedPairs.Names.{entries_there, one_to_one_back, pair_names_same}
use Rattle.pair_laws.proofs.SwappedPairs.Whole.{swap_keeps_pairs}

-- both have a code, or neither has one
abbrev HaveCodes : Option Code → Option Code → Type 0
HaveCodes a b = is_some b ≡ is_some a

have_codes : (a b : Option Code) → IsEdited a b → HaveCodes a b
have_codes a b (inl e) = λ i. is_some (e i)
have_codes a b (inr (old, steps, is, passes, right, after)) = (λ i. is_some (after i)) ∙ (λ i. is_some (sym is i))

module _ (input edited output : List Class) (mapping : Mapping) (rules : Rules) (taken : IsTaken input)
    (typed : AreTyped input) (then_taken : IsTaken output) (h : IsEditedPair input edited output mapping rules) where
  swapped : IsSwapped input edited
  swapped = edited_swapped input edited taken typed h.alike h.steps

  edited_taken : IsTaken edited
  edited_taken = swap_keeps_taken input edited swapped taken

  pair : IsPair edited output mapping rules
  pair = swap_keeps_pairs input edited output mapping rules swapped h.but_codes h.codes

  names_are : pair_names edited mapping ≡ pair_names input mapping
  names_are = pair_names_same input edited h.alike mapping

  does_the_same : (entries : List Key) → AreEntries input rules entries
      → Same (view_of input) (view_of output) (pair_names input mapping) entries
  does_the_same entries are =
      let kept = entries_kept edited output mapping rules edited_taken pair entries
      (entries_there input edited h.alike rules entries are) in
      subst (λ (names : Names). Same (view_of input) (view_of output) names entries) names_are
      (same_trans (view_of input) (view_of edited) (view_of output) own_names (pair_names edited mapping) entries entries
      (own_entries entries)
      (edited_same (view_of input) (view_of edited) (same_shape input edited h.alike)
      (views_are IsEdited (inl refl) input edited h.alike h.steps) entries)
      (pair_same edited output mapping rules edited_taken then_taken pair entries kept))

  -- ---- traces

  named : (fs gs : List Frame) → AllZip (FrameCorr (view_of input) (view_of output) (pair_names input mapping)) fs gs
      → AreNamed (pair_names edited mapping) fs gs
  named [] [] zip = tt
  named [] (g ∷ gs) zip = absurd zip
  named (f ∷ fs) [] zip = absurd zip
  named (f ∷ fs) (g ∷ gs) zip = (
    subst (λ (names : Names). names.method f.method ≡ Some g.method) (sym names_are) zip.0.method,
    named fs gs zip.1,
  )

  coded : CodesAre HaveCodes input edited
  coded = λ n c e at there. weaker c.methods e.methods (h.steps n c e at there)
    where
      weaker : (ms os : List Method) → AllZip (λ (m o : Method). IsEdited m.code o.code) ms os
          → AllZip (λ (m o : Method). HaveCodes m.code o.code) ms os
      weaker [] [] zip = tt
      weaker [] (o ∷ os) zip = absurd zip
      weaker (m ∷ ms) [] zip = absurd zip
      weaker (m ∷ ms) (o ∷ os) zip = (have_codes m.code o.code zip.0, weaker ms os zip.1)

  back : (fs gs : List Frame) → AllZip (IsRetraced edited output mapping) fs gs
      → AllZip (IsRetraced input output mapping) fs gs
  back [] [] zip = tt
  back [] (g ∷ gs) zip = absurd zip
  back (f ∷ fs) [] zip = absurd zip
  back (f ∷ fs) (g ∷ gs) zip =
      (λ code. zip.0 (views_are HaveCodes refl input edited h.alike coded f.method ∙ code), back fs gs zip.1)

  are_retraced : (s t : State) → Corr (view_of input) (view_of output) (pair_names input mapping) s t
      → AllZip (IsRetraced input output mapping) (frames s) (frames t)
  are_retraced s t corr = back (frames s) (frames t)
      (frames_named edited output mapping rules edited_taken then_taken pair (frames s) (frames t)
      (named (frames s) (frames t) corr.stack))

pub edited_pairs : EditedPairsDoTheSame
edited_pairs input edited output mapping rules taken typed then_taken h = record {
  names = one_to_one_back input edited h.alike (pair_names input mapping)
      (subst (AreOneToOne edited) (names_are input edited output mapping rules taken typed then_taken h)
      (one_to_one edited output mapping rules (edited_taken input edited output mapping rules taken typed then_taken h)
      then_taken (pair input edited output mapping rules taken typed then_taken h)));
  same = does_the_same input edited output mapping rules taken typed then_taken h;
  retraced = are_retraced input edited output mapping rules taken typed then_taken h;
}
