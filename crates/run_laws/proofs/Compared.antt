-- The output of a pair shows after so many steps, from each entry, what the input shows.
use Rattle.std.proofs.Common.{◌≡◌, ℕ, zero, Bool, true, false, cond, List, [], ◌∷◌, Option, Some, None, refl, sym, ap, subst, ◌∙◌}
use Rattle.std.proofs.Common.{arith}
use Rattle.std.specs.Prelude.{IsTrue}
use Rattle.std.specs.Option.{option_map, option_map_or, unwrap_or}
use Rattle.std.proofs.lemmas.Option.{same_Some}
use Rattle.jv_base.specs.Names.{is_class_name, is_member_name, is_primitive_or_void}
use Rattle.jv_base.proofs.Options.{some_there}
use Rattle.tree_io.specs.declared.file_at.FileAt.{FileAt}
use Rattle.class_model.specs.declared.class.Class.{Class}
use Rattle.class_pool.specs.Hierarchy.{class_named}
use Rattle.class_run.specs.Ended.{ended_after}
use Rattle.class_run.specs.Started.{started}
use Rattle.keep_rules.specs.declared.rules.Rules.{Rules}
use Rattle.mapping_file.specs.declared.mapping.MapClass.{MapClass}
use Rattle.mapping_file.specs.declared.mapping.Mapping.{Mapping}
use Rattle.witness_file.specs.declared.witness.Witness.{Witness}
use Rattle.new_names.specs.NewNames.{class_line, names_of}
use Rattle.jvm_model.specs.Same.{Names}
use Rattle.jvm_model.specs.Step.{start as started_at}
use Rattle.jvm_model.specs.Value.{Key}
use Rattle.set_read.specs.Accepted.{IsAccepted}
use Rattle.set_view.specs.ViewOf.{view_of}
use Rattle.image_laws.specs.ShrunkImage.Keeping.{is_class_kept}
use Rattle.image_laws.specs.TakenSet.TakenSet.{IsTaken}
use Rattle.swap_laws.specs.Swapped.{IsSwapped}
use Rattle.swap_laws.proofs.EditedSets.{edited_swapped}
use Rattle.swap_laws.proofs.Taken.{swap_keeps_taken}
use Rattle.type_sound.specs.Laws.{DoesWhole}
use Rattle.type_sound.proofs.Whole.{same_whole}
use Rattle.removal_laws.specs.AcceptedSets.Laws.{AreReadable}
use Rattle.removal_laws.proofs.AcceptedSets.Taken.{are_taken}
use Rattle.pair_clauses.specs.Closing.{lined_items}
use Rattle.pair_clauses.specs.Shape.{number_of}
use Rattle.pair_edits.specs.Entries.{edited_input}
use Rattle.pair_checker.specs.Clauses.{given_names}
use Rattle.pair_checker.specs.PairOk.{PairOk}
use Rattle.pair_checker.specs.declared.answer.Clause.TheVariants as clause
use Rattle.pair_laws.specs.EditedPairs.Laws.{IsEditedPair}
use Rattle.pair_laws.specs.PairSame.Entries.{IsEntry}
use Rattle.pair_laws.specs.PairSame.Laws.{pair_names}
use Rattle.pair_laws.specs.PairSame.Pairs.{IsPair}
use Rattle.pair_laws.specs.RenamedSame.NewKeys as keys
use Rattle.pair_laws.proofs.PairSame.Expected.{line_of, numbered_class}
use Rattle.pair_laws.proofs.PairSame.Naming.{apart}
use Rattle.pair_laws.proofs.PairSound.Sound.{checked_same}
use Rattle.pair_laws.proofs.PairSound.Witnessed.{codes_edited, edited_alike}
use Rattle.pair_laws.proofs.SwappedPairs.Names.{entries_there, pair_names_same}
use Rattle.pair_laws.proofs.SwappedPairs.Whole.{swap_keeps_pairs}
use Rattle.run_command.specs.declared.entries.Start.{Start}
use Rattle.compare_command.specs.Alike.{IsAnyAlike}
use Rattle.compare_command.specs.Due.{input_ended, output_ended}
use Rattle.compare_command.specs.NewEntry.{new_entry}
use Rattle.compare_command.specs.Seeds.{is_seed}
use Rattle.run_laws.proofs.Entered.{Begins, entry_spelled, entry_typed, may_begin}
use Rattle.run_laws.proofs.NewEntry.{entry_there, name_there, one_entry}
use Rattle.run_laws.proofs.Seeds.{seed_entry}
use Rattle.run_laws.proofs.Shown.{TellsClasses, shown}

-- no class has the empty name (JVMS 4.2.1)
no_empty : IsTrue (is_class_name []) → ⊥
unfolding is_class_name is_member_name is_primitive_or_void
no_empty h = cc

-- a new name that is given
given_by : (b : Bool) (new d : List ℕ) → cond b (Some new) None ≡ Some d → new ≡ d
given_by true new d e = same_Some new d e
given_by false new d e = absurd cc

module _ (inputs : List FileAt) (input : List Class) (outputs : List FileAt) (mapping : Mapping) (rules : Rules)
    (witness : Witness) (readable : AreReadable inputs) (accepted : IsAccepted inputs input)
    (then_readable : AreReadable outputs) (pair : PairOk input outputs mapping rules witness) where
  -- ---- the pair of the edited input

  taken : IsTaken input
  taken = are_taken inputs input readable accepted

  then_taken : IsTaken pair.output
  then_taken = are_taken outputs pair.output then_readable pair.accepted

  abbrev edited : List Class
  edited = edited_input witness input

  is_edited : IsEditedPair input edited pair.output mapping rules
  is_edited = record {
    alike = edited_alike witness input;
    steps = codes_edited mapping witness input (pair.none clause.WitnessStray) (pair.none clause.EditIllegal);
    but_codes = record {
      shape = pair.none clause.MapShape;
      fixed = pair.none clause.FixedName;
      packages = pair.none clause.Package;
      seeds = pair.none clause.SeedLost;
      closed = pair.none clause.NotClosed;
      members = pair.none clause.MemberDiffers;
      ranges = pair.none clause.LineRange;
    };
    codes = pair.none clause.CodeDiffers;
  }

  swapped : IsSwapped input edited
  swapped = edited_swapped input edited taken accepted.typed is_edited.alike is_edited.steps

  edited_taken : IsTaken edited
  edited_taken = swap_keeps_taken input edited swapped taken

  edited_pair : IsPair edited pair.output mapping rules
  edited_pair = swap_keeps_pairs input edited pair.output mapping rules swapped is_edited.but_codes is_edited.codes

  abbrev names : Names
  names = pair_names input mapping

  names_are : pair_names edited mapping ≡ names
  names_are = pair_names_same input edited is_edited.alike mapping

  -- ---- the names of classes

  no_line : (names_of mapping).class [] ≡ []
  no_line = by (class_line mapping []) refl
    where
      by : (o : Option MapClass) → class_line mapping [] ≡ o
          → unwrap_or (option_map (λ (l : MapClass). l.new) o) [] ≡ []
      by None e = refl
      by (Some l) e =
          let good = line_of edited pair.output mapping rules edited_taken edited_pair [] l e in
          let n = some_there (number_of edited l.old) good.0.line.in_input in
          let c = numbered_class edited l.old n.0 n.1 in
          absurd (no_empty (subst (λ (t : List ℕ). IsTrue (is_class_name t)) (c.2 ∙ good.1)
          (edited_taken.formed n.0 c.0 c.1).name.1))

  tells : TellsClasses mapping names
  tells = record {
    new = λ c d e. given_by (option_map_or (is_class_kept input (lined_items (given_names mapping input)))
        (class_named input c) false) ((names_of mapping).class c) d e;
    library = (apart edited pair.output mapping rules edited_taken then_taken edited_pair).library_class;
    nothing = no_line;
  }

  -- ---- an entry

  module _ (words : List (List ℕ)) (start : Start) (begins : Begins input words start)
      (seed : is_seed rules input start.entry.key ≡ true) where
    abbrev k : Key
    k = start.entry.key

    is_entry : IsEntry input rules k
    is_entry = seed_entry rules input k begins.entered.startable seed

    whole : DoesWhole input (view_of pair.output) names (k ∷ [])
    whole = same_whole input taken accepted.typed (view_of pair.output) names (k ∷ [])
        (checked_same inputs input outputs mapping rules witness readable accepted then_readable pair (k ∷ [])
        (one_entry input rules k is_entry)).0

    edited_entry : IsEntry edited rules k
    edited_entry = entries_there input edited is_edited.alike rules (k ∷ []) (one_entry input rules k is_entry) k
        (zero, omega arith, refl)

    new_there : new_entry mapping pair.output start.entry ≡ Some (keys.new_key (names_of mapping) k)
    new_there = entry_there edited pair.output mapping rules edited_taken then_taken edited_pair start.entry
        (entry_typed input taken start.entry begins.entered) (entry_spelled input taken start.entry begins.entered)
        edited_entry

    named_there : names.method k ≡ Some (keys.new_key (names_of mapping) k)
    named_there =
        ap (λ (n : Names). n.method k) (sym names_are)
        ∙ name_there edited pair.output mapping rules edited_taken then_taken edited_pair start.entry
        (entry_typed input taken start.entry begins.entered) (entry_spelled input taken start.entry begins.entered)
        edited_entry

    pub shows : (steps : ℕ)
        → IsAnyAlike mapping (input_ended input start steps) (output_ended mapping pair.output start steps)
    shows steps =
        let w = whole k (zero, omega arith, refl) in
        let same : keys.new_key (names_of mapping) k ≡ w.0 =
        same_Some (keys.new_key (names_of mapping) k) w.0 (sym named_there ∙ w.1) in
        let found : new_entry mapping pair.output start.entry ≡ Some w.0 =
        new_there ∙ ap (λ (x : Key). let o : Option Key = Some x in o) same in
        let heap = (started start.args).heap in
        let args = (started start.args).args in
        let alike = shown mapping names tells (view_of input) (view_of pair.output)
        (started_at (view_of input) k heap args) (started_at (view_of pair.output) w.0 heap args)
        (w.2 heap args (may_begin input taken words start begins)) steps in
        subst (λ (o : Option Key). IsAnyAlike mapping (input_ended input start steps)
        (option_map (λ key. ended_after pair.output key start.args steps) o)) (sym found) alike
