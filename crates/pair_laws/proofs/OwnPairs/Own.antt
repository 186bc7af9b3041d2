-- What is written is a pair with the set, so it does what the set does.
use Rattle.std.proofs.Common.{◌≡◌, Bool, List, None, refl, sym, subst, Option}
use Rattle.std.specs.List.{AllByRecursion}
use Rattle.tree_io.specs.declared.file_at.FileAt.{FileAt}
use Rattle.mark_core.specs.Marks.{Closed, set_of}
use Rattle.class_laws.specs.SpellingLaws.{IsWritable}
use Rattle.class_model.specs.declared.class.Class.{Class}
use Rattle.class_pool.specs.Supertypes.{NoCycle}
use Rattle.keep_rules.specs.declared.rules.Rules.{Rules}
use Rattle.mapping_file.specs.declared.mapping.Mapping.{Mapping}
use Rattle.set_view.specs.ViewOf.{view_of}
use Rattle.set_read.specs.Accepted.{IsAccepted}
use Rattle.set_read.proofs.Writable.{accepted_are_writable}
use Rattle.set_shrink.specs.ShrunkSet.{left_of}
use Rattle.set_shrink.specs.declared.shrunk.ShrunkSet.{ShrunkSet}
use Rattle.image_laws.specs.TakenSet.TakenSet.{IsTaken}
use Rattle.type_sound.proofs.Whole.{same_whole}
use Rattle.removal_laws.proofs.AcceptedSets.Taken.{are_taken}
use Rattle.rule_system.specs.Required.{required}
use Rattle.pair_checker.specs.Clauses.{Finds}
use Rattle.pair_checker.specs.PairOk.{PairOk}
use Rattle.pair_checker.specs.declared.answer.Clause.{Clause}
use Rattle.pair_checker.specs.declared.answer.Clause.TheVariants as clause
use Rattle.pair_edits.specs.Entries.{edited_input}
use Rattle.pass_driver.specs.Optimised.{with_codes}
use Rattle.pass_driver.specs.declared.optimising.Optimised.{Optimised}
use Rattle.swap_laws.specs.Swapped.{IsSwapped}
use Rattle.swap_laws.proofs.Taken.{swap_keeps_taken}
use Rattle.pair_laws.specs.EditedPairs.Laws.{EditedDoTheSame}
use Rattle.pair_laws.proofs.EditedPairs.Whole.{edited_pairs}
use Rattle.pair_laws.proofs.PairSound.Witnessed.{codes_edited, edited_alike}
use Rattle.pair_laws.proofs.OptimisedPairs.Clauses.{none}
use Rattle.pair_laws.proofs.OptimisedPairs.EditedMethods.{AreEdited}
use Rattle.pair_laws.proofs.OptimisedPairs.OptimisedSet.{PassLaws, closed_too, edited_if, swapped_if, typed_if}
use Rattle.pair_laws.proofs.OptimisedPairs.WritableCodes.{all_writable}
use Rattle.pair_laws.specs.PairSame.Laws.{pair_names}
use Rattle.pair_laws.proofs.OwnMapping.Own.{own_mapping_is_read, own_witness_is_read}
use Rattle.pair_laws.specs.OwnPairs.Laws.{OwnFilesArePaired, OwnIsAccepted, OwnPairs}
use Rattle.pair_laws.specs.OwnPairs.Written.{AreWritten}
use Rattle.pair_laws.proofs.OwnPairs.Left.{are_back, are_built, is_taken, is_typed, named}
use Rattle.pair_laws.proofs.OwnPairs.Written.{are_read, left_writable}

module _ (laws : PassLaws) (files : List FileAt) (classes : List Class) (marks : List Bool) (rules : Rules)
    (old : Option Mapping) (o : Optimised) (set : ShrunkSet) (written : List FileAt)
    (h : AreWritten files classes marks rules old o set written)
  where
    abbrev new : List Class
    new = with_codes o.codes classes

    abbrev left : List Class
    left = left_of new marks rules old

    taken : IsTaken classes
    taken = are_taken files classes h.readable h.accepted

    -- ---- the set with the new codes

    swapped : IsSwapped classes new
    swapped = swapped_if laws marks classes o taken h.accepted.typed rules.optimise h.optimised

    edited : AreEdited marks classes o.codes o.witness.methods
    edited = edited_if laws marks classes o taken h.accepted.typed rules.optimise h.optimised

    new_taken : IsTaken new
    new_taken = swap_keeps_taken classes new swapped taken

    new_closed : Closed (required new rules) (set_of marks)
    new_closed = closed_too classes new swapped rules marks h.closed

    new_writable : AllByRecursion IsWritable new
    new_writable = all_writable marks classes o.codes o.witness.methods taken edited swapped
        (accepted_are_writable files classes h.accepted)

    then_taken : IsTaken left
    then_taken = is_taken new marks rules old h.earlier new_taken new_closed h.source_name

    accepted : IsAccepted written left
    accepted =
        let built = are_built new marks rules old h.earlier new_taken new_closed h.source_name in
        let back = are_back new marks rules old h.earlier new_taken new_closed h.source_name in
        record {
          named = named new marks rules old h.earlier new_taken new_closed h.source_name;
          read = are_read rules.out_dir left set.files written
              (left_writable new marks rules old h.earlier new_taken new_closed h.source_name new_writable) h.shrunk.files h.below;
          are = sym back;
          first = built.built.0;
          acyclic = subst NoCycle back built.built.1;
          linked = then_taken.linked;
          typed = is_typed new marks rules old h.earlier new_taken new_closed h.source_name
              (typed_if laws marks classes o taken h.accepted.typed rules.optimise h.optimised);
        }

    -- ---- the clauses

    finds_none : (c : Clause) → Finds classes left set.mapping rules o.witness c None
    finds_none c = subst (λ (mapping : Mapping). Finds classes left mapping rules o.witness c None)
        (sym h.shrunk.mapping)
        (none laws.legal classes marks rules old o taken h.accepted.typed swapped edited h.closed h.count c)

    checked : PairOk classes written set.mapping rules o.witness
    checked = record { output = left; accepted = accepted; none = finds_none }

    -- what the output does
    does : EditedDoTheSame classes left set.mapping rules
    does = edited_pairs classes (edited_input o.witness classes) left set.mapping rules taken h.accepted.typed then_taken
        (record {
          alike = edited_alike o.witness classes;
          steps = codes_edited set.mapping o.witness classes (finds_none clause.WitnessStray)
              (finds_none clause.EditIllegal);
          but_codes = record {
            shape = finds_none clause.MapShape;
            fixed = finds_none clause.FixedName;
            packages = finds_none clause.Package;
            seeds = finds_none clause.SeedLost;
            closed = finds_none clause.NotClosed;
            members = finds_none clause.MemberDiffers;
            ranges = finds_none clause.LineRange;
          };
          codes = finds_none clause.CodeDiffers;
        })

pub own_accepted : PassLaws → OwnIsAccepted
own_accepted laws = accepted laws

pub own_pairs : PassLaws → OwnPairs
unfolding checked
own_pairs laws files classes marks rules old o set written h =
    (checked laws files classes marks rules old o set written h, refl)

pub own_paired : PassLaws → OwnFilesArePaired
unfolding checked own_pairs
own_paired laws files classes marks rules old o set written h =
    let own = own_pairs laws files classes marks rules old o set written h in
    let first = taken laws files classes marks rules old o set written h in
    let output = does laws files classes marks rules old o set written h in
    record {
      written = written;
      below = h.below;
      pair = own.0;
      mapping_read = own_mapping_is_read laws files classes marks rules old o set written h;
      witness_read = (own_witness_is_read laws files classes marks rules old o set written h).1;
      names = output.names;
      same = output.same;
      whole = λ entries are. same_whole classes first h.accepted.typed (view_of own.0.output)
          (pair_names classes set.mapping) entries (output.same entries are);
      typed = own.0.accepted.typed;
    }

-- the files that it tells by their paths below the output directory are those that were written
pub own_written : (laws : PassLaws) (files : List FileAt) (classes : List Class) (marks : List Bool) (rules : Rules)
    (old : Option Mapping) (o : Optimised) (set : ShrunkSet) (written : List FileAt)
    (h : AreWritten files classes marks rules old o set written)
    → (own_paired laws files classes marks rules old o set written h).written ≡ written
unfolding own_paired
own_written laws files classes marks rules old o set written h = refl
