-- Answers of `add_above`: what its calls ask for, and what it promises.
use Rattle.std.proofs.Common.{◌+◌, ◌∙◌, ◌≡◌, ℕ, List, subst, sym}
use Rattle.mark_core.specs.declared.system.Pair.{Pair}
use Rattle.class_pool.specs.Walk.{superclasses_from}
use Rattle.class_pool.specs.declared.id.ClassId.{ClassId}
use Rattle.class_pool.specs.declared.id.ClassId.TheVariants.{Prog}
use Rattle.override_pairs.specs.bodies.Above.{AreSteps}
use Rattle.override_pairs.specs.bodies.Counting.{AddsPairs}
use Rattle.method_places.specs.bodies.Nearest.{AreNoted, front_rows}
use Rattle.item_numbers.specs.bodies.Selecting.{pairs_in}
use Rattle.item_numbers.specs.bodies.Tops.{AreAbove}
use Rattle.method_places.specs.declared.methods.InstanceMethod.{InstanceMethod}
use Rattle.method_places.specs.declared.nearest.Note.{Note}
use Rattle.override_pairs.proofs.CountedPairs.{no_pair}
use Rattle.item_numbers.proofs.Meeting.{chain_there}
use Rattle.override_pairs.proofs.CountedPairs.{none_above}
use Rattle.method_places.proofs.Noting.{classes_before}
use Rattle.override_pairs.proofs.FreeRuns.{free_count}
use Rattle.override_pairs.proofs.PackageRows.{each_count, opening_count}
use Rattle.override_pairs.proofs.pairs.add_above.Goals as goal

pub returns-then-is_empty-clause-pairs : goal.returns-then-is_empty-clause-pairs
returns-then-is_empty-clause-pairs c =
    subst (λ (t : List Pair). AddsPairs c.args.pairs.now t c.args.pairs.now)
    (none_above (pairs_in c.args.numbered.now.set.now c.args.number c.args.top) c.args.supers.now c.is_empty.result
    c.is_empty.ensures c.if-is_empty.true)
    (no_pair c.args.pairs.now)

pub mark_above-requires-clause-classes : goal.mark_above-requires-clause-classes
mark_above-requires-clause-classes c =
    chain_there c.args.numbered.now.set.now c.args.top c.args.chain.now c.requires.top c.requires.chain

pub note_chain-requires-clause-classes : goal.note_chain-requires-clause-classes
note_chain-requires-clause-classes c =
    classes_before c.args.numbered.now.set.now _ c.args.chain.now c.requires.methods.count
    (chain_there c.args.numbered.now.set.now c.args.top c.args.chain.now c.requires.top c.requires.chain)

pub note_chain-requires-2-clause-classes : goal.note_chain-requires-2-clause-classes
note_chain-requires-2-clause-classes c =
    classes_before c.args.numbered.now.set.now _ c.args.chain.now
    (each_count c.args.numbered.now.set.now c.args.methods.now.of_classes c.args.places.now c.requires.places
    ∙ c.requires.methods.count)
    (chain_there c.args.numbered.now.set.now c.args.top c.args.chain.now c.requires.top c.requires.chain)

pub note_chain-requires-3-clause-classes : goal.note_chain-requires-3-clause-classes
note_chain-requires-3-clause-classes c =
    classes_before c.args.numbered.now.set.now _ c.args.chain.now
    (opening_count c.args.numbered.now.set.now c.args.methods.now.of_classes c.args.places.now c.requires.places
    ∙ c.requires.methods.count)
    (chain_there c.args.numbered.now.set.now c.args.top c.args.chain.now c.requires.top c.requires.chain)

pub note_chain-requires-4-clause-classes : goal.note_chain-requires-4-clause-classes
note_chain-requires-4-clause-classes c =
    classes_before c.args.numbered.now.set.now _ c.args.chain.now
    (free_count c.args.methods.now.of_classes c.args.free.now c.requires.free ∙ c.requires.methods.count)
    (chain_there c.args.numbered.now.set.now c.args.top c.args.chain.now c.requires.top c.requires.chain)

-- what is noted along a chain, as a list
along : (table : List (List InstanceMethod)) (stamp : ℕ) (chain whole : List ClassId) (notes list : List Note)
    → chain ≡ whole → list ≡ notes → AreNoted stamp (front_rows table chain) notes
    → AreNoted stamp (front_rows table whole) list
along table stamp chain whole notes list same is are =
    subst (AreNoted stamp (front_rows table whole)) (sym is)
    (subst (λ (cs : List ClassId). AreNoted stamp (front_rows table cs) notes) same are)

pub add_each-requires-clause-receiver : goal.add_each-requires-clause-receiver
add_each-requires-clause-receiver c =
    let set = c.args.numbered.now.set.now in
    let whole : List ClassId = superclasses_from set (Prog c.args.top) in
    record {
      there = c.requires.top;
      rows = c.requires.methods;
      below = subst (AreAbove set) (sym c.as_slice.ensures.value) c.mark_above.ensures.below;
      steps = subst (λ (t : List ℕ). AreSteps set t c.as_slice-5.result.now) (sym c.as_slice.ensures.value)
          (subst (AreSteps set _) (sym c.as_slice-5.ensures.value) c.mark_above.ensures.steps);
      noted = along c.args.methods.now.of_classes (c.args.number + 1) c.args.chain.now whole _ _ c.requires.chain
          c.as_slice-2.ensures.value c.note_chain.ensures.noted;
      places = c.requires.places;
      placed = along c.args.places.now.each (c.args.number + 1) c.args.chain.now whole _ _ c.requires.chain
          c.as_slice-3.ensures.value c.note_chain-2.ensures.noted;
      opening = along c.args.places.now.opening (c.args.number + 1) c.args.chain.now whole _ _ c.requires.chain
          c.as_slice-4.ensures.value c.note_chain-3.ensures.noted;
      free = c.requires.free;
      freed = along c.args.free.now.rows (c.args.number + 1) c.args.chain.now whole _ _ c.requires.chain
          c.as_slice-6.ensures.value c.note_chain-4.ensures.noted;
    }
