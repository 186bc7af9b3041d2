-- A set that files are taken as is a taken set, and so is what is left of it.
use Rattle.std.proofs.Common.{◌≡◌, ◌<◌, ℕ, zero, suc, List, [], ◌∷◌, Some, slice_get, sym, subst}
use Rattle.std.specs.List.{AllByRecursion}
use Rattle.class_laws.specs.SpellingLaws.{IsWritable}
use Rattle.class_model.specs.WellFormed.{IsWellFormed}
use Rattle.class_model.specs.declared.class.Class.{Class}
use Rattle.class_pool.specs.Count.{item_count}
use Rattle.class_pool.specs.Supertypes.{NoCycle}
use Rattle.set_read.proofs.Few.{ascending_kept, few_items}
use Rattle.set_read.proofs.Writable.{accepted_are_writable}
use Rattle.removal_laws.proofs.RemovalAccepted.Whole.{files_built, taken_left, typed_left}
use Rattle.removal_laws.specs.AcceptedSets.Laws.{AcceptedAreTaken, LeftIsAccepted, files_left_and_filtered}
use Rattle.removal_laws.proofs.AcceptedSets.Reach.{acyclic_ranks}

formed_at : (cs : List Class) → AllByRecursion IsWritable cs → (n : ℕ) (c : Class) → slice_get cs n ≡ Some c
    → IsWellFormed c
formed_at [] h n c is = absurd cc
formed_at (x ∷ cs) h zero c is = let e : x ≡ c = cc in subst IsWellFormed e h.0.well_formed
formed_at (x ∷ cs) h (suc n) c is = formed_at cs h.1 n c is

pub are_taken : AcceptedAreTaken
are_taken files classes readable h = record {
  files = h.named;
  ascend = ascending_kept files h.named h.read readable.ascending;
  built = (h.first, subst NoCycle h.are h.acyclic, h.are);
  few = subst (λ (cs : List Class). item_count cs < 4294967295) (sym h.are)
      (few_items files h.named 4294967295 h.read readable.short);
  ranks = acyclic_ranks classes h.acyclic;
  formed = formed_at classes (accepted_are_writable files classes h);
  linked = h.linked;
}

pub left_accepted : LeftIsAccepted
unfolding are_taken
left_accepted files classes rules marks filter readable accepted closed same utf8 written read =
    let taken = are_taken files classes readable accepted in
    let built = files_built classes rules marks filter taken closed utf8 in
    record {
      named = files_left_and_filtered filter accepted.named marks;
      read = read;
      are = built.2;
      first = built.0;
      acyclic = subst NoCycle (sym built.2) built.1;
      linked = (taken_left classes rules marks filter taken closed same utf8).linked;
      typed = typed_left classes rules marks filter taken accepted.typed closed;
    }
