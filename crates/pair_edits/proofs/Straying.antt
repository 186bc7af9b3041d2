-- Entries gone over one by one.
use Rattle.std.proofs.Common.{◌≡◌, ◌+◌, ℕ, Bool, false, List, [], ◌∷◌, ◌++◌, drop, take, slice_get, Option}
use Rattle.std.proofs.Common.{Some, sym, ap, ◌∙◌, subst}
use Rattle.std.specs.Option.{option_or}
use Rattle.jv_base.proofs.Lists.{take_got}
use Rattle.class_model.specs.declared.class.Class.{Class}
use Rattle.mapping_file.specs.declared.mapping.Mapping.{Mapping}
use Rattle.witness_file.specs.declared.witness.MethodWitness.{MethodWitness}
use Rattle.pair_clauses.specs.Places.{place_if}
use Rattle.pair_clauses.specs.declared.place.Place.{Place}
use Rattle.pair_clauses.proofs.Zipped.{drop_some}
use Rattle.pair_edits.specs.Edits.{entries_fault, entry_place, is_stray}
use Rattle.pair_edits.specs.bodies.Tables.{HasEntries, MethodKey}

module _ (xs : List MethodWitness) (i : ℕ) (x : MethodWitness) (at : slice_get xs i ≡ Some x) where
  -- the keys with one entry more
  pub more_seen : (keys : List MethodKey) → HasEntries keys (take i xs ++ x ∷ []) → HasEntries keys (take (i + 1) xs)
  more_seen keys has = subst (HasEntries keys) (sym (take_got xs i x at)) has

  -- an entry that isn't stray is passed
  pub fault_on : (mapping : Mapping) (input : List Class) (all : Option Place)
      → is_stray mapping input (take i xs) x ≡ false
      → entries_fault mapping input (take i xs) (drop i xs) ≡ all
      → entries_fault mapping input (take (i + 1) xs) (drop (i + 1) xs) ≡ all
  fault_on mapping input all stays so_far =
      ap (λ (before : List MethodWitness). entries_fault mapping input before (drop (i + 1) xs)) (take_got xs i x at)
      ∙ sym (ap (λ (b : Bool). option_or (place_if b (entry_place x))
      (entries_fault mapping input (take i xs ++ x ∷ []) (drop (i + 1) xs))) stays)
      ∙ sym (ap (entries_fault mapping input (take i xs)) (drop_some xs i x at))
      ∙ so_far
