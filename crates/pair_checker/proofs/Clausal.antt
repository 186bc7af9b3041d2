-- What is found of each clause, of a pair that was read.
use Rattle.std.proofs.Common.{◌≡◌, List, Bool, Option, Result, map, subst}
use Rattle.std.specs.Prelude.{IfOk}
use Rattle.mark_core.specs.declared.system.System.{System}
use Rattle.keep_rules.specs.declared.rules.Rules.{Rules}
use Rattle.attribute_filter.specs.KeptAttributes.{filter_of}
use Rattle.attribute_filter.specs.declared.filter.AttributeFilter.{AttributeFilter}
use Rattle.mapping_file.specs.declared.mapping.Mapping.{Mapping}
use Rattle.witness_file.specs.declared.witness.MethodWitness.{MethodWitness}
use Rattle.new_names.specs.NewNames.{names_given}
use Rattle.new_names.specs.declared.class_names.ClassNames.{ClassNames}
use Rattle.rename_map.specs.Names.{AreFixed}
use Rattle.pair_clauses.specs.Closing.{lacking, lined_items, lost_seed, place_of_item}
use Rattle.pair_clauses.specs.Codes as coded
use Rattle.pair_clauses.specs.Finding.{FirstOf}
use Rattle.pair_clauses.specs.FixedNames.{fixed_by, fixed_fault, package_fault}
use Rattle.pair_clauses.specs.LineRanges.{range_fault}
use Rattle.pair_clauses.specs.Members as members
use Rattle.pair_clauses.specs.declared.place.Place.{Place}
use Rattle.pair_edits.specs.Edits.{ClassEditIllegal, stray_fault}
use Rattle.pair_edits.specs.Entries.{edited_class, edited_input}
use Rattle.pair_checker.specs.Clauses.{CodeDiffers, EditIllegal, FixedName, LineRange, MemberDiffers, NotClosed}
use Rattle.pair_checker.specs.Clauses.{Package, SeedLost, WitnessStray, given_names}
use Rattle.pair_checker.specs.bodies.Matching.{IsRead}
use Rattle.pair_checker.specs.declared.matching.Pair.{Pair}

module _ {E : Type 0} (pair : Pair) (rules : Rules) (is : IsRead pair rules) (r : Result (Option Place) E) where
  pub found_fixed : ((all : Rules) → AreFixed all pair.input.now pair.fixed.now
      → IfOk r (λ found. found ≡ fixed_fault (fixed_by all pair.input.now) pair.input.now pair.given.now))
      → IfOk r (FixedName pair.input.now pair.output.now pair.mapping.now rules)
  found_fixed h = subst
      (λ (g : List ClassNames). IfOk r (λ found. found ≡ fixed_fault (fixed_by rules pair.input.now) pair.input.now g))
      is.given (h rules is.fixed)

  pub found_range : IfOk r (λ found. found
      ≡ range_fault pair.names.now pair.input.now pair.given.now pair.output.now)
      → IfOk r (LineRange pair.input.now pair.output.now pair.mapping.now rules)
  found_range h = subst
      (λ (g : List ClassNames). IfOk r (λ found. found ≡ range_fault pair.mapping.now pair.input.now g pair.output.now))
      is.given
      (subst (λ (m : Mapping). IfOk r (λ found. found ≡ range_fault m pair.input.now pair.given.now pair.output.now))
      is.names h)

  pub found_package : IfOk r (λ found. found ≡ package_fault pair.input.now pair.given.now)
      → IfOk r (Package pair.input.now pair.output.now pair.mapping.now rules)
  found_package h = subst (λ (g : List ClassNames). IfOk r (λ found. found ≡ package_fault pair.input.now g)) is.given h

  pub found_seed : IfOk r (λ found. found ≡ place_of_item pair.input.now (lost_seed pair.sys.now pair.lined.now))
      → IfOk r (SeedLost pair.input.now pair.output.now pair.mapping.now rules)
  found_seed h = subst
      (λ (s : System). IfOk r (λ found. found
      ≡ place_of_item pair.input.now (lost_seed s (lined_items (given_names pair.mapping.now pair.input.now)))))
      is.sys
      (subst (λ (l : List Bool). IfOk r (λ found. found ≡ place_of_item pair.input.now (lost_seed pair.sys.now l)))
      is.lined h)

  pub found_open : IfOk r (λ found. found ≡ place_of_item pair.input.now (lacking pair.sys.now pair.lined.now))
      → IfOk r (NotClosed pair.input.now pair.output.now pair.mapping.now rules)
  found_open h = subst
      (λ (s : System). IfOk r (λ found. found
      ≡ place_of_item pair.input.now (lacking s (lined_items (given_names pair.mapping.now pair.input.now)))))
      is.sys
      (subst (λ (l : List Bool). IfOk r (λ found. found ≡ place_of_item pair.input.now (lacking pair.sys.now l)))
      is.lined h)

  pub found_member : IfOk r (members.MemberDiffers pair.names.now pair.filter.now pair.input.now pair.given.now
      pair.output.now)
      → IfOk r (MemberDiffers pair.input.now pair.output.now pair.mapping.now rules)
  found_member h = subst
      (λ (g : List ClassNames). IfOk r
      (members.MemberDiffers pair.mapping.now (filter_of rules) pair.input.now g pair.output.now))
      is.given
      (subst
      (λ (f : AttributeFilter). IfOk r
      (members.MemberDiffers pair.mapping.now f pair.input.now pair.given.now pair.output.now))
      is.filter
      (subst
      (λ (m : Mapping). IfOk r (members.MemberDiffers m pair.filter.now pair.input.now pair.given.now pair.output.now))
      is.names h))

  pub found_stray : ((mapping : Mapping) → pair.given.now ≡ map (names_given mapping) pair.input.now
      → IfOk r (λ found. found ≡ stray_fault mapping pair.input.now pair.witness.now))
      → IfOk r (WitnessStray pair.input.now pair.output.now pair.mapping.now rules pair.witness.now)
  found_stray h = h pair.mapping.now is.given

  pub found_illegal : IfOk r (FirstOf (ClassEditIllegal pair.entries.now) pair.input.now)
      → IfOk r (EditIllegal pair.input.now pair.output.now pair.mapping.now rules pair.witness.now)
  found_illegal h = subst
      (λ (entries : List MethodWitness). IfOk r (FirstOf (ClassEditIllegal entries) pair.input.now)) is.entries h

  pub found_code : IfOk r (coded.CodeDiffers pair.names.now pair.filter.now
      (map (edited_class pair.entries.now) pair.input.now) pair.given.now pair.output.now)
      → IfOk r (CodeDiffers pair.input.now pair.output.now pair.mapping.now rules pair.witness.now)
  found_code h = subst
      (λ (g : List ClassNames). IfOk r (coded.CodeDiffers pair.mapping.now (filter_of rules)
      (edited_input pair.witness.now pair.input.now) g pair.output.now))
      is.given
      (subst
      (λ (f : AttributeFilter). IfOk r (coded.CodeDiffers pair.mapping.now f
      (edited_input pair.witness.now pair.input.now) pair.given.now pair.output.now))
      is.filter
      (subst
      (λ (m : Mapping). IfOk r (coded.CodeDiffers m pair.filter.now
      (edited_input pair.witness.now pair.input.now) pair.given.now pair.output.now))
      is.names
      (subst
      (λ (entries : List MethodWitness). IfOk r (coded.CodeDiffers pair.names.now pair.filter.now
      (map (edited_class entries) pair.input.now) pair.given.now pair.output.now))
      is.entries h)))
