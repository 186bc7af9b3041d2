-- Of two sets no clause holds, or a first one does: each clause finds a place, or nothing.
use Rattle.std.proofs.Common.{◌≡◌, ◌⊎◌, inl, inr, ⊎_elim, ℕ, zero, suc, ◌<◌, List, Some, None, refl, sym}
use Rattle.std.proofs.Common.{ap, subst, ◌∙◌, arith}
use Rattle.std.proofs.lemmas.Bool.{cases_eq}
use Rattle.class_model.specs.declared.class.Class.{Class}
use Rattle.attribute_filter.specs.KeptAttributes.{filter_of}
use Rattle.keep_rules.specs.declared.rules.Rules.{Rules}
use Rattle.rule_system.specs.Required.{required}
use Rattle.mapping_file.specs.declared.mapping.Mapping.{Mapping}
use Rattle.witness_file.specs.declared.witness.Witness.{Witness}
use Rattle.pair_clauses.specs.Closing.{closed_fault, seed_fault}
use Rattle.pair_clauses.specs.FixedNames.{fixed_by, fixed_fault, package_fault}
use Rattle.pair_clauses.specs.LineRanges.{range_fault}
use Rattle.pair_clauses.specs.Shape.{shape_fault}
use Rattle.pair_clauses.specs.declared.place.Place.{Place}
use Rattle.pair_edits.specs.Edits.{stray_fault}
use Rattle.pair_edits.specs.Entries.{edited_input}
use Rattle.pair_edits.specs.Sound.{AreSound}
use Rattle.pair_checker.specs.Clauses.{Finds, given_names, number}
use Rattle.pair_checker.specs.PairOk.{IsFirst}
use Rattle.pair_checker.specs.declared.answer.Clause.{Clause}
use Rattle.pair_checker.specs.declared.answer.Clause.TheVariants as clause
use Rattle.answer_laws.proofs.Legal.{edits_searched}
use Rattle.answer_laws.proofs.Members.{codes_searched, members_searched}
use Rattle.answer_laws.proofs.Searching.{Searches}

-- ---- clauses by their numbers

abbrev clause_at : ℕ → Clause
clause_at zero = clause.OutputFormat
clause_at (suc zero) = clause.OutputProfile
clause_at (suc (suc zero)) = clause.MapShape
clause_at (suc (suc (suc zero))) = clause.FixedName
clause_at (suc (suc (suc (suc zero)))) = clause.Package
clause_at (suc (suc (suc (suc (suc zero))))) = clause.SeedLost
clause_at (suc (suc (suc (suc (suc (suc zero)))))) = clause.NotClosed
clause_at (suc (suc (suc (suc (suc (suc (suc zero))))))) = clause.MemberDiffers
clause_at (suc (suc (suc (suc (suc (suc (suc (suc zero)))))))) = clause.WitnessStray
clause_at (suc (suc (suc (suc (suc (suc (suc (suc (suc zero))))))))) = clause.EditIllegal
clause_at (suc (suc (suc (suc (suc (suc (suc (suc (suc (suc zero)))))))))) = clause.CodeDiffers
clause_at n = clause.LineRange

back : (c : Clause) → clause_at (number c) ≡ c
back clause.OutputFormat = refl
back clause.OutputProfile = refl
back clause.MapShape = refl
back clause.FixedName = refl
back clause.Package = refl
back clause.SeedLost = refl
back clause.NotClosed = refl
back clause.MemberDiffers = refl
back clause.WitnessStray = refl
back clause.EditIllegal = refl
back clause.CodeDiffers = refl
back clause.LineRange = refl

below : (c : Clause) → number c < 12
below clause.OutputFormat = omega arith
below clause.OutputProfile = omega arith
below clause.MapShape = omega arith
below clause.FixedName = omega arith
below clause.Package = omega arith
below clause.SeedLost = omega arith
below clause.NotClosed = omega arith
below clause.MemberDiffers = omega arith
below clause.WitnessStray = omega arith
below clause.EditIllegal = omega arith
below clause.CodeDiffers = omega arith
below clause.LineRange = omega arith

module _ (input output : List Class) (mapping : Mapping) (rules : Rules) (witness : Witness)
    (sound : AreSound input) where
  clause_searched : (c : Clause) → Searches (Finds input output mapping rules witness c)
  clause_searched clause.OutputFormat = (None, refl)
  clause_searched clause.OutputProfile = (None, refl)
  clause_searched clause.MapShape = (shape_fault input output mapping, refl)
  clause_searched clause.FixedName = (fixed_fault (fixed_by rules input) input (given_names mapping input), refl)
  clause_searched clause.Package = (package_fault input (given_names mapping input), refl)
  clause_searched clause.SeedLost = (seed_fault input (given_names mapping input) (required input rules), refl)
  clause_searched clause.NotClosed = (closed_fault input (given_names mapping input) (required input rules), refl)
  clause_searched clause.MemberDiffers =
      members_searched mapping (filter_of rules) input (given_names mapping input) output
  clause_searched clause.WitnessStray = (stray_fault mapping input witness, refl)
  clause_searched clause.EditIllegal = edits_searched witness input sound
  clause_searched clause.CodeDiffers =
      codes_searched mapping (filter_of rules) (edited_input witness input) (given_names mapping input) output
  clause_searched clause.LineRange = (range_fault mapping input (given_names mapping input) output, refl)

  -- ---- one clause after another

  abbrev NoneBelow : ℕ → Type 0
  NoneBelow n = (c : Clause) → number c < n → Finds input output mapping rules witness c None

  abbrev HasFirst : Type 0
  HasFirst = (c : Clause) × (place : Place) × IsFirst input output mapping rules witness c place

  one_more : (n : ℕ) → number (clause_at n) ≡ n → NoneBelow n → NoneBelow (suc n) ⊎ HasFirst
  one_more n numbered none = by (clause_searched (clause_at n))
    where
      by : Searches (Finds input output mapping rules witness (clause_at n)) → NoneBelow (suc n) ⊎ HasFirst
      by (None, found) = inl (λ c low. ⊎_elim
          (λ same. subst (λ (x : Clause). Finds input output mapping rules witness x None)
          (sym (ap clause_at same) ∙ back c) found)
          (λ other. none c (omega (arith, low, other))) (cases_eq (number c) n))
      by (Some place, found) = inr (
        clause_at n,
        place,
        record { holds = found; before = λ earlier low. none earlier (omega (arith, low, numbered)) },
      )

  then_more : (n : ℕ) → number (clause_at n) ≡ n → NoneBelow n ⊎ HasFirst → NoneBelow (suc n) ⊎ HasFirst
  then_more n numbered = ⊎_elim (one_more n numbered) inr

  first_clause : NoneBelow 12 ⊎ HasFirst
  first_clause =
      then_more 11 refl (then_more 10 refl (then_more 9 refl (then_more 8 refl (then_more 7 refl (then_more 6 refl
      (then_more 5 refl (then_more 4 refl (then_more 3 refl (then_more 2 refl (then_more 1 refl (then_more 0 refl
      (inl (λ c low. absurd (omega (arith, low)))))))))))))))

  pub first_or_none : ((c : Clause) → Finds input output mapping rules witness c None) ⊎ HasFirst
  first_or_none = ⊎_elim (λ none. inl (λ c. none c (below c))) inr first_clause
