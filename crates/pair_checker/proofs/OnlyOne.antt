-- The same pair has one answer.
use Rattle.std.proofs.Common.{◌≡◌, ◌<◌, ℕ, List, slice_get, Some, None, ⊎_elim, sym, ap, subst, ◌∙◌}
use Rattle.std.proofs.Common.{arith}
use Rattle.std.proofs.lemmas.Bool.{cases_lt}
use Rattle.std.proofs.lemmas.Option.{same_Some}
use Rattle.class_model.specs.declared.class.Class.{Class}
use Rattle.class_model.specs.declared.class.Method.{Method}
use Rattle.set_read.specs.declared.fault.RuleFault.{RuleFault}
use Rattle.set_read.specs.declared.fault.SetFault.TheVariants.{Format, Rule}
use Rattle.set_read.proofs.OneSet.{not_both, one_fault, one_set}
use Rattle.keep_rules.specs.declared.rules.Rules.{Rules}
use Rattle.attribute_filter.specs.KeptAttributes.{filter_of}
use Rattle.mapping_file.specs.declared.mapping.Mapping.{Mapping}
use Rattle.witness_file.specs.declared.witness.Witness.{Witness}
use Rattle.pair_clauses.specs.Finding.{FindsUnless, IsOne}
use Rattle.pair_clauses.specs.Places.{place_of_method}
use Rattle.pair_clauses.specs.declared.place.Place.{Place}
use Rattle.pair_clauses.proofs.OneFinding.{one_equal, one_first, one_unless}
use Rattle.pair_clauses.proofs.OnePlace.{one_code_place, one_member_place}
use Rattle.pair_edits.specs.Edits.{AreLegalOn, ClassEditIllegal, EditIllegal}
use Rattle.pair_edits.specs.Entries.{edited_input, steps_of}
use Rattle.pair_checker.specs.Clauses.{Finds, given_names, number}
use Rattle.pair_checker.specs.OneAnswer.{IsOneNo, NotBoth}
use Rattle.pair_checker.specs.PairOk.{IsFirst, by_clause, by_format, by_profile}
use Rattle.pair_checker.specs.bodies.Matching.{no_at}
use Rattle.pair_checker.specs.declared.answer.Clause.{Clause}
use Rattle.pair_checker.specs.declared.answer.Clause.TheVariants as clause
use Rattle.pair_checker.proofs.InOrder.{order, stands_at}
use Rattle.pair_checker.proofs.Reading.{profile_no}

-- two clauses with one number are the same
same_clause : (c d : Clause) → number c ≡ number d → c ≡ d
same_clause c d h = same_Some c d (sym (stands_at c) ∙ ap (slice_get order) h ∙ stands_at d)

-- one first edit at most isn't legal
one_illegal : (witness : Witness) (input : List Class) → IsOne (EditIllegal witness input)
one_illegal witness input = one_first (ClassEditIllegal witness.methods)
    (λ c. one_first (λ (m : Method). FindsUnless (AreLegalOn (steps_of witness.methods c m) m.code) (place_of_method c m))
    (λ m. one_unless (AreLegalOn (steps_of witness.methods c m) m.code) (place_of_method c m)) c.methods) input

module _ (input output : List Class) (mapping : Mapping) (rules : Rules) (witness : Witness) where
  -- a clause has one first place at most
  one_place : (c : Clause) → IsOne (Finds input output mapping rules witness c)
  one_place clause.OutputFormat = one_equal _
  one_place clause.OutputProfile = one_equal _
  one_place clause.MapShape = one_equal _
  one_place clause.FixedName = one_equal _
  one_place clause.Package = one_equal _
  one_place clause.SeedLost = one_equal _
  one_place clause.NotClosed = one_equal _
  one_place clause.MemberDiffers =
      one_member_place mapping (filter_of rules) input (given_names mapping input) output
  one_place clause.WitnessStray = one_equal _
  one_place clause.EditIllegal = one_illegal witness input
  one_place clause.CodeDiffers =
      one_code_place mapping (filter_of rules) (edited_input witness input) (given_names mapping input) output
  one_place clause.LineRange = one_equal _

  -- a clause that holds isn't one that finds nothing
  not_none : (c : Clause) (p : Place) → Finds input output mapping rules witness c (Some p)
      → Finds input output mapping rules witness c None → ⊥
  not_none c p holds none = let e = one_place c (Some p) None holds none in absurd cc

  -- of two that are the first neither comes before the other
  same_first : (c d : Clause) (p q : Place) → IsFirst input output mapping rules witness c p
      → IsFirst input output mapping rules witness d q → c ≡ d
  same_first c d p q f g =
      ⊎_elim (λ (low : number c < number d). absurd (not_none c p f.holds (g.before c low)))
      (λ le. ⊎_elim (λ (low : number d < number c). absurd (not_none d q g.holds (f.before d low)))
      (λ ge. same_clause c d (omega (arith, le, ge)))
      (cases_lt (number d) (number c))) (cases_lt (number c) (number d))

  same_place : (c d : Clause) (p q : Place) → c ≡ d → Finds input output mapping rules witness c (Some p)
      → Finds input output mapping rules witness d (Some q) → Some p ≡ Some q
  same_place c d p q is h k =
      one_place d (Some p) (Some q) (subst (λ (x : Clause). Finds input output mapping rules witness x (Some p)) is h) k

  same_at : (c d : Clause) (p q : Place) → IsFirst input output mapping rules witness c p
      → IsFirst input output mapping rules witness d q → no_at c p ≡ no_at d q
  same_at c d p q f g =
      let is = same_first c d p q f g in
      let there : p ≡ q = same_Some p q (same_place c d p q is f.holds g.holds) in
      ap (λ (x : Clause). no_at x p) is ∙ ap (no_at d) there

-- ---- files

same_rule : (a b : RuleFault) → Rule a ≡ Rule b → a ≡ b
same_rule a b h = cc

not_alike : (path : List ℕ) (fault : _) (told : RuleFault) → Format path fault ≡ Rule told → ⊥
not_alike path fault told h = absurd cc

-- ---- the laws

pub taken_or_refused : NotBoth
taken_or_refused input files mapping rules witness answer ok (by_format f is) =
    not_both files ok.output (Format f.0 f.1) ok.accepted f.2
taken_or_refused input files mapping rules witness answer ok (by_profile fault f is) =
    not_both files ok.output (Rule fault) ok.accepted f
taken_or_refused input files mapping rules witness answer ok (by_clause output accepted c place first is) =
    not_none input ok.output mapping rules witness c place
    (subst (λ (o : List Class). Finds input o mapping rules witness c (Some place))
    (one_set files output ok.output accepted ok.accepted) first.holds) (ok.none c)

pub one_answer : IsOneNo
one_answer input files mapping rules witness answer other (by_format f is) (by_format g is2) = is ∙ sym is2
one_answer input files mapping rules witness answer other (by_format f is) (by_profile fault g is2) =
    absurd (not_alike f.0 f.1 fault (one_fault files (Format f.0 f.1) (Rule fault) f.2 g))
one_answer input files mapping rules witness answer other (by_format f is)
    (by_clause output accepted c place first is2) =
    absurd (not_both files output (Format f.0 f.1) accepted f.2)
one_answer input files mapping rules witness answer other (by_profile fault f is) (by_format g is2) =
    absurd (not_alike g.0 g.1 fault (one_fault files (Format g.0 g.1) (Rule fault) g.2 f))
one_answer input files mapping rules witness answer other (by_profile fault f is) (by_profile told g is2) =
    is ∙ ap profile_no (same_rule fault told (one_fault files (Rule fault) (Rule told) f g)) ∙ sym is2
one_answer input files mapping rules witness answer other (by_profile fault f is)
    (by_clause output accepted c place first is2) = absurd (not_both files output (Rule fault) accepted f)
one_answer input files mapping rules witness answer other (by_clause output accepted c place first is)
    (by_format g is2) =
    absurd (not_both files output (Format g.0 g.1) accepted g.2)
one_answer input files mapping rules witness answer other (by_clause output accepted c place first is)
    (by_profile told g is2) = absurd (not_both files output (Rule told) accepted g)
one_answer input files mapping rules witness answer other (by_clause output accepted c place first is)
    (by_clause output2 accepted2 d place2 first2 is2) =
    is ∙ same_at input output2 mapping rules witness c d place place2
    (subst (λ (o : List Class). IsFirst input o mapping rules witness c place)
    (one_set files output output2 accepted accepted2) first) first2 ∙ sym is2
