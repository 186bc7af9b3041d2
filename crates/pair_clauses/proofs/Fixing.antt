-- Names that stay by rules fix what the rules fix.
use Rattle.std.proofs.Common.{◌≡◌, ℕ, Bool, true, false, not, ◌||◌, List, Option, Some, None, sym, ap, ◌∙◌}
use Rattle.class_model.specs.declared.class.Class.{Class}
use Rattle.keep_rules.specs.declared.rules.Rules.{Rules}
use Rattle.fresh_names.specs.Fresh.{is_taken}
use Rattle.fresh_names.specs.Given.{stays_for}
use Rattle.fresh_names.specs.declared.taken.TakenNames.{TakenNames}
use Rattle.rename_map.specs.Fixed.{names_that_stay}
use Rattle.rename_map.specs.Names.{AreFixed}
use Rattle.pair_clauses.specs.FixedNames.{fixed_by}
use Rattle.pair_clauses.specs.bodies.FixedKinds.{fixed_among}

-- without obfuscation each name is fixed
each_fixed : (obfuscate taken : Bool) → obfuscate ≡ false → true ≡ (not obfuscate || taken)
each_fixed obfuscate taken h = sym (ap (λ (o : Bool). not o || taken) h)

-- and else those that are taken
taken_fixed : (obfuscate taken : Bool) → obfuscate ≡ true → taken ≡ (not obfuscate || taken)
taken_fixed obfuscate taken h = sym (ap (λ (o : Bool). not o || taken) h)

pub same_fixed : (rules : Rules) (input : List Class) (names : Option TakenNames) → AreFixed rules input names
    → fixed_among names ≡ fixed_by rules input
same_fixed rules input None h = λ i. record {
  class = λ name. each_fixed rules.obfuscate (is_taken (names_that_stay rules input).classes name) h i;
  field = λ name. each_fixed rules.obfuscate (is_taken (names_that_stay rules input).fields name) h i;
  method = λ descriptor name. each_fixed rules.obfuscate
      (is_taken (stays_for (names_that_stay rules input).methods descriptor) name) h i;
}
same_fixed rules input (Some names) h = λ i. record {
  class = λ name. (h.1.classes name
      ∙ taken_fixed rules.obfuscate (is_taken (names_that_stay rules input).classes name) h.0) i;
  field = λ name. (h.1.fields name
      ∙ taken_fixed rules.obfuscate (is_taken (names_that_stay rules input).fields name) h.0) i;
  method = λ descriptor name. (h.1.methods descriptor name
      ∙ taken_fixed rules.obfuscate (is_taken (stays_for (names_that_stay rules input).methods descriptor) name) h.0) i;
}
