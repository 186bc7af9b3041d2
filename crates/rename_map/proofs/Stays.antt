-- Names that are reserved stay, whatever the rules are.
use Rattle.std.proofs.Common.{◌≡◌, ℕ, true, List, ◌++◌, ◌∙◌}
use Rattle.std.proofs.lemmas.Bool.{or_right}
use Rattle.class_model.specs.declared.class.Class.{Class}
use Rattle.keep_match.specs.Fixed.{fixed_rows}
use Rattle.keep_match.specs.declared.fixed.Fixes.TheVariants as fixes
use Rattle.keep_rules.specs.declared.rules.Rules.{Rules}
use Rattle.fresh_names.specs.Fresh.{is_taken}
use Rattle.fresh_names.specs.Reserved.{reserved}
use Rattle.fresh_names.specs.declared.taken.Named.TheVariants as named
use Rattle.fresh_names.proofs.Reserved.{taken_parts}
use Rattle.rename_map.specs.declared.gathering.Chosen.TheVariants as choose
use Rattle.fresh_names.specs.Given.{of_type, stays_for}
use Rattle.rename_map.specs.Fixed.{methods_of_each, names_that_stay, of_each}

behind : (front names : List (List ℕ)) (a : List ℕ) → is_taken names a ≡ true → is_taken (front ++ names) a ≡ true
behind front names a h = taken_parts front names a ∙ or_right (is_taken front a) (is_taken names a) h

pub reserved_class_stays : (rules : Rules) (classes : List Class) (a : List ℕ)
    → is_taken (reserved named.Class) a ≡ true → is_taken (names_that_stay rules classes).classes a ≡ true
reserved_class_stays rules classes a h =
    let own = of_each choose.Class (fixed_rows fixes.Classes rules classes) classes in
    let described = of_each choose.Described (fixed_rows fixes.DescriptorClasses rules classes) classes in
    behind own (described ++ reserved named.Class) a (behind described (reserved named.Class) a h)

pub reserved_method_stays : (rules : Rules) (classes : List Class) (a : List ℕ)
    → is_taken (reserved named.Method) a ≡ true → (d : List ℕ)
    → is_taken (stays_for (names_that_stay rules classes).methods d) a ≡ true
reserved_method_stays rules classes a h d =
    behind (of_type d (methods_of_each (fixed_rows fixes.Members rules classes) classes)) (reserved named.Method) a h
