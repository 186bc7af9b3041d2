-- The place of the first fault is there.
use Rattle.std.proofs.Common.{◌≡◌, ℕ, ◌+◌, ◌<◌, List, ◌++◌, length, Option, Some, None, IfSome}
use Rattle.std.proofs.Common.{refl, sym, subst, ◌∙◌, arith}
use Rattle.std.specs.List.{enumerate_from, filter_map, flat_map}
use Rattle.std.specs.Option.{option_map, option_or}
use Rattle.std.specs.Prelude.{slice_get}
use Rattle.std.proofs.lemmas.Option.{same_Some, slice_get_within}
use Rattle.class_model.specs.declared.class.Class.{Class}
use Rattle.class_model.specs.declared.class.Field.{Field}
use Rattle.class_model.specs.declared.class.Method.{Method}
use Rattle.class_pool.specs.Resolution.{first}
use Rattle.link_check.specs.declared.fault.ProfileFault.{ProfileFault}
use Rattle.link_check.specs.declared.fault.ProfileKind.{ProfileKind}
use Rattle.link_check.specs.Profile.{IsPlace, fault_at, faults_of, kinds_of_class, kinds_of_field, kinds_of_method}
use Rattle.link_check.specs.Profile.{least}
use Rattle.link_check.proofs.First.{first_append, first_flat, first_option, From, from_list}

-- ---- faults

at_place : (classes : List Class) (number : ℕ) (place : Option ℕ) (c : Class) (o : Option ProfileKind)
    (f : ProfileFault) → slice_get classes number ≡ Some c
    → IfSome place (λ n. n < length c.fields + length c.methods)
    → option_map (λ kind. record { class = number; member = place; kind = kind }) o ≡ Some f → IsPlace classes f
at_place classes number place c (Some kind) f stands within is =
    subst (IsPlace classes) (same_Some (record { class = number; member = place; kind = kind }) f is)
    (c, stands, within)
at_place classes number place c None f stands within is = absurd cc

of_field : (classes : List Class) (number : ℕ) (c : Class) (f : ProfileFault) → slice_get classes number ≡ Some c
    → From (λ p. fault_at number (Some p.0) (kinds_of_field classes number c p.0 p.1)) 0 c.fields f → IsPlace classes f
of_field classes number c f stands from =
    let below = slice_get_within c.fields from.at from.element from.stands in
    let e = from.counted in
    at_place classes number (Some from.number) c
    (least (kinds_of_field classes number c from.number from.element)) f stands (omega (arith, below, e)) from.gives

of_method : (classes : List Class) (number : ℕ) (c : Class) (f : ProfileFault) → slice_get classes number ≡ Some c
    → From (λ p. fault_at number (Some p.0) (kinds_of_method classes number c p.0 p.1)) (length c.fields) c.methods f
    → IsPlace classes f
of_method classes number c f stands from =
    let below = slice_get_within c.methods from.at from.element from.stands in
    let e = from.counted in
    at_place classes number (Some from.number) c
    (least (kinds_of_method classes number c from.number from.element)) f stands
    (omega (arith, below, e)) from.gives

or_place : {Y : Type 0} (P : Y → Type 0) (o rest : Option Y) (y : Y) → option_or o rest ≡ Some y
    → ((z : Y) → o ≡ Some z → P z) → (rest ≡ Some y → P y) → P y
or_place P (Some z) rest y is here there = subst P (same_Some z y is) (here z refl)
or_place P None rest y is here there = there is

in_class : (classes : List Class) (number : ℕ) (c : Class) (f : ProfileFault) → slice_get classes number ≡ Some c
    → first (faults_of classes number c) ≡ Some f → IsPlace classes f
in_class classes number c f stands is =
    let of_fields : ℕ × Field
    → Option ProfileFault = λ p. fault_at number (Some p.0) (kinds_of_field classes number c p.0 p.1) in
    let of_methods : ℕ × Method
    → Option ProfileFault = λ p. fault_at number (Some p.0) (kinds_of_method classes number c p.0 p.1) in
    let fields : List ProfileFault = filter_map of_fields (enumerate_from 0 c.fields) in
    let methods : List ProfileFault = filter_map of_methods (enumerate_from (length c.fields) c.methods) in
    let own : Option ProfileFault = fault_at number None (kinds_of_class classes number c) in
    or_place (IsPlace classes) own (first (fields ++ methods)) f (sym (first_option own (fields ++ methods)) ∙ is)
    (λ z e. at_place classes number None c (least (kinds_of_class classes number c)) z stands tt e)
    (λ rest. or_place (IsPlace classes) (first fields) (first methods) f (sym (first_append fields methods) ∙ rest)
    (λ z e. of_field classes number c z stands (from_list of_fields 0 c.fields z e))
    (λ e. of_method classes number c f stands (from_list of_methods (length c.fields) c.methods f e)))

pub first_place : (classes : List Class) (f : ProfileFault)
    → first (flat_map (λ p. faults_of classes p.0 p.1) (enumerate_from 0 classes)) ≡ Some f → IsPlace classes f
first_place classes f is =
    let faults : ℕ × Class → List ProfileFault = λ p. faults_of classes p.0 p.1 in
    let from : From (λ p. first (faults p)) 0 classes f = from_list (λ p. first (faults p)) 0 classes f
    (sym (first_flat faults (enumerate_from 0 classes)) ∙ is) in
    let e = from.counted in
    let same : from.at ≡ from.number = omega (arith, e) in
    in_class classes from.number from.element f
    (subst (λ (k : ℕ). slice_get classes k ≡ Some from.element) same from.stands) from.gives
