-- The first fault of a set stands at a place of it.
use Rattle.std.proofs.Common.{◌≡◌, ℕ, ◌+◌, ◌<◌, List, length}
use Rattle.std.proofs.Common.{slice_get, Option, Some, None, Err, refl, subst, ◌∙◌, arith}
use Rattle.std.specs.Prelude.{IfSome}
use Rattle.std.specs.List.{All, enumerate_from, filter_map, flat_map}
use Rattle.std.specs.Option.{option_map}
use Rattle.std.proofs.lemmas.List.Elements.{All-append}
use Rattle.class_model.specs.declared.class.Class.{Class}
use Rattle.class_model.specs.declared.class.Field.{Field}
use Rattle.class_model.specs.declared.class.Method.{Method}
use Rattle.class_pool.specs.Resolution.{first}
use Rattle.link_check.specs.Profile.{IsPlace, fault_at, faults_of, kinds_of_class, kinds_of_field, kinds_of_method}
use Rattle.link_check.specs.Profile.{least, links_checked}
use Rattle.link_check.specs.declared.fault.ProfileFault.{ProfileFault}
use Rattle.link_check.specs.declared.fault.ProfileKind.{ProfileKind}
use Rattle.shrink_command.proofs.Listed.{all_given, each_given, first_of, put}

-- ---- places

fault_placed : (classes : List Class) (number : ℕ) (place : Option ℕ) (c : Class) (o : Option ProfileKind)
    → slice_get classes number ≡ Some c
    → IfSome place (λ n. n < length c.fields + length c.methods)
    → IfSome (option_map (λ kind. record { class = number; member = place; kind = kind }) o) (IsPlace classes)
fault_placed classes number place c (Some kind) is within = (c, is, within)
fault_placed classes number place c None is within = tt

faults_placed : (classes : List Class) (number : ℕ) (c : Class) → slice_get classes number ≡ Some c
    → All (IsPlace classes) (faults_of classes number c)
faults_placed classes number c is =
    let of_field : ℕ × Field
    → Option ProfileFault = λ p. fault_at number (Some p.0) (kinds_of_field classes number c p.0 p.1) in
    let of_method : ℕ × Method
    → Option ProfileFault = λ p. fault_at number (Some p.0) (kinds_of_method classes number c p.0 p.1) in
    put (IsPlace classes) (fault_at number None (kinds_of_class classes number c)) _
    (fault_placed classes number None c (least (kinds_of_class classes number c)) is tt)
    (All-append (IsPlace classes) (filter_map of_field (enumerate_from 0 c.fields))
    (filter_map of_method (enumerate_from (length c.fields) c.methods))
    (each_given (IsPlace classes) of_field 0 c.fields
    (λ i f lt. fault_placed classes number (Some (0 + i)) c (least (kinds_of_field classes number c (0 + i) f)) is
    (omega (arith, lt))))
    (each_given (IsPlace classes) of_method (length c.fields) c.methods
    (λ i m lt. fault_placed classes number (Some (length c.fields + i)) c
    (least (kinds_of_method classes number c (length c.fields + i) m)) is (omega (arith, lt)))))

abbrev faults_of_all : List Class → List ProfileFault
faults_of_all classes = flat_map (λ p. faults_of classes p.0 p.1) (enumerate_from 0 classes)

all_placed : (classes : List Class) → All (IsPlace classes) (faults_of_all classes)
all_placed classes =
    all_given (IsPlace classes) (λ p. faults_of classes p.0 p.1) 0 classes
    (λ i c is. (let same : i ≡ 0 + i = omega arith in
    subst (λ (k : ℕ). All (IsPlace classes) (faults_of classes k c)) same (faults_placed classes i c is)))

found_by : (classes : List Class) (f : ProfileFault) (o : Option ProfileFault) → first (faults_of_all classes) ≡ o
    → links_checked classes ≡ Err f
    → first (faults_of_all classes) ≡ Some f
found_by classes f (Some g) is h = let k = rw is at h in is ∙ cc
found_by classes f None is h = let k = rw is at h in absurd cc

pub place_of : (classes : List Class) (f : ProfileFault) → links_checked classes ≡ Err f → IsPlace classes f
place_of classes f h =
    first_of (IsPlace classes) (faults_of_all classes) f (found_by classes f (first (faults_of_all classes)) refl h)
    (all_placed classes)
