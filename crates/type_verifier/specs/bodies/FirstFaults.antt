-- The first fault of a method, a class and a set, one after another (only the proof of the bodies needs it).
use Rattle.std.specs.Prelude.{ℕ, List, Option, Some, None, Result, Ok, Err}
use Rattle.std.specs.List.{enumerate_from, filter_map, flat_map}
use Rattle.std.specs.Option.{option_map_or}
use Rattle.class_model.specs.declared.class.Class.{Class}
use Rattle.class_model.specs.declared.class.Method.{Method}
use Rattle.class_pool.specs.Resolution.{first}
use Rattle.type_verifier.specs.declared.fault.TypeFault.{TypeFault}
use Rattle.type_verifier.specs.Verified.{environment}
use Rattle.type_verifier.specs.bodies.Walked.{code_checked}

-- the first fault of a method's own code, if it has one
abbrev pub method_checked : List Class → ℕ → Class → ℕ → Method → Result (Unit {0}) TypeFault
method_checked classes own class number method = option_map_or
    (λ code. code_checked (environment classes own class number method code)) method.code (Ok tt)

-- a fault, where there is one
abbrev pub fault_of : Result (Unit {0}) TypeFault → Option TypeFault
fault_of (Ok _) = None
fault_of (Err fault) = Some fault

-- the faults of the methods of a class, in their order
abbrev pub faults_of : List Class → ℕ → Class → List TypeFault
faults_of classes own c = filter_map
    (λ p. fault_of (method_checked classes own c p.0 p.1)) (enumerate_from 0 c.methods)

-- the first fault of a set, class after class in order
abbrev pub fault_of_set : List Class → Option TypeFault
fault_of_set classes = first (flat_map (λ p. faults_of classes p.0 p.1) (enumerate_from 0 classes))
