-- What a value refers to (JVMS 2.4; only the proof of the bodies needs it).
use Rattle.std.specs.Prelude.{◌≡◌, Bool, true, false}
use Rattle.jvm_model.specs.Value.{Int, Lit, Long, Null, Ref, Value}
use Rattle.run_heap.specs.declared.pointed.Pointed.{Pointed}
use Rattle.run_heap.specs.declared.pointed.Pointed.TheVariants as pointed

-- the value is neither null nor a reference to an object of the heap
abbrev pub is_other : Value → Bool
is_other (Int z) = true
is_other (Long z) = true
is_other Null = false
is_other (Ref n) = false
is_other (Lit units) = true

-- the value refers to that
abbrev pub IsPointed : Pointed → Value → Type 0
IsPointed pointed.Null v = v ≡ Null
IsPointed (pointed.Object n) v = v ≡ Ref n
IsPointed pointed.Other v = is_other v ≡ true
