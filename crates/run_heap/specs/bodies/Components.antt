-- A component of an array that an instruction works with (JVMS 6.5.iaload and the like; only the proof of the bodies
-- needs it).
use Rattle.std.specs.Prelude.{ℤ, List, Some, length, slice_get}
use Rattle.jvm_model.specs.Answers.{Answer, Gives, of_some}
use Rattle.jvm_model.specs.Arrays.{at_index}
use Rattle.jvm_model.specs.Heap.{World}
use Rattle.jvm_model.specs.Value.{Value}

-- the component with an index
abbrev pub component_in : World → List Value → ℤ → Answer
component_in w values i =
    at_index i (length values) (λ k. of_some (λ v. Gives (Some v) w) (slice_get values k))
