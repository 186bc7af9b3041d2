-- What stays of a heap from one state to the next: objects are only added, and keep their types (JVMS 2.5.3).
use Rattle.std.specs.Prelude.{◌≡◌, ℕ, List, Some, slice_get}
use Rattle.jvm_model.specs.Heap.{Object, type_of}
use Rattle.fit_laws.specs.Values.{is_whole}

-- an object of the same type, and a string only where it was one
pub record IsLike (o p : Object) : Type 0 where
  pub type : type_of p ≡ type_of o
  pub whole : is_whole p ≡ is_whole o

-- each object has its number still
abbrev pub Grows : List Object → List Object → Type 0
Grows heap later = (n : ℕ) (o : Object) → slice_get heap n ≡ Some o
    → (p : Object) × (slice_get later n ≡ Some p) × IsLike o p
