-- What rules ask for is there (only the proof of system_of needs it).
use Rattle.std.specs.Prelude.{◌<◌, ℕ, List, [], length, slice_index_or}
use Rattle.std.specs.List.{All}
use Rattle.class_model.specs.declared.class.Class.{Class}
use Rattle.class_pool.specs.Found.{rows_in}
use Rattle.class_pool.specs.declared.id.ClassId.TheVariants.{Prog}

-- these are numbers of members, for each class of its own
abbrev pub AreMembers : List Class → List (List ℕ) → Type 0
AreMembers classes members = (n : ℕ) → All (λ k. k < length (rows_in classes (Prog n))) (slice_index_or members n [])
