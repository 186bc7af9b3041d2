-- Arrays of several dimensions, level by level (JVMS 6.5.multianewarray; only the proof of the bodies needs it).
use Rattle.std.specs.Prelude.{◌≡◌, ◌++◌, ℕ, Bool, true, false, List, [], ◌∷◌, length, map}
use Rattle.jvm_model.specs.Arrays.{arrays_from}
use Rattle.run_heap.specs.Worlds.{object_of}
use Rattle.run_heap.specs.declared.dimensions.Level.{Level}
use Rattle.run_heap.specs.declared.world.Object.{Object}

-- there are further sizes
abbrev pub are_more : List ℕ → Bool
are_more [] = false
are_more (n ∷ ns) = true

-- one level was made, and what is to be made of further sizes is the same
abbrev pub GoesOn : (before after : List Object) → (old new : Level) → ℕ → Bool → Type 0
GoesOn before after old new size has_more = (ns : List ℕ) → are_more ns ≡ has_more
    → map object_of after ++ arrays_from (length after) new.count new.ty ns
    ≡ map object_of before ++ arrays_from (length before) old.count old.ty (size ∷ ns)
