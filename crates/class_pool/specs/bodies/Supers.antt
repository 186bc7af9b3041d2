-- Supertypes by lists: parts that only the proofs of bodies need (the project's own: steps of a call).
use Rattle.std.specs.Prelude.{Bool, ◌||◌, List, []}
use Rattle.std.specs.List.{list_any}
use Rattle.class_model.specs.declared.class.Class.{Class}
use Rattle.class_pool.specs.declared.id.ClassId.{ClassId}
use Rattle.class_pool.specs.Walk.{each_once, own_superinterfaces, same_class}

-- a class is another one or has it as a superinterface itself (only the proof of such a search needs it)
abbrev pub is_self_or_own : List Class → ClassId → ClassId → Bool
is_self_or_own classes b a = same_class b a || list_any (same_class b) (each_once [] (own_superinterfaces classes a))
