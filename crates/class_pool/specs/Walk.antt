-- The supertypes of a class as lists (JLS 4.10.2; JVMS 5.4.3.2, 5.4.3.3). A list has a bound that no set reaches, so
-- that walks in two sets can be compared; in a set without cycles nothing stands further up.
use Rattle.std.specs.Prelude.{ℕ, zero, suc, ◌^◌, Bool, false, ◌==◌, if◌then◌else◌, List, [], ◌∷◌, ◌++◌, Option}
use Rattle.std.specs.List.{flat_map, list_any}
use Rattle.std.specs.Option.{option_map_or}
use Rattle.class_model.specs.declared.class.Class.{Class}
use Rattle.class_pool.specs.declared.id.ClassId.{ClassId}
use Rattle.class_pool.specs.declared.id.ClassId.TheVariants.{Prog, Lib}
use Rattle.class_pool.specs.Hierarchy.{superclass, interfaces}

-- more than any set has classes, those of the library with them (the project's own: walks in two sets can be compared)
abbrev pub highest : ℕ
highest = 2 ^ 33

-- two classes are one (the project's own: a class is told by its number)
abbrev pub same_class : ClassId → ClassId → Bool
same_class (Prog m) (Prog n) = m == n
same_class (Lib m) (Lib n) = m == n
same_class _ _ = false

-- the classes of a list that are none of those seen, each once, where it stands first
-- (the project's own: what is met twice counts once)
unfoldable pub each_once : List ClassId → List ClassId → List ClassId
each_once seen [] = []
each_once seen (c ∷ cs) = if list_any (same_class c) seen then each_once seen cs else c ∷ each_once (c ∷ seen) cs

-- a class, its superclass, the superclass of that and so on, n classes at most
-- (JVMS 5.4.3.2, 5.4.3.3; the bound is the project's own)
unfoldable pub upwards : ℕ → List Class → ClassId → List ClassId
upwards zero classes c = []
upwards (suc n) classes c = c ∷ option_map_or (upwards n classes) (superclass classes c) []

-- interfaces, each followed by its own superinterfaces, n levels of them at most
-- (JVMS 5.4.3.2, 5.4.3.3; the bound is the project's own)
unfoldable pub walked : ℕ → List Class → List ClassId → List ClassId
walked zero classes is = []
walked (suc n) classes is = flat_map (λ i. i ∷ walked n classes (interfaces classes i)) is

-- a class and its superclasses, the nearest first (JVMS 5.4.3.2, 5.4.3.3)
abbrev pub superclasses_from : List Class → ClassId → List ClassId
superclasses_from classes c = upwards highest classes c

-- from a class, if there is one, upwards: the class and its superclasses, the nearest first (JVMS 5.4.3.2, 5.4.3.3)
abbrev pub superclasses_up : List Class → Option ClassId → List ClassId
superclasses_up classes next = option_map_or (superclasses_from classes) next []

-- the direct superinterfaces of a class in their order, each followed by its own superinterfaces; one stands as often
-- as it is met (JVMS 5.4.3.2)
abbrev pub own_superinterfaces : List Class → ClassId → List ClassId
own_superinterfaces classes c = walked highest classes (interfaces classes c)

-- all superinterfaces, as often as each is met: its own, then those of its superclass, and so on (JVMS 5.4.3.3)
abbrev pub superinterfaces : List Class → ClassId → List ClassId
superinterfaces classes c = flat_map (own_superinterfaces classes) (superclasses_from classes c)

-- all supertypes but the class itself, each once: superclasses upwards, then superinterfaces as they are met
-- (JLS 4.10.2; their order is the project's own)
abbrev pub supers : List Class → ClassId → List ClassId
supers classes c = each_once (c ∷ []) (superclasses_from classes c ++ superinterfaces classes c)
