-- Classes in the order of the paths of their files (the project's own: so they are written).
use Rattle.std.specs.Prelude.{◌≢◌, ℕ, List, [], ◌∷◌, ◌++◌, IsPermutation, codes}
use Rattle.std.specs.BTreeMap.{insert_entry}
use Rattle.std.specs.Cmp.Lexicographic.{slice_cmp}
use Rattle.std.specs.List.{AllByRecursion}
use Rattle.std.specs.Map.{values_of}
use Rattle.std.specs.Ordering.{nat_cmp}
use Rattle.class_model.specs.declared.class.Class.{Class}

-- the path of a class's file below the directory of all classes (JLS 7.2.1)
abbrev pub class_path : Class → List ℕ
class_path c = c.name ++ codes ".class"

-- classes at their paths, in the order of the bytes of these, with others put among them one after the other
abbrev pub put_at_paths : List (List ℕ × Class) → List Class → List (List ℕ × Class)
put_at_paths entries [] = entries
put_at_paths entries (c ∷ cs) = put_at_paths (insert_entry (slice_cmp nat_cmp) entries (class_path c) c) cs

-- classes in the order of their paths
abbrev pub in_order : List Class → List Class
in_order classes = values_of (put_at_paths [] classes)

-- ---- the law

-- no two classes have one name (JVMS 5.3.5)
abbrev pub AreApart : List Class → Type 0
AreApart [] = Unit {0}
AreApart (c ∷ cs) = AllByRecursion (λ (d : Class). c.name ≢ d.name) cs × AreApart cs

-- then each of them stands there once, and nothing else
abbrev pub OrderKeepsAll : Type 0
OrderKeepsAll = (classes : List Class) → AreApart classes → IsPermutation classes (in_order classes)
