-- Names that nothing else gets (the project's own, but for those of initialisation methods).
use Rattle.std.specs.Prelude.{ℕ, Bool, true, false, List, [], ◌∷◌, ◌++◌, map, codes}
use Rattle.std.specs.Bool.{beq}
use Rattle.std.specs.List.{filter, flat_map}
use Rattle.lib_table.specs.Library.{LibraryClass, LibraryMember, library}
use Rattle.fresh_names.specs.declared.taken.Named.{Named}
use Rattle.fresh_names.specs.declared.taken.Named.TheVariants as named

-- words that stand for other types in Java source, so that no class has one as its whole name (JLS 3.9; that they name
-- no class is the project's own)
unfoldable pub type_words : List (List ℕ)
type_words = codes "boolean" ∷ (codes "byte" ∷ (codes "char" ∷ (codes "short" ∷ (codes "int" ∷ (codes "long"
    ∷ (codes "float" ∷ (codes "double" ∷ (codes "void" ∷ []))))))))

-- the names of the library's methods, or with false of its fields (the project's own: what is named so may override or
-- hide it)
unfoldable pub library_names : Bool → List (List ℕ)
library_names method = flat_map
    (λ (c : LibraryClass). map (λ (m : LibraryMember). m.name) (filter (λ m. beq m.is_method method) c.members)) library

-- what none of these gets as its new name in any case (JVMS 2.9; that the library's names are skipped is the project's
-- own)
abbrev pub reserved : Named → List (List ℕ)
reserved named.Class = type_words
reserved named.Field = library_names false
reserved named.Method = (codes "<init>" ∷ (codes "<clinit>" ∷ [])) ++ library_names true
