-- A table of the names of classes (the project's own; only the code's contracts need it).
use Rattle.std.specs.Prelude.{◌≡◌, ℕ, List}
use Rattle.std.specs.BTreeSet as sorted
use Rattle.std.specs.Cmp.Lexicographic.{slice_cmp}
use Rattle.std.specs.List.{list_any}
use Rattle.std.specs.Ordering.{nat_cmp}
use Rattle.jv_base.specs.Names.{is_text}
use Rattle.mapping_file.specs.declared.mapping.MapClass.{MapClass}
use Rattle.mapping_file.specs.declared.names.ClassNames.{ClassNames}

-- the table has the old and the new names of the classes, and no others
pub record TellsNames (table : ClassNames) (classes : List MapClass) : Type 0 where
  pub old : (name : List ℕ)
      → sorted.contains (slice_cmp nat_cmp) table.before name ≡ list_any (λ c. is_text name c.old) classes
  pub new : (name : List ℕ)
      → sorted.contains (slice_cmp nat_cmp) table.after name ≡ list_any (λ c. is_text name c.new) classes
