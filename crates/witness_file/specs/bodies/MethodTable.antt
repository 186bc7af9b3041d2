-- A table of methods (the project's own; only the code's contracts need it).
use Rattle.std.specs.Prelude.{◌≡◌, ℕ, List}
use Rattle.std.specs.BTreeSet as sorted
use Rattle.std.specs.BTreeSet.{BTreeSet}
use Rattle.std.specs.Cmp.Lexicographic.{slice_cmp}
use Rattle.std.specs.Ordering.{nat_cmp, ordering_then}
use Rattle.std.specs.declared.cmp.Ordering.{Ordering}
use Rattle.witness_file.specs.Witnesses.{has_method}
use Rattle.witness_file.specs.declared.witness.MethodWitness.{MethodWitness}

-- a class, a name and a descriptor
abbrev pub Names : Type 0
Names = (List ℕ × List ℕ) × List ℕ

-- the order of texts
abbrev pub text_order : List ℕ → List ℕ → Ordering
text_order x y = slice_cmp nat_cmp x y

-- by class, then by name, then by descriptor
abbrev pub names_order : Names → Names → Ordering
names_order x y = ordering_then (ordering_then (text_order x.0.0 y.0.0) (text_order x.0.1 y.0.1)) (text_order x.1 y.1)

-- the table has the methods, and no others
abbrev pub TellsMethods : BTreeSet Names → List MethodWitness → Type 0
TellsMethods table methods = (class name ty : List ℕ)
    → sorted.contains names_order table ((class, name), ty) ≡ has_method methods class name ty
