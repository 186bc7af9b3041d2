-- What the items of one class need, and those of all (only the proof of system_of needs it).
use Rattle.std.specs.Prelude.{ℕ, ◌+◌, List, length, map}
use Rattle.std.specs.List.{enumerate_from, flat_map}
use Rattle.class_model.specs.declared.class.Class.{Class}
use Rattle.class_pool.specs.Items.{class_item}
use Rattle.require_sys.specs.Requires.{class_needs, field_wants, method_wants, needs_of}
use Rattle.require_sys.specs.declared.kept.KeptByRules.{KeptByRules}

-- what each item needs, in the order of the items
abbrev pub all_needs : List Class → KeptByRules → List (List ℕ)
all_needs classes kept = flat_map (class_needs classes kept) (enumerate_from 0 classes)

-- what the fields of a class need
abbrev pub fields_needs : List Class → ℕ → Class → List (List ℕ)
fields_needs classes n c =
    map (λ p. needs_of classes (class_item classes n + 1 + p.0) (field_wants classes n p.1)) (enumerate_from 0 c.fields)

-- what its methods need
abbrev pub methods_needs : List Class → KeptByRules → ℕ → Class → List (List ℕ)
methods_needs classes kept n c =
    map (λ p. needs_of classes (class_item classes n + 1 + p.0) (method_wants classes n kept p.1))
    (enumerate_from (length c.fields) c.methods)
