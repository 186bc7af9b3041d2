-- The old names of classes and methods (ProGuard manual, "ReTrace": lines tell methods of one new name apart).
use Rattle.std.specs.Prelude.{ℕ, ◌+◌, Bool, true, ◌&&◌, nat_le, List, [], ◌∷◌, ◌++◌, map, take, drop, length}
use Rattle.std.specs.Prelude.{Option, Some, None, codes}
use Rattle.std.specs.List.{filter, find, fold}
use Rattle.std.specs.Option.{option_map, unwrap_or}
use Rattle.indexmap.specs.IndexSet.{insert_key}
use Rattle.jv_base.specs.External.{dotted}
use Rattle.jv_base.specs.Names.{is_text}
use Rattle.mapping_file.specs.declared.mapping.MapClass.{MapClass}
use Rattle.mapping_file.specs.declared.mapping.MapMethod.{MapMethod}
use Rattle.mapping_file.specs.declared.mapping.Range.{Range}
use Rattle.retrace_core.specs.Cut.{last_place_of, place_of}

-- the class with a new name, spelled with dots
abbrev pub class_named : List MapClass → List ℕ → Option MapClass
class_named classes text = find (λ c. is_text text (dotted c.new)) classes

-- the methods with a new name
abbrev pub candidates : List MapMethod → List ℕ → List MapMethod
candidates methods name = filter (λ m. is_text name m.new) methods

-- a method may have a line: its range holds it, or it has none
abbrev pub may_have : ℕ → Option Range → Bool
may_have line None = true
may_have line (Some r) = nat_le r.first line && nat_le line r.last

-- these, or others where there are none
abbrev pub or_these : {A : Type 0} → List A → List A → List A
or_these [] others = others
or_these (x ∷ xs) others = x ∷ xs

-- those that may have a line, where there are such
abbrev pub fitting : Option ℕ → List MapMethod → List MapMethod
fitting None methods = methods
fitting (Some line) methods = or_these (filter (λ m. may_have line m.lines) methods) methods

-- each name once, where it stands first
abbrev pub once : List (List ℕ) → List (List ℕ)
once names = fold (insert_key is_text) [] names

-- the old names that a method with a new name may have had at a line
abbrev pub old_names : List MapMethod → List ℕ → Option ℕ → List (List ℕ)
old_names methods name line = once (map (λ (m : MapMethod). m.old) (fitting line (candidates methods name)))

-- the same, or the name itself where no method has it
abbrev pub old_methods : MapClass → List ℕ → Option ℕ → List (List ℕ)
old_methods c name line = or_these (old_names c.methods name line) (name ∷ [])

-- the part of a class name behind its package
abbrev pub behind_package : List ℕ → Option ℕ → List ℕ
behind_package name None = name
behind_package name (Some slash) = drop (slash + 1) name

-- a class name without its package
abbrev pub simple_name : List ℕ → List ℕ
simple_name name = behind_package name (last_place_of 47 name)

-- how long the name of the outermost class is: up to the first `$` that isn't the first character, with which compilers
-- join the names of nested classes (JLS 13.1); a name that has a `$` itself is cut there too (the project's own)
abbrev pub outer_length : List ℕ → ℕ
outer_length simple = unwrap_or (option_map (λ n. n + 1) (place_of 36 (drop 1 simple))) (length simple)

-- a name up to there
abbrev pub outermost : List ℕ → List ℕ
outermost simple = take (outer_length simple) simple

-- the source file of a class: called as the outermost class
unfoldable pub source_of : List ℕ → List ℕ
source_of name = outermost (simple_name name) ++ codes ".java"
