-- The clauses WitnessStray and EditIllegal: what a witness tells of methods of the input (the project's own).
use Rattle.std.specs.Prelude.{Bool, false, not, ◌&&◌, ◌||◌, List, [], ◌∷◌, ◌++◌, map, Option, Some, None, is_some}
use Rattle.std.specs.Cmp.Lexicographic.{pointwise}
use Rattle.std.specs.List.{find}
use Rattle.std.specs.Option.{option_and_then, option_map, option_map_or, option_or}
use Rattle.jv_base.specs.Descriptors.{read_method}
use Rattle.jv_base.specs.External.{dotted}
use Rattle.jv_base.specs.Names.{is_text}
use Rattle.class_model.specs.declared.class.Class.{Class}
use Rattle.class_model.specs.declared.class.Method.{Method}
use Rattle.class_model.specs.declared.code.Code.{Code}
use Rattle.class_pool.specs.Members.{is_method}
use Rattle.code_edit.specs.Acts.{is_pass, step_passes}
use Rattle.code_edit.specs.Applied.{applied}
use Rattle.code_edit.specs.Legal.{AreLegal}
use Rattle.code_edit.specs.declared.act.PassEdits.{PassEdits}
use Rattle.mapping_file.specs.declared.mapping.Mapping.{Mapping}
use Rattle.witness_file.specs.Witnesses.{has_method}
use Rattle.witness_file.specs.declared.witness.MethodWitness.{MethodWitness}
use Rattle.witness_file.specs.declared.witness.Witness.{Witness}
use Rattle.new_names.specs.NewNames.{new_method}
use Rattle.pair_clauses.specs.Finding.{FindsUnless, FirstOf}
use Rattle.pair_clauses.specs.Places.{described_text, place_if, place_of_method}
use Rattle.pair_clauses.specs.declared.place.Place.{Place}
use Rattle.pair_edits.specs.Entries.{steps_of}

-- ---- WitnessStray

-- an entry of a witness, by its class and its method
abbrev pub entry_place : MethodWitness → Place
entry_place e = record { class = dotted e.class; member = Some (described_text e.name e.ty (read_method e.ty)) }

-- the method of a class with a name and a descriptor (JVMS 4.6)
abbrev pub method_in : MethodWitness → Class → Option (Class × Method)
method_in e c = option_map (λ m. (c, m)) (find (is_method e.name e.ty) c.methods)

-- the method that an entry names, in its class (JVMS 4.1, 4.6)
abbrev pub method_named : List Class → MethodWitness → Option (Class × Method)
method_named input e = option_and_then (method_in e) (find (λ c. is_text e.class c.name) input)

-- a method with a code and a line
abbrev pub is_kept : Mapping → Class × Method → Bool
is_kept mapping (c, m) = is_some m.code && is_some (new_method mapping c m)

-- the steps are one of each pass, in the order of the passes
abbrev pub are_all_steps : List PassEdits → Bool
are_all_steps steps = pointwise is_pass (map (λ (s : PassEdits). s.pass) steps) step_passes

module _ (mapping : Mapping) (input : List Class) where
  -- an entry behind others names no method with a code and a line, or one that is named before, or its steps aren't all
  abbrev pub is_stray : List MethodWitness → MethodWitness → Bool
  is_stray before e = not (option_map_or (is_kept mapping) (method_named input e) false)
      || (has_method before e.class e.name e.ty || not (are_all_steps e.edits.steps))

  -- the first that does so, by itself or with the entries before it
  abbrev pub entries_fault : List MethodWitness → List MethodWitness → Option Place
  entries_fault before [] = None
  entries_fault before (e ∷ es) =
      option_or (place_if (is_stray before e) (entry_place e)) (entries_fault (before ++ e ∷ []) es)

  -- the first place of WitnessStray, in the witness's order
  abbrev pub stray_fault : Witness → Option Place
  stray_fault witness = entries_fault [] witness.methods

-- ---- EditIllegal

-- the acts of each step are legal on the code that the steps before it left
abbrev pub AreLegalSteps : List PassEdits → Code → Type 0
AreLegalSteps [] code = Unit {0}
AreLegalSteps (s ∷ steps) code = AreLegal s.pass s.acts code × AreLegalSteps steps (applied s.pass s.acts code)

-- so it is of a method that has a code
abbrev pub AreLegalOn : List PassEdits → Option Code → Type 0
AreLegalOn steps None = Unit {0}
AreLegalOn steps (Some code) = AreLegalSteps steps code

-- the first method of a class whose entry has an act that isn't legal
abbrev pub ClassEditIllegal : List MethodWitness → Class → Option Place → Type 0
ClassEditIllegal entries c found = FirstOf
    (λ (m : Method). FindsUnless (AreLegalOn (steps_of entries c m) m.code) (place_of_method c m)) c.methods found

-- the first place of EditIllegal, in the order of items
abbrev pub EditIllegal : Witness → List Class → Option Place → Type 0
EditIllegal witness input found = FirstOf (ClassEditIllegal witness.methods) input found
