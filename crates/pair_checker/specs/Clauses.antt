-- The clauses by which a pair of programs is refused, in their order, each with the first place at which it holds (the
-- project's own: what the command tests).
use Rattle.std.specs.Prelude.{◌≡◌, ℕ, List, map, Option, None, codes}
use Rattle.tree_io.specs.declared.file_at.FileAt.{FileAt}
use Rattle.format_reading.specs.declared.fault.FormatFault.{FormatFault}
use Rattle.class_model.specs.declared.class.Class.{Class}
use Rattle.set_read.specs.Accepted.{IsFault}
use Rattle.set_read.specs.declared.fault.RuleFault.{RuleFault}
use Rattle.set_read.specs.declared.fault.SetFault.TheVariants as set
use Rattle.keep_rules.specs.declared.rules.Rules.{Rules}
use Rattle.attribute_filter.specs.KeptAttributes.{filter_of}
use Rattle.rule_system.specs.Required.{required}
use Rattle.mapping_file.specs.declared.mapping.Mapping.{Mapping}
use Rattle.witness_file.specs.declared.witness.Witness.{Witness}
use Rattle.new_names.specs.NewNames.{names_given}
use Rattle.new_names.specs.declared.class_names.ClassNames.{ClassNames}
use Rattle.pair_clauses.specs.Closing as closing
use Rattle.pair_clauses.specs.Codes as codes_of
use Rattle.pair_clauses.specs.FixedNames as names
use Rattle.pair_clauses.specs.LineRanges.{range_fault}
use Rattle.pair_clauses.specs.Members as members
use Rattle.pair_clauses.specs.Shape.{shape_fault}
use Rattle.pair_clauses.specs.declared.place.Place.{Place}
use Rattle.pair_edits.specs.Edits as edits
use Rattle.pair_edits.specs.Entries.{edited_input}
use Rattle.pair_checker.specs.declared.answer.Clause.{Clause}
use Rattle.pair_checker.specs.declared.answer.Clause.TheVariants as clause

-- ---- the order of the clauses

-- the number of a clause in their order
abbrev pub number : Clause → ℕ
number clause.OutputFormat = 0
number clause.OutputProfile = 1
number clause.MapShape = 2
number clause.FixedName = 3
number clause.Package = 4
number clause.SeedLost = 5
number clause.NotClosed = 6
number clause.MemberDiffers = 7
number clause.WitnessStray = 8
number clause.EditIllegal = 9
number clause.CodeDiffers = 10
number clause.LineRange = 11

-- the name of a clause, as it is printed
abbrev pub clause_name : Clause → List ℕ
clause_name clause.OutputFormat = codes "OutputFormat"
clause_name clause.OutputProfile = codes "OutputProfile"
clause_name clause.MapShape = codes "MapShape"
clause_name clause.FixedName = codes "FixedName"
clause_name clause.Package = codes "Package"
clause_name clause.SeedLost = codes "SeedLost"
clause_name clause.NotClosed = codes "NotClosed"
clause_name clause.MemberDiffers = codes "MemberDiffers"
clause_name clause.WitnessStray = codes "WitnessStray"
clause_name clause.EditIllegal = codes "EditIllegal"
clause_name clause.CodeDiffers = codes "CodeDiffers"
clause_name clause.LineRange = codes "LineRange"

-- ---- the files of the output

-- a file of the output is no class file (JVMS 4)
abbrev pub OutputFormat : List FileAt → Type 0
OutputFormat files = (path : List ℕ) × (fault : FormatFault) × IsFault files (set.Format path fault)

-- each file is a class file, and together they break a rule of sets of classes: the first fault (JVMS 4.1, 4.10,
-- 4.10.1, 5.3.5, 5.4.3 to 5.4.5)
abbrev pub OutputProfile : List FileAt → RuleFault → Type 0
OutputProfile files fault = IsFault files (set.Rule fault)

-- ---- the other clauses: the first place of each, if it holds

-- the new names of each class of the input and of its members
abbrev pub given_names : Mapping → List Class → List ClassNames
given_names mapping input = map (names_given mapping) input

module _ (input output : List Class) (mapping : Mapping) (rules : Rules) where
  -- lines and classes that aren't one to one, a line that names no member or one again, or names that aren't one to one
  abbrev pub MapShape : Option Place → Type 0
  MapShape found = found ≡ shape_fault input output mapping

  -- a fixed name has another new one, or a name that isn't fixed has a fixed one; names of methods are fixed for their
  -- descriptors
  abbrev pub FixedName : Option Place → Type 0
  FixedName found = found ≡ names.fixed_fault (names.fixed_by rules input) input (given_names mapping input)

  -- a new class name is in another package
  abbrev pub Package : Option Place → Type 0
  Package found = found ≡ names.package_fault input (given_names mapping input)

  -- what the rules keep has no line
  abbrev pub SeedLost : Option Place → Type 0
  SeedLost found = found ≡ closing.seed_fault input (given_names mapping input) (required input rules)

  -- what an item with a line needs has none, or what two of them need together
  abbrev pub NotClosed : Option Place → Type 0
  NotClosed found = found ≡ closing.closed_fault input (given_names mapping input) (required input rules)

  -- a class of the output isn't the class of the input with the members that have lines, under the new names
  abbrev pub MemberDiffers : Option Place → Type 0
  MemberDiffers found = members.MemberDiffers mapping (filter_of rules) input (given_names mapping input) output found

  -- an entry of the witness names no method with a code and a line, or one that an entry before names, or its steps
  -- aren't one of each pass
  abbrev pub WitnessStray : Witness → Option Place → Type 0
  WitnessStray witness found = found ≡ edits.stray_fault mapping input witness

  -- an act of an entry isn't legal on the code that the steps before it left
  abbrev pub EditIllegal : Witness → Option Place → Type 0
  EditIllegal witness found = edits.EditIllegal witness input found

  -- a code of the output isn't that of the input, after the acts of its entry, under the new names
  abbrev pub CodeDiffers : Witness → Option Place → Type 0
  CodeDiffers witness found =
      codes_of.CodeDiffers mapping (filter_of rules) (edited_input witness input) (given_names mapping input) output found

  -- a code of the output has a line outside the range that the mapping tells of its method
  abbrev pub LineRange : Option Place → Type 0
  LineRange found = found ≡ range_fault mapping input (given_names mapping input) output

  -- the first place of a clause; an output that was read as a set of classes doesn't fail by its files
  abbrev pub Finds : Witness → Clause → Option Place → Type 0
  Finds witness clause.OutputFormat found = found ≡ None
  Finds witness clause.OutputProfile found = found ≡ None
  Finds witness clause.MapShape found = MapShape found
  Finds witness clause.FixedName found = FixedName found
  Finds witness clause.Package found = Package found
  Finds witness clause.SeedLost found = SeedLost found
  Finds witness clause.NotClosed found = NotClosed found
  Finds witness clause.MemberDiffers found = MemberDiffers found
  Finds witness clause.WitnessStray found = WitnessStray witness found
  Finds witness clause.EditIllegal found = EditIllegal witness found
  Finds witness clause.CodeDiffers found = CodeDiffers witness found
  Finds witness clause.LineRange found = LineRange found
