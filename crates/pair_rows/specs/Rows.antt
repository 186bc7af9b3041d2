-- What the definition of a pair gives for small ones: one is taken, and of each clause there is one that is refused by
-- it, which is so the first that holds, at its first place (the project's own: definitions are tried on pairs).
use Rattle.std.specs.Prelude.{◌≡◌, ℕ, List, [], ◌∷◌, Option, Some, None, codes}
use Rattle.tree_io.specs.declared.file_at.FileAt.{FileAt}
use Rattle.set_read.specs.Accepted.{IsAccepted}
use Rattle.rule_system.specs.Required.{required}
use Rattle.mapping_file.specs.declared.mapping.Mapping.{Mapping}
use Rattle.witness_file.specs.declared.witness.Witness.{Witness}
use Rattle.pair_checker.specs.Clauses.{Finds}
use Rattle.pair_checker.specs.PairOk.{IsNo, PairOk}
use Rattle.pair_checker.specs.declared.answer.Clause.{Clause}
use Rattle.pair_checker.specs.declared.answer.Clause.TheVariants as clause
use Rattle.pair_rows.specs.Examples.{cut_file, dropped, edited, file_of_a, file_of_a_moved, file_of_b_hidden}
use Rattle.pair_rows.specs.Examples.{file_of_b_longer, file_of_lined, lined, other_lines, plain_rules}
use Rattle.pair_rows.specs.Examples.{file_of_b_moved, file_of_orphan, files, input, input_files, kept_renamed, mapping}
use Rattle.pair_rows.specs.Examples.{moved, needed_lost, output, rules, seed_lost, stray_line, unedited}

-- ---- what is asked

-- of the items p.A, f, p.B, g and h the first two are kept, f needs both classes and g, and g and h need their class
abbrev pub RequiredRow : Type 0
RequiredRow = required input rules ≡ record {
  n = 5;
  seeds = 0 ∷ 1 ∷ [];
  needs = [] ∷ (0 ∷ 2 ∷ 3 ∷ []) ∷ [] ∷ (2 ∷ []) ∷ (2 ∷ []) ∷ [];
  pairs = [];
}

-- ---- a pair that is taken

-- the files of the input are taken as a set
abbrev pub InputRow : Type 0
InputRow = IsAccepted input_files input

-- the files of the output are taken with the input
abbrev pub TakenRow : Type 0
TakenRow = PairOk input files mapping rules unedited

-- no clause holds of the input and of the classes of these files
abbrev pub NoneRow : Type 0
NoneRow = (clause : Clause) → Finds input output mapping rules unedited clause None

-- ---- pairs that are refused

-- files are refused by a clause, with a class and a member
abbrev pub Refuses : List FileAt → Mapping → Witness → Clause → Option (List ℕ) → Option (List ℕ) → Type 0
Refuses files mapping witness clause class member =
    IsNo input files mapping rules witness (record { clause = clause; class = class; member = member })

-- a file ends behind two bytes; no place is told
abbrev pub OutputFormatRow : Type 0
OutputFormatRow = Refuses (cut_file ∷ []) mapping unedited clause.OutputFormat None None

-- the superclass of p.A isn't there
abbrev pub OutputProfileRow : Type 0
OutputProfileRow = Refuses (file_of_orphan ∷ []) mapping unedited clause.OutputProfile (Some (codes "p.A")) None

-- a line of a method that p.B doesn't have
abbrev pub MapShapeRow : Type 0
MapShapeRow = Refuses files stray_line unedited clause.MapShape (Some (codes "p.B")) (Some (codes "int k()"))

-- f is kept, and has another name
abbrev pub FixedNameRow : Type 0
FixedNameRow = Refuses files kept_renamed unedited clause.FixedName (Some (codes "p.A")) (Some (codes "void f()"))

-- p.B has become a class of the package q
abbrev pub PackageRow : Type 0
PackageRow = Refuses (file_of_a_moved ∷ file_of_b_moved ∷ []) moved unedited clause.Package (Some (codes "p.B")) None

-- f is kept, and has no line
abbrev pub SeedLostRow : Type 0
SeedLostRow = Refuses files seed_lost unedited clause.SeedLost (Some (codes "p.A")) (Some (codes "void f()"))

-- f calls g, which has no line
abbrev pub NotClosedRow : Type 0
NotClosedRow = Refuses files needed_lost unedited clause.NotClosed (Some (codes "p.B")) (Some (codes "int g()"))

-- g isn't public any more
abbrev pub MemberDiffersRow : Type 0
MemberDiffersRow = Refuses (file_of_a ∷ file_of_b_hidden ∷ []) mapping unedited clause.MemberDiffers
    (Some (codes "p.B")) (Some (codes "int g()"))

-- the witness has an entry of g that lacks its steps
abbrev pub WitnessStrayRow : Type 0
WitnessStrayRow = Refuses files mapping edited clause.WitnessStray (Some (codes "p.B")) (Some (codes "int g()"))

-- the witness drops the first instruction of g
abbrev pub EditIllegalRow : Type 0
EditIllegalRow = Refuses files mapping dropped clause.EditIllegal (Some (codes "p.B")) (Some (codes "int g()"))

-- g has an instruction more
abbrev pub CodeDiffersRow : Type 0
CodeDiffersRow = Refuses (file_of_a ∷ file_of_b_longer ∷ []) mapping unedited clause.CodeDiffers
    (Some (codes "p.B")) (Some (codes "int g()"))

-- by rules that keep names and lines the code of f has line 3, which isn't among the lines that are told of it
abbrev pub LineRangeRow : Type 0
LineRangeRow = IsNo (lined ∷ []) (file_of_lined ∷ []) other_lines plain_rules unedited
    (record { clause = clause.LineRange; class = Some (codes "p.A"); member = Some (codes "void f()") })
