-- A small set of classes with an entry, what is written of it under new names, and what both do (the project's own:
-- what is promised is tried on a set of which it says something). The set is p.A { static void f() {
-- System.out.println(p.B.g()); } } and p.B { static int g() { return 7; } static int h() { return 8; } }; the rules
-- keep f, and p.B becomes p.a, without h.
use Rattle.std.specs.Prelude.{◌≡◌, true, false, ℕ, Bool, List, [], ◌∷◌, ◌++◌, Some, None, Ok, codes}
use Rattle.tree_io.specs.declared.file_at.FileAt.{FileAt}
use Rattle.class_run.specs.Ended.{ended_after}
use Rattle.class_run.specs.declared.ended.Back.TheVariants as back
use Rattle.class_run.specs.declared.ended.End.TheVariants as end
use Rattle.class_run.specs.declared.ended.Ended.{Ended}
use Rattle.image_laws.specs.TakenSet.TakenSet.{IsTaken}
use Rattle.jvm_model.specs.Value.{Key}
use Rattle.mapping_file.specs.Mappings.{mapping_text}
use Rattle.mark_core.specs.Marks.{Marks}
use Rattle.rule_system.specs.Required.{required, system_due}
use Rattle.set_shrink.specs.ShrunkSet.{IsShrunk}
use Rattle.set_shrink.specs.Texts.{texts_due}
use Rattle.set_shrink.specs.declared.shrunk.ShrunkSet.{ShrunkSet}
use Rattle.witness_file.specs.Witnesses.{witness_text}
use Rattle.pair_laws.specs.OwnPairs.Paired.{ArePaired}
use Rattle.pair_laws.specs.PairSame.Entries.{IsEntry}
use Rattle.pair_laws.specs.PairSame.Laws.{pair_names}
use Rattle.pair_laws.specs.PairSame.Pairs.{IsPair}
use Rattle.pair_laws.specs.PairSound.Laws.{DoTheSame}
use Rattle.type_sound.specs.Laws.{MayBegin}
use Rattle.pair_rows.specs.Examples.{file_of_a, file_of_b, files, input, input_files, mapping, output, rules}
use Rattle.pair_rows.specs.Examples.{unedited}

-- ---- the entry

-- a method by its class, its name and its descriptor
abbrev pub key : List ℕ → List ℕ → List ℕ → Key
key class name descriptor = record { class = class; name = name; descriptor = descriptor }

-- p.A.f
abbrev pub entry : Key
entry = key (codes "p/A") (codes "f") (codes "()V")

-- it is an entry of the set and the rules
abbrev pub EntryRow : Type 0
EntryRow = IsEntry input rules entry

-- a run may begin there without an object and without an argument
abbrev pub BeginRow : Type 0
BeginRow = MayBegin input entry [] []

-- ---- the sets

-- both are taken
abbrev pub TakenRow : Type 0
TakenRow = IsTaken input × IsTaken output

-- no clause finds a place
abbrev pub PairRow : Type 0
PairRow = IsPair input output mapping rules

-- ---- what is kept and written

-- p.A with f, and p.B with g, but not h
abbrev pub marks : List Bool
marks = true ∷ true ∷ true ∷ true ∷ false ∷ []

-- this is the least set that has what the rules require, which passes no limit
abbrev pub MarksRow : Type 0
MarksRow = Marks (required input rules) marks × (system_due input rules ≡ Ok (required input rules))

-- a file below the output directory
abbrev pub below_out : FileAt → FileAt
below_out f = record { path = codes "out/" ++ f.path; bytes = f.bytes }

-- the files of p.A and p.a, the mapping and the counts
abbrev pub shrunk_set : ShrunkSet
shrunk_set = record {
  files = below_out file_of_a ∷ below_out file_of_b ∷ [];
  mapping = mapping;
  read = record { classes = 2; fields = 0; methods = 3 };
  kept = record { classes = 2; fields = 0; methods = 2 };
}

-- they are what is written of these marks
abbrev pub ShrunkRow : Type 0
ShrunkRow = IsShrunk input marks rules None shrunk_set

-- the text of the mapping: `p.A -> p.A:`, `    void f() -> f`, `p.B -> p.a:`, `    int g() -> a`, each with its end
abbrev pub mapping_lines : List ℕ
mapping_lines = codes "p.A -> p.A:" ++ 10 ∷ codes "    void f() -> f" ++ 10 ∷ codes "p.B -> p.a:"
    ++ 10 ∷ codes "    int g() -> a" ++ 10 ∷ []

-- the text of a witness without an entry
abbrev pub witness_lines : List ℕ
witness_lines = codes "witness 1" ++ 10 ∷ []

-- the texts behind the classes are that one and the witness
abbrev pub TextsRow : Type 0
TextsRow = (mapping_text mapping ≡ mapping_lines) × (witness_text unedited ≡ witness_lines)
    × (texts_due mapping unedited input marks rules (codes "wit")
    ≡ Ok (record { path = codes "map"; bytes = mapping_lines }
    ∷ record { path = codes "wit"; bytes = witness_lines } ∷ []))

-- ---- names

-- f keeps its name, g is a of p.a, and h isn't kept
abbrev pub NamesRow : Type 0
NamesRow = ((pair_names input mapping).method entry ≡ Some entry)
    × ((pair_names input mapping).method (key (codes "p/B") (codes "g") (codes "()I"))
    ≡ Some (key (codes "p/a") (codes "a") (codes "()I")))
    × ((pair_names input mapping).method (key (codes "p/B") (codes "h") (codes "()I")) ≡ None)

-- ---- what is promised

-- of these files, by `check`
abbrev pub SameRow : Type 0
SameRow = DoTheSame input_files files rules mapping

-- and by `shrink`
abbrev pub PairedRow : Type 0
PairedRow = ArePaired input rules mapping unedited shrunk_set.files

-- ---- what they do

-- a line is printed, and the entry returns
abbrev pub seven : Ended
seven = record { printed = codes "7" ++ 10 ∷ []; how = end.Returned back.Nothing }

-- so it is of the set and of what is written, after as many steps
abbrev pub RunRow : Type 0
RunRow = (ended_after input entry [] 40 ≡ seven) × (ended_after output entry [] 40 ≡ seven)
