-- The texts that are written behind the classes (ProGuard manual, "-printmapping", "-printseeds", "-printusage"; the
-- witness is the project's own).
use Rattle.std.specs.Prelude.{ℕ, Bool, List, [], ◌∷◌, ◌++◌, Result, Ok}
use Rattle.jv_base.specs.Outcome.{◌>>=◌}
use Rattle.tree_io.specs.declared.file_at.FileAt.{FileAt}
use Rattle.class_model.specs.declared.class.Class.{Class}
use Rattle.keep_rules.specs.declared.rules.Rules.{Rules}
use Rattle.list_texts.specs.ItemTexts.{up_to}
use Rattle.list_texts.specs.declared.limit.TooLong.{TooLong}
use Rattle.mapping_file.specs.Mappings.{mapping_text}
use Rattle.mapping_file.specs.declared.mapping.Mapping.{Mapping}
use Rattle.set_shrink.specs.Lists.{lists_due}
use Rattle.witness_file.specs.Witnesses.{witness_text}
use Rattle.witness_file.specs.declared.witness.Witness.{Witness}

-- the mapping at the path that the rules name, of at most 64 MiB (ProGuard manual, "-printmapping"; the limit is the
-- project's own)
abbrev pub mapping_due : Mapping → Rules → Result FileAt TooLong
mapping_due mapping rules = do
  bytes ← up_to 67108864 (mapping_text mapping)
  Ok (record { path = rules.mapping; bytes = bytes })

-- the witness at its path, of at most 64 MiB (the project's own)
abbrev pub witness_due : Witness → List ℕ → Result FileAt TooLong
witness_due edits path = do
  bytes ← up_to 67108864 (witness_text edits)
  Ok (record { path = path; bytes = bytes })

-- the mapping, lists that are due, and the witness of how methods were edited, in this order (the project's own)
abbrev pub texts_beside : Mapping → Witness → Result (List FileAt) TooLong → Rules → List ℕ
    → Result (List FileAt) TooLong
texts_beside mapping edits lists rules witness = do
  first ← mapping_due mapping rules
  others ← lists
  last ← witness_due edits witness
  Ok (first ∷ (others ++ last ∷ []))

-- those of a set of which the marked items are kept (the project's own)
abbrev pub texts_due : Mapping → Witness → List Class → List Bool → Rules → List ℕ → Result (List FileAt) TooLong
texts_due mapping edits classes marks rules witness =
    texts_beside mapping edits (lists_due classes marks rules) rules witness
