-- The lists that rules ask for (ProGuard manual, "-printseeds", "-printusage").
use Rattle.std.specs.Prelude.{ℕ, Bool, List, [], Option, Some, None, Result, Ok}
use Rattle.std.specs.List.{cons_option}
use Rattle.jv_base.specs.Outcome.{◌>>=◌}
use Rattle.tree_io.specs.declared.file_at.FileAt.{FileAt}
use Rattle.class_model.specs.declared.class.Class.{Class}
use Rattle.keep_rules.specs.declared.rules.Rules.{Rules}
use Rattle.keep_match.specs.Seeds.{seeds_of}
use Rattle.list_texts.specs.ItemTexts.{seeds_text, up_to, usage_text}
use Rattle.list_texts.specs.declared.limit.TooLong.{TooLong}

-- a list at a path, where one is asked for, of at most 64 MiB (the project's own: no longer one is made)
abbrev pub list_due : Option (List ℕ) → List ℕ → Result (Option FileAt) TooLong
list_due None text = Ok None
list_due (Some path) text = do
  bytes ← up_to 67108864 text
  Ok (Some (record { path = path; bytes = bytes }))

-- the list of what the rules keep (ProGuard manual, "-printseeds")
abbrev pub seeds_due : List Class → Rules → Result (Option FileAt) TooLong
seeds_due classes rules = list_due rules.seeds (seeds_text classes (seeds_of rules classes))

-- the list of what is dropped where marked items are kept (ProGuard manual, "-printusage")
abbrev pub usage_due : List Class → List Bool → Rules → Result (Option FileAt) TooLong
usage_due classes marks rules = list_due rules.usage (usage_text classes marks)

-- both, where they are asked for, in this order (the project's own)
abbrev pub lists_due : List Class → List Bool → Rules → Result (List FileAt) TooLong
lists_due classes marks rules = do
  seeds ← seeds_due classes rules
  usage ← usage_due classes marks rules
  Ok (cons_option seeds (cons_option usage []))
