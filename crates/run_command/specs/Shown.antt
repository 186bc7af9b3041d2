-- What is said of a run (the project's own: how prints and ends are told).
use Rattle.std.specs.Prelude.{ℕ, ◌-◌, Bool, false, not, ◌==◌, nat_le, List, [], ◌++◌, map, length, Result, Ok, Err}
use Rattle.std.specs.Prelude.{codes, if◌then◌else◌, slice_get}
use Rattle.std.specs.Char.Utf16.{utf16_chars}
use Rattle.std.specs.Fmt.{signed_decimal}
use Rattle.std.specs.Option.{option_map_or, unwrap_or}
use Rattle.std.specs.Str.{encode_utf8_all}
use Rattle.jv_base.specs.External.{dotted}
use Rattle.class_run.specs.declared.ended.Back.{Back}
use Rattle.class_run.specs.declared.ended.Back.TheVariants as back
use Rattle.class_run.specs.declared.ended.End.{End}
use Rattle.class_run.specs.declared.ended.End.TheVariants as end
use Rattle.class_run.specs.declared.ended.Ended.{Ended}
use Rattle.command_frame.specs.Refusal.{passed, quantity_limit}
use Rattle.command_frame.specs.declared.command.Plan.{Plan}
use Rattle.command_frame.specs.declared.refusal.Quantity.TheVariants as quantity
use Rattle.command_frame.specs.declared.refusal.Refusal.{Refusal}

-- ---- what was printed

-- the characters that units spell in UTF-8, `?` for a surrogate that has no partner (Unicode Standard 3.9)
unfoldable pub in_utf8 : List ℕ → List ℕ
in_utf8 units = encode_utf8_all (map (λ o. unwrap_or o 63) (utf16_chars units))

-- the last of the units is no LF
abbrev pub is_open : List ℕ → Bool
is_open units = option_map_or (λ u. not (u == 10)) (slice_get units (length units - 1)) false

-- what was printed, with an LF at its end where it isn't empty
abbrev pub shown : List ℕ → List ℕ
shown units = in_utf8 units ++ (if is_open units then codes "\n" else [])

-- ---- how the run has ended

-- what the entry has returned
abbrev pub back_text : Back → List ℕ
back_text back.Nothing = []
back_text (back.Int z) = codes " " ++ signed_decimal z
back_text (back.Long z) = codes " " ++ signed_decimal z
back_text back.Null = codes " null"
back_text (back.Ref n) = codes " ref"
back_text (back.Lit units) = codes " ref"

-- how a run has ended, if it has
abbrev pub how : End → List ℕ
how end.Running = codes "running"
how (end.Returned value) = codes "returned" ++ back_text value
how (end.Threw class n) = codes "threw " ++ dotted class
how end.Wrong = codes "wrong"

-- the line of it
abbrev pub end_line : End → List ℕ
end_line end = codes "end " ++ (how end ++ codes "\n")

-- ---- both

-- no file is written, and this is said
abbrev pub says : List ℕ → Plan
says text = record { files = []; text = text }

-- what is said of a run, unless it has printed more than is said
abbrev pub run_said : Ended → Result Plan Refusal
run_said ended =
    if nat_le (length (shown ended.printed)) (quantity_limit quantity.Text)
    then Ok (says (shown ended.printed ++ end_line ended.how))
    else Err (passed quantity.Text)
