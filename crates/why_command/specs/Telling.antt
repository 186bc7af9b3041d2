-- How it is told why an item is kept (the project's own: what the command says).
use Rattle.std.specs.Prelude.{◌≡◌, ℕ, List, [], ◌∷◌, ◌++◌, length, nat_le, slice_index_or, Result, Ok, Err, codes}
use Rattle.std.specs.Prelude.{if◌then◌else◌}
use Rattle.std.specs.Fmt.{decimal}
use Rattle.std.specs.List.{flat_map}
use Rattle.why_kept.specs.declared.reasons.By.{By}
use Rattle.why_kept.specs.declared.reasons.By.TheVariants as by
use Rattle.why_kept.specs.declared.reasons.WhyStep.{WhyStep}
use Rattle.command_frame.specs.Refusal.{passed, quantity_limit}
use Rattle.command_frame.specs.declared.refusal.Quantity.TheVariants as quantity
use Rattle.command_frame.specs.declared.refusal.Refusal.{Refusal}

-- the text of an item, of the texts of all
abbrev pub item_text : List (List ℕ) → ℕ → List ℕ
item_text texts item = slice_index_or texts item []

-- by what an item is kept: the rules name it; an item needs it; or two items need it together
abbrev pub source_text : List (List ℕ) → By → List ℕ
source_text texts by.Seed = codes " seed"
source_text texts (by.Need item) = codes " from " ++ item_text texts item
source_text texts (by.Pair one two) =
    (codes " from " ++ item_text texts one) ++ (codes " and " ++ item_text texts two)

-- the line of a step
abbrev pub step_line : List (List ℕ) → WhyStep → List ℕ
step_line texts step = item_text texts step.id ++ (source_text texts step.by ++ codes "\n")

-- how deep a derivation is
abbrev pub depth_line : ℕ → List ℕ
depth_line depth = codes "depth " ++ (decimal depth ++ codes "\n")

-- that of a derivation, and a line for each of its steps
abbrev pub derivation_text : List (List ℕ) → ℕ → List WhyStep → List ℕ
derivation_text texts depth steps = depth_line depth ++ flat_map (step_line texts) steps

-- the text of an item that is kept by these steps: where there are none, it isn't kept
abbrev pub why_text : List (List ℕ) → ℕ → List WhyStep → List ℕ
why_text texts depth [] = codes "none\n"
why_text texts depth (step ∷ steps) = derivation_text texts depth (step ∷ steps)

-- a text that isn't longer than it may be; a longer one is refused
abbrev pub or_long : List ℕ → Result (List ℕ) Refusal
or_long text = if nat_le (length text) (quantity_limit quantity.Text) then Ok text else Err (passed quantity.Text)

-- what is said then
abbrev pub IsTold : List (List ℕ) → ℕ → List WhyStep → Result (List ℕ) Refusal → Type 0
IsTold texts depth steps due = due ≡ or_long (why_text texts depth steps)

-- so it is of the text of a derivation
abbrev pub IsDerivationTold : List (List ℕ) → ℕ → List WhyStep → Result (List ℕ) Refusal → Type 0
IsDerivationTold texts depth steps due = due ≡ or_long (derivation_text texts depth steps)
