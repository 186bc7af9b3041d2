-- What a line of a witness says, read from left to right (the project's own; docs/WITNESS.md).
use Rattle.std.specs.Prelude.{ℕ, ◌+◌, ◌^◌, ℤ, pos, neg_ℤ, Bool, not, ◌==◌, List, [], ◌∷◌, length, Option, Some, None}
use Rattle.std.specs.Prelude.{if◌then◌else◌, codes}
use Rattle.std.specs.Option.{option_map}
use Rattle.jv_base.specs.Names.{is_text, is_method_name}
use Rattle.jv_base.specs.Types as descriptor
use Rattle.text_lines.specs.Cut.{◌>>=◌, where_true, after, cut}
use Rattle.text_lines.specs.Members.{class_of, method_type_of}
use Rattle.text_lines.specs.Numbers.{number_below}
use Rattle.code_edit.specs.declared.act.Act.{Act}
use Rattle.witness_file.specs.ActWords.{act_with}
use Rattle.witness_file.specs.declared.acts.Numbers.{Numbers}
use Rattle.witness_file.specs.declared.acts.Numbers.TheVariants.{One, Two, Three, Four}
use Rattle.witness_file.specs.declared.line.MethodParts as kept
use Rattle.witness_file.specs.declared.line.WitnessLine.{WitnessLine}
use Rattle.witness_file.specs.declared.line.WitnessLine.TheVariants as line

-- a number of 32 bits
abbrev pub number_of : List ℕ → Option ℕ
number_of text = number_below (2 ^ 32) text

-- digits behind a sign, or digits
abbrev pub value_in : List ℕ → Option (List ℕ) → Option ℤ
value_in text (Some digits) = number_below 2147483649 digits >>= (λ n. Some (neg_ℤ (pos n)))
value_in text None = number_below 2147483648 text >>= (λ n. Some (pos n))

-- a signed number of 32 bits
unfoldable pub value_of : List ℕ → Option ℤ
value_of text = value_in text (after (codes "-") text)

-- three numbers, or a value behind the third, by the first blank behind the second
abbrev pub third_in : ℕ → ℕ → List ℕ → Option (List ℕ × List ℕ) → Option Numbers
third_in a b text None = number_of text >>= (λ c. Some (Three a b c))
third_in a b text (Some p) = number_of p.0 >>= (λ c. value_of p.1 >>= (λ v. Some (Four a b c v)))

-- two numbers, or more behind the second
abbrev pub second_in : ℕ → List ℕ → Option (List ℕ × List ℕ) → Option Numbers
second_in a text None = number_of text >>= (λ b. Some (Two a b))
second_in a text (Some p) = number_of p.0 >>= (λ b. third_in a b p.1 (cut 32 p.1))

-- one number, or more behind it
abbrev pub first_in : List ℕ → Option (List ℕ × List ℕ) → Option Numbers
first_in text None = number_of text >>= (λ a. Some (One a))
first_in text (Some p) = number_of p.0 >>= (λ a. second_in a p.1 (cut 32 p.1))

-- an act by its word and what stands behind it
unfoldable pub act_of : List ℕ → List ℕ → Option Act
act_of word text = first_in text (cut 32 text) >>= act_with word

-- the number of a step
abbrev pub step_of : List ℕ → Option WitnessLine
step_of text = do
  number ← number_below 7 text
  where_true (not (number == 0)) (line.Step number)

-- the parts of a method: its class, its result's type, its name, and the types of its parameters
pub record MethodParts : Type 0 where
  pub class : List ℕ
  pub ret : List ℕ
  pub name : List ℕ
  pub args : List ℕ

-- `class type name(types)` in parts
unfoldable pub method_parts : List ℕ → Option MethodParts
method_parts text = do
  p ← cut 32 text
  q ← cut 32 p.1
  r ← cut 40 q.1
  s ← cut 41 r.1
  where_true (length s.1 == 0) (record { class = p.0; ret = q.0; name = r.0; args = s.0 })

-- the parts that the code has (only its proofs need it)
abbrev pub kept_method_parts : kept.MethodParts → MethodParts
kept_method_parts m = record { class = m.class.now; ret = m.ret.now; name = m.name.now; args = m.args.now }

-- what the parts of a method stand for
unfoldable pub method_said : MethodParts → Option WitnessLine
method_said m = do
  class ← class_of m.class
  ty ← method_type_of m.ret m.args
  where_true (is_method_name m.name) (line.Method class m.name (descriptor.method_text ty))

-- `class type name(types)`
abbrev pub method_of : List ℕ → Option WitnessLine
method_of text = method_parts text >>= method_said

-- what a line says by its first word and what stands behind it
unfoldable pub said : List ℕ → List ℕ → Option WitnessLine
said word text =
    if is_text word (codes "witness") then where_true (is_text text (codes "1")) line.Head
    else if is_text word (codes "method") then method_of text
    else if is_text word (codes "step") then step_of text
    else option_map (λ a. line.Act a) (act_of word text)

-- what a line says, if it is one of a witness
unfoldable pub line_said : List ℕ → Option WitnessLine
line_said text = cut 32 text >>= (λ p. said p.0 p.1)
