-- The words that an instruction moves together (only the proof of the bodies needs it).
use Rattle.std.specs.Prelude.{◌≡◌, List, [], ◌∷◌, Option, Some, None}
use Rattle.jvm_model.specs.Stack.{Split}
use Rattle.jvm_model.specs.Value.{Value}
use Rattle.run_values.specs.declared.words.Words.{Words}
use Rattle.run_values.specs.declared.words.Words.TheVariants as words

-- their values, the upper first
abbrev pub values_of : Words → List Value
values_of words.NoWord = []
values_of (words.OneValue v) = v ∷ []
values_of (words.TwoValues upper lower) = upper ∷ lower ∷ []

-- the words of a split were taken, and the stack below them is left; nothing, where there is no split
abbrev pub Splits : {A : Type 0} → (A → List Value) → Option A → Split → (after : List Value) → Type 0
Splits view None due after = due ≡ None
Splits view (Some x) due after = due ≡ Some (view x, after)
