-- Reading the words of an option from left to right, with the first fault that is met (the project's own: ProGuard's
-- manual has no order of faults).
use Rattle.std.specs.Prelude.{◌≡◌, ℕ, Bool, true, false, List, [], ◌∷◌, ◌++◌, Option, Some, None, Result, Ok, Err}
use Rattle.std.specs.Prelude.{if◌then◌else◌}
use Rattle.std.specs.Borrow.{Bor}
use Rattle.jv_base.specs.declared.outcome.Or.{Or}
use Rattle.jv_base.specs.declared.outcome.Or.TheVariants.{Fault, OutOfMemory}
use Rattle.jv_base.specs.Names.{is_text}
use Rattle.jv_base.specs.Outcome.{Gives}
use Rattle.conf_words.specs.declared.splitting.Word.{Word}
use Rattle.keep_rules.specs.declared.fault.RuleFault.{RuleFault}
use Rattle.keep_rules.specs.declared.fault.RuleKind.{RuleKind}
use Rattle.keep_rules.specs.declared.fault.RuleKind.TheVariants.{UnknownOption}
use Rattle.keep_rules.specs.declared.texts.Part.{Part}
use Rattle.keep_rules.specs.Texts.{wrong, passing, missing_in, bad_in}

-- the words of an option that are still to be read, and the line of the word before them
pub record Ahead : Type 0 where
  pub line : ℕ
  pub words : List Word

-- words behind one on a line
abbrev pub ahead : ℕ → List Word → Ahead
ahead line words = record { line = line; words = words }

-- what is wrong on a line
abbrev pub fault : ℕ → RuleKind → RuleFault
fault line kind = record { line = line; kind = kind }

-- the value that stands ahead and the words behind it, or the first fault
abbrev pub Reader : Type 0 → Type 0
Reader A = Ahead → Result (A × Ahead) RuleFault

-- what a call answered is what is read, and the words that are left are those behind it; want of memory is free, and
-- nothing is said of the words after a fault
abbrev pub ReadsOr : {T : Type 0} → Result T (Or RuleFault) → Ahead → Result (T × Ahead) RuleFault → Type 0
ReadsOr result new due = Gives (λ x. (x, new)) result due

-- the same, where what is read is seen by view
abbrev pub ReadsSo : {T V : Type 0} → (T → V) → Result T (Or RuleFault) → Ahead → Result (V × Ahead) RuleFault → Type 0
ReadsSo view result new due = Gives (λ x. (view x, new)) result due

-- a word that a call answered is the one that is read
abbrev pub TakesNext : Result (Bor Word) RuleFault → Ahead → Result (Word × Ahead) RuleFault → Type 0
TakesNext (Ok word) new due = due ≡ Ok (word.now, new)
TakesNext (Err f) new due = due ≡ Err f

-- a fault that is due; want of memory is free
abbrev pub IsFault : Or RuleFault → RuleFault → Type 0
IsFault (Fault f) due = f ≡ due
IsFault OutOfMemory due = Unit {0}

-- what follows a value that was read; a fault stays
abbrev pub after_read : {A B : Type 0} → (A → Reader B) → Result (A × Ahead) RuleFault → Result (B × Ahead) RuleFault
after_read f (Ok x) = f x.0 x.1
after_read f (Err e) = Err e

-- a part, and then more
unfoldable pub bind : {A B : Type 0} → Reader A → (A → Reader B) → Reader B
bind r f p = after_read f (r p)

-- the same, for steps written one below the other
infixl 10 ◌>>=◌
abbrev pub ◌>>=◌ : {A B : Type 0} → Reader A → (A → Reader B) → Reader B
r >>= f = bind r f

-- a value for which no word stands
unfoldable pub give : {A : Type 0} → A → Reader A
give x p = Ok (x, p)

-- the first of the words
abbrev pub first_word : RuleKind → ℕ → List Word → Result (Word × Ahead) RuleFault
first_word missing line [] = Err (fault line missing)
first_word missing line (word ∷ words) = Ok (word, ahead word.line words)

-- the next word; where no word is left, that is told at the word before
unfoldable pub next_word : RuleKind → Reader Word
next_word missing p = first_word missing p.line p.words

-- a value that was found, or the fault at a word
abbrev pub settled : {A : Type 0} → ℕ → Result A RuleKind → Reader A
settled line (Ok x) p = Ok (x, p)
settled line (Err kind) p = Err (fault line kind)

-- the meaning of the next word, or the fault at it
unfoldable pub item : {A : Type 0} → RuleKind → (List ℕ → Result A RuleKind) → Reader A
item missing meaning = bind (next_word missing) (λ word. settled word.line (meaning word.text))

-- the first of the words passes the test
abbrev pub first_passes : (List ℕ → Bool) → List Word → Bool
first_passes test [] = false
first_passes test (word ∷ words) = test word.text

-- the next word passes the test
unfoldable pub next_passes : (List ℕ → Bool) → Ahead → Bool
next_passes test p = first_passes test p.words

-- the text of the first of the words
abbrev pub first_text : List Word → Option (List ℕ)
first_text [] = None
first_text (word ∷ words) = Some word.text

-- what stands behind the first of the words
abbrev pub behind_first : ℕ → List Word → Ahead
behind_first line [] = ahead line []
behind_first line (word ∷ words) = ahead word.line words

-- what stands behind the next word
unfoldable pub passed : Ahead → Ahead
passed p = behind_first p.line p.words

-- what one reader reads behind a word that passes the test, else what another reads
unfoldable pub if_next : {A : Type 0} → (List ℕ → Bool) → Reader A → Reader A → Reader A
if_next test r s p = if next_passes test p then r (passed p) else s p

-- what one reader reads where the next word passes the test, else what another reads
unfoldable pub if_ahead : {A : Type 0} → (List ℕ → Bool) → Reader A → Reader A → Reader A
if_ahead test r s p = if next_passes test p then r p else s p

-- no word is left
abbrev pub is_end : List Word → Bool
is_end [] = true
is_end (word ∷ words) = false

-- what one reader reads where no word is left, else what another reads
unfoldable pub if_end : {A : Type 0} → Reader A → Reader A → Reader A
if_end r s p = if is_end p.words then r p else s p

-- one mark
abbrev pub is_marked : List ℕ → RuleKind → List ℕ → Result (Unit {0}) RuleKind
is_marked text bad word = if is_text word text then Ok tt else Err (wrong bad word)

-- a mark in a specification
unfoldable pub mark : Part → List ℕ → Reader (Unit {0})
mark p text = item (missing_in p) (is_marked text (bad_in p))

-- a part of a specification that passes the test
unfoldable pub expected : Part → (List ℕ → Bool) → Reader (List ℕ)
expected p test = item (missing_in p) (passing test (bad_in p))

-- a value before those that were read
abbrev pub put_before : {A : Type 0} → A → Result (List A × Ahead) RuleFault → Result (List A × Ahead) RuleFault
put_before x (Ok xs) = Ok (x ∷ xs.0, xs.1)
put_before x (Err f) = Err f

-- what is read, behind what was read before (only the proofs of loops that read need it)
abbrev pub behind : {A : Type 0} → List A → Result (List A × Ahead) RuleFault → Result (List A × Ahead) RuleFault
behind front (Ok x) = Ok (front ++ x.0, x.1)
behind front (Err f) = Err f

-- a word where an option is expected
abbrev pub stray : Word → RuleFault
stray word = fault word.line (wrong UnknownOption word.text)

-- no word may be left
abbrev pub none_left : {A : Type 0} → A → List Word → Result A RuleFault
none_left x [] = Ok x
none_left x (word ∷ words) = Err (stray word)

-- what was read of an option, to its end
abbrev pub with_none_left : {A : Type 0} → Result (A × Ahead) RuleFault → Result A RuleFault
with_none_left (Ok x) = none_left x.0 x.1.words
with_none_left (Err f) = Err f

-- what a reader reads of the words behind an option, all of them
unfoldable pub whole : {A : Type 0} → Reader A → Word → List Word → Result A RuleFault
whole r option values = with_none_left (r (ahead option.line values))
