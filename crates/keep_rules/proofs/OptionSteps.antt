-- Options are read one by one.
use Rattle.std.proofs.Common.{◌≡◌, ℕ, ◌<◌, Some, None, arith, List, [], ◌∷◌, length, take, drop, Result, Ok, Err, refl}
use Rattle.std.proofs.Common.{sym, ap, ◌∙◌}
use Rattle.std.specs.Prelude.{IsTrue, slice_get}
use Rattle.std.proofs.lemmas.List.{length-drop}
use Rattle.std.specs.List.{position_or_len}
use Rattle.jv_base.specs.Outcome as outcome
use Rattle.jv_base.specs.Outcome.{FaultIs, IsDue}
use Rattle.jv_base.specs.declared.outcome.Or.{Or}
use Rattle.jv_base.specs.declared.outcome.Or.TheVariants.{Fault, OutOfMemory}
use Rattle.conf_words.specs.declared.splitting.Word.{Word}
use Rattle.keep_rules.specs.declared.fault.RuleFault.{RuleFault}
use Rattle.keep_rules.specs.declared.rules.Rules.{Rules}
use Rattle.keep_rules.specs.declared.draft.Draft.{Draft}
use Rattle.keep_rules.specs.Reader.{none_left}
use Rattle.keep_rules.specs.Reading.{sections_of, word_is_option, begins_so, options_read, option_read, Sets}
use Rattle.keep_rules.specs.Reading.{blank, finished, rules_read}
use Rattle.keep_rules.proofs.Loops.{cut, section_first, none_read}

-- an option at fault
pub option_err : (e : Or RuleFault) (d new : Draft) (option : Word) (words values : List Word)
    (total : Result Draft RuleFault) → IsTrue (begins_so (option ∷ words))
    → values ≡ take (position_or_len word_is_option words) words → Sets (Err e) new (option_read d option values)
    → options_read d (sections_of (option ∷ words)).sections ≡ total → FaultIs {V = Draft} e total
option_err OutOfMemory d new option words values total b v h so_far = tt
option_err (Fault f) d new option words values total b v h so_far =
    let same : values ≡ (sections_of words).front = v ∙ sym (cut words).front_is in
    let one : option_read d option (sections_of words).front ≡ Err f = ap (option_read d option) (sym same) ∙ h in
    sym so_far ∙ section_first d option words b
    ∙ ap (λ (r : Result Draft RuleFault). outcome.◌>>=◌ r (λ more. options_read more (sections_of words).sections)) one

-- an option, and then others
pub option_more : (d new : Draft) (option : Word) (words values others : List Word) (total : Result Draft RuleFault)
    → IsTrue (begins_so (option ∷ words)) → values ≡ take (position_or_len word_is_option words) words
    → others ≡ drop (position_or_len word_is_option words) words → option_read d option values ≡ Ok new
    → options_read d (sections_of (option ∷ words)).sections ≡ total
    → options_read new (sections_of others).sections ≡ total
option_more d new option words values others total b v o h so_far =
    let c = cut words in
    let same : values ≡ (sections_of words).front = v ∙ sym c.front_is in
    let one : option_read d option (sections_of words).front ≡ Ok new = ap (option_read d option) (sym same) ∙ h in
    ap (λ (ws : List Word). options_read new (sections_of ws).sections) o ∙ ap (options_read new) (sym c.sections_are)
    ∙ sym (section_first d option words b
    ∙ ap (λ (r : Result Draft RuleFault). outcome.◌>>=◌ r
    (λ more. options_read more (sections_of words).sections)) one) ∙ so_far

-- what is left begins with an option
pub begins_on : (words others : List Word) → others ≡ drop (position_or_len word_is_option words) words
    → IsTrue (begins_so others)
begins_on words others o = ap begins_so o ∙ (cut words).begins

-- no option is left
pub option_done : (d : Draft) (rest : List Word) (total : Result Draft RuleFault) → rest ≡ []
    → options_read d (sections_of rest).sections ≡ total → total ≡ Ok d
option_done d rest total e so_far = sym so_far ∙ ap (λ (ws : List Word). options_read d (sections_of ws).sections) e
    ∙ none_read d

-- ---- the config

-- words before the first option
pub rules_stray : (e : Or RuleFault) (words front : List Word) (witness : List ℕ)
    → front ≡ take (position_or_len word_is_option words) words
    → FaultIs {V = Unit {0}} e (none_left {A = Unit {0}} tt front)
    → FaultIs {V = Rules} e (rules_read words witness)
unfolding rules_read
rules_stray OutOfMemory words front witness f h = tt
rules_stray (Fault g) words front witness f h =
    let one : none_left {A = Unit {0}} tt (sections_of words).front ≡ Err g =
    ap (none_left {A = Unit {0}} tt) ((cut words).front_is ∙ sym f) ∙ h in
    rw one refl

-- an option at fault
pub rules_err : (e : Or RuleFault) (words front sections : List Word) (witness : List ℕ)
    → front ≡ take (position_or_len word_is_option words) words
    → sections ≡ drop (position_or_len word_is_option words) words
    → none_left {A = Unit {0}} tt front ≡ Ok tt
    → FaultIs {V = Draft} e (options_read blank (sections_of sections).sections)
    → FaultIs {V = Rules} e (rules_read words witness)
unfolding rules_read
rules_err OutOfMemory words front sections witness f s n h = tt
rules_err (Fault g) words front sections witness f s n h =
    let c = cut words in
    let one : none_left {A = Unit {0}} tt (sections_of words).front ≡ Ok tt =
    ap (none_left {A = Unit {0}} tt) (c.front_is ∙ sym f) ∙ n in
    let two : options_read blank (sections_of words).sections ≡ Err g = ap (options_read blank) (c.sections_are
    ∙ ap (λ (ws : List Word). (sections_of ws).sections) (sym s)) ∙ h in
    rw (one, two) refl

-- what was read is finished
pub rules_done : (words front sections : List Word) (witness : List ℕ) (d : Draft)
    → front ≡ take (position_or_len word_is_option words) words
    → sections ≡ drop (position_or_len word_is_option words) words
    → none_left {A = Unit {0}} tt front ≡ Ok tt → options_read blank (sections_of sections).sections ≡ Ok d
    → rules_read words witness ≡ finished witness d
unfolding rules_read
rules_done words front sections witness d f s n h =
    let c = cut words in
    let one : none_left {A = Unit {0}} tt (sections_of words).front ≡ Ok tt =
    ap (none_left {A = Unit {0}} tt) (c.front_is ∙ sym f) ∙ n in
    let two : options_read blank (sections_of words).sections ≡ Ok d = ap (options_read blank) (c.sections_are
    ∙ ap (λ (ws : List Word). (sections_of ws).sections) (sym s)) ∙ h in
    rw (one, two) refl

-- what is left behind the front begins with an option
pub begins_here : (words rest : List Word) (n : ℕ) → n ≡ position_or_len word_is_option words → rest ≡ drop n words
    → IsTrue (begins_so rest)
begins_here words rest n e o = begins_on words rest (o ∙ ap (λ (k : ℕ). drop k words) e)

-- ---- the words of options that are left

-- the first word, and those behind it
pub whole_is : (rest : List Word) (option : Word) → slice_get rest 0 ≡ Some option → rest ≡ option ∷ drop 1 rest
whole_is [] option h = absurd cc
whole_is (word ∷ rest) option h = let e : word ≡ option = cc in ap (λ (w : Word). w ∷ rest) e

-- where no word is first, there is none
pub none_is : (rest : List Word) → slice_get rest 0 ≡ None → rest ≡ []
none_is [] h = refl
none_is (word ∷ rest) h = absurd cc

-- fewer words are left
pub rest_less : (rest others : List Word) (option : Word) (n : ℕ) → slice_get rest 0 ≡ Some option
    → others ≡ drop n (drop 1 rest) → length others < length rest
rest_less [] others option n h o = absurd cc
rest_less (word ∷ rest) others option n h o = omega (arith, ap length o, length-drop n rest)

begins_whole : (rest : List Word) (option : Word) → slice_get rest 0 ≡ Some option → IsTrue (begins_so rest)
    → IsTrue (begins_so (option ∷ drop 1 rest))
begins_whole rest option h b = ap begins_so (sym (whole_is rest option h)) ∙ b

so_far_whole : (d : Draft) (rest : List Word) (option : Word) (total : Result Draft RuleFault)
    → slice_get rest 0 ≡ Some option → options_read d (sections_of rest).sections ≡ total
    → options_read d (sections_of (option ∷ drop 1 rest)).sections ≡ total
so_far_whole d rest option total h so_far =
    ap (λ (ws : List Word). options_read d (sections_of ws).sections) (sym (whole_is rest option h)) ∙ so_far

pub first_err : (e : Or RuleFault) (d new : Draft) (rest : List Word) (option : Word) (values : List Word)
    (total : Result Draft RuleFault) → slice_get rest 0 ≡ Some option → IsTrue (begins_so rest)
    → values ≡ take (position_or_len word_is_option (drop 1 rest)) (drop 1 rest)
    → Sets (Err e) new (option_read d option values) → options_read d (sections_of rest).sections ≡ total
    → FaultIs {V = Draft} e total
first_err e d new rest option values total f b v h so_far = option_err e d new option (drop 1 rest) values total
    (begins_whole rest option f b) v h (so_far_whole d rest option total f so_far)

pub first_more : (d new : Draft) (rest : List Word) (option : Word) (values others : List Word)
    (total : Result Draft RuleFault) → slice_get rest 0 ≡ Some option → IsTrue (begins_so rest)
    → values ≡ take (position_or_len word_is_option (drop 1 rest)) (drop 1 rest)
    → others ≡ drop (position_or_len word_is_option (drop 1 rest)) (drop 1 rest)
    → option_read d option values ≡ Ok new → options_read d (sections_of rest).sections ≡ total
    → options_read new (sections_of others).sections ≡ total
first_more d new rest option values others total f b v o h so_far =
    option_more d new option (drop 1 rest) values others total
    (begins_whole rest option f b) v o h (so_far_whole d rest option total f so_far)
