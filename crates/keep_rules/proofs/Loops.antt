-- Loops that read words: what was read, before what is still to be read, is the whole.
use Rattle.std.proofs.Common.{◌≡◌, ℕ, suc, ◌+◌, ◌≤◌, ◌<◌, ◌&&◌, Bool, true, false, cond, not, List, [], ◌∷◌, ◌++◌}
use Rattle.std.proofs.Common.{length, take, drop, Result, Ok, Err, refl, sym, ap, subst, ◌∙◌, arith, codes}
use Rattle.std.specs.Prelude.{IsTrue}
use Rattle.std.specs.List.{position_or_len}
use Rattle.std.proofs.lemmas.List.Sums.{prefix_len-le-length}
use Rattle.jv_base.specs.Names.{is_text}
use Rattle.jv_base.specs.Outcome as outcome
use Rattle.jv_base.specs.declared.outcome.Or.{Or}
use Rattle.jv_base.specs.declared.outcome.Or.TheVariants.{Fault, OutOfMemory}
use Rattle.conf_words.specs.declared.splitting.Word.{Word}
use Rattle.keep_rules.specs.declared.fault.RuleFault.{RuleFault}
use Rattle.keep_rules.specs.declared.fault.RuleKind.{RuleKind}
use Rattle.keep_rules.specs.declared.fault.RuleKind.TheVariants.{MissingName}
use Rattle.keep_rules.specs.declared.rules.Filter.{Filter}
use Rattle.keep_rules.specs.declared.rules.MemberSpec.{MemberSpec}
use Rattle.keep_rules.specs.declared.texts.Part.{Part}
use Rattle.keep_rules.specs.declared.keeping.Modifiers.{Modifiers}
use Rattle.keep_rules.specs.declared.draft.Draft.{Draft}
use Rattle.keep_rules.specs.Texts.{filter_of, is_flag}
use Rattle.keep_rules.specs.Reader.{Ahead, ReadsOr, next_word, item, first_passes, next_passes, passed, put_before}
use Rattle.keep_rules.specs.Reader.{behind}
use Rattle.keep_rules.specs.Filtering.{flags, list, is_comma}
use Rattle.keep_rules.specs.Specifications.{modifiers, modifier_of, member, members}
use Rattle.keep_rules.specs.Reading.{sections_of, word_is_option, begins_so, options_read}
use Rattle.keep_rules.specs.Reading.{option_read}
use Rattle.keep_rules.proofs.Steps.{behind_put, behind_end, flags_end, flags_on, ListOn, list_on, ModifiersOn}
use Rattle.keep_rules.proofs.Steps.{modifiers_on}
use Rattle.keep_rules.proofs.Shorter.{item_takes, passed_takes, next_takes}
use Rattle.keep_rules.proofs.MemberSteps.{member_takes, MembersOn, members_on, members_end}

-- ---- lists with commas

-- a list faults where its next item does
pub list_err : {A : Type 0} (missing : RuleKind) (meaning : List ℕ → Result A RuleKind) (e : Or RuleFault)
    (new q : Ahead)
    (front : List A) (p : Ahead) (total : Result (List A × Ahead) RuleFault)
    → ReadsOr {T = A} (Err e) new (item missing meaning p) → behind front (list missing meaning p) ≡ total
    → ReadsOr {T = List A} (Err e) q total
list_err missing meaning OutOfMemory new q front p total h so_far = tt
list_err missing meaning (Fault f) new q front p total h so_far =
    let on : list missing meaning p ≡ Err f =
    subst (ListOn missing meaning (list missing meaning p)) h (list_on missing meaning p) in
    sym so_far ∙ ap (behind front) on

-- a list ends where no comma stands
pub list_done : {A : Type 0} (missing : RuleKind) (meaning : List ℕ → Result A RuleKind) (front : List A) (p : Ahead)
    (x : A)
    (q : Ahead) (total : Result (List A × Ahead) RuleFault) → item missing meaning p ≡ Ok (x, q)
    → next_passes is_comma q ≡ false → behind front (list missing meaning p) ≡ total → total ≡ Ok (front ++ x ∷ [], q)
list_done missing meaning front p x q total h c so_far =
    let on = subst (ListOn missing meaning (list missing meaning p)) h (list_on missing meaning p) in
    sym so_far ∙ ap (behind front) (on.0 c)

-- it goes on behind a comma
pub list_more : {A : Type 0} (missing : RuleKind) (meaning : List ℕ → Result A RuleKind) (front : List A) (p : Ahead)
    (x : A)
    (q : Ahead) (total : Result (List A × Ahead) RuleFault) → item missing meaning p ≡ Ok (x, q)
    → next_passes is_comma q ≡ true → behind front (list missing meaning p) ≡ total
    → behind (front ++ x ∷ []) (list missing meaning (passed q)) ≡ total
list_more missing meaning front p x q total h c so_far =
    let on = subst (ListOn missing meaning (list missing meaning p)) h (list_on missing meaning p) in
    sym (behind_put front x (list missing meaning (passed q))) ∙ sym (ap (behind front) (on.1 c)) ∙ so_far

-- an item takes a word
pub item_less : {A : Type 0} (missing : RuleKind) (meaning : List ℕ → Result A RuleKind) (p : Ahead) (x : A) (q : Ahead)
    → item missing meaning p ≡ Ok (x, q) → length (passed q).words < length p.words
item_less missing meaning p x q h = omega (arith, (item_takes missing meaning).taken p x q h, passed_takes q)

-- ---- flags

pub flags_more : (part : Part) (missing : RuleKind) (front : List Filter) (p : Ahead) (word : Word) (q : Ahead)
    (total : Result (List Filter × Ahead) RuleFault) → next_passes (is_flag part) p ≡ true
    → next_word missing p ≡ Ok (word, q) → behind front (flags part p) ≡ total
    → behind (front ++ filter_of word.text ∷ []) (flags part q) ≡ total
flags_more part missing front p word q total n h so_far =
    sym (behind_put front (filter_of word.text) (flags part q))
    ∙ sym (ap (behind front) (flags_on part missing p word q n h))
    ∙ so_far

pub flags_done : (part : Part) (front : List Filter) (p : Ahead) (total : Result (List Filter × Ahead) RuleFault)
    → next_passes (is_flag part) p ≡ false → behind front (flags part p) ≡ total → total ≡ Ok (front, p)
flags_done part front p total n so_far = sym so_far ∙ ap (behind front) (flags_end part p n) ∙ behind_end front p

pub word_less : (missing : RuleKind) (p : Ahead) (word : Word) (q : Ahead) → next_word missing p ≡ Ok (word, q)
    → length q.words < length p.words
word_less missing p word q h = omega (arith, (next_takes missing).taken p word q h)

-- ---- modifiers

pub modifiers_err : (option : List ℕ) (m : Modifiers) (e : Or RuleFault) (new q p : Ahead)
    (total : Result (Modifiers × Ahead) RuleFault) → next_passes is_comma p ≡ true
    → ReadsOr {T = Modifiers} (Err e) new (item MissingName (modifier_of option m) (passed p))
    → modifiers option m p ≡ total
    → ReadsOr {T = Modifiers} (Err e) q total
modifiers_err option m OutOfMemory new q p total c h so_far = tt
modifiers_err option m (Fault f) new q p total c h so_far =
    let on : modifiers option m p ≡ Err f =
    subst (ModifiersOn option (modifiers option m p)) h (modifiers_on option m p c) in
    sym so_far ∙ on

pub modifiers_more : (option : List ℕ) (m more : Modifiers) (p q : Ahead) (total : Result (Modifiers × Ahead) RuleFault)
    → next_passes is_comma p ≡ true → item MissingName (modifier_of option m) (passed p) ≡ Ok (more, q)
    → modifiers option m p ≡ total → modifiers option more q ≡ total
modifiers_more option m more p q total c h so_far =
    let on : modifiers option m p ≡ modifiers option more q = subst (ModifiersOn option (modifiers option m p)) h
    (modifiers_on option m p c) in
    sym on ∙ so_far

pub modifier_less : (option : List ℕ) (m more : Modifiers) (p q : Ahead)
    → item MissingName (modifier_of option m) (passed p) ≡ Ok (more, q) → length q.words < length p.words
modifier_less option m more p q h = omega (arith, (item_takes _ _).taken (passed p) more q h, passed_takes p)

-- ---- members

-- a closing brace
abbrev is_brace : List ℕ → Bool
is_brace word = is_text word (codes "}")

pub members_err : (names : List Filter) (e : Or RuleFault) (new q : Ahead) (front : List MemberSpec) (p : Ahead)
    (total : Result (List MemberSpec × Ahead) RuleFault) → next_passes is_brace p ≡ false
    → ReadsOr {T = MemberSpec} (Err e) new (member names p) → behind front (members names p) ≡ total
    → ReadsOr {T = List MemberSpec} (Err e) q total
members_err names OutOfMemory new q front p total b h so_far = tt
members_err names (Fault f) new q front p total b h so_far =
    let on : members names p ≡ Err f = subst (MembersOn names (members names p)) h (members_on names p b) in
    sym so_far ∙ ap (behind front) on

pub members_more : (names : List Filter) (front : List MemberSpec) (p : Ahead) (x : MemberSpec) (q : Ahead)
    (total : Result (List MemberSpec × Ahead) RuleFault) → next_passes is_brace p ≡ false → member names p ≡ Ok (x, q)
    → behind front (members names p) ≡ total → behind (front ++ x ∷ []) (members names q) ≡ total
members_more names front p x q total b h so_far =
    let on : members names p ≡ put_before x (members names q) = subst (MembersOn names (members names p)) h
    (members_on names p b) in
    sym (behind_put front x (members names q)) ∙ sym (ap (behind front) on) ∙ so_far

pub members_done : (names : List Filter) (front : List MemberSpec) (p : Ahead)
    (total : Result (List MemberSpec × Ahead) RuleFault) → next_passes is_brace p ≡ true
    → behind front (members names p) ≡ total → total ≡ Ok (front, passed p)
members_done names front p total b so_far = sym so_far ∙ ap (behind front) (members_end names p b)
    ∙ behind_end front (passed p)

pub member_less : (names : List Filter) (p : Ahead) (x : MemberSpec) (q : Ahead) → member names p ≡ Ok (x, q)
    → length q.words < length p.words
member_less names p x q h = omega (arith, (member_takes names).taken p x q h)

-- ---- by the next word, and something else

passes_by : (a : Bool) (test : List ℕ → Bool) (words : List Word)
    → first_passes (λ word. a && test word) words ≡ (a && first_passes test words)
passes_by true test words = refl
passes_by false test [] = refl
passes_by false test (word ∷ words) = refl

-- the next word passes, and something else holds
pub passes_and : (a : Bool) (test : List ℕ → Bool) (p : Ahead)
    → next_passes (λ word. a && test word) p ≡ (a && next_passes test p)
unfolding next_passes
passes_and a test p = passes_by a test p.words

and_swapped : (a b : Bool) → (a && b) ≡ (b && a)
and_swapped true true = refl
and_swapped true false = refl
and_swapped false true = refl
and_swapped false false = refl

-- the same, the other way round
pub and_passes : (a : Bool) (test : List ℕ → Bool) (p : Ahead)
    → (next_passes test p && a) ≡ next_passes (λ word. a && test word) p
and_passes a test p = and_swapped (next_passes test p) a ∙ sym (passes_and a test p)

-- ---- sections

-- words up to the first option, and the words from there on
pub record Cut (words : List Word) (n : ℕ) : Type 0 where
  pub front_is : (sections_of words).front ≡ take n words
  pub sections_are : (sections_of words).sections ≡ (sections_of (drop n words)).sections
  pub begins : IsTrue (begins_so (drop n words))

cut_by : (word : Word) (words : List Word) (b : Bool) → word_is_option word ≡ b
    → Cut words (position_or_len word_is_option words)
    → Cut (word ∷ words) (cond (not b) (1 + position_or_len word_is_option words) 0)
unfolding sections_of
cut_by word words true e c = record { front_is = rw e refl; sections_are = refl; begins = e }
cut_by word words false e c =
    let one : 1 + position_or_len word_is_option words ≡ suc (position_or_len word_is_option words) = omega arith in
    subst (Cut (word ∷ words)) (sym one) (record {
      front_is = rw e (ap (λ (l : List Word). word ∷ l) c.front_is);
      sections_are = rw e c.sections_are;
      begins = c.begins;
    })

-- words are cut before their first option
pub cut : (words : List Word) → Cut words (position_or_len word_is_option words)
unfolding sections_of
cut [] = record { front_is = refl; sections_are = refl; begins = refl }
cut (word ∷ words) = cut_by word words (word_is_option word) refl (cut words)

-- an option with its values, and the options behind it
pub section_first : (d : Draft) (option : Word) (words : List Word) → IsTrue (begins_so (option ∷ words))
    → options_read d (sections_of (option ∷ words)).sections
    ≡ outcome.◌>>=◌ (option_read d option (sections_of words).front)
    (λ more. options_read more (sections_of words).sections)
unfolding sections_of options_read
section_first d option words h = rw h refl

pub none_read : (d : Draft) → options_read d (sections_of []).sections ≡ Ok d
unfolding sections_of options_read
none_read d = refl

-- where an option stands, or the end
pub within : (words : List Word) → position_or_len word_is_option words ≤ length words
within words = prefix_len-le-length _ words
