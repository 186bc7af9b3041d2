-- Lists of words are read word by word.
use Rattle.std.proofs.Common.{◌≡◌, ℕ, Bool, true, false, cond, List, [], ◌∷◌, ◌++◌}
use Rattle.std.proofs.Common.{Result, Ok, Err, refl, sym, ap, subst, ◌∙◌, append_assoc}
use Rattle.std.proofs.lemmas.List.{append-nil}
use Rattle.conf_words.specs.declared.splitting.Word.{Word}
use Rattle.keep_rules.specs.declared.fault.RuleFault.{RuleFault}
use Rattle.keep_rules.specs.declared.fault.RuleKind.{RuleKind}
use Rattle.keep_rules.specs.declared.fault.RuleKind.TheVariants.{MissingName}
use Rattle.keep_rules.specs.declared.texts.Part.{Part}
use Rattle.keep_rules.specs.declared.keeping.Modifiers.{Modifiers}
use Rattle.keep_rules.specs.Texts.{filter_of, is_flag}
use Rattle.keep_rules.specs.Reader.{Ahead, ahead, after_read, bind, give, first_word, next_word, settled, item}
use Rattle.keep_rules.specs.Reader.{first_passes, next_passes, behind_first, passed, put_before, behind}
use Rattle.keep_rules.specs.Filtering.{flags, flags_of, list, list_of, is_comma}
use Rattle.keep_rules.specs.Specifications.{modifiers, modifiers_of, modifier_of}

-- what was read, as a result
abbrev pub ok_of : {A : Type 0} → A × Ahead → Result (A × Ahead) RuleFault
ok_of x = Ok x

-- what was read is one
pub ok_is : {A : Type 0} (x y : A × Ahead) → ok_of x ≡ ok_of y → x ≡ y
ok_is x y e = cc

-- what is read behind two lists is read behind both
pub behind_put : {A : Type 0} (front : List A) (x : A) (read : Result (List A × Ahead) RuleFault)
    → behind front (put_before x read) ≡ behind (front ++ x ∷ []) read
behind_put front x (Ok xs) = ap (λ (l : List _). let R : Result (List _ × Ahead) RuleFault = Ok (l, xs.1) in R)
    (sym (append_assoc front (x ∷ []) xs.0))
behind_put front x (Err f) = refl

-- what is read behind nothing
pub behind_none : {A : Type 0} (read : Result (List A × Ahead) RuleFault) → behind [] read ≡ read
behind_none (Ok xs) = refl
behind_none (Err f) = refl

-- nothing more is read
pub behind_end : {A : Type 0} (front : List A) (p : Ahead) → behind front (Ok ([], p)) ≡ ok_of (front, p)
behind_end front p = ap (λ (l : List _). ok_of (l, p)) (append-nil front)

-- ---- flags

flags_end_by : (part : Part) (line : ℕ) (words : List Word) → first_passes (is_flag part) words ≡ false
    → flags_of part line words ≡ Ok ([], ahead line words)
flags_end_by part line [] h = refl
flags_end_by part line (word ∷ words) h = rw h refl

-- flags end where the next word is none
pub flags_end : (part : Part) (p : Ahead) → next_passes (is_flag part) p ≡ false → flags part p ≡ Ok ([], p)
unfolding flags next_passes
flags_end part p h = flags_end_by part p.line p.words h

flags_on_by : (part : Part) (missing : RuleKind) (line : ℕ) (words : List Word) (word : Word) (q : Ahead)
    → first_passes (is_flag part) words ≡ true → first_word missing line words ≡ Ok (word, q)
    → flags_of part line words ≡ put_before (filter_of word.text) (flags_of part q.line q.words)
flags_on_by part missing line [] word q h e = absurd cc
flags_on_by part missing line (first ∷ words) word q h e =
    let is = ok_is (first, ahead first.line words) (word, q) e in
    subst (λ (z : Word × Ahead). flags_of part line (first ∷ words)
    ≡ put_before (filter_of z.0.text) (flags_of part z.1.line z.1.words))
    is (rw h refl)

-- a flag is read, and then others
pub flags_on : (part : Part) (missing : RuleKind) (p : Ahead) (word : Word) (q : Ahead)
    → next_passes (is_flag part) p ≡ true → next_word missing p ≡ Ok (word, q)
    → flags part p ≡ put_before (filter_of word.text) (flags part q)
unfolding flags next_passes next_word
flags_on part missing p word q h e = flags_on_by part missing p.line p.words word q h e

no_fault_by : (test : List ℕ → Bool) (missing : RuleKind) (line : ℕ) (words : List Word) (f : RuleFault)
    → first_passes test words ≡ true → first_word missing line words ≡ Err f → ⊥
no_fault_by test missing line [] f h e = absurd cc
no_fault_by test missing line (word ∷ words) f h e = absurd cc

-- a word that passes a test is there
pub no_fault : (test : List ℕ → Bool) (missing : RuleKind) (p : Ahead) (f : RuleFault)
    → next_passes test p ≡ true → next_word missing p ≡ Err f → ⊥
unfolding next_passes next_word
no_fault test missing p f h e = no_fault_by test missing p.line p.words f h e

-- ---- lists with commas

list_two : {A : Type 0} (missing : RuleKind) (meaning : List ℕ → Result A RuleKind) (line : ℕ) (word comma : Word)
    (words : List Word) (d : Result A RuleKind) → meaning word.text ≡ d
    → list_of missing meaning line (word ∷ comma ∷ words)
    ≡ after_read (λ x _. cond (is_comma comma.text) (put_before x (list_of missing meaning comma.line words))
    (Ok (x ∷ [], ahead word.line (comma ∷ words)))) (settled word.line d (ahead word.line (comma ∷ words)))
unfolding bind item next_word
list_two missing meaning line word comma words d e = rw e refl

list_one : {A : Type 0} (missing : RuleKind) (meaning : List ℕ → Result A RuleKind) (line : ℕ) (word : Word)
    (d : Result A RuleKind) → meaning word.text ≡ d
    → list_of missing meaning line (word ∷ [])
    ≡ after_read (λ x. give (x ∷ [])) (settled word.line d (ahead word.line []))
unfolding bind item next_word
list_one missing meaning line word d e = rw e refl

item_is : {A : Type 0} (missing : RuleKind) (meaning : List ℕ → Result A RuleKind) (line : ℕ) (word : Word)
    (words : List Word) (d : Result A RuleKind) → meaning word.text ≡ d
    → item missing meaning (ahead line (word ∷ words)) ≡ settled word.line d (ahead word.line words)
unfolding bind item next_word
item_is missing meaning line word words d e = rw e refl

-- what a list is behind its first item
abbrev pub ListOn : {A : Type 0} → RuleKind → (List ℕ → Result A RuleKind) → Result (List A × Ahead) RuleFault
    → Result (A × Ahead) RuleFault → Type 0
ListOn missing meaning read (Ok x) =
    (next_passes is_comma x.1 ≡ false → read ≡ Ok (x.0 ∷ [], x.1))
    × (next_passes is_comma x.1 ≡ true → read ≡ put_before x.0 (list missing meaning (passed x.1)))
ListOn missing meaning read (Err f) = read ≡ Err f

list_by : {A : Type 0} (missing : RuleKind) (meaning : List ℕ → Result A RuleKind) (line : ℕ) (word : Word)
    (words : List Word) (d : Result A RuleKind) → meaning word.text ≡ d
    → ListOn missing meaning (list_of missing meaning line (word ∷ words)) (settled word.line d (ahead word.line words))
unfolding next_passes list passed give
list_by missing meaning line word [] (Ok x) e = (λ h. list_one missing meaning line word (Ok x) e, λ h. absurd cc)
list_by missing meaning line word [] (Err kind) e = list_one missing meaning line word (Err kind) e
list_by missing meaning line word (comma ∷ words) (Ok x) e = (
  λ h. list_two missing meaning line word comma words (Ok x) e ∙ rw h refl,
  λ h. list_two missing meaning line word comma words (Ok x) e ∙ rw h refl,
)
list_by missing meaning line word (comma ∷ words) (Err kind) e =
    list_two missing meaning line word comma words (Err kind) e

list_on_by : {A : Type 0} (missing : RuleKind) (meaning : List ℕ → Result A RuleKind) (line : ℕ) (words : List Word)
    → ListOn missing meaning (list_of missing meaning line words) (item missing meaning (ahead line words))
unfolding bind item next_word
list_on_by missing meaning line [] = refl
list_on_by missing meaning line (word ∷ words) = list_by missing meaning line word words (meaning word.text) refl

-- a list begins with an item, and goes on behind a comma
pub list_on : {A : Type 0} (missing : RuleKind) (meaning : List ℕ → Result A RuleKind) (p : Ahead)
    → ListOn missing meaning (list missing meaning p) (item missing meaning p)
unfolding list
list_on missing meaning p = list_on_by missing meaning p.line p.words

-- ---- modifiers

modifiers_end_by : (option : List ℕ) (m : Modifiers) (line : ℕ) (words : List Word)
    → first_passes is_comma words ≡ false
    → modifiers_of option m line words ≡ Ok (m, ahead line words)
modifiers_end_by option m line [] h = refl
modifiers_end_by option m line (comma ∷ []) h = rw h refl
modifiers_end_by option m line (comma ∷ word ∷ words) h = rw h refl

-- modifiers end where no comma stands
pub modifiers_end : (option : List ℕ) (m : Modifiers) (p : Ahead) → next_passes is_comma p ≡ false
    → modifiers option m p ≡ Ok (m, p)
unfolding modifiers next_passes
modifiers_end option m p h = modifiers_end_by option m p.line p.words h

-- what modifiers are behind one
abbrev pub ModifiersOn : List ℕ → Result (Modifiers × Ahead) RuleFault → Result (Modifiers × Ahead) RuleFault → Type 0
ModifiersOn option read (Ok m) = read ≡ modifiers option m.0 m.1
ModifiersOn option read (Err f) = read ≡ Err f

modifier_by : (option : List ℕ) (m : Modifiers) (line : ℕ) (comma word : Word) (words : List Word)
    (d : Result Modifiers RuleKind) → is_comma comma.text ≡ true → modifier_of option m word.text ≡ d
    → ModifiersOn option (modifiers_of option m line (comma ∷ word ∷ words))
    (settled word.line d (ahead word.line words))
unfolding modifiers bind item next_word
modifier_by option m line comma word words (Ok more) h e = rw (h, e) refl
modifier_by option m line comma word words (Err kind) h e = rw (h, e) refl

modifiers_on_by : (option : List ℕ) (m : Modifiers) (line : ℕ) (words : List Word) → first_passes is_comma words ≡ true
    → ModifiersOn option (modifiers_of option m line words)
    (item MissingName (modifier_of option m) (behind_first line words))
unfolding bind item next_word
modifiers_on_by option m line [] h = absurd cc
modifiers_on_by option m line (comma ∷ []) h = rw h refl
modifiers_on_by option m line (comma ∷ word ∷ words) h =
    modifier_by option m line comma word words (modifier_of option m word.text) h refl

-- a modifier stands behind a comma
pub modifiers_on : (option : List ℕ) (m : Modifiers) (p : Ahead) → next_passes is_comma p ≡ true
    → ModifiersOn option (modifiers option m p) (item MissingName (modifier_of option m) (passed p))
unfolding modifiers next_passes passed
modifiers_on option m p h = modifiers_on_by option m p.line p.words h
