-- Member specifications are read one by one.
use Rattle.std.proofs.Common.{◌≡◌, ℕ, zero, suc, ◌≤◌, Bool, true, false, cond, List, [], ◌∷◌, length}
use Rattle.std.proofs.Common.{Result, Ok, Err, Some, None, refl, sym, ap, subst, ◌∙◌, arith, codes}
use Rattle.jv_base.specs.Names.{is_text}
use Rattle.conf_words.specs.declared.splitting.Word.{Word}
use Rattle.keep_rules.specs.declared.fault.RuleFault.{RuleFault}
use Rattle.keep_rules.specs.declared.fault.RuleKind.TheVariants.{BadMemberSpec}
use Rattle.keep_rules.specs.declared.rules.Filter.{Filter}
use Rattle.keep_rules.specs.declared.rules.MemberSpec.{MemberSpec}
use Rattle.keep_rules.specs.declared.texts.Part.TheVariants.{Member}
use Rattle.keep_rules.specs.Reader.{Ahead, ahead, fault, after_read, bind, give, item, expected, mark}
use Rattle.keep_rules.specs.Reader.{next_passes, passed, put_before, if_next, next_word}
use Rattle.keep_rules.specs.Filtering.{flags}
use Rattle.keep_rules.specs.Specifications.{types, closed_types, arguments, any_arguments, constructor, typed}
use Rattle.keep_rules.specs.Specifications.{form_of, member, member_pattern, members, members_in}
use Rattle.keep_rules.proofs.Shorter.{Takes, bind_takes, give_takes, fewer, item_takes, if_next_takes, if_ahead_takes}
use Rattle.keep_rules.proofs.Shorter.{flags_takes, list_takes}

expected_takes : Takes 1 member_pattern
unfolding expected
expected_takes = item_takes _ _

mark_takes : (text : List ℕ) → Takes 1 (mark Member text)
unfolding mark
mark_takes text = item_takes _ _

closed_takes : Takes 0 closed_types
unfolding closed_types types
closed_takes = fewer 1 0 (omega arith)
    (bind_takes {m = 0} {n = 1} (list_takes _ _)
    (λ types. bind_takes {m = 1} {n = 0} (mark_takes (codes ")")) (λ _. give_takes types)))

arguments_take : Takes 0 arguments
unfolding arguments
arguments_take = if_next_takes _ (give_takes []) closed_takes

any_take : Takes 0 any_arguments
unfolding any_arguments
any_take = if_next_takes _ (bind_takes {m = 0} {n = 0} arguments_take (λ types. give_takes (Some types)))
    (give_takes None)

constructor_takes : Takes 0 constructor
unfolding constructor
constructor_takes = bind_takes {m = 0} {n = 0} arguments_take (λ args. give_takes _)

typed_takes : (ty : List ℕ) → Takes 0 (typed ty)
unfolding typed
typed_takes ty = fewer 1 0 (omega arith)
    (bind_takes {m = 1} {n = 0} expected_takes (λ name. bind_takes {m = 0} {n = 0} any_take (λ args. give_takes _)))

form_takes : (names : List Filter) (first : List ℕ) → Takes 0 (form_of names first)
unfolding form_of
form_takes names first = if_ahead_takes _ (give_takes _) (if_next_takes _ constructor_takes (typed_takes first))

-- a member specification takes a word
pub member_takes : (names : List Filter) → Takes 1 (member names)
unfolding member
member_takes names = fewer 2 1 (omega arith)
    (bind_takes {m = 0} {n = 2} (flags_takes Member)
    (λ flags. bind_takes {m = 1} {n = 1} expected_takes
    (λ first. bind_takes {m = 0} {n = 1} (form_takes names first)
    (λ form. bind_takes {m = 1} {n = 0} (mark_takes (codes ";")) (λ _. give_takes _)))))

-- ---- members up to the brace

-- a closing brace
abbrev is_brace : List ℕ → Bool
is_brace word = is_text word (codes "}")

-- members behind one
abbrev more_in : ℕ → List Filter → Result (MemberSpec × Ahead) RuleFault → Result (List MemberSpec × Ahead) RuleFault
more_in n names d = after_read (λ first. bind (members_in n names) (λ others. give (first ∷ others))) d

more_same : (m n : ℕ) (names : List Filter) (d : Result (MemberSpec × Ahead) RuleFault)
    → ((x : MemberSpec) (q : Ahead) → d ≡ Ok (x, q) → members_in m names q ≡ members_in n names q)
    → more_in m names d ≡ more_in n names d
unfolding bind
more_same m n names (Ok x) h = ap (after_read (λ others. give (x.0 ∷ others))) (h x.0 x.1 refl)
more_same m n names (Err f) h = refl

put_is : (x : MemberSpec) (d : Result (List MemberSpec × Ahead) RuleFault)
    → after_read (λ others. give (x ∷ others)) d ≡ put_before x d
unfolding give
put_is x (Ok xs) = refl
put_is x (Err f) = refl

more_put : (n : ℕ) (names : List Filter) (x : MemberSpec) (q : Ahead)
    → more_in n names (Ok (x, q)) ≡ put_before x (members_in n names q)
unfolding bind
more_put n names x q = put_is x (members_in n names q)

step : (n : ℕ) (names : List Filter) (p : Ahead)
    → members_in (suc n) names p ≡ cond (next_passes is_brace p) (Ok ([], passed p)) (more_in n names (member names p))
unfolding members_in if_next give bind
step n names p = refl

no_word : (line : ℕ) (test : List ℕ → Bool) → next_passes test (ahead line []) ≡ true → ⊥
unfolding next_passes
no_word line test h = absurd cc

-- a member specification faults where no word is left
none_left : (names : List Filter) (line : ℕ) → member names (ahead line []) ≡ Err (fault line BadMemberSpec)
unfolding member bind flags expected item next_word
none_left names line = refl

no_words_by : (n : ℕ) (names : List Filter) (line : ℕ)
    → members_in n names (ahead line []) ≡ Err (fault line BadMemberSpec)
unfolding members_in next_passes
no_words_by zero names line = refl
no_words_by (suc n) names line = step n names (ahead line []) ∙ ap (more_in n names) (none_left names line)

step_same : (b : Bool) (e : Result (List MemberSpec × Ahead) RuleFault) (m n : ℕ) (names : List Filter) (p : Ahead)
    → ((x : MemberSpec) (q : Ahead) → member names p ≡ Ok (x, q) → members_in m names q ≡ members_in n names q)
    → cond b e (more_in m names (member names p)) ≡ cond b e (more_in n names (member names p))
step_same true e m n names p h = refl
step_same false e m n names p h = more_same m n names (member names p) h

-- more than as many as there are words is no more
fuel_by : (m n : ℕ) (names : List Filter) (line : ℕ) (words : List Word) → length words ≤ m → length words ≤ n
    → members_in m names (ahead line words) ≡ members_in n names (ahead line words)
fuel_by m n names line [] a b = no_words_by m names line ∙ sym (no_words_by n names line)
fuel_by zero n names line (word ∷ words) a b = absurd (omega (arith, a))
fuel_by (suc m) zero names line (word ∷ words) a b = absurd (omega (arith, b))
fuel_by (suc m) (suc n) names line (word ∷ words) a b =
    let p : Ahead = ahead line (word ∷ words) in
    step m names p
    ∙ step_same (next_passes is_brace p) (Ok ([], passed p)) m n names p
    (λ x q h. let t = (member_takes names).taken p x q h in
    fuel_by m n names q.line q.words (omega (arith, t, a)) (omega (arith, t, b)))
    ∙ sym (step n names p)

-- what members are where no brace closes them
abbrev pub MembersOn : List Filter → Result (List MemberSpec × Ahead) RuleFault → Result (MemberSpec × Ahead) RuleFault
    → Type 0
MembersOn names read (Ok x) = read ≡ put_before x.0 (members names x.1)
MembersOn names read (Err f) = read ≡ Err f

on_by : (n : ℕ) (names : List Filter) (p : Ahead) (d : Result (MemberSpec × Ahead) RuleFault) → member names p ≡ d
    → length p.words ≤ suc n → next_passes is_brace p ≡ false → MembersOn names (members_in (suc n) names p) d
unfolding members
on_by n names p (Ok x) e le h =
    let t = (member_takes names).taken p x.0 x.1 e in
    step n names p ∙ rw h (ap (more_in n names) e ∙ more_put n names x.0 x.1
    ∙ ap (put_before x.0) (fuel_by n (length x.1.words) names x.1.line x.1.words (omega (arith, t, le)) (omega arith)))
on_by n names p (Err f) e le h = step n names p ∙ rw h (ap (more_in n names) e)

members_on_by : (names : List Filter) (line : ℕ) (words : List Word) → next_passes is_brace (ahead line words) ≡ false
    → MembersOn names (members_in (length words) names (ahead line words)) (member names (ahead line words))
members_on_by names line [] h =
    subst (MembersOn names (members_in 0 names (ahead line []))) (sym (none_left names line))
    (no_words_by 0 names line)
members_on_by names line (word ∷ words) h =
    on_by (length words) names (ahead line (word ∷ words)) _ refl (omega arith) h

-- a member, and then others
pub members_on : (names : List Filter) (p : Ahead) → next_passes is_brace p ≡ false
    → MembersOn names (members names p) (member names p)
unfolding members
members_on names p h = members_on_by names p.line p.words h

members_end_by : (names : List Filter) (line : ℕ) (words : List Word) → next_passes is_brace (ahead line words) ≡ true
    → members_in (length words) names (ahead line words) ≡ Ok ([], passed (ahead line words))
members_end_by names line [] h = absurd (no_word line is_brace h)
members_end_by names line (word ∷ words) h = step (length words) names (ahead line (word ∷ words)) ∙ rw h refl

-- a brace closes them
pub members_end : (names : List Filter) (p : Ahead) → next_passes is_brace p ≡ true
    → members names p ≡ Ok ([], passed p)
unfolding members
members_end names p h = members_end_by names p.line p.words h
