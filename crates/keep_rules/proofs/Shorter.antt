-- How many words a reader takes at least.
use Rattle.std.proofs.Common.{◌≡◌, ℕ, ◌+◌, ◌≤◌, Bool, true, false, cond, List, [], ◌∷◌, length}
use Rattle.std.proofs.Common.{Result, Ok, Err, refl, ap, arith}
use Rattle.conf_words.specs.declared.splitting.Word.{Word}
use Rattle.keep_rules.specs.declared.fault.RuleFault.{RuleFault}
use Rattle.keep_rules.specs.declared.fault.RuleKind.{RuleKind}
use Rattle.keep_rules.specs.declared.rules.Filter.{Filter}
use Rattle.keep_rules.specs.declared.texts.Part.{Part}
use Rattle.keep_rules.specs.Texts.{filter_of, is_flag}
use Rattle.keep_rules.specs.Reader.{Ahead, ahead, Reader, after_read, bind, give, first_word, next_word, settled, item}
use Rattle.keep_rules.specs.Reader.{next_passes, behind_first, passed, put_before, if_next, if_ahead}
use Rattle.keep_rules.specs.Filtering.{flags, flags_of, list, list_of, is_comma}
use Rattle.keep_rules.proofs.Steps.{ok_is}

-- a reader takes so many words at least
pub record Takes {A : Type 0} (n : ℕ) (r : Reader A) : Type 0 where
  pub taken : (p : Ahead) (x : A) (q : Ahead) → r p ≡ Ok (x, q) → n + length q.words ≤ length p.words

-- what was read
pub after_ok : {A B : Type 0} (f : A → Reader B) (d : Result (A × Ahead) RuleFault) (y : B × Ahead)
    → after_read f d ≡ Ok y → (x : A) × (q : Ahead) × (d ≡ Ok (x, q)) × (f x q ≡ Ok y)
after_ok f (Ok x) y h = (x.0, x.1, refl, h)
after_ok f (Err e) y h = absurd cc

pub bind_takes : {A B : Type 0} {m n : ℕ} {r : Reader A} {f : A → Reader B} → Takes m r → ((x : A) → Takes n (f x))
    → Takes (m + n) (bind r f)
unfolding bind
bind_takes {f = f} a b = record {
  taken = λ p y q h. let o = after_ok f _ (y, q) h in
      omega (arith, a.taken p o.0 o.1 o.2, (b o.0).taken o.1 y q o.3);
}

-- what was given is what was read
pub given_is : {A : Type 0} (x y : A) (p q : Ahead) → give x p ≡ Ok (y, q) → (x ≡ y) × (p ≡ q)
unfolding give
given_is x y p q h = let e = ok_is (x, p) (y, q) h in (ap (λ (z : _ × Ahead). z.0) e, ap (λ (z : _ × Ahead). z.1) e)

pub give_takes : {A : Type 0} (x : A) → Takes 0 (give x)
give_takes x =
    record { taken = λ p y q h. let e = (given_is x y p q h).1 in omega (arith, ap (λ (z : Ahead). length z.words) e) }

-- fewer words at least
pub fewer : {A : Type 0} {r : Reader A} (m n : ℕ) → n ≤ m → Takes m r → Takes n r
fewer m n le t = record { taken = λ p x q h. omega (arith, le, t.taken p x q h) }

settled_is : {A : Type 0} (line : ℕ) (d : Result A RuleKind) (p : Ahead) (x : A) (q : Ahead)
    → settled line d p ≡ Ok (x, q) → p ≡ q
settled_is line (Ok y) p x q h = ap (λ (z : _ × Ahead). z.1) (ok_is (y, p) (x, q) h)
settled_is line (Err kind) p x q h = absurd cc

first_taken : (missing : RuleKind) (line : ℕ) (words : List Word) (word : Word) (q : Ahead)
    → first_word missing line words ≡ Ok (word, q) → 1 + length q.words ≤ length words
first_taken missing line [] word q h = absurd cc
first_taken missing line (first ∷ words) word q h =
    let e : ahead first.line words ≡ q =
    ap (λ (z : Word × Ahead). z.1) (ok_is (first, ahead first.line words) (word, q) h) in
    omega (arith, ap (λ (z : Ahead). length z.words) e)

pub next_takes : (missing : RuleKind) → Takes 1 (next_word missing)
unfolding next_word
next_takes missing = record { taken = λ p word q h. first_taken missing p.line p.words word q h }

settled_takes : {A : Type 0} (line : ℕ) (d : Result A RuleKind) → Takes 0 (settled line d)
settled_takes line d =
    record {
      taken = λ p x q h. let e = settled_is line d p x q h in
          omega (arith, ap (λ (z : Ahead). length z.words) e);
    }

pub item_takes : {A : Type 0} (missing : RuleKind) (meaning : List ℕ → Result A RuleKind)
    → Takes 1 (item missing meaning)
unfolding item
item_takes missing meaning = bind_takes (next_takes missing) (λ word. settled_takes word.line (meaning word.text))

passed_by : (line : ℕ) (words : List Word) → length (behind_first line words).words ≤ length words
passed_by line [] = omega arith
passed_by line (word ∷ words) = omega arith

pub passed_takes : (p : Ahead) → length (passed p).words ≤ length p.words
unfolding passed
passed_takes p = passed_by p.line p.words

next_by : {A : Type 0} (n : ℕ) (b : Bool) (r s : Reader A) (p q : Ahead) (x : A) → Takes n r → Takes n s
    → cond b (r (passed p)) (s p) ≡ Ok (x, q) → n + length q.words ≤ length p.words
next_by n true r s p q x a b h = omega (arith, a.taken (passed p) x q h, passed_takes p)
next_by n false r s p q x a b h = b.taken p x q h

pub if_next_takes : {A : Type 0} {n : ℕ} {r s : Reader A} (test : List ℕ → Bool) → Takes n r → Takes n s
    → Takes n (if_next test r s)
unfolding if_next
if_next_takes {n = n} {r = r} {s = s} test a b =
    record { taken = λ p x q h. next_by n (next_passes test p) r s p q x a b h }

ahead_by : {A : Type 0} (n : ℕ) (b : Bool) (r s : Reader A) (p q : Ahead) (x : A) → Takes n r → Takes n s
    → cond b (r p) (s p) ≡ Ok (x, q) → n + length q.words ≤ length p.words
ahead_by n true r s p q x a b h = a.taken p x q h
ahead_by n false r s p q x a b h = b.taken p x q h

pub if_ahead_takes : {A : Type 0} {n : ℕ} {r s : Reader A} (test : List ℕ → Bool) → Takes n r → Takes n s
    → Takes n (if_ahead test r s)
unfolding if_ahead
if_ahead_takes {n = n} {r = r} {s = s} test a b =
    record { taken = λ p x q h. ahead_by n (next_passes test p) r s p q x a b h }

put_ok : {A : Type 0} (x : A) (d : Result (List A × Ahead) RuleFault) (ys : List A) (q : Ahead)
    → put_before x d ≡ Ok (ys, q) → (xs : List A) × (d ≡ Ok (xs, q))
put_ok x (Ok xs) ys q h =
    let e : xs.1 ≡ q = ap (λ (z : List _ × Ahead). z.1) (ok_is (x ∷ xs.0, xs.1) (ys, q) h) in
    (xs.0, ap (λ (z : Ahead). let R : Result (List _ × Ahead) RuleFault = Ok (xs.0, z) in R) e)
put_ok x (Err f) ys q h = absurd cc

flags_by : (part : Part) (line : ℕ) (word : Word) (words : List Word) (b : Bool) (fs : List Filter) (q : Ahead)
    → ((gs : List Filter) (r : Ahead) → flags_of part word.line words ≡ Ok (gs, r) → length r.words ≤ length words)
    → cond b (put_before (filter_of word.text) (flags_of part word.line words)) (Ok ([], ahead line (word ∷ words)))
    ≡ Ok (fs, q) → length q.words ≤ length (word ∷ words)
flags_by part line word words true fs q ih h =
    let o = put_ok (filter_of word.text) (flags_of part word.line words) fs q h in omega (arith, ih o.0 q o.1)
flags_by part line word words false fs q ih h =
    let e : ahead line (word ∷ words) ≡ q =
    ap (λ (z : List Filter × Ahead). z.1) (ok_is ([], ahead line (word ∷ words)) (fs, q) h) in
    omega (arith, ap (λ (z : Ahead). length z.words) e)

flags_taken : (part : Part) (line : ℕ) (words : List Word) (fs : List Filter) (q : Ahead)
    → flags_of part line words ≡ Ok (fs, q) → length q.words ≤ length words
flags_taken part line [] fs q h =
    let e : ahead line [] ≡ q = ap (λ (z : List Filter × Ahead). z.1) (ok_is ([], ahead line []) (fs, q) h) in
    omega (arith, ap (λ (z : Ahead). length z.words) e)
flags_taken part line (word ∷ words) fs q h =
    flags_by part line word words (is_flag part word.text) fs q (flags_taken part word.line words) h

pub flags_takes : (part : Part) → Takes 0 (flags part)
unfolding flags
flags_takes part = record { taken = λ p fs q h. omega (arith, flags_taken part p.line p.words fs q h) }

-- what a list of words takes, with what is read behind it
list_by : {A : Type 0} (missing : RuleKind) (meaning : List ℕ → Result A RuleKind) (line : ℕ) (word comma : Word)
    (words : List Word) (b : Bool) (d : Result A RuleKind) (xs : List A) (q : Ahead)
    → ((ys : List A) (r : Ahead) → list_of missing meaning comma.line words ≡ Ok (ys, r)
    → length r.words ≤ length words)
    → after_read (λ x _. cond b (put_before x (list_of missing meaning comma.line words))
    (Ok (x ∷ [], ahead word.line (comma ∷ words)))) (settled word.line d (ahead word.line (comma ∷ words))) ≡ Ok (xs, q)
    → length q.words ≤ length (word ∷ comma ∷ words)
list_by missing meaning line word comma words true (Ok x) xs q ih h =
    let o = put_ok x (list_of missing meaning comma.line words) xs q h in omega (arith, ih o.0 q o.1)
list_by missing meaning line word comma words false (Ok x) xs q ih h =
    let e : ahead word.line (comma ∷ words) ≡ q =
    ap (λ (z : List _ × Ahead). z.1) (ok_is (x ∷ [], ahead word.line (comma ∷ words)) (xs, q) h) in
    omega (arith, ap (λ (z : Ahead). length z.words) e)
list_by missing meaning line word comma words b (Err kind) xs q ih h = absurd cc

list_last : {A : Type 0} (line : ℕ) (word : Word) (d : Result A RuleKind) (xs : List A) (q : Ahead)
    → after_read (λ x. give (x ∷ [])) (settled word.line d (ahead word.line [])) ≡ Ok (xs, q)
    → length q.words ≤ length (word ∷ [])
unfolding give
list_last line word (Ok x) xs q h =
    let e : ahead word.line [] ≡ q = ap (λ (z : List _ × Ahead). z.1) (ok_is (x ∷ [], ahead word.line []) (xs, q) h) in
    omega (arith, ap (λ (z : Ahead). length z.words) e)
list_last line word (Err kind) xs q h = absurd cc

list_taken : {A : Type 0} (missing : RuleKind) (meaning : List ℕ → Result A RuleKind) (line : ℕ) (words : List Word)
    (xs : List A) (q : Ahead) → list_of missing meaning line words ≡ Ok (xs, q) → length q.words ≤ length words
unfolding bind item next_word
list_taken missing meaning line [] xs q h = absurd cc
list_taken missing meaning line (word ∷ []) xs q h = list_last line word (meaning word.text) xs q h
list_taken missing meaning line (word ∷ comma ∷ words) xs q h =
    list_by missing meaning line word comma words (is_comma comma.text) (meaning word.text) xs q
    (list_taken missing meaning comma.line words) h

pub list_takes : {A : Type 0} (missing : RuleKind) (meaning : List ℕ → Result A RuleKind)
    → Takes 0 (list missing meaning)
unfolding list
list_takes missing meaning =
    record { taken = λ p xs q h. omega (arith, list_taken missing meaning p.line p.words xs q h) }
