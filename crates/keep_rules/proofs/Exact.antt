-- A reader takes exactly the texts of a relation: what that says, and the law of each reader.
use Rattle.std.proofs.Common.{◌≡◌, ◌⊎◌, ℕ, ◌<◌, Bool, true, false, cond, List, [], ◌∷◌, ◌++◌, length}
use Rattle.std.proofs.Common.{Result, Ok, Err, Option, Some, None, refl, sym, ap, subst, ◌∙◌, arith, codes, inl, inr}
use Rattle.std.specs.Prelude.{map, IsTrue}
use Rattle.std.specs.List.{list_all}
use Rattle.std.proofs.lemmas.Bool.{and_parts}
use Rattle.jv_base.proofs.Equality.{same_text}
use Rattle.conf_words.specs.declared.splitting.Word.{Word}
use Rattle.keep_rules.specs.declared.fault.RuleFault.{RuleFault}
use Rattle.keep_rules.specs.declared.fault.RuleKind.{RuleKind}
use Rattle.keep_rules.specs.declared.fault.RuleKind.TheVariants.{MissingName}
use Rattle.keep_rules.specs.declared.rules.Filter.{Filter}
use Rattle.keep_rules.specs.declared.texts.Part.{Part}
use Rattle.keep_rules.specs.declared.keeping.Modifiers.{Modifiers}
use Rattle.keep_rules.specs.Texts.{filter_of, is_flag}
use Rattle.keep_rules.specs.Reader.{Ahead, ahead, fault, Reader, after_read, bind, give, first_word, next_word, settled}
use Rattle.keep_rules.specs.Reader.{item, first_passes, next_passes, behind_first, passed, put_before, if_next}
use Rattle.keep_rules.specs.Reader.{if_ahead, if_end, is_end}
use Rattle.keep_rules.specs.Filtering.{flags, flags_of, list, list_of, is_comma}
use Rattle.keep_rules.specs.Specifications.{modifiers, modifiers_of, modifier_of, modifier_in, with_modifier}
use Rattle.keep_rules.specs.Grammar.{joined, behind_commas, Modify}
use Rattle.keep_rules.specs.Laws.{text_of}
use Rattle.keep_rules.proofs.Shorter.{after_ok, given_is}
use Rattle.keep_rules.proofs.Steps.{ok_is, ok_of}

-- the texts of the words ahead
abbrev pub texts : Ahead → List (List ℕ)
texts p = map text_of p.words

-- what a reader takes stands there, and what stands there is taken
pub record Exact {A : Type 0} (r : Reader A) (g : List (List ℕ) → A → List (List ℕ) → Type 0) : Type 0 where
  pub found : (p : Ahead) (x : A) (q : Ahead) → r p ≡ Ok (x, q) → g (texts p) x (texts q)
  pub only : (p : Ahead) (x : A) (rest : List (List ℕ)) → g (texts p) x rest
      → (q : Ahead) × (r p ≡ Ok (x, q)) × (texts q ≡ rest)

-- the same relation, told otherwise
pub retold : {A : Type 0} {r : Reader A} {g : List (List ℕ) → A → List (List ℕ) → Type 0}
    (h : List (List ℕ) → A → List (List ℕ) → Type 0)
    → ((ws : List (List ℕ)) (x : A) (rest : List (List ℕ)) → g ws x rest → h ws x rest)
    → ((ws : List (List ℕ)) (x : A) (rest : List (List ℕ)) → h ws x rest → g ws x rest)
    → Exact r g → Exact r h
retold h there back e = record {
  found = λ p x q k. there (texts p) x (texts q) (e.found p x q k);
  only = λ p x rest k. e.only p x rest (back (texts p) x rest k);
}

-- ---- no word

pub give_exact : {A : Type 0} (x : A) → Exact (give x) (λ ws y rest. (y ≡ x) × (ws ≡ rest))
unfolding give
give_exact x = record {
  found = λ p y q h. let e = given_is x y p q h in (sym e.0, ap texts e.1);
  only = λ p y rest h. (p, rw h.0 refl, h.1);
}

-- ---- a part, and then more

-- one part behind the other
abbrev pub Both : {A B : Type 0} → (List (List ℕ) → A → List (List ℕ) → Type 0)
    → (A → List (List ℕ) → B → List (List ℕ) → Type 0) → List (List ℕ) → B → List (List ℕ) → Type 0
Both g h ws y rest = (x : _) × (mid : List (List ℕ)) × g ws x mid × h x mid y rest

pub bind_exact : {A B : Type 0} {r : Reader A} {f : A → Reader B} {g : List (List ℕ) → A → List (List ℕ) → Type 0}
    (h : A → List (List ℕ) → B → List (List ℕ) → Type 0) → Exact r g → ((x : A) → Exact (f x) (h x))
    → Exact (bind r f) (Both g h)
unfolding bind
bind_exact {r = r} {f = f} h a b = record {
  found = λ p y q k. let o = after_ok f (r p) (y, q) k in
      (o.0, texts o.1, a.found p o.0 o.1 o.2, (b o.0).found o.1 y q o.3);
  only = λ p y rest k.
      let one = a.only p k.0 k.1 k.2 in
      let two = (b k.0).only one.0 y rest (subst (λ (ws : List (List ℕ)). h k.0 ws y rest) (sym one.2) k.3) in
      (two.0, rw one.1 two.1, two.2);
}

-- ---- the next word

-- the first text is that of the first word
pub first_of : (words : List Word) (w : List ℕ) (rest : List (List ℕ)) → map text_of words ≡ w ∷ rest
    → (word : Word) × (others : List Word) × (words ≡ word ∷ others) × (word.text ≡ w) × (map text_of others ≡ rest)
first_of [] w rest h = absurd cc
first_of (word ∷ others) w rest h = (word, others, refl, cc, cc)

settled_ok : {A : Type 0} (line : ℕ) (d : Result A RuleKind) (p : Ahead) (x : A) (q : Ahead)
    → settled line d p ≡ Ok (x, q) → (d ≡ Ok x) × (p ≡ q)
settled_ok line (Ok y) p x q h =
    let e = ok_is (y, p) (x, q) h in
    (ap (λ (z : _ × Ahead). let R : Result _ RuleKind = Ok z.0 in R) e, ap (λ (z : _ × Ahead). z.1) e)
settled_ok line (Err kind) p x q h = absurd cc

item_found : {A : Type 0} (missing : RuleKind) (meaning : List ℕ → Result A RuleKind) (line : ℕ) (words : List Word)
    (x : A)
    (q : Ahead) → after_read (λ word. settled word.line (meaning word.text)) (first_word missing line words) ≡ Ok (x, q)
    → (w : List ℕ) × (map text_of words ≡ w ∷ texts q) × (meaning w ≡ Ok x)
item_found missing meaning line [] x q h = absurd cc
item_found missing meaning line (word ∷ words) x q h =
    let e = settled_ok word.line (meaning word.text) (ahead word.line words) x q h in
    (word.text, ap (λ (z : Ahead). word.text ∷ texts z) e.1, e.0)

item_only : {A : Type 0} (missing : RuleKind) (meaning : List ℕ → Result A RuleKind) (line : ℕ) (words : List Word)
    (x : A)
    (w : List ℕ) (rest : List (List ℕ)) → map text_of words ≡ w ∷ rest → meaning w ≡ Ok x
    → (q : Ahead)
    × (after_read (λ word. settled word.line (meaning word.text)) (first_word missing line words) ≡ Ok (x, q))
    × (texts q ≡ rest)
item_only missing meaning line [] x w rest h e = absurd cc
item_only missing meaning line (word ∷ words) x w rest h e =
    let is : word.text ≡ w = cc in
    let others : map text_of words ≡ rest = cc in
    (ahead word.line words, rw (is, e) refl, others)

pub item_exact : {A : Type 0} (missing : RuleKind) (meaning : List ℕ → Result A RuleKind)
    → Exact (item missing meaning) (λ ws x rest. (w : List ℕ) × (ws ≡ w ∷ rest) × (meaning w ≡ Ok x))
unfolding item bind next_word
item_exact missing meaning = record {
  found = λ p x q h. item_found missing meaning p.line p.words x q h;
  only = λ p x rest h. item_only missing meaning p.line p.words x h.0 rest h.1 h.2;
}

-- ---- by the next word

-- the first text passes the test
abbrev pub starts : (List ℕ → Bool) → List (List ℕ) → Bool
starts test [] = false
starts test (w ∷ ws) = test w

starts_by : (test : List ℕ → Bool) (words : List Word) → first_passes test words ≡ starts test (map text_of words)
starts_by test [] = refl
starts_by test (word ∷ words) = refl

pub starts_is : (test : List ℕ → Bool) (p : Ahead) → next_passes test p ≡ starts test (texts p)
unfolding next_passes
starts_is test p = starts_by test p.words

-- one reader behind a word that passes, or another
abbrev pub Next : {A : Type 0} → (List ℕ → Bool) → (List (List ℕ) → A → List (List ℕ) → Type 0)
    → (List (List ℕ) → A → List (List ℕ) → Type 0) → List (List ℕ) → A → List (List ℕ) → Type 0
Next test g h ws x rest =
    ((w : List ℕ) × (mid : List (List ℕ)) × (ws ≡ w ∷ mid) × IsTrue (test w) × g mid x rest)
    ⊎ ((starts test ws ≡ false) × h ws x rest)

passed_by : (test : List ℕ → Bool) (line : ℕ) (words : List Word) → starts test (map text_of words) ≡ true
    → (w : List ℕ) × (map text_of words ≡ w ∷ texts (behind_first line words)) × IsTrue (test w)
passed_by test line [] h = absurd cc
passed_by test line (word ∷ words) h = (word.text, refl, h)

pub passed_is : (test : List ℕ → Bool) (p : Ahead) → starts test (texts p) ≡ true
    → (w : List ℕ) × (texts p ≡ w ∷ texts (passed p)) × IsTrue (test w)
unfolding passed
passed_is test p h = passed_by test p.line p.words h

next_found : {A : Type 0} {r s : Reader A} {g h : List (List ℕ) → A → List (List ℕ) → Type 0} (test : List ℕ → Bool)
    (b : Bool) (p : Ahead) (x : A) (q : Ahead) → Exact r g → Exact s h → starts test (texts p) ≡ b
    → cond b (r (passed p)) (s p) ≡ Ok (x, q) → Next test g h (texts p) x (texts q)
next_found test true p x q a b e k =
    let w = passed_is test p e in inl (w.0, texts (passed p), w.1, w.2, a.found (passed p) x q k)
next_found test false p x q a b e k = inr (e, b.found p x q k)

behind_is : (w : List ℕ) (line : ℕ) (words : List Word) (mid : List (List ℕ)) → map text_of words ≡ w ∷ mid
    → texts (behind_first line words) ≡ mid
behind_is w line [] mid h = absurd cc
behind_is w line (word ∷ words) mid h = cc

pub texts_passed : (w : List ℕ) (p : Ahead) (mid : List (List ℕ)) → texts p ≡ w ∷ mid → texts (passed p) ≡ mid
unfolding passed
texts_passed w p mid h = behind_is w p.line p.words mid h

starts_with : (test : List ℕ → Bool) (w : List ℕ) (ws mid : List (List ℕ)) → ws ≡ w ∷ mid → IsTrue (test w)
    → starts test ws ≡ true
starts_with test w ws mid e t = ap (starts test) e ∙ t

pub if_next_exact : {A : Type 0} {r s : Reader A} {g h : List (List ℕ) → A → List (List ℕ) → Type 0}
    (test : List ℕ → Bool) → Exact r g → Exact s h → Exact (if_next test r s) (Next test g h)
unfolding if_next
if_next_exact {r = r} {s = s} {g = g} {h = h} test a b = record {
  found = λ p x q k. next_found test (next_passes test p) p x q a b (sym (starts_is test p)) k;
  only = λ p x rest k.
      elim k [
        | inl y ↦
            let one = a.only (passed p) x rest (subst (λ (ws : List (List ℕ)). g ws x rest)
            (sym (texts_passed y.0 p y.1 y.2)) y.4) in
            (one.0, rw (starts_is test p ∙ starts_with test y.0 (texts p) y.1 y.2 y.3) one.1, one.2)
        | inr n ↦
            let one = b.only p x rest n.1 in
            (one.0, rw (starts_is test p ∙ n.0) one.1, one.2)
      ];
}

-- one reader where the next word passes, or another
abbrev pub Peeks : {A : Type 0} → (List ℕ → Bool) → (List (List ℕ) → A → List (List ℕ) → Type 0)
    → (List (List ℕ) → A → List (List ℕ) → Type 0) → List (List ℕ) → A → List (List ℕ) → Type 0
Peeks test g h ws x rest = ((starts test ws ≡ true) × g ws x rest) ⊎ ((starts test ws ≡ false) × h ws x rest)

peeks_found : {A : Type 0} {r s : Reader A} {g h : List (List ℕ) → A → List (List ℕ) → Type 0} (test : List ℕ → Bool)
    (b : Bool) (p : Ahead) (x : A) (q : Ahead) → Exact r g → Exact s h → starts test (texts p) ≡ b
    → cond b (r p) (s p) ≡ Ok (x, q) → Peeks test g h (texts p) x (texts q)
peeks_found test true p x q a b e k = inl (e, a.found p x q k)
peeks_found test false p x q a b e k = inr (e, b.found p x q k)

pub if_ahead_exact : {A : Type 0} {r s : Reader A} {g h : List (List ℕ) → A → List (List ℕ) → Type 0}
    (test : List ℕ → Bool) → Exact r g → Exact s h → Exact (if_ahead test r s) (Peeks test g h)
unfolding if_ahead
if_ahead_exact {r = r} {s = s} test a b = record {
  found = λ p x q k. peeks_found test (next_passes test p) p x q a b (sym (starts_is test p)) k;
  only = λ p x rest k.
      elim k [
        | inl y ↦ let one = a.only p x rest y.1 in (one.0, rw (starts_is test p ∙ y.0) one.1, one.2)
        | inr n ↦ let one = b.only p x rest n.1 in (one.0, rw (starts_is test p ∙ n.0) one.1, one.2)
      ];
}

-- one reader at the end, or another
abbrev pub Ends : {A : Type 0} → (List (List ℕ) → A → List (List ℕ) → Type 0)
    → (List (List ℕ) → A → List (List ℕ) → Type 0) → List (List ℕ) → A → List (List ℕ) → Type 0
Ends g h [] x rest = g [] x rest
Ends g h (w ∷ ws) x rest = h (w ∷ ws) x rest

end_found : {A : Type 0} {r s : Reader A} {g h : List (List ℕ) → A → List (List ℕ) → Type 0} (line : ℕ)
    (words : List Word)
    (x : A) (q : Ahead) → Exact r g → Exact s h
    → cond (is_end words) (r (ahead line words)) (s (ahead line words)) ≡ Ok (x, q)
    → Ends g h (map text_of words) x (texts q)
end_found line [] x q a b k = a.found (ahead line []) x q k
end_found line (word ∷ words) x q a b k = b.found (ahead line (word ∷ words)) x q k

end_only : {A : Type 0} {r s : Reader A} {g h : List (List ℕ) → A → List (List ℕ) → Type 0} (line : ℕ)
    (words : List Word)
    (x : A) (rest : List (List ℕ)) → Exact r g → Exact s h → Ends g h (map text_of words) x rest
    → (q : Ahead) × (cond (is_end words) (r (ahead line words)) (s (ahead line words)) ≡ Ok (x, q)) × (texts q ≡ rest)
end_only line [] x rest a b k = a.only (ahead line []) x rest k
end_only line (word ∷ words) x rest a b k = b.only (ahead line (word ∷ words)) x rest k

pub if_end_exact : {A : Type 0} {r s : Reader A} {g h : List (List ℕ) → A → List (List ℕ) → Type 0}
    → Exact r g → Exact s h → Exact (if_end r s) (Ends g h)
unfolding if_end
if_end_exact a b = record {
  found = λ p x q k. end_found p.line p.words x q a b k;
  only = λ p x rest k. end_only p.line p.words x rest a b k;
}

-- ---- flags

-- flags, as many as there are
pub record Flags (part : Part) (ws : List (List ℕ)) (fs : List Filter) (rest : List (List ℕ)) : Type 0 where
  pub words : List (List ℕ)
  pub spelled : ws ≡ words ++ rest
  pub each : IsTrue (list_all (is_flag part) words)
  pub are : fs ≡ map filter_of words
  pub stop : starts (is_flag part) rest ≡ false

no_flag : (part : Part) (rest : List (List ℕ)) → starts (is_flag part) rest ≡ false → Flags part rest [] rest
no_flag part rest h = record { words = []; spelled = refl; each = refl; are = refl; stop = h }

pub put_found : {A : Type 0} (x : A) (d : Result (List A × Ahead) RuleFault) (ys : List A) (q : Ahead)
    → put_before x d ≡ Ok (ys, q) → (xs : List A) × (d ≡ Ok (xs, q)) × (ys ≡ x ∷ xs)
put_found x (Ok xs) ys q h =
    let e = ok_is (x ∷ xs.0, xs.1) (ys, q) h in (
      xs.0,
      ap (λ (z : List _ × Ahead). let R : Result (List _ × Ahead) RuleFault = Ok (xs.0, z.1) in R) e,
      sym (ap (λ (z : List _ × Ahead). z.0) e),
    )
put_found x (Err f) ys q h = absurd cc

one_more : (part : Part) (w : List ℕ) (ws : List (List ℕ)) (gs fs : List Filter) (rest : List (List ℕ))
    → is_flag part w ≡ true → Flags part ws gs rest → fs ≡ filter_of w ∷ gs → Flags part (w ∷ ws) fs rest
one_more part w ws gs fs rest e f h = record {
  words = w ∷ f.words;
  spelled = ap (λ (l : List (List ℕ)). w ∷ l) f.spelled;
  each = rw e f.each;
  are = h ∙ ap (λ (l : List Filter). filter_of w ∷ l) f.are;
  stop = f.stop;
}

flags_found_by : (part : Part) (line : ℕ) (word : Word) (words : List Word) (b : Bool) (fs : List Filter) (q : Ahead)
    → is_flag part word.text ≡ b
    → ((gs : List Filter) (r : Ahead) → flags_of part word.line words ≡ Ok (gs, r)
    → Flags part (map text_of words) gs (texts r))
    → cond b (put_before (filter_of word.text) (flags_of part word.line words)) (Ok ([], ahead line (word ∷ words)))
    ≡ Ok (fs, q) → Flags part (map text_of (word ∷ words)) fs (texts q)
flags_found_by part line word words true fs q e ih h =
    let o = put_found (filter_of word.text) (flags_of part word.line words) fs q h in
    one_more part word.text (map text_of words) o.0 fs (texts q) e (ih o.0 q o.1) o.2
flags_found_by part line word words false fs q e ih h =
    let k = ok_is ([], ahead line (word ∷ words)) (fs, q) h in
    subst (λ (z : List Filter × Ahead). Flags part (map text_of (word ∷ words)) z.0 (texts z.1)) k
    (no_flag part (map text_of (word ∷ words)) e)

flags_found : (part : Part) (line : ℕ) (words : List Word) (fs : List Filter) (q : Ahead)
    → flags_of part line words ≡ Ok (fs, q) → Flags part (map text_of words) fs (texts q)
flags_found part line [] fs q h =
    subst (λ (z : List Filter × Ahead). Flags part [] z.0 (texts z.1)) (ok_is ([], ahead line []) (fs, q) h)
    (no_flag part [] refl)
flags_found part line (word ∷ words) fs q h =
    flags_found_by part line word words (is_flag part word.text) fs q refl (flags_found part word.line words) h

flags_none : (part : Part) (line : ℕ) (words : List Word) (rest : List (List ℕ)) → map text_of words ≡ rest
    → starts (is_flag part) rest ≡ false
    → (q : Ahead) × (flags_of part line words ≡ Ok ([], q)) × (texts q ≡ rest)
flags_none part line [] rest h s = (ahead line [], refl, h)
flags_none part line (word ∷ words) rest h s =
    let e : is_flag part word.text ≡ false = ap (starts (is_flag part)) h ∙ s in
    (ahead line (word ∷ words), rw e refl, h)

flag_first : (part : Part) (line : ℕ) (word : Word) (words : List Word) (w : List ℕ) (fs : List Filter) (q : Ahead)
    → word.text ≡ w → is_flag part w ≡ true → flags_of part word.line words ≡ Ok (fs, q)
    → flags_of part line (word ∷ words) ≡ Ok (filter_of w ∷ fs, q)
flag_first part line word words w fs q is e h = rw (is, e, h) refl

flags_only : (part : Part) (line : ℕ) (words : List Word) (given rest : List (List ℕ))
    → map text_of words ≡ given ++ rest → IsTrue (list_all (is_flag part) given) → starts (is_flag part) rest ≡ false
    → (q : Ahead) × (flags_of part line words ≡ Ok (map filter_of given, q)) × (texts q ≡ rest)
flags_only part line words [] rest h a s = flags_none part line words rest h s
flags_only part line [] (w ∷ given) rest h a s = absurd cc
flags_only part line (word ∷ words) (w ∷ given) rest h a s =
    let is : word.text ≡ w = cc in
    let others : map text_of words ≡ given ++ rest = cc in
    let k = and_parts (is_flag part w) (list_all (is_flag part) given) a in
    let o = flags_only part word.line words given rest others k.1 s in
    (o.0, flag_first part line word words w (map filter_of given) o.0 is k.0 o.1, o.2)

pub flags_exact : (part : Part) → Exact (flags part) (Flags part)
unfolding flags
flags_exact part = record {
  found = λ p fs q h. flags_found part p.line p.words fs q h;
  only = λ p fs rest h.
      let o = flags_only part p.line p.words h.words rest h.spelled h.each h.stop in
      (o.0, o.1 ∙ ap (λ (z : List Filter). ok_of (z, o.0)) (sym h.are), o.2);
}

-- ---- lists with commas

-- each word means the value at its place
abbrev pub Mean : {A : Type 0} → (List ℕ → Result A RuleKind) → List (List ℕ) → List A → Type 0
Mean meaning [] [] = Unit {0}
Mean meaning [] (x ∷ xs) = ⊥
Mean meaning (w ∷ ws) [] = ⊥
Mean meaning (w ∷ ws) (x ∷ xs) = (meaning w ≡ Ok x) × Mean meaning ws xs

-- one word or more, with commas between
pub record Listed {A : Type 0} (meaning : List ℕ → Result A RuleKind) (ws : List (List ℕ)) (xs : List A)
    (rest : List (List ℕ)) : Type 0 where
  pub words : List (List ℕ)
  pub spelled : ws ≡ joined words ++ rest
  pub some : 0 < length words
  pub mean : Mean meaning words xs
  pub stop : starts is_comma rest ≡ false

comma_is : (word : List ℕ) → is_comma word ≡ true → word ≡ codes ","
comma_is word h = same_text word (codes ",") h

-- one word
listed_one : {A : Type 0} (meaning : List ℕ → Result A RuleKind) (w : List ℕ) (x : A) (rest : List (List ℕ))
    → meaning w ≡ Ok x → starts is_comma rest ≡ false → Listed meaning (w ∷ rest) (x ∷ []) rest
listed_one meaning w x rest e s = record {
  words = w ∷ [];
  spelled = refl;
  some = omega arith;
  mean = (e, tt);
  stop = s;
}

joined_more : (w : List ℕ) (words rest : List (List ℕ)) → 0 < length words
    → joined (w ∷ words) ++ rest ≡ w ∷ codes "," ∷ (joined words ++ rest)
joined_more w [] rest h = absurd (omega (arith, h))
joined_more w (next ∷ words) rest h = refl

-- one more before a comma
listed_more : {A : Type 0} (meaning : List ℕ → Result A RuleKind) (w comma : List ℕ) (ws : List (List ℕ)) (x : A)
    (xs ys : List A) (rest : List (List ℕ)) → meaning w ≡ Ok x → is_comma comma ≡ true → Listed meaning ws xs rest
    → ys ≡ x ∷ xs → Listed meaning (w ∷ comma ∷ ws) ys rest
listed_more meaning w comma ws x xs ys rest e c l h = record {
  words = w ∷ l.words;
  spelled = ap (λ (z : List ℕ). w ∷ z ∷ ws) (comma_is comma c)
      ∙ ap (λ (z : List (List ℕ)). w ∷ codes "," ∷ z) l.spelled ∙ sym (joined_more w l.words rest l.some);
  some = omega arith;
  mean = subst (Mean meaning (w ∷ l.words)) (sym h) (e, l.mean);
  stop = l.stop;
}

listed_two : {A : Type 0} (missing : RuleKind) (meaning : List ℕ → Result A RuleKind) (word comma : Word)
    (words : List Word) (b : Bool) (d : Result A RuleKind) (ys : List A) (q : Ahead)
    → is_comma comma.text ≡ b → meaning word.text ≡ d
    → ((xs : List A) (r : Ahead) → list_of missing meaning comma.line words ≡ Ok (xs, r)
    → Listed meaning (map text_of words) xs (texts r))
    → after_read (λ x _. cond b (put_before x (list_of missing meaning comma.line words))
    (Ok (x ∷ [], ahead word.line (comma ∷ words)))) (settled word.line d (ahead word.line (comma ∷ words))) ≡ Ok (ys, q)
    → Listed meaning (map text_of (word ∷ comma ∷ words)) ys (texts q)
listed_two missing meaning word comma words true (Ok x) ys q c e ih h =
    let o = put_found x (list_of missing meaning comma.line words) ys q h in
    listed_more meaning word.text comma.text (map text_of words) x o.0 ys (texts q) e c (ih o.0 q o.1) o.2
listed_two missing meaning word comma words false (Ok x) ys q c e ih h =
    let k = ok_is (x ∷ [], ahead word.line (comma ∷ words)) (ys, q) h in
    subst (λ (z : List _ × Ahead). Listed meaning (map text_of (word ∷ comma ∷ words)) z.0 (texts z.1)) k
    (listed_one meaning word.text x (map text_of (comma ∷ words)) e c)
listed_two missing meaning word comma words b (Err kind) ys q c e ih h = absurd cc

listed_last : {A : Type 0} (meaning : List ℕ → Result A RuleKind) (word : Word) (d : Result A RuleKind) (ys : List A)
    (q : Ahead) → meaning word.text ≡ d
    → after_read (λ x. give (x ∷ [])) (settled word.line d (ahead word.line [])) ≡ Ok (ys, q)
    → Listed meaning (word.text ∷ []) ys (texts q)
unfolding give
listed_last meaning word (Ok x) ys q e h =
    subst (λ (z : List _ × Ahead). Listed meaning (word.text ∷ []) z.0 (texts z.1))
    (ok_is (x ∷ [], ahead word.line []) (ys, q) h) (listed_one meaning word.text x [] e refl)
listed_last meaning word (Err kind) ys q e h = absurd cc

list_found : {A : Type 0} (missing : RuleKind) (meaning : List ℕ → Result A RuleKind) (line : ℕ) (words : List Word)
    (ys : List A) (q : Ahead) → list_of missing meaning line words ≡ Ok (ys, q)
    → Listed meaning (map text_of words) ys (texts q)
unfolding bind item next_word
list_found missing meaning line [] ys q h = absurd cc
list_found missing meaning line (word ∷ []) ys q h = listed_last meaning word (meaning word.text) ys q refl h
list_found missing meaning line (word ∷ comma ∷ words) ys q h =
    listed_two missing meaning word comma words (is_comma comma.text) (meaning word.text) ys q refl refl
    (list_found missing meaning comma.line words) h

one_only : {A : Type 0} (missing : RuleKind) (meaning : List ℕ → Result A RuleKind) (line : ℕ) (words : List Word)
    (w : List ℕ) (x : A) (rest : List (List ℕ)) → map text_of words ≡ w ∷ rest → meaning w ≡ Ok x
    → starts is_comma rest ≡ false
    → (q : Ahead) × (list_of missing meaning line words ≡ Ok (x ∷ [], q)) × (texts q ≡ rest)
unfolding bind item next_word give
one_only missing meaning line [] w x rest h e s = absurd cc
one_only missing meaning line (word ∷ []) w x rest h e s =
    let is : word.text ≡ w = cc in
    let none : [] ≡ rest = cc in
    (ahead word.line [], rw (is, e) refl, none)
one_only missing meaning line (word ∷ comma ∷ words) w x rest h e s =
    let is : word.text ≡ w = cc in
    let others : map text_of (comma ∷ words) ≡ rest = cc in
    let c : is_comma comma.text ≡ false = ap (starts is_comma) others ∙ s in
    (ahead word.line (comma ∷ words), rw (is, e, c) refl, others)

two_only : {A : Type 0} (missing : RuleKind) (meaning : List ℕ → Result A RuleKind) (line : ℕ) (word comma : Word)
    (words : List Word) (w : List ℕ) (x : A) (xs : List A) (q : Ahead) → word.text ≡ w → meaning w ≡ Ok x
    → is_comma comma.text ≡ true → list_of missing meaning comma.line words ≡ Ok (xs, q)
    → list_of missing meaning line (word ∷ comma ∷ words) ≡ Ok (x ∷ xs, q)
unfolding bind item next_word
two_only missing meaning line word comma words w x xs q is e c h = rw (is, e, c, h) refl

is_a_comma : is_comma (codes ",") ≡ true
is_a_comma = refl

list_only : {A : Type 0} (missing : RuleKind) (meaning : List ℕ → Result A RuleKind) (line : ℕ) (words : List Word)
    (given : List (List ℕ)) (xs : List A) (rest : List (List ℕ)) → map text_of words ≡ joined given ++ rest
    → 0 < length given → Mean meaning given xs → starts is_comma rest ≡ false
    → (q : Ahead) × (list_of missing meaning line words ≡ Ok (xs, q)) × (texts q ≡ rest)
list_only missing meaning line words [] xs rest h some m s = absurd (omega (arith, some))
list_only missing meaning line words (w ∷ given) [] rest h some m s = absurd m
list_only missing meaning line words (w ∷ []) (x ∷ []) rest h some m s =
    one_only missing meaning line words w x rest h m.0 s
list_only missing meaning line words (w ∷ []) (x ∷ y ∷ xs) rest h some m s = absurd m.1
list_only missing meaning line [] (w ∷ v ∷ given) (x ∷ xs) rest h some m s = absurd cc
list_only missing meaning line (word ∷ []) (w ∷ v ∷ given) (x ∷ xs) rest h some m s = absurd cc
list_only missing meaning line (word ∷ comma ∷ words) (w ∷ v ∷ given) (x ∷ xs) rest h some m s =
    let is : word.text ≡ w = cc in
    let c : comma.text ≡ codes "," = cc in
    let others : map text_of words ≡ joined (v ∷ given) ++ rest = cc in
    let o = list_only missing meaning comma.line words (v ∷ given) xs rest others (omega arith) m.1 s in
    (o.0, two_only missing meaning line word comma words w x xs o.0 is m.0 (ap is_comma c ∙ is_a_comma) o.1, o.2)

pub list_exact : {A : Type 0} (missing : RuleKind) (meaning : List ℕ → Result A RuleKind)
    → Exact (list missing meaning) (Listed meaning)
unfolding list
list_exact missing meaning = record {
  found = λ p xs q h. list_found missing meaning p.line p.words xs q h;
  only = λ p xs rest h. list_only missing meaning p.line p.words h.words xs rest h.spelled h.some h.mean h.stop;
}

-- ---- modifiers

-- modifiers, each behind a comma, as many as there are
pub record Modified (m : Modifiers) (ws : List (List ℕ)) (all : Modifiers) (rest : List (List ℕ)) : Type 0 where
  pub words : List (List ℕ)
  pub spelled : ws ≡ behind_commas words ++ rest
  pub modify : Modify m words all
  pub stop : starts is_comma rest ≡ false

not_modified : (m : Modifiers) (rest : List (List ℕ)) → starts is_comma rest ≡ false → Modified m rest m rest
not_modified m rest h = record { words = []; spelled = refl; modify = refl; stop = h }

modified_more : (m more all : Modifiers) (comma w : List ℕ) (ws rest : List (List ℕ)) → is_comma comma ≡ true
    → with_modifier m w ≡ Some more → Modified more ws all rest → Modified m (comma ∷ w ∷ ws) all rest
modified_more m more all comma w ws rest c e k = record {
  words = w ∷ k.words;
  spelled = ap (λ (z : List ℕ). z ∷ w ∷ ws) (comma_is comma c)
      ∙ ap (λ (z : List (List ℕ)). codes "," ∷ w ∷ z) k.spelled;
  modify = (more, e, k.modify);
  stop = k.stop;
}

modifier_ok : (option : List ℕ) (d : Option Modifiers) (more : Modifiers) → modifier_in option d ≡ Ok more
    → d ≡ Some more
modifier_ok option (Some m) more h = let e : m ≡ more = cc in ap (λ z. Some z) e
modifier_ok option None more h = absurd cc

modified_found_by : (option : List ℕ) (m : Modifiers) (line : ℕ) (comma word : Word) (words : List Word) (b : Bool)
    (d : Result Modifiers RuleKind) (all : Modifiers) (q : Ahead) → is_comma comma.text ≡ b
    → modifier_of option m word.text ≡ d
    → ((more n : Modifiers) (r : Ahead) → modifiers_of option more word.line words ≡ Ok (n, r)
    → Modified more (map text_of words) n (texts r))
    → cond b (after_read (λ more _. modifiers_of option more word.line words)
    (settled word.line d (ahead word.line words)))
    (Ok (m, ahead line (comma ∷ word ∷ words))) ≡ Ok (all, q)
    → Modified m (map text_of (comma ∷ word ∷ words)) all (texts q)
modified_found_by option m line comma word words true (Ok more) all q c e ih h =
    modified_more m more all comma.text word.text (map text_of words) (texts q) c
    (modifier_ok option (with_modifier m word.text) more e) (ih more all q h)
modified_found_by option m line comma word words true (Err kind) all q c e ih h = absurd cc
modified_found_by option m line comma word words false d all q c e ih h =
    subst (λ (z : Modifiers × Ahead). Modified m (map text_of (comma ∷ word ∷ words)) z.0 (texts z.1))
    (ok_is (m, ahead line (comma ∷ word ∷ words)) (all, q) h) (not_modified m (map text_of (comma ∷ word ∷ words)) c)

last_by : (m : Modifiers) (line : ℕ) (comma : Word) (b : Bool) (all : Modifiers) (q : Ahead) → is_comma comma.text ≡ b
    → (let R : Result (Modifiers × Ahead) RuleFault =
    cond b (Err (fault comma.line MissingName)) (Ok (m, ahead line (comma ∷ []))) in R)
    ≡ Ok (all, q)
    → Modified m (comma.text ∷ []) all (texts q)
last_by m line comma true all q c h = absurd cc
last_by m line comma false all q c h =
    subst (λ (z : Modifiers × Ahead). Modified m (comma.text ∷ []) z.0 (texts z.1))
    (ok_is (m, ahead line (comma ∷ [])) (all, q) h) (not_modified m (comma.text ∷ []) c)

modified_found : (option : List ℕ) (m : Modifiers) (line : ℕ) (words : List Word) (all : Modifiers) (q : Ahead)
    → modifiers_of option m line words ≡ Ok (all, q) → Modified m (map text_of words) all (texts q)
unfolding bind item next_word
modified_found option m line [] all q h =
    subst (λ (z : Modifiers × Ahead). Modified m [] z.0 (texts z.1)) (ok_is (m, ahead line []) (all, q) h)
    (not_modified m [] refl)
modified_found option m line (comma ∷ []) all q h = last_by m line comma (is_comma comma.text) all q refl h
modified_found option m line (comma ∷ word ∷ words) all q h =
    modified_found_by option m line comma word words (is_comma comma.text)
    (modifier_of option m word.text) all q refl refl
    (λ more n r. modified_found option more word.line words n r) h

modified_none : (option : List ℕ) (m : Modifiers) (line : ℕ) (words : List Word) (rest : List (List ℕ))
    → map text_of words ≡ rest → starts is_comma rest ≡ false
    → (q : Ahead) × (modifiers_of option m line words ≡ Ok (m, q)) × (texts q ≡ rest)
modified_none option m line [] rest h s = (ahead line [], refl, h)
modified_none option m line (comma ∷ []) rest h s =
    let c : is_comma comma.text ≡ false = ap (starts is_comma) h ∙ s in (ahead line (comma ∷ []), rw c refl, h)
modified_none option m line (comma ∷ word ∷ words) rest h s =
    let c : is_comma comma.text ≡ false = ap (starts is_comma) h ∙ s in
    (ahead line (comma ∷ word ∷ words), rw c refl, h)

more_only : (option : List ℕ) (m more all : Modifiers) (line : ℕ) (comma word : Word) (words : List Word) (w : List ℕ)
    (q : Ahead) → is_comma comma.text ≡ true → word.text ≡ w → with_modifier m w ≡ Some more
    → modifiers_of option more word.line words ≡ Ok (all, q)
    → modifiers_of option m line (comma ∷ word ∷ words) ≡ Ok (all, q)
unfolding bind item next_word
more_only option m more all line comma word words w q c is e h = rw (c, is, e, h) refl

modified_only : (option : List ℕ) (m : Modifiers) (line : ℕ) (words : List Word) (given : List (List ℕ))
    (all : Modifiers)
    (rest : List (List ℕ)) → map text_of words ≡ behind_commas given ++ rest → Modify m given all
    → starts is_comma rest ≡ false
    → (q : Ahead) × (modifiers_of option m line words ≡ Ok (all, q)) × (texts q ≡ rest)
modified_only option m line words [] all rest h k s =
    let o = modified_none option m line words rest h s in
    (o.0, o.1 ∙ ap (λ (z : Modifiers). ok_of (z, o.0)) k, o.2)
modified_only option m line [] (w ∷ given) all rest h k s = absurd cc
modified_only option m line (comma ∷ []) (w ∷ given) all rest h k s = absurd cc
modified_only option m line (comma ∷ word ∷ words) (w ∷ given) all rest h k s =
    let c : comma.text ≡ codes "," = cc in
    let is : word.text ≡ w = cc in
    let others : map text_of words ≡ behind_commas given ++ rest = cc in
    let o = modified_only option k.0 word.line words given all rest others k.2 s in
    (o.0, more_only option m k.0 all line comma word words w o.0 (ap is_comma c ∙ is_a_comma) is k.1 o.1, o.2)

pub modifiers_exact : (option : List ℕ) (m : Modifiers) → Exact (modifiers option m) (Modified m)
unfolding modifiers
modifiers_exact option m = record {
  found = λ p all q h. modified_found option m p.line p.words all q h;
  only = λ p all rest h. modified_only option m p.line p.words h.words all rest h.spelled h.modify h.stop;
}
