-- Lines that are read one by one are those that spell the items which were added, and no others.
use Rattle.std.proofs.Common.{◌≡◌, ℕ, ◌+◌, Bool, true, false, not, cond, List, [], ◌∷◌, Option, Some, None, Result, Ok}
use Rattle.std.proofs.Common.{Err, refl, sym, ap, subst, ◌∙◌, inl, inr}
use Rattle.std.specs.Prelude.{◌⊎◌}
use Rattle.std.specs.List.{AllByRecursion}
use Rattle.std.specs.Str.{IsUtf8, is_utf8}
use Rattle.std.proofs.lemmas.Str.{IsUtf8-from_is_utf8, is_utf8-from_IsUtf8}
use Rattle.jv_base.specs.Outcome.{◌>>=◌}
use Rattle.text_lines.specs.Lines.{AllSpell, AreSpelled, at_line, is_passed_over, item_added, line_read, line_step}
use Rattle.text_lines.specs.Lines.{read_lines, saying}
use Rattle.text_lines.proofs.Taking.{nothing_said}

-- what spells an item is read as it, and what is read spells it
pub record Says {X : Type 0} (spells : List ℕ → X → Type 0) (item_of : List ℕ → Option X) : Type 0 where
  pub found : (text : List ℕ) (x : X) → item_of text ≡ Some x → spells text x
  pub only : (text : List ℕ) (x : X) → spells text x → item_of text ≡ Some x

-- items added one by one
abbrev pub adds : {X S K : Type 0} → (X → S → Result S K) → List X → S → Result S K
adds add [] s = Ok s
adds add (x ∷ xs) s = add x s >>= (λ t. adds add xs t)

pub bind_ok : {A B X : Type 0} (r : Result A X) (f : A → Result B X) (y : B) → r >>= f ≡ Ok y
    → (x : A) × (r ≡ Ok x) × (f x ≡ Ok y)
bind_ok (Ok x) f y h = (x, refl, h)
bind_ok (Err e) f y h = absurd cc

pub at_ok : {S K F : Type 0} (fault : ℕ → K → F) (n : ℕ) (r : Result S K) (t : S) → at_line fault n r ≡ Ok t → r ≡ Ok t
at_ok fault n (Ok s) t h = cc
at_ok fault n (Err k) t h = absurd cc

-- a line in UTF-8 that says nothing, or that spells an item which was added
abbrev IsRead : {X S K : Type 0} → (X → S → Result S K) → Bool → Option X → S → S → Type 0
IsRead {X} add passed o s t =
    ((passed ≡ true) × (s ≡ t)) ⊎ ((passed ≡ false) × ((x : X) × (o ≡ Some x) × (add x s ≡ Ok t)))

step_ok : {X S K F : Type 0} (fault : ℕ → K → F) (not_utf8 bad_line : K) (add : X → S → Result S K) (n : ℕ) (u p : Bool)
    (o : Option X) (s t : S)
    → at_line fault n (cond u (cond p (Ok s) (item_added bad_line add o s)) (Err not_utf8)) ≡ Ok t
    → (u ≡ true) × IsRead add p o s t
step_ok fault nu bad add n true true o s t h = (refl, inl (refl, cc))
step_ok fault nu bad add n true false (Some x) s t h = (refl, inr (refl, (x, refl, at_ok fault n (add x s) t h)))
step_ok fault nu bad add n true false None s t h = absurd cc
step_ok fault nu bad add n false p o s t h = absurd cc

passed_line : (l : List ℕ) (ls : List (List ℕ)) → is_passed_over l ≡ true → saying (l ∷ ls) ≡ saying ls
passed_line l ls e = rw e refl

said_line : (l : List ℕ) (ls : List (List ℕ)) → is_passed_over l ≡ false → saying (l ∷ ls) ≡ l ∷ saying ls
said_line l ls e = rw e refl

-- lines that were read spell items, which were added one by one
pub lines_found : {X S K F : Type 0} (fault : ℕ → K → F) (not_utf8 bad_line : K) {spells : List ℕ → X → Type 0}
    {item_of : List ℕ → Option X} (add : X → S → Result S K) → Says spells item_of
    → (n : ℕ) (ls : List (List ℕ)) (s t : S)
    → read_lines (line_step fault not_utf8 bad_line item_of add) n ls s ≡ Ok t
    → (xs : List X) × AreSpelled spells ls xs × (adds add xs s ≡ Ok t)
unfolding read_lines
lines_found {X} {S} {K} fault nu bad add says n [] s t h =
    let same : s ≡ t = cc in
    ([], record { utf8 = tt; spelled = tt }, ap (λ (r : S). let R : Result S K = Ok r in R) same)
lines_found {X} {S} {K} fault nu bad {spells = spells} {item_of = item_of} add says n (l ∷ ls) s t h =
    let b = bind_ok (line_step fault nu bad item_of add n l s)
    (λ r. read_lines (line_step fault nu bad item_of add) (n + 1) ls r) t h in
    let one = step_ok fault nu bad add n (is_utf8 l) (is_passed_over l) (item_of l) s b.0 b.1 in
    let more = lines_found fault nu bad add says (n + 1) ls b.0 t b.2 in
    let utf8 = IsUtf8-from_is_utf8 l one.0 in
    elim one.1 [
      | inl p ↦ (
        more.0,
        record {
          utf8 = (utf8, more.1.utf8);
          spelled = subst (λ (k : List (List ℕ)). AllSpell spells k more.0) (sym (passed_line l ls p.0)) more.1.spelled;
        },
        subst (λ (r : S). adds add more.0 r ≡ Ok t) (sym p.1) more.2,
      )
      | inr q ↦ (
        q.1.0 ∷ more.0,
        record {
          utf8 = (utf8, more.1.utf8);
          spelled = subst (λ (k : List (List ℕ)). AllSpell spells k (q.1.0 ∷ more.0)) (sym (said_line l ls q.0))
              (says.found l q.1.0 q.1.1, more.1.spelled);
        },
        ap (λ (r : Result S K). r >>= (λ u. adds add more.0 u)) q.1.2 ∙ more.2,
      )
    ]

one_said : {X S K F : Type 0} (fault : ℕ → K → F) (not_utf8 bad_line : K) (item_of : List ℕ → Option X)
    (add : X → S → Result S K)
    (n : ℕ) (l : List ℕ) (s t : S) (x : X) → IsUtf8 l → is_passed_over l ≡ false → item_of l ≡ Some x → add x s ≡ Ok t
    → line_step fault not_utf8 bad_line item_of add n l s ≡ Ok t
one_said fault nu bad item_of add n l s t x u p o a =
    let utf8 : is_utf8 l ≡ true = is_utf8-from_IsUtf8 l u in rw (utf8, p, o, a) refl

-- a line before others that are read
line_only : {X S K F : Type 0} (fault : ℕ → K → F) (not_utf8 bad_line : K) {spells : List ℕ → X → Type 0}
    {item_of : List ℕ → Option X} (add : X → S → Result S K) → Says spells item_of
    → (n : ℕ) (l : List ℕ) (ls : List (List ℕ))
    (b : Bool) (ys : List X) (s t : S) → is_passed_over l ≡ b → IsUtf8 l
    → AllSpell spells (cond (not b) (l ∷ saying ls) (saying ls)) ys → adds add ys s ≡ Ok t
    → ((zs : List X) (r : S) → AllSpell spells (saying ls) zs → adds add zs r ≡ Ok t
    → read_lines (line_step fault not_utf8 bad_line item_of add) (n + 1) ls r ≡ Ok t)
    → line_step fault not_utf8 bad_line item_of add n l s
    >>= (λ r. read_lines (line_step fault not_utf8 bad_line item_of add) (n + 1) ls r) ≡ Ok t
line_only fault nu bad {item_of = item_of} add says n l ls true ys s t e u sp k more =
    rw (nothing_said fault nu bad item_of add n l s u e) (more ys s sp k)
line_only fault nu bad add says n l ls false [] s t e u sp k more = absurd sp
line_only fault nu bad {item_of = item_of} add says n l ls false (y ∷ ys) s t e u sp k more =
    let b = bind_ok (add y s) (λ r. adds add ys r) t k in
    rw (one_said fault nu bad item_of add n l s b.0 y u e (says.only l y sp.0) b.1) (more ys b.0 sp.1 b.2)

-- lines that spell items which can be added one by one are read
pub lines_only : {X S K F : Type 0} (fault : ℕ → K → F) (not_utf8 bad_line : K) {spells : List ℕ → X → Type 0}
    {item_of : List ℕ → Option X} (add : X → S → Result S K) → Says spells item_of
    → (n : ℕ) (ls : List (List ℕ)) (xs : List X)
    (s t : S) → AreSpelled spells ls xs → adds add xs s ≡ Ok t
    → read_lines (line_step fault not_utf8 bad_line item_of add) n ls s ≡ Ok t
unfolding read_lines
lines_only {X} {S} {K} {F} fault nu bad add says n [] [] s t a h =
    let same : s ≡ t = cc in ap (λ (r : S). let R : Result S F = Ok r in R) same
lines_only fault nu bad add says n [] (x ∷ xs) s t a h = absurd a.spelled
lines_only {X} {S} {K} fault nu bad {spells = spells} {item_of = item_of} add says n (l ∷ ls) xs s t a h =
    line_only fault nu bad add says n l ls (is_passed_over l) xs s t refl a.utf8.0 a.spelled h
    (λ ys r sp k. lines_only fault nu bad add says (n + 1) ls ys r t (record { utf8 = a.utf8.1; spelled = sp }) k)

-- ---- one list of items at most

pub one_list : {X : Type 0} {spells : List ℕ → X → Type 0} {item_of : List ℕ → Option X} → Says spells item_of
    → (ls : List (List ℕ)) (xs ys : List X) → AllSpell spells ls xs → AllSpell spells ls ys → xs ≡ ys
one_list says [] [] [] a b = refl
one_list says [] [] (y ∷ ys) a b = absurd b
one_list says [] (x ∷ xs) ys a b = absurd a
one_list says (l ∷ ls) [] ys a b = absurd a
one_list says (l ∷ ls) (x ∷ xs) [] a b = absurd b
one_list says (l ∷ ls) (x ∷ xs) (y ∷ ys) a b =
    let head : x ≡ y = (let p = says.only l x a.0 in let q = says.only l y b.0 in cc) in
    let tail = one_list says ls xs ys a.1 b.1 in (λ i. head i ∷ tail i)

-- lines that say something are texts where all are
pub saying_utf8 : (ls : List (List ℕ)) → AllByRecursion IsUtf8 ls → AllByRecursion IsUtf8 (saying ls)
saying_utf8 [] h = tt
saying_utf8 (l ∷ ls) h = by (is_passed_over l) (saying_utf8 ls h.1)
  where
    by : (b : Bool) → AllByRecursion IsUtf8 (saying ls)
        → AllByRecursion IsUtf8 (cond (not b) (l ∷ saying ls) (saying ls))
    by true more = more
    by false more = (h.0, more)
