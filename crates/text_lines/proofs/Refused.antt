-- Lines that are refused: those before the fault were read, and the fault comes whatever follows.
use Rattle.std.proofs.Common.{◌≡◌, ℕ, ◌+◌, not, List, [], ◌∷◌, ◌++◌, length, Result, Ok, Err, refl, sym, ap, subst, ◌∙◌}
use Rattle.std.proofs.Common.{arith}
use Rattle.std.specs.Str.{IsUtf8}
use Rattle.std.proofs.lemmas.List.Elements.{filter-append}
use Rattle.jv_base.specs.Outcome.{◌>>=◌}
use Rattle.jv_base.proofs.Lists.{all_append}
use Rattle.text_lines.specs.Lines.{AllSpell, AreSpelled, at_line, is_passed_over, read_lines, saying}
use Rattle.text_lines.proofs.ReadLines.{bind_ok}

-- lines that were read before the one at which the fault comes
pub record IsRefused {S F : Type 0} (step : ℕ → List ℕ → S → Result S F) (n : ℕ) (ls : List (List ℕ)) (s : S)
    (f : F) : Type 0 where
  pub before : List (List ℕ)
  pub line : List ℕ
  pub behind : List (List ℕ)
  pub state : S
  pub parts : ls ≡ before ++ line ∷ behind
  pub read : read_lines step n before s ≡ Ok state
  pub refused : step (n + length before) line state ≡ Err f

pub lines_refused : {S F : Type 0} (step : ℕ → List ℕ → S → Result S F) (n : ℕ) (ls : List (List ℕ)) (s : S) (f : F)
    → read_lines step n ls s ≡ Err f → IsRefused step n ls s f
unfolding read_lines
lines_refused step n [] s f h = absurd cc
lines_refused {S} {F} step n (l ∷ ls) s f h = by (step n l s) refl (λ t k. lines_refused step (n + 1) ls t f k) h
  where
    by : (r : Result S F) → step n l s ≡ r
        → ((t : S) → read_lines step (n + 1) ls t ≡ Err f → IsRefused step (n + 1) ls t f)
        → r >>= (λ t. read_lines step (n + 1) ls t) ≡ Err f → IsRefused step n (l ∷ ls) s f
    by (Err e) is rest k = record {
      before = [];
      line = l;
      behind = ls;
      state = s;
      parts = refl;
      read = refl;
      refused = (let number : n + 0 ≡ n = omega arith in ap (λ (i : ℕ). step i l s) number ∙ is ∙ k);
    }
    by (Ok t) is rest k =
        let more = rest t k in
        let number : n + length (l ∷ more.before) ≡ (n + 1) + length more.before = omega arith in
        record {
          before = l ∷ more.before;
          line = more.line;
          behind = more.behind;
          state = more.state;
          parts = ap (λ (tail : List (List ℕ)). l ∷ tail) more.parts;
          read = ap (λ (r : Result S F). r >>= (λ u. read_lines step (n + 1) more.before u)) is ∙ more.read;
          refused = ap (λ (i : ℕ). step i more.line more.state) number ∙ more.refused;
        }

-- the fault comes whatever follows
pub refused_anyway : {S F : Type 0} (step : ℕ → List ℕ → S → Result S F) (n : ℕ) (before : List (List ℕ)) (l : List ℕ)
    (others : List (List ℕ)) (s t : S) (f : F) → read_lines step n before s ≡ Ok t
    → step (n + length before) l t ≡ Err f
    → read_lines step n (before ++ l ∷ others) s ≡ Err f
unfolding read_lines
refused_anyway {S} {F} step n [] l others s t f h k =
    let same : s ≡ t = cc in
    let number : n ≡ n + 0 = omega arith in
    let e : step n l s ≡ Err f = ap (λ (i : ℕ). step i l s) number ∙ ap (step (n + 0) l) same ∙ k in
    ap (λ (r : Result S F). r >>= (λ u. read_lines step (n + 1) others u)) e
refused_anyway {S} {F} step n (b ∷ before) l others s t f h k =
    let first = bind_ok (step n b s) (λ u. read_lines step (n + 1) before u) t h in
    let number : (n + 1) + length before ≡ n + length (b ∷ before) = omega arith in
    ap (λ (r : Result S F). r >>= (λ u. read_lines step (n + 1) (before ++ l ∷ others) u)) first.1
    ∙ refused_anyway step (n + 1) before l others first.0 t f first.2 (ap (λ (i : ℕ). step i l t) number ∙ k)

-- a step's fault is one of a kind at its line
pub kind_at : {S K F : Type 0} (fault : ℕ → K → F) (n : ℕ) (r : Result S K) (f : F) → at_line fault n r ≡ Err f
    → (kind : K) × (f ≡ fault n kind)
kind_at fault n (Ok s) f h = absurd cc
kind_at fault n (Err kind) f h = (kind, cc)

-- what comes before a step that can't be refused
pub bind_err : {A B X : Type 0} (r : Result A X) (g : A → B) (e : X) → r >>= (λ a. Ok (g a)) ≡ Err e → r ≡ Err e
bind_err (Ok a) g e h = absurd cc
bind_err (Err x) g e h = cc

-- ---- lines behind others

all_spell_append : {X : Type 0} (spells : List ℕ → X → Type 0) (ls ks : List (List ℕ)) (xs ys : List X)
    → AllSpell spells ls xs
    → AllSpell spells ks ys → AllSpell spells (ls ++ ks) (xs ++ ys)
all_spell_append spells [] ks [] ys p q = q
all_spell_append spells [] ks (x ∷ xs) ys p q = absurd p
all_spell_append spells (l ∷ ls) ks [] ys p q = absurd p
all_spell_append spells (l ∷ ls) ks (x ∷ xs) ys p q = (p.0, all_spell_append spells ls ks xs ys p.1 q)

-- lines behind others spell their items behind those
pub spelled_append : {X : Type 0} (spells : List ℕ → X → Type 0) (ls ks : List (List ℕ)) (xs ys : List X)
    → AreSpelled spells ls xs
    → AreSpelled spells ks ys → AreSpelled spells (ls ++ ks) (xs ++ ys)
spelled_append spells ls ks xs ys p q = record {
  utf8 = all_append IsUtf8 ls ks p.utf8 q.utf8;
  spelled = subst (λ (k : List (List ℕ)). AllSpell spells k (xs ++ ys))
      (sym (filter-append (λ l. not (is_passed_over l)) ls ks))
      (all_spell_append spells (saying ls) (saying ks) xs ys p.spelled q.spelled);
}
