-- The test whether a text can be cut along a pattern says so.
use Rattle.std.proofs.Common.{◌≡◌, ◌↔◌, ℕ, Bool, true, false, not, ◌&&◌, cond, eqb, List, [], ◌∷◌, ◌++◌, map, refl}
use Rattle.std.proofs.Common.{sym, ap, ◌∙◌, subst, Decides, inl, inr}
use Rattle.std.proofs.lemmas.Bool.{and_from, and_parts, eqb-false, eqb-true, eq-eqb, ne_eqb, not-true, not_from_false}
use Rattle.std.proofs.lemmas.Bool.{or_cases, or_left, or_right}
use Rattle.std.proofs.lemmas.Bool.Decides.{same_from_decides}
use Rattle.std.specs.List.{AllByRecursion}
use Rattle.std.specs.Str.{chars}
use Rattle.jv_base.specs.External.{swapped}
use Rattle.keep_match.specs.declared.piece.Piece.{Piece}
use Rattle.keep_match.specs.declared.piece.Piece.TheVariants.{Character, One, Part, Any}
use Rattle.keep_match.specs.Wildcards.{Begins, HasNoDot, Wild, is_cut, passes_behind, pieces, dotted_chars, wild}
use Rattle.keep_match.specs.Wildcards.{wild_class}

-- ---- the test

behind_tells : (allowed : ℕ → Bool) (passes : List ℕ → Bool) (x : List ℕ) → passes_behind allowed passes x ≡ true
    → (a : List ℕ) × (y : List ℕ) × (x ≡ a ++ y) × AllByRecursion (λ c. allowed c ≡ true) a × (passes y ≡ true)
behind_tells allowed passes [] h = ([], [], refl, tt, h)
behind_tells allowed passes (c ∷ cs) h =
    elim (or_cases (passes (c ∷ cs)) (allowed c && passes_behind allowed passes cs) h) [
      | inl here ↦ ([], c ∷ cs, refl, tt, here)
      | inr rest ↦
          let p = and_parts (allowed c) (passes_behind allowed passes cs) rest in
          let r = behind_tells allowed passes cs p.1 in
          (c ∷ r.0, r.1, ap (λ (t : List ℕ). c ∷ t) r.2, (p.0, r.3), r.4)
    ]

behind_from : (allowed : ℕ → Bool) (passes : List ℕ → Bool) (x a y : List ℕ) → x ≡ a ++ y
    → AllByRecursion (λ c. allowed c ≡ true) a → passes y ≡ true → passes_behind allowed passes x ≡ true
behind_from allowed passes [] [] y e n h = ap passes e ∙ h
behind_from allowed passes (c ∷ cs) [] y e n h =
    or_left (passes (c ∷ cs)) (allowed c && passes_behind allowed passes cs) (ap passes e ∙ h)
behind_from allowed passes [] (d ∷ a) y e n h = absurd cc
behind_from allowed passes (c ∷ cs) (d ∷ a) y e n h =
    let same : d ≡ c = cc in
    let rest : cs ≡ a ++ y = cc in
    or_right (passes (c ∷ cs)) (allowed c && passes_behind allowed passes cs)
    (and_from (allowed c) (passes_behind allowed passes cs) (ap allowed (sym same) ∙ n.0)
    (behind_from allowed passes cs a y rest n.1 h))

plain_tells : (a : List ℕ) → AllByRecursion (λ c. not (eqb c 46) ≡ true) a → HasNoDot a
plain_tells [] h = tt
plain_tells (c ∷ a) h = (eqb-false c 46 (not-true (eqb c 46) h.0), plain_tells a h.1)

plain_from : (a : List ℕ) → HasNoDot a → AllByRecursion (λ c. not (eqb c 46) ≡ true) a
plain_from [] h = tt
plain_from (c ∷ a) h = (not_from_false (eqb c 46) (ne_eqb c 46 h.0), plain_from a h.1)

any_from : (a : List ℕ) → AllByRecursion (λ (c : ℕ). true ≡ true) a
any_from [] = tt
any_from (c ∷ a) = (refl, any_from a)

-- ---- the law

pub cut_tells : (ps : List Piece) (x : List ℕ) → is_cut ps x ≡ true → Begins ps x []
unfolding is_cut
cut_tells [] [] h = refl
cut_tells [] (c ∷ cs) h = absurd cc
cut_tells (Character d ∷ ps) [] h = absurd cc
cut_tells (Character d ∷ ps) (c ∷ cs) h =
    let p = and_parts (eqb c d) (is_cut ps cs) h in
    (d ∷ [], cs, ap (λ (b : ℕ). b ∷ cs) (eqb-true c d p.0), refl, cut_tells ps cs p.1)
cut_tells (One ∷ ps) [] h = absurd cc
cut_tells (One ∷ ps) (c ∷ cs) h =
    let p = and_parts (not (eqb c 46)) (is_cut ps cs) h in
    (c ∷ [], cs, refl, (c, refl, eqb-false c 46 (not-true (eqb c 46) p.0)), cut_tells ps cs p.1)
cut_tells (Part ∷ ps) x h =
    let r = behind_tells (λ c. not (eqb c 46)) (is_cut ps) x h in
    (r.0, r.1, r.2, plain_tells r.0 r.3, cut_tells ps r.1 r.4)
cut_tells (Any ∷ ps) x h =
    let r = behind_tells (λ c. true) (is_cut ps) x h in
    (r.0, r.1, r.2, tt, cut_tells ps r.1 r.4)

one_from : (ps : List Piece) (x part behind : List ℕ) (c : ℕ) → x ≡ part ++ behind → part ≡ c ∷ [] → x ≡ c ∷ behind
one_from ps x part behind c e f = e ∙ ap (λ (t : List ℕ). t ++ behind) f

pub cut_from : (ps : List Piece) (x : List ℕ) → Begins ps x [] → is_cut ps x ≡ true
unfolding is_cut
cut_from [] x h = ap (is_cut []) h
cut_from (Character d ∷ ps) x h =
    ap (is_cut (Character d ∷ ps)) (one_from ps x h.0 h.1 d h.2 h.3)
    ∙ and_from (eqb d d) (is_cut ps h.1) (eq-eqb d d refl) (cut_from ps h.1 h.4)
cut_from (One ∷ ps) x h =
    let c = h.3.0 in
    ap (is_cut (One ∷ ps)) (one_from ps x h.0 h.1 c h.2 h.3.1)
    ∙ and_from (not (eqb c 46)) (is_cut ps h.1) (not_from_false (eqb c 46) (ne_eqb c 46 h.3.2)) (cut_from ps h.1 h.4)
cut_from (Part ∷ ps) x h =
    behind_from (λ c. not (eqb c 46)) (is_cut ps) x h.0 h.1 h.2 (plain_from h.0 h.3) (cut_from ps h.1 h.4)
cut_from (Any ∷ ps) x h =
    behind_from (λ c. true) (is_cut ps) x h.0 h.1 h.2 (any_from h.0) (cut_from ps h.1 h.4)

pub cut_Decides : (ps : List Piece) (x : List ℕ) → Decides (is_cut ps x) (Begins ps x [])
cut_Decides ps x = (cut_tells ps x, cut_from ps x)

-- ---- what the calls answer

dots_stay : (cs : List ℕ) → map (swapped 46 46) cs ≡ cs
dots_stay [] = refl
dots_stay (c ∷ cs) = λ i. one (eqb c 46) refl i ∷ dots_stay cs i
  where
    one : (b : Bool) → eqb c 46 ≡ b → swapped 46 46 c ≡ c
    one true e = ap (λ (b : Bool). cond b 46 c) e ∙ sym (eqb-true c 46 e)
    one false e = ap (λ (b : Bool). cond b 46 c) e

pub wild_cut : (r : Bool) (pattern text : List ℕ) → (r ≡ true)
    ↔ Begins (pieces (chars pattern)) (dotted_chars 46 text) []
    → (r ≡ true) ↔ Wild pattern text
wild_cut r pattern text h =
    subst (λ (t : List ℕ). (r ≡ true) ↔ Begins (pieces (chars pattern)) t []) (dots_stay (chars text)) h

pub wild_is : (r : Bool) (pattern text : List ℕ) → (r ≡ true)
    ↔ Begins (pieces (chars pattern)) (dotted_chars 46 text) []
    → r ≡ wild pattern text
unfolding wild
wild_is r pattern text h =
    let k = wild_cut r pattern text h in
    same_from_decides r (is_cut (pieces (chars pattern)) (chars text)) (k.0, k.1)
    (cut_Decides (pieces (chars pattern)) (chars text))

pub wild_class_is : (r : Bool) (pattern name : List ℕ) → (r ≡ true)
    ↔ Begins (pieces (chars pattern)) (dotted_chars 47 name) []
    → r ≡ wild_class pattern name
unfolding wild_class
wild_class_is r pattern name h =
    same_from_decides r (is_cut (pieces (chars pattern)) (dotted_chars 47 name)) (h.0, h.1)
    (cut_Decides (pieces (chars pattern)) (dotted_chars 47 name))

-- what the test says is what the relation says
pub wild_Decides : (pattern text : List ℕ) → Decides (wild pattern text) (Wild pattern text)
unfolding wild
wild_Decides pattern text = cut_Decides (pieces (chars pattern)) (chars text)
