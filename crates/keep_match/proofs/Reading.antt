-- The first piece of a pattern.
use Rattle.std.proofs.Common.{◌≡◌, ◌≢◌, ℕ, false, ◌&&◌, eqb, List, [], ◌∷◌, refl, sym, ap, ◌∙◌, ◌⊎◌, inl, inr}
use Rattle.std.proofs.lemmas.Bool.{and_left, and_right, cases_eq, ne_eqb, cond-false}
use Rattle.keep_match.specs.declared.piece.Piece.TheVariants.{Any, Part}
use Rattle.keep_match.specs.Wildcards.{piece_of, pieces}

pub pieces_none : (cs : List ℕ) → cs ≡ [] → pieces cs ≡ []
unfolding pieces
pieces_none cs e = ap pieces e

pub pieces_stars : (bs cs ds : List ℕ) (c : ℕ) → bs ≡ c ∷ cs → cs ≡ 42 ∷ ds → c ≡ 42 → pieces bs ≡ Any ∷ pieces ds
unfolding pieces
pieces_stars bs cs ds c e f g =
    let at : bs ≡ 42 ∷ (42 ∷ ds) = e ∙ ap (λ (x : ℕ). x ∷ cs) g ∙ ap (λ (xs : List ℕ). 42 ∷ xs) f in
    ap pieces at

one_piece : (c d : ℕ) (cs : List ℕ) → (eqb c 42 && eqb d 42) ≡ false
    → pieces (c ∷ (d ∷ cs)) ≡ piece_of c ∷ pieces (d ∷ cs)
unfolding pieces
one_piece c d cs h = cond-false (eqb c 42 && eqb d 42) (Any ∷ pieces cs) (piece_of c ∷ pieces (d ∷ cs)) h

one_last : (c : ℕ) → pieces (c ∷ []) ≡ piece_of c ∷ pieces []
unfolding pieces
one_last c = refl

pieces_last : (bs cs : List ℕ) (c : ℕ) → bs ≡ c ∷ cs → cs ≡ [] → pieces bs ≡ piece_of c ∷ pieces cs
pieces_last bs cs c e f =
    ap pieces (e ∙ ap (λ (xs : List ℕ). c ∷ xs) f) ∙ one_last c
    ∙ ap (λ (xs : List ℕ). piece_of c ∷ pieces xs) (sym f)

pieces_before : (bs cs ds : List ℕ) (c d : ℕ) → bs ≡ c ∷ cs → cs ≡ d ∷ ds → d ≢ 42 → pieces bs ≡ piece_of c ∷ pieces cs
pieces_before bs cs ds c d e f other =
    ap pieces (e ∙ ap (λ (xs : List ℕ). c ∷ xs) f)
    ∙ one_piece c d ds (and_right (eqb c 42) (eqb d 42) (ne_eqb d 42 other))
    ∙ ap (λ (xs : List ℕ). piece_of c ∷ pieces xs) (sym f)

plain_by : (c : ℕ) (cs : List ℕ) → c ≢ 42 → pieces (c ∷ cs) ≡ piece_of c ∷ pieces cs
plain_by c [] other = one_last c
plain_by c (d ∷ ds) other = one_piece c d ds (and_left (eqb c 42) (eqb d 42) (ne_eqb c 42 other))

pieces_plain : (bs cs : List ℕ) (c : ℕ) → bs ≡ c ∷ cs → c ≢ 42 → pieces bs ≡ piece_of c ∷ pieces cs
pieces_plain bs cs c e other = ap pieces e ∙ plain_by c cs other

-- where it isn't one of two stars
pub pieces_one : (bs cs : List ℕ) (c : ℕ) → bs ≡ c ∷ cs → (c ≡ 42 → (ds : List ℕ) → cs ≡ 42 ∷ ds → ⊥)
    → pieces bs ≡ piece_of c ∷ pieces cs
pieces_one bs [] c e other = pieces_last bs [] c e refl
pieces_one bs (d ∷ ds) c e other = by (cases_eq c 42) (cases_eq d 42)
  where
    by : (c ≡ 42) ⊎ (c ≡ 42 → ⊥) → (d ≡ 42) ⊎ (d ≡ 42 → ⊥) → pieces bs ≡ piece_of c ∷ pieces (d ∷ ds)
    by (inl star) (inl second) = absurd (other star ds (ap (λ (x : ℕ). x ∷ ds) second))
    by (inr h) second = pieces_plain bs (d ∷ ds) c e h
    by (inl star) (inr h) = pieces_before bs (d ∷ ds) ds c d e refl h

pub pieces_star : (bs cs : List ℕ) (c : ℕ) → bs ≡ c ∷ cs → c ≡ 42 → ((ds : List ℕ) → cs ≡ 42 ∷ ds → ⊥)
    → pieces bs ≡ Part ∷ pieces cs
pieces_star bs cs c e star other =
    pieces_one bs cs c e (λ _ ds is. other ds is)
    ∙ ap (λ (d : ℕ). piece_of d ∷ pieces cs) star
