-- The last place of a byte, found from left to right.
use Rattle.std.proofs.Common.{◌≡◌, ℕ, ◌+◌, ◌<◌, Bool, true, false, List, ◌∷◌, length, drop, drop-cons, get_or, ◌≤◌}
use Rattle.std.proofs.Common.{Option, Some, None, arith, refl, sym, ap, ◌∙◌, eqb, suc, inl, inr}
use Rattle.std.specs.Prelude.{if◌then◌else◌}
use Rattle.std.proofs.lemmas.Bool.{eq-eqb}
use Rattle.std.proofs.lemmas.Bool.Decides.{eqb_tells}
use Rattle.std.proofs.lemmas.List.{drop_all}
use Rattle.retrace_core.specs.Cut.{last_of, last_place_of}

-- the last place behind the first bytes, of which so many were seen, or the one that was found before
abbrev pub later : ℕ → Option ℕ → Option ℕ → Option ℕ
later at found None = found
later at found (Some n) = Some (at + n)

-- one byte more was seen
pub later_step : (at : ℕ) (found rest : Option ℕ) (here : Bool)
    → later (at + 1) (if here then Some at else found) rest ≡ later at found (last_of here rest)
later_step at found (Some n) here = ap Some (omega arith)
later_step at found None true = ap Some (omega arith)
later_step at found None false = refl

cons_at : (xs : List ℕ) (j : ℕ) → j < length xs → drop j xs ≡ get_or xs j 0 ∷ drop (j + 1) xs
cons_at xs j lt =
    let next : suc j ≡ j + 1 = omega arith in
    drop-cons xs j 0 lt ∙ ap (λ (n : ℕ). get_or xs j 0 ∷ drop n xs) next

-- the byte at this place was seen
seen : (byte : ℕ) (text : List ℕ) (at : ℕ) (found : Option ℕ) (here : Bool) → at < length text
    → eqb (get_or text at 0) byte ≡ here
    → later at found (last_place_of byte (drop at text)) ≡ last_place_of byte text
    → later (at + 1) (if here then Some at else found) (last_place_of byte (drop (at + 1) text))
    ≡ last_place_of byte text
unfolding last_place_of
seen byte text at found here lt is h =
    later_step at found (last_place_of byte (drop (at + 1) text)) here
    ∙ ap (λ (b : Bool). later at found (last_of b (last_place_of byte (drop (at + 1) text)))) (sym is)
    ∙ ap (λ (xs : List ℕ). later at found (last_place_of byte xs)) (sym (cons_at text at lt))
    ∙ h

-- it is the one that is looked for
pub seen_here : (byte : ℕ) (text : List ℕ) (at : ℕ) (found : Option ℕ) → at < length text → get_or text at 0 ≡ byte
    → later at found (last_place_of byte (drop at text)) ≡ last_place_of byte text
    → later (at + 1) (Some at) (last_place_of byte (drop (at + 1) text)) ≡ last_place_of byte text
seen_here byte text at found lt is h = seen byte text at found true lt (eq-eqb _ _ is) h

-- it is another one
pub seen_other : (byte : ℕ) (text : List ℕ) (at : ℕ) (found : Option ℕ) → at < length text
    → (get_or text at 0 ≡ byte → ⊥)
    → later at found (last_place_of byte (drop at text)) ≡ last_place_of byte text
    → later (at + 1) found (last_place_of byte (drop (at + 1) text)) ≡ last_place_of byte text
seen_other byte text at found lt other h = elim (eqb_tells (get_or text at 0) byte) [
  | inl same ↦ absurd (other same.1)
  | inr apart ↦ seen byte text at found false lt apart.0 h
]

-- all bytes were seen
pub all_seen : (byte : ℕ) (text : List ℕ) (at : ℕ) (found : Option ℕ) → length text ≤ at
    → later at found (last_place_of byte (drop at text)) ≡ last_place_of byte text → found ≡ last_place_of byte text
unfolding last_place_of
all_seen byte text at found le h =
    sym (ap (λ (xs : List ℕ). later at found (last_place_of byte xs)) (drop_all at text le)) ∙ h
