-- A trace, line by line.
use Rattle.std.proofs.Common.{◌≡◌, ℕ, ◌+◌, ◌<◌, ◌≤◌, Bool, true, false, cond, eqb, ltb, List, [], ◌∷◌, ◌++◌, length}
use Rattle.std.proofs.Common.{◌-◌, get_or, take, drop, flat_map, map, Some, None, refl, sym, ap, ◌∙◌, arith, append_assoc}
use Rattle.std.proofs.lemmas.List.{append-nil, take_rest}
use Rattle.std.specs.List.{position, position_or_len, slice_split}
use Rattle.std.proofs.lemmas.Bool.{ltb-true, ltb-false}
use Rattle.std.proofs.lemmas.List.Splits.{slice_split_first, length-slice_split}
use Rattle.text_lines.proofs.FirstLine.{one_part}
use Rattle.mapping_file.specs.declared.mapping.Mapping.{Mapping}
use Rattle.retrace_core.specs.OldNames.{or_these}
use Rattle.retrace_core.specs.Retraced.{ended_retraced, joined, line_retraced, parts_retraced, retraced}

abbrev is_end : ℕ → Bool
is_end b = eqb b 10

-- a part with another behind it is an ended line
part_is_ended : (m : Mapping) (x : List ℕ) (parts : List (List ℕ)) → 0 < length parts
    → parts_retraced m (x ∷ parts) ≡ ended_retraced m x ++ parts_retraced m parts
unfolding parts_retraced
part_is_ended m x [] h = absurd (omega arith)
part_is_ended m x (y ∷ more) h = refl

first_at : (m : Mapping) (text : List ℕ) (at : ℕ) → position_or_len is_end text < length text
    → position_or_len is_end text ≡ at
    → retraced m text ≡ ended_retraced m (take at text) ++ retraced m (drop (at + 1) text)
unfolding retraced
first_at m text at lt e =
    ap (parts_retraced m) (slice_split_first is_end text 0 lt)
    ∙ part_is_ended m (take (position_or_len is_end text) text)
    (slice_split is_end (drop (position_or_len is_end text + 1) text))
    (omega (arith, length-slice_split is_end (drop (position_or_len is_end text + 1) text)))
    ∙ ap (λ (n : ℕ). ended_retraced m (take n text) ++ parts_retraced m (slice_split is_end (drop (n + 1) text))) e

-- the line before the first end
pub first_retraced : (m : Mapping) (text : List ℕ) (at : ℕ) → position is_end text ≡ Some at
    → retraced m text ≡ ended_retraced m (take at text) ++ retraced m (drop (at + 1) text)
first_retraced m text at h =
    elim (ltb (position_or_len is_end text) (length text)) as
    (λ b. ltb (position_or_len is_end text) (length text) ≡ b
    → cond b (Some (position_or_len is_end text)) None ≡ Some at
    → retraced m text ≡ ended_retraced m (take at text) ++ retraced m (drop (at + 1) text)) [
      | true ↦ λ e k. first_at m text at (ltb-true _ _ e) cc
      | false ↦ λ e k. absurd cc
    ] refl h

last_at : (m : Mapping) (text : List ℕ) → length text ≤ position_or_len is_end text
    → retraced m text ≡ joined (10 ∷ []) (line_retraced m text)
unfolding retraced parts_retraced
last_at m text h = ap (parts_retraced m) (one_part text h)

-- a text without an end is one line
pub last_retraced : (m : Mapping) (text : List ℕ) → position is_end text ≡ None
    → retraced m text ≡ joined (10 ∷ []) (line_retraced m text)
last_retraced m text h =
    elim (ltb (position_or_len is_end text) (length text)) as
    (λ b. ltb (position_or_len is_end text) (length text) ≡ b → cond b (Some (position_or_len is_end text)) None ≡ None
    → retraced m text ≡ joined (10 ∷ []) (line_retraced m text)) [
      | true ↦ λ t k. absurd cc
      | false ↦ λ t k. last_at m text (ltb-false _ _ t)
    ] refl h

-- a line that was put in front of the others
pub put_first : (m : Mapping) (out more trace : List ℕ) (text line rest : List ℕ)
    → retraced m text ≡ ended_retraced m line ++ retraced m rest
    → more ≡ out ++ ended_retraced m line → out ++ retraced m text ≡ trace → more ++ retraced m rest ≡ trace
put_first m out more trace text line rest h e k =
    ap (λ (xs : List ℕ). xs ++ retraced m rest) e
    ∙ append_assoc out (ended_retraced m line) (retraced m rest)
    ∙ ap (λ (xs : List ℕ). out ++ xs) (sym h)
    ∙ k

-- lines with something between them, from the first on
pub joined_flat : (between line : List ℕ) (lines : List (List ℕ))
    → joined between (line ∷ lines) ≡ line ++ flat_map (λ l. between ++ l) lines
unfolding joined
joined_flat between line [] = sym (append-nil line)
joined_flat between line (next ∷ lines) =
    ap (λ (l : List ℕ). line ++ (between ++ l)) (joined_flat between next lines)
    ∙ ap (λ (l : List ℕ). line ++ l) (sym (append_assoc between next (flat_map (λ l. between ++ l) lines)))

-- the same of lines that are made of names
pub joined_names : (between : List ℕ) (text : List ℕ → List ℕ) (name : List ℕ) (names : List (List ℕ))
    → text name ++ flat_map (λ n. between ++ text n) names ≡ joined between (map text (name ∷ names))
joined_names between text name names =
    ap (λ (l : List ℕ). text name ++ l) (mapped names) ∙ sym (joined_flat between (text name) (map text names))
  where
    mapped : (ns : List (List ℕ)) → flat_map (λ n. between ++ text n) ns ≡ flat_map (λ l. between ++ l) (map text ns)
    mapped [] = refl
    mapped (n ∷ ns) = ap (λ (l : List ℕ). (between ++ text n) ++ l) (mapped ns)

pub joined_one : (between line : List ℕ) → joined between (line ∷ []) ≡ line
unfolding joined
joined_one between line = refl

-- a line for each of several names
pub several : (between : List ℕ) (text : List ℕ → List ℕ) (names : List (List ℕ)) (first name : List ℕ)
    → 1 ≤ length names → first ≡ get_or names 0 first
    → text first ++ flat_map (λ n. between ++ text n) (take (length names - 1) (drop 1 names))
    ≡ joined between (map text (or_these names (name ∷ [])))
several between text [] first name some is = absurd (omega (arith, some))
several between text (n ∷ ns) first name some is =
    (λ i. text (is i) ++ flat_map (λ (l : List ℕ). between ++ text l) (take_rest (n ∷ ns) 1 i))
    ∙ joined_names between text n ns

-- where there is none, the name itself
pub none_named : (between : List ℕ) (text : List ℕ → List ℕ) (names : List (List ℕ)) (name : List ℕ)
    → length names < 1 → text name ≡ joined between (map text (or_these names (name ∷ [])))
none_named between text [] name low = sym (joined_one between (text name))
none_named between text (n ∷ ns) name low = absurd (omega (arith, low))
