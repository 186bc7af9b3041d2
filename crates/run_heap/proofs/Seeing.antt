-- Operands as methods of the library see them, by their tests.
use Rattle.std.proofs.Common.{◌≡◌, ◌∙◌, ◌<◌, ◌+◌, ℕ, ℤ, true, false, List, [], ◌∷◌, ◌++◌, Option, Some, None, ap}
use Rattle.std.proofs.Common.{append_assoc, drop, get_or, length, refl, sym}
use Rattle.std.specs.Option.{option_map}
use Rattle.std.proofs.lemmas.List.{drop_more}
use Rattle.jvm_model.specs.Calls.{all_seen, seen_operand}
use Rattle.jvm_model.specs.Heap.{World}
use Rattle.jvm_model.specs.Library.{ALong, ANull, AString, AnInt, Seen}
use Rattle.jvm_model.specs.Stack.{◌>>=◌}
use Rattle.jvm_model.specs.Value.{Int, Lit, Long, Null, Ref, Value, as_int, as_long, same_reference}
use Rattle.run_values.specs.References.{number_of, text_of}

pub seen_null : (w : World) (v : Value) → same_reference v Null ≡ true → Some ANull ≡ seen_operand w v
seen_null w (Int z) e = let f : false ≡ true = e in absurd cc
seen_null w (Long z) e = let f : false ≡ true = e in absurd cc
seen_null w Null e = refl
seen_null w (Ref n) e = let f : false ≡ true = e in absurd cc
seen_null w (Lit units) e = let f : false ≡ true = e in absurd cc

pub seen_int : (w : World) (v : Value) (z : ℤ) → as_int v ≡ Some z → Some (AnInt z) ≡ seen_operand w v
seen_int w (Int y) z e = cc
seen_int w (Long y) z e = absurd cc
seen_int w Null z e = absurd cc
seen_int w (Ref n) z e = absurd cc
seen_int w (Lit units) z e = absurd cc

pub seen_long : (w : World) (v : Value) (z : ℤ) → as_long v ≡ Some z → Some (ALong z) ≡ seen_operand w v
seen_long w (Int y) z e = absurd cc
seen_long w (Long y) z e = cc
seen_long w Null z e = absurd cc
seen_long w (Ref n) z e = absurd cc
seen_long w (Lit units) z e = absurd cc

pub seen_text : (w : World) (v : Value) (us : List ℕ) → text_of v ≡ Some us → Some (AString v us) ≡ seen_operand w v
seen_text w (Int y) us e = absurd cc
seen_text w (Long y) us e = absurd cc
seen_text w Null us e = absurd cc
seen_text w (Ref n) us e = absurd cc
seen_text w (Lit units) us e = let f : units ≡ us = cc in ap (λ (x : List ℕ). Some (AString (Lit units) x)) (sym f)

pub seen_nothing : (w : World) (v : Value) → same_reference v Null ≡ false → as_int v ≡ None → as_long v ≡ None
    → text_of v ≡ None → number_of v ≡ None → None ≡ seen_operand w v
seen_nothing w (Int z) a b c d e = absurd cc
seen_nothing w (Long z) a b c d e = absurd cc
seen_nothing w Null a b c d e = let f : true ≡ false = a in absurd cc
seen_nothing w (Ref n) a b c d e = absurd cc
seen_nothing w (Lit units) a b c d e = absurd cc

-- an operand, by the tests of its value
pub ruleset operand_seen = (seen_null, seen_int, seen_long, seen_text, seen_nothing)

-- what was seen before, in front of what is seen of the others
abbrev pub behind : List Seen → Option (List Seen) → Option (List Seen)
behind told others = option_map (λ xs. told ++ xs) others

opened : (vs : List Value) (i : ℕ) (v : Value) → i < length vs → v ≡ get_or vs i v → drop i vs ≡ v ∷ drop (i + 1) vs
opened vs i v lt e = drop_more vs i v lt ∙ ap (λ (x : Value). x ∷ drop (i + 1) vs) (sym e)

-- one more operand is seen
pub one_more : (w : World) (vs : List Value) (i : ℕ) (v : Value) (told : List Seen) (s : Seen) → i < length vs
    → v ≡ get_or vs i v → Some s ≡ seen_operand w v
    → behind told (all_seen w (drop i vs)) ≡ behind (told ++ s ∷ []) (all_seen w (drop (i + 1) vs))
one_more w vs i v told s lt e is =
    ap (λ (us : List Value). behind told (all_seen w us)) (opened vs i v lt e)
    ∙ ap (λ (o : Option Seen). behind told (o >>= (λ x. all_seen w (drop (i + 1) vs) >>= (λ xs. Some (x ∷ xs)))))
    (sym is)
    ∙ by (all_seen w (drop (i + 1) vs))
  where
    by : (o : Option (List Seen)) → behind told (o >>= (λ xs. Some (s ∷ xs))) ≡ behind (told ++ s ∷ []) o
    by None = refl
    by (Some xs) = ap Some (sym (append_assoc told (s ∷ []) xs))

-- one refers to no object
pub none_more : (w : World) (vs : List Value) (i : ℕ) (v : Value) (told : List Seen) → i < length vs
    → v ≡ get_or vs i v → None ≡ seen_operand w v → behind told (all_seen w (drop i vs)) ≡ None
none_more w vs i v told lt e is =
    ap (λ (us : List Value). behind told (all_seen w us)) (opened vs i v lt e)
    ∙ ap (λ (o : Option Seen). behind told (o >>= (λ x. all_seen w (drop (i + 1) vs) >>= (λ xs. Some (x ∷ xs)))))
    (sym is)
