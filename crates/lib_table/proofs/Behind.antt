-- Fronts of a text, and what is left behind them.
use Rattle.std.proofs.Common.{◌≡◌, ℕ, ◌+◌, Bool, true, false, ◌&&◌, cond, nat_eq, eqb, List, [], ◌∷◌, ◌++◌, length}
use Rattle.std.proofs.Common.{take, drop, Option, Some, None, refl, sym, ne_eqb, suc, replicate, get_or, ◌<◌, ◌∙◌, ap}
use Rattle.std.proofs.Common.{arith}
use Rattle.std.proofs.lemmas.List.{drop_more}
use Rattle.std.specs.List.{flat_map}
use Rattle.jv_base.specs.declared.types.FieldType.{FieldType}
use Rattle.jv_base.specs.Types.{field_text}
use Rattle.std.specs.Cmp.Lexicographic.{pointwise}
use Rattle.std.specs.Option.{option_and_then, option_map_or}
use Rattle.jv_base.specs.Names.{is_text}
use Rattle.lib_table.specs.bodies.Stripping.{behind}

one_more : {X : Type 0} (b p : Bool) (o : Option X) (x : X) → o ≡ cond p (Some x) None
    → cond b o None ≡ cond (b && p) (Some x) None
one_more true p o x h = h
one_more false p o x h = refl

-- a front stands at the beginning, and what is left is what follows
pub behind_is : (front text : List ℕ)
    → behind front text ≡ cond (pointwise nat_eq (take (length front) text) front)
    (Some (drop (length front) text)) None
behind_is [] text = refl
behind_is (x ∷ front) [] = refl
behind_is (x ∷ front) (y ∷ text) =
    one_more (eqb y x) (pointwise nat_eq (take (length front) text) front) (behind front text)
    (drop (length front) text) (behind_is front text)

then_behind : (b : Bool) (o p : Option (List ℕ)) (more : List ℕ) → o ≡ option_and_then (behind more) p
    → cond b o None ≡ option_and_then (behind more) (cond b p None)
then_behind true o p more h = h
then_behind false o p more h = refl

-- a front that has two parts
pub behind_append : (one two text : List ℕ) → behind (one ++ two) text ≡ option_and_then (behind two) (behind one text)
behind_append [] two text = refl
behind_append (x ∷ one) two [] = refl
behind_append (x ∷ one) two (y ∷ text) = then_behind (eqb y x) (behind (one ++ two) text) (behind one text) two
    (behind_append one two text)

whole_step : (b p : Bool) (o : Option (List ℕ)) → p ≡ option_map_or (λ rest. eqb (length rest) 0) o false
    → (b && p) ≡ option_map_or (λ rest. eqb (length rest) 0) (cond b o None) false
whole_step true p o h = h
whole_step false p o h = refl

-- two texts are the same where nothing is left
pub behind_whole : (text front : List ℕ)
    → is_text text front ≡ option_map_or (λ rest. eqb (length rest) 0) (behind front text) false
behind_whole [] [] = refl
behind_whole (y ∷ text) [] = sym (ne_eqb (length (y ∷ text)) 0 (λ e. absurd (omega (arith, e))))
behind_whole [] (x ∷ front) = refl
behind_whole (y ∷ text) (x ∷ front) = whole_step (eqb y x) (is_text text front) (behind front text)
    (behind_whole text front)

pub behind_then : (one two text rest : List ℕ) → behind one text ≡ Some rest
    → behind (one ++ two) text ≡ behind two rest
behind_then one two text rest h = behind_append one two text ∙ ap (option_and_then (behind two)) h

pub behind_stuck : (one two text : List ℕ) → behind one text ≡ None → behind (one ++ two) text ≡ None
behind_stuck one two text h = behind_append one two text ∙ ap (option_and_then (behind two)) h

pub brackets_then : (n k : ℕ) (text rest : List ℕ) → n ≡ suc k → behind (91 ∷ []) text ≡ Some rest
    → behind (replicate n 91) text ≡ behind (replicate k 91) rest
brackets_then n k text rest is h = ap (λ (m : ℕ). behind (replicate m 91) text) is
    ∙ behind_then (91 ∷ []) (replicate k 91) text rest h

pub fields_are : (types : List FieldType) (i : ℕ) (ty : FieldType) → i < length types → ty ≡ get_or types i ty
    → flat_map field_text (drop i types) ≡ field_text ty ++ flat_map field_text (drop (i + 1) types)
fields_are types i ty within is =
    ap (flat_map field_text) (drop_more types i ty within ∙ ap (λ (t : FieldType). t ∷ drop (i + 1) types) (sym is))
