-- Texts that are made up to a limit.
use Rattle.std.proofs.Common.{◌≡◌, ◌⊎◌, inl, inr, ◌≤◌, ◌<◌, ℕ, ◌+◌, List, [], ◌∷◌, ◌++◌, length, take, Bool}
use Rattle.std.proofs.Common.{Option, Some, None, Result, Ok, Err, OnOk, cond, sym, ap, ◌∙◌, arith}
use Rattle.std.proofs.Common.{append_assoc, length-append, get_or, subst}
use Rattle.std.specs.List.{flat_map}
use Rattle.std.proofs.lemmas.Bool.{le-leb, lt-leb}
use Rattle.std.proofs.lemmas.List.{take_more, append-nil}
use Rattle.std.proofs.lemmas.List.Concat.{flat_map-append}
use Rattle.jv_base.proofs.Lists.{front_shorter}
use Rattle.mapping_file.specs.Limited.{text_within}
use Rattle.mapping_file.specs.MapLines.{class_line_text, field_line_text, method_line_text}
use Rattle.mapping_file.specs.Mappings.{class_lines, ended_line, mapping_text}
use Rattle.mapping_file.specs.bodies.Pushed.{IsPushed}
use Rattle.mapping_file.specs.declared.mapping.MapClass.{MapClass}
use Rattle.mapping_file.specs.declared.mapping.MapField.{MapField}
use Rattle.mapping_file.specs.declared.mapping.MapMethod.{MapMethod}
use Rattle.mapping_file.specs.declared.mapping.Mapping.{Mapping}
use Rattle.mapping_file.proofs.Canonical.{class_text}

-- two texts that are appended one after the other
pub pushed_then : (limit : ℕ) (old text middle more new : List ℕ) → IsPushed limit old text middle
    → IsPushed limit middle more new → IsPushed limit old (text ++ more) new
pushed_then limit old text middle more new (inl all) (inl rest) =
    inl (rest ∙ ap (λ t. t ++ more) all ∙ append_assoc old text more)
pushed_then limit old text middle more new (inl all) (inr rest) =
    let one = length-append middle more in
    let two = ap length all in
    let three = length-append old text in
    let four = length-append old (text ++ more) in
    let five = length-append text more in
    let long = rest.1 in
    inr (rest.0, omega (arith, one, two, three, four, five, long))
pushed_then limit old text middle more new (inr part) (inl rest) =
    let one = length-append middle more in
    let two = ap length rest in
    let three = length-append old text in
    let four = length-append old (text ++ more) in
    let five = length-append text more in
    let past = part.0 in
    let long = part.1 in
    inr (omega (arith, one, two, past), omega (arith, one, two, three, four, five, long))
pushed_then limit old text middle more new (inr part) (inr rest) =
    let one = length-append middle more in
    let three = length-append old text in
    let four = length-append old (text ++ more) in
    let five = length-append text more in
    let first = part.1 in
    let long = rest.1 in
    inr (rest.0, omega (arith, one, three, four, five, first, long))

module _ {X : Type 0} (f : X → List ℕ) (xs : List X) (i : ℕ) (limit : ℕ) (old new : List ℕ) where
  -- where the limit is passed, what was made of the first elements is as much as passes it
  pub stops : IsPushed limit old (flat_map f (take i xs)) new → limit < length new
      → IsPushed limit old (flat_map f xs) new
  stops (inl all) past =
      let one = ap length all in
      let two = length-append old (flat_map f (take i xs)) in
      let three = length-append old (flat_map f xs) in
      let four = front_shorter f xs i in
      inr (past, omega (arith, one, two, three, four))
  stops (inr part) past =
      let long = part.1 in
      let two = length-append old (flat_map f (take i xs)) in
      let three = length-append old (flat_map f xs) in
      let four = front_shorter f xs i in
      inr (past, omega (arith, long, two, three, four))

-- one element more
pub pushed_more : {X : Type 0} (f : X → List ℕ) (xs : List X) (i : ℕ) (x : X) (limit : ℕ) (old middle new : List ℕ)
    → i < length xs → x ≡ get_or xs i x → IsPushed limit old (flat_map f (take i xs)) middle
    → IsPushed limit middle (f x) new → IsPushed limit old (flat_map f (take (i + 1) xs)) new
pushed_more f xs i x limit old middle new low is before one =
    let front : flat_map f (take (i + 1) xs) ≡ flat_map f (take i xs) ++ f x =
    ap (flat_map f) (take_more xs i x low ∙ ap (λ y. take i xs ++ y ∷ []) (sym is))
    ∙ flat_map-append f (take i xs) (x ∷ [])
    ∙ ap (λ t. flat_map f (take i xs) ++ t) (append-nil (f x)) in
    rw front (pushed_then limit old (flat_map f (take i xs)) middle (f x) new before one)

-- the lines of a class that are appended one after the other
pub class_pushed_within : {T E : Type 0} (r : Result T E) (limit : ℕ) (c : MapClass) (fs : List MapField)
    (ms : List MapMethod) (before head fields out : List ℕ) → fs ≡ c.fields → ms ≡ c.methods
    → head ≡ before ++ (class_line_text c.old c.new ++ 10 ∷ [])
    → IsPushed limit head (flat_map (λ f. field_line_text f ++ 10 ∷ []) fs) fields
    → OnOk r (IsPushed limit fields (flat_map (λ m. method_line_text m ++ 10 ∷ []) ms) out)
    → OnOk r (IsPushed limit before (flat_map ended_line (class_lines c)) out)
class_pushed_within (Ok x) limit c fs ms before head fields out i j h k m =
    let l : List ℕ = class_line_text c.old c.new ++ 10 ∷ [] in
    let f : List ℕ = flat_map (λ f. field_line_text f ++ 10 ∷ []) c.fields in
    let n : List ℕ = flat_map (λ m. method_line_text m ++ 10 ∷ []) c.methods in
    let own : IsPushed limit head f fields =
    subst (λ (t : List MapField). IsPushed limit head (flat_map (λ f. field_line_text f ++ 10 ∷ []) t) fields) i k in
    let last : IsPushed limit fields n out =
    subst (λ (t : List MapMethod). IsPushed limit fields (flat_map (λ m. method_line_text m ++ 10 ∷ []) t) out) j m in
    let all : IsPushed limit before (l ++ (f ++ n)) out =
    pushed_then limit before l head (f ++ n) out (inl h) (pushed_then limit head f fields n out own last) in
    subst (λ (t : List ℕ). IsPushed limit before t out) (sym (class_text c)) all
class_pushed_within (Err e) limit c fs ms before head fields out i j h k m = tt

abbrev within : List ℕ → Bool → Option (List ℕ)
within text short = cond short (Some text) None

-- a text that passes the limit isn't made
pub not_made : (limit : ℕ) (map : Mapping) (new : List ℕ) → IsPushed limit [] (mapping_text map) new
    → limit < length new
    → None ≡ text_within limit map
not_made limit map new (inl all) past =
    let one = ap length all in
    sym (ap (within (mapping_text map)) (lt-leb (length (mapping_text map)) limit (omega (arith, one, past))))
not_made limit map new (inr part) past =
    let long = part.1 in
    sym (ap (within (mapping_text map)) (lt-leb (length (mapping_text map)) limit (omega (arith, long, past))))

-- another one is
pub made : (limit : ℕ) (map : Mapping) (new : List ℕ) → IsPushed limit [] (mapping_text map) new → length new ≤ limit
    → Some new ≡ text_within limit map
made limit map new (inl all) short =
    let one = ap length all in
    ap Some all
    ∙ sym (ap (within (mapping_text map)) (le-leb (length (mapping_text map)) limit (omega (arith, one, short))))
made limit map new (inr part) short = let past = part.0 in absurd (omega (arith, past, short))
