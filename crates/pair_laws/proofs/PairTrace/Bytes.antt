-- Bytes of names.
use Rattle.std.proofs.Common.{◌≡◌, ◌⊎◌, inl, inr, ℕ, ◌==◌, ◌&&◌, ◌||◌, not, Bool, true, false, cond, List, [], ◌∷◌}
use Rattle.std.proofs.Common.{map, refl}
use Rattle.std.proofs.Common.{sym, ap, subst, ◌∙◌, codes}
use Rattle.std.specs.List.{AllByRecursion, list_all}
use Rattle.std.proofs.lemmas.Bool.{and_parts, eqb-true}
use Rattle.jv_base.specs.External.{dotted, swapped}
use Rattle.jv_base.specs.Names.{is_class_name, is_member_name, is_method_name, is_name_byte, is_primitive_or_void}
use Rattle.jv_base.specs.Names.{is_text}
use Rattle.jv_base.specs.Names.{all_name_bytes, parts_whole}
use Rattle.jv_base.proofs.Equality.{text_Decides}
use Rattle.jv_base.proofs.Naming.{class_name_is}
use Rattle.pair_laws.specs.PairTrace.FrameLines.{HasNone}

-- a byte that no name has isn't among those of one
not_name : (byte b : ℕ) → is_name_byte byte ≡ false → is_name_byte b ≡ true → (b == byte) ≡ false
not_name byte b none is = by (b == byte) refl
  where
    by : (t : Bool) → (b == byte) ≡ t → t ≡ false
    by true e = let w : true ≡ false = sym is ∙ ap is_name_byte (eqb-true b byte e) ∙ none in absurd cc
    by false e = refl

-- the bytes of a class name are those of names, or slashes
abbrev IsByte : ℕ → Type 0
IsByte b = (b ≡ 47) ⊎ (is_name_byte b ≡ true)

bytes_of : (in_part : Bool) (bs : List ℕ) → parts_whole in_part bs ≡ true → AllByRecursion IsByte bs
bytes_of in_part [] h = tt
bytes_of in_part (b ∷ bs) h = by (b == 47) refl h (bytes_of false bs) (bytes_of true bs)
  where
    by : (t : Bool) → (b == 47) ≡ t
        → cond t (in_part && parts_whole false bs) (is_name_byte b && parts_whole true bs) ≡ true
        → (parts_whole false bs ≡ true → AllByRecursion IsByte bs)
        → (parts_whole true bs ≡ true → AllByRecursion IsByte bs) → AllByRecursion IsByte (b ∷ bs)
    by true e h f g = (inl (eqb-true b 47 e), f (and_parts in_part (parts_whole false bs) h).1)
    by false e h f g = let p = and_parts (is_name_byte b) (parts_whole true bs) h in (inr p.0, g p.1)

class_bytes : (name : List ℕ) → is_class_name name ≡ true → AllByRecursion IsByte name
class_bytes name h = bytes_of false name
    (and_parts (parts_whole false name) (not (is_primitive_or_void name)) (sym (class_name_is name) ∙ h)).0

no_dots : (bs : List ℕ) → AllByRecursion IsByte bs → HasNone 46 bs
unfolding is_name_byte
no_dots [] h = tt
no_dots (b ∷ bs) h = (by h.0, no_dots bs h.1)
  where
    by : IsByte b → (b == 46) ≡ false
    by (inl e) = ap (λ (x : ℕ). x == 46) e
    by (inr is) = not_name 46 b refl is

no_parens : (bs : List ℕ) → AllByRecursion IsByte bs → HasNone 40 (dotted bs)
unfolding is_name_byte
no_parens [] h = tt
no_parens (b ∷ bs) h = (by h.0, no_parens bs h.1)
  where
    other : (t : Bool) → (b == 40) ≡ false → (cond t 46 b == 40) ≡ false
    other true e = refl
    other false e = e

    by : IsByte b → (swapped 47 46 b == 40) ≡ false
    by (inl e) = other (b == 47) (ap (λ (x : ℕ). x == 40) e)
    by (inr is) = other (b == 47) (not_name 40 b refl is)

pub class_has_no_paren : (name : List ℕ) → is_class_name name ≡ true → HasNone 40 (dotted name)
class_has_no_paren name h = no_parens name (class_bytes name h)

-- names with dots are one where they are
undotted : (bs : List ℕ) → HasNone 46 bs → map (swapped 46 47) (dotted bs) ≡ bs
undotted [] h = refl
undotted (b ∷ bs) h = λ i. by (b == 47) refl i ∷ undotted bs h.1 i
  where
    by : (t : Bool) → (b == 47) ≡ t → swapped 46 47 (cond t 46 b) ≡ b
    by true e = sym (eqb-true b 47 e)
    by false e = ap (λ (u : Bool). cond u 47 b) h.0

pub class_undotted : (name : List ℕ) → is_class_name name ≡ true → map (swapped 46 47) (dotted name) ≡ name
class_undotted name h = undotted name (no_dots name (class_bytes name h))

pub one_dotted : (a b : List ℕ) → is_class_name a ≡ true → is_class_name b ≡ true → dotted a ≡ dotted b → a ≡ b
one_dotted a b h k e =
    sym (undotted a (no_dots a (class_bytes a h))) ∙ ap (map (swapped 46 47)) e ∙ undotted b (no_dots b
    (class_bytes b k))

-- names of methods
none_of_bytes : (byte : ℕ) (bs : List ℕ) → is_name_byte byte ≡ false → list_all is_name_byte bs ≡ true → HasNone byte bs
none_of_bytes byte [] none h = tt
none_of_bytes byte (b ∷ bs) none h =
    let p = and_parts (is_name_byte b) (list_all is_name_byte bs) h in
    (not_name byte b none p.0, none_of_bytes byte bs none p.1)

pub method_has_none : (name : List ℕ) → is_method_name name ≡ true → HasNone 40 name × HasNone 46 name
unfolding is_method_name is_member_name is_name_byte
method_has_none name h = by (is_member_name name) refl (is_text name (codes "<init>")) refl
    (is_text name (codes "<clinit>")) refl h
  where
    by : (t : Bool) → is_member_name name ≡ t → (u : Bool) → is_text name (codes "<init>") ≡ u → (v : Bool)
        → is_text name (codes "<clinit>") ≡ v → ((t || u) || v) ≡ true → HasNone 40 name × HasNone 46 name
    by true e u f v g h =
        let bytes = (and_parts _ (all_name_bytes name) e).1 in
        (none_of_bytes 40 name refl bytes, none_of_bytes 46 name refl bytes)
    by false e true f v g h =
        subst (λ (t : List ℕ). HasNone 40 t × HasNone 46 t) (sym ((text_Decides name (codes "<init>")).0 f))
        ((refl, (refl, (refl, (refl, (refl, (refl, tt)))))), (refl, (refl, (refl, (refl, (refl, (refl, tt)))))))
    by false e false f true g h =
        subst (λ (t : List ℕ). HasNone 40 t × HasNone 46 t) (sym ((text_Decides name (codes "<clinit>")).0 g)) (
          (refl, (refl, (refl, (refl, (refl, (refl, (refl, (refl, tt)))))))),
          (refl, (refl, (refl, (refl, (refl, (refl, (refl, (refl, tt)))))))),
        )
    by false e false f false g h = absurd cc
