-- Types have different descriptors where they differ.
use Rattle.std.proofs.Common.{◌≡◌, ◌↔◌, ℕ, zero, suc, ◌+◌, ◌-◌, Bool, cond, eqb, List, [], ◌∷◌, ◌++◌}
use Rattle.std.proofs.Common.{length, take, IsTrue, Option, Some, None, refl, sym, ap, ◌∙◌, arith}
use Rattle.std.proofs.lemmas.List.{length_push, take_at}
use Rattle.std.specs.Prelude.{option_map, replicate}
use Rattle.jv_base.specs.Names.{is_text}
use Rattle.jv_base.specs.Types.{base_text, field_text}
use Rattle.jv_base.specs.declared.types.Base.{Base}
use Rattle.jv_base.specs.declared.types.Base.TheVariants as base
use Rattle.jv_base.specs.declared.types.FieldType.{FieldType}
use Rattle.jv_base.proofs.Equality.{text_Decides}
use Rattle.jv_base.proofs.Tests.{same_test}

-- the base type whose descriptor begins with a letter, the rest behind it
base_of : ℕ → List ℕ → Option Base
base_of letter rest =
    cond (eqb letter 90) (Some base.Boolean)
    (cond (eqb letter 66) (Some base.Byte) (cond (eqb letter 67) (Some base.Char) (cond
    (eqb letter 83) (Some base.Short)
    (cond (eqb letter 73) (Some base.Int)
    (cond (eqb letter 74) (Some base.Long) (cond (eqb letter 70) (Some base.Float) (cond
    (eqb letter 68) (Some base.Double)
    (Some (base.Class (take (length rest - 1) rest))))))))))

-- the dimensions, counted from n, and the base type that a descriptor tells
parts_of : ℕ → List ℕ → Option (ℕ × Base)
parts_of n [] = None
parts_of n (letter ∷ rest) = cond (eqb letter 91) (parts_of (n + 1) rest)
    (option_map (λ (b : Base). (n, b)) (base_of letter rest))

before_semicolon : (name : List ℕ) → take (length (name ++ 59 ∷ []) - 1) (name ++ 59 ∷ []) ≡ name
before_semicolon name =
    let n : length (name ++ 59 ∷ []) - 1 ≡ length name = let m = length_push name 59 in omega arith in
    ap (λ k. take k (name ++ 59 ∷ [])) n ∙ take_at name (59 ∷ []) (length name) refl

base_told : (n : ℕ) (b : Base) → parts_of n (base_text b) ≡ Some (n, b)
unfolding parts_of base_of base_text
base_told n base.Boolean = refl
base_told n base.Byte = refl
base_told n base.Char = refl
base_told n base.Short = refl
base_told n base.Int = refl
base_told n base.Long = refl
base_told n base.Float = refl
base_told n base.Double = refl
base_told n (base.Class name) = ap (λ (text : List ℕ). let O : Option (ℕ × Base) = Some (n, base.Class text) in O)
    (before_semicolon name)

parts_told : (n dims : ℕ) (b : Base) → parts_of n (replicate dims 91 ++ base_text b) ≡ Some (n + dims, b)
unfolding parts_of
parts_told n zero b = base_told n b
    ∙ ap (λ (k : ℕ). let O : Option (ℕ × Base) = Some (k, b) in O) (let e : n ≡ n + 0 = omega arith in e)
parts_told n (suc dims) b = parts_told (n + 1) dims b ∙ ap (λ (k : ℕ). let O : Option (ℕ
    × Base) = Some (k, b) in O) (let e : n + 1 + dims ≡ n + suc dims = omega arith in e)

told : (ty : FieldType) → parts_of 0 (field_text ty) ≡ Some (ty.dims, ty.base)
unfolding field_text
told ty = parts_told 0 ty.dims ty.base
    ∙ ap (λ (k : ℕ). let O : Option (ℕ × Base) = Some (k, ty.base) in O) (let e : 0 + ty.dims
    ≡ ty.dims = omega arith in e)

parts_are : (one other : ℕ × Base) → (let O : Option (ℕ × Base) = Some one in O) ≡ Some other → one ≡ other
parts_are one other h = cc

-- equal descriptors are those of one type
pub type_is : (one other : FieldType) → field_text one ≡ field_text other → one ≡ other
type_is one other h =
    let parts : (let P : ℕ × Base = (one.dims, one.base) in P)
    ≡ (other.dims, other.base) = parts_are _ _ (sym (told one)
    ∙ ap (parts_of 0) h ∙ told other) in
    ap (λ (p : ℕ × Base). let T : FieldType = record { dims = p.0; base = p.1 } in T) parts

-- a test of types is the one of their descriptors
pub same_text : (equal : Bool) (one other : FieldType) → (IsTrue equal ↔ (one ≡ other))
    → equal ≡ is_text (field_text one) (field_text other)
same_text equal one other h =
    let d = text_Decides (field_text one) (field_text other) in
    same_test equal (is_text (field_text one) (field_text other)) (λ t. d.1 (ap field_text (h.0 t)))
    (λ t. h.1 (type_is one other (d.0 t)))
