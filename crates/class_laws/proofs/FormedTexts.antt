-- The names of classes in a descriptor that is a text are texts.
use Rattle.std.proofs.Common.{◌≡◌, ℕ, zero, suc, ◌<◌, List, [], ◌∷◌, ◌++◌, length, get_or, Option, Some}
use Rattle.std.proofs.Common.{None, refl, sym, subst, append_assoc, arith}
use Rattle.std.specs.Prelude.{IsUtf8, IfSome, codes, replicate}
use Rattle.std.specs.Str.{IsCharBoundary}
use Rattle.std.specs.List.{AllByRecursion, flat_map}
use Rattle.std.proofs.lemmas.List.{length-append, drop_at, take_at}
use Rattle.std.proofs.lemmas.Str.{IsUtf8-take, IsUtf8-drop, IsCharBoundary-at_seam, IsCharBoundary-from_take}
use Rattle.std.proofs.lemmas.Str.{IsCharBoundary-before_ascii}
use Rattle.jv_base.specs.Types.{base_text, field_text, result_text, method_text}
use Rattle.jv_base.specs.declared.types.FieldType.{FieldType}
use Rattle.jv_base.specs.declared.types.MethodType.{MethodType}
use Rattle.jv_base.specs.declared.types.Base.{Base}
use Rattle.jv_base.specs.declared.types.Base.TheVariants as base
use Rattle.class_model.specs.OpValues.{IsBaseValue}
use Rattle.class_model.proofs.BackEntries.{class_utf8, end_utf8, brackets_utf8}
use Rattle.class_laws.proofs.SpelledWanted.{open_utf8, close_utf8}
use Rattle.class_laws.specs.ClassValues.{IsFieldTypeValue, IsMethodTypeValue}

-- ---- parts of a text

there_first : (xs ys : List ℕ) → get_or (xs ++ ys) (length xs) 0 ≡ get_or ys 0 0
there_first [] ys = refl
there_first (x ∷ xs) ys = there_first xs ys

-- cut where both parts are texts
cut : (xs ys : List ℕ) → IsUtf8 (xs ++ ys) → IsCharBoundary (xs ++ ys) (length xs) → IsUtf8 xs × IsUtf8 ys
cut xs ys h b = (
  subst (λ (l : List ℕ). IsUtf8 l) (take_at xs ys (length xs) refl) (IsUtf8-take (xs ++ ys) (length xs) h b),
  subst (λ (l : List ℕ). IsUtf8 l) (drop_at xs ys (length xs) refl) (IsUtf8-drop (xs ++ ys) (length xs) h b),
)

pub utf8_behind : (xs ys : List ℕ) → IsUtf8 xs → IsUtf8 (xs ++ ys) → IsUtf8 ys
utf8_behind xs ys front h =
    (cut xs ys h (IsCharBoundary-from_take (xs ++ ys) (length xs) h (omega (arith, length-append xs ys))
    (subst (λ (l : List ℕ). IsUtf8 l) (sym (take_at xs ys (length xs) refl)) front))).1

pub utf8_before : (xs ys : List ℕ) → IsUtf8 ys → IsUtf8 (xs ++ ys) → IsUtf8 xs
utf8_before xs ys back h = (cut xs ys h (IsCharBoundary-at_seam (xs ++ ys) xs ys refl back)).0

-- ---- descriptors

base_value : (b : Base) → IsUtf8 (base_text b) → IsBaseValue b
unfolding base_text
base_value (base.Class name) h = utf8_before name (codes ";") end_utf8
    (utf8_behind (codes "L") (name ++ codes ";") class_utf8 h)
base_value base.Boolean h = tt
base_value base.Byte h = tt
base_value base.Char h = tt
base_value base.Short h = tt
base_value base.Int h = tt
base_value base.Long h = tt
base_value base.Float h = tt
base_value base.Double h = tt

-- the type that a text tells
pub field_value : (ty : FieldType) → IsUtf8 (field_text ty) → IsFieldTypeValue ty
unfolding field_text
field_value ty h = base_value ty.base (utf8_behind (replicate ty.dims 91) (base_text ty.base) (brackets_utf8 ty.dims) h)

-- ---- descriptors of methods

-- the first byte is there, and is one of a character alone
abbrev BeginsLow : List ℕ → Type 0
BeginsLow l = (0 < length l) × (get_or l 0 0 < 128)

base_low : (b : Base) (rest : List ℕ) → BeginsLow (base_text b ++ rest)
unfolding base_text
base_low (base.Class name) rest = (omega arith, omega arith)
base_low base.Boolean rest = (omega arith, omega arith)
base_low base.Byte rest = (omega arith, omega arith)
base_low base.Char rest = (omega arith, omega arith)
base_low base.Short rest = (omega arith, omega arith)
base_low base.Int rest = (omega arith, omega arith)
base_low base.Long rest = (omega arith, omega arith)
base_low base.Float rest = (omega arith, omega arith)
base_low base.Double rest = (omega arith, omega arith)

brackets_low : (n : ℕ) (b : Base) (rest : List ℕ) → BeginsLow ((replicate n 91 ++ base_text b) ++ rest)
brackets_low zero b rest = base_low b rest
brackets_low (suc n) b rest = (omega arith, omega arith)

field_low : (ty : FieldType) (rest : List ℕ) → BeginsLow (field_text ty ++ rest)
unfolding field_text
field_low ty rest = brackets_low ty.dims ty.base rest

all_low : (tys : List FieldType) (tail : List ℕ) → BeginsLow tail → BeginsLow (flat_map field_text tys ++ tail)
all_low [] tail h = h
all_low (ty ∷ tys) tail h = subst BeginsLow (sym (append_assoc (field_text ty) (flat_map field_text tys) tail))
    (field_low ty (flat_map field_text tys ++ tail))

-- cut before such a byte
cut_low : (xs ys : List ℕ) → BeginsLow ys → IsUtf8 (xs ++ ys) → IsUtf8 xs × IsUtf8 ys
cut_low xs ys low h = cut xs ys h
    (IsCharBoundary-before_ascii (xs ++ ys) (length xs) (omega (arith, length-append xs ys, low.0))
    (subst (λ (n : ℕ). n < 128) (sym (there_first xs ys)) low.1))

arguments_value : (tys : List FieldType) (tail : List ℕ) → BeginsLow tail → IsUtf8 (flat_map field_text tys ++ tail)
    → AllByRecursion IsFieldTypeValue tys × IsUtf8 tail
arguments_value [] tail low h = (tt, h)
arguments_value (ty ∷ tys) tail low h =
    let rest = flat_map field_text tys in
    let c = cut_low (field_text ty) (rest ++ tail) (all_low tys tail low)
    (subst (λ (l : List ℕ). IsUtf8 l) (append_assoc (field_text ty) rest tail) h) in
    let o = arguments_value tys tail low c.1 in
    ((field_value ty c.0, o.0), o.1)

result_value : (ty : Option FieldType) → IsUtf8 (result_text ty) → IfSome ty IsFieldTypeValue
unfolding result_text
result_value None h = tt
result_value (Some ty) h = field_value ty h

-- the type of a method that a text tells
pub method_value : (ty : MethodType) → IsUtf8 (method_text ty) → IsMethodTypeValue ty
unfolding method_text
method_value ty h =
    let tail = codes ")" ++ result_text ty.ret in
    let a = arguments_value ty.args tail (omega arith, omega arith)
    (utf8_behind (codes "(") (flat_map field_text ty.args ++ tail) open_utf8 h) in
    record {
      arguments = a.0;
      returned = result_value ty.ret
          (utf8_behind (codes ")") (result_text ty.ret) close_utf8 a.1);
    }
