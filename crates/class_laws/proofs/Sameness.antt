-- Types that the test of the canonical spelling takes for one are one.
use Rattle.std.proofs.Common.{◌≡◌, true, List, [], ◌∷◌, refl, sym, ap, ◌∙◌}
use Rattle.std.proofs.lemmas.Bool.{eq-eqb, eqb-true, and_parts}
use Rattle.std.specs.Bool.{Decides}
use Rattle.std.specs.Cmp.Lexicographic.{pointwise}
use Rattle.jv_base.specs.Types.{field_text}
use Rattle.jv_base.proofs.Equality.{text_Decides}
use Rattle.class_model.specs.declared.frame.VType.{VType}
use Rattle.class_model.specs.declared.frame.VType.TheVariants as vtype
use Rattle.class_model.specs.CanonicalFrames.{same_type, same_types}
use Rattle.class_laws.proofs.Descriptors.{type_is}

same_type_is : (a b : VType) → same_type a b ≡ true → a ≡ b
same_type_is vtype.Top vtype.Top h = refl
same_type_is vtype.Int vtype.Int h = refl
same_type_is vtype.Long vtype.Long h = refl
same_type_is vtype.Null vtype.Null h = refl
same_type_is vtype.UninitThis vtype.UninitThis h = refl
same_type_is (vtype.Object a) (vtype.Object b) h = ap (λ c. vtype.Object c)
    (type_is a b ((text_Decides (field_text a) (field_text b)).0 h))
same_type_is (vtype.Uninit a) (vtype.Uninit b) h = ap (λ n. vtype.Uninit n) (eqb-true a b h)
same_type_is _ _ h = absurd cc

pub same_types_are : (one other : List VType) → same_types one other ≡ true → one ≡ other
same_types_are [] [] h = refl
same_types_are [] (y ∷ ys) h = absurd cc
same_types_are (x ∷ xs) [] h = absurd cc
same_types_are (x ∷ xs) (y ∷ ys) h =
    let parts = and_parts (same_type x y) (pointwise same_type xs ys) h in
    ap (λ (t : VType). t ∷ xs) (same_type_is x y parts.0)
    ∙ ap (λ (ts : List VType). y ∷ ts) (same_types_are xs ys parts.1)

same_type_refl : (ty : VType) → same_type ty ty ≡ true
same_type_refl vtype.Top = refl
same_type_refl vtype.Int = refl
same_type_refl vtype.Long = refl
same_type_refl vtype.Null = refl
same_type_refl vtype.UninitThis = refl
same_type_refl (vtype.Object class) = (text_Decides (field_text class) (field_text class)).1 refl
same_type_refl (vtype.Uninit n) = eq-eqb n n refl

same_types_refl : (types : List VType) → same_types types types ≡ true
same_types_refl [] = refl
same_types_refl (ty ∷ types) = rw (same_type_refl ty) (same_types_refl types)

-- the test decides whether types are one
pub same_types_Decides : (one other : List VType) → Decides (same_types one other) (one ≡ other)
same_types_Decides one other = (
  same_types_are one other,
  λ e. ap (λ (types : List VType). same_types one types) (sym e) ∙ same_types_refl one,
)
