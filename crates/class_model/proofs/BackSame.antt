-- Constants that the canonical spelling takes as one are one.
use Rattle.std.proofs.Common.{◌≡◌, true, ℤ, List, refl, ap}
use Rattle.std.specs.Ordering.{int_eq}
use Rattle.std.specs.Cmp.{signed_Decides}
use Rattle.std.proofs.lemmas.Bool.{and_parts, and_from}
use Rattle.jv_base.proofs.Equality.{text_Decides}
use Rattle.class_model.specs.declared.constant.PoolConstant.{PoolConstant}
use Rattle.class_model.specs.declared.constant.PoolConstant.TheVariants.{Utf8, Integer, Long, SecondOfLong, Class, Str}
use Rattle.class_model.specs.declared.constant.PoolConstant.TheVariants.{NameAndType, Fieldref, Methodref}
use Rattle.class_model.specs.declared.constant.PoolConstant.TheVariants.{InterfaceMethodref}
use Rattle.class_model.specs.CanonicalPool.{same, same_text}

text_is : (a b : List _) → same_text a b ≡ true → a ≡ b
text_is a b h = (text_Decides a b).0 h

text_self : (a : List _) → same_text a a ≡ true
text_self a = (text_Decides a a).1 refl

number_is : (a b : ℤ) → int_eq a b ≡ true → a ≡ b
number_is a b h = (signed_Decides a b).0 h

number_self : (a : ℤ) → int_eq a a ≡ true
number_self a = (signed_Decides a a).1 refl

pub same_is : (a b : PoolConstant) → same a b ≡ true → a ≡ b
same_is (Utf8 a) (Utf8 b) h = ap (λ t. Utf8 t) (text_is a b h)
same_is (Integer a) (Integer b) h = ap (λ n. Integer n) (number_is a b h)
same_is (Long a) (Long b) h = ap (λ n. Long n) (number_is a b h)
same_is (SecondOfLong a) (SecondOfLong b) h = ap (λ n. SecondOfLong n) (number_is a b h)
same_is (Class a) (Class b) h = ap (λ t. Class t) (text_is a b h)
same_is (Str a) (Str b) h = ap (λ t. Str t) (text_is a b h)
same_is (NameAndType a b) (NameAndType c d) h = let p = and_parts _ _ h in λ i. NameAndType (text_is a c p.0 i)
    (text_is b d p.1 i)
same_is (Fieldref a b c) (Fieldref d e f) h =
    let p = and_parts _ _ h in
    let q = and_parts _ _ p.1 in
    λ i. Fieldref (text_is a d p.0 i) (text_is b e q.0 i) (text_is c f q.1 i)
same_is (Methodref a b c) (Methodref d e f) h =
    let p = and_parts _ _ h in
    let q = and_parts _ _ p.1 in
    λ i. Methodref (text_is a d p.0 i) (text_is b e q.0 i) (text_is c f q.1 i)
same_is (InterfaceMethodref a b c) (InterfaceMethodref d e f) h =
    let p = and_parts _ _ h in
    let q = and_parts _ _ p.1 in
    λ i. InterfaceMethodref (text_is a d p.0 i) (text_is b e q.0 i) (text_is c f q.1 i)
same_is _ _ h = absurd cc

pub same_self : (a : PoolConstant) → same a a ≡ true
same_self (Utf8 a) = text_self a
same_self (Integer a) = number_self a
same_self (Long a) = number_self a
same_self (SecondOfLong a) = number_self a
same_self (Class a) = text_self a
same_self (Str a) = text_self a
same_self (NameAndType a b) = and_from _ _ (text_self a) (text_self b)
same_self (Fieldref a b c) = and_from _ _ (text_self a) (and_from _ _ (text_self b) (text_self c))
same_self (Methodref a b c) = and_from _ _ (text_self a) (and_from _ _ (text_self b) (text_self c))
same_self (InterfaceMethodref a b c) = and_from _ _ (text_self a) (and_from _ _ (text_self b) (text_self c))
