-- Keys are the same exactly where they are equal.
use Rattle.std.proofs.Common.{◌≡◌, ℕ, ◌&&◌, nat_eq, Decides, refl, ap, sym, ◌∙◌}
use Rattle.std.specs.Ordering.{is_eq}
use Rattle.std.specs.Cmp.{signed_Decides, unsigned_Decides}
use Rattle.jv_base.proofs.Equality.{and_Decides}
use Rattle.constant_table.specs.declared.key.Key.{Key}
use Rattle.constant_table.specs.declared.key.Key.TheVariants as key
use Rattle.constant_table.specs.contracts.key.KeyPartialEq.TheImpl.{eq-value}
use Rattle.constant_table.specs.contracts.key.KeyOrd.TheImpl.{cmp-value}
use Rattle.constant_table.specs.contracts.key.KeyOrd.TheImpl.Laws.{matches_eq-law}
use Rattle.constant_table.specs.bodies.Keys.{same_key}

compares : (a b : Key) → eq-value.it a b ≡ same_key a b
compares (key.Utf8 a1) (key.Utf8 b1) = refl
compares (key.Utf8 a1) (key.Integer b1) = refl
compares (key.Utf8 a1) (key.Long b1) = refl
compares (key.Utf8 a1) (key.SecondOfLong b1) = refl
compares (key.Utf8 a1) (key.Class b1) = refl
compares (key.Utf8 a1) (key.Str b1) = refl
compares (key.Utf8 a1) (key.NameAndType b1 b2) = refl
compares (key.Utf8 a1) (key.Fieldref b1 b2 b3) = refl
compares (key.Utf8 a1) (key.Methodref b1 b2 b3) = refl
compares (key.Utf8 a1) (key.InterfaceMethodref b1 b2 b3) = refl
compares (key.Integer a1) (key.Utf8 b1) = refl
compares (key.Integer a1) (key.Integer b1) = refl
compares (key.Integer a1) (key.Long b1) = refl
compares (key.Integer a1) (key.SecondOfLong b1) = refl
compares (key.Integer a1) (key.Class b1) = refl
compares (key.Integer a1) (key.Str b1) = refl
compares (key.Integer a1) (key.NameAndType b1 b2) = refl
compares (key.Integer a1) (key.Fieldref b1 b2 b3) = refl
compares (key.Integer a1) (key.Methodref b1 b2 b3) = refl
compares (key.Integer a1) (key.InterfaceMethodref b1 b2 b3) = refl
compares (key.Long a1) (key.Utf8 b1) = refl
compares (key.Long a1) (key.Integer b1) = refl
compares (key.Long a1) (key.Long b1) = refl
compares (key.Long a1) (key.SecondOfLong b1) = refl
compares (key.Long a1) (key.Class b1) = refl
compares (key.Long a1) (key.Str b1) = refl
compares (key.Long a1) (key.NameAndType b1 b2) = refl
compares (key.Long a1) (key.Fieldref b1 b2 b3) = refl
compares (key.Long a1) (key.Methodref b1 b2 b3) = refl
compares (key.Long a1) (key.InterfaceMethodref b1 b2 b3) = refl
compares (key.SecondOfLong a1) (key.Utf8 b1) = refl
compares (key.SecondOfLong a1) (key.Integer b1) = refl
compares (key.SecondOfLong a1) (key.Long b1) = refl
compares (key.SecondOfLong a1) (key.SecondOfLong b1) = refl
compares (key.SecondOfLong a1) (key.Class b1) = refl
compares (key.SecondOfLong a1) (key.Str b1) = refl
compares (key.SecondOfLong a1) (key.NameAndType b1 b2) = refl
compares (key.SecondOfLong a1) (key.Fieldref b1 b2 b3) = refl
compares (key.SecondOfLong a1) (key.Methodref b1 b2 b3) = refl
compares (key.SecondOfLong a1) (key.InterfaceMethodref b1 b2 b3) = refl
compares (key.Class a1) (key.Utf8 b1) = refl
compares (key.Class a1) (key.Integer b1) = refl
compares (key.Class a1) (key.Long b1) = refl
compares (key.Class a1) (key.SecondOfLong b1) = refl
compares (key.Class a1) (key.Class b1) = refl
compares (key.Class a1) (key.Str b1) = refl
compares (key.Class a1) (key.NameAndType b1 b2) = refl
compares (key.Class a1) (key.Fieldref b1 b2 b3) = refl
compares (key.Class a1) (key.Methodref b1 b2 b3) = refl
compares (key.Class a1) (key.InterfaceMethodref b1 b2 b3) = refl
compares (key.Str a1) (key.Utf8 b1) = refl
compares (key.Str a1) (key.Integer b1) = refl
compares (key.Str a1) (key.Long b1) = refl
compares (key.Str a1) (key.SecondOfLong b1) = refl
compares (key.Str a1) (key.Class b1) = refl
compares (key.Str a1) (key.Str b1) = refl
compares (key.Str a1) (key.NameAndType b1 b2) = refl
compares (key.Str a1) (key.Fieldref b1 b2 b3) = refl
compares (key.Str a1) (key.Methodref b1 b2 b3) = refl
compares (key.Str a1) (key.InterfaceMethodref b1 b2 b3) = refl
compares (key.NameAndType a1 a2) (key.Utf8 b1) = refl
compares (key.NameAndType a1 a2) (key.Integer b1) = refl
compares (key.NameAndType a1 a2) (key.Long b1) = refl
compares (key.NameAndType a1 a2) (key.SecondOfLong b1) = refl
compares (key.NameAndType a1 a2) (key.Class b1) = refl
compares (key.NameAndType a1 a2) (key.Str b1) = refl
compares (key.NameAndType a1 a2) (key.NameAndType b1 b2) = refl
compares (key.NameAndType a1 a2) (key.Fieldref b1 b2 b3) = refl
compares (key.NameAndType a1 a2) (key.Methodref b1 b2 b3) = refl
compares (key.NameAndType a1 a2) (key.InterfaceMethodref b1 b2 b3) = refl
compares (key.Fieldref a1 a2 a3) (key.Utf8 b1) = refl
compares (key.Fieldref a1 a2 a3) (key.Integer b1) = refl
compares (key.Fieldref a1 a2 a3) (key.Long b1) = refl
compares (key.Fieldref a1 a2 a3) (key.SecondOfLong b1) = refl
compares (key.Fieldref a1 a2 a3) (key.Class b1) = refl
compares (key.Fieldref a1 a2 a3) (key.Str b1) = refl
compares (key.Fieldref a1 a2 a3) (key.NameAndType b1 b2) = refl
compares (key.Fieldref a1 a2 a3) (key.Fieldref b1 b2 b3) = refl
compares (key.Fieldref a1 a2 a3) (key.Methodref b1 b2 b3) = refl
compares (key.Fieldref a1 a2 a3) (key.InterfaceMethodref b1 b2 b3) = refl
compares (key.Methodref a1 a2 a3) (key.Utf8 b1) = refl
compares (key.Methodref a1 a2 a3) (key.Integer b1) = refl
compares (key.Methodref a1 a2 a3) (key.Long b1) = refl
compares (key.Methodref a1 a2 a3) (key.SecondOfLong b1) = refl
compares (key.Methodref a1 a2 a3) (key.Class b1) = refl
compares (key.Methodref a1 a2 a3) (key.Str b1) = refl
compares (key.Methodref a1 a2 a3) (key.NameAndType b1 b2) = refl
compares (key.Methodref a1 a2 a3) (key.Fieldref b1 b2 b3) = refl
compares (key.Methodref a1 a2 a3) (key.Methodref b1 b2 b3) = refl
compares (key.Methodref a1 a2 a3) (key.InterfaceMethodref b1 b2 b3) = refl
compares (key.InterfaceMethodref a1 a2 a3) (key.Utf8 b1) = refl
compares (key.InterfaceMethodref a1 a2 a3) (key.Integer b1) = refl
compares (key.InterfaceMethodref a1 a2 a3) (key.Long b1) = refl
compares (key.InterfaceMethodref a1 a2 a3) (key.SecondOfLong b1) = refl
compares (key.InterfaceMethodref a1 a2 a3) (key.Class b1) = refl
compares (key.InterfaceMethodref a1 a2 a3) (key.Str b1) = refl
compares (key.InterfaceMethodref a1 a2 a3) (key.NameAndType b1 b2) = refl
compares (key.InterfaceMethodref a1 a2 a3) (key.Fieldref b1 b2 b3) = refl
compares (key.InterfaceMethodref a1 a2 a3) (key.Methodref b1 b2 b3) = refl
compares (key.InterfaceMethodref a1 a2 a3) (key.InterfaceMethodref b1 b2 b3) = refl

-- the derived order takes no two keys for one
pub order_is_same : (λ (a b : Key). is_eq (cmp-value.it a b)) ≡ same_key
order_is_same = λ i a b. (sym (matches_eq-law a b) ∙ compares a b) i

two_numbers : (a b c d : ℕ) → Decides (nat_eq a b && nat_eq c d) ((a ≡ b) × (c ≡ d))
two_numbers a b c d = and_Decides _ _ (unsigned_Decides a b) (unsigned_Decides c d)
    (λ p q. let r : (a ≡ b) × (c ≡ d) = (p, q) in r) (λ e. e.0) (λ e. e.1)

pub key_Decides : (a b : Key) → Decides (same_key a b) (a ≡ b)
key_Decides (key.Utf8 a1) (key.Utf8 b1) = let d = unsigned_Decides a1 b1 in
    (λ e. ap (λ x. key.Utf8 x) (d.0 e), λ e. d.1 cc)
key_Decides (key.Utf8 a1) (key.Integer b1) = (λ e. absurd cc, λ e. absurd cc)
key_Decides (key.Utf8 a1) (key.Long b1) = (λ e. absurd cc, λ e. absurd cc)
key_Decides (key.Utf8 a1) (key.SecondOfLong b1) = (λ e. absurd cc, λ e. absurd cc)
key_Decides (key.Utf8 a1) (key.Class b1) = (λ e. absurd cc, λ e. absurd cc)
key_Decides (key.Utf8 a1) (key.Str b1) = (λ e. absurd cc, λ e. absurd cc)
key_Decides (key.Utf8 a1) (key.NameAndType b1 b2) = (λ e. absurd cc, λ e. absurd cc)
key_Decides (key.Utf8 a1) (key.Fieldref b1 b2 b3) = (λ e. absurd cc, λ e. absurd cc)
key_Decides (key.Utf8 a1) (key.Methodref b1 b2 b3) = (λ e. absurd cc, λ e. absurd cc)
key_Decides (key.Utf8 a1) (key.InterfaceMethodref b1 b2 b3) = (λ e. absurd cc, λ e. absurd cc)
key_Decides (key.Integer a1) (key.Utf8 b1) = (λ e. absurd cc, λ e. absurd cc)
key_Decides (key.Integer a1) (key.Integer b1) = let d = signed_Decides a1 b1 in
    (λ e. ap (λ x. key.Integer x) (d.0 e), λ e. d.1 cc)
key_Decides (key.Integer a1) (key.Long b1) = (λ e. absurd cc, λ e. absurd cc)
key_Decides (key.Integer a1) (key.SecondOfLong b1) = (λ e. absurd cc, λ e. absurd cc)
key_Decides (key.Integer a1) (key.Class b1) = (λ e. absurd cc, λ e. absurd cc)
key_Decides (key.Integer a1) (key.Str b1) = (λ e. absurd cc, λ e. absurd cc)
key_Decides (key.Integer a1) (key.NameAndType b1 b2) = (λ e. absurd cc, λ e. absurd cc)
key_Decides (key.Integer a1) (key.Fieldref b1 b2 b3) = (λ e. absurd cc, λ e. absurd cc)
key_Decides (key.Integer a1) (key.Methodref b1 b2 b3) = (λ e. absurd cc, λ e. absurd cc)
key_Decides (key.Integer a1) (key.InterfaceMethodref b1 b2 b3) = (λ e. absurd cc, λ e. absurd cc)
key_Decides (key.Long a1) (key.Utf8 b1) = (λ e. absurd cc, λ e. absurd cc)
key_Decides (key.Long a1) (key.Integer b1) = (λ e. absurd cc, λ e. absurd cc)
key_Decides (key.Long a1) (key.Long b1) = let d = signed_Decides a1 b1 in
    (λ e. ap (λ x. key.Long x) (d.0 e), λ e. d.1 cc)
key_Decides (key.Long a1) (key.SecondOfLong b1) = (λ e. absurd cc, λ e. absurd cc)
key_Decides (key.Long a1) (key.Class b1) = (λ e. absurd cc, λ e. absurd cc)
key_Decides (key.Long a1) (key.Str b1) = (λ e. absurd cc, λ e. absurd cc)
key_Decides (key.Long a1) (key.NameAndType b1 b2) = (λ e. absurd cc, λ e. absurd cc)
key_Decides (key.Long a1) (key.Fieldref b1 b2 b3) = (λ e. absurd cc, λ e. absurd cc)
key_Decides (key.Long a1) (key.Methodref b1 b2 b3) = (λ e. absurd cc, λ e. absurd cc)
key_Decides (key.Long a1) (key.InterfaceMethodref b1 b2 b3) = (λ e. absurd cc, λ e. absurd cc)
key_Decides (key.SecondOfLong a1) (key.Utf8 b1) = (λ e. absurd cc, λ e. absurd cc)
key_Decides (key.SecondOfLong a1) (key.Integer b1) = (λ e. absurd cc, λ e. absurd cc)
key_Decides (key.SecondOfLong a1) (key.Long b1) = (λ e. absurd cc, λ e. absurd cc)
key_Decides (key.SecondOfLong a1) (key.SecondOfLong b1) = let d = signed_Decides a1 b1 in
    (λ e. ap (λ x. key.SecondOfLong x) (d.0 e), λ e. d.1 cc)
key_Decides (key.SecondOfLong a1) (key.Class b1) = (λ e. absurd cc, λ e. absurd cc)
key_Decides (key.SecondOfLong a1) (key.Str b1) = (λ e. absurd cc, λ e. absurd cc)
key_Decides (key.SecondOfLong a1) (key.NameAndType b1 b2) = (λ e. absurd cc, λ e. absurd cc)
key_Decides (key.SecondOfLong a1) (key.Fieldref b1 b2 b3) = (λ e. absurd cc, λ e. absurd cc)
key_Decides (key.SecondOfLong a1) (key.Methodref b1 b2 b3) = (λ e. absurd cc, λ e. absurd cc)
key_Decides (key.SecondOfLong a1) (key.InterfaceMethodref b1 b2 b3) = (λ e. absurd cc, λ e. absurd cc)
key_Decides (key.Class a1) (key.Utf8 b1) = (λ e. absurd cc, λ e. absurd cc)
key_Decides (key.Class a1) (key.Integer b1) = (λ e. absurd cc, λ e. absurd cc)
key_Decides (key.Class a1) (key.Long b1) = (λ e. absurd cc, λ e. absurd cc)
key_Decides (key.Class a1) (key.SecondOfLong b1) = (λ e. absurd cc, λ e. absurd cc)
key_Decides (key.Class a1) (key.Class b1) = let d = unsigned_Decides a1 b1 in
    (λ e. ap (λ x. key.Class x) (d.0 e), λ e. d.1 cc)
key_Decides (key.Class a1) (key.Str b1) = (λ e. absurd cc, λ e. absurd cc)
key_Decides (key.Class a1) (key.NameAndType b1 b2) = (λ e. absurd cc, λ e. absurd cc)
key_Decides (key.Class a1) (key.Fieldref b1 b2 b3) = (λ e. absurd cc, λ e. absurd cc)
key_Decides (key.Class a1) (key.Methodref b1 b2 b3) = (λ e. absurd cc, λ e. absurd cc)
key_Decides (key.Class a1) (key.InterfaceMethodref b1 b2 b3) = (λ e. absurd cc, λ e. absurd cc)
key_Decides (key.Str a1) (key.Utf8 b1) = (λ e. absurd cc, λ e. absurd cc)
key_Decides (key.Str a1) (key.Integer b1) = (λ e. absurd cc, λ e. absurd cc)
key_Decides (key.Str a1) (key.Long b1) = (λ e. absurd cc, λ e. absurd cc)
key_Decides (key.Str a1) (key.SecondOfLong b1) = (λ e. absurd cc, λ e. absurd cc)
key_Decides (key.Str a1) (key.Class b1) = (λ e. absurd cc, λ e. absurd cc)
key_Decides (key.Str a1) (key.Str b1) = let d = unsigned_Decides a1 b1 in
    (λ e. ap (λ x. key.Str x) (d.0 e), λ e. d.1 cc)
key_Decides (key.Str a1) (key.NameAndType b1 b2) = (λ e. absurd cc, λ e. absurd cc)
key_Decides (key.Str a1) (key.Fieldref b1 b2 b3) = (λ e. absurd cc, λ e. absurd cc)
key_Decides (key.Str a1) (key.Methodref b1 b2 b3) = (λ e. absurd cc, λ e. absurd cc)
key_Decides (key.Str a1) (key.InterfaceMethodref b1 b2 b3) = (λ e. absurd cc, λ e. absurd cc)
key_Decides (key.NameAndType a1 a2) (key.Utf8 b1) = (λ e. absurd cc, λ e. absurd cc)
key_Decides (key.NameAndType a1 a2) (key.Integer b1) = (λ e. absurd cc, λ e. absurd cc)
key_Decides (key.NameAndType a1 a2) (key.Long b1) = (λ e. absurd cc, λ e. absurd cc)
key_Decides (key.NameAndType a1 a2) (key.SecondOfLong b1) = (λ e. absurd cc, λ e. absurd cc)
key_Decides (key.NameAndType a1 a2) (key.Class b1) = (λ e. absurd cc, λ e. absurd cc)
key_Decides (key.NameAndType a1 a2) (key.Str b1) = (λ e. absurd cc, λ e. absurd cc)
key_Decides (key.NameAndType a1 a2) (key.NameAndType b1 b2) =
    and_Decides _ _ (unsigned_Decides a1 b1) (unsigned_Decides a2 b2) (λ p q i. key.NameAndType (p i) (q i)) (λ e. cc)
    (λ e. cc)
key_Decides (key.NameAndType a1 a2) (key.Fieldref b1 b2 b3) = (λ e. absurd cc, λ e. absurd cc)
key_Decides (key.NameAndType a1 a2) (key.Methodref b1 b2 b3) = (λ e. absurd cc, λ e. absurd cc)
key_Decides (key.NameAndType a1 a2) (key.InterfaceMethodref b1 b2 b3) = (λ e. absurd cc, λ e. absurd cc)
key_Decides (key.Fieldref a1 a2 a3) (key.Utf8 b1) = (λ e. absurd cc, λ e. absurd cc)
key_Decides (key.Fieldref a1 a2 a3) (key.Integer b1) = (λ e. absurd cc, λ e. absurd cc)
key_Decides (key.Fieldref a1 a2 a3) (key.Long b1) = (λ e. absurd cc, λ e. absurd cc)
key_Decides (key.Fieldref a1 a2 a3) (key.SecondOfLong b1) = (λ e. absurd cc, λ e. absurd cc)
key_Decides (key.Fieldref a1 a2 a3) (key.Class b1) = (λ e. absurd cc, λ e. absurd cc)
key_Decides (key.Fieldref a1 a2 a3) (key.Str b1) = (λ e. absurd cc, λ e. absurd cc)
key_Decides (key.Fieldref a1 a2 a3) (key.NameAndType b1 b2) = (λ e. absurd cc, λ e. absurd cc)
key_Decides (key.Fieldref a1 a2 a3) (key.Fieldref b1 b2 b3) =
    and_Decides _ _ (unsigned_Decides a1 b1) (two_numbers a2 b2 a3 b3)
    (λ p q i. key.Fieldref (p i) (q.0 i) (q.1 i)) (λ e. cc) (λ e. let r : (a2 ≡ b2) × (a3 ≡ b3) = (cc, cc) in r)
key_Decides (key.Fieldref a1 a2 a3) (key.Methodref b1 b2 b3) = (λ e. absurd cc, λ e. absurd cc)
key_Decides (key.Fieldref a1 a2 a3) (key.InterfaceMethodref b1 b2 b3) = (λ e. absurd cc, λ e. absurd cc)
key_Decides (key.Methodref a1 a2 a3) (key.Utf8 b1) = (λ e. absurd cc, λ e. absurd cc)
key_Decides (key.Methodref a1 a2 a3) (key.Integer b1) = (λ e. absurd cc, λ e. absurd cc)
key_Decides (key.Methodref a1 a2 a3) (key.Long b1) = (λ e. absurd cc, λ e. absurd cc)
key_Decides (key.Methodref a1 a2 a3) (key.SecondOfLong b1) = (λ e. absurd cc, λ e. absurd cc)
key_Decides (key.Methodref a1 a2 a3) (key.Class b1) = (λ e. absurd cc, λ e. absurd cc)
key_Decides (key.Methodref a1 a2 a3) (key.Str b1) = (λ e. absurd cc, λ e. absurd cc)
key_Decides (key.Methodref a1 a2 a3) (key.NameAndType b1 b2) = (λ e. absurd cc, λ e. absurd cc)
key_Decides (key.Methodref a1 a2 a3) (key.Fieldref b1 b2 b3) = (λ e. absurd cc, λ e. absurd cc)
key_Decides (key.Methodref a1 a2 a3) (key.Methodref b1 b2 b3) =
    and_Decides _ _ (unsigned_Decides a1 b1) (two_numbers a2 b2 a3 b3)
    (λ p q i. key.Methodref (p i) (q.0 i) (q.1 i)) (λ e. cc) (λ e. let r : (a2 ≡ b2) × (a3 ≡ b3) = (cc, cc) in r)
key_Decides (key.Methodref a1 a2 a3) (key.InterfaceMethodref b1 b2 b3) = (λ e. absurd cc, λ e. absurd cc)
key_Decides (key.InterfaceMethodref a1 a2 a3) (key.Utf8 b1) = (λ e. absurd cc, λ e. absurd cc)
key_Decides (key.InterfaceMethodref a1 a2 a3) (key.Integer b1) = (λ e. absurd cc, λ e. absurd cc)
key_Decides (key.InterfaceMethodref a1 a2 a3) (key.Long b1) = (λ e. absurd cc, λ e. absurd cc)
key_Decides (key.InterfaceMethodref a1 a2 a3) (key.SecondOfLong b1) = (λ e. absurd cc, λ e. absurd cc)
key_Decides (key.InterfaceMethodref a1 a2 a3) (key.Class b1) = (λ e. absurd cc, λ e. absurd cc)
key_Decides (key.InterfaceMethodref a1 a2 a3) (key.Str b1) = (λ e. absurd cc, λ e. absurd cc)
key_Decides (key.InterfaceMethodref a1 a2 a3) (key.NameAndType b1 b2) = (λ e. absurd cc, λ e. absurd cc)
key_Decides (key.InterfaceMethodref a1 a2 a3) (key.Fieldref b1 b2 b3) = (λ e. absurd cc, λ e. absurd cc)
key_Decides (key.InterfaceMethodref a1 a2 a3) (key.Methodref b1 b2 b3) = (λ e. absurd cc, λ e. absurd cc)
key_Decides (key.InterfaceMethodref a1 a2 a3) (key.InterfaceMethodref b1 b2 b3) =
    and_Decides _ _ (unsigned_Decides a1 b1) (two_numbers a2 b2 a3 b3)
    (λ p q i. key.InterfaceMethodref (p i) (q.0 i) (q.1 i)) (λ e. cc)
    (λ e. let r : (a2 ≡ b2) × (a3 ≡ b3) = (cc, cc) in r)
