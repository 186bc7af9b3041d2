-- A pool that is filled with longs before their second indices has them so.
use Rattle.std.proofs.Common.{◌≡◌, ◌⊎◌, inl, inr, Bool, true, false, cond, ◌||◌, List, [], ◌∷◌, ◌++◌, Option, Some}
use Rattle.std.proofs.Common.{None, ℤ, refl, sym, ap, subst, ◌∙◌, append_assoc}
use Rattle.std.specs.Ordering.{int_eq}
use Rattle.std.specs.List.{list_any}
use Rattle.indexmap.specs.IndexSet.{insert_key, insert_all}
use Rattle.class_model.specs.declared.constant.PoolConstant.{PoolConstant}
use Rattle.class_model.specs.declared.constant.PoolConstant.TheVariants.{Utf8, Integer, Long, SecondOfLong, Class, Str}
use Rattle.class_model.specs.declared.constant.PoolConstant.TheVariants.{NameAndType, Fieldref, Methodref}
use Rattle.class_model.specs.declared.constant.PoolConstant.TheVariants.{InterfaceMethodref}
use Rattle.class_model.specs.CanonicalPool.{same, filled}
use Rattle.class_model.specs.bodies.PoolEntries.{Has, begun_by, IsFirst, ArePaired}

-- ---- one more constant

push_one : (ks : List PoolConstant) (o : Option ℤ) (k : PoolConstant) → ArePaired o ks → IsFirst k → begun_by k ≡ None
    → ArePaired o (ks ++ k ∷ [])
push_one [] None k h first e = (first, subst (λ (p : Option ℤ). ArePaired p []) (sym e) tt)
push_one [] (Some v) k h first e = absurd h
push_one (x ∷ ks) None k h first e = (h.0, push_one ks (begun_by x) k h.1 first e)
push_one (x ∷ ks) (Some v) k h first e = (h.0, push_one ks None k h.1 first e)

push_two : (ks : List PoolConstant) (o : Option ℤ) (v : ℤ) → ArePaired o ks
    → ArePaired o (ks ++ Long v ∷ SecondOfLong v ∷ [])
push_two [] None v h = (tt, (refl, tt))
push_two [] (Some w) v h = absurd h
push_two (x ∷ ks) None v h = (h.0, push_two ks (begun_by x) v h.1)
push_two (x ∷ ks) (Some w) v h = (h.0, push_two ks None v h.1)

-- ---- a long is there where its second index is

-- whether the long that was begun is this one
abbrev is_begun : Option ℤ → ℤ → Bool
is_begun None v = false
is_begun (Some w) v = int_eq v w

alike : (ks : List PoolConstant) (o : Option ℤ) (v : ℤ) → ArePaired o ks
    → (is_begun o v || list_any (same (Long v)) ks) ≡ list_any (same (SecondOfLong v)) ks
alike [] None v h = refl
alike [] (Some w) v h = absurd h
alike (k ∷ ks) (Some w) v h =
    let rest : list_any (same (Long v)) ks ≡ list_any (same (SecondOfLong v)) ks = alike ks None v h.1 in
    subst (λ (c : PoolConstant). (int_eq v w || (same (Long v) c || list_any (same (Long v)) ks))
    ≡ (same (SecondOfLong v) c || list_any (same (SecondOfLong v)) ks))
    (sym h.0) (ap (λ (b : Bool). int_eq v w || b) rest)
alike (Long w ∷ ks) None v h = alike ks (Some w) v h.1
alike (SecondOfLong w ∷ ks) None v h = absurd h.0
alike (Utf8 text ∷ ks) None v h = alike ks None v h.1
alike (Integer value ∷ ks) None v h = alike ks None v h.1
alike (Class name ∷ ks) None v h = alike ks None v h.1
alike (Str text ∷ ks) None v h = alike ks None v h.1
alike (NameAndType name descriptor ∷ ks) None v h = alike ks None v h.1
alike (Fieldref class name descriptor ∷ ks) None v h = alike ks None v h.1
alike (Methodref class name descriptor ∷ ks) None v h = alike ks None v h.1
alike (InterfaceMethodref class name descriptor ∷ ks) None v h = alike ks None v h.1

-- a long that is new changes nothing for second indices
not_yet_by : (b c d : Bool) → b ≡ c → (b || d) ≡ false → (c || d) ≡ false
not_yet_by b c d e h = subst (λ (x : Bool). (x || d) ≡ false) e h

second_apart : (ks : List PoolConstant) (v : ℤ)
    → list_any (same (SecondOfLong v)) (ks ++ Long v ∷ []) ≡ list_any (same (SecondOfLong v)) ks
second_apart [] v = refl
second_apart (x ∷ ks) v = ap (λ (b : Bool). same (SecondOfLong v) x || b) (second_apart ks v)

-- ---- filling

-- what was put so far; a long that was begun is there with its second index, or stands last and alone
abbrev IsSoFar : Option ℤ → List PoolConstant → Type 0
IsSoFar None ks = ArePaired None ks
IsSoFar (Some v) ks = (ArePaired None ks × Has ks (SecondOfLong v))
    ⊎ ((js : List PoolConstant) × (ks ≡ js ++ Long v ∷ []) × ArePaired None js
    × (list_any (same (SecondOfLong v)) ks ≡ false))

-- a constant of one index
single : (b : Bool) (ks : List PoolConstant) (k : PoolConstant) → IsFirst k → begun_by k ≡ None → ArePaired None ks
    → ArePaired None (cond b ks (ks ++ k ∷ []))
single true ks k first e h = h
single false ks k first e h = push_one ks None k h first e

-- a long
begin_by : (b : Bool) (ks : List PoolConstant) (v : ℤ) → list_any (same (Long v)) ks ≡ b → ArePaired None ks
    → IsSoFar (Some v) (cond b ks (ks ++ Long v ∷ []))
begin_by true ks v e h = inl (h, sym (alike ks None v h) ∙ e)
begin_by false ks v e h = inr (ks, refl, h, second_apart ks v ∙ sym (alike ks None v h) ∙ e)

-- its second index
end_by : (b : Bool) (ks : List PoolConstant) (v : ℤ) → list_any (same (SecondOfLong v)) ks ≡ b → IsSoFar (Some v) ks
    → ArePaired None (cond b ks (ks ++ SecondOfLong v ∷ []))
end_by true ks v e (inl there) = there.0
end_by true ks v e (inr alone) = absurd (let f : true ≡ false = sym e ∙ alone.3 in cc)
end_by false ks v e (inl there) = absurd (let f : true ≡ false = sym there.1 ∙ e in cc)
end_by false ks v e (inr alone) =
    let one : ArePaired None (alone.0 ++ Long v ∷ SecondOfLong v ∷ []) = push_two alone.0 None v alone.2 in
    let whole : (alone.0 ++ Long v ∷ []) ++ SecondOfLong v ∷ []
    ≡ alone.0 ++ Long v ∷ SecondOfLong v ∷ [] = append_assoc alone.0 (Long v ∷ []) (SecondOfLong v ∷ []) in
    subst (λ (js : List PoolConstant). ArePaired None (js ++ SecondOfLong v ∷ [])) (sym alone.1)
    (subst (λ (js : List PoolConstant). ArePaired None js) (sym whole) one)

fills : (wanted ks : List PoolConstant) (o : Option ℤ) → ArePaired o wanted → IsSoFar o ks
    → ArePaired None (insert_all same ks wanted)
fills [] ks None h so_far = so_far
fills [] ks (Some v) h so_far = absurd h
fills (k ∷ wanted) ks (Some v) h so_far =
    let P : PoolConstant → Type 0 = λ c. ArePaired None (insert_all same (insert_key same ks c) wanted) in
    subst P (sym h.0) (fills wanted (insert_key same ks (SecondOfLong v)) None h.1
    (end_by (list_any (same (SecondOfLong v)) ks) ks v refl so_far))
fills (Long v ∷ wanted) ks None h so_far = fills wanted (insert_key same ks (Long v)) (Some v) h.1
    (begin_by (list_any (same (Long v)) ks) ks v refl so_far)
fills (SecondOfLong v ∷ wanted) ks None h so_far = absurd h.0
fills (Utf8 a ∷ wanted) ks None h so_far = fills wanted (insert_key same ks (Utf8 a)) None h.1
    (single (list_any (same (Utf8 a)) ks) ks (Utf8 a) tt refl so_far)
fills (Integer a ∷ wanted) ks None h so_far = fills wanted (insert_key same ks (Integer a)) None h.1
    (single (list_any (same (Integer a)) ks) ks (Integer a) tt refl so_far)
fills (Class a ∷ wanted) ks None h so_far = fills wanted (insert_key same ks (Class a)) None h.1
    (single (list_any (same (Class a)) ks) ks (Class a) tt refl so_far)
fills (Str a ∷ wanted) ks None h so_far = fills wanted (insert_key same ks (Str a)) None h.1
    (single (list_any (same (Str a)) ks) ks (Str a) tt refl so_far)
fills (NameAndType a b ∷ wanted) ks None h so_far =
    fills wanted (insert_key same ks (NameAndType a b)) None h.1
    (single (list_any (same (NameAndType a b)) ks) ks (NameAndType a b) tt refl so_far)
fills (Fieldref a b c ∷ wanted) ks None h so_far =
    fills wanted (insert_key same ks (Fieldref a b c)) None h.1
    (single (list_any (same (Fieldref a b c)) ks) ks (Fieldref a b c) tt refl so_far)
fills (Methodref a b c ∷ wanted) ks None h so_far =
    fills wanted (insert_key same ks (Methodref a b c)) None h.1
    (single (list_any (same (Methodref a b c)) ks) ks (Methodref a b c) tt refl so_far)
fills (InterfaceMethodref a b c ∷ wanted) ks None h so_far =
    fills wanted (insert_key same ks (InterfaceMethodref a b c)) None h.1
    (single (list_any (same (InterfaceMethodref a b c)) ks) ks (InterfaceMethodref a b c) tt refl so_far)

-- what is wanted in pairs is in the pool in pairs
pub filled_paired : (wanted : List PoolConstant) → ArePaired None wanted → ArePaired None (filled wanted)
unfolding filled
filled_paired wanted h = fills wanted [] None h tt
