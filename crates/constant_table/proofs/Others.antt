-- The keys of several texts or of none, whose indices are kept in a tree.
use Rattle.std.proofs.Common.{◌≡◌, ℕ, Bool, true, false, cond, Option, Some, refl}
use Rattle.std.specs.Map.{lookup}
use Rattle.std.specs.BTreeMap.{BTreeMap}
use Rattle.constant_table.specs.declared.key.Key.{Key}
use Rattle.constant_table.specs.declared.key.Key.TheVariants as key
use Rattle.constant_table.specs.declared.indices.Indices.{Indices}
use Rattle.constant_table.specs.bodies.Keys.{same_key}
use Rattle.constant_table.specs.bodies.Indices.{index_at}
use Rattle.constant_table.proofs.SameKey.{key_Decides}

-- it is found there
pub other_at : (indices : Indices) (k : Key) → ((n : ℕ) → k ≡ key.Utf8 n → ⊥) → ((n : ℕ) → k ≡ key.Class n → ⊥)
    → ((n : ℕ) → k ≡ key.Str n → ⊥) → lookup (same_key k) indices.others.entries ≡ index_at indices k
other_at indices (key.Utf8 n) u c s = absurd (u n refl)
other_at indices (key.Class n) u c s = absurd (c n refl)
other_at indices (key.Str n) u c s = absurd (s n refl)
other_at indices (key.Integer a) u c s = refl
other_at indices (key.Long a) u c s = refl
other_at indices (key.SecondOfLong a) u c s = refl
other_at indices (key.NameAndType a b) u c s = refl
other_at indices (key.Fieldref a b d) u c s = refl
other_at indices (key.Methodref a b d) u c s = refl
other_at indices (key.InterfaceMethodref a b d) u c s = refl

by : (b : Bool) (k q : Key) (index : ℕ) (kept : Option ℕ) → same_key k q ≡ b → (k ≡ q → ⊥) → kept
    ≡ cond b (Some index) kept
by true k q index kept e apart = absurd (apart ((key_Decides k q).0 e))
by false k q index kept e apart = refl

-- one more in the tree leaves the others
pub other_put : (old : Indices) (others : BTreeMap Key ℕ) (k : Key) (index : ℕ) → ((n : ℕ) → k ≡ key.Utf8 n → ⊥)
    → ((n : ℕ) → k ≡ key.Class n → ⊥) → ((n : ℕ) → k ≡ key.Str n → ⊥)
    → ((q : Key) → lookup (same_key q) others.entries
    ≡ cond (same_key k q) (Some index) (lookup (same_key q) old.others.entries))
    → (q : Key)
    → index_at (record { texts = old.texts; classes = old.classes; strings = old.strings; others = others }) q
    ≡ cond (same_key k q) (Some index) (index_at old q)
other_put old others k index u c s updates (key.Utf8 n) = by (same_key k (key.Utf8 n)) k (key.Utf8 n) index _ refl (u n)
other_put old others k index u c s updates (key.Class n) = by (same_key k (key.Class n)) k (key.Class n) index _ refl
    (c n)
other_put old others k index u c s updates (key.Str n) = by (same_key k (key.Str n)) k (key.Str n) index _ refl (s n)
other_put old others k index u c s updates (key.Integer a) = updates (key.Integer a)
other_put old others k index u c s updates (key.Long a) = updates (key.Long a)
other_put old others k index u c s updates (key.SecondOfLong a) = updates (key.SecondOfLong a)
other_put old others k index u c s updates (key.NameAndType a b) = updates (key.NameAndType a b)
other_put old others k index u c s updates (key.Fieldref a b d) = updates (key.Fieldref a b d)
other_put old others k index u c s updates (key.Methodref a b d) = updates (key.Methodref a b d)
other_put old others k index u c s updates (key.InterfaceMethodref a b d) = updates (key.InterfaceMethodref a b d)
