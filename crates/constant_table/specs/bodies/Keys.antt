-- Constants told by the numbers of their texts (the project's own: only the proof of the table needs it).
use Rattle.std.specs.Prelude.{◌≡◌, ℕ, ◌<◌, ◌+◌, Bool, false, ◌&&◌, List, [], map, length, nat_eq, Option}
use Rattle.std.specs.List.{position_from, position_or_len, slice_index_or, AllByRecursion, IsDistinct}
use Rattle.std.specs.Ordering.{int_eq}
use Rattle.class_model.specs.declared.constant.PoolConstant.{PoolConstant}
use Rattle.class_model.specs.declared.constant.PoolConstant.TheVariants.{Utf8, Integer, Long, SecondOfLong, Class, Str}
use Rattle.class_model.specs.declared.constant.PoolConstant.TheVariants.{NameAndType, Fieldref, Methodref}
use Rattle.class_model.specs.declared.constant.PoolConstant.TheVariants.{InterfaceMethodref}
use Rattle.class_model.specs.CanonicalPool.{same_text}
use Rattle.constant_table.specs.declared.key.Key.{Key}
use Rattle.constant_table.specs.declared.key.Key.TheVariants as key

-- the keys are one
abbrev pub same_key : Key → Key → Bool
same_key (key.Utf8 a) (key.Utf8 b) = nat_eq a b
same_key (key.Integer a) (key.Integer b) = int_eq a b
same_key (key.Long a) (key.Long b) = int_eq a b
same_key (key.SecondOfLong a) (key.SecondOfLong b) = int_eq a b
same_key (key.Class a) (key.Class b) = nat_eq a b
same_key (key.Str a) (key.Str b) = nat_eq a b
same_key (key.NameAndType a b) (key.NameAndType c d) = nat_eq a c && nat_eq b d
same_key (key.Fieldref a b c) (key.Fieldref d e f) = nat_eq a d && (nat_eq b e && nat_eq c f)
same_key (key.Methodref a b c) (key.Methodref d e f) = nat_eq a d && (nat_eq b e && nat_eq c f)
same_key (key.InterfaceMethodref a b c) (key.InterfaceMethodref d e f) = nat_eq a d && (nat_eq b e && nat_eq c f)
same_key _ _ = false

-- an index is kept with each key: that of its first place, from 1 on
abbrev pub IsIndexed : List Key → (Key → Option ℕ) → Type 0
IsIndexed keys index_at = (k : Key) → index_at k ≡ position_from (same_key k) 1 keys

-- the index of a key, or the one behind the last where it is missing
abbrev pub index_in : List Key → Key → ℕ
index_in keys k = 1 + position_or_len (same_key k) keys

-- ---- what they tell

-- the number of a text among these, from 0 on; where it is missing, how many there are
abbrev pub number_of : List (List ℕ) → List ℕ → ℕ
number_of texts text = position_or_len (same_text text) texts

-- the text of a number
abbrev pub text_of : List (List ℕ) → ℕ → List ℕ
text_of texts number = slice_index_or texts number []

-- the constant that a key tells
abbrev pub constant_of : List (List ℕ) → Key → PoolConstant
constant_of texts (key.Utf8 a) = Utf8 (text_of texts a)
constant_of texts (key.Integer a) = Integer a
constant_of texts (key.Long a) = Long a
constant_of texts (key.SecondOfLong a) = SecondOfLong a
constant_of texts (key.Class a) = Class (text_of texts a)
constant_of texts (key.Str a) = Str (text_of texts a)
constant_of texts (key.NameAndType a b) = NameAndType (text_of texts a) (text_of texts b)
constant_of texts (key.Fieldref a b c) = Fieldref (text_of texts a) (text_of texts b) (text_of texts c)
constant_of texts (key.Methodref a b c) = Methodref (text_of texts a) (text_of texts b) (text_of texts c)
constant_of texts (key.InterfaceMethodref a b c) = InterfaceMethodref (text_of texts a) (text_of texts b)
    (text_of texts c)

-- the key that tells a constant
abbrev pub key_of : List (List ℕ) → PoolConstant → Key
key_of texts (Utf8 a) = key.Utf8 (number_of texts a)
key_of texts (Integer a) = key.Integer a
key_of texts (Long a) = key.Long a
key_of texts (SecondOfLong a) = key.SecondOfLong a
key_of texts (Class a) = key.Class (number_of texts a)
key_of texts (Str a) = key.Str (number_of texts a)
key_of texts (NameAndType a b) = key.NameAndType (number_of texts a) (number_of texts b)
key_of texts (Fieldref a b c) = key.Fieldref (number_of texts a) (number_of texts b) (number_of texts c)
key_of texts (Methodref a b c) = key.Methodref (number_of texts a) (number_of texts b) (number_of texts c)
key_of texts (InterfaceMethodref a b c) = key.InterfaceMethodref (number_of texts a) (number_of texts b)
    (number_of texts c)

-- each of its numbers is that of one of so many texts
abbrev pub IsKeyIn : ℕ → Key → Type 0
IsKeyIn count (key.Utf8 a) = a < count
IsKeyIn count (key.Integer a) = Unit {0}
IsKeyIn count (key.Long a) = Unit {0}
IsKeyIn count (key.SecondOfLong a) = Unit {0}
IsKeyIn count (key.Class a) = a < count
IsKeyIn count (key.Str a) = a < count
IsKeyIn count (key.NameAndType a b) = (a < count) × (b < count)
IsKeyIn count (key.Fieldref a b c) = (a < count) × (b < count) × (c < count)
IsKeyIn count (key.Methodref a b c) = (a < count) × (b < count) × (c < count)
IsKeyIn count (key.InterfaceMethodref a b c) = (a < count) × (b < count) × (c < count)

-- the texts are distinct, and each key tells some of them
pub record AreKeysOf (texts : List (List ℕ)) (keys : List Key) : Type 0 where
  pub distinct : IsDistinct same_text texts
  pub within : AllByRecursion (IsKeyIn (length texts)) keys

-- the constants that keys tell
abbrev pub constants_of : List (List ℕ) → List Key → List PoolConstant
constants_of texts keys = map (constant_of texts) keys
