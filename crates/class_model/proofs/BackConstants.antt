-- The constants of a pool as they are written stand for the entries of the pool.
use Rattle.std.proofs.Common.{◌≡◌, ℕ, ◌+◌, ◌*◌, ◌/◌, ◌%◌, ◌^◌, ◌<◌, List, [], ◌∷◌, ◌++◌, length, map, Option, Some}
use Rattle.std.proofs.Common.{None, ℤ, pos, negsuc, refl, sym, ap, ◌∙◌, arith, SFits}
use Rattle.std.specs.Int.{w32, w64, cast_unsigned, cast_signed}
use Rattle.std.specs.List.{AllByRecursion, AllZip, flat_map}
use Rattle.std.proofs.lemmas.Int.{to_z-of_z}
use Rattle.class_model.specs.declared.pool.Entry.{Entry}
use Rattle.class_model.specs.declared.pool.Entry.TheVariants as entry
use Rattle.class_model.specs.declared.constant.PoolConstant.{PoolConstant}
use Rattle.class_model.specs.declared.constant.PoolConstant.TheVariants.{Utf8, Integer, Long, SecondOfLong, Class, Str}
use Rattle.class_model.specs.declared.constant.PoolConstant.TheVariants.{NameAndType, Fieldref, Methodref}
use Rattle.class_model.specs.declared.constant.PoolConstant.TheVariants.{InterfaceMethodref}
use Rattle.class_model.specs.ConstantPool.{IsConstant, long_of, places_of, numbered}
use Rattle.class_model.specs.CanonicalPool.{info_of, infos_of}
use Rattle.class_model.specs.bodies.PoolEntries.{entry_of, entries_of, ConstantFits, ArePaired}
use Rattle.class_model.proofs.BackNumbers.{word_below}
use Rattle.class_model.proofs.BackPool.{index_fits}

-- the entry of a constant that is written
abbrev pub written : List PoolConstant → PoolConstant → List Entry
written pool (SecondOfLong value) = []
written pool k = entry_of pool k ∷ []

-- ---- numbers

long_below : (n : ℤ) → SFits w64 n → cast_unsigned w64 n < 2 ^ 64
long_below (pos n) h = let g : n < 2 ^ 63 = h.sfits in omega arith
long_below (negsuc n) h = let g : n < 2 ^ 63 = h.sfits in omega arith

halves : (u : ℕ) → 2 ^ 32 * (u / 2 ^ 32) + u % 2 ^ 32 ≡ u
halves u = omega arith

high_below : (u : ℕ) → u < 2 ^ 64 → u / 2 ^ 32 < 2 ^ 32
high_below u h = omega arith

low_below : (u : ℕ) → u % 2 ^ 32 < 2 ^ 32
low_below u = omega arith

long_back : (n : ℤ) → SFits w64 n → long_of (cast_unsigned w64 n / 2 ^ 32) (cast_unsigned w64 n % 2 ^ 32) ≡ n
long_back n h = ap (cast_signed w64) (halves (cast_unsigned w64 n)) ∙ to_z-of_z w64 n h

-- ---- each constant

module _ (pool : List PoolConstant) (count : length pool + 1 < 2 ^ 16) where
  stand : (ks : List PoolConstant) → AllByRecursion ConstantFits ks
      → AllZip IsConstant (flat_map (info_of pool) ks) (flat_map (written pool) ks)
  stand [] h = tt
  stand (Utf8 text ∷ ks) h = ((h.0.1, text, h.0.0, refl, refl), stand ks h.1)
  stand (Integer value ∷ ks) h =
      ((word_below value h.0, ap (λ (z : ℤ). entry.Integer z) (sym (to_z-of_z w32 value h.0))), stand ks h.1)
  stand (Long value ∷ ks) h =
      let u = cast_unsigned w64 value in (
        (
          high_below u (long_below value h.0),
          low_below u,
          ap (λ (z : ℤ). entry.Long z)
              (sym (long_back value h.0)),
        ),
        stand ks h.1,
      )
  stand (SecondOfLong value ∷ ks) h = stand ks h.1
  stand (Class name ∷ ks) h = ((index_fits pool (Utf8 name) count, refl), stand ks h.1)
  stand (Str text ∷ ks) h = ((index_fits pool (Utf8 text) count, refl), stand ks h.1)
  stand (NameAndType name descriptor ∷ ks) h =
      (((index_fits pool (Utf8 name) count, index_fits pool (Utf8 descriptor) count), refl), stand ks h.1)
  stand (Fieldref class name descriptor ∷ ks) h =
      (((index_fits pool (Class class) count, index_fits pool (NameAndType name descriptor) count), refl), stand ks h.1)
  stand (Methodref class name descriptor ∷ ks) h =
      (((index_fits pool (Class class) count, index_fits pool (NameAndType name descriptor) count), refl), stand ks h.1)
  stand (InterfaceMethodref class name descriptor ∷ ks) h =
      (((index_fits pool (Class class) count, index_fits pool (NameAndType name descriptor) count), refl), stand ks h.1)

  pub constants_stand : AllByRecursion ConstantFits pool
      → AllZip IsConstant (infos_of pool) (flat_map (written pool) pool)
  constants_stand h = stand pool h

-- ---- their numbers

-- the second index of a long stands behind it already
abbrev ahead : Option ℤ → List Entry
ahead None = []
ahead (Some value) = entry.Gap ∷ []

number : (pool ks : List PoolConstant) (open_ : Option ℤ) → ArePaired open_ ks
    → ahead open_ ++ flat_map places_of (flat_map (written pool) ks) ≡ map (entry_of pool) ks
number pool [] None h = refl
number pool [] (Some value) h = absurd h
number pool (k ∷ ks) (Some value) h =
    let rest : flat_map places_of (flat_map (written pool) ks) ≡ map (entry_of pool) ks = number pool ks None h.1 in
    ap (λ (c : PoolConstant). entry.Gap ∷ flat_map places_of (written pool c ++ flat_map (written pool) ks)) h.0
    ∙ ap (λ (es : List Entry). entry.Gap ∷ es) rest
    ∙ ap (λ (c : PoolConstant). entry_of pool c ∷ map (entry_of pool) ks) (sym h.0)
number pool (Long value ∷ ks) None h = ap (λ (es : List Entry). entry.Long value ∷ es) (number pool ks (Some value) h.1)
number pool (SecondOfLong value ∷ ks) None h = absurd h.0
number pool (Utf8 text ∷ ks) None h = ap (λ (es : List Entry). entry.Utf8 text ∷ es) (number pool ks None h.1)
number pool (Integer value ∷ ks) None h = ap (λ (es : List Entry). entry.Integer value ∷ es) (number pool ks None h.1)
number pool (Class name ∷ ks) None h = ap (λ (es : List Entry). entry_of pool (Class name) ∷ es)
    (number pool ks None h.1)
number pool (Str text ∷ ks) None h = ap (λ (es : List Entry). entry_of pool (Str text) ∷ es) (number pool ks None h.1)
number pool (NameAndType name descriptor ∷ ks) None h = ap
    (λ (es : List Entry). entry_of pool (NameAndType name descriptor) ∷ es) (number pool ks None h.1)
number pool (Fieldref class name descriptor ∷ ks) None h = ap
    (λ (es : List Entry). entry_of pool (Fieldref class name descriptor) ∷ es) (number pool ks None h.1)
number pool (Methodref class name descriptor ∷ ks) None h = ap
    (λ (es : List Entry). entry_of pool (Methodref class name descriptor) ∷ es) (number pool ks None h.1)
number pool (InterfaceMethodref class name descriptor ∷ ks) None h = ap
    (λ (es : List Entry). entry_of pool (InterfaceMethodref class name descriptor) ∷ es) (number pool ks None h.1)

-- they are numbered as the pool numbers its constants
pub numbers_are : (pool : List PoolConstant) → ArePaired None pool
    → entries_of pool ≡ numbered (flat_map (written pool) pool)
numbers_are pool h = ap (λ (es : List Entry). entry.Gap ∷ es) (sym (number pool pool None h))
