-- The new names of a pair: what is of the library keeps its name, and no two names come to one (the project's own: what
-- is promised of names).
use Rattle.std.specs.Prelude.{◌≡◌, ℕ, true, List, Some}
use Rattle.class_model.specs.declared.class.Class.{Class}
use Rattle.class_pool.specs.Found.{IsMember, name_of}
use Rattle.class_pool.specs.Hierarchy.{IsClass}
use Rattle.class_pool.specs.declared.id.ClassId.TheVariants.{Lib}
use Rattle.class_pool.specs.declared.id.MemberAt.{MemberAt}
use Rattle.keep_rules.specs.declared.rules.Rules.{Rules}
use Rattle.link_check.specs.Profile.{is_of_library}
use Rattle.mapping_file.specs.declared.mapping.Mapping.{Mapping}
use Rattle.jvm_model.specs.Same.{Names}
use Rattle.jvm_model.specs.Value.{Key}
use Rattle.set_view.specs.ViewOf.{key_at}
use Rattle.image_laws.specs.TakenSet.TakenSet.{IsTaken}
use Rattle.pair_laws.specs.PairSame.Laws.{pair_names}
use Rattle.pair_laws.specs.PairSame.Pairs.{IsPair}

-- a class of the library and its members keep their names; no two classes, no two fields and no two methods that have
-- new names have one
pub record AreOneToOne (input : List Class) (names : Names) : Type 0 where
  pub library_class : (id : ℕ) → IsClass input (Lib id)
      → names.class (name_of input (Lib id)) ≡ Some (name_of input (Lib id))
  pub library_field : (m : MemberAt) → IsMember input m → is_of_library m.class ≡ true
      → names.field (key_at input m) ≡ Some (key_at input m)
  pub library_method : (m : MemberAt) → IsMember input m → is_of_library m.class ≡ true
      → names.method (key_at input m) ≡ Some (key_at input m)
  pub one_class : (a b new : List ℕ) → names.class a ≡ Some new → names.class b ≡ Some new → a ≡ b
  pub one_field : (a b new : Key) → names.field a ≡ Some new → names.field b ≡ Some new → a ≡ b
  pub one_method : (a b new : Key) → names.method a ≡ Some new → names.method b ≡ Some new → a ≡ b

-- so it is of the names of two sets of which no clause holds, which are taken
abbrev pub NamesAreOneToOne : Type 0
NamesAreOneToOne = (input output : List Class) (mapping : Mapping) (rules : Rules) → IsTaken input → IsTaken output
    → IsPair input output mapping rules → AreOneToOne input (pair_names input mapping)
