-- The names of a pair are those of an image, so they are one to one and leave the library alone.
use Rattle.std.proofs.Common.{◌≡◌, ◌&&◌, ℕ, nat_lt, Bool, true, List, length, Some, refl, ap, subst, ◌∙◌}
use Rattle.std.proofs.lemmas.Bool.{and_from, lt-ltb}
use Rattle.class_model.specs.declared.class.Class.{Class}
use Rattle.class_pool.specs.Found.{IsMember, named_at, rows_in}
use Rattle.class_pool.specs.Hierarchy.{IsClass}
use Rattle.class_pool.specs.declared.id.ClassId.{ClassId}
use Rattle.class_pool.specs.declared.id.ClassId.TheVariants.{Lib, Prog}
use Rattle.class_pool.specs.declared.id.MemberAt.{MemberAt}
use Rattle.class_rename.specs.Names.{Names}
use Rattle.lib_table.specs.Library.{library}
use Rattle.link_check.specs.Profile.{is_of_library}
use Rattle.rule_system.specs.Required.{kept_by_rules}
use Rattle.require_sys.specs.declared.kept.KeptByRules.{KeptByRules}
use Rattle.set_view.specs.ViewOf.{key_at}
use Rattle.image_laws.specs.SetImage.Image.{Image}
use Rattle.image_laws.specs.ViewImage.ImageView.{IsImageView}
use Rattle.image_laws.proofs.ViewImage.Naming.{new_key_of, new_name, one_class, one_key}
use Rattle.image_laws.specs.ShrunkImage.Keeping.{is_class_kept, is_index_marked, is_member_kept}
use Rattle.image_laws.specs.TakenSet.TakenSet.{IsTaken}
use Rattle.image_laws.proofs.TakenSet.Members.{own_declared}
use Rattle.pair_laws.specs.RenamedSame.Laws.{IsLeftUnderNames}
use Rattle.pair_laws.specs.RenamedSame.NewKeys.{kept_names}
use Rattle.pair_laws.proofs.RenamedSame.Codes.{image_of}
use Rattle.pair_laws.proofs.RenamedSame.NewSame.{image_names_of, same_names}
use Rattle.pair_laws.proofs.RenamedSame.NewView.{new_view}
use Rattle.pair_laws.specs.PairSame.OneToOne.{AreOneToOne, NamesAreOneToOne}
use Rattle.pair_laws.proofs.PairSame.Expected.{lined, names, place}
use Rattle.pair_laws.proofs.PairSame.PairSame.{left_under_names}

-- ---- what is of the library is kept

module _ (classes : List Class) (marks : List Bool) where
  class_kept : (x : ClassId) → IsClass classes x → is_of_library x ≡ true → is_class_kept classes marks x ≡ true
  class_kept (Prog n) there of_library = absurd cc
  class_kept (Lib id) there of_library =
      and_from (nat_lt id (length library)) true (lt-ltb id (length library) there) refl

  member_kept : (x : ClassId) (k : ℕ) → IsMember classes (record { class = x; index = k })
      → is_of_library x ≡ true → is_member_kept classes marks (record { class = x; index = k }) ≡ true
  member_kept (Prog n) k there of_library = absurd cc
  member_kept (Lib id) k there of_library =
      and_from (is_class_kept classes marks (Lib id))
      (nat_lt k (length (rows_in classes (Lib id))) && is_index_marked classes marks (Lib id) k)
      (class_kept (Lib id) there.0 refl)
      (and_from (nat_lt k (length (rows_in classes (Lib id)))) true
      (lt-ltb k (length (rows_in classes (Lib id))) there.1) refl)

-- ---- what is left of a set under names that stay apart

module _ (classes : List Class) (rules : KeptByRules) (marks : List Bool) (new_names : Names) (place : ℕ → ℕ)
    (out : List Class) (taken : IsTaken classes) (new : IsLeftUnderNames classes rules marks new_names place out) where
  abbrev image : Image classes out
  image = image_of classes rules marks new_names place out taken new

  told : IsImageView classes out image
  told = new_view classes rules marks new_names place out taken new

  -- a member of the library keeps its name
  member_stays : (m : MemberAt) → IsMember classes m → is_of_library m.class ≡ true
      → (image_names_of classes rules marks new_names place out taken new).field (key_at classes m)
      ≡ Some (key_at classes m)
  member_stays m there of_library =
      let kept = member_kept classes marks m.class m.index there of_library in
      new_key_of classes out image told (named_at classes m) m (own_declared classes taken m there) kept
      ∙ ap Some (told.library_member m kept of_library)

  of_image : AreOneToOne classes (image_names_of classes rules marks new_names place out taken new)
  of_image = record {
    library_class = λ id there.
        new_name classes out image told (Lib id) there (class_kept classes marks (Lib id) there refl);
    library_field = member_stays;
    library_method = member_stays;
    one_class = one_class classes out image told;
    one_field = one_key classes out image told;
    one_method = one_key classes out image told;
  }

  pub left_one_to_one : AreOneToOne classes (kept_names new_names classes marks)
  left_one_to_one =
      subst (AreOneToOne classes) (same_names classes rules marks new_names place out taken new) of_image

-- ---- the pair

pub one_to_one : NamesAreOneToOne
one_to_one input output mapping rules taken then_taken pair =
    left_one_to_one input (kept_by_rules input rules) (lined input output mapping rules taken pair)
    (names input output mapping rules taken pair) (place input output mapping rules taken pair) output taken
    (left_under_names input output mapping rules taken then_taken pair)
