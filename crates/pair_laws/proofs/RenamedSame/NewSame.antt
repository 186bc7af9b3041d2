-- The names of the image are the new names of what is kept; so both sets do the same.
use Rattle.std.proofs.Common.{◌≡◌, ℕ, Bool, true, false, cond, List, Option, Some, None, refl, sym, ap, subst, ◌∙◌}
use Rattle.std.specs.Option.{option_and_then, option_map_or}
use Rattle.class_model.specs.declared.class.Class.{Class}
use Rattle.class_pool.specs.Found.{name_of}
use Rattle.class_pool.specs.Hierarchy.{class_named}
use Rattle.class_pool.specs.declared.id.ClassId.{ClassId}
use Rattle.class_pool.specs.declared.id.MemberAt.{MemberAt}
use Rattle.class_rename.specs.Names.{Names}
use Rattle.require_sys.specs.declared.kept.KeptByRules.{KeptByRules}
use Rattle.jvm_model.specs.Same as same
use Rattle.jvm_model.specs.Same.{AreKept, Same}
use Rattle.jvm_model.specs.Value.{Key}
use Rattle.jvm_model.proofs.Side.{mapped_same}
use Rattle.set_view.specs.ViewOf.{key_at, member_of, view_of}
use Rattle.image_laws.specs.ViewImage.ImageNames as image_names
use Rattle.image_laws.specs.ViewImage.ImageNames.{mapping, new_class}
use Rattle.image_laws.proofs.ViewImage.Naming.{class_name, member_is}
use Rattle.image_laws.proofs.ViewImage.Views.{view_same}
use Rattle.image_laws.specs.ShrunkImage.Keeping.{class_place, is_class_kept, is_member_kept, member_place}
use Rattle.image_laws.specs.TakenSet.TakenSet.{IsTaken}
use Rattle.image_laws.proofs.TakenSet.Proper.{is_proper}
use Rattle.removal_laws.proofs.RemovalImage.Marked.{selected_kept}
use Rattle.pair_laws.specs.RenamedImage.Renaming.{placed_class, placed_member}
use Rattle.pair_laws.specs.RenamedSame.Laws.{IsLeftUnderNames, NewNamesKeepSame}
use Rattle.pair_laws.specs.RenamedSame.NewKeys.{kept_key, kept_names, new_key}
use Rattle.pair_laws.proofs.RenamedSame.Codes.{image_of}
use Rattle.pair_laws.proofs.RenamedSame.Moved.{key_is, name_new}
use Rattle.pair_laws.proofs.RenamedSame.NewView.{new_view}

module _ (classes : List Class) (rules : KeptByRules) (marks : List Bool) (names : Names) (place : ℕ → ℕ)
    (out : List Class) (taken : IsTaken classes) (new : IsLeftUnderNames classes rules marks names place out) where
  abbrev pub image_names_of : same.Names
  image_names_of = image_names.names classes out (image_of classes rules marks names place out taken new)

  class_names : (c : List ℕ) → image_names_of.class c ≡ (kept_names names classes marks).class c
  class_names c = by (class_named classes c) refl
    where
      at : (x : ClassId) → class_named classes c ≡ Some x → (t : Bool) → is_class_kept classes marks x ≡ t
          → cond t (Some (name_of out (placed_class place (class_place classes marks x)))) None
          ≡ cond t (Some (names.class c)) None
      at x is true k = ap Some (name_new classes rules marks names place out taken new x k
          ∙ ap names.class (class_name classes c x is))
      at x is false k = refl

      by : (o : Option ClassId) → class_named classes c ≡ o
          → option_and_then (new_class classes out (image_of classes rules marks names place out taken new)) o
          ≡ cond (option_map_or (is_class_kept classes marks) o false) (Some (names.class c)) None
      by None is = refl
      by (Some x) is = at x is (is_class_kept classes marks x) refl

  key_names : (k : Key)
      → option_and_then (image_names.new_key classes out (image_of classes rules marks names place out taken new))
      (member_of classes k) ≡ kept_key names classes marks k
  key_names k = by (member_of classes k) refl
    where
      at : (m : MemberAt) → member_of classes k ≡ Some m → (t : Bool) → is_member_kept classes marks m ≡ t
          → cond t (Some (key_at out (placed_member place (member_place classes marks m)))) None
          ≡ cond t (Some (new_key names k)) None
      at m is true l = ap Some (key_is classes rules marks names place out taken new m l
          ∙ ap (new_key names) (member_is classes k m is).key)
      at m is false l = refl

      by : (o : Option MemberAt) → member_of classes k ≡ o
          → option_and_then (image_names.new_key classes out (image_of classes rules marks names place out taken new)) o
          ≡ cond (option_map_or (is_member_kept classes marks) o false) (Some (new_key names k)) None
      by None is = refl
      by (Some m) is = at m is (is_member_kept classes marks m) refl

  pub same_names : image_names_of ≡ kept_names names classes marks
  same_names = λ j. record {
    class = λ c. class_names c j;
    field = λ k. key_names k j;
    method = λ k. key_names k j;
  }

pub new_same : NewNamesKeepSame
new_same classes rules marks names place out taken new entries kept =
    let image = image_of classes rules marks names place out taken new in
    let one = same_names classes rules marks names place out taken new in
    subst (λ (n : same.Names). Same (view_of classes) (view_of out) n entries) one
    (mapped_same (mapping classes out image) (view_of classes) (view_of out)
    (view_same classes out image (is_proper classes taken) (selected_kept classes rules marks new.closed taken)
    (new_view classes rules marks names place out taken new)) entries
    (subst (λ (n : same.Names). AreKept n entries) (sym one) kept))
