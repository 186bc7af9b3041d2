-- The names of the image are those of what is kept; so both sets do the same.
use Rattle.std.proofs.Common.{◌≡◌, ℕ, Bool, true, false, cond, List, Option, Some, None, refl, sym, ap, subst, ◌∙◌}
use Rattle.std.specs.Option.{option_and_then, option_map_or}
use Rattle.mark_core.specs.Marks.{Closed}
use Rattle.class_model.specs.declared.class.Class.{Class}
use Rattle.class_pool.specs.Found.{name_of}
use Rattle.class_pool.specs.Hierarchy.{class_named}
use Rattle.class_pool.specs.declared.id.ClassId.{ClassId}
use Rattle.class_pool.specs.declared.id.MemberAt.{MemberAt}
use Rattle.member_shrink.specs.Shrunk.{is_marked, shrunk}
use Rattle.image_laws.specs.SetImage.Image.{Image}
use Rattle.jvm_model.specs.Same.{AreKept, Names, SameSteps}
use Rattle.jvm_model.specs.Value.{Key}
use Rattle.jvm_model.proofs.Compose.{steps_same}
use Rattle.jvm_model.proofs.Side.{mapped_steps}
use Rattle.set_view.specs.ViewOf.{key_at, member_of, view_of}
use Rattle.image_laws.specs.ViewImage.ImageNames.{mapping, names, new_class, new_key}
use Rattle.image_laws.proofs.ViewImage.Naming.{class_name, member_is}
use Rattle.image_laws.proofs.ViewImage.Views.{view_same}
use Rattle.require_sys.specs.Requires.{requires}
use Rattle.require_sys.specs.declared.kept.KeptByRules.{KeptByRules}
use Rattle.image_laws.specs.ShrunkImage.Keeping.{class_place, is_class_kept, is_member_kept, member_place}
use Rattle.image_laws.proofs.ShrunkImage.Classes.{name_same}
use Rattle.image_laws.specs.TakenSet.TakenSet.{IsTaken}
use Rattle.image_laws.proofs.TakenSet.Proper.{is_proper}
use Rattle.removal_laws.proofs.RemovalImage.Marked.{image, selected_kept}
use Rattle.removal_laws.specs.RemovalSame.KeptNames.{kept_key, kept_names}
use Rattle.removal_laws.specs.RemovalSame.Laws.{RemovalKeepsSame, RemovalKeepsSteps}
use Rattle.removal_laws.proofs.RemovalSame.ImageView.{image_view, key_same}

module _ (classes : List Class) (rules : KeptByRules) (marks : List Bool)
    (closed : Closed (requires classes rules) (is_marked marks)) (taken : IsTaken classes) where
  abbrev out : List Class
  out = shrunk classes marks

  abbrev i : Image classes out
  i = image classes rules marks closed taken

  class_names : (c : List ℕ) → (names classes out i).class c ≡ (kept_names classes marks).class c
  class_names c = by (class_named classes c) refl
    where
      at : (x : ClassId) → class_named classes c ≡ Some x → (t : Bool) → is_class_kept classes marks x ≡ t
          → cond t (Some (name_of out (class_place classes marks x))) None ≡ cond t (Some c) None
      at x is true k = ap Some (name_same classes marks x k ∙ class_name classes c x is)
      at x is false k = refl

      by : (o : Option ClassId) → class_named classes c ≡ o
          → option_and_then (new_class classes out i) o
          ≡ cond (option_map_or (is_class_kept classes marks) o false) (Some c) None
      by None is = refl
      by (Some x) is = at x is (is_class_kept classes marks x) refl

  key_names : (k : Key) → option_and_then (new_key classes out i) (member_of classes k) ≡ kept_key classes marks k
  key_names k = by (member_of classes k) refl
    where
      at : (m : MemberAt) → member_of classes k ≡ Some m → (t : Bool) → is_member_kept classes marks m ≡ t
          → cond t (Some (key_at out (member_place classes marks m))) None ≡ cond t (Some k) None
      at m is true l = ap Some (key_same classes rules marks closed taken m l ∙ (member_is classes k m is).key)
      at m is false l = refl

      by : (o : Option MemberAt) → member_of classes k ≡ o
          → option_and_then (new_key classes out i) o
          ≡ cond (option_map_or (is_member_kept classes marks) o false) (Some k) None
      by None is = refl
      by (Some m) is = at m is (is_member_kept classes marks m) refl

  same_names : names classes out i ≡ kept_names classes marks
  same_names = λ j. record {
    class = λ c. class_names c j;
    field = λ k. key_names k j;
    method = λ k. key_names k j;
  }

pub removal_steps : RemovalKeepsSteps
removal_steps classes rules marks taken closed entries kept =
    let i = image classes rules marks closed taken in
    let same = same_names classes rules marks closed taken in
    subst (λ (n : Names). SameSteps (view_of classes) (view_of (shrunk classes marks)) n entries) same
    (mapped_steps (mapping classes (shrunk classes marks) i) (view_of classes) (view_of (shrunk classes marks))
    (view_same classes (shrunk classes marks) i (is_proper classes taken)
    (selected_kept classes rules marks closed taken) (image_view classes rules marks closed taken)) entries
    (subst (λ (n : Names). AreKept n entries) (sym same) kept))

pub removal_same : RemovalKeepsSame
removal_same classes rules marks taken closed entries kept =
    steps_same (view_of classes) (view_of (shrunk classes marks)) (kept_names classes marks) entries
    (removal_steps classes rules marks taken closed entries kept)
