-- A kept method overrides in what is left what it overrode, so it overrides none that may not be.
use Rattle.std.proofs.Common.{◌≡◌, ℕ, Bool, true, List, []}
use Rattle.mark_core.specs.Marks.{Closed}
use Rattle.class_model.specs.declared.class.Class.{Class}
use Rattle.class_pool.specs.declared.id.ClassId.TheVariants.{Prog}
use Rattle.class_pool.specs.declared.id.MemberAt.{MemberAt}
use Rattle.link_check.specs.Profile.{overriding_kinds}
use Rattle.member_shrink.specs.Shrunk.{is_marked, shrunk}
use Rattle.require_sys.specs.Requires.{requires}
use Rattle.require_sys.specs.declared.kept.KeptByRules.{KeptByRules}
use Rattle.image_laws.specs.SetImage.Image.{Image}
use Rattle.image_laws.specs.ShrunkImage.Keeping.{rank}
use Rattle.image_laws.proofs.ShrunkImage.Classes.{class_there, p}
use Rattle.image_laws.specs.TakenSet.TakenSet.{IsTaken}
use Rattle.image_laws.proofs.TakenSet.Overriding.{overriding_right}
use Rattle.image_laws.proofs.TakenSet.Proper.{is_proper}
use Rattle.removal_laws.proofs.RemovalImage.Marked.{image, selected_kept}
use Rattle.removal_laws.proofs.RemovalLinks.Instructions.{role_same}

module _ (classes : List Class) (rules : KeptByRules) (marks : List Bool)
    (closed : Closed (requires classes rules) (is_marked marks)) (taken : IsTaken classes) where
  abbrev out : List Class
  out = shrunk classes marks

  abbrev i : Image classes out
  i = image classes rules marks closed taken

  -- the rules for a kept method are met in what is left
  pub overriding_left : (n : ℕ) (index : ℕ) → i.kept_member (record { class = Prog n; index = index }) ≡ true
      → overriding_kinds classes n (record { class = Prog n; index = index }) ≡ []
      → overriding_kinds out (rank (p classes marks) 0 n) (i.moved_member (record { class = Prog n; index = index }))
      ≡ []
  overriding_left n index k none =
      let m : MemberAt = record { class = Prog n; index = index } in
      overriding_right classes out i (is_proper classes taken) (selected_kept classes rules marks closed taken)
      (role_same classes rules marks closed taken) m (class_there classes marks m.class (i.class_kept m k)) k none
