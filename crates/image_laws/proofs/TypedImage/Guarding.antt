-- The rules look at a member that is kept as they did.
use Rattle.std.proofs.Common.{◌≡◌, ℕ, not, ◌&&◌, Bool, true, false, is_some, Option, Some, None, Ok, refl, sym}
use Rattle.std.proofs.Common.{ap, ◌∙◌}
use Rattle.std.specs.Prelude.{IfSome}
use Rattle.std.specs.Option.{option_map}
use Rattle.class_model.specs.Flags.{acc_protected, acc_static}
use Rattle.class_model.specs.declared.op.MemberRef.{MemberRef}
use Rattle.class_pool.specs.Found.{NameAndType, declared_in, is_protected_member, is_static_member, same_package}
use Rattle.class_pool.specs.Members.{declared_at}
use Rattle.class_pool.specs.declared.id.ClassId.{ClassId}
use Rattle.class_pool.specs.declared.id.ClassId.TheVariants.{Prog}
use Rattle.class_pool.specs.declared.id.MemberAt.{MemberAt}
use Rattle.image_laws.specs.SetImage.Image.{Image}
use Rattle.image_laws.proofs.SetImage.MappedLists.{option_moved}
use Rattle.type_verifier.specs.Environment.{Environment, in_constructor}
use Rattle.type_verifier.specs.Members.{is_class_type, is_early_field, is_guarded}

module _ (a b : Environment) (i : Image a.classes b.classes) (own : i.kept (Prog a.own) ≡ true)
    (place : i.moved (Prog a.own) ≡ Prog b.own) where
  -- a member is guarded where it was
  pub guarded_moved : (m : MemberAt) → i.kept_member m ≡ true
      → is_guarded b (Ok (i.moved_member m)) ≡ is_guarded a (Ok m)
  guarded_moved m k =
      ap (λ (t : Bool). t && not (is_static_member b.classes (i.moved_member m))
      && not (same_package b.classes (Prog b.own) (i.moved_member m).class)) (i.flag_moved acc_protected m k)
      ∙ ap (λ (t : Bool). is_protected_member a.classes m && not t
      && not (same_package b.classes (Prog b.own) (i.moved_member m).class)) (i.flag_moved acc_static m k)
      ∙ ap (λ (t : Bool). is_protected_member a.classes m && not (is_static_member a.classes m) && not t)
      (ap (same_package b.classes (Prog b.own)) (i.class_moved m)
      ∙ ap (λ (x : ClassId). same_package b.classes x (i.moved m.class)) (sym place)
      ∙ i.package_moved (Prog a.own) m.class own (i.class_kept m k))

  -- what the own class declares, if it is kept, is declared there
  declares : (n o : NameAndType) → i.renamed n ≡ Some o
      → IfSome (declared_in a.classes n (Prog a.own)) (λ m. i.kept_member m ≡ true)
      → is_some (declared_at b.classes (Prog b.own) o.0 o.1) ≡ is_some (declared_at a.classes (Prog a.own) n.0 n.1)
  declares n o e kept =
      sym (there (Prog b.own) (declared_at b.classes (Prog b.own) o.0 o.1))
      ∙ ap (λ (x : ClassId). is_some (declared_in b.classes o x)) (sym place)
      ∙ ap (λ (z : Option MemberAt). is_some z) (i.declared_moved n o e (Prog a.own) own
      ∙ option_moved i.kept_member i.moved_member (declared_in a.classes n (Prog a.own)) kept)
      ∙ moved (declared_in a.classes n (Prog a.own))
      ∙ there (Prog a.own) (declared_at a.classes (Prog a.own) n.0 n.1)
    where
      there : (x : ClassId) (z : Option ℕ)
          → is_some (option_map (λ k. let m : MemberAt = record { class = x; index = k } in m) z) ≡ is_some z
      there x None = refl
      there x (Some k) = refl

      moved : (z : Option MemberAt) → is_some (option_map i.moved_member z) ≡ is_some z
      moved None = refl
      moved (Some m) = refl

  -- a field may be set early where it might
  pub early_moved : (r s : MemberRef) → i.renamed (r.name, r.ty) ≡ Some (s.name, s.ty)
      → in_constructor b ≡ in_constructor a → is_class_type b.class.name s.class ≡ is_class_type a.class.name r.class
      → (is_class_type a.class.name r.class ≡ true
      → IfSome (declared_in a.classes (r.name, r.ty) (Prog a.own)) (λ m. i.kept_member m ≡ true))
      → is_early_field b s ≡ is_early_field a r
  early_moved r s e constructor same kept =
      ap (λ (t : Bool). t && is_class_type b.class.name s.class && is_some
      (declared_at b.classes (Prog b.own) s.name s.ty))
      constructor
      ∙ ap (λ (t : Bool). in_constructor a && t && is_some (declared_at b.classes (Prog b.own) s.name s.ty)) same
      ∙ by (in_constructor a) (is_class_type a.class.name r.class) kept
    where
      by : (t u : Bool)
          → (u ≡ true → IfSome (declared_in a.classes (r.name, r.ty) (Prog a.own)) (λ m. i.kept_member m ≡ true))
          → (t && u && is_some (declared_at b.classes (Prog b.own) s.name s.ty))
          ≡ (t && u && is_some (declared_at a.classes (Prog a.own) r.name r.ty))
      by true true h = declares (r.name, r.ty) (s.name, s.ty) e (h refl)
      by true false h = refl
      by false u h = refl
