-- What the reference of an instruction wants, part by part.
use Rattle.std.proofs.Common.{◌≡◌, ℕ, List, [], ◌∷◌, ◌++◌, Option, Some, None, Result, Ok, Err, refl, sym, ap, subst}
use Rattle.std.proofs.Common.{◌∙◌}
use Rattle.std.proofs.Common.{append_assoc}
use Rattle.std.specs.Prelude.{OnOk}
use Rattle.jv_base.specs.Descriptors.{read_method}
use Rattle.class_model.specs.declared.class.Class.{Class}
use Rattle.class_model.specs.declared.op.MemberRef.{MemberRef}
use Rattle.class_pool.specs.declared.id.ClassId.{ClassId}
use Rattle.class_pool.specs.declared.id.ClassId.TheVariants.{Prog}
use Rattle.class_pool.specs.declared.id.MemberAt.{MemberAt}
use Rattle.link_check.specs.Links.{resolved_method}
use Rattle.link_check.specs.Profile.{class_of}
use Rattle.link_check.specs.declared.fault.LinkKind.{LinkKind}
use Rattle.require_sys.specs.Requires.{Item, OfMember, base_wants, method_ref_wants, method_text_wants, resolved_wants}
use Rattle.require_sys.specs.Requires.{special_wants}
use Rattle.item_numbers.specs.bodies.Wanting.{Wanted, wanting}
use Rattle.item_numbers.proofs.Gathering.{and_then, in_turn, nothing}

special_none : (classes : List Class) (n : ℕ) (o : Option ClassId) (kind : LinkKind)
    → special_wants classes n o (Err kind) ≡ []
special_none classes n (Some named) kind = refl
special_none classes n None kind = refl

module _ (n : ℕ) (ref : MemberRef) (w v x : Wanted)
    (named : v ≡ wanting w (base_wants w.classes ref.class.base))
    (described : x ≡ wanting v (method_text_wants v.classes (read_method ref.ty))) where
  abbrev means : List Class → Result MemberAt LinkKind
  means cs = resolved_method cs (Prog n) ref

  abbrev special : List Class → Result MemberAt LinkKind → List Item
  special cs o = resolved_wants cs o ++ special_wants cs n (class_of cs ref) o

  pub method_means : {E : Type 0} (r : Result (Unit {0}) E) (u : Wanted) (m : MemberAt) → means x.classes ≡ Ok m
      → OnOk r (u ≡ wanting x (OfMember m ∷ [])) → OnOk r (u ≡ wanting w (method_ref_wants w.classes n ref))
  method_means r u m is one =
      and_then r w v u (base_wants w.classes ref.class.base)
      (λ cs. method_text_wants cs (read_method ref.ty) ++ resolved_wants cs (means cs)) named
      (and_then r v x u (method_text_wants v.classes (read_method ref.ty)) (λ cs. resolved_wants cs
      (means cs)) described
      (subst (λ (o : Result MemberAt LinkKind). OnOk r (u ≡ wanting x (resolved_wants x.classes o))) (sym is) one))

  pub method_fails : (kind : LinkKind) → means x.classes ≡ Err kind → x ≡ wanting w (method_ref_wants w.classes n ref)
  method_fails kind is =
      in_turn w v x (base_wants w.classes ref.class.base)
      (λ cs. method_text_wants cs (read_method ref.ty) ++ resolved_wants cs (means cs)) named
      (in_turn v x x (method_text_wants v.classes (read_method ref.ty)) (λ cs. resolved_wants cs (means cs)) described
      (nothing x ∙ ap (λ (o : Result MemberAt LinkKind). wanting x (resolved_wants x.classes o)) (sym is)))

  grouped : (cs : List Class)
      → base_wants cs ref.class.base ++ (method_text_wants cs (read_method ref.ty) ++ special cs (means cs))
      ≡ method_ref_wants cs n ref ++ special_wants cs n (class_of cs ref) (means cs)
  grouped cs =
      ap (λ (t : List Item). base_wants cs ref.class.base ++ t)
      (sym (append_assoc (method_text_wants cs (read_method ref.ty)) (resolved_wants cs (means cs))
      (special_wants cs n (class_of cs ref) (means cs))))
      ∙ sym (append_assoc (base_wants cs ref.class.base)
      (method_text_wants cs (read_method ref.ty) ++ resolved_wants cs (means cs))
      (special_wants cs n (class_of cs ref) (means cs)))

  pub special_means : {E : Type 0} (r : Result (Unit {0}) E) (u : Wanted) (m : MemberAt) → means x.classes ≡ Ok m
      → OnOk r (u ≡ wanting x (OfMember m ∷ special_wants x.classes n (class_of x.classes ref) (Ok m)))
      → OnOk r (u ≡ wanting w (method_ref_wants w.classes n ref
      ++ special_wants w.classes n (class_of w.classes ref) (means w.classes)))
  special_means r u m is one =
      subst (λ (t : List Item). OnOk r (u ≡ wanting w t)) (grouped w.classes)
      (and_then r w v u (base_wants w.classes ref.class.base)
      (λ cs. method_text_wants cs (read_method ref.ty) ++ special cs (means cs)) named
      (and_then r v x u (method_text_wants v.classes (read_method ref.ty)) (λ cs. special cs (means cs)) described
      (subst (λ (o : Result MemberAt LinkKind). OnOk r (u ≡ wanting x (special x.classes o))) (sym is) one)))

  pub special_fails : (kind : LinkKind) → means x.classes ≡ Err kind
      → x ≡ wanting w (method_ref_wants w.classes n ref
      ++ special_wants w.classes n (class_of w.classes ref) (means w.classes))
  special_fails kind is =
      in_turn w v x (base_wants w.classes ref.class.base)
      (λ cs. method_text_wants cs (read_method ref.ty) ++ special cs (means cs)) named
      (in_turn v x x (method_text_wants v.classes (read_method ref.ty)) (λ cs. special cs (means cs)) described
      (nothing x ∙ ap (wanting x) (sym (special_none x.classes n (class_of x.classes ref) kind))
      ∙ ap (λ (o : Result MemberAt LinkKind). wanting x (special x.classes o)) (sym is)))
      ∙ ap (wanting w) (grouped w.classes)
