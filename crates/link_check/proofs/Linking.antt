-- What a reference finds through the class that it names.
use Rattle.std.proofs.Common.{◌≡◌, ◌∙◌, ℕ, Bool, true, false, cond, not, List, Option, Some, None, Result, Ok, Err, ap}
use Rattle.std.specs.Bool.{beq}
use Rattle.std.specs.Option.{option_map_or}
use Rattle.std.proofs.lemmas.Bool.{eq-eqb}
use Rattle.jv_base.specs.declared.types.Base.{Base}
use Rattle.jv_base.specs.declared.types.Base.TheVariants as base
use Rattle.class_model.specs.declared.class.Class.{Class}
use Rattle.class_model.specs.declared.op.MemberRef.{MemberRef}
use Rattle.class_pool.specs.declared.id.ClassId.{ClassId}
use Rattle.class_pool.specs.declared.id.MemberAt.{MemberAt}
use Rattle.class_pool.specs.Hierarchy.{class_named}
use Rattle.class_pool.specs.Resolution.{is_class_accessible, is_interface_in, method_found}
use Rattle.link_check.specs.declared.fault.LinkKind.{LinkKind}
use Rattle.link_check.specs.declared.fault.LinkKind.TheVariants.{Unresolved, Inaccessible}
use Rattle.link_check.specs.Links.{linked, linked_method, of_array, of_class, through}
use Rattle.link_check.specs.bodies.Walks.{class_linked}

accessible_found : (b : Bool) (d c : ClassId) (f : ClassId → Result MemberAt LinkKind)
    → ◌≡◌ {A = Result ClassId LinkKind} (cond b (Ok d) (Err Inaccessible)) (Ok c)
    → cond b (f d) (Err Inaccessible) ≡ f c
accessible_found true d c f is = let same : d ≡ c = cc in ap f same
accessible_found false d c f is = absurd cc

class_found : (classes : List Class) (from : ClassId) (o : Option ClassId) (c : ClassId)
    (f : ClassId → Result MemberAt LinkKind)
    → ◌≡◌ {A = Result ClassId LinkKind}
    (option_map_or (λ d. cond (is_class_accessible classes from d) (Ok d) (Err Inaccessible)) o (Err Unresolved))
    (Ok c) → through classes from o f ≡ f c
class_found classes from (Some d) c f is = accessible_found (is_class_accessible classes from d) d c f is
class_found classes from None c f is = absurd cc

pub method_linked : (classes : List Class) (from : ClassId) (r : MemberRef) (name : List ℕ) (c : ClassId)
    → r.class.dims ≡ 0 → r.class.base ≡ base.Class name → class_linked classes from name ≡ Ok c
    → linked_method classes from r
    ≡ linked classes from c (beq (is_interface_in classes c) r.of_interface) (method_found classes c (r.name, r.ty))
method_linked classes from r name c flat is found =
    let f : ClassId → Result MemberAt LinkKind = λ d. linked classes from d
    (beq (is_interface_in classes d) r.of_interface) (method_found classes d (r.name, r.ty)) in
    ap (λ b. cond b (of_class classes from r.class.base f) (of_array classes from (not r.of_interface) r.class.base))
    (eq-eqb r.class.dims 0 flat)
    ∙ ap (λ (b : Base). of_class classes from b f) is ∙ class_found classes from (class_named classes name) c f found
