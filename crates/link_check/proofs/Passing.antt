-- What is met one after the other.
use Rattle.std.proofs.Common.{◌≡◌, ◌∙◌, ◌++◌, ◌==◌, ◌&&◌, ◌||◌, Bool, true, false, cond, List, ◌∷◌, length, Option}
use Rattle.std.proofs.Common.{Some, None, sym, ap}
use Rattle.std.specs.List.{cons_option, filter, flat_map, list_all, list_any}
use Rattle.std.specs.Option.{option_or}
use Rattle.std.proofs.lemmas.Bool.{eqb-true}
use Rattle.std.proofs.lemmas.List.{nil_from_length}
use Rattle.std.proofs.lemmas.List.Elements.{filter_map-append}
use Rattle.class_model.specs.declared.class.Class.{Class}
use Rattle.class_pool.specs.declared.id.ClassId.{ClassId}
use Rattle.class_pool.specs.declared.id.MemberAt.{MemberAt}
use Rattle.class_pool.specs.Found.{NameAndType, declared_by, declared_in}
use Rattle.class_pool.specs.Resolution.{first, first_declared, is_open}
use Rattle.class_pool.specs.Walk.{own_superinterfaces}
use Rattle.link_check.specs.bodies.Walks.{each_superinterface, open_methods, superinterfaces_of}
use Rattle.link_check.proofs.Alike.{alike_filter_map, alike_first, alike_once}
use Rattle.link_check.proofs.First.{first_append}

-- a class that has no superinterfaces itself is passed over
pub class_skipped : (classes : List Class) (old new first : List ClassId) (c : ClassId) → old ≡ c ∷ new
    → first ≡ each_superinterface classes c → (length first == 0) ≡ true
    → superinterfaces_of classes old ≡ superinterfaces_of classes new
class_skipped classes old new first c is here none =
    ap (superinterfaces_of classes) is
    ∙ ap (λ is. is ++ superinterfaces_of classes new)
    (sym here ∙ nil_from_length first (eqb-true (length first) 0 none))

-- ---- the open methods of interfaces

pub undeclared_passed : (classes : List Class) (named : NameAndType) (old new : List ClassId) (i : ClassId)
    (o : Option MemberAt) → old ≡ i ∷ new → o ≡ declared_in classes named i → o ≡ None
    → open_methods classes named old ≡ open_methods classes named new
undeclared_passed classes named old new i o is here none =
    ap (open_methods classes named) is
    ∙ ap (λ (d : Option MemberAt). filter (is_open classes) (cons_option d (declared_by classes named new)))
    (sym here ∙ none)

pub open_kept : (classes : List Class) (named : NameAndType) (old new : List ClassId) (i : ClassId)
    (o : Option MemberAt) (m : MemberAt) (b : Bool) → old ≡ i ∷ new
    → o ≡ declared_in classes named i → o ≡ Some m → b ≡ is_open classes m
    → open_methods classes named old ≡ cond b (m ∷ open_methods classes named new) (open_methods classes named new)
open_kept classes named old new i o m b is here found kept =
    ap (open_methods classes named) is
    ∙ ap (λ (d : Option MemberAt). filter (is_open classes) (cons_option d (declared_by classes named new)))
    (sym here ∙ found)
    ∙ ap (λ (t : Bool). cond t (m ∷ open_methods classes named new) (open_methods classes named new)) (sym kept)

pub open_found : (classes : List Class) (named : NameAndType) (old new : List ClassId) (i : ClassId)
    (o : Option MemberAt) (m : MemberAt) (b : Bool) → old ≡ i ∷ new
    → o ≡ declared_in classes named i → o ≡ Some m → b ≡ is_open classes m → b ≡ true
    → open_methods classes named old ≡ m ∷ open_methods classes named new
open_found classes named old new i o m b is here found kept there =
    open_kept classes named old new i o m b is here found kept
    ∙ ap (λ (t : Bool). cond t (m ∷ open_methods classes named new) (open_methods classes named new)) there

pub closed_passed : (classes : List Class) (named : NameAndType) (old new : List ClassId) (i : ClassId)
    (o : Option MemberAt) (m : MemberAt) (b : Bool) → old ≡ i ∷ new
    → o ≡ declared_in classes named i → o ≡ Some m → b ≡ is_open classes m → b ≡ false
    → open_methods classes named old ≡ open_methods classes named new
closed_passed classes named old new i o m b is here found kept closed =
    open_kept classes named old new i o m b is here found kept
    ∙ ap (λ (t : Bool). cond t (m ∷ open_methods classes named new) (open_methods classes named new)) closed

-- ---- elements that fail a test

pub any_passed : {X : Type 0} (p : X → Bool) (old new : List X) (x : X) (b : Bool) → old ≡ x ∷ new → b ≡ p x → b ≡ false
    → list_any p old ≡ list_any p new
any_passed p old new x b is here fails = ap (list_any p) is ∙ ap (λ t. t || list_any p new) (sym here ∙ fails)

pub filter_passed : {X : Type 0} (p : X → Bool) (old new : List X) (x : X) (b : Bool) → old ≡ x ∷ new → b ≡ p x
    → b ≡ false → filter p old ≡ filter p new
filter_passed p old new x b is here fails = ap (filter p) is
    ∙ ap (λ t. cond t (x ∷ filter p new) (filter p new)) (sym here ∙ fails)

pub all_passed : {X : Type 0} (p q : X → Bool) (old new : List X) (x : X) (b t : Bool) → old ≡ x ∷ new → b ≡ p x
    → b ≡ true → t ≡ q x → t ≡ true
    → list_all q (filter p old) ≡ list_all q (filter p new)
all_passed p q old new x b t is here kept there passes =
    ap (λ xs. list_all q (filter p xs)) is
    ∙ ap (λ k. list_all q (cond k (x ∷ filter p new) (filter p new))) (sym here ∙ kept)
    ∙ ap (λ k. k && list_all q (filter p new)) (sym there ∙ passes)

-- ---- members that classes declare

pub nearest_passed : (classes : List Class) (named : NameAndType) (old new : List ClassId) (c : ClassId)
    (o : Option MemberAt) → old ≡ c ∷ new → o ≡ declared_in classes named c → o ≡ None
    → first_declared classes named old ≡ first_declared classes named new
nearest_passed classes named old new c o is here none =
    ap (first_declared classes named) is
    ∙ ap (λ (d : Option MemberAt). first (cons_option d (declared_by classes named new))) (sym here ∙ none)

abbrev in_order : List Class → List ClassId → List ClassId
in_order classes cs = flat_map (λ d. d ∷ own_superinterfaces classes d) cs

own_first : (classes : List Class) (named : NameAndType) (c : ClassId) (own : List ClassId) (r : Option MemberAt)
    → own ≡ each_superinterface classes c
    → r ≡ first_declared classes named own → first_declared classes named (own_superinterfaces classes c) ≡ r
own_first classes named c own r are is =
    sym (is ∙ ap (first_declared classes named) are
    ∙ alike_first (declared_by classes named (each_superinterface classes c))
    (declared_by classes named (own_superinterfaces classes c))
    (alike_filter_map (declared_in classes named) (each_superinterface classes c) (own_superinterfaces classes c)
    (alike_once (own_superinterfaces classes c))))

pub field_passed : (classes : List Class) (named : NameAndType) (old new : List ClassId) (c : ClassId)
    (o : Option MemberAt) (own : List ClassId) (r : Option MemberAt) → old ≡ c ∷ new
    → o ≡ declared_in classes named c → o ≡ None → own ≡ each_superinterface classes c
    → r ≡ first_declared classes named own
    → first_declared classes named (in_order classes old)
    ≡ option_or r (first_declared classes named (in_order classes new))
field_passed classes named old new c o own r is here none are found =
    ap (λ cs. first_declared classes named (in_order classes cs)) is
    ∙ ap (λ (d : Option MemberAt). first
    (cons_option d (declared_by classes named (own_superinterfaces classes c ++ in_order classes new))))
    (sym here ∙ none)
    ∙ ap first (filter_map-append (declared_in classes named) (own_superinterfaces classes c) (in_order classes new))
    ∙ first_append (declared_by classes named (own_superinterfaces classes c))
    (declared_by classes named (in_order classes new))
    ∙ ap (λ d. option_or d (first_declared classes named (in_order classes new)))
    (own_first classes named c own r are found)
