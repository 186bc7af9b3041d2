-- No method overrides a field; and what is selected has the name and the descriptor of what was found.
use Rattle.std.proofs.Common.{◌≡◌, ◌∙◌, Bool, true, false, cond, not, ◌&&◌, ◌||◌, List, [], ◌∷◌, Option, Some, None}
use Rattle.std.proofs.Common.{refl, sym, ap, subst}
use Rattle.std.specs.Prelude.{IfSome, if◌then◌else◌}
use Rattle.std.specs.List.{AllByRecursion, find, list_any}
use Rattle.std.specs.Option.{option_map_or}
use Rattle.class_model.specs.Flags.{is_init, is_static}
use Rattle.class_model.specs.declared.class.Class.{Class}
use Rattle.class_pool.specs.declared.id.ClassId.{ClassId}
use Rattle.class_pool.specs.declared.id.MemberAt.{MemberAt}
use Rattle.class_pool.specs.Found.{MemberRow, NameAndType, declared_by, declared_in, is_instance_method}
use Rattle.class_pool.specs.Found.{is_instance_row, is_method_at, is_private_member, is_protected_member}
use Rattle.class_pool.specs.Found.{is_public_member, named_at, row_at, same_member, same_package}
use Rattle.class_pool.specs.Resolution.{first, is_interface_in}
use Rattle.class_pool.specs.Selection.{first_instance, may_be_overridden, may_override, overriding, overriding_from}
use Rattle.class_pool.specs.Selection.{selected, with_nearest}
use Rattle.class_pool.specs.Walk.{superclasses_from}
use Rattle.class_pool.proofs.Declaring.{declared_named}
use Rattle.link_check.proofs.Meaning.{of_declared, of_find, of_first}
use Rattle.link_check.proofs.OverridingLaws.{member_Decides}

pub field_no_instance : (classes : List Class) (m : MemberAt) → is_method_at classes m ≡ false
    → is_instance_method classes m ≡ false
field_no_instance classes m is = by (row_at classes m) is
  where
    by : (o : Option MemberRow) → option_map_or (λ row. row.is_method) o false ≡ false
        → option_map_or is_instance_row o false ≡ false
    by None e = refl
    by (Some row) e = ap (λ t. t && not (is_static row.flags) && not (is_init row.named.0)) e

module _ (classes : List Class) (above : MemberAt) (field : is_instance_method classes above ≡ false) where
  none_over : (c : ClassId) → may_be_overridden classes c above ≡ false
  none_over c =
      ap (λ t. t && (is_public_member classes above || is_protected_member classes above
      || (not (is_private_member classes above) && same_package classes c above.class))) field

  same_alone : (m : MemberAt) (ms : List MemberAt)
      → ((c : ClassId) → list_any (may_be_overridden classes c) ms ≡ false)
      → with_nearest classes above m ms ≡ (if same_member m above then m ∷ ms else ms)
  same_alone m ms none =
      ap (λ t. if same_member m above || (may_override classes m && t) then m ∷ ms else ms) (none m.class)
      ∙ by (same_member m above) (may_override classes m)
    where
      by : (s o : Bool) → (if s || (o && false) then m ∷ ms else ms) ≡ (if s then m ∷ ms else ms)
      by true o = refl
      by false true = refl
      by false false = refl

  none_among : (ms : List MemberAt) (c : ClassId)
      → list_any (may_be_overridden classes c) (overriding classes above ms) ≡ false
  none_among [] c = refl
  none_among (m ∷ ms) c =
      ap (list_any (may_be_overridden classes c)) (same_alone m (overriding classes above ms) (none_among ms))
      ∙ by (same_member m above) (λ e. (member_Decides m above).0 e) (none_among ms c)
    where
      by : (s : Bool) → (s ≡ true → m ≡ above)
          → list_any (may_be_overridden classes c) (overriding classes above ms) ≡ false
          → list_any (may_be_overridden classes c) (if s then m ∷ overriding classes above ms
          else overriding classes above ms) ≡ false
      by true same others =
          ap (λ x. may_be_overridden classes c x || list_any (may_be_overridden classes c)
          (overriding classes above ms)) (same refl)
          ∙ ap (λ t. t || list_any (may_be_overridden classes c) (overriding classes above ms)) (none_over c)
          ∙ others
      by false same others = others

  -- the first one that overrides a field or is it is that field
  pub first_alone : (ms : List MemberAt) → first (overriding classes above ms) ≡ find (λ x. same_member x above) ms
  first_alone [] = refl
  first_alone (m ∷ ms) =
      ap first (same_alone m (overriding classes above ms) (none_among ms)) ∙ by (same_member m above) (first_alone ms)
    where
      by : (s : Bool) → first (overriding classes above ms) ≡ find (λ x. same_member x above) ms
          → first (if s then m ∷ overriding classes above ms else overriding classes above ms)
          ≡ (if s then Some m else find (λ x. same_member x above) ms)
      by true others = refl
      by false others = others

-- a field that was found for a class
pub field_selected : (classes : List Class) (class : ClassId) (m : MemberAt) (n : NameAndType) (r : Option MemberAt)
    → is_method_at classes m ≡ false → named_at classes m ≡ n → is_interface_in classes m.class ≡ false
    → r ≡ find (λ x. same_member x m) (declared_by classes n (superclasses_from classes class))
    → r ≡ selected classes class m
field_selected classes class m n r field named own is =
    is
    ∙ ap (λ (k : NameAndType). find (λ x. same_member x m) (declared_by classes k (superclasses_from classes class)))
    (sym named)
    ∙ sym (first_alone classes m (field_no_instance classes m field)
    (declared_by classes (named_at classes m) (superclasses_from classes class)))
    ∙ ap (λ b. if b then first_instance classes class (named_at classes m)
    else first (overriding_from classes class m)) (sym own)

-- ---- the name and the descriptor of what is selected

module _ (classes : List Class) (n : NameAndType) where
  abbrev pub Named : MemberAt → Type 0
  Named x = named_at classes x ≡ n

  declared_so : (c : ClassId) → IfSome (declared_in classes n c) Named
  declared_so c = by (declared_in classes n c) refl
    where
      by : (o : Option MemberAt) → declared_in classes n c ≡ o → IfSome o Named
      by None e = tt
      by (Some x) e = declared_named classes n c x e

  alike : (cs : List ClassId) → AllByRecursion Named (declared_by classes n cs)
  alike cs = of_declared Named classes n declared_so cs

  instance_so : (cs : List ClassId) → IfSome (find (is_instance_method classes) (declared_by classes n cs)) Named
  instance_so cs = of_find Named (is_instance_method classes) (declared_by classes n cs) (alike cs)

  pub instance_named : (cs : List ClassId) (r : Option MemberAt)
      → r ≡ find (is_instance_method classes) (declared_by classes n cs) → IfSome r Named
  instance_named cs r is = subst (λ (o : Option MemberAt). IfSome o Named) (sym is) (instance_so cs)

module _ (classes : List Class) (m : MemberAt) where
  overriding_named : (ms : List MemberAt) → AllByRecursion (Named classes (named_at classes m)) ms
      → AllByRecursion (Named classes (named_at classes m)) (overriding classes m ms)
  overriding_named [] h = tt
  overriding_named (x ∷ ms) h =
      by (same_member x m || (may_override classes x
      && list_any (may_be_overridden classes x.class) (overriding classes m ms))) (overriding_named ms h.1)
    where
      by : (b : Bool) → AllByRecursion (Named classes (named_at classes m)) (overriding classes m ms)
          → AllByRecursion (Named classes (named_at classes m)) (cond b (x ∷ overriding classes m ms)
          (overriding classes m ms))
      by true r = (h.0, r)
      by false r = r

  selected_so : (c : ClassId) → IfSome (selected classes c m) (Named classes (named_at classes m))
  selected_so c = by (is_interface_in classes m.class)
    where
      by : (b : Bool)
          → IfSome (cond b (first_instance classes c (named_at classes m)) (first (overriding_from classes c m)))
          (Named classes (named_at classes m))
      by true = instance_so classes (named_at classes m) (superclasses_from classes c)
      by false = of_first (Named classes (named_at classes m)) (overriding_from classes c m)
          (overriding_named (declared_by classes (named_at classes m) (superclasses_from classes c))
          (alike classes (named_at classes m) (superclasses_from classes c)))

pub selected_named : (classes : List Class) (m : MemberAt) (n : NameAndType) (r : Option MemberAt) (c : ClassId)
    → named_at classes m ≡ n → r ≡ selected classes c m → IfSome r (λ x. named_at classes x ≡ n)
selected_named classes m n r c is e =
    subst (λ (o : Option MemberAt). IfSome o (λ x. named_at classes x ≡ n)) (sym e)
    (subst (λ (k : NameAndType). IfSome (selected classes c m) (λ x. named_at classes x ≡ k)) is
    (selected_so classes m c))

-- a class that isn't the other one and hasn't it as a superinterface is passed over
pub any_on : (p : ClassId → Bool) (old new : List ClassId) (c : ClassId) (due : Bool) → old ≡ c ∷ new → p c ≡ false
    → list_any p old ≡ due → list_any p new ≡ due
any_on p old new c due at fails found = sym (ap (list_any p) at ∙ ap (λ b. b || list_any p new) fails) ∙ found
