-- What a closed set of marks gives: with a class its supertypes, with a member its class, and what calls run.
use Rattle.std.proofs.Common.{◌≡◌, ◌<◌, ◌≤◌, ◌⊎◌, inl, inr, ℕ, zero, suc, ◌+◌, ◌-◌, Bool, true, false, cond}
use Rattle.std.proofs.Common.{List, [], ◌∷◌, ◌++◌, length, map, Option, Some, None, slice_get, refl, sym, ap, subst}
use Rattle.std.proofs.Common.{◌∙◌}
use Rattle.std.proofs.Common.{arith}
use Rattle.std.specs.Prelude.{IfSome, codes}
use Rattle.std.specs.List.{AllByRecursion, cons_option}
use Rattle.std.specs.Option.{option_map, option_map_or}
use Rattle.std.proofs.lemmas.Bool.{cases_lt}
use Rattle.jv_base.proofs.Lists.{all_split, found_at}
use Rattle.mark_core.specs.Marks.{Closed}
use Rattle.class_model.specs.declared.class.Class.{Class}
use Rattle.lib_table.specs.Lookups as table
use Rattle.class_pool.specs.Found.{IsMember, MemberRow, NameAndType, declared_by, declared_in, field_row}
use Rattle.class_pool.specs.Found.{is_instance_method}
use Rattle.class_pool.specs.Found.{method_row, named_at, rows_in}
use Rattle.class_pool.specs.Hierarchy.{IsClass, interfaces, superclass}
use Rattle.class_pool.specs.Items.{class_item}
use Rattle.class_pool.specs.Members.{declared_at}
use Rattle.class_pool.specs.Resolution.{first, is_interface_in}
use Rattle.class_pool.specs.Selection.{first_instance, overriding_from}
use Rattle.class_pool.specs.Selection.{selected}
use Rattle.class_pool.specs.Walk.{highest, superclasses_from, upwards}
use Rattle.class_pool.specs.declared.id.ClassId.{ClassId}
use Rattle.class_pool.specs.declared.id.ClassId.TheVariants.{Prog, Lib}
use Rattle.class_pool.specs.declared.id.MemberAt.{MemberAt}
use Rattle.class_pool.proofs.Declaring.{declared_there, named_there}
use Rattle.class_pool.proofs.ToldMembers.{rows_counted}
use Rattle.member_shrink.specs.Shrunk.{is_marked, shrunk}
use Rattle.require_sys.specs.Closing.{is_in}
use Rattle.require_sys.specs.Requires.{Item, OfClass, OfMember, called_wants, initialisation_wants, requires}
use Rattle.require_sys.specs.Requires.{rule_wants}
use Rattle.require_sys.specs.Requires.{super_wants}
use Rattle.require_sys.specs.declared.kept.KeptByRules.{KeptByRules}
use Rattle.require_sys.proofs.Closing.{class_in, field_in, method_in, supertypes_in}
use Rattle.require_sys.proofs.Parts.{all_option}
use Rattle.require_sys.proofs.Running.{selected_in}
use Rattle.image_laws.specs.SetImage.Image.{Image, SelectedKept}
use Rattle.image_laws.specs.ShrunkImage.Keeping.{ObjectKept, SupersMarked, is_class_kept, is_class_marked}
use Rattle.image_laws.specs.ShrunkImage.Keeping.{is_index_marked, is_member_kept}
use Rattle.image_laws.proofs.ShrunkImage.Classes.{class_marked, class_there, kept_from, member_from, member_marked}
use Rattle.image_laws.proofs.ShrunkImage.Classes.{shrunk_image}
use Rattle.image_laws.specs.TakenSet.TakenSet.{IsTaken}
use Rattle.image_laws.proofs.TakenSet.Names.{differ, object_named}
use Rattle.image_laws.specs.ViewImage.ImageView.{clinit}
use Rattle.image_laws.proofs.ViewImage.Standing as standing
use Rattle.image_laws.proofs.ViewImage.Standing.{Stands}
use Rattle.removal_laws.specs.RemovalImage.Laws.{InitialisationKept}

abbrev rows_of : Option Class → List MemberRow
rows_of o = option_map_or (λ (c : Class). map field_row c.fields ++ map method_row c.methods) o []

abbrev at_index : ClassId → ℕ → MemberAt
at_index x k = record { class = x; index = k }

module _ (classes : List Class) (rules : KeptByRules) (marks : List Bool)
    (closed : Closed (requires classes rules) (is_marked marks)) where
  abbrev pub ItemIn : Item → Type 0
  ItemIn item = is_in classes (is_marked marks) item ≡ true

  -- a class or a member is marked where its item is
  pub class_same : (y : ClassId) → is_in classes (is_marked marks) (OfClass y) ≡ is_class_marked classes marks y
  class_same (Prog n) = refl
  class_same (Lib id) = refl

  pub member_same : (x : ClassId) (k : ℕ)
      → is_in classes (is_marked marks) (OfMember (at_index x k)) ≡ is_index_marked classes marks x k
  member_same (Prog n) k = refl
  member_same (Lib id) k = refl

  pub supers_marked : SupersMarked classes marks
  supers_marked n c is h =
      let both = supertypes_in classes rules (is_marked marks) closed n c is h in
      (some (superclass classes (Prog n)) both.0, each (interfaces classes (Prog n)) both.1)
    where
      some : (o : Option ClassId) → IfSome o (λ y. ItemIn (OfClass y))
          → IfSome o (λ y. is_class_marked classes marks y ≡ true)
      some None h = tt
      some (Some y) h = sym (class_same y) ∙ h

      each : (ys : List ClassId) → AllByRecursion (λ y. ItemIn (OfClass y)) ys
          → AllByRecursion (λ y. is_class_marked classes marks y ≡ true) ys
      each [] h = tt
      each (y ∷ ys) h = (sym (class_same y) ∙ h.0, each ys h.1)

  -- a class that is there and marked is kept
  pub class_kept : (x : ClassId) → IsClass classes x → ItemIn (OfClass x) → is_class_kept classes marks x ≡ true
  class_kept x there h = kept_from classes marks x there (sym (class_same x) ∙ h)

  -- with a marked member its class is marked
  member_class : (m : MemberAt) → IsMember classes m → ItemIn (OfMember m) → ItemIn (OfClass m.class)
  member_class m there h = by m.class m.index there.1 h
    where
      in_class : (n k : ℕ) (o : Option Class) → slice_get classes n ≡ o → k < length (rows_of o)
          → is_marked marks (class_item classes n + 1 + k) ≡ true → is_marked marks (class_item classes n) ≡ true
      in_class n k None is low h = absurd (omega (arith, low))
      in_class n k (Some c) is low h = at (cases_lt k (length c.fields))
        where
          at : (k < length c.fields) ⊎ (length c.fields ≤ k) → is_marked marks (class_item classes n) ≡ true
          at (inl in_fields) =
              let f = found_at c.fields k in_fields in
              (field_in classes rules (is_marked marks) closed n c is k f.0 f.1 h).0
          at (inr behind) =
              let count = rows_counted c in
              let rest : k - length c.fields < length c.methods = omega (arith, low, behind, count) in
              let m = found_at c.methods (k - length c.fields) rest in
              let place : k ≡ length c.fields + (k - length c.fields) = omega (arith, behind) in
              (method_in classes rules (is_marked marks) closed n c is (k - length c.fields) m.0 m.1
              (ap (λ (j : ℕ). is_marked marks (class_item classes n + 1 + j)) (sym place) ∙ h)).0

      by : (x : ClassId) (k : ℕ) → k < length (rows_in classes x) → ItemIn (OfMember (at_index x k))
          → ItemIn (OfClass x)
      by (Prog n) k low h = in_class n k (slice_get classes n) refl low h
      by (Lib id) k low h = refl

  -- so a member that is there and marked is kept
  pub member_kept : (m : MemberAt) → IsMember classes m → ItemIn (OfMember m) → is_member_kept classes marks m ≡ true
  member_kept m there h =
      member_from classes marks m (class_kept m.class there.0 (member_class m there h)) there.1
      (sym (member_same m.class m.index) ∙ h)

  abbrev MemberKept : MemberAt → Type 0
  MemberKept m = is_member_kept classes marks m ≡ true

  -- what was found is there
  pub stands_there : (n : NameAndType) (m : MemberAt) → Stands classes n m → IsMember classes m
  stands_there n m stands = subst (λ o. IfSome o (IsMember classes)) stands
      (declared_there classes n m.class (standing.class_there classes n m.class m stands))

  -- and kept, where it is marked
  pub some_kept : (n : NameAndType) (o : Option MemberAt) → IfSome o (Stands classes n)
      → IfSome o (λ s. ItemIn (OfMember s)) → IfSome o MemberKept
  some_kept n None stands h = tt
  some_kept n (Some m) stands h = member_kept m (stands_there n m stands) h

  -- ---- classes of the library find members of the library

  abbrev MemberIn : MemberAt → Type 0
  MemberIn m = ItemIn (OfMember m)

  library_line : (n id : ℕ) (c : NameAndType)
      → AllByRecursion MemberIn (declared_by classes c (upwards n classes (Lib id)))
  unfolding upwards
  library_line zero id c = tt
  library_line (suc n) id c =
      by (declared_at classes (Lib id) c.0 c.1)
      (declared_by classes c (option_map_or (upwards n classes) (superclass classes (Lib id)) []))
      (next (table.super_of id) (λ j. library_line n j c))
    where
      next : (o : Option ℕ)
          → ((j : ℕ) → AllByRecursion MemberIn (declared_by classes c (upwards n classes (Lib j))))
          → AllByRecursion MemberIn (declared_by classes c (option_map_or (upwards n classes) (option_map Lib o) []))
      next None r = tt
      next (Some j) r = r j

      by : (o : Option ℕ) (ms : List MemberAt) → AllByRecursion MemberIn ms
          → AllByRecursion MemberIn (cons_option (option_map (at_index (Lib id)) o) ms)
      by None ms r = r
      by (Some k) ms r = (refl, r)

  abbrev line : ℕ → MemberAt → List MemberAt
  line id m = declared_by classes (named_at classes m) (superclasses_from classes (Lib id))

  library_selected : (id : ℕ) (m : MemberAt) → IfSome (selected classes (Lib id) m) MemberIn
  library_selected id m = by (is_interface_in classes m.class)
    where
      by : (t : Bool)
          → IfSome (cond t (first_instance classes (Lib id) (named_at classes m))
          (first (overriding_from classes (Lib id) m))) MemberIn
      by true = standing.find_all classes MemberIn (is_instance_method classes) (line id m)
          (library_line highest id (named_at classes m))
      by false =
          standing.first_all classes MemberIn (overriding_from classes (Lib id) m)
          (standing.overriding_all classes MemberIn m (line id m) (library_line highest id (named_at classes m)))

  -- ---- the image

  module _ (taken : IsTaken classes) where
    pub object_kept : ObjectKept classes marks
    object_kept =
        let there = subst (λ o. IfSome o (IsClass classes)) (object_named classes taken)
        (named_there classes (codes "java/lang/Object")) in
        subst (λ o. IfSome o (λ y. is_class_kept classes marks y ≡ true)) (sym (object_named classes taken))
        (kept_from classes marks (Lib 0) there refl)

    -- what is left is an image of the set
    abbrev pub image : Image classes (shrunk classes marks)
    image = shrunk_image classes marks (differ classes taken) supers_marked object_kept

    pub selected_kept : SelectedKept classes (shrunk classes marks) image
    selected_kept (Prog n) m there h class k below other instance open_method =
        let c = found_at classes n there in
        some_kept (named_at classes m) (selected classes (Prog n) m) (standing.selected_stands classes (Prog n) m)
        (selected_in classes rules (is_marked marks) closed n c.0 m c.1 (class_marked classes marks (Prog n) h) class
        (member_in m.class m.index k) below other instance open_method)
      where
        member_in : (x : ClassId) (i : ℕ) → is_member_kept classes marks (at_index x i) ≡ true → MemberIn (at_index x i)
        member_in x i e = member_same x i ∙ member_marked classes marks (at_index x i) e
    selected_kept (Lib id) m there h class k below other instance open_method =
        some_kept (named_at classes m) (selected classes (Lib id) m) (standing.selected_stands classes (Lib id) m)
        (library_selected id m)

    -- ---- class initialisation methods

    starts_in : (n : ℕ) (c : Class) → slice_get classes n ≡ Some c → is_marked marks (class_item classes n) ≡ true
        → IfSome (declared_in classes clinit (Prog n)) MemberIn
    starts_in n c is h =
        let wants = class_in classes rules (is_marked marks) closed n c is h in
        let rest = (all_split ItemIn (super_wants classes c)
        (initialisation_wants classes n ++ (rule_wants classes rules n ++ called_wants classes n c)) wants).1 in
        let here = (all_split ItemIn (initialisation_wants classes n)
        (rule_wants classes rules n ++ called_wants classes n c) rest).0 in
        some (declared_in classes clinit (Prog n))
        (all_option ItemIn (option_map OfMember (declared_in classes clinit (Prog n))) [] here).0
      where
        some : (o : Option MemberAt) → IfSome (option_map OfMember o) ItemIn → IfSome o MemberIn
        some None h = tt
        some (Some m) h = h

    pub starts_kept : InitialisationKept classes (shrunk classes marks) image
    starts_kept x h = some_kept clinit (declared_in classes clinit x) (standing.declared_stands classes clinit x)
        (by x (class_there classes marks x h) (class_marked classes marks x h))
      where
        library : (id : ℕ) (o : Option ℕ) → IfSome (option_map (at_index (Lib id)) o) MemberIn
        library id None = tt
        library id (Some k) = refl

        by : (x : ClassId) → IsClass classes x → is_class_marked classes marks x ≡ true
            → IfSome (declared_in classes clinit x) MemberIn
        by (Prog n) there marked = let c = found_at classes n there in starts_in n c.0 c.1 marked
        by (Lib id) there marked = library id (declared_at classes (Lib id) clinit.0 clinit.1)
