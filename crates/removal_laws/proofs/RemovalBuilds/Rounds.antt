-- The first two rounds of `build` on the files of what is left, their paths and how many items they have.
use Rattle.std.proofs.Common.{◌≡◌, ◌≤◌, ℕ, ◌+◌, not, ◌&&◌, ◌||◌, Bool, true, false, cond, List, [], ◌∷◌, length}
use Rattle.std.proofs.Common.{Option, Some, None, Ok, slice_get, refl, sym, ap, subst, ◌∙◌, arith, is_lt}
use Rattle.std.specs.Prelude.{IfSome, codes}
use Rattle.std.specs.Cmp.Lexicographic.{slice_cmp}
use Rattle.std.specs.List.{AllByRecursion, cons_option, list_any}
use Rattle.std.specs.Option.{is_none, option_and_then, option_map, option_map_or}
use Rattle.std.specs.Ordering.{nat_cmp}
use Rattle.jv_base.specs.Names.{is_text}
use Rattle.mark_core.specs.Marks.{Closed}
use Rattle.class_model.specs.Flags.{is_interface}
use Rattle.class_model.specs.declared.class.Class.{Class}
use Rattle.class_model.specs.declared.class.Field.{Field}
use Rattle.class_model.specs.declared.class.Method.{Method}
use Rattle.lib_table.specs.declared.class.LibKind.{LibKind}
use Rattle.lib_table.specs.declared.class.LibKind.TheVariants.{Open}
use Rattle.class_pool.specs.Count.{item_count, items_of}
use Rattle.class_pool.specs.Faults.{Ascends, classes_of, is_super_missing, is_super_wrong, is_wrong_interface}
use Rattle.class_pool.specs.Faults.{is_wrong_superclass, name_fault, name_faults, super_fault, super_faults}
use Rattle.class_pool.specs.Faults.{then_super_faults}
use Rattle.class_pool.specs.Hierarchy.{class_named, classes_named, is_interface_kind, is_open_kind, kind_in, kind_of}
use Rattle.class_pool.specs.Hierarchy.{superclass_of}
use Rattle.class_pool.specs.Items.{class_item}
use Rattle.class_pool.specs.declared.fault.NamedClass.{NamedClass}
use Rattle.class_pool.specs.declared.fault.PoolKind.TheVariants.{SuperKind, SuperMissing}
use Rattle.class_pool.specs.declared.id.ClassId.{ClassId}
use Rattle.class_pool.specs.declared.id.ClassId.TheVariants.{Prog, Lib}
use Rattle.member_shrink.specs.Shrunk.{is_marked, shrunk}
use Rattle.require_sys.specs.Requires.{requires}
use Rattle.require_sys.specs.declared.kept.KeptByRules.{KeptByRules}
use Rattle.image_laws.specs.ShrunkImage.Keeping.{class_place, is_class_kept}
use Rattle.image_laws.proofs.ShrunkImage.Classes.{class_marked, f, interfaces_kept, named_moved, p, super_kept, told}
use Rattle.image_laws.proofs.ShrunkImage.Kept.{as_filter, kept_of, length_kept}
use Rattle.image_laws.specs.TakenSet.TakenSet.{IsTaken}
use Rattle.image_laws.proofs.TakenSet.Proper.{names_right}
use Rattle.removal_laws.proofs.RemovalImage.Marked.{supers_marked}
use Rattle.removal_laws.proofs.RemovalLinks.Left.{stays}
use Rattle.removal_laws.proofs.RemovalLinks.Places.{origin}
use Rattle.removal_laws.specs.RemovalBuilds.FilesLeft.{file_left, files_left}
use Rattle.removal_laws.proofs.RemovalBuilds.LeftLists.{map_left, none_of_each, none_there, pairs_kept, rank_most}
use Rattle.removal_laws.proofs.RemovalBuilds.LeftLists.{sum_kept}

module _ (classes : List Class) (marks : List Bool) where
  abbrev out : List Class
  out = shrunk classes marks

  abbrev Kept : ClassId → Type 0
  Kept y = is_class_kept classes marks y ≡ true

  -- ---- supertypes

  kind_same : (x : ClassId) → Kept x → kind_in out (class_place classes marks x) ≡ kind_in classes x
  kind_same (Prog n) h = told classes marks kind_of Open (λ n c. refl) n (class_marked classes marks (Prog n) h)
  kind_same (Lib id) h = refl

  missing_same : (name : List ℕ) → IfSome (class_named classes name) Kept
      → is_none (class_named out name) ≡ is_none (class_named classes name)
  missing_same name h = ap (λ (o : Option ClassId). is_none o) (named_moved classes marks name h)
      ∙ by (class_named classes name)
    where
      by : (o : Option ClassId) → is_none (option_map (class_place classes marks) o) ≡ is_none o
      by None = refl
      by (Some y) = refl

  wrong_same : (test : LibKind → Bool) (name : List ℕ) → IfSome (class_named classes name) Kept
      → option_map_or (λ id. not (test (kind_in out id))) (class_named out name) false
      ≡ option_map_or (λ id. not (test (kind_in classes id))) (class_named classes name) false
  wrong_same test name h =
      ap (λ (o : Option ClassId). option_map_or (λ id. not (test (kind_in out id))) o false)
      (named_moved classes marks name h)
      ∙ by (class_named classes name) h
    where
      by : (o : Option ClassId) → IfSome o Kept
          → option_map_or (λ id. not (test (kind_in out id))) (option_map (class_place classes marks) o) false
          ≡ option_map_or (λ id. not (test (kind_in classes id))) o false
      by None h = refl
      by (Some y) h = ap (λ (k : LibKind). not (test k)) (kind_same y h)

  first_kept : (o : Option ClassId) (ys : List ClassId) → AllByRecursion Kept (cons_option o ys)
      → IfSome o Kept × AllByRecursion Kept ys
  first_kept None ys h = (tt, h)
  first_kept (Some y) ys h = (h.0, h.1)

  any_same : (left whole : List ℕ → Bool)
      → ((name : List ℕ) → IfSome (class_named classes name) Kept → left name ≡ whole name)
      → (names : List (List ℕ)) → AllByRecursion Kept (classes_named classes names)
      → list_any left names ≡ list_any whole names
  any_same left whole same [] h = refl
  any_same left whole same (name ∷ names) h =
      let parts = first_kept (class_named classes name) (classes_named classes names) h in
      ap (λ (b : Bool). b || list_any left names) (same name parts.0)
      ∙ ap (λ (b : Bool). whole name || b) (any_same left whole same names parts.1)

  -- a class whose supertypes are kept is as right as it was
  fault_same : (n : ℕ) (c : Class) → IfSome (class_named classes c.super_name) Kept
      → AllByRecursion Kept (classes_named classes c.interfaces)
      → super_fault out (f classes marks n c) ≡ super_fault classes c
  fault_same n c above beside =
      ap (λ (b : Bool). cond b (Some SuperMissing)
      (cond (is_super_wrong out (f classes marks n c)) (Some SuperKind) None)) missing
      ∙ ap (λ (b : Bool). cond (is_super_missing classes c) (Some SuperMissing) (cond b (Some SuperKind) None)) wrong
    where
      missing : is_super_missing out (f classes marks n c) ≡ is_super_missing classes c
      missing =
          ap (λ (b : Bool). b || list_any (λ name. is_none (class_named out name)) c.interfaces)
          (missing_same c.super_name above)
          ∙ ap (λ (b : Bool). is_none (class_named classes c.super_name) || b)
          (any_same (λ name. is_none (class_named out name)) (λ name. is_none (class_named classes name)) missing_same
          c.interfaces beside)

      wrong : is_super_wrong out (f classes marks n c) ≡ is_super_wrong classes c
      wrong =
          ap (λ (b : Bool). b || list_any (is_wrong_interface out) c.interfaces
          || (is_interface c.flags.0 && not (is_text c.super_name (codes "java/lang/Object"))))
          (wrong_same is_open_kind c.super_name above)
          ∙ ap (λ (b : Bool). is_wrong_superclass classes c || b
          || (is_interface c.flags.0 && not (is_text c.super_name (codes "java/lang/Object"))))
          (any_same (is_wrong_interface out) (is_wrong_interface classes) (wrong_same is_interface_kind) c.interfaces
          beside)

  -- ---- how many items are left

  small : (n : ℕ) (c : Class) → items_of (f classes marks n c) ≤ items_of c
  small n c =
      let first = class_item classes n + 1 in
      let fields : length (f classes marks n c).fields ≤ length c.fields =
      subst (λ (k : ℕ). k ≤ length c.fields)
      (sym (ap (λ (t : List Field). length t) (as_filter (is_marked marks) (λ k x. x) first c.fields)
      ∙ length_kept (is_marked marks) (λ k x. x) first c.fields))
      (rank_most (is_marked marks) first (length c.fields)) in
      let then_first = class_item classes n + 1 + length c.fields in
      let methods : length (f classes marks n c).methods ≤ length c.methods =
      subst (λ (k : ℕ). k ≤ length c.methods)
      (sym (ap (λ (t : List Method). length t) (as_filter (is_marked marks) (λ k x. x) then_first c.methods)
      ∙ length_kept (is_marked marks) (λ k x. x) then_first c.methods))
      (rank_most (is_marked marks) then_first (length c.methods)) in
      omega (arith, fields, methods)

  pub items_left : item_count out ≤ item_count classes
  items_left =
      subst (λ (t : List Class). item_count t ≤ item_count classes)
      (sym (as_filter (p classes marks) (f classes marks) 0 classes))
      (sum_kept (p classes marks) (f classes marks) items_of items_of small 0 classes)

-- ---- files

module _ (files : List NamedClass) (marks : List Bool) where
  abbrev file_marked : ℕ → Bool
  file_marked n = is_marked marks (class_item (classes_of files) n)

  abbrev new_file : ℕ → NamedClass → NamedClass
  new_file n file = file_left marks (class_item (classes_of files) n) file

  files_are : files_left files marks ≡ kept_of file_marked new_file 0 files
  files_are = as_filter file_marked new_file 0 files

  -- their classes are what is left
  pub classes_left : classes_of (files_left files marks) ≡ shrunk (classes_of files) marks
  classes_left =
      ap classes_of files_are
      ∙ map_left file_marked new_file (f (classes_of files) marks) (λ (x : NamedClass). x.class)
      (λ (x : NamedClass). x.class) (λ n x. refl) 0 files
      ∙ sym (as_filter (p (classes_of files) marks) (f (classes_of files) marks) 0 (classes_of files))

  -- their paths ascend
  pub ascend_left : Ascends files → Ascends (files_left files marks)
  ascend_left h =
      subst Ascends (sym files_are)
      (pairs_kept file_marked new_file (λ a b. is_lt (slice_cmp nat_cmp a.path b.path) ≡ true)
      (λ a b. is_lt (slice_cmp nat_cmp a.path b.path) ≡ true) (λ n m x y r. r) 0 files h)

  -- and tell the names
  pub names_left : name_faults files ≡ Ok tt → name_faults (files_left files marks) ≡ Ok tt
  names_left right =
      none_of_each (λ (x : NamedClass). x.class) name_fault (files_left files marks)
      (λ j y at.
      let o = origin file_marked new_file 0 files j y
      (ap (λ (t : List NamedClass). slice_get t j) (sym files_are) ∙ at) in
      ap name_fault o.is
      ∙ none_there (λ (x : NamedClass). x.class) name_fault files o.k o.element right o.at)

-- ---- the second round

module _ (classes : List Class) (rules : KeptByRules) (marks : List Bool)
    (closed : Closed (requires classes rules) (is_marked marks)) (taken : IsTaken classes) where
  right : super_faults classes ≡ Ok tt
  right = subst (λ (cs : List Class). super_faults cs ≡ Ok tt) (sym taken.built.2)
      (sym (ap (then_super_faults taken.files) (names_right classes taken)) ∙ taken.built.0)

  pub supers_left : super_faults (shrunk classes marks) ≡ Ok tt
  supers_left =
      none_of_each (λ (c : Class). c) (super_fault (shrunk classes marks)) (shrunk classes marks)
      (λ j d at.
      let s = stays classes rules marks closed taken j d at in
      let up = supers_marked classes rules marks closed in
      let above : IfSome (class_named classes s.class.super_name) (λ y. is_class_kept classes marks y ≡ true) =
      subst (λ (o : Option Class). IfSome (option_and_then (superclass_of classes) o)
      (λ y. is_class_kept classes marks y ≡ true)) s.there (super_kept classes marks up (Prog s.n) s.own) in
      let beside : AllByRecursion (λ y. is_class_kept classes marks y ≡ true)
      (classes_named classes s.class.interfaces) =
      subst (λ (o : Option Class). AllByRecursion (λ y. is_class_kept classes marks y ≡ true)
      (option_map_or (λ c. classes_named classes c.interfaces) o [])) s.there
      (interfaces_kept classes marks up (Prog s.n) s.own) in
      ap (super_fault (shrunk classes marks)) s.is
      ∙ fault_same classes marks s.n s.class above beside
      ∙ none_there (λ (c : Class). c) (super_fault classes) classes s.n s.class right s.there)
