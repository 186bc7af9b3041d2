-- A set that is taken is taken without optional attributes, where no rule is broken that Exceptions doesn't break.
use Rattle.std.proofs.Common.{◌≡◌, ◌<◌, ◌≤◌, ℕ, zero, suc, ◌+◌, not, ◌&&◌, ◌||◌, Bool, true, false, cond, List, []}
use Rattle.std.proofs.Common.{◌∷◌, ◌++◌, length, map}
use Rattle.std.proofs.Common.{Option, Some, None, Result, Ok, slice_get, refl, sym, ap, subst, ◌∙◌, codes, is_lt}
use Rattle.std.specs.Prelude.{IfSome}
use Rattle.std.specs.Cmp.Lexicographic.{slice_cmp}
use Rattle.std.specs.List.{All, AllByRecursion, cons_option, flat_map, list_any}
use Rattle.std.specs.Option.{is_none, option_map_or}
use Rattle.std.specs.Ordering.{nat_cmp}
use Rattle.std.specs.Str.{IsUtf8}
use Rattle.std.proofs.lemmas.List.{length-map}
use Rattle.std.proofs.lemmas.List.Sums.{sum_by-cons}
use Rattle.jv_base.specs.Names.{is_text}
use Rattle.jv_base.proofs.Lists.{nil_parts, nil_joined}
use Rattle.class_model.specs.Flags.{is_interface, is_native}
use Rattle.class_model.specs.Members.{FieldsDiffer, MethodsDiffer}
use Rattle.class_model.specs.WellFormed.{IsGoodField, IsGoodMethod, IsWellFormed}
use Rattle.class_model.specs.declared.class.Class.{Class}
use Rattle.class_model.specs.declared.class.Method.{Method}
use Rattle.lib_table.specs.Library.{library}
use Rattle.class_pool.specs.Count.{item_count, items_of}
use Rattle.class_pool.specs.Faults.{Ascends, Builds, classes_of, fault_of, first_fault}
use Rattle.class_pool.specs.Faults.{name_fault, name_faults, super_fault, super_faults, then_super_faults}
use Rattle.class_pool.specs.Hierarchy.{IsClass, is_interface_kind, is_open_kind}
use Rattle.class_pool.specs.Ranks.{HasRanks}
use Rattle.class_pool.specs.Supertypes.{NoCycle, direct}
use Rattle.class_pool.specs.declared.fault.NamedClass.{NamedClass}
use Rattle.class_pool.specs.declared.fault.PoolFault.{PoolFault}
use Rattle.class_pool.specs.declared.fault.PoolKind.{PoolKind}
use Rattle.class_pool.specs.declared.fault.PoolKind.TheVariants.{SuperKind, SuperMissing}
use Rattle.class_pool.specs.declared.id.ClassId.{ClassId}
use Rattle.class_pool.specs.declared.id.ClassId.TheVariants.{Prog, Lib}
use Rattle.class_pool.proofs.CycleLaws.{first_are, none_cyclic}
use Rattle.link_check.specs.Profile.{body_kinds, code_kinds, declaration_kinds, kinds_of_method, left_out_at}
use Rattle.link_check.specs.Profile.{method_type_kinds, name_kinds, overriding_kinds, unless}
use Rattle.link_check.specs.declared.fault.ProfileKind.TheVariants.{LeftOutFlag}
use Rattle.link_check.proofs.Taken.{links_taken}
use Rattle.class_laws.proofs.Mapped.{all_mapped, pairs_mapped}
use Rattle.shape_laws.specs.KeepsMembers.{KeepsMembers}
use Rattle.shape_laws.proofs.Alike as alike
use Rattle.attribute_filter.specs.Filtered.{field_filtered, filtered, method_filtered}
use Rattle.attribute_filter.specs.declared.filter.AttributeFilter.{AttributeFilter}
use Rattle.attribute_filter.proofs.FilteredMembers.{field_good, method_good, source_by}
use Rattle.image_laws.specs.TakenSet.TakenSet.{IsTaken}
use Rattle.image_laws.proofs.TakenSet.Proper.{names_right}
use Rattle.removal_laws.proofs.RemovalLinks.Places.{none_broken}
use Rattle.removal_laws.specs.FilteredSet.Laws.{FilteringKeepsTaken}
use Rattle.removal_laws.proofs.FilteredSet.Keeping.{filtered_keeps}
use Rattle.removal_laws.proofs.FilteredSet.LinkKinds.{BreaksNone, filtered_breaks_none}

-- what building and the format give of a set
pub record IsBuilt (classes : List Class) : Type 0 where
  pub files : List NamedClass
  pub ascend : Ascends files
  pub built : Builds (Ok classes) files
  pub names : name_faults files ≡ Ok tt
  pub supers : super_faults classes ≡ Ok tt
  pub few : item_count classes < 4294967295
  pub ranks : HasRanks classes
  pub formed : AllByRecursion IsWellFormed classes

module _ (filter_by : AttributeFilter) (utf8 : IfSome filter_by.source_name IsUtf8) where
  abbrev new : Class → Class
  new c = filtered filter_by c

  -- ---- the format

  pub formed_again : (c : Class) → IsWellFormed c → IsWellFormed (new c)
  formed_again c formed = record {
    nothing_left_out = formed.nothing_left_out;
    meant = formed.meant;
    flags = formed.flags;
    no_annotation_or_enum = formed.no_annotation_or_enum;
    name = formed.name;
    super_name = formed.super_name;
    interfaces = formed.interfaces;
    fields =
        all_mapped (IsGoodField (is_interface c.flags.0)) (IsGoodField (is_interface c.flags.0))
        (field_filtered filter_by)
        (field_good filter_by (is_interface c.flags.0)) c.fields formed.fields;
    fields_differ = pairs_mapped FieldsDiffer (field_filtered filter_by) c.fields formed.fields_differ;
    methods =
        all_mapped (IsGoodMethod (is_interface c.flags.0)) (IsGoodMethod (is_interface c.flags.0))
        (method_filtered filter_by) (method_good filter_by (is_interface c.flags.0)) c.methods formed.methods;
    methods_differ = pairs_mapped MethodsDiffer (method_filtered filter_by) c.methods formed.methods_differ;
    source = source_by filter_by utf8 filter_by.source_file c.source formed.source;
  }

  -- ---- files

  abbrev pub file_filtered : NamedClass → NamedClass
  file_filtered file = record { path = file.path; class = new file.class }

  same_fault : (c : Class) (o : Option PoolKind) (r : Result (Unit {0}) PoolFault) → fault_of (new c) o r
      ≡ fault_of c o r
  same_fault c None r = refl
  same_fault c (Some kind) r = refl

  names_same : (files : List NamedClass) → name_faults (map file_filtered files) ≡ name_faults files
  names_same [] = refl
  names_same (f ∷ files) =
      same_fault f.class (name_fault f) (name_faults (map file_filtered files))
      ∙ ap (fault_of f.class (name_fault f)) (names_same files)

  classes_same : (files : List NamedClass) → map new (classes_of files) ≡ classes_of (map file_filtered files)
  classes_same [] = refl
  classes_same (f ∷ files) = ap (λ (t : List Class). new f.class ∷ t) (classes_same files)

  items_same : (cs : List Class) → item_count (map new cs) ≡ item_count cs
  items_same [] = refl
  items_same (c ∷ cs) =
      sum_by-cons items_of (new c) (map new cs)
      ∙ ap (λ (n : ℕ). n + item_count (map new cs)) one
      ∙ ap (λ (n : ℕ). items_of c + n) (items_same cs)
      ∙ sym (sum_by-cons items_of c cs)
    where
      one : items_of (new c) ≡ items_of c
      one =
          ap (λ (n : ℕ). 1 + n + length (map (method_filtered filter_by) c.methods))
          (length-map c.fields (field_filtered filter_by))
          ∙ ap (λ (n : ℕ). 1 + length c.fields + n) (length-map c.methods (method_filtered filter_by))

  module _ (a : List Class) where
    abbrev keeps : KeepsMembers new
    keeps = filtered_keeps filter_by

    abbrev b : List Class
    b = map new a

    -- ---- supertypes

    super_same : (c : Class) → super_fault b (new c) ≡ super_fault a c
    super_same c = λ i. cond (is_none (alike.class_named_is new keeps a i c.super_name)
        || list_any (λ name. is_none (alike.class_named_is new keeps a i name)) c.interfaces) (Some SuperMissing)
        (cond (option_map_or (λ id. not (is_open_kind (alike.kind_in_is new keeps a i id)))
        (alike.class_named_is new keeps a i c.super_name) false
        || list_any (λ name. option_map_or (λ id. not (is_interface_kind (alike.kind_in_is new keeps a i id)))
        (alike.class_named_is new keeps a i name) false) c.interfaces
        || (is_interface c.flags.0 && not (is_text c.super_name (codes "java/lang/Object")))) (Some SuperKind) None)

    supers_same : (cs : List Class)
        → first_fault (λ c. c) (super_fault b) (map new cs) ≡ first_fault (λ c. c) (super_fault a) cs
    supers_same [] = refl
    supers_same (c ∷ cs) =
        ap (λ o. fault_of (new c) o (first_fault (λ c. c) (super_fault b) (map new cs))) (super_same c)
        ∙ same_fault c (super_fault a c) (first_fault (λ c. c) (super_fault b) (map new cs))
        ∙ ap (fault_of c (super_fault a c)) (supers_same cs)

    direct_is : direct b ≡ direct a
    direct_is = λ i x. cons_option (alike.superclass_is new keeps a i x) (alike.interfaces_is new keeps a i x)

    class_there : (x : ClassId) → IsClass b x → IsClass a x
    class_there (Prog n) there = subst (λ (k : ℕ). n < k) (length-map a new) there
    class_there (Lib id) there = there

    ranks_again : HasRanks a → HasRanks b
    ranks_again r = record {
      rank = r.rank;
      falls = λ x there. subst (λ (d : ClassId → List ClassId). All (λ y. r.rank y < r.rank x) (d x)) (sym direct_is)
          (r.falls x (class_there x there));
      most = λ x there. subst (λ (k : ℕ). r.rank x ≤ length library + k) (sym (length-map a new))
          (r.most x (class_there x there));
    }

    -- ---- the whole

    -- the files, with those attributes alone, make the set
    pub built_again : (h : IsBuilt a) → Builds (Ok b) (map file_filtered h.files)
    built_again h =
        let same : b ≡ classes_of (map file_filtered h.files) = ap (map new) h.built.2 ∙ classes_same h.files in (
          first_are (map file_filtered h.files) b (names_same h.files ∙ h.names) (supers_same a ∙ h.supers) same,
          subst NoCycle same (none_cyclic b (ranks_again h.ranks)),
          same,
        )

    pub taken_again : IsBuilt a → BreaksNone filter_by a → IsTaken b
    taken_again h right =
        record {
          files = map file_filtered h.files;
          ascend = pairs_mapped (λ x y. is_lt (slice_cmp nat_cmp x.path y.path) ≡ true) file_filtered h.files h.ascend;
          built = built_again h;
          few = subst (λ (n : ℕ). n < 4294967295) (sym (items_same a)) h.few;
          ranks = ranks_again h.ranks;
          formed = λ n c is. at_place b n c (all_mapped IsWellFormed IsWellFormed new formed_again a h.formed) is;
          linked = none_broken b (filtered_breaks_none filter_by a right);
        }
      where
        at_place : (cs : List Class) (n : ℕ) (c : Class) → AllByRecursion IsWellFormed cs → slice_get cs n ≡ Some c
            → IsWellFormed c
        at_place [] n c h is = absurd cc
        at_place (x ∷ cs) zero c h is = let e : x ≡ c = cc in subst IsWellFormed e h.0
        at_place (x ∷ cs) (suc n) c h is = at_place cs n c h.1 is

-- ---- a set that is taken

pub at_each : (P : Class → Type 0) (cs : List Class) → ((n : ℕ) (c : Class) → slice_get cs n ≡ Some c → P c)
    → AllByRecursion P cs
at_each P [] h = tt
at_each P (c ∷ cs) h = (h 0 c refl, at_each P cs (λ n d is. h (suc n) d is))

pub built_of : (classes : List Class) → IsTaken classes → IsBuilt classes
built_of classes t = record {
  files = t.files;
  ascend = t.ascend;
  built = t.built;
  names = names_right classes t;
  supers = subst (λ (cs : List Class). super_faults cs ≡ Ok tt) (sym t.built.2)
      (sym (ap (then_super_faults t.files) (names_right classes t)) ∙ t.built.0);
  few = t.few;
  ranks = t.ranks;
  formed = at_each IsWellFormed classes t.formed;
}

-- a method without Exceptions breaks no rule where it broke none
bare : (classes : List Class) (n : ℕ) (c : Class) (k : ℕ) (m : Method) → kinds_of_method classes n c k m ≡ []
    → kinds_of_method classes n c k (record m { throws = [] }) ≡ []
bare classes n c k m none =
    let heads = left_out_at c.left_out (Some k) ++ unless (not (is_native m.flags.0)) LeftOutFlag
    ++ method_type_kinds classes n m.ty in
    let code = option_map_or (code_kinds classes n m.name) m.code [] in
    let over = overriding_kinds classes n (record { class = Prog n; index = k }) in
    let one = nil_parts (declaration_kinds classes n c k m ++ body_kinds c m ++ over) code none in
    let two = nil_parts (declaration_kinds classes n c k m ++ body_kinds c m) over one.0 in
    let three = nil_parts (declaration_kinds classes n c k m) (body_kinds c m) two.0 in
    let four = nil_parts heads (flat_map (name_kinds classes n) m.throws) three.0 in
    nil_joined (heads ++ [] ++ body_kinds c m ++ over) code
    (nil_joined (heads ++ [] ++ body_kinds c m) over
    (nil_joined (heads ++ []) (body_kinds c m) (nil_joined heads [] four.0 refl) three.1) two.1) one.1

pub breaks_none : (filter_by : AttributeFilter) (classes : List Class) → IsTaken classes
    → BreaksNone filter_by classes
breaks_none filter_by classes t =
    let right = links_taken classes t.linked in
    record {
      class = right.class;
      field = λ n c k f at there. right.field n c k f at there;
      method = λ n c k m at there. by filter_by.exceptions n c (length c.fields + k) m (right.method n c k m at there);
    }
  where
    by : (t : Bool) (n : ℕ) (c : Class) (k : ℕ) (m : Method) → kinds_of_method classes n c k m ≡ []
        → kinds_of_method classes n c k (record m { throws = cond t m.throws [] }) ≡ []
    by true n c k m none = none
    by false n c k m none = bare classes n c k m none

pub taken_set : FilteringKeepsTaken
taken_set filter_by utf8 classes t =
    taken_again filter_by utf8 classes (built_of classes t) (breaks_none filter_by classes t)
