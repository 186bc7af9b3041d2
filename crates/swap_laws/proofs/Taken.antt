-- A set in which methods get codes that name nothing more is taken where it was.
use Rattle.std.proofs.Common.{◌≡◌, ◌<◌, ◌≤◌, ℕ, ◌+◌, not, ◌&&◌, ◌||◌, Bool, true, false, cond, List, []}
use Rattle.std.proofs.Common.{◌∷◌, length, map, get_or, arith}
use Rattle.std.proofs.Common.{Option, Some, None, Result, Ok, Err, refl, sym, ap, subst, ◌∙◌, codes, is_lt}
use Rattle.std.specs.Prelude.{IfSome, IsTrue, is_some, AllPairs}
use Rattle.std.specs.Cmp.Lexicographic.{slice_cmp}
use Rattle.std.specs.List.{All, AllByRecursion, AllZip, cons_option, list_any}
use Rattle.std.specs.Option.{is_none, option_map_or}
use Rattle.std.specs.Ordering.{nat_cmp}
use Rattle.std.proofs.lemmas.List.{length-map, get_or-map}
use Rattle.std.proofs.lemmas.List.Sums.{sum_by-cons}
use Rattle.jv_base.specs.Mutf8.{IsUnits}
use Rattle.jv_base.specs.Names.{is_text}
use Rattle.jv_base.proofs.Lists.{heads, tails}
use Rattle.class_model.specs.Flags.{are_class_flags, class_mask, is_interface, is_left_out_class}
use Rattle.class_model.specs.Members.{FieldsDiffer, MethodsDiffer}
use Rattle.class_model.specs.WellFormed.{AreMeant, IsClassName, IsGoodField, IsGoodMethod, IsWellFormed}
use Rattle.class_model.specs.declared.class.Class.{Class}
use Rattle.class_model.specs.declared.class.Method.{Method}
use Rattle.class_model.specs.declared.code.Code.{Code}
use Rattle.lib_table.specs.Library.{library}
use Rattle.class_pool.specs.Count.{item_count, items_of}
use Rattle.class_pool.specs.Faults.{Ascends, classes_of, fault_of, first_fault, first_faults}
use Rattle.class_pool.specs.Faults.{name_fault, name_faults, super_fault, super_faults, then_super_faults}
use Rattle.class_pool.specs.Hierarchy.{IsClass, is_interface_kind, is_open_kind}
use Rattle.class_pool.specs.Ranks.{HasRanks}
use Rattle.class_pool.specs.Supertypes.{NoCycle, direct}
use Rattle.class_pool.specs.declared.fault.NamedClass.{NamedClass}
use Rattle.class_pool.specs.declared.fault.PoolFault.{PoolFault}
use Rattle.class_pool.specs.declared.fault.PoolKind.{PoolKind}
use Rattle.class_pool.specs.declared.fault.PoolKind.TheVariants.{SuperKind, SuperMissing}
use Rattle.class_pool.specs.declared.id.ClassId.{ClassId}
use Rattle.class_pool.specs.declared.id.ClassId.TheVariants.{Prog, Lib}
use Rattle.image_laws.specs.TakenSet.TakenSet.{IsTaken}
use Rattle.shape_laws.specs.Bare.{bare, bare_method}
use Rattle.swap_laws.specs.Laws.{SwapKeepsTaken}
use Rattle.swap_laws.specs.Swapped.{CodeSwaps, IsSwapped, NamesLessThan}
use Rattle.shape_laws.proofs.Alike as alike
use Rattle.shape_laws.proofs.BareSets.{bare_keeps}
use Rattle.shape_laws.proofs.BareSets.{class_from, same}
use Rattle.swap_laws.proofs.Links.{links_again}

-- ---- lists

pairs_mapped : {A B : Type 0} (R : B → B → Type 0) (f : A → B) (xs : List A)
    → AllPairs (λ (x y : A). R (f x) (f y)) xs → AllPairs R (map f xs)
pairs_mapped R f [] h i j d lt within = absurd (omega (arith, within))
pairs_mapped R f (x ∷ xs) h i j d lt within =
    let in_j : j < length (x ∷ xs) = subst (λ n. j < n) (length-map (x ∷ xs) f) within in
    let in_i : i < length (x ∷ xs) = omega (arith, lt, in_j) in
    rw (get_or-map f (x ∷ xs) i x d in_i) (rw (get_or-map f (x ∷ xs) j x d in_j) (h i j x lt in_j))

pairs_back : {A B : Type 0} (R : B → B → Type 0) (f : A → B) (xs : List A) → AllPairs R (map f xs)
    → AllPairs (λ (x y : A). R (f x) (f y)) xs
pairs_back R f xs h i j d lt within =
    let in_i : i < length xs = omega (arith, lt, within) in
    rw (sym (get_or-map f xs i d (f d) in_i)) (rw (sym (get_or-map f xs j d (f d) within))
    (h i j (f d) lt (subst (λ n. j < n) (sym (length-map xs f)) within)))

-- ---- what building looks at

module _ (s : List Class) where
  abbrev t : List Class
  t = map bare s

  super_same : (c : Class) → super_fault t (bare c) ≡ super_fault s c
  super_same c = λ i. cond (is_none (alike.class_named_is bare bare_keeps s i c.super_name)
      || list_any (λ name. is_none (alike.class_named_is bare bare_keeps s i name)) c.interfaces) (Some SuperMissing)
      (cond (option_map_or (λ id. not (is_open_kind (alike.kind_in_is bare bare_keeps s i id)))
      (alike.class_named_is bare bare_keeps s i c.super_name) false
      || list_any (λ name. option_map_or (λ id. not (is_interface_kind (alike.kind_in_is bare bare_keeps s i id)))
      (alike.class_named_is bare bare_keeps s i name) false) c.interfaces
      || (is_interface c.flags.0 && not (is_text c.super_name (codes "java/lang/Object")))) (Some SuperKind) None)

  direct_is : direct t ≡ direct s
  direct_is = λ i x. cons_option (alike.superclass_is bare bare_keeps s i x) (alike.interfaces_is bare bare_keeps s i x)

same_fault : (c : Class) (o : Option PoolKind) (r : Result (Unit {0}) PoolFault) → fault_of (bare c) o r ≡ fault_of c o r
same_fault c None r = refl
same_fault c (Some kind) r = refl

supers_same : (s cs : List Class)
    → first_fault (λ c. c) (super_fault (map bare s)) (map bare cs) ≡ first_fault (λ c. c) (super_fault s) cs
supers_same s [] = refl
supers_same s (c ∷ cs) =
    ap (λ o. fault_of (bare c) o (first_fault (λ c. c) (super_fault (map bare s)) (map bare cs))) (super_same s c)
    ∙ same_fault c (super_fault s c) (first_fault (λ c. c) (super_fault (map bare s)) (map bare cs))
    ∙ ap (fault_of c (super_fault s c)) (supers_same s cs)

bare_file : NamedClass → NamedClass
bare_file f = record { path = f.path; class = bare f.class }

names_same : (files : List NamedClass) → name_faults (map bare_file files) ≡ name_faults files
unfolding bare_file
names_same [] = refl
names_same (f ∷ files) =
    same_fault f.class (name_fault f) (name_faults (map bare_file files))
    ∙ ap (fault_of f.class (name_fault f)) (names_same files)

classes_same : (files : List NamedClass) → classes_of (map bare_file files) ≡ map bare (classes_of files)
unfolding bare_file
classes_same [] = refl
classes_same (f ∷ files) = ap (λ (cs : List Class). bare f.class ∷ cs) (classes_same files)

then_same : (files : List NamedClass) (r : Result (Unit {0}) PoolFault)
    → then_super_faults (map bare_file files) r ≡ then_super_faults files r
then_same files (Err e) = refl
then_same files (Ok u) = ap super_faults (classes_same files) ∙ supers_same (classes_of files) (classes_of files)

firsts_same : (files : List NamedClass) → first_faults (map bare_file files) ≡ first_faults files
firsts_same files = ap (then_super_faults (map bare_file files)) (names_same files) ∙ then_same files (name_faults files)

pub items_same : (cs : List Class) → item_count (map bare cs) ≡ item_count cs
items_same [] = refl
items_same (c ∷ cs) =
    sum_by-cons items_of (bare c) (map bare cs)
    ∙ ap (λ (n : ℕ). n + item_count (map bare cs))
    (ap (λ (n : ℕ). 1 + length c.fields + n) (length-map c.methods bare_method))
    ∙ ap (λ (n : ℕ). items_of c + n) (items_same cs)
    ∙ sym (sum_by-cons items_of c cs)

-- ---- files

-- the files with these classes in place of theirs
new_files : List NamedClass → List Class → List NamedClass
new_files [] cs = []
new_files (f ∷ files) [] = []
new_files (f ∷ files) (c ∷ cs) = record { path = f.path; class = c } ∷ new_files files cs

module _ where
  new_bare : (files : List NamedClass) (cs : List Class) → map bare (classes_of files) ≡ map bare cs
      → map bare_file (new_files files cs) ≡ map bare_file files
  unfolding new_files bare_file
  new_bare [] cs h = refl
  new_bare (f ∷ files) [] h = absurd cc
  new_bare (f ∷ files) (c ∷ cs) h =
      let one = heads (bare f.class) (bare c) (map bare (classes_of files)) (map bare cs) h in
      let rest = new_bare files cs (tails (bare f.class) (bare c) (map bare (classes_of files)) (map bare cs) h) in
      λ i. record { path = f.path; class = sym one i } ∷ rest i

  new_back : (files : List NamedClass) (cs : List Class) → map bare (classes_of files) ≡ map bare cs
      → classes_of (new_files files cs) ≡ cs
  unfolding new_files
  new_back [] [] h = refl
  new_back [] (c ∷ cs) h = absurd cc
  new_back (f ∷ files) [] h = absurd cc
  new_back (f ∷ files) (c ∷ cs) h = ap (λ (ds : List Class). c ∷ ds)
      (new_back files cs (tails (bare f.class) (bare c) (map bare (classes_of files)) (map bare cs) h))

-- ---- classes

methods_good : (f : Bool) (ms os : List Method) → map bare_method ms ≡ map bare_method os
    → AllZip CodeSwaps ms os → AllByRecursion (IsGoodMethod f) ms → AllByRecursion (IsGoodMethod f) os
methods_good f [] [] like zip h = tt
methods_good f [] (o ∷ os) like zip h = absurd zip
methods_good f (m ∷ ms) [] like zip h = absurd zip
methods_good f (m ∷ ms) (o ∷ os) like zip h =
    let one = heads (bare_method m) (bare_method o) (map bare_method ms) (map bare_method os) like in (
      good one h.0 zip.0,
      methods_good f ms os (tails (bare_method m) (bare_method o) (map bare_method ms) (map bare_method os) like) zip.1 h.1,
    )
  where
    there : (x y : Option Code) → NamesLessThan x y → is_some y ≡ is_some x
    there (Some x) (Some y) h = refl
    there None None h = refl
    there (Some x) None h = absurd h
    there None (Some y) h = absurd h

    good : bare_method m ≡ bare_method o → IsGoodMethod f m → CodeSwaps m o → IsGoodMethod f o
    good one h z =
        let g : IsGoodMethod f (record o { code = m.code }) =
        subst (λ (x : Method). IsGoodMethod f (record x { code = m.code })) one h in
        record {
          meant = g.meant;
          flags = g.flags;
          not_native = g.not_native;
          name = g.name;
          typed = g.typed;
          room_for_this = g.room_for_this;
          initial_flags = g.initial_flags;
          initial_type = g.initial_type;
          body = there m.code o.code z.no_more ∙ g.body;
          code = z.good;
          throws = g.throws;
        }

formed_again : (c e : Class) → bare c ≡ bare e → AllZip CodeSwaps c.methods e.methods → IsWellFormed c
    → IsWellFormed e
formed_again c e like zip h = record {
  nothing_left_out = subst (λ (x : Class). x.left_out ≡ None) like h.nothing_left_out;
  meant = subst (λ (x : Class). AreMeant class_mask x.flags.0) like h.meant;
  flags = subst (λ (x : Class). IsTrue (are_class_flags x.flags.0)) like h.flags;
  no_annotation_or_enum = subst (λ (x : Class). IsTrue (not (is_left_out_class x.flags.0))) like h.no_annotation_or_enum;
  name = subst (λ (x : Class). IsClassName x.name) like h.name;
  super_name = subst (λ (x : Class). IsClassName x.super_name) like h.super_name;
  interfaces = subst (λ (x : Class). AllByRecursion IsClassName x.interfaces) like h.interfaces;
  fields = subst (λ (x : Class). AllByRecursion (IsGoodField (is_interface x.flags.0)) x.fields) like h.fields;
  fields_differ = subst (λ (x : Class). AllPairs FieldsDiffer x.fields) like h.fields_differ;
  methods = subst (λ (x : Class). AllByRecursion (IsGoodMethod (is_interface x.flags.0)) e.methods) like
      (methods_good (is_interface c.flags.0) c.methods e.methods (λ i. (like i).methods) zip h.methods);
  methods_differ = pairs_back MethodsDiffer bare_method e.methods
      (subst (λ (x : Class). AllPairs MethodsDiffer x.methods) like
      (pairs_mapped MethodsDiffer bare_method c.methods h.methods_differ));
  source = subst (λ (x : Class). IfSome x.source IsUnits) like h.source;
}

-- ---- the whole

abbrev NoCycleBy : (ClassId → List ClassId) → ℕ → Type 0
NoCycleBy up count = (n : ℕ) → n < count
    → ((set : ClassId → Bool) → All (λ c. IsTrue (set c)) (up (Prog n))
    → ((x : ClassId) → IsTrue (set x) → All (λ y. IsTrue (set y)) (up x)) → IsTrue (set (Prog n))) → ⊥

module _ (a b : List Class) (w : IsSwapped a b) (t : IsTaken a) where
  counts : length b ≡ length a
  counts = same a b w.alike length (λ s. length-map s bare)

  ups : direct b ≡ direct a
  ups = same a b w.alike direct direct_is

  like_files : map bare (classes_of t.files) ≡ map bare b
  like_files = ap (map bare) (sym t.built.2) ∙ w.alike

  abbrev files : List NamedClass
  files = new_files t.files b

  back : classes_of files ≡ b
  back = new_back t.files b like_files

  first : first_faults files ≡ Ok tt
  first = sym (firsts_same files) ∙ ap first_faults (new_bare t.files b like_files) ∙ firsts_same t.files ∙ t.built.0

  no_cycle : NoCycle b
  no_cycle =
      subst (λ (up : ClassId → List ClassId). NoCycleBy up (length b)) (sym ups)
      (subst (λ (n : ℕ). NoCycleBy (direct a) n) (sym counts) (subst NoCycle (sym t.built.2) t.built.1))

  is_there : (x : ClassId) → IsClass b x → IsClass a x
  is_there (Prog n) there = subst (λ (k : ℕ). n < k) counts there
  is_there (Lib id) there = there

  ranks_again : HasRanks b
  ranks_again = record {
    rank = t.ranks.rank;
    falls = λ x there. subst (λ (up : ClassId → List ClassId). All (λ y. t.ranks.rank y < t.ranks.rank x) (up x)) (sym ups)
        (t.ranks.falls x (is_there x there));
    most = λ x there. subst (λ (k : ℕ). t.ranks.rank x ≤ length library + k) (sym counts)
        (t.ranks.most x (is_there x there));
  }

  ascend_again : Ascends files
  unfolding bare_file
  ascend_again = pairs_back (λ x y. is_lt (slice_cmp nat_cmp x.path y.path) ≡ true) bare_file files
      (subst (λ (fs : List NamedClass). AllPairs (λ x y. is_lt (slice_cmp nat_cmp x.path y.path) ≡ true) fs)
      (sym (new_bare t.files b like_files))
      (pairs_mapped (λ x y. is_lt (slice_cmp nat_cmp x.path y.path) ≡ true) bare_file t.files t.ascend))

  pub taken_again : IsTaken b
  taken_again = record {
    files = files;
    ascend = ascend_again;
    built = (first, subst NoCycle (sym back) no_cycle, sym back);
    few = subst (λ (n : ℕ). n < 4294967295) (sym (same a b w.alike item_count items_same)) t.few;
    ranks = ranks_again;
    formed = λ n e at.
        let g = class_from a b w.alike n e at in
        formed_again g.0 e (sym g.2) (w.codes n g.0 e g.1 at) (t.formed n g.0 g.1);
    linked = links_again a b w t.linked;
  }

pub swap_keeps_taken : SwapKeepsTaken
swap_keeps_taken a b w t = taken_again a b w t
