-- The methods that run where those of superinterfaces are called are ones that a program may name, in what is left too.
use Rattle.std.proofs.Common.{◌≡◌, ◌<◌, ℕ, suc, ◌+◌, ◌||◌, Bool, true, false, cond, List, [], ◌∷◌, ◌++◌}
use Rattle.std.proofs.Common.{length}
use Rattle.std.proofs.Common.{map, Option, Some, None, slice_get, refl, sym, ap, subst, ◌∙◌, arith}
use Rattle.std.specs.List.{AllByRecursion, enumerate_from, filter, flat_map, list_any}
use Rattle.std.specs.Option.{option_map, option_map_or}
use Rattle.std.proofs.lemmas.Option.{slice_get_within}
use Rattle.std.proofs.Math.Bool.{or-true}
use Rattle.jv_base.proofs.Lists.{all_mapped, all_filtered}
use Rattle.mark_core.specs.Marks.{Closed}
use Rattle.class_model.specs.Flags.{acc_abstract, has}
use Rattle.class_model.specs.declared.class.Class.{Class}
use Rattle.lib_table.specs.declared.member.Role.{Role}
use Rattle.class_pool.specs.Found.{MemberRow, is_instance_method, role_at, rows_in}
use Rattle.class_pool.specs.Items.{class_item}
use Rattle.class_pool.specs.Resolution.{is_interface_in}
use Rattle.class_pool.specs.Selection.{selected}
use Rattle.class_pool.specs.Supers.{is_below}
use Rattle.class_pool.specs.Walk.{same_class, superclasses_from, superinterfaces}
use Rattle.class_pool.specs.declared.id.ClassId.{ClassId}
use Rattle.class_pool.specs.declared.id.ClassId.TheVariants.{Prog, Lib}
use Rattle.class_pool.specs.declared.id.MemberAt.{MemberAt}
use Rattle.class_pool.proofs.EachOnce.{same_itself}
use Rattle.link_check.specs.Links.{is_callable_role}
use Rattle.link_check.specs.Profile.{implementing_kinds, methods_of, selected_kinds, unless}
use Rattle.link_check.specs.declared.fault.ProfileKind.TheVariants.{LeftOutMember}
use Rattle.member_shrink.specs.Shrunk.{is_marked, shrunk}
use Rattle.require_sys.specs.Requires.{requires}
use Rattle.require_sys.specs.declared.kept.KeptByRules.{KeptByRules}
use Rattle.require_sys.proofs.Parts.{all_enumerated, all_filter, all_map}
use Rattle.image_laws.specs.SetImage.Image.{Image}
use Rattle.image_laws.proofs.SetImage.Selecting.{selected_moved}
use Rattle.image_laws.proofs.SetImage.Walks.{superinterfaces_kept, superinterfaces_moved}
use Rattle.image_laws.specs.ShrunkImage.Keeping.{rank}
use Rattle.image_laws.proofs.ShrunkImage.Classes.{class_at, class_marked, f, member_from, p}
use Rattle.image_laws.proofs.ShrunkImage.Kept.{kept_of}
use Rattle.image_laws.proofs.ShrunkImage.Members.{rows, rows_left}
use Rattle.image_laws.specs.TakenSet.TakenSet.{IsTaken}
use Rattle.image_laws.proofs.TakenSet.Proper.{is_proper, open_interfaces}
use Rattle.image_laws.proofs.TakenSet.Rows.{none_each}
use Rattle.removal_laws.proofs.RemovalImage.Marked.{image, selected_kept}
use Rattle.removal_laws.proofs.RemovalLinks.Instructions.{role_same}

-- ---- lists that are empty, and lists of what is kept

pub each_none : {X Y : Type 0} (g : X → List Y) (xs : List X) → AllByRecursion (λ x. g x ≡ []) xs → flat_map g xs ≡ []
each_none {X} {Y} g [] h = refl
each_none {X} {Y} g (x ∷ xs) h = ap (λ (t : List Y). t ++ flat_map g xs) h.0 ∙ each_none g xs h.1

-- what holds of the ranks of kept places holds of all places of what is kept
pub kept_places : {A : Type 0} (P : ℕ → Type 0) (q : ℕ → Bool) (n s : ℕ) (xs : List A)
    → ((k : ℕ) (x : A) → slice_get xs k ≡ Some x → q (n + k) ≡ true → P (s + rank q n k))
    → AllByRecursion (λ (e : ℕ × A). P e.0) (enumerate_from s (kept_of q (λ k x. x) n xs))
kept_places P q n s [] h = tt
kept_places {A} P q n s (x ∷ xs) h = by (q n) refl (λ r more. kept_places P q (n + 1) r xs more)
  where
    next : (k : ℕ) → n + suc k ≡ n + 1 + k
    next k = omega arith

    by : (b : Bool) → q n ≡ b
        → ((r : ℕ) → ((k : ℕ) (y : A) → slice_get xs k ≡ Some y → q (n + 1 + k) ≡ true → P (r + rank q (n + 1) k))
        → AllByRecursion (λ (e : ℕ × A). P e.0) (enumerate_from r (kept_of q (λ k x. x) (n + 1) xs)))
        → AllByRecursion (λ (e : ℕ × A). P e.0)
        (enumerate_from s (cond b (x ∷ kept_of q (λ k x. x) (n + 1) xs) (kept_of q (λ k x. x) (n + 1) xs)))
    by true e r =
        let first : n + 0 ≡ n = omega arith in
        let start : s + 0 ≡ s = omega arith in (
          subst P start (h 0 x refl (ap q first ∙ e)),
          r (s + 1) (λ k y is m.
              let at : s + suc (rank q (n + 1) k) ≡ s + 1 + rank q (n + 1) k = omega arith in
              subst P (ap (λ (t : Bool). s + cond t (suc (rank q (n + 1) k)) (rank q (n + 1) k)) e ∙ at)
              (h (suc k) y is (ap q (next k) ∙ m))),
        )
    by false e r = r s (λ k y is m.
        subst P (ap (λ (t : Bool). s + cond t (suc (rank q (n + 1) k)) (rank q (n + 1) k)) e)
        (h (suc k) y is (ap q (next k) ∙ m)))

abbrev all_rows : List Class → List Bool → ℕ → Class → List MemberRow
all_rows classes marks n c = rows marks (class_item classes n) c c

abbrev methods_among : List Class → ClassId → List MemberRow → List MemberAt
methods_among classes x rs =
    filter (is_instance_method classes)
    (map (λ (e : ℕ × MemberRow). record { class = x; index = e.0 }) (enumerate_from 0 rs))

pub more_any : (x c : ClassId) (xs : List ClassId) → list_any (same_class x) xs ≡ true
    → list_any (same_class x) (c ∷ xs) ≡ true
more_any x c xs h = ap (λ (t : Bool). same_class x c || t) h ∙ or-true (same_class x c)

each_among : (xs : List ClassId) → AllByRecursion (λ x. list_any (same_class x) xs ≡ true) xs
each_among [] = tt
each_among (c ∷ xs) = (ap (λ (t : Bool). t || list_any (same_class c) xs) (same_itself c), more xs (each_among xs))
  where
    more : (ys : List ClassId) → AllByRecursion (λ x. list_any (same_class x) xs ≡ true) ys
        → AllByRecursion (λ x. list_any (same_class x) (c ∷ xs) ≡ true) ys
    more [] h = tt
    more (y ∷ ys) h = (more_any y c xs h.0, more ys h.1)

each_below : (us xs : List ClassId) → AllByRecursion (λ x. list_any (same_class x) (us ++ xs) ≡ true) xs
each_below [] xs = each_among xs
each_below (u ∷ us) xs = more xs (each_below us xs)
  where
    more : (ys : List ClassId) → AllByRecursion (λ x. list_any (same_class x) (us ++ xs) ≡ true) ys
        → AllByRecursion (λ x. list_any (same_class x) (u ∷ (us ++ xs)) ≡ true) ys
    more [] h = tt
    more (y ∷ ys) h = (more_any y u (us ++ xs) h.0, more ys h.1)

abbrev at_index : ClassId → ℕ → MemberAt
at_index x k = record { class = x; index = k }

module _ (classes : List Class) (rules : KeptByRules) (marks : List Bool)
    (closed : Closed (requires classes rules) (is_marked marks)) (taken : IsTaken classes) where
  abbrev out : List Class
  out = shrunk classes marks

  abbrev i : Image classes out
  i = image classes rules marks closed taken

  -- the instance methods of an interface that are left are its kept ones
  methods_left : (P Q : MemberAt → Type 0) (x : ClassId) → i.kept x ≡ true → AllByRecursion P (methods_of classes x)
      → ((m : MemberAt) → m.class ≡ x → i.kept_member m ≡ true → is_instance_method classes m ≡ true → P m
      → Q (i.moved_member m)) → AllByRecursion Q (methods_of out (i.moved x))
  methods_left P Q (Lib id) k all step = tt
  methods_left P Q (Prog n) k all step = at (slice_get classes n) refl
    where
      at : (o : Option Class) → slice_get classes n ≡ o → AllByRecursion Q (methods_of out (i.moved (Prog n)))
      at None is =
          let none : rows_in out (i.moved (Prog n)) ≡ [] =
          ap (λ o. option_map_or (all_rows classes marks n) o [])
          (class_at classes marks n (class_marked classes marks (Prog n) k)
          ∙ ap (option_map (f classes marks n)) is) in
          subst (λ rs. AllByRecursion Q (methods_among out (i.moved (Prog n)) rs)) (sym none) tt
      at (Some c) is =
          let here : rows_in classes (Prog n) ≡ all_rows classes marks n c =
          ap (λ o. option_map_or (all_rows classes marks n) o []) is in
          let there : rows_in out (i.moved (Prog n))
          ≡ kept_of (is_marked marks) (λ k x. x) (class_item classes n + 1) (all_rows classes marks n c) =
          ap (λ o. option_map_or (all_rows classes marks n) o [])
          (class_at classes marks n (class_marked classes marks (Prog n) k) ∙ ap (option_map (f classes marks n)) is)
          ∙ rows_left marks (class_item classes n) c in
          let numbered = all_map (λ m. is_instance_method classes m ≡ true → P m)
          (λ (e : ℕ × MemberRow). at_index (Prog n) e.0) (enumerate_from 0 (rows_in classes (Prog n)))
          (all_filter P (is_instance_method classes)
          (map (λ (e : ℕ × MemberRow). at_index (Prog n) e.0) (enumerate_from 0 (rows_in classes (Prog n)))) all) in
          let places = kept_places (λ j. is_instance_method out (at_index (i.moved (Prog n)) j) ≡ true
          → Q (at_index (i.moved (Prog n)) j)) (is_marked marks) (class_item classes n + 1) 0
          (all_rows classes marks n c)
          (λ j row is_row marked.
          let zero_plus : 0 + rank (is_marked marks) (class_item classes n + 1) j
          ≡ rank (is_marked marks) (class_item classes n + 1) j = omega arith in
          let start : 0 + j ≡ j = omega arith in
          let m : MemberAt = at_index (Prog n) j in
          let at_row : slice_get (rows_in classes (Prog n)) j ≡ Some row =
          ap (λ (rs : List MemberRow). slice_get rs j) here ∙ is_row in
          let m-kept : i.kept_member m ≡ true = member_from classes marks m k
          (slice_get_within (rows_in classes (Prog n)) j row at_row) marked in
          let p-m : is_instance_method classes m ≡ true → P m =
          subst (λ (l : ℕ). is_instance_method classes (at_index (Prog n) l) ≡ true → P (at_index (Prog n) l)) start
          (all_enumerated (λ (e : ℕ × MemberRow). is_instance_method classes (at_index (Prog n) e.0) ≡ true
          → P (at_index (Prog n) e.0)) 0 (rows_in classes (Prog n)) j row numbered at_row) in
          subst (λ (l : ℕ). is_instance_method out (at_index (i.moved (Prog n)) l) ≡ true
          → Q (at_index (i.moved (Prog n)) l)) (sym zero_plus)
          (λ instance. let was = sym (i.instance_moved m m-kept) ∙ instance in step m refl m-kept was (p-m was))) in
          subst (λ rs. AllByRecursion Q (methods_among out (i.moved (Prog n)) rs)) (sym there)
          (all_filtered Q (is_instance_method out)
          (map (λ (e : ℕ × MemberRow). at_index (i.moved (Prog n)) e.0)
          (enumerate_from 0 (kept_of (is_marked marks) (λ k x. x) (class_item classes n + 1)
          (all_rows classes marks n c))))
          (all_mapped (λ m. is_instance_method out m ≡ true → Q m)
          (λ (e : ℕ × MemberRow). at_index (i.moved (Prog n)) e.0)
          (enumerate_from 0 (kept_of (is_marked marks) (λ k x. x) (class_item classes n + 1)
          (all_rows classes marks n c))) places))

  module _ (n : ℕ) (c : Class) (is : slice_get classes n ≡ Some c) (k : i.kept (Prog n) ≡ true)
      (class : has acc_abstract c.flags.0 ≡ false → is_interface_in classes (Prog n) ≡ false) where
    abbrev left : ℕ
    left = rank (p classes marks) 0 n

    one_left : is_interface_in classes (Prog n) ≡ false → (m : MemberAt)
        → is_below classes (Prog n) m.class ≡ true → i.kept_member m ≡ true → is_instance_method classes m ≡ true
        → selected_kinds classes n m ≡ [] → selected_kinds out left (i.moved_member m) ≡ []
    one_left of_class m below h instance none =
        let same = (selected_moved classes out i (is_proper classes taken)
        (selected_kept classes rules marks closed taken) (Prog n) m (there is) k of_class h below
        (λ t. (instance, open_interfaces classes taken m t instance))).0 in
        ap (λ o. option_map_or (λ one. unless (is_callable_role (role_at one)) LeftOutMember) o []) same
        ∙ by (selected classes (Prog n) m) none
      where
        there : slice_get classes n ≡ Some c → n < length classes
        there e = slice_get_within classes n c e

        by : (o : Option MemberAt)
            → option_map_or (λ one. unless (is_callable_role (role_at one)) LeftOutMember) o [] ≡ []
            → option_map_or (λ one. unless (is_callable_role (role_at one)) LeftOutMember)
            (option_map i.moved_member o) [] ≡ []
        by None e = refl
        by (Some s) e = ap (λ (r : Role). unless (is_callable_role r) LeftOutMember)
            (role_same classes rules marks closed taken s) ∙ e

    each_left : is_interface_in classes (Prog n) ≡ false → (xs : List ClassId)
        → AllByRecursion (λ x. i.kept x ≡ true) xs
        → AllByRecursion (λ x. is_below classes (Prog n) x ≡ true) xs
        → AllByRecursion (λ x. flat_map (selected_kinds classes n) (methods_of classes x) ≡ []) xs
        → AllByRecursion (λ x. flat_map (selected_kinds out left) (methods_of out x) ≡ []) (map i.moved xs)
    each_left of_class [] h below none = tt
    each_left of_class (x ∷ xs) h below none = (
      each_none (selected_kinds out left) (methods_of out (i.moved x))
          (methods_left (λ m. selected_kinds classes n m ≡ []) (λ m. selected_kinds out left m ≡ []) x h.0
          (none_each (selected_kinds classes n) (methods_of classes x) none.0)
          (λ m of_x m-kept instance none_here.
          one_left of_class m (ap (is_below classes (Prog n)) of_x ∙ below.0) m-kept instance none_here)),
      each_left of_class xs h.1 below.1 none.1,
    )

    -- what runs for the methods of superinterfaces that are left is named as it may be
    pub implementing_left : implementing_kinds classes n c ≡ []
        → implementing_kinds out left (f classes marks n c) ≡ []
    implementing_left none = by (has acc_abstract c.flags.0) refl none
      where
        by : (t : Bool) → has acc_abstract c.flags.0 ≡ t
            → cond t [] (flat_map (λ i. flat_map (selected_kinds classes n) (methods_of classes i))
            (superinterfaces classes (Prog n))) ≡ []
            → cond t [] (flat_map (λ i. flat_map (selected_kinds out left) (methods_of out i))
            (superinterfaces out (Prog left))) ≡ []
        by true e none = refl
        by false e none =
            ap (flat_map (λ i. flat_map (selected_kinds out left) (methods_of out i)))
            (superinterfaces_moved classes out i (Prog n) k)
            ∙ each_none (λ i. flat_map (selected_kinds out left) (methods_of out i))
            (map i.moved (superinterfaces classes (Prog n)))
            (each_left (class e) (superinterfaces classes (Prog n)) (superinterfaces_kept classes out i (Prog n) k)
            (each_below (superclasses_from classes (Prog n)) (superinterfaces classes (Prog n)))
            (none_each (λ i. flat_map (selected_kinds classes n) (methods_of classes i))
            (superinterfaces classes (Prog n)) none))
