-- Methods that are selected in an image.
use Rattle.std.proofs.Common.{◌≡◌, ◌<◌, ℕ, zero, suc, Bool, true, false, cond, not, ◌&&◌, ◌||◌, List, [], ◌∷◌, map}
use Rattle.std.proofs.Common.{length, Option, Some, None, refl, sym, ap, subst, ◌∙◌, arith}
use Rattle.std.specs.Prelude.{IfSome}
use Rattle.std.specs.List.{AllByRecursion, cons_option, find, list_any}
use Rattle.std.specs.Option.{option_and_then, option_map, option_map_or}
use Rattle.class_model.specs.Flags.{acc_private, acc_protected, acc_public, is_init}
use Rattle.class_model.specs.declared.class.Class.{Class}
use Rattle.lib_table.specs.Library.{library}
use Rattle.class_pool.specs.declared.id.ClassId.{ClassId}
use Rattle.class_pool.specs.declared.id.MemberAt.{MemberAt}
use Rattle.class_pool.specs.Found.{NameAndType, declared_by, declared_in, is_instance_method, is_private_member}
use Rattle.class_pool.specs.Found.{is_protected_member, is_public_member, named_at, same_member, same_package}
use Rattle.class_pool.specs.Hierarchy.{IsClass, interfaces, superclass}
use Rattle.class_pool.specs.Members.{declared_at}
use Rattle.class_pool.specs.Resolution.{first, is_interface_in}
use Rattle.class_pool.specs.Selection.{first_instance, may_be_overridden, may_override, overriding, overriding_from}
use Rattle.class_pool.specs.Selection.{selected, selected_special}
use Rattle.class_pool.specs.Supers.{is_below}
use Rattle.class_pool.specs.Walk.{highest, same_class, superclasses_from, superinterfaces, upwards}
use Rattle.class_pool.proofs.Among.{member_is}
use Rattle.class_pool.proofs.EachOnce.{same_is, same_itself}
use Rattle.class_pool.proofs.Directs.{direct_valid}
use Rattle.class_pool.proofs.Walking.{first_of, superclasses_next}
use Rattle.image_laws.specs.SetImage.Image.{Image, IsProperSet, SelectedKept}
use Rattle.image_laws.proofs.SetImage.MappedLists.{any_append, any_moved, find_moved, first_map, moved_gone, moved_kept}
use Rattle.image_laws.proofs.SetImage.Walks.{superclasses_kept, superclasses_moved}
use Rattle.image_laws.proofs.SetImage.Finding.{FoundKept, declared_moved, members_moved}
use Rattle.std.proofs.lemmas.Bool.{and_parts}
use Rattle.std.proofs.Math.Bool.{or-true}

-- ---- tools

library_count : length library ≡ 32
unfolding library
library_count = refl

-- ---- which methods override one

module _ (a : List Class) (m : MemberAt) where
  -- the test by which a method in front of some others overrides m or is it
  abbrev is_nearest : MemberAt → List MemberAt → Bool
  is_nearest z os = same_member z m || (may_override a z && list_any (may_be_overridden a z.class) os)

  abbrev MayBeOverridden : Type 0
  MayBeOverridden = (is_instance_method a m ≡ true) × (is_private_member a m ≡ false)

  -- one stands in front of those that override m only where m stands behind it
  has_above : (test : MemberAt → Bool) (ms : List MemberAt) → list_any test (overriding a m ms) ≡ true
      → list_any (λ z. same_member z m) ms ≡ true
  has_above test [] h = absurd cc
  has_above test (z ∷ ms) h =
      by (same_member z m) (may_override a z) (list_any (may_be_overridden a z.class) (overriding a m ms)) refl h
      (λ g k. has_above g ms k)
    where
      by : (s p t : Bool) → list_any (may_be_overridden a z.class) (overriding a m ms) ≡ t
          → list_any test (cond (s || (p && t)) (z ∷ overriding a m ms) (overriding a m ms)) ≡ true
          → ((g : MemberAt → Bool) → list_any g (overriding a m ms) ≡ true → list_any (λ z. same_member z m) ms ≡ true)
          → (s || list_any (λ z. same_member z m) ms) ≡ true
      by true p t e h r = refl
      by false true true e h r = r (may_be_overridden a z.class) e
      by false true false e h r = r test h
      by false false t e h r = r test h

  -- and only where m may be overridden
  may_be : IsProperSet a → (c : ClassId) (ms : List MemberAt)
      → list_any (may_be_overridden a c) (overriding a m ms) ≡ true → MayBeOverridden
  may_be p c [] h = absurd cc
  may_be p c (z ∷ ms) h =
      by (same_member z m) refl (may_override a z)
      (list_any (may_be_overridden a z.class) (overriding a m ms)) refl (may_be_overridden a c z) refl h
      (λ d k. may_be p d ms k)
    where
      by : (s : Bool) → same_member z m ≡ s → (o t : Bool)
          → list_any (may_be_overridden a z.class) (overriding a m ms) ≡ t
          → (q : Bool) → may_be_overridden a c z ≡ q
          → list_any (may_be_overridden a c) (cond (s || (o && t)) (z ∷ overriding a m ms) (overriding a m ms)) ≡ true
          → ((d : ClassId) → list_any (may_be_overridden a d) (overriding a m ms) ≡ true → MayBeOverridden)
          → MayBeOverridden
      by true same o t e true q h r =
          let is = member_is z m same in (
            ap (is_instance_method a) (sym is) ∙ (and_parts (is_instance_method a z) _ q).0,
            ap (is_private_member a) (sym is) ∙ p.apart c z q,
          )
      by true same o t e false q h r =
          r c (sym (ap (λ (u : Bool). u || list_any (may_be_overridden a c) (overriding a m ms)) q) ∙ h)
      by false same true true e q k h r = r z.class e
      by false same true false e q k h r = r c h
      by false same false t e q k h r = r c h

  -- what is declared by classes is of one of them
  declared_among : (n : NameAndType) (cs : List ClassId)
      → list_any (λ z. same_member z m) (declared_by a n cs) ≡ true → list_any (same_class m.class) cs ≡ true
  declared_among n [] h = absurd cc
  declared_among n (c ∷ cs) h = by (declared_at a c n.0 n.1) h (λ k. declared_among n cs k)
    where
      by : (o : Option ℕ)
          → list_any (λ z. same_member z m)
          (cons_option (option_map (λ k. record { class = c; index = k }) o) (declared_by a n cs)) ≡ true
          → (list_any (λ z. same_member z m) (declared_by a n cs) ≡ true → list_any (same_class m.class) cs ≡ true)
          → (same_class m.class c || list_any (same_class m.class) cs) ≡ true
      by None h r = ap (λ (t : Bool). same_class m.class c || t) (r h) ∙ or-true (same_class m.class c)
      by (Some k) h r = one (same_member (record { class = c; index = k }) m) refl h
        where
          one : (s : Bool) → same_member (record { class = c; index = k }) m ≡ s
              → (s || list_any (λ z. same_member z m) (declared_by a n cs)) ≡ true
              → (same_class m.class c || list_any (same_class m.class) cs) ≡ true
          one true e h =
              let is : c ≡ m.class =
              ap (λ (z : MemberAt). z.class) (member_is (record { class = c; index = k }) m e) in
              ap (λ (d : ClassId). same_class m.class d || list_any (same_class m.class) cs) is
              ∙ ap (λ (t : Bool). t || list_any (same_class m.class) cs) (same_itself m.class)
          one false e h = ap (λ (t : Bool). same_class m.class c || t) (r h) ∙ or-true (same_class m.class c)

module _ (a b : List Class) (i : Image a b) where
  abbrev pub AllMembersKept : List MemberAt → Type 0
  AllMembersKept ms = AllByRecursion (λ m. i.kept_member m ≡ true) ms

  -- ---- one method that may override another

  may_override_moved : (m : MemberAt) → i.kept_member m ≡ true
      → may_override b (i.moved_member m) ≡ may_override a m
  may_override_moved m k =
      ap (λ (t : Bool). t && not (is_private_member b (i.moved_member m))
      && not (is_interface_in b (i.moved_member m).class)) (i.instance_moved m k)
      ∙ ap (λ (t : Bool). is_instance_method a m && not t && not (is_interface_in b (i.moved_member m).class))
      (i.flag_moved acc_private m k)
      ∙ ap (λ (t : Bool). is_instance_method a m && not (is_private_member a m) && not t)
      (ap (is_interface_in b) (i.class_moved m) ∙ i.interface_moved m.class (i.class_kept m k))

  may_be_overridden_moved : (c : ClassId) (m : MemberAt) → i.kept c ≡ true → i.kept_member m ≡ true
      → may_be_overridden b (i.moved c) (i.moved_member m) ≡ may_be_overridden a c m
  may_be_overridden_moved c m l k =
      ap (λ (t : Bool). t && (is_public_member b (i.moved_member m) || is_protected_member b (i.moved_member m)
      || (not (is_private_member b (i.moved_member m)) && same_package b (i.moved c) (i.moved_member m).class)))
      (i.instance_moved m k)
      ∙ ap (λ (t : Bool). is_instance_method a m && (t || is_protected_member b (i.moved_member m)
      || (not (is_private_member b (i.moved_member m)) && same_package b (i.moved c) (i.moved_member m).class)))
      (i.flag_moved acc_public m k)
      ∙ ap (λ (t : Bool). is_instance_method a m && (is_public_member a m || t
      || (not (is_private_member b (i.moved_member m)) && same_package b (i.moved c) (i.moved_member m).class)))
      (i.flag_moved acc_protected m k)
      ∙ ap (λ (t : Bool). is_instance_method a m && (is_public_member a m || is_protected_member a m
      || (not t && same_package b (i.moved c) (i.moved_member m).class))) (i.flag_moved acc_private m k)
      ∙ ap (λ (t : Bool). is_instance_method a m && (is_public_member a m || is_protected_member a m
      || (not (is_private_member a m) && t)))
      (ap (same_package b (i.moved c)) (i.class_moved m) ∙ i.package_moved c m.class l (i.class_kept m k))

  module _ (m : MemberAt) (k : i.kept_member m ≡ true) where
    nearest_moved : (z : MemberAt) (os : List MemberAt) → i.kept_member z ≡ true → AllMembersKept os
        → is_nearest b (i.moved_member m) (i.moved_member z) (map i.moved_member os) ≡ is_nearest a m z os
    nearest_moved z os h all =
        ap (λ (t : Bool). t || (may_override b (i.moved_member z)
        && list_any (may_be_overridden b (i.moved_member z).class) (map i.moved_member os)))
        (i.same_member_moved z m h k)
        ∙ ap (λ (t : Bool). same_member z m || (t
        && list_any (may_be_overridden b (i.moved_member z).class) (map i.moved_member os))) (may_override_moved z h)
        ∙ ap (λ (t : Bool). same_member z m || (may_override a z && t))
        (ap (λ (c : ClassId). list_any (may_be_overridden b c) (map i.moved_member os)) (i.class_moved z)
        ∙ any_moved i.kept_member i.moved_member (may_be_overridden a z.class)
        (may_be_overridden b (i.moved z.class)) os all
        (λ y l. may_be_overridden_moved z.class y (i.class_kept z h) l))

    -- those that override a method are moved, where all of them are kept
    pub overriding_moved : (ms : List MemberAt) → AllMembersKept (overriding a m ms)
        → overriding b (i.moved_member m) (members_moved a b i ms) ≡ map i.moved_member (overriding a m ms)
    overriding_moved [] all = refl
    overriding_moved (z ∷ ms) all =
        by (i.kept_member z) refl (is_nearest a m z (overriding a m ms)) refl all (overriding_moved ms)
      where
        stands : (t : Bool) → i.kept_member z ≡ true → is_nearest a m z (overriding a m ms) ≡ t
            → AllMembersKept (overriding a m ms)
            → overriding b (i.moved_member m) (members_moved a b i ms) ≡ map i.moved_member (overriding a m ms)
            → overriding b (i.moved_member m) (members_moved a b i (z ∷ ms))
            ≡ cond t (i.moved_member z ∷ map i.moved_member (overriding a m ms))
            (map i.moved_member (overriding a m ms))
        stands t h e all r =
            ap (overriding b (i.moved_member m)) (moved_kept i.kept_member i.moved_member z ms h)
            ∙ ap (λ (ys : List MemberAt). cond (is_nearest b (i.moved_member m) (i.moved_member z) ys)
            (i.moved_member z ∷ ys) ys) r
            ∙ ap (λ (u : Bool). cond u (i.moved_member z ∷ map i.moved_member (overriding a m ms))
            (map i.moved_member (overriding a m ms))) (nearest_moved z (overriding a m ms) h all ∙ e)

        by : (h : Bool) → i.kept_member z ≡ h → (t : Bool) → is_nearest a m z (overriding a m ms) ≡ t
            → AllMembersKept (cond t (z ∷ overriding a m ms) (overriding a m ms))
            → (AllMembersKept (overriding a m ms)
            → overriding b (i.moved_member m) (members_moved a b i ms) ≡ map i.moved_member (overriding a m ms))
            → overriding b (i.moved_member m) (members_moved a b i (z ∷ ms))
            ≡ map i.moved_member (cond t (z ∷ overriding a m ms) (overriding a m ms))
        by true h true e all r = stands true h e all.1 (r all.1)
        by true h false e all r = stands false h e all (r all)
        by false h true e all r = absurd (let q : true ≡ false = sym all.0 ∙ h in cc)
        by false h false e all r =
            ap (overriding b (i.moved_member m)) (moved_gone i.kept_member i.moved_member z ms h) ∙ r all

    -- ---- all that override a kept method are kept

    module _ (p : IsProperSet a) (rule : SelectedKept a b i) (of_class : is_interface_in a m.class ≡ false) where
      abbrev found : List ClassId → List MemberAt
      found cs = declared_by a (named_at a m) cs

      abbrev rank : ClassId → ℕ
      rank c = p.ranks.rank c

      one_more : (x : ClassId) (cs : List ClassId) → IsClass a x → i.kept x ≡ true → is_interface_in a x ≡ false
          → superclasses_from a x ≡ x ∷ cs
          → (list_any (same_class m.class) cs ≡ true → same_class x m.class ≡ false)
          → AllMembersKept (overriding a m (found cs)) → AllMembersKept (overriding a m (found (x ∷ cs)))
      one_more x cs x-in h class line proper rest = at (declared_in a (named_at a m) x) refl
        where
          at : (o : Option MemberAt) → declared_in a (named_at a m) x ≡ o
              → AllMembersKept (overriding a m (cons_option o (found cs)))
          at None e = rest
          at (Some z) e =
              by (same_member z m) refl (may_override a z) refl
              (list_any (may_be_overridden a z.class) (overriding a m (found cs))) refl
            where
              by : (s : Bool) → same_member z m ≡ s → (q : Bool) → may_override a z ≡ q
                  → (t : Bool) → list_any (may_be_overridden a z.class) (overriding a m (found cs)) ≡ t
                  → AllMembersKept
                  (cond (s || (q && t)) (z ∷ overriding a m (found cs)) (overriding a m (found cs)))
              by true s q e2 t e3 = (ap i.kept_member (member_is z m s) ∙ k, rest)
              by false s false e2 t e3 = rest
              by false s true e2 false e3 = rest
              by false s true e2 true e3 =
                  let open_m = may_be a m p z.class (found cs) e3 in
                  let above = has_above a m (may_be_overridden a z.class) (found cs) e3 in
                  let among = declared_among a m (named_at a m) cs above in
                  let in_line : list_any (same_class m.class) (superclasses_from a x) ≡ true =
                  ap (list_any (same_class m.class)) line ∙ ap (λ (u : Bool). same_class m.class x || u) among
                  ∙ or-true (same_class m.class x) in
                  let below =
                  any_append (same_class m.class) (superclasses_from a x) (superinterfaces a x) in_line in
                  let nearest : is_nearest a m z (overriding a m (found cs)) ≡ true =
                  ap (λ (u : Bool). u
                  || (may_override a z && list_any (may_be_overridden a z.class) (overriding a m (found cs)))) s
                  ∙ ap (λ (u : Bool). u && list_any (may_be_overridden a z.class) (overriding a m (found cs))) e2
                  ∙ e3 in
                  let is : selected a x m ≡ Some z =
                  ap (λ (u : Bool). cond u (first_instance a x (named_at a m)) (first (overriding_from a x m)))
                  of_class
                  ∙ ap (λ (cs : List ClassId). first (overriding a m (found cs))) line
                  ∙ ap (λ (o : Option MemberAt). first (overriding a m (cons_option o (found cs)))) e
                  ∙ ap (λ (u : Bool). first (cond u (z ∷ overriding a m (found cs)) (overriding a m (found cs))))
                  nearest in (
                    subst (λ (o : Option MemberAt). IfSome o (λ s. i.kept_member s ≡ true)) is
                        (rule x m x-in h class k below (proper among) open_m.0 open_m.1),
                    rest,
                  )

      -- the superclasses of a class have lower ranks
      low_line : (n : ℕ) (y : ClassId) (r : ℕ) → IsClass a y → rank y < r
          → AllByRecursion (λ z. rank z < r) (upwards n a y)
      unfolding upwards
      low_line zero y r y-in low = tt
      low_line (suc n) y r y-in low = (
        low,
        rest (superclass a y) (first_of (IsClass a) (superclass a y) (interfaces a y) (direct_valid a y))
            (first_of (λ z. rank z < rank y) (superclass a y) (interfaces a y) (p.ranks.falls y y-in))
            (λ z valid lower. low_line n z r valid lower),
      )
        where
          rest : (o : Option ClassId) → IfSome o (IsClass a) → IfSome o (λ z. rank z < rank y)
              → ((z : ClassId) → IsClass a z → rank z < r → AllByRecursion (λ z. rank z < r) (upwards n a z))
              → AllByRecursion (λ z. rank z < r) (option_map_or (upwards n a) o [])
          rest None valid falls more = tt
          rest (Some z) valid falls more = more z valid (omega (arith, falls, low))

      -- a class of a lower rank is another one
      among_low : (x c : ClassId) (cs : List ClassId) → AllByRecursion (λ z. rank z < rank x) cs
          → list_any (same_class c) cs ≡ true → same_class x c ≡ false
      among_low x c [] all h = absurd cc
      among_low x c (d ∷ cs) all h = by (same_class c d) refl h (λ k. among_low x c cs all.1 k)
        where
          differ : same_class c d ≡ true → (t : Bool) → same_class x c ≡ t → t ≡ false
          differ s true t = absurd
              (let low : rank d < rank x = all.0 in
              let e : rank x ≡ rank d = ap p.ranks.rank (same_is x c t ∙ same_is c d s) in
              omega (arith, low, e))
          differ s false t = refl

          by : (t : Bool) → same_class c d ≡ t → (t || list_any (same_class c) cs) ≡ true
              → (list_any (same_class c) cs ≡ true → same_class x c ≡ false) → same_class x c ≡ false
          by true s h r = differ s (same_class x c) refl
          by false s h r = r h

      -- by induction on the rank
      all_kept : (n : ℕ) (x : ClassId) → IsClass a x → rank x < n → i.kept x ≡ true → is_interface_in a x ≡ false
          → AllMembersKept (overriding a m (found (superclasses_from a x)))
      all_kept zero x x-in low h class = absurd (omega (arith, low))
      all_kept (suc n) x x-in low h class =
          let most = p.ranks.most x x-in in
          let few = p.few in
          let line =
          superclasses_next a p.ranks.rank x p.ranks.falls x-in (omega (arith, most, few, library_count)) in
          let up-in = first_of (IsClass a) (superclass a x) (interfaces a x) (direct_valid a x) in
          let up-low =
          first_of (λ y. rank y < rank x) (superclass a x) (interfaces a x) (p.ranks.falls x x-in) in
          subst (λ (cs : List ClassId). AllMembersKept (overriding a m (found cs))) (sym line)
          (one_more x (option_map_or (superclasses_from a) (superclass a x) []) x-in h class line
          (among_low x m.class (option_map_or (superclasses_from a) (superclass a x) [])
          (lower (superclass a x) up-in up-low))
          (rest (superclass a x) refl (i.super_kept x h) up-in up-low (λ y valid l k c. all_kept n y valid l k c)))
        where
          lower : (o : Option ClassId) → IfSome o (IsClass a) → IfSome o (λ y. rank y < rank x)
              → AllByRecursion (λ z. rank z < rank x) (option_map_or (superclasses_from a) o [])
          lower None valid falls = tt
          lower (Some y) valid falls = low_line highest y (rank x) valid falls

          rest : (o : Option ClassId) → superclass a x ≡ o → IfSome o (λ y. i.kept y ≡ true)
              → IfSome o (IsClass a) → IfSome o (λ y. rank y < rank x)
              → ((y : ClassId) → IsClass a y → rank y < n → i.kept y ≡ true → is_interface_in a y ≡ false
              → AllMembersKept (overriding a m (found (superclasses_from a y))))
              → AllMembersKept (overriding a m (found (option_map_or (superclasses_from a) o [])))
          rest None e h valid falls more = tt
          rest (Some y) e h valid falls more =
              more y valid (omega (arith, falls, low)) h (p.superclasses x y e)

      -- those that override a kept method, from a kept class upwards
      pub overriding_kept : (x : ClassId) → IsClass a x → i.kept x ≡ true → is_interface_in a x ≡ false
          → AllMembersKept (overriding_from a x m)
      overriding_kept x x-in h class = all_kept (suc (rank x)) x x-in (omega arith) h class

  -- ---- selection

  instance_moved : (n o : NameAndType) → i.renamed n ≡ Some o → (x : ClassId) → i.kept x ≡ true
      → FoundKept a b i (first_instance a x n)
      → first_instance b (i.moved x) o ≡ option_map i.moved_member (first_instance a x n)
  instance_moved n o e x h found =
      ap (λ cs. find (is_instance_method b) (declared_by b o cs)) (superclasses_moved a b i x h)
      ∙ ap (find (is_instance_method b))
      (declared_moved a b i n o e (superclasses_from a x) (superclasses_kept a b i x h))
      ∙ find_moved i.kept_member i.moved_member (is_instance_method a) (is_instance_method b) i.instance_moved
      (declared_by a n (superclasses_from a x)) found

  first_of_all : (ms : List MemberAt) → AllMembersKept ms → FoundKept a b i (first ms)
  first_of_all [] h = tt
  first_of_all (m ∷ ms) h = h.0

  module _ (p : IsProperSet a) (rule : SelectedKept a b i) where
    class_selected : (x : ClassId) (m : MemberAt) → IsClass a x → i.kept x ≡ true → is_interface_in a x ≡ false
        → i.kept_member m ≡ true → is_interface_in a m.class ≡ false
        → (first (overriding_from b (i.moved x) (i.moved_member m))
        ≡ option_map i.moved_member (first (overriding_from a x m))) × FoundKept a b i (first (overriding_from a x m))
    class_selected x m x-in h class k of_class =
        let all = overriding_kept m k p rule of_class x x-in h class in
        let above = superclasses_from a x in
        let named = named_at b (i.moved_member m) in (
          ap (λ cs. first (overriding b (i.moved_member m) (declared_by b named cs))) (superclasses_moved a b i x h)
              ∙ ap (λ ms. first (overriding b (i.moved_member m) ms))
              (declared_moved a b i (named_at a m) named (i.name_moved m k) above (superclasses_kept a b i x h))
              ∙ ap first (overriding_moved m k (declared_by a (named_at a m) above) all)
              ∙ first_map i.moved_member (overriding_from a x m),
          first_of_all (overriding_from a x m) all,
        )

    -- what is selected of a method of an interface, or of one of a class
    abbrev there : ClassId → MemberAt → Bool → Option MemberAt
    there x m t =
        cond t (first_instance b (i.moved x) (named_at b (i.moved_member m)))
        (first (overriding_from b (i.moved x) (i.moved_member m)))

    abbrev here : ClassId → MemberAt → Bool → Option MemberAt
    here x m t = cond t (first_instance a x (named_at a m)) (first (overriding_from a x m))

    -- the method that a call of a kept method runs on an object of a kept class is the same, and kept
    pub selected_moved : (x : ClassId) (m : MemberAt) → IsClass a x → i.kept x ≡ true → is_interface_in a x ≡ false
        → i.kept_member m ≡ true → is_below a x m.class ≡ true
        → (is_interface_in a m.class ≡ true → (is_instance_method a m ≡ true) × (is_private_member a m ≡ false))
        → (selected b (i.moved x) (i.moved_member m) ≡ option_map i.moved_member (selected a x m))
        × FoundKept a b i (selected a x m)
    selected_moved x m x-in h class k below open_m =
        by (is_interface_in a m.class) refl
        (λ t. rule x m x-in h class k below (apart (same_class x m.class) refl t) (open_m t).0 (open_m t).1)
      where
        apart : (s : Bool) → same_class x m.class ≡ s → is_interface_in a m.class ≡ true → s ≡ false
        apart true s t = absurd
            (let e : false ≡ true = sym class ∙ ap (is_interface_in a) (same_is x m.class s) ∙ t in cc)
        apart false s t = refl

        test : is_interface_in b (i.moved_member m).class ≡ is_interface_in a m.class
        test = ap (is_interface_in b) (i.class_moved m) ∙ i.interface_moved m.class (i.class_kept m k)

        by : (t : Bool) → is_interface_in a m.class ≡ t
            → (is_interface_in a m.class ≡ true → FoundKept a b i (here x m (is_interface_in a m.class)))
            → (there x m (is_interface_in b (i.moved_member m).class)
            ≡ option_map i.moved_member (here x m (is_interface_in a m.class)))
            × FoundKept a b i (here x m (is_interface_in a m.class))
        by true e found =
            let k1 = subst (λ (t : Bool). FoundKept a b i (here x m t)) e (found e) in (
              ap (there x m) (test ∙ e)
                  ∙ instance_moved (named_at a m) (named_at b (i.moved_member m)) (i.name_moved m k) x h k1
                  ∙ ap (λ t. option_map i.moved_member (here x m t)) (sym e),
              found e,
            )
        by false e found =
            let and_parts = class_selected x m x-in h class k e in (
              ap (there x m) (test ∙ e) ∙ and_parts.0 ∙ ap (λ t. option_map i.moved_member (here x m t)) (sym e),
              subst (λ (t : Bool). FoundKept a b i (here x m t)) (sym e) and_parts.1,
            )

  -- ---- invokespecial (JVMS 6.5.invokespecial)

  module _ (from named : ClassId) (m : MemberAt) where
    -- the first instance method from the direct superclass upwards, if there is one
    abbrev from_above : Option ClassId → Option MemberAt
    from_above c = option_and_then (λ above. first_instance a above (named_at a m)) c

    abbrev from_above_there : Option ClassId → Option MemberAt
    from_above_there c = option_and_then (λ above. first_instance b above (named_at b (i.moved_member m))) c

    -- the same, or from the class itself where that was named
    abbrev from_class : Bool → Option MemberAt
    from_class t = cond t (first_instance a from (named_at a m)) (from_above (superclass a from))

    abbrev from_class_there : Bool → Option MemberAt
    from_class_there t =
        cond t (first_instance b (i.moved from) (named_at b (i.moved_member m)))
        (from_above_there (superclass b (i.moved from)))

    module _ (f : i.kept from ≡ true) (n : i.kept named ≡ true) (k : i.kept_member m ≡ true) where
      above_moved : (c : Option ClassId) → IfSome c (λ y. i.kept y ≡ true) → FoundKept a b i (from_above c)
          → from_above_there (option_map i.moved c) ≡ option_map i.moved_member (from_above c)
      above_moved None h found = refl
      above_moved (Some c) h found =
          instance_moved (named_at a m) (named_at b (i.moved_member m)) (i.name_moved m k) c h found

      class_moved : (t : Bool) → FoundKept a b i (from_class t)
          → from_class_there t ≡ option_map i.moved_member (from_class t)
      class_moved true found =
          instance_moved (named_at a m) (named_at b (i.moved_member m)) (i.name_moved m k) from f found
      class_moved false found =
          ap from_above_there (i.super_moved from f) ∙ above_moved (superclass a from) (i.super_kept from f) found

      pub special_moved : FoundKept a b i (selected_special a from named m)
          → selected_special b (i.moved from) (i.moved named) (i.moved_member m)
          ≡ option_map i.moved_member (selected_special a from named m)
      special_moved found =
          ap (λ t. cond t (Some (i.moved_member m)) (from_class_there (same_class (i.moved from) (i.moved named))))
          (i.init_moved m k)
          ∙ by (is_init (named_at a m).0) found
        where
          by : (t : Bool) → FoundKept a b i (cond t (Some m) (from_class (same_class from named)))
              → cond t (Some (i.moved_member m)) (from_class_there (same_class (i.moved from) (i.moved named)))
              ≡ option_map i.moved_member (cond t (Some m) (from_class (same_class from named)))
          by true found = refl
          by false found =
              ap from_class_there (i.same_moved from named f n)
              ∙ class_moved (same_class from named) found
