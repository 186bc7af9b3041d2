-- Which method runs where one is called that those of its package alone may override.
use Rattle.std.proofs.Common.{◌≡◌, ℕ, zero, suc, ◌<◌, ◌==◌, not, ◌&&◌, ◌||◌, Bool, true, false, cond, List, [], ◌∷◌}
use Rattle.std.proofs.Common.{length, map, get_or, slice_get, Option, Some, None, refl, sym, ap, ◌∙◌, subst, ◌≤◌, arith}
use Rattle.std.proofs.Common.{nat_lt}
use Rattle.std.specs.Prelude.{IfSome}
use Rattle.std.specs.List.{All, cons_option, find, list_any}
use Rattle.std.specs.Option.{option_map, option_map_or, option_or}
use Rattle.std.proofs.lemmas.Bool.{eq-eqb, ltb-false, ltb-true, or_parts, or_right}
use Rattle.std.proofs.lemmas.List.Elements.{All-head, All-tail}
use Rattle.std.proofs.lemmas.List.Folds.{find-append}
use Rattle.std.proofs.lemmas.Option.{same_Some}
use Rattle.lib_table.specs.Lookups.{super_of}
use Rattle.class_model.specs.declared.class.Class.{Class}
use Rattle.class_pool.specs.Found.{NameAndType, declared_by, declared_in, is_instance_method, is_private_member}
use Rattle.class_pool.specs.Found.{is_protected_member, is_public_member, named_at, package_of, same_member}
use Rattle.class_pool.specs.Found.{same_package}
use Rattle.class_pool.specs.Hierarchy.{IsClass, superclass}
use Rattle.class_pool.specs.Ranks.{HasRanks}
use Rattle.class_pool.specs.Members.{declared_at}
use Rattle.class_pool.specs.Resolution.{first, is_class_below, is_interface_in}
use Rattle.class_pool.specs.Selection.{first_instance, may_be_overridden, may_override, overriding_from, selected}
use Rattle.class_pool.specs.Walk.{highest, same_class, superclasses_from, upwards}
use Rattle.class_pool.specs.declared.id.ClassId.{ClassId}
use Rattle.class_pool.specs.declared.id.ClassId.TheVariants.{Prog, Lib}
use Rattle.class_pool.specs.declared.id.MemberAt.{MemberAt}
use Rattle.class_pool.proofs.Among.{member_is}
use Rattle.class_pool.proofs.Declaring.{declared_named}
use Rattle.link_check.specs.bodies.Overriding.{alike_from, has_open_override, is_among, overrides_openly, overrides_where}
use Rattle.link_check.proofs.OverridingLaws.{alike_above, among_declared, closed_without, declared_class, first_found}
use Rattle.method_places.specs.bodies.Alike.{AreRows, HasItem, IsRow, class_rows, member_at, row_in}
use Rattle.method_places.specs.bodies.Nearest.{AreNoted, front_rows, noted}
use Rattle.method_places.specs.bodies.Places.{HavePlaces, is_part, package_number, part_row, place_in, with_number}
use Rattle.method_places.specs.declared.methods.InstanceMethod.{InstanceMethod}
use Rattle.method_places.specs.declared.methods.Openness.TheVariants.{Abstract, Open, Package, Private}
use Rattle.method_places.specs.declared.nearest.Note.{Note}
use Rattle.method_places.specs.declared.places.Part.TheVariants.{Each, Open as OfOpen}
use Rattle.method_places.specs.declared.places.Places.{Places}
use Rattle.method_places.proofs.InstanceRows.{alike_first, alike_named, all_rows, each_row, found_holds, front_tested}
use Rattle.method_places.proofs.InstanceRows.{none_holds}
use Rattle.method_places.proofs.Noting.{nearest_noted}
use Rattle.item_numbers.specs.bodies.Supers.{program_number}
use Rattle.override_pairs.proofs.ChainSteps.{Once, at_among, up_once}
use Rattle.override_pairs.proofs.OpenAbove.{of_package}
use Rattle.override_pairs.proofs.PackageRows.{front_part, part_found, placed_alike, placed_number}

-- ---- the library is behind the program

-- behind a class of the library there is none of the program with this number
abbrev NoneBehind : ℕ → List ClassId → Type 0
NoneBehind k [] = Unit {0}
NoneBehind k (Prog n ∷ cs) = NoneBehind k cs
NoneBehind k (Lib id ∷ cs) = list_any (same_class (Prog k)) cs ≡ false

library_up : (classes : List Class) (k n id : ℕ) → list_any (same_class (Prog k)) (upwards n classes (Lib id)) ≡ false
unfolding upwards
library_up classes k zero id = refl
library_up classes k (suc n) id = by (superclass classes (Lib id)) refl (λ above. library_up classes k n above)
  where
    by : (o : Option ClassId) → superclass classes (Lib id) ≡ o
        → ((above : ℕ) → list_any (same_class (Prog k)) (upwards n classes (Lib above)) ≡ false)
        → list_any (same_class (Prog k)) (option_map_or (upwards n classes) o []) ≡ false
    by None e rest = refl
    by (Some (Lib above)) e rest = rest above
    by (Some (Prog above)) e rest = absurd (none (super_of id) e)
      where
        none : (o : Option ℕ) → option_map Lib o ≡ Some (Prog above) → ⊥
        none None h = absurd cc
        none (Some x) h = absurd (let q : Lib x ≡ Prog above = same_Some _ _ h in cc)

up_behind : (classes : List Class) (k n : ℕ) (c : ClassId) → NoneBehind k (upwards n classes c)
unfolding upwards
up_behind classes k zero c = tt
up_behind classes k (suc n) (Prog p) = by (superclass classes (Prog p)) (λ above. up_behind classes k n above)
  where
    by : (o : Option ClassId) → ((above : ClassId) → NoneBehind k (upwards n classes above))
        → NoneBehind k (option_map_or (upwards n classes) o [])
    by None rest = tt
    by (Some above) rest = rest above
up_behind classes k (suc n) (Lib id) = library_up classes k (suc n) id

-- ---- the nearest one that passes a test

-- two results, the first of which is nothing
none_first : {X : Type 0} (o p : Option X) → option_or o p ≡ None → (o ≡ None) × (p ≡ None)
none_first None p is = (refl, is)
none_first (Some x) p is = absurd cc

module _ (classes : List Class) (table : List (List InstanceMethod)) (are : AreRows classes table)
    (row : InstanceMethod) (n : ℕ) (is : IsRow classes are.number n row) (some : 0 < row.number)
    (q : InstanceMethod → Bool) (test : MemberAt → Bool)
    (one : (r : InstanceMethod) → q r ≡ true → (r.number == row.number) ≡ true)
    (same : (p : ℕ) (r : InstanceMethod) → IsRow classes are.number p r → (r.number == row.number) ≡ true
    → q r ≡ test (member_at r))
    (instance : (y : MemberAt) → test y ≡ true → is_instance_method classes y ≡ true) where
  abbrev named : NameAndType
  named = named_at classes (member_at row)

  -- what a class of the set declares, by its rows
  in_class : (p : ℕ) (o : Option InstanceMethod) → find q (class_rows classes are.number p) ≡ o → (d : Option MemberAt)
      → declared_in classes named (Prog p) ≡ d → find test (cons_option d []) ≡ option_map member_at o
  in_class p (Some r) found d declared =
      let h = found_holds (IsRow classes are.number p) q (class_rows classes are.number p) r
      (all_rows classes are.number p) found in
      let alike = one r h.1 in
      let here : declared_in classes named (Prog p) ≡ Some (member_at r) =
      ap (λ (t : NameAndType). declared_in classes t (Prog p))
      (alike_named classes table are row n is some r p h.0 alike)
      ∙ ap (λ (k : ℕ). declared_in classes (named_at classes (member_at r)) (Prog k)) (sym h.0.class)
      ∙ alike_first classes table are row n is some r p h.0 alike in
      ap (λ (x : Option MemberAt). find test (cons_option x [])) (sym declared ∙ here)
      ∙ ap (λ b. cond b (Some (member_at r)) None) (sym (same p r h.0 alike) ∙ h.1)
  in_class p None found None declared = refl
  in_class p None found (Some y) declared = by (test y) refl
    where
      at : (k : Option ℕ) → option_map (λ n. record { class = Prog p; index = n }) k ≡ Some y
          → (record { class = Prog p; index = y.index }) ≡ y
      at None e = absurd cc
      at (Some k) e =
          let same : record { class = Prog p; index = k } ≡ y = same_Some _ _ e in
          ap (λ (m : MemberAt). record { class = Prog p; index = m.index }) (sym same) ∙ same

      own : (record { class = Prog p; index = y.index }) ≡ y
      own = at (declared_at classes (Prog p) named.0 named.1) declared

      other : is_instance_method classes y ≡ true
          → (q (row_in classes are.number p y.index) ≡ false) × IsRow classes are.number p
          (row_in classes are.number p y.index)
      other i =
          let there : is_instance_method classes (record { class = Prog p; index = y.index }) ≡ true =
          ap (is_instance_method classes) own ∙ i in (
            each_row classes are.number p (λ r. q r ≡ false) y.index
                (none_holds q (class_rows classes are.number p) found) there,
            each_row classes are.number p (IsRow classes are.number p) y.index (all_rows classes are.number p) there,
          )

      by : (b : Bool) → test y ≡ b → cond b (Some y) None ≡ None
      by false e = refl
      by true e =
          let i = instance y e in
          let none = other i in
          let number : are.number (named_at classes (record { class = Prog p; index = y.index })) ≡ row.number =
          ap (λ (m : MemberAt). are.number (named_at classes m)) own
          ∙ ap are.number (declared_named classes named (Prog p) y declared) ∙ sym is.numbered in
          absurd (let h : false ≡ true = sym none.0
          ∙ same p (row_in classes are.number p y.index) none.1 (eq-eqb _ row.number number)
          ∙ ap test own ∙ e in cc)

  rows_first : (p : ℕ) (cs : List ClassId) → p < length classes
      → find q (front_rows table (Prog p ∷ cs))
      ≡ option_or (find q (class_rows classes are.number p)) (find q (front_rows table cs))
  rows_first p cs within =
      find-append q (get_or table p []) (front_rows table cs)
      ∙ ap (λ (t : List InstanceMethod). option_or (find q t) (find q (front_rows table cs))) (are.each p within)

  split : (d : Option MemberAt) (ms : List MemberAt)
      → find test (cons_option d ms) ≡ option_or (find test (cons_option d [])) (find test ms)
  split None ms = refl
  split (Some y) ms = cases (test y)
    where
      cases : (b : Bool) → cond b (Some y) (find test ms) ≡ option_or (cond b (Some y) None) (find test ms)
      cases true = refl
      cases false = refl

  -- the nearest row is that of the nearest method
  pub nearest_found : (cs : List ClassId) → All (IsClass classes) cs → (r : InstanceMethod)
      → find q (front_rows table cs) ≡ Some r → find test (declared_by classes named cs) ≡ Some (member_at r)
  nearest_found [] there r found = absurd cc
  nearest_found (Lib id ∷ cs) there r found = absurd cc
  nearest_found (Prog p ∷ cs) there r found =
      let within : p < length classes = All-head (IsClass classes) (Prog p) cs there in
      split (declared_in classes named (Prog p)) (declared_by classes named cs)
      ∙ by (find q (class_rows classes are.number p)) refl (sym (rows_first p cs within) ∙ found)
      (λ h. nearest_found cs (All-tail (IsClass classes) (Prog p) cs there) r h)
    where
      by : (o : Option InstanceMethod) → find q (class_rows classes are.number p) ≡ o
          → option_or o (find q (front_rows table cs)) ≡ Some r
          → (find q (front_rows table cs) ≡ Some r → find test (declared_by classes named cs) ≡ Some (member_at r))
          → option_or (find test (cons_option (declared_in classes named (Prog p)) []))
          (find test (declared_by classes named cs)) ≡ Some (member_at r)
      by None here both next =
          ap (λ t. option_or t (find test (declared_by classes named cs)))
          (in_class p None here (declared_in classes named (Prog p)) refl) ∙ next both
      by (Some x) here both next =
          ap (λ t. option_or t (find test (declared_by classes named cs)))
          (in_class p (Some x) here (declared_in classes named (Prog p)) refl)
          ∙ ap (λ (y : InstanceMethod). Some (member_at y)) (same_Some x r both)

  -- where no row passes, none of the methods of the program does
  pub none_found : (p : ℕ) (cs : List ClassId) → p < length classes → find q (front_rows table (Prog p ∷ cs)) ≡ None
      → (find test (cons_option (declared_in classes named (Prog p)) []) ≡ None)
      × (find q (front_rows table cs) ≡ None)
  none_found p cs within none =
      let h = none_first (find q (class_rows classes are.number p)) (find q (front_rows table cs))
      (sym (rows_first p cs within) ∙ none) in
      (in_class p None h.0 (declared_in classes named (Prog p)) refl, h.1)

-- ---- where nothing opens a method

module _ (classes : List Class) (table : List (List InstanceMethod)) (are : AreRows classes table)
    (row : InstanceMethod) (n : ℕ) (is : IsRow classes are.number n row) (some : 0 < row.number)
    (q : InstanceMethod → Bool)
    (one : (r : InstanceMethod) → q r ≡ true → (r.number == row.number) ≡ true)
    (same : (p : ℕ) (r : InstanceMethod) → IsRow classes are.number p r → (r.number == row.number) ≡ true
    → q r ≡ overrides_openly classes (member_at row) (member_at r)) where
  openly_instance : (y : MemberAt) → overrides_openly classes (member_at row) y ≡ true
      → is_instance_method classes y ≡ true
  openly_instance y h =
      by (is_instance_method classes y) (is_private_member classes y) (is_interface_in classes y.class)
      (may_be_overridden classes y.class (member_at row)) (is_public_member classes y || is_protected_member classes y)
      h
    where
      by : (a b c d e : Bool) → ((((a && not b) && not c) && d) && e) ≡ true → a ≡ true
      by true b c d e h = refl
      by false b c d e h = absurd cc

  no_open : (d : Option MemberAt) (ms : List MemberAt)
      → find (overrides_openly classes (member_at row)) (cons_option d []) ≡ None
      → has_open_override classes (member_at row) ms ≡ false
      → has_open_override classes (member_at row) (cons_option d ms) ≡ false
  no_open None ms none rest = rest
  no_open (Some y) ms none rest = by (overrides_openly classes (member_at row) y) refl none
    where
      by : (b : Bool) → overrides_openly classes (member_at row) y ≡ b → cond b (Some y) None ≡ None
          → ((b && is_among (member_at row) ms) || has_open_override classes (member_at row) ms) ≡ false
      by true e h = absurd cc
      by false e h = rest

  -- where no row opens it, no method does
  pub not_opened : (cs : List ClassId) → All (IsClass classes) cs → NoneBehind row.class cs
      → find q (front_rows table cs) ≡ None
      → has_open_override classes (member_at row)
      (declared_by classes (named_at classes (member_at row)) cs) ≡ false
  not_opened [] there behind none = refl
  not_opened (Lib id ∷ cs) there behind none =
      closed_without classes (member_at row)
      (declared_by classes (named_at classes (member_at row)) (Lib id ∷ cs))
      (among_declared (declared_in classes (named_at classes (member_at row)))
      (declared_class classes (named_at classes (member_at row))) (member_at row) (Lib id ∷ cs)
      (alike_first classes table are row n is some row n is (eq-eqb row.number row.number refl)) ∙ behind)
  not_opened (Prog p ∷ cs) there behind none =
      let within : p < length classes = All-head (IsClass classes) (Prog p) cs there in
      let h = none_found classes table are row n is some q (overrides_openly classes (member_at row)) one same
      openly_instance p cs within none in
      no_open (declared_in classes (named_at classes (member_at row)) (Prog p))
      (declared_by classes (named_at classes (member_at row)) cs) h.0
      (not_opened cs (All-tail (IsClass classes) (Prog p) cs there) behind h.1)

  closed_itself : (x w a h : Bool) → w ≡ false → h ≡ false → (((x && w) && a) || h) ≡ false
  closed_itself false w a h narrow rest = rest
  closed_itself true true a h narrow rest = absurd cc
  closed_itself true false a h narrow rest = rest

  -- nor where the first row that opens it stands behind it
  pub opened_behind : (cs : List ClassId) → All (IsClass classes) cs → Once cs
      → (is_public_member classes (member_at row) || is_protected_member classes (member_at row)) ≡ false
      → (r : InstanceMethod) (i j : ℕ) → find q (front_rows table cs) ≡ Some r → slice_get cs i ≡ Some (Prog r.class)
      → slice_get cs j ≡ Some (Prog row.class) → j ≤ i
      → has_open_override classes (member_at row)
      (declared_by classes (named_at classes (member_at row)) cs) ≡ false
  opened_behind [] there once narrow r i j found at own le = absurd cc
  opened_behind (Lib id ∷ cs) there once narrow r i j found at own le = absurd cc
  opened_behind (Prog p ∷ cs) there once narrow r zero (suc j) found at own le = absurd (omega (arith, le))
  opened_behind (Prog p ∷ cs) there once narrow r i zero found at own le =
      let m : MemberAt = member_at row in
      let named : NameAndType = named_at classes m in
      let rest : List MemberAt = declared_by classes named cs in
      let same : p ≡ row.class = same_Some p row.class (ap program_number own) in
      let first : declared_in classes named (Prog row.class) ≡ Some m =
      alike_first classes table are row n is some row n is (eq-eqb row.number row.number refl) in
      ap (λ (k : ℕ). has_open_override classes m (cons_option (declared_in classes named (Prog k)) rest)) same
      ∙ ap (λ (o : Option MemberAt). has_open_override classes m (cons_option o rest)) first
      ∙ closed_itself (may_override classes m && may_be_overridden classes m.class m)
      (is_public_member classes m || is_protected_member classes m) (is_among m rest)
      (has_open_override classes m rest) narrow
      (closed_without classes m rest
      (among_declared (declared_in classes named) (declared_class classes named) m cs first
      ∙ subst (λ (k : ℕ). list_any (same_class (Prog k)) cs ≡ false) same once.0))
  opened_behind (Prog p ∷ cs) there once narrow r (suc i) (suc j) found at own le =
      let within : p < length classes = All-head (IsClass classes) (Prog p) cs there in
      by (find q (class_rows classes are.number p)) refl
      (sym (rows_first classes table are row n is some q (overrides_openly classes (member_at row)) one same
      openly_instance p cs within) ∙ found)
      (λ both. opened_behind cs (All-tail (IsClass classes) (Prog p) cs there) once.1 narrow r i j both at own
      (omega (arith, le)))
    where
      by : (o : Option InstanceMethod) → find q (class_rows classes are.number p) ≡ o
          → option_or o (find q (front_rows table cs)) ≡ Some r
          → (find q (front_rows table cs) ≡ Some r → has_open_override classes (member_at row)
          (declared_by classes (named_at classes (member_at row)) cs) ≡ false)
          → has_open_override classes (member_at row)
          (declared_by classes (named_at classes (member_at row)) (Prog p ∷ cs)) ≡ false
      by (Some x) here both next =
          let same : x ≡ r = same_Some x r both in
          let home : x.class ≡ p = (found_holds (IsRow classes are.number p) q (class_rows classes are.number p) x
          (all_rows classes are.number p) here).0.class in
          let again : slice_get cs i ≡ Some (Prog p) =
          at ∙ ap (λ (y : InstanceMethod). Some (Prog y.class)) (sym same) ∙ ap (λ (k : ℕ). Some (Prog k)) home in
          absurd (let h : false ≡ true = sym once.0 ∙ at_among cs i (Prog p) again in cc)
      by None here both next =
          no_open (declared_in classes (named_at classes (member_at row)) (Prog p))
          (declared_by classes (named_at classes (member_at row)) cs)
          (in_class classes table are row n is some q (overrides_openly classes (member_at row)) one same
          openly_instance p None here (declared_in classes (named_at classes (member_at row)) (Prog p)) refl)
          (next both)

-- where one of the methods opens it and stands in front of it, it is opened
module _ (classes : List Class) (m y : MemberAt) (opens : overrides_openly classes m y ≡ true)
    (first : declared_in classes (named_at classes m) m.class ≡ Some m)
    (that : declared_in classes (named_at classes m) y.class ≡ Some y) where
  pub opened_before : (cs : List ClassId) (i j : ℕ) → slice_get cs i ≡ Some y.class → slice_get cs j ≡ Some m.class
      → i < j → has_open_override classes m (declared_by classes (named_at classes m) cs) ≡ true
  opened_before [] i j at own lt = absurd cc
  opened_before (c ∷ cs) i zero at own lt = absurd (omega (arith, lt))
  opened_before (c ∷ cs) zero (suc j) at own lt =
      let named : NameAndType = named_at classes m in
      let rest : List MemberAt = declared_by classes named cs in
      let among : is_among m rest ≡ true =
      among_declared (declared_in classes named) (declared_class classes named) m cs first
      ∙ at_among cs j m.class own in
      ap (λ (o : Option MemberAt). has_open_override classes m (cons_option o rest))
      (ap (declared_in classes named) (same_Some c y.class at) ∙ that)
      ∙ (λ k. (opens k && among k) || has_open_override classes m rest)
  opened_before (c ∷ cs) (suc i) (suc j) at own lt =
      by (declared_in classes (named_at classes m) c) (opened_before cs i j at own (omega (arith, lt)))
    where
      by : (o : Option MemberAt) → has_open_override classes m (declared_by classes (named_at classes m) cs) ≡ true
          → has_open_override classes m (cons_option o (declared_by classes (named_at classes m) cs)) ≡ true
      by None h = h
      by (Some x) h = or_right (overrides_openly classes m x && is_among m (declared_by classes (named_at classes m) cs))
          (has_open_override classes m (declared_by classes (named_at classes m) cs)) h

-- ---- what runs

pub found_passes : (test : InstanceMethod → Bool) (rows : List InstanceMethod) (r : InstanceMethod)
    → find test rows ≡ Some r → test r ≡ true
found_passes test [] r found = absurd cc
found_passes test (x ∷ rows) r found = by (test x) refl found (found_passes test rows r)
  where
    by : (b : Bool) → test x ≡ b → cond b (Some x) (find test rows) ≡ Some r
        → (find test rows ≡ Some r → test r ≡ true) → test r ≡ true
    by true e h next = ap test (sym (same_Some x r h)) ∙ e
    by false e h next = next h

by_package : (i p q h s : Bool) → i ≡ true → p ≡ false → q ≡ false → h ≡ false
    → (i && ((p || q) || (not h && s))) ≡ s
by_package false p q h s one a b c = absurd cc
by_package true true q h s one a b c = absurd cc
by_package true false true h s one a b c = absurd cc
by_package true false false true s one a b c = absurd cc
by_package true false false false s one a b c = refl

open_part : (a h i o s : Bool) → a ≡ true
    → (is_part OfOpen (cond h Private (cond i Abstract (cond o Open Package))) && (((a && not h) && not i) && s))
    ≡ ((((a && not h) && not i) && s) && o)
open_part false h i o s one = absurd cc
open_part true true i o s one = refl
open_part true false true o s one = refl
open_part true false false true true one = refl
open_part true false false true false one = refl
open_part true false false false true one = refl
open_part true false false false false one = refl

itself_where : (s mo r : Bool) → (s ≡ true → (mo && r) ≡ true) → (s || (mo && (false || r))) ≡ (mo && r)
itself_where true mo r all = sym (all refl)
itself_where false mo r all = refl

module _ (classes : List Class) (table : List (List InstanceMethod)) (are : AreRows classes table)
    (packages keys : List ℕ) (names : List (List ℕ))
    (named : packages ≡ map (λ c. package_number names (package_of c.name)) classes) (run : ℕ)
    (there : All (IsClass classes) (superclasses_from classes (Prog run))) (row : InstanceMethod) (n : ℕ)
    (is : IsRow classes are.number n row) (some : 0 < row.number) (kind : row.openness ≡ Package)
    (p : ℕ) (place : place_in packages keys row ≡ p) (low : 0 < p) where
  abbrev m : MemberAt
  m = member_at row

  flags : (is_private_member classes m ≡ false) × ((is_interface_in classes m.class ≡ false)
      × ((is_public_member classes m || is_protected_member classes m) ≡ false))
  flags = of_package (is_private_member classes m) (is_interface_in classes m.class)
      (is_public_member classes m || is_protected_member classes m) (sym is.openness ∙ kind)

  narrow : (is_public_member classes m ≡ false) × (is_protected_member classes m ≡ false)
  narrow = or_parts (is_public_member classes m) (is_protected_member classes m) flags.1.1

  overridden_is : (c : ClassId) → may_be_overridden classes c m ≡ same_package classes c m.class
  overridden_is c = by_package (is_instance_method classes m) (is_public_member classes m)
      (is_protected_member classes m) (is_private_member classes m) (same_package classes c m.class) is.instance narrow.0
      narrow.1 flags.0

  -- methods of its package that may override it
  abbrev test : MemberAt → Bool
  test x = may_override classes x && may_be_overridden classes x.class m

  test_is : (o : ℕ) (r : InstanceMethod) → IsRow classes are.number o r → (r.number == row.number) ≡ true
      → (place_in packages keys r == p) ≡ test (member_at r)
  test_is o r that same =
      placed_alike classes table are packages keys names named row p place low o r that same
      ∙ ap (λ b. may_override classes (member_at r) && b) (sym (overridden_is (Prog r.class)))

  test_instance : (y : MemberAt) → test y ≡ true → is_instance_method classes y ≡ true
  test_instance y passes = by (is_instance_method classes y) (is_private_member classes y)
      (is_interface_in classes y.class) (may_be_overridden classes y.class m) passes
    where
      by : (a b c d : Bool) → (((a && not b) && not c) && d) ≡ true → a ≡ true
      by true b c d h = refl
      by false b c d h = absurd cc

  open_number : (r : InstanceMethod) → (is_part OfOpen r.openness && (place_in packages keys r == p)) ≡ true
      → (r.number == row.number) ≡ true
  open_number r h =
      placed_number classes table are packages keys names named row p place low r
      (second (is_part OfOpen r.openness) (place_in packages keys r == p) h)
    where
      second : (a b : Bool) → (a && b) ≡ true → b ≡ true
      second true b e = e
      second false b e = absurd cc

  open_is : (o : ℕ) (r : InstanceMethod) → IsRow classes are.number o r → (r.number == row.number) ≡ true
      → (is_part OfOpen r.openness && (place_in packages keys r == p)) ≡ overrides_openly classes m (member_at r)
  open_is o r that same =
      let y = member_at r in
      (λ i. is_part OfOpen (that.openness i) && test_is o r that same i)
      ∙ open_part (is_instance_method classes y) (is_private_member classes y) (is_interface_in classes y.class)
      (is_public_member classes y || is_protected_member classes y) (may_be_overridden classes y.class m) that.instance

  own_passes : (x : MemberAt) → same_member x m ≡ true → test x ≡ true
  own_passes x same =
      ap test (member_is x m same)
      ∙ sym (test_is n row is (eq-eqb row.number row.number refl)) ∙ eq-eqb (place_in packages keys row) p place

  test_where : (x : MemberAt) → overrides_where classes m false x ≡ test x
  test_where x = itself_where (same_member x m) (may_override classes x) (may_be_overridden classes x.class m)
      (own_passes x)

  abbrev chain : List ClassId
  chain = superclasses_from classes (Prog run)

  abbrev opens : InstanceMethod → Bool
  opens r = is_part OfOpen r.openness && (place_in packages keys r == p)

  first_of : declared_in classes (named_at classes m) m.class ≡ Some m
  first_of = alike_first classes table are row n is some row n is (eq-eqb row.number row.number refl)

  -- where no method with the place of one is open to all packages, none opens that one
  pub none_opens : find opens (front_rows table chain) ≡ None
      → has_open_override classes m (alike_from classes m (Prog run)) ≡ false
  none_opens none =
      not_opened classes table are row n is some opens open_number open_is chain there
      (up_behind classes row.class highest (Prog run)) none

  -- nor where the nearest one stands behind it
  pub behind_opens : HasRanks classes → run < length classes → (r : InstanceMethod) (i j : ℕ)
      → find opens (front_rows table chain) ≡ Some r → slice_get chain i ≡ Some (Prog r.class)
      → slice_get chain j ≡ Some (Prog row.class) → j ≤ i
      → has_open_override classes m (alike_from classes m (Prog run)) ≡ false
  behind_opens ranks within r i j found at own le =
      opened_behind classes table are row n is some opens open_number open_is chain there
      (up_once classes ranks highest (Prog run) within) flags.1.1 r i j found at own le

  -- it does where it stands in front of it
  pub before_opens : (r : InstanceMethod) (i j : ℕ) → find opens (front_rows table chain) ≡ Some r
      → slice_get chain i ≡ Some (Prog r.class) → slice_get chain j ≡ Some (Prog row.class) → i < j
      → has_open_override classes m (alike_from classes m (Prog run)) ≡ true
  before_opens r i j found at own lt =
      let that = front_tested classes table are chain there opens r found in
      let passes = found_passes opens (front_rows table chain) r found in
      let alike = open_number r passes in
      opened_before classes m (member_at r) (sym (open_is r.class r that alike) ∙ passes) first_of
      (ap (λ (t : NameAndType). declared_in classes t (Prog r.class))
      (alike_named classes table are row n is some r r.class that alike)
      ∙ alike_first classes table are row n is some r r.class that alike)
      chain i j at own lt

  -- the nearest method with the place of one runs where that is called and no method opens it
  pub package_runs : is_class_below classes (Prog run) (Prog row.class) ≡ true → (r : InstanceMethod)
      → find (λ r. is_part Each r.openness && (place_in packages keys r == p)) (front_rows table chain) ≡ Some r
      → has_open_override classes m (alike_from classes m (Prog run)) ≡ false
      → selected classes (Prog run) m ≡ Some (member_at r)
  package_runs above r found closed =
      let ms : List MemberAt = alike_from classes m (Prog run) in
      let same : overrides_where classes m false ≡ test = λ i x. test_where x i in
      ap (λ b. cond b (first_instance classes (Prog run) (named_at classes m))
      (first (overriding_from classes (Prog run) m))) flags.1.0
      ∙ sym (first_found classes m ms false (alike_above classes m (Prog run) first_of ∙ above)
      (by (not (is_public_member classes m) && not (is_protected_member classes m)) (has_open_override classes m ms)
      closed))
      ∙ ap (λ (t : MemberAt → Bool). find t ms) same
      ∙ nearest_found classes table are row n is some
      (λ r. is_part Each r.openness && (place_in packages keys r == p)) test
      (placed_number classes table are packages keys names named row p place low) test_is test_instance
      (superclasses_from classes (Prog run)) there r found
    where
      by : (a b : Bool) → b ≡ false → false ≡ (a && b)
      by true b e = sym e
      by false b e = refl

-- ---- what is noted

module _ (classes : List Class) (table : List (List InstanceMethod)) (are : AreRows classes table) (places : Places)
    (have : HavePlaces classes table places) (run : ℕ)
    (there : All (IsClass classes) (superclasses_from classes (Prog run))) (row : InstanceMethod) (n : ℕ)
    (is : IsRow classes are.number n row) (some : 0 < row.number) (kind : row.openness ≡ Package)
    (p : ℕ) (place : place_in places.packages places.keys.items row ≡ p) (low : 0 < p) (stamp : ℕ) where
  abbrev noted_chain : List ClassId
  noted_chain = superclasses_from classes (Prog run)

  abbrev noted_rows : List InstanceMethod
  noted_rows = front_rows table noted_chain

  -- where the nearest method of the place is noted, and none opens it, that one runs
  pub noted_runs : is_class_below classes (Prog run) (Prog row.class) ≡ true → (placed : List Note)
      → AreNoted stamp (front_rows places.each noted_chain) placed
      → has_open_override classes (member_at row) (alike_from classes (member_at row) (Prog run)) ≡ false
      → (o : Option InstanceMethod) → noted stamp (slice_get placed p) ≡ o
      → IfSome o (λ found. (selected classes (Prog run) (member_at row) ≡ Some (member_at found))
      × HasItem classes found)
  noted_runs above placed each closed None e = tt
  noted_runs above placed each closed (Some found) e =
      by (find first noted_rows) refl
      (sym (part_found places.packages places.keys.items Each p low noted_rows)
      ∙ ap (λ (t : List InstanceMethod). find (λ r. r.number == p) t)
      (sym (front_part (part_row places.packages places.keys.items Each) table noted_chain)
      ∙ ap (λ (t : List (List InstanceMethod)). front_rows t noted_chain) (sym have.each))
      ∙ nearest_noted stamp (front_rows places.each noted_chain) placed p found each low e)
    where
      first : InstanceMethod → Bool
      first r = is_part Each r.openness && (place_in places.packages places.keys.items r == p)

      by : (o : Option InstanceMethod) → find first noted_rows ≡ o → option_map (λ r. with_number r p) o ≡ Some found
          → (selected classes (Prog run) (member_at row) ≡ Some (member_at found)) × HasItem classes found
      by None at h = absurd cc
      by (Some r) at h =
          let same : with_number r p ≡ found = same_Some _ _ h in (
            package_runs classes table are places.packages places.keys.items have.names have.packages run there row n is
                some kind p place low above r at closed
                ∙ ap (λ (y : InstanceMethod). Some (member_at y)) same,
            subst (HasItem classes) same (front_tested classes table are noted_chain there first r at).item,
          )

  abbrev noted_opening : InstanceMethod → Bool
  noted_opening r = is_part OfOpen r.openness && (place_in places.packages places.keys.items r == p)

  opening_found : (opening : List Note) → AreNoted stamp (front_rows places.opening noted_chain) opening
      → p < length opening
      → noted stamp (slice_get opening p) ≡ option_map (λ r. with_number r p) (find noted_opening noted_rows)
  opening_found opening open_are within =
      open_are p low within
      ∙ ap (λ (t : List InstanceMethod). find (λ r. r.number == p) t)
      (ap (λ (t : List (List InstanceMethod)). front_rows t noted_chain) have.opening
      ∙ front_part (part_row places.packages places.keys.items OfOpen) table noted_chain)
      ∙ part_found places.packages places.keys.items OfOpen p low noted_rows

  -- where no method of the place is noted that is open to all packages, none opens it
  pub noted_none : (opening : List Note) → AreNoted stamp (front_rows places.opening noted_chain) opening
      → p < length opening → noted stamp (slice_get opening p) ≡ None
      → has_open_override classes (member_at row) (alike_from classes (member_at row) (Prog run)) ≡ false
  noted_none opening open_are within none =
      none_opens classes table are places.packages places.keys.items have.names have.packages run there row n is some
      kind p place low (nothing (find noted_opening noted_rows) (sym (opening_found opening open_are within) ∙ none))
    where
      nothing : (o : Option InstanceMethod) → option_map (λ r. with_number r p) o ≡ None → o ≡ None
      nothing None h = refl
      nothing (Some r) h = absurd cc

  -- where one is, it opens it where it is nearer
  pub noted_opens : HasRanks classes → run < length classes → (opening : List Note)
      → AreNoted stamp (front_rows places.opening noted_chain) opening → p < length opening → (s : InstanceMethod)
      → noted stamp (slice_get opening p) ≡ Some s → (i j : ℕ) → slice_get noted_chain i ≡ Some (Prog s.class)
      → slice_get noted_chain j ≡ Some (Prog row.class)
      → has_open_override classes (member_at row) (alike_from classes (member_at row) (Prog run)) ≡ nat_lt i j
  noted_opens ranks run-in opening open_are within s noted_is i j at own =
      by (find noted_opening noted_rows) refl (sym (opening_found opening open_are within) ∙ noted_is)
    where
      either : (r : InstanceMethod) → find noted_opening noted_rows ≡ Some r
          → slice_get noted_chain i ≡ Some (Prog r.class) → (b : Bool) → nat_lt i j ≡ b
          → has_open_override classes (member_at row) (alike_from classes (member_at row) (Prog run)) ≡ b
      either r found here true e =
          before_opens classes table are places.packages places.keys.items have.names have.packages run there row n is
          some kind p place low r i j found here own (ltb-true i j e)
      either r found here false e =
          behind_opens classes table are places.packages places.keys.items have.names have.packages run there row n is
          some kind p place low ranks run-in r i j found here own (ltb-false i j e)

      by : (o : Option InstanceMethod) → find noted_opening noted_rows ≡ o
          → option_map (λ r. with_number r p) o ≡ Some s
          → has_open_override classes (member_at row) (alike_from classes (member_at row) (Prog run)) ≡ nat_lt i j
      by None found h = absurd cc
      by (Some r) found h =
          let same : with_number r p ≡ s = same_Some _ _ h in
          either r found (at ∙ ap (λ (y : InstanceMethod). Some (Prog y.class)) (sym same)) (nat_lt i j) refl
