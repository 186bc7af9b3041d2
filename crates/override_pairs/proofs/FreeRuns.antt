-- Which method runs where a private one is nearer than those that may override others.
use Rattle.std.proofs.Common.{◌≡◌, ℕ, ◌<◌, ◌==◌, ◌&&◌, ◌||◌, not, Bool, true, false, cond, List, [], ◌∷◌}
use Rattle.std.proofs.Common.{length, slice_get, Option, Some, None, refl, sym, ap, ◌∙◌}
use Rattle.std.specs.Prelude.{IfSome}
use Rattle.std.specs.List.{All, cons_option, filter_map, find}
use Rattle.std.proofs.lemmas.Bool.{eqb-true}
use Rattle.class_model.specs.declared.class.Class.{Class}
use Rattle.class_pool.specs.Found.{is_instance_method, is_private_member, same_member}
use Rattle.class_pool.specs.Hierarchy.{IsClass}
use Rattle.class_pool.specs.Resolution.{is_class_below, is_interface_in}
use Rattle.class_pool.specs.Selection.{may_override, selected}
use Rattle.class_pool.specs.Walk.{superclasses_from}
use Rattle.class_pool.specs.declared.id.ClassId.{ClassId}
use Rattle.class_pool.specs.declared.id.ClassId.TheVariants.{Prog}
use Rattle.class_pool.specs.declared.id.MemberAt.{MemberAt}
use Rattle.class_pool.proofs.Among.{member_is}
use Rattle.link_check.specs.bodies.Overriding.{alike_from, has_open_override}
use Rattle.method_places.specs.bodies.Alike.{AreRows, HasItem, IsRow, member_at}
use Rattle.method_places.specs.bodies.Nearest.{AreNoted, front_rows, is_overriding, noted}
use Rattle.method_places.specs.declared.methods.InstanceMethod.{InstanceMethod}
use Rattle.method_places.specs.declared.methods.Openness.TheVariants.{Open, Package}
use Rattle.method_places.specs.declared.nearest.Note.{Note}
use Rattle.method_places.proofs.InstanceRows.{front_tested}
use Rattle.method_places.proofs.Noting.{nearest_noted}
use Rattle.override_pairs.specs.bodies.Free.{HasFree, free_row, is_free, is_marked}
use Rattle.override_pairs.specs.bodies.Overriding.{overrides_openly}
use Rattle.override_pairs.specs.declared.free.Free.{Free}
use Rattle.override_pairs.proofs.OpenAbove.{open_row_selected, opened_selected}
use Rattle.override_pairs.proofs.PackageRows.{front_part, mapped_length, row_overrides}
use Rattle.override_pairs.proofs.PackageRuns.{found_passes, nearest_found}

second : (a b : Bool) → (a && b) ≡ true → b ≡ true
second true b e = e
second false b e = absurd cc

first_of : (a b : Bool) → (a && b) ≡ true → a ≡ true
first_of true b e = refl
first_of false b e = absurd cc

-- the first of them with a number
found_free : (hidden : List Bool) (n : ℕ) (rows : List InstanceMethod)
    → find (λ r. r.number == n) (filter_map (free_row hidden) rows)
    ≡ find (λ r. is_free hidden r && (r.number == n)) rows
found_free hidden n [] = refl
found_free hidden n (r ∷ rows) = by (is_free hidden r) (r.number == n) refl (found_free hidden n rows)
  where
    by : (b t : Bool) → (r.number == n) ≡ t
        → find (λ r. r.number == n) (filter_map (free_row hidden) rows)
        ≡ find (λ r. is_free hidden r && (r.number == n)) rows
        → find (λ r. r.number == n) (cons_option (cond b (Some r) None) (filter_map (free_row hidden) rows))
        ≡ cond (b && t) (Some r) (find (λ r. is_free hidden r && (r.number == n)) rows)
    by false t e rest = rest
    by true true e rest =
        ap (λ (b : Bool). cond b (Some r) (find (λ r. r.number == n) (filter_map (free_row hidden) rows))) e
    by true false e rest =
        ap (λ (b : Bool). cond b (Some r) (find (λ r. r.number == n) (filter_map (free_row hidden) rows))) e ∙ rest

-- each class has a list
pub free_count : (table : List (List InstanceMethod)) (free : Free) → HasFree table free
    → length free.rows ≡ length table
free_count table free have =
    ap (λ (t : List (List InstanceMethod)). length t) have
    ∙ mapped_length (filter_map (free_row free.hidden.items)) table

module _ (classes : List Class) (table : List (List InstanceMethod)) (are : AreRows classes table) (run : ℕ)
    (there : All (IsClass classes) (superclasses_from classes (Prog run))) (row : InstanceMethod) (n : ℕ)
    (is : IsRow classes are.number n row) (some : 0 < row.number) where
  abbrev m : MemberAt
  m = member_at row

  abbrev chain : List ClassId
  chain = superclasses_from classes (Prog run)

  -- the nearest row of them is the nearest method that may override others
  nearest_free : (hidden : List Bool) (r : InstanceMethod)
      → find (λ x. is_free hidden x && (x.number == row.number)) (front_rows table chain) ≡ Some r
      → find (may_override classes) (alike_from classes m (Prog run)) ≡ Some (member_at r)
  nearest_free hidden r found =
      nearest_found classes table are row n is some test (may_override classes)
      (λ x h. second (is_free hidden x) (x.number == row.number) h) same instance chain there r found
    where
      test : InstanceMethod → Bool
      test x = is_free hidden x && (x.number == row.number)

      marked : is_marked hidden row.number ≡ true
      marked =
          let passes = found_passes (λ x. is_free hidden x && (x.number == row.number)) (front_rows table chain) r found in
          ap (is_marked hidden) (sym (eqb-true r.number row.number
          (second (is_free hidden r) (r.number == row.number) passes)))
          ∙ second (is_overriding r.openness) (is_marked hidden r.number)
          (first_of (is_free hidden r) (r.number == row.number) passes)

      both : (o a b : Bool) → a ≡ true → b ≡ true → ((o && a) && b) ≡ o
      both true true true ea eb = refl
      both false true true ea eb = refl
      both o false b ea eb = absurd cc
      both o true false ea eb = absurd cc

      same : (o : ℕ) (x : InstanceMethod) → IsRow classes are.number o x → (x.number == row.number) ≡ true
          → (is_free hidden x && (x.number == row.number)) ≡ may_override classes (member_at x)
      same o x that alike =
          both (is_overriding x.openness) (is_marked hidden x.number) (x.number == row.number)
          (ap (is_marked hidden) (eqb-true x.number row.number alike) ∙ marked) alike
          ∙ row_overrides classes table are o x that

      instance : (y : MemberAt) → may_override classes y ≡ true → is_instance_method classes y ≡ true
      instance y h = by (is_instance_method classes y) (is_private_member classes y) (is_interface_in classes y.class) h
        where
          by : (a b c : Bool) → ((a && not b) && not c) ≡ true → a ≡ true
          by true b c h = refl
          by false b c h = absurd cc

  -- what is noted of them
  pub noted_free : (free : Free) → HasFree table free → (stamp : ℕ) (freed : List Note)
      → AreNoted stamp (front_rows free.rows chain) freed → (o : Option InstanceMethod)
      → noted stamp (slice_get freed row.number) ≡ o
      → IfSome o (λ found. (find (may_override classes) (alike_from classes m (Prog run)) ≡ Some (member_at found))
      × HasItem classes found)
  noted_free free have stamp freed are_noted None e = tt
  noted_free free have stamp freed are_noted (Some found) e =
      let at : find (λ x. is_free free.hidden.items x && (x.number == row.number)) (front_rows table chain)
      ≡ Some found =
      sym (found_free free.hidden.items row.number (front_rows table chain))
      ∙ ap (λ (t : List InstanceMethod). find (λ r. r.number == row.number) t)
      (sym (front_part (free_row free.hidden.items) table chain)
      ∙ ap (λ (t : List (List InstanceMethod)). front_rows t chain) (sym have))
      ∙ nearest_noted stamp (front_rows free.rows chain) freed row.number found are_noted some e in (
        nearest_free free.hidden.items found at,
        (front_tested classes table are chain there
            (λ x. is_free free.hidden.items x && (x.number == row.number)) found at).item,
      )

-- where one may override others, what is it or may override it may override others
pub openly_same : (classes : List Class) (m : MemberAt) → may_override classes m ≡ true
    → overrides_openly classes m ≡ may_override classes
openly_same classes m may = λ i x. each x i
  where
    by : (x : MemberAt) (s : Bool) → same_member x m ≡ s → (s || may_override classes x) ≡ may_override classes x
    by x false e = refl
    by x true e = sym (ap (may_override classes) (member_is x m e) ∙ may)

    each : (x : MemberAt) → (same_member x m || may_override classes x) ≡ may_override classes x
    each x = by x (same_member x m) refl

-- which one runs where one is called that those of all packages may override
pub free_open : (classes : List Class) (table : List (List InstanceMethod)) (are : AreRows classes table)
    (run : ℕ) (row : InstanceMethod) (n : ℕ) → IsRow classes are.number n row → 0 < row.number
    → row.openness ≡ Open → is_class_below classes (Prog run) (Prog row.class) ≡ true
    → selected classes (Prog run) (member_at row)
    ≡ find (may_override classes) (alike_from classes (member_at row) (Prog run))
free_open classes table are run row n is some kind above =
    open_row_selected classes table are run row n is some kind above
    ∙ ap (λ (t : MemberAt → Bool). find t (alike_from classes (member_at row) (Prog run)))
    (openly_same classes (member_at row) (sym (row_overrides classes table are n row is) ∙ ap is_overriding kind))

-- the same of one that is opened to all packages
pub free_opened : (classes : List Class) (table : List (List InstanceMethod)) (are : AreRows classes table)
    (run : ℕ) (row : InstanceMethod) (n : ℕ) → IsRow classes are.number n row → 0 < row.number
    → row.openness ≡ Package → is_class_below classes (Prog run) (Prog row.class) ≡ true
    → has_open_override classes (member_at row) (alike_from classes (member_at row) (Prog run)) ≡ true
    → selected classes (Prog run) (member_at row)
    ≡ find (may_override classes) (alike_from classes (member_at row) (Prog run))
free_opened classes table are run row n is some kind above opened =
    opened_selected classes table are run row n is some kind above opened
    ∙ ap (λ (t : MemberAt → Bool). find t (alike_from classes (member_at row) (Prog run)))
    (openly_same classes (member_at row) (sym (row_overrides classes table are n row is) ∙ ap is_overriding kind))

-- ---- what holds of a result

pub firsts : (P Q : InstanceMethod → Type 0) (o : Option InstanceMethod) → IfSome o (λ x. P x × Q x) → IfSome o P
firsts P Q None h = h
firsts P Q (Some x) h = h.0

pub seconds : (P Q : InstanceMethod → Type 0) (o : Option InstanceMethod) → IfSome o (λ x. P x × Q x) → IfSome o Q
seconds P Q None h = h
seconds P Q (Some x) h = h.1

-- what is found by two tests alike
pub found_so : (one other : Option MemberAt) (o : Option InstanceMethod) → one ≡ other
    → IfSome o (λ found. other ≡ Some (member_at found)) → IfSome o (λ found. one ≡ Some (member_at found))
found_so one other None same h = h
found_so one other (Some x) same h = same ∙ h
