-- What a call selects on an object in a set that is taken is a method with a code, one of the library with a row, or
-- none (JVMS 5.4.5, 6.5).
use Rattle.std.proofs.Common.{◌≡◌, ◌<◌, ◌+◌, ◌&&◌, ◌||◌, ℕ, not, Bool, true}
use Rattle.std.proofs.Common.{false, cond, List, [], ◌∷◌, length, Option, Some, None, refl, sym, ap}
use Rattle.std.proofs.Common.{subst, ◌∙◌, arith}
use Rattle.std.specs.Prelude.{IfSome}
use Rattle.std.specs.List.{AllByRecursion, cons_option, list_all, list_any}
use Rattle.std.specs.Option.{option_map, option_map_or}
use Rattle.std.proofs.lemmas.Bool.{and_from, and_parts}
use Rattle.jv_base.specs.Names.{is_text}
use Rattle.jv_base.proofs.Equality.{text_is}
use Rattle.jv_base.proofs.Lists.{all_at, all_weaker, any_at}
use Rattle.class_model.specs.declared.class.Class.{Class}
use Rattle.lib_table.specs.Library.{LibraryMember, library}
use Rattle.lib_table.specs.Lookups as table
use Rattle.class_pool.specs.Found.{NameAndType, declared_by, declared_in}
use Rattle.class_pool.specs.Found.{is_instance_method}
use Rattle.class_pool.specs.Found.{named_at, same_member}
use Rattle.class_pool.specs.Hierarchy.{IsClass, is_interface_kind, superclass}
use Rattle.class_pool.specs.Members.{declared_at}
use Rattle.class_pool.specs.Resolution.{first, is_class_below}
use Rattle.class_pool.specs.Selection.{first_instance, may_be_overridden, may_override, overriding, overriding_from}
use Rattle.class_pool.specs.Walk.{superclasses_from, upwards}
use Rattle.class_pool.specs.bodies.Graph.{library_ids}
use Rattle.class_pool.specs.declared.id.ClassId.{ClassId}
use Rattle.class_pool.specs.declared.id.ClassId.TheVariants.{Lib}
use Rattle.class_pool.specs.declared.id.MemberAt.{MemberAt}
use Rattle.class_pool.proofs.Among.{member_is}
use Rattle.class_pool.proofs.LikeMethods.{all_at as passes_at}
use Rattle.class_pool.proofs.ObjectLaws.{at_row}
use Rattle.link_check.specs.Links.{is_callable_role}
use Rattle.image_laws.specs.TakenSet.TakenSet.{IsTaken}
use Rattle.image_laws.proofs.ViewImage.Standing.{Stands}
use Rattle.fit_laws.proofs.Lists.{found_in}
use Rattle.fit_laws.proofs.NewArrays.{range_at}
use Rattle.type_sound.proofs.Chains.{below_itself, below_super}
use Rattle.type_sound.proofs.Chains.{below_trans, climb, next, super_there}
use Rattle.type_sound.proofs.RowTable.{InTable, is_row_below}
use Rattle.type_sound.proofs.RowTable.{row_below_back}

-- ---- what is computed of the library

-- two members have one name and one descriptor
abbrev same_named : LibraryMember → LibraryMember → Bool
same_named e f = is_text e.name f.name && is_text e.descriptor f.descriptor

-- a member that may be called and has the name of another one
abbrev is_called_like : LibraryMember → LibraryMember → Bool
is_called_like e f = f.is_method && is_callable_role f.role && same_named e f

-- what has the name of a method above it that may be called may be called too
abbrev is_right_over : ℕ → LibraryMember → Bool
is_right_over id e = is_callable_role e.role
    || not (list_any (λ k. is_row_below id k && list_any (is_called_like e) (table.class_at k).members) library_ids)

rows_over : list_all (λ id. list_all (is_right_over id) (table.class_at id).members) library_ids ≡ true
unfolding library upwards
rows_over = refl

-- no member of a class has the name of a method of an interface that may be called
abbrev is_apart : ℕ → LibraryMember → Bool
is_apart id e = is_interface_kind (table.class_at id).kind
    || not (list_any (λ k. is_interface_kind (table.class_at k).kind
    && list_any (is_called_like e) (table.class_at k).members) library_ids)

rows_apart : list_all (λ id. list_all (is_apart id) (table.class_at id).members) library_ids ≡ true
unfolding library
rows_apart = refl

second : (a b : Bool) → a ≡ false → (a || b) ≡ true → b ≡ true
second true b e h = absurd cc
second false b e h = h

not_both : (b : Bool) → not b ≡ true → b ≡ true → ⊥
not_both true e h = cc
not_both false e h = cc

-- ---- chains of declared methods

module _ (classes : List Class) (t : IsTaken classes) where
  abbrev Below : ClassId → ClassId → Type 0
  Below x y = is_class_below classes x y ≡ true

  -- the methods of a name from a class upwards
  abbrev pub line : NameAndType → ClassId → List MemberAt
  line n x = declared_by classes n (superclasses_from classes x)

  abbrev rest : NameAndType → Option ClassId → List MemberAt
  rest n o = declared_by classes n (option_map_or (superclasses_from classes) o [])

  pub line_next : (n : NameAndType) (x : ClassId) → IsClass classes x
      → line n x ≡ cons_option (declared_in classes n x) (rest n (superclass classes x))
  line_next n x there = ap (declared_by classes n) (next classes t x there)

  pub declared_class : (n : NameAndType) (c : ClassId) (m : MemberAt) → declared_in classes n c ≡ Some m → m.class ≡ c
  declared_class n c m = by (declared_at classes c n.0 n.1) where
    by : (o : Option ℕ) → option_map (λ k. record { class = c; index = k }) o ≡ Some m → m.class ≡ c
    by None e = absurd cc
    by (Some k) e = let same : record { class = c; index = k } ≡ m = cc in
        sym (ap (λ (z : MemberAt). z.class) same)

  -- what holds of what each class on the chain declares holds of each method of the line
  line_all : (n : NameAndType) (P : ClassId → MemberAt → Type 0)
      → ((x : ClassId) (m : MemberAt) → declared_in classes n x ≡ Some m → P x m)
      → ((x s : ClassId) (m : MemberAt) → IsClass classes x → superclass classes x ≡ Some s → P s m → P x m)
      → (x : ClassId) → IsClass classes x → AllByRecursion (P x) (line n x)
  line_all n P here up x there = climb classes t (λ y. AllByRecursion (P y) (line n y)) step x there where
    others : (y : ClassId) → IsClass classes y
        → ((s : ClassId) → superclass classes y ≡ Some s → AllByRecursion (P s) (line n s)) → (o : Option ClassId)
        → superclass classes y ≡ o → AllByRecursion (P y) (rest n o)
    others y y_there f None e = tt
    others y y_there f (Some s) e = all_weaker (P s) (P y) (λ m p. up y s m y_there e p) (line n s) (f s e)

    own : (y : ClassId) (ms : List MemberAt) → AllByRecursion (P y) ms → (o : Option MemberAt)
        → declared_in classes n y ≡ o → AllByRecursion (P y) (cons_option o ms)
    own y ms h None e = h
    own y ms h (Some m) e = (here y m e, h)

    step : (y : ClassId) → IsClass classes y
        → ((s : ClassId) → superclass classes y ≡ Some s → AllByRecursion (P s) (line n s))
        → AllByRecursion (P y) (line n y)
    step y y_there f = subst (λ ms. AllByRecursion (P y) ms) (sym (line_next n y y_there))
        (own y (rest n (superclass classes y)) (others y y_there f (superclass classes y) refl)
        (declared_in classes n y) refl)

  -- a method of the line is declared by a class above
  pub record IsOn (n : NameAndType) (x : ClassId) (m : MemberAt) : Type 0 where
    pub above : is_class_below classes x m.class ≡ true
    pub stands : Stands classes n m

  pub line_on : (n : NameAndType) (x : ClassId) → IsClass classes x → AllByRecursion (IsOn n x) (line n x)
  line_on n x there = line_all n (IsOn n) here up x there where
    here : (y : ClassId) (m : MemberAt) → declared_in classes n y ≡ Some m → IsOn n y m
    here y m e =
        let same = declared_class n y m e in
        record {
          above = subst (λ z. is_class_below classes y z ≡ true) (sym same) (below_itself classes t y);
          stands = subst (λ z. declared_in classes n z ≡ Some m) (sym same) e;
        }

    up : (y s : ClassId) (m : MemberAt) → IsClass classes y → superclass classes y ≡ Some s → IsOn n s m → IsOn n y m
    up y s m there e h = record { above = below_super classes t y s m.class there e h.above; stands = h.stands }

  -- ---- what overrides a method is below it

  -- a method that was selected: declared above, at or below a method, and an instance method
  pub record IsOver (n : NameAndType) (m : MemberAt) (x : ClassId) (s : MemberAt) : Type 0 where
    pub on : IsOn n x s
    pub below : is_class_below classes s.class m.class ≡ true
    pub instance : is_instance_method classes s ≡ true

  overriding_below : (n : NameAndType) (m : MemberAt) → is_instance_method classes m ≡ true → (x : ClassId)
      → IsClass classes x → AllByRecursion (IsOver n m x) (overriding classes m (line n x))
  overriding_below n m instance x there = climb classes t
      (λ y. AllByRecursion (IsOver n m y) (overriding classes m (line n y))) step x there
    where
      first_below : (y s : ClassId) (ms : List MemberAt) → superclass classes y ≡ Some s → IsClass classes y
          → AllByRecursion (IsOver n m s) ms → list_any (may_be_overridden classes y) ms ≡ true → Below y m.class
      first_below y s [] e there h k = absurd cc
      first_below y s (z ∷ ms) e there h k = below_super classes t y s m.class there e
          (below_trans classes t s z.class m.class (super_there classes t y s there e) h.0.on.above h.0.below)

      others : (y : ClassId) → IsClass classes y
          → ((s : ClassId) → superclass classes y ≡ Some s
          → AllByRecursion (IsOver n m s) (overriding classes m (line n s)))
          → (o : Option ClassId) → superclass classes y ≡ o
          → AllByRecursion (IsOver n m y) (overriding classes m (rest n o))
          × (list_any (may_be_overridden classes y) (overriding classes m (rest n o)) ≡ true → Below y m.class)
      others y y_there f None e = (tt, λ k. absurd cc)
      others y y_there f (Some s) e = (
        all_weaker (IsOver n m s) (IsOver n m y)
            (λ z p. record {
              on = record { above = below_super classes t y s z.class y_there e p.on.above; stands = p.on.stands };
              below = p.below;
              instance = p.instance;
            })
            (overriding classes m (line n s)) (f s e),
        first_below y s (overriding classes m (line n s)) e y_there (f s e),
      )

      own : (y : ClassId) (ms : List MemberAt) → AllByRecursion (IsOver n m y) (overriding classes m ms)
          → (list_any (may_be_overridden classes y) (overriding classes m ms) ≡ true → Below y m.class)
          → (o : Option MemberAt) → declared_in classes n y ≡ o
          → AllByRecursion (IsOver n m y) (overriding classes m (cons_option o ms))
      own y ms h k None e = h
      own y ms h k (Some z) e = by
          (same_member z m || (may_override classes z && list_any (may_be_overridden classes z.class)
          (overriding classes m ms))) refl
        where
          on : IsOn n y z
          on = record {
            above = subst (λ c. is_class_below classes y c ≡ true) (sym (declared_class n y z e))
                (below_itself classes t y);
            stands = subst (λ c. declared_in classes n c ≡ Some z) (sym (declared_class n y z e)) e;
          }

          z_instance : (same_member z m ≡ true → is_instance_method classes z ≡ true)
              × (may_override classes z ≡ true → is_instance_method classes z ≡ true)
          z_instance = (
            λ s. subst (λ v. is_instance_method classes v ≡ true) (sym (member_is z m s)) instance,
            λ s. (and_parts (is_instance_method classes z) _ (and_parts _ _ s).0).0,
          )

          is_one : (a b c : Bool) → (a ≡ true → is_instance_method classes z ≡ true)
              × (b ≡ true → is_instance_method classes z ≡ true) → (a || (b && c)) ≡ true
              → is_instance_method classes z ≡ true
          is_one true b c f q = f.0 refl
          is_one false true c f q = f.1 refl
          is_one false false c f q = absurd cc

          low : (a b c : Bool) → (a ≡ true → Below z.class m.class) → (c ≡ true → Below z.class m.class)
              → (a || (b && c)) ≡ true → Below z.class m.class
          low true b c f g q = f refl
          low false true true f g q = g refl
          low false true false f g q = absurd cc
          low false false c f g q = absurd cc

          by : (b : Bool) → (same_member z m || (may_override classes z
              && list_any (may_be_overridden classes z.class) (overriding classes m ms))) ≡ b
              → AllByRecursion (IsOver n m y) (cond b (z ∷ overriding classes m ms) (overriding classes m ms))
          by false q = h
          by true q = (
            record {
              on = on;
              instance = is_one (same_member z m) (may_override classes z) _ z_instance q;
              below = low (same_member z m) (may_override classes z)
                  (list_any (may_be_overridden classes z.class) (overriding classes m ms))
                  (λ s. subst (λ (v : MemberAt). Below v.class m.class) (sym (member_is z m s))
                  (below_itself classes t m.class))
                  (λ s. subst (λ c. Below c m.class) (sym (declared_class n y z e))
                  (k (subst (λ c. list_any (may_be_overridden classes c) (overriding classes m ms) ≡ true)
                  (declared_class n y z e) s)))
                  q;
            },
            h,
          )

      step : (y : ClassId) → IsClass classes y
          → ((s : ClassId) → superclass classes y ≡ Some s
          → AllByRecursion (IsOver n m s) (overriding classes m (line n s)))
          → AllByRecursion (IsOver n m y) (overriding classes m (line n y))
      step y y_there f =
          let r = others y y_there f (superclass classes y) refl in
          subst (λ ms. AllByRecursion (IsOver n m y) (overriding classes m ms)) (sym (line_next n y y_there))
          (own y (rest n (superclass classes y)) r.0 r.1 (declared_in classes n y) refl)

  pub first_over : (m : MemberAt) → is_instance_method classes m ≡ true → (x : ClassId) → IsClass classes x
      → IfSome (first (overriding_from classes x m)) (IsOver (named_at classes m) m x)
  first_over m instance x there =
      by (overriding_from classes x m) (overriding_below (named_at classes m) m instance x there)
    where
      by : (ms : List MemberAt) → AllByRecursion (IsOver (named_at classes m) m x) ms
          → IfSome (first ms) (IsOver (named_at classes m) m x)
      by [] h = tt
      by (s ∷ ms) h = h.0

  -- the first instance method of a line
  pub record IsFirst (n : NameAndType) (x : ClassId) (s : MemberAt) : Type 0 where
    pub on : IsOn n x s
    pub instance : is_instance_method classes s ≡ true

  pub first_is : (n : NameAndType) (x : ClassId) → IsClass classes x → (s : MemberAt)
      → first_instance classes x n ≡ Some s → IsFirst n x s
  first_is n x there s e =
      let p = found_in (is_instance_method classes) (line n x) s e in
      record { on = all_at (IsOn n x) (line n x) p.0 s (line_on n x there) p.1; instance = p.2 }

  -- ---- methods of the library that are selected may be called

  abbrev lib : ℕ → ℕ → MemberAt
  lib id k = record { class = Lib id; index = k }

  -- what holds of each class of the table and each of its members
  pub at_member : (p : ℕ → LibraryMember → Bool)
      → list_all (λ id. list_all (p id) (table.class_at id).members) library_ids ≡ true → (id k : ℕ)
      → id < length library → (e : InTable id k) → p id e.member ≡ true
  at_member p all id k low e = passes_at (p id) (table.class_at id).members k e.member
      (at_row (λ j. list_all (p j) (table.class_at j).members) id all low) e.there

  some_row : (p : ℕ → Bool) (id : ℕ) → id < length library → p id ≡ true → list_any p library_ids ≡ true
  some_row p id low h = any_at p library_ids id id
      (range_at 0 (length library) id low ∙ ap (λ (n : ℕ). Some n) (plain id)) h
    where
      plain : (n : ℕ) → 0 + n ≡ n
      plain n = omega arith

  alike : (e f : LibraryMember) → (n : NameAndType) → n ≡ (e.name, e.descriptor) → n ≡ (f.name, f.descriptor)
      → same_named e f ≡ true
  alike e f n p q =
      let r = sym p ∙ q in
      and_from (is_text e.name f.name) (is_text e.descriptor f.descriptor)
      (text_is e.name f.name (ap (λ (x : NameAndType). x.0) r))
      (text_is e.descriptor f.descriptor (ap (λ (x : NameAndType). x.1) r))

  called_like : (e : LibraryMember) (j k : ℕ) (f : InTable j k) → f.member.is_method ≡ true
      → is_callable_role f.member.role ≡ true → same_named e f.member ≡ true
      → list_any (is_called_like e) (table.class_at j).members ≡ true
  called_like e j k f method callable same = any_at (is_called_like e) (table.class_at j).members k f.member f.there
      (and_from (f.member.is_method && is_callable_role f.member.role) (same_named e f.member)
      (and_from f.member.is_method (is_callable_role f.member.role) method callable) same)

  -- what is below a method that may be called
  pub callable_over : (id k : ℕ) (e : InTable id k) → id < length library → (j l : ℕ) (f : InTable j l)
      → j < length library → is_class_below classes (Lib id) (Lib j) ≡ true → f.member.is_method ≡ true
      → is_callable_role f.member.role ≡ true → (n : NameAndType) → n ≡ (e.member.name, e.member.descriptor)
      → n ≡ (f.member.name, f.member.descriptor) → is_callable_role e.member.role ≡ true
  callable_over id k e low j l f under below method callable n p q = by (is_callable_role e.member.role) refl
      (at_member is_right_over rows_over id k low e)
    where
      there : list_any (λ i. is_row_below id i && list_any (is_called_like e.member) (table.class_at i).members)
          library_ids
          ≡ true
      there = some_row (λ i. is_row_below id i && list_any (is_called_like e.member) (table.class_at i).members) j under
          (and_from (is_row_below id j) (list_any (is_called_like e.member) (table.class_at j).members)
          (row_below_back classes id j below)
          (called_like e.member j l f method callable (alike e.member f.member n p q)))

      by : (b : Bool) → is_callable_role e.member.role ≡ b → is_right_over id e.member ≡ true → b ≡ true
      by true r h = refl
      by false r h = absurd (not_both _ (second (is_callable_role e.member.role) _ r h) there)

  -- none has the name of a method of an interface that may be called
  pub never_apart : (id k : ℕ) (e : InTable id k) → id < length library
      → is_interface_kind (table.class_at id).kind ≡ false → (j l : ℕ) (f : InTable j l) → j < length library
      → is_interface_kind (table.class_at j).kind ≡ true → f.member.is_method ≡ true
      → is_callable_role f.member.role ≡ true → (n : NameAndType) → n ≡ (e.member.name, e.member.descriptor)
      → n ≡ (f.member.name, f.member.descriptor) → ⊥
  never_apart id k e low class j l f under interface method callable n p q = not_both _
      (second (is_interface_kind (table.class_at id).kind) _ class (at_member is_apart rows_apart id k low e))
      (some_row (λ i. is_interface_kind (table.class_at i).kind
      && list_any (is_called_like e.member) (table.class_at i).members) j under
      (and_from (is_interface_kind (table.class_at j).kind)
      (list_any (is_called_like e.member) (table.class_at j).members)
      interface (called_like e.member j l f method callable (alike e.member f.member n p q))))
