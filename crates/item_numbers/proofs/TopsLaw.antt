-- A class without instance methods and superinterfaces of its own has the methods run that its superclass does.
use Rattle.std.proofs.Common.{◌≡◌, ℕ, ◌<◌, ◌≤◌, ◌&&◌, ◌||◌, Bool, true, false, cond, not, List, [], ◌∷◌, ◌++◌}
use Rattle.std.proofs.Common.{◌-◌, lit<, length, map, Option, Some, None, IfSome, refl, sym, ap, subst, ◌∙◌, arith}
use Rattle.std.specs.Prelude.{if◌then◌else◌}
use Rattle.std.specs.List.{cons_option, enumerate_from, filter, filter_map, find, flat_map, list_any}
use Rattle.std.specs.Option.{option_and_then, option_map, option_map_or}
use Rattle.std.proofs.lemmas.Option.{same_Some}
use Rattle.std.proofs.lemmas.Bool.{and_parts}
use Rattle.std.proofs.Math.Bool.{and-false}
use Rattle.mark_core.specs.declared.system.Pair.{Pair}
use Rattle.class_model.specs.declared.class.Class.{Class}
use Rattle.class_pool.specs.Found.{MemberRow, NameAndType, declared_by, declared_in, is_instance_method, named_at}
use Rattle.class_pool.specs.Found.{is_private_member, rows_in, same_member}
use Rattle.class_pool.specs.Hierarchy.{superclass}
use Rattle.class_pool.specs.Ranks.{HasRanks}
use Rattle.class_pool.specs.Resolution.{first, is_interface_in}
use Rattle.class_pool.specs.Selection.{first_instance, may_be_overridden, may_override, overriding, overriding_from}
use Rattle.class_pool.specs.Selection.{selected}
use Rattle.class_pool.specs.Supers.{is_below}
use Rattle.class_pool.specs.Walk.{each_once, highest, own_superinterfaces, same_class, superclasses_from}
use Rattle.class_pool.specs.Walk.{superinterfaces, upwards}
use Rattle.class_pool.specs.declared.id.ClassId.{ClassId}
use Rattle.class_pool.specs.declared.id.ClassId.TheVariants.{Prog}
use Rattle.class_pool.specs.declared.id.MemberAt.{MemberAt}
use Rattle.class_pool.proofs.Among.{member_is, member_itself}
use Rattle.lib_table.proofs.Computed.{count}
use Rattle.class_pool.proofs.EachOnce.{same_is, same_itself}
use Rattle.class_pool.proofs.Walking.{superclasses_next}
use Rattle.link_check.specs.bodies.Overriding.{alike_from}
use Rattle.class_pool.proofs.Climbing.{upwards_step}
use Rattle.link_check.proofs.OverridingLaws.{alike_none, declared_class, first_none}
use Rattle.require_sys.specs.Requires.{OfMember, instance_methods, is_inheritable, library_supers, members_of}
use Rattle.require_sys.specs.Requires.{class_number, methods_above, pair_from, pair_of, program_supers}
use Rattle.class_pool.specs.Items.{item_of}
use Rattle.item_numbers.specs.bodies.Selecting.{called_item, pair_with, pairs_in}
use Rattle.item_numbers.specs.bodies.Supers.{is_library}
use Rattle.item_numbers.specs.bodies.Tops.{HasNoMethod, IsBlank, IsLibraryTop, IsTop}
use Rattle.item_numbers.proofs.Meeting.{library_once}
use Rattle.item_numbers.proofs.SupersLaw.{flat_filtered, flat_of}

-- ---- lists

-- two functions that agree where a test passes
same_mapped : {X Y : Type 0} (f g : X → Option Y) (q : X → Bool) (xs : List X) → ((x : X) → q x ≡ true → f x ≡ g x)
    → filter_map f (filter q xs) ≡ filter_map g (filter q xs)
same_mapped f g q [] h = refl
same_mapped f g q (x ∷ xs) h = by (q x) refl (same_mapped f g q xs h)
  where
    by : (b : Bool) → q x ≡ b → filter_map f (filter q xs) ≡ filter_map g (filter q xs)
        → filter_map f (cond b (x ∷ filter q xs) (filter q xs)) ≡ filter_map g (cond b (x ∷ filter q xs) (filter q xs))
    by true e rest =
        ap (λ o. cons_option o (filter_map f (filter q xs))) (h x e)
        ∙ ap (λ t. cons_option (g x) t) rest
    by false e rest = rest

-- nothing comes of the members of a class
none_passed : (f : MemberAt → Option Pair) (q : MemberAt → Bool) (x : ClassId) (es : List (ℕ × MemberRow))
    → ((k : ℕ) → q (record { class = x; index = k }) ≡ false)
    → filter_map f (filter q (map (λ p. record { class = x; index = p.0 }) es)) ≡ []
none_passed f q x [] h = refl
none_passed f q x (e ∷ es) h =
    ap (λ b. filter_map f (cond b (record { class = x; index = e.0 }
    ∷ filter q (map (λ p. record { class = x; index = p.0 }) es))
    (filter q (map (λ p. record { class = x; index = p.0 }) es)))) (h e.0)
    ∙ none_passed f q x es h

none_mapped : (f : MemberAt → Option Pair) (q : MemberAt → Bool) (x : ClassId) (es : List (ℕ × MemberRow))
    → ((k : ℕ) → f (record { class = x; index = k }) ≡ None)
    → filter_map f (filter q (map (λ p. record { class = x; index = p.0 }) es)) ≡ []
none_mapped f q x [] h = refl
none_mapped f q x (e ∷ es) h = by (q here) (none_mapped f q x es h)
  where
    here : MemberAt
    here = record { class = x; index = e.0 }

    rest : List MemberAt
    rest = filter q (map (λ p. record { class = x; index = p.0 }) es)

    by : (b : Bool) → filter_map f rest ≡ [] → filter_map f (cond b (here ∷ rest) rest) ≡ []
    by true none = ap (λ o. cons_option o (filter_map f rest)) (h e.0) ∙ none
    by false none = none

-- ---- a class without instance methods, and its superclass

module _ (classes : List Class) (r : HasRanks classes) (n p : ℕ) (few : length classes ≤ 4294967295)
    (n-in : n < length classes) (super : superclass classes (Prog n) ≡ Some (Prog p)) where
  chain_up : superclasses_from classes (Prog n) ≡ Prog n ∷ superclasses_from classes (Prog p)
  chain_up =
      let most = r.most (Prog n) n-in in
      superclasses_next classes r.rank (Prog n) r.falls n-in (omega (arith, count, most, few))
      ∙ ap (λ o. Prog n ∷ option_map_or (superclasses_from classes) o []) super

  module _ (methods : HasNoMethod classes n) where
    -- the class declares no instance method
    own_not : (named : NameAndType) (o : Option MemberAt) → declared_in classes named (Prog n) ≡ o
        → IfSome o (λ x. is_instance_method classes x ≡ false)
    own_not named None is = tt
    own_not named (Some x) is =
        ap (λ c. is_instance_method classes (record { class = c; index = x.index }))
        (declared_class classes named (Prog n) x is)
        ∙ methods x.index

    find_later : (o : Option MemberAt) (ms : List MemberAt) → IfSome o (λ x. is_instance_method classes x ≡ false)
        → find (is_instance_method classes) (cons_option o ms) ≡ find (is_instance_method classes) ms
    find_later None ms none = refl
    find_later (Some x) ms none = ap (λ b. cond b (Some x) (find (is_instance_method classes) ms)) none

    differs : (x m : MemberAt) (b : Bool) → same_member x m ≡ b → is_instance_method classes x ≡ false
        → is_instance_method classes m ≡ true → same_member x m ≡ false
    differs x m true same one other =
        absurd (let h = sym one ∙ ap (is_instance_method classes) (member_is x m same) ∙ other in cc)
    differs x m false same one other = same

    overriding_later : (m : MemberAt) (o : Option MemberAt) (ms : List MemberAt) → is_instance_method classes m ≡ true
        → IfSome o (λ x. is_instance_method classes x ≡ false)
        → overriding classes m (cons_option o ms) ≡ overriding classes m ms
    overriding_later m None ms one none = refl
    overriding_later m (Some x) ms one none =
        let over : List MemberAt = overriding classes m ms in
        let any : Bool = list_any (may_be_overridden classes x.class) over in
        ap (λ b. if b || (may_override classes x && any) then x ∷ over else over) (differs x m _ refl none one)
        ∙ ap (λ b. if (b && not (is_private_member classes x) && not (is_interface_in classes x.class)) && any
        then x ∷ over else over) none

    bare_selected : (m : MemberAt) → is_instance_method classes m ≡ true
        → selected classes (Prog n) m ≡ selected classes (Prog p) m
    bare_selected m one =
        let named : NameAndType = named_at classes m in
        let own : Option MemberAt = declared_in classes named (Prog n) in
        let none = own_not named own refl in
        let rest : List MemberAt = declared_by classes named (superclasses_from classes (Prog p)) in
        let interface : first_instance classes (Prog n) named ≡ first_instance classes (Prog p) named =
        ap (λ cs. find (is_instance_method classes) (declared_by classes named cs)) chain_up
        ∙ find_later own rest none in
        let class : first (overriding_from classes (Prog n) m) ≡ first (overriding_from classes (Prog p) m) =
        ap (λ cs. first (overriding classes m (declared_by classes named cs))) chain_up
        ∙ ap first (overriding_later m own rest one none) in
        λ i. if is_interface_in classes m.class then interface i else class i

-- ---- a class without superinterfaces of its own

module _ (classes : List Class) (r : HasRanks classes) (n p : ℕ) (few : length classes ≤ 4294967295)
    (n-in : n < length classes) (super : superclass classes (Prog n) ≡ Some (Prog p))
    (own : own_superinterfaces classes (Prog n) ≡ []) where
  same_libraries : library_supers classes (Prog n) ≡ library_supers classes (Prog p)
  same_libraries =
      library_once classes n
      ∙ ap (λ cs. each_once [] (filter is_library (cs ++ flat_map (own_superinterfaces classes) cs)))
      (chain_up classes r n p few n-in super)
      ∙ ap (λ t. each_once [] (filter is_library (superclasses_from classes (Prog p)
      ++ (t ++ superinterfaces classes (Prog p))))) own
      ∙ sym (library_once classes p)

  pub library_top_up : (t : ℕ) → IsLibraryTop classes p t → IsLibraryTop classes n t
  library_top_up t top = record { there = top.there; same = same_libraries ∙ top.same }

-- ---- one without instance methods and without superinterfaces of its own

module _ (classes : List Class) (r : HasRanks classes) (n p : ℕ) (few : length classes ≤ 4294967295)
    (n-in : n < length classes) (super : superclass classes (Prog n) ≡ Some (Prog p)) (blank : IsBlank classes n p)
  where
    up : superclasses_from classes (Prog n) ≡ Prog n ∷ superclasses_from classes (Prog p)
    up = chain_up classes r n p few n-in super

    selected_up : (m : MemberAt) → is_instance_method classes m ≡ true
        → selected classes (Prog n) m ≡ selected classes (Prog p) m
    selected_up = bare_selected classes r n p few n-in super blank.methods

    -- ---- where the library calls

    libraries : library_supers classes (Prog n) ≡ library_supers classes (Prog p)
    libraries = same_libraries classes r n p few n-in super blank.own

    called : filter_map (called_item classes n) (instance_methods classes (library_supers classes (Prog n)))
        ≡ filter_map (called_item classes p) (instance_methods classes (library_supers classes (Prog p)))
    called =
        ap (λ xs. filter_map (called_item classes n) (instance_methods classes xs)) libraries
        ∙ same_mapped (called_item classes n) (called_item classes p) (is_instance_method classes)
        (flat_map (members_of classes) (library_supers classes (Prog p)))
        (λ m e. ap (option_map OfMember) (selected_up m e))

    -- ---- where methods of the program are called

    module _ (own : ℕ) where
      in_same : (y : ClassId) → pairs_in classes own n y ≡ pairs_in classes own p y
      in_same y =
          same_mapped (pair_with classes own n) (pair_with classes own p) (is_inheritable classes)
          (members_of classes y)
          (λ m e. ap (option_and_then (pair_of classes (Prog own) m))
          (selected_up m (and_parts (is_instance_method classes m) (not (is_private_member classes m)) e).0))

      -- the class has no method that could be inherited
      of_itself : (x : ℕ) → pairs_in classes own x (Prog n) ≡ []
      of_itself x =
          none_passed (pair_with classes own x) (is_inheritable classes) (Prog n)
          (enumerate_from 0 (rows_in classes (Prog n)))
          (λ k. ap (λ b. b && not (is_private_member classes (record { class = Prog n; index = k }))) (blank.methods k))

      none_of : (m : MemberAt) (o : Option MemberAt) → IfSome o (λ s. same_member s m ≡ true)
          → option_and_then (pair_of classes (Prog own) m) o ≡ None
      none_of m None h = refl
      none_of m (Some s) h =
          ap (λ b. if b then None else pair_from classes (class_number classes (Prog own)) (item_of classes m)
          (item_of classes s)) h

      -- where a method of the superclass is called on its own objects, no other one runs
      first_is : (m x : MemberAt) (ms : List MemberAt) → same_member x m ≡ true
          → IfSome (first (overriding classes m (x ∷ ms))) (λ s. same_member s m ≡ true)
      first_is m x ms same =
          let over : List MemberAt = overriding classes m ms in
          let any : Bool = list_any (may_be_overridden classes x.class) over in
          subst (λ (b : Bool). IfSome (first (if b || (may_override classes x && any) then x ∷ over else over))
          (λ s. same_member s m ≡ true)) (sym same) same

      none_runs : (m : MemberAt) → (declared_in classes (named_at classes m) m.class ≡ Some m → ⊥)
          → IfSome (first (overriding_from classes (Prog p) m)) (λ s. same_member s m ≡ true)
      none_runs m other =
          subst (λ (o : Option MemberAt). IfSome o (λ s. same_member s m ≡ true))
          (first_none classes m (alike_from classes m (Prog p)) (sym (alike_none classes m (Prog p) other))) tt

      abbrev rest_up : NameAndType → List MemberAt
      rest_up named = declared_by classes named (option_map_or (upwards (highest - 1) classes)
          (superclass classes (Prog p)) [])

      runs_first : (m : MemberAt) (o : Option MemberAt) (b : Bool) → m.class ≡ Prog p
          → declared_in classes (named_at classes m) (Prog p) ≡ o
          → option_map_or (λ x. same_member x m) o false ≡ b
          → IfSome (first (overriding_from classes (Prog p) m)) (λ s. same_member s m ≡ true)
      runs_first m (Some x) true at is same =
          subst (λ (cs : List ClassId). IfSome
          (first (overriding classes m (declared_by classes (named_at classes m) cs)))
          (λ s. same_member s m ≡ true)) (sym (upwards_step highest classes (Prog p) (lit< tt)))
          (subst (λ (o : Option MemberAt). IfSome (first (overriding classes m
          (cons_option o (rest_up (named_at classes m))))) (λ s. same_member s m ≡ true)) (sym is)
          (first_is m x (rest_up (named_at classes m)) same))
      runs_first m (Some x) false at is other =
          none_runs m (λ same.
          absurd (let one = same_Some m x (sym same ∙ ap (declared_in classes (named_at classes m)) at ∙ is) in
          let h = sym other ∙ ap (λ (y : MemberAt). same_member y m) (sym one) ∙ member_itself m in cc))
      runs_first m None true at is same = absurd cc
      runs_first m None false at is other =
          none_runs m (λ same. absurd (let h = sym same ∙ ap (declared_in classes (named_at classes m)) at ∙ is in cc))

      own_none : (k : ℕ) → pair_with classes own p (record { class = Prog p; index = k }) ≡ None
      own_none k =
          let m : MemberAt = record { class = Prog p; index = k } in
          let runs = runs_first m (declared_in classes (named_at classes m) (Prog p)) _ refl refl refl in
          none_of m (selected classes (Prog p) m)
          (subst (λ (b : Bool). IfSome (if b then first_instance classes (Prog p) (named_at classes m)
          else first (overriding_from classes (Prog p) m)) (λ s. same_member s m ≡ true)) (sym blank.above) runs)

      of_super : pairs_in classes own p (Prog p) ≡ []
      of_super = none_mapped (pair_with classes own p) (is_inheritable classes) (Prog p)
          (enumerate_from 0 (rows_in classes (Prog p))) own_none

      below_same : (y : ClassId) → is_below classes (Prog n) y ≡ (same_class y (Prog n) || is_below classes (Prog p) y)
      below_same y =
          ap (λ cs. list_any (same_class y) (cs ++ flat_map (own_superinterfaces classes) cs)) up
          ∙ ap (λ t. same_class y (Prog n) || list_any (same_class y) (superclasses_from classes (Prog p)
          ++ (t ++ superinterfaces classes (Prog p)))) blank.own

      -- what a class wants with the methods of one class, if that is above it
      abbrev above : ℕ → ClassId → List Pair
      above x y = cond (is_below classes (Prog x) y && not (same_class (Prog x) y)) (pairs_in classes own x y) []

      nothing_if : (b : Bool) (xs : List Pair) → xs ≡ [] → cond b xs [] ≡ []
      nothing_if true xs none = none
      nothing_if false xs none = refl

      same_back : (x y : ClassId) (b : Bool) → same_class y x ≡ b → same_class x y ≡ false → same_class y x ≡ false
      same_back x y true is other =
          absurd (let h = sym other ∙ ap (same_class x) (same_is y x is) ∙ same_itself x in cc)
      same_back x y false is other = is

      one : (y : ClassId) (b c : Bool) → same_class (Prog n) y ≡ b → same_class (Prog p) y ≡ c → above n y ≡ above p y
      one y true c itself other =
          ap (λ t. cond (is_below classes (Prog n) y && not t) (pairs_in classes own n y) []) itself
          ∙ ap (λ t. cond t (pairs_in classes own n y) []) (and-false (is_below classes (Prog n) y))
          ∙ sym (nothing_if _ (pairs_in classes own p y)
          (ap (pairs_in classes own p) (sym (same_is (Prog n) y itself)) ∙ of_itself p))
      one y false true itself other =
          let none : pairs_in classes own p y ≡ [] =
          ap (pairs_in classes own p) (sym (same_is (Prog p) y other)) ∙ of_super in
          nothing_if _ (pairs_in classes own n y) (in_same y ∙ none)
          ∙ sym (nothing_if _ (pairs_in classes own p y) none)
      one y false false itself other =
          ap (λ t. cond (is_below classes (Prog n) y && not t) (pairs_in classes own n y) []) itself
          ∙ ap (λ t. cond (t && true) (pairs_in classes own n y) []) (below_same y)
          ∙ ap (λ t. cond ((t || is_below classes (Prog p) y) && true) (pairs_in classes own n y) [])
          (same_back (Prog n) y _ refl itself)
          ∙ ap (λ t. cond (is_below classes (Prog p) y && true) t []) (in_same y)
          ∙ sym (ap (λ t. cond (is_below classes (Prog p) y && not t) (pairs_in classes own p y) []) other)

      by_class : (x : ℕ) → filter_map (pair_with classes own x) (methods_above classes (Prog x))
          ≡ flat_map (above x) (map (λ q. Prog q.0) (enumerate_from 0 classes))
      by_class x =
          sym (flat_of (pair_with classes own x) (is_inheritable classes) (members_of classes)
          (program_supers classes (Prog x)))
          ∙ sym (flat_filtered (pairs_in classes own x)
          (λ y. is_below classes (Prog x) y && not (same_class (Prog x) y))
          (map (λ q. Prog q.0) (enumerate_from 0 classes)))

      pairs : filter_map (pair_with classes own n) (methods_above classes (Prog n))
          ≡ filter_map (pair_with classes own p) (methods_above classes (Prog p))
      pairs =
          let same : above n ≡ above p = λ i y. one y _ _ refl refl i in
          by_class n ∙ ap (λ f. flat_map f (map (λ q. Prog q.0) (enumerate_from 0 classes))) same ∙ sym (by_class p)

    pub blank_top : (t : ℕ) → IsTop classes p t → IsTop classes n t
    blank_top t top = record {
      there = top.there;
      called = called ∙ top.called;
      pairs = λ own. pairs own ∙ top.pairs own;
    }

-- a class for itself
pub top_itself : (classes : List Class) (n : ℕ) → n < length classes → IsTop classes n n
top_itself classes n n-in = record { there = n-in; called = refl; pairs = λ own. refl }

pub library_top_itself : (classes : List Class) (n : ℕ) → n < length classes → IsLibraryTop classes n n
library_top_itself classes n n-in = record { there = n-in; same = refl }
