-- From which class on upwards members are looked for, as it is noted.
use Rattle.std.proofs.Common.{◌≡◌, ◌⊎◌, inl, inr, ⊎_elim, ◌≤◌, ◌<◌, ◌+◌, ◌-◌, ℕ, zero, suc, Bool, true, false, cond, List, []}
use Rattle.std.proofs.Common.{◌∷◌, ◌∙◌, length, map, slice_get, Option, Some, None, refl, sym, ap, subst, arith}
use Rattle.std.specs.List.{AllZip, Contains, cons_option}
use Rattle.std.specs.Option.{IfSome, option_and_then, option_map, option_map_or}
use Rattle.std.proofs.lemmas.Bool.{and_parts, cases_lt}
use Rattle.std.proofs.lemmas.List.{length-map}
use Rattle.std.proofs.lemmas.List.Sums.{prefix_len_is}
use Rattle.std.proofs.lemmas.Option.{get_or_from_slice_get, same_Some, slice_get-get_or, slice_get-map, slice_get_within}
use Rattle.jv_base.specs.Names.{is_text}
use Rattle.jv_base.proofs.Equality.{text_Decides}
use Rattle.class_model.specs.declared.class.Class.{Class}
use Rattle.lib_table.proofs.Computed.{count}
use Rattle.tree_notes.specs.Notes.{HasKey, IsSame}
use Rattle.tree_notes.specs.declared.nearest.Up.{Up}
use Rattle.tree_notes.specs.declared.nearest.Up.TheVariants.{Above, At}
use Rattle.tree_notes.proofs.Same.{same_by}
use Rattle.class_pool.specs.bodies.ByName.{IsIndexOf, IsPlace, Key, is_before, key_of, named_in, number_at}
use Rattle.class_pool.specs.bodies.Notes.{number_in, numbers_of, place_in, program_of}
use Rattle.class_pool.specs.declared.id.ClassId.{ClassId}
use Rattle.class_pool.specs.declared.id.ClassId.TheVariants.{Lib, Prog}
use Rattle.class_pool.specs.declared.id.MemberAt.{MemberAt}
use Rattle.class_pool.specs.declared.set.members.MemberIndex.{MemberIndex}
use Rattle.class_pool.specs.Found.{NameAndType, declared_by, declared_in}
use Rattle.class_pool.specs.Hierarchy.{IsClass, superclass, superclass_of}
use Rattle.class_pool.specs.Members.{declared_at, member_named}
use Rattle.class_pool.specs.Ranks.{HasRanks}
use Rattle.class_pool.specs.Walk.{highest, superclasses_from, superclasses_up, upwards}
use Rattle.class_pool.proofs.Climbing.{upwards_step}
use Rattle.class_pool.proofs.NamedMembers.{first_below, has_index, index_is, is_wanted, member_first}
use Rattle.class_pool.proofs.Walking.{superclasses_next}

-- ---- a member that is found has its name and its descriptor

put_first : (test : ℕ → Bool) (n i : ℕ) (found : Option ℕ) (b : Bool) → test n ≡ b → cond b (Some n) found ≡ Some i
    → ((n ≡ i) × (test n ≡ true)) ⊎ (found ≡ Some i)
put_first test n i found true is e = inl (same_Some n i e, is)
put_first test n i found false is e = inr e

first_passes : (test : ℕ → Bool) (n : ℕ) (found : Option ℕ) (i : ℕ) → first_below test n found ≡ Some i
    → ((i < n) × (test i ≡ true)) ⊎ (found ≡ Some i)
first_passes test zero found i is = inr is
first_passes test (suc n) found i is = ⊎_elim
    (λ h. inl (let below = h.0 in omega (arith, below), h.1))
    (λ e. ⊎_elim (λ h. inl (let same = h.0 in omega (arith, same), subst (λ (k : ℕ). test k ≡ true) h.0 h.1)) inr
    (put_first test n i found (test n) refl e))
    (first_passes test n (cond (test n) (Some n) found) i is)

-- it is one of the class, and has the name and the descriptor
found_named : (c : Class) (named : NameAndType) (i : ℕ) → member_named c named.0 named.1 ≡ Some i
    → (i < length c.fields + length c.methods) × (named_in c i ≡ named)
found_named c named i is = ⊎_elim
    (λ h.
    let parts = and_parts (is_text (named_in c i).0 named.0) (is_text named.1 (named_in c i).1) h.1 in
    let name : (named_in c i).0 ≡ named.0 = (text_Decides (named_in c i).0 named.0).0 parts.0 in
    let ty : (named_in c i).1 ≡ named.1 = sym ((text_Decides named.1 (named_in c i).1).0 parts.1) in
    (h.0, λ j. (name j, ty j)))
    (λ none. absurd cc)
    (first_passes (is_wanted c named.0 named.1) (length c.fields + length c.methods) None i
    (member_first c named.0 named.1 ∙ is))

-- ---- the number of a name and a descriptor

place_is : (keys : List Key) (named : NameAndType) (place : ℕ) (d : Key)
    → IsPlace keys named.0 named.1 place place → place_in keys named ≡ place
place_is keys named place d is =
    prefix_len_is (is_before named.0 named.1) keys place d is.within (λ k less. is.before k d less)
    (λ inside. is.behind place d (omega arith) inside)

pub number_some : (keys : List Key) (named : NameAndType) (place i : ℕ) → IsPlace keys named.0 named.1 place place
    → number_at keys place named.0 named.1 ≡ Some i → place ≡ number_in keys named
number_some keys named place i is at =
    sym (ap (λ (p : ℕ). option_map_or (λ n. p) (number_at keys p named.0 named.1) (length keys))
    (place_is keys named place ([], ([], 0)) is)
    ∙ ap (λ (o : Option ℕ). option_map_or (λ n. place) o (length keys)) at)

pub number_none : (keys : List Key) (named : NameAndType) (place : ℕ) → IsPlace keys named.0 named.1 place place
    → number_at keys place named.0 named.1 ≡ None → length keys ≡ number_in keys named
number_none keys named place is at =
    sym (ap (λ (p : ℕ). option_map_or (λ n. p) (number_at keys p named.0 named.1) (length keys))
    (place_is keys named place ([], ([], 0)) is)
    ∙ ap (λ (o : Option ℕ). option_map_or (λ n. place) o (length keys)) at)

contains_map : {X Y : Type 0} (f : X → Y) (xs : List X) (x : X) → Contains xs x → Contains (map f xs) (f x)
contains_map f xs x has =
    let k = has.0 in
    let within = has.1 in
    let long = length-map xs f in
    let at : slice_get xs k ≡ Some x = slice_get-get_or xs k x within ∙ ap Some has.2 in (
      k,
      omega (arith, within, long),
      get_or_from_slice_get (map f xs) k (f x) (f x) (slice_get-map f xs k ∙ ap (option_map f) at),
    )

got_within : {X : Type 0} (xs : List X) (n : ℕ) → n < length xs → (x : X) × (slice_get xs n ≡ Some x)
got_within [] n within = absurd (omega (arith, within))
got_within (x ∷ xs) zero within = (x, refl)
got_within (x ∷ xs) (suc n) within = got_within xs n (omega (arith, within))

module _ (classes : List Class) (members : List MemberIndex) (indexed : AllZip IsIndexOf classes members)
    (keys : List Key) (named : NameAndType) where
  has_number : (index : MemberIndex) (c : Class) (i : ℕ) → IsIndexOf c index
      → member_named c named.0 named.1 ≡ Some i → Contains (numbers_of keys index) (number_in keys named)
  has_number index c i of is =
      let at = found_named c named i is in
      subst (λ (n : NameAndType). Contains (numbers_of keys index) (number_in keys n)) at.1
      (contains_map (λ (key : Key). number_in keys (key.0, key.1.0)) index.keys.items (key_of c i)
      (of.keys.all i at.0))

  -- a class that declares such a member has the number
  has_key : (n i : ℕ) → declared_at classes (Prog n) named.0 named.1 ≡ Some i
      → HasKey (map (numbers_of keys) members) n (number_in keys named)
  has_key n i is = by (slice_get classes n) refl is
    where
      by : (o : Option Class) → slice_get classes n ≡ o
          → option_and_then (λ c. member_named c named.0 named.1) o ≡ Some i
          → HasKey (map (numbers_of keys) members) n (number_in keys named)
      by None at e = absurd cc
      by (Some c) at e =
          let index = got_within members n
          (has_index classes members n indexed (slice_get_within classes n c at)) in
          subst (λ (l : List ℕ). Contains l (number_in keys named))
          (sym (get_or_from_slice_get (map (numbers_of keys) members) n (numbers_of keys index.0) []
          (slice_get-map (numbers_of keys) members n ∙ ap (option_map (numbers_of keys)) index.1)))
          (has_number index.0 c i (index_is classes members n c index.0 indexed at index.1) e)

  lacks_none : (n : ℕ) → (HasKey (map (numbers_of keys) members) n (number_in keys named) → ⊥)
      → declared_in classes named (Prog n) ≡ None
  lacks_none n lacks = by (declared_at classes (Prog n) named.0 named.1) refl
    where
      by : (o : Option ℕ) → declared_at classes (Prog n) named.0 named.1 ≡ o
          → declared_in classes named (Prog n) ≡ None
      by None e = ap (λ (p : Option ℕ). option_map {U = MemberAt} (λ i. record { class = Prog n; index = i }) p) e
      by (Some i) e = absurd (lacks (has_key n i e))

-- ---- the way upwards

none_past : {X : Type 0} (xs : List X) (n : ℕ) → length xs ≤ n → slice_get xs n ≡ None
none_past [] n over = refl
none_past (x ∷ xs) zero over = absurd (omega (arith, over))
none_past (x ∷ xs) (suc n) over = none_past xs n (omega (arith, over))

module _ (classes : List Class) (r : HasRanks classes) (few : length classes ≤ 4294967295) where
  -- a class and those above it
  from_first : (n : ℕ) → superclasses_from classes (Prog n)
      ≡ Prog n ∷ superclasses_up classes (superclass classes (Prog n))
  from_first n = ⊎_elim
      (λ inside. let most = r.most (Prog n) inside in
      superclasses_next classes r.rank (Prog n) r.falls inside (omega (arith, count, most, few)))
      (λ over.
      let none : superclass classes (Prog n) ≡ None = ap (option_and_then (superclass_of classes))
      (none_past classes n over) in
      upwards_step highest classes (Prog n) (omega arith)
      ∙ ap (λ (o : Option ClassId). Prog n ∷ option_map_or (upwards (highest - 1) classes) o []) none
      ∙ ap (λ (o : Option ClassId). Prog n ∷ superclasses_up classes o) (sym none))
      (cases_lt n (length classes))

  module _ (above : List (Option ClassId)) (are : above ≡ map (superclass_of classes) classes)
      (members : List MemberIndex) (indexed : AllZip IsIndexOf classes members)
      (keys : List Key) (named : NameAndType) where
    -- the members that are declared from a place upwards
    abbrev declared_up : Up → List MemberAt
    declared_up (At n) = declared_by classes named (superclasses_from classes (Prog n))
    declared_up (Above n) = declared_by classes named (superclasses_up classes (superclass classes (Prog n)))

    lacking : (n : ℕ) → (HasKey (map (numbers_of keys) members) n (number_in keys named) → ⊥)
        → declared_up (At n) ≡ declared_up (Above n)
    lacking n lacks =
        ap (declared_by classes named) (from_first n)
        ∙ ap (λ (o : Option MemberAt). cons_option o
        (declared_by classes named (superclasses_up classes (superclass classes (Prog n)))))
        (lacks_none classes members indexed keys named n lacks)

    above_is : (o : Option Class) (p : ℕ)
        → option_map program_of (option_map (superclass_of classes) o) ≡ Some (Some p)
        → option_and_then (superclass_of classes) o ≡ Some (Prog p)
    above_is None p is = absurd cc
    above_is (Some c) p is = by (superclass_of classes c) (same_Some _ _ is)
      where
        by : (s : Option ClassId) → program_of s ≡ Some p → s ≡ Some (Prog p)
        by (Some (Prog q)) e = ap (λ (k : ℕ). Some (Prog k)) (same_Some q p e)
        by (Some (Lib id)) e = absurd cc
        by None e = absurd cc

    under : (n p : ℕ) → slice_get (map program_of above) n ≡ Some (Some p)
        → declared_up (Above n) ≡ declared_up (At p)
    under n p is = ap (λ (o : Option ClassId). declared_by classes named (superclasses_up classes o))
        (above_is (slice_get classes n) p
        (sym (slice_get-map program_of above n
        ∙ ap (λ (l : List (Option ClassId)). option_map program_of (slice_get l n)) are
        ∙ ap (option_map program_of) (slice_get-map (superclass_of classes) classes n)) ∙ is))

    pub declared_same : (n : ℕ) (up : Up)
        → IsSame (map program_of above) (map (numbers_of keys) members) (number_in keys named) (At n) up
        → declared_up (At n) ≡ declared_up up
    declared_same n up is = same_by (map program_of above) (map (numbers_of keys) members) (number_in keys named)
        declared_up lacking under (At n) up is

-- ---- from a class on

rest_of : {X : Type 0} → List X → List X
rest_of [] = []
rest_of (x ∷ xs) = xs

first_or : {X : Type 0} → X → List X → X
first_or d [] = d
first_or d (x ∷ xs) = x

module _ (classes : List Class) (r : HasRanks classes) (few : length classes ≤ 4294967295) where
  -- behind a class on the way upwards stand those above it
  pub up_rest : (up : Option ClassId) (c : ClassId) (rest : List ClassId) → IfSome up (IsClass classes)
      → superclasses_up classes up ≡ c ∷ rest → rest ≡ superclasses_up classes (superclass classes c)
  unfolding rest_of first_or
  up_rest None c rest there is = absurd cc
  up_rest (Some d) c rest there is =
      let most = r.most d there in
      let e : d ∷ superclasses_up classes (superclass classes d) ≡ c ∷ rest =
      sym (superclasses_next classes r.rank d r.falls there (omega (arith, count, most, few))) ∙ is in
      sym (ap rest_of e) ∙ ap (λ (x : ClassId). superclasses_up classes (superclass classes x)) (ap (first_or c) e)
