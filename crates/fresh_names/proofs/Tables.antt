-- Tables of new names: no two names of a group come to one.
use Rattle.std.proofs.Common.{◌≡◌, ◌⊎◌, inl, inr, ℕ, suc, ◌+◌, Bool, true, false, cond, ◌||◌, not, filter, List, []}
use Rattle.std.proofs.Common.{◌∷◌, ◌++◌, slice_get, Option, Some, None, is_some, refl, sym, ap, subst, ◌∙◌, arith}
use Rattle.std.specs.List.{AllByRecursion, fold, list_any}
use Rattle.std.specs.Map.{keys_of, lookup}
use Rattle.std.proofs.lemmas.Option.{same_Some}
use Rattle.std.proofs.lemmas.Bool.{not-true, or_parts, or_right}
use Rattle.jv_base.specs.Names.{is_text}
use Rattle.jv_base.proofs.Equality.{same_text, text_Decides, text_is, text_itself}
use Rattle.jv_base.proofs.Lists.{all_append, all_weaker}
use Rattle.class_rename.specs.Names.{new_name, or_else}
use Rattle.fresh_names.specs.Fresh.{fresh, given, is_taken, next_free}
use Rattle.fresh_names.specs.Given.{NameTable, applied, class_given, front_of, given_name, if_in_package, in_package}
use Rattle.fresh_names.specs.Given.{news_of, of_type, olds, stays_for, taking, with_new}
use Rattle.fresh_names.specs.Laws.{ClassesDiffer, ClassesStay, FieldsDiffer, FieldsStay, IsNamed, MethodsDiffer}
use Rattle.fresh_names.specs.Laws.{MethodsStay, PackagesStay}
use Rattle.class_rename.specs.Names.{is_same_method}
use Rattle.fresh_names.proofs.Found.{given_found, or_first}
use Rattle.fresh_names.proofs.Free.{given_free, given_once}
use Rattle.fresh_names.proofs.Fronts.{fresh_front}
use Rattle.fresh_names.proofs.Groups.{key_found, none_of}
use Rattle.fresh_names.proofs.Once.{kept_taken, once_taken}
use Rattle.fresh_names.proofs.OneMore.{lookup_parts, some_first}
use Rattle.fresh_names.proofs.Reserved.{taken_parts}

-- none of the new names stands twice
abbrev StandOnce : NameTable → Type 0
StandOnce [] = Unit {0}
StandOnce (p ∷ ps) = AllByRecursion (λ (q : List ℕ × List ℕ). is_text q.1 p.1 ≡ false) ps × StandOnce ps

-- none of the new names is taken
abbrev Free : List (List ℕ) → NameTable → Type 0
Free taken ps = AllByRecursion (λ (p : List ℕ × List ℕ). is_taken taken p.1 ≡ false) ps

apart_and_free : (new : List ℕ) (taken : List (List ℕ)) (ps : NameTable) → Free (new ∷ taken) ps
    → AllByRecursion (λ (q : List ℕ × List ℕ). is_text q.1 new ≡ false) ps × Free taken ps
apart_and_free new taken [] h = (tt, tt)
apart_and_free new taken (p ∷ ps) h =
    let one = or_parts (is_text p.1 new) (is_taken taken p.1) h.0 in
    let rest = apart_and_free new taken ps h.1 in
    ((one.0, rest.0), (one.1, rest.1))

-- ---- a table in which no new name stands twice, and none stays

-- what is looked up isn't a name that no entry has
absent : (w : List ℕ) (t : NameTable) (b v : List ℕ) → AllByRecursion (λ (q : List ℕ × List ℕ). is_text q.1 w ≡ false) t
    → lookup (is_text b) t ≡ Some v → is_text v w ≡ false
absent w [] b v h f = absurd cc
absent w (e ∷ t) b v h f = by (is_text b e.0) f (λ g. absent w t b v h.1 g)
  where
    by : (s : Bool) → cond s (Some e.1) (lookup (is_text b) t) ≡ Some v
        → (lookup (is_text b) t ≡ Some v → is_text v w ≡ false) → is_text v w ≡ false
    by true f r = ap (λ (u : List ℕ). is_text u w) (sym (same_Some e.1 v f)) ∙ h.0
    by false f r = r f

not_taken : (stays : List (List ℕ)) (t : NameTable) (b v : List ℕ) → Free stays t → lookup (is_text b) t ≡ Some v
    → is_taken stays v ≡ false
not_taken stays [] b v h f = absurd cc
not_taken stays (e ∷ t) b v h f = by (is_text b e.0) f (λ g. not_taken stays t b v h.1 g)
  where
    by : (s : Bool) → cond s (Some e.1) (lookup (is_text b) t) ≡ Some v
        → (lookup (is_text b) t ≡ Some v → is_taken stays v ≡ false) → is_taken stays v ≡ false
    by true f r = ap (is_taken stays) (sym (same_Some e.1 v f)) ∙ h.0
    by false f r = r f

pub no_key : (t : NameTable) (b : List ℕ) → lookup (is_text b) t ≡ None → is_taken (keys_of t) b ≡ false
no_key [] b f = refl
no_key (e ∷ t) b f = by (is_text b e.0) f (λ g. no_key t b g)
  where
    by : (s : Bool) → cond s (Some e.1) (lookup (is_text b) t) ≡ None
        → (lookup (is_text b) t ≡ None → is_taken (keys_of t) b ≡ false) → (s || is_taken (keys_of t) b) ≡ false
    by true f r = absurd cc
    by false f r = r f

same_entry : (t : NameTable) (a b v : List ℕ) → StandOnce t → lookup (is_text a) t ≡ Some v
    → lookup (is_text b) t ≡ Some v → a ≡ b
same_entry [] a b v h f g = absurd cc
same_entry (e ∷ t) a b v h f g =
    by (is_text a e.0) refl (is_text b e.0) refl f g (λ k l. same_entry t a b v h.1 k l)
  where
    never : (c : List ℕ) → cond true (Some e.1) (lookup (is_text c) t) ≡ Some v → (d : List ℕ)
        → lookup (is_text d) t ≡ Some v → ⊥
    never c f d g =
        let yes : is_text v e.1 ≡ true = text_is v e.1 (sym (same_Some e.1 v f)) in
        let w : true ≡ false = sym yes ∙ absent e.1 t d v h.0 g in
        cc

    by : (s : Bool) → is_text a e.0 ≡ s → (u : Bool) → is_text b e.0 ≡ u
        → cond s (Some e.1) (lookup (is_text a) t) ≡ Some v → cond u (Some e.1) (lookup (is_text b) t) ≡ Some v
        → (lookup (is_text a) t ≡ Some v → lookup (is_text b) t ≡ Some v → a ≡ b) → a ≡ b
    by true i true j f g r = same_text a e.0 i ∙ sym (same_text b e.0 j)
    by true i false j f g r = absurd (never a f b g)
    by false i true j f g r = absurd (never b g a f)
    by false i false j f g r = r f g

table_differ : (stays : List (List ℕ)) (t : NameTable) → Free stays t → StandOnce t → (a b : List ℕ)
    → IsNamed stays (keys_of t) a → IsNamed stays (keys_of t) b → new_name t a ≡ new_name t b → a ≡ b
table_differ stays t free once a b named other same =
    by (lookup (is_text a) t) refl (lookup (is_text b) t) refl same
  where
    apart : (c d v : List ℕ) → lookup (is_text c) t ≡ Some v → lookup (is_text d) t ≡ None → IsNamed stays (keys_of t) d
        → v ≡ d → ⊥
    apart c d v f g (inl fixed) e =
        let w : true ≡ false = sym fixed ∙ ap (is_taken stays) (sym e) ∙ not_taken stays t c v free f in cc
    apart c d v f g (inr key) e = let w : true ≡ false = sym key ∙ no_key t d g in cc

    by : (o : Option (List ℕ)) → lookup (is_text a) t ≡ o → (p : Option (List ℕ)) → lookup (is_text b) t ≡ p
        → or_else o a ≡ or_else p b → a ≡ b
    by None f None g e = e
    by (Some v) f None g e = absurd (apart a b v f g other e)
    by None f (Some w) g e = absurd (apart b a w g f named (sym e))
    by (Some v) f (Some w) g e = same_entry t a b v once f (g ∙ ap Some (sym e))

-- ---- two tables, one after the other

free_parts : (xs ys : List (List ℕ)) (t : NameTable) → Free (xs ++ ys) t → Free xs t × Free ys t
free_parts xs ys [] h = (tt, tt)
free_parts xs ys (e ∷ t) h =
    let one = or_parts (is_taken xs e.1) (is_taken ys e.1) (sym (taken_parts xs ys e.1) ∙ h.0) in
    let rest = free_parts xs ys t h.1 in
    ((one.0, rest.0), (one.1, rest.1))

stand_append : (s t : NameTable) → StandOnce s → StandOnce t → Free (news_of s) t → StandOnce (s ++ t)
stand_append [] t h k cross = k
stand_append (p ∷ s) t h k cross =
    let parts = apart_and_free p.1 (news_of s) t cross in (
      all_append (λ (q : List ℕ × List ℕ). is_text q.1 p.1 ≡ false) s t h.0 parts.0,
      stand_append s t h.1 k parts.1,
    )

-- ---- fresh names

all_at : (P : List ℕ × List ℕ → Type 0) (xs : NameTable)
    → ((k : ℕ) (e : List ℕ × List ℕ) → slice_get xs k ≡ Some e → P e) → AllByRecursion P xs
all_at P [] h = tt
all_at P (x ∷ xs) h = (h 0 x refl, all_at P xs (λ k e at. h (suc k) e at))

once_at : (xs : NameTable)
    → ((j k : ℕ) (d e : List ℕ × List ℕ) → slice_get xs j ≡ Some d → slice_get xs k ≡ Some e → d.1 ≡ e.1 → j ≡ k)
    → StandOnce xs
once_at [] h = tt
once_at (x ∷ xs) h = (
  all_at (λ (q : List ℕ × List ℕ). is_text q.1 x.1 ≡ false) xs (λ k e at. differ k e at (is_text e.1 x.1) refl),
  once_at xs (λ j k d e p q s. let n = h (suc j) (suc k) d e p q s in omega (arith, n)),
)
  where
    differ : (k : ℕ) (e : List ℕ × List ℕ) → slice_get xs k ≡ Some e → (t : Bool) → is_text e.1 x.1 ≡ t → t ≡ false
    differ k e at true is =
        absurd (let n : suc k ≡ 0 = h (suc k) 0 e x at refl (same_text e.1 x.1 is) in omega (arith, n))
    differ k e at false is = refl

-- a name among those that pass passes itself, and is among all
pub passes_of : (q : List ℕ → Bool) (a : List ℕ) (xs : List (List ℕ)) → is_taken (filter q xs) a ≡ true
    → (q a ≡ true) × (is_taken xs a ≡ true)
passes_of q a [] is = absurd cc
passes_of q a (x ∷ xs) is = on (q x) refl is (passes_of q a xs)
  where
    here : (c : Bool) → is_text a x ≡ c → q x ≡ true → (c || is_taken (filter q xs) a) ≡ true
        → (is_taken (filter q xs) a ≡ true → (q a ≡ true) × (is_taken xs a ≡ true)) → (q a ≡ true)
        × ((c || is_taken xs a) ≡ true)
    here true e passes h rest = (ap q (same_text a x e) ∙ passes, refl)
    here false e passes h rest = rest h

    behind : (c : Bool) → is_taken xs a ≡ true → (c || is_taken xs a) ≡ true
    behind true h = refl
    behind false h = h

    on : (b : Bool) → q x ≡ b → is_taken (cond b (x ∷ filter q xs) (filter q xs)) a ≡ true
        → (is_taken (filter q xs) a ≡ true → (q a ≡ true) × (is_taken xs a ≡ true))
        → (q a ≡ true) × ((is_text a x || is_taken xs a) ≡ true)
    on true e h rest = here (is_text a x) refl e h rest
    on false e h rest = let r = rest h in (r.0, behind (is_text a x) r.1)

-- a name with an entry is among those that get one
given_one : (front : List ℕ) (taken : List (List ℕ)) (n : ℕ) (olds : List (List ℕ)) (a v : List ℕ)
    → lookup (is_text a) (given front taken n olds) ≡ Some v → is_taken olds a ≡ true
unfolding given
given_one front taken n [] a v found = absurd cc
given_one front taken n (old ∷ olds) a v found =
    on (is_text a old) (given_one front taken (next_free front taken n + 1) olds a v) found
  where
    on : (b : Bool)
        → (lookup (is_text a) (given front taken (next_free front taken n + 1) olds) ≡ Some v → is_taken olds a ≡ true)
        → cond b (Some (fresh front (next_free front taken n)))
        (lookup (is_text a) (given front taken (next_free front taken n + 1) olds)) ≡ Some v
        → (b || list_any (is_text a) olds) ≡ true
    on true more f = refl
    on false more f = more f

-- an entry that is looked up stands somewhere
entry_step : (a : List ℕ) (e : List ℕ × List ℕ) (table : List (List ℕ × List ℕ)) (v : List ℕ) (b : Bool)
    → is_text a e.0 ≡ b → cond b (Some e.1) (lookup (is_text a) table) ≡ Some v
    → (lookup (is_text a) table ≡ Some v → (k : ℕ) × (f : List ℕ × List ℕ) × (slice_get table k ≡ Some f) × (f.0 ≡ a)
    × (f.1 ≡ v))
    → (k : ℕ) × (f : List ℕ × List ℕ) × (slice_get (e ∷ table) k ≡ Some f) × (f.0 ≡ a) × (f.1 ≡ v)
entry_step a e table v true is found more = (0, e, refl, sym ((text_Decides a e.0).0 is), same_Some e.1 v found)
entry_step a e table v false is found more = let h = more found in (suc h.0, h.1, h.2, h.3, h.4)

entry_of : (a : List ℕ) (table : List (List ℕ × List ℕ)) (v : List ℕ) → lookup (is_text a) table ≡ Some v → (k : ℕ)
    × (f : List ℕ × List ℕ) × (slice_get table k ≡ Some f) × (f.0 ≡ a) × (f.1 ≡ v)
entry_of a [] v found = absurd cc
entry_of a (e ∷ table) v found = entry_step a e table v (is_text a e.0) refl found (entry_of a table v)

-- ---- what an earlier mapping gives

module _ (old : List ℕ → Option (List ℕ)) (stays names : List (List ℕ)) where
  -- each entry is as the earlier mapping has it: of a name that doesn't stay, a new one that is free
  record IsTold (t : NameTable) : Type 0 where
    pub free : Free stays t
    pub once : StandOnce t
    pub staying : AllByRecursion (λ (e : List ℕ × List ℕ). is_taken stays e.0 ≡ false) t
    pub told : AllByRecursion (λ (e : List ℕ × List ℕ). old e.0 ≡ Some e.1) t
    pub named : AllByRecursion (λ (e : List ℕ × List ℕ). is_taken names e.0 ≡ true) t

  one_told : (t : NameTable) (x v : List ℕ) → IsTold t → is_taken names x ≡ true → is_taken stays x ≡ false
      → old x ≡ Some v → is_taken stays v ≡ false → is_taken (news_of t) v ≡ false → IsTold (t ++ (x, v) ∷ [])
  one_told t x v g is stay tells free new = record {
    free = all_append (λ (e : List ℕ × List ℕ). is_taken stays e.1 ≡ false) t ((x, v) ∷ []) g.free (free, tt);
    once = stand_append t ((x, v) ∷ []) g.once (tt, tt) (new, tt);
    staying = all_append (λ (e : List ℕ × List ℕ). is_taken stays e.0 ≡ false) t ((x, v) ∷ []) g.staying (stay, tt);
    told = all_append (λ (e : List ℕ × List ℕ). old e.0 ≡ Some e.1) t ((x, v) ∷ []) g.told (tells, tt);
    named = all_append (λ (e : List ℕ × List ℕ). is_taken names e.0 ≡ true) t ((x, v) ∷ []) g.named (is, tt);
  }

  told_more : (t : NameTable) (x : List ℕ) → IsTold t → is_taken names x ≡ true → IsTold (taking old stays t x)
  told_more t x g is = by (is_taken stays x || is_taken (keys_of t) x) refl
    where
      free : (v : List ℕ) → old x ≡ Some v → is_taken stays x ≡ false → (b : Bool)
          → (is_taken stays v || is_taken (news_of t) v) ≡ b → IsTold (cond b t (t ++ (x, v) ∷ []))
      free v tells stay true e = g
      free v tells stay false e =
          let parts = or_parts (is_taken stays v) (is_taken (news_of t) v) e in
          one_told t x v g is stay tells parts.0 parts.1

      told_by : (o : Option (List ℕ)) → old x ≡ o → is_taken stays x ≡ false → IsTold (with_new old stays t x o)
      told_by None e stay = g
      told_by (Some v) e stay = free v e stay (is_taken stays v || is_taken (news_of t) v) refl

      by : (b : Bool) → (is_taken stays x || is_taken (keys_of t) x) ≡ b → IsTold (cond b t (with_new old stays t x (old x)))
      by true e = g
      by false e = told_by (old x) refl (or_parts (is_taken stays x) (is_taken (keys_of t) x) e).0

  told_all : (t : NameTable) (xs : List (List ℕ)) → IsTold t → AllByRecursion (λ x. is_taken names x ≡ true) xs
      → IsTold (fold (taking old stays) t xs)
  told_all t [] g all = g
  told_all t (x ∷ xs) g all = told_all (taking old stays t x) xs (told_more t x g all.0) all.1

all_named : (names : List (List ℕ)) → AllByRecursion (λ x. is_taken names x ≡ true) names
all_named [] = tt
all_named (x ∷ xs) = (
  ap (λ (b : Bool). b || is_taken xs x) (text_itself x),
  all_weaker (λ y. is_taken xs y ≡ true) (λ y. is_taken (x ∷ xs) y ≡ true)
      (λ y h. or_right (is_text y x) (is_taken xs y) h) xs (all_named xs),
)

applied_told : (old : List ℕ → Option (List ℕ)) (stays names : List (List ℕ))
    → IsTold old stays names (applied old stays names)
applied_told old stays names = told_all old stays names [] names
    (record { free = tt; once = tt; staying = tt; told = tt; named = tt }) (all_named names)

-- an entry that is looked up has what all have
found_has : (P : List ℕ × List ℕ → Type 0) (t : NameTable) (a v : List ℕ) → AllByRecursion P t
    → lookup (is_text a) t ≡ Some v → P (a, v)
found_has P [] a v all f = absurd cc
found_has P (e ∷ t) a v all f = by (is_text a e.0) refl f (λ g. found_has P t a v all.1 g)
  where
    by : (b : Bool) → is_text a e.0 ≡ b → cond b (Some e.1) (lookup (is_text a) t) ≡ Some v
        → (lookup (is_text a) t ≡ Some v → P (a, v)) → P (a, v)
    by true is f rest = subst P (λ i. (sym (same_text a e.0 is) i, same_Some e.1 v f i)) all.0
    by false is f rest = rest f

-- ---- all names of a group

module _ (old : List ℕ → Option (List ℕ)) (stays : List (List ℕ)) (front : List ℕ) (names : List (List ℕ)) where
  abbrev told : NameTable
  told = applied old stays names

  abbrev others : List (List ℕ)
  others = olds (stays ++ keys_of told) names

  abbrev fresh_ones : NameTable
  fresh_ones = given front (stays ++ news_of told) 0 others

  has_entry : (a : List ℕ)
      → is_some (lookup (is_text a) (told ++ fresh_ones)) ≡ (is_taken (keys_of told) a || is_taken others a)
  has_entry a = ap is_some (lookup_parts a told fresh_ones)
      ∙ some_first (lookup (is_text a) told) (lookup (is_text a) fresh_ones)
      ∙ (λ i. key_found told a i || given_found front (stays ++ news_of told) 0 others a i)

  -- a name that neither stays nor has one from the earlier mapping gets a fresh one
  among_others : (a : List ℕ) → is_taken stays a ≡ false → is_taken (keys_of told) a ≡ false → is_taken names a ≡ true
      → is_taken others a ≡ true
  among_others a stay none is =
      once_taken (filter (λ b. not (is_taken (stays ++ keys_of told) b)) names) a
      ∙ kept_taken (λ b. not (is_taken (stays ++ keys_of told) b)) a names
      (ap not (taken_parts stays (keys_of told) a ∙ (λ i. stay i || none i)))
      ∙ is

  -- and those that get a fresh one are such
  other_is : (a : List ℕ) → is_taken others a ≡ true → (is_taken stays a ≡ false) × (is_taken names a ≡ true)
  other_is a is =
      let two = passes_of (λ b. not (is_taken (stays ++ keys_of told) b)) a names
      (sym (once_taken (filter (λ b. not (is_taken (stays ++ keys_of told) b)) names) a) ∙ is) in (
        (or_parts (is_taken stays a) (is_taken (keys_of told) a)
            (sym (taken_parts stays (keys_of told) a) ∙ not-true (is_taken (stays ++ keys_of told) a) two.0)).0,
        two.1,
      )

  named_there : (a : List ℕ) → IsNamed stays names a → IsNamed stays (keys_of (told ++ fresh_ones)) a
  named_there a (inl is) = inl is
  named_there a (inr is) = by (is_taken stays a) refl (is_taken (keys_of told) a) refl
    where
      by : (b : Bool) → is_taken stays a ≡ b → (c : Bool) → is_taken (keys_of told) a ≡ c
          → IsNamed stays (keys_of (told ++ fresh_ones)) a
      by true e c f = inl e
      by false e true f = inr (sym (key_found (told ++ fresh_ones) a) ∙ has_entry a
          ∙ ap (λ (b : Bool). b || is_taken others a) f)
      by false e false f = inr (sym (key_found (told ++ fresh_ones) a) ∙ has_entry a
          ∙ (λ i. f i || among_others a e f is i))

  -- no two names come to one
  pub names_differ : (a b : List ℕ) → IsNamed stays names a → IsNamed stays names b
      → given_name old stays front names a ≡ given_name old stays front names b → a ≡ b
  names_differ a b named other same =
      let one = applied_told old stays names in
      let taken = stays ++ news_of told in
      let free = all_at (λ (p : List ℕ × List ℕ). is_taken taken p.1 ≡ false) fresh_ones
      (λ k e at. (given_free front taken 0 others k e at).3) in
      let parts = free_parts stays (news_of told) fresh_ones free in
      table_differ stays (told ++ fresh_ones)
      (all_append (λ (p : List ℕ × List ℕ). is_taken stays p.1 ≡ false) told fresh_ones one.free parts.0)
      (stand_append told fresh_ones one.once
      (once_at fresh_ones (λ j k d e p q s. given_once front taken 0 others j k d e p q s)) parts.1)
      a b (named_there a named) (named_there b other) same

  not_key : (t : NameTable) (a : List ℕ) → AllByRecursion (λ (e : List ℕ × List ℕ). is_taken stays e.0 ≡ false) t
      → is_taken stays a ≡ true → is_taken (keys_of t) a ≡ false
  not_key [] a all is = refl
  not_key (e ∷ t) a all is = by (is_text a e.0) refl (not_key t a all.1 is)
    where
      by : (b : Bool) → is_text a e.0 ≡ b → is_taken (keys_of t) a ≡ false → (b || is_taken (keys_of t) a) ≡ false
      by true f rest = absurd (let w : true ≡ false = sym is ∙ ap (is_taken stays) (same_text a e.0 f) ∙ all.0 in cc)
      by false f rest = rest

  -- a name that stays is its own new one
  pub name_stays : (a : List ℕ) → is_taken stays a ≡ true → given_name old stays front names a ≡ a
  name_stays a is =
      ap (λ (o : Option (List ℕ)). or_else o a)
      (none_of (lookup (is_text a) (told ++ fresh_ones))
      (has_entry a
      ∙ (λ i. not_key told a (applied_told old stays names).staying is i || other (is_taken others a) refl i)))
    where
      other : (b : Bool) → is_taken others a ≡ b → b ≡ false
      other true e = absurd (let w : true ≡ false = sym is ∙ (other_is a e).0 in cc)
      other false e = refl

  -- what a name's new one can be: itself, what the earlier mapping tells, or a fresh one, which then don't stay
  pub given_cases : (a : List ℕ)
      → (given_name old stays front names a ≡ a)
      ⊎ (((old a ≡ Some (given_name old stays front names a)) × (is_taken stays (given_name old stays front names a) ≡ false)
      × (is_taken stays a ≡ false) × (is_taken names a ≡ true))
      ⊎ ((n : ℕ) × (given_name old stays front names a ≡ fresh front n) × (is_taken stays (fresh front n) ≡ false)
      × (is_taken stays a ≡ false) × (is_taken names a ≡ true)))
  given_cases a = by (lookup (is_text a) told) refl (lookup (is_text a) fresh_ones) refl
    where
      new : (o p : Option (List ℕ)) → lookup (is_text a) told ≡ o → lookup (is_text a) fresh_ones ≡ p
          → given_name old stays front names a ≡ or_else (or_first o p) a
      new o p f g = ap (λ (r : Option (List ℕ)). or_else r a) (lookup_parts a told fresh_ones ∙ (λ i. or_first (f i) (g i)))

      by : (o : Option (List ℕ)) → lookup (is_text a) told ≡ o → (p : Option (List ℕ))
          → lookup (is_text a) fresh_ones ≡ p
          → (given_name old stays front names a ≡ a)
          ⊎ (((old a ≡ Some (given_name old stays front names a))
          × (is_taken stays (given_name old stays front names a) ≡ false)
          × (is_taken stays a ≡ false) × (is_taken names a ≡ true))
          ⊎ ((n : ℕ) × (given_name old stays front names a ≡ fresh front n) × (is_taken stays (fresh front n) ≡ false)
          × (is_taken stays a ≡ false) × (is_taken names a ≡ true)))
      by (Some v) f p g =
          let one = applied_told old stays names in
          let is : given_name old stays front names a ≡ v = new (Some v) p f g in
          inr (inl (
            found_has (λ (e : List ℕ × List ℕ). old e.0 ≡ Some e.1) told a v one.told f ∙ ap Some (sym is),
            ap (is_taken stays) is
                ∙ found_has (λ (e : List ℕ × List ℕ). is_taken stays e.1 ≡ false) told a v one.free f,
            found_has (λ (e : List ℕ × List ℕ). is_taken stays e.0 ≡ false) told a v one.staying f,
            found_has (λ (e : List ℕ × List ℕ). is_taken names e.0 ≡ true) told a v one.named f,
          ))
      by None f (Some v) g =
          let h = entry_of a fresh_ones v g in
          let free = given_free front (stays ++ news_of told) 0 others h.0 h.1 h.2 in
          let own = other_is a (given_one front (stays ++ news_of told) 0 others a v g) in
          inr (inr (
            free.0,
            new None (Some v) f g ∙ sym h.4 ∙ free.2,
            ap (is_taken stays) (sym free.2)
                ∙ (or_parts (is_taken stays h.1.1) (is_taken (news_of told) h.1.1)
                (sym (taken_parts stays (news_of told) h.1.1) ∙ free.3)).0,
            own.0,
            own.1,
          ))
      by None f None g = inl (new None None f g)

-- ---- classes, fields and methods

-- what a class is given within its package is one of it
given_in : (front : List ℕ) (o : Option (List ℕ)) (v : List ℕ) → if_in_package front o ≡ Some v → front_of v ≡ front
given_in front None v e = absurd cc
given_in front (Some new) v e = by (is_text front (front_of new)) refl e
  where
    by : (b : Bool) → is_text front (front_of new) ≡ b → cond b (Some new) None ≡ Some v → front_of v ≡ front
    by true is f = ap front_of (sym (same_Some new v f)) ∙ sym (same_text front (front_of new) is)
    by false is f = absurd cc

-- each stays in its package
pub packages_stay : PackagesStay
packages_stay old stays names a =
    by (given_cases (λ b. if_in_package (front_of a) (lookup (is_text b) old)) stays (front_of a)
    (in_package (front_of a) names) a)
  where
    by : (class_given old stays names a ≡ a)
        ⊎ (((if_in_package (front_of a) (lookup (is_text a) old) ≡ Some (class_given old stays names a))
        × (is_taken stays (class_given old stays names a) ≡ false)
        × (is_taken stays a ≡ false) × (is_taken (in_package (front_of a) names) a ≡ true))
        ⊎ ((n : ℕ) × (class_given old stays names a ≡ fresh (front_of a) n)
        × (is_taken stays (fresh (front_of a) n) ≡ false)
        × (is_taken stays a ≡ false) × (is_taken (in_package (front_of a) names) a ≡ true)))
        → front_of (class_given old stays names a) ≡ front_of a
    by (inl same) = ap front_of same
    by (inr (inl told)) = given_in (front_of a) (lookup (is_text a) old) (class_given old stays names a) told.0
    by (inr (inr new)) = ap front_of new.1 ∙ fresh_front a new.0

in_its_package : (stays names : List (List ℕ)) (a : List ℕ) → IsNamed stays names a
    → IsNamed stays (in_package (front_of a) names) a
in_its_package stays names a (inl is) = inl is
in_its_package stays names a (inr is) =
    inr (kept_taken (λ b. is_text (front_of a) (front_of b)) a names (text_is (front_of a) (front_of a) refl) ∙ is)

pub classes_differ : ClassesDiffer
classes_differ old stays names a b named other same =
    let one : front_of a ≡ front_of b =
    sym (packages_stay old stays names a) ∙ ap front_of same ∙ packages_stay old stays names b in
    names_differ (λ c. if_in_package (front_of a) (lookup (is_text c) old)) stays (front_of a)
    (in_package (front_of a) names) a b (in_its_package stays names a named)
    (subst (λ (p : List ℕ). IsNamed stays (in_package p names) b) (sym one) (in_its_package stays names b other))
    (same ∙ ap (λ (p : List ℕ). given_name (λ c. if_in_package p (lookup (is_text c) old)) stays p (in_package p names) b)
    (sym one))

pub fields_differ : FieldsDiffer
fields_differ old stays names a b named other same =
    names_differ (λ c. lookup (is_text c) old) stays [] names a b named other same

pub methods_differ : MethodsDiffer
methods_differ old fixed methods d a b named other same =
    names_differ (λ c. lookup (is_same_method (c, d)) old) (stays_for fixed d) [] (of_type d methods) a b named other same

pub classes_stay : ClassesStay
classes_stay old stays names a is =
    name_stays (λ c. if_in_package (front_of a) (lookup (is_text c) old)) stays (front_of a)
    (in_package (front_of a) names) a is

pub fields_stay : FieldsStay
fields_stay old stays names a is = name_stays (λ c. lookup (is_text c) old) stays [] names a is

pub methods_stay : MethodsStay
methods_stay old fixed methods a d is =
    name_stays (λ c. lookup (is_same_method (c, d)) old) (stays_for fixed d) [] (of_type d methods) a is
