-- Members in the order of their keys.
use Rattle.std.proofs.Common.{◌≡◌, ⊎_elim, ℕ, zero, suc, ◌+◌, ◌<◌, ◌≤◌, ◌&&◌, Bool, true, false, cond}
use Rattle.std.proofs.Common.{nat_eq, nat_lt, List, [], ◌∷◌, ◌++◌, length, get_or, slice_get, Option, Some, None}
use Rattle.std.proofs.Common.{Ordering, Less, Equal}
use Rattle.std.proofs.Common.{Greater, refl, sym, ap, subst, ◌∙◌, arith}
use Rattle.std.specs.Cmp.{IsTotalOrder}
use Rattle.std.specs.Cmp.Lexicographic.{slice_cmp}
use Rattle.std.specs.List.{Contains}
use Rattle.std.specs.List.Sorted.{IsPermutation, IsSorted}
use Rattle.std.specs.Option.{option_and_then}
use Rattle.std.specs.Ordering.{is_eq, is_lt, nat_cmp, ordering_index, ordering_reverse, ordering_then}
use Rattle.std.proofs.lemmas.Bool.{cases_lt, le-ltb, lt-ltb, and_parts}
use Rattle.std.proofs.lemmas.Cmp.{nat_cmp_total, nat_list_cmp_total, on_total, then_total, tied_itself}
use Rattle.std.proofs.lemmas.List.Elements.{All-nil, All-push, All-weaker, Contains-append_left, Contains-push}
use Rattle.std.proofs.lemmas.Option.{same_Some, get_or_from_slice_get, slice_get-get_or, slice_get_within}
use Rattle.std.proofs.lemmas.List.Sorted.{All-permutation, Contains-permutation, ranks_by, searchable_from_sorted}
use Rattle.std.proofs.lemmas.List.Sorted.{sorted_far}
use Rattle.std.proofs.lemmas.Map.Text.{is_eq-slice_cmp}
use Rattle.jv_base.specs.Names.{is_text}
use Rattle.jv_base.proofs.Equality.{text_Decides}
use Rattle.class_model.specs.declared.class.Class.{Class}
use Rattle.class_pool.specs.bodies.ByName.{HasKeys, IsPlace, Key, is_before, key_cmp, key_of, named_in, number_at}
use Rattle.class_pool.specs.Members.{member_named}
use Rattle.class_pool.proofs.NamedMembers.{first_below, is_wanted, member_first}

-- ---- the order

pub key_total : IsTotalOrder key_cmp
key_total =
    then_total (on_total (λ (x : Key). x.0) nat_list_cmp_total)
    (then_total (on_total (λ (x : Key). x.1.0) nat_list_cmp_total) (on_total (λ (x : Key). x.1.1) nat_cmp_total))

lt_none : (o : Ordering) → is_lt o ≡ true → ordering_index o ≡ 0
lt_none Less h = refl
lt_none Equal h = absurd cc
lt_none Greater h = absurd cc

none_lt : (o : Ordering) → ordering_index o ≡ 0 → is_lt o ≡ true
none_lt Less h = refl
none_lt Equal h = absurd (omega (arith, h))
none_lt Greater h = absurd (omega (arith, h))

-- what stands before stands before with all in front of it
pub before_on : (keys : List Key) (name ty : List ℕ) (i j : ℕ) (d : Key) → IsSorted key_cmp keys → i ≤ j
    → j < length keys → is_before name ty (get_or keys j d) ≡ true → is_before name ty (get_or keys i d) ≡ true
before_on keys name ty i j d sorted low within h =
    let rises = searchable_from_sorted key_total (λ (k : Key). k) keys (name, (ty, 0)) sorted i j d low within in
    let none = lt_none (key_cmp (get_or keys j d) (name, (ty, 0))) h in
    none_lt (key_cmp (get_or keys i d) (name, (ty, 0))) (omega (arith, rises, none))

pub not_before_on : (keys : List Key) (name ty : List ℕ) (i j : ℕ) (d : Key) → IsSorted key_cmp keys → i ≤ j
    → j < length keys → is_before name ty (get_or keys i d) ≡ false → is_before name ty (get_or keys j d) ≡ false
not_before_on keys name ty i j d sorted low within h =
    by (is_before name ty (get_or keys j d)) refl
  where
    by : (b : Bool) → is_before name ty (get_or keys j d) ≡ b → b ≡ false
    by false e = refl
    by true e = absurd (let q : true ≡ false = sym (before_on keys name ty i j d sorted low within e) ∙ h in cc)

is_less : (n : ℕ) (t u : Bool) → nat_lt n 0 ≡ t → is_lt (cond t Less (cond u Equal Greater)) ≡ false
is_less n true u h = absurd (let q : true ≡ false = sym h ∙ le-ltb n 0 (omega arith) in cc)
is_less n false true h = refl
is_less n false false h = refl

no_less : (n : ℕ) → is_lt (nat_cmp n 0) ≡ false
no_less n = is_less n (nat_lt n 0) _ refl

-- how a key is compared with a name and a descriptor
pub compared : (key : Key) (name ty : List ℕ) (o : Ordering) → slice_cmp nat_cmp key.0 name ≡ o
    → is_before name ty key ≡ is_lt (ordering_then o (slice_cmp nat_cmp key.1.0 ty))
compared key name ty o e =
    ap (λ (p : Ordering). is_lt (ordering_then p (ordering_then (slice_cmp nat_cmp key.1.0 ty) (nat_cmp key.1.1 0)))) e
    ∙ by o (slice_cmp nat_cmp key.1.0 ty)
  where
    by : (o p : Ordering) → is_lt (ordering_then o (ordering_then p (nat_cmp key.1.1 0))) ≡ is_lt (ordering_then o p)
    by Less p = refl
    by Greater p = refl
    by Equal Less = refl
    by Equal Greater = refl
    by Equal Equal = no_less key.1.1

-- ---- the keys of a class

pub longer : (c : Class) (n : ℕ) (keys : List Key) → HasKeys c n keys → HasKeys c (n + 1) (keys ++ key_of c n ∷ [])
longer c n keys has = record {
  all = λ k low. ⊎_elim
      (λ less. Contains-append_left keys (key_of c n ∷ []) (key_of c k) (has.all k less))
      (λ over.
      let same : n ≡ k = omega (arith, low, over) in
      subst (λ (j : ℕ). Contains (keys ++ key_of c n ∷ []) (key_of c j)) same (Contains-push keys (key_of c n)))
      (cases_lt k n);
  only =
      All-push (λ key. (key.1.1 < n + 1) × (key ≡ key_of c key.1.1)) keys (key_of c n)
      (All-weaker (λ key. (key.1.1 < n) × (key ≡ key_of c key.1.1))
      (λ key. (key.1.1 < n + 1) × (key ≡ key_of c key.1.1))
      (λ key h. let low = h.0 in (omega (arith, low), h.1)) keys has.only)
      (omega arith, refl);
}

pub no_keys : (c : Class) → HasKeys c 0 []
no_keys c = record {
  all = λ k low. absurd (omega (arith, low));
  only = All-nil (λ key. (key.1.1 < 0) × (key ≡ key_of c key.1.1));
}

-- in another order they are the same
pub moved_keys : (c : Class) (n : ℕ) (old new : List Key) → IsPermutation old new → HasKeys c n old → HasKeys c n new
moved_keys c n old new moves has = record {
  all = λ k low. Contains-permutation old new (key_of c k) moves (has.all k low);
  only = All-permutation (λ key. (key.1.1 < n) × (key ≡ key_of c key.1.1)) old new moves has.only;
}

-- ---- the first of the members

kept : (q : ℕ → Bool) (n : ℕ) (found : Option ℕ) → ((j : ℕ) → j < n → q j ≡ false) → first_below q n found ≡ found
kept q zero found none = refl
kept q (suc n) found none =
    ap (λ (t : Bool). first_below q n (cond t (Some n) found)) (none n (omega arith))
    ∙ kept q n found (λ j low. none j (omega (arith, low)))

first_at : (q : ℕ → Bool) (n k : ℕ) (found : Option ℕ) → k < n → q k ≡ true → ((j : ℕ) → j < k → q j ≡ false)
    → first_below q n found ≡ Some k
first_at q zero k found low is none = absurd (omega (arith, low))
first_at q (suc n) k found low is none =
    ⊎_elim
    (λ less. first_at q n k (cond (q n) (Some n) found) less is none)
    (λ over.
    let same : k ≡ n = omega (arith, low, over) in
    ap (λ (t : Bool). first_below q n (cond t (Some n) found)) (ap q (sym same) ∙ is)
    ∙ kept q n (Some n) (λ j less. none j (omega (arith, less, same))) ∙ ap Some (sym same))
    (cases_lt k n)

-- ---- the member that is found

equal_is : (xs ys : List ℕ) → slice_cmp nat_cmp xs ys ≡ Equal → is_text xs ys ≡ true
equal_is xs ys h = sym (is_eq-slice_cmp xs ys) ∙ ap is_eq h

-- neither before nor behind: the same
neither : (o : Ordering) → is_lt o ≡ false → is_lt (ordering_reverse o) ≡ false → o ≡ Equal
neither Less h k = absurd cc
neither Equal h k = refl
neither Greater h k = absurd cc

less_first : (o p : Ordering) → is_lt (ordering_then o p) ≡ false → is_lt o ≡ false
less_first Less p h = h
less_first Equal p h = refl
less_first Greater p h = refl

-- a key that stands between two of a name and a descriptor has them
between : (key : Key) (name ty : List ℕ) (j : ℕ) → is_before name ty key ≡ false
    → is_lt (key_cmp (name, (ty, j)) key) ≡ false → (is_text key.0 name ≡ true) × (is_text key.1.0 ty ≡ true)
between key name ty j low high = (equal_is key.0 name names, equal_is key.1.0 ty types)
  where
    names : slice_cmp nat_cmp key.0 name ≡ Equal
    names =
        neither (slice_cmp nat_cmp key.0 name)
        (less_first (slice_cmp nat_cmp key.0 name)
        (ordering_then (slice_cmp nat_cmp key.1.0 ty) (nat_cmp key.1.1 0)) low)
        (ap is_lt (sym (nat_list_cmp_total.antisymm name key.0))
        ∙ less_first (slice_cmp nat_cmp name key.0)
        (ordering_then (slice_cmp nat_cmp ty key.1.0) (nat_cmp j key.1.1)) high)

    other : slice_cmp nat_cmp name key.0 ≡ Equal
    other = nat_list_cmp_total.antisymm name key.0 ∙ ap ordering_reverse names

    types : slice_cmp nat_cmp key.1.0 ty ≡ Equal
    types =
        neither (slice_cmp nat_cmp key.1.0 ty)
        (less_first (slice_cmp nat_cmp key.1.0 ty) (nat_cmp key.1.1 0)
        (sym (ap (λ (o : Ordering). is_lt (ordering_then o
        (ordering_then (slice_cmp nat_cmp key.1.0 ty) (nat_cmp key.1.1 0)))) names) ∙ low))
        (ap is_lt (sym (nat_list_cmp_total.antisymm ty key.1.0))
        ∙ less_first (slice_cmp nat_cmp ty key.1.0) (nat_cmp j key.1.1)
        (sym (ap (λ (o : Ordering). is_lt (ordering_then o
        (ordering_then (slice_cmp nat_cmp ty key.1.0) (nat_cmp j key.1.1)))) other) ∙ high))

module _ (c : Class) (keys : List Key) (name ty : List ℕ) (place : ℕ)
    (has : HasKeys c (length c.fields + length c.methods) keys) (sorted : IsSorted key_cmp keys)
    (at : IsPlace keys name ty place place) where
  abbrev count : ℕ
  count = length c.fields + length c.methods

  wanted_key : (j : ℕ) → is_wanted c name ty j ≡ true → key_of c j ≡ (name, (ty, j))
  wanted_key j h =
      let parts = and_parts (is_text (named_in c j).0 name) (is_text ty (named_in c j).1) h in
      let names : (named_in c j).0 ≡ name = (text_Decides (named_in c j).0 name).0 parts.0 in
      let types : (named_in c j).1 ≡ ty = sym ((text_Decides ty (named_in c j).1).0 parts.1) in
      λ i. (names i, (types i, j))

  -- a wanted member stands at the place or behind it
  behind_place : (j : ℕ) → j < count → is_wanted c name ty j ≡ true
      → (p : ℕ) × (place ≤ p) × (p < length keys) × (get_or keys p (key_of c j) ≡ (name, (ty, j)))
  behind_place j low h =
      let found = has.all j low in
      let p : ℕ = found.0 in
      let is : get_or keys p (key_of c j) ≡ (name, (ty, j)) = found.2 ∙ wanted_key j h in
      ⊎_elim
      (λ less. absurd
      (let first = at.before p (key_of c j) less in
      let none : is_before name ty (name, (ty, j)) ≡ false =
      compared (name, (ty, j)) name ty Equal (tied_itself nat_list_cmp_total name)
      ∙ ap is_lt (tied_itself nat_list_cmp_total ty) in
      let q : true ≡ false = sym first ∙ ap (is_before name ty) is ∙ none in
      cc))
      (λ over. (p, over, found.1, is))
      (cases_lt p place)

  -- where the key at the place has them, it is that of the first member
  pub found_at : (key : Key) → slice_get keys place ≡ Some key → is_text key.0 name ≡ true
      → is_text key.1.0 ty ≡ true → Some key.1.1 ≡ member_named c name ty
  found_at key there names types =
      sym (first_at (is_wanted c name ty) count key.1.1 None own.0 wanted none) ∙ member_first c name ty
    where
      within : place < length keys
      within = slice_get_within keys place key there

      read : get_or keys place key ≡ key
      read = get_or_from_slice_get keys place key key there

      own : (key.1.1 < count) × (key ≡ key_of c key.1.1)
      own = subst (λ (k : Key). (k.1.1 < count) × (k ≡ key_of c k.1.1)) read (has.only place key within)

      is : key ≡ (name, (ty, key.1.1))
      is =
          let n : key.0 ≡ name = (text_Decides key.0 name).0 names in
          let t : key.1.0 ≡ ty = (text_Decides key.1.0 ty).0 types in
          λ i. (n i, (t i, key.1.1))

      wanted : is_wanted c name ty key.1.1 ≡ true
      wanted =
          let k : key_of c key.1.1 ≡ (name, (ty, key.1.1)) = sym own.1 ∙ is in
          ap (λ (x : Key). is_text x.0 name && is_text ty x.1.0) k
          ∙ ap (λ (b : Bool). b && is_text ty ty) ((text_Decides name name).1 refl) ∙ (text_Decides ty ty).1 refl

      none : (j : ℕ) → j < key.1.1 → is_wanted c name ty j ≡ false
      none j less = by (is_wanted c name ty j) refl
        where
          by : (b : Bool) → is_wanted c name ty j ≡ b → b ≡ false
          by false e = refl
          by true e = absurd
              (let low = own.0 in
              let far = behind_place j (omega (arith, less, low)) e in
              let up : is_lt (key_cmp (get_or keys far.0 (key_of c j)) (get_or keys place (key_of c j))) ≡ false =
              sorted_far (λ (x y : Key). is_lt (key_cmp x y))
              (ranks_by key_total (λ (k : Key). k)) keys sorted place far.0
              (key_of c j) far.1 far.2 in
              let here : get_or keys place (key_of c j) ≡ (name, (ty, key.1.1)) =
              get_or_from_slice_get keys place key (key_of c j) there ∙ is in
              let two : is_lt (key_cmp (name, (ty, j)) (name, (ty, key.1.1))) ≡ false =
              ap (λ (x : Key). is_lt (key_cmp x (name, (ty, key.1.1)))) (sym far.3)
              ∙ ap (λ (y : Key). is_lt (key_cmp (get_or keys far.0 (key_of c j)) y)) (sym here) ∙ up in
              let less_is : is_lt (key_cmp (name, (ty, j)) (name, (ty, key.1.1))) ≡ true =
              ap (λ (o : Ordering). is_lt
              (ordering_then o (ordering_then (slice_cmp nat_cmp ty ty) (nat_cmp j key.1.1))))
              (tied_itself nat_list_cmp_total name)
              ∙ ap (λ (o : Ordering). is_lt (ordering_then o (nat_cmp j key.1.1))) (tied_itself nat_list_cmp_total ty)
              ∙ ap (λ (t : Bool). is_lt (cond t Less (cond (nat_eq j key.1.1) Equal Greater)))
              (lt-ltb j key.1.1 less) in
              let q : true ≡ false = sym less_is ∙ two in
              cc)

  -- where it has not, or there is none, no member has them
  pub none_at : ((key : Key) → slice_get keys place ≡ Some key
      → (is_text key.0 name && is_text key.1.0 ty) ≡ true → ⊥) → None ≡ member_named c name ty
  none_at other = sym (kept (is_wanted c name ty) count None none) ∙ member_first c name ty
    where
      none : (j : ℕ) → j < count → is_wanted c name ty j ≡ false
      none j low = by (is_wanted c name ty j) refl
        where
          by : (b : Bool) → is_wanted c name ty j ≡ b → b ≡ false
          by false e = refl
          by true e = absurd
              (let far = behind_place j low e in
              let up-low = far.1 in
              let up-in = far.2 in
              let here : Key = get_or keys place (key_of c j) in
              let within : place < length keys = omega (arith, up-low, up-in) in
              let up : is_lt (key_cmp (get_or keys far.0 (key_of c j)) here) ≡ false =
              sorted_far (λ (x y : Key). is_lt (key_cmp x y))
              (ranks_by key_total (λ (k : Key). k)) keys sorted place far.0
              (key_of c j) far.1 far.2 in
              let has-both =
              between here name ty j (at.behind place (key_of c j) (omega arith) within)
              (ap (λ (x : Key). is_lt (key_cmp x here)) (sym far.3) ∙ up) in
              other here (slice_get-get_or keys place (key_of c j) within)
              (ap (λ (t : Bool). t && is_text here.1.0 ty) has-both.0 ∙ has-both.1))

  -- so it is the first member in any case
  pub number_found : number_at keys place name ty ≡ member_named c name ty
  number_found = by (slice_get keys place) refl
    where
      by : (o : Option Key) → slice_get keys place ≡ o → number_at keys place name ty ≡ member_named c name ty
      by None e =
          ap (option_and_then (λ key. cond (is_text key.0 name && is_text key.1.0 ty) (Some key.1.1) None)) e
          ∙ none_at (λ key is both_are. absurd (let q : None ≡ Some key = sym e ∙ is in cc))
      by (Some key) e =
          ap (option_and_then (λ key. cond (is_text key.0 name && is_text key.1.0 ty) (Some key.1.1) None)) e
          ∙ one (is_text key.0 name && is_text key.1.0 ty) refl
        where
          one : (b : Bool) → (is_text key.0 name && is_text key.1.0 ty) ≡ b
              → cond b (Some key.1.1) None ≡ member_named c name ty
          one true t =
              let p = and_parts (is_text key.0 name) (is_text key.1.0 ty) t in
              found_at key e p.0 p.1
          one false t = none_at
              (λ other is both_are. absurd
              (let same : key ≡ other = same_Some key other (sym e ∙ is) in
              let q : true ≡ false =
              sym both_are ∙ ap (λ (k : Key). is_text k.0 name && is_text k.1.0 ty) (sym same) ∙ t in
              cc))
