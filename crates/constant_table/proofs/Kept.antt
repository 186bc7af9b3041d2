-- A table of constants keeps the index of each.
use Rattle.std.proofs.Common.{◌≡◌, ℕ, ◌+◌, ◌-◌, take, true, false, cond, List, [], ◌∷◌, ◌++◌, length}
use Rattle.std.proofs.Common.{Option, Some, None, Result, Ok, Err, refl, sym, ap, subst, ◌∙◌, arith}
use Rattle.std.specs.Prelude.{is_some, OnOk, OnErr}
use Rattle.std.specs.Result.{is_err}
use Rattle.std.specs.List.{position_from, list_any}
use Rattle.std.specs.Option.{unwrap_or}
use Rattle.indexmap.specs.IndexSet.{insert_key}
use Rattle.constant_table.specs.declared.key.Key.{Key}
use Rattle.constant_table.specs.bodies.Keys.{same_key, index_in, IsIndexed}
use Rattle.constant_table.proofs.Indexed.{index_is, any_is, indexed_new, indexed_again}
use Rattle.constant_table.proofs.SameKey.{key_Decides}

-- what holds where a call answered Ok, and where it answered Err
pub from_ok : {A E P : Type 0} (r : Result A E) → is_err r ≡ false → OnOk r P → P
from_ok (Ok x) h p = p
from_ok (Err e) h p = absurd cc

pub from_err : {A E P : Type 0} (r : Result A E) → is_err r ≡ true → OnErr r P → P
from_err (Ok x) h p = absurd cc
from_err (Err e) h p = p

take_front : (ks ys : List Key) → take (length ks) (ks ++ ys) ≡ ks
take_front [] ys = refl
take_front (k ∷ ks) ys = ap (λ (xs : List Key). k ∷ xs) (take_front ks ys)

-- the last is cut off
pub cut_back : (ks xs : List Key) (k : Key) (n : ℕ) → xs ≡ ks ++ k ∷ [] → n ≡ 1 + length ks → take (n - 1) xs ≡ ks
cut_back ks xs k n is e =
    let f : n - 1 ≡ length ks = omega (arith, e) in
    rw (is, f) (take_front ks (k ∷ []))

module _ (ks : List Key) (index_at : Key → Option ℕ) (k : Key) (kept : IsIndexed ks index_at) where
  -- the index that is kept is the constant's
  pub found_at : (index : ℕ) → Some index ≡ index_at k → index ≡ index_in ks k
  found_at index is =
      let e : Some index ≡ position_from (same_key k) 1 ks = is ∙ kept k in
      ap (λ (o : Option ℕ). unwrap_or o (1 + length ks)) e ∙ index_is (same_key k) 1 ks

  -- where none is kept, the index is the one behind the last
  pub missing_at : (n : ℕ) → None ≡ index_at k → n ≡ length ks → n + 1 ≡ index_in ks k
  missing_at n is e =
      let none : None ≡ position_from (same_key k) 1 ks = is ∙ kept k in
      let f : n + 1 ≡ 1 + length ks = omega (arith, e) in
      f ∙ ap (λ (o : Option ℕ). unwrap_or o (1 + length ks)) none ∙ index_is (same_key k) 1 ks

  -- a new one is kept with the index behind the others
  pub kept_new : (new : Key → Option ℕ) (index : ℕ) → index_at k ≡ None → index ≡ 1 + length ks
      → ((q : Key) → new q ≡ cond (same_key k q) (Some index) (index_at q))
      → IsIndexed (ks ++ k ∷ []) new
  kept_new new index none e updates =
      indexed_new same_key key_Decides 1 ks index_at new k kept none
      (subst (λ n. (q : Key) → new q ≡ cond (same_key k q) (Some n) (index_at q)) e updates)

  -- one that is there stays with its index
  pub kept_again : (index : ℕ) → Some index ≡ index_at k → IsIndexed (ks ++ k ∷ []) index_at
  kept_again index is = indexed_again same_key key_Decides 1 ks index_at k index kept (sym is)

  -- it is put in no more
  pub put_again : (index : ℕ) → Some index ≡ index_at k → ks ≡ insert_key same_key ks k
  put_again index is =
      let e : true ≡ list_any (same_key k) ks = ap is_some (is ∙ kept k) ∙ any_is (same_key k) 1 ks in
      rw (sym e) refl

  -- one that is missing is put behind the others
  pub put_new : index_at k ≡ None → insert_key same_key ks k ≡ ks ++ k ∷ []
  put_new is =
      let e : list_any (same_key k) ks ≡ false = sym (any_is (same_key k) 1 ks) ∙ ap is_some (sym (kept k) ∙ is) in
      rw e refl
