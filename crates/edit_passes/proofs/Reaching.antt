-- What is found is what control reaches.
use Rattle.std.proofs.Common.{ℕ, zero, suc, ◌+◌, ◌-◌, ◌<◌, ◌≤◌, List, [], ◌∷◌, ◌++◌, Option, Some}
use Rattle.std.proofs.Common.{None}
use Rattle.std.proofs.Common.{Bool, true, false, ◌≡◌, ◌⊎◌, inl, inr, refl, sym, ap, ◌∙◌, subst}
use Rattle.std.proofs.Common.{arith, length-append}
use Rattle.std.specs.Prelude.{length, nat_eq, nat_le, nat_lt, not, slice_get, ◌&&◌, ◌||◌, ◌==◌}
use Rattle.std.specs.Prelude.{if◌then◌else◌}
use Rattle.std.proofs.lemmas.Bool.Decides.{leb_tells}
use Rattle.jv_base.proofs.Lists.{all_at, got_left, got_right}
use Rattle.class_model.specs.declared.code.Code.{Code}
use Rattle.class_model.specs.declared.code.Handler.{Handler}
use Rattle.class_model.specs.declared.code.Ins.{Ins}
use Rattle.code_edit.specs.declared.act.Act.{Act}
use Rattle.code_edit.specs.Flow.{covers, goes_elsewhere, next_of, successors_of, targets}
use Rattle.code_edit.specs.Passes.{IsReachEdits, IsReached, TellsReached, entered, first, led_to}
use Rattle.code_edit.specs.Passes.{runs}
use Rattle.code_edit.specs.SoundCode.{IsPlaced, IsSound}
use Rattle.edit_premises.proofs.Places.{get_below}
use Rattle.edit_passes.specs.Found as found
use Rattle.edit_passes.specs.Found.{Found, found_as, found_in, rounds, spread, spread_on, with_all}
use Rattle.edit_passes.specs.Found.{with_entries, with_one}
use Rattle.edit_tables.specs.Marks.{has, none, put}
use Rattle.edit_tables.specs.Places.{counts_from, lives_in}
use Rattle.edit_tables.proofs.Chains.{count, count_le, count_none, count_put}
use Rattle.edit_tables.proofs.Marking.{has_none, has_outside, has_put, none_long, put_long}
use Rattle.edit_tables.proofs.Naming.{opens, opens_tells}
use Rattle.edit_tables.proofs.Telling.{Tells, both, numbers_same, same_number}
use Rattle.edit_tables.proofs.Telling.{told, un_not}

-- ---- lists

got_last : (xs : List ℕ) (x : ℕ) → slice_get (xs ++ x ∷ []) (length xs) ≡ Some x
got_last xs x =
    let z : length xs ≡ length xs + 0 = omega arith in
    ap (slice_get (xs ++ x ∷ [])) z ∙ got_right xs (x ∷ []) 0

split : (a b : Bool) → (a || b) ≡ true → (a ≡ true) ⊎ (b ≡ true)
split true b e = inl refl
split false b e = inr e

order_of : (a b : ℕ) → (a < b) ⊎ (b ≤ a)
order_of a b = by (leb_tells (suc a) b)
  where
    by : ((nat_le (suc a) b ≡ true) × (suc a ≤ b)) ⊎ ((nat_le (suc a) b ≡ false) × (b < suc a))
        → (a < b) ⊎ (b ≤ a)
    by (inl q) = inl (omega (arith, q.1))
    by (inr q) = inr (omega (arith, q.1))

before_end : (xs : List ℕ) (k : ℕ) → slice_get xs k ≡ None → length xs ≤ k
before_end [] k e = omega arith
before_end (x ∷ xs) zero e = absurd cc
before_end (x ∷ xs) (suc k) e = let h = before_end xs k e in omega (arith, h)

-- ---- what stays as more is found

-- nothing that was found is lost, and it stays where it stands
record Grows (f g : Found) : Type 0 where
  more : (at : ℕ) → has f.marks at ≡ true → has g.marks at ≡ true
  front : (k at : ℕ) → slice_get f.order k ≡ Some at → slice_get g.order k ≡ Some at

grows_not : (f : Found) → Grows f f
grows_not f = record { more = λ at e. e; front = λ k at e. e }

grows_both : (f g h : Found) → Grows f g → Grows g h → Grows f h
grows_both f g h a b = record {
  more = λ at e. b.more at (a.more at e);
  front = λ k at e. b.front k at (a.front k at e);
}

module _ (code : Code) (sound : IsSound code) where
  abbrev n : ℕ
  n = length code.ins

  -- what was found is reached, and each of it once in the list
  record IsFine (f : Found) : Type 0 where
    long : length f.marks ≡ n
    only : (at : ℕ) → has f.marks at ≡ true → IsReached code at
    listed : (at : ℕ) → has f.marks at ≡ true → (k : ℕ) × (slice_get f.order k ≡ Some at)
    order : (k at : ℕ) → slice_get f.order k ≡ Some at → IsReached code at
    counted : length f.order ≡ count f.marks

  few : (f : Found) → IsFine f → length f.order ≤ n
  few f fine = let c = count_le f.marks in omega (arith, c, fine.long, fine.counted)

  -- ---- one index more

  abbrev is_new : ℕ → Found → Bool
  is_new at f = nat_lt at (length f.marks) && not (has f.marks at)

  -- it was found before, or stands at the end now
  abbrev IsOne : ℕ → Found → Found → Type 0
  IsOne at f g = (g ≡ f) ⊎ ((at < length f.marks) × (has f.marks at ≡ false)
      × (g ≡ found_as (put at f.marks) (f.order ++ at ∷ [])))

  one_is : (at : ℕ) (f : Found) → IsOne at f (with_one at f)
  one_is at f = by (is_new at f) refl
    where
      by : (b : Bool) → is_new at f ≡ b
          → ((if b then found_as (put at f.marks) (f.order ++ at ∷ []) else f) ≡ f)
          ⊎ ((at < length f.marks) × (has f.marks at ≡ false)
          × ((if b then found_as (put at f.marks) (f.order ++ at ∷ []) else f)
          ≡ found_as (put at f.marks) (f.order ++ at ∷ [])))
      by false e = inl refl
      by true e =
          let x = both _ _ e in
          inr (below (leb_tells (suc at) (length f.marks)) x.0, un_not _ x.1, refl)
        where
          below : ((nat_lt at (length f.marks) ≡ true) × (suc at ≤ length f.marks))
              ⊎ ((nat_lt at (length f.marks) ≡ false) × (length f.marks < suc at))
              → nat_lt at (length f.marks) ≡ true → at < length f.marks
          below (inl q) e = omega (arith, q.1)
          below (inr q) e = absurd (let no : true ≡ false = sym e ∙ q.0 in cc)

  abbrev added : ℕ → Found → Found
  added at f = found_as (put at f.marks) (f.order ++ at ∷ [])

  added_grows : (at : ℕ) (f : Found) → Grows f (added at f)
  added_grows at f = record { more = more; front = front }
    where
      more : (x : ℕ) → has f.marks x ≡ true → has (put at f.marks) x ≡ true
      more x e = by (order_of x (length f.marks))
        where
          by : (x < length f.marks) ⊎ (length f.marks ≤ x) → has (put at f.marks) x ≡ true
          by (inl lt) = has_put at f.marks x lt ∙ ap (λ b. b || nat_eq x at) e
          by (inr le) =
              let no : true ≡ false = sym e ∙ has_outside f.marks x le in absurd cc

      front : (k x : ℕ) → slice_get f.order k ≡ Some x
          → slice_get (f.order ++ at ∷ []) k ≡ Some x
      front k x e = got_left f.order (at ∷ []) k (get_below f.order k x e) ∙ e

  added_fine : (at : ℕ) (f : Found) → IsReached code at → IsFine f → at < length f.marks
      → has f.marks at ≡ false → IsFine (added at f)
  added_fine at f reached fine lt none = record {
    long = put_long at f.marks ∙ fine.long;
    only = only;
    listed = listed;
    order = order;
    counted =
        let l = length-append f.order (at ∷ []) in
        let c = count_put f.marks at lt none in omega (arith, l, c, fine.counted);
  }
    where
      which : (x : ℕ) → has (put at f.marks) x ≡ true → (has f.marks x ≡ true) ⊎ (x ≡ at)
      which x e = by (order_of x (length f.marks))
        where
          new : (has f.marks x ≡ true) ⊎ (nat_eq x at ≡ true)
              → (has f.marks x ≡ true) ⊎ (x ≡ at)
          new (inl q) = inl q
          new (inr q) = inr (numbers_same x at q)

          by : (x < length f.marks) ⊎ (length f.marks ≤ x) → (has f.marks x ≡ true) ⊎ (x ≡ at)
          by (inl l) = new (split _ _ (sym (has_put at f.marks x l) ∙ e))
          by (inr l) =
              let far = subst (λ m. m ≤ x) (sym (put_long at f.marks)) l in
              let no : true ≡ false = sym e ∙ has_outside (put at f.marks) x far in absurd cc

      only : (x : ℕ) → has (put at f.marks) x ≡ true → IsReached code x
      only x e = by (which x e)
        where
          by : (has f.marks x ≡ true) ⊎ (x ≡ at) → IsReached code x
          by (inl q) = fine.only x q
          by (inr q) = subst (IsReached code) (sym q) reached

      listed : (x : ℕ) → has (put at f.marks) x ≡ true
          → (k : ℕ) × (slice_get (f.order ++ at ∷ []) k ≡ Some x)
      listed x e = by (which x e)
        where
          by : (has f.marks x ≡ true) ⊎ (x ≡ at)
              → (k : ℕ) × (slice_get (f.order ++ at ∷ []) k ≡ Some x)
          by (inl q) = let l = fine.listed x q in
              (l.0, (added_grows at f).front l.0 x l.1)
          by (inr q) = (length f.order, got_last f.order at ∙ ap Some (sym q))

      order : (k x : ℕ) → slice_get (f.order ++ at ∷ []) k ≡ Some x → IsReached code x
      order k x e = by (order_of k (length f.order))
        where
          by : (k < length f.order) ⊎ (length f.order ≤ k) → IsReached code x
          by (inl l) = fine.order k x (sym (got_left f.order (at ∷ []) k l) ∙ e)
          by (inr l) =
              let b = get_below (f.order ++ at ∷ []) k x e in
              let long = length-append f.order (at ∷ []) in
              let last : k ≡ length f.order = omega (arith, b, long, l) in
              let one : Some at ≡ Some x =
              sym (got_last f.order at) ∙ ap (slice_get (f.order ++ at ∷ [])) (sym last) ∙ e in
              let same : at ≡ x = cc in
              subst (IsReached code) same reached

  -- after one index more, that is reached and in the code
  record IsMore (f g : Found) : Type 0 where
    fine : IsFine g
    grows : Grows f g
    same : (g ≡ f) ⊎ (length f.order < length g.order)

  more_not : (f : Found) → IsFine f → IsMore f f
  more_not f fine = record { fine = fine; grows = grows_not f; same = inl refl }

  more_both : (f g h : Found) → IsMore f g → IsMore g h → IsMore f h
  more_both f g h a b = record {
    fine = b.fine;
    grows = grows_both f g h a.grows b.grows;
    same = by a.same b.same;
  }
    where
      by : (g ≡ f) ⊎ (length f.order < length g.order)
          → (h ≡ g) ⊎ (length g.order < length h.order)
          → (h ≡ f) ⊎ (length f.order < length h.order)
      by (inl p) (inl q) = inl (q ∙ p)
      by (inl p) (inr q) =
          inr (subst (λ (x : Found). length x.order < length h.order) p q)
      by (inr p) (inl q) =
          inr (subst (λ (x : Found). length f.order < length x.order) (sym q) p)
      by (inr p) (inr q) = inr (omega (arith, p, q))

  one_more : (at : ℕ) (f : Found) → IsReached code at → IsFine f → IsMore f (with_one at f)
  one_more at f reached fine = by (with_one at f) (one_is at f)
    where
      by : (g : Found) → IsOne at f g → IsMore f g
      by g (inl q) = subst (IsMore f) (sym q) (more_not f fine)
      by g (inr q) = subst (IsMore f) (sym q.2) (record {
        fine = added_fine at f reached fine q.0 q.1;
        grows = added_grows at f;
        same = inr (let l = length-append f.order (at ∷ []) in omega (arith, l));
      })

  one_marked : (at : ℕ) (f : Found) → at < n → IsFine f → has (with_one at f).marks at ≡ true
  one_marked at f lt fine = by (has f.marks at) refl
    where
      within : at < length f.marks
      within = subst (λ m. at < m) (sym fine.long) lt

      small : nat_lt at (length f.marks) ≡ true
      small = test (leb_tells (suc at) (length f.marks))
        where
          test : ((nat_lt at (length f.marks) ≡ true) × (suc at ≤ length f.marks))
              ⊎ ((nat_lt at (length f.marks) ≡ false) × (length f.marks < suc at))
              → nat_lt at (length f.marks) ≡ true
          test (inl q) = q.0
          test (inr q) = absurd (omega (arith, q.1, within))

      by : (b : Bool) → has f.marks at ≡ b → has (with_one at f).marks at ≡ true
      by true e =
          ap (λ c. has (if c then added at f else f).marks at)
          (ap (λ c. c && not (has f.marks at)) small ∙ ap not e) ∙ e
      by false e =
          ap (λ c. has (if c then added at f else f).marks at)
          (ap (λ c. c && not (has f.marks at)) small ∙ ap not e)
          ∙ has_put at f.marks at within ∙ ap (λ b. b || nat_eq at at) e ∙ same_number at

  -- ---- several

  all_more : (xs : List ℕ) (f : Found)
      → ((k x : ℕ) → slice_get xs k ≡ Some x → IsReached code x) → IsFine f
      → IsMore f (with_all xs f)
  all_more [] f each fine = more_not f fine
  all_more (x ∷ xs) f each fine =
      let one = one_more x f (each 0 x refl) fine in
      more_both f (with_one x f) (with_all xs (with_one x f)) one
      (all_more xs (with_one x f) (λ k y e. each (suc k) y e) one.fine)

  all_marked : (xs : List ℕ) (f : Found)
      → ((k x : ℕ) → slice_get xs k ≡ Some x → IsReached code x)
      → ((k x : ℕ) → slice_get xs k ≡ Some x → x < n) → IsFine f
      → (k x : ℕ) → slice_get xs k ≡ Some x → has (with_all xs f).marks x ≡ true
  all_marked [] f each within fine k x e = absurd cc
  all_marked (y ∷ xs) f each within fine zero x e =
      let same : y ≡ x = cc in
      let one = one_more y f (each 0 y refl) fine in
      let rest = all_more xs (with_one y f) (λ k z e. each (suc k) z e) one.fine in
      rest.grows.more x
      (subst (λ m. has (with_one y f).marks m ≡ true) same
      (one_marked y f (within 0 y refl) fine))
  all_marked (y ∷ xs) f each within fine (suc k) x e =
      let one = one_more y f (each 0 y refl) fine in
      all_marked xs (with_one y f) (λ k z e. each (suc k) z e) (λ k z e. within (suc k) z e)
      one.fine k x e

  -- ---- successors

  next_below : (at : ℕ) (i : Ins) (k x : ℕ) → slice_get (next_of n at i.op) k ≡ Some x → x < n
  next_below at i k x e = by (goes_elsewhere i.op) (leb_tells (suc (at + 1)) n) k e
    where
      inner : (b : Bool) → (b ≡ true → at + 1 < n) → (k : ℕ)
          → slice_get (if b then (at + 1) ∷ [] else []) k ≡ Some x → x < n
      inner true lt zero e = let same : at + 1 ≡ x = cc in subst (λ m. m < n) same (lt refl)
      inner true lt (suc k) e = absurd cc
      inner false lt k e = absurd cc

      by : (b : Bool) → ((nat_lt (at + 1) n ≡ true) × (suc (at + 1) ≤ n))
          ⊎ ((nat_lt (at + 1) n ≡ false) × (n < suc (at + 1))) → (k : ℕ)
          → slice_get (if b then [] else if nat_lt (at + 1) n then (at + 1) ∷ [] else []) k ≡ Some x
          → x < n
      by true q k e = absurd cc
      by false (inl q) k e = inner (nat_lt (at + 1) n) (λ t. omega (arith, q.1)) k e
      by false (inr q) k e =
          inner (nat_lt (at + 1) n) (λ t. let no : true ≡ false = sym t ∙ q.0 in absurd cc) k e

  below : (at : ℕ) (i : Ins) → slice_get code.ins at ≡ Some i → (k x : ℕ)
      → slice_get (successors_of n at i.op) k ≡ Some x → x < n
  below at i e k x s = by (order_of k (length (next_of n at i.op)))
    where
      nexts : List ℕ
      nexts = next_of n at i.op

      by : (k < length (next_of n at i.op)) ⊎ (length (next_of n at i.op) ≤ k) → x < n
      by (inl lt) =
          next_below at i k x
          (sym (got_left (next_of n at i.op) (targets i.op) k lt) ∙ s)
      by (inr le) =
          let e2 : length (next_of n at i.op) + (k - length (next_of n at i.op)) ≡ k =
          omega (arith, le) in
          all_at (λ t. t < n) (targets i.op) (k - length (next_of n at i.op)) x
          (sound.jump at i e)
          (sym (got_right (next_of n at i.op) (targets i.op) (k - length (next_of n at i.op)))
          ∙ ap (slice_get (next_of n at i.op ++ targets i.op)) e2 ∙ s)

  abbrev leads : ℕ → List ℕ
  leads at = found.leads_from n at (slice_get code.ins at)

  -- where control goes on from an index that it reaches
  leads_reached : (at : ℕ) → IsReached code at → (k x : ℕ) → slice_get (leads at) k ≡ Some x
      → IsReached code x × (x < n)
  leads_reached at reached k x s = by (slice_get code.ins at) refl s
    where
      by : (o : Option Ins) → slice_get code.ins at ≡ o
          → slice_get (found.leads_from n at o) k ≡ Some x → IsReached code x × (x < n)
      by None e t = absurd cc
      by (Some i) e t = (led_to at k i reached e t, below at i e k x t)

  -- ---- all to which control goes on

  -- from each of those up to a number
  abbrev AreSpread : Found → ℕ → Type 0
  AreSpread f next = (j at k x : ℕ) → j < next → slice_get f.order j ≡ Some at
      → slice_get (leads at) k ≡ Some x → has f.marks x ≡ true

  record IsSpread (f g : Found) : Type 0 where
    more : IsMore f g
    all : AreSpread g (length g.order)

  enough : (f : Found) (next : ℕ) → length f.order ≤ next → AreSpread f next
      → AreSpread f (length f.order)
  enough f next le are j at k x lt o s = are j at k x (omega (arith, lt, le)) o s

  one_spread : (f : Found) (next at : ℕ) → IsFine f → slice_get f.order next ≡ Some at
      → AreSpread f next → AreSpread (with_all (leads at) f) (suc next)
  one_spread f next at fine here are j y k x lt o s = by (order_of j next)
    where
      reached : IsReached code at
      reached = fine.order next at here

      more : IsMore f (with_all (leads at) f)
      more = all_more (leads at) f (λ k x s. (leads_reached at reached k x s).0) fine

      by : (j < next) ⊎ (next ≤ j) → has (with_all (leads at) f).marks x ≡ true
      by (inl l) =
          let in_f : j < length f.order =
          (let b = get_below f.order next at here in omega (arith, b, l)) in
          let z = found_in_list f.order j in_f in
          let one : Some z.0 ≡ Some y = sym (more.grows.front j z.0 z.1) ∙ o in
          let same : z.0 ≡ y = cc in
          more.grows.more x
          (are j y k x l (subst (λ m. slice_get f.order j ≡ Some m) same z.1) s)
        where
          found_in_list : (xs : List ℕ) (j : ℕ) → j < length xs
              → (z : ℕ) × (slice_get xs j ≡ Some z)
          found_in_list [] j lt = absurd (omega (arith, lt))
          found_in_list (z ∷ xs) zero lt = (z, refl)
          found_in_list (z ∷ xs) (suc j) lt = found_in_list xs j (omega (arith, lt))
      by (inr l) =
          let last : j ≡ next = omega (arith, lt, l) in
          let there = more.grows.front next at here in
          let one : Some at ≡ Some y =
          sym there ∙ ap (slice_get (with_all (leads at) f).order) (sym last) ∙ o in
          let same : at ≡ y = cc in
          all_marked (leads at) f (λ k x s. (leads_reached at reached k x s).0)
          (λ k x s. (leads_reached at reached k x s).1) fine k x
          (subst (λ m. slice_get (leads m) k ≡ Some x) (sym same) s)

  spread_is : (ins : List Ins) (next : ℕ) (f : Found) → IsFine f → AreSpread f next
      → n ≤ next + length ins → IsSpread f (spread ins code next f)
  spread_is [] next f fine are le = record {
    more = more_not f fine;
    all = enough f next (let few_here = few f fine in omega (arith, few_here, le)) are;
  }
  spread_is (i ∷ ins) next f fine are le =
      by (slice_get f.order next) refl
      (λ at e. spread_is ins (suc next) (with_all (leads at) f) (goes at e).fine
      (one_spread f next at fine e are) (omega (arith, le)))
    where
      goes : (at : ℕ) → slice_get f.order next ≡ Some at → IsMore f (with_all (leads at) f)
      goes at e =
          all_more (leads at) f
          (λ k x s. (leads_reached at (fine.order next at e) k x s).0) fine

      by : (o : Option ℕ) → slice_get f.order next ≡ o
          → ((at : ℕ) → slice_get f.order next ≡ Some at
          → IsSpread (with_all (leads at) f) (spread ins code (suc next) (with_all (leads at) f)))
          → IsSpread f
          (spread_on (λ at. spread ins code (suc next) (with_all (leads at) f)) f o)
      by None e rest = record {
        more = more_not f fine;
        all = enough f next (before_end f.order next e) are;
      }
      by (Some at) e rest =
          let r = rest at e in
          record { more = more_both f (with_all (leads at) f) _ (goes at e) r.more; all = r.all }

  spread_all : (f : Found) → IsFine f → IsSpread f (spread code.ins code 0 f)
  spread_all f fine =
      spread_is code.ins 0 f fine (λ j at k x lt o s. absurd (omega (arith, lt))) (omega arith)

  -- ---- entries of handlers

  entries_more : (places : List ℕ) (hs : List Handler) (f : Found)
      → ((k : ℕ) (h : Handler) → slice_get hs k ≡ Some h → opens places h ≡ true
      → IsReached code h.entry) → IsFine f → IsMore f (with_entries places hs f)
  entries_more places [] f each fine = more_not f fine
  entries_more places (h ∷ hs) f each fine =
      by (opens places h) (each 0 h refl)
      (λ g fine'. entries_more places hs g (λ k y e. each (suc k) y e) fine')
    where
      by : (b : Bool) → (b ≡ true → IsReached code h.entry)
          → ((g : Found) → IsFine g → IsMore g (with_entries places hs g))
          → IsMore f (with_entries places hs (if b then with_one h.entry f else f))
      by true r rest =
          let one = one_more h.entry f (r refl) fine in
          more_both f (with_one h.entry f) _ one (rest (with_one h.entry f) one.fine)
      by false r rest = rest f fine

  entries_marked : (places : List ℕ) (hs : List Handler) (f : Found)
      → ((k : ℕ) (h : Handler) → slice_get hs k ≡ Some h → opens places h ≡ true
      → IsReached code h.entry)
      → ((k : ℕ) (h : Handler) → slice_get hs k ≡ Some h → h.entry < n) → IsFine f
      → (k : ℕ) (h : Handler) → slice_get hs k ≡ Some h → opens places h ≡ true
      → has (with_entries places hs f).marks h.entry ≡ true
  entries_marked places [] f each within fine k h e o = absurd cc
  entries_marked places (y ∷ hs) f each within fine zero h e o =
      let same : y ≡ h = cc in
      let here : opens places y ≡ true =
      subst (λ (z : Handler). opens places z ≡ true) (sym same) o in
      let one = one_more y.entry f (each 0 y refl here) fine in
      let rest = entries_more places hs (with_one y.entry f) (λ k z q. each (suc k) z q) one.fine in
      let marked = rest.grows.more y.entry (one_marked y.entry f (within 0 y refl) fine) in
      subst (λ (z : Handler). has (with_entries places hs
      (if opens places y then with_one y.entry f else f)).marks z.entry ≡ true) same
      (ap (λ b. has (with_entries places hs (if b then with_one y.entry f else f)).marks y.entry)
      here ∙ marked)
  entries_marked places (y ∷ hs) f each within fine (suc k) h e o =
      by (opens places y) (each 0 y refl)
      (λ g fine'. entries_marked places hs g (λ k z q. each (suc k) z q)
      (λ k z q. within (suc k) z q) fine' k h e o)
    where
      by : (b : Bool) → (b ≡ true → IsReached code y.entry)
          → ((g : Found) → IsFine g → has (with_entries places hs g).marks h.entry ≡ true)
          → has (with_entries places hs (if b then with_one y.entry f else f)).marks h.entry ≡ true
      by true r rest = let one = one_more y.entry f (r refl) fine in
          rest (with_one y.entry f) one.fine
      by false r rest = rest f fine

  -- the marks of what lives, where they are those of a code
  lives_is : (marks : List Bool) (at : ℕ) → at < length marks → lives_in marks at ≡ has marks at
  lives_is [] at lt = absurd (omega (arith, lt))
  lives_is (b ∷ bs) zero lt = refl
  lives_is (b ∷ bs) (suc at) lt = lives_is bs at (omega (arith, lt))

  module _ (f : Found) (fine : IsFine f) where
    abbrev places : List ℕ
    places = counts_from 0 f.marks

    placed : (k : ℕ) (h : Handler) → slice_get code.handlers k ≡ Some h
        → IsPlaced (length f.marks) h
    placed k h e =
        subst (λ m. IsPlaced m h) (sym fine.long)
        (all_at (IsPlaced n) code.handlers k h sound.handlers e)

    opened : (k : ℕ) (h : Handler) → slice_get code.handlers k ≡ Some h → opens places h ≡ true
        → IsReached code h.entry
    opened k h e o =
        let c = told _ _ (opens_tells f.marks h (placed k h e)) o in
        let lt = subst (λ m. c.0 < m) fine.long c.1 in
        entered c.0 k h (fine.only c.0 (sym (lives_is f.marks c.0 c.1) ∙ c.2)) lt e c.3 refl

    entered_more : IsMore f (found.entered code f)
    entered_more = entries_more places code.handlers f opened fine

    entered_marked : (k from : ℕ) (h : Handler) → slice_get code.handlers k ≡ Some h
        → from < n → has f.marks from ≡ true → covers h from ≡ true
        → has (found.entered code f).marks h.entry ≡ true
    entered_marked k from h e lt m c =
        let within = subst (λ x. from < x) (sym fine.long) lt in
        entries_marked places code.handlers f opened
        (λ k y q. (all_at (IsPlaced n) code.handlers k y sound.handlers q).2) fine k h e
        (holds (opens_tells f.marks h (placed k h e))
        (from, within, lives_is f.marks from within ∙ m, c))
      where
        holds : {b : Bool} {P : Type 0} → Tells b P → P → b ≡ true
        holds (inl q) p = q.0
        holds (inr q) p = absurd (q.1 p)

  -- ---- all

  record IsWhole (f : Found) : Type 0 where
    fine : IsFine f
    first : has f.marks 0 ≡ true
    spread : AreSpread f (length f.order)
    entries : (k from : ℕ) (h : Handler) → slice_get code.handlers k ≡ Some h → from < n
        → has f.marks from ≡ true → covers h from ≡ true → has f.marks h.entry ≡ true

  rounds_whole : (ins : List Ins) (f : Found) → IsFine f → has f.marks 0 ≡ true
      → AreSpread f (length f.order) → n < length f.order + length ins
      → IsWhole (rounds ins code f)
  rounds_whole [] f fine zero_in are lt =
      let most = few f fine in absurd (omega (arith, most, lt))
  rounds_whole (i ∷ ins) f fine zero_in are lt =
      by (length (found.entered code f).order == length f.order) refl
      (λ g fine' in' are' up. rounds_whole ins g fine' in' are' (omega (arith, up, lt)))
    where
      more : IsMore f (found.entered code f)
      more = entered_more f fine

      unchanged : (length (found.entered code f).order == length f.order) ≡ true
          → found.entered code f ≡ f
      unchanged e = same more.same
        where
          same : (found.entered code f ≡ f) ⊎ (length f.order < length (found.entered code f).order)
              → found.entered code f ≡ f
          same (inl q) = q
          same (inr q) =
              let l = numbers_same _ _ e in absurd (omega (arith, l, q))

      longer : (length (found.entered code f).order == length f.order) ≡ false
          → length f.order < length (found.entered code f).order
      longer e = up more.same
        where
          up : (found.entered code f ≡ f) ⊎ (length f.order < length (found.entered code f).order)
              → length f.order < length (found.entered code f).order
          up (inr q) = q
          up (inl q) =
              let l : length (found.entered code f).order ≡ length f.order =
              ap (λ (x : Found). length x.order) q in
              let no : true ≡ false =
              sym (ap (λ m. nat_eq m (length f.order)) l ∙ same_number (length f.order)) ∙ e in
              absurd cc

      by : (b : Bool) → (length (found.entered code f).order == length f.order) ≡ b
          → ((g : Found) → IsFine g → has g.marks 0 ≡ true → AreSpread g (length g.order)
          → length f.order < length g.order → IsWhole (rounds ins code g))
          → IsWhole (if b then found.entered code f
          else rounds ins code (spread code.ins code 0 (found.entered code f)))
      by true e rest =
          let u = unchanged e in
          subst IsWhole (sym u) (record {
            fine = fine;
            first = zero_in;
            spread = are;
            entries = λ k from h x l m c.
                subst (λ (g : Found). has g.marks h.entry ≡ true) u
                (entered_marked f fine k from h x l m c);
          })
      by false e rest =
          let s = spread_all (found.entered code f) more.fine in
          rest _ s.more.fine (s.more.grows.more 0 (more.grows.more 0 zero_in)) s.all
          (grown (longer e) s.more.same)
        where
          grown : length f.order < length (found.entered code f).order
              → (spread code.ins code 0 (found.entered code f) ≡ found.entered code f)
              ⊎ (length (found.entered code f).order
              < length (spread code.ins code 0 (found.entered code f)).order)
              → length f.order < length (spread code.ins code 0 (found.entered code f)).order
          grown up (inl q) =
              subst (λ (g : Found). length f.order < length g.order) (sym q) up
          grown up (inr q) = omega (arith, up, q)

  abbrev start : Found
  start = found_as (none n) []

  start_fine : IsFine start
  start_fine = record {
    long = none_long n;
    only = λ at e. let no : true ≡ false = sym e ∙ has_none n at in absurd cc;
    listed = λ at e. let no : true ≡ false = sym e ∙ has_none n at in absurd cc;
    order = λ k at e. absurd cc;
    counted = sym (count_none n);
  }

  found_whole : IsWhole (found_in code)
  found_whole =
      let one = one_more 0 start (first refl) start_fine in
      let s = spread_all (with_one 0 start) one.fine in
      let marked = s.more.grows.more 0 (one_marked 0 start sound.some start_fine) in
      let listed = s.more.fine.listed 0 marked in
      let b = get_below (spread code.ins code 0 (with_one 0 start)).order listed.0 0 listed.1 in
      rounds_whole code.ins (spread code.ins code 0 (with_one 0 start)) s.more.fine marked s.all
      (omega (arith, b))

  all_found : (at : ℕ) → IsReached code at → at < n → has (found_in code).marks at ≡ true
  all_found at (first e) lt =
      subst (λ m. has (found_in code).marks m ≡ true) (sym e) found_whole.first
  all_found at (led_to from k i r e s) lt =
      let marked = all_found from r (get_below code.ins from i e) in
      let listed = found_whole.fine.listed from marked in
      found_whole.spread listed.0 from k at
      (get_below (found_in code).order listed.0 from listed.1) listed.1
      (ap (λ o. slice_get (found.leads_from n from o) k) e ∙ s)
  all_found at (entered from k h r inside e c x) lt =
      subst (λ m. has (found_in code).marks m ≡ true) (sym x)
      (found_whole.entries k from h e inside (all_found from r inside) c)

  pub found_few : (marks : List Bool) (m : ℕ) → marks ≡ (found_in code).marks → n < m
      → length marks < m
  found_few marks m e lt =
      subst (λ k. k < m) (sym (ap (λ (xs : List Bool). length xs) e ∙ found_whole.fine.long)) lt

  pub reach_is : (marks : List Bool) (acts : List Act) → marks ≡ (found_in code).marks
      → acts ≡ runs 0 None marks → IsReachEdits code acts
  reach_is marks acts e a = (
    marks,
    subst (TellsReached code) (sym e) (record {
      long = found_whole.fine.long;
      only = found_whole.fine.only;
      all = λ at lt r. all_found at r lt;
    }),
    a,
  )
