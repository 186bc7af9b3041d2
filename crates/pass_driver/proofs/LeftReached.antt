-- Control may come to each index of a code that reach has left.
use Rattle.std.proofs.Common.{◌≡◌, ◌⊎◌, inl, inr, ◌≤◌, ◌<◌, ℕ, zero, suc, ◌+◌, ◌-◌, Bool, true, false, cond, not, ◌&&◌, ◌||◌}
use Rattle.std.proofs.Common.{List, [], ◌∷◌, ◌++◌, length, map, refl, sym, ap, subst, ◌∙◌, arith, Option, Some, None, slice_get}
use Rattle.std.proofs.Common.{IsTrue}
use Rattle.std.specs.Prelude.{nat_le, nat_lt, slice_index_or, if◌then◌else◌}
use Rattle.std.specs.List.{All, Contains, filter, list_any}
use Rattle.std.specs.Option.{option_map, unwrap_or}
use Rattle.std.proofs.lemmas.Bool.Decides.{leb_tells}
use Rattle.std.proofs.lemmas.List.Elements.{All-contains}
use Rattle.std.proofs.lemmas.Option.{get_or_from_slice_get, slice_get_within}
use Rattle.jv_base.proofs.Lists.{all_at, got_in_front, got_right}
use Rattle.class_model.specs.declared.code.Code.{Code}
use Rattle.class_model.specs.declared.code.Handler.{Handler}
use Rattle.class_model.specs.declared.code.Ins.{Ins}
use Rattle.class_model.specs.declared.op.Case.{Case}
use Rattle.class_model.specs.declared.op.Op.{Op}
use Rattle.class_model.specs.declared.op.Op.TheVariants as op
use Rattle.code_edit.specs.declared.act.Act.{Act}
use Rattle.code_edit.specs.declared.act.Act.TheVariants as act
use Rattle.code_edit.specs.Facts.{HoldsReached, IsAllReached}
use Rattle.code_edit.specs.Flow.{covers, goes_elsewhere, next_of, successors, successors_by, successors_of, targets}
use Rattle.code_edit.specs.Passes.{IsReached, TellsReached, entered, first, led_to, run_up_to, runs}
use Rattle.code_edit.specs.Reach.{drops, is_left, left_code}
use Rattle.code_edit.specs.Rewriting.{compacted, is_open, living, map_from, moved_handler, place, retargeted, survivors}
use Rattle.code_edit.specs.Rewriting.{with_op}
use Rattle.edit_premises.specs.Compacts.{IsClosed}
use Rattle.edit_premises.proofs.Places.{map_get, place_le, place_lt, place_next, place_stays, survivors_get}
use Rattle.edit_premises.proofs.StaysSound.{ends_moved}

-- ---- what has no mark is dropped

or_right : (a b : Bool) → b ≡ true → (a || b) ≡ true
or_right true b e = refl
or_right false b e = e

le_true : (a b : ℕ) → a ≤ b → nat_le a b ≡ true
le_true a b le = by (leb_tells a b)
  where
    by : ((nat_le a b ≡ true) × (a ≤ b)) ⊎ ((nat_le a b ≡ false) × (b < a)) → nat_le a b ≡ true
    by (inl q) = q.0
    by (inr q) = absurd (omega (arith, q.1, le))

any_joined : (at : ℕ) (xs ys : List Act) → list_any (drops at) ys ≡ true → list_any (drops at) (xs ++ ys) ≡ true
any_joined at [] ys e = e
any_joined at (x ∷ xs) ys e = or_right (drops at x) _ (any_joined at xs ys e)

-- an index in a run that has begun is dropped
in_run : (k from at : ℕ) (marks : List Bool) → from ≤ at → at < k
    → list_any (drops at) (runs k (Some from) marks) ≡ true
in_run k from at [] low lt =
    ap (λ b. (b && nat_le at (k - 1)) || false) (le_true from at low)
    ∙ ap (λ b. b || false) (le_true at (k - 1) (omega (arith, lt)))
in_run k from at (true ∷ marks) low lt =
    ap (λ b. (b && nat_le at (k - 1)) || list_any (drops at) (runs (suc k) None marks)) (le_true from at low)
    ∙ ap (λ b. b || list_any (drops at) (runs (suc k) None marks)) (le_true at (k - 1) (omega (arith, lt)))
in_run k from at (false ∷ marks) low lt = in_run (suc k) from at marks low (omega (arith, lt))

-- an index without a mark is dropped, whatever run has begun before
unmarked : (k j : ℕ) (began : Option ℕ) (marks : List Bool)
    → ((from : ℕ) → began ≡ Some from → from ≤ k) → j < length marks → slice_index_or marks j false ≡ false
    → list_any (drops (k + j)) (runs k began marks) ≡ true
unmarked k j began [] behind lt e = absurd (omega (arith, lt))
unmarked k zero began (true ∷ marks) behind lt e = absurd cc
unmarked k zero None (false ∷ marks) behind lt e =
    in_run (suc k) k (k + 0) marks (omega arith) (omega arith)
unmarked k zero (Some from) (false ∷ marks) behind lt e =
    let low = behind from refl in in_run (suc k) from (k + 0) marks (omega (arith, low)) (omega arith)
unmarked k (suc j) began (true ∷ marks) behind lt e =
    let next : suc k + j ≡ k + suc j = omega arith in
    any_joined (k + suc j) (run_up_to k began) (runs (suc k) None marks)
    (subst (λ (n : ℕ). list_any (drops n) (runs (suc k) None marks) ≡ true) next
    (unmarked (suc k) j None marks (λ from q. absurd (none_some from q)) (omega (arith, lt)) e))
  where
    none_some : (from : ℕ) → None ≡ Some from → ⊥
    none_some from q = cc
unmarked k (suc j) began (false ∷ marks) behind lt e =
    let next : suc k + j ≡ k + suc j = omega arith in
    subst (λ (n : ℕ). list_any (drops n) (runs (suc k) (Some (unwrap_or began k)) marks) ≡ true) next
    (unmarked (suc k) j (Some (unwrap_or began k)) marks (low began behind) (omega (arith, lt)) e)
  where
    same : (a b : ℕ) → Some a ≡ Some b → a ≡ b
    same a b q = cc

    low : (o : Option ℕ) → ((from : ℕ) → o ≡ Some from → from ≤ k)
        → (from : ℕ) → Some (unwrap_or o k) ≡ Some from → from ≤ suc k
    low None h from q = let e = same k from q in omega (arith, e)
    low (Some x) h from q = let e = same x from q in let le = h x refl in omega (arith, e, le)

-- so what is left has a mark
left_marked : (marks : List Bool) (at : ℕ) → at < length marks → is_left (runs 0 None marks) at ≡ true
    → slice_index_or marks at false ≡ true
left_marked marks at lt l = by (slice_index_or marks at false) refl
  where
    start : 0 + at ≡ at
    start = omega arith

    by : (b : Bool) → slice_index_or marks at false ≡ b → b ≡ true
    by true e = refl
    by false e =
        absurd (let gone : list_any (drops at) (runs 0 None marks) ≡ true =
        subst (λ (n : ℕ). list_any (drops n) (runs 0 None marks) ≡ true) start
        (unmarked 0 at None marks (λ from q. absurd (none_some from q)) lt e) in
        let both : false ≡ true = sym (ap not gone) ∙ l in cc)
      where
        none_some : (from : ℕ) → None ≡ Some from → ⊥
        none_some from q = cc

-- ---- what is reached goes on being reached

targets_of : (p : ℕ → ℕ) (o : Op) → targets (retargeted (λ which to. p to) o) ≡ map p (targets o)
targets_of p (op.TableSwitch low t ts) = ap (λ (xs : List ℕ). p t ∷ xs) (by 1 ts)
  where
    by : (k : ℕ) (xs : List ℕ) → map_from (λ which to. p to) k xs ≡ map p xs
    by k [] = refl
    by k (x ∷ xs) = ap (λ (ys : List ℕ). p x ∷ ys) (by (suc k) xs)
targets_of p (op.LookupSwitch t cs) = ap (λ (xs : List ℕ). p t ∷ xs) (by 1 cs)
  where
    by : (k : ℕ) (xs : List Case)
        → map (λ (c : Case). c.to) (map_from (λ which (c : Case). record c { to = p c.to }) k xs)
        ≡ map p (map (λ (c : Case). c.to) xs)
    by k [] = refl
    by k (x ∷ xs) = ap (λ (ys : List ℕ). p x.to ∷ ys) (by (suc k) xs)
targets_of p (op.IfZero c t) = refl
targets_of p (op.IfCmp c t) = refl
targets_of p (op.IfRef c t) = refl
targets_of p (op.IfNull c t) = refl
targets_of p (op.Goto t) = refl
targets_of p o = refl

-- a list has what stands in it
it_has : {A : Type 0} (xs : List A) (n : ℕ) (x : A) → slice_get xs n ≡ Some x → Contains xs x
it_has xs n x e = (n, slice_get_within xs n x e, get_or_from_slice_get xs n x x e)

-- what a list of two parts has stands in one of them
in_parts : (xs ys : List ℕ) (k x : ℕ) → slice_get (xs ++ ys) k ≡ Some x
    → ((j : ℕ) × (slice_get xs j ≡ Some x)) ⊎ ((j : ℕ) × (slice_get ys j ≡ Some x))
in_parts [] ys k x e = inr (k, e)
in_parts (y ∷ xs) ys zero x e = inl (0, e)
in_parts (y ∷ xs) ys (suc k) x e = by (in_parts xs ys k x e)
  where
    by : ((j : ℕ) × (slice_get xs j ≡ Some x)) ⊎ ((j : ℕ) × (slice_get ys j ≡ Some x))
        → ((j : ℕ) × (slice_get (y ∷ xs) j ≡ Some x)) ⊎ ((j : ℕ) × (slice_get ys j ≡ Some x))
    by (inl q) = inl (suc q.0, q.1)
    by (inr q) = inr q

-- a handler that passes a test stands in what the test leaves
filter_has : {A : Type 0} (test : A → Bool) (xs : List A) (k : ℕ) (x : A) → slice_get xs k ≡ Some x
    → test x ≡ true → (j : ℕ) × (slice_get (filter test xs) j ≡ Some x)
filter_has test [] k x e t = absurd cc
filter_has {A} test (y ∷ ys) zero x e t =
    let same : y ≡ x = cc in
    (0, ap (λ b. slice_get (cond b (y ∷ filter test ys) (filter test ys)) 0) (ap test same ∙ t) ∙ ap Some same)
filter_has {A} test (y ∷ ys) (suc k) x e t = by (test y) (filter_has test ys k x e t)
  where
    by : (b : Bool) → (j : ℕ) × (slice_get (filter test ys) j ≡ Some x)
        → (j : ℕ) × (slice_get (cond b (y ∷ filter test ys) (filter test ys)) j ≡ Some x)
    by true q = (suc q.0, q.1)
    by false q = q

both : (a b : Bool) → (a && b) ≡ true → (a ≡ true) × (b ≡ true)
both true b e = (refl, e)
both false b e = absurd cc

le_told : (a b : ℕ) → nat_le a b ≡ true → a ≤ b
le_told a b e = by (leb_tells a b)
  where
    by : ((nat_le a b ≡ true) × (a ≤ b)) ⊎ ((nat_le a b ≡ false) × (b < a)) → a ≤ b
    by (inl q) = q.1
    by (inr q) = absurd (let x : true ≡ false = sym e ∙ q.0 in cc)

module _ (lives : ℕ → Bool) (code : Code) (closed : IsClosed code lives) (set : ℕ → Bool)
    (holds : HoldsReached (compacted lives code) set) where
  abbrev new : Code
  new = compacted lives code

  abbrev p : ℕ → ℕ
  p = place lives

  long : length new.ins ≡ p (length code.ins)
  long = map_long (survivors lives 0 code.ins) ∙ survivors_long 0 code.ins
    where
      map_long : (xs : List Ins) → length (map (with_op (retargeted (λ which to. place lives to))) xs) ≡ length xs
      map_long [] = refl
      map_long (x ∷ xs) = ap suc (map_long xs)

      survivors_long : (i : ℕ) (xs : List Ins) → length (survivors lives i xs) ≡ living lives i (length xs)
      survivors_long i [] = refl
      survivors_long i (x ∷ xs) = by (lives i) (survivors lives (suc i) xs) (survivors_long (suc i) xs)
        where
          by : (b : Bool) (ys : List Ins) → length ys ≡ living lives (suc i) (length xs)
              → length (cond b (x ∷ ys) ys)
              ≡ cond b (suc (living lives (suc i) (length xs))) (living lives (suc i) (length xs))
          by true ys e = ap suc e
          by false ys e = e

  -- what lives comes to stand before the end
  low : (at : ℕ) → lives at ≡ true → at < length code.ins → p at < length new.ins
  low at l lt = subst (λ (n : ℕ). p at < n) (sym long) (place_lt lives at (length code.ins) l lt)

  there : (at : ℕ) (i : Ins) → lives at ≡ true → slice_get code.ins at ≡ Some i
      → slice_get new.ins (p at) ≡ Some (with_op (retargeted (λ which to. place lives to)) i)
  there at i l e =
      let start : at ≡ 0 + at = omega arith in
      map_get (with_op (retargeted (λ which to. place lives to))) (survivors lives 0 code.ins) (place lives at)
      ∙ ap (option_map (with_op (retargeted (λ which to. place lives to))))
      (survivors_get lives code.ins 0 at (subst (λ (n : ℕ). lives n ≡ true) start l) ∙ e)

  -- an index that lives, and is held where it comes to stand
  abbrev Goes : ℕ → Type 0
  Goes at = (at < length code.ins) × (lives at ≡ true) × IsTrue (set (p at))

  -- from such an index control may come to where its successors come to stand
  led : (from : ℕ) (i : Ins) → Goes from → slice_get code.ins from ≡ Some i → (to : ℕ)
      → Contains (successors_of (length new.ins) (p from) (retargeted (λ which to. place lives to) i.op)) to
      → IsTrue (set to)
  led from i g e to has =
      holds.next (p from) to (low from g.1 g.0) g.2
      (subst (λ l. Contains l to)
      (sym (ap (successors_by (length new.ins) (p from)) (there from i g.1 e))) has)

  next_there : (o : Op) (from at j : ℕ) → slice_get (next_of (length code.ins) from o) j ≡ Some at
      → (goes_elsewhere o ≡ false) × (at ≡ from + 1) × (at < length code.ins)
  next_there o from at j e = by (goes_elsewhere o) refl (nat_lt (from + 1) (length code.ins)) refl j e
    where
      one : (a b k : ℕ) → slice_get (a ∷ []) k ≡ Some b → b ≡ a
      one a b zero q = cc
      one a b (suc k) q = cc

      none : (k : ℕ) → slice_get [] k ≡ Some at → ⊥
      none k q = cc

      by : (b : Bool) → goes_elsewhere o ≡ b → (c : Bool) → nat_lt (from + 1) (length code.ins) ≡ c → (k : ℕ)
          → slice_get (cond b [] (cond c ((from + 1) ∷ []) [])) k ≡ Some at
          → (goes_elsewhere o ≡ false) × (at ≡ from + 1) × (at < length code.ins)
      by true q c r k e = absurd (none k e)
      by false q true r k e =
          let same = one (from + 1) at k e in
          (q, same, (let lt = le_told (suc (from + 1)) (length code.ins) r in omega (arith, same, lt)))
      by false q false r k e = absurd (none k e)

  next_of_new : (o : Op) (from : ℕ) → goes_elsewhere o ≡ false → lives from ≡ true → p (from + 1) < length new.ins
      → slice_get (successors_of (length new.ins) (p from) (retargeted (λ which to. place lives to) o)) 0
      ≡ Some (p (from + 1))
  next_of_new o from g l lt =
      let next : p from + 1 ≡ p (from + 1) = sym (place_next lives from l) in
      let test : nat_lt (p from + 1) (length new.ins) ≡ true =
      le_true (suc (p from + 1)) (length new.ins) (omega (arith, next, lt)) in
      ap (λ b. slice_get (cond b [] (cond (nat_lt (p from + 1) (length new.ins)) ((p from + 1) ∷ []) [])
      ++ targets (retargeted (λ which to. place lives to) o)) 0) (ends_moved (λ which to. place lives to) o ∙ g)
      ∙ ap (λ b. slice_get (cond b ((p from + 1) ∷ []) []
      ++ targets (retargeted (λ which to. place lives to) o)) 0) test
      ∙ ap Some next

  target_of_new : (o : Op) (from at j : ℕ) → slice_get (targets o) j ≡ Some at
      → Contains (successors_of (length new.ins) (p from) (retargeted (λ which to. place lives to) o)) (p at)
  target_of_new o from at j e =
      let before = next_of (length new.ins) (p from) (retargeted (λ which to. place lives to) o) in
      let moved = retargeted (λ which to. place lives to) o in
      it_has (before ++ targets moved) (length before + j) (p at)
      (got_right before (targets moved) j
      ∙ ap (λ l. slice_get l j) (targets_of (place lives) o)
      ∙ map_get (place lives) (targets o) j ∙ ap (option_map (place lives)) e)

  goes : (at : ℕ) → at < length code.ins → IsReached code at → Goes at
  goes at lt (first e) = (
    lt,
    subst (λ (n : ℕ). lives n ≡ true) (sym e) closed.first,
    subst (λ (n : ℕ). IsTrue (set (place lives n))) (sym e) holds.first,
  )
  goes at lt (led_to from k i r here e) =
      let g = goes from (slice_get_within code.ins from i here) r in
      by g (in_parts (next_of (length code.ins) from i.op) (targets i.op) k at e)
    where
      by : Goes from
          → ((j : ℕ) × (slice_get (next_of (length code.ins) from i.op) j ≡ Some at))
          ⊎ ((j : ℕ) × (slice_get (targets i.op) j ≡ Some at)) → Goes at
      by g (inl q) =
          let n = next_there i.op from at q.0 q.1 in
          let lives_next : lives (from + 1) ≡ true =
          closed.next from i g.1 here n.0 (subst (λ (x : ℕ). x < length code.ins) n.1 n.2) in
          let lives_at : lives at ≡ true = subst (λ (x : ℕ). lives x ≡ true) (sym n.1) lives_next in
          let below : p (from + 1) < length new.ins =
          low (from + 1) lives_next (subst (λ (x : ℕ). x < length code.ins) n.1 n.2) in (
            lt,
            lives_at,
            subst (λ (x : ℕ). IsTrue (set (place lives x))) (sym n.1)
                (led from i g here (p (from + 1)) (it_has _ 0 (p (from + 1)) (next_of_new i.op from n.0 g.1 below))),
          )
      by g (inr q) = (
        lt,
        all_at (λ t. lives t ≡ true) (targets i.op) q.0 at (closed.jump from i g.1 here) q.1,
        led from i g here (p at) (target_of_new i.op from at q.0 q.1),
      )
  goes at lt (entered from k h r below has covered e) =
      let g = goes from below r in
      let c = both (nat_le h.from from) (nat_lt from h.to) covered in
      let start : p h.from ≤ p from = place_le lives h.from from (le_told h.from from c.0) in
      let end : p from < p h.to = place_lt lives from h.to g.1 (le_told (suc from) h.to c.1) in
      let moved : Handler = moved_handler (place lives) h in
      let stands = filter_has is_open (map (moved_handler (place lives)) code.handlers) k moved
      (map_get (moved_handler (place lives)) code.handlers k ∙ ap (option_map (moved_handler (place lives))) has)
      (le_true (suc (p h.from)) (p h.to) (omega (arith, start, end))) in
      let held : IsTrue (set (p h.entry)) =
      All-contains (λ (x : Handler). (q : ℕ) → IsTrue (set q) → x.from ≤ q → q < x.to → IsTrue (set x.entry))
      new.handlers moved holds.handlers (it_has new.handlers stands.0 moved stands.1) (p from) g.2 start end in (
        lt,
        subst (λ (n : ℕ). lives n ≡ true) (sym e)
            (all_at (λ (x : Handler). (n : ℕ) → n < length code.ins → lives n ≡ true → covers x n ≡ true
            → lives x.entry ≡ true) code.handlers k h closed.entry has from below g.1 covered),
        subst (λ (n : ℕ). IsTrue (set (place lives n))) (sym e) held,
      )

  -- each index of what is left is where a living one came to stand
  abbrev FromLiving : ℕ → Type 0
  FromLiving at = (k : ℕ) × (k < length code.ins) × (lives k ≡ true) × (at ≡ p k)

  living_before : (n at : ℕ) → at < p n → n ≤ length code.ins → FromLiving at
  living_before zero at lt le = absurd (omega (arith, lt))
  living_before (suc n) at lt le =
      last (lives n) refl (leb_tells (suc at) (p n)) (λ low. living_before n at low (omega (arith, le)))
    where
      one : suc n ≡ n + 1
      one = omega arith

      last : (b : Bool) → lives n ≡ b
          → ((nat_le (suc at) (p n) ≡ true) × (suc at ≤ p n)) ⊎ ((nat_le (suc at) (p n) ≡ false) × (p n < suc at))
          → (at < p n → FromLiving at) → FromLiving at
      last b l (inl q) rest = rest (omega (arith, q.1))
      last true l (inr q) rest =
          let next : p (suc n) ≡ p n + 1 = ap (place lives) one ∙ place_next lives n l in
          let same : at ≡ p n = omega (arith, next, lt, q.1) in
          (n, omega (arith, le), l, same)
      last false l (inr q) rest =
          let next : p (suc n) ≡ p n = ap (place lives) one ∙ place_stays lives n l in
          absurd (omega (arith, next, lt, q.1))

  from_living : (at : ℕ) → at < length new.ins → FromLiving at
  from_living at lt =
      living_before (length code.ins) at (subst (λ (n : ℕ). at < n) long lt) (omega arith)

pub left_reached : (acts : List Act) (code : Code) (marks : List Bool) → TellsReached code marks
    → acts ≡ runs 0 None marks → IsClosed code (is_left acts) → IsAllReached (left_code acts code)
left_reached acts code marks tells is closed at lt set holds =
    let k = from_living (is_left acts) code closed set holds at lt in
    let left : is_left (runs 0 None marks) k.0 ≡ true =
    subst (λ (xs : List Act). is_left xs k.0 ≡ true) is k.2 in
    let marked = left_marked marks k.0 (subst (λ (n : ℕ). k.0 < n) (sym tells.long) k.1) left in
    let g = goes (is_left acts) code closed set holds k.0 k.1 (tells.only k.0 marked) in
    subst (λ (n : ℕ). IsTrue (set n)) (sym k.3) g.2
