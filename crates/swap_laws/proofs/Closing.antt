-- What is closed for a set is closed for it with codes that name nothing more.
use Rattle.std.proofs.Common.{◌≡◌, ℕ, zero, suc, ◌+◌, not, Bool, true, false, cond, List, [], ◌∷◌, ◌++◌, length}
use Rattle.std.proofs.Common.{map, Option, Some, None, slice_get, refl, sym, ap, subst, ◌∙◌, arith, filter, nat_lt}
use Rattle.std.specs.Prelude.{IfSome, IsTrue, ◌==◌, slice_index_or}
use Rattle.std.specs.List.{All, AllByRecursion, AllZip, cons_option, enumerate_from, filter_map, flat_map}
use Rattle.std.specs.Option.{option_map_or}
use Rattle.jv_base.proofs.Lists.{all_append, all_split, all_weaker, heads, tails}
use Rattle.mark_core.specs.declared.system.Pair.{Pair}
use Rattle.class_model.specs.declared.class.Class.{Class}
use Rattle.class_model.specs.declared.class.Field.{Field}
use Rattle.class_model.specs.declared.class.Method.{Method}
use Rattle.class_model.specs.declared.code.Code.{Code}
use Rattle.class_model.specs.declared.code.Handler.{Handler}
use Rattle.class_model.specs.declared.code.Ins.{Ins}
use Rattle.class_model.specs.declared.frame.FrameAt.{FrameAt}
use Rattle.class_model.specs.declared.frame.VType.{VType}
use Rattle.class_model.specs.declared.op.Op.{Op}
use Rattle.class_model.specs.declared.op.Op.TheVariants as op
use Rattle.class_pool.specs.Items.{class_item}
use Rattle.require_sys.specs.Requires.{Item, ascending, class_needs, class_pairs, class_wants, code_wants, field_wants}
use Rattle.require_sys.specs.Requires.{frame_wants, handler_wants, method_type_wants, method_wants, name_wants, needs_of, number_of}
use Rattle.require_sys.specs.Requires.{numbers, op_wants, put, requires, seeds_of, throws_wants, verification_wants}
use Rattle.require_sys.specs.declared.kept.KeptByRules.{KeptByRules}
use Rattle.require_sys.proofs.Parts.{all_ascending, all_filter, all_filter_map, from_all}
use Rattle.shape_laws.specs.Bare.{bare, bare_method}
use Rattle.edit_laws.specs.NamesNoMore.{IsCaughtIn, IsOpOf, names_nothing, plain, there}
use Rattle.swap_laws.specs.Swapped.{CodeSwaps, IsFrameOf, IsTypeOf, NamesLess, NamesLessThan}
use Rattle.swap_laws.specs.Swapped.{in_locals, in_stack, top, uninit}
use Rattle.shape_laws.proofs.BareSets.{same}
use Rattle.swap_laws.specs.Laws.{SwapKeepsClosed}
use Rattle.swap_laws.proofs.Wants.{class_needs_is, class_pairs_is, seeds_of_is}

-- ---- lists

to_all : {X : Type 0} (P : X → Type 0) (xs : List X) → AllByRecursion P xs → All P xs
to_all P [] h k d low = absurd (omega (arith, low))
to_all P (x ∷ xs) h zero d low = h.0
to_all P (x ∷ xs) h (suc k) d low = to_all P xs h.1 k d (omega (arith, low))

at_flat : {X Y : Type 0} (P : Y → Type 0) (f : X → List Y) (xs : List X) → AllByRecursion P (flat_map f xs) → (k : ℕ)
    (x : X) → slice_get xs k ≡ Some x → AllByRecursion P (f x)
at_flat P f [] h k x is = absurd cc
at_flat P f (y ∷ xs) h zero x is =
    let one : y ≡ x = cc in subst (λ z. AllByRecursion P (f z)) one (all_split P (f y) (flat_map f xs) h).0
at_flat P f (y ∷ xs) h (suc k) x is = at_flat P f xs (all_split P (f y) (flat_map f xs) h).1 k x is

all_flat : {X Y : Type 0} (P : Y → Type 0) (f : X → List Y) (xs : List X)
    → AllByRecursion (λ x. AllByRecursion P (f x)) xs → AllByRecursion P (flat_map f xs)
all_flat P f [] h = tt
all_flat P f (x ∷ xs) h = all_append P (f x) (flat_map f xs) h.0 (all_flat P f xs h.1)

flat_split : {X Y : Type 0} (P : Y → Type 0) (f : X → List Y) (xs ys : List X)
    → AllByRecursion P (flat_map f (xs ++ ys)) → AllByRecursion P (flat_map f xs) × AllByRecursion P (flat_map f ys)
flat_split P f [] ys h = (tt, h)
flat_split P f (x ∷ xs) ys h =
    let p = all_split P (f x) (flat_map f (xs ++ ys)) h in
    let q = flat_split P f xs ys p.1 in
    (all_append P (f x) (flat_map f xs) p.0 q.0, q.1)

flat_join : {X Y : Type 0} (P : Y → Type 0) (f : X → List Y) (xs ys : List X) → AllByRecursion P (flat_map f xs)
    → AllByRecursion P (flat_map f ys) → AllByRecursion P (flat_map f (xs ++ ys))
flat_join P f [] ys h k = k
flat_join P f (x ∷ xs) ys h k =
    let p = all_split P (f x) (flat_map f xs) h in all_append P (f x) (flat_map f (xs ++ ys)) p.0 (flat_join P f xs ys p.1 k)

-- ---- ascending numbers

put_back : (P : ℕ → Type 0) (x : ℕ) (ys : List ℕ) → P x → AllByRecursion P ys → AllByRecursion P (put x ys)
put_back P x [] h k = (h, tt)
put_back P x (y ∷ ys) h k = by (nat_lt x y) (x == y) (put_back P x ys h k.1)
  where
    by : (less alike : Bool) → AllByRecursion P (put x ys)
        → AllByRecursion P (cond less (x ∷ (y ∷ ys)) (cond alike (y ∷ ys) (y ∷ put x ys)))
    by true alike r = (h, k)
    by false true r = k
    by false false r = (k.0, r)

ascending_back : (P : ℕ → Type 0) (xs : List ℕ) → AllByRecursion P xs → AllByRecursion P (ascending xs)
ascending_back P [] h = tt
ascending_back P (x ∷ xs) h = put_back P x (ascending xs) h.0 (ascending_back P xs h.1)

filter_back : {X : Type 0} (P : X → Type 0) (test : X → Bool) (xs : List X)
    → AllByRecursion (λ x. test x ≡ true → P x) xs → AllByRecursion P (filter test xs)
filter_back P test [] h = tt
filter_back P test (x ∷ xs) h = by (test x) refl (filter_back P test xs h.1)
  where
    by : (b : Bool) → test x ≡ b → AllByRecursion P (filter test xs)
        → AllByRecursion P (cond b (x ∷ filter test xs) (filter test xs))
    by true e r = (h.0 e, r)
    by false e r = r

filter_map_back : {X Y : Type 0} (P : Y → Type 0) (f : X → Option Y) (xs : List X)
    → AllByRecursion (λ x. IfSome (f x) P) xs → AllByRecursion P (filter_map f xs)
filter_map_back P f [] h = tt
filter_map_back P f (x ∷ xs) h = by (f x) h.0 (filter_map_back P f xs h.1)
  where
    by : (o : Option _) → IfSome o P → AllByRecursion P (filter_map f xs)
        → AllByRecursion P (cons_option o (filter_map f xs))
    by None k r = r
    by (Some y) k r = (k, r)

-- ---- needs

-- what holds of all of these holds of all of those
abbrev Holds : {X : Type 0} → List X → List X → Type 1
Holds {X} xs ys = (P : X → Type 0) → AllByRecursion P xs → AllByRecursion P ys

-- a set that has all of these has all of those
abbrev Within : (ℕ → Bool) → List ℕ → List ℕ → Type 0
Within set xs ys = AllByRecursion (λ y. set y ≡ true) xs → AllByRecursion (λ y. set y ≡ true) ys

needs_within : (s : List Class) (set : ℕ → Bool) (own : ℕ) (more less : List Item) → Holds more less
    → Within set (needs_of s own more) (needs_of s own less)
needs_within s set own more less holds h =
    filter_back (λ y. set y ≡ true) (λ y. not (y == own)) (ascending (numbers s less))
    (ascending_back (λ y. not (y == own) ≡ true → set y ≡ true) (numbers s less)
    (filter_map_back (λ y. not (y == own) ≡ true → set y ≡ true) (number_of s) less
    (holds (λ w. IfSome (number_of s w) (λ y. not (y == own) ≡ true → set y ≡ true))
    (all_filter_map (λ y. not (y == own) ≡ true → set y ≡ true) (number_of s) more
    (all_ascending (λ y. not (y == own) ≡ true → set y ≡ true) (numbers s more)
    (all_filter (λ y. set y ≡ true) (λ y. not (y == own)) (ascending (numbers s more)) h))))))

-- ---- codes

module _ (s : List Class) (n : ℕ) (old new : Code) (no_more : NamesLess old new) (P : Item → Type 0)
    (h : AllByRecursion P (code_wants s n old)) where
  of_ins : AllByRecursion P (flat_map (λ (i : Ins). op_wants s n i.op) old.ins)
  of_ins = (all_split P (flat_map (λ (i : Ins). op_wants s n i.op) old.ins)
      (flat_map (handler_wants s) old.handlers ++ flat_map (frame_wants s) old.frames) h).0

  of_rest : AllByRecursion P (flat_map (handler_wants s) old.handlers) × AllByRecursion P (flat_map (frame_wants s) old.frames)
  of_rest = all_split P (flat_map (handler_wants s) old.handlers) (flat_map (frame_wants s) old.frames)
      (all_split P (flat_map (λ (i : Ins). op_wants s n i.op) old.ins)
      (flat_map (handler_wants s) old.handlers ++ flat_map (frame_wants s) old.frames) h).1

  plain_op : (o : Op) → names_nothing o ≡ true → AllByRecursion P (op_wants s n o)
  plain_op (op.GetStatic r) e = absurd cc
  plain_op (op.PutStatic r) e = absurd cc
  plain_op (op.GetField r) e = absurd cc
  plain_op (op.PutField r) e = absurd cc
  plain_op (op.InvokeVirtual r) e = absurd cc
  plain_op (op.InvokeSpecial r) e = absurd cc
  plain_op (op.InvokeStatic r) e = absurd cc
  plain_op (op.InvokeInterface r) e = absurd cc
  plain_op (op.New name) e = absurd cc
  plain_op (op.NewArray b) e = absurd cc
  plain_op (op.ANewArray ty) e = absurd cc
  plain_op (op.CheckCast ty) e = absurd cc
  plain_op (op.InstanceOf ty) e = absurd cc
  plain_op (op.MultiNewArray ty k) e = absurd cc
  plain_op o e = tt

  op_in : (o : Op) → IsOpOf old.ins o → AllByRecursion P (op_wants s n o)
  op_in o (plain e) = plain_op o e
  op_in o (there k i at is) = subst (λ (p : Op). AllByRecursion P (op_wants s n p)) is
      (at_flat P (λ (j : Ins). op_wants s n j.op) old.ins of_ins k i at)

  handler_in : (k : Handler) → IsCaughtIn old.handlers k.caught → AllByRecursion P (handler_wants s k)
  handler_in k (j, o, at, same) =
      subst (λ (c : Option (List ℕ)). AllByRecursion P (option_map_or (name_wants s) c [])) same
      (at_flat P (handler_wants s) old.handlers of_rest.0 j o at)

  type_in : (ty : VType) → IsTypeOf old.frames ty → AllByRecursion P (verification_wants s ty)
  type_in ty (in_locals k j f at is) =
      at_flat P (verification_wants s) f.frame.locals
      (flat_split P (verification_wants s) f.frame.locals f.frame.stack
      (at_flat P (frame_wants s) old.frames of_rest.1 k f at)).0 j ty is
  type_in ty (in_stack k j f at is) =
      at_flat P (verification_wants s) f.frame.stack
      (flat_split P (verification_wants s) f.frame.locals f.frame.stack
      (at_flat P (frame_wants s) old.frames of_rest.1 k f at)).1 j ty is
  type_in ty (top is) = subst (λ (u : VType). AllByRecursion P (verification_wants s u)) (sym is) tt
  type_in ty (uninit k is) = subst (λ (u : VType). AllByRecursion P (verification_wants s u)) (sym is) tt

  types_in : (tys : List VType) → AllByRecursion (IsTypeOf old.frames) tys
      → AllByRecursion P (flat_map (verification_wants s) tys)
  types_in tys k = all_flat P (verification_wants s) tys
      (all_weaker (IsTypeOf old.frames) (λ ty. AllByRecursion P (verification_wants s ty)) type_in tys k)

  frame_in : (f : FrameAt) → IsFrameOf old.frames f → AllByRecursion P (frame_wants s f)
  frame_in f is = flat_join P (verification_wants s) f.frame.locals f.frame.stack (types_in f.frame.locals is.locals)
      (types_in f.frame.stack is.stack)

  code_in : AllByRecursion P (code_wants s n new)
  code_in =
      all_append P (flat_map (λ (i : Ins). op_wants s n i.op) new.ins)
      (flat_map (handler_wants s) new.handlers ++ flat_map (frame_wants s) new.frames)
      (all_flat P (λ (i : Ins). op_wants s n i.op) new.ins
      (all_weaker (λ (i : Ins). IsOpOf old.ins i.op) (λ (i : Ins). AllByRecursion P (op_wants s n i.op))
      (λ (i : Ins). op_in i.op) new.ins no_more.code.ins))
      (all_append P (flat_map (handler_wants s) new.handlers) (flat_map (frame_wants s) new.frames)
      (all_flat P (handler_wants s) new.handlers
      (all_weaker (λ (k : Handler). IsCaughtIn old.handlers k.caught) (λ k. AllByRecursion P (handler_wants s k)) handler_in new.handlers
      no_more.code.handlers))
      (all_flat P (frame_wants s) new.frames
      (all_weaker (IsFrameOf old.frames) (λ f. AllByRecursion P (frame_wants s f)) frame_in new.frames no_more.frames)))

option_in : (s : List Class) (n : ℕ) (old new : Option Code) → NamesLessThan old new
    → Holds (option_map_or (code_wants s n) old []) (option_map_or (code_wants s n) new [])
option_in s n (Some old) (Some new) no_more P h = code_in s n old new no_more P h
option_in s n None None no_more P h = tt
option_in s n (Some old) None no_more P h = absurd no_more
option_in s n None (Some new) no_more P h = absurd no_more

method_in : (s : List Class) (n : ℕ) (kept : KeptByRules) (m o : Method) → bare_method m ≡ bare_method o
    → CodeSwaps m o → Holds (method_wants s n kept m) (method_wants s n kept o)
method_in s n kept m o like swaps P h =
    let front : method_type_wants s m.ty ≡ method_type_wants s o.ty = λ i. method_type_wants s (like i).ty in
    let middle : throws_wants s kept m ≡ throws_wants s kept o = λ i. throws_wants s kept (like i) in
    let a = all_split P (method_type_wants s m.ty)
    (throws_wants s kept m ++ option_map_or (code_wants s n) m.code []) h.1 in
    let b = all_split P (throws_wants s kept m) (option_map_or (code_wants s n) m.code []) a.1 in (
      h.0,
      all_append P (method_type_wants s o.ty) (throws_wants s kept o ++ option_map_or (code_wants s n) o.code [])
          (subst (λ l. AllByRecursion P l) front a.0)
          (all_append P (throws_wants s kept o) (option_map_or (code_wants s n) o.code [])
          (subst (λ l. AllByRecursion P l) middle b.0) (option_in s n m.code o.code swaps.no_more P b.1)),
    )

-- ---- lists of needs

zip_join : {X Y : Type 0} (R : X → Y → Type 0) (xs : List X) (ys : List Y) (us : List X) (vs : List Y) → AllZip R xs ys
    → AllZip R us vs → AllZip R (xs ++ us) (ys ++ vs)
zip_join R [] [] us vs h k = k
zip_join R [] (y ∷ ys) us vs h k = absurd h
zip_join R (x ∷ xs) [] us vs h k = absurd h
zip_join R (x ∷ xs) (y ∷ ys) us vs h k = (h.0, zip_join R xs ys us vs h.1 k)

zip_same : (set : ℕ → Bool) (xs : List (List ℕ)) → AllZip (Within set) xs xs
zip_same set [] = tt
zip_same set (x ∷ xs) = (λ h. h, zip_same set xs)

module _ (s : List Class) (kept : KeptByRules) (set : ℕ → Bool) where
  abbrev of_method : ℕ → ℕ × Method → List ℕ
  of_method n p = needs_of s (class_item s n + 1 + p.0) (method_wants s n kept p.1)

  methods_zip : (n k : ℕ) (ms os : List Method) → map bare_method ms ≡ map bare_method os → AllZip CodeSwaps ms os
      → AllZip (Within set) (map (of_method n) (enumerate_from k ms)) (map (of_method n) (enumerate_from k os))
  methods_zip n k [] [] like h = tt
  methods_zip n k [] (o ∷ os) like h = absurd h
  methods_zip n k (m ∷ ms) [] like h = absurd h
  methods_zip n k (m ∷ ms) (o ∷ os) like h = (
    needs_within s set (class_item s n + 1 + k) (method_wants s n kept m) (method_wants s n kept o)
        (method_in s n kept m o (heads (bare_method m) (bare_method o) (map bare_method ms) (map bare_method os) like) h.0),
    methods_zip n (k + 1) ms os
        (tails (bare_method m) (bare_method o) (map bare_method ms) (map bare_method os) like) h.1,
  )

  abbrev front_of : ℕ → Class → List (List ℕ)
  front_of n c = needs_of s (class_item s n) (class_wants s kept n c)
      ∷ map (λ (p : ℕ × Field). needs_of s (class_item s n + 1 + p.0) (field_wants s n p.1)) (enumerate_from 0 c.fields)

  abbrev back_of : ℕ → ℕ → List Method → List (List ℕ)
  back_of n k ms = map (of_method n) (enumerate_from k ms)

  class_zip : (n : ℕ) (c e : Class) → bare c ≡ bare e → AllZip CodeSwaps c.methods e.methods
      → AllZip (Within set) (class_needs s kept (n, c)) (class_needs s kept (n, e))
  class_zip n c e like h =
      let front : front_of n c ≡ front_of n e = λ i. front_of n (like i) in
      let count : length c.fields ≡ length e.fields = λ i. length (like i).fields in
      zip_join (Within set) (front_of n c) (front_of n e) (back_of n (length c.fields) c.methods)
      (back_of n (length e.fields) e.methods)
      (subst (λ l. AllZip (Within set) (front_of n c) l) front (zip_same set (front_of n c)))
      (subst (λ k. AllZip (Within set) (back_of n (length c.fields) c.methods) (back_of n k e.methods)) count
      (methods_zip n (length c.fields) c.methods e.methods (λ i. (like i).methods) h))

  all_zip : (n : ℕ) (cs es : List Class) → map bare cs ≡ map bare es
      → ((k : ℕ) (c e : Class) → slice_get cs k ≡ Some c → slice_get es k ≡ Some e → AllZip CodeSwaps c.methods e.methods)
      → AllZip (Within set) (flat_map (class_needs s kept) (enumerate_from n cs))
      (flat_map (class_needs s kept) (enumerate_from n es))
  all_zip n [] [] like h = tt
  all_zip n [] (e ∷ es) like h = absurd cc
  all_zip n (c ∷ cs) [] like h = absurd cc
  all_zip n (c ∷ cs) (e ∷ es) like h =
      zip_join (Within set) (class_needs s kept (n, c)) (class_needs s kept (n, e))
      (flat_map (class_needs s kept) (enumerate_from (n + 1) cs)) (flat_map (class_needs s kept) (enumerate_from (n + 1) es))
      (class_zip n c e (heads (bare c) (bare e) (map bare cs) (map bare es) like) (h 0 c e refl refl))
      (all_zip (n + 1) cs es (tails (bare c) (bare e) (map bare cs) (map bare es) like) (λ k x y one other. h (suc k) x y one other))

  pairs_like : (n : ℕ) (cs es : List Class) → map bare cs ≡ map bare es
      → flat_map (class_pairs s) (enumerate_from n cs) ≡ flat_map (class_pairs s) (enumerate_from n es)
  pairs_like n [] [] like = refl
  pairs_like n [] (e ∷ es) like = absurd cc
  pairs_like n (c ∷ cs) [] like = absurd cc
  pairs_like n (c ∷ cs) (e ∷ es) like =
      let one = heads (bare c) (bare e) (map bare cs) (map bare es) like in
      let rest = pairs_like (n + 1) cs es (tails (bare c) (bare e) (map bare cs) (map bare es) like) in
      λ i. class_pairs s (n, one i) ++ rest i

within_at : (set : ℕ → Bool) (xs ys : List (List ℕ)) → AllZip (Within set) xs ys → (k : ℕ)
    → Within set (slice_index_or xs k []) (slice_index_or ys k [])
within_at set [] [] h k = λ p. p
within_at set [] (y ∷ ys) h k = absurd h
within_at set (x ∷ xs) [] h k = absurd h
within_at set (x ∷ xs) (y ∷ ys) h zero = h.0
within_at set (x ∷ xs) (y ∷ ys) h (suc k) = within_at set xs ys h.1 k

pub swap_keeps_closed : SwapKeepsClosed
swap_keeps_closed a b kept set swapped closed =
    let like : map bare a ≡ map bare b = swapped.alike in
    let seeds : seeds_of b kept ≡ seeds_of a kept = same a b like (λ s. seeds_of s kept) (λ s. seeds_of_is s kept) in
    let needs : (requires b kept).needs ≡ flat_map (class_needs a kept) (enumerate_from 0 b) =
    ap (λ (f : ℕ × Class → List (List ℕ)). flat_map f (enumerate_from 0 b))
    (same a b like (λ s. class_needs s kept) (λ s. class_needs_is s kept)) in
    let pairs : (requires b kept).pairs ≡ (requires a kept).pairs =
    ap (λ (f : ℕ × Class → List Pair). flat_map f (enumerate_from 0 b)) (same a b like class_pairs class_pairs_is)
    ∙ sym (pairs_like a kept set 0 a b like) in
    record {
      seeds = subst (λ (xs : List ℕ). All (λ x. IsTrue (set x)) xs) (sym seeds) closed.seeds;
      needs = λ x has.
          to_all (λ y. set y ≡ true) (slice_index_or (requires b kept).needs x [])
          (within_at set (requires a kept).needs (requires b kept).needs
          (subst (λ (l : List (List ℕ)). AllZip (Within set) (requires a kept).needs l) (sym needs)
          (all_zip a kept set 0 a b like swapped.codes)) x
          (from_all (λ y. set y ≡ true) (slice_index_or (requires a kept).needs x []) (closed.needs x has)));
      pairs = subst (λ (ps : List Pair). All (λ pair. IsTrue (set pair.one) → IsTrue (set pair.two)
          → IsTrue (set pair.derived)) ps) (sym pairs) closed.pairs;
    }
