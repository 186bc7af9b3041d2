-- What the worklist tells when nothing waits.
use Rattle.std.proofs.Common.{◌≡◌, ◌≢◌, ℕ, zero, suc, [], ◌∷◌, ◌<◌, ◌≤◌, ℤ, Bool, true, false}
use Rattle.std.proofs.Common.{IsTrue, List, length, ⊎_elim, refl}
use Rattle.std.proofs.Common.{subst, sym, ◌∙◌, ap, arith}
use Rattle.std.specs.Prelude.{Option, Some, None, map, slice_index_or}
use Rattle.std.specs.Ordering.{int_eq}
use Rattle.std.specs.Cmp.{signed_Decides}
use Rattle.std.specs.List.{Contains}
use Rattle.std.proofs.lemmas.List.{ext_get_or, get_or_past}
use Rattle.std.proofs.lemmas.List.Elements.{All-weaker, All-contains}
use Rattle.std.proofs.lemmas.List.{length-map}
use Rattle.std.proofs.lemmas.Bool.{cases_lt}
use Rattle.class_model.specs.declared.code.Code.{Code}
use Rattle.class_model.specs.declared.code.Handler.{Handler}
use Rattle.code_edit.specs.declared.change.Change.{Change}
use Rattle.code_edit.specs.declared.change.Change.TheVariants.{Keeps, Becomes, Adds, Clobbers}
use Rattle.const_facts.specs.declared.held.Held.{Held}
use Rattle.const_facts.specs.declared.held.Held.TheVariants.{Unreached, Always, Varies}
use Rattle.const_facts.specs.declared.work.Work.{Work}
use Rattle.code_edit.specs.Facts.{change_at}
use Rattle.code_edit.specs.Facts.{Facts, HoldsReached, IsAllReached, IsLargest, IsSupported, Yields}
use Rattle.code_edit.specs.Facts.{int_in, is_int, told as all_told}
use Rattle.code_edit.specs.Flow.{successors}
use Rattle.const_facts.specs.Order.{AtMost, int_of, through}
use Rattle.const_facts.specs.Worklist.{Flows, IsOpen, Waits, held_at}
use Rattle.const_facts.proofs.Ordering.{stays_known, through_known}

-- the int that is known at an index
map_at : (hs : List Held) (i : ℕ)
    → slice_index_or (map int_of hs) i None ≡ int_of (slice_index_or hs i Unreached)
map_at [] i = refl
map_at (h ∷ hs) zero = refl
map_at (h ∷ hs) (suc i) = map_at hs i

abbrev is_known : Held → Bool
is_known Unreached = false
is_known _ = true

known_is : (h : Held) → IsTrue (is_known h) → h ≢ Unreached
known_is Unreached t = λ e. (cc)
known_is (Always a) t = λ e. (cc)
known_is Varies t = λ e. (cc)

is_known_from : (h : Held) → h ≢ Unreached → IsTrue (is_known h)
is_known_from Unreached n = absurd (n refl)
is_known_from (Always a) n = refl
is_known_from Varies n = refl

abbrev says : Held → ℤ → Bool
says (Always a) c = int_eq a c
says _ c = false

says_is : (h : Held) (c : ℤ) → IsTrue (says h c) → h ≡ Always c
says_is Unreached c t = (cc)
says_is (Always a) c t = ap (λ z. Always z) ((signed_Decides a c).0 t)
says_is Varies c t = (cc)

is_says : (h : Held) (c : ℤ) → h ≡ Always c → IsTrue (says h c)
is_says h c e = subst (λ x. IsTrue (says x c)) (sym e) ((signed_Decides c c).1 refl)

at_most_always : (h : Held) (c : ℤ) → h ≢ Unreached → AtMost h (Always c) → h ≡ Always c
at_most_always Unreached c n k = absurd (n refl)
at_most_always (Always a) c n k = ⊎_elim (λ e. sym e) (λ e. (cc)) k
at_most_always Varies c n k = (cc)

yields : (facts : Facts) (p : ℕ) (c : ℤ) (ch : Change) (h : Held) → h ≢ Unreached
    → AtMost (through ch h) (Always c)
    → ((a : ℤ) → h ≡ Always a → IsTrue (facts p a)) → Yields facts p c ch
yields facts p c Keeps h n k is = is c (at_most_always h c n k)
yields facts p c (Becomes v) h n k is = ⊎_elim (λ e. (cc)) (λ e. (cc)) k
yields facts p c (Adds by) Unreached n k is = absurd (n refl)
yields facts p c (Adds by) (Always a) n k is =
    ⊎_elim (λ e. (a, is a refl, (cc))) (λ e. absurd (cc)) k
yields facts p c (Adds by) Varies n k is = absurd (cc)
yields facts p c Clobbers h n k is = absurd (cc)

module _ (code : Code) (slot : ℕ) (work : Work) (opened : IsOpen code slot work)
    (empty : length work.waiting.items ≡ 0) (reached : IsAllReached code) where
  idle : (i : ℕ) → Waits work i → ⊥
  idle i w = let lt : w.0 < length work.waiting.items = w.1 in omega (arith, lt, empty)

  next_known : (p i : ℕ) → held_at work p ≢ Unreached → Contains (successors code p) i
      → held_at work i ≢ Unreached
  next_known p i known next =
      ⊎_elim (λ u. absurd (known u))
      (λ rest. ⊎_elim (λ w. absurd (idle p w))
      (λ done.
      let out : Held = through (change_at code slot p) (held_at work p) in
      stays_known out (held_at work i)
      (through_known (change_at code slot p) (held_at work p) known)
      (All-contains (Flows work out) (successors code p) i done next)) rest)
      (opened.done p)

  closed : HoldsReached code (λ i. is_known (held_at work i))
  closed = record {
    first = ap is_known opened.first;
    next = λ p i lt known next.
        is_known_from (held_at work i) (next_known p i (known_is (held_at work p) known) next);
    handlers = All-weaker (λ (h : Handler). held_at work h.entry ≡ Varies)
        (λ (h : Handler). (p : ℕ) → IsTrue (is_known (held_at work p)) → h.from ≤ p → p < h.to
        → IsTrue (is_known (held_at work h.entry)))
        (λ h e p known from to. ap is_known e) code.handlers opened.handlers;
  }

  all_known : (i : ℕ) → i < length code.ins → held_at work i ≢ Unreached
  all_known i lt = known_is (held_at work i) (reached i lt (λ k. is_known (held_at work k)) closed)

  abbrev told : Facts
  told i c = says (held_at work i) c

  inside : (i : ℕ) (c : ℤ) → held_at work i ≡ Always c → i < length code.ins
  inside i c e = ⊎_elim (λ lt. lt)
      (λ le. absurd (let u : held_at work i ≡ Unreached = get_or_past work.held.items i Unreached
      (omega (arith, le, opened.above.count)) in (cc)))
      (cases_lt i (length code.ins))

  varies_tells : (i : ℕ) (c : ℤ) → held_at work i ≡ Varies → IsTrue (told i c) → ⊥
  varies_tells i c e t = let f : held_at work i ≡ Always c = says_is (held_at work i) c t in (cc)

  supported : IsSupported code slot told
  supported = record {
    within = λ i c t. inside i c (says_is (held_at work i) c t);
    first = λ c t. varies_tells 0 c opened.first t;
    handlers = All-weaker (λ (h : Handler). held_at work h.entry ≡ Varies)
        (λ (h : Handler). (c : ℤ) → IsTrue (told h.entry c) → ⊥)
        (λ h e c t. varies_tells h.entry c e t) code.handlers opened.handlers;
    flows = λ p i c lt next t.
        let ch : Change = change_at code slot p in
        ⊎_elim (λ u. absurd (all_known p lt u))
        (λ rest. ⊎_elim (λ w. absurd (idle p w))
        (λ done. yields told p c ch (held_at work p) (all_known p lt)
        (subst (λ x. AtMost (through ch (held_at work p)) x) (says_is (held_at work i) c t)
        (All-contains (Flows work (through ch (held_at work p))) (successors code p) i done next))
        (λ a e. is_says (held_at work p) a e)) rest)
        (opened.done p);
  }

  abbrev ints : List (Option ℤ)
  ints = map int_of work.held.items

  int_there : (i : ℕ) → int_in ints i ≡ int_of (held_at work i)
  int_there i = map_at work.held.items i

  is_told : (i : ℕ) (c : ℤ) → IsTrue (told i c) → IsTrue (all_told ints i c)
  is_told i c t =
      subst (λ o. IsTrue (is_int o c))
      (sym (int_there i ∙ ap int_of (says_is (held_at work i) c t)))
      ((signed_Decides c c).1 refl)

  told_is : (i : ℕ) (c : ℤ) → IsTrue (all_told ints i c) → IsTrue (told i c)
  told_is i c t = by (held_at work i) (subst (λ o. IsTrue (is_int o c)) (int_there i) t)
    where
      by : (h : Held) → IsTrue (is_int (int_of h) c) → IsTrue (says h c)
      by Unreached t = absurd cc
      by (Always a) t = t
      by Varies t = absurd cc

  same_facts : told ≡ all_told ints
  same_facts = λ k i c. same i c k
    where
      one_test : (a b : Bool) → (IsTrue a → IsTrue b) → (IsTrue b → IsTrue a) → a ≡ b
      one_test true b f g = sym (f refl)
      one_test false true f g = absurd (let q : false ≡ true = g refl in cc)
      one_test false false f g = refl

      same : (i : ℕ) (c : ℤ) → told i c ≡ all_told ints i c
      same i c = one_test (told i c) (all_told ints i c) (is_told i c) (told_is i c)

  pub is_largest : IsLargest code slot ints
  is_largest = record {
    count = length-map work.held.items int_of ∙ opened.above.count;
    supported = subst (IsSupported code slot) same_facts supported;
    largest = λ others other_supported i c fact.
        int_there i ∙ ap int_of
        (at_most_always (held_at work i) c (all_known i (other_supported.within i c fact))
        (opened.above.due i others other_supported c fact));
  }

-- ---- the list is one

module _ (code : Code) (slot : ℕ) (a b : List (Option ℤ)) (x : IsLargest code slot a)
    (y : IsLargest code slot b) where
  same_at : (i : ℕ) (o p : Option ℤ) → int_in a i ≡ o → int_in b i ≡ p → o ≡ p
  same_at i None None e f = refl
  same_at i (Some c) p e f =
      sym (y.largest (all_told a) x.supported i c
      (subst (λ o. IsTrue (is_int o c)) (sym e) ((signed_Decides c c).1 refl))) ∙ f
  same_at i None (Some c) e f =
      let q : None ≡ Some c = sym e ∙ x.largest (all_told b) y.supported i c
      (subst (λ o. IsTrue (is_int o c)) (sym f) ((signed_Decides c c).1 refl)) in q

  pub one_list : a ≡ b
  one_list = ext_get_or None a b (x.count ∙ sym y.count)
      (λ i lt. same_at i (int_in a i) (int_in b i) refl refl)
