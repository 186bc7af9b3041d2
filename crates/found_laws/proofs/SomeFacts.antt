-- There is a largest set of facts of each slot.
use Rattle.std.proofs.Common.{◌≡◌, ◌⊎◌, inl, inr, ⊎_elim, ℕ, zero, suc, ◌<◌, ℤ}
use Rattle.std.proofs.Common.{IsTrue, List, [], ◌∷◌, length, get_or, set, refl, sym, ap, subst, ◌∙◌, arith}
use Rattle.std.proofs.Common.{length-set, Option, Some, None}
use Rattle.std.specs.Int.{w32, int_wrapping_add}
use Rattle.std.specs.List.{All, Contains}
use Rattle.std.specs.Ordering.{int_eq}
use Rattle.std.proofs.lemmas.Bool.{both_ways, cases_Bool, cases_lt}
use Rattle.std.proofs.lemmas.Bool.Decides.{Decides-int_eq}
use Rattle.std.proofs.lemmas.List.{get_or_past}
use Rattle.std.proofs.lemmas.List.Elements.{All-contains}
use Rattle.std.proofs.lemmas.Option.{same_Some, slice_get_within}
use Rattle.class_model.specs.declared.code.Code.{Code}
use Rattle.class_model.specs.declared.code.Handler.{Handler}
use Rattle.code_edit.specs.declared.change.Change.{Change}
use Rattle.code_edit.specs.declared.change.Change.TheVariants.{Keeps, Becomes, Adds, Clobbers}
use Rattle.code_edit.specs.Facts.{Facts, IsAllReached, IsLargest, IsSupported, Yields, change_at}
use Rattle.code_edit.specs.Facts.{int_in, is_int, told}
use Rattle.code_edit.specs.Flow.{successors, successors_by, successors_of}
use Rattle.code_edit.specs.Passes.{IsReached, entered, first, led_to}
use Rattle.code_edit.specs.SoundCode.{IsSound}
use Rattle.found_laws.proofs.Settling.{Lacks, after_set, below_or, each_or, it_has, settle}
use Rattle.found_laws.proofs.SomeReached.{all_reached}

-- ---- ints

same_or : (a b : ℤ) → (a ≡ b) ⊎ (a ≡ b → ⊥)
same_or a b =
    ⊎_elim (λ e. inl ((Decides-int_eq a b).0 e))
    (λ e. inr (λ same. both_ways _ e ((Decides-int_eq a b).1 same)))
    (cases_Bool (int_eq a b))

is_told : (o : Option ℤ) (c : ℤ) → IsTrue (is_int o c) → o ≡ Some c
is_told None c t = absurd cc
is_told (Some v) c t = ap Some ((Decides-int_eq v c).0 t)

told_is : (o : Option ℤ) (c : ℤ) → o ≡ Some c → IsTrue (is_int o c)
told_is o c e = subst (λ x. IsTrue (is_int x c)) (sym e) ((Decides-int_eq c c).1 refl)

-- ---- what facts yield

-- the int after a change
abbrev after : Change → Option ℤ → Option ℤ
after Keeps o = o
after (Becomes value) o = Some value
after (Adds by) None = None
after (Adds by) (Some value) = Some (int_wrapping_add w32 value by)
after Clobbers o = None

yields_after : (facts : Facts) (p : ℕ) (c : ℤ) (ch : Change) (o : Option ℤ)
    → ((d : ℤ) → IsTrue (facts p d) → o ≡ Some d) → Yields facts p c ch → after ch o ≡ Some c
yields_after facts p c Keeps o most y = most c y
yields_after facts p c (Becomes value) o most y = ap Some (sym y)
yields_after facts p c (Adds by) o most y =
    ap (after (Adds by)) (most y.0 y.1) ∙ ap Some (sym y.2)
yields_after facts p c Clobbers o most y = absurd y

-- more facts yield no less
yields_more : (few more : Facts) (p : ℕ) (c : ℤ) (ch : Change)
    → ((d : ℤ) → IsTrue (few p d) → IsTrue (more p d)) → Yields few p c ch → Yields more p c ch
yields_more few more p c Keeps onto y = onto c y
yields_more few more p c (Becomes value) onto y = y
yields_more few more p c (Adds by) onto y = (y.0, onto y.0 y.1, y.2)
yields_more few more p c Clobbers onto y = y

yields_or : (known : List (Option ℤ)) (p : ℕ) (c : ℤ) (ch : Change)
    → Yields (told known) p c ch ⊎ (Yields (told known) p c ch → ⊥)
yields_or known p c Keeps =
    ⊎_elim inl (λ e. inr (λ y. both_ways _ e y)) (cases_Bool (told known p c))
yields_or known p c (Becomes value) = same_or c value
yields_or known p c (Adds by) = which (int_in known p) refl
  where
    which : (o : Option ℤ) → int_in known p ≡ o
        → Yields (told known) p c (Adds by) ⊎ (Yields (told known) p c (Adds by) → ⊥)
    which None e = inr (λ y.
        let q : None ≡ Some y.0 = sym e ∙ is_told (int_in known p) y.0 y.1 in cc)
    which (Some d) e =
        ⊎_elim (λ same. inl (d, told_is (int_in known p) d e, same))
        (λ other. inr (λ y.
        let same : y.0 ≡ d =
        same_Some y.0 d (sym (is_told (int_in known p) y.0 y.1) ∙ e) in
        other (y.2 ∙ ap (λ z. int_wrapping_add w32 z by) same)))
        (same_or c (int_wrapping_add w32 d by))
yields_or known p c Clobbers = inr (λ y. y)

-- ---- lists

-- a list of what there is for each index
listed : {X : Type 0} (P : ℕ → X → Type 0) (n : ℕ) → ((k : ℕ) → k < n → (x : X) × P k x)
    → (xs : List X) × (length xs ≡ n) × ((k : ℕ) (d : X) → k < n → P k (get_or xs k d))
listed P zero each = ([], refl, λ k d lt. absurd (omega (arith, lt)))
listed {X} P (suc n) each =
    let one = each 0 (omega arith) in
    let rest = listed (λ k x. P (suc k) x) n (λ k lt. each (suc k) (omega (arith, lt))) in
    (one.0 ∷ rest.0, ap suc rest.1, at one.0 one.1 rest.0 rest.2)
  where
    at : (y : X) → P 0 y → (ys : List X) → ((k : ℕ) (d : X) → k < n → P (suc k) (get_or ys k d))
        → (k : ℕ) (d : X) → k < suc n → P k (get_or (y ∷ ys) k d)
    at y here ys there zero d lt = here
    at y here ys there (suc k) d lt = there k d (omega (arith, lt))

module _ (code : Code) (slot : ℕ) where
  -- ---- what each supported set tells at most

  -- no supported set tells another int at the index
  abbrev IsMost : ℕ → Option ℤ → Type 0
  IsMost at o = (facts : Facts) → IsSupported code slot facts → (c : ℤ) → IsTrue (facts at c)
      → o ≡ Some c

  -- none tells any
  abbrev IsUntold : ℕ → Type 0
  IsUntold at = (facts : Facts) → IsSupported code slot facts → (c : ℤ) → IsTrue (facts at c) → ⊥

  untold_at : (at k : ℕ) → at ≡ k → IsUntold k → IsUntold at
  untold_at at k e none facts supported c fact =
      none facts supported c (subst (λ n. IsTrue (facts n c)) e fact)

  first_untold : IsUntold 0
  first_untold facts supported c fact = supported.first c fact

  handler_untold : (h : Handler) → Contains code.handlers h → IsUntold h.entry
  handler_untold h has facts supported c fact =
      All-contains (λ (h : Handler). (c : ℤ) → IsTrue (facts h.entry c) → ⊥) code.handlers h
      supported.handlers has c fact

  -- along one way to an index
  some_most : (at : ℕ) → IsReached code at → (o : Option ℤ) × IsMost at o
  some_most at (first e) = (
    None,
    λ facts supported c fact.
        absurd (untold_at at 0 e first_untold facts supported c fact),
  )
  some_most at (led_to from k i r here e) =
      let before = some_most from r in
      let next : Contains (successors code from) at =
      subst (λ l. Contains l at) (sym (ap (successors_by (length code.ins) from) here))
      (it_has (successors_of (length code.ins) from i.op) k at e) in (
        after (change_at code slot from) before.0,
        λ facts supported c fact.
            yields_after facts from c (change_at code slot from) before.0
            (λ d told. before.1 facts supported d told)
            (supported.flows from at c (slice_get_within code.ins from i here) next fact),
      )
  some_most at (entered from k h r lt here covered e) = (
    None,
    λ facts supported c fact.
        absurd (untold_at at h.entry e (handler_untold h (it_has code.handlers k h here))
        facts supported c fact),
  )

  -- ---- what isn't supported is left out

  -- a list that tells each supported set
  record IsAbove (known : List (Option ℤ)) : Type 0 where
    long : length known ≡ length code.ins
    most : (at : ℕ) → at < length code.ins → IsMost at (int_in known at)

  abbrev TellsSupported : List (Option ℤ) → Type 0
  TellsSupported known = IsSupported code slot (told known)

  abbrev rank : Option ℤ → ℕ
  rank None = 0
  rank (Some c) = 1

  abbrev LacksSupport : List (Option ℤ) → Type 0
  LacksSupport = Lacks (Option ℤ) rank None IsAbove TellsSupported

  module _ (known : List (Option ℤ)) (above : IsAbove known) where
    within : (at : ℕ) (v : ℤ) → int_in known at ≡ Some v → at < length known
    within at v e =
        ⊎_elim (λ lt. lt)
        (λ le. absurd (let q : None ≡ Some v = sym (get_or_past known at None le) ∙ e in cc))
        (cases_lt at (length known))

    leave : (at : ℕ) → IsUntold at → at < length known → IsAbove (set known at None)
    leave at none lt = record {
      long = length-set known at None ∙ above.long;
      most = λ x below.
          ⊎_elim (λ old. subst (IsMost x) (sym old) (above.most x below))
          (λ new facts supported c fact.
          absurd (untold_at x at new.0 none facts supported c fact))
          (after_set known at x None None lt);
    }

    lacks : (at : ℕ) (v : ℤ) → int_in known at ≡ Some v → IsUntold at → LacksSupport known
    lacks at v e none =
        let lt = within at v e in
        let one : rank (int_in known at) ≡ 1 = ap rank e in
        (at, None, lt, omega (arith, one), leave at none lt)

    -- an int is told where none is supported
    none_by : (at : ℕ) → IsUntold at → (o : Option ℤ) → int_in known at ≡ o
        → ((c : ℤ) → IsTrue (told known at c) → ⊥) ⊎ LacksSupport known
    none_by at none None e = inl (λ c t.
        let q : None ≡ Some c = sym e ∙ is_told (int_in known at) c t in cc)
    none_by at none (Some v) e = inr (lacks at v e none)

    abbrev FlowsTo : ℕ → ℕ → Type 0
    FlowsTo p at = (c : ℤ) → IsTrue (told known at c)
        → Yields (told known) p c (change_at code slot p)

    -- an int is told that p doesn't yield
    untold_by : (p at : ℕ) → p < length code.ins → Contains (successors code p) at → (v : ℤ)
        → int_in known at ≡ Some v
        → (Yields (told known) p v (change_at code slot p) → ⊥) → IsUntold at
    untold_by p at lt next v e never facts supported c fact =
        let same : c ≡ v =
        same_Some c v (sym (above.most at (supported.within at c fact) facts supported c fact) ∙ e) in
        never (subst (λ z. Yields (told known) p z (change_at code slot p)) same
        (yields_more facts (told known) p c (change_at code slot p)
        (λ d has. told_is (int_in known p) d (above.most p lt facts supported d has))
        (supported.flows p at c lt next fact)))

    flows_by : (p at : ℕ) → p < length code.ins → Contains (successors code p) at → (o : Option ℤ)
        → int_in known at ≡ o → FlowsTo p at ⊎ LacksSupport known
    flows_by p at lt next None e = inl (λ c t. absurd
        (let q : None ≡ Some c = sym e ∙ is_told (int_in known at) c t in cc))
    flows_by p at lt next (Some v) e =
        ⊎_elim
        (λ y. inl (λ c t.
        let same : v ≡ c = same_Some v c (sym e ∙ is_told (int_in known at) c t) in
        subst (λ z. Yields (told known) p z (change_at code slot p)) same y))
        (λ never. inr (lacks at v e (untold_by p at lt next v e never)))
        (yields_or known p v (change_at code slot p))

    flows : ((p : ℕ) → p < length code.ins → All (FlowsTo p) (successors code p))
        ⊎ LacksSupport known
    flows = below_or (λ p. All (FlowsTo p) (successors code p)) (length code.ins)
        (λ p lt. each_or (FlowsTo p) (successors code p)
        (λ at next. flows_by p at lt next (int_in known at) refl))

    handlers : All (λ (h : Handler). (c : ℤ) → IsTrue (told known h.entry c) → ⊥) code.handlers
        ⊎ LacksSupport known
    handlers = each_or (λ (h : Handler). (c : ℤ) → IsTrue (told known h.entry c) → ⊥) code.handlers
        (λ h has. none_by h.entry (handler_untold h has) (int_in known h.entry) refl)

    supported_or_lacks : TellsSupported known ⊎ LacksSupport known
    supported_or_lacks =
        ⊎_elim
        (λ start. ⊎_elim
        (λ entries. ⊎_elim
        (λ all. inl (record {
          within = λ at c t.
              subst (λ n. at < n) above.long (within at c (is_told (int_in known at) c t));
          first = start;
          handlers = entries;
          flows = λ p at c lt next t. All-contains (FlowsTo p) (successors code p) at (all p lt) next c t;
        })) inr flows)
        inr handlers)
        inr (none_by 0 first_untold (int_in known 0) refl)

  pub some_largest : IsSound code → IsAllReached code
      → (known : List (Option ℤ)) × IsLargest code slot known
  some_largest sound reached =
      let start = listed IsMost (length code.ins)
      (λ at lt. some_most at (all_reached code sound reached at lt)) in
      let r = settle (Option ℤ) rank None IsAbove TellsSupported supported_or_lacks start.0
      (record { long = start.1; most = λ at lt. start.2 at None lt }) in (
        r.0,
        record {
          count = r.1.long;
          supported = r.2;
          largest = λ others supported at c fact.
              r.1.most at (supported.within at c fact) others supported c fact;
        },
      )
