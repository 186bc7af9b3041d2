-- Leaving out what isn't reached or does nothing meets the premise.
use Rattle.std.proofs.Common.{ℕ, suc, ◌+◌, ◌-◌, ◌<◌, List, [], ◌∷◌, Option, Some, None, Bool, true}
use Rattle.std.proofs.Common.{false, ◌≡◌, ◌≤◌, ◌⊎◌, inl, inr, refl, sym, ap, ◌∙◌, subst, arith}
use Rattle.std.specs.Prelude.{length, map, nat_le, nat_lt, slice_get, ◌&&◌, if◌then◌else◌}
use Rattle.std.specs.List.{AllByRecursion, AllZip, filter, find}
use Rattle.std.specs.Option.{option_and_then, option_map, option_map_or}
use Rattle.std.proofs.lemmas.Bool.Decides.{leb_tells}
use Rattle.class_model.specs.declared.code.Code.{Code}
use Rattle.class_model.specs.declared.code.Handler.{Handler}
use Rattle.class_model.specs.declared.code.Ins.{Ins}
use Rattle.class_model.specs.declared.op.Case.{Case}
use Rattle.class_model.specs.declared.op.Op.{Op}
use Rattle.class_model.specs.declared.op.Op.TheVariants as op
use Rattle.jvm_model.specs.Instructions.{Sort, OnStack, Loads, Stores, Incs, Jumps, Asks, Leaves}
use Rattle.jvm_model.specs.Instructions.{Throws, sort_of}
use Rattle.jvm_model.specs.Local.{by_instruction, by_sort, goes_on, handles, local}
use Rattle.jvm_model.specs.Premise.{Effect, Enters, Meets, Premise, Turn, alone, breaks, together}
use Rattle.jvm_model.specs.Same.{LineCorr, line_at}
use Rattle.jvm_model.specs.State.{Body}
use Rattle.jvm_model.proofs.Compose.{line_refl}
use Rattle.edit_premises.specs.Aims.{CaseAims, OpAims}
use Rattle.edit_premises.specs.Compacts.{AtPlace, Compacts, IsClosed}
use Rattle.code_edit.specs.Rewriting.{compacted, is_open, map_from, moved_handler, place}
use Rattle.code_edit.specs.Rewriting.{retargeted, survivors, with_op}
use Rattle.code_edit.specs.Flow.{covers, goes_elsewhere, targets}
use Rattle.edit_premises.proofs.Aiming.{sorts_aim}
use Rattle.edit_premises.proofs.Effects.{GoOn, LocalsFit, body, sort_like}
use Rattle.edit_premises.proofs.Places.{get_below, le_same, lt_same, map_get, place_next}
use Rattle.edit_premises.proofs.Places.{place_stays, survivors_get}

module _ (c : Code) (lives reached : ℕ → Bool) (closed : IsClosed c reached)
    (nops : (at : ℕ) (i : Ins) → reached at ≡ true → lives at ≡ false → slice_get c.ins at ≡ Some i
    → i.op ≡ op.Nop) where
  abbrev d : Code
  d = compacted lives c

  abbrev R : ℕ → Body → Body → Type 0
  R = AtPlace c lives reached

  -- a target and where it comes to stand
  abbrev Reaches : ℕ → Type 0
  Reaches at = at < length c.ins → reached at ≡ true

  abbrev T : ℕ → ℕ → Type 0
  T t u = (u ≡ place lives t) × Reaches t

  abbrev p : ℕ → ℕ → ℕ
  p which to = place lives to

  -- ---- instructions

  table_aims : (k : ℕ) (ts : List ℕ) → AllByRecursion (λ t. reached t ≡ true) ts
      → AllZip T ts (map_from p k ts)
  table_aims k [] h = tt
  table_aims k (t ∷ ts) h = ((refl, λ b. h.0), table_aims (suc k) ts h.1)

  case_aims : (N : Type 0) (k : ℕ) (cs : List Case)
      → AllByRecursion (λ t. reached t ≡ true) (map (λ (x : Case). x.to) cs)
      → AllZip (CaseAims T N) cs (map_from (λ j (x : Case). record x { to = p j x.to }) k cs)
  case_aims N k [] h = tt
  case_aims N k (x ∷ cs) h = ((refl, (refl, λ b. h.0)), case_aims N (suc k) cs h.1)

  module _ (N : Type 0) where
    op_aims : (o : Op) → AllByRecursion (λ t. reached t ≡ true) (targets o)
        → (goes_elsewhere o ≡ false → N)
        → OpAims T N o (retargeted p o)
    op_aims (op.IfZero x t) h n = (_, refl, (refl, λ b. h.0), n refl)
    op_aims (op.IfCmp x t) h n = (_, refl, (refl, λ b. h.0), n refl)
    op_aims (op.IfRef e t) h n = (_, refl, (refl, λ b. h.0), n refl)
    op_aims (op.IfNull e t) h n = (_, refl, (refl, λ b. h.0), n refl)
    op_aims (op.Goto t) h n = (_, refl, (refl, λ b. h.0))
    op_aims (op.TableSwitch low t ts) h n = (_, _, refl, (refl, λ b. h.0), table_aims 1 ts h.1)
    op_aims (op.LookupSwitch t cs) h n = (_, _, refl, (refl, λ b. h.0), case_aims N 1 cs h.1)
    op_aims (op.Return k) h n = refl
    op_aims op.Throw h n = refl
    op_aims o h n = (refl, n refl)

  fits : (f : Body) (s : Sort)
      → LocalsFit R T (Reaches (f.at + 1)) (λ a b. b ≡ a) f.locals f.locals s
  fits f (OnStack g) = tt
  fits f (Loads k x) = refl
  fits f (Stores k x) = λ v. refl
  fits f (Incs x z) = λ i e. (i, e, refl)
  fits f (Jumps g) = tt
  fits f (Asks g) = tt
  fits f (Leaves g) = tt
  fits f Throws = tt

  module _ (f : Body) (below : f.at < length c.ins) (r : reached f.at ≡ true) where
    abbrev g : Body
    g = record f { at = place lives f.at }

    module _ (l : lives f.at ≡ true) where
      went : GoOn R T (Reaches (f.at + 1)) (λ a b. b ≡ a) f.at
          (place lives f.at) f.locals f.locals refl
      went = record {
        next = λ n a b e s. (_, (refl, n, λ i. body (sym (place_next lives f.at l) i) (e i) s));
        jump = λ t u e s. (_, (refl, e.1, ap (λ q. body q f.locals s) e.0));
      }

      ins_at : slice_get d.ins (place lives f.at) ≡ option_map (with_op (retargeted p))
          (slice_get c.ins f.at)
      ins_at =
          let z : f.at ≡ 0 + f.at = omega arith in
          map_get (with_op (retargeted p)) (survivors lives 0 c.ins) (place lives f.at)
          ∙ ap (option_map (with_op (retargeted p)))
          (survivors_get lives c.ins 0 f.at (subst (λ j. lives j ≡ true) z l))

      ins_like : (o : Option Ins) → slice_get c.ins f.at ≡ o
          → Effect R f g (by_instruction f o)
          (by_instruction g (option_map (with_op (retargeted p)) o))
      ins_like None e = tt
      ins_like (Some i) e =
          sort_like R T (Reaches (f.at + 1)) (λ a b. b ≡ a) f.at
          (place lives f.at) f.locals f.locals refl went f.stack
          (sort_of i.op) (sort_of (retargeted p i.op))
          (sorts_aim T _ i.op _
          (op_aims _ i.op (closed.jump f.at i r e) (λ q. closed.next f.at i r e q)))
          (fits f (sort_of i.op))

      line_same : (o : Option Ins)
          → option_and_then (λ (i : Ins). i.line) (option_map (with_op (retargeted p)) o)
          ≡ option_and_then (λ (i : Ins). i.line) o
      line_same None = refl
      line_same (Some i) = refl

      -- ---- handlers

      covers_same : (h : Handler)
          → covers (moved_handler (place lives) h) (place lives f.at) ≡ covers h f.at
      covers_same h =
          ap (λ b. b && nat_lt (place lives f.at) (place lives h.to)) (le_same lives h.from f.at l)
          ∙ ap (λ b. nat_le h.from f.at && b) (lt_same lives f.at h.to l)

      open_covers : (h : Handler) (at : ℕ) → is_open h ≡ false → covers h at ≡ true → ⊥
      open_covers h at shut e =
          by (leb_tells h.from at) (leb_tells (suc at) h.to) (leb_tells (suc h.from) h.to)
        where
          by : ((nat_le h.from at ≡ true) × (h.from ≤ at))
              ⊎ ((nat_le h.from at ≡ false) × (at < h.from))
              → ((nat_lt at h.to ≡ true) × (suc at ≤ h.to))
              ⊎ ((nat_lt at h.to ≡ false) × (h.to < suc at))
              → ((nat_lt h.from h.to ≡ true) × (suc h.from ≤ h.to))
              ⊎ ((nat_lt h.from h.to ≡ false) × (h.to < suc h.from)) → ⊥
          by (inl a) (inl b) (inl x) = let q : true ≡ false = sym x.0 ∙ shut in absurd cc
          by (inl a) (inl b) (inr x) = omega (arith, a.1, b.1, x.1)
          by (inl a) (inr b) x = let q : false ≡ true =
              sym (ap (λ v. nat_le h.from at && v) b.0 ∙ ap (λ v. v && false) a.0) ∙ e in absurd cc
          by (inr a) b x = let q : false ≡ true = sym (ap (λ v. v && nat_lt at h.to) a.0) ∙ e in
              absurd cc

      module _ (is : List ℕ → Bool) where
        abbrev caught : Handler → Bool
        caught h = option_map_or is h.caught true

        abbrev found : List Handler → Option ℕ
        found hs = option_map (λ (h : Handler). h.entry) (find (handles is f.at) hs)

        abbrev found_after : List Handler → Option ℕ
        found_after hs =
            option_map (λ (h : Handler). h.entry) (find (handles is (place lives f.at)) hs)

        abbrev m : Handler → Handler
        m h = moved_handler (place lives) h

        abbrev rest : List Handler → List Handler
        rest hs = filter is_open (map (moved_handler (place lives)) hs)

        entered : (v x b : Bool) (h : Handler) (o o' : Option Handler)
            → (v ≡ true → reached h.entry ≡ true)
            → (b ≡ false → v ≡ false)
            → Enters R f g (option_map (λ (h : Handler). h.entry) o)
            (option_map (λ (h : Handler). h.entry) o')
            → Enters R f g (option_map (λ (h : Handler). h.entry) (if v && x then Some h else o))
            (option_map (λ (h : Handler). h.entry) (if b && (v && x) then Some (m h) else o'))
        entered true true true h o o' e s k = (_, refl, λ y. (_, (refl, (λ b. e refl), refl)))
        entered true true false h o o' e s k = absurd (let q : true ≡ false = s refl in cc)
        entered true false true h o o' e s k = k
        entered true false false h o o' e s k = k
        entered false x true h o o' e s k = k
        entered false x false h o o' e s k = k

        in_rest : (b : Bool) (h : Handler) (hs : List Handler)
            → found_after (if b then m h ∷ rest hs else rest hs)
            ≡ option_map (λ (h : Handler). h.entry)
            (if b && handles is (place lives f.at) (m h) then Some (m h) else find
            (handles is (place lives f.at)) (rest hs))
        in_rest true h hs = refl
        in_rest false h hs = refl

        shut_covers : (h : Handler) → is_open (m h) ≡ false → covers h f.at ≡ false
        shut_covers h e = by (covers h f.at) refl
          where
            by : (b : Bool) → covers h f.at ≡ b → b ≡ false
            by true q = absurd (open_covers (m h) (place lives f.at) e (covers_same h ∙ q))
            by false q = refl

        enters : (hs : List Handler)
            → AllByRecursion (λ (h : Handler). (at : ℕ) → at < length c.ins → reached at ≡ true
            → covers h at ≡ true → reached h.entry ≡ true) hs
            → Enters R f g (found hs) (found_after (rest hs))
        enters [] z = refl
        enters (h ∷ hs) z =
            let k = entered (covers h f.at) (caught h) (is_open (m h)) h (find (handles is f.at) hs)
            (find (handles is (place lives f.at)) (rest hs)) (z.0 f.at below r) (shut_covers h)
            (enters hs z.1) in
            let e : handles is (place lives f.at) (m h) ≡ (covers h f.at && caught h) =
            ap (λ b. b && caught h) (covers_same h) in
            subst (Enters R f g (found (h ∷ hs)))
            (sym (in_rest (is_open (m h)) h hs
            ∙ ap
            (λ b. option_map (λ (h : Handler). h.entry)
            (if is_open (m h) && b then Some (m h) else find (handles is (place lives f.at))
            (rest hs))) e)) k

      meets : Meets R c d f g
      meets = record {
        line =
            subst (LineCorr (line_at f.at c))
            (sym (ap (option_and_then (λ (i : Ins). i.line)) ins_at
            ∙ line_same (slice_get c.ins f.at))) (line_refl _);
        caught = λ i. enters i c.handlers closed.entry;
        effect = subst (λ o. Effect R f g (local c f) (by_instruction g o)) (sym ins_at)
            (ins_like (slice_get c.ins f.at) refl);
      }

    -- an instruction that goes does nothing
    passed : (i : Ins) → slice_get c.ins f.at ≡ Some i → lives f.at ≡ false → (n : ℕ)
        → n ≡ length c.ins - f.at → Turn R c d n f g
    passed i e l n x =
        let nop = nops f.at i r l e in
        alone (goes_on f f.stack) (ap (by_instruction f) e ∙ ap (λ o. by_sort f (sort_of o)) nop)
        (length c.ins - (f.at + 1)) (
          refl,
          closed.next f.at i r e (ap goes_elsewhere nop),
          ap (λ q. body q f.locals f.stack) (sym (place_stays lives f.at l)),
        )
        (let y : length c.ins - (f.at + 1) < length c.ins - f.at = omega (arith, below) in
        subst (λ q. length c.ins - (f.at + 1) < q) (sym x) y)

    turned : (i : Ins) → slice_get c.ins f.at ≡ Some i → (b : Bool) → lives f.at ≡ b → (n : ℕ)
        → n ≡ length c.ins - f.at → Turn R c d n f g
    turned i e true l n x = together (meets l)
    turned i e false l n x = passed i e l n x

  -- behind the last instruction there is nothing to do
  turn : (n : ℕ) (f : Body) → n ≡ length c.ins - f.at → Reaches f.at → (o : Option Ins)
      → slice_get c.ins f.at ≡ o
      → Turn R c d n f (record f { at = place lives f.at })
  turn n f x r None e = breaks (ap (by_instruction f) e)
  turn n f x r (Some i) e =
      let below = get_below c.ins f.at i e in turned f below (r below) i e (lives f.at) refl n x

  pub compact_premise : Premise R c d
  compact_premise = record {
    begins = λ args. (_, (refl, (λ b. closed.first), refl));
    turn =
        λ n f g r. subst (Turn R c d n f) (sym r.2) (turn n f r.0 r.1 (slice_get c.ins f.at) refl);
  }

pub compacts_premise : (c d : Code) (by : Compacts c d)
    → Premise (AtPlace c by.lives by.reached) c d
compacts_premise c d by =
    subst (Premise (AtPlace c by.lives by.reached) c) (sym by.is)
    (compact_premise c by.lives by.reached by.closed by.nops)
