-- Deciding branches on constants meets the premise.
use Rattle.std.proofs.Common.{ℕ, ◌+◌, List, [], ◌∷◌, ◌++◌, Option, Some, None, Bool, true, false}
use Rattle.std.proofs.Common.{◌≡◌, inl, inr}
use Rattle.std.proofs.Common.{refl, sym, ap, ◌∙◌, subst}
use Rattle.std.specs.Prelude.{ℤ, pos, negsuc, ◌-ℤ◌, map, slice_get, if◌then◌else◌}
use Rattle.std.specs.List.{AllByRecursion, find}
use Rattle.std.specs.Option.{option_and_then, option_map, unwrap_or}
use Rattle.std.proofs.lemmas.List.Elements.{All-contains}
use Rattle.class_model.specs.declared.code.Code.{Code}
use Rattle.class_model.specs.declared.code.Handler.{Handler}
use Rattle.class_model.specs.declared.code.Ins.{Ins}
use Rattle.class_model.specs.declared.op.Cond.{Cond}
use Rattle.class_model.specs.declared.op.Cond.TheVariants as cond
use Rattle.class_model.specs.declared.op.Kind.TheVariants as kind
use Rattle.class_model.specs.declared.op.Op.{Op}
use Rattle.class_model.specs.declared.op.Op.TheVariants as op
use Rattle.jvm_model.specs.Instructions.{jump_if, table_target, Sort, OnStack, Loads, Stores, Incs}
use Rattle.jvm_model.specs.Instructions.{Jumps, Asks, Leaves, Throws, sort_of}
use Rattle.jvm_model.specs.Local.{Moves, after_load, by_instruction}
use Rattle.jvm_model.specs.Local.{by_sort, goes_on}
use Rattle.jvm_model.specs.Local.{handler_for, handles}
use Rattle.jvm_model.specs.Mapped.{OptionCorr}
use Rattle.jvm_model.specs.Premise.{Effect, Enters, Meets, Premise, Turn, together}
use Rattle.jvm_model.specs.Numbers.{holds}
use Rattle.jvm_model.specs.Same.{LineCorr}
use Rattle.jvm_model.specs.State.{Body}
use Rattle.jvm_model.specs.Value.{Value, Int, Ref, as_kind}
use Rattle.jvm_model.proofs.Compose.{line_refl}
use Rattle.edit_premises.specs.Aims.{OpAims}
use Rattle.code_edit.specs.Flow.{targets}
use Rattle.edit_premises.proofs.Aiming.{sorts_aim}
use Rattle.edit_premises.proofs.Effects.{GoOn, LocalsFit, body, sort_like}
use Rattle.code_edit.specs.Deciding.{decided, is_met, table_case, taken}
use Rattle.edit_premises.specs.Folding.{AtFold, AtFolded, FoldIns, FoldOp, Folds, Lands, goes}
use Rattle.edit_premises.specs.Folding.{loads, pushes, stays}
use Rattle.edit_premises.specs.Keeping.{Holds}
use Rattle.edit_premises.proofs.OwnAims.{own_aims}
use Rattle.edit_premises.proofs.Facing.{with_fact}
use Rattle.edit_premises.proofs.Holding.{facts_keep}

some_is : (x y : Option ℕ) → Some x ≡ Some y → x ≡ y
some_is x y h = cc

-- the machine decides as the definition says
met_is : (c : Cond) (a b : ℤ) → holds c a b ≡ is_met c a b
met_is cond.Eq a b = refl
met_is cond.Ne a b = refl
met_is cond.Lt a b = refl
met_is cond.Ge a b = refl
met_is cond.Gt a b = refl
met_is cond.Le a b = refl

jump_is : (b : Bool) (t : ℕ) → jump_if b t ≡ taken b t
jump_is true t = refl
jump_is false t = refl

leads_as : (c : Cond) (a b : ℤ) (t : ℕ) → jump_if (holds c a b) t ≡ taken (is_met c a b) t
leads_as c a b t = jump_is (holds c a b) t ∙ ap (λ x. taken x t) (met_is c a b)

table_is : (ts : List ℕ) (z : ℤ) → table_target ts z ≡ table_case ts z
table_is ts (pos n) = refl
table_is ts (negsuc n) = refl

-- what a branch or switch does with operands that are known
decides : (o : Op) (zs : List ℤ) (p : Option ℕ) → decided o zs ≡ Some p → (at : ℕ)
    → (l : ℕ → Option Value) (s : List Value)
    → by_sort (body at l (map Int zs ++ s)) (sort_of o) ≡ Moves (body (unwrap_or p (at + 1)) l s)
decides (op.IfZero c t) (a ∷ []) p e at l s =
    ap (λ r. Moves (body (unwrap_or r (at + 1)) l s)) (leads_as c a (pos 0) t ∙ some_is _ p e)
decides (op.IfCmp c t) (b ∷ a ∷ []) p e at l s =
    ap (λ r. Moves (body (unwrap_or r (at + 1)) l s)) (leads_as c a b t ∙ some_is _ p e)
decides (op.TableSwitch low other ts) (z ∷ []) p e at l s =
    ap (λ r. Moves (body (unwrap_or r (at + 1)) l s))
    (ap (λ o. Some (unwrap_or o other)) (table_is ts (z -ℤ low)) ∙ some_is _ p e)
decides (op.LookupSwitch other cs) (z ∷ []) p e at l s =
    ap (λ r. Moves (body (unwrap_or r (at + 1)) l s)) (some_is _ p e)
decides o zs p e at l s = absurd cc

module _ (c d : Code) (by : Folds c d) where
  abbrev R : ℕ → Body → Body → Type 0
  R = AtFold by.facts by.extra

  abbrev ints : List ℤ → List Value
  ints zs = map Int zs

  -- the same body, where the old stack has nothing more
  same : (at : ℕ) → by.extra at ≡ [] → (l : ℕ → Option Value) (s : List Value)
      → R 0 (body at l s) (body at l s)
  same at e l s = (refl, refl, ap (λ zs. ints zs ++ s) (sym e))

  abbrev T : ℕ → ℕ → Type 0
  T t u = (u ≡ t) × (by.extra t ≡ [])

  lines : (at : ℕ) (a b : Option Ins) → OptionCorr (FoldIns by.facts by.extra at) a b
      → LineCorr (option_and_then (λ (i : Ins). i.line) a) (option_and_then (λ (i : Ins). i.line) b)
  lines at None b h = subst (λ q. LineCorr None (option_and_then (λ (i : Ins). i.line) q))
      (sym h) tt
  lines at (Some i) b h = subst (λ q. LineCorr i.line (option_and_then (λ (i : Ins). i.line) q))
      (sym h.1)
      (subst (LineCorr i.line) (sym h.2.0) (line_refl i.line))

  module _ (f : Body) (is : Holds c by.facts f) where
    went : by.extra (f.at + 1) ≡ []
        → GoOn R T (Unit {0}) (λ a b. b ≡ a) f.at f.at f.locals f.locals refl
    went n = record {
      next = λ _ a b e s. (0, (refl, e, ap (λ zs. ints zs ++ s) (sym n)));
      jump = λ t u e s. (0, (e.0, refl, ap (λ zs. ints zs ++ s) (sym e.1)));
    }

    fits : (s : Sort) → LocalsFit R T (Unit {0}) (λ a b. b ≡ a) f.locals f.locals s
    fits (OnStack g) = tt
    fits (Loads k x) = refl
    fits (Stores k x) = λ v. refl
    fits (Incs x z) = λ i e. (i, e, refl)
    fits (Jumps g) = tt
    fits (Asks g) = tt
    fits (Leaves g) = tt
    fits Throws = tt

    own : (i : Ins) → slice_get c.ins f.at ≡ Some i → OpAims T (Unit {0}) i.op i.op
    own i here = own_aims (λ t. by.extra t ≡ []) (Unit {0}) i.op
        (λ t h. All-contains (λ t. by.extra t ≡ []) (targets i.op) t (by.jump f.at i here) h)
        (λ e. tt)

    -- an instruction that stays
    stays_like : (i : Ins) → slice_get c.ins f.at ≡ Some i → by.extra (f.at + 1) ≡ []
        → Effect R f f (by_sort f (sort_of i.op)) (by_sort f (sort_of i.op))
    stays_like i here n =
        sort_like R T (Unit {0}) (λ a b. b ≡ a) f.at f.at f.locals f.locals refl (went n) f.stack
        (sort_of i.op) (sort_of i.op)
        (sorts_aim T (Unit {0}) i.op i.op (own i here)) (fits (sort_of i.op))

    module _ (s : List Value) (h : f.stack ≡ ints (by.extra f.at) ++ s) where
      abbrev g : Body
      g = body f.at f.locals s

      -- an operand that goes
      pushed : (z : ℤ) → by.extra (f.at + 1) ≡ z ∷ by.extra f.at
          → Effect R f g (Moves (goes_on f (Int z ∷ f.stack))) (by_sort g (sort_of op.Nop))
      pushed z n = (
        _,
        refl,
        0,
        (refl, refl, ap (λ x. Int z ∷ x) h ∙ sym (ap (λ zs. ints zs ++ s) n)),
      )

      loaded : (slot : ℕ) (z : ℤ) → f.locals slot ≡ Some (Int z)
          → by.extra (f.at + 1) ≡ z ∷ by.extra f.at
          → Effect R f g (by_sort f (sort_of (op.Load kind.Int slot))) (by_sort g (sort_of op.Nop))
      loaded slot z e n =
          subst (λ o. Effect R f g (after_load f (option_and_then (as_kind kind.Int) o))
          (by_sort g (sort_of op.Nop))) (sym e)
          (pushed z n)

      -- a branch that is decided
      lands : (to : ℕ) → by.extra to ≡ [] → (o' : Op) → Lands f.at to o'
          → Effect R f g (Moves (body to f.locals s)) (by_sort g (sort_of o'))
      lands to n o' (inl e) =
          subst (λ x. Effect R f g (Moves (body to f.locals s)) (by_sort g (sort_of x))) (sym e)
          (_, refl, 0, same to n f.locals s)
      lands to n o' (inr e) =
          subst (λ x. Effect R f g (Moves (body to f.locals s)) (by_sort g (sort_of x))) (sym e.1) (
            body to f.locals s,
            ap (λ t. Moves (body t f.locals s))
                (sym e.0),
            0,
            same to n f.locals s,
          )

      fold_like : (i : Ins) → slice_get c.ins f.at ≡ Some i → (o' : Op)
          → FoldOp by.facts by.extra f.at i.op o'
          → Effect R f g (by_sort f (sort_of i.op)) (by_sort g (sort_of o'))
      fold_like i here o' (stays e n q) =
          subst (λ x. Effect R f (body f.at f.locals x) (by_sort f (sort_of i.op))
          (by_sort (body f.at f.locals x) (sort_of o')))
          (h ∙ ap (λ zs. ints zs ++ s) e)
          (subst (λ x. Effect R f f (by_sort f (sort_of i.op)) (by_sort f (sort_of x))) (sym q)
          (stays_like i here n))
      fold_like i here o' (pushes z q n p) =
          subst (λ x. Effect R f g (by_sort f (sort_of x)) (by_sort g (sort_of o'))) (sym q)
          (subst (λ x. Effect R f g (by_sort f (sort_of (op.PushInt z))) (by_sort g (sort_of x)))
          (sym p) (pushed z n))
      fold_like i here o' (loads slot z q fact n p) =
          subst (λ x. Effect R f g (by_sort f (sort_of x)) (by_sort g (sort_of o'))) (sym q)
          (subst (λ x. Effect R f g (by_sort f (sort_of (op.Load kind.Int slot)))
          (by_sort g (sort_of x))) (sym p)
          (loaded slot z (is.ints slot z fact) n))
      fold_like i here o' (goes p q n l) =
          let to = unwrap_or p (f.at + 1) in
          let e : by_sort f (sort_of i.op) ≡ Moves (body to f.locals s) =
          ap (λ x. by_sort (body f.at f.locals x) (sort_of i.op)) h
          ∙ decides i.op (by.extra f.at) p q f.at f.locals s in
          subst (λ x. Effect R f g x (by_sort g (sort_of o'))) (sym e) (lands to n o' l)

      ins_like : (a x : Option Ins) → slice_get c.ins f.at ≡ a
          → OptionCorr (FoldIns by.facts by.extra f.at) a x
          → Effect R f g (by_instruction f a) (by_instruction g x)
      ins_like None x e k = tt
      ins_like (Some i) x e k =
          subst (λ q. Effect R f g (by_instruction f (Some i)) (by_instruction g q)) (sym k.1)
          (fold_like i e k.0.op k.2.1)

      enters : (w : List ℕ → Bool) (hs : List Handler)
          → AllByRecursion (λ (k : Handler). by.extra k.entry ≡ []) hs
          → Enters R f g (handler_for w f.at hs) (handler_for w f.at hs)
      enters w [] z = refl
      enters w (k ∷ hs) z = one (handles w f.at k) (find (handles w f.at) hs) (enters w hs z.1)
        where
          one : (t : Bool) (o : Option Handler)
              → Enters R f g (option_map (λ (k : Handler). k.entry) o)
              (option_map (λ (k : Handler). k.entry) o)
              → Enters R f g (option_map (λ (k : Handler). k.entry) (if t then Some k else o))
              (option_map (λ (k : Handler). k.entry) (if t then Some k else o))
          one true o r = (k.entry, refl, λ x. (0, same k.entry z.0 f.locals (Ref x ∷ [])))
          one false o r = r

      meets : Meets R c d f g
      meets = record {
        line = lines f.at _ _ (by.ins f.at);
        caught = λ w. subst (λ hs. Enters R f g (handler_for w f.at c.handlers)
            (handler_for w f.at hs)) (sym by.handlers)
            (enters w c.handlers by.entry);
        effect = ins_like _ _ refl (by.ins f.at);
      }

  turn : (n : ℕ) (f g : Body) → Holds c by.facts f → R n f g → Turn R c d n f g
  turn n f g is r =
      subst (λ a. Turn R c d n f (body a g.locals g.stack)) (sym r.0)
      (subst (λ l. Turn R c d n f (body f.at l g.stack)) (sym r.1)
      (together (meets f is g.stack r.2)))

  pub folds_premise : Premise (AtFolded c by.facts by.extra) c d
  folds_premise = with_fact (Holds c by.facts) R c d (facts_keep c by.facts by.supported)
      (λ args. (0, (refl, refl, ap (λ zs. ints zs ++ []) (sym by.first)))) turn
