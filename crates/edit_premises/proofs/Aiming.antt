-- Instructions that are alike but for their targets are of sorts that are so.
use Rattle.std.proofs.Common.{ℕ, List, [], ◌∷◌, Option, Some, None, Bool, true, false, ◌≡◌, refl}
use Rattle.std.proofs.Common.{sym, ap, subst}
use Rattle.std.specs.Prelude.{ℤ, pos, ◌-ℤ◌, if◌then◌else◌}
use Rattle.std.specs.List.{AllZip, find}
use Rattle.std.specs.Option.{option_map, unwrap_or}
use Rattle.std.specs.Ordering.{int_eq}
use Rattle.class_model.specs.declared.op.ArithOp.{ArithOp}
use Rattle.class_model.specs.declared.op.ArithOp.TheVariants as arith
use Rattle.class_model.specs.declared.op.Case.{Case}
use Rattle.class_model.specs.declared.op.ConvOp.{ConvOp}
use Rattle.class_model.specs.declared.op.ConvOp.TheVariants as conv
use Rattle.class_model.specs.declared.op.Kind.TheVariants as kind
use Rattle.class_model.specs.declared.op.Num.{Num}
use Rattle.class_model.specs.declared.op.Op.{Op}
use Rattle.class_model.specs.declared.op.Op.TheVariants as op
use Rattle.jvm_model.specs.Instructions.{Sort, arithmetic, case_target}
use Rattle.jvm_model.specs.Instructions.{conversion, jump_if, sort_of, table_target}
use Rattle.jvm_model.specs.Mapped.{OptionCorr}
use Rattle.jvm_model.specs.Stack.{◌>>=◌, top, with}
use Rattle.jvm_model.specs.Value.{Value, as_int, as_kind}
use Rattle.jvm_model.proofs.Keys.{zip_get}
use Rattle.edit_premises.specs.Aims.{CaseAims, OpAims, PlaceAims, ReadAims, SortAims}

module _ (T : ℕ → ℕ → Type 0) (N : Type 0) where
  if_aims : (b : Bool) (t u : ℕ) → T t u → N → PlaceAims T N (jump_if b t) (jump_if b u)
  if_aims true t u h n = (u, refl, h)
  if_aims false t u h n = (refl, n)

  one_aims : {A : Type 0} (f g : A → Option ℕ) → ((a : A) → PlaceAims T N (f a) (g a))
      → (o : Option (A × List Value))
      → ReadAims T N (o >>= (λ a. Some (f a.0, a.1))) (o >>= (λ a. Some (g a.0, a.1)))
  one_aims f g h None = tt
  one_aims f g h (Some a) = (_, refl, h a.0)

  two_aims : {A B : Type 0} (r : List Value → Option (A × List Value)) (f g : A → B → Option ℕ)
      → ((a : A) (b : B) → PlaceAims T N (f a b) (g a b)) → (o : Option (B × List Value))
      → ReadAims T N (o >>= (λ b. r b.1 >>= (λ a. Some (f a.0 b.0, a.1))))
      (o >>= (λ b. r b.1 >>= (λ a. Some (g a.0 b.0, a.1))))
  two_aims r f g h None = tt
  two_aims r f g h (Some b) = one_aims (λ a. f a b.0) (λ a. g a b.0) (λ a. h a b.0) (r b.1)

  else_aims : (a b : Option ℕ) (t u : ℕ) → OptionCorr T a b → T t u
      → T (unwrap_or a t) (unwrap_or b u)
  else_aims None b t u h k = subst (λ o. T t (unwrap_or o u)) (sym h) k
  else_aims (Some x) b t u h k = subst (λ o. T x (unwrap_or o u)) (sym h.1) h.2

  table_aims : (ts us : List ℕ) → AllZip T ts us → (z : ℤ)
      → OptionCorr T (table_target ts z) (table_target us z)
  table_aims ts us h (pos n) = zip_get T ts us h n
  table_aims ts us h z = refl

  case_aims : (cs ds : List Case) → AllZip (CaseAims T N) cs ds → (z : ℤ)
      → OptionCorr T (case_target cs z) (case_target ds z)
  case_aims [] [] h z = refl
  case_aims [] (d ∷ ds) h z = absurd h
  case_aims (c ∷ cs) [] h z = absurd h
  case_aims (c ∷ cs) (d ∷ ds) h z =
      let key : c.key ≡ d.key = ap (λ (x : Case). x.key) (sym h.0.0) in
      subst
      (λ k. OptionCorr T (case_target (c ∷ cs) z)
      (option_map (λ (x : Case). x.to)
      (if int_eq k z then Some d else find (λ (x : Case). int_eq x.key z) ds))) key
      (by (int_eq c.key z) (case_aims cs ds h.1 z))
    where
      by : (b : Bool) → OptionCorr T (case_target cs z) (case_target ds z)
          → OptionCorr T
          (option_map (λ (x : Case). x.to)
          (if b then Some c else find (λ (x : Case). int_eq x.key z) cs))
          (option_map (λ (x : Case). x.to)
          (if b then Some d else find (λ (x : Case). int_eq x.key z) ds))
      by true r = (d.to, refl, h.0.1)
      by false r = r

  arith_aims : (o : ArithOp) (n : Num) → N → SortAims T N (arithmetic o n) (arithmetic o n)
  arith_aims arith.Add n h = (refl, h)
  arith_aims arith.Sub n h = (refl, h)
  arith_aims arith.Mul n h = (refl, h)
  arith_aims arith.Div n h = (refl, h)
  arith_aims arith.Rem n h = (refl, h)

  conv_aims : (o : ConvOp) → N → SortAims T N (conversion o) (conversion o)
  conv_aims conv.I2l h = (refl, h)
  conv_aims conv.L2i h = (refl, h)
  conv_aims conv.I2b h = (refl, h)
  conv_aims conv.I2c h = (refl, h)
  conv_aims conv.I2s h = (refl, h)

  to : (o o' : Op) (s : Sort) → o' ≡ o → SortAims T N s (sort_of o) → SortAims T N s (sort_of o')
  to o o' s e h = subst (λ q. SortAims T N s (sort_of q)) (sym e) h

  pub sorts_aim : (o o' : Op) → OpAims T N o o' → SortAims T N (sort_of o) (sort_of o')
  sorts_aim (op.IfZero c t) o' h = to (op.IfZero c h.0) o' (sort_of (op.IfZero c t)) h.1
      (_, refl, λ s. one_aims _ _ (λ a. if_aims _ t h.0 h.2 h.3) (top as_int s))
  sorts_aim (op.IfCmp c t) o' h = to (op.IfCmp c h.0) o' (sort_of (op.IfCmp c t)) h.1
      (_, refl, λ s. two_aims (top as_int) _ _ (λ a b. if_aims _ t h.0 h.2 h.3) (top as_int s))
  sorts_aim (op.IfRef eq t) o' h = to (op.IfRef eq h.0) o' (sort_of (op.IfRef eq t)) h.1 (
    _,
    refl,
    λ s. two_aims (top (as_kind kind.Ref)) _ _ (λ a b. if_aims _ t h.0 h.2 h.3)
        (top (as_kind kind.Ref) s),
  )
  sorts_aim (op.IfNull null t) o' h = to (op.IfNull null h.0) o' (sort_of (op.IfNull null t)) h.1
      (_, refl, λ s. one_aims _ _ (λ a. if_aims _ t h.0 h.2 h.3) (top (as_kind kind.Ref) s))
  sorts_aim (op.Goto t) o' h = to (op.Goto h.0) o' (sort_of (op.Goto t)) h.1
      (with (Some h.0), refl, λ s. (Some h.0, refl, (h.0, refl, h.2)))
  sorts_aim (op.TableSwitch low t ts) o' h =
      to (op.TableSwitch low h.0 h.1) o' (sort_of (op.TableSwitch low t ts)) h.2 (
        _,
        refl,
        λ s. one_aims _ _
            (λ a. (
              _,
              refl,
              else_aims (table_target ts (a -ℤ low)) (table_target h.1 (a -ℤ low)) t h.0
                  (table_aims ts h.1 h.4 (a -ℤ low)) h.3,
            )) (top as_int s),
      )
  sorts_aim (op.LookupSwitch t cs) o' h =
      to (op.LookupSwitch h.0 h.1) o' (sort_of (op.LookupSwitch t cs)) h.2 (
        _,
        refl,
        λ s. one_aims _ _
            (λ a. (
              _,
              refl,
              else_aims (case_target cs a) (case_target h.1 a) t h.0
                  (case_aims cs h.1 h.4 a) h.3,
            )) (top as_int s),
      )
  sorts_aim (op.Return None) o' h = to (op.Return None) o' (sort_of (op.Return None)) h refl
  sorts_aim (op.Return (Some k)) o' h =
      to (op.Return (Some k)) o' (sort_of (op.Return (Some k))) h refl
  sorts_aim op.Throw o' h = to op.Throw o' (sort_of op.Throw) h refl
  sorts_aim (op.Arith a n) o' h =
      to (op.Arith a n) o' (sort_of (op.Arith a n)) h.0 (arith_aims a n h.1)
  sorts_aim (op.Conv a) o' h = to (op.Conv a) o' (sort_of (op.Conv a)) h.0 (conv_aims a h.1)
  sorts_aim o o' h = to o o' (sort_of o) h.0 (refl, h.1)
