-- The arguments of a method fit its first frame.
use Rattle.std.proofs.Common.{ℕ, zero, suc, ◌+◌, ◌++◌, List, [], ◌∷◌, Option, Some, None, Bool}
use Rattle.std.proofs.Common.{true, false, ◌≡◌, ◌≢◌, ◌⊎◌, inl, inr, ⊎_elim, refl, sym, ap, subst}
use Rattle.std.proofs.Common.{slice_get, arith}
use Rattle.std.specs.Prelude.{cond, replicate, ◌==◌, ◌-◌, length}
use Rattle.std.specs.List.{AllByRecursion, AllZip, flat_map}
use Rattle.std.proofs.lemmas.Bool.{eq-eqb, eqb-true}
use Rattle.class_model.specs.declared.frame.VType.{VType}
use Rattle.class_model.specs.declared.frame.VType.TheVariants as vtype
use Rattle.jvm_model.specs.Heap.{Object}
use Rattle.jvm_model.specs.Local.{slots_from}
use Rattle.jvm_model.specs.Value.{Value, Int, Long, Null, Ref, Lit, is_wide, set_at}
use Rattle.type_verifier.specs.Frames.{expanded, local_words}
use Rattle.type_verifier.specs.Environment.{Environment}
use Rattle.fit_laws.specs.Frames.{FitsLocals, FitsSlot}
use Rattle.fit_laws.specs.Values.{FitsValue}
use Rattle.fit_laws.proofs.Lists.{some_same}

module _ (env : Environment) (heap : List Object) where
  -- anything fits Top
  pub top_fits : (o : Option Value) → FitsSlot env heap vtype.Top o
  top_fits None = refl
  top_fits (Some v) = tt

  pub at_first : (f : ℕ → Option Value) (n m : ℕ) (v : Value) → m ≡ n
      → set_at f n (Some v) m ≡ Some v
  at_first f n m v e = ap (λ (c : Bool). cond c (Some v) (f m)) (eq-eqb m n e)

  pub elsewhere : (f : ℕ → Option Value) (n m : ℕ) (v : Option Value) → m ≢ n → set_at f n v m ≡ f m
  elsewhere f n m v e = by (m == n) refl where
    by : (c : Bool) → (m == n) ≡ c → cond c v (f m) ≡ f m
    by true h = absurd (e (eqb-true m n h))
    by false h = refl

  -- a value of a type takes as many slots as words
  wide : (t : VType) → t ≢ vtype.Top → (v : Value) → FitsValue env heap t v
      → ((t ≡ vtype.Long) × (is_wide v ≡ true)) ⊎ ((local_words t ≡ t ∷ []) × (is_wide v ≡ false))
  wide vtype.Top n v x = absurd (n refl)
  wide vtype.Long n v x = inl (refl, ap is_wide x.1)
  wide vtype.Int n v x = inr (refl, ap is_wide x.1)
  wide vtype.Null n v x = inr (refl, ap is_wide x)
  wide vtype.UninitThis n v x = inr (refl, ap is_wide x.1)
  wide (vtype.Uninit at) n v x = inr (refl, ap is_wide x.1)
  wide (vtype.Object ty) n (Int z) x = absurd x
  wide (vtype.Object ty) n (Long z) x = absurd x
  wide (vtype.Object ty) n Null x = inr (refl, refl)
  wide (vtype.Object ty) n (Ref m) x = inr (refl, refl)
  wide (vtype.Object ty) n (Lit units) x = inr (refl, refl)

  abbrev pub NoTops : List VType → Type 0
  NoTops ts = AllByRecursion (λ (t : VType). t ≢ vtype.Top) ts

  abbrev FitsFrom : ℕ → List VType → (ℕ → Option Value) → Type 0
  FitsFrom n words f = (i : ℕ) (ty : VType) → slice_get words i ≡ Some ty
      → FitsSlot env heap ty (f (n + i))

  one_more : (n : ℕ) (t : VType) (v : Value) → FitsValue env heap t v
      → (words : List VType) (f : ℕ → Option Value)
      → FitsFrom (n + 1) words f → FitsFrom n (t ∷ words) (set_at f n (Some v))
  one_more n t v x words f y zero ty e =
      subst (λ (o : Option Value). FitsSlot env heap ty o)
      (sym (at_first f n (n + 0) v (omega arith)))
      (subst (λ (u : VType). FitsValue env heap u v) (some_same t ty e) x)
  one_more n t v x words f y (suc i) ty e = subst (λ (o : Option Value). FitsSlot env heap ty o)
      (sym (elsewhere f n (n + suc i) (Some v) (λ q. omega (arith, q))))
      (subst (λ (m : ℕ). FitsSlot env heap ty (f m)) (shift n i) (y i ty e))
    where
      shift : (n i : ℕ) → n + 1 + i ≡ n + suc i
      shift n i = omega arith

  two_more : (n : ℕ) (v : Value) → FitsValue env heap vtype.Long v
      → (words : List VType) (f : ℕ → Option Value)
      → FitsFrom (n + 2) words f → FitsFrom n (vtype.Long ∷ vtype.Top ∷ words) (set_at f n (Some v))
  two_more n v x words f y zero ty e =
      subst (λ (o : Option Value). FitsSlot env heap ty o)
      (sym (at_first f n (n + 0) v (omega arith)))
      (subst (λ (u : VType). FitsValue env heap u v) (some_same vtype.Long ty e) x)
  two_more n v x words f y (suc zero) ty e =
      subst (λ (u : VType). FitsSlot env heap u (set_at f n (Some v) (n + 1)))
      (some_same vtype.Top ty e) (top_fits (set_at f n (Some v) (n + 1)))
  two_more n v x words f y (suc (suc i)) ty e = subst (λ (o : Option Value). FitsSlot env heap ty o)
      (sym (elsewhere f n (n + suc (suc i)) (Some v) (λ q. omega (arith, q))))
      (subst (λ (m : ℕ). FitsSlot env heap ty (f m)) (shift n i) (y i ty e))
    where
      shift : (n i : ℕ) → n + 2 + i ≡ n + suc (suc i)
      shift n i = omega arith

  pub slots_fit : (n : ℕ) (ts : List VType) (vs : List Value) → NoTops ts
      → AllZip (FitsValue env heap) ts vs
      → FitsFrom n (flat_map local_words ts) (slots_from n vs)
  slots_fit n [] [] t x = λ i ty e. absurd (no_slot i ty e) where
    no_slot : (i : ℕ) (ty : VType) → slice_get {X = VType} [] i ≡ Some ty → ⊥
    no_slot i ty e = cc
  slots_fit n [] (v ∷ vs) t x = absurd x
  slots_fit n (u ∷ ts) [] t x = absurd x
  slots_fit n (u ∷ ts) (v ∷ vs) t x = ⊎_elim
      (λ s. subst (λ (words : List VType). FitsFrom n words (slots_from n (v ∷ vs)))
      (ap (λ (z : VType). local_words z ++ flat_map local_words ts) (sym s.0))
      (subst (λ (c : Bool). FitsFrom n (vtype.Long ∷ vtype.Top ∷ flat_map local_words ts)
      (set_at (slots_from (cond c (n + 2) (n + 1)) vs) n (Some v))) (sym s.1)
      (two_more n v (subst (λ (z : VType). FitsValue env heap z v) s.0 x.0)
      (flat_map local_words ts) (slots_from (n + 2) vs)
      (slots_fit (n + 2) ts vs t.1 x.1))))
      (λ s. subst (λ (words : List VType). FitsFrom n (words ++ flat_map local_words ts)
      (slots_from n (v ∷ vs))) (sym s.0)
      (subst (λ (c : Bool). FitsFrom n (u ∷ flat_map local_words ts)
      (set_at (slots_from (cond c (n + 2) (n + 1)) vs) n (Some v))) (sym s.1)
      (one_more n u v x.0 (flat_map local_words ts) (slots_from (n + 1) vs)
      (slots_fit (n + 1) ts vs t.1 x.1))))
      (wide u t.0 v x.0)

  -- Tops behind them
  padding : (words : List VType) (count : ℕ) (locals : ℕ → Option Value) (n : ℕ)
      → FitsFrom n words locals
      → FitsFrom n (words ++ replicate count vtype.Top) locals
  padding [] zero locals n x i ty e = absurd cc
  padding [] (suc count) locals n x zero ty e =
      subst (λ (u : VType). FitsSlot env heap u (locals (n + 0))) (some_same vtype.Top ty e)
      (top_fits (locals (n + 0)))
  padding [] (suc count) locals n x (suc i) ty e =
      subst (λ (m : ℕ). FitsSlot env heap ty (locals m)) (shift n i)
      (padding [] count locals (n + 1) (λ j u q. absurd cc) i ty e)
    where
      shift : (n i : ℕ) → n + 1 + i ≡ n + suc i
      shift n i = omega arith
  padding (w ∷ words) count locals n x zero ty e = x zero ty e
  padding (w ∷ words) count locals n x (suc i) ty e =
      subst (λ (m : ℕ). FitsSlot env heap ty (locals m)) (shift n i)
      (padding words count locals (n + 1)
      (λ j u q. subst (λ (m : ℕ). FitsSlot env heap u (locals m)) (sym (shift n j))
      (x (suc j) u q)) i ty e)
    where
      shift : (n i : ℕ) → n + 1 + i ≡ n + suc i
      shift n i = omega arith

  -- the first frame's locals
  pub arguments_fit : (max : ℕ) (ts : List VType) (vs : List Value) → NoTops ts
      → AllZip (FitsValue env heap) ts vs
      → FitsLocals env heap (expanded max ts) (slots_from 0 vs)
  arguments_fit max ts vs t x slot ty e =
      subst (λ (m : ℕ). FitsSlot env heap ty (slots_from 0 vs m)) (none slot)
      (padding (flat_map local_words ts) (max - length (flat_map local_words ts)) (slots_from 0 vs)
      0 (slots_fit 0 ts vs t x) slot ty e)
    where
      none : (n : ℕ) → 0 + n ≡ n
      none n = omega arith
