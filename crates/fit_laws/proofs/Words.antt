-- Words at the top of the two stacks.
use Rattle.std.proofs.Common.{ℕ, ◌++◌, List, [], ◌∷◌, Option, Some, None, Bool, true, false, ◌≡◌}
use Rattle.std.proofs.Common.{refl, ap, ◌∙◌, subst}
use Rattle.std.specs.Prelude.{◌==◌, cond, option_map}
use Rattle.std.specs.Option.{option_and_then}
use Rattle.class_model.specs.Frames.{words_of_type}
use Rattle.class_model.specs.declared.frame.VType.{VType}
use Rattle.class_model.specs.declared.frame.VType.TheVariants as vtype
use Rattle.jvm_model.specs.Heap.{Object}
use Rattle.jvm_model.specs.Stack.{◌>>=◌}
use Rattle.jvm_model.specs.Stack as machine
use Rattle.jvm_model.specs.Value.{Value, Int, Long, Null, Ref, Lit, is_wide}
use Rattle.type_verifier.specs.Effects as checker
use Rattle.type_verifier.specs.Effects.{is_category_1}
use Rattle.type_verifier.specs.Environment.{Environment}
use Rattle.fit_laws.specs.Frames.{FitsStack}
use Rattle.fit_laws.specs.Values.{FitsValue}

module _ (env : Environment) (heap : List Object) where
  -- a value of a type of one word isn't wide
  narrow : (t : VType) → is_category_1 t ≡ true → (v : Value) → FitsValue env heap t v
      → is_wide v ≡ false
  narrow vtype.Top e v x = absurd cc
  narrow vtype.Int e v x = ap is_wide x.1
  narrow vtype.Long e v x = absurd cc
  narrow vtype.Null e v x = ap is_wide x
  narrow vtype.UninitThis e v x = ap is_wide x.1
  narrow (vtype.Uninit at) e v x = ap is_wide x.1
  narrow (vtype.Object ty) e (Int z) x = absurd x
  narrow (vtype.Object ty) e (Long z) x = absurd x
  narrow (vtype.Object ty) e Null x = refl
  narrow (vtype.Object ty) e (Ref n) x = refl
  narrow (vtype.Object ty) e (Lit units) x = refl

  -- one of two words is
  broad : (t : VType) → (words_of_type t == 2) ≡ true → (v : Value) → FitsValue env heap t v
      → is_wide v ≡ true
  broad vtype.Long e v x = ap is_wide x.1
  broad vtype.Top e v x = absurd cc
  broad vtype.Int e v x = absurd cc
  broad vtype.Null e v x = absurd cc
  broad vtype.UninitThis e v x = absurd cc
  broad (vtype.Uninit at) e v x = absurd cc
  broad (vtype.Object ty) e v x = absurd cc

  -- the values that are split off fit, and so do those that are left
  pub record SplitsOff (split : machine.Split) (p : checker.Split) : Type 0 where
    pub values : List Value
    pub rest : List Value
    pub is : split ≡ Some (values, rest)
    pub fits : FitsStack env heap p.0 values
    pub fits_rest : FitsStack env heap p.1 rest

  one_split : (ts : List VType) (p : checker.Split) → checker.one_word ts ≡ Some p
      → (s : List Value)
      → FitsStack env heap ts s → SplitsOff (machine.one_word s) p
  one_split [] p e s x = absurd cc
  one_split (t ∷ ts) p e [] x = absurd x
  one_split (t ∷ ts) p e (v ∷ s) x = by (is_category_1 t) refl e where
    by : (c : Bool) → is_category_1 t ≡ c
        → (let o : Option checker.Split = cond c (Some (t ∷ [], ts)) None in o) ≡ Some p
        → SplitsOff (machine.one_word (v ∷ s)) p
    by false h e = absurd cc
    by true h e = record {
      values = v ∷ [];
      rest = s;
      is = ap (λ (c : Bool). cond c None (Some (v ∷ [], s))) (narrow t h v x.0);
      fits = subst (λ (q : checker.Split). FitsStack env heap q.0 (v ∷ [])) (got e) (x.0, tt);
      fits_rest = subst (λ (q : checker.Split). FitsStack env heap q.1 s) (got e) x.1;
    } where
      got : (let o : Option checker.Split = Some (t ∷ [], ts) in o) ≡ Some p
          → (let q : checker.Split = (t ∷ [], ts) in q) ≡ p
      got e = cc

  two_split : (ts : List VType) (p : checker.Split) → checker.two_words ts ≡ Some p
      → (s : List Value)
      → FitsStack env heap ts s → SplitsOff (machine.two_words s) p
  two_split [] p e s x = absurd cc
  two_split (t ∷ ts) p e [] x = absurd x
  two_split (t ∷ ts) p e (v ∷ s) x = by (words_of_type t == 2) refl e where
    got : (q : checker.Split) → (let o : Option checker.Split = Some q in o) ≡ Some p → q ≡ p
    got q e = cc

    second : (us : List VType) (r : List Value) → FitsStack env heap us r → is_wide v ≡ false
        → checker.second_word t us ≡ Some p → SplitsOff (machine.two_words (v ∷ r)) p
    second [] r y n e = absurd cc
    second (u ∷ us) [] y n e = absurd y
    second (u ∷ us) (w ∷ r) y n e = each (is_category_1 u) refl e where
      each : (c : Bool) → is_category_1 u ≡ c
          → (let o : Option checker.Split = cond c (Some (t ∷ u ∷ [], us)) None in o) ≡ Some p
          → SplitsOff (machine.two_words (v ∷ w ∷ r)) p
      each false h e = absurd cc
      each true h e = record {
        values = v ∷ w ∷ [];
        rest = r;
        is = ap (λ (c : Bool). cond c (Some (v ∷ [], w ∷ r)) (machine.one_word (w ∷ r) >>=
            (λ q. Some (v ∷ q.0, q.1)))) n
            ∙ ap (λ (c : Bool). (let o : machine.Split = cond c None (Some (w ∷ [], r)) in o) >>=
            (λ q. Some (v ∷ q.0, q.1)))
            (narrow u h w y.0);
        fits = subst (λ (q : checker.Split). FitsStack env heap q.0 (v ∷ w ∷ [])) (got _ e)
            (x.0, (y.0, tt));
        fits_rest = subst (λ (q : checker.Split). FitsStack env heap q.1 r) (got _ e) y.1;
      }

    one : (c : Bool) → is_category_1 t ≡ c
        → (let o : Option checker.Split = cond c (checker.second_word t ts) None in o) ≡ Some p
        → SplitsOff (machine.two_words (v ∷ s)) p
    one false h e = absurd cc
    one true h e = second ts s x.1 (narrow t h v x.0) e

    by : (c : Bool) → (words_of_type t == 2) ≡ c
        → (let o : Option checker.Split =
        cond c (Some (t ∷ [], ts)) (cond (is_category_1 t) (checker.second_word t ts) None)
        in o)
        ≡ Some p → SplitsOff (machine.two_words (v ∷ s)) p
    by false h e = one (is_category_1 t) refl e
    by true h e = record {
      values = v ∷ [];
      rest = s;
      is = ap (λ (c : Bool). cond c (Some (v ∷ [], s)) (machine.one_word s >>=
          (λ q. Some (v ∷ q.0, q.1)))) (broad t h v x.0);
      fits = subst (λ (q : checker.Split). FitsStack env heap q.0 (v ∷ [])) (got _ e) (x.0, tt);
      fits_rest = subst (λ (q : checker.Split). FitsStack env heap q.1 s) (got _ e) x.1;
    }

  pub splits : (n : ℕ) (ts : List VType) (p : checker.Split) → checker.split_words n ts ≡ Some p
      → (s : List Value)
      → FitsStack env heap ts s → SplitsOff (machine.split_words n s) p
  splits n ts p e s x = by (n == 0) (n == 1) e where
    by : (c d : Bool)
        → (let o : Option checker.Split =
        cond c (Some ([], ts)) (cond d (checker.one_word ts) (checker.two_words ts)) in o)
        ≡ Some p → SplitsOff
        (cond c (Some ([], s)) (cond d (machine.one_word s) (machine.two_words s))) p
    by true d e = record {
      values = [];
      rest = s;
      is = refl;
      fits = subst (λ (q : checker.Split). FitsStack env heap q.0 []) (got e) tt;
      fits_rest = subst (λ (q : checker.Split). FitsStack env heap q.1 s) (got e) x;
    } where
      got : (let o : Option checker.Split = Some ([], ts) in o) ≡ Some p
          → (let q : checker.Split = ([], ts) in q) ≡ p
      got e = cc
    by false true e = one_split ts p e s x
    by false false e = two_split ts p e s x

  joined : (ts us : List VType) (s r : List Value) → FitsStack env heap ts s
      → FitsStack env heap us r
      → FitsStack env heap (ts ++ us) (s ++ r)
  joined [] us [] r x y = y
  joined [] us (v ∷ s) r x y = absurd x
  joined (t ∷ ts) us [] r x y = absurd x
  joined (t ∷ ts) us (v ∷ s) r x y = (x.0, joined ts us s r x.1 y)

  -- pop and pop2
  pub dropped_fit : (n : ℕ) (ts us : List VType) → checker.dropped n ts ≡ Some us
      → (s : List Value) → FitsStack env heap ts s
      → (r : List Value) × (machine.dropped n s ≡ Some r) × FitsStack env heap us r
  dropped_fit n ts us e s x = by (checker.split_words n ts) refl e where
    by : (o : Option checker.Split) → checker.split_words n ts ≡ o
        → option_map (λ (p : checker.Split). p.1) o ≡ Some us
        → (r : List Value) × (machine.dropped n s ≡ Some r) × FitsStack env heap us r
    by None h e = absurd cc
    by (Some p) h e = let q = splits n ts p h s x in (
      q.rest,
      ap (λ (o : machine.Split). o >>= (λ z. Some z.1)) q.is,
      subst (λ (z : List VType). FitsStack env heap z q.rest) (got p e) q.fits_rest,
    )
      where
        got : (p : checker.Split) → option_map (λ (p : checker.Split). p.1) (Some p) ≡ Some us
            → p.1 ≡ us
        got p e = cc

  -- dup to dup2_x2
  pub doubled_fit : (n m : ℕ) (ts us : List VType) → checker.doubled n m ts ≡ Some us
      → (s : List Value)
      → FitsStack env heap ts s → (r : List Value) × (machine.doubled n m s ≡ Some r)
      × FitsStack env heap us r
  doubled_fit n m ts us e s x = by (checker.split_words n ts) refl e where
    below : (p : checker.Split) (q : SplitsOff (machine.split_words n s) p)
        (o : Option checker.Split)
        → checker.split_words m p.1 ≡ o
        → option_map (λ (z : List VType). p.0 ++ z)
        (option_map (λ (next : checker.Split). next.0 ++ (p.0 ++ next.1)) o) ≡ Some us
        → (r : List Value) × (machine.doubled n m s ≡ Some r) × FitsStack env heap us r
    below p q None h e = absurd cc
    below p q (Some t) h e = let u = splits m p.1 t h q.rest q.fits_rest in (
      q.values ++ (u.values ++ (q.values ++ u.rest)),
      ap (λ (o : machine.Split). o >>=
          (λ z. machine.split_words m z.1 >>= (λ y. Some (z.0 ++ (y.0 ++ (z.0 ++ y.1)))))) q.is
          ∙ ap (λ (o : machine.Split). o >>= (λ y. Some (q.values ++ (y.0 ++ (q.values ++ y.1)))))
          u.is,
      subst (λ (z : List VType). FitsStack env heap z
          (q.values ++ (u.values ++ (q.values ++ u.rest)))) (got p t e)
          (joined p.0 (t.0 ++ (p.0 ++ t.1)) q.values (u.values ++ (q.values ++ u.rest)) q.fits
          (joined t.0 (p.0 ++ t.1) u.values (q.values ++ u.rest) u.fits
          (joined p.0 t.1 q.values u.rest q.fits u.fits_rest))),
    )
      where
        got : (p t : checker.Split) → Some (p.0 ++ (t.0 ++ (p.0 ++ t.1))) ≡ Some us
            → p.0 ++ (t.0 ++ (p.0 ++ t.1)) ≡ us
        got p t e = cc

    by : (o : Option checker.Split) → checker.split_words n ts ≡ o
        → option_and_then (λ (top : checker.Split). option_map (λ (z : List VType). top.0 ++ z)
        (checker.put_below top.0 m top.1)) o
        ≡ Some us → (r : List Value) × (machine.doubled n m s ≡ Some r) × FitsStack env heap us r
    by None h e = absurd cc
    by (Some p) h e = below p (splits n ts p h s x) (checker.split_words m p.1) refl e

  -- swap
  pub swapped_fit : (ts us : List VType) → checker.swapped ts ≡ Some us → (s : List Value)
      → FitsStack env heap ts s
      → (r : List Value) × (machine.swapped s ≡ Some r) × FitsStack env heap us r
  swapped_fit ts us e s x = by (checker.split_words 1 ts) refl e where
    below : (p : checker.Split) (q : SplitsOff (machine.split_words 1 s) p)
        (o : Option checker.Split) → checker.split_words 1 p.1 ≡ o
        → option_map (λ (next : checker.Split). next.0 ++ (p.0 ++ next.1)) o ≡ Some us
        → (r : List Value) × (machine.swapped s ≡ Some r) × FitsStack env heap us r
    below p q None h e = absurd cc
    below p q (Some t) h e = let u = splits 1 p.1 t h q.rest q.fits_rest in (
      u.values ++ (q.values ++ u.rest),
      ap (λ (o : machine.Split). o >>= (λ z. machine.one_word z.1
          >>= (λ y. Some (y.0 ++ (z.0 ++ y.1))))) q.is
          ∙ ap (λ (o : machine.Split). o >>= (λ y. Some (y.0 ++ (q.values ++ y.1)))) u.is,
      subst (λ (z : List VType). FitsStack env heap z (u.values ++ (q.values ++ u.rest))) (got p t e)
          (joined t.0 (p.0 ++ t.1) u.values (q.values ++ u.rest) u.fits
          (joined p.0 t.1 q.values u.rest q.fits u.fits_rest)),
    )
      where
        got : (p t : checker.Split) → Some (t.0 ++ (p.0 ++ t.1)) ≡ Some us
            → t.0 ++ (p.0 ++ t.1) ≡ us
        got p t e = cc

    by : (o : Option checker.Split) → checker.split_words 1 ts ≡ o
        → option_and_then (λ (top : checker.Split). checker.put_below top.0 1 top.1) o ≡ Some us
        → (r : List Value) × (machine.swapped s ≡ Some r) × FitsStack env heap us r
    by None h e = absurd cc
    by (Some p) h e = below p (splits 1 ts p h s x) (checker.split_words 1 p.1) refl e
