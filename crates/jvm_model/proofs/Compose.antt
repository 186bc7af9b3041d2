-- Doing the same is reflexive and composes.
use Rattle.std.proofs.Common.{ℕ, List, [], ◌∷◌, Option, Some, None, ◌≡◌, ◌≢◌, ◌≤◌, ◌⊎◌, inl, inr, refl, sym, ap, ◌∙◌}
use Rattle.std.proofs.Common.{subst}
use Rattle.std.proofs.Common.{arith, ⊎_elim}
use Rattle.std.specs.List.{AllZip}
use Rattle.std.specs.Option.{option_and_then}
use Rattle.jv_base.specs.declared.types.Base.{Base}
use Rattle.jv_base.specs.declared.types.Base.TheVariants as base
use Rattle.jv_base.specs.declared.types.FieldType.{FieldType}
use Rattle.jv_base.proofs.Options.{both_there}
use Rattle.jvm_model.specs.Heap.{Array, Builder, Instance, Object, Str, World}
use Rattle.jvm_model.specs.Program.{View}
use Rattle.jvm_model.specs.Same.{Alike, Corr, CorrEnd, FrameCorr, InStep, LineCorr, Names, ObjectCorr, Renamed, Same}
use Rattle.jvm_model.specs.Same.{SameSteps, ToldCorr, WorldCorr, base_name, chain, line_of, own_names, type_name}
use Rattle.jvm_model.specs.State.{Frame, HasReturned, HasThrown, Running, State, Status, WentWrong, frames, status}
use Rattle.jvm_model.specs.Step.{run, start}
use Rattle.jvm_model.specs.Value.{Key}
use Rattle.std.specs.Prelude.{IsSome, option_map}

-- ---- names

pub there_is : {A : Type 0} (o : Option A) → IsSome o → (x : A) × (o ≡ Some x)
there_is None h = absurd cc
there_is (Some x) h = (x, refl)

pub mapped_some : {A B : Type 0} (f : A → B) (o : Option A) (z : B) → option_map f o ≡ Some z
    → (y : A) × (o ≡ Some y) × (z ≡ f y)
mapped_some f None z e = cc
mapped_some f (Some y) z e = let e' : z ≡ f y = cc in (y, refl, e')

base_trans : (m n : Names) (a b c : Base) → base_name m a ≡ Some b → base_name n b ≡ Some c
    → base_name (chain m n) a ≡ Some c
base_trans m n (base.Class x) b c h k =
    let y = mapped_some base.Class (m.class x) b h in
    let z = mapped_some base.Class (n.class y.0) c (subst (λ q. base_name n q ≡ Some c) y.2 k) in
    ap (λ o. option_map base.Class (option_and_then n.class o)) y.1 ∙ ap (option_map base.Class) z.1 ∙ ap Some (sym z.2)
base_trans m n base.Boolean b c h k = let e : base.Boolean ≡ b = cc in subst (λ q. base_name n q ≡ Some c) (sym e) k
base_trans m n base.Byte b c h k = let e : base.Byte ≡ b = cc in subst (λ q. base_name n q ≡ Some c) (sym e) k
base_trans m n base.Char b c h k = let e : base.Char ≡ b = cc in subst (λ q. base_name n q ≡ Some c) (sym e) k
base_trans m n base.Short b c h k = let e : base.Short ≡ b = cc in subst (λ q. base_name n q ≡ Some c) (sym e) k
base_trans m n base.Int b c h k = let e : base.Int ≡ b = cc in subst (λ q. base_name n q ≡ Some c) (sym e) k
base_trans m n base.Long b c h k = let e : base.Long ≡ b = cc in subst (λ q. base_name n q ≡ Some c) (sym e) k
base_trans m n base.Float b c h k = let e : base.Float ≡ b = cc in subst (λ q. base_name n q ≡ Some c) (sym e) k
base_trans m n base.Double b c h k = let e : base.Double ≡ b = cc in subst (λ q. base_name n q ≡ Some c) (sym e) k

abbrev typed : FieldType → Base → FieldType
typed ty b = record { dims = ty.dims; base = b }

type_trans : (m n : Names) (a b c : FieldType) → type_name m a ≡ Some b → type_name n b ≡ Some c
    → type_name (chain m n) a ≡ Some c
type_trans m n a b c h k =
    let y = mapped_some (typed a) (base_name m a.base) b h in
    let z = mapped_some (typed a) (base_name n y.0) c (subst (λ q. type_name n q ≡ Some c) y.2 k) in
    ap (option_map (typed a)) (base_trans m n a.base y.0 z.0 y.1 z.1) ∙ ap Some (sym z.2)

-- ---- two steps

pub zip_trans : {A B C : Type 0} (P : A → B → Type 0) (Q : B → C → Type 0) (R : A → C → Type 0)
    → ((x : A) (y : B) (z : C) → P x y → Q y z → R x z) → (xs : List A) (ys : List B) (zs : List C) → AllZip P xs ys
    → AllZip Q ys zs → AllZip R xs zs
zip_trans P Q R t [] [] [] h k = tt
zip_trans P Q R t [] [] (z ∷ zs) h k = absurd k
zip_trans P Q R t [] (y ∷ ys) zs h k = absurd h
zip_trans P Q R t (x ∷ xs) [] zs h k = absurd h
zip_trans P Q R t (x ∷ xs) (y ∷ ys) [] h k = absurd k
zip_trans P Q R t (x ∷ xs) (y ∷ ys) (z ∷ zs) h k = (t x y z h.0 k.0, zip_trans P Q R t xs ys zs h.1 k.1)

object_trans : (m n : Names) (a b c : Object) → ObjectCorr m a b → ObjectCorr n b c → ObjectCorr (chain m n) a c
object_trans m n (Instance class fields message cause) b c h k =
    let r = subst (λ o. ObjectCorr n o c) h.2 k in (
      r.0,
      r.1,
      r.2,
      ap (option_and_then n.class) h.3 ∙ r.3,
      λ x z e. let y = both_there n.field (m.field x) z e in r.4 y.0 z y.2 ∙ h.4 x y.0 y.1,
    )
object_trans m n (Array component values) b c h k =
    let r = subst (λ o. ObjectCorr n o c) h.1 k in
    (r.0, r.1, type_trans m n component h.0 r.0 h.2 r.2)
object_trans m n (Str units) b c h k = subst (λ o. ObjectCorr n o c) h k
object_trans m n (Builder units) b c h k = subst (λ o. ObjectCorr n o c) h k

world_trans : (m n : Names) (a b c : World) → WorldCorr m a b → WorldCorr n b c → WorldCorr (chain m n) a c
world_trans m n a b c h k = record {
  heap = zip_trans _ _ _ (object_trans m n) a.heap b.heap c.heap h.heap k.heap;
  statics = λ x z e. let y = both_there n.field (m.field x) z e in k.statics y.0 z y.2 ∙ h.statics x y.0 y.1;
  inits = λ x z e. let y = both_there n.class (m.class x) z e in k.inits y.0 z y.2 ∙ h.inits x y.0 y.1;
  printed = k.printed ∙ h.printed;
}

told_trans : (s : Status) (m n : Names) (a b c : World) → ToldCorr s m a b → ToldCorr s n b c
    → ToldCorr s (chain m n) a c
told_trans Running m n a b c h k = k ∙ h
told_trans (HasReturned o) m n a b c h k = world_trans m n a b c h k
told_trans (HasThrown o) m n a b c h k = world_trans m n a b c h k
told_trans WentWrong m n a b c h k = world_trans m n a b c h k

line_trans : (a b c : Option ℕ) → LineCorr a b → LineCorr b c → LineCorr a c
line_trans a b (Some l) h k = subst (λ z. LineCorr a z) k h
line_trans a b None h k = tt

frame_trans : (u v w : View) (m n : Names) (f g j : Frame) → FrameCorr u v m f g → FrameCorr v w n g j
    → FrameCorr u w (chain m n) f j
frame_trans u v w m n f g j h k = record {
  method = ap (option_and_then n.method) h.method ∙ k.method;
  line = line_trans (line_of u f) (line_of v g) (line_of w j) h.line k.line;
}

corr_trans : (u v w : View) (m n : Names) (r s t : State) → Corr u v m r s → Corr v w n s t → Corr u w (chain m n) r t
corr_trans u v w m n r s t h k = record {
  ending = (k.ending.0 ∙ h.ending.0, h.ending.1);
  world = world_trans m n _ _ _ h.world k.world;
  thrown = k.thrown ∙ h.thrown;
  stack = zip_trans _ _ _ (frame_trans u v w m n) (frames r) (frames s) (frames t) h.stack k.stack;
}

end_trans : (m n : Names) (r s t : State) → CorrEnd m r s → CorrEnd n s t → CorrEnd (chain m n) r t
end_trans m n r s t h k = record {
  ending = (k.ending.0 ∙ h.ending.0, h.ending.1);
  told = told_trans (status r) m n _ _ _ h.told (subst (λ z. ToldCorr z n s.world t.world) h.ending.0 k.told);
}

-- ---- whole runs

module _ (u v w : View) (m n : Names) (a b c : State) (h : Alike u v m a b) (k : Alike v w n b c) where
  abbrev Reaches : ℕ → Type 0
  Reaches j = ((i : ℕ) × (j ≤ i) × Corr u w (chain m n) (run u a i) (run w c j))
      ⊎ ((i : ℕ) × (status (run u a i) ≡ WentWrong))

  from_middle : (i j : ℕ) → j ≤ i → Corr v w n (run v b i) (run w c j) → Reaches j
  from_middle i j le y =
      ⊎_elim
      (λ x. inl (x.0, omega (arith, le, x.1), corr_trans u v w m n _ _ _ x.2 y))
      (λ bad. inr bad)
      (h.no_further i)

  from_wrong : (i j : ℕ) → status (run v b i) ≡ WentWrong → Reaches j
  from_wrong i j bad =
      ⊎_elim
      (λ x. absurd (x.2.ending.1 (sym x.2.ending.0 ∙ bad)))
      (λ bad. inr bad)
      (h.no_further i)

  alike_trans : Alike u w (chain m n) a c
  alike_trans = record {
    as_far = λ i ok.
        let x = h.as_far i ok in
        let y = k.as_far x.0 (λ e. ok (sym x.2.ending.0 ∙ e)) in
        (y.0, omega (arith, x.1, y.1), end_trans m n _ _ _ x.2 y.2);
    no_further = λ j. ⊎_elim (λ y. from_middle y.0 j y.1 y.2) (λ bad. from_wrong bad.0 j bad.1) (k.no_further j);
  }

pub same_trans : (u v w : View) (m n : Names) (xs ys : List Key) → Renamed m xs ys → Same u v m xs → Same v w n ys
    → Same u w (chain m n) xs
same_trans u v w m n xs ys to h k x e =
    let y = h x e in
    let z = k y.0 (to x y.0 e y.1) in (
      z.0,
      ap (option_and_then n.method) y.1 ∙ z.1,
      λ heap plain args. alike_trans u v w m n _ _ _ (y.2 heap plain args) (z.2 heap plain args),
    )

-- ---- runs that go side by side

pub told_of : (s : Status) (m : Names) (a b : World) → WorldCorr m a b → ToldCorr s m a b
told_of Running m a b h = h.printed
told_of (HasReturned o) m a b h = h
told_of (HasThrown o) m a b h = h
told_of WentWrong m a b h = h

pub end_of : (v w : View) (m : Names) (s t : State) → Corr v w m s t → CorrEnd m s t
end_of v w m s t h = record { ending = h.ending; told = told_of (status s) m s.world t.world h.world }

pub alike_by_side : (v w : View) (m : Names) (a b : State) → InStep v w m a b → Alike v w m a b
alike_by_side v w m a b h = record {
  as_far = λ n ok. (n, omega arith, ⊎_elim (λ bad. absurd (ok bad)) (λ c. end_of v w m _ _ c) (h n));
  no_further = λ n. ⊎_elim (λ bad. inr (n, bad)) (λ c. inl (n, omega arith, c)) (h n);
}

pub steps_same : (v w : View) (m : Names) (xs : List Key) → SameSteps v w m xs → Same v w m xs
steps_same v w m xs h x e =
    let y = h x e in
    (y.0, y.1, λ heap plain args. alike_by_side v w m _ _ (y.2 heap plain args))

in_step_trans : (u v w : View) (m n : Names) (a b c : State) → InStep u v m a b → InStep v w n b c
    → InStep u w (chain m n) a c
in_step_trans u v w m n a b c h k i =
    ⊎_elim
    (λ bad. inl bad)
    (λ x. ⊎_elim
    (λ bad. absurd (x.ending.1 (sym x.ending.0 ∙ bad)))
    (λ y. inr (corr_trans u v w m n _ _ _ x y))
    (k i))
    (h i)

pub steps_trans : (u v w : View) (m n : Names) (xs ys : List Key) → Renamed m xs ys → SameSteps u v m xs
    → SameSteps v w n ys → SameSteps u w (chain m n) xs
steps_trans u v w m n xs ys to h k x e =
    let y = h x e in
    let z = k y.0 (to x y.0 e y.1) in (
      z.0,
      ap (option_and_then n.method) y.1 ∙ z.1,
      λ heap plain args. in_step_trans u v w m n _ _ _ (y.2 heap plain args) (z.2 heap plain args),
    )

-- ---- a program and itself

pub zip_refl : {A : Type 0} (R : A → A → Type 0) → ((x : A) → R x x) → (xs : List A) → AllZip R xs xs
zip_refl R r [] = tt
zip_refl R r (x ∷ xs) = (r x, zip_refl R r xs)

some_same : {K A : Type 0} (f : K → A) (x y : K) → Some x ≡ Some y → f y ≡ f x
some_same f x y e = let e' : x ≡ y = cc in ap f (sym e')

pub own_base : (b : Base) → base_name own_names b ≡ Some b
own_base (base.Class name) = refl
own_base base.Boolean = refl
own_base base.Byte = refl
own_base base.Char = refl
own_base base.Short = refl
own_base base.Int = refl
own_base base.Long = refl
own_base base.Float = refl
own_base base.Double = refl

pub own_type : (ty : FieldType) → type_name own_names ty ≡ Some ty
own_type ty = ap (option_map (typed ty)) (own_base ty.base)

object_refl : (o : Object) → ObjectCorr own_names o o
object_refl (Instance class fields message cause) = (class, fields, refl, refl, some_same fields)
object_refl (Array component values) = (component, refl, own_type component)
object_refl (Str units) = refl
object_refl (Builder units) = refl

pub world_refl : (w : World) → WorldCorr own_names w w
world_refl w = record {
  heap = zip_refl (ObjectCorr own_names) object_refl w.heap;
  statics = some_same w.statics;
  inits = some_same w.inits;
  printed = refl;
}

pub line_refl : (a : Option ℕ) → LineCorr a a
line_refl (Some l) = refl
line_refl None = tt

frame_refl : (v : View) (f : Frame) → FrameCorr v v own_names f f
frame_refl v f = record { method = refl; line = line_refl (line_of v f) }

corr_refl : (v : View) (s : State) → status s ≢ WentWrong → Corr v v own_names s s
corr_refl v s ok = record {
  ending = (refl, ok);
  world = world_refl s.world;
  thrown = refl;
  stack = zip_refl (FrameCorr v v own_names) (frame_refl v) (frames s);
}

pub is_wrong : (s : Status) → (s ≡ WentWrong) ⊎ (s ≢ WentWrong)
is_wrong Running = inr (λ e. cc)
is_wrong (HasReturned o) = inr (λ e. cc)
is_wrong (HasThrown n) = inr (λ e. cc)
is_wrong WentWrong = inl refl

pub steps_refl : (v : View) (xs : List Key) → SameSteps v v own_names xs
steps_refl v xs x i = (
  x,
  refl,
  λ heap plain args n. ⊎_elim (λ bad. inl bad) (λ ok. inr (corr_refl v _ ok))
      (is_wrong (status (run v (start v x heap args) n))),
)

pub same_refl : (v : View) (xs : List Key) → Same v v own_names xs
same_refl v xs = steps_same v v own_names xs (steps_refl v xs)
