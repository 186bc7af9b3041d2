-- The arguments that a descriptor tells are read (JVMS 4.3.3).
use Rattle.std.proofs.Common.{List, [], ◌∷◌, Option, Some, Bool, true}
use Rattle.std.proofs.Common.{false, ◌≡◌, ◌≢◌, refl, sym, ap, ◌∙◌, subst}
use Rattle.std.specs.Prelude.{◌==◌, cond, map, Ok}
use Rattle.std.specs.List.{AllByRecursion, AllZip}
use Rattle.jv_base.specs.declared.types.Base.{Base}
use Rattle.jv_base.specs.declared.types.Base.TheVariants as base
use Rattle.jv_base.specs.declared.types.FieldType.{FieldType}
use Rattle.class_model.specs.Frames.{base_vtype, vtype_of}
use Rattle.class_model.specs.declared.frame.VType.TheVariants as vtype
use Rattle.class_model.specs.declared.op.Kind.TheVariants as kind
use Rattle.jvm_model.specs.Heap.{Object}
use Rattle.jvm_model.specs.Stack.{◌>>=◌, many_above}
use Rattle.jvm_model.specs.Types.{kind_of, kind_of_base}
use Rattle.jvm_model.specs.Value.{Value, Int, Long, Null, Ref, Lit, as_kind}
use Rattle.type_verifier.specs.declared.frame.TypeFrame.{TypeFrame}
use Rattle.type_verifier.specs.Effects.{Checked, all_popped}
use Rattle.type_verifier.specs.Effects.{popped}
use Rattle.type_verifier.specs.Environment.{Environment}
use Rattle.type_verifier.specs.Rules.{Assignable}
use Rattle.type_verifier.proofs.TypedLaw.{bound}
use Rattle.fit_laws.specs.Frames.{FitsStack}
use Rattle.fit_laws.specs.Values.{FitsKnown, FitsReference, FitsType, FitsValue}
use Rattle.fit_laws.proofs.Assigning.{assign_value}
use Rattle.fit_laws.proofs.Held.{IsHierarchy}
use Rattle.fit_laws.proofs.Taking.{TakesOne, Took, top_taken}

-- ---- arguments

-- types, the last first, before others
abbrev pub onto : List FieldType → List FieldType → List FieldType
onto [] ts = ts
onto (r ∷ rs) ts = onto rs (r ∷ ts)

module _ (env : Environment) (heap : List Object) (hierarchy : IsHierarchy env.classes) where
  pub of_reference : (ty : FieldType) (v : Value) → FitsReference env.classes heap ty v
      → (x : Value) × (as_kind kind.Ref v ≡ Some x) × FitsReference env.classes heap ty x
  of_reference ty (Int z) x = absurd x
  of_reference ty (Long z) x = absurd x
  of_reference ty Null x = (Null, refl, x)
  of_reference ty (Ref n) x = (Ref n, refl, x)
  of_reference ty (Lit units) x = (Lit units, refl, x)

  known_kind : (ty : FieldType) (b : Base) → base_vtype ty b ≢ vtype.Top → (v : Value)
      → FitsValue env heap (base_vtype ty b) v
      → (x : Value) × (as_kind (kind_of_base b) v ≡ Some x)
      × FitsKnown env.classes heap (base_vtype ty b) x
  known_kind ty base.Float n v x = absurd (n refl)
  known_kind ty base.Double n v x = absurd (n refl)
  known_kind ty base.Boolean n v x =
      (v, ap (as_kind kind.Int) x.1 ∙ ap (λ (z : Value). Some z) (sym x.1), x)
  known_kind ty base.Byte n v x =
      (v, ap (as_kind kind.Int) x.1 ∙ ap (λ (z : Value). Some z) (sym x.1), x)
  known_kind ty base.Char n v x =
      (v, ap (as_kind kind.Int) x.1 ∙ ap (λ (z : Value). Some z) (sym x.1), x)
  known_kind ty base.Short n v x =
      (v, ap (as_kind kind.Int) x.1 ∙ ap (λ (z : Value). Some z) (sym x.1), x)
  known_kind ty base.Int n v x =
      (v, ap (as_kind kind.Int) x.1 ∙ ap (λ (z : Value). Some z) (sym x.1), x)
  known_kind ty base.Long n v x =
      (v, ap (as_kind kind.Long) x.1 ∙ ap (λ (z : Value). Some z) (sym x.1), x)
  known_kind ty (base.Class name) n v x = of_reference ty v x

  -- a value of a parameter's type is of its kind
  pub type_taken : (ty : FieldType) → vtype_of ty ≢ vtype.Top
      → TakesOne env heap (Assignable (vtype_of ty)) (as_kind (kind_of ty))
      (FitsType env.classes heap ty)
  type_taken ty n t v m x =
      by (ty.dims == 0) n (assign_value env heap hierarchy t (vtype_of ty) m v x) where
        by : (b : Bool) → cond b (base_vtype ty ty.base) (vtype.Object ty) ≢ vtype.Top
            → FitsValue env heap (cond b (base_vtype ty ty.base) (vtype.Object ty)) v
            → (y : Value) × (as_kind (cond b (kind_of_base ty.base) kind.Ref) v ≡ Some y)
            × FitsKnown env.classes heap (cond b (base_vtype ty ty.base) (vtype.Object ty)) y
        by true n x = known_kind ty ty.base n v x
        by false n x = of_reference ty v x

  abbrev pub NoFloats : List FieldType → Type 0
  NoFloats rs = AllByRecursion (λ (t : FieldType). vtype_of t ≢ vtype.Top) rs

  -- arguments of these types, the last first, are read
  pub many_reads : (rs ts : List FieldType) → NoFloats rs → (vs : List Value)
      → AllZip (FitsType env.classes heap) ts vs
      → (f g : TypeFrame) (s : List Value) → FitsStack env heap f.stack s
      → all_popped env.classes (map (λ ty. Assignable (vtype_of ty)) rs) f ≡ Ok g
      → Took env heap (many_above (map kind_of rs) vs)
      (λ us. AllZip (FitsType env.classes heap) (onto rs ts) us) f g s
  many_reads [] ts n vs a f g s x h = record {
    value = vs;
    rest = s;
    reads = refl;
    holds = a;
    fits = subst (λ (k : TypeFrame). FitsStack env heap k.stack s) (same h) x;
    locals = ap (λ (k : TypeFrame). k.locals) (sym (same h));
  } where
    same : (let R : Checked = Ok f in R) ≡ Ok g → f ≡ g
    same h = cc
  many_reads (r ∷ rs) ts n vs a f g s x h =
      let m = bound (popped env.classes (Assignable (vtype_of r)) f)
      (all_popped env.classes (map (λ ty. Assignable (vtype_of ty)) rs)) g h in
      let k = top_taken env heap (Assignable (vtype_of r)) (as_kind (kind_of r))
      (FitsType env.classes heap r)
      (type_taken r n.0) f m.0 s x m.1 in
      let l = many_reads rs (r ∷ ts) n.1 (k.value ∷ vs) (k.holds, a) m.0 g k.rest k.fits m.2 in
      record {
        value = l.value;
        rest = l.rest;
        reads = ap (λ (o : Option (Value × List Value)). o >>=
            (λ p. many_above (map kind_of rs) (p.0 ∷ vs) p.1)) k.reads
            ∙ l.reads;
        holds = l.holds;
        fits = l.fits;
        locals = l.locals ∙ k.locals;
      }
