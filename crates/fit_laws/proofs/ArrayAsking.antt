-- The instructions on arrays and the tests of types, from the instruction on (JVMS 6.5.xaload, 6.5.xastore,
-- 6.5.arraylength, 6.5.newarray, 6.5.anewarray, 6.5.multianewarray, 6.5.checkcast, 6.5.instanceof).
use Rattle.std.proofs.Common.{ℕ, ℤ, zero, suc, ◌+◌, ◌<◌, ◌≤◌, List, [], ◌∷◌, Option, Some, None, Bool, true, false}
use Rattle.std.proofs.Common.{◌≡◌, ◌⊎◌, inl, inr, ⊎_elim, refl, sym, ap, ◌∙◌, subst, arith, slice_get, length}
use Rattle.std.specs.Prelude.{◌==◌, cond, codes, replicate, Ok, Err}
use Rattle.std.proofs.lemmas.Bool.{eqb-true}
use Rattle.jv_base.specs.declared.types.Base.{Base}
use Rattle.jv_base.specs.declared.types.Base.TheVariants as base
use Rattle.jv_base.specs.declared.types.FieldType.{FieldType}
use Rattle.class_model.specs.declared.class.Class.{Class}
use Rattle.class_model.specs.declared.frame.VType.{VType}
use Rattle.class_model.specs.declared.frame.VType.TheVariants as vtype
use Rattle.class_model.specs.declared.op.Elem.{Elem}
use Rattle.class_model.specs.declared.op.Elem.TheVariants as elem
use Rattle.class_model.specs.declared.op.Kind.TheVariants as kind
use Rattle.class_model.specs.declared.op.Op.TheVariants as op
use Rattle.jvm_model.specs.Answers.{Gives, Raises, of_some}
use Rattle.jvm_model.specs.Arrays.{get_in, length_in, on_array}
use Rattle.jvm_model.specs.Casts.{cast, instance_of}
use Rattle.jvm_model.specs.Exceptions.{ClassCast}
use Rattle.jvm_model.specs.Heap.{Array, Object, World, string, type_of}
use Rattle.jvm_model.specs.Instructions.{ArrayLength, Cast, GetAt, NewArray, NewArrays, PutAt, Test, sort_of}
use Rattle.jvm_model.specs.Instructions.{taking_counts}
use Rattle.jvm_model.specs.Local.{by_sort}
use Rattle.jvm_model.specs.Requests.{answer}
use Rattle.jvm_model.specs.Stack.{◌>>=◌, counts_above, one, top, two}
use Rattle.jvm_model.specs.State.{Body}
use Rattle.jvm_model.specs.Types.{array_of, is_component, is_component_base, is_reference_elem, is_type_below}
use Rattle.jvm_model.specs.Types.{kind_of_elem}
use Rattle.jvm_model.specs.Value.{Int, Key, Lit, Long, Null, Ref, Value, as_int, as_kind, truth}
use Rattle.set_view.specs.ViewOf.{shape_of}
use Rattle.type_verifier.specs.declared.fault.TypeKind.TheVariants.{Operand}
use Rattle.type_verifier.specs.declared.frame.TypeFrame.{TypeFrame}
use Rattle.type_verifier.specs.Assignable.{class_type, is_above_arrays, is_assignable, is_base_assignable}
use Rattle.type_verifier.specs.Assignable.{is_java_assignable}
use Rattle.type_verifier.specs.Effects.{Checked, acted, all_popped, element, popped, read_from, stepped}
use Rattle.type_verifier.specs.Effects.{with_stack}
use Rattle.type_verifier.specs.Environment.{Environment}
use Rattle.type_verifier.specs.Rules.{AnyArray, Assignable, ReadsReference, SmallArray, Takes, array_of_base}
use Rattle.type_verifier.specs.Rules.{array_wanted, element_moved, element_type, is_array, is_small_array, meets}
use Rattle.type_verifier.specs.Rules.{object}
use Rattle.type_verifier.specs.Rules.{rule_of}
use Rattle.type_verifier.specs.Rules as rules
use Rattle.type_verifier.proofs.TypedLaw.{bound}
use Rattle.fit_laws.specs.Answered.{FitsAnswer, FitsLocal}
use Rattle.fit_laws.specs.Frames.{Environs, FitsBody, FitsStack, Leads}
use Rattle.fit_laws.specs.Held.{erased_base, is_held, is_there}
use Rattle.fit_laws.specs.Sound.{IsSound}
use Rattle.fit_laws.specs.Values.{FitsKnown, FitsReference, FitsValue, FitsWorld}
use Rattle.fit_laws.proofs.ArrayAnswers.{ArrayAt, HeldArray, IsArrayFor, component_type, get_fits, held_array}
use Rattle.fit_laws.proofs.ArrayAnswers.{length_fits, moved_type, put_fits}
use Rattle.fit_laws.proofs.Arrays.{held_component, types_below}
use Rattle.fit_laws.proofs.Assigning.{assign_value, held_reference}
use Rattle.fit_laws.proofs.Fields.{given_same}
use Rattle.fit_laws.proofs.Going.{hierarchy as set_hierarchy, hierarchy_of}
use Rattle.fit_laws.proofs.Held.{IsHierarchy, dims_test, same_or_class}
use Rattle.fit_laws.proofs.Lists.{cond_false, not_zero}
use Rattle.fit_laws.proofs.NewArrays.{many_fit, one_fits}
use Rattle.fit_laws.proofs.Operands.{of_reference}
use Rattle.fit_laws.proofs.Sorts.{acted_of, asked, asks_fit}
use Rattle.fit_laws.proofs.Taking.{Reads, TakesOne, Took, int_taken, object_taken, one_reads, three_reads, top_taken}
use Rattle.fit_laws.proofs.Taking.{two_reads}

-- a type without dimensions
abbrev flat : Base → FieldType
flat b = record { dims = 0; base = b }

-- a type of arrays of one dimension
abbrev line : Base → FieldType
line b = record { dims = 1; base = b }

module _ (classes : List Class) (sound : IsSound classes) (w : World) (world : FitsWorld classes w) where
  -- ---- which components an array of a type has

  -- the component type of what is held by an array type of numbers
  flat_component : (b : Base) → ((n : List ℕ) → b ≡ base.Class n → ⊥) → is_above_arrays (erased_base classes b) ≡ false
      → erased_base classes b ≡ b → (c : FieldType) → is_held classes (array_of c) (line b) ≡ true → c ≡ flat b
  unfolding is_java_assignable
  flat_component b no_class below plain c h = ⊎_elim
      (λ p. ⊎_elim
      (λ s. λ i. record { dims = (let q = p.0 in let e : c.dims ≡ 0 = omega (arith, q) in e) i; base = s.0 i })
      (λ s. absurd (no_class s.1 s.2.1))
      (same_or_class classes sound.ordered c.base b
      (subst (λ (z : Base). is_base_assignable classes c.base z ≡ true) plain p.1)))
      (λ p. absurd (both _ below p.1))
      (dims_test (c.dims + 1) 1 _ _ h)
    where
      both : (t : Bool) → t ≡ false → t ≡ true → ⊥
      both t e f = cc

  -- an array of references has no numbers
  reference_component : (c : FieldType)
      → is_held classes (array_of c) (line (base.Class (codes "java/lang/Object"))) ≡ true
      → is_component elem.Ref c ≡ true
  unfolding is_java_assignable
  reference_component c h = by (c.dims == 0) refl where
    class_base : (b : Base) (n : List ℕ) → is_base_assignable classes b (base.Class n) ≡ true
        → is_component_base elem.Ref b ≡ true
    class_base (base.Class m) n e = refl
    class_base base.Boolean n e = absurd cc
    class_base base.Byte n e = absurd cc
    class_base base.Char n e = absurd cc
    class_base base.Short n e = absurd cc
    class_base base.Int n e = absurd cc
    class_base base.Long n e = absurd cc
    class_base base.Float n e = absurd cc
    class_base base.Double n e = absurd cc

    by : (t : Bool) → (c.dims == 0) ≡ t
        → cond t (is_component_base elem.Ref c.base) (is_reference_elem elem.Ref) ≡ true
    by false e = refl
    by true e = ⊎_elim
        (λ p. class_base c.base _ p.1)
        (λ p. absurd (let none = eqb-true c.dims 0 e in let low = p.0 in omega (arith, none, low)))
        (dims_test (c.dims + 1) 1 _ _ h)

  -- an array held by a type with components that work
  for_held : (e : Elem) (ty : FieldType) → 0 < ty.dims
      → ((c : FieldType) → is_held classes (array_of c) ty ≡ true → is_component e c ≡ true) → (v : Value)
      → FitsReference classes w.heap ty v → IsArrayFor classes sound w world e v
  for_held e ty some works v y = ⊎_elim (λ n. inl n)
      (λ a. inr (record {
        number = a.number;
        component = a.component;
        values = a.values;
        is = a.is;
        there = a.there;
        works = works a.component a.held;
      }))
      (held_array classes sound w world ty some v y)

  of_line : (e : Elem) (b : Base) → is_component e (flat b) ≡ true → ((n : List ℕ) → b ≡ base.Class n → ⊥)
      → is_above_arrays (erased_base classes b) ≡ false → erased_base classes b ≡ b → (v : Value)
      → FitsReference classes w.heap (line b) v → IsArrayFor classes sound w world e v
  of_line e b works no_class below plain v y = for_held e (line b) (omega arith)
      (λ c h. subst (λ (z : FieldType). is_component e z ≡ true) (sym (flat_component b no_class below plain c h))
      works)
      v y

  -- of bytes or booleans
  of_small : (ty : FieldType) → is_small_array ty ≡ true → (v : Value) → FitsReference classes w.heap ty v
      → IsArrayFor classes sound w world elem.Byte v
  of_small ty h v y = by ty.base (ty.dims == 1) refl h refl where
    at : (b : Base) → is_small_array (line b) ≡ true → FitsReference classes w.heap (line b) v
        → IsArrayFor classes sound w world elem.Byte v
    at base.Byte h y = of_line elem.Byte base.Byte refl (λ n e. cc) refl refl v y
    at base.Boolean h y = of_line elem.Byte base.Boolean refl (λ n e. cc) refl refl v y
    at base.Char h y = absurd cc
    at base.Short h y = absurd cc
    at base.Int h y = absurd cc
    at base.Long h y = absurd cc
    at base.Float h y = absurd cc
    at base.Double h y = absurd cc
    at (base.Class n) h y = absurd cc

    one : (ty : FieldType) → (ty.dims == 1) ≡ true → ty ≡ line ty.base
    one ty e = λ i. record { dims = eqb-true ty.dims 1 e i; base = ty.base }

    none : (ty : FieldType) → (ty.dims == 1) ≡ false → is_small_array ty ≡ true → ⊥
    none ty e h = cond_false (ty.dims == 1) _ e h

    by : (b : Base) (t : Bool) → (ty.dims == 1) ≡ t → is_small_array ty ≡ true → ty.base ≡ b
        → IsArrayFor classes sound w world elem.Byte v
    by b true e h q = at ty.base (subst (λ (z : FieldType). is_small_array z ≡ true) (one ty e) h)
        (subst (λ (z : FieldType). FitsReference classes w.heap z v) (one ty e) y)
    by b false e h q = absurd (none ty e h)

module _ (classes : List Class) (sound : IsSound classes) (w : World) (world : FitsWorld classes w) (k : Key)
    (env : Environment) (is : Environs classes k env) (b : Body) (f : TypeFrame) (x : FitsBody env w.heap f b) where
  hierarchy : IsHierarchy env.classes
  hierarchy = hierarchy_of classes sound k env is

  abbrev Next : TypeFrame → Type 0
  Next after = Leads env.classes is.frames (b.at + 1) after

  here_reference : (ty : FieldType) (v : Value) → FitsReference env.classes w.heap ty v
      → FitsReference classes w.heap ty v
  here_reference ty v y = subst (λ (c : List Class). FitsReference c w.heap ty v) is.classes_are y

  abbrev For : Elem → Value → Type 0
  For e v = IsArrayFor classes sound w world e v

  -- ---- operands

  -- an array of a type, as an operand
  typed_taken : (e : Elem) (ty : FieldType) → ((v : Value) → FitsReference classes w.heap ty v → For e v)
      → TakesOne env w.heap (Assignable (vtype.Object ty)) (as_kind kind.Ref) (For e)
  typed_taken e ty to t v m y =
      let r = object_taken env w.heap hierarchy ty t v m y in (r.0, r.1, to r.0 (here_reference ty r.0 r.2))

  null_taken : (e : Elem) (v : Value) → v ≡ Null → (u : Value) × (as_kind kind.Ref v ≡ Some u) × For e u
  null_taken e v y = (Null, ap (as_kind kind.Ref) y, inl refl)

  small_taken : TakesOne env w.heap SmallArray (as_kind kind.Ref) (For elem.Byte)
  small_taken vtype.Null v m y = null_taken elem.Byte v y
  small_taken (vtype.Object ty) v m y =
      let r = of_reference env w.heap hierarchy ty v y in
      (r.0, r.1, of_small classes sound w world ty m r.0 (here_reference ty r.0 r.2))
  small_taken vtype.Top v m y = absurd cc
  small_taken vtype.Int v m y = absurd cc
  small_taken vtype.Long v m y = absurd cc
  small_taken vtype.UninitThis v m y = absurd cc
  small_taken (vtype.Uninit at) v m y = absurd cc

  array_taken : (e : Elem) → TakesOne env w.heap (array_wanted e) (as_kind kind.Ref) (For e)
  array_taken elem.Int = typed_taken elem.Int (line base.Int)
      (λ v y. of_line classes sound w world elem.Int base.Int refl (λ n e. cc) refl refl v y)
  array_taken elem.Long = typed_taken elem.Long (line base.Long)
      (λ v y. of_line classes sound w world elem.Long base.Long refl (λ n e. cc) refl refl v y)
  array_taken elem.Char = typed_taken elem.Char (line base.Char)
      (λ v y. of_line classes sound w world elem.Char base.Char refl (λ n e. cc) refl refl v y)
  array_taken elem.Short = typed_taken elem.Short (line base.Short)
      (λ v y. of_line classes sound w world elem.Short base.Short refl (λ n e. cc) refl refl v y)
  array_taken elem.Byte = small_taken
  array_taken elem.Ref = typed_taken elem.Ref (line (base.Class (codes "java/lang/Object")))
      (λ v y. for_held classes sound w world elem.Ref (line (base.Class (codes "java/lang/Object"))) (omega arith)
      (reference_component classes sound w world) v y)

  -- any array
  any_taken : TakesOne env w.heap AnyArray (as_kind kind.Ref)
      (λ v. (v ≡ Null) ⊎ ((ty : FieldType) × (0 < ty.dims) × FitsReference classes w.heap ty v))
  any_taken vtype.Null v m y = (Null, ap (as_kind kind.Ref) y, inl refl)
  any_taken (vtype.Object ty) v m y =
      let r = of_reference env w.heap hierarchy ty v y in
      (r.0, r.1, inr (ty, some ty m, here_reference ty r.0 r.2))
    where
      some : (ty : FieldType) → is_array ty ≡ true → 0 < ty.dims
      some ty h = by (ty.dims == 0) refl h where
        by : (t : Bool) → (ty.dims == 0) ≡ t → cond t false true ≡ true → 0 < ty.dims
        by true e h = absurd cc
        by false e h = not_zero ty.dims e
  any_taken vtype.Top v m y = absurd cc
  any_taken vtype.Int v m y = absurd cc
  any_taken vtype.Long v m y = absurd cc
  any_taken vtype.UninitThis v m y = absurd cc
  any_taken (vtype.Uninit at) v m y = absurd cc

  known_here : (t : VType) (v : Value) → FitsKnown env.classes w.heap t v → FitsKnown classes w.heap t v
  known_here t v y = subst (λ (c : List Class). FitsKnown c w.heap t v) is.classes_are y

  -- ---- loads

  number_loaded : (e : Elem) (given : VType) → element_moved e ≡ given
      → ((c : FieldType) → moved_type e c ≡ given) → (after : TypeFrame)
      → acted env b.at (Takes (Assignable vtype.Int ∷ array_wanted e ∷ []) (Some (element_moved e))) f ≡ Ok after
      → Next after → FitsLocal classes w k env is.frames b (by_sort b (sort_of (op.ALoad e)))
  number_loaded e given m moves after h l =
      asks_fit classes w k env is hierarchy b f x (Assignable vtype.Int ∷ array_wanted e ∷ []) (Some given) _ after
      (two_reads env w.heap (array_wanted e) (Assignable vtype.Int) (as_kind kind.Ref) as_int (For e) (λ z. Unit {0})
      (array_taken e) (int_taken env w.heap hierarchy) (GetAt e) _
      (λ v i y u. get_fits classes sound w world env is.classes_are e given v y
      (λ a z q. subst (λ (t : VType). FitsKnown classes w.heap t z)
      (component_type e a.component a.works ∙ moves a.component) q) i))
      (subst (λ (t : VType).
      acted env b.at (Takes (Assignable vtype.Int ∷ array_wanted e ∷ []) (Some t)) f ≡ Ok after) m h)
      l

  -- of references: the type of an element is told by that of the array on the stack
  objects : FieldType
  objects = line (base.Class (codes "java/lang/Object"))

  some_dims : (ty : FieldType) → is_java_assignable env.classes ty objects ≡ true → 0 < ty.dims
  unfolding is_java_assignable objects
  some_dims ty h = ⊎_elim
      (λ p. let q = p.0 in omega (arith, q))
      (λ p. let q = p.0 in omega (arith, q))
      (dims_test ty.dims 1 _ _ h)

  -- what is read of an array of a type
  abbrev Read : VType → Value → Type 0
  Read t v = (u : Value) × (as_kind kind.Ref v ≡ Some u)
      × ((i : ℤ) → FitsAnswer classes env w (Some (element t)) (on_array w u (get_in w elem.Ref i)))

  element_of : (ty : FieldType) → is_java_assignable env.classes ty objects ≡ true → (v : Value)
      → FitsReference env.classes w.heap ty v → Read (vtype.Object ty) v
  unfolding objects
  element_of ty h v y =
      let r = of_reference env w.heap hierarchy ty v y in (
        r.0,
        r.1,
        λ i. ⊎_elim
            (λ n. subst (λ (u : Value). FitsAnswer classes env w (Some (vtype.Object (element_type ty)))
            (on_array w u (get_in w elem.Ref i))) (sym n) tt)
            (λ a. get_fits classes sound w world env is.classes_are elem.Ref (vtype.Object (element_type ty)) r.0
            (inr (record {
              number = a.number;
              component = a.component;
              values = a.values;
              is = a.is;
              there = a.there;
              works = works a.component a.class_there a.held;
            }))
            (λ z u q. held_reference classes w.heap (set_hierarchy classes sound) z.component (element_type ty)
            (held_component classes sound.ordered z.component ty (some_dims ty h) (held r.0 a z)) u
            (subst (λ (t : VType). FitsKnown classes w.heap t u) (component_type elem.Ref z.component z.works) q)) i)
            (held_array classes sound w world ty (some_dims ty h) r.0 (here_reference ty r.0 r.2)),
      )
    where
      -- one number has one array
      held : (u : Value) (a : HeldArray classes sound w world ty u) (z : ArrayAt classes sound w world elem.Ref u)
          → is_held classes (array_of z.component) ty ≡ true
      held u a z = subst (λ (c : FieldType). is_held classes (array_of c) ty ≡ true)
          (one a.component z.component a.values z.values (sym a.there
          ∙ ap (slice_get w.heap) (number a.number z.number (sym a.is ∙ z.is)) ∙ z.there)) a.held
        where
          number : (m n : ℕ) → Ref m ≡ Ref n → m ≡ n
          number m n e = cc

          one : (c d : FieldType) (us vs : List Value) → Some (Array c us) ≡ Some (Array d vs) → c ≡ d
          one c d us vs e = cc

      assignable : is_java_assignable classes ty objects ≡ true
      assignable = subst (λ (c : List Class). is_java_assignable c ty objects ≡ true) is.classes_are h

      works : (c : FieldType) → is_there classes (array_of c) ≡ true → is_held classes (array_of c) ty ≡ true
          → is_component elem.Ref c ≡ true
      works c there q = reference_component classes sound w world c
          ((set_hierarchy classes sound).goes_on (array_of c) ty objects there q assignable)

  element_read : (t : VType) → is_assignable env.classes t (vtype.Object objects) ≡ true → (v : Value)
      → FitsValue env w.heap t v → Read t v
  unfolding is_assignable
  element_read vtype.Null h v y = (Null, ap (as_kind kind.Ref) y, λ i. tt)
  element_read (vtype.Object ty) h v y = element_of ty h v y
  element_read vtype.Top h v y = absurd cc
  element_read vtype.Int h v y = absurd cc
  element_read vtype.Long h v y = absurd cc
  element_read vtype.UninitThis h v y = absurd cc
  element_read (vtype.Uninit at) h v y = absurd cc

  passed : (c : Bool) (g after : TypeFrame)
      → (let R : Checked = cond c (Ok g) (Err Operand) in R) ≡ Ok after → (c ≡ true) × (g ≡ after)
  passed true g after e = (refl, cc)
  passed false g after e = absurd cc

  reference_loaded : (after : TypeFrame) → acted env b.at ReadsReference f ≡ Ok after → Next after
      → FitsLocal classes w k env is.frames b (by_sort b (sort_of (op.ALoad elem.Ref)))
  unfolding objects
  reference_loaded after h l =
      let m = bound (popped env.classes (Assignable vtype.Int) f) (λ g. read_from env.classes g g.stack) after h in
      let i = top_taken env w.heap (Assignable vtype.Int) as_int (λ z. Unit {0}) (int_taken env w.heap hierarchy) f m.0
      b.stack x.stack m.1 in
      by m.0 i.value m.0.stack i.rest
      (ap (λ (o : Option (ℤ × List Value)).
      o >>= (λ q. top (as_kind kind.Ref) q.1 >>= (λ p. Some (GetAt elem.Ref p.0 q.0, p.1)))) i.reads)
      i.locals i.fits m.2
    where
      by : (g : TypeFrame) (i : ℤ) (ts : List VType) (s : List Value)
          → two (as_kind kind.Ref) as_int (GetAt elem.Ref) b.stack
          ≡ (top (as_kind kind.Ref) s >>= (λ p. Some (GetAt elem.Ref p.0 i, p.1)))
          → g.locals ≡ f.locals → FitsStack env w.heap ts s → read_from env.classes g ts ≡ Ok after
          → FitsLocal classes w k env is.frames b (by_sort b (sort_of (op.ALoad elem.Ref)))
      by g i [] s reads locals y h = absurd cc
      by g i (t ∷ ts) [] reads locals y h = absurd y
      by g i (t ∷ ts) (v ∷ s) reads locals y h =
          let p = passed (meets env.classes (array_wanted elem.Ref) t) (with_stack g (element t ∷ ts)) after h in
          let r = element_read t p.0 v y.0 in
          asked classes w k env is hierarchy b f x (Some (element t))
          (two (as_kind kind.Ref) as_int (GetAt elem.Ref)) (with_stack g ts) after
          (record {
            value = GetAt elem.Ref r.0 i;
            rest = s;
            reads = reads
                ∙ ap (λ (o : Option Value). taken o >>= (λ (q : Value × List Value).
                Some (GetAt elem.Ref q.0 i, q.1))) r.1;
            holds = r.2 i;
            fits = y.1;
            locals = locals;
          })
          p.1 l
        where
          taken : Option Value → Option (Value × List Value)
          taken o = o >>= (λ u. Some (u, s))

  pub loads_array : (e : Elem) (after : TypeFrame) → stepped env b.at (op.ALoad e) f ≡ Ok after → Next after
      → FitsLocal classes w k env is.frames b (by_sort b (sort_of (op.ALoad e)))
  unfolding rule_of
  loads_array elem.Ref after h l = reference_loaded after (acted_of env b.at (op.ALoad elem.Ref) _ f after refl h) l
  loads_array elem.Int after h l = number_loaded elem.Int vtype.Int refl (λ c. refl) after
      (acted_of env b.at (op.ALoad elem.Int) _ f after refl h) l
  loads_array elem.Long after h l = number_loaded elem.Long vtype.Long refl (λ c. refl) after
      (acted_of env b.at (op.ALoad elem.Long) _ f after refl h) l
  loads_array elem.Byte after h l = number_loaded elem.Byte vtype.Int refl (λ c. refl) after
      (acted_of env b.at (op.ALoad elem.Byte) _ f after refl h) l
  loads_array elem.Char after h l = number_loaded elem.Char vtype.Int refl (λ c. refl) after
      (acted_of env b.at (op.ALoad elem.Char) _ f after refl h) l
  loads_array elem.Short after h l = number_loaded elem.Short vtype.Int refl (λ c. refl) after
      (acted_of env b.at (op.ALoad elem.Short) _ f after refl h) l

  -- ---- stores

  int_value : (v : Value) → FitsValue env w.heap vtype.Int v
      → (u : Value) × (as_kind kind.Int v ≡ Some u) × FitsKnown classes w.heap vtype.Int u
  int_value v y = (v, ap (as_kind kind.Int) y.1 ∙ ap (λ (z : Value). Some z) (sym y.1), y)

  long_value : (v : Value) → FitsValue env w.heap vtype.Long v
      → (u : Value) × (as_kind kind.Long v ≡ Some u) × FitsKnown classes w.heap vtype.Long u
  long_value v y = (v, ap (as_kind kind.Long) y.1 ∙ ap (λ (z : Value). Some z) (sym y.1), y)

  value_taken : (e : Elem)
      → TakesOne env w.heap (Assignable (element_moved e)) (as_kind (kind_of_elem e))
      (FitsKnown classes w.heap (element_moved e))
  value_taken elem.Int t v m y = int_value v (assign_value env w.heap hierarchy t vtype.Int m v y)
  value_taken elem.Byte t v m y = int_value v (assign_value env w.heap hierarchy t vtype.Int m v y)
  value_taken elem.Char t v m y = int_value v (assign_value env w.heap hierarchy t vtype.Int m v y)
  value_taken elem.Short t v m y = int_value v (assign_value env w.heap hierarchy t vtype.Int m v y)
  value_taken elem.Long t v m y = long_value v (assign_value env w.heap hierarchy t vtype.Long m v y)
  value_taken elem.Ref t v m y =
      let r = object_taken env w.heap hierarchy (class_type (codes "java/lang/Object")) t v m y in
      (r.0, r.1, here_reference (class_type (codes "java/lang/Object")) r.0 r.2)

  pub stores_array : (e : Elem) (after : TypeFrame) → stepped env b.at (op.AStore e) f ≡ Ok after → Next after
      → FitsLocal classes w k env is.frames b (by_sort b (sort_of (op.AStore e)))
  unfolding rule_of
  stores_array e after h l =
      asks_fit classes w k env is hierarchy b f x
      (Assignable (element_moved e) ∷ Assignable vtype.Int ∷ array_wanted e ∷ []) None _ after
      (three_reads env w.heap (array_wanted e) (Assignable vtype.Int) (Assignable (element_moved e)) (as_kind kind.Ref)
      as_int (as_kind (kind_of_elem e)) (For e) (λ z. Unit {0}) (FitsKnown classes w.heap (element_moved e))
      (array_taken e) (int_taken env w.heap hierarchy) (value_taken e) (PutAt e) _
      (λ v i u y t q. put_fits classes sound w world env is.classes_are e v y i u q))
      (acted_of env b.at (op.AStore e) _ f after refl h)
      l

  -- ---- lengths and new arrays

  pub measures : (after : TypeFrame) → stepped env b.at op.ArrayLength f ≡ Ok after → Next after
      → FitsLocal classes w k env is.frames b (by_sort b (sort_of op.ArrayLength))
  unfolding rule_of
  measures after h l =
      asks_fit classes w k env is hierarchy b f x (AnyArray ∷ []) (Some vtype.Int) _ after
      (one_reads env w.heap AnyArray (as_kind kind.Ref) _ any_taken ArrayLength _
      (λ v y. ⊎_elim
      (λ n. subst (λ (u : Value). FitsAnswer classes env w (Some vtype.Int) (on_array w u (length_in w))) (sym n) tt)
      (λ a. length_fits classes sound w world env is.classes_are a.0 a.1 v a.2)
      y))
      (acted_of env b.at op.ArrayLength _ f after refl h)
      l

  int_reads : {X : Type 0} (fn : ℤ → X) (Q : X → Type 0) → ((z : ℤ) → Q (fn z))
      → Reads env w.heap (Assignable vtype.Int ∷ []) (one as_int fn) Q
  int_reads fn Q q = one_reads env w.heap (Assignable vtype.Int) as_int (λ z. Unit {0}) (int_taken env w.heap hierarchy)
      fn Q (λ z u. q z)

  pub makes_numbers : (c : Base) → is_there classes (flat c) ≡ true → (after : TypeFrame)
      → stepped env b.at (op.NewArray c) f ≡ Ok after → Next after
      → FitsLocal classes w k env is.frames b (by_sort b (sort_of (op.NewArray c)))
  unfolding rule_of
  makes_numbers c there after h l =
      asks_fit classes w k env is hierarchy b f x (Assignable vtype.Int ∷ []) (Some (array_of_base c)) _ after
      (int_reads (NewArray (flat c)) _ (λ z. one_fits classes sound w world env is.classes_are (flat c) there z))
      (acted_of env b.at (op.NewArray c) _ f after refl h)
      l

  pub makes_objects : (ty : FieldType) → is_there classes ty ≡ true → (after : TypeFrame)
      → stepped env b.at (op.ANewArray ty) f ≡ Ok after → Next after
      → FitsLocal classes w k env is.frames b (by_sort b (sort_of (op.ANewArray ty)))
  unfolding rule_of
  makes_objects ty there after h l =
      asks_fit classes w k env is hierarchy b f x (Assignable vtype.Int ∷ []) (Some (rules.array_of ty)) _ after
      (int_reads (NewArray ty) _ (λ z. one_fits classes sound w world env is.classes_are ty there z))
      (acted_of env b.at (op.ANewArray ty) _ f after refl h)
      l

  -- sizes, the last on the top
  counts_taken : (n : ℕ) (zs : List ℤ) (m : ℕ) → m ≡ n + length zs → (g h : TypeFrame) (s : List Value)
      → FitsStack env w.heap g.stack s → all_popped env.classes (replicate n (Assignable vtype.Int)) g ≡ Ok h
      → Took env w.heap (counts_above n zs) (λ ys. length ys ≡ m) g h s
  counts_taken zero zs m e g h s y q = record {
    value = zs;
    rest = s;
    reads = refl;
    holds = omega (arith, e);
    fits = subst (λ (z : TypeFrame). FitsStack env w.heap z.stack s) (same q) y;
    locals = ap (λ (z : TypeFrame). z.locals) (sym (same q));
  } where
    same : (let R : Checked = Ok g in R) ≡ Ok h → g ≡ h
    same q = cc
  counts_taken (suc n) zs m e g h s y q =
      let p = bound (popped env.classes (Assignable vtype.Int) g)
      (all_popped env.classes (replicate n (Assignable vtype.Int))) h q in
      let r = top_taken env w.heap (Assignable vtype.Int) as_int (λ z. Unit {0}) (int_taken env w.heap hierarchy) g
      p.0 s y
      p.1 in
      let t = counts_taken n (r.value ∷ zs) m (omega (arith, e)) p.0 h r.rest r.fits p.2 in
      record {
        value = t.value;
        rest = t.rest;
        reads = ap (λ (o : Option (ℤ × List Value)). o >>= (λ p. counts_above n (p.0 ∷ zs) p.1)) r.reads ∙ t.reads;
        holds = t.holds;
        fits = t.fits;
        locals = t.locals ∙ r.locals;
      }

  pub makes_many : (ty : FieldType) (n : ℕ) → is_there classes ty ≡ true → 0 < n → n ≤ ty.dims → (after : TypeFrame)
      → stepped env b.at (op.MultiNewArray ty n) f ≡ Ok after → Next after
      → FitsLocal classes w k env is.frames b (by_sort b (sort_of (op.MultiNewArray ty n)))
  unfolding rule_of
  makes_many ty n there some deep after h l =
      asks_fit classes w k env is hierarchy b f x (replicate n (Assignable vtype.Int)) (Some (vtype.Object ty)) _ after
      reads
      (acted_of env b.at (op.MultiNewArray ty n) _ f after refl h)
      l
    where
      reads : Reads env w.heap (replicate n (Assignable vtype.Int)) (taking_counts n (NewArrays ty))
          (λ r. FitsAnswer classes env w (Some (vtype.Object ty)) (answer (shape_of classes) k.class w r))
      reads g m s y e =
          let t = counts_taken n [] n (omega arith) g m s y e in
          record {
            value = NewArrays ty t.value;
            rest = t.rest;
            reads = ap (λ (o : Option (List ℤ × List Value)). o >>= (λ p. Some (NewArrays ty p.0, p.1))) t.reads;
            holds = many_fit classes sound w world env is.classes_are ty there t.value
                (let long = t.holds in omega (arith, long, some)) (let long = t.holds in omega (arith, long, deep));
            fits = t.fits;
            locals = t.locals;
          }

  -- ---- types

  cast_fits : (from ty : FieldType) (v : Value) → FitsReference classes w.heap from v
      → FitsAnswer classes env w (Some (vtype.Object ty)) (cast (shape_of classes) w ty v)
  cast_fits from ty Null y = given_same classes w world env is.classes_are (vtype.Object ty) Null tt
  cast_fits from ty (Int z) y = absurd y
  cast_fits from ty (Long z) y = absurd y
  cast_fits from ty (Lit units) y = by (is_type_below (shape_of classes).is_sub (class_type string) ty) refl where
    by : (t : Bool) → is_type_below (shape_of classes).is_sub (class_type string) ty ≡ t
        → FitsAnswer classes env w (Some (vtype.Object ty)) (cond t (Gives (Some (Lit units)) w) (Raises ClassCast))
    by true h = given_same classes w world env is.classes_are (vtype.Object ty) (Lit units)
        (types_below classes sound.ordered (class_type string) ty h)
    by false h = tt
  cast_fits from ty (Ref n) y =
      subst (λ (o : Option Object). FitsAnswer classes env w (Some (vtype.Object ty)) (of_some (λ z.
      cond (is_type_below (shape_of classes).is_sub (type_of z) ty) (Gives (Some (Ref n)) w) (Raises ClassCast)) o))
      (sym y.1) (by (is_type_below (shape_of classes).is_sub (type_of y.0) ty) refl)
    where
      by : (t : Bool) → is_type_below (shape_of classes).is_sub (type_of y.0) ty ≡ t
          → FitsAnswer classes env w (Some (vtype.Object ty)) (cond t (Gives (Some (Ref n)) w) (Raises ClassCast))
      by true h = given_same classes w world env is.classes_are (vtype.Object ty) (Ref n) (
        y.0,
        y.1,
        record {
          whole = y.2.whole;
          there = y.2.there;
          held = types_below classes sound.ordered (type_of y.0) ty h;
        },
      )
      by false h = tt

  truth_given : (t : Bool) → FitsAnswer classes env w (Some vtype.Int) (Gives (Some (truth t)) w)
  truth_given true = given_same classes w world env is.classes_are vtype.Int (truth true) (_, refl)
  truth_given false = given_same classes w world env is.classes_are vtype.Int (truth false) (_, refl)

  test_fits : (from ty : FieldType) (v : Value) → FitsReference classes w.heap from v
      → FitsAnswer classes env w (Some vtype.Int) (instance_of (shape_of classes) w ty v)
  test_fits from ty Null y = truth_given false
  test_fits from ty (Int z) y = absurd y
  test_fits from ty (Long z) y = absurd y
  test_fits from ty (Lit units) y = truth_given _
  test_fits from ty (Ref n) y =
      subst (λ (o : Option Object). FitsAnswer classes env w (Some vtype.Int) (of_some (λ z.
      Gives (Some (truth (is_type_below (shape_of classes).is_sub (type_of z) ty))) w) o))
      (sym y.1) (truth_given _)

  pub casts : (ty : FieldType) (after : TypeFrame) → stepped env b.at (op.CheckCast ty) f ≡ Ok after → Next after
      → FitsLocal classes w k env is.frames b (by_sort b (sort_of (op.CheckCast ty)))
  unfolding rule_of
  casts ty after h l =
      asks_fit classes w k env is hierarchy b f x (Assignable object ∷ []) (Some (vtype.Object ty)) _ after
      (one_reads env w.heap (Assignable object) (as_kind kind.Ref)
      (FitsReference env.classes w.heap (class_type (codes "java/lang/Object")))
      (object_taken env w.heap hierarchy (class_type (codes "java/lang/Object"))) (Cast ty) _
      (λ v y. cast_fits (class_type (codes "java/lang/Object")) ty v
      (here_reference (class_type (codes "java/lang/Object")) v y)))
      (acted_of env b.at (op.CheckCast ty) _ f after refl h)
      l

  pub tests : (ty : FieldType) (after : TypeFrame) → stepped env b.at (op.InstanceOf ty) f ≡ Ok after → Next after
      → FitsLocal classes w k env is.frames b (by_sort b (sort_of (op.InstanceOf ty)))
  unfolding rule_of
  tests ty after h l =
      asks_fit classes w k env is hierarchy b f x (Assignable object ∷ []) (Some vtype.Int) _ after
      (one_reads env w.heap (Assignable object) (as_kind kind.Ref)
      (FitsReference env.classes w.heap (class_type (codes "java/lang/Object")))
      (object_taken env w.heap hierarchy (class_type (codes "java/lang/Object"))) (Test ty) _
      (λ v y. test_fits (class_type (codes "java/lang/Object")) ty v
      (here_reference (class_type (codes "java/lang/Object")) v y)))
      (acted_of env b.at (op.InstanceOf ty) _ f after refl h)
      l
