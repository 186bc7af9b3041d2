-- What fits a type fits each one that it is assignable to.
use Rattle.std.proofs.Common.{ℕ, List, [], ◌∷◌, Option, Some, None, true, ◌≡◌, ◌&&◌, ◌||◌, not}
use Rattle.std.proofs.Common.{refl, sym, subst}
use Rattle.std.proofs.Common.{⊎_elim}
use Rattle.std.specs.Cmp.Lexicographic.{pointwise}
use Rattle.std.proofs.lemmas.Bool.{and_parts, eqb-true}
use Rattle.jv_base.specs.declared.types.FieldType.{FieldType}
use Rattle.class_model.specs.declared.class.Class.{Class}
use Rattle.class_model.specs.declared.frame.VType.{VType}
use Rattle.class_model.specs.declared.frame.VType.TheVariants as vtype
use Rattle.jvm_model.specs.Heap.{Object, type_of, string}
use Rattle.jvm_model.specs.State.{Body}
use Rattle.jvm_model.specs.Value.{Value, Int, Long, Null, Ref, Lit}
use Rattle.type_verifier.specs.declared.frame.TypeFrame.{TypeFrame}
use Rattle.type_verifier.specs.Assignable.{class_type, is_assignable, is_frame_assignable}
use Rattle.type_verifier.specs.Assignable.{is_item_assignable, is_java_assignable}
use Rattle.type_verifier.specs.Environment.{Environment}
use Rattle.fit_laws.specs.Frames.{FitsBody, FitsLocals, FitsSlot, FitsStack, Flows}
use Rattle.fit_laws.specs.Held.{is_held}
use Rattle.fit_laws.specs.Values.{FitsReference, FitsValue}
use Rattle.fit_laws.proofs.Held.{IsHierarchy}
use Rattle.fit_laws.proofs.Lists.{pointwise_at}

module _ (classes : List Class) (heap : List Object) (hierarchy : IsHierarchy classes) where
  -- what is held by a type fits what that type is held by
  pub held_reference : (a b : FieldType) → is_held classes a b ≡ true → (v : Value)
      → FitsReference classes heap a v → FitsReference classes heap b v
  held_reference a b h Null x = tt
  held_reference a b h (Lit units) x = hierarchy.onward (class_type string) a b hierarchy.string_there x h
  held_reference a b h (Ref n) x = (
    x.0,
    x.1,
    record {
      whole = x.2.whole;
      there = x.2.there;
      held = hierarchy.onward (type_of x.0) a b x.2.there x.2.held h;
    },
  )
  held_reference a b h (Int z) x = x
  held_reference a b h (Long z) x = x

module _ (env : Environment) (heap : List Object) (hierarchy : IsHierarchy env.classes) where
  pub assign_reference : (a b : FieldType) → is_java_assignable env.classes a b ≡ true → (v : Value)
      → FitsReference env.classes heap a v → FitsReference env.classes heap b v
  assign_reference a b h Null x = tt
  assign_reference a b h (Lit units) x =
      hierarchy.goes_on (class_type string) a b hierarchy.string_there x h
  assign_reference a b h (Ref n) x = (
    x.0,
    x.1,
    record {
      whole = x.2.whole;
      there = x.2.there;
      held = hierarchy.goes_on (type_of x.0) a b x.2.there x.2.held h;
    },
  )
  assign_reference a b h (Int z) x = x
  assign_reference a b h (Long z) x = x

  null_fits : (ty : FieldType) (v : Value) → v ≡ Null → FitsReference env.classes heap ty v
  null_fits ty v e = subst (λ w. FitsReference env.classes heap ty w) (sym e) tt

  pub assign_value : (from to : VType) → is_assignable env.classes from to ≡ true → (v : Value)
      → FitsValue env heap from v → FitsValue env heap to v
  unfolding is_assignable
  assign_value vtype.Top vtype.Top h v x = tt
  assign_value vtype.Int vtype.Top h v x = tt
  assign_value vtype.Long vtype.Top h v x = tt
  assign_value vtype.Null vtype.Top h v x = tt
  assign_value vtype.UninitThis vtype.Top h v x = tt
  assign_value (vtype.Object a) vtype.Top h v x = tt
  assign_value (vtype.Uninit a) vtype.Top h v x = tt
  assign_value vtype.Top vtype.Int h v x = absurd cc
  assign_value vtype.Int vtype.Int h v x = x
  assign_value vtype.Long vtype.Int h v x = absurd cc
  assign_value vtype.Null vtype.Int h v x = absurd cc
  assign_value vtype.UninitThis vtype.Int h v x = absurd cc
  assign_value (vtype.Object a) vtype.Int h v x = absurd cc
  assign_value (vtype.Uninit a) vtype.Int h v x = absurd cc
  assign_value vtype.Top vtype.Long h v x = absurd cc
  assign_value vtype.Int vtype.Long h v x = absurd cc
  assign_value vtype.Long vtype.Long h v x = x
  assign_value vtype.Null vtype.Long h v x = absurd cc
  assign_value vtype.UninitThis vtype.Long h v x = absurd cc
  assign_value (vtype.Object a) vtype.Long h v x = absurd cc
  assign_value (vtype.Uninit a) vtype.Long h v x = absurd cc
  assign_value vtype.Top vtype.Null h v x = absurd cc
  assign_value vtype.Int vtype.Null h v x = absurd cc
  assign_value vtype.Long vtype.Null h v x = absurd cc
  assign_value vtype.Null vtype.Null h v x = x
  assign_value vtype.UninitThis vtype.Null h v x = absurd cc
  assign_value (vtype.Object a) vtype.Null h v x = absurd cc
  assign_value (vtype.Uninit a) vtype.Null h v x = absurd cc
  assign_value vtype.Top vtype.UninitThis h v x = absurd cc
  assign_value vtype.Int vtype.UninitThis h v x = absurd cc
  assign_value vtype.Long vtype.UninitThis h v x = absurd cc
  assign_value vtype.Null vtype.UninitThis h v x = absurd cc
  assign_value vtype.UninitThis vtype.UninitThis h v x = x
  assign_value (vtype.Object a) vtype.UninitThis h v x = absurd cc
  assign_value (vtype.Uninit a) vtype.UninitThis h v x = absurd cc
  assign_value vtype.Top (vtype.Object b) h v x = absurd cc
  assign_value vtype.Int (vtype.Object b) h v x = absurd cc
  assign_value vtype.Long (vtype.Object b) h v x = absurd cc
  assign_value vtype.Null (vtype.Object b) h v x = null_fits b v x
  assign_value vtype.UninitThis (vtype.Object b) h v x = absurd cc
  assign_value (vtype.Object a) (vtype.Object b) h v x = assign_reference a b h v x
  assign_value (vtype.Uninit a) (vtype.Object b) h v x = absurd cc
  assign_value vtype.Top (vtype.Uninit b) h v x = absurd cc
  assign_value vtype.Int (vtype.Uninit b) h v x = absurd cc
  assign_value vtype.Long (vtype.Uninit b) h v x = absurd cc
  assign_value vtype.Null (vtype.Uninit b) h v x = absurd cc
  assign_value vtype.UninitThis (vtype.Uninit b) h v x = absurd cc
  assign_value (vtype.Object a) (vtype.Uninit b) h v x = absurd cc
  assign_value (vtype.Uninit a) (vtype.Uninit b) h v x =
      subst (λ n. FitsValue env heap (vtype.Uninit n) v) (eqb-true a b h) x

  top_only : (to : VType) → is_assignable env.classes vtype.Top to ≡ true → to ≡ vtype.Top
  unfolding is_assignable
  top_only vtype.Top h = refl
  top_only vtype.Int h = absurd cc
  top_only vtype.Long h = absurd cc
  top_only vtype.Null h = absurd cc
  top_only vtype.UninitThis h = absurd cc
  top_only (vtype.Object b) h = absurd cc
  top_only (vtype.Uninit b) h = absurd cc

  assign_slot : (from to : VType) → is_assignable env.classes from to ≡ true → (o : Option Value)
      → FitsSlot env heap from o → FitsSlot env heap to o
  assign_slot from to h None x =
      top_only to (subst (λ t. is_assignable env.classes t to ≡ true) x h)
  assign_slot from to h (Some v) x = assign_value from to h v x

  assign_locals : (froms tos : List VType) → pointwise (is_assignable env.classes) froms tos ≡ true
      → (locals : ℕ → Option Value) → FitsLocals env heap froms locals
      → FitsLocals env heap tos locals
  assign_locals froms tos h locals x slot to e =
      let p = pointwise_at (is_assignable env.classes) froms tos slot to h e in
      assign_slot p.0 to p.2 (locals slot) (x slot p.0 p.1)

  item : (from to : VType) → is_item_assignable env.classes from to ≡ true
      → is_assignable env.classes from to ≡ true
  item from to h = (and_parts _ (is_assignable env.classes from to) h).1

  assign_stack : (froms tos : List VType)
      → pointwise (is_item_assignable env.classes) froms tos ≡ true
      → (stack : List Value) → FitsStack env heap froms stack → FitsStack env heap tos stack
  assign_stack [] [] h [] x = x
  assign_stack [] [] h (v ∷ vs) x = x
  assign_stack [] (t ∷ ts) h vs x = absurd cc
  assign_stack (f ∷ fs) [] h vs x = absurd cc
  assign_stack (f ∷ fs) (t ∷ ts) h [] x = x
  assign_stack (f ∷ fs) (t ∷ ts) h (v ∷ vs) x =
      let p = and_parts (is_item_assignable env.classes f t)
      (pointwise (is_item_assignable env.classes) fs ts) h in
      (assign_value f t (item f t p.0) v x.0, assign_stack fs ts p.1 vs x.1)

  assign_body : (f g : TypeFrame) → is_frame_assignable env.classes f g ≡ true → (b : Body)
      → FitsBody env heap f b
      → FitsBody env heap g b
  assign_body f g h b x =
      let p = and_parts (pointwise (is_assignable env.classes) f.locals g.locals
      && pointwise (is_item_assignable env.classes) f.stack g.stack) (not f.marked || g.marked) h in
      let q = and_parts (pointwise (is_assignable env.classes) f.locals g.locals)
      (pointwise (is_item_assignable env.classes) f.stack g.stack) p.0 in
      record {
        locals = assign_locals f.locals g.locals q.0 b.locals x.locals;
        stack = assign_stack f.stack g.stack q.1 b.stack x.stack;
      }

  -- so a body that fits a frame fits that to which it flows
  pub flow_body : (f g : TypeFrame) → Flows env.classes f g → (b : Body) → FitsBody env heap f b
      → FitsBody env heap g b
  flow_body f g h b x = ⊎_elim (λ e. subst (λ k. FitsBody env heap k b) (sym e) x)
      (λ e. assign_body f g e b x) h
