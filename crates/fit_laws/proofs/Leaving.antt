-- A method returns.
use Rattle.std.proofs.Common.{List, Option, Some, None, Bool, true, false, ◌≡◌, refl, sym, subst}
use Rattle.std.specs.Prelude.{cond, Ok, Err, option_map}
use Rattle.jv_base.specs.declared.types.FieldType.{FieldType}
use Rattle.class_model.specs.Frames.{vtype_of}
use Rattle.class_model.specs.declared.class.Class.{Class}
use Rattle.class_model.specs.declared.frame.VType.{VType}
use Rattle.class_model.specs.declared.frame.VType.TheVariants as vtype
use Rattle.class_model.specs.declared.op.Kind.{Kind}
use Rattle.class_model.specs.declared.op.Kind.TheVariants as kind
use Rattle.class_model.specs.declared.op.Op.TheVariants as op
use Rattle.jvm_model.specs.Heap.{Object, World}
use Rattle.jvm_model.specs.Instructions.{sort_of}
use Rattle.jvm_model.specs.Local.{after_leave, by_sort}
use Rattle.jvm_model.specs.Stack.{◌>>=◌}
use Rattle.jvm_model.specs.State.{Body}
use Rattle.jvm_model.specs.Value.{Key, Value, as_kind}
use Rattle.type_verifier.specs.declared.fault.TypeKind.TheVariants.{Operand}
use Rattle.type_verifier.specs.declared.frame.TypeFrame.{TypeFrame}
use Rattle.type_verifier.specs.Effects.{Checked, constructor_returned, is_returned_by, popped}
use Rattle.type_verifier.specs.Effects.{result_taken, stepped}
use Rattle.type_verifier.specs.Environment.{Environment}
use Rattle.type_verifier.specs.Rules.{Assignable, Returns, rule_of}
use Rattle.type_verifier.proofs.TypedLaw.{bound}
use Rattle.fit_laws.specs.Answered.{FitsLocal, FitsReturned}
use Rattle.fit_laws.specs.Frames.{Environs, FitsBody}
use Rattle.fit_laws.specs.Values.{FitsKnown, FitsValue}
use Rattle.fit_laws.proofs.Assigning.{assign_value}
use Rattle.fit_laws.proofs.Held.{IsHierarchy}
use Rattle.fit_laws.proofs.Operands.{of_reference}
use Rattle.fit_laws.proofs.Sorts.{acted_of}
use Rattle.fit_laws.proofs.Taking.{TakesOne, top_taken}

module _ (env : Environment) (heap : List Object) (hierarchy : IsHierarchy env.classes) where
  result_value : (k : Kind) (u : VType) → is_returned_by k u ≡ true → (v : Value)
      → FitsValue env heap u v
      → (y : Value) × (as_kind k v ≡ Some y) × FitsKnown env.classes heap u y
  result_value kind.Int vtype.Top e v x = absurd cc
  result_value kind.Int vtype.Int e v x =
      (v, subst (λ (z : Value). as_kind kind.Int z ≡ Some z) (sym x.1) refl, x)
  result_value kind.Int vtype.Long e v x = absurd cc
  result_value kind.Int vtype.Null e v x = absurd cc
  result_value kind.Int vtype.UninitThis e v x = absurd cc
  result_value kind.Int (vtype.Object t) e v x = absurd cc
  result_value kind.Int (vtype.Uninit at) e v x = absurd cc
  result_value kind.Long vtype.Top e v x = absurd cc
  result_value kind.Long vtype.Int e v x = absurd cc
  result_value kind.Long vtype.Long e v x =
      (v, subst (λ (z : Value). as_kind kind.Long z ≡ Some z) (sym x.1) refl, x)
  result_value kind.Long vtype.Null e v x = absurd cc
  result_value kind.Long vtype.UninitThis e v x = absurd cc
  result_value kind.Long (vtype.Object t) e v x = absurd cc
  result_value kind.Long (vtype.Uninit at) e v x = absurd cc
  result_value kind.Ref vtype.Top e v x = absurd cc
  result_value kind.Ref vtype.Int e v x = absurd cc
  result_value kind.Ref vtype.Long e v x = absurd cc
  result_value kind.Ref vtype.Null e v x = absurd cc
  result_value kind.Ref vtype.UninitThis e v x = absurd cc
  result_value kind.Ref (vtype.Object t) e v x = of_reference env heap hierarchy t v x
  result_value kind.Ref (vtype.Uninit at) e v x = absurd cc

  result_read : (k : Kind) (u : VType) → is_returned_by k u ≡ true
      → TakesOne env heap (Assignable u) (as_kind k) (FitsKnown env.classes heap u)
  result_read k u e t v m x = result_value k u e v (assign_value env heap hierarchy t u m v x)

module _ (classes : List Class) (w : World) (k : Key) (env : Environment)
    (is : Environs classes k env)
    (hierarchy : IsHierarchy env.classes) (b : Body) (f : TypeFrame) (x : FitsBody env w.heap f b)
  where
    pub leaves_fit : (kd : Option Kind) (after : TypeFrame)
        → stepped env b.at (op.Return kd) f ≡ Ok after
        → FitsLocal classes w k env is.frames b (by_sort b (sort_of (op.Return kd)))
    unfolding rule_of
    leaves_fit kd after h =
        let m = bound (result_taken env kd env.method.ty.ret f) (constructor_returned env) after
        (acted_of env b.at (op.Return kd) (Returns kd) f after refl h) in
        by kd env.method.ty.ret refl m.0 m.1
      where
        passed : (c : Bool) (r : Checked) (g : TypeFrame)
            → (let R : Checked = cond c r (Err Operand) in R) ≡ Ok g
            → (c ≡ true) × (r ≡ Ok g)
        passed true r g e = (refl, e)
        passed false r g e = absurd cc

        by : (kd : Option Kind) (ret : Option FieldType) → env.method.ty.ret ≡ ret → (g : TypeFrame)
            → result_taken env kd ret f ≡ Ok g
            → FitsLocal classes w k env is.frames b (by_sort b (sort_of (op.Return kd)))
        by None None e g q =
            subst (λ (r : Option FieldType). FitsReturned classes w.heap (option_map vtype_of r)
            None) (sym e) tt
        by None (Some ty) e g q = absurd cc
        by (Some kd) None e g q = absurd cc
        by (Some kd) (Some ty) e g q =
            let p = passed (is_returned_by kd (vtype_of ty))
            (popped env.classes (Assignable (vtype_of ty)) f) g q in
            let r = top_taken env w.heap (Assignable (vtype_of ty)) (as_kind kd)
            (FitsKnown env.classes w.heap (vtype_of ty))
            (result_read env w.heap hierarchy kd (vtype_of ty) p.0) f g b.stack x.stack p.1 in
            subst (λ (o : Option (Value × List Value)). FitsLocal classes w k env is.frames b
            (after_leave (o >>= (λ z. Some (Some z.0, z.1))))) (sym r.reads)
            (subst (λ (t : Option FieldType). FitsReturned classes w.heap (option_map vtype_of t)
            (Some r.value)) (sym e)
            (subst (λ (c : List Class). FitsKnown c w.heap (vtype_of ty) r.value) is.classes_are
            r.holds))
