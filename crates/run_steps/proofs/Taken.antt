-- Operands that were taken stood above the stack that is left.
use Rattle.std.proofs.Common.{◌≡◌, ◌∙◌, Bool, true, false, List, [], ◌∷◌, ◌++◌, Option, Some, None, append_assoc, ap}
use Rattle.std.proofs.Common.{refl, reverse, sym}
use mathlib.Core.List.{reverse-cons}
use Rattle.std.specs.Option.{option_and_then}
use Rattle.std.specs.Prelude.{if◌then◌else◌}
use Rattle.class_model.specs.declared.op.Kind.{Kind}
use Rattle.class_model.specs.declared.op.MemberRef.{MemberRef}
use Rattle.jvm_model.specs.Instructions.{CallStatic, Request, as_field, taking}
use Rattle.jvm_model.specs.Stack.{◌>>=◌, many, many_above, top}
use Rattle.jvm_model.specs.Types.{field_kind}
use Rattle.jvm_model.specs.Value.{Value, as_kind, is_of}

-- what was read, with the stack that is left
abbrev paired : List Value → Value → Option (Value × List Value)
paired s x = Some (x, s)

-- the value at the top, where it is of a computational type
pub kind_taken : (k : Kind) (s : List Value) (v : Value) (t : List Value) → top (as_kind k) s ≡ Some (v, t) → s ≡ v ∷ t
kind_taken k [] v t e = absurd cc
kind_taken k (u ∷ s) v t e = by (is_of k u) e
  where
    by : (b : Bool) → ((if b then Some u else None) >>= paired s) ≡ Some (v, t) → u ∷ s ≡ v ∷ t
    by true f = let p : ◌≡◌ {A = Value × List Value} (u, s) (v, t) = cc in ap (λ (z : Value × List Value). z.0 ∷ z.1) p
    by false f = absurd cc

-- the value at the top, where it is of a field's type
pub field_taken : (r : MemberRef) (s : List Value) (v : Value) (t : List Value) → top (as_field r) s ≡ Some (v, t)
    → s ≡ v ∷ t
field_taken r [] v t e = absurd cc
field_taken r (u ∷ s) v t e = by (field_kind r.ty) e
  where
    by : (o : Option Kind) → top (λ x. option_and_then (λ k. as_kind k x) o) (u ∷ s) ≡ Some (v, t) → u ∷ s ≡ v ∷ t
    by None f = absurd cc
    by (Some k) f = kind_taken k (u ∷ s) v t f

-- the others, with the stack that is left
abbrev going : List Kind → List Value → Value × List Value → Option (List Value × List Value)
going ks ws p = many_above ks (p.0 ∷ ws) p.1

above : (ks : List Kind) (ws s vs t : List Value) → many_above ks ws s ≡ Some (vs, t)
    → reverse ws ++ s ≡ reverse vs ++ t
above [] ws s vs t e =
    let p : ◌≡◌ {A = List Value × List Value} (ws, s) (vs, t) = cc in
    ap (λ (z : List Value × List Value). reverse z.0 ++ z.1) p
above (k ∷ ks) ws s vs t e = by (top (as_kind k) s) refl e (λ v r. above ks (v ∷ ws) r vs t)
  where
    by : (o : Option (Value × List Value)) → top (as_kind k) s ≡ o
        → (o >>= going ks ws) ≡ Some (vs, t)
        → ((v : Value) (r : List Value) → many_above ks (v ∷ ws) r ≡ Some (vs, t)
        → reverse (v ∷ ws) ++ r ≡ reverse vs ++ t)
        → reverse ws ++ s ≡ reverse vs ++ t
    by None i f more = absurd cc
    by (Some p) i f more = ap (λ (x : List Value). reverse ws ++ x) (kind_taken k s p.0 p.1 i)
        ∙ sym (append_assoc (reverse ws) (p.0 ∷ []) p.1)
        ∙ ap (λ (x : List Value). x ++ p.1) (sym (reverse-cons p.0 ws)) ∙ more p.0 p.1 f

-- values of these computational types
pub many_taken : (ks : List Kind) (s vs t : List Value) → many ks s ≡ Some (vs, t) → s ≡ reverse vs ++ t
many_taken ks s vs t e = above (reverse ks) [] s vs t e

abbrev given : Request → List Value
given (CallStatic r vs) = vs
given _ = []

-- a call, with the stack that is left
abbrev calling : MemberRef → List Value × List Value → Option (Request × List Value)
calling r p = Some (CallStatic r p.0, p.1)

-- operands of a call
pub operands_taken : (r : MemberRef) (kinds : Option (List Kind)) (s vs t : List Value)
    → ((ask : List Value → Request) → taking kinds ask s ≡ Some (ask vs, t)) → s ≡ reverse vs ++ t
operands_taken r None s vs t e = let f = e (CallStatic r) in absurd cc
operands_taken r (Some ks) s vs t e = by (many ks s) refl (e (CallStatic r))
  where
    by : (o : Option (List Value × List Value)) → many ks s ≡ o
        → (o >>= calling r) ≡ Some (CallStatic r vs, t) → s ≡ reverse vs ++ t
    by None i f = absurd cc
    by (Some p) i f =
        let q : ◌≡◌ {A = Request × List Value} (CallStatic r p.0, p.1) (CallStatic r vs, t) = cc in
        many_taken ks s vs t (i ∙ ap (λ (z : Request × List Value). Some (given z.0, z.1)) q)
