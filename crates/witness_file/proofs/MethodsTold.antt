-- A table of methods tells those that were read.
use Rattle.std.proofs.Common.{◌≡◌, ◌≢◌, ℕ, Bool, true, false, not, cond, ◌||◌, ◌&&◌, List, [], ◌∷◌, ◌++◌, map, Option}
use Rattle.std.proofs.Common.{Some, None, Result, Ok, Err, refl, sym, ap, subst, ◌∙◌}
use Rattle.std.specs.Prelude.{OnOk}
use Rattle.std.specs.BTreeSet as sorted
use Rattle.std.specs.BTreeSet.{BTreeSet, Updates}
use Rattle.std.specs.Cmp.Lexicographic.{slice_cmp}
use Rattle.std.specs.List.{list_any}
use Rattle.std.specs.Option.{option_to_list}
use Rattle.std.specs.Ordering.{is_eq, nat_cmp, ordering_then}
use Rattle.std.specs.declared.cmp.Ordering.{Ordering}
use Rattle.std.specs.declared.cmp.Ordering.TheVariants.{Less, Equal, Greater}
use Rattle.std.proofs.lemmas.Map.Text.{is_eq-slice_cmp}
use Rattle.jv_base.specs.Names.{is_text}
use Rattle.jv_base.specs.Outcome.{◌>>=◌}
use Rattle.jv_base.specs.declared.outcome.Or.{Or}
use Rattle.jv_base.specs.declared.outcome.Or.TheVariants.{Fault, OutOfMemory}
use Rattle.jv_base.proofs.Equality.{text_sym}
use Rattle.jv_base.proofs.Lists.{any_more}
use Rattle.text_lines.specs.bodies.Steps.{ChangesOr}
use Rattle.text_lines.proofs.ReadLines.{bind_ok}
use Rattle.code_edit.specs.declared.act.Act.{Act}
use Rattle.witness_file.specs.bodies.MethodTable.{Names, TellsMethods, names_order, text_order}
use Rattle.witness_file.specs.WitnessReading.{act_added, with_line, added_behind, added_first, all_methods, closed}
use Rattle.witness_file.specs.WitnessReading.{in_last}
use Rattle.witness_file.specs.WitnessReading.{method_begun, step_begun}
use Rattle.witness_file.specs.Witnesses.{has_method, is_method}
use Rattle.witness_file.specs.declared.line.WitnessLine.{WitnessLine}
use Rattle.witness_file.specs.declared.line.WitnessLine.TheVariants as line
use Rattle.witness_file.specs.declared.reading.WitnessRead.{WitnessRead}
use Rattle.witness_file.specs.declared.steps.MethodRead.{MethodRead}
use Rattle.witness_file.specs.declared.witness.MethodWitness.{MethodWitness}
use Rattle.witness_file.specs.declared.witness.WitKind.{WitKind}
use Rattle.witness_file.proofs.Told.{in_last_ok, step_parts}

then_eq : (o p : Ordering) → is_eq (ordering_then o p) ≡ is_eq o && is_eq p
then_eq Equal p = refl
then_eq Less p = refl
then_eq Greater p = refl

-- names are alike exactly where all three are
names_eq : (x y : Names) → is_eq (names_order x y) ≡ (is_text x.0.0 y.0.0 && is_text x.0.1 y.0.1) && is_text x.1 y.1
names_eq x y = then_eq (ordering_then (text_order x.0.0 y.0.0) (text_order x.0.1 y.0.1)) (text_order x.1 y.1)
    ∙ ap (λ (b : Bool). b && is_eq (text_order x.1 y.1)) (then_eq (text_order x.0.0 y.0.0) (text_order x.0.1 y.0.1))
    ∙ ap (λ (b : Bool). (b && is_eq (text_order x.0.1 y.0.1)) && is_eq (text_order x.1 y.1))
    (is_eq-slice_cmp x.0.0 y.0.0)
    ∙ ap (λ (b : Bool). (is_text x.0.0 y.0.0 && b) && is_eq (text_order x.1 y.1)) (is_eq-slice_cmp x.0.1 y.0.1)
    ∙ ap (λ (b : Bool). (is_text x.0.0 y.0.0 && is_text x.0.1 y.0.1) && b) (is_eq-slice_cmp x.1 y.1)

and_assoc : (a b c : Bool) → (a && b) && c ≡ a && (b && c)
and_assoc true b c = refl
and_assoc false b c = refl

-- the names of a method that is put, asked for
asked : (class name ty c n t : List ℕ)
    → is_eq (names_order ((class, name), ty) ((c, n), t)) ≡ is_text c class && (is_text n name && is_text t ty)
asked class name ty c n t = names_eq ((class, name), ty) ((c, n), t)
    ∙ and_assoc (is_text class c) (is_text name n) (is_text ty t)
    ∙ ap (λ (b : Bool). b && (is_text name n && is_text ty t)) (text_sym class c)
    ∙ ap (λ (b : Bool). is_text c class && (b && is_text ty t)) (text_sym name n)
    ∙ ap (λ (b : Bool). is_text c class && (is_text n name && b)) (text_sym ty t)

or_swap : (a b : Bool) → cond a true b ≡ b || a
or_swap true true = refl
or_swap true false = refl
or_swap false true = refl
or_swap false false = refl

-- one more method
pub method_put : (s u : BTreeSet Names) (ms : List MethodWitness) (m : MethodWitness)
    → Updates names_order s u ((m.class, m.name), m.ty) true
    → TellsMethods s ms → TellsMethods u (ms ++ m ∷ [])
method_put s u ms m up h c n t =
    up.0 ((c, n), t)
    ∙ ap (λ (b : Bool). cond b true (sorted.contains names_order s ((c, n), t))) (asked m.class m.name m.ty c n t)
    ∙ ap (λ (b : Bool). cond (is_method c n t m) true b) (h c n t)
    ∙ or_swap (is_method c n t m) (has_method ms c n t)
    ∙ sym (any_more (is_method c n t) ms m)

-- the last method with other steps is the same
last_same : (s : BTreeSet Names) (ms : List MethodWitness) (m n : MethodWitness) → n.class ≡ m.class → n.name ≡ m.name
    → n.ty ≡ m.ty
    → TellsMethods s (ms ++ m ∷ []) → TellsMethods s (ms ++ n ∷ [])
last_same s ms m n c d t h a b e =
    let same : is_method a b e m ≡ is_method a b e n = rw (c, d, t) refl in
    h a b e ∙ any_more (is_method a b e) ms m ∙ ap (λ (x : Bool). list_any (is_method a b e) ms || x) same
    ∙ sym (any_more (is_method a b e) ms n)

changed : (s : BTreeSet Names) (r u : WitnessRead) (change : MethodRead → Result MethodRead WitKind)
    → ((m n : MethodRead) → change m ≡ Ok n → (n.class ≡ m.class) × (n.name ≡ m.name) × (n.ty ≡ m.ty))
    → in_last r.last change >>= (λ m. Ok (record r { last = m })) ≡ Ok u → TellsMethods s (all_methods r)
    → TellsMethods s (all_methods u)
changed s r u change keeps h t =
    let p = in_last_ok r.last change r u h in
    let k = keeps p.0 p.1 p.3 in
    let before = subst (λ (o : Option MethodRead). TellsMethods s (r.before ++ map closed (option_to_list o))) p.2 t in
    subst (λ (x : WitnessRead). TellsMethods s (all_methods x)) p.4
    (last_same s r.before (closed p.0) (closed p.1) k.0 k.1 k.2 before)

step_keeps_names : (k : ℕ) (m n : MethodRead) → step_begun k m ≡ Ok n
    → (n.class ≡ m.class) × (n.name ≡ m.name) × (n.ty ≡ m.ty)
step_keeps_names k m n h = let p = step_parts k m n h in (
  ap (λ (x : MethodRead). x.class) (sym p.2),
  ap (λ (x : MethodRead). x.name) (sym p.2),
  ap (λ (x : MethodRead). x.ty) (sym p.2),
)

-- a call that began a step
pub step_keeps : {T : Type 0} (r : Result T (Or WitKind)) (s : BTreeSet Names) (k : ℕ) (old new : WitnessRead)
    → ChangesOr r new (added_behind (line.Step k) old) → TellsMethods s (all_methods old)
    → OnOk r (TellsMethods s (all_methods new))
step_keeps (Ok x) s k old new h t = changed s old new (step_begun k) (step_keeps_names k) h t
step_keeps (Err e) s k old new h t = tt

act_keeps_names : (a : Act) (m n : MethodRead) → act_added a m.step >>= (λ s. Ok (record m { step = Some s })) ≡ Ok n
    → (n.class ≡ m.class) × (n.name ≡ m.name) × (n.ty ≡ m.ty)
act_keeps_names a m n h =
    let p = bind_ok (act_added a m.step) (λ s. Ok (record m { step = Some s })) n h in
    let is : record m { step = Some p.0 } ≡ n = cc in (
      ap (λ (x : MethodRead). x.class) (sym is),
      ap (λ (x : MethodRead). x.name) (sym is),
      ap (λ (x : MethodRead). x.ty) (sym is),
    )

-- a call that added an act
pub act_keeps : {T : Type 0} (r : Result T (Or WitKind)) (s : BTreeSet Names) (a : Act) (old new : WitnessRead)
    → ChangesOr r new (added_behind (line.Act a) old) → TellsMethods s (all_methods old)
    → OnOk r (TellsMethods s (all_methods new))
act_keeps (Ok x) s a old new h t =
    changed s old new (λ m. act_added a m.step >>= (λ s. Ok (record m { step = Some s }))) (act_keeps_names a) h t
act_keeps (Err e) s a old new h t = tt

-- a call that added the first line
pub head_keeps : {T : Type 0} (r : Result T (Or WitKind)) (s : BTreeSet Names) (old new : WitnessRead)
    → ChangesOr r new (with_line line.Head old) → TellsMethods s (all_methods old)
    → OnOk r (TellsMethods s (all_methods new))
head_keeps (Ok x) s old new h t = by old.begun refl h
  where
    by : (b : Bool) → old.begun ≡ b → cond b (added_behind line.Head old) (added_first line.Head old) ≡ Ok new
        → TellsMethods s (all_methods new)
    by true e k = absurd cc
    by false e k =
        let is : record old { begun = true } ≡ new = cc in
        subst (λ (r : WitnessRead). TellsMethods s (all_methods r)) is t
head_keeps (Err e) s old new h t = tt

-- a method that was begun
pub method_keeps : (s u : BTreeSet Names) (old new : WitnessRead) (class name ty : List ℕ)
    → Updates names_order s u ((class, name), ty) true
    → new ≡ record old { before = all_methods old; last = Some (method_begun class name ty) }
    → TellsMethods s (all_methods old) → TellsMethods u (all_methods new)
method_keeps s u old new class name ty up is t =
    subst (λ (r : WitnessRead). TellsMethods u (all_methods r)) (sym is)
    (method_put s u (all_methods old) (closed (method_begun class name ty)) up t)
