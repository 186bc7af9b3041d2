-- A table of names tells the names of the classes that were read.
use Rattle.std.proofs.Common.{◌≡◌, ◌≢◌, ℕ, Bool, true, false, cond, ◌||◌, List, [], ◌∷◌, ◌++◌, Option, Some, None}
use Rattle.std.proofs.Common.{Result, Ok, Err, refl, sym, ap, subst, ◌∙◌, inl, inr}
use Rattle.std.specs.Prelude.{OnOk}
use Rattle.std.specs.BTreeSet as sorted
use Rattle.std.specs.BTreeSet.{BTreeSet, Updates}
use Rattle.std.specs.Cmp.Lexicographic.{slice_cmp}
use Rattle.std.specs.List.{list_any}
use Rattle.std.specs.Option.{option_to_list}
use Rattle.std.specs.Ordering.{is_eq, nat_cmp}
use Rattle.std.proofs.lemmas.Bool.{cases_Bool}
use Rattle.std.proofs.lemmas.Map.Text.{is_eq-slice_cmp}
use Rattle.std.proofs.Math.Bool.{or-false}
use Rattle.jv_base.specs.Names.{is_text}
use Rattle.jv_base.specs.declared.outcome.Or.{Or}
use Rattle.jv_base.specs.declared.outcome.Or.TheVariants.{Fault, OutOfMemory}
use Rattle.jv_base.proofs.Equality.{text_Decides}
use Rattle.jv_base.proofs.Lists.{any_more}
use Rattle.text_lines.specs.bodies.Steps.{ChangesOr}
use Rattle.mapping_file.specs.MapReading.{with_line, all_classes, empty_class, in_last, with_field, with_method}
use Rattle.mapping_file.specs.bodies.NameTable.{TellsNames}
use Rattle.mapping_file.specs.declared.line.MapLine.TheVariants as line
use Rattle.mapping_file.specs.declared.mapping.MapClass.{MapClass}
use Rattle.mapping_file.specs.declared.mapping.MapField.{MapField}
use Rattle.mapping_file.specs.declared.mapping.MapKind.{MapKind}
use Rattle.mapping_file.specs.declared.mapping.MapMethod.{MapMethod}
use Rattle.mapping_file.specs.declared.names.ClassNames.{ClassNames}
use Rattle.mapping_file.specs.declared.reading.ClassesRead.{ClassesRead}

abbrev text_order : List ℕ → List ℕ → Rattle.std.specs.declared.cmp.Ordering.Ordering
text_order x y = slice_cmp nat_cmp x y

or_true : (b : Bool) → b || true ≡ true
or_true true = refl
or_true false = refl

-- one more name in a table, by a name of each class
pub name_put : (s n : BTreeSet (List ℕ)) (f : MapClass → List ℕ) (cs : List MapClass) (d : MapClass)
    → Updates (slice_cmp nat_cmp) s n (f d) true
    → ((q : List ℕ) → sorted.contains (slice_cmp nat_cmp) s q ≡ list_any (λ (c : MapClass). is_text q (f c)) cs)
    → (q : List ℕ)
    → sorted.contains (slice_cmp nat_cmp) n q ≡ list_any (λ (c : MapClass). is_text q (f c)) (cs ++ d ∷ [])
name_put s n f cs d u h q =
    elim (cases_Bool (is_text (f d) q)) [
      | inl same ↦ (let e : is_eq (slice_cmp nat_cmp (f d) q) ≡ true = is_eq-slice_cmp (f d) q ∙ same in
          let other : is_text q (f d) ≡ true = (text_Decides q (f d)).1 (sym ((text_Decides (f d) q).0 same)) in
          u.0 q ∙ rw e refl ∙ sym (any_more (λ (c : MapClass). is_text q (f c)) cs d
          ∙ ap (λ (b : Bool). list_any (λ (c : MapClass). is_text q (f c)) cs || b) other ∙ or_true _))
      | inr apart ↦ (let e : is_eq (slice_cmp nat_cmp (f d) q) ≡ false = is_eq-slice_cmp (f d) q ∙ apart in
          let other : is_text q (f d) ≡ false = not_same (is_text q (f d)) refl apart in
          u.0 q ∙ rw e (h q) ∙ sym (any_more (λ (c : MapClass). is_text q (f c)) cs d
          ∙ ap (λ (b : Bool). list_any (λ (c : MapClass). is_text q (f c)) cs || b) other ∙ or-false _))
    ]
  where
    not_same : (b : Bool) → is_text q (f d) ≡ b → is_text (f d) q ≡ false → b ≡ false
    not_same false e apart = refl
    not_same true e apart =
        let back : is_text (f d) q ≡ true = (text_Decides (f d) q).1 (sym ((text_Decides q (f d)).0 e)) in
        let k : false ≡ true = sym apart ∙ back in absurd cc

-- the last class with other members has the same names
last_same : (t : ClassNames) (before : List MapClass) (c d : MapClass) → d.old ≡ c.old → d.new ≡ c.new
    → TellsNames t (before ++ c ∷ []) → TellsNames t (before ++ d ∷ [])
last_same t before c d o n h = record {
  old = λ q. h.old q ∙ any_more (λ (x : MapClass). is_text q x.old) before c
      ∙ ap (λ (y : List ℕ). list_any (λ (x : MapClass). is_text q x.old) before || is_text q y) (sym o)
      ∙ sym (any_more (λ (x : MapClass). is_text q x.old) before d);
  new = λ q. h.new q ∙ any_more (λ (x : MapClass). is_text q x.new) before c
      ∙ ap (λ (y : List ℕ). list_any (λ (x : MapClass). is_text q x.new) before || is_text q y) (sym n)
      ∙ sym (any_more (λ (x : MapClass). is_text q x.new) before d);
}

field_names : (t : ClassNames) (before : List MapClass) (last : Option MapClass) (f : MapField) (s : ClassesRead)
    → in_last before last (with_field f) ≡ Ok s → TellsNames t (before ++ option_to_list last)
    → TellsNames t (all_classes s)
field_names t before None f s h k = absurd cc
field_names t before (Some c) f s h k =
    let is : record { before = before; last = Some (with_field f c) } ≡ s = cc in
    subst (λ (r : ClassesRead). TellsNames t (all_classes r)) is (last_same t before c (with_field f c) refl refl k)

method_names : (t : ClassNames) (before : List MapClass) (last : Option MapClass) (m : MapMethod) (s : ClassesRead)
    → in_last before last (with_method m) ≡ Ok s → TellsNames t (before ++ option_to_list last)
    → TellsNames t (all_classes s)
method_names t before None m s h k = absurd cc
method_names t before (Some c) m s h k =
    let is : record { before = before; last = Some (with_method m c) } ≡ s = cc in
    subst (λ (r : ClassesRead). TellsNames t (all_classes r)) is (last_same t before c (with_method m c) refl refl k)

-- a call that added a field
pub field_keeps : {T : Type 0} (r : Result T (Or MapKind)) (t : ClassNames) (f : MapField) (old new : ClassesRead)
    → ChangesOr r new (with_line (line.Field f) old) → TellsNames t (all_classes old)
    → OnOk r (TellsNames t (all_classes new))
field_keeps (Ok x) t f old new h k = field_names t old.before old.last f new h k
field_keeps (Err e) t f old new h k = tt

-- a call that added a method
pub method_keeps : {T : Type 0} (r : Result T (Or MapKind)) (t : ClassNames) (m : MapMethod) (old new : ClassesRead)
    → ChangesOr r new (with_line (line.Method m) old) → TellsNames t (all_classes old)
    → OnOk r (TellsNames t (all_classes new))
method_keeps (Ok x) t m old new h k = method_names t old.before old.last m new h k
method_keeps (Err e) t m old new h k = tt

-- names that were put one after the other
pub both_put : (t u : ClassNames) (cs : List MapClass) (d : MapClass)
    → Updates (slice_cmp nat_cmp) t.before u.before d.old true
    → Updates (slice_cmp nat_cmp) t.after u.after d.new true → TellsNames t cs → TellsNames u (cs ++ d ∷ [])
both_put t u cs d p q h = record {
  old = name_put t.before u.before (λ (c : MapClass). c.old) cs d p h.old;
  new = name_put t.after u.after (λ (c : MapClass). c.new) cs d q h.new;
}
