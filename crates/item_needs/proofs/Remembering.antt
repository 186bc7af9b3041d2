-- What names, descriptors and references want, as it is remembered.
use Rattle.std.proofs.Common.{◌≡◌, ℕ, ◌≤◌, List, [], ◌∷◌, ◌++◌, All, Option, Some, None, IfSome}
use Rattle.std.proofs.Common.{Result, Ok, Err, drop, length, set, slice_get, sym, ap, subst, refl, ◌∙◌, arith}
use Rattle.std.specs.Prelude.{OnOk}
use Rattle.std.proofs.lemmas.List.Elements.{All-get_or, All-set}
use Rattle.std.proofs.lemmas.Option.{get_or_from_slice_get, slice_get_within}
use Rattle.std.proofs.lemmas.List.{drop_at}
use Rattle.class_model.specs.declared.class.Class.{Class}
use Rattle.class_model.specs.declared.op.MemberRef.{MemberRef}
use Rattle.require_sys.specs.Requires.{Item, numbers}
use Rattle.item_needs.specs.bodies.Known.{IsBehind, IsFor, IsRow, IsTextFor, IsTextRow, ref_wants, text_wants}
use Rattle.item_numbers.specs.bodies.Wanting.{Wanted, wanting}
use Rattle.item_needs.specs.declared.known.RefKind.{RefKind}
use Rattle.item_needs.specs.declared.known.Row.{Row}
use Rattle.item_needs.specs.declared.known.TextKind.{TextKind}
use Rattle.item_needs.specs.declared.known.TextRow.{TextRow}

-- no row is there
pub none_wrong : {X : Type 0} (P : X → Type 0) (rows : List (Option X)) → All (λ o. o ≡ None) rows
    → All (λ o. IfSome o P) rows
none_wrong P rows none k d within =
    subst (λ o. IfSome o P) (sym (none k d within)) tt

found_there : {X : Type 0} (P : X → Type 0) (rows : List (Option X)) (place : ℕ) (row : X) → All (λ o. IfSome o P) rows
    → slice_get rows place ≡ Some (Some row) → P row
found_there P rows place row all at =
    subst (λ o. IfSome o P) (get_or_from_slice_get rows place (Some row) (Some row) at)
    (All-get_or (λ o. IfSome o P) rows place (Some row) (slice_get_within rows place (Some row) at) all)

-- a row that was found has what its text wants
pub found_text : (classes : List Class) (rows : List (Option TextRow)) (place : ℕ) (k : TextKind) (t : List ℕ)
    (row : TextRow) → All (λ o. IfSome o (IsTextRow classes)) rows → slice_get rows place ≡ Some (Some row)
    → IsTextFor k t row → row.numbers ≡ numbers classes (text_wants classes k t)
found_text classes rows place k t row all at is =
    found_there (IsTextRow classes) rows place row all at
    ∙ ap (λ (j : TextKind). numbers classes (text_wants classes j row.text)) is.kind
    ∙ ap (λ (u : List ℕ). numbers classes (text_wants classes k u)) is.text

-- a row that was found has what its reference wants
pub found_row : (classes : List Class) (rows : List (Option Row)) (place n : ℕ) (k : RefKind) (r : MemberRef)
    (row : Row) → All (λ o. IfSome o (IsRow classes)) rows → slice_get rows place ≡ Some (Some row) → IsFor n k r row
    → row.numbers ≡ numbers classes (ref_wants classes n k r)
found_row classes rows place n k r row all at is =
    found_there (IsRow classes) rows place row all at
    ∙ ap (λ (m : ℕ). numbers classes (ref_wants classes m row.kind row.reference)) is.from
    ∙ ap (λ (j : RefKind). numbers classes (ref_wants classes n j row.reference)) is.kind
    ∙ ap (λ (q : MemberRef). numbers classes (ref_wants classes n k q)) is.reference

-- some more that was found
pub found_more : (w v : Wanted) (found : List ℕ) (f : List Class → List Item) → found ≡ numbers w.classes (f w.classes)
    → v ≡ record { classes = w.classes; numbers = w.numbers ++ found } → v ≡ wanting w (f w.classes)
found_more w v found f is put =
    put ∙ ap (λ (t : List ℕ). record { classes = w.classes; numbers = w.numbers ++ t }) is

front_short : (xs ys : List ℕ) → length xs ≤ length (xs ++ ys)
front_short [] ys = omega arith
front_short (x ∷ xs) ys = let h = front_short xs ys in omega (arith, h)

-- what was wanted last stands behind what was wanted before
pub last_wanted : (w v : Wanted) (n : ℕ) (f : List Class → List Item) → n ≡ length w.numbers
    → v ≡ wanting w (f w.classes)
    → IsBehind n v.numbers (numbers v.classes (f v.classes))
last_wanted w v n f count is =
    subst (λ (u : Wanted). IsBehind n u.numbers (numbers u.classes (f u.classes))) (sym is)
    (subst (λ (m : ℕ). IsBehind m (w.numbers ++ numbers w.classes (f w.classes)) (numbers w.classes (f w.classes)))
    (sym count) (record {
      within = front_short w.numbers (numbers w.classes (f w.classes));
      are = drop_at w.numbers (numbers w.classes (f w.classes)) (length w.numbers) refl;
    }))

-- nothing more was wanted
pub kept_then : {E : Type 0} (r : Result (Unit {0}) E) (w v u : Wanted) (items : List Item) → v ≡ wanting w items
    → OnOk r (u ≡ v) → OnOk r (u ≡ wanting w items)
kept_then (Ok x) w v u items is same = same ∙ is
kept_then (Err e) w v u items is same = tt

-- one more text is remembered
pub text_put : (classes : List Class) (rows : List (Option TextRow)) (place start : ℕ) (k : TextKind) (t own : List ℕ)
    (all given found : List ℕ) → All (λ o. IfSome o (IsTextRow classes)) rows
    → IsBehind start all (numbers classes (text_wants classes k t)) → given ≡ all → found ≡ drop start given → own ≡ t
    → All (λ o. IfSome o (IsTextRow classes)) (set rows place (Some (record { kind = k; text = own; numbers = found })))
text_put classes rows place start k t own all given found are behind one copied same =
    All-set (λ o. IfSome o (IsTextRow classes)) rows place (Some (record { kind = k; text = own; numbers = found }))
    (copied ∙ ap (drop start) one ∙ behind.are
    ∙ ap (λ (u : List ℕ). numbers classes (text_wants classes k u)) (sym same))
    are

-- one more reference is remembered
pub row_put : (classes : List Class) (rows : List (Option Row)) (place start n : ℕ) (k : RefKind) (r own : MemberRef)
    (all given found : List ℕ) → All (λ o. IfSome o (IsRow classes)) rows
    → IsBehind start all (numbers classes (ref_wants classes n k r)) → given ≡ all → found ≡ drop start given → own ≡ r
    → All (λ o. IfSome o (IsRow classes))
    (set rows place (Some (record { from = n; kind = k; reference = own; numbers = found })))
row_put classes rows place start n k r own all given found are behind one copied same =
    All-set (λ o. IfSome o (IsRow classes)) rows place
    (Some (record { from = n; kind = k; reference = own; numbers = found }))
    (copied ∙ ap (drop start) one ∙ behind.are
    ∙ ap (λ (q : MemberRef). numbers classes (ref_wants classes n k q)) (sym same))
    are
