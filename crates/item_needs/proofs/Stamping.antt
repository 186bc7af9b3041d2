-- What an item wants that wanted it before.
use Rattle.std.proofs.Common.{◌≡◌, ℕ, zero, suc, ◌+◌, ◌≤◌, ◌<◌, ◌||◌, Bool, true, false, List, [], ◌∷◌, ◌++◌, All}
use Rattle.std.proofs.Common.{Option, Some, None, IfSome, drop, length, set, slice_get, take, get_or}
use Rattle.std.proofs.Common.{refl, sym, ap, subst, ◌∙◌, arith, ◌⊎◌, inl, inr, append-nil}
use Rattle.std.specs.List.{flat_map}
use Rattle.std.proofs.Math.Bool.{or-true}
use Rattle.std.proofs.lemmas.List.{take-append-drop}
use Rattle.std.proofs.lemmas.List.Concat.{flat_map-append}
use Rattle.std.proofs.lemmas.List.Elements.{All-get_or, All-set}
use Rattle.std.proofs.lemmas.Option.{get_or_from_slice_get, slice_get_within}
use Rattle.jv_base.proofs.Options.{one_value}
use Rattle.class_model.specs.declared.class.Class.{Class}
use Rattle.require_sys.specs.Requires.{Item, numbers}
use Rattle.item_needs.specs.bodies.Known.{IsRow, IsTextRow, Remembers}
use Rattle.item_numbers.specs.bodies.Wanting.{HasSame, Wanted, has, wanting}
use Rattle.item_needs.specs.declared.known.Row.{Row}
use Rattle.item_needs.specs.declared.known.TextRow.{TextRow}
use Rattle.item_needs.proofs.Remembering.{none_wrong}
use Rattle.item_needs.proofs.SharedFrames.{has-append, same_in_turn}
use Rattle.require_sys.proofs.Steps.{more_of}

has_front : (x : ℕ) (xs ys : List ℕ) → has x xs ≡ true → has x (xs ++ ys) ≡ true
has_front x xs ys h = has-append x xs ys ∙ ap (λ b. b || has x ys) h

has_back : (x : ℕ) (xs ys : List ℕ) → has x ys ≡ true → has x (xs ++ ys) ≡ true
has_back x xs ys h = has-append x xs ys ∙ ap (λ b. has x xs || b) h ∙ or-true (has x xs)

has_behind : (x start : ℕ) (xs : List ℕ) → has x (drop start xs) ≡ true → has x xs ≡ true
has_behind x start xs h =
    ap (has x) (sym (take-append-drop start xs)) ∙ has_back x (take start xs) (drop start xs) h

-- an element of a list of which one was replaced is that one or was there before
put_or_before : {X : Type 0} (xs : List X) (i j : ℕ) (put y : X) → slice_get (set xs i put) j ≡ Some y
    → (put ≡ y) ⊎ (slice_get xs j ≡ Some y)
put_or_before [] i j put y h = inr h
put_or_before (x ∷ xs) zero zero put y h = inl (one_value (Some put) put y refl h)
put_or_before (x ∷ xs) zero (suc j) put y h = inr h
put_or_before (x ∷ xs) (suc i) zero put y h = inr h
put_or_before (x ∷ xs) (suc i) (suc j) put y h = put_or_before xs i j put y h

here_or_other : {X : Type 0} (xs : List X) (i j : ℕ) (put : X)
    → (j ≡ i) ⊎ (slice_get (set xs i put) j ≡ slice_get xs j)
here_or_other [] i j put = inr refl
here_or_other (x ∷ xs) zero zero put = inl refl
here_or_other (x ∷ xs) zero (suc j) put = inr refl
here_or_other (x ∷ xs) (suc i) zero put = inr refl
here_or_other (x ∷ xs) (suc i) (suc j) put = by (here_or_other xs i j put)
  where
    by : (j ≡ i) ⊎ (slice_get (set xs i put) j ≡ slice_get xs j)
        → (suc j ≡ suc i) ⊎ (slice_get (set xs i put) j ≡ slice_get xs j)
    by (inl e) = inl (ap suc e)
    by (inr e) = inr e

module _ (classes : List Class) (texts : List (Option TextRow)) (rows : List (Option Row)) (stamps : List ℕ)
    (stamp : ℕ) where
  -- nothing is remembered at first
  pub remembers_nothing : (gathered : List ℕ) → All (λ o. o ≡ None) texts → All (λ o. o ≡ None) rows
      → All (λ s. s ≤ stamp) stamps → Remembers classes texts rows stamps stamp gathered
  remembers_nothing gathered no_texts no_rows before = record {
    of_texts = none_wrong _ texts no_texts;
    of_rows = none_wrong _ rows no_rows;
    before = before;
    there = λ place row at found. absurd (let h = one_value (slice_get rows place) (Some row) None found
        (all_none place (Some row) found) in cc);
  }
    where
      all_none : (place : ℕ) (o : Option Row) → slice_get rows place ≡ Some o → slice_get rows place ≡ Some None
      all_none place o found =
          found ∙ ap Some (sym (get_or_from_slice_get rows place o o found)
          ∙ All-get_or (λ o. o ≡ None) rows place o (slice_get_within rows place o found) no_rows)

  module _ (gathered : List ℕ) (is : Remembers classes texts rows stamps stamp gathered) where
    -- more numbers are gathered
    pub more_gathered : (more later : List ℕ) → later ≡ gathered ++ more
        → Remembers classes texts rows stamps stamp later
    more_gathered more later put = record {
      of_texts = is.of_texts;
      of_rows = is.of_rows;
      before = is.before;
      there = λ place row at found x h. ap (has x) put ∙ has_front x gathered more (is.there place row at found x h);
    }

    pub same_gathered : (later : List ℕ) → later ≡ gathered → Remembers classes texts rows stamps stamp later
    same_gathered later e = subst (λ t. Remembers classes texts rows stamps stamp t) (sym e) is

    -- other texts are remembered
    pub texts_put : (others : List (Option TextRow)) → All (λ o. IfSome o (IsTextRow classes)) others
        → Remembers classes others rows stamps stamp gathered
    texts_put others are = record {
      of_texts = are;
      of_rows = is.of_rows;
      before = is.before;
      there = is.there;
    }

    -- a reference is remembered whose numbers stand behind others
    pub rows_put : (place start : ℕ) (new : Row) → new.numbers ≡ drop start gathered
        → All (λ o. IfSome o (IsRow classes)) (set rows place (Some new))
        → Remembers classes texts (set rows place (Some new)) stamps stamp gathered
    rows_put place start new copied are = record {
      of_texts = is.of_texts;
      of_rows = are;
      before = is.before;
      there = λ p row at found x h. by p row at x h (put_or_before rows place p (Some new) (Some row) found);
    }
      where
        by : (p : ℕ) (row : Row) → slice_get stamps p ≡ Some stamp → (x : ℕ) → has x row.numbers ≡ true
            → (Some new ≡ Some row) ⊎ (slice_get rows p ≡ Some (Some row)) → has x gathered ≡ true
        by p row at x h (inl e) =
            has_behind x start gathered (ap (has x) (sym copied)
            ∙ ap (λ (r : Row). has x r.numbers) (one_value (Some row) new row (sym e) refl) ∙ h)
        by p row at x h (inr found) = is.there p row at found x h

    -- a reference is wanted by the item
    pub stamp_put : (place : ℕ) (row : Row) (later : List ℕ) → slice_get rows place ≡ Some (Some row)
        → later ≡ gathered ++ row.numbers → Remembers classes texts rows (set stamps place stamp) stamp later
    stamp_put place row later known put = record {
      of_texts = is.of_texts;
      of_rows = is.of_rows;
      before = All-set (λ s. s ≤ stamp) stamps place stamp (omega arith) is.before;
      there = λ p other at found x h. ap (has x) put ∙ by p other at found x h (here_or_other stamps place p stamp);
    }
      where
        by : (p : ℕ) (other : Row) → slice_get (set stamps place stamp) p ≡ Some stamp
            → slice_get rows p ≡ Some (Some other) → (x : ℕ) → has x other.numbers ≡ true
            → (p ≡ place) ⊎ (slice_get (set stamps place stamp) p ≡ slice_get stamps p)
            → has x (gathered ++ row.numbers) ≡ true
        by p other at found x h (inl e) =
            let one : Some other ≡ Some row =
            one_value (slice_get rows p) (Some other) (Some row) found (ap (slice_get rows) e ∙ known) in
            has_back x gathered row.numbers
            (ap (λ (r : Row). has x r.numbers) (one_value (Some row) row other refl (sym one)) ∙ h)
        by p other at found x h (inr e) =
            has_front x gathered row.numbers (is.there p other (sym e ∙ at) found x h)

    -- nothing is gathered of the next item
    pub next_item : (next : ℕ) (none : List ℕ) → next ≡ stamp + 1 → Remembers classes texts rows stamps next none
    next_item next none e = record {
      of_texts = is.of_texts;
      of_rows = is.of_rows;
      before = λ k d within. let low = is.before k d within in omega (arith, low, e);
      there = λ place row at found x h. absurd (let low = below place next at in omega (arith, low, e));
    }
      where
        below : (place s : ℕ) → slice_get stamps place ≡ Some s → s ≤ stamp
        below place s at =
            subst (λ (t : ℕ). t ≤ stamp) (get_or_from_slice_get stamps place s s at)
            (All-get_or (λ t. t ≤ stamp) stamps place s (slice_get_within stamps place s at) is.before)

-- what is wanted already
pub already_wanted : (w : Wanted) (items : List Item)
    → ((x : ℕ) → has x (numbers w.classes items) ≡ true → has x w.numbers ≡ true) → HasSame w (wanting w items)
already_wanted w items there = record {
  classes = refl;
  numbers = λ x. sym (has-append x w.numbers (numbers w.classes items)
      ∙ by (has x w.numbers) (has x (numbers w.classes items)) (there x));
}
  where
    by : (a b : Bool) → (b ≡ true → a ≡ true) → (a || b) ≡ a
    by true b h = refl
    by false true h = sym (h refl)
    by false false h = refl

-- one more element of a list
pub more_same : {X : Type 0} (f : List Class → X → List Item) (xs : List X) (i : ℕ) (x : X) (w v u : Wanted)
    → i < length xs → x ≡ get_or xs i x → HasSame v (wanting w (flat_map (f w.classes) (take i xs)))
    → HasSame u (wanting v (f v.classes x)) → HasSame u (wanting w (flat_map (f w.classes) (take (i + 1) xs)))
more_same f xs i x w v u lt at so_far one =
    subst (λ (t : List Item). HasSame u (wanting w t))
    (ap (λ t. flat_map (f w.classes) (take i xs) ++ t) (sym (append-nil (f w.classes x)))
    ∙ sym (flat_map-append (f w.classes) (take i xs) (x ∷ []))
    ∙ ap (flat_map (f w.classes)) (sym (more_of xs i x lt at)))
    (same_in_turn w v u (flat_map (f w.classes) (take i xs)) (λ cs. f cs x) so_far one)
