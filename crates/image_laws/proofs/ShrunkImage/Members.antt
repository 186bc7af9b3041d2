-- The members of a class of which the marked ones are left.
use Rattle.std.proofs.Common.{◌≡◌, ℕ, ◌+◌, Bool, true, false, cond, List, ◌++◌, length, map, Option, Some}
use Rattle.std.proofs.Common.{None, slice_get, refl, sym, ap, ◌∙◌, arith}
use Rattle.std.proofs.lemmas.List.{length-map}
use Rattle.std.specs.List.{position}
use Rattle.std.specs.Option.{option_and_then, option_map}
use Rattle.class_model.specs.declared.class.Class.{Class}
use Rattle.class_model.specs.declared.class.Field.{Field}
use Rattle.class_model.specs.declared.class.Method.{Method}
use Rattle.class_pool.specs.Found.{MemberRow, field_row, method_row}
use Rattle.class_pool.specs.Members.{is_field, is_method, member_named, or_method}
use Rattle.class_pool.specs.Distinct.{MembersDiffer}
use Rattle.member_shrink.specs.Shrunk.{chosen, is_marked, with_marked_members}
use Rattle.image_laws.specs.ShrunkImage.Keeping.{rank}
use Rattle.image_laws.proofs.ShrunkImage.Kept.{as_filter, kept_append, kept_at, kept_of, kept_position, length_kept}
use Rattle.image_laws.proofs.ShrunkImage.Kept.{map_kept, rank_sum}

module _ (marks : List Bool) where
  -- the test of items
  abbrev pub marked : ℕ → Bool
  marked = is_marked marks

  -- the elements chosen, step by step
  chosen_is : {A : Type 0} (n : ℕ) (xs : List A) → chosen marks n xs ≡ kept_of marked (λ k x. x) n xs
  chosen_is n xs = as_filter marked (λ k x. x) n xs

  module _ (item : ℕ) (c : Class) where
    -- what is left of the class with this item
    abbrev pub left : Class
    left = with_marked_members marks item c

    -- what is told of the members of a class, fields first
    abbrev pub rows : Class → List MemberRow
    rows d = map field_row d.fields ++ map method_row d.methods

    -- whatever is told of each member, what is left has it of the marked ones
    pub told_left : {A : Type 0} (g : Field → A) (h : Method → A)
        → map g left.fields ++ map h left.methods
        ≡ kept_of marked (λ k x. x) (item + 1) (map g c.fields ++ map h c.methods)
    told_left {A} g h =
        ap (λ (t : List Field). map g t ++ map h left.methods) (chosen_is (item + 1) c.fields)
        ∙ ap (λ (t : List Method). map g (kept_of marked (λ k x. x) (item + 1) c.fields) ++ map h t)
        (chosen_is (item + 1 + length c.fields) c.methods)
        ∙ ap (λ (t : List A). t ++ map h (kept_of marked (λ k x. x) (item + 1 + length c.fields) c.methods))
        (map_kept marked g (item + 1) c.fields)
        ∙ ap (λ (t : List A). kept_of marked (λ k x. x) (item + 1) (map g c.fields) ++ t)
        (map_kept marked h (item + 1 + length c.fields) c.methods)
        ∙ ap (λ (k : ℕ). kept_of marked (λ k x. x) (item + 1) (map g c.fields)
        ++ kept_of marked (λ k x. x) (item + 1 + k) (map h c.methods)) (sym (length-map c.fields g))
        ∙ sym (kept_append marked (λ k x. x) (item + 1) (map g c.fields) (map h c.methods))

    pub rows_left : rows left ≡ kept_of marked (λ k x. x) (item + 1) (rows c)
    rows_left = told_left field_row method_row

    itself : {A : Type 0} (o : Option A) → option_map (λ x. x) o ≡ o
    itself None = refl
    itself (Some x) = refl

    -- a marked member has there what it had
    pub told_at : {A : Type 0} (g : Field → A) (h : Method → A) (k : ℕ) → marked (item + 1 + k) ≡ true
        → slice_get (map g left.fields ++ map h left.methods) (rank marked (item + 1) k)
        ≡ slice_get (map g c.fields ++ map h c.methods) k
    told_at {A} g h k is = ap (λ (t : List A). slice_get t (rank marked (item + 1) k)) (told_left g h)
        ∙ kept_at marked (λ k x. x) (item + 1) (map g c.fields ++ map h c.methods) k is
        ∙ itself (slice_get (map g c.fields ++ map h c.methods) k)

    -- so its row is the same
    pub row_left : (k : ℕ) → marked (item + 1 + k) ≡ true
        → slice_get (rows left) (rank marked (item + 1) k) ≡ slice_get (rows c) k
    row_left k h = told_at field_row method_row k h

    abbrev if_marked : ℕ → ℕ → Option ℕ
    if_marked first k = cond (marked (first + k)) (Some (rank marked first k)) None

    -- a member is found by its name and descriptor where it is marked
    pub named_left : MembersDiffer c → (name descriptor : List ℕ)
        → member_named left name descriptor ≡ option_and_then (if_marked (item + 1)) (member_named c name descriptor)
    named_left differ name descriptor =
        ap (or_method left name descriptor) fields_found
        ∙ by (position (is_field name descriptor) c.fields) refl
      where
        fields_found : position (is_field name descriptor) left.fields
            ≡ option_and_then (if_marked (item + 1)) (position (is_field name descriptor) c.fields)
        fields_found = ap (position (is_field name descriptor)) (chosen_is (item + 1) c.fields)
            ∙ kept_position marked (λ k x. x) (is_field name descriptor) (is_field name descriptor) (λ k x. refl)
            (item + 1) c.fields (λ i is gone. differ.fields name descriptor)

        methods_found : position (is_method name descriptor) left.methods
            ≡ option_and_then (if_marked (item + 1 + length c.fields)) (position (is_method name descriptor) c.methods)
        methods_found = ap (position (is_method name descriptor)) (chosen_is (item + 1 + length c.fields) c.methods)
            ∙ kept_position marked (λ k x. x) (is_method name descriptor) (is_method name descriptor) (λ k x. refl)
            (item + 1 + length c.fields) c.methods (λ i is gone. differ.methods name descriptor)

        count : length left.fields ≡ rank marked (item + 1) (length c.fields)
        count = ap (λ (t : List Field). length t) (chosen_is (item + 1) c.fields)
            ∙ length_kept marked (λ k x. x) (item + 1) c.fields

        method : (o : Option ℕ)
            → option_map (λ n. length left.fields + n) (option_and_then (if_marked (item + 1 + length c.fields)) o)
            ≡ option_and_then (if_marked (item + 1)) (option_map (λ n. length c.fields + n) o)
        method None = refl
        method (Some j) =
            let e : item + 1 + length c.fields + j ≡ item + 1 + (length c.fields + j) = omega arith in
            at (marked (item + 1 + length c.fields + j))
            ∙ ap (λ (t : Bool). cond t (Some (rank marked (item + 1) (length c.fields + j))) None) (ap marked e)
          where
            at : (b : Bool) → option_map (λ n. length left.fields + n)
                (cond b (Some (rank marked (item + 1 + length c.fields) j)) None)
                ≡ cond b (Some (rank marked (item + 1) (length c.fields + j))) None
            at true = ap (λ (k : ℕ). Some (k + rank marked (item + 1 + length c.fields) j)) count
                ∙ ap (λ (k : ℕ). Some k) (sym (rank_sum marked (item + 1) (length c.fields) j))
            at false = refl

        by : (o : Option ℕ) → position (is_field name descriptor) c.fields ≡ o
            → or_method left name descriptor (option_and_then (if_marked (item + 1)) o)
            ≡ option_and_then (if_marked (item + 1)) (or_method c name descriptor o)
        by None e = ap (option_map (λ n. length left.fields + n)) methods_found
            ∙ method (position (is_method name descriptor) c.methods)
        by (Some k) e = at (marked (item + 1 + k))
          where
            at : (b : Bool) → or_method left name descriptor (cond b (Some (rank marked (item + 1) k)) None)
                ≡ cond b (Some (rank marked (item + 1) k)) None
            at true = refl
            at false = ap (option_map (λ n. length left.fields + n)) (methods_found
                ∙ ap (option_and_then (if_marked (item + 1 + length c.fields))) (differ.apart name descriptor k e))
