-- Whether items have lines, as one list: it is the list of marks.
use Rattle.std.proofs.Common.{◌≡◌, ◌⊎◌, inl, inr, ◌<◌, ◌≤◌, ◌-◌, ℕ, zero, suc, ◌+◌, Bool, true, false, List, [], ◌∷◌}
use Rattle.std.proofs.Common.{length, map, Option, Some, take, slice_get, refl, sym, ap, ◌∙◌, arith, length-append}
use Rattle.std.specs.Prelude.{is_some}
use Rattle.std.proofs.lemmas.Bool.{cases_lt}
use Rattle.std.proofs.lemmas.List.{get_or_default, length-map, same_lists}
use Rattle.std.proofs.lemmas.List.Sums.{sum_by-cons}
use Rattle.jv_base.specs.Types.{method_text}
use Rattle.jv_base.proofs.Lists.{found_at}
use Rattle.class_model.specs.declared.class.Class.{Class}
use Rattle.class_model.specs.declared.class.Field.{Field}
use Rattle.class_model.specs.declared.class.Method.{Method}
use Rattle.class_pool.specs.Count.{item_count, items_of}
use Rattle.class_pool.specs.Items.{class_item}
use Rattle.member_shrink.specs.Shrunk.{is_marked}
use Rattle.mapping_file.specs.declared.mapping.Mapping.{Mapping}
use Rattle.class_rename.specs.Names.{Names}
use Rattle.new_names.specs.NewNames.{names_given, new_class, new_field, new_method}
use Rattle.pair_clauses.specs.Closing.{lined_in, lined_items}
use Rattle.pair_checker.specs.Clauses.{given_names}
use Rattle.pair_laws.proofs.PairSame.Lined.{class_lined, field_lined, method_lined}
use Rattle.pair_laws.specs.OwnLines.Laws.{name_if}

-- an item is that of a class or a member of it
pub record ItemAt (classes : List Class) (item : ℕ) : Type 0 where
  pub n : ℕ
  pub class : Class
  pub at : slice_get classes n ≡ Some class
  pub index : ℕ
  pub low : index < items_of class
  pub is : item ≡ class_item classes n + index

pub item_at : (classes : List Class) (item : ℕ) → item < item_count classes → ItemAt classes item
item_at [] item low = absurd (omega (arith, low))
item_at (c ∷ cs) item low = by (cases_lt item (items_of c)) (λ i within. item_at cs i within)
  where
    sum : item_count (c ∷ cs) ≡ items_of c + item_count cs
    sum = sum_by-cons items_of c cs

    by : (item < items_of c) ⊎ (items_of c ≤ item) → ((i : ℕ) → i < item_count cs → ItemAt cs i)
        → ItemAt (c ∷ cs) item
    by (inl here) others = record { n = 0; class = c; at = refl; index = item; low = here; is = omega arith }
    by (inr behind) others =
        let rest = others (item - items_of c) (omega (arith, low, behind, sum)) in
        let place = rest.is in
        let front = sum_by-cons items_of c (take rest.n cs) in
        record {
          n = suc rest.n;
          class = rest.class;
          at = rest.at;
          index = rest.index;
          low = rest.low;
          is = omega (arith, behind, place, front);
        }

-- as many as there are items
lined_count : (mapping : Mapping) (classes : List Class)
    → length (lined_items (given_names mapping classes)) ≡ item_count classes
lined_count mapping [] = refl
lined_count mapping (c ∷ cs) =
    let given = names_given mapping c in
    let fields = length-map given.fields is_some in
    let methods = length-map given.methods is_some in
    let all_fields = length-map c.fields (new_field mapping c) in
    let all_methods = length-map c.methods (new_method mapping c) in
    let both = length-append (map is_some given.fields) (map is_some given.methods) in
    let more = length-append (lined_in given) (lined_items (given_names mapping cs)) in
    let rest = lined_count mapping cs in
    let sum = sum_by-cons items_of c cs in
    omega (arith, fields, methods, all_fields, all_methods, both, more, rest, sum)

-- a name is there where it is given
pub given_if : (b : Bool) (new : List ℕ) (o : Option (List ℕ)) → o ≡ name_if b new → is_some o ≡ b
given_if true new o is = ap is_some is
given_if false new o is = ap is_some is

-- where the mapping tells the new name of what is marked alone
module _ (names : Names) (mapping : Mapping) (classes : List Class) (marks : List Bool)
    (class : (n : ℕ) (c : Class) → slice_get classes n ≡ Some c
    → new_class mapping c.name ≡ name_if (is_marked marks (class_item classes n)) (names.class c.name))
    (field : (n : ℕ) (c : Class) → slice_get classes n ≡ Some c → (k : ℕ) (x : Field) → slice_get c.fields k ≡ Some x
    → new_field mapping c x ≡ name_if (is_marked marks (class_item classes n + 1 + k)) (names.field x.name))
    (method : (n : ℕ) (c : Class) → slice_get classes n ≡ Some c → (k : ℕ) (x : Method)
    → slice_get c.methods k ≡ Some x
    → new_method mapping c x ≡ name_if (is_marked marks (class_item classes n + 1 + (length c.fields + k)))
    (names.method x.name (method_text x.ty))) where
  abbrev lined : List Bool
  lined = lined_items (given_names mapping classes)

  -- each item has a line exactly if it is marked
  same_item : (item : ℕ) → ItemAt classes item → is_marked lined item ≡ is_marked marks item
  same_item item i = ap (is_marked lined) i.is ∙ by i.index i.low ∙ sym (ap (is_marked marks) i.is)
    where
      start : class_item classes i.n + 0 ≡ class_item classes i.n
      start = omega arith

      in_class : (k : ℕ) → class_item classes i.n + suc k ≡ class_item classes i.n + 1 + k
      in_class k = omega arith

      told : (a b : ℕ) → a ≡ b → is_marked lined b ≡ is_marked marks b → is_marked lined a ≡ is_marked marks a
      told a b same h = ap (is_marked lined) same ∙ h ∙ sym (ap (is_marked marks) same)

      a_field : (k : ℕ) → k < length i.class.fields
          → is_marked lined (class_item classes i.n + 1 + k) ≡ is_marked marks (class_item classes i.n + 1 + k)
      a_field k low =
          let x = found_at i.class.fields k low in
          field_lined mapping classes i.n i.class i.at k x.0 x.1
          ∙ given_if (is_marked marks (class_item classes i.n + 1 + k)) (names.field x.0.name)
          (new_field mapping i.class x.0) (field i.n i.class i.at k x.0 x.1)

      a_method : (k : ℕ) → k < length i.class.methods
          → is_marked lined (class_item classes i.n + 1 + (length i.class.fields + k))
          ≡ is_marked marks (class_item classes i.n + 1 + (length i.class.fields + k))
      a_method k low =
          let x = found_at i.class.methods k low in
          method_lined mapping classes i.n i.class i.at k x.0 x.1
          ∙ given_if (is_marked marks (class_item classes i.n + 1 + (length i.class.fields + k)))
          (names.method x.0.name (method_text x.0.ty)) (new_method mapping i.class x.0)
          (method i.n i.class i.at k x.0 x.1)

      a_member : (k : ℕ) → suc k < items_of i.class
          → is_marked lined (class_item classes i.n + 1 + k) ≡ is_marked marks (class_item classes i.n + 1 + k)
      a_member k low = on (cases_lt k (length i.class.fields))
        where
          on : (k < length i.class.fields) ⊎ (length i.class.fields ≤ k)
              → is_marked lined (class_item classes i.n + 1 + k) ≡ is_marked marks (class_item classes i.n + 1 + k)
          on (inl here) = a_field k here
          on (inr behind) = told (class_item classes i.n + 1 + k)
              (class_item classes i.n + 1 + (length i.class.fields + (k - length i.class.fields)))
              (omega (arith, behind)) (a_method (k - length i.class.fields) (omega (arith, low, behind)))

      by : (k : ℕ) → k < items_of i.class
          → is_marked lined (class_item classes i.n + k) ≡ is_marked marks (class_item classes i.n + k)
      by zero low = told (class_item classes i.n + 0) (class_item classes i.n) start
          (class_lined mapping classes i.n i.class i.at
          ∙ given_if (is_marked marks (class_item classes i.n)) (names.class i.class.name)
          (new_class mapping i.class.name) (class i.n i.class i.at))
      by (suc k) low = told (class_item classes i.n + suc k) (class_item classes i.n + 1 + k) (in_class k)
          (a_member k low)

  -- so the list of lines is the list of marks
  pub lined_marks : length marks ≡ item_count classes → lined ≡ marks
  lined_marks count = same_lists lined marks (lined_count mapping classes ∙ sym count)
      (λ k d low.
      let long = lined_count mapping classes in
      get_or_default lined k d false low
      ∙ same_item k (item_at classes k (omega (arith, low, long)))
      ∙ get_or_default marks k false d (omega (arith, low, long, count)))
