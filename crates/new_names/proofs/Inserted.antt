-- What tables find after a key got a value.
use Rattle.std.proofs.Common.{◌≡◌, ◌∙◌, Bool, cond, List, Some, Result, Ok, Err}
use Rattle.std.proofs.Common.{is_ok, sym, ap}
use Rattle.std.specs.Prelude.{OnOk, if◌then◌else◌}
use Rattle.std.specs.Bool.{Decides}
use Rattle.std.specs.Cmp.{decided}
use Rattle.std.specs.Map.{lookup}
use Rattle.indexmap.specs.IndexMap.{insert_entry}
use Rattle.jv_base.proofs.Equality.{and_Decides, text_Decides}
use Rattle.jv_base.proofs.Tests.{same_test}
use Rattle.key_table.proofs.Found.{found_inserted}
use Rattle.new_names.specs.NewNames.{NameAndType, is_same}

pub same_Decides : (a b : NameAndType) → Decides (is_same a b) (a ≡ b)
same_Decides a b = and_Decides _ _ (text_Decides a.0 b.0) (text_Decides a.1 b.1)
    (λ first second. (λ i. (first i, second i))) (λ e. ap (λ (k : NameAndType). k.0) e)
    (λ e. ap (λ (k : NameAndType). k.1) e)

pub either_way : {K : Type 0} (eq : K → K → Bool) → ((a b : K) → Decides (eq a b) (a ≡ b)) → (a b : K) → eq a b ≡ eq b a
either_way eq decides a b = same_test (eq a b) (eq b a) (λ e. (decides b a).1 (sym ((decides a b).0 e)))
    (λ e. (decides a b).1 (sym ((decides b a).0 e)))

module _ {K V : Type 0} (eq : K → K → Bool) (decides : (a b : K) → Decides (eq a b) (a ≡ b)) where
  pub lookup_inserted : (entries : List (K × V)) (k : K) (v : V) (asked : K)
      → lookup (eq asked) (insert_entry eq entries k v) ≡ cond (eq k asked) (Some v) (lookup (eq asked) entries)
  lookup_inserted entries k v asked = found_inserted eq (decided eq decides) entries k v asked
      ∙ ap (λ (b : Bool). cond b (Some v) (lookup (eq asked) entries)) (either_way eq decides asked k)

  -- the same where a copy of the key and of the value was put, if it was
  pub put_found : {T E : Type 0} (r : Result T E) (entries grown : List (K × V)) (k key : K) (v value : V)
      → grown ≡ (if is_ok r then insert_entry eq entries key value else entries) → key ≡ k → value ≡ v
      → OnOk r ((asked : K) → lookup (eq asked) grown ≡ cond (eq k asked) (Some v) (lookup (eq asked) entries))
  put_found (Ok x) entries grown k key v value put is_key is_value = λ asked.
      ap (lookup (eq asked)) (put ∙ ap (λ (x : K). insert_entry eq entries x value) is_key
      ∙ ap (insert_entry eq entries k) is_value)
      ∙ lookup_inserted entries k v asked
  put_found (Err e) entries grown k key v value put is_key is_value = tt
