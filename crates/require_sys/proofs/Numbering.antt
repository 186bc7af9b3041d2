-- The items of classes and members by their numbers.
use Rattle.std.proofs.Common.{◌≡◌, ℕ, ◌+◌, ◌<◌, ◌≤◌, ◌⊎◌, inl, inr, List, [], ◌∷◌, ◌++◌, length}
use Rattle.std.proofs.Common.{get_or, map, slice_get, Option, Some, None, All, refl, sym, ap, subst, ◌∙◌, arith}
use Rattle.std.proofs.Common.{length-append}
use Rattle.std.specs.Option.{option_map_or}
use Rattle.std.proofs.Math.Seq.{get_or-append_seam}
use Rattle.std.proofs.lemmas.Bool.{cases_lt}
use Rattle.std.proofs.lemmas.List.{get_or_append_left, length-map}
use Rattle.std.proofs.lemmas.Option.{slice_get_within, get_or_from_slice_get}
use Rattle.std.specs.List.{enumerate_from}
use Rattle.std.proofs.lemmas.List.FromFn.{length-enumerate_from}
use Rattle.class_model.specs.declared.class.Class.{Class}
use Rattle.class_model.specs.declared.class.Field.{Field}
use Rattle.class_model.specs.declared.class.Method.{Method}
use Rattle.class_pool.specs.Count.{items_of, item_count}
use Rattle.class_pool.specs.Found.{field_row, IsMember, method_row, rows_in}
use Rattle.class_pool.specs.declared.id.ClassId.TheVariants.{Prog}
use Rattle.class_pool.specs.Items.{class_item}
use Rattle.require_sys.specs.bodies.Starts.{AreStarts}
use Rattle.require_sys.specs.Requires.{class_needs, field_wants, method_wants, needs_of}
use Rattle.require_sys.specs.declared.kept.KeptByRules.{KeptByRules}
use Rattle.class_pool.proofs.ToldMembers.{rows_counted}
use Rattle.class_pool.proofs.Counting.{class_item-next, class_item-le}

below_in : (classes : List Class) (n index : ℕ) (c : Option Class) → slice_get classes n ≡ c
    → index < length (option_map_or (λ (d : Class). map field_row d.fields ++ map method_row d.methods) c [])
    → class_item classes n + 1 + index < item_count classes
below_in classes n index None is lt = absurd (omega arith)
below_in classes n index (Some c) is lt =
    let next = class_item-next classes n c is in
    let most = class_item-le classes (n + 1) in
    let rows = rows_counted c in
    omega (arith, next, most, rows, lt)

-- the item of a member is one of the set's
pub member_below : (classes : List Class) (n index : ℕ) → index < length (rows_in classes (Prog n))
    → class_item classes n + 1 + index < item_count classes
member_below classes n index lt = below_in classes n index (slice_get classes n) refl lt

-- the table has the item of a class
table_is : (classes : List Class) (starts : List ℕ) (n x : ℕ) → AreStarts classes starts → n < length classes
    → slice_get starts n ≡ Some x → x ≡ class_item classes n
table_is classes starts n x are within at =
    let most : n ≤ length classes = omega arith in
    sym (get_or_from_slice_get starts n x 0 at) ∙ are.each n most

-- so the item of a member is found
pub item_sum : (classes : List Class) (starts : List ℕ) (n index x : ℕ) → AreStarts classes starts
    → IsMember classes (record { class = Prog n; index = index }) → slice_get starts n ≡ Some x
    → (x + 1 + index < item_count classes) × (x + 1 + index ≡ class_item classes n + 1 + index)
item_sum classes starts n index x are there at =
    let first : x ≡ class_item classes n = table_is classes starts n x are there.0 at in (
      subst (λ k. k + 1 + index < item_count classes) (sym first) (member_below classes n index there.1),
      ap (λ k. k + 1 + index) first,
    )

-- the table has the item of a class
pub item_found : (classes : List Class) (starts : List ℕ) (n x : ℕ) → AreStarts classes starts → n < length classes
    → slice_get starts n ≡ Some x → x ≡ class_item classes n
item_found classes starts n x are within at = table_is classes starts n x are within at

-- a member of a class is there
pub member_there : (classes : List Class) (n index : ℕ) (c : Class) → slice_get classes n ≡ Some c
    → index < length c.fields + length c.methods → IsMember classes (record { class = Prog n; index = index })
member_there classes n index c is lt = (
  slice_get_within classes n c is,
  let rows = ap (λ (o : Option Class). length (option_map_or
      (λ (d : Class). map field_row d.fields ++ map method_row d.methods) o [])) is in
      let counted = rows_counted c in omega (arith, rows, counted, lt),
)

-- ---- the table of the items

more_at : (classes : List Class) (n v : ℕ) (old : List ℕ) → length old ≡ n + 1
    → ((k : ℕ) → k ≤ n → get_or old k 0 ≡ class_item classes k) → v ≡ class_item classes (n + 1)
    → (k : ℕ) → k ≤ n + 1 → (k < length old) ⊎ (length old ≤ k) → get_or (old ++ v ∷ []) k 0 ≡ class_item classes k
more_at classes n v old count each is k most (inl before) = get_or_append_left old (v ∷ []) 0 k before
    ∙ each k (omega arith)
more_at classes n v old count each is k most (inr behind) =
    let last : k ≡ length old = omega arith in
    let next : n + 1 ≡ k = omega arith in
    ap (λ j. get_or (old ++ v ∷ []) j 0) last ∙ get_or-append_seam old v [] 0 ∙ is ∙ ap (class_item classes) next

-- one more class
pub table_more : (classes : List Class) (n v : ℕ) (old new : List ℕ) → length old ≡ n + 1
    → ((k : ℕ) → k ≤ n → get_or old k 0 ≡ class_item classes k) → v ≡ class_item classes (n + 1)
    → new ≡ old ++ v ∷ [] → (length new ≡ n + 1 + 1) × ((k : ℕ) → k ≤ n + 1 → get_or new k 0 ≡ class_item classes k)
table_more classes n v old new count each is grown = (
  omega (arith, ap length grown, length-append old (v ∷ []), count),
  λ k most. ap (λ (t : List ℕ). get_or t k 0) grown
      ∙ more_at classes n v old count each is k most (cases_lt k (length old)),
)

-- a member whose number is listed is there
pub member_listed : (classes : List Class) (n : ℕ) (members : List ℕ) (i k : ℕ) → n < length classes
    → All (λ x. x < length (rows_in classes (Prog n))) members → i < length members → k ≡ get_or members i k
    → IsMember classes (record { class = Prog n; index = k })
member_listed classes n members i k there all lt at = (
  there,
  subst (λ (x : ℕ). x < length (rows_in classes (Prog n))) (sym at) (all i k lt),
)

-- ---- the needs of the items of a class

pub needs_long : (classes : List Class) (kept : KeptByRules) (n : ℕ) (c : Class)
    → length (class_needs classes kept (n, c)) ≡ items_of c
needs_long classes kept n c =
    let of_field : ℕ × Field → List ℕ =
    λ p. needs_of classes (class_item classes n + 1 + p.0) (field_wants classes n p.1) in
    let of_method : ℕ × Method → List ℕ =
    λ p. needs_of classes (class_item classes n + 1 + p.0) (method_wants classes n kept p.1) in
    let fields = length-map (enumerate_from 0 c.fields) of_field in
    let methods = length-map (enumerate_from (length c.fields) c.methods) of_method in
    let numbered = length-enumerate_from 0 c.fields in
    let others = length-enumerate_from (length c.fields) c.methods in
    let both = length-append (map of_field (enumerate_from 0 c.fields))
    (map of_method (enumerate_from (length c.fields) c.methods)) in
    omega (arith, fields, methods, numbered, others, both)
