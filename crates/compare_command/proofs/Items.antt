-- The items of members are items of their set.
use Rattle.std.proofs.Common.{◌≡◌, ℕ, ◌+◌, ◌<◌, List, [], ◌++◌, length, map, slice_get, Option, Some, None, refl, arith}
use Rattle.std.specs.Option.{option_map_or}
use Rattle.class_model.specs.declared.class.Class.{Class}
use Rattle.class_pool.specs.Count.{item_count}
use Rattle.class_pool.specs.Found.{field_row, method_row, rows_in}
use Rattle.class_pool.specs.Items.{class_item}
use Rattle.class_pool.specs.declared.id.ClassId.TheVariants.{Prog}
use Rattle.class_pool.proofs.Counting.{class_item-le, class_item-next}
use Rattle.class_pool.proofs.ToldMembers.{rows_counted}

below_in : (classes : List Class) (n index : ℕ) (c : Option Class) → slice_get classes n ≡ c
    → index < length (option_map_or (λ (d : Class). map field_row d.fields ++ map method_row d.methods) c [])
    → class_item classes n + 1 + index < item_count classes
below_in classes n index None is lt = absurd (omega arith)
below_in classes n index (Some c) is lt =
    let next = class_item-next classes n c is in
    let most = class_item-le classes (n + 1) in
    let rows = rows_counted c in
    omega (arith, next, most, rows, lt)

pub member_below : (classes : List Class) (n index : ℕ) → index < length (rows_in classes (Prog n))
    → class_item classes n + 1 + index < item_count classes
member_below classes n index lt = below_in classes n index (slice_get classes n) refl lt
