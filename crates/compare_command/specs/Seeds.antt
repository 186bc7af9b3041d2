-- Which methods the rules of a config keep in any case (ProGuard manual, "Keep Options", "-dontshrink").
use Rattle.std.specs.Prelude.{ℕ, Bool, false, not, ◌||◌, ◌==◌, List}
use Rattle.std.specs.List.{list_any}
use Rattle.std.specs.Option.{option_and_then, option_map_or}
use Rattle.class_model.specs.declared.class.Class.{Class}
use Rattle.class_pool.specs.Items.{item_of}
use Rattle.keep_match.specs.Seeds.{seeds_of}
use Rattle.keep_rules.specs.declared.rules.Rules.{Rules}
use Rattle.jvm_model.specs.Value.{Key}
use Rattle.set_view.specs.ViewOf.{member_of}

-- rules keep the item in any case
abbrev pub is_kept_item : Rules → List Class → ℕ → Bool
is_kept_item rules classes item = list_any (λ n. n == item) (seeds_of rules classes)

-- rules keep the method in any case; where nothing is dropped, each one
abbrev pub is_seed : Rules → List Class → Key → Bool
is_seed rules classes k = not rules.shrink
    || option_map_or (is_kept_item rules classes) (option_and_then (item_of classes) (member_of classes k)) false
