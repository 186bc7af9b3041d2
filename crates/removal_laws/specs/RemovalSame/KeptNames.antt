-- The names of what is kept where only marked items are left: each stands for itself, and what isn't kept has none (the
-- project's own).
use Rattle.std.specs.Prelude.{Bool, false, List, Option, Some, None, if◌then◌else◌}
use Rattle.std.specs.Option.{option_map_or}
use Rattle.class_model.specs.declared.class.Class.{Class}
use Rattle.class_pool.specs.Hierarchy.{class_named}
use Rattle.jvm_model.specs.Same.{Names}
use Rattle.jvm_model.specs.Value.{Key}
use Rattle.set_view.specs.ViewOf.{member_of}
use Rattle.image_laws.specs.ShrunkImage.Keeping.{is_class_kept, is_member_kept}

module _ (classes : List Class) (marks : List Bool) where
  -- a field or a method, by its class, name and descriptor
  abbrev pub kept_key : Key → Option Key
  kept_key k = if option_map_or (is_member_kept classes marks) (member_of classes k) false then Some k else None

  abbrev pub kept_names : Names
  kept_names = record {
    class = λ c. if option_map_or (is_class_kept classes marks) (class_named classes c) false then Some c else None;
    field = kept_key;
    method = kept_key;
  }
