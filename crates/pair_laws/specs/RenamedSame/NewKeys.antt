-- The new names of what is kept (the project's own).
use Rattle.std.specs.Prelude.{Bool, false, List, Option, Some, None, if◌then◌else◌}
use Rattle.std.specs.Option.{option_map_or}
use Rattle.class_model.specs.declared.class.Class.{Class}
use Rattle.class_pool.specs.Hierarchy.{class_named}
use Rattle.class_rename.specs.Names as class_rename
use Rattle.jvm_model.specs.Same.{Names}
use Rattle.jvm_model.specs.Value.{Key}
use Rattle.set_view.specs.ViewOf.{member_of}
use Rattle.image_laws.specs.ShrunkImage.Keeping.{is_class_kept, is_member_kept}
use Rattle.pair_laws.specs.RenamedImage.Renaming.{renamed_named}

module _ (new : class_rename.Names) where
  -- a field or a method by its class, name and descriptor, under new names
  abbrev pub new_key : Key → Key
  new_key k = record {
    class = new.class k.class;
    name = (renamed_named new (k.name, k.descriptor)).0;
    descriptor = (renamed_named new (k.name, k.descriptor)).1;
  }

  module _ (classes : List Class) (marks : List Bool) where
    -- the new name of a member that is kept
    abbrev pub kept_key : Key → Option Key
    kept_key k =
        if option_map_or (is_member_kept classes marks) (member_of classes k) false then Some (new_key k) else None

    -- the new names of what is kept where only marked items are left
    abbrev pub kept_names : Names
    kept_names = record {
      class = λ c. if option_map_or (is_class_kept classes marks) (class_named classes c) false
          then Some (new.class c) else None;
      field = kept_key;
      method = kept_key;
    }
