-- The names of what an image keeps, by what stands in it: for each class, member and reference of the set, the one that
-- stands for it in the image, if it is kept (the project's own).
use Rattle.std.specs.Prelude.{ℕ, true, ◌&&◌, List, Option, Some, None, if◌then◌else◌}
use Rattle.std.specs.Option.{option_and_then, option_map, option_map_or}
use Rattle.class_model.specs.declared.class.Class.{Class}
use Rattle.class_model.specs.declared.op.MemberRef.{MemberRef}
use Rattle.class_pool.specs.Found.{NameAndType, name_of}
use Rattle.class_pool.specs.Hierarchy.{class_named}
use Rattle.class_pool.specs.Resolution.{field_found}
use Rattle.class_pool.specs.Selection.{selected_special}
use Rattle.class_pool.specs.declared.id.ClassId.{ClassId}
use Rattle.class_pool.specs.declared.id.MemberAt.{MemberAt}
use Rattle.link_check.specs.Profile.{class_of}
use Rattle.image_laws.specs.SetImage.Image.{Image}
use Rattle.jvm_model.specs.Mapped.{Mapping}
use Rattle.jvm_model.specs.Same.{Names}
use Rattle.jvm_model.specs.Types.{class_type}
use Rattle.jvm_model.specs.Value.{Key}
use Rattle.set_view.specs.ViewOf.{key_at, member_of, method_of}

module _ (a b : List Class) (i : Image a b) where
  -- the name of a class in the image
  abbrev pub new_class : ClassId → Option (List ℕ)
  new_class x = if i.kept x then Some (name_of b (i.moved x)) else None

  -- a member in the image
  abbrev pub new_key : MemberAt → Option Key
  new_key m = if i.kept_member m then Some (key_at b (i.moved_member m)) else None

  abbrev pub names : Names
  names = record {
    class = λ c. option_and_then new_class (class_named a c);
    field = λ k. option_and_then new_key (member_of a k);
    method = λ k. option_and_then new_key (member_of a k);
  }

  -- a reference through the class in the image, with the name and the descriptor that stand for its own
  abbrev pub renamed_ref : MemberRef → ClassId → NameAndType → MemberRef
  renamed_ref r c named = record {
    class = class_type (name_of b (i.moved c));
    name = named.0;
    ty = named.1;
    of_interface = r.of_interface;
  }

  -- where the class that it names and the member that is found are kept
  abbrev pub new_ref : MemberRef → ClassId → MemberAt → Option MemberRef
  new_ref r c m =
      if i.kept c && i.kept_member m then option_map (renamed_ref r c) (i.renamed (r.name, r.ty)) else None

  abbrev pub found_ref : (ClassId → Option MemberAt) → MemberRef → Option MemberRef
  found_ref found r = option_and_then (λ c. option_and_then (new_ref r c) (found c)) (class_of a r)

  -- and, of invokespecial in a class, what it runs
  abbrev pub new_special : MemberRef → ClassId → ClassId → MemberAt → Option MemberRef
  new_special r from c m = if option_map_or i.kept_member
      (selected_special a from c m) true then new_ref r c m else None

  abbrev pub mapping : Mapping
  mapping = record {
    names = names;
    field_ref = λ r. found_ref (λ c. field_found a c (r.name, r.ty)) r;
    method_ref = λ r. found_ref (method_of a r) r;
    special_ref = λ from r. option_and_then
        (λ x. option_and_then (λ c. option_and_then (new_special r x c) (method_of a r c)) (class_of a r))
        (class_named a from);
  }
