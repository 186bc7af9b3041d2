-- Answers of `image_keeps_links`: what its calls ask for, and what it promises.
use Rattle.image_laws.proofs.SetImage.Access.{member_accessible_moved, overrides_moved}
use Rattle.image_laws.proofs.SetImage.Finding.{field_moved, method_moved}
use Rattle.image_laws.proofs.SetImage.Selecting.{selected_moved, special_moved}
use Rattle.image_laws.proofs.SetImage.Walks.{below_moved}
use Rattle.image_laws.proofs.set_image.image_keeps_links.Goals as goal

pub returns : goal.returns
returns c = record {
  order = below_moved;
  fields = field_moved;
  methods = method_moved;
  access = member_accessible_moved;
  selection = selected_moved;
  overriding = overrides_moved;
  special = special_moved;
}
