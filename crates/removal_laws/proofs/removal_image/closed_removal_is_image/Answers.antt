-- Answers of `closed_removal_is_image`: what its calls ask for, and what it promises.
use Rattle.std.proofs.Common.{refl}
use Rattle.removal_laws.proofs.RemovalImage.Marked.{image, selected_kept, starts_kept}
use Rattle.removal_laws.proofs.removal_image.closed_removal_is_image.Goals as goal

pub returns : goal.returns
returns c = λ classes rules marks taken closed. (
  image classes rules marks closed taken,
  record { kept = refl; moved = refl; kept_member = refl; moved_member = refl; renamed = refl },
  selected_kept classes rules marks closed taken,
  starts_kept classes rules marks closed taken,
)
