-- Answers of `renamed_sets_are_images`: what its calls ask for, and what it promises.
use Rattle.std.proofs.Common.{refl}
use Rattle.pair_laws.proofs.RenamedImage.Join.{renamed_image}
use Rattle.pair_laws.proofs.renamed_image.renamed_sets_are_images.Goals as goal

pub returns : goal.returns
returns c = λ names place xs ys found found_new known apart moved. (
  renamed_image names place xs ys found found_new known apart moved,
  record { kept = refl; moved = refl; kept_member = refl; moved_member = refl; renamed = refl },
)
