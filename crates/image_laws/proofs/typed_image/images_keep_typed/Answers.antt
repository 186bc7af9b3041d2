-- Answers of `images_keep_typed`: what its calls ask for, and what it promises.
use Rattle.image_laws.proofs.TypedImage.Walking.{is_typed}
use Rattle.image_laws.proofs.typed_image.images_keep_typed.Goals as goal

pub returns : goal.returns
returns c = is_typed
