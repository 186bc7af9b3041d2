-- Answers of `shrunk_is_image`: what its calls ask for, and what it promises.
use Rattle.std.proofs.Common.{refl}
use Rattle.image_laws.proofs.ShrunkImage.Classes.{shrunk_image}
use Rattle.image_laws.proofs.shrunk_image.shrunk_is_image.Goals as goal

pub returns : goal.returns
returns c = λ classes marks differ up object. (
  shrunk_image classes marks differ up object,
  record { kept = refl; moved = refl; kept_member = refl; moved_member = refl; renamed = refl },
)
