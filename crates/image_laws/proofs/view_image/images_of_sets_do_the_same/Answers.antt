-- Answers of `images_of_sets_do_the_same`: what its calls ask for, and what it promises.
use Rattle.jvm_model.proofs.Side.{mapped_same, mapped_steps}
use Rattle.set_view.specs.ViewOf.{view_of}
use Rattle.image_laws.proofs.ViewImage.Views.{view_same}
use Rattle.image_laws.specs.ViewImage.ImageNames.{mapping}
use Rattle.image_laws.proofs.view_image.images_of_sets_do_the_same.Goals as goal

pub returns : goal.returns
returns c = record {
  same = λ a b i p rule told. mapped_same (mapping a b i) (view_of a) (view_of b) (view_same a b i p rule told);
  steps = λ a b i p rule told. mapped_steps (mapping a b i) (view_of a) (view_of b) (view_same a b i p rule told);
}
