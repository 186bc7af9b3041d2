-- What is typed is typed in an image, as a statement on all sets, images and names (the project's own).
use Rattle.class_rename.specs.Names.{Names}
use Rattle.image_laws.specs.SetImage.Image.{Image}
use Rattle.type_verifier.specs.Environment.{Environment}
use Rattle.type_verifier.specs.Typed.{Typed}
use Rattle.image_laws.specs.TypedImage.Named.{IsCodeNamed, KeepsKnownNames}

-- where what a code names is kept and leads to its place under its new name, the code is typed there as it was
-- (JVMS 4.10.1)
abbrev pub KeepsTyped : Type 0
KeepsTyped = (names : Names) (a b : Environment) (i : Image a.classes b.classes) → KeepsKnownNames names
    → IsCodeNamed names a b i → Typed a → Typed b
