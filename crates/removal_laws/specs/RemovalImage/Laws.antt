-- What is left of a set that is taken, by marks that are closed for the system of requirements, as a statement on all
-- sets, rules and marks (the project's own).
use Rattle.std.specs.Prelude.{◌≡◌, true, Bool, List, IfSome}
use Rattle.mark_core.specs.Marks.{Closed, set_of}
use Rattle.class_model.specs.declared.class.Class.{Class}
use Rattle.class_pool.specs.Found.{declared_in}
use Rattle.class_pool.specs.declared.id.ClassId.{ClassId}
use Rattle.member_shrink.specs.Shrunk.{shrunk}
use Rattle.require_sys.specs.Requires.{requires}
use Rattle.require_sys.specs.declared.kept.KeptByRules.{KeptByRules}
use Rattle.image_laws.specs.SetImage.Image.{Image, SelectedKept}
use Rattle.image_laws.specs.ShrunkImage.Laws.{IsByMarks}
use Rattle.image_laws.specs.TakenSet.TakenSet.{IsTaken}
use Rattle.image_laws.specs.ViewImage.ImageView.{clinit}

-- class initialisation methods of kept classes are kept (JVMS 2.9, 5.5)
abbrev pub InitialisationKept : (a b : List Class) → Image a b → Type 0
InitialisationKept a b i = (x : ClassId) → i.kept x ≡ true
    → IfSome (declared_in a clinit x) (λ m. i.kept_member m ≡ true)

-- it is an image of the set, and what a call of a kept method runs on an object of a kept class is kept
abbrev pub ClosedRemovalIsImage : Type 0
ClosedRemovalIsImage = (classes : List Class) (rules : KeptByRules) (marks : List Bool) → IsTaken classes
    → Closed (requires classes rules) (set_of marks)
    → (i : Image classes (shrunk classes marks)) × IsByMarks classes marks i
    × SelectedKept classes (shrunk classes marks) i × InitialisationKept classes (shrunk classes marks) i
