-- Types of a set that is taken name classes of the set or of the library: the set is what is left where each item is
-- marked.
use Rattle.std.proofs.Common.{List, subst}
use Rattle.class_model.specs.declared.class.Class.{Class}
use Rattle.image_laws.specs.TakenSet.TakenSet.{IsTaken}
use Rattle.pair_laws.specs.RenamedImage.Renaming.{NamesKnownTypes}
use Rattle.pair_laws.specs.RenamedSame.Laws.{all_marks}
use Rattle.pair_laws.proofs.RenamedSame.AllKept.{all_closed, all_left, no_rules}
use Rattle.pair_laws.proofs.RenamedSame.Left.{types_known}

pub known_types : (classes : List Class) → IsTaken classes → NamesKnownTypes classes
known_types classes taken = subst NamesKnownTypes (all_left classes)
    (types_known classes (no_rules classes) (all_marks classes) (all_closed classes) taken)
