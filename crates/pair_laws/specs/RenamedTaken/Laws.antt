-- A set that is taken is taken under new names, in whatever order, as statements on all sets and names (the project's
-- own).
use Rattle.std.specs.Prelude.{◌≡◌, List, Ok}
use Rattle.class_model.specs.declared.class.Class.{Class}
use Rattle.class_pool.specs.Count.{item_count}
use Rattle.class_pool.specs.declared.fault.NamedClass.{NamedClass}
use Rattle.class_rename.specs.Names.{Names}
use Rattle.link_check.specs.Profile.{links_checked}
use Rattle.removal_laws.specs.RemovalBuilds.FilesLeft.{AreBuilt}
use Rattle.image_laws.specs.TakenSet.TakenSet.{IsTaken}
use Rattle.pair_laws.specs.RenamedTaken.NewSet.{AreFilesOf, IsNewSet}

-- no rule for links is broken (JVMS 4.10, 5.4.3 to 5.4.5, 6.5)
abbrev pub RenamedKeepsLinks : Type 0
RenamedKeepsLinks = (names : Names) (classes out : List Class) → IsTaken classes → IsNewSet names classes out
    → links_checked out ≡ Ok tt

-- there are as many items
abbrev pub RenamedKeepsCount : Type 0
RenamedKeepsCount = (names : Names) (classes out : List Class) → IsNewSet names classes out
    → item_count out ≡ item_count classes

-- the files make the set, and `build` tells no fault of them (JVMS 4.1, 5.3.5)
abbrev pub RenamedBuilds : Type 0
RenamedBuilds = (names : Names) (classes out : List Class) (files : List NamedClass) → IsTaken classes
    → IsNewSet names classes out → AreFilesOf out files → AreBuilt files out

-- the set is taken: it is built of its files, follows the format, and breaks no rule for links
abbrev pub RenamedIsTaken : Type 0
RenamedIsTaken = (names : Names) (classes out : List Class) (files : List NamedClass) → IsTaken classes
    → IsNewSet names classes out → AreFilesOf out files → IsTaken out
