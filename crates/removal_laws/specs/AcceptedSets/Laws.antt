-- Sets that files are taken as: what is known of each, and that what is left of one is one, as statements on all files,
-- rules, marks and filters (the project's own).
use Rattle.std.specs.Prelude.{◌≡◌, ◌<◌, Bool, List, length, map, IfSome}
use Rattle.std.specs.List.{sum_by}
use Rattle.std.specs.Str.{IsUtf8}
use Rattle.tree_io.specs.Below.{IsAscending}
use Rattle.tree_io.specs.declared.file_at.FileAt.{FileAt}
use Rattle.mark_core.specs.Marks.{Closed, set_of}
use Rattle.class_model.specs.declared.class.Class.{Class}
use Rattle.class_pool.specs.declared.fault.NamedClass.{NamedClass}
use Rattle.attribute_filter.specs.Filtered.{filtered}
use Rattle.attribute_filter.specs.declared.filter.AttributeFilter.{AttributeFilter}
use Rattle.require_sys.specs.Requires.{requires}
use Rattle.require_sys.specs.declared.kept.KeptByRules.{KeptByRules}
use Rattle.image_laws.specs.TakenSet.TakenSet.{IsTaken}
use Rattle.jvm_model.specs.Same.{AreKept, Same}
use Rattle.jvm_model.specs.Value.{Key}
use Rattle.set_view.specs.ViewOf.{view_of}
use Rattle.set_read.specs.Accepted.{AreRead, IsAccepted}
use Rattle.removal_laws.specs.RemovalBuilds.FilesLeft.{files_left}
use Rattle.removal_laws.specs.RemovalAccepted.Laws.{left_and_filtered}
use Rattle.removal_laws.specs.RemovalSame.KeptNames.{kept_names}

-- what `read_set` asks of files: their paths ascend, and they have together fewer than 2^32 - 1 bytes
pub record AreReadable (files : List FileAt) : Type 0 where
  pub ascending : IsAscending (map (λ (f : FileAt). f.path) files)
  pub short : sum_by (λ (f : FileAt). length f.bytes) files < 4294967295

-- a set that such files are taken as is a taken set
abbrev pub AcceptedAreTaken : Type 0
AcceptedAreTaken = (files : List FileAt) (classes : List Class) → AreReadable files → IsAccepted files classes
    → IsTaken classes

-- a file with those attributes of its class that a filter keeps
abbrev pub file_filtered : AttributeFilter → NamedClass → NamedClass
file_filtered filter file = record { path = file.path; class = filtered filter file.class }

-- the files of marked classes, each with its marked members and the attributes that a filter keeps, at their old paths
abbrev pub files_left_and_filtered : AttributeFilter → List NamedClass → List Bool → List NamedClass
files_left_and_filtered filter files marks = map (file_filtered filter) (files_left files marks)

-- where rules and filter agree on Exceptions, files whose bytes spell what is left are taken as the set that is left;
-- the name that the source files get, if they get one, is UTF-8
abbrev pub LeftIsAccepted : Type 0
LeftIsAccepted = (files : List FileAt) (classes : List Class) (rules : KeptByRules) (marks : List Bool)
    (filter : AttributeFilter) → AreReadable files → (accepted : IsAccepted files classes)
    → Closed (requires classes rules) (set_of marks) → filter.exceptions ≡ rules.exceptions
    → IfSome filter.source_name IsUtf8 → (written : List FileAt)
    → AreRead written (files_left_and_filtered filter accepted.named marks)
    → IsAccepted written (left_and_filtered filter classes marks)

-- and it does what the set does, from each entry that is kept, each name that is kept standing for itself
abbrev pub LeftDoesTheSame : Type 0
LeftDoesTheSame = (files : List FileAt) (classes : List Class) (rules : KeptByRules) (marks : List Bool)
    (filter : AttributeFilter) → AreReadable files → IsAccepted files classes
    → Closed (requires classes rules) (set_of marks) → (entries : List Key)
    → AreKept (kept_names classes marks) entries
    → Same (view_of classes) (view_of (left_and_filtered filter classes marks)) (kept_names classes marks) entries
