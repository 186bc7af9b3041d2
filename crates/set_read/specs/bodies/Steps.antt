-- What the steps of reading a set give (only the proof of read_set needs it).
use Rattle.std.specs.Prelude.{◌≡◌, List, Result, Ok, Err}
use Rattle.jv_base.specs.declared.outcome.Or.{Or}
use Rattle.jv_base.specs.declared.outcome.Or.TheVariants as or
use Rattle.tree_io.specs.declared.file_at.FileAt.{FileAt}
use Rattle.class_model.specs.ReadingClass.{class_read}
use Rattle.class_model.specs.declared.class.Class.{Class}
use Rattle.class_pool.specs.Faults.{Builds}
use Rattle.class_pool.specs.declared.fault.NamedClass.{NamedClass}
use Rattle.class_pool.specs.declared.fault.PoolFault.{PoolFault}
use Rattle.link_check.specs.Profile.{links_checked}
use Rattle.type_verifier.specs.Verified.{AreTyped}
use Rattle.set_read.specs.declared.fault.SetFault.{SetFault}
use Rattle.set_read.specs.declared.fault.SetFault.TheVariants.{Format, Rule}
use Rattle.set_read.specs.Accepted.{AreRead, BreaksClassRule, BreaksRule, IsUnread, Spells, named_pool_fault}

-- the class of a file
abbrev pub ReadsClass : Result NamedClass (Or SetFault) → FileAt → Type 0
ReadsClass (Ok named) f = Spells f named
ReadsClass (Err (or.Fault (Format path fault))) f = (class_read f.bytes ≡ Err fault) × (path ≡ f.path)
ReadsClass (Err (or.Fault (Rule told))) f = ⊥
ReadsClass (Err or.OutOfMemory) f = Unit {0}

-- the classes of files
abbrev pub ReadsFiles : Result (List NamedClass) (Or SetFault) → List FileAt → Type 0
ReadsFiles (Ok named) files = AreRead files named
ReadsFiles (Err (or.Fault (Format path fault))) files = IsUnread files path fault
ReadsFiles (Err (or.Fault (Rule told))) files = ⊥
ReadsFiles (Err or.OutOfMemory) files = Unit {0}

-- the set of classes, or the rule of sets that they break
abbrev pub BuildsNamed : Result (List Class) (Or SetFault) → List NamedClass → Type 0
BuildsNamed (Ok classes) named = Builds (Ok classes) named
BuildsNamed (Err (or.Fault (Format path fault))) named = ⊥
BuildsNamed (Err (or.Fault (Rule told))) named =
    (fault : PoolFault) × Builds (Err (or.Fault fault)) named × (told ≡ named_pool_fault fault)
BuildsNamed (Err or.OutOfMemory) named = Unit {0}

-- a set breaks no rule for its classes, or which one
abbrev pub Links : Result (Unit {0}) (Or SetFault) → List Class → Type 0
Links (Ok done) classes = (links_checked classes ≡ Ok tt) × AreTyped classes
Links (Err (or.Fault (Format path fault))) classes = ⊥
Links (Err (or.Fault (Rule told))) classes = BreaksClassRule classes told
Links (Err or.OutOfMemory) classes = Unit {0}

-- the set of classes
abbrev pub Judges : Result (List Class) (Or SetFault) → List NamedClass → Type 0
Judges (Ok classes) named = Builds (Ok classes) named × ((links_checked classes ≡ Ok tt) × AreTyped classes)
Judges (Err (or.Fault (Format path fault))) named = ⊥
Judges (Err (or.Fault (Rule told))) named = BreaksRule named told
Judges (Err or.OutOfMemory) named = Unit {0}
