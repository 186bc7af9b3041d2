-- What the steps give together.
use Rattle.std.proofs.Common.{List, Result, Ok, Err, sym, subst}
use Rattle.std.specs.Prelude.{IfOk}
use Rattle.std.specs.List.{AllByRecursion}
use Rattle.jv_base.specs.declared.outcome.Or.{Or}
use Rattle.jv_base.specs.declared.outcome.Or.TheVariants as or
use Rattle.tree_io.specs.declared.file_at.FileAt.{FileAt}
use Rattle.class_model.specs.declared.class.Class.{Class}
use Rattle.class_laws.specs.SpellingLaws.{IsWritable}
use Rattle.class_pool.specs.Supertypes.{NoCycle}
use Rattle.class_pool.specs.declared.fault.NamedClass.{NamedClass}
use Rattle.set_read.specs.Accepted.{AreRead, ReadsClasses}
use Rattle.set_read.specs.bodies.Steps.{Judges}
use Rattle.set_read.specs.declared.fault.SetFault.{SetFault}
use Rattle.set_read.specs.declared.fault.SetFault.TheVariants.{Format, Rule}
use Rattle.set_read.proofs.Writable.{accepted_are_writable}

-- the set of the classes of files is the set of the files
pub judged : (files : List FileAt) (named : List NamedClass) (result : Result (List Class) (Or SetFault))
    → AreRead files named → Judges result named → ReadsClasses result files
judged files named (Ok classes) read judges = record {
  named = named;
  read = read;
  are = judges.0.2;
  first = judges.0.0;
  acyclic = subst NoCycle (sym judges.0.2) judges.0.1;
  linked = judges.1.0;
  typed = judges.1.1;
}
judged files named (Err (or.Fault (Format path fault))) read judges = absurd judges
judged files named (Err (or.Fault (Rule told))) read judges = (named, read, judges)
judged files named (Err or.OutOfMemory) read judges = tt

pub writable : (files : List FileAt) (result : Result (List Class) (Or SetFault)) → ReadsClasses result files
    → IfOk result (AllByRecursion IsWritable)
writable files (Ok classes) h = accepted_are_writable files classes h
writable files (Err why) h = tt
