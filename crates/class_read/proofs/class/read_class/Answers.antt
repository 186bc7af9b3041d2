-- Answers of `read_class`: what its calls ask for, and what it promises.
use Rattle.std.proofs.Common.{arith}
use Rattle.jv_base.proofs.Due.{due_found, due_only}
use Rattle.class_model.specs.ClassFile.{File}
use Rattle.class_model.specs.ReadingClass.{class_read}
use Rattle.class_laws.proofs.ClassLaw.{class_read-found, class_read-only}
use Rattle.class_read.proofs.class.read_class.Goals as goal

pub returns : goal.returns
returns c =
    let bytes = c.args.bytes.now in
    let due = c.read_whole.ensures in
    record {
      found = due_found (File bytes) c.read_whole.result (class_read bytes)
          (λ class h. class_read-found bytes class (λ i. omega (arith, c.type_inv.bytes i)) h) due;
      only = λ class h. due_only c.read_whole.result (class_read bytes) class (class_read-only bytes class h) due;
      exact = due;
    }
