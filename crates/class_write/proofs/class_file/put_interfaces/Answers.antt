-- Answers of `put_interfaces`: what its calls ask for, and what it promises.
use Rattle.std.proofs.lemmas.Result.{IfOk-equal}
use Rattle.class_model.specs.CanonicalClass.{class_index}
use Rattle.class_write.proofs.FileTexts.{indices_joined}
use Rattle.class_write.proofs.class_file.put_interfaces.Goals as goal

pub returns : goal.returns
returns c =
    IfOk-equal c.put_class_indices.result _ _ _ c.put_class_indices.ensures
    (rw (c.in_ok-put_u2.ensures, c.as_slice.ensures)
    (indices_joined c.args.out.now.items c.len.result
    (class_index c.args.pool.now) c.args.class.now.interfaces c.len.ensures))
