-- Answers of `put_exceptions`: what its calls ask for, and what it promises.
use Rattle.std.proofs.Common.{length}
use Rattle.class_model.specs.CanonicalClass.{class_index}
use Rattle.class_write.proofs.Counted.{indices_short}
use Rattle.class_write.proofs.attributes.put_exceptions.Goals as goal

pub put_attribute-requires-clause-info : goal.put_attribute-requires-clause-info
put_attribute-requires-clause-info c = λ written.
    rw (c.deref.ensures.value, c.in_ok-put_class_indices.ensures, c.in_ok-put_u2.ensures, c.new-info.ensures.items)
    (indices_short (class_index c.args.pool.now) c.args.throws.now (length c.args.throws.now) c.requires.count)
