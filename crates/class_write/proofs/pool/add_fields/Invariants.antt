use Rattle.std.proofs.Common.{◌≡◌, drop}
use Rattle.std.specs.List.{flat_map}
use Rattle.indexmap.specs.IndexSet.{insert_all}
use Rattle.class_model.specs.CanonicalPool.{same}
use Rattle.class_model.specs.CanonicalClass.{field_constants}
use Rattle.class_write.proofs.pool.add_fields.Given as goal

abbrev pub invariant-loop-field : goal.invariant-loop-field
invariant-loop-field l = insert_all same l.pool (flat_map field_constants (drop l.field-index l.fields))
    ≡ insert_all same l.initial.pool (flat_map field_constants l.fields)
