use Rattle.std.proofs.Common.{◌≡◌, drop}
use Rattle.std.specs.List.{flat_map}
use Rattle.indexmap.specs.IndexSet.{insert_all}
use Rattle.class_model.specs.CanonicalPool.{same}
use Rattle.class_model.specs.declared.code.Handler.{Handler}
use Rattle.class_model.specs.CanonicalClass.{caught_constants}
use Rattle.class_write.proofs.pool.add_handlers.Given as goal

abbrev pub invariant-loop-handler : goal.invariant-loop-handler
invariant-loop-handler l = insert_all same l.pool
    (flat_map (λ (h : Handler). caught_constants h.caught) (drop l.handler-index l.handlers))
    ≡ insert_all same l.initial.pool (flat_map (λ (h : Handler). caught_constants h.caught) l.handlers)
