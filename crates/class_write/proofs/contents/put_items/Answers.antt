-- Answers of `put_items`: what its calls ask for, and what it promises.
use Rattle.std.proofs.Common.{ℕ, ◌<◌, ◌^◌, List, sym, ap, subst, ◌∙◌}
use Rattle.std.specs.Prelude.{All}
use Rattle.class_model.specs.CanonicalCode.{places}
use Rattle.class_write.specs.declared.placing.PlacedCode.{PlacedCode}
use Rattle.class_write.proofs.PlacedCodes.{places_short}
use Rattle.class_write.proofs.contents.put_items.Goals as goal

pub put_handlers-requires-clause-places : goal.put_handlers-requires-clause-places
put_handlers-requires-clause-places c =
    let pool = c.args.pool.now in
    let ins = c.args.code.now.ins in
    subst (λ (ps : List ℕ). All (λ place. place < 2 ^ 16) ps)
    (sym (c.as_slice-2.ensures ∙ ap (λ (p : PlacedCode). p.places) c.requires.placed))
    (places_short pool (2 ^ 16) (places pool ins) ins c.requires.code.code_length)
