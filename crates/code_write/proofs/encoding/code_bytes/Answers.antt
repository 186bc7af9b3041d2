-- Answers of `code_bytes`: what its calls ask for, and what it promises.
use Rattle.std.proofs.Common.{rules, ◌≡◌, ℕ, length, ◌^◌, ◌<◌, List, sym, subst}
use Rattle.std.specs.Prelude.{All}
use Rattle.std.proofs.lemmas.List.Elements.{All-from_recursion}
use Rattle.class_model.specs.CanonicalCode.{places, code_bytes}
use Rattle.code_write.proofs.Ends.{places_short}
use Rattle.code_write.proofs.Onward.{goes_on}
use Rattle.code_write.proofs.encoding.code_bytes.Goals as goal

pub put_op-requires-clause-places : goal.put_op-requires-clause-places
put_op-requires-clause-places c =
    let pool = c.args.table.now in
    let ins = c.args.ins.now in
    subst (λ (all : List ℕ). All (λ place. place < 2 ^ 16) all) (sym c.requires.places)
    (All-from_recursion (λ place. place < 2 ^ 16) (places pool ins)
    (places_short pool (2 ^ 16) c.args.places.now ins c.requires.length))

pub loop-instruction-preserved : goal.loop-instruction-preserved
loop-instruction-preserved c =
    let front = c.loop-instruction.bytes.items in
    let here : c.len-at.result ≡ length front = search rules in
    goes_on c.args.table.now c.args.places.now c.args.ins.now c.loop-instruction.instruction-index front
    c.put_op.new.out.items
    (code_bytes c.args.table.now c.args.places.now c.args.ins.now) _ c.instruction-item.result c.len-at.result
    c.loop-instruction-test.true
    c.instruction-item.is here c.in_ok-put_op.ensures c.loop-instruction.invariant
