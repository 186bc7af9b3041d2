-- Answers of `table_of`: what its calls ask for, and what it promises.
use Rattle.std.proofs.Common.{◌≡◌, ◌∙◌, ℕ, Option, Some, cond, drop, ap, subst, arith}
use Rattle.witness_file.specs.declared.witness.MethodWitness.{MethodWitness}
use Rattle.pair_edits.specs.bodies.Tables.{TellsEntries, is_same, key_of}
use Rattle.pair_edits.proofs.Keyed.{find_before}
use Rattle.pair_edits.proofs.entries.table_of.Goals as goal

pub loop-left-preserved : goal.loop-left-preserved
loop-left-preserved c =
    let x : MethodWitness = c.index-entries-left.result in
    record {
      within = omega (arith, c.loop-left.invariant.within);
      told = λ key. find_before key c.args.entries.now c.loop-left.left x _
          c.loop-left-test.true c.loop-left.invariant.within c.index-entries-left.is
          (c.in_ok-put_entry.ensures key
          ∙ ap (λ (o : Option MethodWitness). cond (is_same key (key_of x)) (Some x) o)
          (c.loop-left.invariant.told key));
    }

pub returns : goal.returns
returns c =
    let zero : c.loop-left.left ≡ 0 = omega arith in
    subst (λ (n : ℕ). TellsEntries c.loop-left.table (drop n c.args.entries.now)) zero c.loop-left.invariant.told
