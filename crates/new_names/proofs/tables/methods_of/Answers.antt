-- Answers of `methods_of`: what its calls ask for, and what it promises.
use Rattle.std.proofs.Common.{◌≡◌, ℕ, List, drop, sym, subst, arith}
use Rattle.mapping_file.specs.declared.mapping.MapClass.{MapClass}
use Rattle.new_names.specs.NewNames.{all_method_names}
use Rattle.new_names.specs.bodies.Tables.{TellsMembers}
use Rattle.new_names.proofs.Telling.{begins_at}
use Rattle.new_names.proofs.tables.methods_of.Goals as goal

pub loop-left-preserved : goal.loop-left-preserved
loop-left-preserved c = record {
  within = omega (arith, c.loop-left.invariant.within);
  told = subst (λ (ls : List MapClass). TellsMembers c.put_methods_of.new.table (all_method_names ls))
      (sym (begins_at c.args.lines.now c.loop-left.left c.index-lines-left.result c.loop-left-test.true
      c.loop-left.invariant.within c.index-lines-left.is))
      (c.in_ok-put_methods_of.ensures (all_method_names (drop c.loop-left.left c.args.lines.now))
      c.loop-left.invariant.told);
}

pub returns : goal.returns
returns c =
    let zero : c.loop-left.left ≡ 0 = omega arith in
    subst (λ (n : ℕ). TellsMembers c.loop-left.table (all_method_names (drop n c.args.lines.now))) zero
    c.loop-left.invariant.told
