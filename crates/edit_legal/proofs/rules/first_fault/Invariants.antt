use Rattle.std.proofs.Common.{◌≡◌, [], drop, take}
use Rattle.edit_legal.specs.Fault.{fault_after}
use Rattle.edit_legal.proofs.rules.first_fault.Given as goal

abbrev pub invariant-loop-act : goal.invariant-loop-act
invariant-loop-act g l =
    let allows = g.R.Rules.allows in
    record {
      due :
          fault_after (allows l.rules) l.number (take l.act-index l.acts)
          (drop l.act-index l.acts)
          ≡ fault_after (allows l.fn.rules) 0 [] l.acts;
      holds : g.R.Rules.holds l.rules;
      noted : g.R.Rules.noted l.rules (take l.act-index l.acts);
      place : l.number ≡ l.act-index;
    }
