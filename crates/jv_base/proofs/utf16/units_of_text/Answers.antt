-- Answers of `units_of_text`: what its calls ask for, and what it promises.
use Rattle.std.proofs.Common.{sym, ◌++◌, List, ℕ, ap, ◌∙◌}
use Rattle.std.specs.Str.Iter.{encode_utf16_pending, encode_utf16_rest}
use Rattle.jv_base.specs.Utf16.{units_of}
use Rattle.jv_base.proofs.Utf16Text.{unit_on, units_at_end}
use Rattle.jv_base.proofs.utf16.units_of_text.Goals as goal

pub loop-unit-preserved : goal.loop-unit-preserved
loop-unit-preserved c =
    let s = c.loop-unit.unit-iterator in
    let t = c.next.new.self in
    let on = unit_on c.loop-unit.units _ c.in-Some.unit (encode_utf16_pending s) (encode_utf16_pending t)
    (encode_utf16_rest s)
    (encode_utf16_rest t) c.loop-unit.invariant.text c.loop-unit.invariant.same c.in-Some.ensures.steps in
    record {
      text = on.0;
      same = ap
          (λ (u : List ℕ). u ++ (encode_utf16_pending t ++ units_of (encode_utf16_rest t))) c.in_ok-push.ensures ∙ on.1;
    }

pub returns-clause-written : goal.returns-clause-written
returns-clause-written c =
    let s = c.loop-unit.unit-iterator in
    units_at_end c.loop-unit.units _ (encode_utf16_pending s)
    (encode_utf16_rest s) c.in-None.ensures.steps.0 c.in-None.ensures.steps.1 c.loop-unit.invariant.same

pub returns-clause-read_back : goal.returns-clause-read_back
returns-clause-read_back c = (rw c.as_str.ensures at c.as_str.utf8, sym (returns-clause-written c))
