-- What has to be kept of a set that passes no limit is the system of its requirements.
use Rattle.std.proofs.Common.{◌≡◌, ℕ, Bool, true, false, cond, nat_lt, List, length, Result, Ok, Err, sym}
use Rattle.mark_core.specs.declared.system.System.{System}
use Rattle.class_model.specs.declared.class.Class.{Class}
use Rattle.keep_rules.specs.declared.rules.Rules.{Rules}
use Rattle.require_sys.specs.Limits.{counted_limit, limited, need_count, within_limit}
use Rattle.rule_system.specs.Required.{required, system_due}
use Rattle.require_sys.specs.declared.limits.Counted.{Counted}
use Rattle.require_sys.specs.declared.limits.Counted.TheVariants.{Items, Needs, Pairs}
use Rattle.require_sys.specs.declared.limits.TooMany.{TooMany}

passed_by : (passes : Bool) (many : TooMany) (behind : Result System TooMany) (sys : System)
    → (let R : Result System TooMany = cond passes (Err many) behind in R) ≡ Ok sys → behind ≡ Ok sys
passed_by true many behind sys h = absurd cc
passed_by false many behind sys h = h

passed : (what : Counted) (count : ℕ) (behind : Result System TooMany) (sys : System)
    → within_limit what count behind ≡ Ok sys → behind ≡ Ok sys
passed what count behind sys h =
    passed_by (nat_lt (counted_limit what) count) (record { what = what; count = count }) behind sys h

same_system : (all sys : System) → (let R : Result System TooMany = Ok all in R) ≡ Ok sys → all ≡ sys
same_system all sys h = cc

-- a system that passes no limit is as it was
within_is : (all sys : System) → limited all ≡ Ok sys → all ≡ sys
within_is all sys h =
    let pairs : Result System TooMany = within_limit Pairs (length all.pairs) (Ok all) in
    let needs : Result System TooMany = within_limit Needs (need_count all) pairs in
    same_system all sys
    (passed Pairs (length all.pairs) (Ok all) sys
    (passed Needs (need_count all) pairs sys (passed Items all.n needs sys h)))

pub due_is : (classes : List Class) (rules : Rules) (sys : System) → system_due classes rules ≡ Ok sys
    → sys ≡ required classes rules
unfolding system_due
due_is classes rules sys h = sym (within_is (required classes rules) sys h)
