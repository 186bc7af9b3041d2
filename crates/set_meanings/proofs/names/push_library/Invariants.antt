use Rattle.std.proofs.Common.{◌≡◌, ◌++◌, drop, map}
use Rattle.lib_table.specs.Library.{library}
use Rattle.set_meanings.proofs.names.push_library.Given as goal

abbrev pub invariant-loop-name : goal.invariant-loop-name
invariant-loop-name l = l.names ++ map (λ name. name.now) (drop l.name-index l.name-items)
    ≡ l.fn.names ++ map (λ c. c.name) library
