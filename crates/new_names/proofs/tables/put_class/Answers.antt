-- Answers of `put_class`: what its calls ask for, and what it promises.
use Rattle.std.proofs.Common.{◌≡◌, ℕ, List, Some, subst}
use Rattle.std.specs.Prelude.{if◌then◌else◌, OnOk}
use Rattle.std.specs.Borrow.{Bor}
use Rattle.std.specs.Map.{lookup}
use Rattle.std.specs.Option.{option_map}
use Rattle.jv_base.specs.Names.{is_text}
use Rattle.mapping_file.specs.declared.mapping.MapClass.{MapClass}
use Rattle.new_names.proofs.tables.put_class.Goals as goal

pub returns : goal.returns
returns c = subst
    (λ (k : List ℕ). OnOk c.put_line.result ((name : List ℕ)
    → option_map (λ (l : Bor MapClass). l.now) (lookup (is_text name) c.put_line.new.table)
    ≡ (if is_text k name then Some c.args.line.now
    else option_map (λ (l : Bor MapClass). l.now) (lookup (is_text name) c.args.table.now))))
    c.in_ok-old.ensures.cases c.put_line.ensures
