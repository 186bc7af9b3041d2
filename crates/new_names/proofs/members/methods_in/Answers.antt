-- Answers of `methods_in`: what its calls ask for, and what it promises.
use Rattle.std.proofs.Common.{ℕ, List, [], sym, subst, refl}
use Rattle.std.proofs.lemmas.List.{append-nil}
use Rattle.new_names.specs.NewNames.{NameAndType, method_lines}
use Rattle.new_names.specs.bodies.Tables.{TellsMembers}
use Rattle.new_names.proofs.members.methods_in.Goals as goal

pub returns : goal.returns
returns c =
    subst (TellsMembers c.put_methods.new.table) (append-nil (method_lines c.args.lines.now))
    (c.in_ok-put_methods.ensures []
    (subst (λ (t : List (NameAndType × List ℕ)). TellsMembers t []) (sym c.new-table.ensures) (λ key. refl)))
