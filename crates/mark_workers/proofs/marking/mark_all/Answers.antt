-- Answers of `mark_all`: what its calls ask for, and what it promises.
use Rattle.std.proofs.Common.{rules, ◌≡◌, ℕ, ◌+◌, ◌++◌, false, List, ap, drop, length, replicate, subst, sym, take, ◌∙◌}
use Rattle.std.specs.List.{All}
use Rattle.mark_core.specs.declared.system.System.{System}
use Rattle.mark_machine.specs.declared.machine.View.{View}
use Rattle.mark_words.specs.Seats.{MarkSeat, view, system_of}
use Rattle.mark_workers.specs.Ready.{Hired}
use Rattle.mark_workers.specs.Work.{Knows}
use Rattle.mark_workers.specs.declared.crew.Member.{Member}
use Rattle.mark_workers.proofs.Joining.{all_taken, first_out}
use Rattle.mark_workers.proofs.Known.{knows_none}
use Rattle.mark_workers.proofs.marking.mark_all.Goals as goal

pub join_all-requires-clause-crew : goal.join_all-requires-clause-crew
join_all-requires-clause-crew g c =
    let k : ℕ = c.args.workers + 1 in
    let made = c.in_ok-table.field-0 in
    let first = first_out c.args.sys.now k made c.into_vec-seats.result.items c.remove-first.new.self.items
    c.remove-first.result c.in_ok-table.ensures (search rules) c.remove-first.ensures.value
    c.remove-first.ensures.items in
    let named : (view c.seed.new.driver.seat).all ≡ k =
    c.seed.ensures.seats.1
    ∙ (ap (λ (s : MarkSeat). (view s).all) c.in_ok-driver.ensures.seat ∙ ap (λ (v : View). v.all) first.3) in
    let same : length c.work_all.new.crew ≡ c.in_ok-crew.crew.len = search rules in
    let rest : List Member = drop (length c.work_all.new.crew) c.in_ok-crew.crew.items in
    subst (λ (n : ℕ). All (Hired made.table n) (take c.in_ok-crew.crew.len (c.work_all.new.crew ++ rest))) (sym named)
    (all_taken (Hired made.table k) c.work_all.new.crew rest c.in_ok-crew.crew.len same c.work_all.ensures)

pub seed-requires-clause-knows : goal.seed-requires-clause-knows
seed-requires-clause-knows g c =
    let t = c.in_ok-table.field-0.table in
    let same : (system_of t).n ≡ c.args.sys.now.n = ap (λ (s : System). s.n) c.in_ok-table.ensures.0 in
    let v = view c.in_ok-driver.driver.seat in
    subst (Knows (system_of t).n v) (sym c.in_ok-driver.ensures.known)
    (subst (λ k. Knows (system_of t).n v (replicate k false)) same (knows_none (system_of t).n v))
