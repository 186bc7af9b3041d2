-- What always holds of the table.
use Rattle.std.specs.Prelude.{◌≡◌, ◌≤◌, ◌<◌, true, length}
use Rattle.atomic_table.specs.Table.{State}
use Rattle.mark_machine.specs.declared.machine.View.{View}
use Rattle.mark_core.specs.Valid.{Valid}
use Rattle.mark_machine.specs.Machine.{nobody}
use Rattle.mark_machine.specs.Invariant.{Inv}
use Rattle.mark_machine.specs.Counts.{total, EachView}
use Rattle.mark_words.specs.declared.rule.Plan.{Plan}
use Rattle.mark_words.specs.Words.{machine_of, word_count}

abbrev pub first_view : Plan → View
first_view p = record nobody { standing = true; seats = p.seats; all = p.seats }

pub record Ruled (p : Plan) (s : State (Unit {0}) View) : Type 0 where
  pub valid : Valid p.system.value
  pub narrow : p.system.value.n < 4294967296
  pub wide : length s.words ≡ word_count p.system.value.n
  pub inv : Inv p.system.value (machine_of s.words s.views)
  -- the seats add up to those asked for, and a view of none is nobody's
  pub seats : total (λ v. v.seats) s.views ≡ p.seats
  pub few : p.seats ≤ 65
  pub spent : EachView (λ v. v.seats ≡ 0 → v ≡ nobody) s.views
  pub each_all : EachView (λ v. 0 < v.seats → v.all ≡ p.seats) s.views
