use Rattle.std.proofs.Common.{◌≡◌, ◌++◌, drop, map}
use Rattle.std.specs.List.{filter}
use Rattle.code_edit.specs.Rewriting.{is_open, moved_handler}
use Rattle.edit_tables.specs.Places.{place_in}
use Rattle.edit_check.proofs.changing.left_handlers.Given as goal

abbrev pub invariant-loop-handler : goal.invariant-loop-handler
invariant-loop-handler l =
    l.left ++ filter is_open
    (map (moved_handler (place_in l.places)) (drop l.handler-index l.handlers))
    ≡ filter is_open (map (moved_handler (place_in l.places)) l.handlers)
