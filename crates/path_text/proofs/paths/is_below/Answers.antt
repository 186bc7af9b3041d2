-- Answers of `is_below`: what its calls ask for, and what it promises.
use Rattle.path_text.proofs.Below.{below_rest, not_below}
use Rattle.path_text.proofs.paths.is_below.Goals as goal

pub returns-in-Some : goal.returns-in-Some
returns-in-Some c =
    let f = rw (c.as_bytes.ensures.value, c.as_bytes-2.ensures.value) at c.in-Some.ensures.found in
    below_rest c.args.path.now c.args.directory.now c.in-Some.rest.now _ f.0 f.1 c.begins_with_slash.ensures

pub returns-in-None : goal.returns-in-None
returns-in-None c = not_below c.args.path.now c.args.directory.now
    (rw (c.as_bytes.ensures.value, c.as_bytes-2.ensures.value) at c.in-None.ensures.none)
