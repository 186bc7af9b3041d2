-- Answers of `package_of`: what its calls ask for, and what it promises.
use Rattle.std.proofs.Common.{◌∙◌, ◌-◌, ◌≡◌, ℕ, ap, take, arith}
use Rattle.class_pool.specs.Found.{package_of}
use Rattle.class_pool.proofs.Packages.{behind_separator, without_separator}
use Rattle.method_places.proofs.places.package_of.Goals as goal
use Rattle.method_places.proofs.places.package_of.Goals.{then-loop-end-test+else-name-end-ne47, else-loop-end-test}

pub returns : goal.returns
returns c =
    let name = c.args.name.now in
    let front : take (c.loop-end.end - 1) name ≡ package_of name =
    elim c.loop-end-test.branch [
      | then-loop-end-test+else-name-end-ne47 w ↦ behind_separator name c.loop-end.end c.loop-end.invariant
          w.loop-end-test.true w.if-name-end-ne47.false
      | else-loop-end-test w ↦ without_separator name c.loop-end.end c.loop-end.invariant
          (omega (arith, w.loop-end-test.false))
    ] in
    ap (λ (n : ℕ). take n name) c.saturating_sub.ensures ∙ front
