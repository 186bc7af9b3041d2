-- Answers of `write_files`: what its calls ask for, and what it promises.
use Rattle.std.proofs.Common.{arith, ◌≡◌, ◌++◌, ◌∷◌, List, [], Ok, Err, refl, sym, subst}
use Rattle.std.proofs.lemmas.List.{append-nil}
use Rattle.std.proofs.lemmas.Result.{err_from_is_err_and}
use Rattle.tree_io.specs.Runs.{Tells}
use Rattle.tree_io.specs.declared.event.Event.TheVariants.{Wrote}
use Rattle.tree_io.proofs.Runs.{tells_none}
use Rattle.class_files.proofs.Puts.{put_more, put_stops, there}
use Rattle.class_files.proofs.output.write_files.Goals as goal

pub loop-file-init : goal.loop-file-init
loop-file-init g c = record {
  later = omega arith;
  written = (
    [],
    sym (append-nil _),
    tells_none _,
    (record { wrote = refl; missed = refl; had_memory = refl }, λ old new run. run),
  );
}

pub loop-file-preserved : goal.loop-file-preserved
loop-file-preserved g c = record {
  later = omega (arith, c.loop-file.invariant.later, c.in_ok-write.ensures.later);
  written =
      let f = c.file-item.result in
      let e = c.as_slice-file-items.ensures in
      let lt = rw e at c.loop-file-test.true in
      let is = rw e at c.file-item.is in
      let calls = λ (bytes : List _). Wrote f.path bytes (Ok tt) ∷ [] in
      put_more c.args.files.now c.loop-file.file-index f _ _ _ _ _ _ lt is c.loop-file.invariant.written (
        calls f.bytes,
        subst (λ (b : List _). g.T.Tree.log c.write.new.self
            ≡ g.T.Tree.log c.loop-file.tree ++ calls b) c.as_slice.ensures c.in_ok-write.ensures.log,
        subst (λ (b : List _). Tells (g.T.Tree.files c.loop-file.tree) (g.T.Tree.files c.write.new.self)
            (calls b)) c.as_slice.ensures c.in_ok-write.ensures.fits,
        refl,
      );
}

pub returns-in_err-write-clause-written : goal.returns-in_err-write-clause-written
returns-in_err-write-clause-written g c =
    let p = err_from_is_err_and c.from_residual.result c.from_residual.ensures.1 in
    let f = c.file-item.result in
    let e = c.as_slice-file-items.ensures in
    let lt = rw e at c.loop-file-test.true in
    let is = rw e at c.file-item.is in
    let fault = c.in_err-write.field-0.0 in
    let calls = λ (bytes : List _). Wrote f.path bytes (Err fault) ∷ [] in
    rw (p.1, p.2)
    (put_stops c.args.files.now c.loop-file.file-index f fault _ _ _ _ _ _
    (there c.args.files.now c.loop-file.file-index f lt is) c.loop-file.invariant.written (
      calls f.bytes,
      subst (λ (b : List _). g.T.Tree.log c.write.new.self
          ≡ g.T.Tree.log c.loop-file.tree ++ calls b) c.as_slice.ensures c.in_err-write.ensures.log,
      subst (λ (b : List _). Tells (g.T.Tree.files c.loop-file.tree) (g.T.Tree.files c.write.new.self)
          (calls b)) c.as_slice.ensures c.in_err-write.ensures.fits,
      refl,
    ))
