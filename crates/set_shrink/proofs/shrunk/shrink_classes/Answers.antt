-- Answers of `shrink_classes`: what its calls ask for, and what it promises.
use Rattle.std.proofs.Common.{ap, ◌∙◌, arith}
use Rattle.std.proofs.lemmas.Result.{err_from_is_err_and}
use Rattle.class_pool.specs.Count.{item_count}
use Rattle.class_rename.specs.Names.{names_in}
use Rattle.set_shrink.specs.ShrunkSet.{counts_of}
use Rattle.set_shrink.proofs.Few.{shrunk_few}
use Rattle.set_shrink.proofs.Named.{named_shrunk, named_stops, named_writable}
use Rattle.set_shrink.proofs.shrunk.shrink_classes.Goals as goal

pub counts_of-counts-requires : goal.counts_of-counts-requires
counts_of-counts-requires g c = record {
  few =
      let few = shrunk_few c.args.classes c.args.marked.now in
      let kept = ap item_count (c.as_slice-2.ensures ∙ c.in_ok-kept.ensures) in
      omega (arith, few, kept, c.requires.few);
}

pub written_named-requires-clause-writable : goal.written_named-requires-clause-writable
written_named-requires-clause-writable g c κs within =
    named_writable c.args.classes c.args.marked.now c.args.rules.now c.args.old.now (names_in c.in_ok-names.names) c.in_ok-kept.kept
    c.in_ok-kept.ensures (c.in_ok-names.ensures c.args.rules.now c.args.classes c.requires.fixed) c.requires.writable

pub returns-in_err-written : goal.returns-in_err-written
returns-in_err-written g c =
    let p = err_from_is_err_and c.from_residual-in_err-written.result c.from_residual-in_err-written.ensures.1 in
    record {
      exact = rw (p.1, p.2)
          (named_stops c.args.classes c.args.marked.now c.args.rules.now c.args.old.now (names_in c.in_ok-names.names) c.in_ok-kept.kept
          c.in_ok-kept.ensures (c.in_ok-names.ensures c.args.rules.now c.args.classes c.requires.fixed)
          c.in_err-written.field-0.0 c.in_err-written.ensures.exact);
    }

pub returns : goal.returns
returns g c = record {
  exact = named_shrunk c.args.classes c.args.marked.now c.args.rules.now c.args.old.now (names_in c.in_ok-names.names)
      c.in_ok-kept.kept c.in_ok-kept.ensures
      (c.in_ok-names.ensures c.args.rules.now c.args.classes c.requires.fixed) c.in_ok-written.written
      c.counts_of-read.result c.counts_of-counts.result c.in_ok-written.ensures.exact
      (c.counts_of-read.ensures ∙ ap counts_of c.as_slice.ensures)
      (c.counts_of-counts.ensures ∙ ap counts_of c.as_slice-2.ensures);
}
