-- Answers of `code_contents`: what its calls ask for, and what it promises.
use Rattle.std.proofs.Common.{rules, ◌≡◌, ℕ, ◌<◌, ◌^◌, List, [], ◌++◌, length, None, arith, sym, ap, subst, ◌∙◌}
use Rattle.std.specs.Prelude.{All}
use Rattle.class_model.specs.CanonicalCode.{places}
use Rattle.class_write.specs.declared.placing.PlacedCode.{PlacedCode}
use Rattle.class_write.proofs.PlacedCodes.{places_short}
use Rattle.class_model.specs.CanonicalClass.{code_contents, line_rows, line_table}
use Rattle.class_model.specs.Frames.{stack_map_table}
use Rattle.class_model.specs.CanonicalFrames.{rows}
use Rattle.class_write.specs.bodies.Writing.{items_text}
use Rattle.class_write.proofs.CodeLengths.{lines_info, frames_info, length_is, due_long, due_short, written_is}
use Rattle.class_write.proofs.contents.code_contents.Goals as goal

pub line_table-requires-clause-places : goal.line_table-requires-clause-places
line_table-requires-clause-places c =
    let pool = c.args.pool.now in
    let ins = c.args.code.now.ins in
    subst (λ (ps : List ℕ). All (λ place. place < 2 ^ 16) ps)
    (sym (c.as_slice.ensures ∙ ap (λ (p : PlacedCode). p.places) c.requires.placed))
    (places_short pool (2 ^ 16) (places pool ins) ins c.requires.code.code_length)

pub write_frames_with-requires-clause-starts : goal.write_frames_with-requires-clause-starts
write_frames_with-requires-clause-starts c =
    let pool = c.args.pool.now in
    let ins = c.args.code.now.ins in
    subst (λ (ps : List ℕ). All (λ place. place < 2 ^ 16) ps)
    (sym (ap (λ (p : PlacedCode). p.places) c.requires.placed))
    (places_short pool (2 ^ 16) (places pool ins) ins c.requires.code.code_length)

pub contents_length-length-requires-clause-lines : goal.contents_length-length-requires-clause-lines
contents_length-length-requires-clause-lines c =
    let lines : c.len-2.result ≡ length c.in_ok-lines.lines.items = search rules in
    rw lines c.in_ok-lines.ensures.short

pub returns-then-length-gt4294967295-clause-due : goal.returns-then-length-gt4294967295-clause-due
returns-then-length-gt4294967295-clause-due c =
    let pool = c.args.pool.now in
    let first = c.args.first.now.locals in
    let code = c.args.code.now in
    let places_are = ap (λ (p : PlacedCode). p.places) c.requires.placed in
    let there : c.as_slice.result.now ≡ places pool code.ins = c.as_slice.ensures ∙ places_are in
    let lines_are : c.in_ok-lines.lines.items ≡ lines_info pool first code =
    c.in_ok-lines.ensures.table ∙ (λ i. line_table pool (line_rows None (there i) (c.as_slice-2.ensures i))) in
    let frames_are : c.into_vec-frames.result.items ≡ frames_info pool first code =
    c.into_vec-frames.ensures
    ∙ (c.in_ok-write_frames_with.ensures.canonical
    ∙ ap (λ (ps : List ℕ). stack_map_table (rows pool ps first None code.frames)) places_are) in
    let lines_length : c.len-2.result ≡ length c.in_ok-lines.lines.items = search rules in
    let frames_length : c.len-3.result ≡ length c.into_vec-frames.result.items = search rules in
    let long : length (code_contents pool first code) ≡ c.contents_length-length.result =
    length_is pool first code c.len.result c.len-2.result c.len-3.result
    (c.len.ensures ∙ ap (λ (p : PlacedCode). length p.bytes) c.requires.placed)
    (lines_length ∙ ap length lines_are) (frames_length ∙ ap length frames_are)
    ∙ sym c.contents_length-length.ensures in
    due_long pool first code c.contents_length-length.result long c.if-length-gt4294967295.true

pub returns-clause-due : goal.returns-clause-due
returns-clause-due c =
    let pool = c.args.pool.now in
    let first = c.args.first.now.locals in
    let code = c.args.code.now in
    let places_are = ap (λ (p : PlacedCode). p.places) c.requires.placed in
    let there : c.as_slice.result.now ≡ places pool code.ins = c.as_slice.ensures ∙ places_are in
    let lines_are : c.in_ok-lines.lines.items ≡ lines_info pool first code =
    c.in_ok-lines.ensures.table ∙ (λ i. line_table pool (line_rows None (there i) (c.as_slice-2.ensures i))) in
    let frames_are : c.into_vec-frames.result.items ≡ frames_info pool first code =
    c.into_vec-frames.ensures
    ∙ (c.in_ok-write_frames_with.ensures.canonical
    ∙ ap (λ (ps : List ℕ). stack_map_table (rows pool ps first None code.frames)) places_are) in
    let lines_length : c.len-2.result ≡ length c.in_ok-lines.lines.items = search rules in
    let frames_length : c.len-3.result ≡ length c.into_vec-frames.result.items = search rules in
    let long : length (code_contents pool first code) ≡ c.contents_length-length.result =
    length_is pool first code c.len.result c.len-2.result c.len-3.result
    (c.len.ensures ∙ ap (λ (p : PlacedCode). length p.bytes) c.requires.placed)
    (lines_length ∙ ap length lines_are) (frames_length ∙ ap length frames_are)
    ∙ sym c.contents_length-length.ensures in
    let items_are : c.put_items.new.out.items ≡ [] ++ items_text pool code =
    c.in_ok-put_items.ensures ∙ ap (λ (xs : List ℕ). xs ++ items_text pool code) c.new-info.ensures.items in
    let whole : c.put_tables.new.out.items ≡ code_contents pool first code =
    written_is pool first code c.put_items.new.out.items c.put_tables.new.out.items c.deref.result.now
    c.deref-2.result.now items_are
    (c.deref.ensures.value ∙ lines_are) (c.deref-2.ensures.value ∙ frames_are) c.in_ok-put_tables.ensures in
    due_short pool first code c.contents_length-length.result c.put_tables.new.out.items long
    c.if-length-gt4294967295.false whole

pub returns-clause-short : goal.returns-clause-short
returns-clause-short c =
    let pool = c.args.pool.now in
    let first = c.args.first.now.locals in
    let code = c.args.code.now in
    let places_are = ap (λ (p : PlacedCode). p.places) c.requires.placed in
    let there : c.as_slice.result.now ≡ places pool code.ins = c.as_slice.ensures ∙ places_are in
    let lines_are : c.in_ok-lines.lines.items ≡ lines_info pool first code =
    c.in_ok-lines.ensures.table ∙ (λ i. line_table pool (line_rows None (there i) (c.as_slice-2.ensures i))) in
    let frames_are : c.into_vec-frames.result.items ≡ frames_info pool first code =
    c.into_vec-frames.ensures
    ∙ (c.in_ok-write_frames_with.ensures.canonical
    ∙ ap (λ (ps : List ℕ). stack_map_table (rows pool ps first None code.frames)) places_are) in
    let lines_length : c.len-2.result ≡ length c.in_ok-lines.lines.items = search rules in
    let frames_length : c.len-3.result ≡ length c.into_vec-frames.result.items = search rules in
    let long : length (code_contents pool first code) ≡ c.contents_length-length.result =
    length_is pool first code c.len.result c.len-2.result c.len-3.result
    (c.len.ensures ∙ ap (λ (p : PlacedCode). length p.bytes) c.requires.placed)
    (lines_length ∙ ap length lines_are) (frames_length ∙ ap length frames_are)
    ∙ sym c.contents_length-length.ensures in
    let items_are : c.put_items.new.out.items ≡ [] ++ items_text pool code =
    c.in_ok-put_items.ensures ∙ ap (λ (xs : List ℕ). xs ++ items_text pool code) c.new-info.ensures.items in
    let whole : c.put_tables.new.out.items ≡ code_contents pool first code =
    written_is pool first code c.put_items.new.out.items c.put_tables.new.out.items c.deref.result.now
    c.deref-2.result.now items_are
    (c.deref.ensures.value ∙ lines_are) (c.deref-2.ensures.value ∙ frames_are) c.in_ok-put_tables.ensures in
    omega (arith, ap length whole, long, c.if-length-gt4294967295.false)
