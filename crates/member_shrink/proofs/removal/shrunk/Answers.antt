-- Answers of `shrunk`: what its calls ask for, and what it promises.
use Rattle.std.proofs.Common.{◌≡◌, ℕ, ◌+◌, List, ◌++◌, length, ap, subst, sym, ◌∙◌, arith}
use Rattle.std.specs.Vec.Iter.{into_iter_items}
use Rattle.class_model.specs.declared.class.Class.{Class}
use Rattle.class_pool.specs.Count.{item_count, items_of}
use Rattle.member_shrink.specs.Shrunk.{shrunk}
use Rattle.member_shrink.proofs.Left.{left_from, left_all, left_more, items_more}
use Rattle.member_shrink.proofs.removal.shrunk.Goals as goal

pub loop-class-init : goal.loop-class-init
loop-class-init c =
    let all : into_iter_items c.into_iter-class-iterator.result
    ≡ c.args.classes = c.into_iter-class-iterator.ensures.into_iter_gives.0 ∙ c.into_vec-class-items.ensures in
    record {
      kept = rw c.new-kept.ensures (rw all (sym (left_all c.as_slice-marks.result.now c.args.classes)));
      left = rw all (omega (arith, ap length (c.as_slice-marks.ensures ∙ c.marks.ensures), c.requires));
    }

pub loop-class-preserved : goal.loop-class-preserved
loop-class-preserved c =
    let marks = c.as_slice-marks.result.now in
    let item : ℕ = c.loop-class.item in
    let class : Class = c.in-Some.class in
    let all = shrunk c.args.classes marks in
    let rest = into_iter_items c.next.new.self in
    let first = c.in-Some.ensures.steps.0 in
    let behind : item + 1 + c.len.result + c.len-in-loop-class.result
    ≡ item + items_of class = omega (arith, c.len.ensures, c.len-in-loop-class.ensures) in
    record {
      kept =
          rw behind
          (left_more marks item class rest c.loop-class.kept c.keep_class.new.kept all
          (subst (λ (t : List Class). c.loop-class.kept ++ left_from marks item t
          ≡ all) first c.loop-class.invariant.kept) c.in_ok-keep_class.ensures);
      left = rw behind (omega (arith, items_more class rest, ap item_count first, c.loop-class.invariant.left));
    }
