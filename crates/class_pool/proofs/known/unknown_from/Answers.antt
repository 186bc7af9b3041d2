-- Answers of `unknown_from`: what its calls ask for, and what it promises.
use Rattle.std.proofs.Common.{◌≡◌, ◌<◌, ◌++◌, [], ◌∷◌, length, subst, sym}
use Rattle.std.proofs.lemmas.List.Elements.{All-head, All-push, All-rest, All-same}
use Rattle.class_pool.specs.Hierarchy.{IsClass}
use Rattle.class_pool.proofs.known.unknown_from.Goals as goal

pub loop-class-preserved : goal.loop-class-preserved
loop-class-preserved g c =
    let put : c.push.new.self.items
    ≡ c.loop-class.unknown.items ++ c.in-Prog.number ∷ [] = c.in_ok-push-in-Prog.ensures.items in
    let class-in : IsClass c.args.set.now c.in-Some.class =
    All-head (IsClass c.args.set.now) c.in-Some.class c.next.new.self
    (All-same (IsClass c.args.set.now) (c.in-Some.class ∷ c.next.new.self) c.loop-class.class-iterator
    (sym c.in-Some.ensures.steps) c.loop-class.invariant.there) in
    let number-in : c.in-Prog.number < length c.args.set.now = subst (IsClass c.args.set.now) c.in-Prog.is class-in in
    record {
      there = All-rest
          (IsClass c.args.set.now) c.in-Some.class c.next.new.self c.loop-class.class-iterator c.in-Some.ensures.steps
          c.loop-class.invariant.there;
      below =
          All-same (λ n. n < length c.args.set.now) c.push.new.self.items
          (c.loop-class.unknown.items ++ c.in-Prog.number ∷ []) put
          (All-push
          (λ n. n < length c.args.set.now) c.loop-class.unknown.items c.in-Prog.number c.loop-class.invariant.below
          number-in);
    }
