-- Answers of `methods_kind`: what its calls ask for, and what it promises.
use Rattle.std.proofs.Common.{List, [], ◌<◌, ◌≡◌, cond, length, take, ◌∙◌, ap, sym, arith}
use Rattle.std.specs.List.{flat_map}
use Rattle.std.proofs.lemmas.List.{take_all}
use Rattle.class_pool.specs.declared.id.ClassId.TheVariants.{Prog}
use Rattle.class_pool.specs.declared.id.MemberAt.{MemberAt}
use Rattle.class_pool.specs.Found.{is_instance_method, rows_in}
use Rattle.link_check.specs.declared.fault.ProfileKind.{ProfileKind}
use Rattle.link_check.specs.Profile.{least, selected_kinds}
use Rattle.link_check.proofs.Least.{least_more}
use Rattle.link_check.proofs.Methods.{flat_tested, member_at, members_count, members_of, rows_count}
use Rattle.link_check.proofs.overriding.implemented.methods_kind.Goals as goal

pub loop-index-preserved : goal.loop-index-preserved
loop-index-preserved c =
    let f : MemberAt → List ProfileKind = λ m. cond (is_instance_method c.args.set.now m)
    (selected_kinds c.args.set.now c.args.number m) [] in
    let m : MemberAt = record { class = Prog c.args.interface; index = c.loop-index.index } in
    let rows = rows_count c.args.set.now c.args.interface c.class-class.result.now c.class-class.ensures.is in
    let count = members_count c.args.set.now c.args.interface c.class-class.result.now c.class-class.ensures.is in
    let within : c.loop-index.index < length (rows_in c.args.set.now (Prog c.args.interface)) = omega
    (arith, rows, c.loop-index-test.true, c.len.ensures, c.len-2.ensures) in
    least_more f
    (members_of c.args.set.now c.args.interface) c.loop-index.index m c.loop-index.kind c.member_kind.result
    c.lesser-kind.result
    (omega (arith, count, c.loop-index-test.true, c.len.ensures, c.len-2.ensures))
    (member_at c.args.set.now c.args.interface c.loop-index.index m within)
    c.loop-index.invariant c.member_kind.ensures c.lesser-kind.ensures

pub returns : goal.returns
returns c =
    let f : MemberAt → List ProfileKind = λ m. cond (is_instance_method c.args.set.now m)
    (selected_kinds c.args.set.now c.args.number m) [] in
    let count = members_count c.args.set.now c.args.interface c.class-class.result.now c.class-class.ensures.is in
    let whole : take c.loop-index.index (members_of c.args.set.now c.args.interface)
    ≡ members_of c.args.set.now c.args.interface =
    take_all c.loop-index.index (members_of c.args.set.now c.args.interface)
    (omega (arith, count, c.loop-index-test.false, c.len.ensures, c.len-2.ensures)) in
    c.loop-index.invariant ∙ ap (λ (ms : List MemberAt). least (flat_map f ms)) whole
    ∙ ap least (sym (flat_tested (selected_kinds c.args.set.now c.args.number) (is_instance_method c.args.set.now)
    (members_of c.args.set.now c.args.interface)))
