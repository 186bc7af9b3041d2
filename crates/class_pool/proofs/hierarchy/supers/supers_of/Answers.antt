-- Answers of `supers_of`: what its calls ask for, and what it promises.
use Rattle.std.proofs.Common.{◌≡◌, ◌∙◌, ◌+◌, ◌≤◌, ◌++◌, ◌∷◌, List, length, sym, ap, subst, arith}
use Rattle.std.specs.List.{flat_map}
use Rattle.lib_table.specs.Library.{library}
use Rattle.lib_table.proofs.Computed.{count}
use Rattle.class_pool.specs.declared.id.ClassId.{ClassId}
use Rattle.class_pool.specs.bodies.Lists.{list_at}
use Rattle.class_pool.specs.bodies.Marked.{Classes}
use Rattle.class_pool.specs.Supers.{IsSupers}
use Rattle.class_pool.specs.Walk.{each_once, supers}
use Rattle.class_pool.proofs.Graphing.{library_length}
use Rattle.class_pool.proofs.SupersLaws.{chain_below, lists_below, supers_met, supers_proper}
use Rattle.class_pool.proofs.SupersLaws.{without_first}
use Rattle.class_pool.proofs.hierarchy.supers.supers_of.Goals as goal

pub overflow_add-count : goal.overflow_add-count
overflow_add-count c =
    let long = library_length c.args.library.now c.requires.library in
    omega (arith, long, count, c.len.ensures, c.len-2.ensures)

pub meet_all-requires-clause-below : goal.meet_all-requires-clause-below
meet_all-requires-clause-below c =
    let long = library_length c.args.library.now c.requires.library in
    let few : length c.args.classes.now ≤ 4294967295 = omega (arith, c.len-2.ensures) in
    let total : c.len.result + c.len-2.result
    ≡ length library + length c.args.classes.now = omega (arith, long, c.len.ensures, c.len-2.ensures) in
    chain_below c.args.classes.now c.args.id.now c.in_ok-met.met.count c.args.chain.now c.requires.there
    c.requires.chain
    (ap (λ (m : Classes). m.count) c.in_ok-met.ensures ∙ total)

pub meet_lists-requires-clause-count : goal.meet_lists-requires-clause-count
meet_lists-requires-clause-count c =
    let long = library_length c.args.library.now c.requires.library in
    let total : c.len.result + c.len-2.result
    ≡ length library + length c.args.classes.now = omega (arith, long, c.len.ensures, c.len-2.ensures) in
    c.requires.own.count ∙ sym (c.meet_all.ensures.count ∙ ap (λ (m : Classes). m.count) c.in_ok-met.ensures ∙ total)

pub meet_lists-requires-clause-lists : goal.meet_lists-requires-clause-lists
meet_lists-requires-clause-lists c =
    let long = library_length c.args.library.now c.requires.library in
    let total : c.len.result + c.len-2.result
    ≡ length library + length c.args.classes.now = omega (arith, long, c.len.ensures, c.len-2.ensures) in
    lists_below c.args.classes.now c.args.superinterfaces.now c.meet_all.new.self.count c.requires.own
    (c.meet_all.ensures.count ∙ ap (λ (m : Classes). m.count) c.in_ok-met.ensures ∙ total)

pub meet_lists-requires-clause-below : goal.meet_lists-requires-clause-below
meet_lists-requires-clause-below c =
    let long = library_length c.args.library.now c.requires.library in
    let few : length c.args.classes.now ≤ 4294967295 = omega (arith, c.len-2.ensures) in
    let total : c.len.result + c.len-2.result
    ≡ length library + length c.args.classes.now = omega (arith, long, c.len.ensures, c.len-2.ensures) in
    chain_below c.args.classes.now c.args.id.now c.meet_all.new.self.count c.args.chain.now c.requires.there
    c.requires.chain
    (c.meet_all.ensures.count ∙ ap (λ (m : Classes). m.count) c.in_ok-met.ensures ∙ total)

pub remove-requires : goal.remove-requires
remove-requires c =
    let long = library_length c.args.library.now c.requires.library in
    let few : length c.args.classes.now ≤ 4294967295 = omega (arith, c.len-2.ensures) in
    let total : c.len.result + c.len-2.result
    ≡ length library + length c.args.classes.now = omega (arith, long, c.len.ensures, c.len-2.ensures) in
    let up : List ClassId = c.args.chain.now in
    let one : c.meet_all.new.self.ids ≡ c.in_ok-met.met.ids ++ each_once c.in_ok-met.met.ids up =
    c.in_ok-meet_all.ensures.ids in
    let two : c.meet_lists.new.met.ids
    ≡ c.meet_all.new.self.ids ++ each_once c.meet_all.new.self.ids
    (flat_map (list_at c.args.superinterfaces.now) up) =
    c.in_ok-meet_lists.ensures in
    let ids : c.into_vec-ids.result.items ≡ c.args.id.now ∷ supers c.args.classes.now c.args.id.now =
    c.into_vec-ids.ensures ∙ c.take.ensures.ids
    ∙ supers_met c.args.classes.now c.args.superinterfaces.now c.args.id.now up c.in_ok-met.met.ids
    c.meet_all.new.self.ids
    c.meet_lists.new.met.ids c.requires.own c.requires.there c.requires.chain
    (ap (λ (m : Classes). m.ids) c.in_ok-met.ensures) one two in
    let some = ap length ids in
    omega (arith, some, c.into_vec-ids.result.ok)

pub returns-clause-order : goal.returns-clause-order
returns-clause-order c =
    let long = library_length c.args.library.now c.requires.library in
    let few : length c.args.classes.now ≤ 4294967295 = omega (arith, c.len-2.ensures) in
    let total : c.len.result + c.len-2.result
    ≡ length library + length c.args.classes.now = omega (arith, long, c.len.ensures, c.len-2.ensures) in
    let up : List ClassId = c.args.chain.now in
    let one : c.meet_all.new.self.ids ≡ c.in_ok-met.met.ids ++ each_once c.in_ok-met.met.ids up =
    c.in_ok-meet_all.ensures.ids in
    let two : c.meet_lists.new.met.ids
    ≡ c.meet_all.new.self.ids ++ each_once c.meet_all.new.self.ids
    (flat_map (list_at c.args.superinterfaces.now) up) =
    c.in_ok-meet_lists.ensures in
    let ids : c.into_vec-ids.result.items ≡ c.args.id.now ∷ supers c.args.classes.now c.args.id.now =
    c.into_vec-ids.ensures ∙ c.take.ensures.ids
    ∙ supers_met c.args.classes.now c.args.superinterfaces.now c.args.id.now up c.in_ok-met.met.ids
    c.meet_all.new.self.ids
    c.meet_lists.new.met.ids c.requires.own c.requires.there c.requires.chain
    (ap (λ (m : Classes). m.ids) c.in_ok-met.ensures) one two in
    c.from_vec.ensures ∙ c.remove.ensures.items
    ∙ without_first c.args.id.now (supers c.args.classes.now c.args.id.now) c.into_vec-ids.result.items ids

pub returns-clause-are : goal.returns-clause-are
returns-clause-are c =
    let long = library_length c.args.library.now c.requires.library in
    let few : length c.args.classes.now ≤ 4294967295 = omega (arith, c.len-2.ensures) in
    let total : c.len.result + c.len-2.result
    ≡ length library + length c.args.classes.now = omega (arith, long, c.len.ensures, c.len-2.ensures) in
    let up : List ClassId = c.args.chain.now in
    let one : c.meet_all.new.self.ids ≡ c.in_ok-met.met.ids ++ each_once c.in_ok-met.met.ids up =
    c.in_ok-meet_all.ensures.ids in
    let two : c.meet_lists.new.met.ids
    ≡ c.meet_all.new.self.ids ++ each_once c.meet_all.new.self.ids
    (flat_map (list_at c.args.superinterfaces.now) up) =
    c.in_ok-meet_lists.ensures in
    let ids : c.into_vec-ids.result.items ≡ c.args.id.now ∷ supers c.args.classes.now c.args.id.now =
    c.into_vec-ids.ensures ∙ c.take.ensures.ids
    ∙ supers_met c.args.classes.now c.args.superinterfaces.now c.args.id.now up c.in_ok-met.met.ids
    c.meet_all.new.self.ids
    c.meet_lists.new.met.ids c.requires.own c.requires.there c.requires.chain
    (ap (λ (m : Classes). m.ids) c.in_ok-met.ensures) one two in
    let is : c.from_vec.result ≡ supers c.args.classes.now c.args.id.now =
    c.from_vec.ensures ∙ c.remove.ensures.items
    ∙ without_first c.args.id.now (supers c.args.classes.now c.args.id.now) c.into_vec-ids.result.items ids in
    subst (IsSupers c.args.classes.now c.args.id.now) (sym is)
    (supers_proper c.args.classes.now c.requires.ranks c.requires.object c.args.id.now few c.requires.there)
