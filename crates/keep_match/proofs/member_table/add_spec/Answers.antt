-- Answers of `add_spec`: what its calls ask for, and what it promises.
use Rattle.std.proofs.Common.{rules, ◌≡◌, refl, arith}
use Rattle.keep_match.proofs.TableLaw.{adds_other, adds_put, name_stays}
use Rattle.keep_match.proofs.member_table.add_spec.Goals as goal

pub returns-then-place-len : goal.returns-then-place-len
returns-then-place-len c =
    adds_other c.args.number c.args.spec.now c.args.table.now _
    (λ other p. name_stays c.keep.result c.args.table.now.names c.keep.new.self c.in_ok-name.name other p
    c.keep.ensures.keys)
    refl c.in_ok-push-2.ensures.items

pub returns : goal.returns
returns c =
    let same : c.in_ok-name.name ≡ c.args.spec.now.name = search rules in
    adds_put c.put.result c.args.number c.args.spec.now c.args.table.now _ c.in_ok-name.name c.in_ok-place.place
    (c.is_named.ensures c.if-not-is_named.false) same c.in_ok-place.ensures.place
    (λ other p. name_stays c.keep.result c.args.table.now.names c.keep.new.self c.in_ok-name.name other p
    c.keep.ensures.keys)
    (omega (arith, c.if-place-len.false, c.len.ensures)) c.put.ensures refl
