-- Answers of `put_asked`: what its calls ask for, and what it promises.
use Rattle.std.proofs.Common.{List, ℕ, Option, set, subst, refl}
use Rattle.std.specs.Prelude.{IfSome}
use Rattle.type_verifier.specs.bodies.Asked.{IsStoodFor, StandsForPlace}
use Rattle.type_verifier.proofs.Asking.{asked_instead, asked_more, asked_same}
use Rattle.type_verifier.proofs.asked.put_asked.Goals as goal

pub returns-then-stood : goal.returns-then-stood
returns-then-stood c =
    asked_same c.args.code.now c.args.asked.now.items c.args.number c.requires.asked
    (subst (λ (numbers : List ℕ). IsStoodFor c.args.code.now numbers c.args.number) c.as_slice.ensures.value
    (c.in_ok-stood.ensures c.if-stood.true))

pub returns : goal.returns
returns c =
    asked_more c.args.code.now c.args.asked.now.items c.args.number c.requires.asked c.push.new.self.items
    c.requires.number c.in_ok-push.ensures.items

pub returns-in-Some : goal.returns-in-Some
returns-in-Some c =
    let code = c.args.code.now in
    let so = subst (λ (place : Option ℕ). IfSome place (StandsForPlace code c.as_slice-2.result.now c.args.number))
    c.in-Some.is
    c.in_ok-place.ensures in
    asked_instead code c.args.asked.now.items c.args.number c.requires.asked c.in-Some.at
    (set c.args.asked.now.items c.in-Some.at c.args.number) c.requires.number
    (subst (λ (numbers : List ℕ). StandsForPlace code numbers c.args.number c.in-Some.at) c.as_slice-2.ensures.value so)
    refl
