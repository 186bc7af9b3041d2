-- Answers of `code_differs`: what its calls ask for, and what it promises.
use Rattle.std.proofs.Common.{map, ap, sym, ◌∙◌, arith}
use Rattle.std.specs.Option.{option_map}
use Rattle.std.proofs.lemmas.Option.{slice_get-map}
use Rattle.jv_base.proofs.Lists.{all_at, got_mapped}
use Rattle.class_model.specs.declared.class.Class.{Class}
use Rattle.new_names.specs.declared.class_names.ClassNames.{ClassNames}
use Rattle.pair_clauses.specs.Codes.{ClassCodeDiffers}
use Rattle.pair_clauses.specs.Members.{expected_methods, new_one}
use Rattle.pair_clauses.proofs.Searching.{from_done, from_here, from_on}
use Rattle.pair_clauses.proofs.Zipped.{beyond, got, zip_done, zip_ends}
use Rattle.pair_edits.specs.Entries.{edited_class}
use Rattle.pair_edits.specs.Sound.{HasSoundCodes}
use Rattle.pair_edits.proofs.codes.code_differs.Goals as goal

pub class_code_differs-requires : goal.class_code_differs-requires
class_code_differs-requires c = record {
  sound = all_at HasSoundCodes c.args.input.now c.loop-number.number c.class-class.result.now
      c.requires.sound c.class-class.ensures.is;
}

pub returns-in_default : goal.returns-in_default
returns-in_default c =
    let edit = edited_class c.args.entries.now in
    from_done (λ (p : Class × ClassNames). ClassCodeDiffers c.args.names.now c.args.filter.now p.0
    (expected_methods p.0 p.1) (new_one c.args.output.now p.1))
    (map edit c.args.input.now) c.args.given.now c.loop-number.number c.loop-number.invariant
    (sym (zip_ends (map edit c.args.input.now) c.args.given.now c.loop-number.number
    (beyond c.args.given.now c.loop-number.number c.in_default.ensures.lookup.3)))

pub returns : goal.returns
returns c =
    let edit = edited_class c.args.entries.now in
    from_done (λ (p : Class × ClassNames). ClassCodeDiffers c.args.names.now c.args.filter.now p.0
    (expected_methods p.0 p.1) (new_one c.args.output.now p.1))
    (map edit c.args.input.now) c.args.given.now c.loop-number.number c.loop-number.invariant
    (sym (zip_done (map edit c.args.input.now) c.args.given.now c.loop-number.number
    (slice_get-map edit c.args.input.now c.loop-number.number
    ∙ ap (option_map edit) (beyond c.args.input.now c.loop-number.number (omega arith)))))

pub returns-then-is_some : goal.returns-then-is_some
returns-then-is_some c =
    let edit = edited_class c.args.entries.now in
    let new = c.in-Some.new.now in
    let read = got c.args.given.now c.loop-number.number new c.in-Some.ensures.lookup.3.0 c.in-Some.ensures.lookup.1 in
    from_here (λ (p : Class × ClassNames). ClassCodeDiffers c.args.names.now c.args.filter.now p.0
    (expected_methods p.0 p.1) (new_one c.args.output.now p.1))
    (map edit c.args.input.now) c.args.given.now c.loop-number.number c.loop-number.invariant (edit c.class-class.result.now)
    new (got_mapped edit c.args.input.now c.loop-number.number c.class-class.result.now c.class-class.ensures.is) read
    c.in_ok-found.found (sym c.is_some.ensures ∙ c.if-is_some.true) c.in_ok-found.ensures

pub loop-number-preserved : goal.loop-number-preserved
loop-number-preserved c =
    let edit = edited_class c.args.entries.now in
    let new = c.in-Some.new.now in
    let read = got c.args.given.now c.loop-number.number new c.in-Some.ensures.lookup.3.0 c.in-Some.ensures.lookup.1 in
    from_on (λ (p : Class × ClassNames). ClassCodeDiffers c.args.names.now c.args.filter.now p.0
    (expected_methods p.0 p.1) (new_one c.args.output.now p.1))
    (map edit c.args.input.now) c.args.given.now c.loop-number.number c.loop-number.invariant (edit c.class-class.result.now)
    new (got_mapped edit c.args.input.now c.loop-number.number c.class-class.result.now c.class-class.ensures.is) read
    c.in_ok-found.found (sym c.is_some.ensures ∙ c.if-is_some.false) c.in_ok-found.ensures
