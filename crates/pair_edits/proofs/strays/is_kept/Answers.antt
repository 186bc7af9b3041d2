-- Answers of `is_kept`: what its calls ask for, and what it promises.
use Rattle.std.proofs.Common.{◌-◌, ◌&&◌, ◌∙◌, ℕ, Bool, Some, None, is_some, slice_get}
use Rattle.std.proofs.Common.{sym, ap, arith}
use Rattle.std.specs.Option.{option_copied}
use Rattle.class_pool.specs.declared.id.ClassId.TheVariants.{Prog}
use Rattle.new_names.specs.NewNames.{new_method}
use Rattle.pair_clauses.proofs.Zipped.{got}
use Rattle.pair_edits.proofs.Naming.{a_field, a_method, is_told, no_class, no_member, no_method, told_name}
use Rattle.pair_edits.proofs.strays.is_kept.Goals as goal

pub returns-in_default : goal.returns-in_default
returns-in_default c = λ mapping given. sym (no_class mapping c.args.input.now c.args.entry.now
    (λ n named. let found = c.find.ensures.found in let other = c.in_default.is in cc))

pub returns-in_default-3 : goal.returns-in_default-3
returns-in_default-3 c = λ mapping given. sym (no_class mapping c.args.input.now c.args.entry.now
    (λ n named. let found = c.find.ensures.found in let other = c.in_default.is in cc))

pub returns-in_default-declares : goal.returns-in_default-declares
returns-in_default-declares c = λ mapping given. sym (no_member mapping c.args.input.now c.args.entry.now
    c.in-Some-Prog.number (sym c.find.ensures.found ∙ c.in-Some-Prog.is ∙ ap Some c.in-Some-Prog.field-0-is)
    (sym c.declares.ensures ∙ c.in_default-declares.is))

pub returns-then-index-fields : goal.returns-then-index-fields
returns-then-index-fields c = λ mapping given. sym (a_field mapping c.args.input.now c.args.entry.now
    c.in-Some-Prog.number c.class-class.result.now
    (sym c.find.ensures.found ∙ c.in-Some-Prog.is ∙ ap Some c.in-Some-Prog.field-0-is)
    c.class-class.ensures.is c.in-Some.index (sym c.declares.ensures ∙ c.in-Some.is)
    (omega (arith, c.if-index-fields.true, c.len-fields.ensures)))

pub returns-in_default-2-2 : goal.returns-in_default-2-2
returns-in_default-2-2 c = λ mapping given. sym (no_method mapping c.args.input.now c.args.entry.now
    c.in-Some-Prog.number c.class-class.result.now
    (sym c.find.ensures.found ∙ c.in-Some-Prog.is ∙ ap Some c.in-Some-Prog.field-0-is)
    c.class-class.ensures.is c.in-Some.index (sym c.declares.ensures ∙ c.in-Some.is)
    (omega (arith, c.if-index-fields.false, c.len-fields.ensures))
    (sym (ap (λ (k : ℕ). slice_get c.class-class.result.now.methods (c.in-Some.index - k)) c.len-fields.ensures)
    ∙ sym c.get.ensures ∙ ap option_copied c.in_default-2.is-0))

pub returns-then-is_some : goal.returns-then-is_some
returns-then-is_some c = λ mapping given.
    let class = c.class-class.result.now in
    let method = c.in-Some-Some.method.now in
    let at = sym c.get.ensures ∙ ap option_copied c.in-Some-Some.is-0 in
    let names = got c.args.given.now c.in-Some-Prog.number c.in-Some-Some.names.now
    c.in-Some-Some.ensures'.lookup.3.0 c.in-Some-Some.ensures'.lookup.1 in
    let new = told_name mapping c.args.input.now c.args.given.now given c.in-Some-Prog.number class
    c.class-class.ensures.is c.in-Some-Some.names.now names (c.in-Some.index - c.len-fields.result) method at
    c.in-Some-get.new.now (sym c.get-3.ensures ∙ ap option_copied c.in-Some-get.is) in
    c.is_some-then-is_some.ensures ∙ ap is_some new
    ∙ ap (λ (b : Bool). b && is_some (new_method mapping class method)) (sym c.if-is_some.true ∙ c.is_some.ensures)
    ∙ sym (a_method mapping c.args.input.now c.args.entry.now c.in-Some-Prog.number class
    (sym c.find.ensures.found ∙ c.in-Some-Prog.is ∙ ap Some c.in-Some-Prog.field-0-is)
    c.class-class.ensures.is c.in-Some.index (sym c.declares.ensures ∙ c.in-Some.is)
    (omega (arith, c.if-index-fields.false, c.len-fields.ensures)) method
    (sym (ap (λ (k : ℕ). slice_get class.methods (c.in-Some.index - k)) c.len-fields.ensures) ∙ at))

pub returns-else-is_some : goal.returns-else-is_some
returns-else-is_some c = λ mapping given.
    let class = c.class-class.result.now in
    let method = c.in-Some-Some.method.now in
    let at = sym c.get.ensures ∙ ap option_copied c.in-Some-Some.is-0 in
    c.if-is_some.false
    ∙ sym (a_method mapping c.args.input.now c.args.entry.now c.in-Some-Prog.number class
    (sym c.find.ensures.found ∙ c.in-Some-Prog.is ∙ ap Some c.in-Some-Prog.field-0-is)
    c.class-class.ensures.is c.in-Some.index (sym c.declares.ensures ∙ c.in-Some.is)
    (omega (arith, c.if-index-fields.false, c.len-fields.ensures)) method
    (sym (ap (λ (k : ℕ). slice_get class.methods (c.in-Some.index - k)) c.len-fields.ensures) ∙ at)
    ∙ ap (λ (b : Bool). b && is_some (new_method mapping class method)) (sym c.is_some.ensures ∙ c.if-is_some.false))

pub returns-in-None : goal.returns-in-None
returns-in-None c = λ mapping given.
    let class = c.class-class.result.now in
    let method = c.in-Some-Some.method.now in
    let at = sym c.get.ensures ∙ ap option_copied c.in-Some-Some.is-0 in
    let names = got c.args.given.now c.in-Some-Prog.number c.in-Some-Some.names.now
    c.in-Some-Some.ensures'.lookup.3.0 c.in-Some-Some.ensures'.lookup.1 in
    absurd (is_told mapping c.args.input.now c.args.given.now given c.in-Some-Prog.number class
    c.class-class.ensures.is c.in-Some-Some.names.now names (c.in-Some.index - c.len-fields.result) method at
    (sym c.get-3.ensures ∙ ap option_copied c.in-None.is))
