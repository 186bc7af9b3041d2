-- Answers of `usage_lines`: what its calls ask for, and what it promises.
use Rattle.std.proofs.Common.{◌≡◌, ◌≤◌, ℕ, ◌+◌, ◌++◌, List, length, Err, sym, ap, subst, ◌∙◌, arith}
use Rattle.std.specs.List.{enumerate_from, flat_map}
use Rattle.std.proofs.lemmas.List.{take_all}
use Rattle.std.proofs.lemmas.Result.{err_from_is_err_and}
use Rattle.list_texts.specs.bodies.Appends.{IsShort}
use Rattle.list_texts.proofs.Limits.{not_made, not_made_within, numbered_shorter, short_enough}
use Rattle.std.specs.Prelude.{string_bytes}
use Rattle.class_model.specs.declared.class.Class.{Class}
use Rattle.class_pool.specs.Items.{class_item}
use Rattle.class_pool.proofs.Counting.{class_item-next, class_item-le}
use Rattle.list_texts.specs.ItemTexts.{class_usage, up_to, usage_text}
use Rattle.list_texts.proofs.Listing.{numbered_class_more}
use Rattle.list_texts.proofs.usage.usage_lines.Goals as goal

pub push_class-requires-clause-within : goal.push_class-requires-clause-within
push_class-requires-clause-within c =
    let next = class_item-next c.args.set.now c.loop-number.number c.class-class.result.now c.class-class.ensures.is in
    let most = class_item-le c.args.set.now (c.loop-number.number + 1) in
    omega (arith, next, most, c.requires, c.loop-number.invariant.item)

pub returns-in_err-push_class : goal.returns-in_err-push_class
returns-in_err-push_class c =
    let class = c.class-class.result.now in
    let classes = c.args.set.now in
    let lines : ℕ × Class → List ℕ = λ p. class_usage c.args.marks.now (class_item classes p.0) p.1 in
    let front : List ℕ = string_bytes c.loop-number.text in
    let more : List ℕ = class_usage c.args.marks.now c.loop-number.item class in
    let made = ap length (numbered_class_more lines classes c.loop-number.number class front (front ++ more)
    c.class-class.ensures.is c.loop-number.invariant.text
    (ap (λ (k : ℕ). front ++ class_usage c.args.marks.now k class) c.loop-number.invariant.item)) in
    let shorter = numbered_shorter lines 0 classes (c.loop-number.number + 1) in
    let p = err_from_is_err_and c.from_residual.result c.from_residual.ensures.1 in
    rw (p.1, p.2) (not_made_within c.in_err-push_class.field-0.0 c.args.limit front more
    (string_bytes c.push_class.new.out) (usage_text classes c.args.marks.now) (omega (arith, made, shorter))
    c.in_err-push_class.ensures)

pub returns-in_err-check_length : goal.returns-in_err-check_length
returns-in_err-check_length c =
    let class = c.class-class.result.now in
    let classes = c.args.set.now in
    let lines : ℕ × Class → List ℕ = λ p. class_usage c.args.marks.now (class_item classes p.0) p.1 in
    let old : List ℕ = string_bytes c.loop-number.text in
    let front : List ℕ = string_bytes c.push_class.new.out in
    let made = ap length (numbered_class_more lines classes c.loop-number.number class old front
    c.class-class.ensures.is c.loop-number.invariant.text
    (c.in_ok-push_class.ensures
    ∙ ap (λ (k : ℕ). old ++ class_usage c.args.marks.now k class) c.loop-number.invariant.item)) in
    let shorter = numbered_shorter lines 0 classes (c.loop-number.number + 1) in
    let e = c.in_err-check_length.field-0.0 in
    let long = subst (λ (t : List ℕ). IsShort (Err e) c.args.limit t) c.as_str.ensures.value
    c.in_err-check_length.ensures in
    let p = err_from_is_err_and c.from_residual-in_err-check_length.result
    c.from_residual-in_err-check_length.ensures.1 in
    rw (p.1, p.2) (not_made e c.args.limit front (usage_text classes c.args.marks.now) (omega (arith, made, shorter))
    long)

pub returns : goal.returns
returns c =
    let classes = c.args.set.now in
    let lines : ℕ × Class → List ℕ = λ p. class_usage c.args.marks.now (class_item classes p.0) p.1 in
    let all = take_all c.loop-number.number classes
    (omega (arith, c.loop-number-test.false, c.len-number-end.ensures)) in
    let is : string_bytes c.loop-number.text ≡ usage_text classes c.args.marks.now =
    c.loop-number.invariant.text ∙ ap (λ (t : List Class). flat_map lines (enumerate_from 0 t)) all in
    ap (up_to c.args.limit) (sym is)
    ∙ short_enough c.args.limit (string_bytes c.loop-number.text) c.loop-number.invariant.short

pub loop-number-preserved : goal.loop-number-preserved
loop-number-preserved c =
    let class = c.class-class.result.now in
    let next = class_item-next c.args.set.now c.loop-number.number class c.class-class.ensures.is in
    record {
      text = numbered_class_more
          (λ (p : ℕ × Class). class_usage c.args.marks.now (class_item c.args.set.now p.0) p.1) c.args.set.now
          c.loop-number.number class (string_bytes c.loop-number.text) (string_bytes c.push_class.new.out)
          c.class-class.ensures.is c.loop-number.invariant.text
          (c.in_ok-push_class.ensures
          ∙ ap (λ (k : ℕ). string_bytes c.loop-number.text ++ class_usage c.args.marks.now k class)
          c.loop-number.invariant.item);
      item = omega (arith, next, c.loop-number.invariant.item, c.count_of.ensures);
      short = subst (λ (t : List ℕ). length t ≤ c.args.limit) c.as_str.ensures.value c.in_ok-check_length.ensures;
    }
