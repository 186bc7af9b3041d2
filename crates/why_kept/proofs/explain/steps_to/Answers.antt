-- Answers of `steps_to`: what its calls ask for, and what it promises.
use Rattle.std.proofs.Common.{◌≡◌, ◌<◌, ◌∷◌, [], ℕ, List, length, get_or, reverse, sym, subst, ap, ◌∙◌, arith, rules}
use Rattle.std.specs.BTreeSet.{insert_key}
use Rattle.std.proofs.lemmas.Grind.{common_steps}
use Rattle.std.proofs.lemmas.List.{get_or_default, reverse-append}
use Rattle.why_kept.specs.Levels.{HasLevel}
use Rattle.why_kept.specs.Steps.{AreSteps, key_cmp, sources_of}
use Rattle.why_kept.specs.bodies.Telling.{AreTold, key, with_keys}
use Rattle.why_kept.specs.declared.reasons.By.TheVariants.{Seed}
use Rattle.why_kept.specs.declared.reasons.WhyStep.{WhyStep}
use Rattle.why_kept.proofs.ToldSteps.{explained, falls_next, item_told, kept_low, no_keys, same_key, steps_some, told_first}
use Rattle.why_kept.proofs.ToldSteps.{told_next}
use Rattle.why_kept.proofs.explain.steps_to.Goals as goal

pub tell-init : goal.tell-init
tell-init c =
    let sys = c.args.sys.now in
    let levels = c.args.levels.now in
    let lt = subst (λ n. c.args.id < n) (sym c.requires.certified.count) c.requires.id in
    let level = get_or_default levels c.args.id 0 sys.n lt in
    let has : HasLevel sys levels c.args.id = omega (arith, level, c.if-levels-id.false) in
    let first : c.wait.new.waiting.keys ≡ key sys levels c.args.id ∷ [] =
    c.in_ok-wait.ensures ∙ (ap (λ (ks : List (ℕ × ℕ)). insert_key key_cmp ks (get_or levels c.args.id 0, c.args.id))
    c.new-waiting.ensures.empty
    ∙ ap (λ (k : ℕ × ℕ). k ∷ []) (same_key sys levels c.args.id c.requires.certified.count c.requires.id)) in
    subst (λ ks. AreTold sys levels c.args.id ks (reverse c.new-steps.result.items)) (sym first)
    (subst (λ (l : List WhyStep). AreTold sys levels c.args.id (key sys levels c.args.id ∷ []) (reverse l))
    (sym c.new-steps.ensures.items) (told_first sys levels c.args.id c.requires.id has))

pub bounds-sources-item : goal.bounds-sources-item
bounds-sources-item c =
    let k : ℕ × ℕ = (c.in-Some.field-0-0, c.in-Some.item) in
    let told = item_told c.args.sys.now c.args.levels.now c.args.id c.tell.waiting.keys c.pop_last.new.self.keys k
    (reverse c.tell.steps.items) c.tell.invariant c.in-Some.ensures.removal in
    subst (λ n. c.in-Some.item < n) (sym c.requires.noted.count) told.0

pub wait_for-requires : goal.wait_for-requires
wait_for-requires c =
    let k : ℕ × ℕ = (c.in-Some.field-0-0, c.in-Some.item) in
    kept_low c.args.sys.now c.args.levels.now c.requires.valid c.requires.certified c.requires.least c.args.id
    c.tell.waiting.keys c.pop_last.new.self.keys k (reverse c.tell.steps.items) c.args.sources.now c.requires.noted
    c.tell.invariant c.in-Some.ensures.removal

pub tell-preserved : goal.tell-preserved
tell-preserved c =
    let sys = c.args.sys.now in
    let levels = c.args.levels.now in
    let k : ℕ × ℕ = (c.in-Some.field-0-0, c.in-Some.item) in
    let step : WhyStep = record { id = c.in-Some.item; by = get_or c.args.sources.now c.in-Some.item Seed } in
    let steps : reverse c.push.new.self.items ≡ step ∷ reverse c.tell.steps.items =
    ap reverse c.in_ok-push.ensures.items ∙ reverse-append c.tell.steps.items (step ∷ []) in
    let next = told_next sys levels c.requires.valid c.requires.certified c.requires.least c.args.id c.tell.waiting.keys
    c.pop_last.new.self.keys k (reverse c.tell.steps.items) c.args.sources.now c.requires.noted c.tell.invariant
    c.in-Some.ensures.removal in
    subst (λ ks. AreTold sys levels c.args.id ks (reverse c.push.new.self.items)) (sym c.in_ok-wait_for.ensures)
    (subst (λ (l : List WhyStep). AreTold sys levels c.args.id
    (with_keys levels (sources_of step.by) c.pop_last.new.self.keys) l) (sym steps) next)

pub tell-smaller : goal.tell-smaller
tell-smaller c =
    let k : ℕ × ℕ = (c.in-Some.field-0-0, c.in-Some.item) in
    rw c.in_ok-wait_for.ensures
    (falls_next c.args.sys.now c.args.levels.now c.requires.valid c.requires.certified c.requires.least c.args.id
    c.tell.waiting.keys c.pop_last.new.self.keys k (reverse c.tell.steps.items) c.args.sources.now c.requires.noted
    c.tell.invariant c.in-Some.ensures.removal)

pub returns : goal.returns
returns c =
    let sys = c.args.sys.now in
    let levels = c.args.levels.now in
    let lt = subst (λ n. c.args.id < n) (sym c.requires.certified.count) c.requires.id in
    let level = get_or_default levels c.args.id 0 sys.n lt in
    let has : HasLevel sys levels c.args.id = omega (arith, level, c.if-levels-id.false) in
    let empty : length c.tell.waiting.keys ≡ 0 = first_of (search rules, grind (arith, common_steps)) in
    let is = c.from_vec.ensures ∙ c.reverse.ensures.items in
    subst (AreSteps sys levels c.args.id) (sym is)
    (steps_some sys levels c.args.id (reverse c.tell.steps.items) has
    (explained sys levels c.requires.valid c.requires.certified c.requires.least c.args.id (reverse c.tell.steps.items)
    (subst (λ ks. AreTold sys levels c.args.id ks (reverse c.tell.steps.items)) (no_keys c.tell.waiting.keys empty)
    c.tell.invariant)))
