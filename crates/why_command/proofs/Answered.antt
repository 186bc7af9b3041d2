-- What a text tells that is due.
use Rattle.std.proofs.Common.{◌≡◌, ◌≤◌, ◌<◌, ℕ, Bool, true, false, List, [], Option, Some, None, Result, Ok, Err, length}
use Rattle.std.proofs.Common.{refl, sym, ap, subst, ◌∙◌, arith, slice_get, cond}
use Rattle.std.specs.Prelude.{MatchBool, nat_le, nat_lt}
use Rattle.std.specs.List.{position}
use Rattle.std.proofs.lemmas.Bool.{both_ways, lt-ltb}
use Rattle.jv_base.specs.Names.{is_text}
use Rattle.jv_base.proofs.Equality.{same_text}
use Rattle.jv_base.proofs.Lists.{placed}
use Rattle.jv_base.proofs.Results.{same_ok}
use Rattle.mark_core.specs.declared.system.System.{System}
use Rattle.why_kept.specs.Derivations.{depth_of}
use Rattle.why_kept.specs.Levels.{HasLevel, level_of}
use Rattle.why_kept.specs.Steps.{Explains}
use Rattle.why_kept.specs.declared.reasons.Reasons.{Reasons}
use Rattle.why_kept.specs.declared.reasons.WhyStep.{WhyStep}
use Rattle.class_model.specs.declared.class.Class.{Class}
use Rattle.keep_rules.specs.declared.rules.Rules.{Rules}
use Rattle.list_texts.specs.ItemTexts.{item_texts}
use Rattle.rule_system.specs.Required.{required}
use Rattle.command_frame.proofs.OneStep.{both_gave, no_err}
use Rattle.command_frame.specs.Refusal.{passed}
use Rattle.command_frame.specs.declared.command.Plan.{Plan}
use Rattle.command_frame.specs.declared.refusal.Quantity.TheVariants as quantity
use Rattle.command_frame.specs.declared.refusal.Refusal.{Refusal}
use Rattle.command_steps.specs.Config.{IsConfigured}
use Rattle.command_steps.specs.Sets.{IsDirectory, IsSet}
use Rattle.command_steps.specs.System.{IsSystem}
use Rattle.why_command.specs.Answers.{AnswersTellWhy, Tells, kept, not_kept}
use Rattle.why_command.specs.Due.{AreReasons, FollowsInput, FollowsReasons, FollowsRules, FollowsSet, FollowsSystem}
use Rattle.why_command.specs.Due.{GivesReasons, IsExplained, IsNumbered, no_item, or_no_item, says}
use Rattle.why_command.specs.Telling.{IsTold, or_long, why_text}
use Rattle.why_command.proofs.LongTexts.{text_of_some}
use Rattle.why_command.proofs.Required.{system_is}

-- ---- the item

item_by : (texts : List (List ℕ)) (item : List ℕ) (id : ℕ) (o : Option ℕ)
    → position (λ text. is_text text item) texts ≡ o → (let R : Result ℕ Refusal = Ok id in R) ≡ or_no_item item o
    → slice_get texts id ≡ Some item
item_by texts item id None is h = absurd (no_err id (no_item item) h)
item_by texts item id (Some n) is h =
    let there = placed (λ text. is_text text item) texts n is in
    let same : id ≡ n = same_ok id n h in
    ap (slice_get texts) same ∙ there.1 ∙ ap Some (same_text there.0 item there.2)

spelled : (texts : List (List ℕ)) (item : List ℕ) (id : ℕ) → IsNumbered texts item (Ok id)
    → slice_get texts id ≡ Some item
spelled texts item id h = item_by texts item id (position (λ text. is_text text item) texts) refl h

-- ---- the text

text_by : (whole text : List ℕ) (short : Bool)
    → (let R : Result (List ℕ) Refusal = Ok text in R) ≡ cond short (Ok whole) (Err (passed quantity.Text))
    → text ≡ whole
text_by whole text true h = same_ok text whole h
text_by whole text false h = absurd (no_err text (passed quantity.Text) h)

text_is : (whole text : List ℕ) → (let R : Result (List ℕ) Refusal = Ok text in R) ≡ or_long whole → text ≡ whole
text_is whole text h = text_by whole text (nat_le (length whole) 67108864) h

-- ---- what it tells

some_steps : (sys : System) (levels : List ℕ) (id : ℕ) (steps : List WhyStep) → Explains sys levels id steps
    → 0 < length steps
some_steps sys levels id steps h = let there = h.has.1 in let low : there.0 < length steps = there.1 in omega (arith, low)

module _ (texts : List (List ℕ)) (sys : System) (id : ℕ) (reasons : Reasons) (are : AreReasons sys id reasons)
    (text : List ℕ) (is : text ≡ why_text texts (level_of sys reasons.levels id) reasons.steps) where
  tells_by : (has : Bool) → nat_lt (level_of sys reasons.levels id) sys.n ≡ has
      → MatchBool has (Explains sys reasons.levels id reasons.steps) (reasons.steps ≡ [])
      → Tells texts sys id reasons text
  tells_by true has h =
      kept (level_of sys reasons.levels id)
      (is ∙ sym (text_of_some texts (level_of sys reasons.levels id) reasons.steps
      (some_steps sys reasons.levels id reasons.steps h)))
      (record { tree = h.tree; derives = h.derives; item = h.item; deep = h.deep })
      (λ tree derives item. subst (λ (x : ℕ). level_of sys reasons.levels x ≤ depth_of tree) item
      (are.least.bounds tree derives).1)
  tells_by false none h =
      not_kept (is ∙ ap (why_text texts (level_of sys reasons.levels id)) h)
      (λ tree derives item.
      let has : HasLevel sys reasons.levels id = subst (HasLevel sys reasons.levels) item
      (are.least.bounds tree derives).0 in
      both_ways (nat_lt (level_of sys reasons.levels id) sys.n) none
      (lt-ltb (level_of sys reasons.levels id) sys.n has))

  tells : Tells texts sys id reasons text
  tells = tells_by (nat_lt (level_of sys reasons.levels id) sys.n) refl are.steps

-- ---- the whole

-- what is said of a system
record IsSaid (texts : List (List ℕ)) (item : List ℕ) (sys : System) (plan : Plan) : Type 0 where
  id : ℕ
  spelled : slice_get texts id ≡ Some item
  reasons : Reasons
  are : AreReasons sys id reasons
  wrote : plan.files ≡ []
  text : plan.text ≡ why_text texts (level_of sys reasons.levels id) reasons.steps

said : (texts : List (List ℕ)) (item : List ℕ) (sys : System) (plan : Plan) → FollowsSystem texts item sys (Ok plan)
    → IsSaid texts item sys plan
said texts item sys plan due =
    let a = both_gave (IsNumbered texts item) (IsExplained texts sys) plan due in
    let id : ℕ = a.0 in
    let b = both_gave (GivesReasons sys id) (FollowsReasons texts sys id) plan a.2 in
    let reasons : Reasons = b.0 in
    let level : ℕ = level_of sys reasons.levels id in
    let d = both_gave (IsTold texts level reasons.steps) (λ text due. due ≡ Ok (says text)) plan b.2 in
    let same : plan ≡ says d.0 = same_ok plan (says d.0) d.2 in
    record {
      id = id;
      spelled = spelled texts item id a.1;
      reasons = reasons;
      are = b.1;
      wrote = ap (λ (p : Plan). p.files) same;
      text = ap (λ (p : Plan). p.text) same ∙ text_is (why_text texts level reasons.steps) d.0 d.1;
    }

-- so it is of the same system
said_as : (texts : List (List ℕ)) (item : List ℕ) (sys other : System) (plan : Plan) → sys ≡ other
    → IsSaid texts item sys plan → IsSaid texts item other plan
said_as texts item sys other plan same h = subst (λ (s : System). IsSaid texts item s plan) same h

pub answers_tell_why : AnswersTellWhy
answers_tell_why files named plan due =
    let a = both_gave (IsConfigured files named.config []) (FollowsRules files named.item) plan due in
    let rules : Rules = a.0 in
    let b = both_gave (IsDirectory files rules.in_dir) (FollowsInput rules named.item) plan a.2 in
    let d = both_gave (IsSet rules.in_dir b.0) (FollowsSet rules named.item) plan b.2 in
    let classes : List Class = d.0 in
    let texts : List (List ℕ) = item_texts classes in
    let e = both_gave (IsSystem rules classes) (FollowsSystem texts named.item) plan d.2 in
    let sys : System = required classes rules in
    let h : IsSaid texts named.item sys plan = said_as texts named.item e.0 sys plan (system_is rules classes e.0 e.1)
    (said texts named.item e.0 plan e.2) in
    record {
      rules = rules;
      inputs = b.0;
      classes = classes;
      configured = a.1;
      given = b.1;
      taken = d.1;
      id = h.id;
      spelled = h.spelled;
      reasons = h.reasons;
      are = h.are;
      wrote = h.wrote;
      text = h.text;
      tells = tells texts sys h.id h.reasons h.are plan.text h.text;
    }
