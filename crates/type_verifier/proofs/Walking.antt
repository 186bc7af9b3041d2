-- Going over the instructions.
use Rattle.std.proofs.Common.{◌≡◌, ◌≤◌, ◌<◌, ℕ, ◌+◌, List, length, get_or, drop, Option, Result, Ok}
use Rattle.std.proofs.Common.{sym, ap, ◌∙◌}
use Rattle.std.proofs.lemmas.List.{drop_all}
use Rattle.jv_base.specs.Outcome.{FaultIs}
use Rattle.jv_base.specs.declared.outcome.Or.{Or}
use Rattle.jv_base.specs.declared.outcome.Or.TheVariants as or
use Rattle.jv_base.proofs.Lists.{rest_is}
use Rattle.class_model.specs.declared.code.Ins.{Ins}
use Rattle.type_verifier.specs.declared.fault.TypeFault.{TypeFault}
use Rattle.type_verifier.specs.declared.fault.TypeKind.{TypeKind}
use Rattle.type_verifier.specs.declared.frame.TypeFrame.{TypeFrame}
use Rattle.type_verifier.specs.bodies.Changes.{placed}
use Rattle.type_verifier.specs.Environment.{Environment}
use Rattle.type_verifier.specs.Walk.{at_instruction}
use Rattle.type_verifier.specs.bodies.Walked.{behind_last, gone_on, walked}

abbrev Answer : Type 0
Answer = Result (Unit {0}) TypeFault

module _ (env : Environment) where
  next_is : (ins : List Ins) (at : ℕ) (i : Ins) (before : Option TypeFrame) → at < length ins → i ≡ get_or ins at i
      → walked env at before (drop at ins)
      ≡ gone_on env at (at_instruction env at i.op before) (λ next. walked env (at + 1) next (drop (at + 1) ins))
  unfolding walked
  next_is ins at i before lt is = ap (walked env at before) (rest_is ins at i lt is)

  pub walk_more : (ins : List Ins) (at : ℕ) (i : Ins) (before next : Option TypeFrame) (total : Answer)
      → at < length ins
      → i ≡ get_or ins at i → at_instruction env at i.op before ≡ Ok next
      → walked env at before (drop at ins) ≡ total → walked env (at + 1) next (drop (at + 1) ins) ≡ total
  walk_more ins at i before next total lt is h so_far =
      sym (next_is ins at i before lt is
      ∙ ap (λ (r : Result (Option TypeFrame) TypeKind). gone_on env at r
      (λ n. walked env (at + 1) n (drop (at + 1) ins))) h) ∙ so_far

  pub walk_fails : (ins : List Ins) (at : ℕ) (i : Ins) (before : Option TypeFrame) (e : Or TypeKind) (total : Answer)
      → at < length ins → i ≡ get_or ins at i → FaultIs e (at_instruction env at i.op before)
      → walked env at before (drop at ins) ≡ total → FaultIs (placed env at e) total
  walk_fails ins at i before (or.Fault kind) total lt is h so_far =
      sym so_far ∙ next_is ins at i before lt is
      ∙ ap (λ (r : Result (Option TypeFrame) TypeKind). gone_on env at r
      (λ n. walked env (at + 1) n (drop (at + 1) ins))) h
  walk_fails ins at i before or.OutOfMemory total lt is h so_far = tt

  pub walk_ends : (ins : List Ins) (at : ℕ) (before : Option TypeFrame) (total : Answer) → length ins ≤ at
      → walked env at before (drop at ins) ≡ total → total ≡ behind_last env at before
  unfolding walked
  walk_ends ins at before total le so_far = sym so_far ∙ ap (walked env at before) (drop_all at ins le)
