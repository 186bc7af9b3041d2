-- From the families to what each frame does.
use Rattle.std.proofs.Common.{ℕ, suc, ◌+◌, List, Option, Some, true, false, ◌≡◌, sym, ◌∙◌}
use Rattle.std.proofs.Common.{subst, slice_get, nat_eq, arith}
use Rattle.std.specs.Prelude.{Ok}
use Rattle.std.specs.List.{list_any}
use Rattle.class_model.specs.declared.class.Class.{Class}
use Rattle.class_model.specs.declared.code.Ins.{Ins}
use Rattle.jvm_model.specs.Heap.{World}
use Rattle.jvm_model.specs.Instructions.{sort_of}
use Rattle.jvm_model.specs.Local.{by_instruction, by_sort}
use Rattle.jvm_model.specs.State.{Body}
use Rattle.jvm_model.specs.Value.{Key}
use Rattle.type_verifier.specs.declared.frame.TypeFrame.{TypeFrame}
use Rattle.type_verifier.specs.Effects.{stepped}
use Rattle.type_verifier.specs.Environment.{Environment, goes_elsewhere, targets}
use Rattle.fit_laws.specs.Answered.{FitsLocal}
use Rattle.fit_laws.specs.Frames.{Environs, FitsBody, Leads}
use Rattle.fit_laws.specs.Laws.{LocalsFit}
use Rattle.fit_laws.specs.Values.{FitsWorld}
use Rattle.fit_laws.proofs.Lists.{some_same}
use Rattle.fit_laws.proofs.TypedAt.{Here, at_place, instruction_at, leads_to}

-- what each family does, from its rule and from where it leads
abbrev pub FamiliesFit : List Class → Type 0
FamiliesFit classes = (w : World) → FitsWorld classes w
    → (k : Key) (env : Environment) (is : Environs classes k env) (b : Body)
    (f : TypeFrame) → FitsBody env w.heap f b → (i : Ins) → slice_get env.code.ins b.at ≡ Some i
    → (after : TypeFrame)
    → stepped env b.at i.op f ≡ Ok after
    → (goes_elsewhere i.op ≡ false → Leads env.classes is.frames (b.at + 1) after)
    × ((to : ℕ) → list_any (nat_eq to) (targets i.op) ≡ true → Leads env.classes is.frames to after)
    → FitsLocal classes w k env is.frames b (by_sort b (sort_of i.op))

pub locals_fit : (classes : List Class) → FamiliesFit classes → LocalsFit classes
locals_fit classes each w x f a = subst
    (λ (o : Option Ins). FitsLocal classes w f.method env is.frames f.body
    (by_instruction f.body o)) (sym i.1)
    (each w x f.method env is f.body a.stands.here
    (record { locals = a.stands.locals; stack = a.stack }) i.0 i.1 here.after
    (subst (λ (z : TypeFrame). stepped env f.body.at i.0.op z ≡ Ok here.after)
    (some_same here.f a.stands.here (sym here.there ∙ a.stands.there)) here.step) (
      (λ e. subst (λ (n : ℕ). Leads env.classes is.frames n here.after) (one_more f.body.at)
          (here.next e)),
      leads_to env is.frames is.typed f.body.at i.0 i.1,
    ))
  where
    env : Environment
    env = a.stands.env

    is : Environs classes f.method env
    is = a.stands.is

    i : (j : Ins) × (slice_get env.code.ins f.body.at ≡ Some j)
    i = instruction_at env is.frames is.typed f.body.at a.stands.here a.stands.there

    here : Here env 0 f.body.at f.body.at i.0.op is.frames
    here = at_place env is.frames is.typed f.body.at i.0 i.1

    one_more : (n : ℕ) → suc n ≡ n + 1
    one_more n = omega arith
