-- A code names nothing but what it names, and what names nothing but what another names nothing but, does so too.
use Rattle.std.proofs.Common.{ℕ, List, Option, refl, subst}
use Rattle.jv_base.proofs.Lists.{all_at, all_from, all_weaker}
use Rattle.class_model.specs.declared.code.Code.{Code}
use Rattle.class_model.specs.declared.code.Handler.{Handler}
use Rattle.class_model.specs.declared.code.Ins.{Ins}
use Rattle.class_model.specs.declared.frame.VType.{VType}
use Rattle.class_model.specs.declared.op.Op.{Op}
use Rattle.edit_laws.specs.NamesNoMore.{IsCaughtIn, IsOpOf, plain, there}
use Rattle.swap_laws.specs.Swapped.{IsFrameOf, IsTypeOf, NamesLess, in_locals, in_stack, top, uninit}

pub own_less : (code : Code) → NamesLess code code
own_less code = record {
  code = record {
    ins = all_from (λ (i : Ins). IsOpOf code.ins i.op) code.ins (λ k i at. there k i at refl);
    handlers = all_from (λ (h : Handler). IsCaughtIn code.handlers h.caught) code.handlers
        (λ k h at. (k, h, at, refl));
  };
  frames = all_from (IsFrameOf code.frames) code.frames (λ k f at. record {
    locals = all_from (IsTypeOf code.frames) f.frame.locals (λ j ty is. in_locals k j f at is);
    stack = all_from (IsTypeOf code.frames) f.frame.stack (λ j ty is. in_stack k j f at is);
  });
}

module _ (a b : Code) (first : NamesLess a b) where
  op_of : (o : Op) → IsOpOf b.ins o → IsOpOf a.ins o
  op_of o (plain p) = plain p
  op_of o (there k i at is) =
      subst (IsOpOf a.ins) is (all_at (λ (j : Ins). IsOpOf a.ins j.op) b.ins k i first.code.ins at)

  caught_in : (caught : Option (List ℕ)) → IsCaughtIn b.handlers caught → IsCaughtIn a.handlers caught
  caught_in caught h =
      subst (IsCaughtIn a.handlers) h.3
      (all_at (λ (x : Handler). IsCaughtIn a.handlers x.caught) b.handlers h.0 h.1 first.code.handlers h.2)

  type_of : (ty : VType) → IsTypeOf b.frames ty → IsTypeOf a.frames ty
  type_of ty (in_locals k j f at is) =
      all_at (IsTypeOf a.frames) f.frame.locals j ty (all_at (IsFrameOf a.frames) b.frames k f first.frames at).locals is
  type_of ty (in_stack k j f at is) =
      all_at (IsTypeOf a.frames) f.frame.stack j ty (all_at (IsFrameOf a.frames) b.frames k f first.frames at).stack is
  type_of ty (top e) = top e
  type_of ty (uninit k e) = uninit k e

  pub then_less : (c : Code) → NamesLess b c → NamesLess a c
  then_less c second = record {
    code = record {
      ins = all_weaker (λ (i : Ins). IsOpOf b.ins i.op) (λ (i : Ins). IsOpOf a.ins i.op) (λ i h. op_of i.op h) c.ins
          second.code.ins;
      handlers = all_weaker (λ (h : Handler). IsCaughtIn b.handlers h.caught)
          (λ (h : Handler). IsCaughtIn a.handlers h.caught) (λ h k. caught_in h.caught k) c.handlers
          second.code.handlers;
    };
    frames = all_weaker (IsFrameOf b.frames) (IsFrameOf a.frames) (λ f h. record {
      locals = all_weaker (IsTypeOf b.frames) (IsTypeOf a.frames) type_of f.frame.locals h.locals;
      stack = all_weaker (IsTypeOf b.frames) (IsTypeOf a.frames) type_of f.frame.stack h.stack;
    }) c.frames second.frames;
  }
