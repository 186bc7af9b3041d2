-- Steps of edits name nothing but what the code named.
use Rattle.std.proofs.Common.{ℕ, List, refl}
use Rattle.class_model.specs.declared.code.Code.{Code}
use Rattle.class_model.specs.declared.code.Handler.{Handler}
use Rattle.class_model.specs.declared.code.Ins.{Ins}
use Rattle.class_model.specs.declared.op.Op.{Op}
use Rattle.class_model.specs.declared.op.Op.TheVariants as op
use Rattle.code_edit.specs.declared.act.PassEdits.{PassEdits}
use Rattle.code_edit.specs.Applied.{edited}
use Rattle.code_edit.specs.Rewriting.{retargeted}
use Rattle.edit_laws.specs.Holds.{HoldsOf, IsOfNames}
use Rattle.edit_laws.specs.NamesNoMore.{IsCaughtIn, IsOpOf, NamesNoMore, plain, there}
use Rattle.edit_laws.proofs.Named.{edited_holds}
use Rattle.jv_base.proofs.Lists.{all_from}

module _ (code : Code) where
  -- what has targets names nothing
  moves : (f : ℕ → ℕ → ℕ) (o : Op) → IsOpOf code.ins o → IsOpOf code.ins (retargeted f o)
  moves f (op.IfZero c t) g = plain refl
  moves f (op.IfCmp c t) g = plain refl
  moves f (op.IfRef eq t) g = plain refl
  moves f (op.IfNull null t) g = plain refl
  moves f (op.Goto t) g = plain refl
  moves f (op.TableSwitch low t ts) g = plain refl
  moves f (op.LookupSwitch t cs) g = plain refl
  moves f o g = g

  of_names : IsOfNames (IsOpOf code.ins)
  of_names = record {
    moves = moves;
    nop = plain refl;
    goto = λ to. plain refl;
    pop = plain refl;
    pop2 = plain refl;
  }

  own : HoldsOf (IsOpOf code.ins) (IsCaughtIn code.handlers) code
  own = record {
    ins = all_from (λ (i : Ins). IsOpOf code.ins i.op) code.ins (λ k i at. there k i at refl);
    handlers = all_from (λ (h : Handler). IsCaughtIn code.handlers h.caught) code.handlers
        (λ k h at. (k, h, at, refl));
  }

  pub edited_names_no_more : (steps : List PassEdits) → NamesNoMore code (edited steps code)
  edited_names_no_more steps =
      let h = edited_holds (IsOpOf code.ins) of_names (IsCaughtIn code.handlers) steps code own in
      record { ins = h.ins; handlers = h.handlers }
