-- A premise that may take what holds of every old body.
use Rattle.std.proofs.Common.{ℕ, List, Option, Some, None, Bool, ◌≡◌, refl}
use Rattle.class_model.specs.declared.code.Code.{Code}
use Rattle.jvm_model.specs.Local.{Local, Moves, Wants, Ends, Tosses, Stuck, called_with}
use Rattle.jvm_model.specs.Local.{handler_for, local}
use Rattle.jvm_model.specs.Premise.{Effect, Enters, Premise, Turn, alone, breaks, together}
use Rattle.jvm_model.specs.State.{Body}
use Rattle.jvm_model.specs.Value.{Value}
use Rattle.edit_premises.specs.Keeping.{Keeps}

module _ (I : Body → Type 0) (R : ℕ → Body → Body → Type 0) (c d : Code) (keeps : Keeps I c) where
  abbrev pub Both : ℕ → Body → Body → Type 0
  Both n f g = I f × R n f g

  local_both : (f g : Body) → I f → (l k : Local) → local c f ≡ l → Effect R f g l k
      → Effect Both f g l k
  local_both f g i (Moves f') k e x = (x.0, x.1, x.2, (keeps.moves f f' i e, x.3))
  local_both f g i (Wants r s) k e x =
      (x.0, x.1, λ o. ((x.2 o).0, (keeps.returns f r s i e o, (x.2 o).1)))
  local_both f g i (Ends o) k e x = x
  local_both f g i (Tosses v) k e x = x
  local_both f g i Stuck k e x = x

  enters_both : (f g : Body) → I f → (is : List ℕ → Bool) (o o' : Option ℕ)
      → handler_for is f.at c.handlers ≡ o
      → Enters R f g o o' → Enters Both f g o o'
  enters_both f g i is None o' e x = x
  enters_both f g i is (Some h) o' e x =
      (x.0, x.1, λ n. ((x.2 n).0, (keeps.enters f i is h e n, (x.2 n).1)))

  turn_both : (n : ℕ) (f g : Body) → I f → Turn R c d n f g → Turn Both c d n f g
  turn_both n f g i (breaks x) = breaks x
  turn_both n f g i (alone f' x k r less) = alone f' x k (keeps.moves f f' i x, r) less
  turn_both n f g i (together x) = together (record {
    line = x.line;
    caught = λ is. enters_both f g i is _ _ refl (x.caught is);
    effect = local_both f g i _ _ refl x.effect;
  })

  pub with_fact : ((args : List Value) → (n : ℕ) × R n (called_with args) (called_with args))
      → ((n : ℕ) (f g : Body) → I f → R n f g → Turn R c d n f g) → Premise Both c d
  with_fact begins turn = record {
    begins = λ args. ((begins args).0, (keeps.begins args, (begins args).1));
    turn = λ n f g r. turn_both n f g r.0 (turn n f g r.0 r.1);
  }
