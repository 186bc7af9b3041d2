-- What a frame does by the sort of its instruction fits, where its rule applies.
use Rattle.std.proofs.Common.{ℕ, ◌+◌, List, ◌∷◌, Option, Some, None, true, false, ◌≡◌}
use Rattle.std.proofs.Common.{sym, subst}
use Rattle.std.proofs.Common.{nat_eq}
use Rattle.std.specs.Prelude.{Ok}
use Rattle.std.specs.List.{list_any}
use Rattle.std.specs.Option.{unwrap_or}
use Rattle.class_model.specs.declared.class.Class.{Class}
use Rattle.class_model.specs.declared.frame.VType.{VType}
use Rattle.class_model.specs.declared.op.Op.{Op}
use Rattle.jvm_model.specs.Heap.{World}
use Rattle.jvm_model.specs.Instructions.{Request, Jumps, Asks, pushes}
use Rattle.jvm_model.specs.Local.{Moves, after_ask, after_jump, after_stack, by_sort, goes_on}
use Rattle.jvm_model.specs.Requests.{answer}
use Rattle.jvm_model.specs.Stack.{◌>>=◌, Reader}
use Rattle.jvm_model.specs.State.{Body}
use Rattle.jvm_model.specs.Value.{Key, Value}
use Rattle.set_view.specs.ViewOf.{shape_of}
use Rattle.type_verifier.specs.declared.frame.TypeFrame.{TypeFrame}
use Rattle.type_verifier.specs.Effects.{Checked, acted, all_popped, gives, given_words, has_room}
use Rattle.type_verifier.specs.Effects.{stepped, taken_words}
use Rattle.type_verifier.specs.Effects.{if_ruled}
use Rattle.type_verifier.specs.Environment.{Environment, goes_elsewhere, targets}
use Rattle.type_verifier.specs.Rules.{Rule, Takes, Wanted, rule_of}
use Rattle.type_verifier.proofs.TypedLaw.{bound}
use Rattle.fit_laws.specs.Answered.{FitsAnswer, FitsLocal}
use Rattle.fit_laws.specs.Frames.{Environs, FitsBody, FitsLocals, Leads}
use Rattle.fit_laws.specs.Values.{FitsValue}
use Rattle.fit_laws.proofs.Assigning.{flow_body}
use Rattle.fit_laws.proofs.Held.{IsHierarchy}
use Rattle.fit_laws.proofs.Taking.{Reads, Took}

-- ---- rules

module _ (env : Environment) where
  -- the rule was applied
  pub acted_of : (at : ℕ) (o : Op) (r : Rule) (f g : TypeFrame) → rule_of env o ≡ Some r
      → stepped env at o f ≡ Ok g
      → acted env at r f ≡ Ok g
  acted_of at o r f g e h =
      (bound (has_room env.code.max_stack env.code.max_locals (taken_words r) (given_words r) f)
      (λ u. acted env at r f) g
      (subst (λ (x : Option Rule). if_ruled env at x f ≡ Ok g) e h)).2

  -- what was taken and given
  pub taken_of : (wanted : List Wanted) (given : Option VType) (f after : TypeFrame) → (at : ℕ)
      → acted env at (Takes wanted given) f ≡ Ok after
      → (g : TypeFrame) × (all_popped env.classes wanted f ≡ Ok g) × (gives given g ≡ after)
  taken_of wanted given f after at h =
      let m = bound (all_popped env.classes wanted f) (λ g. Ok (gives given g)) after
      h in (m.0, m.1, same m.0 m.2)
    where
      same : (g : TypeFrame) → (let R : Checked = Ok (gives given g) in R) ≡ Ok after
          → gives given g ≡ after
      same g h = cc

-- ---- the sorts

module _ (classes : List Class) (w : World) (k : Key) (env : Environment)
    (is : Environs classes k env)
    (hierarchy : IsHierarchy env.classes) (b : Body) (f : TypeFrame) (x : FitsBody env w.heap f b)
  where
    -- the body goes on where it fits
    pub moves_to : (g : TypeFrame) (c : Body) → Leads env.classes is.frames c.at g
        → FitsBody env w.heap g c
        → FitsLocal classes w k env is.frames b (Moves c)
    moves_to g c l y = (l.0, l.1, flow_body env w.heap hierarchy g l.0 l.2 c y)

    -- of a rule that takes values and gives one: the value that is read is pushed
    pub pushes_fit : (wanted : List Wanted) (given : VType) (read : Reader Value) (after : TypeFrame)
        → Reads env w.heap wanted read (FitsValue env w.heap given)
        → acted env b.at (Takes wanted (Some given)) f ≡ Ok after
        → Leads env.classes is.frames (b.at + 1) after
        → FitsLocal classes w k env is.frames b (by_sort b (pushes read))
    pushes_fit wanted given read after r h l =
        let t = taken_of env wanted (Some given) f after b.at h in
        let took = r f t.0 b.stack x.stack t.1 in
        subst (λ (o : Option (Value × List Value)). FitsLocal classes w k env is.frames b
        (after_stack b (o >>= (λ p. Some (p.0 ∷ p.1))))) (sym took.reads)
        (moves_to after (goes_on b (took.value ∷ took.rest)) l
        (subst (λ (z : TypeFrame). FitsBody env w.heap z (goes_on b (took.value ∷ took.rest))) t.2
        (record {
          locals = subst (λ (ts : List VType). FitsLocals env w.heap ts b.locals) (sym took.locals)
              x.locals;
          stack = (took.holds, took.fits);
        })))

    -- a jump goes to a target, or on
    abbrev pub Goes : Op → Option ℕ → Type 0
    Goes o None = goes_elsewhere o ≡ false
    Goes o (Some to) = list_any (nat_eq to) (targets o) ≡ true

    abbrev pub LeadsOn : Op → TypeFrame → Type 0
    LeadsOn o after = (goes_elsewhere o ≡ false → Leads env.classes is.frames (b.at + 1) after)
        × ((to : ℕ) → list_any (nat_eq to) (targets o) ≡ true → Leads env.classes is.frames to after)

    jumped : (o : Op) (after : TypeFrame) → LeadsOn o after → (to : Option ℕ) → Goes o to
        → Leads env.classes is.frames (unwrap_or to (b.at + 1)) after
    jumped o after l None g = l.0 g
    jumped o after l (Some to) g = l.1 to g

    pub jumps_fit : (o : Op) (wanted : List Wanted) (read : Reader (Option ℕ)) (after : TypeFrame)
        → Reads env w.heap wanted read (Goes o) → acted env b.at (Takes wanted None) f ≡ Ok after
        → LeadsOn o after
        → FitsLocal classes w k env is.frames b (by_sort b (Jumps read))
    jumps_fit o wanted read after r h l =
        let t = taken_of env wanted None f after b.at h in
        let took = r f t.0 b.stack x.stack t.1 in
        subst (λ (z : Option (Option ℕ × List Value)). FitsLocal classes w k env is.frames b
        (after_jump b z)) (sym took.reads)
        (moves_to after (record b { at = unwrap_or took.value (b.at + 1); stack = took.rest })
        (jumped o after l took.value took.holds)
        (subst (λ (z : TypeFrame). FitsBody env w.heap z
        (record b { at = unwrap_or took.value (b.at + 1); stack = took.rest }))
        t.2 (record {
          locals = subst (λ (ts : List VType). FitsLocals env w.heap ts b.locals) (sym took.locals)
              x.locals;
          stack = took.fits;
        })))

    -- it asks, and waits without the operands
    pub asked : (given : Option VType) (read : Reader Request) (g after : TypeFrame)
        → Took env w.heap read
        (λ r. FitsAnswer classes env w given (answer (shape_of classes) k.class w r)) f g b.stack
        → gives given g ≡ after → Leads env.classes is.frames (b.at + 1) after
        → FitsLocal classes w k env is.frames b (by_sort b (Asks read))
    asked given read g after took e l =
        subst (λ (z : Option (Request × List Value)). FitsLocal classes w k env is.frames b (after_ask z))
        (sym took.reads) (
          given,
          g,
          record {
            locals = subst (λ (ts : List VType). FitsLocals env w.heap ts b.locals) (sym took.locals) x.locals;
            stack = took.fits;
          },
          subst (λ (c : List Class). Leads c is.frames (b.at + 1) (gives given g)) is.classes_are
              (subst (λ (z : TypeFrame). Leads env.classes is.frames (b.at + 1) z) (sym e) l),
          took.holds,
        )

    pub asks_fit : (wanted : List Wanted) (given : Option VType) (read : Reader Request)
        (after : TypeFrame)
        → Reads env w.heap wanted read
        (λ r. FitsAnswer classes env w given (answer (shape_of classes) k.class w r))
        → acted env b.at (Takes wanted given) f ≡ Ok after → Leads env.classes is.frames (b.at + 1) after
        → FitsLocal classes w k env is.frames b (by_sort b (Asks read))
    asks_fit wanted given read after r h l =
        let t = taken_of env wanted given f after b.at h in
        asked given read t.0 after (r f t.0 b.stack x.stack t.1) t.2 l
