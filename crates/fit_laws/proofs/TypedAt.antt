-- What a list of frames says of each instruction.
use Rattle.std.proofs.Common.{ℕ, zero, suc, ◌+◌, ◌<◌, List, [], ◌∷◌, Option, Some, None, Bool, true}
use Rattle.std.proofs.Common.{false, ◌≡◌, ◌||◌}
use Rattle.std.proofs.Common.{inl, inr, refl, sym, ap, subst, slice_get, nat_eq, nat_lt, length}
use Rattle.std.proofs.Common.{arith, IsTrue}
use Rattle.std.specs.Prelude.{cond, Ok}
use Rattle.std.specs.List.{list_any}
use Rattle.std.proofs.lemmas.Bool.{and_parts, ltb-true}
use Rattle.std.proofs.lemmas.Option.{slice_get_within}
use Rattle.jv_base.proofs.Lists.{any_at, found_at}
use Rattle.class_model.specs.declared.code.Handler.{Handler}
use Rattle.class_model.specs.declared.code.Ins.{Ins}
use Rattle.class_model.specs.declared.op.Op.{Op}
use Rattle.type_verifier.specs.declared.frame.TypeFrame.{TypeFrame}
use Rattle.type_verifier.specs.Assignable.{is_frame_assignable}
use Rattle.type_verifier.specs.Effects.{stepped}
use Rattle.type_verifier.specs.Environment.{Environment, declared_frame_at, goes_elsewhere}
use Rattle.type_verifier.specs.Environment.{initial_frame, is_entered, targets}
use Rattle.type_verifier.specs.Typed.{AreInstructionsTyped, Stands}
use Rattle.type_verifier.specs.Walk.{fits_at, fits_declared, fits_targets, flow_after}
use Rattle.type_verifier.specs.Walk.{satisfies_handlers}
use Rattle.fit_laws.specs.Frames.{Flows, Leads}
use Rattle.fit_laws.proofs.Lists.{all_pass_in, some_same}

module _ (env : Environment) where
  -- what flows in flows to the frame that stands there
  stands_flow : (at : ℕ) (from : TypeFrame) (d : Option TypeFrame) (f : TypeFrame)
      → Stands env at (Some from) d f
      → Flows env.classes from f
  stands_flow at from (Some d) f s =
      inr (subst (λ g. IsTrue (is_frame_assignable env.classes from g)) (sym s.0) s.1)
  stands_flow at from None f s = inl s.0

  -- a declared frame stands there
  stands_declared : (at : ℕ) (flow : Option TypeFrame) (d f : TypeFrame)
      → Stands env at flow (Some d) f → f ≡ d
  stands_declared at (Some from) d f s = s.0
  stands_declared at None d f s = s

  -- where control enters one is declared
  stands_entered : (at : ℕ) (flow : Option TypeFrame) (f : TypeFrame) → Stands env at flow None f
      → is_entered env.code at ≡ true → ⊥
  stands_entered at (Some from) f s e = absurd cc where
    unused : is_entered env.code at ≡ false
    unused = s.1
  stands_entered at None f s e = s

  -- what flows on flows to the first frame of what is behind
  pub head : (at : ℕ) (from : TypeFrame) (ins : List Ins) (fs : List TypeFrame)
      → AreInstructionsTyped env at (Some from) ins fs None
      → (g : TypeFrame) × (slice_get fs 0 ≡ Some g) × Flows env.classes from g
  head at from [] [] t = absurd cc
  head at from [] (f ∷ fs) t = absurd t
  head at from (i ∷ ins) [] t = absurd t
  head at from (i ∷ ins) (f ∷ fs) t = (f, refl, stands_flow at from _ f t.0)

  -- what is said of the instruction with a number behind `at`
  pub record Here (at k n : ℕ) (op : Op) (fs : List TypeFrame) : Type 0 where
    pub f : TypeFrame
    pub there : slice_get fs k ≡ Some f
    pub flow : Option TypeFrame
    pub stands : Stands env n flow (declared_frame_at env n) f
    pub after : TypeFrame
    pub step : stepped env n op f ≡ Ok after
    pub targets_fit : IsTrue (fits_targets env op after)
    pub handlers : IsTrue (satisfies_handlers env n f)
    pub next : goes_elsewhere op ≡ false → Leads env.classes fs (suc k) after

  goes : (op : Op) (after : TypeFrame) → goes_elsewhere op ≡ false
      → flow_after op after ≡ Some after
  goes op after e = by (goes_elsewhere op) e where
    by : (b : Bool) → b ≡ false
        → (let r : Option TypeFrame = cond b None (Some after) in r) ≡ Some after
    by true e = absurd cc
    by false e = refl

  here_is : (at n : ℕ) → n ≡ at + 0 → at ≡ n
  here_is at n e = omega (arith, e)

  walk : (at : ℕ) (flow : Option TypeFrame) (ins : List Ins) (fs : List TypeFrame)
      → AreInstructionsTyped env at flow ins fs None → (k n : ℕ) → n ≡ at + k → (i : Ins)
      → slice_get ins k ≡ Some i
      → Here at k n i.op fs
  walk at flow [] fs t k n e i h = absurd cc
  walk at flow (j ∷ ins) [] t k n e i h = absurd t
  walk at flow (j ∷ ins) (f ∷ fs) t zero n e i h =
      subst (λ (m : ℕ). Here at 0 m i.op (f ∷ fs)) (here_is at n e)
      (subst (λ (x : Ins). Here at 0 at x.op (f ∷ fs)) (some_same j i h) first)
    where
      first : Here at 0 at j.op (f ∷ fs)
      first = record {
        f = f;
        there = refl;
        flow = flow;
        stands = t.0;
        after = t.1;
        step = t.2;
        targets_fit = t.3;
        handlers = t.4;
        next = λ g. head (at + 1) t.1 ins fs
            (subst (λ (x : Option TypeFrame). AreInstructionsTyped env (at + 1) x ins fs None)
            (goes j.op t.1 g) t.5);
      }
  walk at flow (j ∷ ins) (f ∷ fs) t (suc k) n e i h =
      later (walk (at + 1) _ ins fs t.5 k n (omega (arith, e)) i h) where
        later : Here (at + 1) k n i.op fs → Here at (suc k) n i.op (f ∷ fs)
        later r = record {
          f = r.f;
          there = r.there;
          flow = r.flow;
          stands = r.stands;
          after = r.after;
          step = r.step;
          targets_fit = r.targets_fit;
          handlers = r.handlers;
          next = r.next;
        }

  -- the lists are as long
  same_length : (at : ℕ) (flow : Option TypeFrame) (ins : List Ins) (fs : List TypeFrame)
      → AreInstructionsTyped env at flow ins fs None → length ins ≡ length fs
  same_length at flow [] [] t = refl
  same_length at flow [] (f ∷ fs) t = absurd t
  same_length at flow (i ∷ ins) [] t = absurd t
  same_length at flow (i ∷ ins) (f ∷ fs) t = ap suc (same_length (at + 1) _ ins fs t.5)

module _ (env : Environment) (fs : List TypeFrame)
    (t : AreInstructionsTyped env 0 (Some (initial_frame env)) env.code.ins fs None) where
  -- an instruction with a number
  pub at_place : (n : ℕ) (i : Ins) → slice_get env.code.ins n ≡ Some i → Here env 0 n n i.op fs
  at_place n i h = walk env 0 _ env.code.ins fs t n n (omega arith) i h

  -- where a frame stands there is an instruction
  pub instruction_at : (n : ℕ) (f : TypeFrame) → slice_get fs n ≡ Some f
      → (i : Ins) × (slice_get env.code.ins n ≡ Some i)
  instruction_at n f h = found_at env.code.ins n
      (subst (λ m. n < m) (sym (same_length env 0 _ env.code.ins fs t)) (slice_get_within fs n f h))

  -- a frame that fits where control may enter flows to the one that stands there
  pub enters : (to : ℕ) (f : TypeFrame) → is_entered env.code to ≡ true → fits_at env f to ≡ true
      → Leads env.classes fs to f
  enters to f e h = by (declared_frame_at env to) refl where
    parts : (nat_lt to (length env.code.ins) ≡ true)
        × (fits_declared env f (declared_frame_at env to) ≡ true)
    parts = and_parts (nat_lt to (length env.code.ins))
        (fits_declared env f (declared_frame_at env to)) h

    i : (x : Ins) × (slice_get env.code.ins to ≡ Some x)
    i = found_at env.code.ins to (ltb-true to (length env.code.ins) parts.0)

    here : Here env 0 to to i.0.op fs
    here = at_place to i.0 i.1

    by : (d : Option TypeFrame) → declared_frame_at env to ≡ d → Leads env.classes fs to f
    by None q = absurd (stands_entered env to here.flow here.f
        (subst (λ d. Stands env to here.flow d here.f) q here.stands) e)
    by (Some d) q = (
      here.f,
      here.there,
      inr (subst (λ g. IsTrue (is_frame_assignable env.classes f g))
          (sym (stands_declared env to here.flow d here.f
          (subst (λ d. Stands env to here.flow d here.f) q here.stands)))
          (subst (λ d. fits_declared env f d ≡ true) q parts.1)),
    )

  -- so it is of each target
  pub leads_to : (n : ℕ) (i : Ins) (h : slice_get env.code.ins n ≡ Some i) (to : ℕ)
      → list_any (nat_eq to) (targets i.op) ≡ true → Leads env.classes fs to (at_place n i h).after
  leads_to n i h to e = enters to (at_place n i h).after
      (or_left (list_any (λ (j : Ins). list_any (nat_eq to) (targets j.op)) env.code.ins) _
      (any_at (λ (j : Ins). list_any (nat_eq to) (targets j.op)) env.code.ins n i h e))
      (all_pass_in (fits_at env (at_place n i h).after) (targets i.op) to
      (at_place n i h).targets_fit e)
    where
      or_left : (a b : Bool) → a ≡ true → (a || b) ≡ true
      or_left true b e = refl
      or_left false b e = absurd cc

  -- and of the beginning of each handler
  pub leads_to_handler : (k : ℕ) (h : Handler) → slice_get env.code.handlers k ≡ Some h
      → (f : TypeFrame)
      → fits_at env f h.entry ≡ true → Leads env.classes fs h.entry f
  leads_to_handler k h e f fit = enters h.entry f
      (or_right (list_any (λ (j : Ins). list_any (nat_eq h.entry) (targets j.op)) env.code.ins) _
      (any_at (λ (j : Handler). nat_eq h.entry j.entry) env.code.handlers k h e (same h.entry)))
      fit
    where
      or_right : (a b : Bool) → b ≡ true → (a || b) ≡ true
      or_right true b e = refl
      or_right false b e = e

      same : (n : ℕ) → nat_eq n n ≡ true
      same n = search (arith)
