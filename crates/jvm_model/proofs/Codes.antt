-- A program whose codes are related to another one's, method by method, does the same.
use Rattle.std.proofs.Common.{ℕ, zero, suc, ◌<◌, List, [], ◌∷◌, Option, Some, None, Bool, true, false, ◌≡◌, ◌≢◌, ◌≤◌}
use Rattle.std.proofs.Common.{◌⊎◌}
use Rattle.std.proofs.Common.{inl, inr, refl, sym, ap, ◌∙◌, subst, arith, ⊎_elim}
use Rattle.std.specs.Prelude.{slice_get, codes, if◌then◌else◌}
use Rattle.std.specs.List.{AllZip}
use Rattle.std.specs.Option.{option_and_then}
use Rattle.class_model.specs.declared.code.Code.{Code}
use Rattle.jvm_model.specs.Answers.{Answer, Gives, Raises, Begins, Awaits, NoAnswer}
use Rattle.jvm_model.specs.Heap.{Init, Fresh, Begun, Ready, Failed, Object, World}
use Rattle.jvm_model.specs.Initialisation.{begin_by, complete, frame, goes_back, is_due, marked, prepare}
use Rattle.jvm_model.specs.Initialisation.{run_clinit, state}
use Rattle.jvm_model.specs.Local.{Local, Moves, Wants, Ends, Tosses, Stuck, called_with, handler_for, local, resumed}
use Rattle.jvm_model.specs.Local.{with_stack}
use Rattle.jvm_model.specs.Premise.{Effect, Enters, Meets, Premise, Stands, Turn, alone, breaks, together}
use Rattle.jvm_model.specs.Program.{View}
use Rattle.jvm_model.specs.Requests.{answer}
use Rattle.jvm_model.specs.Same.{Alike, Corr, CorrEnd, FrameCorr, LineCorr, Same, WorldCorr, line_at, own_names}
use Rattle.jvm_model.specs.State.{AfterCall, AfterClinit, AfterFirst, AfterInit, Body, Completes, Control, Frame}
use Rattle.jvm_model.specs.State.{Initialises}
use Rattle.jvm_model.specs.State.{Prepares, Returned, Runs, State, Threw, ToEntry, Unwinds, Wait, WentWrong, Wrong}
use Rattle.jvm_model.specs.State.{frames, in_flight}
use Rattle.jvm_model.specs.State.{status, status_of, waiting_frames}
use Rattle.jvm_model.specs.Step.{next, on_answer, on_local, return, run, run_frame, start, step, toss}
use Rattle.jvm_model.specs.Unwinding.{enter, is_of_class, unwind, unwind_clinit, unwind_frame}
use Rattle.jvm_model.specs.Value.{Key, Value, Int, Long, Null, Ref, Lit}
use Rattle.jvm_model.proofs.Compose.{is_wrong, line_refl, told_of, world_refl}

-- what has gone wrong stays so
wrong_control : (v : View) (w : World) (ws : List Wait) (c : Control) → status_of c ≡ WentWrong
    → status (next v w ws c) ≡ WentWrong
wrong_control v w ws (Runs f) e = cc
wrong_control v w ws (Unwinds n) e = cc
wrong_control v w ws (Initialises c) e = cc
wrong_control v w ws (Prepares c fs) e = cc
wrong_control v w ws (Completes c) e = cc
wrong_control v w ws (Returned o) e = cc
wrong_control v w ws (Threw n) e = cc
wrong_control v w ws Wrong e = refl

pub wrong_stays : (v : View) (s : State) → status s ≡ WentWrong → status (step v s) ≡ WentWrong
wrong_stays v s e = wrong_control v s.world s.waits s.control e

-- a code and what stands for it
abbrev pub CodeSim : (ℕ → Body → Body → Type 0) → Option Code → Option Code → Type 0
CodeSim R None b = b ≡ None
CodeSim R (Some c) b = (d : Code) × (b ≡ Some d) × Premise R c d

-- a body that waits and its partner, in codes that are there
abbrev Pair : (ℕ → Body → Body → Type 0) → Option Code → Option Code → Body → Body → Type 0
Pair R None y f g = y ≡ None
Pair R (Some c) y f g = (d : Code) × (y ≡ Some d) × LineCorr (line_at f.at c) (line_at g.at d)
    × ((i : List ℕ → Bool) → Enters R f g (handler_for i f.at c.handlers) (handler_for i g.at d.handlers))

module _ (v w : View) (shape : w.shape ≡ v.shape) (R : Key → ℕ → Body → Body → Type 0)
    (codes_sim : (m : Key) → CodeSim (R m) (v.code m) (w.code m))
    (begins : (m : Key) (args : List Value) → (n : ℕ) × R m n (called_with args) (called_with args)) where
  abbrev new : View
  new = record { shape = v.shape; code = w.code }

  abbrev AtPair : Key → Body → Body → Type 0
  AtPair m f g = Pair (R m) (v.code m) (w.code m) f g

  abbrev WaitSim : Wait → Wait → Type 0
  WaitSim (AfterCall f) k = (b : Body) × (k ≡ AfterCall (frame f.method b)) × AtPair f.method f.body b
      × ((o : Option Value) → (n : ℕ) × R f.method n (resumed f.body o) (resumed b o))
  WaitSim (AfterInit f) k = (b : Body) × (k ≡ AfterInit (frame f.method b)) × AtPair f.method f.body b
      × (n : ℕ) × R f.method n f.body b
  WaitSim (AfterFirst x xs) k = k ≡ AfterFirst x xs
  WaitSim (AfterClinit x) k = k ≡ AfterClinit x
  WaitSim (ToEntry x args) k = k ≡ ToEntry x args

  abbrev ControlSim : Control → Control → Type 0
  ControlSim (Runs f) k = (b : Body) × (k ≡ Runs (frame f.method b)) × (n : ℕ) × R f.method n f.body b
  ControlSim (Unwinds n) k = k ≡ Unwinds n
  ControlSim (Initialises x) k = k ≡ Initialises x
  ControlSim (Prepares x xs) k = k ≡ Prepares x xs
  ControlSim (Completes x) k = k ≡ Completes x
  ControlSim (Returned o) k = k ≡ Returned o
  ControlSim (Threw n) k = k ≡ Threw n
  ControlSim Wrong k = k ≡ Wrong

  record StateSim (s t : State) : Type 0 where
    world : t.world ≡ s.world
    control : ControlSim s.control t.control
    waits : AllZip WaitSim s.waits t.waits

  begin_sim : (x : Key) (args : List Value)
      → ControlSim (Runs (frame x (called_with args))) (Runs (frame x (called_with args)))
  begin_sim x args = (called_with args, refl, (begins x args).0, (begins x args).1)

  abbrev weight_of : (k l : Control) → ControlSim k l → ℕ
  weight_of (Runs f) l h = h.2
  weight_of (Unwinds n) l h = 0
  weight_of (Initialises x) l h = 0
  weight_of (Prepares x xs) l h = 0
  weight_of (Completes x) l h = 0
  weight_of (Returned o) l h = 0
  weight_of (Threw n) l h = 0
  weight_of Wrong l h = 0

  abbrev weight : (s t : State) → StateSim s t → ℕ
  weight s t h = weight_of s.control t.control h.control

  -- ---- what waits

  back_sim : (a : World) (ks ls : List Wait) → AllZip WaitSim ks ls → (k l : Wait) → WaitSim k l
      → StateSim (goes_back a (k ∷ ks)) (goes_back a (l ∷ ls))
  back_sim a ks ls z (AfterCall f) l h =
      subst (λ q. StateSim (goes_back a (AfterCall f ∷ ks)) (goes_back a (q ∷ ls))) (sym h.1)
      (record { world = refl; control = refl; waits = ((h.0, refl, h.2, h.3), z) })
  back_sim a ks ls z (AfterInit f) l h =
      subst (λ q. StateSim (goes_back a (AfterInit f ∷ ks)) (goes_back a (q ∷ ls))) (sym h.1)
      (record { world = refl; control = (h.0, refl, h.3, h.4); waits = z })
  back_sim a ks ls z (AfterFirst x xs) l h =
      subst (λ q. StateSim (goes_back a (AfterFirst x xs ∷ ks)) (goes_back a (q ∷ ls))) (sym h)
      (record { world = refl; control = refl; waits = z })
  back_sim a ks ls z (AfterClinit x) l h =
      subst (λ q. StateSim (goes_back a (AfterClinit x ∷ ks)) (goes_back a (q ∷ ls))) (sym h)
      (record { world = refl; control = refl; waits = (refl, z) })
  back_sim a ks ls z (ToEntry x args) l h =
      subst (λ q. StateSim (goes_back a (ToEntry x args ∷ ks)) (goes_back a (q ∷ ls))) (sym h)
      (record { world = refl; control = begin_sim x args; waits = z })

  back_all : (a : World) (ks ls : List Wait) → AllZip WaitSim ks ls → StateSim (goes_back a ks) (goes_back a ls)
  back_all a [] [] z = record { world = refl; control = refl; waits = tt }
  back_all a [] (l ∷ ls) z = absurd z
  back_all a (k ∷ ks) [] z = absurd z
  back_all a (k ∷ ks) (l ∷ ls) z = back_sim a ks ls z.1 k l z.0

  -- ---- initialisation

  module _ (a : World) (ks ls : List Wait) (z : AllZip WaitSim ks ls) where
    begin_by_sim : (x : List ℕ) (i : Init) → StateSim (begin_by v.shape a x ks i) (begin_by v.shape a x ls i)
    begin_by_sim x Fresh = record { world = refl; control = refl; waits = z }
    begin_by_sim x Begun = back_all a ks ls z
    begin_by_sim x Ready = back_all a ks ls z
    begin_by_sim x Failed = record { world = refl; control = refl; waits = z }

    complete_sim : (x : List ℕ) → StateSim (complete a x ks) (complete a x ls)
    complete_sim x = back_all (marked a x Ready) ks ls z

    clinit_sim : (x : List ℕ) (o : Option Key) → StateSim (run_clinit a x ks o) (run_clinit a x ls o)
    clinit_sim x None = complete_sim x
    clinit_sim x (Some m) = record { world = refl; control = begin_sim m []; waits = (refl, z) }

    first_sim : (x y : List ℕ) (ys : List (List ℕ)) (due : Bool) (s t : State) → StateSim s t
        → StateSim (if due then state a (Initialises y) (AfterFirst x ys ∷ ks) else s)
        (if due then state a (Initialises y) (AfterFirst x ys ∷ ls) else t)
    first_sim x y ys true s t h = record { world = refl; control = refl; waits = (refl, z) }
    first_sim x y ys false s t h = h

    prepare_sim : (x : List ℕ) (ys : List (List ℕ)) → StateSim (prepare v.shape a x ys ks) (prepare v.shape a x ys ls)
    prepare_sim x [] = clinit_sim x (v.shape.clinit x)
    prepare_sim x (y ∷ ys) = first_sim x y ys (is_due (a.inits y)) _ _ (prepare_sim x ys)

    clinit_thrown : (n : ℕ) (b : Bool) → StateSim (unwind_clinit a n ks b) (unwind_clinit a n ls b)
    clinit_thrown n true = record { world = refl; control = refl; waits = z }
    clinit_thrown n false = record { world = refl; control = refl; waits = z }

  -- ---- a frame

  module _ (a : World) (ks ls : List Wait) (z : AllZip WaitSim ks ls) (x : Key) where
    answer_sim : (f g f' g' : Body) → AtPair x f f' → (n : ℕ) → R x n f f' → AtPair x g g'
        → ((o : Option Value) → (n : ℕ) × R x n (resumed g o) (resumed g' o)) → (q : Answer)
        → StateSim (on_answer v.shape a x f g ks q) (on_answer v.shape a x f' g' ls q)
    answer_sim f g f' g' p n r k e (Gives o u) = record {
      world = refl;
      control =
          (_, refl, (e o).0, (e o).1);
      waits = z;
    }
    answer_sim f g f' g' p n r k e (Raises c) = record { world = refl; control = refl; waits = ((g', refl, k, e), z) }
    answer_sim f g f' g' p n r k e (Begins m args) =
        record { world = refl; control = begin_sim m args; waits = ((g', refl, k, e), z) }
    answer_sim f g f' g' p n r k e (Awaits c) =
        begin_by_sim a (AfterInit (frame x f) ∷ ks) (AfterInit (frame x f') ∷ ls) ((f', refl, p, n, r), z) c (a.inits c)
    answer_sim f g f' g' p n r k e NoAnswer = record { world = refl; control = refl; waits = z }

    toss_sim : (f f' : Body) → AtPair x f f' → (n : ℕ) → R x n f f' → (u : Value)
        → StateSim (toss a (frame x f) u ks) (toss a (frame x f') u ls)
    toss_sim f f' p n r (Ref i) = record { world = refl; control = refl; waits = ((f', refl, p, n, r), z) }
    toss_sim f f' p n r Null = record { world = refl; control = refl; waits = ((f', refl, p, n, r), z) }
    toss_sim f f' p n r (Int i) = record { world = refl; control = refl; waits = z }
    toss_sim f f' p n r (Long i) = record { world = refl; control = refl; waits = z }
    toss_sim f f' p n r (Lit u) = record { world = refl; control = refl; waits = z }

    entry_sim : (f g : Body) (n : ℕ) (i j : Option ℕ) → Enters (R x) f g i j
        → StateSim (enter a n (frame x f) ks i) (enter a n (frame x g) ls j)
    entry_sim f g n None j e =
        subst (λ q. StateSim (enter a n (frame x f) ks None) (enter a n (frame x g) ls q)) (sym e)
        (record { world = refl; control = refl; waits = z })
    entry_sim f g n (Some h) j e =
        subst (λ q. StateSim (enter a n (frame x f) ks (Some h)) (enter a n (frame x g) ls q)) (sym e.1)
        (record { world = refl; control = (_, refl, (e.2 n).0, (e.2 n).1); waits = z })

    unwound_sim : (f g : Body) (n : ℕ) (c d : Option Code) → Pair (R x) c d f g
        → StateSim (unwind_frame v.shape a n (frame x f) ks c) (unwind_frame v.shape a n (frame x g) ls d)
    unwound_sim f g n None d p =
        subst (λ q. StateSim (unwind_frame v.shape a n (frame x f) ks None)
        (unwind_frame v.shape a n (frame x g) ls q)) (sym p)
        (record { world = refl; control = refl; waits = z })
    unwound_sim f g n (Some c) d p =
        subst (λ q. StateSim (unwind_frame v.shape a n (frame x f) ks (Some c))
        (unwind_frame v.shape a n (frame x g) ls q))
        (sym p.1) (entry_sim f g n _ _ (p.3 (is_of_class v.shape (slice_get a.heap n))))

  module _ (a : World) (ks ls : List Wait) (z : AllZip WaitSim ks ls) where
    return_sim : (o : Option Value) (k l : Wait) → WaitSim k l → StateSim (return a o (k ∷ ks)) (return a o (l ∷ ls))
    return_sim o (AfterCall f) l h =
        subst (λ q. StateSim (return a o (AfterCall f ∷ ks)) (return a o (q ∷ ls))) (sym h.1)
        (record { world = refl; control = (_, refl, (h.3 o).0, (h.3 o).1); waits = z })
    return_sim o (AfterInit f) l h =
        subst (λ q. StateSim (return a o (AfterInit f ∷ ks)) (return a o (q ∷ ls))) (sym h.1)
        (record { world = refl; control = refl; waits = ((h.0, refl, h.2, h.3, h.4), z) })
    return_sim o (AfterFirst x xs) l h =
        subst (λ q. StateSim (return a o (AfterFirst x xs ∷ ks)) (return a o (q ∷ ls))) (sym h)
        (record { world = refl; control = refl; waits = (refl, z) })
    return_sim o (AfterClinit x) l h =
        subst (λ q. StateSim (return a o (AfterClinit x ∷ ks)) (return a o (q ∷ ls))) (sym h)
        (record { world = refl; control = refl; waits = z })
    return_sim o (ToEntry x args) l h =
        subst (λ q. StateSim (return a o (ToEntry x args ∷ ks)) (return a o (q ∷ ls))) (sym h)
        (record { world = refl; control = refl; waits = (refl, z) })

    unwind_sim : (n : ℕ) (k l : Wait) → WaitSim k l → StateSim (unwind v a n (k ∷ ks)) (unwind new a n (l ∷ ls))
    unwind_sim n (AfterCall f) l h =
        subst (λ q. StateSim (unwind v a n (AfterCall f ∷ ks)) (unwind new a n (q ∷ ls))) (sym h.1)
        (unwound_sim a ks ls z f.method f.body h.0 n _ _ h.2)
    unwind_sim n (AfterInit f) l h =
        subst (λ q. StateSim (unwind v a n (AfterInit f ∷ ks)) (unwind new a n (q ∷ ls))) (sym h.1)
        (unwound_sim a ks ls z f.method f.body h.0 n _ _ h.2)
    unwind_sim n (AfterFirst x xs) l h =
        subst (λ q. StateSim (unwind v a n (AfterFirst x xs ∷ ks)) (unwind new a n (q ∷ ls))) (sym h)
        (record { world = refl; control = refl; waits = z })
    unwind_sim n (AfterClinit x) l h =
        subst (λ q. StateSim (unwind v a n (AfterClinit x ∷ ks)) (unwind new a n (q ∷ ls))) (sym h)
        (clinit_thrown (marked a x Failed) ks ls z n
        (is_of_class v.shape (slice_get a.heap n) (codes "java/lang/Error")))
    unwind_sim n (ToEntry x args) l h =
        subst (λ q. StateSim (unwind v a n (ToEntry x args ∷ ks)) (unwind new a n (q ∷ ls))) (sym h)
        (record { world = refl; control = refl; waits = tt })

  return_all : (a : World) (o : Option Value) (ks ls : List Wait) → AllZip WaitSim ks ls
      → StateSim (return a o ks) (return a o ls)
  return_all a o [] [] z = record { world = refl; control = refl; waits = tt }
  return_all a o [] (l ∷ ls) z = absurd z
  return_all a o (k ∷ ks) [] z = absurd z
  return_all a o (k ∷ ks) (l ∷ ls) z = return_sim a ks ls z.1 o k l z.0

  unwind_all : (a : World) (n : ℕ) (ks ls : List Wait) → AllZip WaitSim ks ls
      → StateSim (unwind v a n ks) (unwind new a n ls)
  unwind_all a n [] [] z = record { world = refl; control = refl; waits = tt }
  unwind_all a n [] (l ∷ ls) z = absurd z
  unwind_all a n (k ∷ ks) [] z = absurd z
  unwind_all a n (k ∷ ks) (l ∷ ls) z = unwind_sim a ks ls z.1 n k l z.0

  local_sim : (a : World) (ks ls : List Wait) → AllZip WaitSim ks ls → (x : Key) (f g : Body) (n : ℕ) → R x n f g
      → AtPair x f g → ((s t : List Value) → AtPair x (with_stack f s) (with_stack g t)) → (l k : Local)
      → Effect (R x) f g l k
      → (status (on_local v.shape a x f ks l) ≡ WentWrong)
      ⊎ StateSim (on_local v.shape a x f ks l) (on_local v.shape a x g ls k)
  local_sim a ks ls z x f g n r p ps (Moves f') k e =
      inr (subst (λ q. StateSim (on_local v.shape a x f ks (Moves f')) (on_local v.shape a x g ls q)) (sym e.1)
      (record { world = refl; control = (e.0, refl, e.2, e.3); waits = z }))
  local_sim a ks ls z x f g n r p ps (Wants q s) k e =
      inr (subst (λ y. StateSim (on_local v.shape a x f ks (Wants q s)) (on_local v.shape a x g ls y)) (sym e.1)
      (answer_sim a ks ls z x f (with_stack f s) g (with_stack g e.0) p n r (ps s e.0) e.2
      (answer v.shape x.class a q)))
  local_sim a ks ls z x f g n r p ps (Ends o) k e =
      inr (subst (λ q. StateSim (on_local v.shape a x f ks (Ends o)) (on_local v.shape a x g ls q)) (sym e)
      (return_all a o ks ls z))
  local_sim a ks ls z x f g n r p ps (Tosses u) k e =
      inr (subst (λ q. StateSim (on_local v.shape a x f ks (Tosses u)) (on_local v.shape a x g ls q)) (sym e)
      (toss_sim a ks ls z x f g p n r u))
  local_sim a ks ls z x f g n r p ps Stuck k e = inl refl

  -- ---- lines

  abbrev Lined : Frame → Frame → Type 0
  Lined f g = FrameCorr v new own_names f g

  pair_lined : (m : Key) (f g : Body) → AtPair m f g → Lined (frame m f) (frame m g)
  pair_lined m f g p = record { method = refl; line = by (v.code m) (w.code m) p }
    where
      by : (x y : Option Code) → Pair (R m) x y f g
          → LineCorr (option_and_then (line_at f.at) x) (option_and_then (line_at g.at) y)
      by None y p = subst (λ q. LineCorr None (option_and_then (line_at g.at) q)) (sym p) tt
      by (Some c) y p = subst (λ q. LineCorr (line_at f.at c) (option_and_then (line_at g.at) q)) (sym p.1) p.2

  below_lined : (ks ls : List Wait) → AllZip WaitSim ks ls → AllZip Lined (waiting_frames ks) (waiting_frames ls)
  below_lined [] [] z = tt
  below_lined [] (l ∷ ls) z = absurd z
  below_lined (k ∷ ks) [] z = absurd z
  below_lined (AfterCall f ∷ ks) (l ∷ ls) z =
      subst (λ q. AllZip Lined (f ∷ waiting_frames ks) (waiting_frames (q ∷ ls))) (sym z.0.1)
      (pair_lined f.method f.body z.0.0 z.0.2, below_lined ks ls z.1)
  below_lined (AfterInit f ∷ ks) (l ∷ ls) z =
      subst (λ q. AllZip Lined (f ∷ waiting_frames ks) (waiting_frames (q ∷ ls))) (sym z.0.1)
      (pair_lined f.method f.body z.0.0 z.0.2, below_lined ks ls z.1)
  below_lined (AfterFirst x xs ∷ ks) (l ∷ ls) z =
      subst (λ q. AllZip Lined (waiting_frames ks) (waiting_frames (q ∷ ls))) (sym z.0) (below_lined ks ls z.1)
  below_lined (AfterClinit x ∷ ks) (l ∷ ls) z =
      subst (λ q. AllZip Lined (waiting_frames ks) (waiting_frames (q ∷ ls))) (sym z.0) (below_lined ks ls z.1)
  below_lined (ToEntry x args ∷ ks) (l ∷ ls) z =
      subst (λ q. AllZip Lined (waiting_frames ks) (waiting_frames (q ∷ ls))) (sym z.0) (below_lined ks ls z.1)

  status_sim : (k l : Control) → ControlSim k l → status_of l ≡ status_of k
  status_sim (Runs f) l h = ap status_of h.1
  status_sim (Unwinds n) l h = ap status_of h
  status_sim (Initialises x) l h = ap status_of h
  status_sim (Prepares x xs) l h = ap status_of h
  status_sim (Completes x) l h = ap status_of h
  status_sim (Returned o) l h = ap status_of h
  status_sim (Threw n) l h = ap status_of h
  status_sim Wrong l h = ap status_of h

  flight_sim : (k l : Control) → ControlSim k l → in_flight l ≡ in_flight k
  flight_sim (Runs f) l h = ap in_flight h.1
  flight_sim (Unwinds n) l h = ap in_flight h
  flight_sim (Initialises x) l h = ap in_flight h
  flight_sim (Prepares x xs) l h = ap in_flight h
  flight_sim (Completes x) l h = ap in_flight h
  flight_sim (Returned o) l h = ap in_flight h
  flight_sim (Threw n) l h = ap in_flight h
  flight_sim Wrong l h = ap in_flight h

  world_sim : (s t : State) → StateSim s t → WorldCorr own_names s.world t.world
  world_sim s t h = subst (λ q. WorldCorr own_names s.world q) (sym h.world) (world_refl s.world)

  end_sim : (s t : State) → status s ≢ WentWrong → StateSim s t → CorrEnd own_names s t
  end_sim s t ok h = record {
    ending = (status_sim s.control t.control h.control, ok);
    told = told_of (status s) own_names s.world t.world (world_sim s t h);
  }

  corr_with : (s t : State) → status s ≢ WentWrong → StateSim s t → AllZip Lined (frames s) (frames t)
      → Corr v new own_names s t
  corr_with s t ok h l = record {
    ending = (status_sim s.control t.control h.control, ok);
    world = world_sim s t h;
    thrown = flight_sim s.control t.control h.control;
    stack = l;
  }

  -- ---- one step

  abbrev Goes : ℕ → State → State → State → State → Type 0
  Goes n s t s' t' = (status s' ≡ WentWrong)
      ⊎ (((y : StateSim s' t) × (weight s' t y < n)) ⊎ (StateSim s' t' × AllZip Lined (frames s) (frames t)))

  module _ (a : World) (ks ls : List Wait) (z : AllZip WaitSim ks ls) where
    turned : (m : Key) (f g : Body) (c d : Code) → v.code m ≡ Some c → w.code m ≡ Some d → (n : ℕ) → R m n f g
        → Turn (R m) c d n f g
        → Goes n (state a (Runs (frame m f)) ks) (state a (Runs (frame m g)) ls) (on_local v.shape a m f ks (local c f))
        (on_local v.shape a m g ls (local d g))
    turned m f g c d vc wd n r (breaks x) = inl (ap (λ l. status (on_local v.shape a m f ks l)) x)
    turned m f g c d vc wd n r (alone f' x k r' less) =
        inr (inl (subst
        (λ l. (y : StateSim (on_local v.shape a m f ks l) (state a (Runs (frame m g)) ls))
        × (weight (on_local v.shape a m f ks l) (state a (Runs (frame m g)) ls) y < n))
        (sym x)
        (record { world = refl; control = (g, refl, k, r'); waits = z }, less)))
    turned m f g c d vc wd n r (together x) =
        let here : (s t : List Value) → AtPair m (with_stack f s) (with_stack g t) =
        λ s t. subst (λ o. Pair (R m) o (w.code m) (with_stack f s) (with_stack g t)) (sym vc)
        (d, wd, x.line, x.caught) in
        let p : AtPair m f g = subst (λ o. Pair (R m) o (w.code m) f g) (sym vc) (d, wd, x.line, x.caught) in
        ⊎_elim (λ bad. inl bad) (λ h. inr (inr (h, (pair_lined m f g p, below_lined ks ls z))))
        (local_sim a ks ls z m f g n r p here _ _ x.effect)

    coded : (m : Key) (f g : Body) (n : ℕ) → R m n f g → (x y : Option Code) → v.code m ≡ x → w.code m ≡ y
        → CodeSim (R m) x y
        → Goes n (state a (Runs (frame m f)) ks) (state a (Runs (frame m g)) ls) (run_frame v.shape a m f ks x)
        (run_frame v.shape a m g ls y)
    coded m f g n r None y vx wy k = inl refl
    coded m f g n r (Some c) y vx wy k =
        subst
        (λ q. Goes n (state a (Runs (frame m f)) ks) (state a (Runs (frame m g)) ls)
        (run_frame v.shape a m f ks (Some c)) (run_frame v.shape a m g ls q))
        (sym k.1) (turned m f g c k.0 vx (wy ∙ k.1) n r (k.2.turn n f g r))

    next_sim : (k l : Control) (h : ControlSim k l)
        → Goes (weight_of k l h) (state a k ks) (state a l ls) (next v a ks k) (next new a ls l)
    next_sim (Runs f) l h =
        subst (λ q. Goes h.2 (state a (Runs f) ks) (state a q ls) (next v a ks (Runs f)) (next new a ls q)) (sym h.1)
        (coded f.method f.body h.0 h.2 h.3 _ _ refl refl (codes_sim f.method))
    next_sim (Unwinds n) l h =
        subst (λ q. Goes 0 (state a (Unwinds n) ks) (state a q ls) (next v a ks (Unwinds n)) (next new a ls q)) (sym h)
        (inr (inr (unwind_all a n ks ls z, below_lined ks ls z)))
    next_sim (Initialises x) l h =
        subst (λ q. Goes 0 (state a (Initialises x) ks) (state a q ls) (next v a ks (Initialises x)) (next new a ls q))
        (sym h)
        (inr (inr (begin_by_sim a ks ls z x (a.inits x), below_lined ks ls z)))
    next_sim (Prepares x xs) l h =
        subst (λ q. Goes 0 (state a (Prepares x xs) ks) (state a q ls) (next v a ks (Prepares x xs)) (next new a ls q))
        (sym h)
        (inr (inr (prepare_sim a ks ls z x xs, below_lined ks ls z)))
    next_sim (Completes x) l h =
        subst (λ q. Goes 0 (state a (Completes x) ks) (state a q ls) (next v a ks (Completes x)) (next new a ls q))
        (sym h)
        (inr (inr (complete_sim a ks ls z x, below_lined ks ls z)))
    next_sim (Returned o) l h =
        subst (λ q. Goes 0 (state a (Returned o) ks) (state a q ls) (next v a ks (Returned o)) (next new a ls q))
        (sym h)
        (inr (inr (record { world = refl; control = refl; waits = z }, below_lined ks ls z)))
    next_sim (Threw n) l h =
        subst (λ q. Goes 0 (state a (Threw n) ks) (state a q ls) (next v a ks (Threw n)) (next new a ls q)) (sym h)
        (inr (inr (record { world = refl; control = refl; waits = z }, below_lined ks ls z)))
    next_sim Wrong l h = inl refl

  step_sim : (s t : State) (h : StateSim s t) → Goes (weight s t h) s t (step v s) (step new t)
  step_sim s t h =
      subst (λ a. Goes (weight s t h) s (state a t.control t.waits) (step v s) (next new a t.waits t.control))
      (sym h.world)
      (next_sim s.world s.waits t.waits h.waits s.control t.control h.control)

  -- ---- whole runs

  module _ (s t : State) (h : StateSim s t) where
    abbrev Keeps : ℕ → Type 0
    Keeps n = (status (run v s n) ≡ WentWrong) ⊎ ((k : ℕ) × (k ≤ n) × StateSim (run v s n) (run new t k))

    keeps_next : (n k : ℕ) → k ≤ n → (x : StateSim (run v s n) (run new t k))
        → Goes (weight _ _ x) (run v s n) (run new t k) (run v s (suc n)) (run new t (suc k)) → Keeps (suc n)
    keeps_next n k le x (inl bad) = inl bad
    keeps_next n k le x (inr (inl q)) = inr (k, omega arith, q.0)
    keeps_next n k le x (inr (inr q)) = inr (suc k, omega arith, q.0)

    keeps : (n : ℕ) → Keeps n
    keeps zero = inr (zero, omega arith, h)
    keeps (suc n) = ⊎_elim (λ bad. inl (wrong_stays v (run v s n) bad))
        (λ q. keeps_next n q.0 q.1 q.2 (step_sim _ _ q.2)) (keeps n)

    abbrev IsWrong : Type 0
    IsWrong = (n : ℕ) × (status (run v s n) ≡ WentWrong)

    -- the old program is at the same instruction, and both go on
    abbrev Met : ℕ → Type 0
    Met k = IsWrong ⊎ ((n : ℕ) × (k ≤ n) × StateSim (run v s n) (run new t k)
        × AllZip Lined (frames (run v s n)) (frames (run new t k)) × StateSim (run v s (suc n)) (run new t (suc k)))

    met_turn : (w n k : ℕ) → k ≤ n → (x : StateSim (run v s n) (run new t k))
        → ((y : StateSim (run v s (suc n)) (run new t k)) → weight _ _ y < w → Met k)
        → Goes w (run v s n) (run new t k) (run v s (suc n)) (run new t (suc k)) → Met k
    met_turn w n k le x more (inl bad) = inl (suc n, bad)
    met_turn w n k le x more (inr (inl q)) = more q.0 q.1
    met_turn w n k le x more (inr (inr q)) = inr (n, le, x, q.1, q.0)

    met : (fuel n k : ℕ) → k ≤ n → (x : StateSim (run v s n) (run new t k)) → weight _ _ x < fuel → Met k
    met zero n k le x less = absurd (omega arith)
    met (suc fuel) n k le x less =
        met_turn (weight _ _ x) n k le x (λ y lower. met fuel (suc n) k (omega arith) y (omega (arith, lower, less)))
        (step_sim (run v s n) (run new t k) x)

    arrives : (k : ℕ) → IsWrong ⊎ ((n : ℕ) × (k ≤ n) × StateSim (run v s n) (run new t k))
    arrives zero = inr (zero, omega arith, h)
    arrives (suc k) =
        ⊎_elim
        (λ bad. inl bad)
        (λ q. ⊎_elim (λ bad. inl bad) (λ y. inr (suc y.0, omega (arith, y.1), y.4))
        (met (suc (weight _ _ q.2)) q.0 k q.1 q.2 (omega arith)))
        (arrives k)

    corr_at : (k : ℕ) → Met k → ((n : ℕ) × (k ≤ n) × Corr v new own_names (run v s n) (run new t k)) ⊎ IsWrong
    corr_at k (inl bad) = inr bad
    corr_at k (inr y) = ⊎_elim (λ bad. inr (y.0, bad)) (λ ok. inl (y.0, y.1, corr_with _ _ ok y.2 y.3))
        (is_wrong (status (run v s y.0)))

    alike : Alike v new own_names s t
    alike = record {
      as_far = λ n ok. ⊎_elim (λ bad. absurd (ok bad)) (λ q. (q.0, q.1, end_sim _ _ ok q.2)) (keeps n);
      no_further = λ k. ⊎_elim (λ bad. inr bad)
          (λ q. corr_at k (met (suc (weight _ _ q.2)) q.0 k q.1 q.2 (omega arith))) (arrives k);
    }

  start_sim : (x : Key) (heap : List Object) (args : List Value)
      → StateSim (start v x heap args) (start new x heap args)
  start_sim x heap args = record { world = refl; control = refl; waits = (refl, tt) }

  own_same : (entries : List Key) → Same v new own_names entries
  own_same entries x i = (x, refl, λ heap plain args. alike _ _ (start_sim x heap args))

  -- programs that differ in codes alone
  pub codes_same : (entries : List Key) → Same v w own_names entries
  codes_same entries =
      subst (λ p. Same v (record { shape = p; code = w.code }) own_names entries) (sym shape) (own_same entries)

-- ---- the codes of a pass

abbrev Equal : ℕ → Body → Body → Type 0
Equal n f g = g ≡ f

same_effect : (f : Body) (l : Local) → Effect Equal f f l l
same_effect f (Moves g) = (g, refl, 0, refl)
same_effect f (Wants r s) = (s, refl, λ o. (0, refl))
same_effect f (Ends o) = refl
same_effect f (Tosses v) = refl
same_effect f Stuck = tt

same_entry : (f : Body) (o : Option ℕ) → Enters Equal f f o o
same_entry f None = refl
same_entry f (Some h) = (h, refl, λ x. (0, refl))

same_meets : (c : Code) (f : Body) → Meets Equal c c f f
same_meets c f = record {
  line = line_refl _;
  caught = λ i. same_entry f (handler_for i f.at c.handlers);
  effect = same_effect f (local c f);
}

same_premise : (c : Code) → Premise Equal c c
same_premise c = record {
  begins = λ args. (0, refl);
  turn = λ n f g r. subst (Turn Equal c c n f) (sym r) (together (same_meets c f));
}

module _ (puts : Code → Code → Type 0) (related : (c d : Code) → puts c d → ℕ → Body → Body → Type 0)
    (premise : (c d : Code) (p : puts c d) → Premise (related c d p) c d) where
  abbrev RelationOf : (a b : Option Code) → Stands puts a b → ℕ → Body → Body → Type 0
  RelationOf a b (inl e) = Equal
  RelationOf a b (inr h) = related h.0 h.1 h.4

  code_sim : (a b : Option Code) (s : Stands puts a b) → CodeSim (RelationOf a b s) a b
  code_sim None b (inl e) = e
  code_sim (Some c) b (inl e) = (c, e, same_premise c)
  code_sim a b (inr h) =
      subst (λ x. CodeSim (related h.0 h.1 h.4) x b) (sym h.2) (h.1, h.3, premise h.0 h.1 h.4)

  begin_all : (a b : Option Code) (s : Stands puts a b) (args : List Value)
      → (n : ℕ) × RelationOf a b s n (called_with args) (called_with args)
  begin_all a b (inl e) args = (0, refl)
  begin_all a b (inr h) args = (premise h.0 h.1 h.4).begins args

  pub pass_same : (v w : View) → w.shape ≡ v.shape → ((m : Key) → Stands puts (v.code m) (w.code m))
      → (entries : List Key) → Same v w own_names entries
  pass_same v w e s = codes_same v w e (λ m. RelationOf (v.code m) (w.code m) (s m))
      (λ m. code_sim (v.code m) (w.code m) (s m)) (λ m args. begin_all (v.code m) (w.code m) (s m) args)
