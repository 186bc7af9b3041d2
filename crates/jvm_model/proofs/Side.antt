-- A program and its image go side by side.
use Rattle.std.proofs.Common.{ℕ, zero, suc, List, [], ◌∷◌, Option, Some, None, Bool, true, false, ◌≡◌, ◌≢◌, ◌⊎◌, ◌&&◌}
use Rattle.std.proofs.Common.{inl, inr, refl, sym, ap, ◌∙◌, subst, ⊎_elim}
use Rattle.std.specs.Prelude.{codes, cond, nat_le, nat_lt, option_map, slice_get, if◌then◌else◌}
use Rattle.std.specs.List.{AllZip, find}
use Rattle.std.specs.Option.{option_and_then, option_map_or}
use Rattle.std.proofs.lemmas.Bool.{and_parts}
use Rattle.jv_base.specs.Names.{is_text}
use Rattle.jv_base.proofs.Equality.{text_Decides}
use Rattle.jv_base.specs.declared.types.Base.{Base}
use Rattle.jv_base.specs.declared.types.Base.TheVariants as base
use Rattle.class_model.specs.declared.code.Code.{Code}
use Rattle.class_model.specs.declared.code.Handler.{Handler}
use Rattle.class_model.specs.declared.code.Ins.{Ins}
use Rattle.jvm_model.specs.Answers.{Answer, Gives, Raises, Begins, Awaits, NoAnswer}
use Rattle.jvm_model.specs.Exceptions.{Exception, InInitializer, NoClassDef, NullPointer}
use Rattle.jvm_model.specs.Fields.{blank, stored_in}
use Rattle.jvm_model.specs.Heap.{Array, Begun, Builder, Failed, Fresh, Init, Instance, Object, Ready, Str, World}
use Rattle.jvm_model.specs.Heap.{class_of}
use Rattle.jvm_model.specs.Heap.{string}
use Rattle.jvm_model.specs.Initialisation.{begin, begin_by, complete, frame, goes_back, is_due, marked, prepare, raised}
use Rattle.jvm_model.specs.Initialisation.{run_clinit, state, with_constants}
use Rattle.jvm_model.specs.Local.{Local, Moves, Wants, Ends, Tosses, Stuck, by_instruction, handler_for}
use Rattle.jvm_model.specs.Local.{handles, with_stack}
use Rattle.jvm_model.specs.Mapped.{CodeMap, HandlerMap, InsMap, Mapped, Mapping, OptionCorr}
use Rattle.jvm_model.specs.Program.{View}
use Rattle.jvm_model.specs.Same.{AreKept, Corr, FrameCorr, LineCorr, ObjectCorr, Same, SameSteps, WorldCorr}
use Rattle.jvm_model.specs.Same.{base_name, line_at}
use Rattle.jvm_model.specs.Start.{ArePlain, is_plain_base, is_plain_object}
use Rattle.jvm_model.specs.State.{AfterCall, AfterClinit, AfterFirst, AfterInit, Body, Completes, Control, Frame}
use Rattle.jvm_model.specs.State.{Initialises}
use Rattle.jvm_model.specs.State.{Prepares, Returned, Runs, State, Threw, ToEntry, Unwinds, Wait, WentWrong, Wrong}
use Rattle.jvm_model.specs.State.{frames_with, in_flight, status, status_of, waiting_frames}
use Rattle.jvm_model.specs.Step.{next, on_answer, on_local, out, return, run, run_frame, start}
use Rattle.jvm_model.specs.Step.{toss}
use Rattle.jvm_model.specs.Unwinding.{enter, is_of_class, unwind, unwind_clinit, unwind_frame}
use Rattle.jvm_model.specs.Value.{Key, Value, Int, Long, Null, Ref, Lit}
use Rattle.jvm_model.proofs.Answering.{AnswerMap, answer_map, class_same, exception_same, fresh_same, heap_at}
use Rattle.jvm_model.proofs.Answering.{instance_same}
use Rattle.jvm_model.proofs.Answering.{one_more, same_length}
use Rattle.jvm_model.proofs.Asking.{LocalMap, local_map, sort_map}
use Rattle.jvm_model.proofs.Codes.{wrong_stays}
use Rattle.jvm_model.proofs.Compose.{is_wrong, steps_same, there_is}
use Rattle.jvm_model.proofs.Keys.{set_class_agrees, set_key_agrees, texts_agree, zip_get}

module _ (m : Mapping) (v w : View) (is : Mapped m v w) where
  abbrev Classes : List ℕ → List ℕ → Type 0
  Classes c d = m.names.class c ≡ Some d

  abbrev Methods : Key → Key → Type 0
  Methods k l = m.names.method k ≡ Some l

  abbrev Worlds : World → World → Type 0
  Worlds a b = WorldCorr m.names a b

  abbrev WaitMap : Wait → Wait → Type 0
  WaitMap (AfterCall f) k = (n : Key) × (k ≡ AfterCall (frame n f.body)) × Methods f.method n
  WaitMap (AfterInit f) k = (n : Key) × (k ≡ AfterInit (frame n f.body)) × Methods f.method n
  WaitMap (AfterFirst c cs) k =
      (d : List ℕ) × (ds : List (List ℕ)) × (k ≡ AfterFirst d ds) × Classes c d × AllZip Classes cs ds
  WaitMap (AfterClinit c) k = (d : List ℕ) × (k ≡ AfterClinit d) × Classes c d
  WaitMap (ToEntry x args) k = (n : Key) × (k ≡ ToEntry n args) × Methods x n

  abbrev ControlMap : Control → Control → Type 0
  ControlMap (Runs f) k = (n : Key) × (k ≡ Runs (frame n f.body)) × Methods f.method n
  ControlMap (Unwinds n) k = k ≡ Unwinds n
  ControlMap (Initialises c) k = (d : List ℕ) × (k ≡ Initialises d) × Classes c d
  ControlMap (Prepares c cs) k =
      (d : List ℕ) × (ds : List (List ℕ)) × (k ≡ Prepares d ds) × Classes c d × AllZip Classes cs ds
  ControlMap (Completes c) k = (d : List ℕ) × (k ≡ Completes d) × Classes c d
  ControlMap (Returned o) k = k ≡ Returned o
  ControlMap (Threw n) k = k ≡ Threw n
  ControlMap Wrong k = k ≡ Wrong

  record StateMap (s t : State) : Type 0 where
    world : Worlds s.world t.world
    control : ControlMap s.control t.control
    waits : AllZip WaitMap s.waits t.waits

  -- it has gone wrong, or the image is there too
  abbrev Goes : State → State → Type 0
  Goes s t = (status s ≡ WentWrong) ⊎ StateMap s t

  -- ---- exceptions

  raised_map : (a b : World) → Worlds a b → (ks ls : List Wait) → AllZip WaitMap ks ls → (e : Exception)
      → StateMap (raised a e ks) (raised b e ls)
  raised_map a b h ks ls z e = record {
    world = one_more m v.shape w.shape is.shape a b h _ _ (fresh_same m v.shape w.shape is.shape _ _
        (exception_same m v.shape w.shape is.shape e));
    control = ap Unwinds (same_length m v.shape w.shape is.shape a b h);
    waits = z;
  }

  of_class_by : (c d : List ℕ) → Classes c d → (x y : Option Object) → OptionCorr (ObjectCorr m.names) x y
      → is_of_class w.shape y d ≡ is_of_class v.shape x c
  of_class_by c d e None y r = ap (λ o. is_of_class w.shape o d) r
  of_class_by c d e (Some x) y r =
      ap (λ o. is_of_class w.shape o d) r.1
      ∙ is.shape.is_sub (class_of x) c (class_of r.0) d (class_same m v.shape w.shape is.shape x r.0 r.2) e

  of_class_same : (a b : World) → Worlds a b → (n : ℕ) (c d : List ℕ) → Classes c d
      → is_of_class w.shape (slice_get b.heap n) d ≡ is_of_class v.shape (slice_get a.heap n) c
  of_class_same a b h n c d e = of_class_by c d e _ _ (heap_at m v.shape w.shape is.shape a b h n)

  caught_same : (f g : List ℕ → Bool) → ((c d : List ℕ) → Classes c d → g d ≡ f c) → (x y : Option (List ℕ))
      → OptionCorr Classes x y → option_map_or g y true ≡ option_map_or f x true
  caught_same f g h None y r = ap (λ o. option_map_or g o true) r
  caught_same f g h (Some c) y r = ap (λ o. option_map_or g o true) r.1 ∙ h c r.0 r.2

  handles_same : (f g : List ℕ → Bool) → ((c d : List ℕ) → Classes c d → g d ≡ f c) → (at : ℕ) (x y : Handler)
      → HandlerMap m x y → handles g at y ≡ handles f at x
  handles_same f g h at x y r = λ i.
      nat_le (r.places.0 i) at && nat_lt at (r.places.1 i) && caught_same f g h x.caught y.caught r.caught i

  found_same : (b : Bool) (x y : Handler) → y.entry ≡ x.entry → (o p : Option Handler)
      → option_map (λ (k : Handler). k.entry) p ≡ option_map (λ (k : Handler). k.entry) o
      → option_map (λ (k : Handler). k.entry) (cond b (Some y) p)
      ≡ option_map (λ (k : Handler). k.entry) (cond b (Some x) o)
  found_same true x y e o p h = ap Some e
  found_same false x y e o p h = h

  handler_same : (f g : List ℕ → Bool) → ((c d : List ℕ) → Classes c d → g d ≡ f c) → (at : ℕ) (xs ys : List Handler)
      → AllZip (HandlerMap m) xs ys → handler_for g at ys ≡ handler_for f at xs
  handler_same f g h at [] [] z = refl
  handler_same f g h at [] (y ∷ ys) z = absurd z
  handler_same f g h at (x ∷ xs) [] z = absurd z
  handler_same f g h at (x ∷ xs) (y ∷ ys) z =
      ap (λ b. option_map (λ (k : Handler). k.entry) (cond b (Some y) (find (handles g at) ys)))
      (handles_same f g h at x y z.0)
      ∙ found_same (handles f at x) x y z.0.places.2 _ _ (handler_same f g h at xs ys z.1)

  -- ---- initialisation

  marked_map : (a b : World) → Worlds a b → (c d : List ℕ) → Classes c d → (i : Init)
      → Worlds (marked a c i) (marked b d i)
  marked_map a b h c d e i = record {
    heap = h.heap;
    statics = h.statics;
    inits = set_class_agrees m.names.class is.shape.one_class a.inits b.inits h.inits c d e i;
    printed = h.printed;
  }

  constant_by : (k l : Key) → ((x : Value) → stored_in l x ≡ stored_in k x) → (o : Option Value) (x y : Value) → y ≡ x
      → option_map_or (stored_in l) o y ≡ option_map_or (stored_in k) o x
  constant_by k l h None x y e = e
  constant_by k l h (Some c) x y e = h c

  constants_same : (a b : World) → Worlds a b → (c d : List ℕ) → Classes c d → (k l : Key) → m.names.field k ≡ Some l
      → with_constants w.shape d b.statics l ≡ with_constants v.shape c a.statics k
  constants_same a b h c d e k l f =
      (λ i. if texts_agree m.names.class is.shape.one_class k.class l.class c d (is.shape.field_class k l f) e i
      then option_map_or (stored_in l) (is.shape.constant k l f i) (b.statics l) else b.statics l)
      ∙ by (is_text k.class c)
    where
      by : (x : Bool)
          → (if x then option_map_or (stored_in l) (v.shape.constant k) (b.statics l) else b.statics l)
          ≡ (if x then option_map_or (stored_in k) (v.shape.constant k) (a.statics k) else a.statics k)
      by true = constant_by k l (is.shape.field_stored k l f) (v.shape.constant k) _ _ (h.statics k l f)
      by false = h.statics k l f

  module _ (a b : World) (h : Worlds a b) (ks ls : List Wait) (z : AllZip WaitMap ks ls) where
    back_map : (k l : Wait) → WaitMap k l → Goes (goes_back a (k ∷ ks)) (goes_back b (l ∷ ls))
    back_map (AfterCall f) l k = inl refl
    back_map (AfterInit f) l k =
        subst (λ q. Goes (goes_back a (AfterInit f ∷ ks)) (goes_back b (q ∷ ls))) (sym k.1)
        (inr (record { world = h; control = (k.0, refl, k.2); waits = z }))
    back_map (AfterFirst c cs) l k =
        subst (λ q. Goes (goes_back a (AfterFirst c cs ∷ ks)) (goes_back b (q ∷ ls))) (sym k.2)
        (inr (record { world = h; control = (k.0, k.1, refl, k.3, k.4); waits = z }))
    back_map (AfterClinit c) l k = inl refl
    back_map (ToEntry x args) l k =
        subst (λ q. Goes (goes_back a (ToEntry x args ∷ ks)) (goes_back b (q ∷ ls))) (sym k.1)
        (inr (record { world = h; control = (k.0, refl, k.2); waits = z }))

    return_map : (o : Option Value) (k l : Wait) → WaitMap k l → Goes (return a o (k ∷ ks)) (return b o (l ∷ ls))
    return_map o (AfterCall f) l k =
        subst (λ q. Goes (return a o (AfterCall f ∷ ks)) (return b o (q ∷ ls))) (sym k.1)
        (inr (record { world = h; control = (k.0, refl, k.2); waits = z }))
    return_map o (AfterInit f) l k = inl refl
    return_map o (AfterFirst c cs) l k = inl refl
    return_map o (AfterClinit c) l k =
        subst (λ q. Goes (return a o (AfterClinit c ∷ ks)) (return b o (q ∷ ls))) (sym k.1)
        (inr (record { world = h; control = (k.0, refl, k.2); waits = z }))
    return_map o (ToEntry x args) l k = inl refl

  back_all : (a b : World) → Worlds a b → (ks ls : List Wait) → AllZip WaitMap ks ls
      → Goes (goes_back a ks) (goes_back b ls)
  back_all a b h [] [] z = inl refl
  back_all a b h [] (l ∷ ls) z = absurd z
  back_all a b h (k ∷ ks) [] z = absurd z
  back_all a b h (k ∷ ks) (l ∷ ls) z = back_map a b h ks ls z.1 k l z.0

  return_all : (a b : World) → Worlds a b → (o : Option Value) (ks ls : List Wait) → AllZip WaitMap ks ls
      → Goes (return a o ks) (return b o ls)
  return_all a b h o [] [] z = inr (record { world = h; control = refl; waits = tt })
  return_all a b h o [] (l ∷ ls) z = absurd z
  return_all a b h o (k ∷ ks) [] z = absurd z
  return_all a b h o (k ∷ ks) (l ∷ ls) z = return_map a b h ks ls z.1 o k l z.0

  module _ (a b : World) (h : Worlds a b) (ks ls : List Wait) (z : AllZip WaitMap ks ls) where
    begin_map : (c d : List ℕ) → Classes c d → (i : Init)
        → Goes (begin_by v.shape a c ks i) (begin_by w.shape b d ls i)
    begin_map c d e Fresh = inr (record {
      world = record {
        heap = h.heap;
        statics = constants_same a b h c d e;
        inits = (marked_map a b h c d e Begun).inits;
        printed = h.printed;
      };
      control = (d, w.shape.firsts d, refl, e, is.shape.firsts c d e);
      waits = z;
    })
    begin_map c d e Begun = back_all a b h ks ls z
    begin_map c d e Ready = back_all a b h ks ls z
    begin_map c d e Failed = inr (raised_map a b h ks ls z NoClassDef)

    begin_all : (c d : List ℕ) → Classes c d → Goes (begin v.shape a c ks) (begin w.shape b d ls)
    begin_all c d e =
        subst (λ i. Goes (begin v.shape a c ks) (begin_by w.shape b d ls i)) (sym (h.inits c d e))
        (begin_map c d e (a.inits c))

    complete_map : (c d : List ℕ) → Classes c d → Goes (complete a c ks) (complete b d ls)
    complete_map c d e = back_all (marked a c Ready) (marked b d Ready) (marked_map a b h c d e Ready) ks ls z

    clinit_map : (c d : List ℕ) → Classes c d → (x y : Option Key) → OptionCorr Methods x y
        → Goes (run_clinit a c ks x) (run_clinit b d ls y)
    clinit_map c d e None y r = subst (λ q. Goes (run_clinit a c ks None) (run_clinit b d ls q)) (sym r)
        (complete_map c d e)
    clinit_map c d e (Some x) y r =
        subst (λ q. Goes (run_clinit a c ks (Some x)) (run_clinit b d ls q)) (sym r.1)
        (inr (record { world = h; control = (r.0, refl, r.2); waits = ((d, refl, e), z) }))

    first_map : (c d : List ℕ) → Classes c d → (x y : List ℕ) → Classes x y → (xs ys : List (List ℕ))
        → AllZip Classes xs ys
        → (due : Bool) (s t : State) → Goes s t
        → Goes (if due then state a (Initialises x) (AfterFirst c xs ∷ ks) else s)
        (if due then state b (Initialises y) (AfterFirst d ys ∷ ls) else t)
    first_map c d e x y f xs ys k true s t g =
        inr (record { world = h; control = (y, refl, f); waits = ((d, ys, refl, e, k), z) })
    first_map c d e x y f xs ys k false s t g = g

    prepare_map : (c d : List ℕ) → Classes c d → (xs ys : List (List ℕ)) → AllZip Classes xs ys
        → Goes (prepare v.shape a c xs ks) (prepare w.shape b d ys ls)
    prepare_map c d e [] [] k = clinit_map c d e _ _ (is.shape.clinit c d e)
    prepare_map c d e [] (y ∷ ys) k = absurd k
    prepare_map c d e (x ∷ xs) [] k = absurd k
    prepare_map c d e (x ∷ xs) (y ∷ ys) k =
        subst
        (λ i. Goes (prepare v.shape a c (x ∷ xs) ks)
        (if is_due i then state b (Initialises y) (AfterFirst d ys ∷ ls) else prepare w.shape b d ys ls))
        (sym (h.inits x y k.0))
        (first_map c d e x y k.0 xs ys k.1 (is_due (a.inits x)) _ _ (prepare_map c d e xs ys k.1))

    -- ---- unwinding

    enter_map : (f : Frame) (n : Key) → Methods f.method n → (i : ℕ) (o : Option ℕ)
        → StateMap (enter a i f ks o) (enter b i (frame n f.body) ls o)
    enter_map f n e i None = record { world = h; control = refl; waits = z }
    enter_map f n e i (Some j) = record { world = h; control = (n, refl, e); waits = z }

    unwind_frame_map : (f : Frame) (n : Key) → Methods f.method n → (i : ℕ) (x y : Option Code)
        → OptionCorr (CodeMap m f.method.class) x y
        → Goes (unwind_frame v.shape a i f ks x) (unwind_frame w.shape b i (frame n f.body) ls y)
    unwind_frame_map f n e i None y r = inl refl
    unwind_frame_map f n e i (Some c) y r =
        subst (λ q. Goes (unwind_frame v.shape a i f ks (Some c)) (unwind_frame w.shape b i (frame n f.body) ls q))
        (sym r.1)
        (inr (subst (λ q. StateMap (unwind_frame v.shape a i f ks (Some c)) (enter b i (frame n f.body) ls q))
        (sym (handler_same (is_of_class v.shape (slice_get a.heap i)) (is_of_class w.shape (slice_get b.heap i))
        (of_class_same a b h i) f.body.at c.handlers (r.0).handlers r.2.handlers))
        (enter_map f n e i _)))

    unwind_clinit_map : (i : ℕ) (x : Bool) → StateMap (unwind_clinit a i ks x) (unwind_clinit b i ls x)
    unwind_clinit_map i true = record { world = h; control = refl; waits = z }
    unwind_clinit_map i false = record {
      world = one_more m v.shape w.shape is.shape a b h _ _
          (instance_same m v.shape w.shape is.shape _ _ (exception_same m v.shape w.shape is.shape InInitializer) Null
          (Ref i));
      control = ap Unwinds (same_length m v.shape w.shape is.shape a b h);
      waits = z;
    }

  module _ (a b : World) (h : Worlds a b) (ks ls : List Wait) (z : AllZip WaitMap ks ls) where
    unwind_map : (n : ℕ) (k l : Wait) → WaitMap k l → Goes (unwind v a n (k ∷ ks)) (unwind w b n (l ∷ ls))
    unwind_map n (AfterCall f) l k =
        subst (λ q. Goes (unwind v a n (AfterCall f ∷ ks)) (unwind w b n (q ∷ ls))) (sym k.1)
        (unwind_frame_map a b h ks ls z f k.0 k.2 n _ _ (is.code _ _ k.2))
    unwind_map n (AfterInit f) l k =
        subst (λ q. Goes (unwind v a n (AfterInit f ∷ ks)) (unwind w b n (q ∷ ls))) (sym k.1)
        (unwind_frame_map a b h ks ls z f k.0 k.2 n _ _ (is.code _ _ k.2))
    unwind_map n (AfterFirst c cs) l k =
        subst (λ q. Goes (unwind v a n (AfterFirst c cs ∷ ks)) (unwind w b n (q ∷ ls))) (sym k.2)
        (inr (record { world = marked_map a b h c k.0 k.3 Failed; control = refl; waits = z }))
    unwind_map n (AfterClinit c) l k =
        subst (λ q. Goes (unwind v a n (AfterClinit c ∷ ks)) (unwind w b n (q ∷ ls))) (sym k.1)
        (inr (subst (λ x. StateMap (unwind v a n (AfterClinit c ∷ ks)) (unwind_clinit (marked b k.0 Failed) n ls x))
        (sym (of_class_same a b h n _ _ (is.shape.own_class (codes "java/lang/Error") refl)))
        (unwind_clinit_map (marked a c Failed) (marked b k.0 Failed) (marked_map a b h c k.0 k.2 Failed) ks ls z n _)))
    unwind_map n (ToEntry x args) l k =
        subst (λ q. Goes (unwind v a n (ToEntry x args ∷ ks)) (unwind w b n (q ∷ ls))) (sym k.1)
        (inr (record { world = h; control = refl; waits = tt }))

  unwind_all : (a b : World) → Worlds a b → (n : ℕ) (ks ls : List Wait) → AllZip WaitMap ks ls
      → Goes (unwind v a n ks) (unwind w b n ls)
  unwind_all a b h n [] [] z = inr (record { world = h; control = refl; waits = tt })
  unwind_all a b h n [] (l ∷ ls) z = absurd z
  unwind_all a b h n (k ∷ ks) [] z = absurd z
  unwind_all a b h n (k ∷ ks) (l ∷ ls) z = unwind_map a b h ks ls z.1 n k l z.0

  -- ---- a frame

  module _ (a b : World) (h : Worlds a b) (ks ls : List Wait) (z : AllZip WaitMap ks ls) (x y : Key)
      (e : Methods x y) where
    on_answer_map : (f g : Body) (r s : Answer) → AnswerMap m v.shape w.shape is.shape r s
        → Goes (on_answer v.shape a x f g ks r) (on_answer w.shape b y f g ls s)
    on_answer_map f g (Gives o u) s k =
        subst (λ q. Goes (on_answer v.shape a x f g ks (Gives o u)) (on_answer w.shape b y f g ls q)) (sym k.1)
        (inr (record { world = k.2; control = (y, refl, e); waits = z }))
    on_answer_map f g (Raises c) s k =
        subst (λ q. Goes (on_answer v.shape a x f g ks (Raises c)) (on_answer w.shape b y f g ls q)) (sym k)
        (inr (raised_map a b h (AfterCall (frame x g) ∷ ks) (AfterCall (frame y g) ∷ ls) ((y, refl, e), z) c))
    on_answer_map f g (Begins n args) s k =
        subst (λ q. Goes (on_answer v.shape a x f g ks (Begins n args)) (on_answer w.shape b y f g ls q)) (sym k.1)
        (inr (record { world = h; control = (k.0, refl, k.2); waits = ((y, refl, e), z) }))
    on_answer_map f g (Awaits c) s k =
        subst (λ q. Goes (on_answer v.shape a x f g ks (Awaits c)) (on_answer w.shape b y f g ls q)) (sym k.1)
        (begin_all a b h (AfterInit (frame x f) ∷ ks) (AfterInit (frame y f) ∷ ls) ((y, refl, e), z) c k.0 k.2)
    on_answer_map f g NoAnswer s k = inl refl

    toss_map : (f : Body) (u : Value) → Goes (toss a (frame x f) u ks) (toss b (frame y f) u ls)
    toss_map f (Ref n) = inr (record { world = h; control = refl; waits = ((y, refl, e), z) })
    toss_map f Null =
        inr (raised_map a b h (AfterInit (frame x f) ∷ ks) (AfterInit (frame y f) ∷ ls) ((y, refl, e), z) NullPointer)
    toss_map f (Int n) = inl refl
    toss_map f (Long n) = inl refl
    toss_map f (Lit u) = inl refl

    on_local_map : (f : Body) (r s : Local) → LocalMap m x.class r s
        → Goes (on_local v.shape a x f ks r) (on_local w.shape b y f ls s)
    on_local_map f (Moves g) s k =
        subst (λ q. Goes (on_local v.shape a x f ks (Moves g)) (on_local w.shape b y f ls q)) (sym k)
        (inr (record { world = h; control = (y, refl, e); waits = z }))
    on_local_map f (Wants r st) s k =
        subst (λ q. Goes (on_local v.shape a x f ks (Wants r st)) (on_local w.shape b y f ls q)) (sym k.1)
        (on_answer_map f (with_stack f st) _ _
        (answer_map m v.shape w.shape is.shape a b h x.class y.class (is.shape.method_class x y e) r k.0 k.2))
    on_local_map f (Ends o) s k =
        subst (λ q. Goes (on_local v.shape a x f ks (Ends o)) (on_local w.shape b y f ls q)) (sym k)
        (return_all a b h o ks ls z)
    on_local_map f (Tosses u) s k =
        subst (λ q. Goes (on_local v.shape a x f ks (Tosses u)) (on_local w.shape b y f ls q)) (sym k) (toss_map f u)
    on_local_map f Stuck s k = inl refl

    instruction_map : (f : Body) (i j : Option Ins) → OptionCorr (InsMap m x.class) i j
        → LocalMap m x.class (by_instruction f i) (by_instruction f j)
    instruction_map f None j k = tt
    instruction_map f (Some i) j k =
        subst (λ q. LocalMap m x.class (by_instruction f (Some i)) (by_instruction f q)) (sym k.1)
        (local_map m x.class f _ _ (sort_map m x.class v.shape w.shape is.shape i.op (k.0).op k.2.op))

    run_frame_map : (f : Body) (c d : Option Code) → OptionCorr (CodeMap m x.class) c d
        → Goes (run_frame v.shape a x f ks c) (run_frame w.shape b y f ls d)
    run_frame_map f None d k = inl refl
    run_frame_map f (Some c) d k =
        subst (λ q. Goes (run_frame v.shape a x f ks (Some c)) (run_frame w.shape b y f ls q)) (sym k.1)
        (on_local_map f _ _ (instruction_map f _ _ (zip_get (InsMap m x.class) c.ins (k.0).ins k.2.ins f.at)))

  next_map : (a b : World) → Worlds a b → (ks ls : List Wait) → AllZip WaitMap ks ls → (c d : Control) → ControlMap c d
      → Goes (next v a ks c) (next w b ls d)
  next_map a b h ks ls z (Runs f) d k =
      subst (λ q. Goes (next v a ks (Runs f)) (next w b ls q)) (sym k.1)
      (run_frame_map a b h ks ls z f.method k.0 k.2 f.body _ _ (is.code f.method k.0 k.2))
  next_map a b h ks ls z (Unwinds n) d k =
      subst (λ q. Goes (next v a ks (Unwinds n)) (next w b ls q)) (sym k) (unwind_all a b h n ks ls z)
  next_map a b h ks ls z (Initialises c) d k =
      subst (λ q. Goes (next v a ks (Initialises c)) (next w b ls q)) (sym k.1) (begin_all a b h ks ls z c k.0 k.2)
  next_map a b h ks ls z (Prepares c cs) d k =
      subst (λ q. Goes (next v a ks (Prepares c cs)) (next w b ls q)) (sym k.2)
      (prepare_map a b h ks ls z c k.0 k.3 cs k.1 k.4)
  next_map a b h ks ls z (Completes c) d k =
      subst (λ q. Goes (next v a ks (Completes c)) (next w b ls q)) (sym k.1) (complete_map a b h ks ls z c k.0 k.2)
  next_map a b h ks ls z (Returned o) d k =
      subst (λ q. Goes (next v a ks (Returned o)) (next w b ls q)) (sym k)
      (inr (record { world = h; control = refl; waits = z }))
  next_map a b h ks ls z (Threw n) d k =
      subst (λ q. Goes (next v a ks (Threw n)) (next w b ls q)) (sym k)
      (inr (record { world = h; control = refl; waits = z }))
  next_map a b h ks ls z Wrong d k = inl refl

  run_map : (s t : State) → StateMap s t → (n : ℕ) → Goes (run v s n) (run w t n)
  run_map s t h zero = inr h
  run_map s t h (suc n) =
      ⊎_elim
      (λ bad. inl (wrong_stays v (run v s n) bad))
      (λ g. next_map _ _ g.world _ _ g.waits _ _ g.control)
      (run_map s t h n)

  -- ---- what goes side by side agrees

  status_same : (c d : Control) → ControlMap c d → status_of d ≡ status_of c
  status_same (Runs f) d k = ap status_of k.1
  status_same (Unwinds n) d k = ap status_of k
  status_same (Initialises c) d k = ap status_of k.1
  status_same (Prepares c cs) d k = ap status_of k.2
  status_same (Completes c) d k = ap status_of k.1
  status_same (Returned o) d k = ap status_of k
  status_same (Threw n) d k = ap status_of k
  status_same Wrong d k = ap status_of k

  flight_same : (c d : Control) → ControlMap c d → in_flight d ≡ in_flight c
  flight_same (Runs f) d k = ap in_flight k.1
  flight_same (Unwinds n) d k = ap in_flight k
  flight_same (Initialises c) d k = ap in_flight k.1
  flight_same (Prepares c cs) d k = ap in_flight k.2
  flight_same (Completes c) d k = ap in_flight k.1
  flight_same (Returned o) d k = ap in_flight k
  flight_same (Threw n) d k = ap in_flight k
  flight_same Wrong d k = ap in_flight k

  line_by : (from : List ℕ) (i j : Option Ins) → OptionCorr (InsMap m from) i j
      → LineCorr (option_and_then (λ x. x.line) i) (option_and_then (λ x. x.line) j)
  line_by from None j k = subst (λ q. LineCorr None (option_and_then (λ x. x.line) q)) (sym k) tt
  line_by from (Some i) j k = subst (λ q. LineCorr i.line (option_and_then (λ x. x.line) q)) (sym k.1) k.2.line

  line_in : (from : List ℕ) (at : ℕ) (c d : Option Code) → OptionCorr (CodeMap m from) c d
      → LineCorr (option_and_then (line_at at) c) (option_and_then (line_at at) d)
  line_in from at None d k = subst (λ q. LineCorr None (option_and_then (line_at at) q)) (sym k) tt
  line_in from at (Some c) d k =
      subst (λ q. LineCorr (line_at at c) (option_and_then (line_at at) q)) (sym k.1)
      (line_by from _ _ (zip_get (InsMap m from) c.ins (k.0).ins k.2.ins at))

  frame_same : (f : Frame) (n : Key) → Methods f.method n → FrameCorr v w m.names f (frame n f.body)
  frame_same f n e = record { method = e; line = line_in f.method.class f.body.at _ _ (is.code f.method n e) }

  below_same : (ks ls : List Wait) → AllZip WaitMap ks ls
      → AllZip (FrameCorr v w m.names) (waiting_frames ks) (waiting_frames ls)
  below_same [] [] z = tt
  below_same [] (l ∷ ls) z = absurd z
  below_same (k ∷ ks) [] z = absurd z
  below_same (AfterCall f ∷ ks) (l ∷ ls) z =
      subst (λ q. AllZip (FrameCorr v w m.names) (f ∷ waiting_frames ks) (waiting_frames (q ∷ ls))) (sym z.0.1)
      (frame_same f _ z.0.2, below_same ks ls z.1)
  below_same (AfterInit f ∷ ks) (l ∷ ls) z =
      subst (λ q. AllZip (FrameCorr v w m.names) (f ∷ waiting_frames ks) (waiting_frames (q ∷ ls))) (sym z.0.1)
      (frame_same f _ z.0.2, below_same ks ls z.1)
  below_same (AfterFirst c cs ∷ ks) (l ∷ ls) z =
      subst (λ q. AllZip (FrameCorr v w m.names) (waiting_frames ks) (waiting_frames (q ∷ ls))) (sym z.0.2)
      (below_same ks ls z.1)
  below_same (AfterClinit c ∷ ks) (l ∷ ls) z =
      subst (λ q. AllZip (FrameCorr v w m.names) (waiting_frames ks) (waiting_frames (q ∷ ls))) (sym z.0.1)
      (below_same ks ls z.1)
  below_same (ToEntry x args ∷ ks) (l ∷ ls) z =
      subst (λ q. AllZip (FrameCorr v w m.names) (waiting_frames ks) (waiting_frames (q ∷ ls))) (sym z.0.1)
      (below_same ks ls z.1)

  abbrev Stacks : List Frame → List Frame → Type 0
  Stacks = AllZip (FrameCorr v w m.names)

  stack_same : (c d : Control) (fs gs : List Frame) → ControlMap c d → Stacks fs gs
      → Stacks (frames_with c fs) (frames_with d gs)
  stack_same (Runs f) d fs gs k z = subst (λ q. Stacks (f ∷ fs) (frames_with q gs)) (sym k.1) (frame_same f k.0 k.2, z)
  stack_same (Unwinds n) d fs gs k z = subst (λ q. Stacks fs (frames_with q gs)) (sym k) z
  stack_same (Initialises c) d fs gs k z = subst (λ q. Stacks fs (frames_with q gs)) (sym k.1) z
  stack_same (Prepares c cs) d fs gs k z = subst (λ q. Stacks fs (frames_with q gs)) (sym k.2) z
  stack_same (Completes c) d fs gs k z = subst (λ q. Stacks fs (frames_with q gs)) (sym k.1) z
  stack_same (Returned o) d fs gs k z = subst (λ q. Stacks fs (frames_with q gs)) (sym k) z
  stack_same (Threw n) d fs gs k z = subst (λ q. Stacks fs (frames_with q gs)) (sym k) z
  stack_same Wrong d fs gs k z = subst (λ q. Stacks fs (frames_with q gs)) (sym k) z

  corr_of : (s t : State) → status s ≢ WentWrong → StateMap s t → Corr v w m.names s t
  corr_of s t ok h = record {
    ending = (status_same s.control t.control h.control, ok);
    world = h.world;
    thrown = flight_same s.control t.control h.control;
    stack = stack_same s.control t.control _ _ h.control (below_same s.waits t.waits h.waits);
  }

  sides : (s t : State) → Goes s t → (status s ≡ WentWrong) ⊎ Corr v w m.names s t
  sides s t (inl bad) = inl bad
  sides s t (inr h) = ⊎_elim (λ bad. inl bad) (λ ok. inr (corr_of s t ok h)) (is_wrong (status s))

  -- ---- the beginning

  plain_base : (b : Base) → is_plain_base b ≡ true → base_name m.names b ≡ Some b
  plain_base (base.Class c) e =
      let same = (text_Decides c string).0 e in
      ap (option_map base.Class) (ap m.names.class same ∙ is.shape.own_class string refl ∙ ap Some (sym same))
  plain_base base.Boolean e = refl
  plain_base base.Byte e = refl
  plain_base base.Char e = refl
  plain_base base.Short e = refl
  plain_base base.Int e = refl
  plain_base base.Long e = refl
  plain_base base.Float e = absurd cc
  plain_base base.Double e = absurd cc

  plain_object : (o : Object) → is_plain_object o ≡ true → ObjectCorr m.names o o
  plain_object (Instance class fields message cause) e = absurd cc
  plain_object (Array component values) e = (
    component,
    refl,
    ap (option_map (λ (b : Base). record { dims = component.dims; base = b }))
        (plain_base component.base e),
  )
  plain_object (Str units) e = refl
  plain_object (Builder units) e = absurd cc

  plain_heap : (heap : List Object) → ArePlain heap → AllZip (ObjectCorr m.names) heap heap
  plain_heap [] h = tt
  plain_heap (o ∷ os) h = let x = and_parts _ _ h in (plain_object o x.0, plain_heap os x.1)

  start_map : (x y : Key) → Methods x y → (heap : List Object) → ArePlain heap → (args : List Value)
      → StateMap (start v x heap args) (start w y heap args)
  start_map x y e heap plain args = record {
    world = record {
      heap = (
        instance_same m v.shape w.shape is.shape _ _
            (is.shape.own_class (codes "java/io/PrintStream") refl) Null Null,
        plain_heap heap plain,
      );
      statics = set_key_agrees m.names.field is.shape.one_field blank blank is.shape.field_default out out
          is.shape.own_field (Ref 0);
      inits = λ c d f. ap (λ b. if b then Ready else Fresh) (is.shape.is_library c d f);
      printed = refl;
    };
    control = (y.class, refl, is.shape.method_class x y e);
    waits = ((y, refl, e), tt);
  }

  pub mapped_steps : (entries : List Key) → AreKept m.names entries → SameSteps v w m.names entries
  mapped_steps entries kept x i =
      let y = there_is (m.names.method x) (kept x i) in
      (y.0, y.1, λ heap plain args n. sides _ _ (run_map _ _ (start_map x y.0 y.1 heap plain args) n))

  pub mapped_same : (entries : List Key) → AreKept m.names entries → Same v w m.names entries
  mapped_same entries kept = steps_same v w m.names entries (mapped_steps entries kept)
