-- What is printed stays printed, and a run that has ended stays as it is.
use Rattle.std.proofs.Common.{◌≡◌, ◌≤◌, ◌+◌, ◌-◌, ℕ, zero, suc, Bool, true, false, cond, List, [], ◌∷◌, ◌++◌, Option, Some, None}
use Rattle.std.proofs.Common.{refl, sym, ap, subst, ◌∙◌, arith}
use Rattle.std.specs.Prelude.{ℤ, pos, negsuc, int_lt, nat_lt, slice_get}
use Rattle.std.specs.List.{list_any}
use Rattle.std.proofs.lemmas.List.{append-nil, append_assoc}
use Rattle.class_model.specs.declared.code.Code.{Code}
use Rattle.class_model.specs.declared.op.Elem.{Elem}
use Rattle.jv_base.specs.declared.types.FieldType.{FieldType}
use Rattle.jvm_model.specs.Answers.{Answer, Awaits, Begins, Gives, NoAnswer, Raises, of_some, once}
use Rattle.jvm_model.specs.Arrays.{at_index, get_in, if_storable, length_in, on_array, put_in, put_value}
use Rattle.jvm_model.specs.Calls.{acted, all_seen, called, called_static, on_receiver, set_builder}
use Rattle.jvm_model.specs.Calls.{set_thrown}
use Rattle.jvm_model.specs.Exceptions.{ArrayStore, ClassCast}
use Rattle.jvm_model.specs.Fields.{get_from, put_into}
use Rattle.jvm_model.specs.Heap.{Array, Begun, Builder, Failed, Fresh, Init, Instance, Object, Ready, Str, World, object_of}
use Rattle.jvm_model.specs.Heap.{type_of}
use Rattle.jvm_model.specs.Initialisation.{begin_by, complete, goes_back, is_due, marked, prepare, run_clinit}
use Rattle.jvm_model.specs.Instructions.{CallInterface, CallSpecial, CallStatic, CallVirtual, Cast, GetAt, GetField}
use Rattle.jvm_model.specs.Instructions.{GetStatic, Known, New, NewArray, NewArrays, PutAt, PutField, PutStatic, Raise}
use Rattle.jvm_model.specs.Instructions.{ArrayLength, Request, Test}
use Rattle.jvm_model.specs.Library.{Act, MakesString, NoAct, Returns, SetsBuilder, SetsThrown, Throws, Writes, act}
use Rattle.jvm_model.specs.Local.{Ends, Local, Moves, Stuck, Tosses, Wants, handler_for, local}
use Rattle.jvm_model.specs.Program.{Fails, Library, Program, Shape, Target, View}
use Rattle.jvm_model.specs.Requests.{answer}
use Rattle.jvm_model.specs.State.{AfterCall, AfterClinit, AfterFirst, AfterInit, Body, Completes, Control, Frame}
use Rattle.jvm_model.specs.State.{HasReturned, HasThrown, Initialises, Prepares, Returned, Running, Runs, State, Status}
use Rattle.jvm_model.specs.State.{Threw, ToEntry, Unwinds, Wait, WentWrong, Wrong, status, status_of}
use Rattle.jvm_model.specs.Step.{on_answer, on_local, return, run, run_frame, step, toss}
use Rattle.jvm_model.specs.Types.{is_type_below}
use Rattle.jvm_model.specs.Unwinding.{enter, is_of_class, unwind, unwind_clinit, unwind_frame}
use Rattle.jvm_model.specs.Value.{Int, Key, Lit, Long, Null, Ref, Value}

-- ---- worlds

-- the second has printed what the first has, and maybe more
abbrev pub Grows : World → World → Type 0
Grows a b = (more : List ℕ) × (b.printed ≡ a.printed ++ more)

pub as_before : (a b : World) → b.printed ≡ a.printed → Grows a b
as_before a b e = ([], e ∙ sym (append-nil a.printed))

pub grows_on : (a b c : World) → Grows a b → Grows b c → Grows a c
grows_on a b c (m, e) (n, f) = (m ++ n, f ∙ ap (λ (t : List ℕ). t ++ n) e ∙ append_assoc a.printed m n)

-- ---- answers

-- what is given has printed so
abbrev Printed : World → Answer → Type 0
Printed w (Gives result after) = Grows w after
Printed w (Raises exception) = Unit {0}
Printed w (Begins method args) = Unit {0}
Printed w (Awaits class) = Unit {0}
Printed w NoAnswer = Unit {0}

module _ (w : World) where
  itself : Grows w w
  itself = as_before w w refl

  some_printed : {A : Type 0} (f : A → Answer) (o : Option A) → ((x : A) → Printed w (f x)) → Printed w (of_some f o)
  some_printed f None h = tt
  some_printed f (Some x) h = h x

  once_printed : (i : Init) (class : List ℕ) (a : Answer) → Printed w a → Printed w (once i class a)
  once_printed Ready class a h = h
  once_printed Begun class a h = h
  once_printed Fresh class a h = tt
  once_printed Failed class a h = tt

  chosen : (b : Bool) (x y : Answer) → Printed w x → Printed w y → Printed w (cond b x y)
  chosen true x y h k = h
  chosen false x y h k = k

  get_printed : (k : Key) (o : Object) → Printed w (get_from w k o)
  get_printed k (Instance class fields message cause) = itself
  get_printed k (Array component values) = tt
  get_printed k (Str units) = tt
  get_printed k (Builder units) = tt

  put_printed : (n : ℕ) (v : Value) (k : Key) (o : Object) → Printed w (put_into w n v k o)
  put_printed n v k (Instance class fields message cause) = itself
  put_printed n v k (Array component values) = tt
  put_printed n v k (Str units) = tt
  put_printed n v k (Builder units) = tt

  -- ---- calls

  builder_printed : (n : ℕ) (units : List ℕ) (result : Option Value) (o : Object)
      → Printed w (set_builder w n units result o)
  builder_printed n units result (Instance class fields message cause) = tt
  builder_printed n units result (Array component values) = tt
  builder_printed n units result (Str old) = tt
  builder_printed n units result (Builder old) = itself

  thrown_printed : (n : ℕ) (message cause : Value) (o : Object) → Printed w (set_thrown w n message cause o)
  thrown_printed n message cause (Instance class fields m c) = itself
  thrown_printed n message cause (Array component values) = tt
  thrown_printed n message cause (Str units) = tt
  thrown_printed n message cause (Builder units) = tt

  acted_printed : (a : Act) → Printed w (acted w a)
  acted_printed (Returns result) = itself
  acted_printed (MakesString units) = itself
  acted_printed (SetsBuilder n units result) =
      some_printed (set_builder w n units result) (slice_get w.heap n) (builder_printed n units result)
  acted_printed (SetsThrown n message cause) =
      some_printed (set_thrown w n message cause) (slice_get w.heap n) (thrown_printed n message cause)
  acted_printed (Writes units) = (units, refl)
  acted_printed (Throws exception) = tt
  acted_printed NoAct = tt

  called_printed : (args : List Value) (t : Target) → Printed w (called w args t)
  called_printed args (Program method) = tt
  called_printed args (Library row) =
      some_printed (λ operands. acted w (act row operands)) (all_seen w args) (λ operands. acted_printed (act row operands))
  called_printed args (Fails exception) = tt

  static_printed : (args : List Value) (t : Target) → Printed w (called_static w args t)
  static_printed args (Program method) = once_printed (w.inits method.class) method.class (Begins method args) tt
  static_printed args (Library row) = called_printed args (Library row)
  static_printed args (Fails exception) = tt

  receiver_printed : (args : List Value) (target : Object → Option Target) → Printed w (on_receiver w args target)
  receiver_printed [] target = tt
  receiver_printed (Null ∷ args) target = tt
  receiver_printed (Int z ∷ args) target = tt
  receiver_printed (Long z ∷ args) target = tt
  receiver_printed (Ref n ∷ args) target =
      some_printed (called w (Ref n ∷ args)) _ (called_printed (Ref n ∷ args))
  receiver_printed (Lit units ∷ args) target =
      some_printed (called w (Lit units ∷ args)) _ (called_printed (Lit units ∷ args))

  -- ---- arrays

  array_printed : (v : Value) (f : ℕ → Object → Answer) → ((n : ℕ) (o : Object) → Printed w (f n o))
      → Printed w (on_array w v f)
  array_printed (Int z) f h = tt
  array_printed (Long z) f h = tt
  array_printed Null f h = tt
  array_printed (Ref n) f h = some_printed (f n) (slice_get w.heap n) (h n)
  array_printed (Lit units) f h = tt

  length_printed : (n : ℕ) (o : Object) → Printed w (length_in w n o)
  length_printed n (Instance class fields message cause) = tt
  length_printed n (Array component values) = itself
  length_printed n (Str units) = tt
  length_printed n (Builder units) = tt

  index_printed : (i : ℤ) (n : ℕ) (f : ℕ → Answer) → ((k : ℕ) → Printed w (f k)) → Printed w (at_index i n f)
  index_printed (pos i) n f h = chosen (nat_lt i n) (f i) _ (h i) tt
  index_printed (negsuc i) n f h = tt

  component_printed : (e : Elem) (i : ℤ) (n : ℕ) (o : Object) → Printed w (get_in w e i n o)
  component_printed e i n (Instance class fields message cause) = tt
  component_printed e i n (Array component values) =
      chosen _ (at_index i _ _) NoAnswer
      (index_printed i _ (λ k. of_some (λ v. Gives (Some v) w) (slice_get values k))
      (λ k. some_printed (λ v. Gives (Some v) w) (slice_get values k) (λ v. itself))) tt
  component_printed e i n (Str units) = tt
  component_printed e i n (Builder units) = tt

  storable_printed : (p : Shape) (component : FieldType) (v : Value) (a : Answer) → Printed w a
      → Printed w (if_storable p w component v a)
  storable_printed p component (Int z) a h = h
  storable_printed p component (Long z) a h = h
  storable_printed p component Null a h = h
  storable_printed p component (Ref n) a h = some_printed
      (λ o. cond (is_type_below p.is_sub (type_of o) component) a (Raises ArrayStore)) (object_of w (Ref n))
      (λ o. chosen (is_type_below p.is_sub (type_of o) component) a (Raises ArrayStore) h tt)
  storable_printed p component (Lit units) a h =
      chosen (is_type_below p.is_sub (type_of (Str units)) component) a (Raises ArrayStore) h tt

  stored_printed : (p : Shape) (e : Elem) (i : ℤ) (v : Value) (n : ℕ) (o : Object) → Printed w (put_in p w e i v n o)
  stored_printed p e i v n (Instance class fields message cause) = tt
  stored_printed p e i v n (Array component values) =
      chosen _ (at_index i _ _) NoAnswer
      (index_printed i _ (λ k. if_storable p w component v (put_value w n component values k v))
      (λ k. storable_printed p component v (put_value w n component values k v) itself)) tt
  stored_printed p e i v n (Str units) = tt
  stored_printed p e i v n (Builder units) = tt

  -- ---- types

  cast_printed : (p : Shape) (ty : FieldType) (v : Value) → Printed w (answer p [] w (Cast ty v))
  cast_printed p ty Null = itself
  cast_printed p ty (Int z) = tt
  cast_printed p ty (Long z) = tt
  cast_printed p ty (Ref n) = some_printed
      (λ o. cond (is_type_below p.is_sub (type_of o) ty) (Gives (Some (Ref n)) w) (Raises ClassCast)) (object_of w (Ref n))
      (λ o. chosen (is_type_below p.is_sub (type_of o) ty) (Gives (Some (Ref n)) w) (Raises ClassCast) itself tt)
  cast_printed p ty (Lit units) =
      chosen (is_type_below p.is_sub (type_of (Str units)) ty) (Gives (Some (Lit units)) w) (Raises ClassCast) itself tt

  test_printed : (p : Shape) (ty : FieldType) (v : Value) → Printed w (answer p [] w (Test ty v))
  test_printed p ty Null = itself
  test_printed p ty (Int z) = tt
  test_printed p ty (Long z) = tt
  test_printed p ty (Ref n) = some_printed _ (object_of w (Ref n)) (λ o. itself)
  test_printed p ty (Lit units) = itself

  -- ---- each request

  answer_printed : (p : Shape) (from : List ℕ) (r : Request) → Printed w (answer p from w r)
  answer_printed p from (Known v) = itself
  answer_printed p from (Raise exception) = tt
  answer_printed p from (GetStatic r) =
      some_printed _ (p.field r) (λ k. once_printed (w.inits k.class) k.class (Gives (Some (w.statics k)) w) itself)
  answer_printed p from (PutStatic r v) =
      some_printed _ (p.field r) (λ k. once_printed (w.inits k.class) k.class _ itself)
  answer_printed p from (GetField r Null) = some_printed _ (p.field r) (λ k. tt)
  answer_printed p from (GetField r (Int z)) = some_printed _ (p.field r) (λ k. tt)
  answer_printed p from (GetField r (Long z)) = some_printed _ (p.field r) (λ k. tt)
  answer_printed p from (GetField r (Ref n)) =
      some_printed _ (p.field r) (λ k. some_printed (get_from w k) (slice_get w.heap n) (get_printed k))
  answer_printed p from (GetField r (Lit units)) = some_printed _ (p.field r) (λ k. tt)
  answer_printed p from (PutField r Null x) = some_printed _ (p.field r) (λ k. tt)
  answer_printed p from (PutField r (Int z) x) = some_printed _ (p.field r) (λ k. tt)
  answer_printed p from (PutField r (Long z) x) = some_printed _ (p.field r) (λ k. tt)
  answer_printed p from (PutField r (Ref n) x) =
      some_printed _ (p.field r) (λ k. some_printed (put_into w n x k) (slice_get w.heap n) (put_printed n x k))
  answer_printed p from (PutField r (Lit units) x) = some_printed _ (p.field r) (λ k. tt)
  answer_printed p from (CallStatic r args) =
      some_printed (called_static w args) (p.static_target r) (static_printed args)
  answer_printed p from (CallSpecial r args) = receiver_printed args _
  answer_printed p from (CallVirtual r args) = receiver_printed args _
  answer_printed p from (CallInterface r args) = receiver_printed args _
  answer_printed p from (New class) = once_printed (w.inits class) class _ itself
  answer_printed p from (NewArray component (pos n)) = itself
  answer_printed p from (NewArray component (negsuc n)) = tt
  answer_printed p from (NewArrays ty sizes) = chosen (list_any (λ z. int_lt z (pos 0)) sizes) _ _ tt itself
  answer_printed p from (ArrayLength v) = array_printed v (length_in w) length_printed
  answer_printed p from (GetAt e v i) = array_printed v (get_in w e i) (component_printed e i)
  answer_printed p from (PutAt e v i x) = array_printed v (put_in p w e i x) (stored_printed p e i x)
  answer_printed p from (Cast ty v) = cast_printed p ty v
  answer_printed p from (Test ty v) = test_printed p ty v

  -- ---- states

  abbrev Goes : State → Type 0
  Goes s = Grows w s.world

  either : (b : Bool) (s t : State) → Goes s → Goes t → Goes (cond b s t)
  either true s t h k = h
  either false s t h k = k

  back_goes : (u : World) (ws : List Wait) → Grows w u → Goes (goes_back u ws)
  back_goes u [] h = h
  back_goes u (AfterCall f ∷ ws) h = h
  back_goes u (AfterInit f ∷ ws) h = h
  back_goes u (AfterFirst class firsts ∷ ws) h = h
  back_goes u (AfterClinit class ∷ ws) h = h
  back_goes u (ToEntry method args ∷ ws) h = h

  begin_goes : (p : Shape) (class : List ℕ) (ws : List Wait) (i : Init) → Goes (begin_by p w class ws i)
  begin_goes p class ws Fresh = itself
  begin_goes p class ws Begun = back_goes w ws itself
  begin_goes p class ws Ready = back_goes w ws itself
  begin_goes p class ws Failed = itself

  complete_goes : (class : List ℕ) (ws : List Wait) → Goes (complete w class ws)
  complete_goes class ws = back_goes (marked w class Ready) ws itself

  clinit_goes : (class : List ℕ) (ws : List Wait) (o : Option Key) → Goes (run_clinit w class ws o)
  clinit_goes class ws None = complete_goes class ws
  clinit_goes class ws (Some method) = itself

  prepare_goes : (p : Shape) (class : List ℕ) (firsts : List (List ℕ)) (ws : List Wait)
      → Goes (prepare p w class firsts ws)
  prepare_goes p class [] ws = clinit_goes class ws (p.clinit class)
  prepare_goes p class (first ∷ firsts) ws =
      either (is_due (w.inits first)) _ (prepare p w class firsts ws) itself (prepare_goes p class firsts ws)

  return_goes : (result : Option Value) (ws : List Wait) → Goes (return w result ws)
  return_goes result [] = itself
  return_goes result (AfterCall f ∷ ws) = itself
  return_goes result (AfterInit f ∷ ws) = itself
  return_goes result (AfterFirst class firsts ∷ ws) = itself
  return_goes result (AfterClinit class ∷ ws) = itself
  return_goes result (ToEntry method args ∷ ws) = itself

  toss_goes : (f : Frame) (v : Value) (ws : List Wait) → Goes (toss w f v ws)
  toss_goes f (Int z) ws = itself
  toss_goes f (Long z) ws = itself
  toss_goes f Null ws = itself
  toss_goes f (Ref n) ws = itself
  toss_goes f (Lit units) ws = itself

  answer_goes : (p : Shape) (m : Key) (b asking : Body) (ws : List Wait) (a : Answer) → Printed w a
      → Goes (on_answer p w m b asking ws a)
  answer_goes p m b asking ws (Gives result after) h = h
  answer_goes p m b asking ws (Raises exception) h = itself
  answer_goes p m b asking ws (Begins method args) h = itself
  answer_goes p m b asking ws (Awaits class) h = begin_goes p class (AfterInit _ ∷ ws) (w.inits class)
  answer_goes p m b asking ws NoAnswer h = itself

  local_goes : (p : Shape) (m : Key) (b : Body) (ws : List Wait) (l : Local) → Goes (on_local p w m b ws l)
  local_goes p m b ws (Moves after) = itself
  local_goes p m b ws (Wants r s) = answer_goes p m b _ ws (answer p m.class w r) (answer_printed p m.class r)
  local_goes p m b ws (Ends result) = return_goes result ws
  local_goes p m b ws (Tosses v) = toss_goes _ v ws
  local_goes p m b ws Stuck = itself

  frame_goes : (p : Shape) (m : Key) (b : Body) (ws : List Wait) (o : Option Code) → Goes (run_frame p w m b ws o)
  frame_goes p m b ws None = itself
  frame_goes p m b ws (Some code) = local_goes p m b ws (local code b)

  enter_goes : (n : ℕ) (f : Frame) (ws : List Wait) (o : Option ℕ) → Goes (enter w n f ws o)
  enter_goes n f ws (Some entry) = itself
  enter_goes n f ws None = itself

  leave_goes : (p : Shape) (n : ℕ) (f : Frame) (ws : List Wait) (o : Option Code) → Goes (unwind_frame p w n f ws o)
  leave_goes p n f ws None = itself
  leave_goes p n f ws (Some code) =
      enter_goes n f ws (handler_for (is_of_class p (slice_get w.heap n)) f.body.at code.handlers)

  failed_goes : (class : List ℕ) (n : ℕ) (ws : List Wait) (b : Bool) → Goes (unwind_clinit (marked w class Failed) n ws b)
  failed_goes class n ws true = itself
  failed_goes class n ws false = itself

  unwind_goes : (v : View) (n : ℕ) (ws : List Wait) → Goes (unwind v w n ws)
  unwind_goes v n [] = itself
  unwind_goes v n (AfterCall f ∷ ws) = leave_goes v.shape n f ws (v.code f.method)
  unwind_goes v n (AfterInit f ∷ ws) = leave_goes v.shape n f ws (v.code f.method)
  unwind_goes v n (AfterFirst class firsts ∷ ws) = itself
  unwind_goes v n (AfterClinit class ∷ ws) = failed_goes class n ws _
  unwind_goes v n (ToEntry method args ∷ ws) = itself

-- ---- steps

step_goes : (v : View) (s : State) → Grows s.world (step v s).world
step_goes v s = by s.control
  where
    by : (c : Control) → Grows s.world (step v (record s { control = c })).world
    by (Runs f) = frame_goes s.world v.shape f.method f.body s.waits (v.code f.method)
    by (Unwinds n) = unwind_goes s.world v n s.waits
    by (Initialises class) = begin_goes s.world v.shape class s.waits (s.world.inits class)
    by (Prepares class firsts) = prepare_goes s.world v.shape class firsts s.waits
    by (Completes class) = complete_goes s.world class s.waits
    by (Returned result) = itself s.world
    by (Threw n) = itself s.world
    by Wrong = itself s.world

-- the steps from k on
run_goes : (v : View) (s : State) (k j : ℕ) → Grows (run v s k).world (run v s (k + j)).world
run_goes v s k zero =
    let e : k + 0 ≡ k = omega arith in
    subst (λ n. Grows (run v s k).world (run v s n).world) (sym e) (itself (run v s k).world)
run_goes v s k (suc j) =
    let e : k + suc j ≡ suc (k + j) = omega arith in
    subst (λ n. Grows (run v s k).world (run v s n).world) (sym e)
    (grows_on (run v s k).world (run v s (k + j)).world (step v (run v s (k + j))).world (run_goes v s k j)
    (step_goes v (run v s (k + j))))

-- what is printed stays printed
pub prints_stay : (v : View) (s : State) (k n : ℕ) → k ≤ n → Grows (run v s k).world (run v s n).world
prints_stay v s k n low =
    let e : k + (n - k) ≡ n = omega (arith, low) in
    subst (λ m. Grows (run v s k).world (run v s m).world) e (run_goes v s k (n - k))

-- ---- ends

-- it has ended
abbrev pub HasEnded : Status → Type 0
HasEnded Running = ⊥
HasEnded (HasReturned result) = Unit {0}
HasEnded (HasThrown n) = Unit {0}
HasEnded WentWrong = Unit {0}

step_stays : (v : View) (s : State) → HasEnded (status s) → step v s ≡ s
step_stays v s h = by s.control h
  where
    by : (c : Control) → HasEnded (status_of c) → step v (record s { control = c }) ≡ record s { control = c }
    by (Runs f) h = absurd h
    by (Unwinds n) h = absurd h
    by (Initialises class) h = absurd h
    by (Prepares class firsts) h = absurd h
    by (Completes class) h = absurd h
    by (Returned result) h = refl
    by (Threw n) h = refl
    by Wrong h = refl

run_stays : (v : View) (s : State) (k j : ℕ) → HasEnded (status (run v s k)) → run v s (k + j) ≡ run v s k
run_stays v s k zero h = let e : k + 0 ≡ k = omega arith in ap (run v s) e
run_stays v s k (suc j) h =
    let e : k + suc j ≡ suc (k + j) = omega arith in
    let r = run_stays v s k j h in
    ap (run v s) e ∙ ap (step v) r ∙ step_stays v (run v s k) h

-- a run that has ended stays as it is
pub ends_stay : (v : View) (s : State) (k n : ℕ) → k ≤ n → HasEnded (status (run v s k)) → run v s n ≡ run v s k
ends_stay v s k n low h =
    let e : k + (n - k) ≡ n = omega (arith, low) in
    ap (run v s) (sym e) ∙ run_stays v s k (n - k) h
