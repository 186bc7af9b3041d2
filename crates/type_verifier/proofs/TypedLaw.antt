-- The walk says yes exactly where there is a list of frames, and its fault is the first one.
use Rattle.std.proofs.Common.{◌≡◌, ◌⊎◌, ℕ, suc, zero, ◌+◌, ◌-◌, ◌≤◌, Bool, true, false, cond, not, IsTrue, List, []}
use Rattle.std.proofs.Common.{◌∷◌, length, take, drop, Option, Some, None, Result, Ok, Err, refl, sym, ap, subst, ◌∙◌}
use Rattle.std.proofs.Common.{inl, inr, slice_get, arith, add-zero}
use Rattle.std.proofs.lemmas.List.{drop_all, take_all}
use Rattle.std.proofs.lemmas.Option.{get_or_from_slice_get, slice_get_within}
use Rattle.jv_base.specs.Outcome.{◌>>=◌}
use Rattle.jv_base.proofs.Lists.{rest_is}
use Rattle.class_model.specs.declared.code.Ins.{Ins}
use Rattle.class_model.specs.declared.op.Op.{Op}
use Rattle.type_verifier.specs.declared.fault.TypeFault.{TypeFault}
use Rattle.type_verifier.specs.declared.fault.TypeKind.{TypeKind}
use Rattle.type_verifier.specs.declared.fault.TypeKind.TheVariants.{NoFrame, Mismatch, Handler, FallsOff}
use Rattle.type_verifier.specs.declared.frame.TypeFrame.{TypeFrame}
use Rattle.type_verifier.specs.Assignable.{is_frame_assignable}
use Rattle.type_verifier.specs.Effects.{Checked, stepped}
use Rattle.type_verifier.specs.Environment.{Environment, declared_frame_at, initial_frame, is_entered}
use Rattle.type_verifier.specs.Typed.{AreInstructionsTyped, FallsOffAt, IsFirstFault, IsWrongAt, Stands, Typed}
use Rattle.type_verifier.specs.Walk.{arrived, at_instruction, fault_at, fits_targets, flow_after, flowed}
use Rattle.type_verifier.specs.Walk.{instruction_checked, satisfies_handlers}
use Rattle.type_verifier.specs.bodies.Walked.{code_checked, gone_on, walked}
use Rattle.type_verifier.proofs.Handled.{is_true}

abbrev Answer : Type 0
Answer = Result (Unit {0}) TypeFault

abbrev Flow : Type 0
Flow = Result (Option TypeFrame) TypeKind

-- a step that goes on has a first part that does
pub bound : {A B : Type 0} (r : Result A TypeKind) (f : A → Result B TypeKind) (y : B) → (r >>= f) ≡ Ok y
    → (x : A) × (r ≡ Ok x) × (f x ≡ Ok y)
bound (Ok x) f y h = (x, refl, h)
bound (Err e) f y h = absurd cc

-- a test that was passed
passes : {A : Type 0} (b : Bool) (kind : TypeKind) (r : Result A TypeKind) (y : A)
    → (let R : Result A TypeKind = cond (not b) (Err kind) r in R) ≡ Ok y → IsTrue b × (r ≡ Ok y)
passes true kind r y h = (refl, h)
passes false kind r y h = absurd cc

fitted : (b : Bool) (d f : TypeFrame) → (let R : Checked = cond b (Ok d) (Err Mismatch) in R) ≡ Ok f
    → (f ≡ d) × IsTrue b
fitted true d f h = (sym cc, refl)
fitted false d f h = absurd cc

free : (b : Bool) (d f : TypeFrame) → (let R : Checked = cond b (Err NoFrame) (Ok d) in R) ≡ Ok f
    → (f ≡ d) × (b ≡ false)
free true d f h = absurd cc
free false d f h = (sym cc, refl)

module _ (env : Environment) where
  -- ---- from the walk to frames

  stands : (at : ℕ) (flow declared : Option TypeFrame) (f : TypeFrame) → arrived env at flow declared ≡ Ok f
      → Stands env at flow declared f
  stands at (Some from) (Some d) f h = fitted (is_frame_assignable env.classes from d) d f h
  stands at None (Some d) f h = sym cc
  stands at (Some from) None f h = free (is_entered env.code at) from f h
  stands at None None f h = absurd cc

  went_on : (at : ℕ) (o : Flow) (k : Option TypeFrame → Answer) → gone_on env at o k ≡ Ok tt
      → (next : Option TypeFrame) × (o ≡ Ok next) × (k next ≡ Ok tt)
  went_on at (Ok next) k h = (next, refl, h)
  went_on at (Err e) k h = absurd cc

  -- what holds where an instruction is passed
  abbrev pub Passed : ℕ → Op → Option TypeFrame → Option TypeFrame → Type 0
  Passed at op flow next = (f : TypeFrame) × Stands env at flow (declared_frame_at env at) f
      × (after : TypeFrame) × (stepped env at op f ≡ Ok after) × IsTrue (fits_targets env op after)
      × IsTrue (satisfies_handlers env at f) × (flow_after op after ≡ next)

  pub was_passed : (at : ℕ) (op : Op) (flow next : Option TypeFrame) → at_instruction env at op flow ≡ Ok next
      → Passed at op flow next
  was_passed at op flow next h =
      let a = bound (arrived env at flow (declared_frame_at env at)) (instruction_checked env at op) next h in
      let s = bound (stepped env at op a.0) (flowed env at op a.0) next a.2 in
      let t = passes (fits_targets env op s.0) Mismatch
      (cond (not (satisfies_handlers env at a.0)) (Err Handler) (Ok (flow_after op s.0))) next s.2 in
      let u = passes (satisfies_handlers env at a.0) Handler (Ok (flow_after op s.0)) next t.1 in (
        a.0,
        stands at flow (declared_frame_at env at) a.0 a.1,
        s.0,
        s.1,
        t.0,
        u.0,
        same_flow (flow_after op s.0) next u.1,
      )
    where
      same_flow : (x y : Option TypeFrame) → (let R : Flow = Ok x in R) ≡ Ok y → x ≡ y
      same_flow x y e = cc

  -- a frame more before the others
  one_more : (at : ℕ) (i : Ins) (ins : List Ins) (flow next behind : Option TypeFrame) (fs : List TypeFrame)
      → Passed at i.op flow next → AreInstructionsTyped env (at + 1) next ins fs behind
      → (gs : List TypeFrame) × AreInstructionsTyped env at flow (i ∷ ins) gs behind
  one_more at i ins flow next behind fs p rest = (
    p.0 ∷ fs,
    (
      p.1,
      p.2,
      p.3,
      p.4,
      p.5,
      subst (λ (x : Option TypeFrame). AreInstructionsTyped env (at + 1) x ins fs behind) (sym p.6) rest,
    ),
  )

  pub found : (at : ℕ) (flow : Option TypeFrame) (ins : List Ins) → walked env at flow ins ≡ Ok tt
      → (fs : List TypeFrame) × AreInstructionsTyped env at flow ins fs None
  unfolding walked
  found at None [] h = ([], refl)
  found at (Some f) [] h = absurd cc
  found at flow (i ∷ ins) h =
      let w = went_on at (at_instruction env at i.op flow) (λ next. walked env (at + 1) next ins) h in
      let rest = found (at + 1) w.0 ins w.2 in
      one_more at i ins flow w.0 None rest.0 (was_passed at i.op flow w.0 w.1) rest.1

  -- ---- from frames to the walk

  arrives : (at : ℕ) (flow declared : Option TypeFrame) (f : TypeFrame) → Stands env at flow declared f
      → arrived env at flow declared ≡ Ok f
  arrives at (Some from) (Some d) f h = rw (is_true (is_frame_assignable env.classes from d) h.1, h.0) refl
  arrives at None (Some d) f h = ap (λ (x : TypeFrame). let R : Checked = Ok x in R) (sym h)
  arrives at (Some from) None f h = rw (h.1, h.0) refl
  arrives at None None f h = absurd h

  flows : (at : ℕ) (op : Op) (before after : TypeFrame) → IsTrue (fits_targets env op after)
      → IsTrue (satisfies_handlers env at before) → flowed env at op before after ≡ Ok (flow_after op after)
  flows at op before after t u =
      ap (λ (b : Bool). let R : Flow = cond (not b) (Err Mismatch)
      (cond (not (satisfies_handlers env at before)) (Err Handler) (Ok (flow_after op after))) in R)
      (is_true (fits_targets env op after) t)
      ∙ ap (λ (b : Bool). let R : Flow = cond (not b) (Err Handler) (Ok (flow_after op after)) in R)
      (is_true (satisfies_handlers env at before) u)

  goes : (at : ℕ) (op : Op) (flow : Option TypeFrame) (f after : TypeFrame)
      → Stands env at flow (declared_frame_at env at) f
      → stepped env at op f ≡ Ok after → IsTrue (fits_targets env op after) → IsTrue (satisfies_handlers env at f)
      → at_instruction env at op flow ≡ Ok (flow_after op after)
  goes at op flow f after st s t u =
      ap (λ (c : Checked). c >>= instruction_checked env at op) (arrives at flow (declared_frame_at env at) f st)
      ∙ ap (λ (c : Checked). c >>= flowed env at op f) s ∙ flows at op f after t u

  -- the walk behind instructions that are typed
  pub walked_on : (at k : ℕ) (flow behind : Option TypeFrame) (ins : List Ins) (fs : List TypeFrame)
      → AreInstructionsTyped env at flow (take k ins) fs behind → k ≤ length ins
      → walked env at flow ins ≡ walked env (at + k) behind (drop k ins)
  unfolding walked
  walked_on at zero flow behind ins [] h le = ap (λ (x : Option TypeFrame). walked env at x ins) (sym h)
      ∙ ap (λ (n : ℕ). walked env n behind ins) (sym (add-zero at))
  walked_on at zero flow behind ins (f ∷ fs) h le = absurd h
  walked_on at (suc k) flow behind [] fs h le = absurd (omega (arith, le))
  walked_on at (suc k) flow behind (i ∷ ins) [] h le = absurd h
  walked_on at (suc k) flow behind (i ∷ ins) (f ∷ fs) h le =
      let n : at + 1 + k ≡ at + suc k = omega arith in
      ap (λ (r : Flow). gone_on env at r (λ next. walked env (at + 1) next ins))
      (goes at i.op flow f h.1 h.0 h.2 h.3 h.4)
      ∙ walked_on (at + 1) k (flow_after i.op h.1) behind ins fs h.5 (omega (arith, le))
      ∙ ap (λ (m : ℕ). walked env m behind (drop k ins)) n

  -- ---- the first fault

  -- these instructions before the one with this number are typed, and it has this fault
  Wrong : ℕ → Option TypeFrame → List Ins → ℕ → TypeKind → Type 0
  Wrong at flow ins k kind = (i : Ins) × (slice_get ins k ≡ Some i) × (before : Option TypeFrame)
      × (fs : List TypeFrame) × AreInstructionsTyped env at flow (take k ins) fs before
      × (at_instruction env (at + k) i.op before ≡ Err kind)

  Faulty : ℕ → Option TypeFrame → List Ins → TypeFault → Type 0
  Faulty at flow ins fault =
      ((k : ℕ) × (kind : TypeKind) × (fault ≡ fault_at env (at + k) kind) × Wrong at flow ins k kind)
      ⊎ ((f : TypeFrame) × (fs : List TypeFrame) × (fault ≡ fault_at env (at + length ins - 1) FallsOff)
      × AreInstructionsTyped env at flow ins fs (Some f))

  same_fault : (x y : TypeFault) → (let R : Answer = Err x in R) ≡ Err y → x ≡ y
  same_fault x y h = cc

  faulty_on : (at : ℕ) (i : Ins) (ins : List Ins) (flow next : Option TypeFrame) (fault : TypeFault)
      → Passed at i.op flow next → Faulty (at + 1) next ins fault → Faulty at flow (i ∷ ins) fault
  unfolding Faulty Wrong
  faulty_on at i ins flow next fault p (inl w) =
      let n : at + 1 + w.0 ≡ at + suc w.0 = omega arith in
      let v = w.3 in
      let more = one_more at i (take w.0 ins) flow next v.2 v.3 p v.4 in
      inl (
        suc w.0,
        w.1,
        w.2 ∙ ap (λ (m : ℕ). fault_at env m w.1) n,
        (
          v.0,
          v.1,
          v.2,
          more.0,
          more.1,
          ap (λ (m : ℕ). at_instruction env m (v.0).op v.2) (sym n) ∙ v.5,
        ),
      )
  faulty_on at i ins flow next fault p (inr w) =
      let n : at + 1 + length ins - 1 ≡ at + length (i ∷ ins) - 1 = omega arith in
      let more = one_more at i ins flow next (Some w.0) w.1 p w.3 in
      inr (w.0, more.0, w.2 ∙ ap (λ (m : ℕ). fault_at env m FallsOff) n, more.1)

  -- what an instruction gives decides what the walk does
  at_first : (at : ℕ) (i : Ins) (ins : List Ins) (flow : Option TypeFrame) (fault : TypeFault) (r : Flow)
      → at_instruction env at i.op flow ≡ r → gone_on env at r (λ next. walked env (at + 1) next ins) ≡ Err fault
      → ((next : Option TypeFrame) → walked env (at + 1) next ins ≡ Err fault → Faulty (at + 1) next ins fault)
      → Faulty at flow (i ∷ ins) fault
  unfolding Faulty Wrong
  at_first at i ins flow fault (Ok next) e h others =
      faulty_on at i ins flow next fault (was_passed at i.op flow next e) (others next h)
  at_first at i ins flow fault (Err kind) e h others =
      let n : at ≡ at + 0 = omega arith in
      inl (
        0,
        kind,
        sym (same_fault (fault_at env at kind) fault h) ∙ ap (λ (m : ℕ). fault_at env m kind) n,
        (i, refl, flow, [], refl, ap (λ (m : ℕ). at_instruction env m i.op flow) (sym n) ∙ e),
      )

  faulty : (at : ℕ) (flow : Option TypeFrame) (ins : List Ins) (fault : TypeFault) → walked env at flow ins ≡ Err fault
      → Faulty at flow ins fault
  unfolding walked Faulty
  faulty at None [] fault h = absurd cc
  faulty at (Some f) [] fault h =
      let n : at - 1 ≡ at + 0 - 1 = omega arith in
      inr (
        f,
        [],
        sym (same_fault (fault_at env (at - 1) FallsOff) fault h)
            ∙ ap (λ (m : ℕ). fault_at env m FallsOff) n,
        refl,
      )
  faulty at flow (i ∷ ins) fault h =
      at_first at i ins flow fault (at_instruction env at i.op flow) refl h (λ next. faulty (at + 1) next ins fault)

  first_of : (fault : TypeFault) → Faulty 0 (Some (initial_frame env)) env.code.ins fault → IsFirstFault env fault
  unfolding Faulty Wrong
  first_of fault (inl w) =
      let v = w.3 in
      let z : 0 + w.0 ≡ w.0 = omega arith in
      let e : fault ≡ fault_at env w.0 w.1 = w.2 ∙ ap (λ (m : ℕ). fault_at env m w.1) z in
      subst (λ (f : TypeFault). IsFirstFault env f) (sym e)
      (refl, inl (v.0, v.1, v.2, (v.3, v.4), ap (λ (m : ℕ). at_instruction env m (v.0).op v.2) (sym z) ∙ v.5))
  first_of fault (inr w) =
      let z : 0 + length env.code.ins - 1 ≡ length env.code.ins - 1 = omega arith in
      let e : fault ≡ fault_at env (length env.code.ins - 1) FallsOff = w.2
      ∙ ap (λ (m : ℕ). fault_at env m FallsOff) z in
      subst (λ (f : TypeFault). IsFirstFault env f) (sym e) (
        refl,
        inr (
          refl,
          (
            refl,
            w.0,
            (
              w.1,
              subst (λ (ins : List Ins). AreInstructionsTyped env 0 (Some (initial_frame env)) ins w.1 (Some w.0))
                  (sym (take_all (length env.code.ins) env.code.ins (omega arith))) w.3,
            ),
          ),
        ),
      )

  -- ---- the laws

  -- the walk says yes only of a typed code
  pub typed_where_yes : code_checked env ≡ Ok tt → Typed env
  typed_where_yes h = found 0 (Some (initial_frame env)) env.code.ins h

  -- its fault is the first one
  pub first_where_no : (fault : TypeFault) → code_checked env ≡ Err fault → IsFirstFault env fault
  first_where_no fault h = first_of fault (faulty 0 (Some (initial_frame env)) env.code.ins fault h)

  -- it says yes of each typed code
  pub yes_where_typed : Typed env → code_checked env ≡ Ok tt
  unfolding walked
  yes_where_typed t =
      let all : List Ins = env.code.ins in
      walked_on 0 (length all) (Some (initial_frame env)) None all t.0
      (subst (λ (ins : List Ins). AreInstructionsTyped env 0 (Some (initial_frame env)) ins t.0 None)
      (sym (take_all (length all) all (omega arith))) t.1) (omega arith)
      ∙ ap (λ (ins : List Ins). walked env (0 + length all) None ins) (drop_all (length all) all (omega arith))

  -- a first fault is what it says
  no_where_wrong : (at : ℕ) (kind : TypeKind) → IsWrongAt env at kind → code_checked env ≡ Err (fault_at env at kind)
  unfolding walked
  no_where_wrong at kind w =
      let all : List Ins = env.code.ins in
      let lt = slice_get_within all at w.0 w.1 in
      let z : 0 + at ≡ at = omega arith in
      walked_on 0 at (Some (initial_frame env)) w.2 all (w.3).0 (w.3).1 (omega (arith, lt))
      ∙ ap (λ (m : ℕ). walked env m w.2 (drop at all)) z
      ∙ ap (λ (ins : List Ins). walked env at w.2 ins)
      (rest_is all at w.0 lt (sym (get_or_from_slice_get all at w.0 w.0 w.1)))
      ∙ ap (λ (r : Flow). gone_on env at r (λ next. walked env (at + 1) next (drop (at + 1) all))) w.4

  no_where_off : (at : ℕ) → FallsOffAt env at → code_checked env ≡ Err (fault_at env at FallsOff)
  unfolding walked
  no_where_off at w =
      let all : List Ins = env.code.ins in
      let z : 0 + length all - 1 ≡ at = omega (arith, w.0) in
      walked_on 0 (length all) (Some (initial_frame env)) (Some w.1) all (w.2).0 (w.2).1 (omega arith)
      ∙ ap (λ (ins : List Ins). walked env (0 + length all) (Some w.1) ins) (drop_all (length all) all (omega arith))
      ∙ ap (λ (m : ℕ). let R : Answer = Err (fault_at env m FallsOff) in R) z

  pub no_where_fault : (fault : TypeFault) → IsFirstFault env fault → code_checked env ≡ Err fault
  no_where_fault fault (e, inl w) = no_where_wrong fault.index fault.kind w
      ∙ ap (λ (f : TypeFault). let R : Answer = Err f in R) (sym e)
  no_where_fault fault (e, inr w) = no_where_off fault.index w.1
      ∙ ap (λ (k : TypeKind). let R : Answer = Err (fault_at env fault.index k) in R) (sym w.0)
      ∙ ap (λ (f : TypeFault). let R : Answer = Err f in R) (sym e)

apart : (r : Answer) (fault : TypeFault) → r ≡ Ok tt → r ≡ Err fault → ⊥
apart (Ok u) fault h g = absurd cc
apart (Err f) fault h g = absurd cc

one_answer : (r : Answer) (fault other : TypeFault) → r ≡ Err fault → r ≡ Err other → fault ≡ other
one_answer (Ok u) fault other h g = absurd cc
one_answer (Err f) fault other h g = cc

pub never_both : (env : Environment) (fault : TypeFault) → Typed env → IsFirstFault env fault → ⊥
never_both env fault t h = apart (code_checked env) fault (yes_where_typed env t) (no_where_fault env fault h)

pub one_fault : (env : Environment) (fault other : TypeFault) → IsFirstFault env fault → IsFirstFault env other
    → fault ≡ other
one_fault env fault other h g =
    one_answer (code_checked env) fault other (no_where_fault env fault h) (no_where_fault env other g)
