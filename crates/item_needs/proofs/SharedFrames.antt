-- What frames want, each but for what it shares with the one before.
use Rattle.std.proofs.Common.{◌≡◌, ℕ, zero, suc, ◌+◌, ◌<◌, ◌||◌, Bool, true, false, List, [], ◌∷◌, ◌++◌, length, take}
use Rattle.std.proofs.Common.{drop, ◌==◌, Result, Ok, Err, refl, sym, ap, subst, ◌∙◌, arith, append-nil}
use Rattle.std.specs.Prelude.{OnOk}
use Rattle.std.specs.List.{flat_map}
use Rattle.std.proofs.lemmas.List.{take-append-drop, take_more}
use Rattle.std.proofs.lemmas.List.Concat.{flat_map-append}
use Rattle.std.proofs.lemmas.List.Elements.{filter_map-append}
use Rattle.std.proofs.lemmas.List.Folds.{list_any-append}
use Rattle.class_model.specs.FrameLists.{frame_numbered, no_frame}
use Rattle.class_model.specs.declared.frame.FrameAt.{FrameAt}
use Rattle.class_model.specs.declared.frame.VType.{VType}
use Rattle.class_model.specs.declared.class.Class.{Class}
use Rattle.std.specs.Option.{option_map_or}
use Rattle.std.proofs.Math.Bool.{or-true}
use Rattle.class_model.specs.declared.class.Method.{Method}
use Rattle.class_model.specs.declared.code.Code.{Code}
use Rattle.class_model.specs.declared.code.Handler.{Handler}
use Rattle.class_model.specs.declared.code.Ins.{Ins}
use Rattle.class_pool.specs.declared.id.ClassId.TheVariants.{Prog}
use Rattle.require_sys.specs.declared.kept.KeptByRules.{KeptByRules}
use Rattle.require_sys.specs.Requires.{Item, OfClass, code_wants, frame_wants, handler_wants, method_type_wants}
use Rattle.require_sys.specs.Requires.{method_wants, number_of, numbers, op_wants, throws_wants, verification_wants}
use Rattle.item_needs.specs.bodies.Frames.{IsShared}
use Rattle.item_numbers.specs.bodies.Wanting.{HasSame, Wanted, has, wanting}
use Rattle.item_numbers.proofs.Gathering.{in_turn, joins, nothing}

pub has-append : (x : ℕ) (xs ys : List ℕ) → has x (xs ++ ys) ≡ (has x xs || has x ys)
has-append x xs ys = list_any-append (λ y. x == y) xs ys

pub same_itself : (w : Wanted) → HasSame w w
same_itself w = record { classes = refl; numbers = λ x. refl }

pub same_is : (w v : Wanted) → w ≡ v → HasSame w v
same_is w v e = subst (λ (u : Wanted). HasSame w u) e (same_itself w)

-- the same is the same where more is wanted in front
pub same_more : {E : Type 0} (r : Result (Unit {0}) E) (w v u : Wanted) (a : List Item) (b : List Class → List Item)
    → v ≡ wanting w a → OnOk r (HasSame u (wanting v (b v.classes))) → OnOk r (HasSame u (wanting w (a ++ b w.classes)))
same_more (Ok y) w v u a b first second =
    let h : HasSame u (wanting (wanting w a) (b w.classes)) =
    subst (λ (x : Wanted). HasSame u (wanting x (b x.classes))) first second in
    subst (λ (x : Wanted). HasSame u x) (joins w a (b w.classes)) h
same_more (Err e) w v u a b first second = tt

same_then : (u v w : Wanted) → HasSame u v → HasSame v w → HasSame u w
same_then u v w first second = record {
  classes = first.classes ∙ second.classes;
  numbers = λ x. first.numbers x ∙ second.numbers x;
}

-- the same where as much more is wanted
same_with : (v w : Wanted) (items : List Class → List Item) → HasSame v w
    → HasSame (wanting v (items v.classes)) (wanting w (items w.classes))
same_with v w items same = record {
  classes = same.classes;
  numbers = λ x. has-append x v.numbers (numbers v.classes (items v.classes))
      ∙ ap (λ b. b || has x (numbers v.classes (items v.classes))) (same.numbers x)
      ∙ ap (λ (cs : List Class). has x w.numbers || has x (numbers cs (items cs))) same.classes
      ∙ sym (has-append x w.numbers (numbers w.classes (items w.classes)));
}

pub same_in_turn : (w v u : Wanted) (a : List Item) (b : List Class → List Item) → HasSame v (wanting w a)
    → HasSame u (wanting v (b v.classes)) → HasSame u (wanting w (a ++ b w.classes))
same_in_turn w v u a b first second =
    subst (HasSame u) (joins w a (b w.classes))
    (same_then u (wanting v (b v.classes)) (wanting (wanting w a) (b w.classes)) second
    (same_with v (wanting w a) b first))

pub same_after : {E : Type 0} (r : Result (Unit {0}) E) (w v u : Wanted) (a : List Item) (b : List Class → List Item)
    → HasSame v (wanting w a) → OnOk r (HasSame u (wanting v (b v.classes)))
    → OnOk r (HasSame u (wanting w (a ++ b w.classes)))
same_after (Ok y) w v u a b first second = same_in_turn w v u a b first second
same_after (Err e) w v u a b first second = tt

-- what is wanted is the same as it is
pub on_same : {E : Type 0} (r : Result (Unit {0}) E) (u v : Wanted) → OnOk r (u ≡ v) → OnOk r (HasSame u v)
on_same (Ok y) u v is = same_is u v is
on_same (Err e) u v is = tt

module _ (classes : List Class) (x : ℕ) where
  abbrev stands : List Item → Bool
  stands items = has x (numbers classes items)

  stands-append : (a b : List Item) → stands (a ++ b) ≡ (stands a || stands b)
  stands-append a b =
      ap (has x) (filter_map-append (number_of classes) a b)
      ∙ has-append x (numbers classes a) (numbers classes b)

  abbrev of_types : List VType → List Item
  of_types types = flat_map (verification_wants classes) types

  types-append : (a b : List VType) → stands (of_types (a ++ b)) ≡ (stands (of_types a) || stands (of_types b))
  types-append a b = ap stands (flat_map-append (verification_wants classes) a b)
      ∙ stands-append (of_types a) (of_types b)

  or_left : (a b c : Bool) → c ≡ (a || b) → a ≡ true → c ≡ true
  or_left a b c is h = is ∙ ap (λ (t : Bool). t || b) h

  or_right : (a b c : Bool) → c ≡ (a || b) → b ≡ true → c ≡ true
  or_right a b c is h = is ∙ ap (λ (t : Bool). a || t) h ∙ or-true a

  never_both : {P : Type 0} → false ≡ true → P
  never_both h = absurd cc

  module _ (frames : List FrameAt) where
    abbrev so_far : ℕ → List Item
    so_far n = flat_map (frame_wants classes) (take n frames)

    abbrev locals_at : ℕ → List VType
    locals_at at = (frame_numbered frames at).frame.locals

    abbrev stack_at : ℕ → List VType
    stack_at at = (frame_numbered frames at).frame.stack

    one_more : (at : ℕ) → at < length frames
        → stands (so_far (at + 1)) ≡ (stands (so_far at) || (stands (of_types (locals_at at))
        || stands (of_types (stack_at at))))
    one_more at within =
        ap (λ (fs : List FrameAt). stands (flat_map (frame_wants classes) fs)) (take_more frames at no_frame within)
        ∙ ap stands (flat_map-append (frame_wants classes) (take at frames) (frame_numbered frames at ∷ []))
        ∙ stands-append (so_far at) (flat_map (frame_wants classes) (frame_numbered frames at ∷ []))
        ∙ ap (λ (t : List Item). stands (so_far at) || stands t) (append-nil (frame_wants classes
        (frame_numbered frames at)))
        ∙ ap (λ (b : Bool). stands (so_far at) || b) (types-append (locals_at at) (stack_at at))

    -- what is shared stands among what came before
    shared_stands : (at n : ℕ) → at < length frames → IsShared frames at n
        → stands (of_types (take n (locals_at at))) ≡ true → stands (so_far at) ≡ true
    shared_stands zero n within shared h =
        never_both (ap (λ (k : ℕ). stands (of_types (take k (locals_at zero)))) (sym (shared.first refl)) ∙ h)
    shared_stands (suc before) n within shared h =
        let e : suc before ≡ before + 1 = omega arith in
        let front : stands (of_types (take n (locals_at before))) ≡ true =
        ap (λ (ts : List VType). stands (of_types ts)) (sym (shared.same before e)) ∙ h in
        let all : stands (of_types (locals_at before)) ≡ true =
        ap (λ (ts : List VType). stands (of_types ts)) (sym (take-append-drop n (locals_at before)))
        ∙ or_left (stands (of_types (take n (locals_at before)))) (stands (of_types (drop n (locals_at before))))
        (stands (of_types (take n (locals_at before) ++ drop n (locals_at before))))
        (types-append (take n (locals_at before)) (drop n (locals_at before))) front in
        ap (λ (k : ℕ). stands (so_far k)) e
        ∙ or_right (stands (so_far before)) (stands (of_types (locals_at before))
        || stands (of_types (stack_at before)))
        (stands (so_far (before + 1))) (one_more before (omega (arith, within)))
        (ap (λ (b : Bool). b || stands (of_types (stack_at before))) all)

    mixed : (w f t d s : Bool) → (t ≡ true → f ≡ true) → ((w || f) || (d || s)) ≡ (w || (f || ((t || d) || s)))
    mixed true f t d s h = refl
    mixed false true t d s h = refl
    mixed false false true d s h = never_both (h refl)
    mixed false false false d s h = refl

    pub frame_stands : (w : Bool) (at n : ℕ) → at < length frames → IsShared frames at n
        → ((w || stands (so_far at)) || stands (of_types (drop n (locals_at at) ++ stack_at at)))
        ≡ (w || stands (so_far (at + 1)))
    frame_stands w at n within shared =
        ap (λ (b : Bool). (w || stands (so_far at)) || b) (types-append (drop n (locals_at at)) (stack_at at))
        ∙ mixed w (stands (so_far at)) (stands (of_types (take n (locals_at at))))
        (stands (of_types (drop n (locals_at at)))) (stands (of_types (stack_at at)))
        (shared_stands at n within shared)
        ∙ ap (λ (b : Bool). w || (stands (so_far at) || (b || stands (of_types (stack_at at)))))
        (sym (types-append (take n (locals_at at)) (drop n (locals_at at)))
        ∙ ap (λ (ts : List VType). stands (of_types ts)) (take-append-drop n (locals_at at)))
        ∙ ap (λ (b : Bool). w || b) (sym (one_more at within))

-- one more frame
pub more_frames : (frames : List FrameAt) (at : ℕ) (w v u : Wanted) → at < length frames
    → HasSame v (wanting w (flat_map (frame_wants w.classes) (take at frames)))
    → ((n : ℕ) × IsShared frames at n × (u ≡ wanting v (flat_map (verification_wants v.classes)
    (drop n (frame_numbered frames at).frame.locals ++ (frame_numbered frames at).frame.stack))))
    → HasSame u (wanting w (flat_map (frame_wants w.classes) (take (at + 1) frames)))
more_frames frames at w v u within before one =
    let added : List Class → List ℕ = λ cs. numbers cs (flat_map (verification_wants cs)
    (drop one.0 (frame_numbered frames at).frame.locals ++ (frame_numbered frames at).frame.stack)) in
    record {
      classes = ap (λ (y : Wanted). y.classes) one.2 ∙ before.classes;
      numbers = λ x.
          ap (λ (y : Wanted). has x y.numbers) one.2
          ∙ ap (λ (cs : List Class). has x (v.numbers ++ added cs)) before.classes
          ∙ has-append x v.numbers (added w.classes)
          ∙ ap (λ (b : Bool). b || has x (added w.classes))
          (before.numbers x ∙ has-append x w.numbers (numbers w.classes (flat_map (frame_wants w.classes)
          (take at frames))))
          ∙ frame_stands w.classes x frames (has x w.numbers) at one.0 within one.1
          ∙ sym (has-append x w.numbers (numbers w.classes (flat_map (frame_wants w.classes) (take (at + 1) frames))));
    }

-- the locals that a frame doesn't share, and its stack
pub frame_then : {E : Type 0} (r : Result (Unit {0}) E) (frames : List FrameAt) (at n : ℕ) (locals stack : List VType)
    (w v u : Wanted) → IsShared frames at n → locals ≡ drop n (frame_numbered frames at).frame.locals
    → stack ≡ (frame_numbered frames at).frame.stack
    → v ≡ wanting w (flat_map (verification_wants w.classes) locals)
    → OnOk r (u ≡ wanting v (flat_map (verification_wants v.classes) stack))
    → OnOk r ((k : ℕ) × IsShared frames at k × (u ≡ wanting w (flat_map (verification_wants w.classes)
    (drop k (frame_numbered frames at).frame.locals ++ (frame_numbered frames at).frame.stack))))
frame_then (Ok x) frames at n locals stack w v u shared own over first second = (
  n,
  shared,
  in_turn w v u (flat_map (verification_wants w.classes) locals) (λ cs. flat_map
      (verification_wants cs) stack) first second
      ∙ ap (wanting w) (sym (flat_map-append (verification_wants w.classes) locals stack)
      ∙ (λ i. flat_map (verification_wants w.classes) (own i ++ over i))),
)
frame_then (Err e) frames at n locals stack w v u shared own over first second = tt

pub nothing_same : (w : Wanted) → HasSame w (wanting w [])
nothing_same w = same_is w (wanting w []) (nothing w)

-- what a code wants, part by part
pub code_then : {E : Type 0} (r : Result (Unit {0}) E) (n : ℕ) (code : Code) (ins : List Ins) (handlers : List Handler)
    (w v x u : Wanted) → ins ≡ code.ins → handlers ≡ code.handlers
    → HasSame v (wanting w (flat_map (λ (i : Ins). op_wants w.classes n i.op) ins))
    → x ≡ wanting v (flat_map (handler_wants v.classes) handlers)
    → OnOk r (HasSame u (wanting x (flat_map (frame_wants x.classes) code.frames)))
    → OnOk r (HasSame u (wanting w (code_wants w.classes n code)))
code_then r n code ins handlers w v x u own caught first second third =
    same_after r w v u (flat_map (λ (i : Ins). op_wants w.classes n i.op) code.ins)
    (λ cs. flat_map (handler_wants cs) code.handlers ++ flat_map (frame_wants cs) code.frames)
    (subst (λ (is : List Ins). HasSame v (wanting w (flat_map (λ (i : Ins). op_wants w.classes n i.op) is))) own first)
    (same_more r v x u (flat_map (handler_wants v.classes) code.handlers) (λ cs. flat_map (frame_wants cs) code.frames)
    (second ∙ ap (λ (hs : List Handler). wanting v (flat_map (handler_wants v.classes) hs)) caught) third)

-- what a method wants, part by part
pub method_then : {E : Type 0} (r : Result (Unit {0}) E) (n : ℕ) (kept : KeptByRules) (m : Method) (w v x y u : Wanted)
    → v ≡ wanting w (OfClass (Prog n) ∷ []) → x ≡ wanting v (method_type_wants v.classes m.ty)
    → y ≡ wanting x (throws_wants x.classes kept m)
    → OnOk r (HasSame u (wanting y (option_map_or (code_wants y.classes n) m.code [])))
    → OnOk r (HasSame u (wanting w (method_wants w.classes n kept m)))
method_then r n kept m w v x y u first second third fourth =
    same_more r w v u (OfClass (Prog n) ∷ [])
    (λ cs. method_type_wants cs m.ty ++ (throws_wants cs kept m ++ option_map_or (code_wants cs n) m.code [])) first
    (same_more r v x u (method_type_wants v.classes m.ty)
    (λ cs. throws_wants cs kept m ++ option_map_or (code_wants cs n) m.code []) second
    (same_more r x y u (throws_wants x.classes kept m) (λ cs. option_map_or (code_wants cs n) m.code []) third fourth))
