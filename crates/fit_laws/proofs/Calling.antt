-- The four instructions that call methods, from the instruction on (JVMS 6.5.invokestatic, 6.5.invokespecial,
-- 6.5.invokevirtual, 6.5.invokeinterface).
use Rattle.std.proofs.Common.{◌+◌, ◌++◌, List, [], ◌∷◌, Option, Some, None, Bool, true, false, ◌≡◌, ◌≢◌, refl, sym}
use Rattle.std.proofs.Common.{ap, ◌∙◌, subst}
use Rattle.std.specs.Prelude.{cond, map, option_map, reverse, Result, Ok}
use Rattle.std.specs.List.{AllByRecursion, AllZip}
use Rattle.std.specs.Result.{result_ok}
use Rattle.std.proofs.lemmas.List.{reverse-append, reverse-reverse}
use Rattle.jv_base.specs.Descriptors.{read_method}
use Rattle.jv_base.specs.declared.types.FieldType.{FieldType}
use Rattle.jv_base.specs.declared.types.MethodType.{MethodType}
use Rattle.jv_base.proofs.Lists.{all_append}
use Rattle.class_model.specs.Flags.{is_init}
use Rattle.class_model.specs.Frames.{vtype_of}
use Rattle.class_model.specs.declared.class.Class.{Class}
use Rattle.class_model.specs.declared.frame.VType.{VType}
use Rattle.class_model.specs.declared.frame.VType.TheVariants as vtype
use Rattle.class_model.specs.declared.op.Kind.{Kind}
use Rattle.class_model.specs.declared.op.Kind.TheVariants as kind
use Rattle.class_model.specs.declared.op.MemberRef.{MemberRef}
use Rattle.class_model.specs.declared.op.Op.TheVariants as op
use Rattle.jvm_model.specs.Answers.{of_some}
use Rattle.jvm_model.specs.Calls.{called_static}
use Rattle.jvm_model.specs.Heap.{Object, World}
use Rattle.jvm_model.specs.Instructions.{Asks, CallInterface, CallSpecial, CallStatic, CallVirtual, Request, sort_of}
use Rattle.jvm_model.specs.Instructions.{taking}
use Rattle.jvm_model.specs.Instructions.{with_receiver}
use Rattle.jvm_model.specs.Local.{after_ask, by_sort}
use Rattle.jvm_model.specs.Program.{Target}
use Rattle.jvm_model.specs.Requests.{answer}
use Rattle.jvm_model.specs.Stack.{◌>>=◌, many_above, top}
use Rattle.jvm_model.specs.State.{Body}
use Rattle.jvm_model.specs.Types.{argument_kinds, kind_of}
use Rattle.jvm_model.specs.Value.{Key, Ref, Value, as_kind}
use Rattle.set_view.specs.ViewOf.{shape_of}
use Rattle.type_verifier.specs.declared.frame.TypeFrame.{TypeFrame}
use Rattle.type_verifier.specs.Assignable.{class_type}
use Rattle.type_verifier.specs.Effects.{Checked, acted, all_popped, object_initialised, popped, stepped}
use Rattle.type_verifier.specs.Environment.{Environment, own_type}
use Rattle.type_verifier.specs.Members.{is_guarded_method}
use Rattle.type_verifier.specs.Rules.{Assignable, Initialises, Rule, Uses, Wanted, arguments, object_call}
use Rattle.type_verifier.specs.Rules.{returned, rule_of, special_call, static_call, told_type}
use Rattle.type_verifier.proofs.TypedLaw.{bound}
use Rattle.fit_laws.specs.Answered.{FitsAnswer, FitsLocal}
use Rattle.fit_laws.specs.Frames.{Environs, FitsBody, FitsLocals, FitsStack, Leads}
use Rattle.fit_laws.specs.Held.{is_held, is_there}
use Rattle.fit_laws.specs.Meaning.{CallsInit, CallsSelected, CallsSpecial, CallsStatic, IsMethodTyped}
use Rattle.fit_laws.specs.Sound.{IsSound}
use Rattle.fit_laws.specs.Values.{FitsReference, FitsType, FitsWorld}
use Rattle.fit_laws.proofs.Constructors.{constructor_called}
use Rattle.fit_laws.proofs.Going.{hierarchy_of}
use Rattle.fit_laws.proofs.Held.{IsHierarchy}
use Rattle.fit_laws.proofs.Operands.{many_reads, onto}
use Rattle.fit_laws.proofs.Running.{selected_fits, special_fits, special_init, static_fits}
use Rattle.fit_laws.proofs.Sorts.{acted_of, asks_fit}
use Rattle.fit_laws.proofs.Taking.{Reads, Took, object_taken, top_taken}
use Rattle.fit_laws.proofs.Using.{first_popped, uses_takes}

-- ---- lists

reverse_cons : {A : Type 0} (x : A) (xs : List A) → reverse (x ∷ xs) ≡ reverse xs ++ x ∷ []
reverse_cons x xs = reverse-append (x ∷ []) xs

map_append : {A B : Type 0} (fn : A → B) (xs ys : List A) → map fn (xs ++ ys) ≡ map fn xs ++ map fn ys
map_append fn [] ys = refl
map_append fn (x ∷ xs) ys = ap (λ (zs : List _). fn x ∷ zs) (map_append fn xs ys)

reverse_map : {A B : Type 0} (fn : A → B) (xs : List A) → reverse (map fn xs) ≡ map fn (reverse xs)
reverse_map fn [] = refl
reverse_map fn (x ∷ xs) = reverse_cons (fn x) (map fn xs)
    ∙ ap (λ (zs : List _). zs ++ fn x ∷ []) (reverse_map fn xs)
    ∙ sym (map_append fn (reverse xs) (x ∷ [])) ∙ ap (map fn) (sym (reverse_cons x xs))

append_again : {A : Type 0} (xs : List A) (y : A) (ys : List A) → (xs ++ y ∷ []) ++ ys ≡ xs ++ y ∷ ys
append_again [] y ys = refl
append_again (x ∷ xs) y ys = ap (λ (zs : List _). x ∷ zs) (append_again xs y ys)

append_none : {A : Type 0} (xs : List A) → xs ++ [] ≡ xs
append_none [] = refl
append_none (x ∷ xs) = ap (λ (zs : List _). x ∷ zs) (append_none xs)

onto_is : (rs ts : List FieldType) → onto rs ts ≡ reverse rs ++ ts
onto_is [] ts = refl
onto_is (r ∷ rs) ts = onto_is rs (r ∷ ts) ∙ sym (append_again (reverse rs) r ts)
    ∙ ap (λ (zs : List FieldType). zs ++ ts) (sym (reverse_cons r rs))

all_reversed : {A : Type 0} (P : A → Type 0) (xs : List A) → AllByRecursion P xs → AllByRecursion P (reverse xs)
all_reversed P [] h = tt
all_reversed P (x ∷ xs) h = subst (λ (zs : List _). AllByRecursion P zs) (sym (reverse_cons x xs))
    (all_append P (reverse xs) (x ∷ []) (all_reversed P xs h.1) (h.0, tt))

-- operands of kinds and one more below them
many_apart : (ks : List Kind) (k : Kind) (vs s : List Value)
    → many_above (ks ++ k ∷ []) vs s ≡ (many_above ks vs s >>= (λ p. many_above (k ∷ []) p.0 p.1))
many_apart [] k vs s = refl
many_apart (j ∷ ks) k vs s = by (λ p. many_apart ks k (p.0 ∷ vs) p.1) (top (as_kind j) s) where
  Apart : (p : Value × List Value) → Type 0
  Apart p = many_above (ks ++ k ∷ []) (p.0 ∷ vs) p.1
      ≡ (many_above ks (p.0 ∷ vs) p.1 >>= (λ q. many_above (k ∷ []) q.0 q.1))

  by : ((p : Value × List Value) → Apart p) → (o : Option (Value × List Value))
      → (o >>= (λ p. many_above (ks ++ k ∷ []) (p.0 ∷ vs) p.1))
      ≡ ((o >>= (λ p. many_above ks (p.0 ∷ vs) p.1)) >>= (λ p. many_above (k ∷ []) p.0 p.1))
  by f None = refl
  by f (Some p) = f p

-- ---- operands

module _ (env : Environment) (heap : List Object) (hierarchy : IsHierarchy env.classes) where
  -- what is popped in two parts
  popped_apart : (ws us : List Wanted) (f h : TypeFrame) → all_popped env.classes (ws ++ us) f ≡ Ok h
      → (g : TypeFrame) × (all_popped env.classes ws f ≡ Ok g) × (all_popped env.classes us g ≡ Ok h)
  popped_apart [] us f h e = (f, refl, e)
  popped_apart (w ∷ ws) us f h e =
      let m = bound (popped env.classes w f) (all_popped env.classes (ws ++ us)) h e in
      let r = popped_apart ws us m.0 h m.2 in
      (r.0, first_popped env w ws f m.0 r.0 m.1 r.1, r.2)

  abbrev NoFloats : MethodType → Type 0
  NoFloats ty = AllByRecursion (λ (t : FieldType). vtype_of t ≢ vtype.Top) ty.args

  abbrev Args : MethodType → List Value → Type 0
  Args ty vs = AllZip (FitsType env.classes heap) ty.args vs

  -- the arguments of a type
  arguments_taken : (ty : MethodType) → NoFloats ty → (f g : TypeFrame) (s : List Value)
      → FitsStack env heap f.stack s → all_popped env.classes (arguments ty) f ≡ Ok g
      → Took env heap (many_above (reverse (map kind_of ty.args)) []) (Args ty) f g s
  arguments_taken ty n f g s x e =
      let t = many_reads env heap hierarchy (reverse ty.args) []
      (all_reversed (λ (z : FieldType). vtype_of z ≢ vtype.Top) ty.args n) [] tt f g s x
      (subst (λ (ws : List Wanted). all_popped env.classes ws f ≡ Ok g)
      (reverse_map (λ (z : FieldType). Assignable (vtype_of z)) ty.args) e) in
      record {
        value = t.value;
        rest = t.rest;
        reads = ap (λ (ks : List Kind). many_above ks [] s) (reverse_map kind_of ty.args) ∙ t.reads;
        holds = subst (λ (ts : List FieldType). AllZip (FitsType env.classes heap) ts t.value)
            (onto_is (reverse ty.args) [] ∙ append_none _ ∙ reverse-reverse ty.args) t.holds;
        fits = t.fits;
        locals = t.locals;
      }

  kinds : (r : MemberRef) (ty : MethodType) → read_method r.ty ≡ Ok ty
      → argument_kinds r.ty ≡ Some (map kind_of ty.args)
  kinds r ty read =
      ap (λ (z : Result MethodType _). option_map (λ (m : MethodType). map kind_of m.args) (result_ok z)) read

  -- without a receiver
  pub static_reads : (r : MemberRef) (ty : MethodType) → read_method r.ty ≡ Ok ty → NoFloats ty
      → (ask : List Value → Request) (Q : Request → Type 0) → ((vs : List Value) → Args ty vs → Q (ask vs))
      → Reads env heap (arguments ty) (taking (argument_kinds r.ty) ask) Q
  static_reads r ty read n ask Q q f g s x e =
      let t = arguments_taken ty n f g s x e in
      record {
        value = ask t.value;
        rest = t.rest;
        reads = ap (λ (o : Option (List Kind)). taking o ask s) (kinds r ty read)
            ∙ ap (λ (o : Option (List Value × List Value)). o >>= (λ p. Some (ask p.0, p.1))) t.reads;
        holds = q t.value t.holds;
        fits = t.fits;
        locals = t.locals;
      }

  -- what is read below the arguments
  below_reads : (r : MemberRef) (ty : MethodType) → read_method r.ty ≡ Ok ty → (ask : List Value → Request)
      (s rest below : List Value) (vs : List Value) (v : Value)
      → many_above (reverse (map kind_of ty.args)) [] s ≡ Some (vs, rest)
      → top (as_kind kind.Ref) rest ≡ Some (v, below)
      → taking (with_receiver (argument_kinds r.ty)) ask s ≡ Some (ask (v ∷ vs), below)
  below_reads r ty read ask s rest below vs v a b =
      ap (λ (o : Option (List Kind)). taking (with_receiver o) ask s) (kinds r ty read)
      ∙ ap (λ (ks : List Kind). many_above ks [] s >>= (λ p. Some (ask p.0, p.1)))
      (reverse_cons kind.Ref (map kind_of ty.args))
      ∙ ap (λ (o : Option (List Value × List Value)). o >>= (λ p. Some (ask p.0, p.1)))
      (many_apart (reverse (map kind_of ty.args)) kind.Ref [] s)
      ∙ ap (λ (o : Option (List Value × List Value)).
      (o >>= (λ p. many_above (kind.Ref ∷ []) p.0 p.1)) >>= (λ p. Some (ask p.0, p.1))) a
      ∙ ap (λ (o : Option (Value × List Value)).
      (o >>= (λ p. many_above [] (p.0 ∷ vs) p.1)) >>= (λ p. Some (ask p.0, p.1))) b

  -- with one
  pub receiver_reads : (r : MemberRef) (ty : MethodType) → read_method r.ty ≡ Ok ty → NoFloats ty → (class : FieldType)
      → (ask : List Value → Request) (Q : Request → Type 0)
      → ((v : Value) → FitsReference env.classes heap class v → (vs : List Value) → Args ty vs → Q (ask (v ∷ vs)))
      → Reads env heap (arguments ty ++ Assignable (vtype.Object class) ∷ [])
      (taking (with_receiver (argument_kinds r.ty)) ask) Q
  receiver_reads r ty read n class ask Q q f g s x e =
      let p = popped_apart (arguments ty) (Assignable (vtype.Object class) ∷ []) f g e in
      let t = arguments_taken ty n f p.0 s x p.1 in
      let m = bound (popped env.classes (Assignable (vtype.Object class)) p.0) (all_popped env.classes []) g p.2 in
      let k = top_taken env heap (Assignable (vtype.Object class)) (as_kind kind.Ref)
      (FitsReference env.classes heap class) (object_taken env heap hierarchy class) p.0 m.0 t.rest t.fits m.1 in
      let z = same m.0 g m.2 in
      record {
        value = ask (k.value ∷ t.value);
        rest = k.rest;
        reads = below_reads r ty read ask s t.rest k.rest t.value k.value t.reads k.reads;
        holds = q k.value k.holds t.value t.holds;
        fits = subst (λ (h : TypeFrame). FitsStack env heap h.stack k.rest) z k.fits;
        locals = ap (λ (h : TypeFrame). h.locals) (sym z) ∙ k.locals ∙ t.locals;
      }
    where
      same : (m g : TypeFrame) → (let R : Checked = Ok m in R) ≡ Ok g → m ≡ g
      same m g h = cc

-- ---- the instructions

module _ (classes : List Class) (sound : IsSound classes) (w : World) (world : FitsWorld classes w) (k : Key)
    (env : Environment) (is : Environs classes k env) (b : Body) (f : TypeFrame) (x : FitsBody env w.heap f b) where
  hierarchy : IsHierarchy env.classes
  hierarchy = hierarchy_of classes sound k env is

  abbrev Next : TypeFrame → Type 0
  Next after = Leads env.classes is.frames (b.at + 1) after

  here_values : (ts : List FieldType) (vs : List Value) → AllZip (FitsType env.classes w.heap) ts vs
      → AllZip (FitsType classes w.heap) ts vs
  here_values ts vs y = subst (λ (c : List Class). AllZip (FitsType c w.heap) ts vs) is.classes_are y

  here_reference : (ty : FieldType) (v : Value) → FitsReference env.classes w.heap ty v
      → FitsReference classes w.heap ty v
  here_reference ty v y = subst (λ (c : List Class). FitsReference c w.heap ty v) is.classes_are y

  told : (r : MemberRef) (t : IsMethodTyped r) (rule : MethodType → Rule)
      → option_map rule (told_type (read_method r.ty)) ≡ Some (rule t.ty)
  told r t rule = ap (λ (o : Option MethodType). option_map rule o) (ap told_type t.read)

  pub calls_static : (r : MemberRef) → CallsStatic classes r → (after : TypeFrame)
      → stepped env b.at (op.InvokeStatic r) f ≡ Ok after → Next after
      → FitsLocal classes w k env is.frames b (by_sort b (sort_of (op.InvokeStatic r)))
  unfolding rule_of
  calls_static r c after h l =
      asks_fit classes w k env is hierarchy b f x (arguments c.typed.ty) (returned c.typed.ty) _ after
      (static_reads env w.heap hierarchy r c.typed.ty c.typed.read c.typed.no_floats (CallStatic r) _
      (λ vs a. subst (λ (o : Option Target). FitsAnswer classes env w (returned c.typed.ty)
      (of_some (called_static w vs) o))
      (sym c.found)
      (static_fits classes sound w world env is.classes_are c.typed.ty c.typed.no_floats c.target c.runs vs
      (here_values c.typed.ty.args vs a))))
      (acted_of env b.at (op.InvokeStatic r) (static_call c.typed.ty) f after (told r c.typed static_call) h)
      l

  -- of a rule that uses a receiver
  uses : (r : MemberRef) (t : IsMethodTyped r) (class : FieldType) (guarded : Bool) (ask : List Value → Request)
      → ((v : Value) → FitsReference classes w.heap class v → (vs : List Value)
      → AllZip (FitsType classes w.heap) t.ty.args vs
      → FitsAnswer classes env w (returned t.ty) (answer (shape_of classes) k.class w (ask (v ∷ vs))))
      → (after : TypeFrame)
      → acted env b.at (Uses (arguments t.ty) (Assignable (vtype.Object class)) guarded (returned t.ty)) f ≡ Ok after
      → Next after
      → FitsLocal classes w k env is.frames b
      (by_sort b (Asks (taking (with_receiver (argument_kinds r.ty)) ask)))
  uses r t class guarded ask q after h l =
      asks_fit classes w k env is hierarchy b f x (arguments t.ty ++ Assignable (vtype.Object class) ∷ [])
      (returned t.ty) _ after
      (receiver_reads env w.heap hierarchy r t.ty t.read t.no_floats class ask _
      (λ v y vs a. q v (here_reference class v y) vs (here_values t.ty.args vs a)))
      (uses_takes env b.at (arguments t.ty) (Assignable (vtype.Object class)) guarded (returned t.ty) f after h)
      l

  pub calls_virtual : (r : MemberRef) → CallsSelected classes r → (after : TypeFrame)
      → stepped env b.at (op.InvokeVirtual r) f ≡ Ok after → Next after
      → FitsLocal classes w k env is.frames b (by_sort b (sort_of (op.InvokeVirtual r)))
  unfolding rule_of
  calls_virtual r c after h l = uses r c.typed r.class (is_guarded_method env r) (CallVirtual r)
      (λ v y vs a. selected_fits classes sound w world env is.classes_are r c v y vs a) after
      (acted_of env b.at (op.InvokeVirtual r) (object_call env r c.typed.ty) f after
      (told r c.typed (object_call env r)) h)
      l

  pub calls_interface : (r : MemberRef) → CallsSelected classes r → (after : TypeFrame)
      → stepped env b.at (op.InvokeInterface r) f ≡ Ok after → Next after
      → FitsLocal classes w k env is.frames b (by_sort b (sort_of (op.InvokeInterface r)))
  unfolding rule_of
  calls_interface r c after h l = uses r c.typed r.class (is_guarded_method env r) (CallInterface r)
      (λ v y vs a. selected_fits classes sound w world env is.classes_are r c v y vs a) after
      (acted_of env b.at (op.InvokeInterface r) (object_call env r c.typed.ty) f after
      (told r c.typed (object_call env r)) h)
      l

  -- invokespecial by its rule, where what it names is known
  special_acted : (r : MemberRef) (t : IsMethodTyped r) (init : Bool) → is_init r.name ≡ init → (after : TypeFrame)
      → stepped env b.at (op.InvokeSpecial r) f ≡ Ok after
      → acted env b.at (cond init (Initialises (arguments t.ty) r.class (is_guarded_method env r))
      (Uses (arguments t.ty) (Assignable (own_type env)) false (returned t.ty))) f ≡ Ok after
  unfolding rule_of
  special_acted r t init e after h = subst
      (λ (i : Bool). acted env b.at (cond i (Initialises (arguments t.ty) r.class (is_guarded_method env r))
      (Uses (arguments t.ty) (Assignable (own_type env)) false (returned t.ty))) f ≡ Ok after) e
      (acted_of env b.at (op.InvokeSpecial r) (special_call env r t.ty) f after (told r t (special_call env r)) h)

  pub calls_special : (r : MemberRef) → is_init r.name ≡ false → CallsSpecial classes k.class env.class.name r
      → (after : TypeFrame) → stepped env b.at (op.InvokeSpecial r) f ≡ Ok after → Next after
      → FitsLocal classes w k env is.frames b (by_sort b (sort_of (op.InvokeSpecial r)))
  calls_special r init c after h l = uses r c.typed (class_type env.class.name) false (CallSpecial r)
      (λ v y vs a. special_fits classes sound w world env is.classes_are c.typed.ty c.typed.no_floats k.class r
      (class_type env.class.name) c.target c.found c.runs v y vs a) after
      (special_acted r c.typed false init after h)
      l

  pub calls_init : (r : MemberRef) → is_init r.name ≡ true → CallsInit classes k.class r → (after : TypeFrame)
      → stepped env b.at (op.InvokeSpecial r) f ≡ Ok after → Next after
      → FitsLocal classes w k env is.frames b (by_sort b (sort_of (op.InvokeSpecial r)))
  calls_init r init c after h l =
      let m = bound (all_popped env.classes (arguments c.typed.ty) f)
      (λ g. object_initialised env r.class (is_guarded_method env r) g g.stack) after
      (special_acted r c.typed true init after h) in
      let t = arguments_taken env w.heap hierarchy c.typed.ty c.typed.no_floats f m.0 b.stack x.stack m.1 in
      let o = constructor_called env w.heap hierarchy super c.name c.no_string there (is_guarded_method env r) m.0 after
      m.0.stack
      (subst (λ (z : FieldType). object_initialised env z (is_guarded_method env r) m.0 m.0.stack ≡ Ok after) c.class
      m.2)
      b.locals (subst (λ (ts : List VType). FitsLocals env w.heap ts b.locals) (sym t.locals) x.locals) t.rest t.fits in
      subst (λ (z : Option (Request × List Value)). FitsLocal classes w k env is.frames b (after_ask z))
      (sym (below_reads env w.heap hierarchy r c.typed.ty c.typed.read (CallSpecial r) b.stack t.rest o.rest t.value
      (Ref o.number) t.reads (ap (top (as_kind kind.Ref)) o.stack))) (
        None,
        after,
        record { locals = o.fits_locals; stack = o.fits_stack },
        subst (λ (z : List Class). Leads z is.frames (b.at + 1) after) is.classes_are l,
        subst (λ (z : Option VType). FitsAnswer classes env w z
            (answer (shape_of classes) k.class w (CallSpecial r (Ref o.number ∷ t.value))))
            (ap (option_map vtype_of) c.void)
            (special_init classes sound w world env is.classes_are c.typed.ty c.typed.no_floats k.class r c.name
            c.target
            c.found c.runs o.number (here_reference (class_type c.name) (Ref o.number) o.receiver) t.value
            (here_values c.typed.ty.args t.value t.holds)),
      )
    where
      super : is_held env.classes (class_type env.class.name) (class_type env.class.super_name) ≡ true
      super = subst (λ (z : List Class). is_held z (class_type env.class.name) (class_type env.class.super_name) ≡ true)
          (sym is.classes_are) (sound.super k env is)

      there : is_there env.classes (class_type c.name) ≡ true
      there = subst (λ (z : List Class). is_there z (class_type c.name) ≡ true) (sym is.classes_are) c.there
