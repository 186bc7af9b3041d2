-- What a run begins with, by the text of an entry and the words behind it; and that no such run goes wrong.
use Rattle.std.proofs.Common.{◌≡◌, ◌≢◌, ℕ, suc, Bool, true, false, cond, List, [], ◌∷◌, Option, Some, None, Result, Ok}
use Rattle.std.proofs.Common.{refl, sym, ap, subst, ◌∙◌}
use Rattle.std.specs.Prelude.{IfSome, slice_get}
use Rattle.std.specs.List.{AllZip, find}
use Rattle.std.specs.Option.{option_and_then, option_map, option_or}
use Rattle.std.specs.Result.{result_ok}
use Rattle.std.proofs.lemmas.Bool.{and_parts}
use Rattle.std.proofs.lemmas.Option.{same_Some}
use Rattle.jv_base.specs.Descriptors.{read_method}
use Rattle.jv_base.specs.Names.{is_text}
use Rattle.jv_base.specs.Types.{IsMethodType, method_text}
use Rattle.jv_base.specs.declared.types.MethodType.{MethodType}
use Rattle.jv_base.proofs.Lists.{all_at}
use Rattle.jv_base.proofs.MethodLaw.{read_method-only}
use Rattle.jv_base.proofs.Results.{same_ok}
use Rattle.text_lines.specs.Cut.{after}
use Rattle.class_model.specs.Flags.{is_interface}
use Rattle.class_model.specs.WellFormed.{IsGoodMethod}
use Rattle.class_model.specs.declared.class.Class.{Class}
use Rattle.class_model.specs.declared.class.Method.{Method}
use Rattle.jvm_model.specs.Heap.{Object}
use Rattle.jvm_model.specs.Start.{is_plain, is_value_of}
use Rattle.jvm_model.specs.State.{HasReturned, HasThrown, Running, Status, WentWrong, status}
use Rattle.jvm_model.specs.Step.{run, start as started_at, stream}
use Rattle.set_view.specs.ViewOf.{is_startable, view_of}
use Rattle.class_run.specs.Ended.{end_of, ended_after}
use Rattle.class_run.specs.Started.{started}
use Rattle.class_run.specs.declared.ended.Arg.{Arg}
use Rattle.class_run.specs.declared.ended.End.TheVariants as end
use Rattle.image_laws.specs.TakenSet.TakenSet.{IsTaken}
use Rattle.type_verifier.specs.Verified.{AreTyped}
use Rattle.type_sound.specs.Laws.{MayBegin}
use Rattle.type_sound.proofs.Whole.{never_goes_wrong}
use Rattle.command_frame.specs.declared.refusal.Refusal.{Refusal}
use Rattle.run_command.specs.Arguments.{args_in}
use Rattle.run_command.specs.Due.{IsStart, or_no_entry, start_in}
use Rattle.run_command.specs.Entries.{class_entry, class_front, entry_in, entry_of, first_given, is_entry_of, key_of}
use Rattle.run_command.specs.Entries.{method_entry, method_spelled}
use Rattle.run_command.specs.declared.entries.Entry.{Entry}
use Rattle.run_command.specs.declared.entries.Start.{Start}
use Rattle.run_laws.proofs.Given.{args_right, heap_typed}

-- ---- searches

found_in : {X : Type 0} (test : X → Bool) (xs : List X) (x : X) → find test xs ≡ Some x
    → (k : ℕ) × (slice_get xs k ≡ Some x) × (test x ≡ true)
found_in test [] x e = absurd cc
found_in {X} test (y ∷ ys) x e = by (test y) refl e (found_in test ys x)
  where
    by : (b : Bool) → test y ≡ b → cond b (Some y) (find test ys) ≡ Some x
        → (find test ys ≡ Some x → (k : ℕ) × (slice_get ys k ≡ Some x) × (test x ≡ true))
        → (k : ℕ) × (slice_get (y ∷ ys) k ≡ Some x) × (test x ≡ true)
    by true h e later = (0, e, subst (λ (z : X). test z ≡ true) (same_Some y x e) h)
    by false h e later = let r = later e in (suc r.0, r.1, r.2)

first_in : {A B : Type 0} (given : A → Option B) (xs : List A) (y : B) → first_given given xs ≡ Some y
    → (k : ℕ) × (x : A) × (slice_get xs k ≡ Some x) × (given x ≡ Some y)
first_in given [] y e = absurd cc
first_in {A} {B} given (x ∷ xs) y e = by (given x) refl e (first_in given xs y)
  where
    by : (o : Option B) → given x ≡ o → option_or o (first_given given xs) ≡ Some y
        → (first_given given xs ≡ Some y → (k : ℕ) × (z : A) × (slice_get xs k ≡ Some z) × (given z ≡ Some y))
        → (k : ℕ) × (z : A) × (slice_get (x ∷ xs) k ≡ Some z) × (given z ≡ Some y)
    by (Some z) h e later = (0, x, refl, h ∙ e)
    by None h e later = let r = later e in (suc r.0, r.1, r.2, r.3)

-- ---- the entry

-- a method of a class of the set, with which a run may begin
pub record Entered (classes : List Class) (entry : Entry) : Type 0 where
  pub number : ℕ
  pub class : Class
  pub there : slice_get classes number ≡ Some class
  pub place : ℕ
  pub method : Method
  pub at : slice_get class.methods place ≡ Some method
  pub is : entry_of class method ≡ entry
  pub startable : is_startable classes entry.key ≡ true

entered : (classes : List Class) (text : List ℕ) (entry : Entry) → entry_in classes text ≡ Some entry
    → Entered classes entry
entered classes text entry e =
    let c = first_in (class_entry classes text) classes entry e in
    by_text c.0 c.1 c.2 (after (class_front c.1) text) c.3
  where
    of_method : (n : ℕ) (c : Class) → slice_get classes n ≡ Some c → (spelled : List ℕ) (o : Option Method)
        → find (is_entry_of classes c spelled) c.methods ≡ o → option_map (entry_of c) o ≡ Some entry
        → Entered classes entry
    of_method n c there spelled None f e = absurd cc
    of_method n c there spelled (Some m) f e =
        let found = found_in (is_entry_of classes c spelled) c.methods m f in
        let same = same_Some (entry_of c m) entry e in
        record {
          number = n;
          class = c;
          there = there;
          place = found.0;
          method = m;
          at = found.1;
          is = same;
          startable = subst (λ (x : Entry). is_startable classes x.key ≡ true) same
              (and_parts (is_text (method_spelled m) spelled) (is_startable classes (key_of c m)) found.2).1;
        }

    by_text : (n : ℕ) (c : Class) → slice_get classes n ≡ Some c → (o : Option (List ℕ))
        → option_and_then (method_entry classes c c.methods) o ≡ Some entry → Entered classes entry
    by_text n c there None e = absurd cc
    by_text n c there (Some spelled) e =
        of_method n c there spelled (find (is_entry_of classes c spelled) c.methods) refl e

-- ---- the arguments

-- an entry with the arguments that words are for it
pub record Begins (classes : List Class) (words : List (List ℕ)) (start : Start) : Type 0 where
  pub entered : Entered classes start.entry
  pub given : args_in start.entry.ty.args words ≡ Some start.args

begins_with : (classes : List Class) (text : List ℕ) (words : List (List ℕ)) (start : Start)
    → start_in classes text words ≡ Some start → Begins classes words start
begins_with classes text words start e = by (entry_in classes text) refl e
  where
    of_args : (entry : Entry) → entry_in classes text ≡ Some entry → (o : Option (List Arg))
        → args_in entry.ty.args words ≡ o
        → option_map (λ args. let s : Start = record { entry = entry; args = args } in s) o ≡ Some start
        → Begins classes words start
    of_args entry h None is e = absurd cc
    of_args entry h (Some args) is e =
        subst (Begins classes words) (same_Some (record { entry = entry; args = args }) start e)
        (record { entered = entered classes text entry h; given = is })

    by : (o : Option Entry) → entry_in classes text ≡ o
        → option_and_then (λ (entry : Entry). option_map
        (λ args. let s : Start = record { entry = entry; args = args } in s) (args_in entry.ty.args words)) o
        ≡ Some start
        → Begins classes words start
    by None h e = absurd cc
    by (Some entry) h e = of_args entry h (args_in entry.ty.args words) refl e

pub begins : (classes : List Class) (text : List ℕ) (words : List (List ℕ)) (start : Start)
    → IsStart classes text words (Ok start) → Begins classes words start
begins classes text words start e = by (start_in classes text words) refl e
  where
    by : (o : Option Start) → start_in classes text words ≡ o
        → (let R : Result Start Refusal = Ok start in R) ≡ or_no_entry text o → Begins classes words start
    by None is e = absurd cc
    by (Some s) is e =
        begins_with classes text words start (is ∙ ap (λ (x : Start). let o : Option Start = Some x in o)
        (sym (same_ok start s e)))

-- ---- what the machine begins with

module _ (classes : List Class) (taken : IsTaken classes) where
  -- its type is one, and its descriptor spells that
  pub entry_typed : (entry : Entry) → Entered classes entry → IsMethodType entry.ty
  entry_typed entry h =
      let good = all_at (IsGoodMethod (is_interface h.class.flags.0)) h.class.methods h.place h.method
      (taken.formed h.number h.class h.there).methods h.at in
      subst (λ (x : Entry). IsMethodType x.ty) h.is good.typed

  pub entry_spelled : (entry : Entry) → Entered classes entry → method_text entry.ty ≡ entry.key.descriptor
  entry_spelled entry h = subst (λ (x : Entry). method_text x.ty ≡ x.key.descriptor) h.is refl

  pub entry_read : (entry : Entry) → Entered classes entry
      → result_ok (read_method entry.key.descriptor) ≡ Some entry.ty
  entry_read entry h = ap result_ok (read_method-only entry.key.descriptor entry.ty
      (entry_typed entry h, entry_spelled entry h))

  pub may_begin : (words : List (List ℕ)) (start : Start) → Begins classes words start
      → MayBegin classes start.entry.key (started start.args).heap (started start.args).args
  may_begin words start b = record {
    startable = b.entered.startable;
    typed = heap_typed start.entry.ty.args words start.args stream b.given;
    right =
        subst (λ o. IfSome o (λ (ty : MethodType). AllZip (λ t v. (is_plain t ≡ true)
        × (is_value_of (stream ∷ (started start.args).heap) t v ≡ true)) ty.args (started start.args).args))
        (sym (entry_read start.entry b.entered)) (args_right start.entry.ty.args words start.args stream b.given);
  }

wrong_only : (heap : List Object) (s : Status) → end_of heap s ≡ end.Wrong → s ≡ WentWrong
wrong_only heap Running e = absurd cc
wrong_only heap (HasReturned value) e = absurd cc
wrong_only heap (HasThrown n) e = absurd cc
wrong_only heap WentWrong e = refl

-- it doesn't go wrong
pub never_wrong : (classes : List Class) → IsTaken classes → AreTyped classes → (words : List (List ℕ))
    (start : Start) → Begins classes words start → (n : ℕ)
    → (ended_after classes start.entry.key start.args n).how ≢ end.Wrong
never_wrong classes taken typed words start b n e =
    let heap = (started start.args).heap in
    let args = (started start.args).args in
    let s = run (view_of classes) (started_at (view_of classes) start.entry.key heap args) n in
    never_goes_wrong classes taken typed start.entry.key heap args (may_begin classes taken words start b) n
    (wrong_only s.world.heap (status s) e)
