-- What a rule makes of a frame, or the first thing that is wrong (JVMS 4.10.1.7, 4.10.1.8, 4.10.1.9). The order in
-- which faults are told is the project's own: Depth, Local, Operand, Protected, Uninit.
use Rattle.std.specs.Prelude.{ℕ, ◌+◌, ◌-◌, Bool, true, false, not, ◌&&◌, ◌==◌, nat_le, nat_lt, List, [], ◌∷◌, ◌++◌}
use Rattle.std.specs.Prelude.{length}
use Rattle.std.specs.Prelude.{map, slice_get, slice_set, Option, Some, None, Result, Ok, Err, if◌then◌else◌}
use Rattle.std.specs.List.{list_any, sum_by}
use Rattle.std.specs.Option.{option_map, option_map_or, option_and_then}
use Rattle.jv_base.specs.Outcome.{◌>>=◌}
use Rattle.jv_base.specs.declared.types.FieldType.{FieldType}
use Rattle.class_model.specs.Frames.{vtype_of, words_of_type, words_of_types}
use Rattle.class_model.specs.declared.class.Class.{Class}
use Rattle.class_model.specs.declared.code.Code.{Code}
use Rattle.class_model.specs.declared.code.Ins.{Ins}
use Rattle.class_model.specs.declared.frame.VType.{VType}
use Rattle.class_model.specs.declared.frame.VType.TheVariants as vtype
use Rattle.class_model.specs.declared.op.Kind.{Kind}
use Rattle.class_model.specs.declared.op.Kind.TheVariants as kind
use Rattle.class_model.specs.declared.op.Op.{Op}
use Rattle.class_model.specs.declared.op.Op.TheVariants as op
use Rattle.type_verifier.specs.declared.fault.TypeKind.{TypeKind}
use Rattle.type_verifier.specs.declared.fault.TypeKind.TheVariants.{Depth, Local, Operand, Protected, Uninit}
use Rattle.type_verifier.specs.declared.frame.TypeFrame.{TypeFrame}
use Rattle.type_verifier.specs.Assignable.{is_assignable}
use Rattle.type_verifier.specs.Environment.{Environment, in_constructor, own_type}
use Rattle.type_verifier.specs.Members.{is_class_type, is_own_or_super}
use Rattle.type_verifier.specs.Rules.{Wanted, Assignable, meets, moved}
use Rattle.type_verifier.specs.Rules.{array_wanted, class_of, element_type, rule_of}
use Rattle.type_verifier.specs.Rules.{Rule, Takes, Loads, Stores, Counts, Drops, Doubles, Swaps, ReadsReference, Makes}
use Rattle.type_verifier.specs.Rules.{Returns, Uses, Initialises}
use Rattle.class_model.specs.declared.op.Elem.TheVariants as elem

-- a frame, or what is wrong (the project's own: of several things the first is told)
abbrev pub Checked : Type 0
Checked = Result TypeFrame TypeKind

-- ---- words (JVMS 4.10.1.4, sizeOf, operandStackHasLegalLength)

-- how many words a wanted value takes (JVMS 4.10.1.4, sizeOf)
abbrev pub words_wanted : Wanted → ℕ
words_wanted (Assignable ty) = words_of_type ty
words_wanted _ = 1

-- how many words wanted values take (JVMS 4.10.1.4, sizeOf)
abbrev pub all_words_wanted : List Wanted → ℕ
all_words_wanted wanted = sum_by words_wanted wanted

-- how many words arguments of these types take (JVMS 4.3.3)
abbrev pub words_of_arguments : List FieldType → ℕ
words_of_arguments types = sum_by (λ ty. words_of_type (vtype_of ty)) types

-- how many words what is given takes, if anything is (JVMS 4.10.1.4, sizeOf)
abbrev pub words_given : Option VType → ℕ
words_given given = option_map_or words_of_type given 0

-- how many words an instruction of this kind moves (JVMS 4.10.1.4, sizeOf)
abbrev pub words_of_kind : Kind → ℕ
words_of_kind kind.Long = 2
words_of_kind _ = 1

-- how many words of the stack a rule takes (JVMS 4.10.1.4, sizeOf, canPop)
abbrev pub taken_words : Rule → ℕ
taken_words (Takes wanted given) = all_words_wanted wanted
taken_words (Loads k slot) = 0
taken_words (Stores k slot) = words_of_kind k
taken_words (Counts slot) = 0
taken_words (Drops n) = n
taken_words (Doubles copied under) = copied + under
taken_words Swaps = 2
taken_words ReadsReference = 2
taken_words Makes = 0
taken_words (Returns k) = option_map_or words_of_kind k 0
taken_words (Uses wanted receiver guarded given) = all_words_wanted wanted + 1
taken_words (Initialises wanted class guarded) = all_words_wanted wanted + 1

-- how many words it puts onto the stack (JVMS 4.10.1.4, sizeOf, pushOperandStack)
abbrev pub given_words : Rule → ℕ
given_words (Takes wanted given) = words_given given
given_words (Loads k slot) = words_of_kind k
given_words (Doubles copied under) = copied + under + copied
given_words Swaps = 2
given_words ReadsReference = 1
given_words Makes = 1
given_words (Uses wanted receiver guarded given) = words_given given
given_words _ = 0

-- as many words are there as are taken, and with those that are given no more than max_stack
-- (JVMS 4.10.1.4, operandStackHasLegalLength, canPop)
abbrev pub has_depth : ℕ → ℕ → ℕ → List VType → Bool
has_depth max_stack taken given stack = nat_le taken (words_of_types stack)
    && nat_le (words_of_types stack - taken + given) max_stack

-- the same of a frame, and the locals are no more than max_locals (JVMS 4.10.1.4, 4.10.1.6)
abbrev pub has_room : ℕ → ℕ → ℕ → ℕ → TypeFrame → Result (Unit {0}) TypeKind
has_room max_stack max_locals taken given f =
    if not (has_depth max_stack taken given f.stack) then Err Depth
    else if nat_lt max_locals (length f.locals) then Err Local
    else Ok tt

-- ---- the stack

-- a frame with another stack (JVMS 4.10.1.4)
abbrev pub with_stack : TypeFrame → List VType → TypeFrame
with_stack f stack = record { locals = f.locals; stack = stack; marked = f.marked }

-- a value onto the stack (JVMS 4.10.1.4, pushOperandStack)
abbrev pub pushed : VType → TypeFrame → TypeFrame
pushed ty f = with_stack f (ty ∷ f.stack)

-- what is given onto the stack, if anything is (JVMS 4.10.1.4, pushOperandStack)
abbrev pub gives : Option VType → TypeFrame → TypeFrame
gives None f = f
gives (Some ty) f = pushed ty f

module _ (classes : List Class) where
  -- the value at the top of the stack, where it is what is wanted, is taken (JVMS 4.10.1.4, popMatchingType)
  abbrev pub popped_from : Wanted → TypeFrame → List VType → Checked
  popped_from wanted f [] = Err Operand
  popped_from wanted f (ty ∷ stack) = if meets classes wanted ty then Ok (with_stack f stack) else Err Operand

  -- the same of a frame (JVMS 4.10.1.4, popMatchingType)
  abbrev pub popped : Wanted → TypeFrame → Checked
  popped wanted f = popped_from wanted f f.stack

  -- several values, the top first (JVMS 4.10.1.4, popMatchingList, canPop)
  abbrev pub all_popped : List Wanted → TypeFrame → Checked
  all_popped [] f = Ok f
  all_popped (wanted ∷ others) f = popped wanted f >>= all_popped others

  -- ---- locals (JVMS 4.10.1.7)

  -- what a local holds, where it is what is wanted, onto the stack (JVMS 4.10.1.7, loadIsTypeSafe)
  abbrev pub loaded_from : Wanted → TypeFrame → Option VType → Checked
  loaded_from wanted f None = Err Local
  loaded_from wanted f (Some ty) = if meets classes wanted ty then Ok (pushed ty f) else Err Local

  -- the same of the local with this number (JVMS 4.10.1.7, loadIsTypeSafe)
  abbrev pub loaded : Kind → ℕ → TypeFrame → Checked
  loaded k slot f = loaded_from (moved k) f (slice_get f.locals slot)

-- a long in the local before loses its second word (JVMS 4.10.1.7, modifyPreIndexVariable)
abbrev pub cut_before : ℕ → List VType → List VType
cut_before slot locals =
    if not (slot == 0) && option_map_or (λ ty. words_of_type ty == 2) (slice_get locals (slot - 1)) false
    then slice_set locals (slot - 1) vtype.Top else locals

-- behind a long stands Top (JVMS 4.10.1.7, modifyLocalVariable)
abbrev pub top_behind : ℕ → VType → List VType → List VType
top_behind slot ty locals = if words_of_type ty == 2 then slice_set locals (slot + 1) vtype.Top else locals

-- a value in a local (JVMS 4.10.1.7, modifyLocalVariable)
abbrev pub put_local : ℕ → VType → List VType → List VType
put_local slot ty locals = top_behind slot ty (slice_set (cut_before slot locals) slot ty)

module _ (classes : List Class) where
  -- the value at the top into a local (JVMS 4.10.1.7, storeIsTypeSafe)
  abbrev pub stored_from : Wanted → ℕ → TypeFrame → List VType → Checked
  stored_from wanted slot f [] = Err Operand
  stored_from wanted slot f (ty ∷ stack) =
      if meets classes wanted ty
      then Ok (record { locals = put_local slot ty f.locals; stack = stack; marked = f.marked })
      else Err Operand

  -- the words of the value are locals (JVMS 4.10.1.7, storeIsTypeSafe)
  abbrev pub stored : Kind → ℕ → TypeFrame → Checked
  stored k slot f = if nat_le (slot + words_of_kind k) (length f.locals)
      then stored_from (moved k) slot f f.stack else Err Local

  -- an int is there (JVMS 4.10.1.9.iinc)
  abbrev pub counted_from : TypeFrame → Option VType → Checked
  counted_from f None = Err Local
  counted_from f (Some ty) = if meets classes (Assignable vtype.Int) ty then Ok f else Err Local

  -- the same of the local with this number (JVMS 4.10.1.9.iinc)
  abbrev pub counted : ℕ → TypeFrame → Checked
  counted slot f = counted_from f (slice_get f.locals slot)

-- ---- words at the top of the stack (JVMS 4.10.1.4, popCategory1, popCategory2)

-- a value of one word that is told: any but a Top (JVMS 4.10.1.4, popCategory1)
abbrev pub is_category_1 : VType → Bool
is_category_1 vtype.Top = false
is_category_1 ty = words_of_type ty == 1

-- the values at the top, the upper first, and what is below them (JVMS 4.10.1.4, popCategory1, popCategory2)
abbrev pub Split : Type 0
Split = List VType × List VType

-- one word: a value of category 1 (JVMS 4.10.1.9.pop)
abbrev pub one_word : List VType → Option Split
one_word [] = None
one_word (ty ∷ stack) = if is_category_1 ty then Some (ty ∷ [], stack) else None

-- a second value of category 1 (JVMS 4.10.1.9.pop2)
abbrev pub second_word : VType → List VType → Option Split
second_word upper [] = None
second_word upper (ty ∷ stack) = if is_category_1 ty then Some (upper ∷ ty ∷ [], stack) else None

-- two words: a value of category 2, or two of category 1 (JVMS 4.10.1.9.pop2)
abbrev pub two_words : List VType → Option Split
two_words [] = None
two_words (ty ∷ stack) =
    if words_of_type ty == 2 then Some (ty ∷ [], stack)
    else if is_category_1 ty then second_word ty stack
    else None

-- so many words, two at most, that cut no value (JVMS 4.10.1.4, popCategory1, popCategory2)
abbrev pub split_words : ℕ → List VType → Option Split
split_words n stack = if n == 0 then Some ([], stack) else if n == 1 then one_word stack else two_words stack

-- a frame with the stack that is left; where words cut a value, the operand is wrong
-- (the project's own: which fault is told)
abbrev pub or_operand : TypeFrame → Option (List VType) → Checked
or_operand f None = Err Operand
or_operand f (Some stack) = Ok (with_stack f stack)

-- the stack without so many words (JVMS 4.10.1.9.pop, 4.10.1.9.pop2)
abbrev pub dropped : ℕ → List VType → Option (List VType)
dropped n stack = option_map (λ top. top.1) (split_words n stack)

-- these values below so many words (JVMS 4.10.1.9.dup_x1)
abbrev pub put_below : List VType → ℕ → List VType → Option (List VType)
put_below values under stack = option_map (λ next. next.0 ++ (values ++ next.1)) (split_words under stack)

-- so many words, and a copy of them below so many others (JVMS 4.10.1.9.dup to 4.10.1.9.dup2_x2)
abbrev pub doubled : ℕ → ℕ → List VType → Option (List VType)
doubled copied under stack = option_and_then (λ top. option_map
    (λ below. top.0 ++ below) (put_below top.0 under top.1)) (split_words copied stack)

-- the stack with its two words exchanged (JVMS 4.10.1.9.swap)
abbrev pub swapped : List VType → Option (List VType)
swapped stack = option_and_then (λ top. put_below top.0 1 top.1) (split_words 1 stack)

-- ---- arrays

-- an element of an array of references; of null it is null (JVMS 4.10.1.9.aaload, arrayComponentType)
abbrev pub element : VType → VType
element (vtype.Object ty) = vtype.Object (element_type ty)
element _ = vtype.Null

module _ (classes : List Class) where
  -- the array of which an element is read (JVMS 4.10.1.9.aaload)
  abbrev pub read_from : TypeFrame → List VType → Checked
  read_from f [] = Err Operand
  read_from f (ty ∷ stack) =
      if meets classes (array_wanted elem.Ref) ty then Ok (with_stack f (element ty ∷ stack)) else Err Operand

  -- an index and the array (JVMS 4.10.1.9.aaload)
  abbrev pub reference_read : TypeFrame → Checked
  reference_read f = popped classes (Assignable vtype.Int) f >>= λ g. read_from g g.stack

-- ---- objects that no constructor was called on

-- the same type of an object that isn't initialised (JVMS 4.10.1.2, uninitializedThis, uninitialized)
abbrev pub is_copy : VType → VType → Bool
is_copy vtype.UninitThis vtype.UninitThis = true
is_copy (vtype.Uninit m) (vtype.Uninit n) = m == n
is_copy _ _ = false

-- a type in place of each copy of one that isn't initialised (JVMS 4.10.1.9.invokespecial, substitute)
abbrev pub substituted : VType → VType → List VType → List VType
substituted old new types = map (λ ty. if is_copy old ty then new else ty) types

-- the stack has nothing that the same instruction made before; a local with such a thing is lost
-- (JVMS 4.10.1.9.new)
abbrev pub object_made : ℕ → TypeFrame → Checked
object_made at f =
    if list_any (is_copy (vtype.Uninit at)) f.stack then Err Uninit
    else Ok (record {
      locals = substituted (vtype.Uninit at) vtype.Top f.locals;
      stack = vtype.Uninit at ∷ f.stack;
      marked = f.marked;
    })

-- the instruction that returns a value of this type (JVMS 4.10.1.9.ireturn, 4.10.1.9.areturn)
abbrev pub is_returned_by : Kind → VType → Bool
is_returned_by kind.Int vtype.Int = true
is_returned_by kind.Long vtype.Long = true
is_returned_by kind.Ref (vtype.Object ty) = true
is_returned_by _ _ = false

-- the class that a new names (JVMS 4.10.1.9.invokespecial, rewrittenUninitializedType)
abbrev pub made_class : Op → Option (List ℕ)
made_class (op.New name) = Some name
made_class _ = None

-- the class of what the instruction of this number makes (JVMS 4.10.1.9.invokespecial, rewrittenUninitializedType)
abbrev pub class_made_at : Code → ℕ → Option (List ℕ)
class_made_at code at = option_and_then (λ (i : Ins). made_class i.op) (slice_get code.ins at)

module _ (env : Environment) where
  -- a constructor was called on each copy of the object (JVMS 4.10.1.9.invokespecial, substitute)
  abbrev pub initialised : VType → VType → Bool → TypeFrame → List VType → TypeFrame
  initialised old new marked f stack = record {
    locals = substituted old new f.locals;
    stack = substituted old new stack;
    marked = marked;
  }

  -- a constructor of the own class or of its direct superclass, on `this`; with it the flag ends
  -- (JVMS 4.10.1.9.invokespecial, rewrittenUninitializedType, rewrittenInitializationFlags)
  abbrev pub this_initialised : FieldType → TypeFrame → List VType → Checked
  this_initialised class f stack =
      if is_own_or_super env class then Ok (initialised vtype.UninitThis (own_type env) false f stack) else Err Uninit

  -- a constructor of the class that the new of this number names; a guarded one only of the own class or one below it
  -- (JVMS 4.10.1.9.invokespecial, passesProtectedCheck)
  abbrev pub new_initialised : ℕ → FieldType → Bool → Option (List ℕ) → TypeFrame → List VType → Checked
  new_initialised at class guarded None f stack = Err Uninit
  new_initialised at class guarded (Some name) f stack =
      if guarded && not (is_assignable env.classes (class_of name) (own_type env)) then Err Protected
      else if is_class_type name class
      then Ok (initialised (vtype.Uninit at) (class_of name) f.marked f stack)
      else Err Uninit

  -- `this` or what a new made is the one kind of object that a constructor is called on
  -- (JVMS 4.10.1.9.invokespecial)
  abbrev pub object_initialised : FieldType → Bool → TypeFrame → List VType → Checked
  object_initialised class guarded f (vtype.UninitThis ∷ stack) = this_initialised class f stack
  object_initialised class guarded f (vtype.Uninit at ∷ stack) =
      new_initialised at class guarded (class_made_at env.code at) f stack
  object_initialised class guarded f _ = Err Operand

  -- ---- members

  -- an object whose guarded member is used is of the own class or of one below it (JVMS 4.10.1.8, passesProtectedCheck)
  abbrev pub guarded_use : Bool → VType → Result (Unit {0}) TypeKind
  guarded_use guarded ty =
      if guarded && not (is_assignable env.classes ty (own_type env)) then Err Protected else Ok tt

  -- the object at the top whose member is used is taken (JVMS 4.10.1.8, 4.10.1.9.getfield, 4.10.1.9.invokevirtual)
  abbrev pub used_from : Wanted → Bool → TypeFrame → List VType → Checked
  used_from receiver guarded f [] = Err Operand
  used_from receiver guarded f (ty ∷ stack) =
      if meets env.classes receiver ty then guarded_use guarded ty >>= (λ _. Ok (with_stack f stack)) else Err Operand

  -- ---- returning

  -- a value of the method's result, or none where it has none (JVMS 4.10.1.9.ireturn, 4.10.1.9.return)
  abbrev pub result_taken : Option Kind → Option FieldType → TypeFrame → Checked
  result_taken None None f = Ok f
  result_taken (Some k) (Some ty) f =
      if is_returned_by k (vtype_of ty) then popped env.classes (Assignable (vtype_of ty)) f else Err Operand
  result_taken _ _ f = Err Operand

  -- a constructor returns once its object is initialised (JVMS 4.10.1.9.return; that only a constructor is asked is the
  -- project's own: the standard's rule asks it of every method, HotSpot does not)
  abbrev pub constructor_returned : TypeFrame → Checked
  constructor_returned f = if in_constructor env && f.marked then Err Uninit else Ok f

  -- ---- rules

  -- what a rule makes of a frame whose stack has room (JVMS 4.10.1.9)
  abbrev pub acted : ℕ → Rule → TypeFrame → Checked
  acted at (Takes wanted given) f = all_popped env.classes wanted f >>= λ g. Ok (gives given g)
  acted at (Loads k slot) f = loaded env.classes k slot f
  acted at (Stores k slot) f = stored env.classes k slot f
  acted at (Counts slot) f = counted env.classes slot f
  acted at (Drops n) f = or_operand f (dropped n f.stack)
  acted at (Doubles copied under) f = or_operand f (doubled copied under f.stack)
  acted at Swaps f = or_operand f (swapped f.stack)
  acted at ReadsReference f = reference_read env.classes f
  acted at Makes f = object_made at f
  acted at (Returns k) f = result_taken k env.method.ty.ret f >>= constructor_returned
  acted at (Uses wanted receiver guarded given) f =
      all_popped env.classes wanted f >>= λ g. used_from receiver guarded g g.stack >>= λ h. Ok (gives given h)
  acted at (Initialises wanted class guarded) f =
      all_popped env.classes wanted f >>= λ g. object_initialised class guarded g g.stack

  -- what a rule makes of a frame: its words first, then that the locals are no more than max_locals
  -- (JVMS 4.10.1.4, 4.10.1.9; that they come first is the project's own)
  abbrev pub ruled : ℕ → Rule → TypeFrame → Checked
  ruled at rule f = has_room env.code.max_stack env.code.max_locals (taken_words rule) (given_words rule) f
      >>= λ _. acted at rule f

  -- the same where there is a rule: one is missing only where a reference has no descriptor, which is refused before
  -- (the project's own)
  abbrev pub if_ruled : ℕ → Option Rule → TypeFrame → Checked
  if_ruled at None f = Err Operand
  if_ruled at (Some rule) f = ruled at rule f

  -- what an instruction makes of a frame (JVMS 4.10.1.9, instructionIsTypeSafe)
  abbrev pub stepped : ℕ → Op → TypeFrame → Checked
  stepped at op f = if_ruled at (rule_of env op) f
