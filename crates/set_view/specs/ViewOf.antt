-- A set of classes as a program for the machine. What names mean is said by the definitions of `class_pool` and
-- `link_check`, on the numbers of classes and members; the machine has their names (the project's own).
use Rattle.std.specs.Prelude.{ℕ, Bool, true, false, not, ◌&&◌, ◌||◌, List, [], ◌++◌, map, Option, Some, None, codes}
use Rattle.std.specs.Prelude.{slice_get}
use Rattle.std.specs.Prelude.{if◌then◌else◌, option_to_list}
use Rattle.std.specs.Option.{option_and_then, option_map, option_map_or}
use Rattle.jv_base.specs.Names.{is_text}
use Rattle.jv_base.specs.declared.types.Base.TheVariants as base
use Rattle.class_model.specs.declared.class.Class.{Class}
use Rattle.class_model.specs.declared.class.Constant.{Constant}
use Rattle.class_model.specs.declared.class.Constant.TheVariants as constant
use Rattle.class_model.specs.declared.class.Field.{Field}
use Rattle.class_model.specs.declared.class.Method.{Method}
use Rattle.class_model.specs.declared.code.Code.{Code}
use Rattle.class_model.specs.declared.op.MemberRef.{MemberRef}
use Rattle.class_pool.specs.Found.{declared_in, is_abstract_member, is_instance_method, is_method_at, is_private_member}
use Rattle.class_pool.specs.Found.{is_public_member, is_static_member, name_of, named_at}
use Rattle.class_pool.specs.Hierarchy.{class_named, superclass}
use Rattle.class_pool.specs.Resolution.{field_found, is_interface_in, method_found}
use Rattle.class_pool.specs.Selection.{selected, selected_special}
use Rattle.class_pool.specs.Supers.{is_below}
use Rattle.class_pool.specs.declared.id.ClassId.{ClassId}
use Rattle.class_pool.specs.declared.id.ClassId.TheVariants.{Prog, Lib}
use Rattle.class_pool.specs.declared.id.MemberAt.{MemberAt}
use Rattle.link_check.specs.Profile.{class_of, is_of_library}
use Rattle.jvm_model.specs.Exceptions.{AbstractMethod, IllegalAccess, IncompatibleChange}
use Rattle.jvm_model.specs.LibraryRows.{row_of}
use Rattle.jvm_model.specs.Program.{Fails, Library, Program, Shape, Target, View}
use Rattle.jvm_model.specs.Start.{are_plain_parameters}
use Rattle.jvm_model.specs.Types.{is_above_arrays}
use Rattle.jvm_model.specs.Value.{Int, Key, Lit, Long, Value}

-- what a call of a method runs: one of the program, or a row of the library
abbrev pub target_in : ClassId → Key → Option Target
target_in (Prog n) k = Some (Program k)
target_in (Lib id) k = option_map Library (row_of k)

-- the value of the attribute ConstantValue (JVMS 4.7.2)
abbrev pub value_of : Constant → Value
value_of (constant.Int n) = Int n
value_of (constant.Long n) = Long n
value_of (constant.Text units) = Lit units

module _ (classes : List Class) where
  -- ---- names of members and classes

  -- the class, the name and the descriptor of a member
  abbrev pub key_at : MemberAt → Key
  key_at m = record {
    class = name_of classes m.class;
    name = (named_at classes m).0;
    descriptor = (named_at classes m).1;
  }

  -- the member with a name
  abbrev pub member_of : Key → Option MemberAt
  member_of k = option_and_then (declared_in classes (k.name, k.descriptor)) (class_named classes k.class)

  -- what is told of the class of a name
  abbrev pub of_class : {A : Type 0} → (ClassId → A) → A → List ℕ → A
  of_class f otherwise name = option_map_or f (class_named classes name) otherwise

  -- ---- fields and methods of references

  -- the field that a reference means (JVMS 5.4.3.2)
  abbrev pub field_of : MemberRef → Option MemberAt
  field_of r = option_and_then (λ c. field_found classes c (r.name, r.ty)) (class_of classes r)

  -- the method that a class finds for a reference (JVMS 5.4.3.3, 5.4.3.4)
  abbrev pub method_of : MemberRef → ClassId → Option MemberAt
  method_of r c = method_found classes c (r.name, r.ty)

  -- what is said of the class that a reference names and of its method
  abbrev pub of_method : {A : Type 0} → (ClassId → MemberAt → Option A) → MemberRef → Option A
  of_method f r = option_and_then (λ c. option_and_then (f c) (method_of r c)) (class_of classes r)

  -- ---- what calls run

  -- a method runs, unless it is abstract (JVMS 6.5.invokespecial, 6.5.invokevirtual, AbstractMethodError)
  abbrev pub target_at : MemberAt → Option Target
  target_at m = if is_abstract_member classes m then Some (Fails AbstractMethod) else target_in m.class (key_at m)

  -- a method that was selected; where none is, an AbstractMethodError is due
  abbrev pub target_of : Option MemberAt → Option Target
  target_of None = Some (Fails AbstractMethod)
  target_of (Some m) = target_at m

  -- of invokestatic (JVMS 6.5.invokestatic)
  abbrev pub static_of : MemberRef → Option Target
  static_of r = of_method (λ c m. target_at m) r

  -- of invokespecial in a class (JVMS 6.5.invokespecial)
  abbrev pub special_of : MemberRef → ClassId → Option Target
  special_of r from = of_method (λ c m. target_of (selected_special classes from c m)) r

  -- a method that invokeinterface selects is public, else an IllegalAccessError is due (JVMS 6.5.invokeinterface)
  abbrev pub checked : (of_interface : Bool) → Option MemberAt → Option Target
  checked false m = target_of m
  checked true m = if option_map_or (is_public_member classes) m true then target_of m else Some (Fails IllegalAccess)

  -- an instance method that isn't private is selected by the receiver's class; of an interface no other one is
  -- (JVMS 6.5.invokevirtual, 6.5.invokeinterface; that such a one is an AbstractMethodError is the project's own)
  abbrev pub is_selected : MemberAt → Bool
  is_selected m = not (is_interface_in classes m.class)
      || (is_instance_method classes m && not (is_private_member classes m))

  -- The receiver's class is below the class that the reference names, and below the one that declares the method; else
  -- invokeinterface owes an IncompatibleClassChangeError, and to invokevirtual it is an operand of another kind
  -- (JVMS 6.5.invokeinterface; of invokevirtual the project's own).
  abbrev pub selected_from : MemberRef → ClassId → ClassId → MemberAt → Option Target
  selected_from r x c m =
      if is_below classes x c && is_below classes x m.class
      then (if is_selected m then checked r.of_interface (selected classes x m) else Some (Fails AbstractMethod))
      else if r.of_interface then Some (Fails IncompatibleChange)
      else None

  -- of invokevirtual and invokeinterface, on a receiver of a class; no object is of an interface (JVMS
  -- 6.5.invokevirtual, 6.5.invokeinterface)
  abbrev pub selected_of : MemberRef → ClassId → Option Target
  selected_of r x = if is_interface_in classes x then None else of_method (selected_from r x) r

  -- On an array the method that was found runs, where the reference names a class that arrays are of: it is one of
  -- Object (JLS 4.10.3, 10.7). Else the same is due as on other objects.
  abbrev pub array_from : MemberRef → ClassId → MemberAt → Option Target
  array_from r c m =
      if is_above_arrays (base.Class (name_of classes c)) then target_at m
      else if r.of_interface then Some (Fails IncompatibleChange)
      else None

  -- of invokevirtual and invokeinterface, on an array (JVMS 6.5.invokevirtual, 6.5.invokeinterface)
  abbrev pub array_target_of : MemberRef → Option Target
  array_target_of r = of_method (array_from r) r

  -- ---- what is told of a member

  -- by its number among the fields and methods of its class
  abbrev pub told_in : {A : Type 0} → (Field → Option A) → (Method → Option A) → ClassId → ℕ → Option A
  told_in g h (Lib id) index = None
  told_in g h (Prog n) index = option_and_then
      (λ (c : Class). option_and_then (λ x. x) (slice_get (map g c.fields ++ map h c.methods) index))
      (slice_get classes n)

  -- the same of a member
  abbrev pub told_at : {A : Type 0} → (Field → Option A) → (Method → Option A) → MemberAt → Option A
  told_at g h m = told_in g h m.class m.index

  -- the code of a method (JVMS 4.7.3)
  abbrev pub code_at : MemberAt → Option Code
  code_at m = told_at (λ f. None) (λ m. m.code) m

  -- what the attribute ConstantValue of a field holds (JVMS 4.7.2)
  abbrev pub constant_at : MemberAt → Option Constant
  constant_at m = told_at (λ f. f.constant) (λ m. None) m

  -- the superclass of a class that isn't an interface (JVMS 5.5, step 7)
  abbrev pub firsts_of : ClassId → List (List ℕ)
  firsts_of c = if is_interface_in classes c then [] else map (name_of classes) (option_to_list (superclass classes c))

  -- what names mean in the set
  abbrev pub shape_of : Shape
  shape_of = record {
    field = λ r. option_map key_at (field_of r);
    static_target = static_of;
    special_target = λ from r. of_class (special_of r) None from;
    selected_target = λ class r. of_class (selected_of r) None class;
    array_target = array_target_of;
    is_sub = λ a b. of_class (λ x. of_class (is_below classes x) false b) false a;
    is_library = of_class is_of_library false;
    firsts = of_class firsts_of [];
    clinit = λ class. option_map key_at (of_class (declared_in classes (codes "<clinit>", codes "()V")) None class);
    constant = λ k. option_map value_of (option_and_then constant_at (member_of k));
  }

  -- the set as a program
  abbrev pub view_of : View
  view_of = record { shape = shape_of; code = λ k. option_and_then code_at (member_of k) }

  -- ---- entries

  -- a static method of a class of the set
  abbrev pub is_static_method : MemberAt → Bool
  is_static_method m = is_method_at classes m && is_static_member classes m && not (is_of_library m.class)

  -- A run may begin with this method: a static one of the program, other than a class initialisation method, whose
  -- parameters are primitive, String, or arrays of these (the project's own: what an entry is).
  abbrev pub is_startable : Key → Bool
  is_startable k = option_map_or is_static_method (member_of k) false && not (is_text k.name (codes "<clinit>"))
      && are_plain_parameters k.descriptor
