-- The generated classes follow the rules of the format.
use Rattle.std.proofs.Common.{◌≡◌, ℕ, ◌<◌, ◌≤◌, true, false, List, [], ◌∷◌, ◌++◌, length, codes}
use Rattle.std.proofs.Common.{refl, sym, ap, ◌∙◌, subst, arith, inr}
use Rattle.std.specs.Prelude.{AllPairs, None, Some, pos, nat_eq, slice_index}
use Rattle.std.specs.List.{AllByRecursion, flat_map}
use Rattle.jv_base.specs.Descriptors.{read_method}
use Rattle.jv_base.specs.Names.{is_class_name, is_member_name, is_method_name, is_name_byte, is_primitive_or_void}
use Rattle.jv_base.specs.Types.{IsMethodType, argument_words, base_text, field_text, method_text, result_text}
use Rattle.jv_base.specs.Types.{words_of}
use Rattle.jv_base.specs.declared.types.MethodType.{MethodType}
use Rattle.jv_base.proofs.Lists.{no_pairs}
use Rattle.jv_base.proofs.MethodLaw.{read_method-only}
use Rattle.jv_base.proofs.Results.{same_ok}
use Rattle.class_model.specs.declared.op.Op.{Op}
use Rattle.class_model.specs.declared.op.Op.TheVariants as op
use Rattle.class_model.specs.declared.op.ArithOp.TheVariants as computed
use Rattle.class_model.specs.declared.op.Kind.TheVariants as kind
use Rattle.class_model.specs.declared.op.Num.TheVariants as num
use Rattle.class_model.specs.declared.code.Ins.{Ins}
use Rattle.class_model.specs.declared.class.Method.{Method}
use Rattle.class_model.specs.ConstantPool.{class_type}
use Rattle.class_model.specs.Members.{FieldsDiffer, MethodsDiffer}
use Rattle.class_model.specs.WellFormed.{Ascend, CountsFit, HasFewWords, IsClassName, IsClassOrArray}
use Rattle.class_model.specs.WellFormed.{IsGoodMethod, IsGoodOp, IsMethodReference, IsName, IsWellFormed, LinesGoOn}
use Rattle.class_laws.proofs.FormedPlaces.{pairs_more}
use Rattle.gen_classes.specs.Generated.{abstract_v, adding, begins, caller_of, calling, calls, calls_v, constructor, constructor_of, dead, f_of}
use Rattle.gen_classes.specs.Generated.{frame_behind, giving_back, int_to_int, interface_class, interface_name}
use Rattle.gen_classes.specs.Generated.{nothing_to_nothing, object_name, plain_of, v_of_interface}
use Rattle.gen_classes.specs.Generated.{without_lines}

-- ---- texts

object : IsClassName object_name
unfolding lib.Utf8.encode is_primitive_or_void is_name_byte is_member_name is_class_name
object = ((object_name, (refl, refl)), refl)

interface : IsClassName interface_name
unfolding lib.Utf8.encode is_primitive_or_void is_name_byte is_member_name is_class_name
interface = ((interface_name, (refl, refl)), refl)

init : IsName is_method_name (codes "<init>")
unfolding lib.Utf8.encode is_name_byte is_member_name is_method_name
init = ((codes "<init>", (refl, refl)), refl)

v : IsName is_method_name (codes "v")
unfolding lib.Utf8.encode is_name_byte is_member_name is_method_name
v = ((codes "v", (refl, refl)), refl)

f : IsName is_method_name (codes "f")
unfolding lib.Utf8.encode is_name_byte is_member_name is_method_name
f = ((codes "f", (refl, refl)), refl)

dead_text : IsName is_method_name (codes "dead")
unfolding lib.Utf8.encode is_name_byte is_member_name is_method_name
dead_text = ((codes "dead", (refl, refl)), refl)

int_is : IsMethodType int_to_int
unfolding words_of argument_words
int_is = record {
  arguments = (record { dimensions = omega arith; named = tt }, tt);
  words = omega arith;
  returned = record { dimensions = omega arith; named = tt };
}

nothing_is : IsMethodType nothing_to_nothing
unfolding argument_words
nothing_is = record { arguments = tt; words = omega arith; returned = tt }

int_text : codes "(I)I" ≡ method_text int_to_int
unfolding base_text field_text result_text method_text
int_text = refl

nothing_text : codes "()V" ≡ method_text nothing_to_nothing
unfolding base_text field_text result_text method_text
nothing_text = refl

-- (I)I is the descriptor of one type, whose arguments take one word
one_word : (ty : MethodType) → IsMethodType ty → codes "(I)I" ≡ method_text ty → argument_words ty.args ≤ 254
unfolding words_of argument_words
one_word ty is text =
    let same : int_to_int ≡ ty = same_ok int_to_int ty
    (sym (read_method-only (codes "(I)I") int_to_int (int_is, sym int_text))
    ∙ read_method-only (codes "(I)I") ty (is, sym text)) in
    subst (λ (t : MethodType). argument_words t.args ≤ 254) same (omega arith)

-- ---- references

class_is : (name : List ℕ) → IsClassName name → IsClassOrArray (class_type name)
class_is name is = (record { dimensions = omega arith; named = is.1 }, inr (name, refl))

constructor_is : (name : List ℕ) → IsClassName name → IsMethodReference (constructor_of name)
constructor_is name is =
    record { class = class_is name is; name = init; descriptor = (nothing_to_nothing, nothing_is, nothing_text) }

f_is : (name : List ℕ) → IsClassName name → IsMethodReference (f_of name)
f_is name is = record { class = class_is name is; name = f; descriptor = (int_to_int, int_is, int_text) }

v_is : IsMethodReference v_of_interface
v_is = record { class = class_is interface_name interface; name = v; descriptor = (int_to_int, int_is, int_text) }

-- ---- instructions

no_ins_pairs : AllPairs LinesGoOn []
no_ins_pairs i j d h k = absurd (omega (arith, k))

-- no instruction has a line
lines_go_on : (ops : List Op) → AllPairs LinesGoOn (without_lines ops)
lines_go_on [] = no_ins_pairs
lines_go_on (o ∷ ops) =
    pairs_more LinesGoOn (record { op = o; line = None }) (without_lines ops) (each ops) (lines_go_on ops)
  where
    each : (rest : List Op) → AllByRecursion (LinesGoOn (record { op = o; line = None })) (without_lines rest)
    each [] = tt
    each (p ∷ rest) = ((λ has. absurd cc), each rest)

module _ (P : Ins → Type 0) where
  -- what holds of both parts of instructions holds of them
  both_parts : (ops others : List Op) → AllByRecursion P (without_lines ops) → AllByRecursion P (without_lines others)
      → AllByRecursion P (without_lines (ops ++ others))
  both_parts [] others all more = more
  both_parts (o ∷ ops) others all more = (all.0, both_parts ops others all.1 more)

  calls_parts : (each : (name : List ℕ) → IsClassName name → AllByRecursion P (without_lines (calls name)))
      → (names : List (List ℕ)) → AllByRecursion IsClassName names
      → AllByRecursion P (without_lines (flat_map calls names))
  calls_parts each [] all = tt
  calls_parts each (name ∷ names) all =
      both_parts (calls name) (flat_map calls names) (each name all.0) (calls_parts each names all.1)

-- ---- methods

constructor_good : IsGoodMethod false constructor
unfolding is_name_byte is_member_name is_method_name words_of argument_words
constructor_good = record {
  meant = refl;
  flags = refl;
  not_native = refl;
  name = init;
  typed = nothing_is;
  room_for_this = refl;
  initial_flags = refl;
  initial_type = refl;
  body = refl;
  code = record {
    some = omega arith;
    instructions = (tt, (constructor_is object_name object, (tt, tt)));
    lines = lines_go_on
        (op.Load kind.Ref 0 ∷ op.InvokeSpecial (constructor_of object_name) ∷ op.Return None ∷ []);
    handlers = tt;
    frames = tt;
    ascending = λ i j d h k. absurd (omega (arith, k));
  };
  throws = tt;
}

adding_good : (i : ℕ) → IsGoodMethod false (adding i)
unfolding is_name_byte is_member_name is_method_name words_of argument_words
adding_good i = record {
  meant = refl;
  flags = refl;
  not_native = refl;
  name = v;
  typed = int_is;
  room_for_this = refl;
  initial_flags = refl;
  initial_type = refl;
  body = refl;
  code = record {
    some = omega arith;
    instructions = (tt, (tt, (tt, (tt, tt))));
    lines = lines_go_on
        (op.Load kind.Int 1 ∷ op.PushInt (pos i) ∷ op.Arith computed.Add num.Int ∷ op.Return (Some kind.Int) ∷ []);
    handlers = tt;
    frames = tt;
    ascending = λ i j d h k. absurd (omega (arith, k));
  };
  throws = tt;
}

giving_back_good : IsGoodMethod false giving_back
unfolding is_name_byte is_member_name is_method_name words_of argument_words
giving_back_good = record {
  meant = refl;
  flags = refl;
  not_native = refl;
  name = f;
  typed = int_is;
  room_for_this = refl;
  initial_flags = refl;
  initial_type = refl;
  body = refl;
  code = record {
    some = omega arith;
    instructions = (tt, (tt, tt));
    lines = lines_go_on
        (op.Load kind.Int 0 ∷ op.Return (Some kind.Int) ∷ []);
    handlers = tt;
    frames = tt;
    ascending = λ i j d h k. absurd (omega (arith, k));
  };
  throws = tt;
}

dead_good : IsGoodMethod false dead
unfolding is_name_byte is_member_name is_method_name words_of argument_words
dead_good = record {
  meant = refl;
  flags = refl;
  not_native = refl;
  name = dead_text;
  typed = nothing_is;
  room_for_this = refl;
  initial_flags = refl;
  initial_type = refl;
  body = refl;
  code = record {
    some = omega arith;
    instructions = (tt, tt);
    lines = lines_go_on
        (op.Return None ∷ []);
    handlers = tt;
    frames = tt;
    ascending = λ i j d h k. absurd (omega (arith, k));
  };
  throws = tt;
}

abstract_good : IsGoodMethod true abstract_v
unfolding is_name_byte is_member_name is_method_name words_of argument_words
abstract_good = record {
  meant = refl;
  flags = refl;
  not_native = refl;
  name = v;
  typed = int_is;
  room_for_this = refl;
  initial_flags = refl;
  initial_type = refl;
  body = refl;
  code = tt;
  throws = tt;
}

module _ (own : List ℕ) (is : IsClassName own) (others : List (List ℕ)) (are : AllByRecursion IsClassName others) where
  -- all behind the branch
  abbrev rest : List Op
  rest = flat_map calls others ++ op.Return (Some kind.Int) ∷ []

  abbrev count : ℕ
  count = length (without_lines (begins ++ (calls_v own ++ rest)))

  far : 4 < count
  far = omega arith

  instructions : AllByRecursion (λ (i : Ins). IsGoodOp count i.op) (without_lines (begins ++ (calls_v own ++ rest)))
  instructions = (
    tt,
    (
      far,
      (
        tt,
        (
          tt,
          (
            tt,
            (
              tt,
              (
                is,
                (
                  tt,
                  (
                    constructor_is own is,
                    (
                      tt,
                      (
                        (v_is, refl),
                        both_parts (λ (i : Ins). IsGoodOp count i.op) (flat_map calls others) (op.Return (Some kind.Int) ∷ [])
                            (calls_parts (λ (i : Ins). IsGoodOp count i.op) (λ name named. (tt, (f_is name named, (tt, tt)))) others are)
                            (tt, tt),
                      ),
                    ),
                  ),
                ),
              ),
            ),
          ),
        ),
      ),
    ),
  )

  calling_good : IsGoodMethod false (calling own others)
  unfolding is_name_byte is_member_name is_method_name words_of argument_words
  calling_good = record {
    meant = refl;
    flags = refl;
    not_native = refl;
    name = f;
    typed = int_is;
    room_for_this = refl;
    initial_flags = refl;
    initial_type = refl;
    body = refl;
    code = record {
      some = omega arith;
      instructions = instructions;
      lines = lines_go_on
          (begins ++ (calls_v own ++ rest));
      handlers = tt;
      frames = (
        record {
          index = far;
          locals = (tt, tt);
          cut = refl;
          locals_fit = omega arith;
          stack = tt;
          stack_fits = omega arith;
        },
        tt,
      );
      ascending = no_pairs Ascend frame_behind;
    };
    throws = tt;
  }

  words_fit : AllByRecursion (λ (i : Ins). HasFewWords i.op) (without_lines (begins ++ (calls_v own ++ rest)))
  words_fit = (
    tt,
    (
      tt,
      (
        tt,
        (
          tt,
          (
            tt,
            (
              tt,
              (
                tt,
                (
                  tt,
                  (
                    tt,
                    (
                      tt,
                      (
                        one_word,
                        both_parts (λ (i : Ins). HasFewWords i.op) (flat_map calls others) (op.Return (Some kind.Int) ∷ [])
                            (calls_parts (λ (i : Ins). HasFewWords i.op) (λ name named. (tt, (tt, (tt, tt)))) others are)
                            (tt, tt),
                      ),
                    ),
                  ),
                ),
              ),
            ),
          ),
        ),
      ),
    ),
  )

-- ---- classes

no_fields : AllPairs FieldsDiffer []
no_fields i j d h k = absurd (omega (arith, k))

-- texts that begin with other bytes
apart : (byte : ℕ) (one other : List ℕ) → nat_eq (slice_index one 0) byte ≡ true
    → nat_eq (slice_index other 0) byte ≡ false → one ≡ other → ⊥
apart byte one other is lacks same =
    absurd (let w : true ≡ false = sym is ∙ (ap (λ (t : List ℕ). nat_eq (slice_index t 0) byte) same ∙ lacks) in cc)

differ : (byte : ℕ) (one other : Method) → nat_eq (slice_index one.name 0) byte ≡ true
    → nat_eq (slice_index other.name 0) byte ≡ false → MethodsDiffer one other
differ byte one other is lacks both = apart byte one.name other.name is lacks both.0

module _ (name : List ℕ) (is : IsClassName name) where
  pub caller_formed : (i : ℕ) (others : List (List ℕ)) → AllByRecursion IsClassName others
      → IsWellFormed (caller_of name i others)
  caller_formed i others are = record {
    nothing_left_out = refl;
    meant = refl;
    flags = refl;
    no_annotation_or_enum = refl;
    name = is;
    super_name = object;
    interfaces = (interface, tt);
    fields = tt;
    fields_differ = no_fields;
    methods = (constructor_good, (adding_good i, (calling_good name is others are, (dead_good, tt))));
    methods_differ =
        pairs_more MethodsDiffer constructor (adding i ∷ calling name others ∷ dead ∷ []) (
          differ 60 constructor (adding i) refl refl,
          (differ 60 constructor (calling name others) refl refl, (differ 60 constructor dead refl refl, tt)),
        )
        (pairs_more MethodsDiffer (adding i) (calling name others ∷ dead ∷ [])
        (differ 118 (adding i) (calling name others) refl refl, (differ 118 (adding i) dead refl refl, tt))
        (pairs_more MethodsDiffer (calling name others) (dead ∷ [])
        (differ 102 (calling name others) dead refl refl, tt) (no_pairs MethodsDiffer dead)));
    source = tt;
  }

  pub caller_counts : (i : ℕ) (others : List (List ℕ)) → AllByRecursion IsClassName others
      → CountsFit (caller_of name i others)
  caller_counts i others are =
      ((tt, (tt, (tt, tt))), ((tt, (tt, (tt, (tt, tt)))), (words_fit name is others are, ((tt, tt), tt))))

  pub plain_formed : IsWellFormed (plain_of name)
  plain_formed = record {
    nothing_left_out = refl;
    meant = refl;
    flags = refl;
    no_annotation_or_enum = refl;
    name = is;
    super_name = object;
    interfaces = tt;
    fields = tt;
    fields_differ = no_fields;
    methods = (constructor_good, (giving_back_good, tt));
    methods_differ =
        pairs_more MethodsDiffer constructor (giving_back ∷ []) (differ 60 constructor giving_back refl refl, tt)
        (no_pairs MethodsDiffer giving_back);
    source = tt;
  }

  pub plain_counts : CountsFit (plain_of name)
  plain_counts = ((tt, (tt, (tt, tt))), ((tt, (tt, tt)), tt))

pub interface_formed : IsWellFormed interface_class
interface_formed = record {
  nothing_left_out = refl;
  meant = refl;
  flags = refl;
  no_annotation_or_enum = refl;
  name = interface;
  super_name = object;
  interfaces = tt;
  fields = tt;
  fields_differ = no_fields;
  methods = (abstract_good, tt);
  methods_differ = no_pairs MethodsDiffer abstract_v;
  source = tt;
}

pub interface_counts : CountsFit interface_class
interface_counts = (tt, tt)
