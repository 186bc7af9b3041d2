-- The class with a field and a method is well formed.
use Rattle.std.proofs.Common.{ℕ, ◌<◌, List, refl, arith, zero, suc}
use Rattle.std.specs.Prelude.{codes, IsUtf8, AllPairs, false, IsSome, slice_index_or}
use Rattle.jv_base.specs.Names.{is_primitive_or_void, is_name_byte, is_member_name, is_method_name, is_class_name}
use Rattle.jv_base.specs.Types.{words_of, argument_words}
use Rattle.jv_base.proofs.Lists.{no_pairs}
use Rattle.class_model.specs.declared.code.Ins.{Ins}
use Rattle.class_model.specs.Members.{FieldsDiffer, MethodsDiffer}
use Rattle.class_model.specs.WellFormed.{IsGoodField, IsGoodMethod, IsGoodCode, LinesGoOn, Ascend}
use Rattle.class_model.specs.rows.Rows.{field_of_t, method_of_t, code_of_t, frame_of_t, TIsWellFormed}

abbrev object : List ℕ
object = codes "java/lang/Object"

t_utf8 : IsUtf8 (codes "T")
unfolding lib.Utf8.encode
t_utf8 = (codes "T", (refl, refl))

f_utf8 : IsUtf8 (codes "f")
unfolding lib.Utf8.encode
f_utf8 = (codes "f", (refl, refl))

object_utf8 : IsUtf8 object
unfolding lib.Utf8.encode
object_utf8 = (object, (refl, refl))

-- each instruction has a line
has_line : (k : ℕ) (d : Ins) → k < 6 → IsSome (slice_index_or code_of_t.ins k d).line
has_line zero d h = refl
has_line (suc zero) d h = refl
has_line (suc (suc zero)) d h = refl
has_line (suc (suc (suc zero))) d h = refl
has_line (suc (suc (suc (suc zero)))) d h = refl
has_line (suc (suc (suc (suc (suc zero))))) d h = refl
has_line (suc (suc (suc (suc (suc (suc k)))))) d h = absurd (omega (arith, h))

lines_go_on : AllPairs LinesGoOn code_of_t.ins
lines_go_on i j d h k one = has_line j d k

field_is : IsGoodField false field_of_t
unfolding is_name_byte is_member_name
field_is = record {
  meant = refl;
  flags = refl;
  name = (f_utf8, refl);
  typed = record { dimensions = omega arith; named = tt };
  constant = (refl, (refl, refl));
}

code_is : IsGoodCode code_of_t
unfolding is_primitive_or_void is_name_byte is_member_name is_class_name
code_is = record {
  some = omega arith;
  instructions = (tt, (omega arith, (tt, (tt, (tt, (tt, tt))))));
  lines = lines_go_on;
  handlers = (record { range = omega arith; to = omega arith; entry = omega arith; caught = (object_utf8, refl) }, tt);
  frames = (
    record {
      index = omega arith;
      locals = (tt, tt);
      cut = refl;
      locals_fit = omega arith;
      stack = tt;
      stack_fits = omega arith;
    },
    tt,
  );
  ascending = no_pairs Ascend frame_of_t;
}

method_is : IsGoodMethod false method_of_t
unfolding is_name_byte is_member_name is_method_name words_of argument_words
method_is = record {
  meant = refl;
  flags = refl;
  not_native = refl;
  name = (f_utf8, refl);
  typed = record {
    arguments = (record { dimensions = omega arith; named = tt }, tt);
    words = omega arith;
    returned = record { dimensions = omega arith; named = tt };
  };
  room_for_this = refl;
  initial_flags = refl;
  initial_type = refl;
  body = refl;
  code = code_is;
  throws = tt;
}

pub well_formed : TIsWellFormed
unfolding is_primitive_or_void is_name_byte is_member_name is_class_name
well_formed = record {
  nothing_left_out = refl;
  meant = refl;
  flags = refl;
  no_annotation_or_enum = refl;
  name = (t_utf8, refl);
  super_name = (object_utf8, refl);
  interfaces = tt;
  fields = (field_is, tt);
  fields_differ = no_pairs FieldsDiffer field_of_t;
  methods = (method_is, tt);
  methods_differ = no_pairs MethodsDiffer method_of_t;
  source = tt;
}
