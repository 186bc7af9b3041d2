-- The class with a field and a method can be written.
use Rattle.std.proofs.Common.{◌≡◌, Ok, refl, arith}
use Rattle.std.specs.Str.{chars}
use Rattle.jv_base.specs.Mutf8.{unit_bytes, mutf8}
use Rattle.jv_base.specs.Utf16.{units_of}
use Rattle.jv_base.specs.Types.{base_text, field_text, result_text, method_text, words_of, argument_words}
use Rattle.class_model.specs.rows.Rows.{class_t}
use Rattle.class_model.specs.CanonicalPool.{filled}
use Rattle.class_model.specs.CanonicalCode.{places, code_bytes}
use Rattle.class_model.specs.CanonicalClass.{pool_of}
use Rattle.class_model.specs.WriteLimits.{limits}
use Rattle.class_model.specs.WellFormed.{CountsFit}
use Rattle.class_model.proofs.FormedClass.{well_formed}
use Rattle.class_laws.specs.ClassValues.{IsClassValue}
use Rattle.class_laws.specs.SpellingLaws.{SomeIsWritable}

within : limits (pool_of class_t) class_t ≡ Ok tt
unfolding lib.Utf8.encode chars units_of unit_bytes mutf8 base_text field_text result_text method_text words_of
    argument_words filled places code_bytes pool_of limits
within = refl

counts : CountsFit class_t
counts = ((tt, (tt, (tt, (tt, (tt, (tt, tt)))))), tt)

value : IsClassValue class_t
value = record {
  fields = (record { ty = tt; constant = record { sfits = omega arith } }, tt);
  methods = (
    record {
      ty = record { arguments = (tt, tt); returned = tt };
      code = record {
        max_stack = omega arith;
        max_locals = omega arith;
        ins = (
          record { op = omega arith; pushed = tt; line = omega arith },
          (
            record { op = tt; pushed = tt; line = omega arith },
            (
              record { op = tt; pushed = record { sfits = omega arith }; line = omega arith },
              (
                record { op = tt; pushed = tt; line = omega arith },
                (
                  record { op = tt; pushed = record { sfits = omega arith }; line = omega arith },
                  (record { op = tt; pushed = tt; line = omega arith }, tt),
                ),
              ),
            ),
          ),
        );
        frames = (record { locals = (tt, tt); stack = tt }, tt);
      };
    },
    tt,
  );
}

pub some_writable : SomeIsWritable
some_writable = (record { well_formed = well_formed; counts = counts; value = value }, within)
