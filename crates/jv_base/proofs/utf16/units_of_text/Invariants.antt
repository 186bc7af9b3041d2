use Rattle.std.proofs.Common.{◌≡◌, ◌++◌, IsUtf8}
use Rattle.std.specs.Str.Iter.{encode_utf16_pending, encode_utf16_rest}
use Rattle.jv_base.specs.Utf16.{units_of}
use Rattle.jv_base.proofs.utf16.units_of_text.Given as goal

abbrev pub invariant-loop-unit : goal.invariant-loop-unit
invariant-loop-unit l = record {
  text : IsUtf8 (encode_utf16_rest l.unit-iterator);
  same : l.units ++ (encode_utf16_pending l.unit-iterator ++ units_of (encode_utf16_rest l.unit-iterator))
      ≡ units_of l.text;
}
