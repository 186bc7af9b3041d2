-- What is told of a value that was returned, by its readers.
use Rattle.std.proofs.Common.{◌≡◌, ℕ, ℤ, List, Some, None, refl, ap}
use Rattle.class_run.specs.Ended.{back_of}
use Rattle.class_run.specs.declared.ended.Back.TheVariants as back
use Rattle.jvm_model.specs.Value.{Int, Lit, Long, Null, Ref, Value, as_int, as_long}
use Rattle.run_values.specs.References.{number_of, text_of}

pub int_back : (v : Value) (z : ℤ) → as_int v ≡ Some z → back_of (Some v) ≡ back.Int z
int_back (Int y) z e = let same : y ≡ z = cc in ap back.Int same
int_back (Long y) z e = absurd cc
int_back Null z e = absurd cc
int_back (Ref n) z e = absurd cc
int_back (Lit units) z e = absurd cc

pub long_back : (v : Value) (z : ℤ) → as_long v ≡ Some z → back_of (Some v) ≡ back.Long z
long_back (Int y) z e = absurd cc
long_back (Long y) z e = let same : y ≡ z = cc in ap back.Long same
long_back Null z e = absurd cc
long_back (Ref n) z e = absurd cc
long_back (Lit units) z e = absurd cc

pub ref_back : (v : Value) (n : ℕ) → number_of v ≡ Some n → back_of (Some v) ≡ back.Ref n
ref_back (Int y) n e = absurd cc
ref_back (Long y) n e = absurd cc
ref_back Null n e = absurd cc
ref_back (Ref m) n e = let same : m ≡ n = cc in ap back.Ref same
ref_back (Lit units) n e = absurd cc

pub text_back : (v : Value) (units : List ℕ) → text_of v ≡ Some units → back_of (Some v) ≡ back.Lit units
text_back (Int y) units e = absurd cc
text_back (Long y) units e = absurd cc
text_back Null units e = absurd cc
text_back (Ref n) units e = absurd cc
text_back (Lit others) units e = let same : others ≡ units = cc in ap back.Lit same

pub null_back : (v : Value) → as_int v ≡ None → as_long v ≡ None → number_of v ≡ None → text_of v ≡ None
    → back_of (Some v) ≡ back.Null
null_back (Int y) i l n t = absurd cc
null_back (Long y) i l n t = absurd cc
null_back Null i l n t = refl
null_back (Ref m) i l n t = absurd cc
null_back (Lit units) i l n t = absurd cc

-- a value, by its tests
pub ruleset value_back = (int_back, long_back, ref_back, text_back, null_back)
