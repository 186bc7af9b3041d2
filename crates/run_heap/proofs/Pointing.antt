-- What a value refers to, by its tests.
use Rattle.std.proofs.Common.{◌≡◌, ℕ, true, false, Some, None, refl}
use Rattle.jvm_model.specs.Value.{Int, Lit, Long, Null, Ref, Value, same_reference}
use Rattle.jvm_model.specs.Answers.{Answer, NoAnswer}
use Rattle.jvm_model.specs.Arrays.{on_array}
use Rattle.jvm_model.specs.Fields.{get_field, put_field}
use Rattle.jvm_model.specs.Heap.{Object, World}
use Rattle.jvm_model.specs.Value.{Key}
use Rattle.run_heap.specs.bodies.Pointing.{is_other}
use Rattle.run_values.specs.References.{number_of}

pub is_null : (v : Value) → same_reference v Null ≡ true → v ≡ Null
is_null (Int z) e = let f : false ≡ true = e in absurd cc
is_null (Long z) e = let f : false ≡ true = e in absurd cc
is_null Null e = refl
is_null (Ref n) e = let f : false ≡ true = e in absurd cc
is_null (Lit units) e = let f : false ≡ true = e in absurd cc

pub is_reference : (v : Value) (n : ℕ) → number_of v ≡ Some n → v ≡ Ref n
is_reference (Int z) n e = absurd cc
is_reference (Long z) n e = absurd cc
is_reference Null n e = absurd cc
is_reference (Ref m) n e = cc
is_reference (Lit units) n e = absurd cc

pub refers_to_none : (v : Value) → same_reference v Null ≡ false → number_of v ≡ None → is_other v ≡ true
refers_to_none (Int z) e f = refl
refers_to_none (Long z) e f = refl
refers_to_none Null e f = let g : true ≡ false = e in absurd cc
refers_to_none (Ref n) e f = absurd cc
refers_to_none (Lit units) e f = refl

-- what the tests of a value tell
pub ruleset pointed = (is_null, is_reference, refers_to_none)

-- of such a value nothing is answered
pub no_field : (w : World) (v : Value) (k : Key) → is_other v ≡ true → get_field w v k ≡ NoAnswer
no_field w (Int z) k e = refl
no_field w (Long z) k e = refl
no_field w Null k e = let f : false ≡ true = e in absurd cc
no_field w (Ref n) k e = let f : false ≡ true = e in absurd cc
no_field w (Lit units) k e = refl

pub no_field_set : (w : World) (v x : Value) (k : Key) → is_other v ≡ true → put_field w v x k ≡ NoAnswer
no_field_set w (Int z) x k e = refl
no_field_set w (Long z) x k e = refl
no_field_set w Null x k e = let f : false ≡ true = e in absurd cc
no_field_set w (Ref n) x k e = let f : false ≡ true = e in absurd cc
no_field_set w (Lit units) x k e = refl

pub no_array : (w : World) (v : Value) (f : ℕ → Object → Answer) → is_other v ≡ true → on_array w v f ≡ NoAnswer
no_array w (Int z) f e = refl
no_array w (Long z) f e = refl
no_array w Null f e = let g : false ≡ true = e in absurd cc
no_array w (Ref n) f e = let g : false ≡ true = e in absurd cc
no_array w (Lit units) f e = refl
