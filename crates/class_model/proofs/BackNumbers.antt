-- Numbers in two's complement are read back.
use Rattle.std.proofs.Common.{◌≡◌, ◌^◌, ◌<◌, ◌≤◌, true, leb, ℤ, pos, negsuc, arith, SFits}
use Rattle.std.specs.Int.{w8, w16, w32, cast_unsigned}
use Rattle.std.proofs.lemmas.Bool.{and_parts, leb-true}
use Rattle.class_model.specs.Between.{int_between}

pub byte_fits : (n : ℤ) → int_between (negsuc 127) (pos 127) n ≡ true → SFits w8 n
byte_fits (pos n) h = let g : n ≤ 127 = leb-true _ _ h in record { sfits = omega arith }
byte_fits (negsuc n) h = let t = and_parts
    (leb n 127) true h in let g : n ≤ 127 = leb-true _ _ t.0 in record { sfits = omega arith }

pub short_fits : (n : ℤ) → int_between (negsuc 32767) (pos 32767) n ≡ true → SFits w16 n
short_fits (pos n) h = let g : n ≤ 32767 = leb-true _ _ h in record { sfits = omega arith }
short_fits (negsuc n) h = let t = and_parts
    (leb n 32767) true h in let g : n ≤ 32767 = leb-true _ _ t.0 in record { sfits = omega arith }

pub byte_below : (n : ℤ) → SFits w8 n → cast_unsigned w8 n < 256
byte_below (pos n) h = let g : n < 128 = h.sfits in omega arith
byte_below (negsuc n) h = let g : n < 128 = h.sfits in omega arith

pub short_below : (n : ℤ) → SFits w16 n → cast_unsigned w16 n < 2 ^ 16
short_below (pos n) h = let g : n < 32768 = h.sfits in omega arith
short_below (negsuc n) h = let g : n < 32768 = h.sfits in omega arith

pub word_below : (n : ℤ) → SFits w32 n → cast_unsigned w32 n < 2 ^ 32
word_below (pos n) h = let g : n < 2147483648 = h.sfits in omega arith
word_below (negsuc n) h = let g : n < 2147483648 = h.sfits in omega arith
