-- The files of the generated classes at their paths.
use Rattle.std.proofs.Common.{◌≡◌, ℕ, suc, ◌+◌, List, [], ◌∷◌, ◌++◌, map, Result, Ok, refl, ap, ◌∙◌, arith}
use Rattle.class_model.specs.declared.class.Class.{Class}
use Rattle.class_model.specs.declared.limit.WriteLimit.{WriteLimit}
use Rattle.class_model.specs.CanonicalClass.{layout}
use Rattle.class_model.specs.WriteLimits.{class_written, spelled_within}
use Rattle.gen_classes.specs.Generated.{Placed, caller_class, file_of, interface_class, pairs_below, plain_class, put_file}
use Rattle.gen_classes.specs.Generated.{put_files}
use Rattle.gen_classes.specs.Laws.{CanBeWritten}

-- a class that can be written is, in its canonical spelling
pub written_is : (c : Class) → CanBeWritten c → class_written c ≡ Ok (layout c)
unfolding class_written
written_is c can = ap (λ (r : Result (Unit {0}) WriteLimit). spelled_within r c) can.within

-- two classes behind others
put_two : (classes : List Class) (placed : Placed) (c d : Class)
    → put_files placed (map file_of (classes ++ c ∷ d ∷ []))
    ≡ put_file (put_file (put_files placed (map file_of classes)) (file_of c)) (file_of d)
put_two [] placed c d = refl
put_two (b ∷ classes) placed c d = put_two classes (put_file placed (file_of b)) c d

-- the interface and the classes of the numbers below this one
abbrev pub placed_below : ℕ → ℕ → Placed
placed_below n i = put_files [] (map file_of (interface_class ∷ pairs_below n i))

pub one_more : (n i : ℕ) → placed_below n (i + 1)
    ≡ put_file (put_file (placed_below n i) (file_of (caller_class n i))) (file_of (plain_class i))
one_more n i =
    ap (placed_below n) (let e : i + 1 ≡ suc i = omega arith in e)
    ∙ put_two (pairs_below n i) (put_file [] (file_of interface_class)) (caller_class n i) (plain_class i)
