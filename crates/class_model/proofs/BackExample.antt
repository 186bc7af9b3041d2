-- A code that is read back: an int that is no short is pushed and dropped, again and again.
use Rattle.std.proofs.Common.{List, [], ◌∷◌, None, pos, refl, arith}
use Rattle.class_model.specs.declared.constant.PoolConstant.{PoolConstant}
use Rattle.class_model.specs.declared.constant.PoolConstant.TheVariants.{Integer}
use Rattle.class_model.specs.declared.code.Ins.{Ins}
use Rattle.class_model.specs.declared.op.Op.{Op}
use Rattle.class_model.specs.declared.op.Op.TheVariants as op
use Rattle.class_model.specs.CanonicalCode.{places, code_bytes}
use Rattle.class_model.specs.bodies.PoolEntries.{entries_of}
use Rattle.class_model.specs.WritableCode.{IsWritableCode}

abbrev without_line : Op → Ins
without_line o = record { op = o; line = None }

abbrev pool : List PoolConstant
pool = Integer (pos 100000) ∷ []

abbrev ins : List Ins
ins = without_line (op.PushInt (pos 100000)) ∷ without_line op.Pop ∷ without_line (op.Goto 0) ∷ []

pub writable : IsWritableCode (entries_of pool) pool ins
unfolding places code_bytes
writable = record {
  good = (tt, (tt, (omega arith, tt)));
  few_words = (tt, (tt, (tt, tt)));
  values = (tt, (tt, (tt, tt)));
  said = (((omega arith, refl), tt), (tt, (tt, tt)));
  short = omega arith;
  near = refl;
}
