-- Branches and switches are read back.
use Rattle.std.proofs.Common.{◌≡◌, ℕ, ◌+◌, ◌<◌, List, Some, Result, Ok, ℤ, pos, ◌-ℤ◌, refl, ap, ◌∙◌, arith, SFits}
use Rattle.std.specs.Int.{w16, cast_unsigned, cast_signed}
use Rattle.std.proofs.lemmas.Int.{to_z-of_z, ints}
use Rattle.format_reading.specs.declared.fault.FormatKind.{FormatKind}
use Rattle.class_model.specs.declared.pool.Entry.{Entry}
use Rattle.class_model.specs.declared.op.Cond.{Cond}
use Rattle.class_model.specs.declared.op.Cond.TheVariants as cond_op
use Rattle.class_model.specs.declared.op.Op.{Op}
use Rattle.class_model.specs.declared.op.Op.TheVariants as op
use Rattle.class_model.specs.Opcodes.{branch_op}
use Rattle.class_model.specs.Instructions.{branch_target}
use Rattle.class_model.specs.InstructionStructure.{Branch}
use Rattle.class_model.specs.InstructionMeaning.{op_of}
use Rattle.class_model.specs.ReadingCode.{begun, two_bytes}
use Rattle.class_model.specs.CanonicalCode.{cond_number}
use Rattle.class_model.proofs.BackNumbers.{short_below}
use Rattle.class_model.proofs.BackInfos.{read_branch}
use Rattle.class_model.proofs.BackPlain.{IsBack}

-- the target is found where it is, at a distance
pub there : (at place : ℕ) → branch_target at (pos place -ℤ pos at) ≡ pos place
there at place = omega (arith, ints)

module _ (aim : ℤ → Result ℕ FormatKind) (entries : List Entry) (place : ℕ → ℕ) (at : ℕ) where
  -- the distance to a target
  abbrev distance : ℕ → ℤ
  distance to = pos (place to) -ℤ pos at

  -- a branch of two bytes
  pub branch_back : (opcode : ℕ) (make : ℕ → Op) (to : ℕ) → opcode < 256
      → begun entries at opcode ≡ Ok (two_bytes (λ n. Branch opcode n)) → branch_op opcode ≡ Some make
      → aim (pos (place to)) ≡ Ok to → SFits w16 (distance to)
      → IsBack aim entries at (Branch opcode (cast_unsigned w16 (distance to))) (make to)
  unfolding op_of
  branch_back opcode make to lt e h found fits =
      let target : aim (branch_target at (cast_signed w16 (cast_unsigned w16 (distance to))))
      ≡ Ok to = ap (λ (z : ℤ). aim (branch_target at z)) (to_z-of_z w16 (distance to) fits)
      ∙ ap aim (there at (place to)) ∙ found in
      record {
        read = read_branch entries at opcode _ lt e (short_below (distance to) fits);
        meant = rw
            (target, h) refl;
      }

  pub if_zero_back : (c : Cond) (to : ℕ) → aim (pos (place to)) ≡ Ok to → SFits w16 (distance to)
      → IsBack aim entries at (Branch (0x99 + cond_number c) (cast_unsigned w16 (distance to))) (op.IfZero c to)
  if_zero_back cond_op.Eq to found fits = branch_back 0x99 (λ n. op.IfZero cond_op.Eq n) to
      (omega arith) refl refl found fits
  if_zero_back cond_op.Ne to found fits = branch_back 0x9A (λ n. op.IfZero cond_op.Ne n) to
      (omega arith) refl refl found fits
  if_zero_back cond_op.Lt to found fits = branch_back 0x9B (λ n. op.IfZero cond_op.Lt n) to
      (omega arith) refl refl found fits
  if_zero_back cond_op.Ge to found fits = branch_back 0x9C (λ n. op.IfZero cond_op.Ge n) to
      (omega arith) refl refl found fits
  if_zero_back cond_op.Gt to found fits = branch_back 0x9D (λ n. op.IfZero cond_op.Gt n) to
      (omega arith) refl refl found fits
  if_zero_back cond_op.Le to found fits = branch_back 0x9E (λ n. op.IfZero cond_op.Le n) to
      (omega arith) refl refl found fits

  pub if_cmp_back : (c : Cond) (to : ℕ) → aim (pos (place to)) ≡ Ok to → SFits w16 (distance to)
      → IsBack aim entries at (Branch (0x9F + cond_number c) (cast_unsigned w16 (distance to))) (op.IfCmp c to)
  if_cmp_back cond_op.Eq to found fits = branch_back 0x9F (λ n. op.IfCmp cond_op.Eq n) to
      (omega arith) refl refl found fits
  if_cmp_back cond_op.Ne to found fits = branch_back 0xA0 (λ n. op.IfCmp cond_op.Ne n) to
      (omega arith) refl refl found fits
  if_cmp_back cond_op.Lt to found fits = branch_back 0xA1 (λ n. op.IfCmp cond_op.Lt n) to
      (omega arith) refl refl found fits
  if_cmp_back cond_op.Ge to found fits = branch_back 0xA2 (λ n. op.IfCmp cond_op.Ge n) to
      (omega arith) refl refl found fits
  if_cmp_back cond_op.Gt to found fits = branch_back 0xA3 (λ n. op.IfCmp cond_op.Gt n) to
      (omega arith) refl refl found fits
  if_cmp_back cond_op.Le to found fits = branch_back 0xA4 (λ n. op.IfCmp cond_op.Le n) to
      (omega arith) refl refl found fits
