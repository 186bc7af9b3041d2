-- What is read of an instruction has a meaning, and its targets are found alike by either definition.
use Rattle.std.proofs.Common.{◌≡◌, ℕ, true, List, [], ◌∷◌, map, Option, Some, None, Result, Ok, Err, refl, sym, ap, ◌∙◌}
use Rattle.std.specs.Prelude.{ℤ, is_some, option_map}
use Rattle.std.specs.Int.{w32, cast_signed}
use Rattle.jv_base.specs.Outcome.{◌>>=◌}
use Rattle.format_reading.specs.declared.fault.FormatKind.{FormatKind}
use Rattle.format_reading.specs.declared.fault.FormatKind.TheVariants as bad
use Rattle.class_model.specs.declared.pool.Entry.{Entry}
use Rattle.class_model.specs.declared.op.Case.{Case}
use Rattle.class_model.specs.declared.op.Op.{Op}
use Rattle.class_model.specs.declared.op.Op.TheVariants as op
use Rattle.class_model.specs.Lookups.{due, type_at, interface_methodref_at}
use Rattle.class_model.specs.Opcodes.{plain_op, local_op, array_type_of}
use Rattle.class_model.specs.InstructionStructure.{MatchOffset, Info, Plain, Bipush, Sipush, Ldc, LdcWide, Local}
use Rattle.class_model.specs.InstructionStructure.{WideLocal, Iinc, WideIinc, Branch, GotoWide, TableSwitch}
use Rattle.class_model.specs.InstructionStructure.{LookupSwitch, MemberOperand, InvokeInterface, ClassOperand, NewArray}
use Rattle.class_model.specs.InstructionStructure.{MultiNewArray}
use Rattle.class_model.specs.InstructionMeaning.{op_of, loaded, loaded_wide, member_op, class_op, aimed, all_aimed}
use Rattle.class_model.specs.InstructionMeaning.{cases_aimed}
use Rattle.class_model.proofs.InstructionRead.{IsRight}
use Rattle.code_read.specs.declared.unaimed.Unaimed.{Unaimed}
use Rattle.code_read.specs.declared.unaimed.Unaimed.TheVariants as unaimed
use Rattle.code_read.specs.Meaning.{whole, unaimed_of, match_of}
use Rattle.code_read.specs.Targets.{with_first, collected, case_aimed, op_aimed, or_bad_target}

-- one after the other, as steps
as_steps : {B X : Type 0} (r : Result B X) (s : Result (List B) X)
    → with_first r s ≡ (r >>= (λ y. s >>= (λ ys. Ok (y ∷ ys))))
as_steps (Ok y) (Ok ys) = refl
as_steps (Ok y) (Err e) = refl
as_steps (Err e) s = refl

-- the targets of a tableswitch
targets_are : (aim : ℤ → Result ℕ FormatKind) (at : ℕ) (offsets : List ℕ)
    → collected (aimed aim at) offsets ≡ all_aimed aim at offsets
unfolding collected
targets_are aim at [] = refl
targets_are aim at (offset ∷ offsets) =
    ap (λ (s : Result (List ℕ) FormatKind). with_first (aimed aim at offset) s) (targets_are aim at offsets)
    ∙ as_steps (aimed aim at offset) (all_aimed aim at offsets)

-- a case before others, as steps
case_steps : (key : ℤ) (r : Result ℕ FormatKind) (s : Result (List Case) FormatKind)
    → with_first (r >>= (λ to. let R : Result Case FormatKind = Ok (record { key = key; to = to }) in R)) s
    ≡ (r >>= (λ to. s >>= (λ others. Ok (record { key = key; to = to } ∷ others))))
case_steps key (Ok to) (Ok others) = refl
case_steps key (Ok to) (Err e) = refl
case_steps key (Err e) s = refl

-- the cases of a lookupswitch
cases_are : (aim : ℤ → Result ℕ FormatKind) (at : ℕ) (pairs : List MatchOffset)
    → collected (case_aimed aim at) (map match_of pairs) ≡ cases_aimed aim at pairs
unfolding collected
cases_are aim at [] = refl
cases_are aim at (pair ∷ pairs) =
    ap (λ (s : Result (List Case) FormatKind). with_first (case_aimed aim at (match_of pair)) s)
    (cases_are aim at pairs)
    ∙ case_steps (cast_signed w32 pair.key) (aimed aim at pair.offset) (cases_aimed aim at pairs)

-- an instruction is meant, and whatever its targets lead to, the meaning leads to the same
pub record IsMeant (pool : List Entry) (at : ℕ) (info : Info) : Type 0 where
  pub meaning : Unaimed
  pub is : unaimed_of pool info ≡ Ok meaning
  pub alike : (aim : ℤ → Result ℕ FormatKind)
      → or_bad_target at (op_aimed aim at meaning) ≡ or_bad_target at (op_of aim pool at info)

-- a value that is there
due_there : {A : Type 0} (kind : FormatKind) (o : Option A) → is_some o ≡ true → (x : A) × (due kind o ≡ Ok x)
due_there kind (Some x) h = (x, refl)
due_there kind None h = absurd cc

-- a value that is there, and what is made of it
pub mapped_there : {A B : Type 0} (f : A → B) (o : Option A) → is_some o ≡ true → is_some (option_map f o) ≡ true
mapped_there f (Some x) h = refl
mapped_there f None h = absurd cc

-- an instruction without targets
whole_is : (r : Result Op FormatKind) (o : Op) → r ≡ Ok o → whole r ≡ Ok (unaimed.Whole o)
whole_is r o h = ap whole h

told_is : (at : ℕ) (r : Result Op FormatKind) (o : Op) → r ≡ Ok o
    → or_bad_target at (let R : Result Op FormatKind = Ok o in R) ≡ or_bad_target at r
told_is at r o h = ap (or_bad_target at) (sym h)

-- what is right has a meaning
pub right_meant : (pool : List Entry) (at : ℕ) (info : Info) → IsRight pool at info → IsMeant pool at info
unfolding op_of
right_meant pool at (Plain c) h = let d = due_there bad.BadOperand
    (plain_op c) h in record {
      meaning = unaimed.Whole d.0;
      is = whole_is _ d.0 d.1;
      alike = λ aim. told_is at _ d.0
          d.1;
    }
right_meant pool at (Bipush byte) h = record { meaning = _; is = refl; alike = λ aim. refl }
right_meant pool at (Sipush short) h = record { meaning = _; is = refl; alike = λ aim. refl }
right_meant pool at (Ldc index) h = let d = due_there bad.BadOperand
    (loaded pool index) h.2 in record {
      meaning = unaimed.Whole d.0;
      is = whole_is _ d.0 d.1;
      alike = λ aim. told_is at
          _ d.0 d.1;
    }
right_meant pool at (LdcWide c index) h = let d = due_there bad.BadOperand
    (loaded_wide c pool index) h.3 in record {
      meaning = unaimed.Whole d.0;
      is = whole_is _ d.0 d.1;
      alike = λ aim.
          told_is at _ d.0 d.1;
    }
right_meant pool at (Local c index) h =
    let d = due_there bad.BadOperand (option_map (λ make. make index) (local_op c))
    (mapped_there (λ make. make index)
    (local_op c) h.1) in record {
      meaning = unaimed.Whole d.0;
      is = whole_is _ d.0 d.1;
      alike = λ aim. told_is at _ d.0
          d.1;
    }
right_meant pool at (WideLocal c index) h =
    let d = due_there bad.BadOperand (option_map (λ make. make index) (local_op c))
    (mapped_there (λ make. make index)
    (local_op c) h.1) in record {
      meaning = unaimed.Whole d.0;
      is = whole_is _ d.0 d.1;
      alike = λ aim. told_is at _ d.0
          d.1;
    }
right_meant pool at (Iinc index const) h = record { meaning = _; is = refl; alike = λ aim. refl }
right_meant pool at (WideIinc index const) h = record { meaning = _; is = refl; alike = λ aim. refl }
right_meant pool at (Branch c branch) h = record { meaning = _; is = refl; alike = λ aim. refl }
right_meant pool at (GotoWide branch) h = record { meaning = _; is = refl; alike = λ aim. refl }
right_meant pool at (TableSwitch pad default low high offsets) h = record {
  meaning = _;
  is = refl;
  alike = λ aim. ap (λ (s : Result (List ℕ) FormatKind). or_bad_target at
      (aimed aim at default >>= (λ other. s >>= (λ cases. Ok (op.TableSwitch (cast_signed w32 low) other cases)))))
      (targets_are aim at offsets);
}
right_meant pool at (LookupSwitch pad default pairs) h = record {
  meaning = _;
  is = refl;
  alike = λ aim. ap (λ (s : Result (List Case) FormatKind). or_bad_target at
      (aimed aim at default >>= (λ other. s >>= (λ cases. Ok (op.LookupSwitch other cases))))) (cases_are aim at pairs);
}
right_meant pool at (MemberOperand c index) h = let d = due_there bad.BadOperand
    (member_op c pool index) h.1 in record {
      meaning = unaimed.Whole d.0;
      is = whole_is _ d.0 d.1;
      alike = λ aim.
          told_is at _ d.0 d.1;
    }
right_meant pool at (InvokeInterface index count) h =
    let d = due_there bad.BadOperand
    (option_map (λ reference. op.InvokeInterface reference) (interface_methodref_at pool index))
    (mapped_there (λ reference. op.InvokeInterface reference) (interface_methodref_at pool index) h.there) in
    record { meaning = unaimed.Whole d.0; is = whole_is _ d.0 d.1; alike = λ aim. told_is at _ d.0 d.1 }
right_meant pool at (ClassOperand c index) h = let d = due_there bad.BadOperand
    (class_op c pool index) h.1 in record {
      meaning = unaimed.Whole d.0;
      is = whole_is _ d.0 d.1;
      alike = λ aim.
          told_is at _ d.0 d.1;
    }
right_meant pool at (NewArray atype) h =
    let d = due_there bad.BadOperand (option_map (λ ty. op.NewArray ty) (array_type_of atype))
    (mapped_there (λ ty. op.NewArray ty) (array_type_of atype) h.2) in
    record { meaning = unaimed.Whole d.0; is = whole_is _ d.0 d.1; alike = λ aim. told_is at _ d.0 d.1 }
right_meant pool at (MultiNewArray index dimensions) h =
    let d = due_there bad.BadOperand (option_map (λ ty. op.MultiNewArray ty dimensions) (type_at pool index))
    (mapped_there (λ ty. op.MultiNewArray ty dimensions) (type_at pool index) h.there) in
    record { meaning = unaimed.Whole d.0; is = whole_is _ d.0 d.1; alike = λ aim. told_is at _ d.0 d.1 }
