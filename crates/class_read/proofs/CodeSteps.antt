-- The parts of a Code, one behind the other, are the Code.
use Rattle.std.proofs.Common.{◌≡◌, ℕ, zero, suc, ◌+◌, ◌*◌, List, [], ◌∷◌, Some, None, Result, Ok, Err, refl, sym, ◌∙◌}
use Rattle.jv_base.specs.Place.{Place}
use Rattle.format_reading.specs.declared.fault.FormatFault.{FormatFault}
use Rattle.format_reading.specs.Reader.{FormatReader, u2, u4, item, bytes, bind, give, here, part, of_result, many}
use Rattle.format_reading.specs.Reader.{after_read}
use Rattle.class_model.specs.declared.pool.Entry.{Entry}
use Rattle.class_model.specs.declared.frame.VType.{VType}
use Rattle.class_model.specs.InstructionStructure.{starts_of}
use Rattle.class_model.specs.ReadingCode.{CodeRead, instructions, has_left_out, left_out_kind, until_end, ops_of}
use Rattle.class_model.specs.ReadingCodeAttribute.{Body, code_length, skipped_attribute, behind_code, read_code}
use Rattle.class_read.specs.declared.instructions.Instructions.{Instructions}
use Rattle.class_read.specs.declared.instructions.Instructions.TheVariants.{All, LeftOut}
use Rattle.class_read.specs.bodies.Instructions.{instructions_of, read_instructions}
use Rattle.class_read.specs.bodies.PassedOver.{attributes_passed, passed_over}
use Rattle.class_read.specs.bodies.Codes.{behind_read, code_in_parts}
use Rattle.class_read.proofs.BehindCode.{behind_code_is}

-- ---- readers one behind the other

regroup : {A B C : Type 0} (r : FormatReader A) (f : A → FormatReader B) (g : B → FormatReader C) (p : Place)
    → bind (bind r f) g p ≡ bind r (λ x. bind (f x) g) p
unfolding bind
regroup r f g p = by (r p)
  where
    by : (d : Result (_ × Place) FormatFault)
        → after_read p.at (λ y. Ok (g y)) (after_read p.at (λ x. Ok (f x)) d)
        ≡ after_read p.at (λ x. Ok (bind (f x) g)) d
    by (Ok x) = refl
    by (Err e) = refl

alike : {A B : Type 0} (r : FormatReader A) (f g : A → FormatReader B) (p : Place)
    → ((x : A) (q : Place) → f x q ≡ g x q)
    → bind r f p ≡ bind r g p
unfolding bind
alike r f g p h = by (r p)
  where
    by : (d : Result (_ × Place) FormatFault) → after_read p.at (λ x. Ok (f x)) d ≡ after_read p.at (λ x. Ok (g x)) d
    by (Ok x) = h x.0 x.1
    by (Err e) = refl

-- a value for which no byte stands, and then more
given : {A B : Type 0} (x : A) (f : A → FormatReader B) (p : Place) → bind (give x) f p ≡ f x p
unfolding bind give
given x f p = refl

-- ---- behind an instruction that is left out

many_passed : {A : Type 0} (x : A) (n : ℕ) (p : Place)
    → bind (many n skipped_attribute) (λ s. give x) p ≡ bind (attributes_passed n) (λ t. give x) p
unfolding many attributes_passed
many_passed x zero p = given [] (λ s. give x) p ∙ sym (given tt (λ t. give x) p)
many_passed x (suc n) p =
    regroup skipped_attribute (λ first. bind (many n skipped_attribute) (λ others. give (first ∷ others)))
    (λ s. give x) p
    ∙ alike skipped_attribute
    (λ first. bind (bind (many n skipped_attribute) (λ others. give (first ∷ others))) (λ s. give x))
    (λ first. bind (attributes_passed n) (λ t. give x)) p
    (λ first q. regroup (many n skipped_attribute) (λ others. give (first ∷ others)) (λ s. give x) q
    ∙ alike (many n skipped_attribute) (λ others. bind (give (first ∷ others)) (λ s. give x)) (λ others. give x) q
    (λ others z. given (first ∷ others) (λ s. give x) z)
    ∙ many_passed x n q)
    ∙ sym (regroup skipped_attribute (λ first. attributes_passed n) (λ t. give x) p)

passed_is : {A : Type 0} (x : A) (p : Place)
    → bind u2 (λ n. bind (bytes (8 * n)) (λ handlers. bind u2 (λ m. bind (many m skipped_attribute) (λ s. give x)))) p
    ≡ bind passed_over (λ t. give x) p
unfolding passed_over
passed_is x p =
    alike u2 _ _ p (λ n q. alike (bytes (8 * n)) _ _ q (λ handlers z. alike u2 _ _ z (λ m w. many_passed x m w)
    ∙ sym (regroup u2 attributes_passed (λ t. give x) z))
    ∙ sym (regroup (bytes (8 * n)) (λ handlers. bind u2 attributes_passed) (λ t. give x) q))
    ∙ sym (regroup u2 (λ n. bind (bytes (8 * n)) (λ handlers. bind u2 attributes_passed)) (λ t. give x) p)

-- ---- all of it

module _ (pool : List Entry) (first : List VType) (max_stack max_locals end : ℕ) where
  -- what was read of the instructions, and what stands behind
  behind_is : (from : ℕ) (read : CodeRead) (p : Place)
      → behind_code pool first max_stack max_locals from end read p
      ≡ bind (instructions_of pool from read) (behind_read pool first max_stack max_locals end) p
  behind_is from (instructions infos) p =
      behind_code_is pool first max_stack max_locals from end infos p
      ∙ alike (of_result (ops_of pool from infos)) _ _ p
      (λ ops q. sym (given (let I : Instructions = All (record { ops = ops; starts = starts_of infos }) in I)
      (behind_read pool first max_stack max_locals end) q))
      ∙ sym (regroup (of_result (ops_of pool from infos))
      (λ ops. give (let I : Instructions = All (record { ops = ops; starts = starts_of infos }) in I))
      (behind_read pool first max_stack max_locals end) p)
  behind_is from (has_left_out offset opcode) p =
      passed_is (let B : Body = (None, Some (left_out_kind opcode)) in B) p
      ∙ sym (given (let I : Instructions = LeftOut (left_out_kind opcode) in I)
      (behind_read pool first max_stack max_locals end) p)

  -- the instructions as a part, and what stands behind
  instructions_is : (attribute : ℕ) (p : Place)
      → bind here (λ from. bind (part attribute end (until_end end pool from (from + end)))
      (λ read. behind_code pool first max_stack max_locals from end read)) p
      ≡ bind (read_instructions pool attribute end) (behind_read pool first max_stack max_locals end) p
  unfolding read_instructions
  instructions_is attribute p =
      alike here _ _ p (λ from q. alike (part attribute end (until_end end pool from (from + end))) _ _ q
      (λ read z. behind_is from read z)
      ∙ sym (regroup (part attribute end (until_end end pool from (from + end))) (instructions_of pool from)
      (behind_read pool first max_stack max_locals end) q))
      ∙ sym (regroup here (λ from. bind (part attribute end (until_end end pool from (from + end)))
      (instructions_of pool from)) (behind_read pool first max_stack max_locals end) p)

-- the parts are the whole
pub parts_are : (pool : List Entry) (first : List VType) (attribute : ℕ) (p : Place)
    → read_code pool first attribute p ≡ code_in_parts pool first attribute p
unfolding read_code code_in_parts
parts_are pool first attribute p =
    alike u2 _ _ p (λ max_stack q. alike u2 _ _ q (λ max_locals z. alike (item u4 code_length) _ _ z
    (λ n w. instructions_is pool first max_stack max_locals n attribute w)))
