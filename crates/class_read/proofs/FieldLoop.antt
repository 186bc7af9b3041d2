-- Reading fields one behind the other, as a loop over their count does.
use Rattle.std.proofs.Common.{◌≡◌, ℕ, suc, ◌-◌, ◌+◌, ◌≤◌, ◌<◌, Bool, List, [], ◌∷◌, ◌++◌, Result, Ok, Err, refl, sym}
use Rattle.std.proofs.Common.{ap, ◌∙◌, append_assoc, arith}
use Rattle.std.proofs.lemmas.List.{append-nil}
use Rattle.jv_base.specs.Place.{Place}
use Rattle.jv_base.specs.declared.outcome.Or.{Or}
use Rattle.jv_base.specs.declared.outcome.Or.TheVariants.{Fault, OutOfMemory}
use Rattle.format_reading.specs.declared.fault.FormatFault.{FormatFault}
use Rattle.format_reading.specs.Reader.{ReadsOr, after_read, bind, give, behind}
use Rattle.class_model.specs.declared.pool.Entry.{Entry}
use Rattle.class_model.specs.declared.class.Field.{Field}
use Rattle.class_model.specs.ReadingMembers.{Signature, read_field_info, read_fields}

regroup : (front : List Field) (n : Field) (read : Result (List Field × Place) FormatFault)
    → behind front (behind (n ∷ []) read) ≡ behind (front ++ n ∷ []) read
regroup front n (Ok x) = ap (λ (ns : List Field). let R : Result (List Field × Place) FormatFault = Ok (ns, x.1) in R)
    (simp append_assoc)
regroup front n (Err f) = refl

joined : (at : ℕ) (n : Field) (read : Result (List Field × Place) FormatFault)
    → after_read at (λ others. Ok (give (n ∷ others))) read ≡ behind (n ∷ []) read
unfolding give
joined at n (Ok x) = refl
joined at n (Err f) = refl

module _ (pool : List Entry) (in_interface : Bool) where
  next_is : (k : ℕ) (before : List Signature) (p after : Place) (m : Field × Signature)
      → read_field_info pool in_interface before p ≡ Ok (m, after)
      → read_fields (suc k) pool in_interface before p
      ≡ behind (m.0 ∷ []) (read_fields k pool in_interface (m.1 ∷ before) after)
  unfolding read_fields bind
  next_is k before p after m h = rw h (joined after.at m.0 (read_fields k pool in_interface (m.1 ∷ before) after))

  -- the invariant after a field that was read
  pub goes_on : (front : List Field) (count i : ℕ) (before : List Signature) (p after : Place) (m : Field × Signature)
      (total : Result (List Field × Place) FormatFault) → i < count
      → read_field_info pool in_interface before p ≡ Ok (m, after)
      → behind front (read_fields (count - i) pool in_interface before p) ≡ total
      → behind (front ++ m.0 ∷ []) (read_fields (count - (i + 1)) pool in_interface (m.1 ∷ before) after) ≡ total
  goes_on front count i before p after m total lt h so_far =
      let k : count - i ≡ suc (count - (i + 1)) = omega arith in
      let one = ap (λ j. read_fields j pool in_interface before p) k ∙ next_is (count - (i + 1)) before p after m h in
      sym (ap (behind front) one
      ∙ regroup front m.0 (read_fields (count - (i + 1)) pool in_interface (m.1 ∷ before) after)) ∙ so_far

  -- at a fault the whole is that fault
  pub ends : (e : Or FormatFault) (new q : Place) (front : List Field) (count i : ℕ) (before : List Signature)
      (p : Place) (total : Result (List Field × Place) FormatFault) → i < count
      → ReadsOr {T = Field × Signature} (Err e) new (read_field_info pool in_interface before p)
      → behind front (read_fields (count - i) pool in_interface before p) ≡ total
      → ReadsOr {T = List Field} (Err e) q total
  unfolding read_fields bind
  ends OutOfMemory new q front count i before p total lt h so_far = tt
  ends (Fault f) new q front count i before p total lt h so_far =
      let k : count - i ≡ suc (count - (i + 1)) = omega arith in
      let one : read_fields (count - i) pool in_interface before p ≡ Err f = rw (k, h) refl in
      sym so_far ∙ ap (behind front) one

  -- after the last field the whole is what was read
  pub is_done : (front : List Field) (count i : ℕ) (before : List Signature) (p : Place)
      (total : Result (List Field × Place) FormatFault) → count ≤ i
      → behind front (read_fields (count - i) pool in_interface before p) ≡ total → total ≡ Ok (front, p)
  unfolding read_fields give
  is_done front count i before p total le so_far =
      let k : count - i ≡ 0 = omega arith in
      let one : read_fields (count - i) pool in_interface before p ≡ Ok ([], p) = rw k refl in
      sym so_far ∙ ap (behind front) one
      ∙ ap (λ (ns : List Field). let R : Result (List Field × Place) FormatFault = Ok (ns, p) in R)
      (append-nil front)
