-- Reading methods one behind the other, as a loop over their count does.
use Rattle.std.proofs.Common.{◌≡◌, ℕ, suc, ◌-◌, ◌+◌, ◌≤◌, ◌<◌, Bool, List, [], ◌∷◌, ◌++◌, Option, Result, Ok, Err, refl}
use Rattle.std.proofs.Common.{sym, ap, ◌∙◌, append_assoc, arith}
use Rattle.std.proofs.lemmas.List.{append-nil}
use Rattle.jv_base.specs.Place.{Place}
use Rattle.jv_base.specs.declared.outcome.Or.{Or}
use Rattle.jv_base.specs.declared.outcome.Or.TheVariants.{Fault, OutOfMemory}
use Rattle.format_reading.specs.declared.fault.FormatFault.{FormatFault}
use Rattle.format_reading.specs.Reader.{ReadsOr, after_read, bind, give}
use Rattle.class_model.specs.declared.pool.Entry.{Entry}
use Rattle.class_model.specs.declared.class.Method.{Method}
use Rattle.class_model.specs.declared.class.LeftKind.{LeftKind}
use Rattle.class_model.specs.ReadingMembers.{Signature, MethodRead, read_method_info, read_methods}

-- methods, and what is left out in each
abbrev pub Methods : Type 0
Methods = List Method × List (Option LeftKind)

-- those behind others
abbrev pub both : Methods → Result (Methods × Place) FormatFault → Result (Methods × Place) FormatFault
both front (Ok x) = Ok ((front.0 ++ x.0.0, front.1 ++ x.0.1), x.1)
both front (Err f) = Err f

-- one method alone
abbrev pub one : MethodRead → Methods
one m = (m.0 ∷ [], m.2 ∷ [])

-- others and one more
abbrev pub more : Methods → MethodRead → Methods
more front m = (front.0 ++ m.0 ∷ [], front.1 ++ m.2 ∷ [])

ok : Methods → Place → Result (Methods × Place) FormatFault
ok ms p = Ok (ms, p)

regroup : (front : Methods) (m : MethodRead) (read : Result (Methods × Place) FormatFault)
    → both front (both (one m) read) ≡ both (more front m) read
unfolding ok
regroup front m (Ok x) = ap (λ (ms : List Method). ok (ms, front.1 ++ (m.2 ∷ x.0.1)) x.1) (simp append_assoc)
    ∙ ap (λ (ks : List (Option LeftKind)). ok ((front.0 ++ m.0 ∷ []) ++ x.0.0, ks) x.1) (simp append_assoc)
regroup front m (Err f) = refl

joined : (at : ℕ) (m : MethodRead) (read : Result (Methods × Place) FormatFault)
    → after_read at (λ (others : Methods). Ok (give (m.0 ∷ others.0, m.2 ∷ others.1))) read ≡ both (one m) read
unfolding give
joined at m (Ok x) = refl
joined at m (Err f) = refl

module _ (pool : List Entry) (in_interface : Bool) (class : List ℕ) where
  next_is : (k : ℕ) (before : List Signature) (p after : Place) (m : MethodRead)
      → read_method_info pool in_interface class before p ≡ Ok (m, after)
      → read_methods (suc k) pool in_interface class before p
      ≡ both (one m) (read_methods k pool in_interface class (m.1 ∷ before) after)
  unfolding read_methods bind
  next_is k before p after m h = rw h (joined after.at m (read_methods k pool in_interface class (m.1 ∷ before) after))

  -- the invariant after a method that was read
  pub goes_on : (front : Methods) (count i : ℕ) (before : List Signature) (p after : Place) (m : MethodRead)
      (total : Result (Methods × Place) FormatFault) → i < count
      → read_method_info pool in_interface class before p ≡ Ok (m, after)
      → both front (read_methods (count - i) pool in_interface class before p) ≡ total
      → both (more front m) (read_methods (count - (i + 1)) pool in_interface class (m.1 ∷ before) after) ≡ total
  goes_on front count i before p after m total lt h so_far =
      let k : count - i ≡ suc (count - (i + 1)) = omega arith in
      let first = ap (λ j. read_methods j pool in_interface class before p) k
      ∙ next_is (count - (i + 1)) before p after m h in
      sym (ap (both front) first
      ∙ regroup front m (read_methods (count - (i + 1)) pool in_interface class (m.1 ∷ before) after)) ∙ so_far

  -- at a fault the whole is that fault
  pub ends : (e : Or FormatFault) (new q : Place) (front : Methods) (count i : ℕ) (before : List Signature) (p : Place)
      (total : Result (Methods × Place) FormatFault) → i < count
      → ReadsOr {T = MethodRead} (Err e) new (read_method_info pool in_interface class before p)
      → both front (read_methods (count - i) pool in_interface class before p) ≡ total
      → ReadsOr {T = Methods} (Err e) q total
  unfolding read_methods bind
  ends OutOfMemory new q front count i before p total lt h so_far = tt
  ends (Fault f) new q front count i before p total lt h so_far =
      let k : count - i ≡ suc (count - (i + 1)) = omega arith in
      let fails : read_methods (count - i) pool in_interface class before p ≡ Err f = rw (k, h) refl in
      sym so_far ∙ ap (both front) fails

  -- after the last method the whole is what was read
  pub is_done : (front : Methods) (count i : ℕ) (before : List Signature) (p : Place)
      (total : Result (Methods × Place) FormatFault) → count ≤ i
      → both front (read_methods (count - i) pool in_interface class before p) ≡ total → total ≡ Ok (front, p)
  unfolding read_methods give ok
  is_done front count i before p total le so_far =
      let k : count - i ≡ 0 = omega arith in
      let none : read_methods (count - i) pool in_interface class before p ≡ ok ([], []) p = rw k refl in
      sym so_far ∙ ap (both front) none ∙ ap (λ (ms : List Method). ok (ms, front.1 ++ []) p) (append-nil front.0)
      ∙ ap (λ (ks : List (Option LeftKind)). ok (front.0, ks) p) (append-nil front.1)
