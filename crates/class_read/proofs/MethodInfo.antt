-- A method as what stands before its attributes, and its attributes.
use Rattle.std.proofs.Common.{◌≡◌, ℕ, Bool, List, Result, Ok, Err, refl, sym, ap, ◌∙◌, ◌||◌, not}
use Rattle.jv_base.specs.Names.{is_method_name}
use Rattle.jv_base.specs.Place.{Place}
use Rattle.jv_base.specs.Types.{method_text}
use Rattle.jv_base.specs.declared.types.MethodType.{MethodType}
use Rattle.jv_base.specs.declared.outcome.Or.{Or}
use Rattle.jv_base.specs.declared.outcome.Or.TheVariants.{Fault, OutOfMemory}
use Rattle.format_reading.specs.declared.fault.FormatFault.{FormatFault}
use Rattle.format_reading.specs.declared.fault.FormatKind.{FormatKind}
use Rattle.format_reading.specs.declared.fault.FormatKind.TheVariants as bad
use Rattle.format_reading.specs.Reader.{FormatReader, ReadsOr, u2, item, after_read, bind, give, here, settle}
use Rattle.class_model.specs.declared.pool.Entry.{Entry}
use Rattle.class_model.specs.Flags.{has_body, are_method_flags}
use Rattle.class_model.specs.Lookups.{test, good_text_at}
use Rattle.class_model.specs.MemberTypes.{method_type_at}
use Rattle.class_model.specs.ReadingAttributes.{counted_attributes}
use Rattle.class_model.specs.ReadingCodeAttribute.{is_there}
use Rattle.class_model.specs.ReadingMembers.{Signature, MethodSeen, MethodRead, no_method_attribute, body_of, method_of}
use Rattle.class_model.specs.ReadingMembers.{read_flags, fresh, read_method_info}
use Rattle.class_read.specs.bodies.Entries.{found_at}
use Rattle.class_read.specs.declared.methods.MethodHead.{MethodHead}
use Rattle.class_read.specs.bodies.Methods.{known_of, method_head}

-- the method of what was read
abbrev pub member : MethodHead × Signature → MethodSeen → MethodRead
member h seen = (method_of h.0.flags h.0.name h.0.ty seen, h.1, (body_of h.0.flags seen.body).1)

-- whether it has the Code that it has to have
abbrev pub whole : MethodHead → MethodSeen → Result (Unit {0}) FormatKind
whole head seen = test bad.BadAttribute (not (has_body head.flags) || is_there seen.body)

-- the fault of an answer
abbrev fault_in : {A : Type 0} → FormatFault → Result A FormatFault → FormatFault
fault_in f (Ok x) = f
fault_in f (Err e) = e

-- an offset at which nothing is at fault does not matter
at_free : {A B : Type 0} (one other : ℕ) (g : A → FormatReader B) (r : Result (A × Place) FormatFault)
    → after_read one (λ y. Ok (g y)) r ≡ after_read other (λ y. Ok (g y)) r
at_free one other g (Ok x) = refl
at_free one other g (Err f) = refl

stepped : {A B C : Type 0} (at : ℕ) (f : A → FormatReader B) (g : B → FormatReader C) (k : A → FormatReader C)
    → ((x : A) (q : Place) → k x q ≡ bind (f x) g q) → (r : Result (A × Place) FormatFault)
    → after_read at (λ x. Ok (k x)) r ≡ after_read at (λ y. Ok (g y)) (after_read at (λ x. Ok (f x)) r)
unfolding bind
stepped at f g k h (Ok x) = h x.0 x.1 ∙ at_free x.1.at at g (f x.0 x.1)
stepped at f g k h (Err e) = refl

-- what follows a value follows what ends with it
step : {A B C : Type 0} (r : FormatReader A) (f : A → FormatReader B) (g : B → FormatReader C) (k : A → FormatReader C)
    → ((x : A) (q : Place) → k x q ≡ bind (f x) g q) → (p : Place) → bind r k p ≡ bind (bind r f) g p
unfolding bind
step r f g k h p = stepped p.at f g k h (r p)

here_first : {A : Type 0} (k : ℕ → FormatReader A) (p : Place) → bind here k p ≡ k p.at p
unfolding bind here
here_first k p = refl

given_first : {A B : Type 0} (x : A) (g : A → FormatReader B) (p : Place) → g x p ≡ bind (give x) g p
unfolding bind give
given_first x g p = refl

module _ (pool : List Entry) (in_interface : Bool) (class : List ℕ) (before : List Signature) where
  -- the attributes behind what stands before them
  abbrev pub behind_head : ℕ → MethodHead × Signature → FormatReader MethodRead
  behind_head at h = bind (counted_attributes pool (known_of pool class h.0) no_method_attribute)
      (λ seen. bind (settle at (whole h.0 seen)) (λ passed. give (member h seen)))

  abbrev head_of : ℕ → List ℕ → MethodType → MethodHead × Signature
  head_of flags name ty = (record { flags = flags; name = name; ty = ty }, (name, method_text ty))

  abbrev from_type : ℕ → ℕ → List ℕ → MethodType → FormatReader (MethodHead × Signature)
  from_type at flags name ty = bind (fresh at before (name, method_text ty)) (λ alone. give (head_of flags name ty))

  abbrev from_name : ℕ → ℕ → List ℕ → FormatReader (MethodHead × Signature)
  from_name at flags name = bind (item u2 (method_type_at pool in_interface flags name)) (from_type at flags name)

  abbrev from_flags : ℕ → ℕ → FormatReader (MethodHead × Signature)
  from_flags at flags = bind (item u2 (good_text_at bad.BadName is_method_name pool)) (from_name at flags)

  abbrev from_start : ℕ → FormatReader (MethodHead × Signature)
  from_start at = bind (read_flags are_method_flags) (from_flags at)

  head_is : (p : Place) → method_head pool in_interface before p ≡ from_start p.at p
  unfolding method_head
  head_is p = here_first from_start p

  again : (p : Place) → bind (from_start p.at) (behind_head p.at) p
      ≡ bind (method_head pool in_interface before) (behind_head p.at) p
  unfolding bind
  again p = ap (after_read p.at (λ h. Ok (behind_head p.at h))) (sym (head_is p))

  -- a method is its head, and what stands behind it
  pub info_is : (p : Place)
      → read_method_info pool in_interface class before p
      ≡ bind (method_head pool in_interface before) (behind_head p.at) p
  unfolding read_method_info
  info_is p =
      here_first _ p
      ∙ step (read_flags are_method_flags) (from_flags p.at) (behind_head p.at) _ (λ flags q.
      step (item u2 (good_text_at bad.BadName is_method_name pool)) (from_name p.at flags) (behind_head p.at) _
      (λ name r.
      step (item u2 (method_type_at pool in_interface flags name)) (from_type p.at flags name) (behind_head p.at) _
      (λ ty s.
      step (fresh p.at before (name, method_text ty)) (λ alone. give (head_of flags name ty)) (behind_head p.at) _
      (λ alone t.
      given_first (head_of flags name ty) (behind_head p.at) t) s) r) q) p
      ∙ again p

  -- where the head is at fault, the method is
  head_fails : (p : Place) (f : FormatFault) → method_head pool in_interface before p ≡ Err f
      → read_method_info pool in_interface class before p ≡ Err f
  unfolding bind
  head_fails p f h = info_is p ∙ ap (after_read p.at (λ x. Ok (behind_head p.at x))) h

  headed : (p q : Place) (h : MethodHead × Signature) → method_head pool in_interface before p ≡ Ok (h, q)
      → read_method_info pool in_interface class before p ≡ behind_head p.at h q
  unfolding bind
  headed p q h k = info_is p ∙ ap (after_read p.at (λ x. Ok (behind_head p.at x))) k

  -- where its attributes are, the method is
  attributes_fail : (p q : Place) (h : MethodHead × Signature) (f : FormatFault)
      → method_head pool in_interface before p ≡ Ok (h, q)
      → counted_attributes pool (known_of pool class h.0) no_method_attribute q ≡ Err f
      → read_method_info pool in_interface class before p ≡ Err f
  unfolding bind
  attributes_fail p q h f k l = headed p q h k
      ∙ ap (after_read q.at (λ seen. Ok (bind (settle p.at (whole h.0 seen)) (λ passed. give (member h seen))))) l

  settles : (at : ℕ) (r : Place) (h : MethodHead × Signature) (seen : MethodSeen) (found : Result (Unit {0}) FormatKind)
      (f : FormatFault) → Err f ≡ found_at at found → bind (settle at found) (λ passed. give (member h seen)) r ≡ Err f
  unfolding bind settle
  settles at r h seen (Ok x) f e = absurd cc
  settles at r h seen (Err kind) f e = ap (λ x. let R : Result (MethodRead × Place) FormatFault = Err x in R)
      (sym (ap (fault_in f) e))

  passes : (at : ℕ) (r : Place) (h : MethodHead × Signature) (seen : MethodSeen) (found : Result (Unit {0}) FormatKind)
      → Ok tt ≡ found_at at found → bind (settle at found) (λ passed. give (member h seen)) r ≡ Ok (member h seen, r)
  unfolding bind settle give
  passes at r h seen (Ok x) e = refl
  passes at r h seen (Err kind) e = absurd cc

  with_seen : (p q r : Place) (h : MethodHead × Signature) (seen : MethodSeen)
      → method_head pool in_interface before p ≡ Ok (h, q)
      → counted_attributes pool (known_of pool class h.0) no_method_attribute q ≡ Ok (seen, r)
      → read_method_info pool in_interface class before p
      ≡ bind (settle p.at (whole h.0 seen)) (λ passed. give (member h seen)) r
  unfolding bind
  with_seen p q r h seen k l = headed p q h k
      ∙ ap (after_read q.at (λ s. Ok (bind (settle p.at (whole h.0 s)) (λ passed. give (member h s))))) l

  -- where a Code lacks, the method is
  pub code_lacks : (p q r : Place) (h : MethodHead × Signature) (seen : MethodSeen) (f : FormatFault)
      → method_head pool in_interface before p ≡ Ok (h, q)
      → counted_attributes pool (known_of pool class h.0) no_method_attribute q ≡ Ok (seen, r)
      → Err f ≡ found_at p.at (whole h.0 seen) → read_method_info pool in_interface class before p ≡ Err f
  code_lacks p q r h seen f k l e = with_seen p q r h seen k l ∙ settles p.at r h seen (whole h.0 seen) f e

  -- else it is the method of what was read
  pub is_read : (p q r : Place) (h : MethodHead × Signature) (seen : MethodSeen)
      → method_head pool in_interface before p ≡ Ok (h, q)
      → counted_attributes pool (known_of pool class h.0) no_method_attribute q ≡ Ok (seen, r)
      → Ok tt ≡ found_at p.at (whole h.0 seen)
      → read_method_info pool in_interface class before p ≡ Ok (member h seen, r)
  is_read p q r h seen k l e = with_seen p q r h seen k l ∙ passes p.at r h seen (whole h.0 seen) e

  -- the same, want of memory included
  pub head_ends : (e : Or FormatFault) (new q p : Place)
      → ReadsOr {T = MethodHead × Signature} (Err e) new (method_head pool in_interface before p)
      → ReadsOr {T = MethodRead} (Err e) q (read_method_info pool in_interface class before p)
  head_ends OutOfMemory new q p h = tt
  head_ends (Fault f) new q p h = head_fails p f h

  pub attributes_end : (e : Or FormatFault) (new q p r : Place) (h : MethodHead × Signature)
      → method_head pool in_interface before p ≡ Ok (h, r)
      → ReadsOr {T = MethodSeen} (Err e) new (counted_attributes pool (known_of pool class h.0) no_method_attribute r)
      → ReadsOr {T = MethodRead} (Err e) q (read_method_info pool in_interface class before p)
  attributes_end OutOfMemory new q p r h k l = tt
  attributes_end (Fault f) new q p r h k l = attributes_fail p r h f k l
