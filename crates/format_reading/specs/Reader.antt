-- Reading from left to right, with the first fault that is met (the project's own: JVMS 4 has no order of faults).
use Rattle.std.specs.Prelude.{◌≡◌, ℕ, zero, suc, List, [], ◌∷◌, ◌++◌, Result, Ok, Err, ◌==◌, if◌then◌else◌}
use Rattle.std.specs.Int.{w8, w16, w32}
use Rattle.jv_base.specs.declared.cursor.End.{End}
use Rattle.jv_base.specs.Place.{Place, number_at, taken_at, part_at}
use Rattle.jv_base.specs.declared.outcome.Or.{Or}
use Rattle.jv_base.specs.Outcome.{Gives}
use Rattle.format_reading.specs.Fault.{cut, fault, inside}
use Rattle.format_reading.specs.declared.fault.FormatFault.{FormatFault}
use Rattle.format_reading.specs.declared.fault.FormatKind.{FormatKind}
use Rattle.format_reading.specs.declared.fault.FormatKind.TheVariants.{BadAttribute}

-- the value that stands at a place and the place behind it, or the first fault
abbrev pub Reader : Type 0 → Type 0 → Type 0
Reader A X = Place → Result (A × Place) X

-- the same of class files, whose faults are told by their offsets
abbrev pub FormatReader : Type 0 → Type 0
FormatReader A = Reader A FormatFault

-- what came, seen by view, is what is read, and the place is the one behind it; nothing is said of the place after a
-- fault
abbrev pub ReadsAs : {T V X : Type 0} → (T → V) → Result T X → Place → Result (V × Place) X → Type 0
ReadsAs view (Ok x) new due = due ≡ Ok (view x, new)
ReadsAs view (Err f) new due = due ≡ Err f

-- the same of a call that takes memory; want of it is free (the project's own: want of memory is an answer)
abbrev pub ReadsAsOr : {T V X : Type 0} → (T → V) → Result T (Or X) → Place → Result (V × Place) X → Type 0
ReadsAsOr view result new due = Gives (λ x. (view x, new)) result due

-- both where contracts see the value itself
abbrev pub Reads : {T X : Type 0} → Result T X → Place → Result (T × Place) X → Type 0
Reads result new due = ReadsAs (λ x. x) result new due

abbrev pub ReadsOr : {T X : Type 0} → Result T (Or X) → Place → Result (T × Place) X → Type 0
ReadsOr result new due = ReadsAsOr (λ x. x) result new due

-- ---- what any format has

-- what a value that was read leads to; a fault stays
abbrev pub on_read : {A B X : Type 0} → (A → Reader B X) → Result (A × Place) X → Result (B × Place) X
on_read f (Ok x) = f x.0 x.1
on_read f (Err e) = Err e

-- an item, and then more
unfoldable pub bind : {A B X : Type 0} → Reader A X → (A → Reader B X) → Reader B X
bind r f p = on_read f (r p)

-- the same, for steps written one below the other
infixl 10 ◌>>=◌
abbrev pub ◌>>=◌ : {A B X : Type 0} → Reader A X → (A → Reader B X) → Reader B X
r >>= f = bind r f

-- a value for which no byte stands
unfoldable pub give : {A X : Type 0} → A → Reader A X
give x p = Ok (x, p)

-- the offset
unfoldable pub here : {X : Type 0} → Reader ℕ X
here p = Ok (p.at, p)

-- a value that was found, or its fault, at any place
unfoldable pub of_result : {A X : Type 0} → Result A X → Reader A X
of_result (Ok x) p = Ok (x, p)
of_result (Err f) p = Err f

-- n values, one behind the other
unfoldable pub many : {A X : Type 0} → ℕ → Reader A X → Reader (List A) X
many zero r = give []
many (suc n) r = do
  first ← r
  others ← many n r
  give (first ∷ others)

-- what is read, behind what was read before (only the proofs of loops that read items need it)
abbrev pub behind : {A X : Type 0} → List A → Result (List A × Place) X → Result (List A × Place) X
behind front (Ok x) = Ok (front ++ x.0, x.1)
behind front (Err f) = Err f

-- ---- class files

-- too few bytes are a fault
abbrev pub or_cut : {A : Type 0} → Result A End → Result A FormatFault
or_cut (Ok x) = Ok x
or_cut (Err e) = Err (cut e)

-- an unsigned byte (JVMS 4)
unfoldable pub u1 : FormatReader ℕ
u1 p = or_cut (number_at w8 p)

-- an unsigned number of two bytes (JVMS 4)
unfoldable pub u2 : FormatReader ℕ
u2 p = or_cut (number_at w16 p)

-- an unsigned number of four bytes (JVMS 4)
unfoldable pub u4 : FormatReader ℕ
u4 p = or_cut (number_at w32 p)

-- the next n bytes (JVMS 4)
unfoldable pub bytes : ℕ → FormatReader (List ℕ)
bytes n p = or_cut (taken_at n p)

-- the reader that an item leads to, or the fault at the item's offset
abbrev pub onwards : {B : Type 0} → ℕ → Result (FormatReader B) FormatKind → FormatReader B
onwards at (Ok r) p = r p
onwards at (Err kind) p = Err (fault at kind)

-- what an item that was read leads to; its fault stays
abbrev pub after_read : {A B : Type 0} → ℕ → (A → Result (FormatReader B) FormatKind) → Result (A × Place) FormatFault
    → Result (B × Place) FormatFault
after_read at f read = on_read (λ x. onwards at (f x)) read

-- an item, and then what it leads to, or a fault at the item
unfoldable pub lead : {A B : Type 0} → FormatReader A → (A → Result (FormatReader B) FormatKind) → FormatReader B
lead r f p = after_read p.at f (r p)

-- a value as the reader that gives it
abbrev pub given : {A : Type 0} → Result A FormatKind → Result (FormatReader A) FormatKind
given (Ok x) = Ok (give x)
given (Err kind) = Err kind

-- an item's meaning, or the fault at the item
abbrev pub item : {A B : Type 0} → FormatReader A → (A → Result B FormatKind) → FormatReader B
item r f = lead r (λ x. given (f x))

-- a value that was found, or a fault at an offset before
unfoldable pub settle : {A : Type 0} → ℕ → Result A FormatKind → FormatReader A
settle at (Ok x) p = Ok (x, p)
settle at (Err kind) p = Err (fault at kind)

-- what was read of a part that ends at a place: all of it, else the attribute is at fault
abbrev pub closed : {A : Type 0} → ℕ → Place → Result (A × Place) FormatFault → Result (A × Place) FormatFault
closed attribute end (Ok x) = if x.1.at == end.at then Ok (x.0, end) else Err (fault attribute BadAttribute)
closed attribute end (Err f) = Err (inside attribute f)

-- what a reader makes of a part that was taken
abbrev pub in_part : {A : Type 0} → ℕ → FormatReader A → Result (Place × Place) FormatFault
    → Result (A × Place) FormatFault
in_part attribute r (Ok places) = closed attribute places.1 (r places.0)
in_part attribute r (Err f) = Err f

-- the next n bytes, read in place as a part of the attribute at an offset, all of them
unfoldable pub part : {A : Type 0} → ℕ → ℕ → FormatReader A → FormatReader A
part attribute n r p = in_part attribute r (or_cut (part_at n p))
