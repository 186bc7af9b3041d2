-- Files of bytes are a set that is taken, or there is a first fault.
use Rattle.std.proofs.Common.{◌≡◌, ◌⊎◌, inl, inr, ⊎_elim, ℕ, ◌+◌, ◌<◌, List, [], ◌∷◌, length, map}
use Rattle.std.proofs.Common.{Option, Some, None, Result, Ok, Err, refl, ap, arith, length-append}
use Rattle.std.specs.Prelude.{IfSome}
use Rattle.std.specs.List.{AllByRecursion}
use Rattle.std.proofs.lemmas.List.{length-map}
use Rattle.std.proofs.lemmas.Option.{slice_get_cases, slice_get_within}
use Rattle.tree_io.specs.declared.file_at.FileAt.{FileAt}
use Rattle.format_reading.specs.declared.fault.FormatFault.{FormatFault}
use Rattle.class_model.specs.ClassFile.{File}
use Rattle.class_model.specs.ReadingClass.{class_read}
use Rattle.class_model.specs.declared.class.Class.{Class}
use Rattle.class_pool.specs.Faults.{IsFirstCycle, classes_of, first_faults}
use Rattle.class_pool.specs.Supertypes.{NoCycle}
use Rattle.class_pool.specs.declared.fault.NamedClass.{NamedClass}
use Rattle.class_pool.specs.declared.fault.PoolFault.{PoolFault}
use Rattle.class_laws.specs.ReadingLaws.{AreBytes}
use Rattle.class_laws.proofs.ClassLaw.{class_read-found}
use Rattle.link_check.specs.Profile.{IsPlace, links_checked}
use Rattle.link_check.specs.declared.fault.ProfileFault.{ProfileFault}
use Rattle.report_text.specs.Spelled.{class_text, field_text, member_texts, method_text}
use Rattle.set_read.specs.Accepted.{AreRead, BreaksRule, IsAccepted, IsFault, IsUnread, NamesMember, NamesMethod}
use Rattle.set_read.specs.Accepted.{NamesPlace, named_pool_fault}
use Rattle.type_verifier.proofs.SetLaw.{fault_place, typed_or_fault}
use Rattle.type_verifier.specs.Verified as verified
use Rattle.type_verifier.specs.Verified.{AreTyped, IsSetFault}
use Rattle.type_verifier.specs.declared.fault.TypeFault.{TypeFault}
use Rattle.set_read.specs.declared.fault.RuleFault.{RuleFault}
use Rattle.set_read.specs.declared.fault.RuleKind.TheVariants as rule
use Rattle.set_read.specs.declared.fault.SetFault.{SetFault}
use Rattle.set_read.specs.declared.fault.SetFault.TheVariants.{Format, Rule}
use Rattle.shrink_command.proofs.SomeCycle.{cycle_or}
use Rattle.shrink_command.proofs.SomePlace.{place_of}

-- ---- the classes of files

-- files spell classes, or there is a first one that spells none
abbrev Reads : List FileAt → Type 0
Reads files = ((named : List NamedClass) × AreRead files named)
    ⊎ ((path : List ℕ) × (fault : FormatFault) × IsUnread files path fault)

read_more : (f : FileAt) (files : List FileAt) (c : Class) → File f.bytes c → Reads files → Reads (f ∷ files)
read_more f files c is (inl (named, read)) = inl (record { path = f.path; class = c } ∷ named, ((refl, is), read))
read_more f files c is (inr (path, fault, unread)) = inr (
  path,
  fault,
  record {
    before = f ∷ unread.before;
    file = unread.file;
    after = unread.after;
    split = ap (λ (fs : List FileAt). f ∷ fs) unread.split;
    readable = ((c, is), unread.readable);
    unread = unread.unread;
    named = unread.named;
  },
)

read_first : (f : FileAt) (files : List FileAt) → AreBytes f.bytes → (r : Result Class FormatFault)
    → class_read f.bytes ≡ r → Reads files
    → Reads (f ∷ files)
read_first f files fits (Ok c) e rest = read_more f files c (class_read-found f.bytes c fits e) rest
read_first f files fits (Err fault) e rest = inr (
  f.path,
  fault,
  record {
    before = [];
    file = f;
    after = files;
    split = refl;
    readable = tt;
    unread = e;
    named = refl;
  },
)

abbrev FilesAreBytes : List FileAt → Type 0
FilesAreBytes files = AllByRecursion (λ (f : FileAt). AreBytes f.bytes) files

read_or : (files : List FileAt) → FilesAreBytes files → Reads files
read_or [] fit = inl ([], tt)
read_or (f ∷ files) fit = read_first f files fit.0 (class_read f.bytes) refl (read_or files fit.1)

-- ---- the rules

member_or : (c : Class) (number : Option ℕ) → IfSome number (λ n. n < length c.fields + length c.methods)
    → (text : Option (List ℕ)) × NamesMember c number text
member_or c None within = (None, tt)
member_or c (Some n) within =
    let fields = length-map c.fields field_text in
    let methods = length-map c.methods method_text in
    let both = length-append (map field_text c.fields) (map method_text c.methods) in
    ⊎_elim (λ p. (Some p.0, p.2)) (λ p. (let most = p.0 in absurd (omega (arith, most, within, fields, methods, both))))
    (slice_get_cases (member_texts c) n).1

place_named : (classes : List Class) (fault : ProfileFault) → IsPlace classes fault
    → (told : RuleFault) × NamesPlace classes fault told
place_named classes fault (c, is, within) =
    let member = member_or c fault.member within in (
      record { class = class_text c; member = member.0; kind = rule.Profile fault.kind },
      record { class = c; there = is; name = refl; member = member.1; kind = refl },
    )

method_named : (classes : List Class) (fault : TypeFault) → verified.IsPlace classes fault
    → (told : RuleFault) × NamesMethod classes fault told
method_named classes fault (c, is, m, at) =
    let low = slice_get_within c.methods fault.method m at in
    let member = member_or c (Some (length c.fields + fault.method)) (omega (arith, low)) in (
      record { class = class_text c; member = member.0; kind = rule.Type fault.kind },
      record { class = c; there = is; name = refl; member = member.1; kind = refl },
    )

-- classes break no rule, or a first one
abbrev Judged : List NamedClass → Type 0
Judged named = ((first_faults named ≡ Ok tt) × NoCycle (classes_of named) × (links_checked (classes_of named) ≡ Ok tt)
    × AreTyped (classes_of named))
    ⊎ ((told : RuleFault) × BreaksRule named told)

judged_codes : (named : List NamedClass) → first_faults named ≡ Ok tt → NoCycle (classes_of named)
    → links_checked (classes_of named) ≡ Ok tt
    → AreTyped (classes_of named) ⊎ ((f : TypeFault) × IsSetFault (classes_of named) f) → Judged named
judged_codes named first acyclic linked (inl typed) = inl (first, acyclic, linked, typed)
judged_codes named first acyclic linked (inr (fault, e)) =
    let place = method_named (classes_of named) fault (fault_place (classes_of named) fault e) in
    inr (place.0, inr ((first, acyclic, refl), inr (fault, linked, e, place.1)))

judged_links : (named : List NamedClass) → first_faults named ≡ Ok tt → NoCycle (classes_of named)
    → (r : Result (Unit {0}) ProfileFault) → links_checked (classes_of named) ≡ r → Judged named
judged_links named first acyclic (Ok _) e =
    judged_codes named first acyclic e (typed_or_fault (classes_of named))
judged_links named first acyclic (Err fault) e =
    let place = place_named (classes_of named) fault (place_of (classes_of named) fault e) in
    inr (place.0, inr ((first, acyclic, refl), inl (fault, e, place.1)))

judged_cycles : (named : List NamedClass) → first_faults named ≡ Ok tt
    → NoCycle (classes_of named) ⊎ ((f : PoolFault) × IsFirstCycle (classes_of named) f) → Judged named
judged_cycles named first (inl acyclic) = judged_links named first acyclic (links_checked (classes_of named)) refl
judged_cycles named first (inr (f, cyclic)) = inr (named_pool_fault f, inl (f, inr (first, cyclic), refl))

judged_first : (named : List NamedClass) (r : Result (Unit {0}) PoolFault) → first_faults named ≡ r → Judged named
judged_first named (Ok _) e = judged_cycles named e (cycle_or (classes_of named))
judged_first named (Err f) e = inr (named_pool_fault f, inl (f, inl e, refl))

-- ---- the set

set_judged : (files : List FileAt) (named : List NamedClass) → AreRead files named → Judged named
    → ((classes : List Class) × IsAccepted files classes) ⊎ ((fault : SetFault) × IsFault files fault)
set_judged files named read (inl (first, acyclic, linked, typed)) = inl (
  classes_of named,
  record {
    named = named;
    read = read;
    are = refl;
    first = first;
    acyclic = acyclic;
    linked = linked;
    typed = typed;
  },
)
set_judged files named read (inr (told, broken)) = inr (Rule told, (named, read, broken))

set_read : (files : List FileAt) → Reads files
    → ((classes : List Class) × IsAccepted files classes) ⊎ ((fault : SetFault) × IsFault files fault)
set_read files (inl (named, read)) = set_judged files named read (judged_first named (first_faults named) refl)
set_read files (inr (path, fault, unread)) = inr (Format path fault, unread)

pub set_or : (files : List FileAt) → FilesAreBytes files
    → ((classes : List Class) × IsAccepted files classes) ⊎ ((fault : SetFault) × IsFault files fault)
set_or files fit = set_read files (read_or files fit)
