-- What lines tell, added one by one, is what they tell together.
use Rattle.std.proofs.Common.{◌≡◌, ◌≢◌, ℕ, Bool, true, false, cond, ◌||◌, List, [], ◌∷◌, ◌++◌, map, Option, Some, None}
use Rattle.std.proofs.Common.{Result, Ok, Err, refl, sym, ap, subst, ◌∙◌, append_assoc, inl, inr}
use Rattle.std.specs.List.{AllByRecursion, cons_option, filter_map, list_any}
use Rattle.std.specs.Option.{option_to_list}
use Rattle.std.proofs.lemmas.Bool.{or_parts, cases_Bool}
use Rattle.std.proofs.lemmas.List.{append-nil}
use Rattle.jv_base.specs.Names.{is_text}
use Rattle.jv_base.specs.Outcome.{◌>>=◌}
use Rattle.jv_base.proofs.Equality.{text_Decides}
use Rattle.jv_base.proofs.Lists.{all_append, all_split}
use Rattle.text_lines.proofs.ReadLines.{adds, bind_ok}
use Rattle.mapping_file.specs.MapReading.{with_line, all_classes, empty_class, has_name, in_last, nothing, with_field}
use Rattle.mapping_file.specs.MapReading.{with_method}
use Rattle.mapping_file.specs.Mappings.{AreApart, HasOtherNames, IsMember, TellClasses, TellMembers, field_in}
use Rattle.mapping_file.specs.Mappings.{method_in}
use Rattle.mapping_file.specs.declared.line.MapLine.{MapLine}
use Rattle.mapping_file.specs.declared.line.MapLine.TheVariants as line
use Rattle.mapping_file.specs.declared.mapping.MapClass.{MapClass}
use Rattle.mapping_file.specs.declared.mapping.MapField.{MapField}
use Rattle.mapping_file.specs.declared.mapping.MapKind.{MapKind}
use Rattle.mapping_file.specs.declared.mapping.MapKind.TheVariants.{Repeated}
use Rattle.mapping_file.specs.declared.mapping.MapMethod.{MapMethod}
use Rattle.mapping_file.specs.declared.reading.ClassesRead.{ClassesRead}

-- ---- lists

pub filtered : {A B : Type 0} (f : A → Option B) (xs ys : List A)
    → filter_map f (xs ++ ys) ≡ filter_map f xs ++ filter_map f ys
filtered f [] ys = refl
filtered {A} {B} f (x ∷ xs) ys = by (f x) (filtered f xs ys)
  where
    by : (o : Option B) → filter_map f (xs ++ ys) ≡ filter_map f xs ++ filter_map f ys
        → cons_option o (filter_map f (xs ++ ys)) ≡ cons_option o (filter_map f xs) ++ filter_map f ys
    by None h = h
    by (Some y) h = ap (λ (l : List B). y ∷ l) h

-- ---- names

-- no class has one of the names
abbrev HasNone : List MapClass → List ℕ → List ℕ → Type 0
HasNone cs old new = AllByRecursion (λ (c : MapClass). (c.old ≢ old) × (c.new ≢ new)) cs

other_text : (x y : List ℕ) → is_text x y ≡ false → y ≢ x
other_text x y h e =
    let yes : is_text x y ≡ true = (text_Decides x y).1 (sym e) in let f : false ≡ true = sym h ∙ yes in absurd cc

none_has : (cs : List MapClass) (old new : List ℕ) → list_any (λ (c : MapClass). is_text old c.old) cs ≡ false
    → list_any (λ (c : MapClass). is_text new c.new) cs ≡ false → HasNone cs old new
none_has [] old new p q = tt
none_has (c ∷ cs) old new p q =
    let a = or_parts (is_text old c.old) (list_any (λ (d : MapClass). is_text old d.old) cs) p in
    let b = or_parts (is_text new c.new) (list_any (λ (d : MapClass). is_text new d.new) cs) q in
    ((other_text old c.old a.0, other_text new c.new b.0), none_has cs old new a.1 b.1)

has_none : (cs : List MapClass) (old new : List ℕ) → has_name cs old new ≡ false → HasNone cs old new
has_none cs old new h =
    let p = or_parts (list_any (λ (c : MapClass). is_text old c.old) cs)
    (list_any (λ (c : MapClass). is_text new c.new) cs) h in
    none_has cs old new p.0 p.1

not_text : (x y : List ℕ) → y ≢ x → is_text x y ≡ false
not_text x y h = elim (cases_Bool (is_text x y)) [
  | inl same ↦ absurd (h (sym ((text_Decides x y).0 same)))
  | inr other ↦ other
]

none_old : (cs : List MapClass) (old new : List ℕ) → HasNone cs old new
    → list_any (λ (c : MapClass). is_text old c.old) cs ≡ false
none_old [] old new h = refl
none_old (c ∷ cs) old new h = rw (not_text old c.old h.0.0) (none_old cs old new h.1)

none_new : (cs : List MapClass) (old new : List ℕ) → HasNone cs old new
    → list_any (λ (c : MapClass). is_text new c.new) cs ≡ false
none_new [] old new h = refl
none_new (c ∷ cs) old new h = rw (not_text new c.new h.0.1) (none_new cs old new h.1)

has_no_name : (cs : List MapClass) (old new : List ℕ) → HasNone cs old new → has_name cs old new ≡ false
has_no_name cs old new h = rw (none_old cs old new h, none_new cs old new h) refl

-- one more class with names of its own
apart_more : (cs : List MapClass) (d : MapClass) → AreApart cs → HasNone cs d.old d.new → AreApart (cs ++ d ∷ [])
apart_more [] d a n = (tt, tt)
apart_more (c ∷ cs) d a n = (all_append (HasOtherNames c) cs (d ∷ []) a.0 (n.0, tt), apart_more cs d a.1 n.1)

-- the last class with other members
apart_last : (cs : List MapClass) (c d : MapClass) → d.old ≡ c.old → d.new ≡ c.new → AreApart (cs ++ c ∷ [])
    → AreApart (cs ++ d ∷ [])
apart_last [] c d o n a = (tt, tt)
apart_last (b ∷ cs) c d o n a =
    let p = all_split (HasOtherNames b) cs (c ∷ []) a.0 in (
      all_append (HasOtherNames b) cs (d ∷ []) p.0
          ((subst (λ (x : List ℕ). b.old ≢ x) (sym o) p.1.0.0, subst (λ (x : List ℕ). b.new ≢ x) (sym n) p.1.0.1), tt),
      apart_last cs c d o n a.1,
    )

-- the classes before one have other names
before_one : (ds : List MapClass) (c : MapClass) (cs : List MapClass) → AreApart (ds ++ c ∷ cs) → HasNone ds c.old c.new
before_one [] c cs a = tt
before_one (d ∷ ds) c cs a = let p = all_split (HasOtherNames d) ds (c ∷ cs) a.0 in (p.1.0, before_one ds c cs a.1)

-- ---- one more line

no_members : (old new : List ℕ) → TellMembers [] (empty_class old new)
no_members old new = record { members = tt; fields = refl; methods = refl }

-- of a class
tell_class : (ls : List MapLine) (cs : List MapClass) (old new : List ℕ) → TellClasses ls cs
    → TellClasses (ls ++ line.Class old new ∷ []) (cs ++ empty_class old new ∷ [])
tell_class ls [] old new t =
    ([], [], ap (λ (l : List MapLine). l ++ line.Class old new ∷ []) t, no_members old new, refl)
tell_class ls (c ∷ cs) old new t = (
  t.0,
  t.1 ++ line.Class old new ∷ [],
  ap (λ (l : List MapLine). l ++ line.Class old new ∷ []) t.2
      ∙ ap (λ (l : List MapLine). line.Class c.old c.new ∷ l) (append_assoc t.0 t.1 (line.Class old new ∷ [])),
  t.3,
  tell_class t.1 cs old new t.4,
)

-- of a member
tell_member : (ls : List MapLine) (cs : List MapClass) (c d : MapClass) (x : MapLine) → d.old ≡ c.old → d.new ≡ c.new
    → ((ms : List MapLine) → TellMembers ms c → TellMembers (ms ++ x ∷ []) d) → TellClasses ls (cs ++ c ∷ [])
    → TellClasses (ls ++ x ∷ []) (cs ++ d ∷ [])
tell_member ls [] c d x o n more t = (
  t.0 ++ x ∷ [],
  [],
  ap (λ (l : List MapLine). l ++ x ∷ []) (t.2 ∙ ap (λ (l : List MapLine). line.Class c.old c.new ∷ (t.0 ++ l)) t.4
      ∙ ap (λ (l : List MapLine). line.Class c.old c.new ∷ l) (append-nil t.0))
      ∙ ap (λ (y : List ℕ). line.Class y c.new ∷ (t.0 ++ x ∷ [])) (sym o)
      ∙ ap (λ (y : List ℕ). line.Class d.old y ∷ (t.0 ++ x ∷ [])) (sym n)
      ∙ ap (λ (l : List MapLine). line.Class d.old d.new ∷ l) (sym (append-nil (t.0 ++ x ∷ []))),
  more t.0 t.3,
  refl,
)
tell_member ls (b ∷ cs) c d x o n more t = (
  t.0,
  t.1 ++ x ∷ [],
  ap (λ (l : List MapLine). l ++ x ∷ []) t.2
      ∙ ap (λ (l : List MapLine). line.Class b.old b.new ∷ l) (append_assoc t.0 t.1 (x ∷ [])),
  t.3,
  tell_member t.1 cs c d x o n more t.4,
)

one_field : (f : MapField) (c : MapClass) (ms : List MapLine) → TellMembers ms c
    → TellMembers (ms ++ line.Field f ∷ []) (with_field f c)
one_field f c ms t = record {
  members = all_append IsMember ms (line.Field f ∷ []) t.members (tt, tt);
  fields = filtered field_in ms (line.Field f ∷ []) ∙ ap (λ (l : List MapField). l ++ f ∷ []) t.fields;
  methods = filtered method_in ms (line.Field f ∷ []) ∙ append-nil (filter_map method_in ms) ∙ t.methods;
}

one_method : (m : MapMethod) (c : MapClass) (ms : List MapLine) → TellMembers ms c
    → TellMembers (ms ++ line.Method m ∷ []) (with_method m c)
one_method m c ms t = record {
  members = all_append IsMember ms (line.Method m ∷ []) t.members (tt, tt);
  fields = filtered field_in ms (line.Method m ∷ []) ∙ append-nil (filter_map field_in ms) ∙ t.fields;
  methods = filtered method_in ms (line.Method m ∷ []) ∙ ap (λ (l : List MapMethod). l ++ m ∷ []) t.methods;
}

-- what lines told, with names of their own
pub record Tells (ls : List MapLine) (r : ClassesRead) : Type 0 where
  pub classes : TellClasses ls (all_classes r)
  pub apart : AreApart (all_classes r)

field_added : (ls : List MapLine) (before : List MapClass) (last : Option MapClass) (f : MapField) (s : ClassesRead)
    → Tells ls (record { before = before; last = last }) → in_last before last (with_field f) ≡ Ok s
    → Tells (ls ++ line.Field f ∷ []) s
field_added ls before None f s t h = absurd cc
field_added ls before (Some c) f s t h =
    let is : record { before = before; last = Some (with_field f c) } ≡ s = cc in
    subst (Tells (ls ++ line.Field f ∷ [])) is (record {
      classes = tell_member ls before c (with_field f c) (line.Field f) refl refl (one_field f c) t.classes;
      apart = apart_last before c (with_field f c) refl refl t.apart;
    })

method_added : (ls : List MapLine) (before : List MapClass) (last : Option MapClass) (m : MapMethod) (s : ClassesRead)
    → Tells ls (record { before = before; last = last }) → in_last before last (with_method m) ≡ Ok s
    → Tells (ls ++ line.Method m ∷ []) s
method_added ls before None m s t h = absurd cc
method_added ls before (Some c) m s t h =
    let is : record { before = before; last = Some (with_method m c) } ≡ s = cc in
    subst (Tells (ls ++ line.Method m ∷ [])) is (record {
      classes = tell_member ls before c (with_method m c) (line.Method m) refl refl (one_method m c) t.classes;
      apart = apart_last before c (with_method m c) refl refl t.apart;
    })

class_added : (ls : List MapLine) (old new : List ℕ) (r s : ClassesRead) → Tells ls r
    → with_line (line.Class old new) r ≡ Ok s
    → Tells (ls ++ line.Class old new ∷ []) s
class_added ls old new r s t h = by (has_name (all_classes r) old new) refl h
  where
    by : (b : Bool) → has_name (all_classes r) old new ≡ b
        → cond b (Err Repeated) (Ok (record { before = all_classes r; last = Some (empty_class old new) })) ≡ Ok s
        → Tells (ls ++ line.Class old new ∷ []) s
    by true e k = absurd cc
    by false e k =
        let is : record { before = all_classes r; last = Some (empty_class old new) } ≡ s = cc in
        subst (Tells (ls ++ line.Class old new ∷ [])) is (record {
          classes = tell_class ls (all_classes r) old new t.classes;
          apart = apart_more (all_classes r) (empty_class old new) t.apart (has_none (all_classes r) old new e);
        })

one_added : (ls : List MapLine) (x : MapLine) (r s : ClassesRead) → Tells ls r → with_line x r ≡ Ok s
    → Tells (ls ++ x ∷ []) s
one_added ls (line.Class old new) r s t h = class_added ls old new r s t h
one_added ls (line.Field f) r s t h = field_added ls r.before r.last f s t h
one_added ls (line.Method m) r s t h = method_added ls r.before r.last m s t h

all_added : (ls xs : List MapLine) (r s : ClassesRead) → Tells ls r → adds with_line xs r ≡ Ok s → Tells (ls ++ xs) s
all_added ls [] r s t h =
    let is : r ≡ s = cc in subst (λ (l : List MapLine). Tells l s) (sym (append-nil ls)) (subst (Tells ls) is t)
all_added ls (x ∷ xs) r s t h =
    let b = bind_ok (with_line x r) (λ u. adds with_line xs u) s h in
    subst (λ (l : List MapLine). Tells l s) (append_assoc ls (x ∷ []) xs)
    (all_added (ls ++ x ∷ []) xs b.0 s (one_added ls x r b.0 t b.1) b.2)

-- lines that were added one by one tell what was read
pub told_by : (xs : List MapLine) (s : ClassesRead) → adds with_line xs nothing ≡ Ok s → Tells xs s
told_by xs s h = all_added [] xs nothing s (record { classes = refl; apart = tt }) h

-- ---- lines that tell classes can be added one by one

-- a class with more members
abbrev joined : MapClass → List MapField → List MapMethod → MapClass
joined c fs ms = record { old = c.old; new = c.new; fields = c.fields ++ fs; methods = c.methods ++ ms }

joined_field : (c : MapClass) (f : MapField) (fs : List MapField) (ms : List MapMethod)
    → joined (with_field f c) fs ms ≡ joined c (f ∷ fs) ms
joined_field c f fs ms =
    ap (λ (l : List MapField). let C : MapClass =
    record { old = c.old; new = c.new; fields = l; methods = c.methods ++ ms } in C)
    (append_assoc c.fields (f ∷ []) fs)

joined_method : (c : MapClass) (m : MapMethod) (fs : List MapField) (ms : List MapMethod)
    → joined (with_method m c) fs ms ≡ joined c fs (m ∷ ms)
joined_method c m fs ms =
    ap (λ (l : List MapMethod). let C : MapClass =
    record { old = c.old; new = c.new; fields = c.fields ++ fs; methods = l } in C)
    (append_assoc c.methods (m ∷ []) ms)

abbrev read_to : List MapClass → MapClass → Result ClassesRead MapKind
read_to before c = Ok (record { before = before; last = Some c })

members_added : (before : List MapClass) (c : MapClass) (ls : List MapLine) → AllByRecursion IsMember ls
    → adds with_line ls (record { before = before; last = Some c })
    ≡ read_to before (joined c (filter_map field_in ls) (filter_map method_in ls))
members_added before c [] h =
    ap (read_to before)
    (λ i. record {
      old = c.old;
      new = c.new;
      fields = sym (append-nil c.fields) i;
      methods = sym (append-nil c.methods) i;
    })
members_added before c (line.Class old new ∷ ls) h = absurd h.0
members_added before c (line.Field f ∷ ls) h =
    members_added before (with_field f c) ls h.1
    ∙ ap (read_to before) (joined_field c f (filter_map field_in ls) (filter_map method_in ls))
members_added before c (line.Method m ∷ ls) h =
    members_added before (with_method m c) ls h.1
    ∙ ap (read_to before) (joined_method c m (filter_map field_in ls) (filter_map method_in ls))

adds_append : (xs ys : List MapLine) (r s : ClassesRead) → adds with_line xs r ≡ Ok s
    → adds with_line (xs ++ ys) r ≡ adds with_line ys s
adds_append [] ys r s h = let is : r ≡ s = cc in ap (adds with_line ys) is
adds_append (x ∷ xs) ys r s h =
    let b = bind_ok (with_line x r) (λ u. adds with_line xs u) s h in
    ap (λ (o : Result ClassesRead MapKind). o >>= (λ u. adds with_line (xs ++ ys) u)) b.1 ∙ adds_append xs ys b.0 s b.2

class_begun : (c : MapClass) (r : ClassesRead) → HasNone (all_classes r) c.old c.new
    → with_line (line.Class c.old c.new) r ≡ read_to (all_classes r) (empty_class c.old c.new)
class_begun c r h = rw (has_no_name (all_classes r) c.old c.new h) refl

class_whole : (c : MapClass) (ls : List MapLine) → TellMembers ls c
    → joined (empty_class c.old c.new) (filter_map field_in ls) (filter_map method_in ls) ≡ c
class_whole c ls t = λ i. record { old = c.old; new = c.new; fields = t.fields i; methods = t.methods i }

-- classes behind others
classes_added : (ls : List MapLine) (cs : List MapClass) (r : ClassesRead) → TellClasses ls cs
    → AreApart (all_classes r ++ cs)
    → (s : ClassesRead) × (adds with_line ls r ≡ Ok s) × (all_classes s ≡ all_classes r ++ cs)
classes_added ls [] r t a = (r, ap (λ (l : List MapLine). adds with_line l r) t, sym (append-nil (all_classes r)))
classes_added ls (c ∷ cs) r t a =
    let next : ClassesRead = record { before = all_classes r; last = Some c } in
    let first = class_begun c r (before_one (all_classes r) c cs a) in
    let members : adds with_line t.0 (record { before = all_classes r; last = Some (empty_class c.old c.new) })
    ≡ Ok (record { before = all_classes r; last = Some c })
    = members_added (all_classes r) (empty_class c.old c.new) t.0 t.3.members
    ∙ ap (read_to (all_classes r)) (class_whole c t.0 t.3) in
    let apart = subst AreApart (sym (append_assoc (all_classes r) (c ∷ []) cs)) a in
    let more = classes_added t.1 cs (record { before = all_classes r; last = Some c }) t.4 apart in (
      more.0,
      ap (λ (l : List MapLine). adds with_line l r) t.2
          ∙ ap (λ (o : Result ClassesRead MapKind). o >>= (λ u. adds with_line (t.0 ++ t.1) u)) first
          ∙ adds_append t.0 t.1 (record { before = all_classes r; last = Some (empty_class c.old c.new) })
          (record { before = all_classes r; last = Some c }) members
          ∙ more.1,
      more.2 ∙ append_assoc (all_classes r) (c ∷ []) cs,
    )

-- what lines tell is read
pub told_only : (xs : List MapLine) (cs : List MapClass) → TellClasses xs cs → AreApart cs
    → (s : ClassesRead) × (adds with_line xs nothing ≡ Ok s) × (all_classes s ≡ cs)
told_only xs cs t a = classes_added xs cs nothing t a
