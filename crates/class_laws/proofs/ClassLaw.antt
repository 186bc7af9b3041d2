-- A class file is read exactly where its bytes spell the class (JVMS 4.1).
use Rattle.std.proofs.Common.{◌≡◌, ℕ, suc, ◌+◌, ◌^◌, ◌<◌, Bool, true, false, cond, eqb, List, [], ◌∷◌, ◌++◌, length}
use Rattle.std.proofs.Common.{Option, Result, Ok, Err, refl, sym, ap, subst, ◌∙◌, append_assoc, arith}
use Rattle.std.specs.Int.{w16, w32, to_be_bytes}
use Rattle.std.specs.List.{AllZip, flat_map}
use Rattle.std.proofs.lemmas.Bool.{eqb-true, eq-eqb}
use Rattle.std.proofs.lemmas.List.{append-nil, length-drop, drop_all, nil_from_length}
use Rattle.jv_base.specs.Place.{Place, start, after}
use Rattle.format_reading.specs.Fault.{fault}
use Rattle.format_reading.specs.declared.fault.FormatFault.{FormatFault}
use Rattle.format_reading.specs.declared.fault.FormatKind.{FormatKind}
use Rattle.format_reading.specs.declared.fault.FormatKind.TheVariants as bad
use Rattle.format_reading.specs.Reader.{FormatReader, u2, item, bind, give}
use Rattle.format_reading.specs.Spelling.{Spells}
use Rattle.format_reading.proofs.Exact.{Exact, Takes, IsBytes, left, as_raw, bind_exact, bind_exact_of, item_exact}
use Rattle.format_reading.proofs.Exact.{map_exact, u2_exact, u4_exact, guard_closed}
use Rattle.class_model.specs.declared.pool.Entry.{Entry}
use Rattle.class_model.specs.declared.pool.Entry.TheVariants as entry
use Rattle.class_model.specs.declared.class.Field.{Field}
use Rattle.class_model.specs.declared.class.Method.{Method}
use Rattle.class_model.specs.declared.class.Class.{Class}
use Rattle.class_model.specs.declared.class.LeftKind.{LeftKind}
use Rattle.class_model.specs.Pool.{IsClassAt}
use Rattle.class_model.specs.Structure.{AttributeInfo, MemberInfo, member_info, head}
use Rattle.class_model.specs.ConstantPool.{CpInfo, places_of, IsPool}
use Rattle.class_model.specs.Flags.{class_mask, defined_flags, are_class_flags, is_interface, flags_of}
use Rattle.class_model.specs.Members.{IsField, FieldsDiffer, MethodsDiffer}
use Rattle.class_model.specs.ClassFile.{ClassFile, class_file, AreMethods, IsClass, File, left_out_of_class}
use Rattle.class_model.specs.ClassFile.{first_left_out}
use Rattle.class_model.specs.Lookups.{test, class_at}
use Rattle.class_model.specs.ReadingPool.{read_pool}
use Rattle.class_model.specs.ReadingAttributes.{counted_attributes}
use Rattle.class_model.specs.ReadingMembers.{read_fields, read_methods}
use Rattle.class_model.specs.ReadingClass.{wanted, read_head, ClassSeen, no_class_attribute, known_of_class}
use Rattle.class_model.specs.ReadingClass.{read_all_fields, read_all_methods, read_interfaces, class_of}
use Rattle.class_model.specs.ReadingClass.{read_class_file, all_read, class_read}
use Rattle.class_model.proofs.NameLaw.{HaveUnits}
use Rattle.class_model.proofs.LookupLaw.{class_found, class_only}
use Rattle.class_model.proofs.PoolLaw.{pool_bytes, pool_exact}
use Rattle.class_model.proofs.ConstantLaw.{AllNameRight}
use Rattle.class_model.proofs.GoodPool.{pool_units, pool_names}
use Rattle.class_model.proofs.ClassAttributeLaw.{AreClassAttributes, class_attributes_exact}
use Rattle.class_model.proofs.FieldInfoLaw.{index_then, table, passed_is, fields_exact}
use Rattle.class_model.proofs.MethodAttributeLaw.{counted_classes_exact}
use Rattle.class_model.proofs.MethodInfoLaw.{methods_exact}
use Rattle.class_laws.proofs.HandlerLaw.{NoneAtZero}
use Rattle.class_laws.proofs.BodyLaw.{read_code_exact}
use Rattle.class_model.proofs.FreshLaw.{AreNew, new_found, new_only, none_before, field_signature, fields_apart}
use Rattle.class_model.proofs.FreshLaw.{fields_told, method_signature, methods_apart, methods_told}

-- ---- the head

-- a number that has to stand there
wanted_exact : {r : FormatReader ℕ} (s : ℕ → List ℕ) (limit number : ℕ) (kind : FormatKind) → number < limit
    → Exact r (Spells s (λ _ w x. (w < limit) × (x ≡ w)))
    → Exact (item r (wanted number kind)) (Spells (λ (u : Unit {0}). s number) (λ _ u y. Unit {0}))
wanted_exact s limit number kind lt e = as_raw (λ (u : Unit {0}). s number) _ (λ w. tt) (λ u. number)
    (λ at w y h. (ap s (sym h.1.1 ∙ is (eqb h.0 number) h.0 y refl h.2), tt))
    (λ at u y h. (refl, (number, (lt, refl), by y)))
    (item_exact (wanted number kind) e)
  where
    is : (b : Bool) (n : ℕ) (u : Unit {0}) → eqb n number ≡ b → test kind b ≡ Ok u → n ≡ number
    is true n u e h = eqb-true n number e
    is false n u e h = absurd cc

    by : (u : Unit {0}) → test kind (eqb number number) ≡ Ok u
    by tt = let e : eqb number number ≡ true = eq-eqb number number refl in rw e refl

-- magic and version
head_exact : Exact read_head (Spells (λ (u : Unit {0}). head) (λ _ u y. Unit {0}))
unfolding read_head
head_exact = as_raw (λ (u : Unit {0}). head) (λ _ u y. Unit {0}) (λ w. tt) (λ u. (tt, (tt, tt)))
    (λ at w y h. (refl, tt))
    (λ at u y h. (refl, (tt, tt, (tt, tt, tt))))
    (bind_exact (λ magic. bind (item u2 (wanted 0 bad.BadVersion)) (λ minor. item u2 (wanted 52 bad.BadVersion)))
    (λ (w : Unit {0} × Unit {0}). to_be_bytes w16 0 ++ to_be_bytes w16 52)
    (λ x _ w y. (minor : Unit {0}) × Unit {0} × Unit {0})
    (wanted_exact (to_be_bytes w32) (2 ^ 32) 0xCAFEBABE bad.BadMagic (omega arith) u4_exact)
    (λ magic. bind_exact (λ minor. item u2 (wanted 52 bad.BadVersion)) (λ (u : Unit {0}). to_be_bytes w16 52)
    (λ minor _ u y. Unit {0})
    (wanted_exact (to_be_bytes w16) (2 ^ 16) 0 bad.BadVersion (omega arith) u2_exact)
    (λ minor. wanted_exact (to_be_bytes w16) (2 ^ 16) 52 bad.BadVersion (omega arith) u2_exact)))

-- ---- the pool

-- index 0 of a pool is no entry, so it names no class
gap_unnamed : (others : List Entry) → NoneAtZero (entry.Gap ∷ others)
unfolding class_at
gap_unnamed others name e = absurd cc

pool_unnamed : (count : ℕ) (constants : List CpInfo) (pool : List Entry) → IsPool count constants pool → NoneAtZero pool
pool_unnamed count constants pool h = subst (λ (p : List Entry). NoneAtZero p) (sym h.numbers)
    (gap_unnamed (flat_map places_of h.entries))

-- methods with what is left out in each
abbrev Methods : Type 0
Methods = List Method × List (Option LeftKind)

-- members behind their count
abbrev members : List MemberInfo → List ℕ
members raws = to_be_bytes w16 (length raws) ++ flat_map member_info raws

-- the interfaces, behind their count
abbrev indices : List ℕ → List ℕ
indices raws = to_be_bytes w16 (length raws) ++ flat_map (to_be_bytes w16) raws

-- the items from the flags on
abbrev Items : Type 0
Items = ℕ × (ℕ × (ℕ × (List ℕ × (List MemberInfo × (List MemberInfo × List AttributeInfo)))))

abbrev passing : ℕ → Result ℕ FormatKind
passing flags = cond (are_class_flags flags) (Ok flags) (Err bad.BadFlags)

-- their bytes
abbrev from_methods : List MemberInfo × List AttributeInfo → List ℕ
from_methods v = members v.0 ++ table v.1

abbrev from_fields : List MemberInfo × (List MemberInfo × List AttributeInfo) → List ℕ
from_fields v = members v.0 ++ from_methods v.1

abbrev from_interfaces : List ℕ × (List MemberInfo × (List MemberInfo × List AttributeInfo)) → List ℕ
from_interfaces v = indices v.0 ++ from_fields v.1

abbrev items_bytes : Items → List ℕ
items_bytes v = to_be_bytes w16 v.0 ++ (to_be_bytes w16 v.1.0 ++ (to_be_bytes w16 v.1.1.0 ++ from_interfaces v.1.1.1))

-- with this pool
module _ (pool : List Entry) where
  -- the fields, behind their count
  abbrev AreAllFields : ℕ → List MemberInfo → List Field → Type 0
  AreAllFields flags raws fields = (length raws < 2 ^ 16) × AllZip (IsField pool (is_interface flags)) raws fields
      × AreNew field_signature FieldsDiffer fields_apart fields_told [] fields

  -- the methods, behind their count
  abbrev AreAllMethods : ℕ → List ℕ → List MemberInfo → Methods → Type 0
  AreAllMethods flags class raws y = (length raws < 2 ^ 16) × AreMethods pool (is_interface flags) class raws y.0 y.1
      × AreNew method_signature MethodsDiffer methods_apart methods_told [] y.0

  -- what is said from the attributes back to the flags
  abbrev FromAttributes : ℕ → List ℕ → List ℕ → List (List ℕ) → List Field → Methods → List AttributeInfo → Class
      → Type 0
  FromAttributes flags name super_name interfaces fields methods all y = (seen : ClassSeen)
      × AreClassAttributes pool all seen × (y ≡ class_of flags pool name super_name interfaces fields methods seen)

  abbrev FromMethods : ℕ → List ℕ → List ℕ → List (List ℕ) → List Field → List MemberInfo × List AttributeInfo → Class
      → Type 0
  FromMethods flags name super_name interfaces fields v y = (methods : Methods) × AreAllMethods flags name v.0 methods
      × FromAttributes flags name super_name interfaces fields methods v.1 y

  abbrev FromFields : ℕ → List ℕ → List ℕ → List (List ℕ) → List MemberInfo × (List MemberInfo × List AttributeInfo)
      → Class → Type 0
  FromFields flags name super_name interfaces v y = (fields : List Field) × AreAllFields flags v.0 fields
      × FromMethods flags name super_name interfaces fields v.1 y

  abbrev FromInterfaces : ℕ → List ℕ → List ℕ → List ℕ × (List MemberInfo × (List MemberInfo × List AttributeInfo))
      → Class → Type 0
  FromInterfaces flags name super_name v y = (interfaces : List (List ℕ))
      × ((length v.0 < 2 ^ 16) × AllZip (IsClassAt pool) v.0 interfaces)
      × FromFields flags name super_name interfaces v.1 y

  abbrev FromSuper : ℕ → List ℕ → ℕ × (List ℕ × (List MemberInfo × (List MemberInfo × List AttributeInfo))) → Class
      → Type 0
  FromSuper flags name v y = (v.0 < 2 ^ 16)
      × ((super_name : List ℕ) × (class_at pool v.0 ≡ Ok super_name) × FromInterfaces flags name super_name v.1 y)

  abbrev FromName : ℕ → ℕ × (ℕ × (List ℕ × (List MemberInfo × (List MemberInfo × List AttributeInfo)))) → Class → Type 0
  FromName flags v y = (v.0 < 2 ^ 16) × ((name : List ℕ) × (class_at pool v.0 ≡ Ok name) × FromSuper flags name v.1 y)

  abbrev FromFlags : Items → Class → Type 0
  FromFlags v y = (v.0 < 2 ^ 16) × ((flags : ℕ) × (passing v.0 ≡ Ok flags) × FromName flags v.1 y)

  -- their readers
  abbrev reads_attributes : ℕ → List ℕ → List ℕ → List (List ℕ) → List Field → Methods → FormatReader Class
  reads_attributes flags name super_name interfaces fields methods = bind
      (counted_attributes pool (known_of_class pool) no_class_attribute)
      (λ seen. give (class_of flags pool name super_name interfaces fields methods seen))

  abbrev reads_methods : ℕ → List ℕ → List ℕ → List (List ℕ) → List Field → FormatReader Class
  reads_methods flags name super_name interfaces fields = bind (read_all_methods pool flags name)
      (λ methods. reads_attributes flags name super_name interfaces fields methods)

  abbrev reads_fields : ℕ → List ℕ → List ℕ → List (List ℕ) → FormatReader Class
  reads_fields flags name super_name interfaces = bind (read_all_fields pool flags)
      (λ fields. reads_methods flags name super_name interfaces fields)

  abbrev reads_interfaces : ℕ → List ℕ → List ℕ → FormatReader Class
  reads_interfaces flags name super_name = bind (read_interfaces pool)
      (λ interfaces. reads_fields flags name super_name interfaces)

  abbrev reads_super : ℕ → List ℕ → FormatReader Class
  reads_super flags name = bind (item u2 (class_at pool)) (λ super_name. reads_interfaces flags name super_name)

  abbrev reads_name : ℕ → FormatReader Class
  reads_name flags = bind (item u2 (class_at pool)) (λ name. reads_super flags name)

  abbrev reads_flags : FormatReader Class
  reads_flags = bind (item u2 passing) (λ flags. reads_name flags)

module _ (pool : List Entry) (units : HaveUnits pool) (right : AllNameRight pool) (unnamed : NoneAtZero pool) where
  all_fields_exact : (flags : ℕ)
      → Exact (read_all_fields pool flags) (Spells members (λ _ raws fields. AreAllFields pool flags raws fields))
  unfolding read_all_fields
  all_fields_exact flags = as_raw members _ (λ w. w.1) (λ raws. (length raws, raws))
      (λ at w y h.
      let n : length w.1 ≡ w.0 = h.2.0 ∙ h.1.1 in (
        ap (λ (m : ℕ). to_be_bytes w16 m ++ flat_map member_info w.1) (sym n),
        (subst (λ (m : ℕ). m < 2 ^ 16) (sym n) h.1.0, h.2.1, h.2.2),
      ))
      (λ at raws y h. (refl, (length raws, (h.0, refl), (refl, h.1, h.2))))
      (bind_exact (λ n. read_fields n pool (is_interface flags) []) (flat_map member_info)
      (λ n _ raws fields. (length raws ≡ n) × AllZip (IsField pool (is_interface flags)) raws fields
      × AreNew field_signature FieldsDiffer fields_apart fields_told [] fields)
      u2_exact (λ n. fields_exact pool (is_interface flags) units right n []))

  all_methods_exact : (flags : ℕ) (class : List ℕ)
      → Exact (read_all_methods pool flags class) (Spells members (λ _ raws y. AreAllMethods pool flags class raws y))
  unfolding read_all_methods
  all_methods_exact flags class = as_raw members _ (λ w. w.1) (λ raws. (length raws, raws))
      (λ at w y h.
      let n : length w.1 ≡ w.0 = h.2.0 ∙ h.1.1 in (
        ap (λ (m : ℕ). to_be_bytes w16 m ++ flat_map member_info w.1) (sym n),
        (subst (λ (m : ℕ). m < 2 ^ 16) (sym n) h.1.0, h.2.1, h.2.2),
      ))
      (λ at raws y h. (refl, (length raws, (h.0, refl), (refl, h.1, h.2))))
      (bind_exact (λ n. read_methods n pool (is_interface flags) class []) (flat_map member_info)
      (λ n _ raws y. (length raws ≡ n) × AreMethods pool (is_interface flags) class raws y.0 y.1
      × AreNew method_signature MethodsDiffer methods_apart methods_told [] y.0)
      u2_exact (λ n. methods_exact pool (is_interface flags) class units
      (λ first at. read_code_exact pool units unnamed first at) n []))

  interfaces_exact : Exact (read_interfaces pool)
      (Spells indices (λ _ raws names. (length raws < 2 ^ 16) × AllZip (IsClassAt pool) raws names))
  unfolding read_interfaces
  interfaces_exact = counted_classes_exact pool units

  methods_then : (flags : ℕ) (name super_name : List ℕ) (interfaces : List (List ℕ)) (fields : List Field)
      → Exact (reads_methods pool flags name super_name interfaces fields)
      (Spells from_methods (λ _ v y. FromMethods pool flags name super_name interfaces fields v y))
  methods_then flags name super_name interfaces fields = bind_exact
      (λ methods. reads_attributes pool flags name super_name interfaces fields methods) table
      (λ methods _ all y. FromAttributes pool flags name super_name interfaces fields methods all y)
      (all_methods_exact flags name)
      (λ methods. map_exact (λ seen. class_of flags pool name super_name interfaces fields methods seen)
      (class_attributes_exact pool))

  fields_then : (flags : ℕ) (name super_name : List ℕ) (interfaces : List (List ℕ))
      → Exact (reads_fields pool flags name super_name interfaces)
      (Spells from_fields (λ _ v y. FromFields pool flags name super_name interfaces v y))
  fields_then flags name super_name interfaces = bind_exact
      (λ fields. reads_methods pool flags name super_name interfaces fields) from_methods
      (λ fields _ v y. FromMethods pool flags name super_name interfaces fields v y)
      (all_fields_exact flags) (λ fields. methods_then flags name super_name interfaces fields)

  interfaces_then : (flags : ℕ) (name super_name : List ℕ)
      → Exact (reads_interfaces pool flags name super_name)
      (Spells from_interfaces (λ _ v y. FromInterfaces pool flags name super_name v y))
  interfaces_then flags name super_name = bind_exact
      (λ interfaces. reads_fields pool flags name super_name interfaces) from_fields
      (λ interfaces _ v y. FromFields pool flags name super_name interfaces v y)
      interfaces_exact (λ interfaces. fields_then flags name super_name interfaces)

  flags_then : Exact (reads_flags pool) (Spells items_bytes (λ _ v y. FromFlags pool v y))
  flags_then = index_then passing (λ flags. reads_name pool flags)
      (λ (v : ℕ × (ℕ × (List ℕ × (List MemberInfo × (List MemberInfo × List AttributeInfo))))). to_be_bytes w16 v.0 ++
      (to_be_bytes w16 v.1.0 ++ from_interfaces v.1.1)) (λ flags _ v y. FromName pool flags v y)
      (λ flags. index_then (class_at pool) (λ name. reads_super pool flags name)
      (λ (v : ℕ × (List ℕ × (List MemberInfo × (List MemberInfo
      × List AttributeInfo)))). to_be_bytes w16 v.0 ++ from_interfaces v.1)
      (λ name _ v y. FromSuper pool flags name v y)
      (λ name. index_then (class_at pool) (λ super_name. reads_interfaces pool flags name super_name) from_interfaces
      (λ super_name _ v y. FromInterfaces pool flags name super_name v y)
      (λ super_name. interfaces_then flags name super_name)))

-- ---- the class

-- lists that go together are equally long
zip_length : {A B : Type 0} (P : A → B → Type 0) (xs : List A) (ys : List B) → AllZip P xs ys → length ys ≡ length xs
zip_length P [] [] h = refl
zip_length P [] (y ∷ ys) h = absurd h
zip_length P (x ∷ xs) [] h = absurd h
zip_length P (x ∷ xs) (y ∷ ys) h = ap suc (zip_length P xs ys h.1)

-- the structure and its items
abbrev Whole : Type 0
Whole = Unit {0} × ((ℕ × List CpInfo) × (ℕ × (ℕ × (ℕ × (List ℕ
    × (List MemberInfo × (List MemberInfo × List AttributeInfo)))))))

abbrev raw_of : Whole → ClassFile
raw_of w = record {
  constant_pool_count = w.1.0.0;
  constant_pool = w.1.0.1;
  access_flags = w.1.1.0;
  this_class = w.1.1.1.0;
  super_class = w.1.1.1.1.0;
  interfaces = w.1.1.1.1.1.0;
  fields = w.1.1.1.1.1.1.0;
  methods = w.1.1.1.1.1.1.1.0;
  attributes = w.1.1.1.1.1.1.1.1;
}

abbrev whole_of : ClassFile → Whole
whole_of raw = (
  tt,
  (
    (raw.constant_pool_count, raw.constant_pool),
    (
      raw.access_flags,
      (
        raw.this_class,
        (
          raw.super_class,
          (
            raw.interfaces,
            (raw.fields, (raw.methods, raw.attributes)),
          ),
        ),
      ),
    ),
  ),
)

-- their bytes are the same
same_bytes : (raw : ClassFile)
    → class_file raw ≡ head ++ (pool_bytes (raw.constant_pool_count, raw.constant_pool) ++ items_bytes
    (whole_of raw).1.1)
same_bytes raw = simp append_assoc

-- the items from the flags on say the class
there : (pool : List Entry) (w : Whole) (y : Class) (is : IsPool w.1.0.0 w.1.0.1 pool) → FromFlags pool w.1.1 y
    → IsClass (raw_of w) y pool
there pool w y is h =
    let units = pool_units w.1.0.0 w.1.0.1 pool is in
    let flags = h.1.0 in
    let n = h.1.2 in
    let s = n.1.2 in
    let i = s.1.2 in
    let f = i.2 in
    let m = f.2 in
    let a = m.2 in
    let p = passed_is (are_class_flags w.1.1.0) w.1.1.0 flags bad.BadFlags h.1.1 in
    let name = class_found pool w.1.1.1.0 n.1.0 units n.1.1 in
    let super_name = class_found pool w.1.1.1.1.0 s.1.0 units s.1.1 in
    let made : Class = class_of flags pool n.1.0 s.1.0 i.0 f.0 m.0 a.0 in
    let made-is : IsClass (raw_of w) made pool = record {
      constant_pool = is;
      flags = record { fit = h.0; are = ap (λ (k : ℕ). flags_of (defined_flags class_mask k)) (sym p.1); good = p.0 };
      name = (n.0, name.0, name.1);
      super_name = (s.0, super_name.0, super_name.1);
      interfaces_count = i.1.0;
      interfaces = i.1.1;
      fields_count = f.1.0;
      fields = subst (λ (k : ℕ). AllZip (IsField pool (is_interface k)) w.1.1.1.1.1.1.0 f.0) (sym p.1) f.1.1;
      fields_differ = (new_found field_signature FieldsDiffer fields_apart fields_told [] f.0 f.1.2).0;
      methods_count = m.1.0;
      left_out_kinds = m.0.1;
      methods = subst (λ (k : ℕ). AreMethods pool (is_interface k) n.1.0 w.1.1.1.1.1.1.1.0 m.0.0 m.0.1) (sym p.1) m.1.1;
      methods_differ = (new_found method_signature MethodsDiffer methods_apart methods_told [] m.0.0 m.1.2).0;
      attributes = a.1.attributes;
      source = a.1.source;
      synthetic = a.1.synthetic;
      deprecated = a.1.deprecated;
      left_out = ap (λ (k : ℕ). first_left_out (left_out_of_class k pool) (length f.0) m.0.1) (sym p.1)
          ∙ ap (λ (k : ℕ). first_left_out (left_out_of_class w.1.1.0 pool) k m.0.1)
          (zip_length (IsField pool (is_interface flags)) _ f.0 f.1.1);
    } in
    subst (λ (c : Class). IsClass (raw_of w) c pool) (sym a.2) made-is

-- the class is what its items say
back : (pool : List Entry) (raw : ClassFile) (y : Class) (is : IsClass raw y pool) → FromFlags pool (whole_of raw).1.1 y
back pool raw y is =
    let seen : ClassSeen = record { source = y.source; synthetic = y.synthetic; deprecated = y.deprecated } in
    let passes : cond (are_class_flags raw.access_flags) (let R : Result ℕ FormatKind = Ok raw.access_flags in R)
    (Err bad.BadFlags) ≡ Ok raw.access_flags = rw is.flags.good refl in
    let all : AreClassAttributes pool raw.attributes seen = record
    { attributes = is.attributes; source = is.source; synthetic = is.synthetic; deprecated = is.deprecated } in
    let left-is : y.left_out
    ≡ first_left_out (left_out_of_class raw.access_flags pool) (length y.fields) is.left_out_kinds =
    is.left_out ∙ ap (λ (k : ℕ). first_left_out (left_out_of_class raw.access_flags pool) k is.left_out_kinds)
    (sym (zip_length (IsField pool (is_interface raw.access_flags)) raw.fields y.fields is.fields)) in
    let whole : y ≡ class_of raw.access_flags pool y.name y.super_name y.interfaces y.fields
    (y.methods, is.left_out_kinds) seen = λ i. record {
      flags = is.flags.are i;
      name = y.name;
      super_name = y.super_name;
      interfaces = y.interfaces;
      fields = y.fields;
      methods = y.methods;
      source = y.source;
      synthetic = y.synthetic;
      deprecated = y.deprecated;
      left_out = left-is i;
    } in (
      is.flags.fit,
      (
        raw.access_flags,
        passes,
        (
          is.name.0,
          (
            y.name,
            class_only pool raw.this_class y.name is.name.1 is.name.2,
            (
              is.super_name.0,
              (
                y.super_name,
                class_only pool raw.super_class y.super_name is.super_name.1 is.super_name.2,
                (
                  y.interfaces,
                  (is.interfaces_count, is.interfaces),
                  (
                    y.fields,
                    (
                      is.fields_count,
                      is.fields,
                      new_only field_signature FieldsDiffer fields_apart fields_told []
                          y.fields is.fields_differ (none_before field_signature y.fields),
                    ),
                    (
                      (y.methods, is.left_out_kinds),
                      (
                        is.methods_count,
                        is.methods,
                        new_only method_signature MethodsDiffer methods_apart methods_told
                            [] y.methods is.methods_differ (none_before method_signature y.methods),
                      ),
                      (seen, all, whole),
                    ),
                  ),
                ),
              ),
            ),
          ),
        ),
      ),
    )

-- a class file is read exactly where it is spelled
pub class_file_exact : Exact read_class_file
    (Spells class_file (λ _ raw class. (pool : List Entry) × IsClass raw class pool))
unfolding read_class_file
class_file_exact = as_raw class_file _ raw_of whole_of
    (λ at w y h. (sym (same_bytes (raw_of w)), (h.2.0, there h.2.0 w y h.2.1 h.2.2)))
    (λ at raw y h. (same_bytes raw, (tt, tt, (h.0, h.1.constant_pool, back h.0 raw y h.1))))
    (bind_exact_of (λ head. bind read_pool (λ pool. reads_flags pool))
    (λ (v : (ℕ × List CpInfo) × Items). pool_bytes v.0 ++ items_bytes v.1)
    (λ u _ v y. (pool : List Entry) × IsPool v.0.0 v.0.1 pool × FromFlags pool v.1 y) head_exact
    (λ _ u x _. bind_exact_of (λ pool. reads_flags pool) items_bytes (λ pool _ v y. FromFlags pool v y) pool_exact
    (λ _ w pool is. flags_then pool (pool_units w.0 w.1 pool is) (pool_names w.0 w.1 pool is)
    (pool_unnamed w.0 w.1 pool is))))

-- what was read to the end
was_whole : (r : Result (Class × Place) FormatFault) (c : Class) → all_read r ≡ Ok c
    → (q : Place) × (r ≡ Ok (c, q)) × (q.at ≡ length q.bytes)
was_whole (Ok y) c h =
    let g = guard_closed (eqb y.1.at (length y.1.bytes)) (fault y.1.at bad.Trailing) y.0 c h in
    (y.1, ap (λ (v : Class). let R : Result (Class × Place) FormatFault = Ok (v, y.1) in R) g.1, eqb-true _ _ g.0)
was_whole (Err f) c h = absurd cc

-- what is read as a class spells it
pub class_read-found : (bytes : List ℕ) (c : Class) → IsBytes bytes → class_read bytes ≡ Ok c → File bytes c
unfolding class_read
class_read-found bytes c fits h =
    let o = was_whole (read_class_file (start bytes)) c h in
    let f = class_file_exact.found (start bytes) c o.0 fits o.1 in
    let none : left o.0 ≡ [] = nil_from_length (left o.0) (omega (arith, length-drop o.0.at o.0.bytes, o.2)) in
    let all : bytes ≡ f.0 = f.2.parts ∙ ap (λ (u : List ℕ). f.0 ++ u) none ∙ append-nil f.0 in
    (f.1.0, all ∙ f.1.1, f.1.2.0, f.1.2.1)

-- what spells a class is read as it
pub class_read-only : (bytes : List ℕ) (c : Class) → File bytes c → class_read bytes ≡ Ok c
unfolding class_read
class_read-only bytes c h =
    let q : Place = after (length bytes) (start bytes) in
    let none : left q ≡ [] = drop_all (0 + length bytes) bytes (omega arith) in
    let t : Takes (start bytes) bytes q = record {
      parts = sym (append-nil bytes)
          ∙ ap (λ (u : List ℕ). bytes ++ u) (sym none);
      moved = refl;
    } in
    let end : eqb (0 + length bytes) (length bytes) ≡ true = eq-eqb _ _ (omega arith) in
    rw (class_file_exact.only (start bytes) bytes c q (h.0, h.1, (h.2, h.3)) t, end) refl

pub ok_class : (x y : Class) → (let R : Result Class FormatFault = Ok x in R) ≡ Ok y → x ≡ y
ok_class x y h = cc

-- bytes spell one class at most
pub one_class : (bytes : List ℕ) (one other : Class) → File bytes one → File bytes other → one ≡ other
one_class bytes one other h k = ok_class one other (sym (class_read-only bytes one h) ∙ class_read-only bytes other k)
