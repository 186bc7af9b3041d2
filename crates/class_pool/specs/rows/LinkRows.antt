-- What the definitions of supertypes, resolution and selection give for a few classes, which are computed
-- (the project's own: definitions are tried on classes).
use Rattle.std.specs.Prelude.{◌≡◌, ℕ, true, false, List, [], ◌∷◌, Option, Some, None, codes}
use Rattle.jv_base.specs.declared.types.Base.TheVariants as base
use Rattle.class_model.specs.Flags.{flags_of}
use Rattle.class_model.specs.declared.class.Class.{Class}
use Rattle.class_model.specs.declared.class.Field.{Field}
use Rattle.class_model.specs.declared.class.Method.{Method}
use Rattle.class_pool.specs.declared.id.ClassId.{ClassId}
use Rattle.class_pool.specs.declared.id.ClassId.TheVariants.{Prog, Lib}
use Rattle.class_pool.specs.declared.id.MemberAt.{MemberAt}
use Rattle.class_pool.specs.Found.{NameAndType, package_of}
use Rattle.class_pool.specs.Resolution.{field_found, is_class_accessible, is_member_accessible, method_found}
use Rattle.class_pool.specs.Selection.{selected, selected_special}
use Rattle.class_pool.specs.Walk.{own_superinterfaces, superclasses_from, superinterfaces, supers}

-- ---- the classes

-- a field of type int
abbrev pub int_field : ℕ → List ℕ → Field
int_field flags name = record {
  flags = flags_of flags;
  name = name;
  ty = record { dims = 0; base = base.Int };
  constant = None;
  synthetic = false;
  deprecated = false;
}

-- a method without parameters and without a result; its code doesn't matter
abbrev pub plain_method : ℕ → List ℕ → Method
plain_method flags name = record {
  flags = flags_of flags;
  name = name;
  ty = record { args = []; ret = None };
  code = None;
  throws = [];
  synthetic = false;
  deprecated = false;
}

-- a class without attributes, by its parts
abbrev pub plain_class : ℕ → List ℕ → List ℕ → List (List ℕ) → List Field → List Method → Class
plain_class flags name super_name interfaces fields methods = record {
  flags = flags_of flags;
  name = name;
  super_name = super_name;
  interfaces = interfaces;
  fields = fields;
  methods = methods;
  source = None;
  synthetic = false;
  deprecated = false;
  left_out = None;
}

abbrev pub object : List ℕ
object = codes "java/lang/Object"

-- public class p.A implements p.I { private int x; public void m() void n() private void q() public static void s()
-- protected void t() public p.A() }
abbrev pub class_a : Class
class_a = plain_class 0x0021 (codes "p/A") object (codes "p/I" ∷ []) (int_field 0x0002 (codes "x") ∷ [])
    (plain_method 0x0001 (codes "m") ∷ plain_method 0x0000 (codes "n") ∷ plain_method 0x0002
    (codes "q") ∷ plain_method 0x0009 (codes "s") ∷ plain_method 0x0004 (codes "t") ∷ plain_method 0x0001
    (codes "<init>") ∷ [])

-- class p.B extends p.A { public void n() public p.B() }
abbrev pub class_b : Class
class_b = plain_class 0x0020 (codes "p/B") (codes "p/A") [] []
    (plain_method 0x0001 (codes "n") ∷ plain_method 0x0001 (codes "<init>") ∷ [])

-- class p.H { public int x; }
abbrev pub class_h : Class
class_h = plain_class 0x0020 (codes "p/H") object [] (int_field 0x0001 (codes "x") ∷ [])
    []

-- interface p.I { int x; void m(); void r(); protected void w(); }, of which Java has no protected one
abbrev pub interface_i : Class
interface_i = plain_class 0x0600 (codes "p/I") object [] (int_field 0x0019 (codes "x") ∷ [])
    (plain_method 0x0401 (codes "m") ∷ plain_method 0x0401 (codes "r") ∷ plain_method 0x0404 (codes "w") ∷ [])

-- interface p.J extends p.I { void r(); }
abbrev pub interface_j : Class
interface_j = plain_class 0x0600 (codes "p/J") object (codes "p/I" ∷ []) []
    (plain_method 0x0401 (codes "r") ∷ [])

-- interface p.K extends p.I { default void r() }
abbrev pub interface_k : Class
interface_k = plain_class 0x0600 (codes "p/K") object (codes "p/I" ∷ []) []
    (plain_method 0x0001 (codes "r") ∷ [])

-- abstract class p.L implements p.I, p.K
abbrev pub class_l : Class
class_l = plain_class 0x0420 (codes "p/L") object (codes "p/I" ∷ codes "p/K" ∷ []) []
    []

-- abstract class p.M extends p.H implements p.J, p.K
abbrev pub class_m : Class
class_m = plain_class 0x0420 (codes "p/M") (codes "p/H") (codes "p/J" ∷ codes "p/K" ∷ []) []
    []

-- interface p.N extends p.K { void r(); }
abbrev pub interface_n : Class
interface_n = plain_class 0x0600 (codes "p/N") object (codes "p/K" ∷ []) []
    (plain_method 0x0401 (codes "r") ∷ [])

-- abstract class p.O implements p.K, p.N
abbrev pub class_o : Class
class_o = plain_class 0x0420 (codes "p/O") object (codes "p/K" ∷ codes "p/N" ∷ []) []
    []

-- interface p.P { default void r() }
abbrev pub interface_p : Class
interface_p = plain_class 0x0600 (codes "p/P") object [] []
    (plain_method 0x0001 (codes "r") ∷ [])

-- abstract class p.Q implements p.P, p.K
abbrev pub class_q : Class
class_q = plain_class 0x0420 (codes "p/Q") object (codes "p/P" ∷ codes "p/K" ∷ []) []
    []

-- class q.C extends p.B { public void n() public void q() }
abbrev pub class_c : Class
class_c = plain_class 0x0020 (codes "q/C") (codes "p/B") [] []
    (plain_method 0x0001 (codes "n") ∷ plain_method 0x0001 (codes "q") ∷ [])

-- class q.D extends p.A { public void n() private void m() }
abbrev pub class_d : Class
class_d = plain_class 0x0020 (codes "q/D") (codes "p/A") [] []
    (plain_method 0x0001 (codes "n") ∷ plain_method 0x0002 (codes "m") ∷ [])

-- class q.E extends q.D { public void n() public void t() }
abbrev pub class_e : Class
class_e = plain_class 0x0020 (codes "q/E") (codes "q/D") [] []
    (plain_method 0x0001 (codes "n") ∷ plain_method 0x0001 (codes "t") ∷ [])

-- interface q.F { void notify(); }, with a method as Object has one
abbrev pub interface_f : Class
interface_f = plain_class 0x0600 (codes "q/F") object [] []
    (plain_method 0x0401 (codes "notify") ∷ [])

-- in an order of their own
abbrev pub the_set : List Class
the_set = class_a ∷ class_b ∷ class_h ∷ interface_i ∷ interface_j ∷ interface_k ∷ class_l ∷ class_m ∷ interface_n
    ∷ class_o ∷ interface_p ∷ class_q ∷ class_c ∷ class_d ∷ class_e ∷ interface_f ∷ []

-- their numbers
abbrev pub id_a : ClassId
id_a = Prog 0

abbrev pub id_b : ClassId
id_b = Prog 1

abbrev pub id_h : ClassId
id_h = Prog 2

abbrev pub id_i : ClassId
id_i = Prog 3

abbrev pub id_j : ClassId
id_j = Prog 4

abbrev pub id_k : ClassId
id_k = Prog 5

abbrev pub id_l : ClassId
id_l = Prog 6

abbrev pub id_m : ClassId
id_m = Prog 7

abbrev pub id_n : ClassId
id_n = Prog 8

abbrev pub id_o : ClassId
id_o = Prog 9

abbrev pub id_p : ClassId
id_p = Prog 10

abbrev pub id_q : ClassId
id_q = Prog 11

abbrev pub id_c : ClassId
id_c = Prog 12

abbrev pub id_d : ClassId
id_d = Prog 13

abbrev pub id_e : ClassId
id_e = Prog 14

abbrev pub id_f : ClassId
id_f = Prog 15

-- Object, String, CharSequence and Comparable in the library
abbrev pub id_object : ClassId
id_object = Lib 0

abbrev pub id_comparable : ClassId
id_comparable = Lib 2

abbrev pub id_char_sequence : ClassId
id_char_sequence = Lib 3

abbrev pub id_string : ClassId
id_string = Lib 6

-- a member of a class by its number
abbrev pub at : ClassId → ℕ → Option MemberAt
at class index = Some (record { class = class; index = index })

abbrev pub member : ClassId → ℕ → MemberAt
member class index = record { class = class; index = index }

-- a method without parameters and result
abbrev pub plain : List ℕ → NameAndType
plain name = (name, codes "()V")

abbrev pub int : List ℕ → NameAndType
int name = (name, codes "I")

-- ---- supertypes

-- superclasses upwards; superinterfaces as they are met, and each once
abbrev pub SupertypeRows : Type 0
SupertypeRows =
    (superclasses_from the_set id_c ≡ id_c ∷ id_b ∷ id_a ∷ id_object ∷ [])
    × (own_superinterfaces the_set id_m ≡ id_j ∷ id_i ∷ id_k ∷ id_i ∷ [])
    × (superinterfaces the_set id_c ≡ id_i ∷ [])
    × (supers the_set id_m ≡ id_h ∷ id_object ∷ id_j ∷ id_i ∷ id_k ∷ [])
    × (supers the_set id_j ≡ id_object ∷ id_i ∷ [])

-- ---- resolution

-- the class itself, then its superinterfaces, and only then its superclass, there a private one too
abbrev pub FieldRows : Type 0
FieldRows =
    (field_found the_set id_a (int (codes "x")) ≡ at id_a 0)
    × (field_found the_set id_m (int (codes "x")) ≡ at id_i 0)
    × (field_found the_set id_h (int (codes "x")) ≡ at id_h 0)
    × (field_found the_set id_c (int (codes "x")) ≡ at id_a 0)
    × (field_found the_set id_m (codes "x", codes "J") ≡ None)

-- superclasses before superinterfaces
abbrev pub ClassMethodRows : Type 0
ClassMethodRows =
    (method_found the_set id_c (plain (codes "m")) ≡ at id_a 1)
    × (method_found the_set id_c (plain (codes "q")) ≡ at id_c 1)
    × (method_found the_set id_b (plain (codes "q")) ≡ at id_a 3)
    × (method_found the_set id_b (plain (codes "s")) ≡ at id_a 4)
    × (method_found the_set id_c (plain (codes "r")) ≡ at id_i 2)
    × (method_found the_set id_string (codes "hashCode", codes "()I") ≡ at id_string 3)

-- of the maximally-specific ones the one that isn't abstract, where just one isn't, else the first one met
abbrev pub SuperinterfaceMethodRows : Type 0
SuperinterfaceMethodRows =
    (method_found the_set id_l (plain (codes "r")) ≡ at id_k 0)
    × (method_found the_set id_m (plain (codes "r")) ≡ at id_k 0)
    × (method_found the_set id_m (plain (codes "m")) ≡ at id_i 1)
    × (method_found the_set id_o (plain (codes "r")) ≡ at id_k 0)
    × (method_found the_set id_q (plain (codes "r")) ≡ at id_p 0)

-- the interface itself, then Object, then its superinterfaces
abbrev pub InterfaceMethodRows : Type 0
InterfaceMethodRows =
    (method_found the_set id_j (plain (codes "r")) ≡ at id_j 0)
    × (method_found the_set id_n (plain (codes "r")) ≡ at id_n 0)
    × (method_found the_set id_j (plain (codes "m")) ≡ at id_i 1)
    × (method_found the_set id_j (codes "equals", codes "(Ljava/lang/Object;)Z") ≡ at id_object 1)
    × (method_found the_set id_j (codes "clone", codes "()Ljava/lang/Object;") ≡ at id_object 5)
    × (method_found the_set id_j (plain (codes "q")) ≡ None)

-- ---- access

-- a name with two packages, with one and with none
abbrev pub PackageRows : Type 0
PackageRows =
    (package_of (codes "p/q/X") ≡ codes "p/q")
    × (package_of (codes "p/X") ≡ codes "p")
    × (package_of (codes "p") ≡ [])

-- a public class, one of another package, and one of the same
abbrev pub ClassAccessRows : Type 0
ClassAccessRows =
    (is_class_accessible the_set id_d id_a ≡ true)
    × (is_class_accessible the_set id_d id_b ≡ false)
    × (is_class_accessible the_set id_h id_b ≡ true)
    × (is_class_accessible the_set id_d id_string ≡ true)

-- of p.A the public m, n of the package and the private q
abbrev pub MemberAccessRows : Type 0
MemberAccessRows =
    (is_member_accessible the_set id_d id_a (member id_a 1) ≡ true)
    × (is_member_accessible the_set id_b id_a (member id_a 2) ≡ true)
    × (is_member_accessible the_set id_d id_a (member id_a 2) ≡ false)
    × (is_member_accessible the_set id_b id_a (member id_a 3) ≡ false)
    × (is_member_accessible the_set id_a id_b (member id_a 3) ≡ true)

-- the protected t: in its package, through a subclass or a superclass of the one that names it, and not through a class
-- beside it. A protected method of an interface is in no superclass
abbrev pub ProtectedRows : Type 0
ProtectedRows =
    (is_member_accessible the_set id_h id_a (member id_a 5) ≡ true)
    × (is_member_accessible the_set id_d id_d (member id_a 5) ≡ true)
    × (is_member_accessible the_set id_d id_e (member id_a 5) ≡ true)
    × (is_member_accessible the_set id_d id_a (member id_a 5) ≡ true)
    × (is_member_accessible the_set id_d id_c (member id_a 5) ≡ false)
    × (is_member_accessible the_set id_d id_d (member id_i 3) ≡ false)

-- ---- selection

-- n of p.A is of the package: p.B overrides it, so q.C does too; q.D and q.E, of another package, don't
abbrev pub OverridingRows : Type 0
OverridingRows =
    (selected the_set id_b (member id_a 2) ≡ at id_b 0)
    × (selected the_set id_c (member id_a 2) ≡ at id_c 0)
    × (selected the_set id_d (member id_a 2) ≡ at id_a 2)
    × (selected the_set id_e (member id_a 2) ≡ at id_a 2)
    × (selected the_set id_e (member id_d 0) ≡ at id_e 0)
    × (selected the_set id_e (member id_a 5) ≡ at id_e 1)

-- nothing overrides a private method or an instance initialisation method, a private method overrides none, and a
-- method of an interface none of a class
abbrev pub NotOverridingRows : Type 0
NotOverridingRows =
    (selected the_set id_c (member id_a 3) ≡ at id_a 3)
    × (selected the_set id_d (member id_a 1) ≡ at id_a 1)
    × (selected the_set id_b (member id_a 6) ≡ at id_a 6)
    × (selected the_set id_f (member id_object 6) ≡ at id_object 6)
    × (selected the_set id_h (member id_a 1) ≡ None)

-- of an interface method the first instance method, a private one too; none of an interface
abbrev pub InterfaceSelectionRows : Type 0
InterfaceSelectionRows =
    (selected the_set id_c (member id_i 1) ≡ at id_a 1)
    × (selected the_set id_d (member id_i 1) ≡ at id_d 1)
    × (selected the_set id_m (member id_i 1) ≡ None)
    × (selected the_set id_l (member id_i 2) ≡ None)
    × (selected the_set id_string (member id_comparable 0) ≡ None)
    × (selected the_set id_string (member id_char_sequence 2) ≡ at id_string 8)

-- the direct superclass's method though one above was named, the own one where the class itself was
abbrev pub SpecialRows : Type 0
SpecialRows =
    (selected_special the_set id_c id_a (member id_a 2) ≡ at id_b 0)
    × (selected_special the_set id_c id_c (member id_c 0) ≡ at id_c 0)
    × (selected_special the_set id_b id_a (member id_a 6) ≡ at id_a 6)
