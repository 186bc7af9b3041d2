-- Which methods of the library no class of a set has, as its groups tell.
use Rattle.std.proofs.Common.{◌≡◌, ◌≤◌, ◌<◌, ◌+◌, ◌&&◌, ◌-◌, ◌%◌, ◌^◌, ◌*◌, ℕ, zero, suc, Bool, true, false, cond}
use Rattle.std.proofs.Common.{nat_lt, List, [], ◌∷◌, length, get_or, map, slice_get, Option, Some, None, is_some, refl}
use Rattle.std.proofs.Common.{sym, ap, subst, ◌∙◌, arith, lit<, ⊎_elim, IsTrue}
use Rattle.std.specs.List.{position}
use Rattle.std.specs.Option.{option_map, option_map_or}
use Rattle.std.proofs.Math.Nat.{mod-lt}
use Rattle.std.proofs.lemmas.Bool.{cases_lt, ltb-true}
use Rattle.std.proofs.lemmas.List.{get_or_default}
use Rattle.std.proofs.lemmas.Option.{same_Some}
use Rattle.jv_base.specs.Names.{is_text}
use Rattle.jv_base.specs.Types.{method_text}
use Rattle.jv_base.proofs.Equality.{text_is}
use Rattle.jv_base.proofs.Lists.{found_at}
use Rattle.class_model.specs.declared.class.Class.{Class}
use Rattle.class_model.specs.declared.class.Method.{Method}
use Rattle.lib_table.specs.Library.{LibraryMember, library}
use Rattle.lib_table.specs.Lookups as table
use Rattle.lib_table.specs.declared.class.LibKind.{LibKind}
use Rattle.class_pool.specs.Found.{IsMethod, MemberRow, NameAndType, declared_in, library_row, named_at}
use Rattle.class_pool.specs.declared.id.ClassId.TheVariants.{Lib, Prog}
use Rattle.class_pool.specs.declared.id.MemberAt.{MemberAt}
use Rattle.class_pool.proofs.Declaring.{declared_named}
use Rattle.class_pool.proofs.LikeMethods.{library_method, library_named, number_like, own_declared}
use Rattle.class_pool.proofs.ToldMembers.{position_below}
use Rattle.method_places.specs.bodies.Alike.{AreAlike, ArePlaced, HasNone, place_of}
use Rattle.item_numbers.specs.bodies.Alone.{AreNone}
use Rattle.method_places.specs.bodies.Marks.{mark_of, with_byte, with_text}
use Rattle.method_places.specs.declared.alike.Group.{Group}
use Rattle.method_places.specs.declared.alike.Group.TheVariants.{Mixed}
use Rattle.method_places.proofs.Grouping.{method_is}

-- ---- each mark has a place

byte_below : (mark byte : ℕ) → with_byte mark byte < 2 ^ 64
byte_below mark byte = mod-lt ((mark + byte) % 2 ^ 64 * 1099511628211) (lit< tt)

text_below : (mark : ℕ) (text : List ℕ) → mark < 2 ^ 64 → with_text mark text < 2 ^ 64
text_below mark [] low = low
text_below mark (byte ∷ text) low = text_below (with_byte mark byte) text (byte_below mark byte)

mark_below : (named : NameAndType) → mark_of named < 2 ^ 64
mark_below named = text_below (with_text 0 named.0) named.1 (text_below 0 named.0 (lit< tt))

-- no more keys are less than a mark than stand before one that isn't
before_key : (keys : List ℕ) (mark i : ℕ) → i < length keys → nat_lt (get_or keys i 0) mark ≡ false
    → place_of keys mark ≤ i
before_key [] mark i within other = absurd (omega (arith, within))
before_key (key ∷ keys) mark zero within other =
    let none : place_of (key ∷ keys) mark ≡ 0 = ap (λ b. cond b (1 + place_of keys mark) 0) other in
    omega (arith, none)
before_key (key ∷ keys) mark (suc i) within other =
    by (nat_lt key mark) (before_key keys mark i (omega (arith, within)) other)
  where
    by : (b : Bool) → place_of keys mark ≤ i → cond b (1 + place_of keys mark) 0 ≤ suc i
    by true low = omega (arith, low)
    by false low = omega arith

not_less : (key mark : ℕ) → mark ≤ key → nat_lt key mark ≡ false
not_less key mark low = by (nat_lt key mark) refl
  where
    by : (b : Bool) → nat_lt key mark ≡ b → b ≡ false
    by false e = refl
    by true e = absurd (let less = ltb-true key mark e in omega (arith, less, low))

-- the highest mark has one
pub all_placed : (keys : List ℕ) (groups : List Group) (count : ℕ) → count ≡ length groups → 0 < count
    → count ≤ length keys → get_or keys (count - 1) 0 ≡ 18446744073709551615 → ArePlaced keys groups
all_placed keys groups count long some within last mark low =
    let most : mark ≤ 18446744073709551615 = omega (arith, low) in
    let place = before_key keys mark (count - 1) (omega (arith, some, within))
    (ap (λ key. nat_lt key mark) last ∙ not_less 18446744073709551615 mark most) in
    omega (arith, place, long, some)

-- ---- methods of the library

library_at : (kind : LibKind) (ms : List LibraryMember) (at : ℕ) (m : LibraryMember) → slice_get ms at ≡ Some m
    → slice_get (map (library_row kind) ms) at ≡ Some (library_row kind m)
library_at kind [] at m is = absurd cc
library_at kind (x ∷ ms) zero m is = ap (λ y. Some (library_row kind y)) (same_Some x m is)
library_at kind (x ∷ ms) (suc at) m is = library_at kind ms at m is

-- a method with its name and descriptor is like it
is_like : (classes : List Class) (id at : ℕ) (one : Method) (o : Option LibraryMember)
    → slice_get (table.class_at id).members at ≡ o
    → IsTrue (option_map_or (λ m. m.is_method) o false)
    → named_at classes (record { class = Lib id; index = at }) ≡ (one.name, method_text one.ty)
    → table.is_method one.name (method_text one.ty) o ≡ true
is_like classes id at one None is method named = absurd cc
is_like classes id at one (Some m) is method named =
    let row = library_at (table.class_at id).kind (table.class_at id).members at m is in
    let same : ◌≡◌ {A = NameAndType} (m.name, m.descriptor) (one.name, method_text one.ty) =
    sym (ap (λ (o : Option MemberRow). option_map_or (λ r. r.named) o ([], [])) row) ∙ named in
    ap (λ b. b && (is_text m.name one.name && is_text m.descriptor (method_text one.ty))) method
    ∙ ap (λ b. b && is_text m.descriptor (method_text one.ty)) (text_is m.name one.name (ap (λ t. t.0) same))
    ∙ text_is m.descriptor (method_text one.ty) (ap (λ t. t.1) same)

pub none_like : (classes : List Class) (id at : ℕ) (one : Method) (b : Bool)
    → IsMethod classes (record { class = Lib id; index = at })
    → b ≡ table.is_method one.name (method_text one.ty) (slice_get (table.class_at id).members at) → b ≡ false
    → named_at classes (record { class = Lib id; index = at }) ≡ (one.name, method_text one.ty) → ⊥
none_like classes id at one b method is other named =
    let like = is_like classes id at one (slice_get (table.class_at id).members at) refl
    (library_method classes id at method) named in
    let h : true ≡ false = sym like ∙ sym is ∙ other in
    absurd cc

-- ---- no class has one

module _ (classes : List Class) (marks : List (List ℕ)) (keys : List ℕ) (groups : List Group)
    (are : AreAlike classes marks keys groups) (placed : ArePlaced keys groups) (id at : ℕ)
    (there : id < length library) (method : IsMethod classes (record { class = Lib id; index = at }))
    (none : (g : ℕ) → g < length groups
    → HasNone classes (named_at classes (record { class = Lib id; index = at })) (get_or groups g Mixed)) where
  abbrev named : NameAndType
  named = named_at classes (record { class = Lib id; index = at })

  abbrev other : Option LibraryMember
  other = slice_get (table.class_at id).members at

  abbrev likes : Class → Option ℕ
  likes c = position (λ m. table.is_method m.name (method_text m.ty) other) c.methods

  -- the method of a class that is like it is the one that the class declares
  declared_like : (n : ℕ) (c : Class) → slice_get classes n ≡ Some c
      → declared_in classes named (Prog n)
      ≡ option_map (λ k. record { class = Prog n; index = k }) (option_map (λ k. length c.fields + k) (likes c))
  declared_like n c is =
      ap (option_map (λ k. record { class = Prog n; index = k }))
      (sym (number_like c id at (likes c) there (library_method classes id at method) refl
      ∙ own_declared classes n c other is ∙ library_named classes (Prog n) id at method))

  no_like : (n : ℕ) (c : Class) (j : ℕ) → slice_get classes n ≡ Some c → n < length classes → j < length c.methods
      → declared_in classes named (Prog n) ≡ Some (record { class = Prog n; index = length c.fields + j }) → ⊥
  no_like n c j is n-in within declared =
      let x : MemberAt = record { class = Prog n; index = length c.fields + j } in
      let d = found_at c.methods j within in
      let grouped = are.grouped n (length c.fields + j) n-in (method_is classes n j c d.0 is d.1) in
      none (place_of keys (mark_of (named_at classes x)))
      (placed (mark_of (named_at classes x)) (mark_below (named_at classes x))) x grouped
      (declared_named classes named (Prog n) x declared)

  none_of : (n : ℕ) (c : Class) (o : Option ℕ) → slice_get classes n ≡ Some c → n < length classes → likes c ≡ o
      → is_some (declared_in classes named (Prog n)) ≡ false
  none_of n c None is n-in found =
      ap is_some (declared_like n c is
      ∙ ap (λ (o : Option ℕ). option_map (λ k. record { class = Prog n; index = k })
      (option_map (λ k. length c.fields + k) o)) found)
  none_of n c (Some j) is n-in found =
      absurd (no_like n c j is n-in
      (position_below (λ m. table.is_method m.name (method_text m.ty) other) c.methods j found)
      (declared_like n c is
      ∙ ap (λ (o : Option ℕ). option_map (λ k. record { class = Prog n; index = k })
      (option_map (λ k. length c.fields + k) o)) found))

  -- no class of the set has a method with its name and descriptor
  pub none_has : AreNone classes named (length classes)
  none_has n n-in = let c = found_at classes n n-in in none_of n c.0 (likes c.0) c.1 n-in refl

-- one more group has none
pub more_none : (classes : List Class) (named : NameAndType) (groups : List Group) (i : ℕ) (group : Group)
    → i < length groups → group ≡ get_or groups i group
    → ((g : ℕ) → g < i → HasNone classes named (get_or groups g Mixed)) → HasNone classes named group
    → (g : ℕ) → g < i + 1 → HasNone classes named (get_or groups g Mixed)
more_none classes named groups i group within is so_far here g less =
    ⊎_elim
    (λ low. so_far g low)
    (λ over. let e : i ≡ g = omega (arith, over, less) in
    subst (λ (k : ℕ). HasNone classes named (get_or groups k Mixed)) e
    (subst (HasNone classes named) (is ∙ get_or_default groups i group Mixed within) here))
    (cases_lt g i)
