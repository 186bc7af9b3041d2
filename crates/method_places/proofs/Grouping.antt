-- Methods in groups by the marks of their names and descriptors.
use Rattle.std.proofs.Common.{◌≡◌, ◌≤◌, ◌<◌, ◌+◌, ◌-◌, ◌&&◌, not, ℕ, Bool, true, false, cond, nat_lt, List}
use Rattle.std.proofs.Common.{[], ◌∷◌, ◌++◌, length, get_or, map, set, slice_get, Option, Some, None, refl, sym, ap}
use Rattle.std.proofs.Common.{subst, ◌∙◌, arith, ⊎_elim, length-set}
use Rattle.std.proofs.Math.Dec.{eqb}
use Rattle.std.specs.List.{position, prefix_len}
use Rattle.std.specs.List.Sorted.{IsSorted}
use Rattle.std.specs.Option.{option_and_then, option_map, option_map_or}
use Rattle.std.specs.Ordering.{nat_cmp, ordering_index}
use Rattle.std.specs.declared.cmp.Ordering.TheVariants.{Equal, Greater, Less}
use Rattle.std.proofs.lemmas.Bool.{and_parts, cases_lt, eq-eqb, eqb-true, le-ltb, lt-ltb}
use Rattle.std.proofs.lemmas.Cmp.{nat_cmp_total}
use Rattle.std.proofs.lemmas.List.{get_or-set_other, get_or-set_same}
use Rattle.std.proofs.lemmas.List.Sorted.{searchable_from_sorted}
use Rattle.std.proofs.lemmas.List.Sums.{prefix_len_is}
use Rattle.std.proofs.lemmas.Option.{get_or_from_slice_get, slice_get-get_or, slice_get-map, slice_get_within}
use Rattle.jv_base.specs.Names.{is_text}
use Rattle.jv_base.specs.Types.{field_text, method_text}
use Rattle.jv_base.specs.declared.types.FieldType.{FieldType}
use Rattle.jv_base.specs.declared.types.MethodType.{MethodType}
use Rattle.jv_base.proofs.Equality.{text_Decides}
use Rattle.class_model.specs.declared.class.Class.{Class}
use Rattle.class_model.specs.declared.class.Method.{Method}
use Rattle.class_pool.specs.Found.{IsMethod, MemberRow, NameAndType, declared_in, field_row, method_row, named_at}
use Rattle.class_pool.specs.Found.{row_at}
use Rattle.class_pool.specs.Members.{is_field, is_method, member_named, or_method}
use Rattle.class_pool.specs.declared.id.ClassId.TheVariants.{Prog}
use Rattle.class_pool.specs.declared.id.MemberAt.{MemberAt}
use Rattle.class_pool.proofs.Declaring.{behind}
use Rattle.class_pool.proofs.LikeMethods.{begins, field_begins, own_method}
use Rattle.method_places.specs.bodies.Alike.{AreClassGrouped, AreGrouped, IsFirst, IsGrouped, Knows, KnowsEarlier}
use Rattle.method_places.specs.bodies.Alike.{StillKnow, class_marks, mark_in, place_of}
use Rattle.method_places.specs.bodies.Marks.{mark_of}
use Rattle.method_places.specs.declared.alike.Group.{Group}
use Rattle.method_places.specs.declared.alike.Group.TheVariants.{Mixed}
use Rattle.require_sys.proofs.Parts.{no_and}

-- ---- a mark among those that ascend

less_on : (a b u v : Bool) → ordering_index (cond a Less (cond u Equal Greater))
    ≤ ordering_index (cond b Less (cond v Equal Greater)) → b ≡ true → a ≡ true
less_on true b u v rises less = refl
less_on false true true v rises less = absurd (omega (arith, rises))
less_on false true false v rises less = absurd (omega (arith, rises))
less_on false false u v rises less = absurd cc

pub less_before : (keys : List ℕ) (mark i j : ℕ) → IsSorted nat_cmp keys → i ≤ j → j < length keys
    → nat_lt (get_or keys j 0) mark ≡ true → nat_lt (get_or keys i 0) mark ≡ true
less_before keys mark i j sorted low within less =
    less_on (nat_lt (get_or keys i 0) mark) (nat_lt (get_or keys j 0) mark) _ _
    (searchable_from_sorted nat_cmp_total (λ (x : ℕ). x) keys mark sorted i j 0 low within) less

pub not_less_behind : (keys : List ℕ) (mark i j : ℕ) → IsSorted nat_cmp keys → i ≤ j → j < length keys
    → nat_lt (get_or keys i 0) mark ≡ false → nat_lt (get_or keys j 0) mark ≡ false
not_less_behind keys mark i j sorted low within other = by (nat_lt (get_or keys j 0) mark) refl
  where
    by : (b : Bool) → nat_lt (get_or keys j 0) mark ≡ b → b ≡ false
    by false e = refl
    by true e = absurd (let q : true ≡ false = sym (less_before keys mark i j sorted low within e) ∙ other in cc)

-- ---- methods by their rows

module _ (classes : List Class) (n j : ℕ) (c : Class) (d : Method) (is : slice_get classes n ≡ Some c)
    (at : slice_get c.methods j ≡ Some d) where
  abbrev method : MemberAt
  method = record { class = Prog n; index = length c.fields + j }

  pub method_row_is : row_at classes method ≡ Some (method_row d)
  method_row_is =
      ap (λ (o : Option Class). slice_get (option_map_or (λ x. map field_row x.fields ++ map method_row x.methods) o [])
      (length c.fields + j)) is
      ∙ behind field_row c.fields (map method_row c.methods) j
      ∙ slice_get-map method_row c.methods j ∙ ap (option_map method_row) at

  -- it is a method
  pub method_is : IsMethod classes method
  method_is = ap (λ (o : Option MemberRow). option_map_or (λ row. row.is_method) o false) method_row_is

  -- with that name and that descriptor
  pub method_named : named_at classes method ≡ (d.name, method_text d.ty)
  method_named = ap (λ (o : Option MemberRow). option_map_or (λ row. row.named) o ([], [])) method_row_is

-- the mark of a method of a class
pub marked_at : (c : Class) (marks : List ℕ) (k : ℕ) (d : Method) → marks ≡ class_marks c
    → slice_get c.methods k ≡ Some d → get_or marks k 0 ≡ mark_in d
marked_at c marks k d are at =
    ap (λ t. get_or t k 0) are
    ∙ get_or_from_slice_get (class_marks c) k (mark_in d) 0
    (slice_get-map mark_in c.methods k ∙ ap (option_map mark_in) at)

-- ---- groups

-- a method is put
pub group_put : (classes : List Class) (old new : List Group) (place : ℕ) (now : Group) → place < length old
    → new ≡ set old place now
    → ((x : MemberAt) → Knows classes (get_or old place Mixed) x → Knows classes now x) → StillKnow classes old new
group_put classes old new place now within put step =
    subst (StillKnow classes old) (sym put) (length-set old place now, λ g m. by g m (eqb place g) refl)
  where
    by : (g : ℕ) (m : MemberAt) (b : Bool) → eqb place g ≡ b → Knows classes (get_or old g Mixed) m
        → Knows classes (get_or (set old place now) g Mixed) m
    by g m true e known =
        let same : place ≡ g = eqb-true place g e in
        subst (λ (k : ℕ). Knows classes (get_or (set old place now) k Mixed) m) same
        (subst (λ (u : Group). Knows classes u m) (sym (get_or-set_same old place now Mixed within))
        (step m (subst (λ (k : ℕ). Knows classes (get_or old k Mixed) m) (sym same) known)))
    by g m false e known =
        subst (λ (u : Group). Knows classes u m)
        (sym (get_or-set_other old place g now Mixed (λ q. absurd (let h = eq-eqb g place q in
        let r = eq-eqb place g (sym q) in cc)))) known

pub still_then : (classes : List Class) (old now new : List Group) → StillKnow classes old now
    → StillKnow classes now new → StillKnow classes old new
still_then classes old now new first second =
    (second.0 ∙ first.0, λ g m known. second.1 g m (first.1 g m known))

-- one more method of a class
pub one_grouped : (classes : List Class) (keys : List ℕ) (old new : List Group) (n fields i place : ℕ)
    → AreClassGrouped classes keys old n fields i → StillKnow classes old new
    → place ≡ place_of keys (mark_of (named_at classes (record { class = Prog n; index = fields + i })))
    → Knows classes (get_or new place Mixed) (record { class = Prog n; index = fields + i })
    → AreClassGrouped classes keys new n fields (i + 1)
one_grouped classes keys old new n fields i place so_far still at here k less =
    ⊎_elim
    (λ low. still.1 _ (record { class = Prog n; index = fields + k }) (so_far k low))
    (λ over. let e : i ≡ k = omega (arith, over, less) in
    subst (λ (j : ℕ). IsGrouped classes keys new n (fields + j)) e
    (subst (λ (p : ℕ). Knows classes (get_or new p Mixed) (record { class = Prog n; index = fields + i })) at here))
    (cases_lt k i)

-- one more class
pub class_grouped : (classes : List Class) (keys : List ℕ) (old new : List Group) (n : ℕ) (c : Class)
    → slice_get classes n ≡ Some c → AreGrouped classes keys old n → StillKnow classes old new
    → AreClassGrouped classes keys new n (length c.fields) (length c.methods) → AreGrouped classes keys new (n + 1)
class_grouped classes keys old new n c is so_far still own o k less method =
    ⊎_elim
    (λ low. still.1 _ (record { class = Prog o; index = k }) (so_far o k low method))
    (λ over. let e : n ≡ o = omega (arith, over, less) in
    subst (λ (p : ℕ). IsMethod classes (record { class = Prog p; index = k }) → IsGrouped classes keys new p k) e
    here method)
    (cases_lt o n)
  where
    here : IsMethod classes (record { class = Prog n; index = k }) → IsGrouped classes keys new n k
    here m =
        let h = own_method classes n k c is m in
        let low = h.1 in
        let e : length c.fields + (k - length c.fields) ≡ k = omega (arith, low) in
        subst (IsGrouped classes keys new n) e
        (own (k - length c.fields) (slice_get_within c.methods (k - length c.fields) h.0 h.2))

-- ---- the first method of a class with its name and descriptor

method_begins : (ty : MethodType) → begins (method_text ty) ≡ true
unfolding method_text
method_begins ty = refl

other_text : (ty : MethodType) (field : FieldType) → is_text (method_text ty) (field_text field) ≡ false
other_text ty field = by (is_text (method_text ty) (field_text field)) refl
  where
    by : (b : Bool) → is_text (method_text ty) (field_text field) ≡ b → b ≡ false
    by false e = refl
    by true e = absurd
        (let same = (text_Decides (method_text ty) (field_text field)).0 e in
        let q : true ≡ false = sym (method_begins ty) ∙ ap begins same ∙ field_begins field in
        cc)

module _ {X : Type 0} (p : X → Bool) (xs : List X) where
  never : ((x : X) → p x ≡ false) → (i : ℕ) → i ≡ length xs → position p xs ≡ None
  never none i whole = by xs i whole
    where
      by : (ys : List X) (i : ℕ) → i ≡ length ys → position p ys ≡ None
      by [] i whole = refl
      by (y ∷ ys) i whole =
          let long : prefix_len (λ x. not (p x)) (y ∷ ys) ≡ length (y ∷ ys) =
          prefix_len_is (λ x. not (p x)) (y ∷ ys) (length (y ∷ ys)) y (omega arith)
          (λ k less. ap not (none (get_or (y ∷ ys) k y))) (λ less. absurd (omega (arith, less))) in
          ap (λ n. cond (nat_lt n (length (y ∷ ys))) (Some n) None) long
          ∙ ap (λ b. cond b (Some (length (y ∷ ys))) None) (le-ltb (length (y ∷ ys)) (length (y ∷ ys)) (omega arith))

  first_at : (j : ℕ) (x : X) → slice_get xs j ≡ Some x → p x ≡ true
      → ((i : ℕ) → i < j → (y : X) → slice_get xs i ≡ Some y → p y ≡ false) → position p xs ≡ Some j
  first_at j x at passes others =
      let within = slice_get_within xs j x at in
      let long : prefix_len (λ y. not (p y)) xs ≡ j =
      prefix_len_is (λ y. not (p y)) xs j x (omega (arith, within))
      (λ k less. ap not (others k less (get_or xs k x) (slice_get-get_or xs k x (omega (arith, less, within)))))
      (λ less. ap (λ y. not (p y)) (get_or_from_slice_get xs j x x at) ∙ ap not passes) in
      ap (λ n. cond (nat_lt n (length xs)) (Some n) None) long
      ∙ ap (λ b. cond b (Some j) None) (lt-ltb j (length xs) within)

-- a method is the first one of its class with its name and descriptor where no earlier method has them
pub first_alone : (classes : List Class) (n j : ℕ) (c : Class) (d : Method) → slice_get classes n ≡ Some c
    → slice_get c.methods j ≡ Some d
    → ((i : ℕ) → i < j → (e : Method) → slice_get c.methods i ≡ Some e → e.name ≡ d.name
    → method_text e.ty ≡ method_text d.ty → ⊥)
    → declared_in classes (d.name, method_text d.ty) (Prog n)
    ≡ Some (record { class = Prog n; index = length c.fields + j })
first_alone classes n j c d is at alone =
    ap (λ (o : Option Class). option_map (λ k. record { class = Prog n; index = k })
    (option_and_then (λ x. member_named x d.name (method_text d.ty)) o)) is
    ∙ ap (λ (o : Option ℕ). option_map (λ k. record { class = Prog n; index = k })
    (or_method c d.name (method_text d.ty) o))
    (never (is_field d.name (method_text d.ty)) c.fields
    (λ f. ap (λ b. is_text f.name d.name && b) (other_text d.ty f.ty) ∙ no_and (is_text f.name d.name))
    (length c.fields) refl)
    ∙ ap (λ (o : Option ℕ). option_map (λ k. record { class = Prog n; index = k })
    (option_map (λ k. length c.fields + k) o))
    (first_at (is_method d.name (method_text d.ty)) c.methods j d at
    (ap (λ b. b && is_text (method_text d.ty) (method_text d.ty)) ((text_Decides d.name d.name).1 refl)
    ∙ (text_Decides (method_text d.ty) (method_text d.ty)).1 refl)
    (λ i less e there. other i less e there (is_method d.name (method_text d.ty) e) refl))
  where
    other : (i : ℕ) → i < j → (e : Method) → slice_get c.methods i ≡ Some e → (b : Bool)
        → is_method d.name (method_text d.ty) e ≡ b → b ≡ false
    other i less e there false h = refl
    other i less e there true h =
        let parts = and_parts (is_text e.name d.name) (is_text (method_text d.ty) (method_text e.ty)) h in
        let name : e.name ≡ d.name = (text_Decides e.name d.name).0 parts.0 in
        let ty : method_text e.ty ≡ method_text d.ty =
        sym ((text_Decides (method_text d.ty) (method_text e.ty)).0 parts.1) in
        absurd (alone i less e there name ty)

-- the class of a method is there
method_class : (classes : List Class) (n k : ℕ) → IsMethod classes (record { class = Prog n; index = k })
    → (c : Class) × (slice_get classes n ≡ Some c)
method_class classes n k m = by (slice_get classes n) refl m
  where
    by : (o : Option Class) → slice_get classes n ≡ o → IsMethod classes (record { class = Prog n; index = k })
        → (c : Class) × (slice_get classes n ≡ Some c)
    by None e h = absurd
        (let q : true ≡ false = sym h ∙ ap (λ (o : Option Class). option_map_or (λ (row : MemberRow). row.is_method)
        (slice_get (option_map_or (λ x. map field_row x.fields ++ map method_row x.methods) o []) k) false) e in
        cc)
    by (Some c) e h = (c, e)

pub same_named : (e d : Method) → e.name ≡ d.name → method_text e.ty ≡ method_text d.ty
    → ◌≡◌ {A = NameAndType} (e.name, method_text e.ty) (d.name, method_text d.ty)
same_named e d name ty = λ i. (name i, ty i)

-- the same by the numbers of members
pub first_earlier : (classes : List Class) (n index : ℕ) → IsMethod classes (record { class = Prog n; index = index })
    → ((k : ℕ) → k < index → IsMethod classes (record { class = Prog n; index = k })
    → named_at classes (record { class = Prog n; index = k })
    ≡ named_at classes (record { class = Prog n; index = index }) → ⊥)
    → IsFirst classes (record { class = Prog n; index = index })
first_earlier classes n index m earlier =
    let there = method_class classes n index m in
    let own = own_method classes n index there.0 there.1 m in
    let low = own.1 in
    let e : length there.0.fields + (index - length there.0.fields) ≡ index = omega (arith, low) in
    ap (λ t. declared_in classes t (Prog n)) own.3
    ∙ first_alone classes n (index - length there.0.fields) there.0 own.0 there.1 own.2
    (λ i less d at name ty. earlier (length there.0.fields + i) (omega (arith, less, low))
    (method_is classes n i there.0 d there.1 at)
    (method_named classes n i there.0 d there.1 at ∙ same_named d own.0 name ty ∙ sym own.3))
    ∙ ap (λ (k : ℕ). Some (record { class = Prog n; index = k })) e

-- where groups know the first methods of a class, the group of the next one knows those with its name and descriptor
pub earlier_known : (classes : List Class) (keys : List ℕ) (groups : List Group) (n i place : ℕ) (c : Class)
    → slice_get classes n ≡ Some c → AreClassGrouped classes keys groups n (length c.fields) i
    → place ≡ place_of keys (mark_of (named_at classes (record { class = Prog n; index = length c.fields + i })))
    → KnowsEarlier classes (get_or groups place Mixed) n (length c.fields + i)
earlier_known classes keys groups n i place c is so_far at k less method same =
    let low = (own_method classes n k c is method).1 in
    let e : length c.fields + (k - length c.fields) ≡ k = omega (arith, low) in
    subst (λ (p : ℕ). Knows classes (get_or groups p Mixed) (record { class = Prog n; index = k }))
    (ap (λ t. place_of keys (mark_of t)) same ∙ sym at)
    (subst (IsGrouped classes keys groups n) e (so_far (k - length c.fields) (omega (arith, low, less))))
