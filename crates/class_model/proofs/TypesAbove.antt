-- Lists of types that share their beginnings.
use Rattle.std.proofs.Common.{◌≡◌, ℕ, zero, suc, ◌+◌, ◌-◌, ◌≤◌, ◌<◌, List, [], ◌∷◌, ◌++◌, length, take, drop}
use Rattle.std.proofs.Common.{All}
use Rattle.std.proofs.Common.{inl, inr, true, false, refl, sym, ap, ◌∙◌, append_assoc, arith}
use Rattle.std.proofs.Common.{Some}
use Rattle.std.specs.Prelude.{slice_get}
use Rattle.std.proofs.lemmas.Bool.{cases_lt}
use Rattle.std.proofs.lemmas.Option.{slice_get-get_or}
use mathlib.Core.List.{reverse}
use Rattle.std.proofs.lemmas.List.{append-nil, get_or_append_left, get_or_past, get_or_push, length_push}
use Rattle.std.proofs.lemmas.List.{take-append-le, take-take, take_all, drop_all, drop-append-le}
use Rattle.std.proofs.lemmas.List.{reverse-append}
use Rattle.std.proofs.lemmas.List.Elements.{All-get_or}
use Rattle.class_model.specs.declared.frame.VType.{VType}
use Rattle.class_model.specs.declared.type_lists.TypeAbove.{TypeAbove}
use Rattle.class_model.specs.declared.type_lists.TypeList.{TypeList}
use Rattle.class_model.specs.Frames.{cut_tops, is_top}
use Rattle.class_model.proofs.Tops.{cut_last, cut_not}
use Rattle.class_model.specs.bodies.TypeLists.{nothing, numbered, up_to, types_in, Grows}

-- ---- what lies below

-- each type lies on one of so many
abbrev pub Lie : ℕ → List TypeAbove → Type 0
Lie n types = All (λ (t : TypeAbove). t.below ≤ n) types

-- so does what has a number
pub numbered_lies : (types : List TypeAbove) (n : ℕ) → Lie (length types) types →
    (numbered types n).below ≤ length types
numbered_lies types zero lie = omega arith
numbered_lies types (suc n) lie = elim (cases_lt n (length types)) [
  | inl lt ↦ All-get_or (λ (t : TypeAbove). t.below ≤ length types) types n nothing lt lie
  | inr le ↦ rw (get_or_past types n nothing le) (omega arith)
]

-- ---- one more type

numbered_before : (types : List TypeAbove) (t : TypeAbove) (n : ℕ) → n ≤ length types
    → numbered (types ++ t ∷ []) n ≡ numbered types n
numbered_before types t zero le = refl
numbered_before types t (suc n) le = get_or_append_left types (t ∷ []) nothing n (omega arith)

up_to_before : (types : List TypeAbove) (t : TypeAbove) (n top : ℕ) → Lie (length types) types → top ≤ length types
    → up_to (types ++ t ∷ []) n top ≡ up_to types n top
up_to_before types t zero top lie le = refl
up_to_before types t (suc n) top lie le =
    rw (numbered_before types t top le)
    (ap (λ (front : List VType). front ++ (numbered types top).ty ∷ [])
    (up_to_before types t n (numbered types top).below lie (numbered_lies types top lie)))

-- the lists that there are stay the same
pub grows_one : (types : List TypeAbove) (t : TypeAbove) → Lie (length types) types → Grows types (types ++ t ∷ [])
grows_one types t lie = record {
  longer = omega (arith, length_push types t);
  same = λ n top le. up_to_before types t n top lie le;
}

pub grows_not : (types : List TypeAbove) → Grows types types
grows_not types = record { longer = omega arith; same = λ n top le. refl }

pub grows_twice : (first next last : List TypeAbove) → Grows first next → Grows next last → Grows first last
grows_twice first next last one more = record {
  longer = omega (arith, one.longer, more.longer);
  same = λ n top le. more.same n top (omega (arith, one.longer)) ∙ one.same n top le;
}

-- more types, of which the last is new
pub grows_by : (types new : List TypeAbove) (t : TypeAbove) → Lie (length types) types → new ≡ types ++ t ∷ []
    → Grows types new
grows_by types new t lie is = rw is (grows_one types t lie)

-- one more type on a list
pub one_above : (types : List TypeAbove) (list : TypeList) (ty : VType) → Lie (length types) types
    → list.top ≤ length types
    → up_to (types ++ record { ty = ty; below = list.top } ∷ []) (suc list.len) (suc (length types))
    ≡ types_in types list ++ ty ∷ []
one_above types list ty lie le =
    let t : TypeAbove = record { ty = ty; below = list.top } in
    rw (get_or_push types t nothing (length types) refl)
    (ap (λ (front : List VType). front ++ ty ∷ []) (up_to_before types t list.len list.top lie le))

-- the list with it
pub list_above : (types new : List TypeAbove) (list more : TypeList) (ty : VType) → Lie (length types) types
    → list.top ≤ length types → new ≡ types ++ record { ty = ty; below = list.top } ∷ []
    → more.len ≡ list.len + 1 → more.top ≡ length new → types_in new more ≡ types_in types list ++ ty ∷ []
list_above types new list more ty lie le is len top =
    let n : more.len ≡ suc list.len = omega (arith, len) in
    let last : more.top ≡ suc (length types) =
    top ∙ ap length is ∙ length_push types (record { ty = ty; below = list.top }) ∙ omega arith in
    let all : List TypeAbove = types ++ record { ty = ty; below = list.top } ∷ [] in
    ap (λ (held : List TypeAbove). types_in held more) is ∙ ap (λ (k : ℕ). up_to all k more.top) n
    ∙ ap (up_to all (suc list.len)) last ∙ one_above types list ty lie le

-- ---- the types of a list

pub length-up_to : (types : List TypeAbove) (n top : ℕ) → length (up_to types n top) ≡ n
length-up_to types zero top = refl
length-up_to types (suc n) top =
    length_push (up_to types n (numbered types top).below) (numbered types top).ty
    ∙ ap (λ (k : ℕ). k + 1) (length-up_to types n (numbered types top).below) ∙ omega arith

-- a list is the one below with its topmost type
pub types_below : (types : List TypeAbove) (list below : TypeList) → below.len + 1 ≡ list.len
    → below.top ≡ (numbered types list.top).below
    → types_in types list ≡ types_in types below ++ (numbered types list.top).ty ∷ []
types_below types list below len top =
    let n : list.len ≡ suc below.len = omega (arith, len) in
    ap (λ (k : ℕ). up_to types k list.top) n
    ∙ ap (λ (k : ℕ). up_to types below.len k ++ (numbered types list.top).ty ∷ []) (sym top)

-- the topmost type is the last
pub last_is : (types : List TypeAbove) (list : TypeList) → 0 < list.len
    → slice_get (types_in types list) (length (types_in types list) - 1) ≡ Some (numbered types list.top).ty
last_is types list some = by list.len refl where
  by : (n : ℕ) → list.len ≡ n
      → slice_get (types_in types list) (length (types_in types list) - 1) ≡ Some (numbered types list.top).ty
  by zero is = absurd (omega (arith, some, is))
  by (suc n) is =
      let below : List VType = up_to types n (numbered types list.top).below in
      let ty = (numbered types list.top).ty in
      let size : length (below ++ ty ∷ []) - 1 ≡ length below = omega (arith, length_push below ty) in
      let whole : types_in types list ≡ below ++ ty ∷ [] = ap (λ (k : ℕ). up_to types k list.top) is in
      ap (λ (ts : List VType). slice_get ts (length ts - 1)) whole
      ∙ ap (slice_get (below ++ ty ∷ [])) size
      ∙ slice_get-get_or (below ++ ty ∷ []) (length below) ty (omega (arith, length_push below ty))
      ∙ ap (λ (t : VType). Some t) (get_or_push below ty ty (length below) refl)

-- so they begin with the same types
pub below_begins : (types : List TypeAbove) (list below : TypeList) (k : ℕ) → below.len + 1 ≡ list.len
    → below.top ≡ (numbered types list.top).below → k ≤ below.len
    → take k (types_in types below) ≡ take k (types_in types list)
below_begins types list below k len top le =
    let size = length-up_to types below.len below.top in
    sym (ap (take k) (types_below types list below len top)
    ∙ take-append-le k (types_in types below) ((numbered types list.top).ty ∷ []) (omega (arith, le, size)))

-- a beginning, without its last type
pub shorter_begins : (types : List TypeAbove) (list below : TypeList) (all : List VType) → below.len + 1 ≡ list.len
    → below.top ≡ (numbered types list.top).below → types_in types list ≡ take list.len all
    → types_in types below ≡ take below.len all
shorter_begins types list below all len top begins =
    let size = length-up_to types below.len below.top in
    sym (take_all below.len (types_in types below) (omega (arith, size)))
    ∙ below_begins types list below below.len len top (omega arith)
    ∙ ap (take below.len) begins ∙ take-take below.len list.len all (omega (arith, len))

-- a list of so many types is its own beginning of so many
pub begins_whole : (types : List TypeAbove) (list : TypeList) (len : ℕ) (all : List VType) → list.len ≡ len
    → take len (types_in types list) ≡ all → up_to types len list.top ≡ all
begins_whole types list len all is begins =
    let size = length-up_to types list.len list.top in
    ap (λ (n : ℕ). up_to types n list.top) (sym is)
    ∙ sym (take_all len (types_in types list) (omega (arith, size, is))) ∙ begins

-- two lists with one topmost type
pub one_top : (types : List TypeAbove) (left right : TypeList) (one other : List VType) → left.len ≡ right.len
    → left.top ≡ right.top → types_in types left ≡ take left.len one → types_in types right ≡ take right.len other
    → take left.len one ≡ take left.len other
one_top types left right one other len top l r =
    sym l ∙ ap (λ (n : ℕ). up_to types n left.top) len ∙ ap (up_to types right.len) top ∙ r
    ∙ ap (λ (n : ℕ). take n other) (sym len)

-- ---- Tops at the end

pub top_goes : (types : List TypeAbove) (list below : TypeList) → below.len + 1 ≡ list.len
    → below.top ≡ (numbered types list.top).below → is_top (numbered types list.top).ty ≡ true
    → cut_tops (types_in types below) ≡ cut_tops (types_in types list)
top_goes types list below len top h =
    sym (ap cut_tops (types_below types list below len top)
    ∙ cut_last (types_in types below) (numbered types list.top).ty h)

pub nothing_goes : (types : List TypeAbove) (list : TypeList) → is_top (numbered types list.top).ty ≡ false
    → types_in types list ≡ cut_tops (types_in types list)
nothing_goes types list h = by list.len refl where
  by : (n : ℕ) → list.len ≡ n → types_in types list ≡ cut_tops (types_in types list)
  by zero is = rw is refl
  by (suc n) is =
      let below : List VType = up_to types n (numbered types list.top).below in
      rw is (sym (cut_not below (numbered types list.top).ty h))

pub nothing_there : (types : List TypeAbove) (list : TypeList) → list.len ≡ 0
    → types_in types list ≡ cut_tops (types_in types list)
nothing_there types list is = rw is refl

-- ---- from the topmost type on

-- so many types from the one of a number down
abbrev pub down : List TypeAbove → ℕ → ℕ → List VType
down types zero top = []
down types (suc n) top = (numbered types top).ty ∷ down types n (numbered types top).below

pub turned : (types : List TypeAbove) (n from top : ℕ)
    → reverse (down types (n - from) top) ≡ drop from (up_to types n top)
turned types zero from top =
    let none : zero - from ≡ 0 = omega arith in
    rw none (sym (drop_all from [] (omega arith)))
turned types (suc n) from top =
    let ty = (numbered types top).ty in
    let below = (numbered types top).below in
    let size = length-up_to types n below in
    elim (cases_lt n from) [
      | inl lt ↦
          let none : suc n - from ≡ 0 = omega (arith, lt) in
          rw none (sym (drop_all from (up_to types (suc n) top) (omega (arith, lt, length-up_to types (suc n) top))))
      | inr le ↦
          let more : suc n - from ≡ suc (n - from) = omega (arith, le) in
          rw more (reverse-append (ty ∷ []) (down types (n - from) below)
          ∙ ap (λ (front : List VType). front ++ ty ∷ []) (turned types n from below)
          ∙ sym (drop-append-le from (up_to types n below) (ty ∷ []) (omega (arith, le, size))))
    ]

-- one type further down
pub down_more : (types : List TypeAbove) (front : List VType) (count i top : ℕ) (all : List VType) → i < count
    → front ++ down types (count - i) top ≡ all
    → (front ++ (numbered types top).ty ∷ []) ++ down types (count - (i + 1)) (numbered types top).below ≡ all
down_more types front count i top all lt so_far =
    let k : count - i ≡ suc (count - (i + 1)) = omega arith in
    let one : front ++ down types (suc (count - (i + 1))) top ≡ all
    = sym (ap (λ (n : ℕ). front ++ down types n top) k) ∙ so_far in
    append_assoc front ((numbered types top).ty ∷ []) (down types (count - (i + 1)) (numbered types top).below) ∙ one

pub down_done : (types : List TypeAbove) (front : List VType) (count i top : ℕ) (all : List VType) → count ≤ i
    → front ++ down types (count - i) top ≡ all → front ≡ all
down_done types front count i top all le so_far =
    let k : count - i ≡ 0 = omega arith in
    sym (append-nil front) ∙ sym (ap (λ (n : ℕ). front ++ down types n top) k) ∙ so_far
