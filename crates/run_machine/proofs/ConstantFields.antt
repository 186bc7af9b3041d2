-- Fields that get their ConstantValue one after the other are all that have one.
use Rattle.std.proofs.Common.{◌≡◌, ◌∙◌, Bool, true, false, ◌||◌, ℕ, zero, suc, List, [], ◌∷◌, Option, Some, None, ap}
use Rattle.std.proofs.Common.{arith, drop, get_or, length, refl, sym, ◌+◌, ◌<◌}
use Rattle.std.proofs.lemmas.List.{drop_more}
use Rattle.std.specs.List.{All, list_any}
use Rattle.std.specs.Option.{option_map_or}
use Rattle.std.specs.Prelude.{if◌then◌else◌, is_some}
use Rattle.jv_base.proofs.Equality.{text_Decides}
use Rattle.jv_base.specs.Names.{is_text}
use Rattle.jvm_model.specs.Fields.{stored_in}
use Rattle.jvm_model.specs.Initialisation.{with_constants}
use Rattle.jvm_model.specs.Program.{Shape}
use Rattle.jvm_model.specs.Value.{Key, Value, same_key, set_key}
use Rattle.jvm_model.proofs.Keys.{key_Decides}
use Rattle.run_heap.specs.Targets.{HasConstants}
use Rattle.run_machine.specs.bodies.Constants.{with_constant, with_each}

-- what a field holds that has its ConstantValue
abbrev due : Shape → (Key → Value) → Key → Value
due p f k = option_map_or (stored_in k) (p.constant k) (f k)

-- another field is as it was
other_is : (p : Shape) (f : Key → Value) (key k : Key) → same_key k key ≡ false → with_constant p f key k ≡ f k
other_is p f key k e = by (p.constant key)
  where
    by : (o : Option Value) → option_map_or (λ v. set_key f key (stored_in key v)) o f k ≡ f k
    by None = refl
    by (Some v) = ap (λ (b : Bool). if b then stored_in key v else f k) e

-- the field has it
this_is : (p : Shape) (f : Key → Value) (k : Key) → with_constant p f k k ≡ due p f k
this_is p f k = by (p.constant k)
  where
    by : (o : Option Value)
        → option_map_or (λ v. set_key f k (stored_in k v)) o f k ≡ option_map_or (stored_in k) o (f k)
    by None = refl
    by (Some v) = ap (λ (b : Bool). if b then stored_in k v else f k) ((key_Decides k k).1 refl)

-- once more makes no difference
twice : (p : Shape) (k : Key) (v : Value) (b : Bool)
    → (if b then option_map_or (stored_in k) (p.constant k) (option_map_or (stored_in k) (p.constant k) v)
    else option_map_or (stored_in k) (p.constant k) v)
    ≡ option_map_or (stored_in k) (p.constant k) v
twice p k v false = refl
twice p k v true = by (p.constant k)
  where
    by : (o : Option Value)
        → option_map_or (stored_in k) o (option_map_or (stored_in k) o v) ≡ option_map_or (stored_in k) o v
    by None = refl
    by (Some x) = refl

-- those of the list have it
each_at : (p : Shape) (keys : List Key) (f : Key → Value) (k : Key)
    → with_each p keys f k ≡ (if list_any (same_key k) keys then due p f k else f k)
each_at p [] f k = refl
each_at p (key ∷ keys) f k = each_at p keys (with_constant p f key) k ∙ by (same_key k key) refl
  where
    by : (b : Bool) → same_key k key ≡ b
        → (if list_any (same_key k) keys then due p (with_constant p f key) k else with_constant p f key k)
        ≡ (if b || list_any (same_key k) keys then due p f k else f k)
    by false e = ap (λ (v : Value). if list_any (same_key k) keys
        then option_map_or (stored_in k) (p.constant k) v else v) (other_is p f key k e)
    by true e =
        let same : k ≡ key = (key_Decides k key).0 e in
        let is : with_constant p f key k ≡ due p f k =
        ap (λ (c : Key). with_constant p f c k) (sym same) ∙ this_is p f k in
        ap (λ (v : Value). if list_any (same_key k) keys then option_map_or (stored_in k) (p.constant k) v else v) is
        ∙ twice p k (f k) (list_any (same_key k) keys)

-- they are all of the class
of_class : (class : List ℕ) (keys : List Key) (k : Key) → All (λ c. c.class ≡ class) keys
    → list_any (same_key k) keys ≡ true → k.class ≡ class
of_class class [] k all e = let f : false ≡ true = e in absurd cc
of_class class (key ∷ keys) k all e = by (same_key k key) refl e
    (of_class class keys k (λ j d lt. all (suc j) d (omega (arith, lt))))
  where
    by : (b : Bool) → same_key k key ≡ b → (b || list_any (same_key k) keys) ≡ true
        → (list_any (same_key k) keys ≡ true → k.class ≡ class) → k.class ≡ class
    by true i f more = ap (λ (c : Key). c.class) ((key_Decides k key).0 i) ∙ all zero key (omega arith)
    by false i f more = more f

-- a field by the tests of its class and of the list, of which one tells of the other
by_tests : (x y : Bool) (o : Option Value) (g : Value → Value) (v : Value) → (y ≡ true → x ≡ true)
    → (x ≡ true → is_some o ≡ true → y ≡ true)
    → (if y then option_map_or g o v else v) ≡ (if x then option_map_or g o v else v)
by_tests true true o g v up down = refl
by_tests false false o g v up down = refl
by_tests false true o g v up down = let f : false ≡ true = up refl in absurd cc
by_tests true false None g v up down = refl
by_tests true false (Some u) g v up down = let f : false ≡ true = down refl refl in absurd cc

-- all of the class that have one have it
pub each_is_all : (p : Shape) (class : List ℕ) (keys : List Key) (f : Key → Value) → HasConstants p class keys
    → with_each p keys f ≡ with_constants p class f
each_is_all p class keys f has = λ i k. (each_at p keys f k
    ∙ by_tests (is_text k.class class) (list_any (same_key k) keys) (p.constant k) (stored_in k) (f k)
    (λ e. (text_Decides k.class class).1 (of_class class keys k has.0 e))
    (λ e s. has.1 k ((text_Decides k.class class).0 e) s)) i

-- one more field
pub each_next : (p : Shape) (keys : List Key) (i : ℕ) (key : Key) (f g : Key → Value) → i < length keys
    → key ≡ get_or keys i key → g ≡ with_constant p f key
    → with_each p (drop (i + 1) keys) g ≡ with_each p (drop i keys) f
each_next p keys i key f g lt e h = ap (with_each p (drop (i + 1) keys)) h
    ∙ ap (λ (ks : List Key). with_each p ks f)
    (sym (drop_more keys i key lt ∙ ap (λ (k : Key). k ∷ drop (i + 1) keys) (sym e)))
