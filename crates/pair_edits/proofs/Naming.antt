-- The method that an entry names, by the look-ups of a set.
use Rattle.std.proofs.Common.{◌≡◌, ◌<◌, ◌≤◌, ◌+◌, ◌-◌, ◌&&◌, ℕ, zero, suc, Bool, true, false, cond, List, []}
use Rattle.std.proofs.Common.{◌∷◌, length, map}
use Rattle.std.proofs.Common.{Option, Some, None, is_some, slice_get, refl, sym, ap, subst, ◌∙◌, arith, ltb}
use Rattle.std.specs.List.{find, position, position_or_len}
use Rattle.std.specs.Option.{option_and_then, option_map, option_map_or}
use Rattle.std.proofs.lemmas.Bool.{and_parts, le-ltb, lt-ltb, ltb-false}
use Rattle.std.proofs.lemmas.List.Folds.{find_at}
use Rattle.std.proofs.lemmas.Option.{same_Some}
use Rattle.jv_base.specs.Names.{is_text}
use Rattle.jv_base.specs.Types.{base_text, field_text, method_text}
use Rattle.jv_base.specs.declared.types.Base.{Base}
use Rattle.jv_base.specs.declared.types.Base.TheVariants as base
use Rattle.jv_base.specs.declared.types.FieldType.{FieldType}
use Rattle.jv_base.specs.declared.types.MethodType.{MethodType}
use Rattle.jv_base.proofs.Equality.{same_text}
use Rattle.jv_base.proofs.Lists.{got_mapped, placed}
use Rattle.class_model.specs.declared.class.Class.{Class}
use Rattle.class_model.specs.declared.class.Field.{Field}
use Rattle.class_model.specs.declared.class.Method.{Method}
use Rattle.class_pool.specs.Hierarchy.{class_named, or_found}
use Rattle.class_pool.specs.Members.{declared_at, is_field, is_method, member_named, or_method}
use Rattle.class_pool.specs.declared.id.ClassId.{ClassId}
use Rattle.class_pool.specs.declared.id.ClassId.TheVariants.{Prog, Lib}
use Rattle.lib_table.specs.Lookups as table
use Rattle.mapping_file.specs.declared.mapping.Mapping.{Mapping}
use Rattle.witness_file.specs.declared.witness.MethodWitness.{MethodWitness}
use Rattle.new_names.specs.NewNames.{names_given, new_method}
use Rattle.new_names.specs.declared.class_names.ClassNames.{ClassNames}
use Rattle.pair_clauses.proofs.Zipped.{beyond}
use Rattle.pair_edits.specs.Edits.{is_kept, method_in, method_named}

-- ---- searches

-- what is found stands where the search ends
found_placed : {A : Type 0} (p : A → Bool) (xs : List A) → find p xs ≡ option_and_then (slice_get xs) (position p xs)
found_placed p xs = find_at p xs ∙ by (ltb (position_or_len p xs) (length xs)) refl
  where
    by : (b : Bool) → ltb (position_or_len p xs) (length xs) ≡ b
        → slice_get xs (position_or_len p xs)
        ≡ option_and_then (slice_get xs) (cond b (Some (position_or_len p xs)) None)
    by true h = refl
    by false h = beyond xs (position_or_len p xs) (ltb-false (position_or_len p xs) (length xs) h)

there_is : {A : Type 0} (xs : List A) (n : ℕ) (x : A) → slice_get xs n ≡ Some x → n < length xs
there_is [] n x at = absurd cc
there_is (y ∷ xs) zero x at = omega arith
there_is (y ∷ xs) (suc n) x at = omega (arith, there_is xs n x at)

-- ---- classes

-- no program class has the name
none_named : (input : List Class) (name : List ℕ) (other : Option ClassId)
    → ((n : ℕ) → or_found (position (λ c. is_text name c.name) input) other ≡ Some (Prog n) → ⊥)
    → find (λ (c : Class). is_text name c.name) input ≡ None
none_named input name other never = found_placed (λ (c : Class). is_text name c.name) input
    ∙ by (position (λ (c : Class). is_text name c.name) input) never
  where
    by : (o : Option ℕ) → ((n : ℕ) → or_found o other ≡ Some (Prog n) → ⊥) → option_and_then (slice_get input) o ≡ None
    by None h = refl
    by (Some n) h = absurd (h n refl)

pub unnamed_class : (input : List Class) (name : List ℕ)
    → ((n : ℕ) → class_named input name ≡ Some (Prog n) → ⊥)
    → find (λ (c : Class). is_text name c.name) input ≡ None
unnamed_class input name never = none_named input name (option_map Lib (table.class_named name)) never

-- the class of this number is the one that has the name
pub class_placed : (input : List Class) (name : List ℕ) (n : ℕ) → class_named input name ≡ Some (Prog n)
    → find (λ (x : Class). is_text name x.name) input ≡ slice_get input n
class_placed input name n named = found_placed (λ (x : Class). is_text name x.name) input
    ∙ by (position (λ (x : Class). is_text name x.name) input) named
  where
    lib : (o : Option ℕ) → option_map Lib o ≡ Some (Prog n) → ⊥
    lib None h = absurd cc
    lib (Some id) h = absurd cc

    by : (o : Option ℕ) → or_found o (option_map Lib (table.class_named name)) ≡ Some (Prog n)
        → option_and_then (slice_get input) o ≡ slice_get input n
    by None h = absurd (lib (table.class_named name) h)
    by (Some k) h = let same : k ≡ n = cc in ap (slice_get input) same

pub named_class : (input : List Class) (name : List ℕ) (n : ℕ) (c : Class)
    → class_named input name ≡ Some (Prog n) → slice_get input n ≡ Some c
    → find (λ (x : Class). is_text name x.name) input ≡ Some c
named_class input name n c named at = class_placed input name n named ∙ at

-- ---- members

-- the descriptor of a field is none of a method (JVMS 4.3.2, 4.3.3)
field_no_method : (f : FieldType) (m : MethodType) → is_text (field_text f) (method_text m) ≡ false
unfolding field_text base_text method_text
field_no_method f m = by f.dims f.base
  where
    by : (dims : ℕ) (b : Base) → is_text (field_text (record { dims = dims; base = b })) (method_text m) ≡ false
    by (suc dims) b = refl
    by zero base.Boolean = refl
    by zero base.Byte = refl
    by zero base.Char = refl
    by zero base.Short = refl
    by zero base.Int = refl
    by zero base.Long = refl
    by zero base.Float = refl
    by zero base.Double = refl
    by zero (base.Class name) = refl

none_found : {A : Type 0} (p : A → Bool) (xs : List A) → ((x : A) → p x ≡ false) → find p xs ≡ None
none_found p [] never = refl
none_found {A} p (x ∷ xs) never = ap (λ (b : Bool). cond b (Some x) (find p xs)) (never x) ∙ none_found p xs never

module _ (c : Class) (name ty : List ℕ) where
  -- where a field has the name and the descriptor, no method has them
  none_beside : (f : Field) → is_field name ty f ≡ true → find (is_method name ty) c.methods ≡ None
  none_beside f is = none_found (is_method name ty) c.methods (λ m. never m)
    where
      same : ty ≡ field_text f.ty
      same = same_text ty (field_text f.ty) (and_parts (is_text f.name name) (is_text ty (field_text f.ty)) is).1

      never : (m : Method) → is_method name ty m ≡ false
      never m = ap (λ (b : Bool). is_text m.name name && b)
          (ap (λ (t : List ℕ). is_text t (method_text m.ty)) same ∙ field_no_method f.ty m.ty)
          ∙ false_and (is_text m.name name)
        where
          false_and : (b : Bool) → (b && false) ≡ false
          false_and true = refl
          false_and false = refl

  -- no member has them, so no method has
  pub unnamed_method : member_named c name ty ≡ None → find (is_method name ty) c.methods ≡ None
  unnamed_method h = found_placed (is_method name ty) c.methods
      ∙ by (position (is_field name ty) c.fields) (position (is_method name ty) c.methods) h refl
    where
      by : (o p : Option ℕ) → or_method c name ty o ≡ None
          → p ≡ position (is_method name ty) c.methods → option_and_then (slice_get c.methods) p ≡ None
      by (Some n) p h e = absurd cc
      by None None h e = refl
      by None (Some k) h e =
          absurd (let s : option_map (λ n. length c.fields + n) (Some k) ≡ None =
          ap (option_map (λ n. length c.fields + n)) e ∙ h in cc)

  module _ (index : ℕ) (h : member_named c name ty ≡ Some index) where
    by_fields : (o : Option ℕ) → position (is_field name ty) c.fields ≡ o → or_method c name ty o ≡ Some index
        → find (is_method name ty) c.methods
        ≡ cond (ltb index (length c.fields)) None (slice_get c.methods (index - length c.fields))
    by_fields (Some n) e is =
        let f = placed (is_field name ty) c.fields n e in
        let same : n ≡ index = cc in
        let low : index < length c.fields = subst (λ (i : ℕ). i < length c.fields) same (there_is c.fields n f.0 f.1) in
        none_beside f.0 f.2
        ∙ ap (λ (b : Bool). cond b None (slice_get c.methods (index - length c.fields))) (sym (lt-ltb index (length c.fields) low))
    by_fields None e is = found_placed (is_method name ty) c.methods
        ∙ of_methods (position (is_method name ty) c.methods) is
      where
        of_methods : (o : Option ℕ) → option_map (λ n. length c.fields + n) o ≡ Some index
            → option_and_then (slice_get c.methods) o
            ≡ cond (ltb index (length c.fields)) None (slice_get c.methods (index - length c.fields))
        of_methods None is = absurd cc
        of_methods (Some k) is =
            let same : length c.fields + k ≡ index = cc in
            let high : length c.fields ≤ index = omega (arith, same) in
            let place : k ≡ index - length c.fields = omega (arith, same) in
            ap (slice_get c.methods) place
            ∙ ap (λ (b : Bool). cond b None (slice_get c.methods (index - length c.fields)))
            (sym (le-ltb index (length c.fields) high))

    -- the member of this number has them: a field, or the method of the number behind the fields
    pub found_method : find (is_method name ty) c.methods
        ≡ cond (ltb index (length c.fields)) None (slice_get c.methods (index - length c.fields))
    found_method = by_fields (position (is_field name ty) c.fields) refl h

-- ---- what is kept

module _ (mapping : Mapping) (input : List Class) (e : MethodWitness) where
  abbrev Kept : Option (Class × Method) → Bool
  Kept o = option_map_or (is_kept mapping) o false

  pub no_class : ((n : ℕ) → class_named input e.class ≡ Some (Prog n) → ⊥) → Kept (method_named input e) ≡ false
  no_class never = ap (λ o. Kept (option_and_then (method_in e) o)) (unnamed_class input e.class never)

  pub no_member : (n : ℕ) → class_named input e.class ≡ Some (Prog n)
      → declared_at input (Prog n) e.name e.ty ≡ None → Kept (method_named input e) ≡ false
  no_member n named none = ap (λ o. Kept (option_and_then (method_in e) o)) (class_placed input e.class n named)
      ∙ by (slice_get input n) none
    where
      by : (o : Option Class) → option_and_then (λ (x : Class). member_named x e.name e.ty) o ≡ None
          → Kept (option_and_then (method_in e) o) ≡ false
      by None h = refl
      by (Some c) h = ap (λ o. Kept (option_map (λ m. (c, m)) o)) (unnamed_method c e.name e.ty h)

  module _ (n : ℕ) (c : Class) (named : class_named input e.class ≡ Some (Prog n)) (at : slice_get input n ≡ Some c)
    where
      in_class : method_named input e ≡ method_in e c
      in_class = ap (option_and_then (method_in e)) (named_class input e.class n c named at)

      abbrev of_method : Option Method → Option (Class × Method)
      of_method o = option_map (λ m. (c, m)) o

      -- what is declared in the set is declared in the class
      declared : declared_at input (Prog n) e.name e.ty ≡ member_named c e.name e.ty
      declared = ap (option_and_then (λ (x : Class). member_named x e.name e.ty)) at

      module _ (index : ℕ) (there : declared_at input (Prog n) e.name e.ty ≡ Some index) where
        found : find (is_method e.name e.ty) c.methods
            ≡ cond (ltb index (length c.fields)) None (slice_get c.methods (index - length c.fields))
        found = found_method c e.name e.ty index (sym declared ∙ there)

        pub a_field : index < length c.fields → Kept (method_named input e) ≡ false
        a_field low = ap Kept in_class
            ∙ ap (λ o. Kept (of_method o)) (found
            ∙ ap (λ (b : Bool). cond b None (slice_get c.methods (index - length c.fields)))
            (lt-ltb index (length c.fields) low))

        pub a_method : length c.fields ≤ index → (m : Method)
            → slice_get c.methods (index - length c.fields) ≡ Some m
            → Kept (method_named input e) ≡ (is_some m.code && is_some (new_method mapping c m))
        a_method high m is = ap Kept in_class
            ∙ ap (λ o. Kept (of_method o)) (found
            ∙ ap (λ (b : Bool). cond b None (slice_get c.methods (index - length c.fields)))
            (le-ltb index (length c.fields) high) ∙ is)

        pub no_method : length c.fields ≤ index → slice_get c.methods (index - length c.fields) ≡ None
            → Kept (method_named input e) ≡ false
        no_method high is = ap Kept in_class
            ∙ ap (λ o. Kept (of_method o)) (found
            ∙ ap (λ (b : Bool). cond b None (slice_get c.methods (index - length c.fields)))
            (le-ltb index (length c.fields) high) ∙ is)

-- ---- new names

module _ (mapping : Mapping) (input : List Class) (given : List ClassNames) (is : given ≡ map (names_given mapping) input)
    (n : ℕ) (c : Class) (at : slice_get input n ≡ Some c) (names : ClassNames) (there : slice_get given n ≡ Some names) where
  own_names : names ≡ names_given mapping c
  own_names = same_Some _ _ (sym there ∙ ap (λ (all : List ClassNames). slice_get all n) is
      ∙ got_mapped (names_given mapping) input n c at)

  module _ (k : ℕ) (m : Method) (method : slice_get c.methods k ≡ Some m) where
    new_names : slice_get names.methods k ≡ Some (new_method mapping c m)
    new_names = ap (λ (x : ClassNames). slice_get x.methods k) own_names
        ∙ got_mapped (new_method mapping c) c.methods k m method

    -- the new name of a method, by its place
    pub told_name : (new : Option (List ℕ)) → slice_get names.methods k ≡ Some new → new ≡ new_method mapping c m
    told_name new told = same_Some _ _ (sym told ∙ new_names)

    pub is_told : slice_get names.methods k ≡ None → ⊥
    is_told none = let there = sym none ∙ new_names in absurd cc
