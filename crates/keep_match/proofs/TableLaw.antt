-- A member is tried on those specifications alone that may match it.
use Rattle.std.proofs.Common.{◌≡◌, ℕ, suc, ◌+◌, ◌<◌, inl, inr, Bool, true, false, ◌||◌, cond, List, [], ◌∷◌}
use Rattle.std.proofs.Common.{◌++◌, length, set, get_or, slice_get, Option, Some, None, Result, Ok, Err, nat_lt, refl}
use Rattle.std.proofs.Common.{sym, ap, ◌∙◌, subst, arith, get_or-set_other, get_or-set_same}
use Rattle.std.specs.Prelude.{◌&&◌, OnOk, is_ok}
use Rattle.std.specs.List.{list_any, position}
use Rattle.std.specs.Option.{is_some, option_map, option_map_or}
use Rattle.std.specs.Str.{IsUtf8}
use Rattle.std.proofs.lemmas.Bool.{and_parts, cases_eq, lt-ltb, ltb-true, or_cases, or_left, or_right}
use Rattle.jv_base.specs.Names.{is_text}
use Rattle.jv_base.proofs.Lists.{any_at, any_where, got_in_front, got_right}
use Rattle.class_model.specs.declared.class.Field.{Field}
use Rattle.class_model.specs.declared.class.Method.{Method}
use Rattle.class_pool.proofs.Distinct.{position_next}
use Rattle.keep_rules.specs.declared.rules.MemberSpec.{MemberSpec}
use Rattle.keep_match.specs.Matches.{fits_field, fits_method, is_result_met, matches_field, matches_method}
use Rattle.keep_match.specs.TypePatterns.{match_arguments, matches_type}
use Rattle.keep_match.specs.Wildcards.{wild}
use Rattle.keep_match.specs.bodies.Tables.{Adds, AreFound, IsFound, IsListed, IsNamed, IsTable, in_group}
use Rattle.keep_match.specs.bodies.Tables.{passes_at, with_number}
use Rattle.keep_match.specs.declared.member_table.MemberTable.{MemberTable}
use Rattle.keep_match.proofs.LiteralLaw.{same_name}
use Rattle.keep_match.proofs.NameLaw.{get_below}

-- ---- numbers in lists

listed_more : (k n : ℕ) (xs : List ℕ) → IsListed k xs → IsListed k (xs ++ n ∷ [])
listed_more k n xs h = (h.0, got_in_front xs (n ∷ []) h.0 k h.1)

listed_last : (n : ℕ) (xs : List ℕ) → IsListed n (xs ++ n ∷ [])
listed_last n xs = (length xs + 0, got_right xs (n ∷ []) 0)

group_same : (place n : ℕ) (groups : List (List ℕ)) → place < length groups
    → get_or (with_number place n groups) place [] ≡ get_or groups place [] ++ n ∷ []
group_same place n groups lt =
    ap (λ (b : Bool). get_or (cond b (set groups place (get_or groups place [] ++ n ∷ [])) groups) place [])
    (lt-ltb place (length groups) lt)
    ∙ get_or-set_same groups place (get_or groups place [] ++ n ∷ []) [] lt

group_keeps : (place n : ℕ) (groups : List (List ℕ)) (p k : ℕ) → IsListed k (get_or groups p [])
    → IsListed k (get_or (with_number place n groups) p [])
group_keeps place n groups p k h = by (nat_lt place (length groups)) refl
  where
    grown : List (List ℕ)
    grown = set groups place (get_or groups place [] ++ n ∷ [])

    by : (b : Bool) → nat_lt place (length groups) ≡ b → IsListed k (get_or (cond b grown groups) p [])
    by false e = h
    by true e = elim (cases_eq p place) [
      | inl same ↦ subst (λ (xs : List ℕ). IsListed k xs)
          (sym (ap (λ (q : ℕ). get_or grown q []) same
          ∙ get_or-set_same groups place (get_or groups place [] ++ n ∷ []) [] (ltb-true place (length groups) e)))
          (listed_more k n (get_or groups place [])
          (subst (λ (q : ℕ). IsListed k (get_or groups q [])) same h))
      | inr other ↦ subst (λ (xs : List ℕ). IsListed k xs)
          (sym (get_or-set_other groups place p (get_or groups place [] ++ n ∷ []) [] other)) h
    ]

-- ---- names

stays_behind : {A : Type 0} (t : A → Bool) (xs ys : List A) (p : ℕ) → position t xs ≡ Some p
    → position t (xs ++ ys) ≡ Some p
stays_behind t [] ys p is = absurd cc
stays_behind t (x ∷ xs) ys p is =
    position_next t x (xs ++ ys)
    ∙ by (t x) (position t xs) refl (λ q. stays_behind t xs ys q) (sym (position_next t x xs) ∙ is)
  where
    by : (b : Bool) (o : Option ℕ) → position t xs ≡ o
        → ((q : ℕ) → position t xs ≡ Some q → position t (xs ++ ys) ≡ Some q)
        → cond b (Some 0) (option_map suc o) ≡ Some p
        → cond b (Some 0) (option_map suc (position t (xs ++ ys))) ≡ Some p
    by true o at more e = e
    by false (Some q) at more e = ap (option_map suc) (more q at) ∙ e
    by false None at more e = absurd cc

pub name_stays : {E : Type 0} (r : Result ℕ E) (old new : List (List ℕ)) (name other : List ℕ) (p : ℕ)
    → new ≡ cond (is_ok r) (cond (list_any (is_text name) old) old (old ++ name ∷ [])) old
    → position (is_text other) old ≡ Some p
    → position (is_text other) new ≡ Some p
name_stays r old new name other p grown is =
    ap (position (is_text other)) grown ∙ by (is_ok r) (list_any (is_text name) old)
  where
    by : (b c : Bool) → position (is_text other) (cond b (cond c old (old ++ name ∷ [])) old) ≡ Some p
    by true true = is
    by true false = stays_behind (is_text other) old (name ∷ []) p is
    by false c = is

-- ---- one more specification

found_stays : (k : ℕ) (spec : MemberSpec) (old new : MemberTable)
    → ((other : List ℕ) (p : ℕ) → position (is_text other) old.names ≡ Some p
    → position (is_text other) new.names ≡ Some p)
    → ((p : ℕ) → IsListed k (get_or old.groups.items p []) → IsListed k (get_or new.groups.items p []))
    → (IsListed k old.others.items → IsListed k new.others.items) → IsFound k spec old → IsFound k spec new
found_stays k spec old new names groups others (inl h) = inl (others h)
found_stays k spec old new names groups others (inr h) = inr (record {
  named = h.named;
  place = h.place;
  is = names spec.name h.place h.is;
  listed = groups h.place h.listed;
})

pub adds_other : (number : ℕ) (spec : MemberSpec) (old new : MemberTable)
    → ((other : List ℕ) (p : ℕ) → position (is_text other) old.names ≡ Some p
    → position (is_text other) new.names ≡ Some p)
    → new.groups.items ≡ old.groups.items → new.others.items ≡ old.others.items ++ number ∷ []
    → Adds number spec old new
adds_other number spec old new names groups others = record {
  found = inl (subst (IsListed number) (sym others) (listed_last number old.others.items));
  stays = λ k other. found_stays k other old new names
      (λ p h. subst (λ (gs : List (List ℕ)). IsListed k (get_or gs p [])) (sym groups) h)
      (λ h. subst (IsListed k) (sym others) (listed_more k number old.others.items h));
}

pub adds_named : (number : ℕ) (spec : MemberSpec) (old new : MemberTable) (name : List ℕ) (place : ℕ) → IsNamed spec
    → name ≡ spec.name → Some place ≡ position (is_text name) new.names
    → ((other : List ℕ) (p : ℕ) → position (is_text other) old.names ≡ Some p
    → position (is_text other) new.names ≡ Some p)
    → place < length old.groups.items → new.groups.items ≡ with_number place number old.groups.items
    → new.others.items ≡ old.others.items → Adds number spec old new
adds_named number spec old new name place named same is names within groups others = record {
  found = inr (record {
    named = named;
    place = place;
    is = ap (λ (t : List ℕ). position (is_text t) new.names) (sym same) ∙ sym is;
    listed = subst (IsListed number)
        (sym (ap (λ (gs : List (List ℕ)). get_or gs place []) groups
        ∙ group_same place number old.groups.items within))
        (listed_last number (get_or old.groups.items place []));
  });
  stays = λ k other. found_stays k other old new names
      (λ p h. subst (λ (gs : List (List ℕ)). IsListed k (get_or gs p [])) (sym groups)
      (group_keeps place number old.groups.items p k h))
      (λ h. subst (IsListed k) (sym others) h);
}

-- the same, where the number was put into its group
pub adds_put : {E : Type 0} (r : Result (Unit {0}) E) (number : ℕ) (spec : MemberSpec) (old new : MemberTable)
    (name : List ℕ) (place : ℕ) → IsNamed spec → name ≡ spec.name → Some place ≡ position (is_text name) new.names
    → ((other : List ℕ) (p : ℕ) → position (is_text other) old.names ≡ Some p
    → position (is_text other) new.names ≡ Some p)
    → place < length old.groups.items → OnOk r (new.groups.items ≡ with_number place number old.groups.items)
    → new.others.items ≡ old.others.items → OnOk r (Adds number spec old new)
adds_put (Ok x) number spec old new name place named same is names within groups others =
    adds_named number spec old new name place named same is names within groups others
adds_put (Err e) number spec old new name place named same is names within groups others = tt

pub none_found : (specs : List MemberSpec) (table : MemberTable) → AreFound 0 specs table
none_found specs table k spec low at = absurd (omega (arith, low))

pub one_found : (specs : List MemberSpec) (n : ℕ) (spec : MemberSpec) (old new : MemberTable)
    → slice_get specs n ≡ Some spec → AreFound n specs old → Adds n spec old new → AreFound (n + 1) specs new
one_found specs n spec old new at so_far more k other low is = elim (cases_eq k n) [
  | inl same ↦
      let one : spec ≡ other = same_value (slice_get specs n) spec other at
      (ap (slice_get specs) (sym same) ∙ is) in
      subst (λ (q : ℕ). IsFound q other new) (sym same) (subst (λ (s : MemberSpec). IsFound n s new) one more.found)
  | inr different ↦ more.stays k other (so_far k other (below k n low different) is)
]
  where
    same_value : (o : Option MemberSpec) (x y : MemberSpec) → o ≡ Some x → o ≡ Some y → x ≡ y
    same_value o x y h e = cc

    below : (k n : ℕ) → k < n + 1 → (k ≡ n → ⊥) → k < n
    below k n low different = omega (arith, low, different)

-- ---- which members a specification with a name may match

field_fits : (ty : Option (List ℕ)) (name : List ℕ) (args : Option (List (List ℕ))) (f : Field)
    → (is_some ty || is_some args) ≡ true → fits_field ty name args f ≡ true → wild name f.name ≡ true
field_fits None name None f form h = absurd cc
field_fits (Some ty) name None f form h = (and_parts (wild name f.name) (matches_type ty f.ty) h).0
field_fits None name (Some args) f form h = absurd cc
field_fits (Some ty) name (Some args) f form h = absurd cc

method_fits : (ty : Option (List ℕ)) (name : List ℕ) (args : Option (List (List ℕ))) (m : Method)
    → (is_some ty || is_some args) ≡ true → fits_method ty name args m ≡ true → wild name m.name ≡ true
method_fits None name None m form h = absurd cc
method_fits (Some ty) name None m form h = absurd cc
method_fits None name (Some args) m form h =
    (and_parts (wild name m.name) (is_result_met None m)
    (and_parts (wild name m.name && is_result_met None m) (match_arguments args m.ty.args) h).0).0
method_fits (Some ty) name (Some args) m form h =
    (and_parts (wild name m.name) (is_result_met (Some ty) m)
    (and_parts (wild name m.name && is_result_met (Some ty) m) (match_arguments args m.ty.args) h).0).0

pub field_named : (f : Field) → IsUtf8 f.name → (spec : MemberSpec) → IsNamed spec → matches_field spec f ≡ true
    → spec.name ≡ f.name
unfolding matches_field
field_named f u spec named h =
    same_name spec.name f.name named.free named.text u
    (field_fits spec.ty spec.name spec.args f named.form (and_parts (fits_field spec.ty spec.name spec.args f) _ h).0)

pub method_named : (m : Method) → IsUtf8 m.name → (spec : MemberSpec) → IsNamed spec → matches_method spec m ≡ true
    → spec.name ≡ m.name
unfolding matches_method
method_named m u spec named h =
    same_name spec.name m.name named.free named.text u
    (method_fits spec.ty spec.name spec.args m named.form
    (and_parts (fits_method spec.ty spec.name spec.args m) _ h).0)

-- ---- a member is tried

both_ways : (a b : Bool) → (a ≡ true → b ≡ true) → (b ≡ true → a ≡ true) → a ≡ b
both_ways true b f g = sym (f refl)
both_ways false true f g = g refl
both_ways false false f g = refl

module _ (specs : List MemberSpec) (table : MemberTable) (test : MemberSpec → Bool) (name : List ℕ)
    (found : IsTable specs table)
    (named : (spec : MemberSpec) → IsNamed spec → test spec ≡ true → spec.name ≡ name) where
  abbrev numbered : ℕ → Bool
  numbered = passes_at test specs

  passes_one : (number : ℕ) (o : Option MemberSpec) → slice_get specs number ≡ o → option_map_or test o false ≡ true
      → list_any test specs ≡ true
  passes_one number None at h = absurd cc
  passes_one number (Some spec) at h = any_at test specs number spec at h

  passing : (numbers : List ℕ) → list_any numbered numbers ≡ true → list_any test specs ≡ true
  passing numbers h =
      let at = any_where numbered numbers h in passes_one at.1 (slice_get specs at.1) refl at.3

  tried : (k : ℕ) (spec : MemberSpec) → slice_get specs k ≡ Some spec → test spec ≡ true → IsFound k spec table
      → (list_any numbered table.others.items || list_any numbered (in_group name table)) ≡ true
  tried k spec at h (inl listed) =
      let here : numbered k ≡ true = ap (λ (o : Option MemberSpec). option_map_or test o false) at ∙ h in
      or_left (list_any numbered table.others.items) (list_any numbered (in_group name table))
      (any_at numbered table.others.items listed.0 k listed.1 here)
  tried k spec at h (inr g) =
      let here : numbered k ≡ true = ap (λ (o : Option MemberSpec). option_map_or test o false) at ∙ h in
      let place : position (is_text name) table.names ≡ Some g.place =
      ap (λ (t : List ℕ). position (is_text t) table.names) (sym (named spec g.named h)) ∙ g.is in
      let group : in_group name table ≡ get_or table.groups.items g.place [] =
      ap (λ (o : Option ℕ). option_map_or (λ p. get_or table.groups.items p []) o []) place in
      let listed : IsListed k (in_group name table) = subst (IsListed k) (sym group) g.listed in
      or_right (list_any numbered table.others.items) (list_any numbered (in_group name table))
      (any_at numbered (in_group name table) listed.0 k listed.1 here)

  -- it is matched by one of those on which it is tried, or by none
  pub tried_is : (list_any numbered table.others.items || list_any numbered (in_group name table))
      ≡ list_any test specs
  tried_is = both_ways _ _
      (λ h. elim (or_cases (list_any numbered table.others.items) (list_any numbered (in_group name table)) h) [
        | inl e ↦ passing table.others.items e
        | inr e ↦ passing (in_group name table) e
      ])
      (λ h. let at = any_where test specs h in
      tried at.0 at.1 at.2 at.3 (found at.0 at.1 (get_below specs at.0 at.1 at.2) at.2))

  pub tried_others : (numbers : List ℕ) (b : Bool) → numbers ≡ table.others.items → b ≡ list_any numbered numbers
      → b ≡ true → b ≡ list_any test specs
  tried_others numbers b is e said =
      said ∙ sym (passing table.others.items (ap (list_any numbered) (sym is) ∙ sym e ∙ said))

  pub tried_group : (numbers group : List ℕ) (a b : Bool) → numbers ≡ table.others.items
      → a ≡ list_any numbered numbers → a ≡ false → group ≡ in_group name table → b ≡ list_any numbered group
      → b ≡ list_any test specs
  tried_group numbers group a b is e denied same f =
      let others : list_any numbered table.others.items ≡ false = ap (list_any numbered) (sym is) ∙ sym e ∙ denied in
      f ∙ ap (list_any numbered) same
      ∙ sym (ap (λ (c : Bool). c || list_any numbered (in_group name table)) others) ∙ tried_is
