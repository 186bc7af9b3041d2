-- Member specifications and class specifications are read as they are spelled.
use Rattle.std.proofs.Common.{◌≡◌, ℕ, zero, suc, ◌+◌, ◌≤◌, ◌<◌, Bool, true, false, cond, ◌&&◌, List, [], ◌∷◌, ◌++◌}
use Rattle.std.proofs.Common.{length, Result, Ok, Err, Option, Some, None, refl, sym, ap, subst, ◌∙◌, arith, codes, inl}
use Rattle.std.proofs.Common.{inr, append_assoc}
use Rattle.std.specs.Prelude.{map, IsTrue}
use Rattle.std.specs.List.{list_all, AllZip}
use Rattle.std.proofs.lemmas.List.{append-nil}
use Rattle.std.proofs.lemmas.Bool.{and_parts, and_from}
use Rattle.jv_base.specs.Names.{is_text}
use Rattle.jv_base.proofs.Equality.{same_text, text_itself}
use Rattle.jv_base.proofs.Tests.{or_by}
use Rattle.keep_rules.specs.declared.fault.RuleFault.{RuleFault}
use Rattle.keep_rules.specs.declared.fault.RuleKind.TheVariants.{MissingName, BadMemberSpec}
use Rattle.keep_rules.specs.declared.rules.Filter.{Filter}
use Rattle.keep_rules.specs.declared.rules.MemberSpec.{MemberSpec}
use Rattle.keep_rules.specs.declared.rules.ClassSpec.{ClassSpec}
use Rattle.keep_rules.specs.declared.rules.Keep.{Keep}
use Rattle.keep_rules.specs.declared.rules.KeepKind.{KeepKind}
use Rattle.keep_rules.specs.declared.texts.Part.{Part}
use Rattle.keep_rules.specs.declared.texts.Part.TheVariants.{Class, Member}
use Rattle.keep_rules.specs.Texts.{filter_of, is_flag, is_part, passing, missing_in, bad_in, wrong, Filtered, is_filter}
use Rattle.keep_rules.specs.Texts.{bad_filter, is_any_member, is_constructor, names_above, is_class_kind}
use Rattle.keep_rules.specs.Texts.{is_class_flag, is_own_flag}
use Rattle.keep_rules.specs.Texts as texts_of
use Rattle.keep_rules.specs.Reader.{Ahead, expected, mark, is_marked, next_passes, passed}
use Rattle.keep_rules.specs.Reader.{put_before}
use Rattle.keep_rules.specs.Filtering.{flags, is_comma, filters, filter_in}
use Rattle.keep_rules.specs.Specifications.{Form, types, closed_types, arguments, any_arguments, constructor, typed}
use Rattle.keep_rules.specs.Specifications.{form_of, member, members, in_braces, body, name_above, above, class_spec}
use Rattle.keep_rules.specs.Specifications.{without_parameters, or_constructor, keep, keep_of, unmodified}
use Rattle.keep_rules.specs.Grammar.{in_order, joined, AreFilters, AnyArguments, IsNoFlag, AnyMember}
use Rattle.keep_rules.specs.Grammar.{Constructor, Typed, IsForm, IsMember, InBraces, IsBody, AnyAbove}
use Rattle.keep_rules.specs.Grammar.{IsClassSpec, IsKeep}
use Rattle.keep_rules.proofs.Steps.{ok_is}
use Rattle.keep_rules.proofs.MemberSteps.{member_takes, MembersOn, members_on, members_end}
use Rattle.keep_rules.proofs.Exact.{texts, Exact, retold, give_exact, Both, bind_exact, item_exact, starts, starts_is}
use Rattle.keep_rules.proofs.Exact.{Next, if_next_exact, Peeks, if_ahead_exact, Ends, if_end_exact, Flags, flags_exact}
use Rattle.keep_rules.proofs.Exact.{Mean, Listed, list_exact, Modified, modifiers_exact, texts_passed, passed_is}
use Rattle.keep_rules.proofs.Exact.{put_found}

-- ---- tests

test_by : {A E : Type 0} (b : Bool) (x y : A) (e : E) → (let R : Result A E = cond b (Ok x) (Err e) in R) ≡ Ok y
    → (b ≡ true) × (x ≡ y)
test_by true x y e h = (refl, cc)
test_by false x y e h = absurd cc

and_none : (a b : Bool) → b ≡ false → (a && b) ≡ false
and_none true b h = h
and_none false b h = refl

-- a test that one text doesn't pass tells another text from it
other_by : (a b : List ℕ) (t : Bool) (test : List ℕ → Bool) → is_text a b ≡ t → test b ≡ false → test a ≡ true
    → is_text a b ≡ false
other_by a b true test e fails h = absurd (let k : true ≡ false = sym h ∙ ap test (same_text a b e) ∙ fails in cc)
other_by a b false test e fails h = e

other : (a b : List ℕ) (test : List ℕ → Bool) → test b ≡ false → test a ≡ true → is_text a b ≡ false
other a b test fails h = other_by a b (is_text a b) test refl fails h

-- ---- parts

expected_exact : (p : Part) (test : List ℕ → Bool)
    → Exact (expected p test) (λ ws x rest. (ws ≡ x ∷ rest) × IsTrue (test x))
unfolding expected
expected_exact p test = retold _
    (λ ws x rest h. let k = test_by (test h.0) h.0 x (wrong (bad_in p) h.0) h.2 in
    (h.1 ∙ ap (λ (w : List ℕ). w ∷ rest) k.1, ap test (sym k.1) ∙ k.0))
    (λ ws x rest h. (x, h.0, rw h.1 refl))
    (item_exact (missing_in p) (passing test (bad_in p)))

mark_exact : (p : Part) (text : List ℕ) → Exact (mark p text) (λ ws x rest. ws ≡ text ∷ rest)
unfolding mark
mark_exact p text = retold _
    (λ ws x rest h. h.1 ∙ ap (λ (w : List ℕ). w ∷ rest)
    (same_text h.0 text (test_by (is_text h.0 text) tt x (wrong (bad_in p) h.0) h.2).0))
    (λ ws x rest h. (text, h, rw (text_itself text) refl))
    (item_exact (missing_in p) (is_marked text (bad_in p)))

-- ---- parameters

-- types, with commas between
record Types (ws types rest : List (List ℕ)) : Type 0 where
  pub spelled : ws ≡ joined types ++ rest
  pub some : 0 < length types
  pub each : IsTrue (list_all is_part types)
  pub stop : starts is_comma rest ≡ false

parts_mean : (ws xs : List (List ℕ)) → Mean (passing is_part BadMemberSpec) ws xs
    → (ws ≡ xs) × IsTrue (list_all is_part ws)
parts_mean [] [] h = (refl, refl)
parts_mean [] (x ∷ xs) h = absurd h
parts_mean (w ∷ ws) [] h = absurd h
parts_mean (w ∷ ws) (x ∷ xs) h =
    let k = test_by (is_part w) w x (wrong BadMemberSpec w) h.0 in
    let o = parts_mean ws xs h.1 in (
      ap (λ (v : List ℕ). v ∷ ws) k.1
          ∙ ap (λ (l : List (List ℕ)). x ∷ l) o.0,
      and_from (is_part w) (list_all is_part ws) k.0 o.1,
    )

mean_parts : (xs : List (List ℕ)) → IsTrue (list_all is_part xs) → Mean (passing is_part BadMemberSpec) xs xs
mean_parts [] h = tt
mean_parts (x ∷ xs) h =
    let k = and_parts (is_part x) (list_all is_part xs) h in (rw k.0 refl, mean_parts xs k.1)

types_exact : Exact types Types
unfolding types
types_exact = retold Types
    (λ ws xs rest h. let k = parts_mean h.words xs h.mean in record {
      spelled = h.spelled ∙ ap (λ (l : List (List ℕ)). joined l ++ rest) k.0;
      some = omega (arith, h.some, ap length k.0);
      each = ap (list_all is_part) (sym k.0) ∙ k.1;
      stop = h.stop;
    })
    (λ ws xs rest h. record {
      words = xs;
      spelled = h.spelled;
      some = h.some;
      mean = mean_parts xs h.each;
      stop = h.stop;
    })
    (list_exact BadMemberSpec (passing is_part BadMemberSpec))

-- types, and the closing parenthesis
abbrev Closed : List (List ℕ) → List (List ℕ) → List (List ℕ) → Type 0
Closed ws types rest = (ws ≡ joined types ++ codes ")" ∷ rest) × (0 < length types) × IsTrue (list_all is_part types)

closed_exact : Exact closed_types Closed
unfolding closed_types
closed_exact = retold Closed
    (λ ws y rest h. let t = h.2 in let m = h.3 in (
      t.spelled ∙ ap (λ (l : List (List ℕ)). joined h.0 ++ l) (m.2 ∙ ap (λ (l : List (List ℕ)). codes ")" ∷ l) m.3.1)
          ∙ ap (λ (l : List (List ℕ)). joined l ++ codes ")" ∷ rest) (sym m.3.0),
      omega (arith, t.some, ap length m.3.0),
      ap (list_all is_part) m.3.0 ∙ t.each,
    ))
    (λ ws y rest h. (
      y,
      codes ")" ∷ rest,
      record { spelled = h.0; some = h.1; each = h.2; stop = refl },
      (tt, rest, refl, (refl, refl)),
    ))
    (bind_exact _ types_exact (λ ts. bind_exact _ (mark_exact Member (codes ")")) (λ _. give_exact ts)))

-- what stands behind an opening parenthesis
abbrev Arguments : List (List ℕ) → List (List ℕ) → List (List ℕ) → Type 0
Arguments ws types rest = (ws ≡ joined types ++ codes ")" ∷ rest) × IsTrue (list_all is_part types)

first_joined : (x : List ℕ) (xs rest : List (List ℕ)) (test : List ℕ → Bool)
    → starts test (joined (x ∷ xs) ++ rest) ≡ test x
first_joined x [] rest test = refl
first_joined x (y ∷ xs) rest test = refl

arguments_back : (ws types rest : List (List ℕ)) → Arguments ws types rest
    → Next (λ word. is_text word (codes ")")) (λ us y vs. (y ≡ []) × (us ≡ vs)) Closed ws types rest
arguments_back ws [] rest h = inl (codes ")", rest, h.0, refl, (refl, refl))
arguments_back ws (x ∷ xs) rest h =
    let k = and_parts (is_part x) (list_all is_part xs) h.1 in
    inr (
      ap (starts (λ word. is_text word (codes ")"))) h.0
          ∙ first_joined x xs (codes ")" ∷ rest) (λ word. is_text word (codes ")"))
          ∙ other x (codes ")") is_part refl k.0,
      (h.0, omega arith, h.1),
    )

arguments_there : (ws types rest : List (List ℕ))
    → Next (λ word. is_text word (codes ")")) (λ us y vs. (y ≡ []) × (us ≡ vs)) Closed ws types rest
    → Arguments ws types rest
arguments_there ws types rest (inl y) = (
  y.2 ∙ ap (λ (w : List ℕ). w ∷ y.1) (same_text y.0 (codes ")") y.3)
      ∙ ap (λ (l : List (List ℕ)). codes ")" ∷ l) y.4.1
      ∙ ap (λ (l : List (List ℕ)). joined l ++ codes ")" ∷ rest) (sym y.4.0),
  ap (list_all is_part) y.4.0,
)
arguments_there ws types rest (inr n) = (n.1.0, n.1.2)

arguments_exact : Exact arguments Arguments
unfolding arguments
arguments_exact = retold Arguments arguments_there arguments_back
    (if_next_exact (λ word. is_text word (codes ")")) (give_exact []) closed_exact)

-- perhaps parameters
abbrev MayTake : List (List ℕ) → Option (List (List ℕ)) → List (List ℕ) → Type 0
MayTake ws None rest = (ws ≡ rest) × (starts (λ word. is_text word (codes "(")) rest ≡ false)
MayTake ws (Some types) rest = (ws ≡ codes "(" ∷ (joined types ++ codes ")" ∷ rest)) × IsTrue (list_all is_part types)

-- as it is read
abbrev Taken : List (List ℕ) → Option (List (List ℕ)) → List (List ℕ) → Type 0
Taken ws args rest = Next (λ word. is_text word (codes "("))
    (Both Arguments (λ types us y vs. (y ≡ Some types) × (us ≡ vs)))
    (λ us y vs. (y ≡ None) × (us ≡ vs)) ws args rest

taken_there : (ws : List (List ℕ)) (args : Option (List (List ℕ))) (rest : List (List ℕ)) → Taken ws args rest
    → MayTake ws args rest
taken_there ws args rest (inl y) =
    let a = y.4 in
    subst (λ (z : Option (List (List ℕ))). MayTake ws z rest) (sym a.3.0) (
      y.2 ∙ ap (λ (w : List ℕ). w ∷ y.1) (same_text y.0 (codes "(") y.3)
          ∙ ap (λ (l : List (List ℕ)). codes "(" ∷ l)
          (a.2.0 ∙ ap (λ (l : List (List ℕ)). joined a.0 ++ codes ")" ∷ l) a.3.1),
      a.2.1,
    )
taken_there ws args rest (inr n) =
    subst (λ (z : Option (List (List ℕ))). MayTake ws z rest) (sym n.1.0)
    (n.1.1, ap (starts (λ word. is_text word (codes "("))) (sym n.1.1) ∙ n.0)

taken_back : (ws : List (List ℕ)) (args : Option (List (List ℕ))) (rest : List (List ℕ)) → MayTake ws args rest
    → Taken ws args rest
taken_back ws None rest h = inr (ap (starts (λ word. is_text word (codes "("))) h.0 ∙ h.1, (refl, h.0))
taken_back ws (Some types) rest h =
    inl (codes "(", joined types ++ codes ")" ∷ rest, h.0, refl, (types, rest, (refl, h.1), (refl, refl)))

any_exact : Exact any_arguments MayTake
unfolding any_arguments
any_exact = retold MayTake taken_there taken_back
    (if_next_exact (λ word. is_text word (codes "("))
    (bind_exact _ arguments_exact (λ types. give_exact (Some types))) (give_exact None))

-- ---- members

-- a constructor's parameters
abbrev Makes : List (List ℕ) → Form → List (List ℕ) → Type 0
Makes ws form rest = Both Arguments (λ types us y vs. (y ≡ (None, codes "<init>", Some types)) × (us ≡ vs)) ws form rest

constructor_exact : Exact constructor Makes
unfolding constructor
constructor_exact = bind_exact _ arguments_exact (λ types. give_exact (None, codes "<init>", Some types))

-- a name behind a type, and perhaps parameters
abbrev Names : List ℕ → List (List ℕ) → Form → List (List ℕ) → Type 0
Names ty ws form rest = Both (λ us x vs. (us ≡ x ∷ vs) × IsTrue (is_part x))
    (λ name. Both MayTake (λ args us y vs. (y ≡ (Some ty, name, args)) × (us ≡ vs))) ws form rest

typed_exact : (ty : List ℕ) → Exact (typed ty) (Names ty)
unfolding typed
typed_exact ty = bind_exact _ (expected_exact Member is_part)
    (λ name. bind_exact _ any_exact (λ args. give_exact (Some ty, name, args)))

-- a form behind its first word
abbrev Forms : List Filter → List ℕ → List (List ℕ) → Form → List (List ℕ) → Type 0
Forms names first ws form rest = Peeks (λ word. is_any_member first && is_text word (codes ";"))
    (λ us y vs. (y ≡ (None, first, None)) × (us ≡ vs))
    (Next (λ word. is_constructor names first && is_text word (codes "(")) Makes (Names first)) ws form rest

form_exact : (names : List Filter) (first : List ℕ) → Exact (form_of names first) (Forms names first)
unfolding form_of
form_exact names first = if_ahead_exact _ (give_exact (None, first, None))
    (if_next_exact _ constructor_exact (typed_exact first))

-- a member specification as it is read
abbrev Reads : List Filter → List (List ℕ) → MemberSpec → List (List ℕ) → Type 0
Reads names ws m rest = Both (Flags Member) (λ flags. Both (λ us x vs. (us ≡ x ∷ vs) × IsTrue (is_part x))
    (λ first. Both (Forms names first) (λ form. Both {A = Unit {0}} (λ us x vs. us ≡ codes ";" ∷ vs)
    (λ _ us y vs. (y ≡ record { flags = flags; ty = form.0; name = form.1; args = form.2 }) × (us ≡ vs))))) ws m rest

member_raw : (names : List Filter) → Exact (member names) (Reads names)
unfolding member
member_raw names = bind_exact _ (flags_exact Member) (λ flags. bind_exact _ (expected_exact Member is_part)
    (λ first. bind_exact _ (form_exact names first) (λ form. bind_exact _ (mark_exact Member (codes ";"))
    (λ _. give_exact _))))

form_is : (ty ty' : Option (List ℕ)) (name name' : List ℕ) (args args' : Option (List (List ℕ))) → ty ≡ ty'
    → name ≡ name'
    → args ≡ args' → (let F : Form = (ty, name, args) in F) ≡ (ty', name', args')
form_is ty ty' name name' args args' p q r i = (p i, q i, r i)

-- the first word of texts that pass
passing_first : (test : List ℕ → Bool) (ws : List (List ℕ)) → starts test ws ≡ true
    → (w : List ℕ) × (rest : List (List ℕ)) × (ws ≡ w ∷ rest) × (test w ≡ true)
passing_first test [] h = absurd cc
passing_first test (w ∷ ws) h = (w, ws, refl, h)

-- the words of a form
record Formed (names : List Filter) (ws : List (List ℕ)) (form : Form) (rest : List (List ℕ)) : Type 0 where
  pub words : List (List ℕ)
  pub spelled : ws ≡ words ++ rest
  pub is : IsForm names words form.0 form.1 form.2

any_formed : (names : List Filter) (first : List ℕ) (ws : List (List ℕ)) (form : Form) (rest : List (List ℕ))
    → starts (λ word. is_any_member first && is_text word (codes ";")) ws ≡ true → form ≡ (None, first, None)
    → ws ≡ rest
    → Formed names (first ∷ ws) form rest
any_formed names first ws form rest t f e =
    let k = passing_first _ ws t in
    record {
      words = first ∷ [];
      spelled = ap (λ (l : List (List ℕ)). first ∷ l) e;
      is = subst (λ (z : Form). IsForm names (first ∷ []) z.0 z.1 z.2) (sym f)
          (inl (record { spelled = refl; known = (and_parts _ _ k.3).0; no_type = refl; no_arguments = refl }));
    }

makes_formed : (names : List Filter) (first w : List ℕ) (ws mid : List (List ℕ)) (form : Form) (rest : List (List ℕ))
    → IsTrue (is_part first) → IsNoFlag first → ws ≡ w ∷ mid
    → (is_constructor names first && is_text w (codes "(")) ≡ true
    → Makes mid form rest → Formed names (first ∷ ws) form rest
makes_formed names first w ws mid form rest p n e t h =
    let k = and_parts _ _ t in
    let params : List (List ℕ) = codes "(" ∷ (joined h.0 ++ codes ")" ∷ []) in
    let inside : mid ≡ (joined h.0 ++ codes ")" ∷ []) ++ rest = h.2.0
    ∙ ap (λ (l : List (List ℕ)). joined h.0 ++ codes ")" ∷ l) h.3.1
    ∙ sym (append_assoc (joined h.0) (codes ")" ∷ []) rest) in
    record {
      words = first ∷ params;
      spelled = ap (λ (l : List (List ℕ)). first ∷ l) (e ∙ ap (λ (v : List ℕ). v ∷ mid) (same_text w (codes "(") k.1)
          ∙ ap (λ (l : List (List ℕ)). codes "(" ∷ l) inside);
      is = subst (λ (z : Form). IsForm names (first ∷ params) z.0 z.1 z.2) (sym h.3.0) (inr (inl (record {
        first = first;
        parameters = params;
        types = h.0;
        spelled = refl;
        known = k.0;
        pattern = p;
        no_flag = n;
        of_types = record { spelled = refl; each = h.2.1 };
        no_type = refl;
        named = refl;
        takes = refl;
      })));
    }

-- the words of parameters
record Given (ws : List (List ℕ)) (args : Option (List (List ℕ))) (rest : List (List ℕ)) : Type 0 where
  pub words : List (List ℕ)
  pub spelled : ws ≡ words ++ rest
  pub is : AnyArguments words args

given_by : (ws : List (List ℕ)) (args : Option (List (List ℕ))) (rest : List (List ℕ)) → MayTake ws args rest
    → Given ws args rest
given_by ws None rest h = record { words = []; spelled = h.0; is = refl }
given_by ws (Some types) rest h = record {
  words = codes "(" ∷ (joined types ++ codes ")" ∷ []);
  spelled = h.0 ∙ ap (λ (l : List (List ℕ)). codes "(" ∷ l) (sym (append_assoc (joined types) (codes ")" ∷ []) rest));
  is = record { spelled = refl; each = h.1 };
}

names_formed : (names : List Filter) (first : List ℕ) (ws : List (List ℕ)) (form : Form) (rest : List (List ℕ))
    → IsTrue (is_part first) → IsNoFlag first → Names first ws form rest → Formed names (first ∷ ws) form rest
names_formed names first ws form rest p n h =
    let a = h.3 in
    let g = given_by h.1 a.0 a.1 a.2 in
    record {
      words = first ∷ h.0 ∷ g.words;
      spelled = ap (λ (l : List (List ℕ)). first ∷ l) (h.2.0 ∙ ap (λ (l : List (List ℕ)). h.0 ∷ l)
          (g.spelled ∙ ap (λ (l : List (List ℕ)). g.words ++ l) a.3.1));
      is = subst (λ (z : Form). IsForm names (first ∷ h.0 ∷ g.words) z.0 z.1 z.2) (sym a.3.0) (inr (inr (record {
        first = first;
        parameters = g.words;
        spelled = refl;
        type_pattern = p;
        name_pattern = h.2.1;
        no_flag = n;
        of_type = refl;
        of_types = g.is;
      })));
    }

forms_formed : (names : List Filter) (first : List ℕ) (ws : List (List ℕ)) (form : Form) (rest : List (List ℕ))
    → IsTrue (is_part first) → IsNoFlag first → Forms names first ws form rest → Formed names (first ∷ ws) form rest
forms_formed names first ws form rest p n (inl y) = any_formed names first ws form rest y.0 y.1.0 y.1.1
forms_formed names first ws form rest p n (inr (t, inl y)) =
    makes_formed names first y.0 ws y.1 form rest p n y.2 y.3 y.4
forms_formed names first ws form rest p n (inr (t, inr y)) = names_formed names first ws form rest p n y.1

-- a member specification, and what stands behind it
record Fits (names : List Filter) (ws : List (List ℕ)) (m : MemberSpec) (rest : List (List ℕ)) : Type 0 where
  pub part : List (List ℕ)
  pub spelled : ws ≡ part ++ rest
  pub is : IsMember names part m

-- the member of flags and a form
abbrev member_of : List Filter → Form → MemberSpec
member_of flags form = record { flags = flags; ty = form.0; name = form.1; args = form.2 }

member_there : (names : List Filter) (ws : List (List ℕ)) (m : MemberSpec) (rest : List (List ℕ))
    → Reads names ws m rest
    → Fits names ws m rest
member_there names ws m rest h =
    let flags = h.2 in
    let first = h.3.2 in
    let form = h.3.3.2 in
    let end = h.3.3.3 in
    let no_flag : IsNoFlag h.3.0 = sym (ap (starts (is_flag Member)) first.0) ∙ flags.stop in
    let f = forms_formed names h.3.0 h.3.1 h.3.3.0 h.3.3.1 first.1 no_flag form in
    let tail : h.3.3.1 ≡ codes ";" ∷ rest = end.2 ∙ ap (λ (l : List (List ℕ)). codes ";" ∷ l) end.3.1 in
    record {
      part = flags.words ++ (f.words ++ codes ";" ∷ []);
      spelled = flags.spelled
          ∙ ap (λ (l : List (List ℕ)). flags.words ++ l)
          (first.0 ∙ f.spelled ∙ ap (λ (l : List (List ℕ)). f.words ++ l) tail
          ∙ sym (append_assoc f.words (codes ";" ∷ []) rest))
          ∙ sym (append_assoc flags.words (f.words ++ codes ";" ∷ []) rest);
      is = subst (IsMember names (flags.words ++ (f.words ++ codes ";" ∷ []))) (sym end.3.0) (record {
        flags = flags.words;
        form = f.words;
        spelled = refl;
        flagged = record { each = flags.each; are = flags.are };
        formed = f.is;
      });
    }

-- ---- and back

star : IsNoFlag (codes "*")
unfolding is_class_flag is_own_flag
star = refl

fields : IsNoFlag (codes "<fields>")
unfolding is_class_flag is_own_flag
fields = refl

methods : IsNoFlag (codes "<methods>")
unfolding is_class_flag is_own_flag
methods = refl

-- what stands for any member is a pattern, and no flag
any_part : (w : List ℕ) → IsTrue (is_any_member w) → IsTrue (is_part w) × IsNoFlag w
any_part w h = or_by _ (is_text w (codes "<methods>")) _
    (or_by (is_text w (codes "*")) (is_text w (codes "<fields>")) _
    (λ e. rw (same_text w (codes "*") e) (refl, star))
    (λ e. rw (same_text w (codes "<fields>") e) (refl, fields)))
    (λ e. rw (same_text w (codes "<methods>") e) (refl, methods)) h

-- the words of a form, as they are read
record Splits (names : List Filter) (words : List (List ℕ)) (form : Form) (rest : List (List ℕ)) : Type 0 where
  pub first : List ℕ
  pub more : List (List ℕ)
  pub spelled : words ≡ first ∷ more
  pub pattern : IsTrue (is_part first)
  pub no_flag : IsNoFlag first
  pub are : Forms names first (more ++ codes ";" ∷ rest) form (codes ";" ∷ rest)

any_splits : (names : List Filter) (words : List (List ℕ)) (ty : Option (List ℕ)) (name : List ℕ)
    (args : Option (List (List ℕ))) (rest : List (List ℕ)) → AnyMember words ty name args
    → Splits names words (ty, name, args) rest
any_splits names words ty name args rest a =
    let k = any_part name a.known in
    record {
      first = name;
      more = [];
      spelled = a.spelled;
      pattern = k.0;
      no_flag = k.1;
      are = inl (
        and_from (is_any_member name) (is_text (codes ";") (codes ";")) a.known refl,
        (form_is ty None name name args None a.no_type refl a.no_arguments, refl),
      );
    }

constructor_splits : (names : List Filter) (words : List (List ℕ)) (ty : Option (List ℕ)) (name : List ℕ)
    (args : Option (List (List ℕ))) (rest : List (List ℕ)) → Constructor names words ty name args
    → Splits names words (ty, name, args) rest
constructor_splits names words ty name args rest a =
    let inside : a.parameters ++ codes ";" ∷ rest ≡ codes "(" ∷ (joined a.types ++ codes ")" ∷ codes ";" ∷ rest)
    = ap (λ (l : List (List ℕ)). l ++ codes ";" ∷ rest) a.of_types.spelled
    ∙ ap (λ (l : List (List ℕ)). codes "(" ∷ l) (append_assoc (joined a.types) (codes ")" ∷ []) (codes ";" ∷ rest)) in
    record {
      first = a.first;
      more = a.parameters;
      spelled = a.spelled;
      pattern = a.pattern;
      no_flag = a.no_flag;
      are = inr (
        ap (starts (λ word. is_any_member a.first && is_text word (codes ";"))) inside
            ∙ and_none (is_any_member a.first) (is_text (codes "(") (codes ";")) refl,
        inl (
          codes "(",
          joined a.types ++ codes ")" ∷ codes ";" ∷ rest,
          inside,
          and_from (is_constructor names a.first) (is_text (codes "(") (codes "(")) a.known refl,
          (
            a.types,
            codes ";" ∷ rest,
            (refl, a.of_types.each),
            (form_is ty None name (codes "<init>") args (Some a.types) a.no_type a.named a.takes, refl),
          ),
        ),
      );
    }

may_take : (words : List (List ℕ)) (args : Option (List (List ℕ))) (rest : List (List ℕ)) → AnyArguments words args
    → MayTake (words ++ codes ";" ∷ rest) args (codes ";" ∷ rest)
may_take words None rest h = (ap (λ (l : List (List ℕ)). l ++ codes ";" ∷ rest) h, refl)
may_take words (Some types) rest h = (
  ap (λ (l : List (List ℕ)). l ++ codes ";" ∷ rest) h.spelled
      ∙ ap (λ (l : List (List ℕ)). codes "(" ∷ l) (append_assoc (joined types) (codes ")" ∷ []) (codes ";" ∷ rest)),
  h.each,
)

typed_splits : (names : List Filter) (words : List (List ℕ)) (ty : Option (List ℕ)) (name : List ℕ)
    (args : Option (List (List ℕ))) (rest : List (List ℕ)) → Typed words ty name args
    → Splits names words (ty, name, args) rest
typed_splits names words ty name args rest a = record {
  first = a.first;
  more = name ∷ a.parameters;
  spelled = a.spelled;
  pattern = a.type_pattern;
  no_flag = a.no_flag;
  are = inr (
    and_none (is_any_member a.first) (is_text name (codes ";")) (other name (codes ";") is_part refl a.name_pattern),
    inr (
      and_none (is_constructor names a.first) (is_text name (codes "("))
          (other name (codes "(") is_part refl a.name_pattern),
      (
        name,
        a.parameters ++ codes ";" ∷ rest,
        (refl, a.name_pattern),
        (
          args,
          codes ";" ∷ rest,
          may_take a.parameters args rest a.of_types,
          (form_is ty (Some a.first) name name args args a.of_type refl refl, refl),
        ),
      ),
    ),
  );
}

form_splits : (names : List Filter) (words : List (List ℕ)) (ty : Option (List ℕ)) (name : List ℕ)
    (args : Option (List (List ℕ))) (rest : List (List ℕ)) → IsForm names words ty name args
    → Splits names words (ty, name, args) rest
form_splits names words ty name args rest (inl a) = any_splits names words ty name args rest a
form_splits names words ty name args rest (inr (inl a)) = constructor_splits names words ty name args rest a
form_splits names words ty name args rest (inr (inr a)) = typed_splits names words ty name args rest a

member_back : (names : List Filter) (ws : List (List ℕ)) (m : MemberSpec) (rest : List (List ℕ)) → Fits names ws m rest
    → Reads names ws m rest
member_back names ws m rest h =
    let i = h.is in
    let s = form_splits names i.form m.ty m.name m.args rest i.formed in
    let mid : List (List ℕ) = s.first ∷ (s.more ++ codes ";" ∷ rest) in
    let whole : ws ≡ i.flags ++ mid = h.spelled ∙ ap (λ (l : List (List ℕ)). l ++ rest) i.spelled
    ∙ append_assoc i.flags (i.form ++ codes ";" ∷ []) rest
    ∙ ap (λ (l : List (List ℕ)). i.flags ++ l) (append_assoc i.form (codes ";" ∷ []) rest
    ∙ ap (λ (l : List (List ℕ)). l ++ codes ";" ∷ rest) s.spelled) in (
      m.flags,
      mid,
      record {
        words = i.flags;
        spelled = whole;
        each = i.flagged.each;
        are = i.flagged.are;
        stop = s.no_flag;
      },
      (
        s.first,
        s.more ++ codes ";" ∷ rest,
        (refl, s.pattern),
        ((m.ty, m.name, m.args), codes ";" ∷ rest, s.are, (tt, rest, refl, (refl, refl))),
      ),
    )

member_exact : (names : List Filter) → Exact (member names) (Fits names)
member_exact names = retold (Fits names) (member_there names) (member_back names) (member_raw names)

-- ---- members in braces

-- a closing brace
abbrev is_brace : List ℕ → Bool
is_brace word = is_text word (codes "}")

-- members, and a closing brace
pub record AllFit (names : List Filter) (ws : List (List ℕ)) (ms : List MemberSpec)
    (rest : List (List ℕ)) : Type 0 where
  pub parts : List (List (List ℕ))
  pub spelled : ws ≡ in_order parts ++ codes "}" ∷ rest
  pub each : AllZip (IsMember names) parts ms

-- a member specification doesn't begin with a brace
no_flag_brace : is_flag Member (codes "}") ≡ false
unfolding is_class_flag is_own_flag
no_flag_brace = refl

no_brace_by : (flags form rest : List (List ℕ)) (first : List ℕ) (more : List (List ℕ)) → form ≡ first ∷ more
    → IsTrue (is_part first) → IsTrue (list_all (is_flag Member) flags)
    → starts is_brace (flags ++ (form ++ rest)) ≡ false
no_brace_by [] form rest first more e p a = ap (λ (l : List (List ℕ)). starts is_brace (l ++ rest)) e
    ∙ other first (codes "}") is_part refl p
no_brace_by (w ∷ flags) form rest first more e p a =
    other w (codes "}") (is_flag Member) no_flag_brace
    (and_parts (is_flag Member w) (list_all (is_flag Member) flags) a).0

no_brace : (names : List Filter) (part : List (List ℕ)) (m : MemberSpec) (rest : List (List ℕ)) → IsMember names part m
    → starts is_brace (part ++ rest) ≡ false
no_brace names part m rest i =
    let s = form_splits names i.form m.ty m.name m.args [] i.formed in
    ap (λ (l : List (List ℕ)). starts is_brace (l ++ rest)) i.spelled
    ∙ ap (starts is_brace) (append_assoc i.flags (i.form ++ codes ";" ∷ []) rest
    ∙ ap (λ (l : List (List ℕ)). i.flags ++ l) (append_assoc i.form (codes ";" ∷ []) rest))
    ∙ no_brace_by i.flags i.form (codes ";" ∷ rest) s.first s.more s.spelled s.pattern i.flagged.each

no_members : (names : List Filter) (p : Ahead) (ms : List MemberSpec) (q : Ahead) → next_passes is_brace p ≡ true
    → members names p ≡ Ok (ms, q) → AllFit names (texts p) ms (texts q)
no_members names p ms q b h =
    let e = ok_is ([], passed p) (ms, q) (sym (members_end names p b) ∙ h) in
    let w = passed_is is_brace p (sym (starts_is is_brace p) ∙ b) in
    subst (λ (z : List MemberSpec × Ahead). AllFit names (texts p) z.0 (texts z.1)) e (record {
      parts = [];
      spelled = w.1 ∙ ap (λ (v : List ℕ). v ∷ texts (passed p)) (same_text w.0 (codes "}") w.2);
      each = tt;
    })

more_members : (names : List Filter) (p : Ahead) (d : Result (MemberSpec × Ahead) RuleFault) (ms : List MemberSpec)
    (q : Ahead) → member names p ≡ d → next_passes is_brace p ≡ false → MembersOn names (members names p) d
    → ((r : Ahead) (xs : List MemberSpec) → 1 + length r.words ≤ length p.words → members names r ≡ Ok (xs, q)
    → AllFit names (texts r) xs (texts q))
    → members names p ≡ Ok (ms, q) → AllFit names (texts p) ms (texts q)
more_members names p (Err f) ms q e b on ih h = absurd (let bad : _ ≡ _ = sym on ∙ h in cc)
more_members names p (Ok x) ms q e b on ih h =
    let o = put_found x.0 (members names x.1) ms q (sym on ∙ h) in
    let f = (member_exact names).found p x.0 x.1 e in
    let others = ih x.1 o.0 ((member_takes names).taken p x.0 x.1 e) o.1 in
    record {
      parts = f.part ∷ others.parts;
      spelled = f.spelled ∙ ap (λ (l : List (List ℕ)). f.part ++ l) others.spelled
          ∙ sym (append_assoc f.part (in_order others.parts) (codes "}" ∷ texts q));
      each = subst (AllZip (IsMember names) (f.part ∷ others.parts)) (sym o.2) (f.is, others.each);
    }

found_by : (names : List Filter) (p : Ahead) (b : Bool) (ms : List MemberSpec) (q : Ahead) → next_passes is_brace p ≡ b
    → ((r : Ahead) (xs : List MemberSpec) → 1 + length r.words ≤ length p.words → members names r ≡ Ok (xs, q)
    → AllFit names (texts r) xs (texts q))
    → members names p ≡ Ok (ms, q) → AllFit names (texts p) ms (texts q)
found_by names p true ms q b ih h = no_members names p ms q b h
found_by names p false ms q b ih h = more_members names p (member names p) ms q refl b (members_on names p b) ih h

-- the count bounds the words
members_found : (n : ℕ) (names : List Filter) (p : Ahead) (ms : List MemberSpec) (q : Ahead) → length p.words ≤ n
    → members names p ≡ Ok (ms, q) → AllFit names (texts p) ms (texts q)
members_found zero names p ms q le h = found_by names p (next_passes is_brace p) ms q refl
    (λ r xs lt k. absurd (omega (arith, le, lt))) h
members_found (suc n) names p ms q le h = found_by names p (next_passes is_brace p) ms q refl
    (λ r xs lt k. members_found n names r xs q (omega (arith, le, lt)) k) h

more_only : (names : List Filter) (p q1 q : Ahead) (m : MemberSpec) (ms : List MemberSpec)
    → next_passes is_brace p ≡ false → member names p ≡ Ok (m, q1) → members names q1 ≡ Ok (ms, q)
    → members names p ≡ Ok (m ∷ ms, q)
more_only names p q1 q m ms b e h =
    let on : members names p ≡ put_before m (members names q1) = subst (MembersOn names (members names p)) e
    (members_on names p b) in
    on ∙ ap (put_before m) h

members_only : (names : List Filter) (parts : List (List (List ℕ))) (ms : List MemberSpec) (p : Ahead)
    (rest : List (List ℕ)) → texts p ≡ in_order parts ++ codes "}" ∷ rest → AllZip (IsMember names) parts ms
    → (q : Ahead) × (members names p ≡ Ok (ms, q)) × (texts q ≡ rest)
members_only names [] [] p rest e a =
    (passed p, members_end names p (starts_is is_brace p ∙ ap (starts is_brace) e), texts_passed (codes "}") p rest e)
members_only names [] (m ∷ ms) p rest e a = absurd a
members_only names (part ∷ parts) [] p rest e a = absurd a
members_only names (part ∷ parts) (m ∷ ms) p rest e a =
    let tail : List (List ℕ) = in_order parts ++ codes "}" ∷ rest in
    let whole : texts p ≡ part ++ tail = e ∙ append_assoc part (in_order parts) (codes "}" ∷ rest) in
    let one = (member_exact names).only p m tail (record { part = part; spelled = whole; is = a.0 }) in
    let o = members_only names parts ms one.0 rest one.2 a.1 in
    let b : next_passes is_brace p ≡ false = starts_is is_brace p ∙ ap (starts is_brace) whole
    ∙ no_brace names part m tail a.0 in
    (o.0, more_only names p one.0 o.0 m ms b one.1 o.1, o.2)

members_exact : (names : List Filter) → Exact (members names) (AllFit names)
members_exact names = record {
  found = λ p ms q h. members_found (length p.words) names p ms q (omega arith) h;
  only = λ p ms rest h. members_only names h.parts ms p rest h.spelled h.each;
}

-- ---- the body of a class specification

-- members in braces, as they are read
abbrev Braced : List Filter → List (List ℕ) → List MemberSpec → List (List ℕ) → Type 0
Braced names ws ms rest = Both {A = Unit {0}} (λ us x vs. us ≡ codes "{" ∷ vs)
    (λ _. Both (AllFit names) (λ given us y vs. (y ≡ or_constructor given) × (us ≡ vs))) ws ms rest

braced_exact : (names : List Filter) → Exact (in_braces names) (Braced names)
unfolding in_braces
braced_exact names = bind_exact _ (mark_exact Class (codes "{"))
    (λ _. bind_exact _ (members_exact names) (λ ms. give_exact (or_constructor ms)))

-- the body, as it is read
abbrev Bodied : List Filter → List (List ℕ) → List MemberSpec → List (List ℕ) → Type 0
Bodied names ws ms rest = Ends (λ us y vs. (y ≡ without_parameters ∷ []) × (us ≡ vs)) (Braced names) ws ms rest

body_exact : (names : List Filter) → Exact (body names) (Bodied names)
unfolding body
body_exact names = if_end_exact (give_exact (without_parameters ∷ [])) (braced_exact names)

braces_there : (names : List Filter) (ws : List (List ℕ)) (ms : List MemberSpec) (rest : List (List ℕ)) → rest ≡ []
    → Braced names ws ms rest → InBraces names ws ms
braces_there names ws ms rest none h =
    let a = h.3.2 in
    record {
      inside = in_order a.parts;
      given = h.3.0;
      spelled = h.2 ∙ ap (λ (l : List (List ℕ)). codes "{" ∷ l) (a.spelled
          ∙ ap (λ (l : List (List ℕ)). in_order a.parts ++ codes "}" ∷ l) (h.3.3.1 ∙ none));
      of_members = record { parts = a.parts; spelled = refl; each = a.each };
      are = h.3.3.0;
    }

body_there : (names : List Filter) (ws : List (List ℕ)) (ms : List MemberSpec) (rest : List (List ℕ)) → rest ≡ []
    → Bodied names ws ms rest → IsBody names ws ms
body_there names [] ms rest none h = inl (refl, h.0)
body_there names (w ∷ ws) ms rest none h = inr (braces_there names (w ∷ ws) ms rest none h)

braces_back : (names : List Filter) (ws : List (List ℕ)) (ms : List MemberSpec) → InBraces names ws ms
    → Bodied names ws ms []
braces_back names [] ms h = absurd (let e = h.spelled in cc)
braces_back names (w ∷ ws) ms h =
    let m = h.of_members in (
      tt,
      in_order m.parts ++ codes "}" ∷ [],
      h.spelled ∙ ap (λ (l : List (List ℕ)). codes "{" ∷ (l ++ codes "}" ∷ [])) m.spelled,
      (h.given, [], record { parts = m.parts; spelled = refl; each = m.each }, (h.are, refl)),
    )

none_back : (names : List Filter) (ws : List (List ℕ)) (ms : List MemberSpec) → ws ≡ [] → ms ≡ without_parameters ∷ []
    → Bodied names ws ms []
none_back names ws ms e h = subst (λ (l : List (List ℕ)). Bodied names l ms []) (sym e) (h, refl)

body_back : (names : List Filter) (ws : List (List ℕ)) (ms : List MemberSpec) → IsBody names ws ms
    → Bodied names ws ms []
body_back names ws ms (inl n) = none_back names ws ms n.0 n.1
body_back names ws ms (inr b) = braces_back names ws ms b

-- ---- class specifications

-- the class above, as it is read
abbrev Above : List (List ℕ) → Option (List ℕ) → List (List ℕ) → Type 0
Above ws above rest = Next names_above
    (Both (λ us x vs. (us ≡ x ∷ vs) × IsTrue (is_part x)) (λ name us y vs. (y ≡ Some name) × (us ≡ vs)))
    (λ us y vs. (y ≡ None) × (us ≡ vs)) ws above rest

above_exact : Exact above Above
unfolding above name_above
above_exact = if_next_exact names_above (bind_exact _ (expected_exact Class is_part) (λ name. give_exact (Some name)))
    (give_exact None)

-- the words of what stands above
record Higher (ws : List (List ℕ)) (above : Option (List ℕ)) (rest : List (List ℕ)) : Type 0 where
  pub words : List (List ℕ)
  pub spelled : ws ≡ words ++ rest
  pub is : AnyAbove words above

above_there : (ws : List (List ℕ)) (above : Option (List ℕ)) (rest : List (List ℕ)) → Above ws above rest
    → Higher ws above rest
above_there ws above rest (inl y) =
    let a = y.4 in
    record {
      words = y.0 ∷ a.0 ∷ [];
      spelled = y.2 ∙ ap (λ (l : List (List ℕ)). y.0 ∷ l) (a.2.0 ∙ ap (λ (l : List (List ℕ)). a.0 ∷ l) a.3.1);
      is = subst (AnyAbove (y.0 ∷ a.0 ∷ [])) (sym a.3.0)
          (record { word = y.0; spelled = refl; known = y.3; pattern = a.2.1 });
    }
above_there ws above rest (inr n) = record {
  words = [];
  spelled = n.1.1;
  is = subst (AnyAbove []) (sym n.1.0) refl;
}

above_back : (ws : List (List ℕ)) (above : Option (List ℕ)) (rest : List (List ℕ)) → Higher ws above rest
    → starts names_above rest ≡ false → Above ws above rest
above_back ws None rest h s =
    let e : ws ≡ rest = h.spelled ∙ ap (λ (l : List (List ℕ)). l ++ rest) h.is in
    inr (ap (starts names_above) e ∙ s, (refl, e))
above_back ws (Some name) rest h s =
    let k = h.is in
    inl (
      k.word,
      name ∷ rest,
      h.spelled ∙ ap (λ (l : List (List ℕ)). l ++ rest) k.spelled,
      k.known,
      (name, rest, (refl, k.pattern), (refl, refl)),
    )

filters_mean : (filtered : Filtered) (ws : List (List ℕ)) (fs : List Filter) → Mean (filter_in filtered) ws fs
    → IsTrue (list_all (is_filter filtered) ws) × (fs ≡ map filter_of ws)
filters_mean filtered [] [] h = (refl, refl)
filters_mean filtered [] (f ∷ fs) h = absurd h
filters_mean filtered (w ∷ ws) [] h = absurd h
filters_mean filtered (w ∷ ws) (f ∷ fs) h =
    let k = test_by (is_filter filtered w) (filter_of w) f (bad_filter filtered w) h.0 in
    let o = filters_mean filtered ws fs h.1 in (
      and_from (is_filter filtered w) (list_all (is_filter filtered) ws) k.0 o.0,
      ap (λ (g : Filter). g ∷ fs) (sym k.1) ∙ ap (λ (l : List Filter). filter_of w ∷ l) o.1,
    )

mean_filters : (filtered : Filtered) (ws : List (List ℕ)) → IsTrue (list_all (is_filter filtered) ws)
    → Mean (filter_in filtered) ws (map filter_of ws)
mean_filters filtered [] h = tt
mean_filters filtered (w ∷ ws) h =
    let k = and_parts (is_filter filtered w) (list_all (is_filter filtered) ws) h in
    (rw k.0 refl, mean_filters filtered ws k.1)

pub filters_exact : (filtered : Filtered) → Exact (filters filtered) (Listed (filter_in filtered))
unfolding filters
filters_exact filtered = list_exact MissingName (filter_in filtered)

-- a class specification, as it is read
abbrev Classed : List (List ℕ) → ClassSpec → List (List ℕ) → Type 0
Classed ws spec rest = Both (Flags Class) (λ flags. Both (λ us x vs. (us ≡ x ∷ vs) × IsTrue (is_class_kind x))
    (λ kind. Both (Listed (filter_in texts_of.Classes)) (λ names. Both Above (λ above. Both (Bodied names)
    (λ members us y vs. (y ≡ record { flags = flags; kind = kind; names = names; above = above; members = members })
    × (us ≡ vs)))))) ws spec rest

class_exact : Exact class_spec Classed
unfolding class_spec
class_exact = bind_exact _ (flags_exact Class) (λ flags. bind_exact _ (expected_exact Class is_class_kind)
    (λ kind. bind_exact _ (filters_exact texts_of.Classes) (λ names. bind_exact _ above_exact
    (λ above. bind_exact _ (body_exact names) (λ members. give_exact _)))))

class_there : (ws : List (List ℕ)) (spec : ClassSpec) (rest : List (List ℕ)) → rest ≡ [] → Classed ws spec rest
    → IsClassSpec ws spec
class_there ws spec rest none h =
    let flags = h.2 in
    let kind = h.3.2 in
    let names = h.3.3.2 in
    let over = above_there h.3.3.1 h.3.3.3.0 h.3.3.3.1 h.3.3.3.2 in
    let end = h.3.3.3.3 in
    let means = filters_mean texts_of.Classes names.words h.3.3.0 names.mean in
    let b = body_there h.3.3.0 h.3.3.3.1 end.0 end.1 (end.3.1 ∙ none) end.2 in
    subst (IsClassSpec ws) (sym end.3.0) (record {
      flags = flags.words;
      names = joined names.words;
      above = over.words;
      body = h.3.3.3.1;
      spelled = flags.spelled ∙ ap (λ (l : List (List ℕ)). flags.words ++ l) (kind.0
          ∙ ap (λ (l : List (List ℕ)). h.3.0 ∷ l)
          (names.spelled ∙ ap (λ (l : List (List ℕ)). joined names.words ++ l) over.spelled));
      flagged = record { each = flags.each; are = flags.are };
      of_kind = kind.1;
      named = record { patterns = names.words; spelled = refl; some = names.some; each = means.0; are = means.1 };
      below = over.is;
      having = b;
    })

kind_by : (P : List ℕ → Type 0) → P (codes "class") → P (codes "interface") → P (codes "!interface") → P (codes "enum")
    → (w : List ℕ) → IsTrue (is_class_kind w) → P w
unfolding is_class_kind
kind_by P a b c d w h =
    or_by _ (is_text w (codes "enum")) (P w)
    (or_by _ (is_text w (codes "!interface")) (P w)
    (or_by (is_text w (codes "class")) (is_text w (codes "interface")) (P w)
    (λ e. subst P (sym (same_text w (codes "class") e)) a)
    (λ e. subst P (sym (same_text w (codes "interface") e)) b))
    (λ e. subst P (sym (same_text w (codes "!interface") e)) c))
    (λ e. subst P (sym (same_text w (codes "enum") e)) d) h

-- a kind is no flag
kind_no_flag : (w : List ℕ) → IsTrue (is_class_kind w) → is_flag Class w ≡ false
unfolding is_class_flag
kind_no_flag w h = kind_by (λ v. is_flag Class v ≡ false) refl refl refl refl w h

no_comma_kind : is_class_kind (codes ",") ≡ false
unfolding is_class_kind
no_comma_kind = refl

no_comma_flag : is_flag Class (codes ",") ≡ false
unfolding is_class_flag
no_comma_flag = refl

-- a body doesn't begin with a comma, nor with `extends` or `implements`
body_starts : (test : List ℕ → Bool) (names : List Filter) (ws : List (List ℕ)) (ms : List MemberSpec)
    → test (codes "{") ≡ false → IsBody names ws ms → starts test ws ≡ false
body_starts test names ws ms t (inl n) = ap (starts test) n.0
body_starts test names ws ms t (inr b) = ap (starts test) b.spelled ∙ t

above_starts : (names : List Filter) (ws : List (List ℕ)) (name : Option (List ℕ)) (body : List (List ℕ))
    (ms : List MemberSpec) → AnyAbove ws name → IsBody names body ms → starts is_comma (ws ++ body) ≡ false
above_starts names ws None body ms h b = ap (λ (l : List (List ℕ)). starts is_comma (l ++ body)) h
    ∙ body_starts is_comma names body ms refl b
above_starts names ws (Some name) body ms h b = ap (λ (l : List (List ℕ)). starts is_comma (l ++ body)) h.spelled
    ∙ other h.word (codes ",") names_above refl h.known

class_back : (ws : List (List ℕ)) (spec : ClassSpec) → IsClassSpec ws spec → Classed ws spec []
class_back ws spec h =
    let n = h.named in
    let tail : List (List ℕ) = h.above ++ h.body in
    let mean : Mean (filter_in texts_of.Classes) n.patterns spec.names =
    subst (Mean (filter_in texts_of.Classes) n.patterns)
    (sym n.are) (mean_filters texts_of.Classes n.patterns n.each) in (
      spec.flags,
      spec.kind ∷ (h.names ++ tail),
      record {
        words = h.flags;
        spelled = h.spelled;
        each = h.flagged.each;
        are = h.flagged.are;
        stop = kind_no_flag spec.kind h.of_kind;
      },
      (
        spec.kind,
        h.names ++ tail,
        (refl, h.of_kind),
        (
          spec.names,
          tail,
          record {
            words = n.patterns;
            spelled = ap (λ (l : List (List ℕ)). l ++ tail) n.spelled;
            some = n.some;
            mean = mean;
            stop = above_starts spec.names h.above spec.above h.body spec.members h.below h.having;
          },
          (
            spec.above,
            h.body,
            above_back tail spec.above h.body
                (record { words = h.above; spelled = refl; is = h.below })
                (body_starts names_above spec.names h.body spec.members refl h.having),
            (spec.members, [], body_back spec.names h.body spec.members h.having, (refl, refl)),
          ),
        ),
      ),
    )

flags_start : (flags : List (List ℕ)) (kind : List ℕ) (rest : List (List ℕ)) → IsTrue (list_all (is_flag Class) flags)
    → IsTrue (is_class_kind kind) → starts is_comma (flags ++ kind ∷ rest) ≡ false
flags_start [] kind rest a k = other kind (codes ",") is_class_kind no_comma_kind k
flags_start (w ∷ flags) kind rest a k =
    other w (codes ",") (is_flag Class) no_comma_flag (and_parts (is_flag Class w) (list_all (is_flag Class) flags) a).0

-- a class specification doesn't begin with a comma
class_starts : (ws : List (List ℕ)) (spec : ClassSpec) → IsClassSpec ws spec → starts is_comma ws ≡ false
class_starts ws spec h = ap (starts is_comma) h.spelled ∙ flags_start h.flags spec.kind _ h.flagged.each h.of_kind

-- ---- keep options

-- a keep option behind its name, as it is read
abbrev pub Kept : KeepKind → Bool → List (List ℕ) → Keep → List (List ℕ) → Type 0
Kept kind shrinking ws k rest = Both (Modified (unmodified shrinking)) (λ m. Both Classed
    (λ spec us y vs. (y ≡ keep_of kind m spec) × (us ≡ vs))) ws k rest

pub keep_exact : (kind : KeepKind) (shrinking : Bool) (option : List ℕ)
    → Exact (keep kind shrinking option) (Kept kind shrinking)
unfolding keep
keep_exact kind shrinking option = bind_exact _ (modifiers_exact option (unmodified shrinking))
    (λ m. bind_exact _ class_exact (λ spec. give_exact (keep_of kind m spec)))

pub keep_there : (kind : KeepKind) (shrinking : Bool) (ws : List (List ℕ)) (k : Keep) → Kept kind shrinking ws k []
    → IsKeep kind shrinking ws k
keep_there kind shrinking ws k h = record {
  modifiers = h.2.words;
  class = h.1;
  modified = h.0;
  spec = h.3.0;
  spelled = h.2.spelled;
  modify = h.2.modify;
  of_class = class_there h.1 h.3.0 h.3.1 h.3.3.1 h.3.2;
  is = h.3.3.0;
}

pub keep_back : (kind : KeepKind) (shrinking : Bool) (ws : List (List ℕ)) (k : Keep) → IsKeep kind shrinking ws k
    → Kept kind shrinking ws k []
keep_back kind shrinking ws k h = (
  h.modified,
  h.class,
  record {
    words = h.modifiers;
    spelled = h.spelled;
    modify = h.modify;
    stop = class_starts h.class h.spec h.of_class;
  },
  (h.spec, [], class_back h.class h.spec h.of_class, (h.is, refl)),
)

-- ---- filters of attributes

-- filters up to the end
pub filters_there : (filtered : Filtered) (ws : List (List ℕ)) (fs : List Filter) → Listed (filter_in filtered) ws fs []
    → AreFilters filtered ws fs
filters_there filtered ws fs h =
    let m = filters_mean filtered h.words fs h.mean in
    record {
      patterns = h.words;
      spelled = h.spelled ∙ append-nil (joined h.words);
      some = h.some;
      each = m.0;
      are = m.1;
    }

pub filters_back : (filtered : Filtered) (ws : List (List ℕ)) (fs : List Filter) → AreFilters filtered ws fs
    → Listed (filter_in filtered) ws fs []
filters_back filtered ws fs h = record {
  words = h.patterns;
  spelled = h.spelled ∙ sym (append-nil (joined h.patterns));
  some = h.some;
  mean = subst (Mean (filter_in filtered) h.patterns) (sym h.are) (mean_filters filtered h.patterns h.each);
  stop = refl;
}
