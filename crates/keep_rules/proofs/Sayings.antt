-- What an option is read as is what its words say.
use Rattle.std.proofs.Common.{◌≡◌, ◌⊎◌, ℕ, ◌<◌, Bool, true, false, cond, List, [], ◌∷◌, ◌++◌, length, Result, Ok, Err}
use Rattle.std.proofs.Common.{Option, Some, None, refl, sym, ap, subst, ◌∙◌, arith, codes, inl, inr}
use Rattle.std.specs.Prelude.{map, IsTrue, is_some}
use Rattle.jv_base.specs.Names.{is_text}
use Rattle.jv_base.specs.Outcome as outcome
use Rattle.jv_base.proofs.Equality.{same_text}
use Rattle.jv_base.proofs.Results.{same_ok, then_ok}
use Rattle.jv_base.proofs.Tests.{or_by}
use Rattle.path_text.specs.Path.{is_path, file_in}
use Rattle.conf_words.specs.declared.splitting.Word.{Word}
use Rattle.keep_rules.specs.declared.fault.RuleFault.{RuleFault}
use Rattle.keep_rules.specs.declared.fault.RuleKind.TheVariants.{MissingName, Repeated}
use Rattle.keep_rules.specs.declared.rules.Filter.{Filter}
use Rattle.keep_rules.specs.declared.rules.Keep.{Keep}
use Rattle.keep_rules.specs.declared.rules.KeepKind.{KeepKind}
use Rattle.keep_rules.specs.declared.rules.KeepKind.TheVariants.{Keep as Classes, Members, WithMembers}
use Rattle.keep_rules.specs.declared.options.Step.{Step}
use Rattle.keep_rules.specs.declared.options.Step.TheVariants.{Shrink, Optimise, Obfuscate}
use Rattle.keep_rules.specs.declared.options.Setting.{Setting}
use Rattle.keep_rules.specs.declared.options.Setting.TheVariants as setting
use Rattle.keep_rules.specs.declared.draft.Draft.{Draft}
use Rattle.keep_rules.specs.declared.values.Value.{Value}
use Rattle.keep_rules.specs.declared.values.Value.TheVariants.{Directory, File, AnyWord}
use Rattle.keep_rules.specs.Texts.{Attributes}
use Rattle.keep_rules.specs.Options.{setting_of, keep_setting, plain_setting, inert_setting, is_ignored, is_left_out}
use Rattle.keep_rules.specs.Options.{else_plain}
use Rattle.keep_rules.specs.Reader.{Ahead, ahead, fault, Reader, item, none_left, with_none_left, whole}
use Rattle.keep_rules.specs.Filtering.{filter_in}
use Rattle.keep_rules.specs.Specifications.{keep}
use Rattle.keep_rules.specs.Reading.{value_in, valued, value_meant, every, attributes, once, left_off, without}
use Rattle.keep_rules.specs.Reading.{with_attributes, with_keep, set, set_known, option_read}
use Rattle.keep_rules.specs.Grammar.{joined, AreFilters, IsKeep, Saying, in_dir, out_dir, mapping, seeds, usage, apply}
use Rattle.keep_rules.specs.Grammar.{source_name, no_shrink, no_optimise, no_obfuscate, keeps, nothing, Says, SaysKeep}
use Rattle.keep_rules.specs.Grammar.{IsKeepOption, IsAttributes}
use Rattle.keep_rules.specs.Grammar as says
use Rattle.keep_rules.specs.Laws.{text_of}
use Rattle.keep_rules.proofs.Exact.{texts, Exact, give_exact, item_exact, Ends, if_end_exact, Listed}
use Rattle.keep_rules.proofs.Spelled.{filters_exact, filters_there, filters_back, keep_exact, keep_there, keep_back}

-- ---- all words of an option

pub no_words : (words : List Word) → map text_of words ≡ [] → words ≡ []
no_words [] h = refl
no_words (word ∷ words) h = absurd cc

left_ok : {A : Type 0} (x y : A) (words : List Word) → none_left x words ≡ Ok y → (x ≡ y) × (words ≡ [])
left_ok x y [] h = (cc, refl)
left_ok x y (word ∷ words) h = absurd cc

ended_ok : {A : Type 0} (d : Result (A × Ahead) RuleFault) (y : A) → with_none_left d ≡ Ok y
    → (q : Ahead) × (d ≡ Ok (y, q)) × (texts q ≡ [])
ended_ok (Ok x) y h =
    let e = left_ok x.0 y x.1.words h in
    (x.1, ap (λ (z : _). let R : Result (_ × Ahead) RuleFault = Ok (z, x.1) in R) e.0, ap (map text_of) e.1)
ended_ok (Err f) y h = absurd cc

-- all words are read exactly where they stand for the value, to their end
whole_found : {A : Type 0} {r : Reader A} {g : List (List ℕ) → A → List (List ℕ) → Type 0} (option : Word)
    (values : List Word) (x : A) → Exact r g → whole r option values ≡ Ok x → g (map text_of values) x []
unfolding whole
whole_found {r = r} {g = g} option values x e h =
    let o = ended_ok (r (ahead option.line values)) x h in
    subst (λ (l : List (List ℕ)). g (map text_of values) x l) o.2 (e.found (ahead option.line values) x o.0 o.1)

ended_is : {A : Type 0} (x : A) (q : Ahead) → texts q ≡ [] → with_none_left (Ok (x, q)) ≡ Ok x
ended_is x q h = rw (no_words q.words h) refl

whole_only : {A : Type 0} {r : Reader A} {g : List (List ℕ) → A → List (List ℕ) → Type 0} (option : Word)
    (values : List Word) (x : A) → Exact r g → g (map text_of values) x [] → whole r option values ≡ Ok x
unfolding whole
whole_only {r = r} option values x e h =
    let o = e.only (ahead option.line values) x [] h in
    rw o.1 (ended_is x o.0 o.2)

-- ---- values

valued_ok : (option : List ℕ) (d : Option (List ℕ)) (x : List ℕ) → valued option d ≡ Ok x → d ≡ Some x
valued_ok option (Some v) x h = let e : v ≡ x = cc in ap (λ z. Some z) e
valued_ok option None x h = absurd cc

-- one value
abbrev One : Value → List (List ℕ) → List ℕ → Type 0
One value ws x = (w : List ℕ) × (ws ≡ w ∷ []) × (value_in value w ≡ Some x)

once_ok : (value : Value) (slot : Option (List ℕ)) (b : Bool) (option : Word) (values : List Word) (x : List ℕ)
    → is_some slot ≡ b
    → cond b (Err (fault option.line (Repeated option.text)))
    (whole (item MissingName (value_meant option.text value)) option values)
    ≡ Ok x → (is_some slot ≡ false) × One value (map text_of values) x
once_ok value slot true option values x e h = absurd cc
once_ok value slot false option values x e h =
    let g = whole_found option values x (item_exact MissingName (value_meant option.text value)) h in
    (e, (g.0, g.1, valued_ok option.text (value_in value g.0) x g.2))

once_found : (value : Value) (slot : Option (List ℕ)) (option : Word) (values : List Word) (x : List ℕ)
    → once value slot option values ≡ Ok x → (is_some slot ≡ false) × One value (map text_of values) x
unfolding once
once_found value slot option values x h = once_ok value slot (is_some slot) option values x refl h

once_only : (value : Value) (slot : Option (List ℕ)) (option : Word) (values : List Word) (x : List ℕ)
    → is_some slot ≡ false → One value (map text_of values) x → once value slot option values ≡ Ok x
unfolding once
once_only value slot option values x e o = rw e
    (whole_only option values x (item_exact MissingName (value_meant option.text value))
    (o.0, o.1, rw o.2 refl))

-- ---- filters of attributes

-- filters, or none for all, as they are read
abbrev Filters : List ℕ → List (List ℕ) → List Filter → List (List ℕ) → Type 0
Filters option ws fs rest =
    Ends (λ us y vs. (y ≡ every ∷ []) × (us ≡ vs)) (Listed (filter_in (Attributes option))) ws fs rest

attributes_exact : (option : List ℕ) → Exact (attributes option) (Filters option)
unfolding attributes
attributes_exact option = if_end_exact (give_exact (every ∷ [])) (filters_exact (Attributes option))

-- filters, or none for all
abbrev AnyFilters : List ℕ → List (List ℕ) → List Filter → Type 0
AnyFilters option ws fs = ((ws ≡ []) × (fs ≡ every ∷ [])) ⊎ AreFilters (Attributes option) ws fs

any_there : (option : List ℕ) (ws : List (List ℕ)) (fs : List Filter) → Filters option ws fs []
    → AnyFilters option ws fs
any_there option [] fs h = inl (refl, h.0)
any_there option (w ∷ ws) fs h = inr (filters_there (Attributes option) (w ∷ ws) fs h)

no_filters : (patterns : List (List ℕ)) → [] ≡ joined patterns → 0 < length patterns → ⊥
no_filters [] h lt = omega (arith, lt)
no_filters (p ∷ []) h lt = absurd cc
no_filters (p ∷ q ∷ patterns) h lt = absurd cc

some_filters : (option : List ℕ) (ws : List (List ℕ)) (fs : List Filter) → AreFilters (Attributes option) ws fs
    → Filters option ws fs []
some_filters option [] fs h = absurd (no_filters (h.patterns) h.spelled h.some)
some_filters option (w ∷ ws) fs h = filters_back (Attributes option) (w ∷ ws) fs h

any_back : (option : List ℕ) (ws : List (List ℕ)) (fs : List Filter) → AnyFilters option ws fs → Filters option ws fs []
any_back option ws fs (inl n) = subst (λ (l : List (List ℕ)). Filters option l fs []) (sym n.0) (n.1, refl)
any_back option ws fs (inr h) = some_filters option ws fs h

-- ---- the options by their words

-- a word is the keep option of this kind
abbrev IsNamed : List ℕ → KeepKind → Bool → Type 0
IsNamed w Classes false = w ≡ codes "-keep"
IsNamed w Members false = w ≡ codes "-keepclassmembers"
IsNamed w WithMembers false = w ≡ codes "-keepclasseswithmembers"
IsNamed w Classes true = w ≡ codes "-keepnames"
IsNamed w Members true = w ≡ codes "-keepclassmembernames"
IsNamed w WithMembers true = w ≡ codes "-keepclasseswithmembernames"

-- a word is the option that sets this
abbrev Known : List ℕ → Setting → Type 0
Known w setting.InDir = w ≡ codes "-injars"
Known w setting.OutDir = w ≡ codes "-outjars"
Known w setting.Mapping = w ≡ codes "-printmapping"
Known w setting.Seeds = w ≡ codes "-printseeds"
Known w setting.Usage = w ≡ codes "-printusage"
Known w setting.Apply = w ≡ codes "-applymapping"
Known w setting.SourceName = w ≡ codes "-renamesourcefileattribute"
Known w (setting.Off Shrink) = w ≡ codes "-dontshrink"
Known w (setting.Off Optimise) = w ≡ codes "-dontoptimize"
Known w (setting.Off Obfuscate) = w ≡ codes "-dontobfuscate"
Known w setting.Attributes = w ≡ codes "-keepattributes"
Known w (setting.Keep kind shrinking) = IsNamed w kind shrinking
Known w setting.Ignored = IsTrue (is_ignored w)
Known w setting.LeftOut = IsTrue (is_left_out w)

-- one more test
test : (P : Setting → Type 0) (b : Bool) (s t : Setting) (rest : Option Setting) → (b ≡ true → P s)
    → (rest ≡ Some t → P t) → cond b (Some s) rest ≡ Some t → P t
test P true s t rest f g h = let e : s ≡ t = cc in subst P e (f refl)
test P false s t rest f g h = g h

none_known : (P : Setting → Type 0) (t : Setting) → (let R : Option Setting = None in R) ≡ Some t → P t
none_known P t h = absurd cc

known_inert : (w : List ℕ) (t : Setting) → inert_setting w ≡ Some t → Known w t
known_inert w t h = test (Known w) _ setting.Ignored t _ (λ e. e)
    (test (Known w) _ setting.LeftOut t _ (λ e. e) (none_known (Known w) t)) h

known_plain : (w : List ℕ) (t : Setting) → plain_setting w ≡ Some t → Known w t
unfolding plain_setting
known_plain w t h =
    test (Known w) _ setting.InDir t _ (same_text w (codes "-injars"))
    (test (Known w) _ setting.OutDir t _ (same_text w (codes "-outjars"))
    (test (Known w) _ setting.Mapping t _ (same_text w (codes "-printmapping"))
    (test (Known w) _ setting.Seeds t _ (same_text w (codes "-printseeds"))
    (test (Known w) _ setting.Usage t _ (same_text w (codes "-printusage"))
    (test (Known w) _ setting.Apply t _ (same_text w (codes "-applymapping"))
    (test (Known w) _ setting.SourceName t _ (same_text w (codes "-renamesourcefileattribute"))
    (test (Known w) _ (setting.Off Shrink) t _ (same_text w (codes "-dontshrink"))
    (test (Known w) _ (setting.Off Optimise) t _ (same_text w (codes "-dontoptimize"))
    (test (Known w) _ (setting.Off Obfuscate) t _ (same_text w (codes "-dontobfuscate"))
    (test (Known w) _ setting.Attributes t _ (same_text w (codes "-keepattributes")) (known_inert w t))))))))))) h

known_keep : (w : List ℕ) (t : Setting) → keep_setting w ≡ Some t → Known w t
unfolding keep_setting
known_keep w t h =
    test (Known w) _ (setting.Keep Classes false) t _ (same_text w (codes "-keep"))
    (test (Known w) _ (setting.Keep Members false) t _ (same_text w (codes "-keepclassmembers"))
    (test (Known w) _ (setting.Keep WithMembers false) t _ (same_text w (codes "-keepclasseswithmembers"))
    (test (Known w) _ (setting.Keep Classes true) t _ (same_text w (codes "-keepnames"))
    (test (Known w) _ (setting.Keep Members true) t _ (same_text w (codes "-keepclassmembernames"))
    (test (Known w) _ (setting.Keep WithMembers true) t _ (same_text w (codes "-keepclasseswithmembernames"))
    (none_known (Known w) t)))))) h

known_by : (w : List ℕ) (t : Setting) (d : Option Setting) → keep_setting w ≡ d → else_plain w d ≡ Some t → Known w t
known_by w t (Some s) e h = known_keep w t (e ∙ h)
known_by w t None e h = known_plain w t h

known : (w : List ℕ) (t : Setting) → setting_of w ≡ Some t → Known w t
unfolding setting_of
known w t h = known_by w t (keep_setting w) refl h

-- ---- what a saying adds

-- a value in an empty slot
abbrev slotted : Option (List ℕ) → Draft → Option Draft
slotted slot d = cond (is_some slot) None (Some d)

-- what is read with one more saying; a slot takes one value
abbrev pub added : Draft → Saying → Option Draft
added d (in_dir x) = slotted d.in_dir (record d { in_dir = Some x })
added d (out_dir x) = slotted d.out_dir (record d { out_dir = Some x })
added d (mapping x) = slotted d.mapping (record d { mapping = Some x })
added d (seeds x) = slotted d.seeds (record d { seeds = Some x })
added d (usage x) = slotted d.usage (record d { usage = Some x })
added d (apply x) = slotted d.apply (record d { apply = Some x })
added d (source_name x) = slotted d.source_name (record d { source_name = Some x })
added d no_shrink = Some (left_off Shrink d)
added d no_optimise = Some (left_off Optimise d)
added d no_obfuscate = Some (left_off Obfuscate d)
added d (says.attributes fs) = Some (record d { attrs = d.attrs ++ fs })
added d (keeps k) = Some (record d { keeps = d.keeps ++ k ∷ [] })
added d nothing = Some d

-- an option says something, which is added
pub record Adds (d : Draft) (ws : List (List ℕ)) (e : Draft) : Type 0 where
  pub saying : Saying
  pub says : Says ws saying
  pub adds : added d saying ≡ Some e

-- the words of an option
abbrev option_texts : Word → List Word → List (List ℕ)
option_texts option values = option.text ∷ map text_of values

slot_by : (b : Bool) (d e : Draft) → (let R : Option Draft = cond b None (Some d) in R) ≡ Some e → (b ≡ false) × (d ≡ e)
slot_by true d e h = absurd cc
slot_by false d e h = (refl, cc)

file_by : (w x : List ℕ) (b : Bool) → is_path w ≡ b → (let R : Option (List ℕ) = cond b (Some w) None in R) ≡ Some x
    → (w ≡ x) × IsTrue (is_path x)
file_by w x true e h = let k : w ≡ x = cc in (k, ap is_path (sym k) ∙ e)
file_by w x false e h = absurd cc

-- a value in a slot that was empty
slot_found : (value : Value) (slot : Option (List ℕ)) (put : List ℕ → Draft) (option : Word) (values : List Word)
    (e : Draft)
    → outcome.◌>>=◌ (once value slot option values) (λ v. Ok (put v)) ≡ Ok e
    → (x : List ℕ) × One value (map text_of values) x × (slotted slot (put x) ≡ Some e)
slot_found value slot put option values e h =
    let o = then_ok (once value slot option values) (λ v. Ok (put v)) e h in
    let k = once_found value slot option values o.0 o.1 in
    (o.0, k.1, rw k.0 (ap (λ (z : Draft). Some z) (same_ok (put o.0) e o.2)))

slot_only : (value : Value) (slot : Option (List ℕ)) (put : List ℕ → Draft) (option : Word) (values : List Word)
    (e : Draft)
    (x : List ℕ) → One value (map text_of values) x → slotted slot (put x) ≡ Some e
    → outcome.◌>>=◌ (once value slot option values) (λ v. Ok (put v)) ≡ Ok e
slot_only value slot put option values e x o h =
    let k = slot_by (is_some slot) (put x) e h in
    rw (once_only value slot option values x k.0 o) (ap (λ (z : Draft). let R : Result Draft RuleFault = Ok z in R) k.1)

file_is : (w x : List ℕ) → file_in w ≡ Some x → (w ≡ x) × IsTrue (is_path x)
file_is w x h = file_by w x (is_path w) refl h

-- the words of an option by its name
named : (option : Word) (values : List Word) (w : List ℕ) → option.text ≡ w
    → option_texts option values ≡ w ∷ map text_of values
named option values w e = ap (λ (v : List ℕ). v ∷ map text_of values) e

-- one value is the words of an option
value_words : (option : Word) (values : List Word) (w x : List ℕ) → option.text ≡ w → map text_of values ≡ x ∷ []
    → option_texts option values ≡ w ∷ x ∷ []
value_words option values w x e h = named option values w e ∙ ap (λ (l : List (List ℕ)). w ∷ l) h

keep_named : (kind : KeepKind) (shrinking : Bool) (option : Word) (values : List Word) (k : Keep)
    → IsNamed option.text kind shrinking → IsKeep kind shrinking (map text_of values) k
    → SaysKeep (option_texts option values) k
keep_named Classes false option values k n h = inl (map text_of values, named option values _ n, h)
keep_named Members false option values k n h = inr (inl (map text_of values, named option values _ n, h))
keep_named WithMembers false option values k n h = inr (inr (inl (map text_of values, named option values _ n, h)))
keep_named Classes true option values k n h = inr (inr (inr (inl (map text_of values, named option values _ n, h))))
keep_named Members true option values k n h =
    inr (inr (inr (inr (inl (map text_of values, named option values _ n, h)))))
keep_named WithMembers true option values k n h =
    inr (inr (inr (inr (inr (map text_of values, named option values _ n, h)))))

attributes_named : (option : Word) (values : List Word) (fs : List Filter) → option.text ≡ codes "-keepattributes"
    → AnyFilters option.text (map text_of values) fs → IsAttributes (option_texts option values) fs
attributes_named option values fs e (inl n) =
    inl (named option values _ e ∙ ap (λ (l : List (List ℕ)). codes "-keepattributes" ∷ l) n.0, n.1)
attributes_named option values fs e (inr h) =
    inr (
      map text_of values,
      named option values _ e,
      subst (λ (o : List ℕ). AreFilters (Attributes o) (map text_of values) fs) e h,
    )

off_found : (step : Step) (d : Draft) (values : List Word) (e : Draft) → without step d values ≡ Ok e
    → (map text_of values ≡ []) × (left_off step d ≡ e)
unfolding without
off_found step d [] e h = (refl, cc)
off_found step d (v ∷ values) e h = absurd cc

-- what an option that is known is read as, its words say
found_by : (s : Setting) (d : Draft) (option : Word) (values : List Word) (e : Draft) → Known option.text s
    → set s d option values ≡ Ok e → Adds d (option_texts option values) e
unfolding set with_attributes with_keep
found_by setting.InDir d option values e n h =
    let o = slot_found Directory d.in_dir (λ v. record d { in_dir = Some v }) option values e h in
    record { saying = in_dir o.0; says = (o.1.0, value_words option values _ o.1.0 n o.1.1, o.1.2); adds = o.2 }
found_by setting.OutDir d option values e n h =
    let o = slot_found Directory d.out_dir (λ v. record d { out_dir = Some v }) option values e h in
    record { saying = out_dir o.0; says = (o.1.0, value_words option values _ o.1.0 n o.1.1, o.1.2); adds = o.2 }
found_by setting.Mapping d option values e n h =
    let o = slot_found File d.mapping (λ v. record d { mapping = Some v }) option values e h in
    let f = file_is o.1.0 o.0 o.1.2 in
    record {
      saying = mapping o.0;
      says = (value_words option values _ o.0 n (o.1.1 ∙ ap (λ (w : List ℕ). w ∷ []) f.0), f.1);
      adds = o.2;
    }
found_by setting.Seeds d option values e n h =
    let o = slot_found File d.seeds (λ v. record d { seeds = Some v }) option values e h in
    let f = file_is o.1.0 o.0 o.1.2 in
    record {
      saying = seeds o.0;
      says = (value_words option values _ o.0 n (o.1.1 ∙ ap (λ (w : List ℕ). w ∷ []) f.0), f.1);
      adds = o.2;
    }
found_by setting.Usage d option values e n h =
    let o = slot_found File d.usage (λ v. record d { usage = Some v }) option values e h in
    let f = file_is o.1.0 o.0 o.1.2 in
    record {
      saying = usage o.0;
      says = (value_words option values _ o.0 n (o.1.1 ∙ ap (λ (w : List ℕ). w ∷ []) f.0), f.1);
      adds = o.2;
    }
found_by setting.Apply d option values e n h =
    let o = slot_found File d.apply (λ v. record d { apply = Some v }) option values e h in
    let f = file_is o.1.0 o.0 o.1.2 in
    record {
      saying = apply o.0;
      says = (value_words option values _ o.0 n (o.1.1 ∙ ap (λ (w : List ℕ). w ∷ []) f.0), f.1);
      adds = o.2;
    }
found_by setting.SourceName d option values e n h =
    let o = slot_found AnyWord d.source_name (λ v. record d { source_name = Some v }) option values e h in
    let same : o.1.0 ≡ o.0 = cc in
    record {
      saying = source_name o.0;
      says = value_words option values _ o.0 n (o.1.1 ∙ ap (λ (w : List ℕ). w ∷ []) same);
      adds = o.2;
    }
found_by (setting.Off Shrink) d option values e n h =
    let o = off_found Shrink d values e h in
    record {
      saying = no_shrink;
      says = named option values _ n
          ∙ ap (λ (l : List (List ℕ)). codes "-dontshrink" ∷ l) o.0;
      adds = ap (λ (z : Draft). Some z) o.1;
    }
found_by (setting.Off Optimise) d option values e n h =
    let o = off_found Optimise d values e h in
    record {
      saying = no_optimise;
      says = named option values _ n
          ∙ ap (λ (l : List (List ℕ)). codes "-dontoptimize" ∷ l) o.0;
      adds = ap (λ (z : Draft). Some z) o.1;
    }
found_by (setting.Off Obfuscate) d option values e n h =
    let o = off_found Obfuscate d values e h in
    record {
      saying = no_obfuscate;
      says = named option values _ n
          ∙ ap (λ (l : List (List ℕ)). codes "-dontobfuscate" ∷ l) o.0;
      adds = ap (λ (z : Draft). Some z) o.1;
    }
found_by setting.Attributes d option values e n h =
    let o = then_ok (whole (attributes option.text) option values) _ e h in
    let g = any_there option.text (map text_of values) o.0
    (whole_found option values o.0 (attributes_exact option.text) o.1) in
    record {
      saying = says.attributes o.0;
      says = attributes_named option values o.0 n g;
      adds = ap (λ (z : Draft). Some z) (same_ok _ e o.2);
    }
found_by (setting.Keep kind shrinking) d option values e n h =
    let o = then_ok (whole (keep kind shrinking option.text) option values) _ e h in
    let g = keep_there kind shrinking (map text_of values) o.0
    (whole_found option values o.0 (keep_exact kind shrinking option.text) o.1) in
    record {
      saying = keeps o.0;
      says = keep_named kind shrinking option values o.0 n g;
      adds = ap (λ (z : Draft). Some z) (same_ok _ e o.2);
    }
found_by setting.Ignored d option values e n h =
    record {
      saying = nothing;
      says = (option.text, map text_of values, refl, n);
      adds = ap (λ (z : Draft). Some z) (same_ok d e h);
    }
found_by setting.LeftOut d option values e n h = absurd cc

known_found : (s : Option Setting) (d : Draft) (option : Word) (values : List Word) (e : Draft)
    → setting_of option.text ≡ s
    → set_known s d option values ≡ Ok e → Adds d (option_texts option values) e
known_found (Some s) d option values e k h = found_by s d option values e (known option.text s k) h
known_found None d option values e k h = absurd cc

-- what an option is read as, its words say
pub option_found : (d : Draft) (option : Word) (values : List Word) (e : Draft) → option_read d option values ≡ Ok e
    → Adds d (option_texts option values) e
unfolding option_read
option_found d option values e h = known_found (setting_of option.text) d option values e refl h

-- ---- what words say is read

by_setting : (s : Setting) (d : Draft) (option : Word) (values : List Word) (e : Draft)
    → setting_of option.text ≡ Some s
    → set s d option values ≡ Ok e → option_read d option values ≡ Ok e
unfolding option_read
by_setting s d option values e k h = rw k h

ok_draft : (d e : Draft) → (let O : Option Draft = Some d in O) ≡ Some e
    → (let R : Result Draft RuleFault = Ok d in R) ≡ Ok e
ok_draft d e h = let k : d ≡ e = cc in ap (λ (z : Draft). let R : Result Draft RuleFault = Ok z in R) k

first_is : (option : Word) (values : List Word) (w : List ℕ) (ws : List (List ℕ)) → option_texts option values ≡ w ∷ ws
    → (option.text ≡ w) × (map text_of values ≡ ws)
first_is option values w ws h = (cc, cc)

setting_is : (w t : List ℕ) (s : Setting) → w ≡ t → setting_of t ≡ Some s → setting_of w ≡ Some s
setting_is w t s e h = ap setting_of e ∙ h

injars : setting_of (codes "-injars") ≡ Some setting.InDir
unfolding setting_of keep_setting plain_setting
injars = refl

outjars : setting_of (codes "-outjars") ≡ Some setting.OutDir
unfolding setting_of keep_setting plain_setting
outjars = refl

printmapping : setting_of (codes "-printmapping") ≡ Some setting.Mapping
unfolding setting_of keep_setting plain_setting
printmapping = refl

printseeds : setting_of (codes "-printseeds") ≡ Some setting.Seeds
unfolding setting_of keep_setting plain_setting
printseeds = refl

printusage : setting_of (codes "-printusage") ≡ Some setting.Usage
unfolding setting_of keep_setting plain_setting
printusage = refl

applymapping : setting_of (codes "-applymapping") ≡ Some setting.Apply
unfolding setting_of keep_setting plain_setting
applymapping = refl

rename : setting_of (codes "-renamesourcefileattribute") ≡ Some setting.SourceName
unfolding setting_of keep_setting plain_setting
rename = refl

dontshrink : setting_of (codes "-dontshrink") ≡ Some (setting.Off Shrink)
unfolding setting_of keep_setting plain_setting
dontshrink = refl

dontoptimize : setting_of (codes "-dontoptimize") ≡ Some (setting.Off Optimise)
unfolding setting_of keep_setting plain_setting
dontoptimize = refl

dontobfuscate : setting_of (codes "-dontobfuscate") ≡ Some (setting.Off Obfuscate)
unfolding setting_of keep_setting plain_setting
dontobfuscate = refl

keepattributes : setting_of (codes "-keepattributes") ≡ Some setting.Attributes
unfolding setting_of keep_setting plain_setting
keepattributes = refl

keep_is : setting_of (codes "-keep") ≡ Some (setting.Keep Classes false)
unfolding setting_of keep_setting
keep_is = refl

members_is : setting_of (codes "-keepclassmembers") ≡ Some (setting.Keep Members false)
unfolding setting_of keep_setting
members_is = refl

with_is : setting_of (codes "-keepclasseswithmembers") ≡ Some (setting.Keep WithMembers false)
unfolding setting_of keep_setting
with_is = refl

names_is : setting_of (codes "-keepnames") ≡ Some (setting.Keep Classes true)
unfolding setting_of keep_setting
names_is = refl

member_names_is : setting_of (codes "-keepclassmembernames") ≡ Some (setting.Keep Members true)
unfolding setting_of keep_setting
member_names_is = refl

with_names_is : setting_of (codes "-keepclasseswithmembernames") ≡ Some (setting.Keep WithMembers true)
unfolding setting_of keep_setting
with_names_is = refl

-- the word is one of the options that change nothing
inert : (w : List ℕ) → IsTrue (is_ignored w) → setting_of w ≡ Some setting.Ignored
unfolding is_ignored setting_of keep_setting plain_setting
inert w h =
    let P : List ℕ → Type 0 = λ v. setting_of v ≡ Some setting.Ignored in
    (or_by _ (is_text w (codes "-allowaccessmodification")) (P w)
    (or_by _ (is_text w (codes "-optimizationpasses")) (P w)
    (or_by _ (is_text w (codes "-useuniqueclassmembernames")) (P w)
    (or_by _ (is_text w (codes "-dontskipnonpubliclibraryclasses")) (P w)
    (or_by _ (is_text w (codes "-dontusemixedcaseclassnames")) (P w)
    (or_by _ (is_text w (codes "-ignorewarnings")) (P w)
    (or_by _ (is_text w (codes "-verbose")) (P w)
    (or_by _ (is_text w (codes "-dontnote")) (P w)
    (or_by (is_text w (codes "-libraryjars")) (is_text w (codes "-dontwarn")) (P w)
    (λ e. subst P (sym (same_text w _ e)) refl) (λ e. subst P (sym (same_text w _ e)) refl))
    (λ e. subst P (sym (same_text w _ e)) refl))
    (λ e. subst P (sym (same_text w _ e)) refl))
    (λ e. subst P (sym (same_text w _ e)) refl))
    (λ e. subst P (sym (same_text w _ e)) refl))
    (λ e. subst P (sym (same_text w _ e)) refl))
    (λ e. subst P (sym (same_text w _ e)) refl))
    (λ e. subst P (sym (same_text w _ e)) refl))
    (λ e. subst P (sym (same_text w _ e)) refl)) h

keep_only : (kind : KeepKind) (shrinking : Bool) (t : List ℕ) (d : Draft) (option : Word) (values : List Word)
    (e : Draft)
    (k : Keep) → setting_of t ≡ Some (setting.Keep kind shrinking)
    → IsKeepOption t kind shrinking (option_texts option values) k
    → (let O : Option Draft = Some (record d { keeps = d.keeps ++ k ∷ [] }) in O) ≡ Some e
    → option_read d option values ≡ Ok e
unfolding set with_keep
keep_only kind shrinking t d option values e k s h a =
    let f = first_is option values t h.0 h.1 in
    by_setting (setting.Keep kind shrinking) d option values e (setting_is option.text t _ f.0 s)
    (rw (whole_only option values k (keep_exact kind shrinking option.text)
    (keep_back kind shrinking (map text_of values) k
    (subst (λ (l : List (List ℕ)). IsKeep kind shrinking l k) (sym f.1) h.2)))
    (ok_draft _ e a))

off_only : (step : Step) (t : List ℕ) (d : Draft) (option : Word) (values : List Word) (e : Draft)
    → setting_of t ≡ Some (setting.Off step) → option_texts option values ≡ t ∷ []
    → (let O : Option Draft = Some (left_off step d) in O) ≡ Some e → option_read d option values ≡ Ok e
unfolding set without
off_only step t d option values e s h a =
    let f = first_is option values t [] h in
    by_setting (setting.Off step) d option values e (setting_is option.text t _ f.0 s)
    (rw (no_words values f.1) (ok_draft _ e a))

slot_said : (s : Setting) (t : List ℕ) (value : Value) (slot : Option (List ℕ)) (put : List ℕ → Draft) (d : Draft)
    (option : Word) (values : List Word) (e : Draft) (w x : List ℕ) → setting_of t ≡ Some s
    → (set s d option values ≡ outcome.◌>>=◌ (once value slot option values) (λ v. Ok (put v)))
    → option_texts option values ≡ t ∷ w ∷ [] → value_in value w ≡ Some x → slotted slot (put x) ≡ Some e
    → option_read d option values ≡ Ok e
slot_said s t value slot put d option values e w x k is h v a =
    let f = first_is option values t (w ∷ []) h in
    by_setting s d option values e (setting_is option.text t s f.0 k)
    (is ∙ slot_only value slot put option values e x (w, f.1, v) a)

a_file : (x : List ℕ) → IsTrue (is_path x) → file_in x ≡ Some x
a_file x h = rw h refl

filters_said : (option : Word) (values : List Word) (fs : List Filter) → IsAttributes (option_texts option values) fs
    → (option.text ≡ codes "-keepattributes") × AnyFilters option.text (map text_of values) fs
filters_said option values fs (inl n) =
    let f = first_is option values _ [] n.0 in (f.0, inl (f.1, n.1))
filters_said option values fs (inr h) =
    let f = first_is option values _ h.0 h.1 in (
      f.0,
      inr (subst (λ (l : List (List ℕ)). AreFilters (Attributes option.text) l fs) (sym f.1)
          (subst (λ (o : List ℕ). AreFilters (Attributes o) h.0 fs) (sym f.0) h.2)),
    )

attributes_only : (d : Draft) (option : Word) (values : List Word) (e : Draft) (fs : List Filter)
    → IsAttributes (option_texts option values) fs
    → (let O : Option Draft = Some (record d { attrs = d.attrs ++ fs }) in O) ≡ Some e
    → option_read d option values ≡ Ok e
unfolding set with_attributes
attributes_only d option values e fs h a =
    let f = filters_said option values fs h in
    by_setting setting.Attributes d option values e (setting_is option.text _ _ f.0 keepattributes)
    (rw (whole_only option values fs (attributes_exact option.text) (any_back option.text (map text_of values) fs f.1))
    (ok_draft _ e a))

kept_only : (d : Draft) (option : Word) (values : List Word) (e : Draft) (k : Keep)
    → SaysKeep (option_texts option values) k
    → (let O : Option Draft = Some (record d { keeps = d.keeps ++ k ∷ [] }) in O) ≡ Some e
    → option_read d option values ≡ Ok e
kept_only d option values e k (inl h) a = keep_only Classes false _ d option values e k keep_is h a
kept_only d option values e k (inr (inl h)) a = keep_only Members false _ d option values e k members_is h a
kept_only d option values e k (inr (inr (inl h))) a = keep_only WithMembers false _ d option values e k with_is h a
kept_only d option values e k (inr (inr (inr (inl h)))) a = keep_only Classes true _ d option values e k names_is h a
kept_only d option values e k (inr (inr (inr (inr (inl h))))) a =
    keep_only Members true _ d option values e k member_names_is h a
kept_only d option values e k (inr (inr (inr (inr (inr h))))) a =
    keep_only WithMembers true _ d option values e k with_names_is h a

-- what the words of an option say is read
pub option_only : (d : Draft) (option : Word) (values : List Word) (e : Draft) (y : Saying)
    → Says (option_texts option values) y
    → added d y ≡ Some e → option_read d option values ≡ Ok e
unfolding set
option_only d option values e (in_dir x) h a =
    slot_said setting.InDir _ Directory d.in_dir (λ v. record d { in_dir = Some v }) d
    option values e h.0 x injars refl h.1 h.2 a
option_only d option values e (out_dir x) h a =
    slot_said setting.OutDir _ Directory d.out_dir (λ v. record d { out_dir = Some v })
    d option values e h.0 x outjars refl h.1 h.2 a
option_only d option values e (mapping x) h a =
    slot_said setting.Mapping _ File d.mapping (λ v. record d { mapping = Some v }) d
    option values e x x printmapping refl h.0 (a_file x h.1) a
option_only d option values e (seeds x) h a =
    slot_said setting.Seeds _ File d.seeds (λ v. record d { seeds = Some v }) d
    option values e x x printseeds refl h.0 (a_file x h.1) a
option_only d option values e (usage x) h a =
    slot_said setting.Usage _ File d.usage (λ v. record d { usage = Some v }) d
    option values e x x printusage refl h.0 (a_file x h.1) a
option_only d option values e (apply x) h a =
    slot_said setting.Apply _ File d.apply (λ v. record d { apply = Some v }) d
    option values e x x applymapping refl h.0 (a_file x h.1) a
option_only d option values e (source_name x) h a = slot_said setting.SourceName _ AnyWord d.source_name
    (λ v. record d { source_name = Some v }) d option values e x x rename refl h refl a
option_only d option values e no_shrink h a = off_only Shrink _ d option values e dontshrink h a
option_only d option values e no_optimise h a = off_only Optimise _ d option values e dontoptimize h a
option_only d option values e no_obfuscate h a = off_only Obfuscate _ d option values e dontobfuscate h a
option_only d option values e (says.attributes fs) h a = attributes_only d option values e fs h a
option_only d option values e (keeps k) h a = kept_only d option values e k h a
option_only d option values e nothing h a =
    let f = first_is option values h.0 h.1 h.2 in
    by_setting setting.Ignored d option values e (setting_is option.text h.0 _ f.0 (inert h.0 h.3)) (ok_draft d e a)
