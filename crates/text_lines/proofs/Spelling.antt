-- Types, members and numbers: what is spelled is read, and what is read was spelled so.
use Rattle.std.proofs.Common.{◌≡◌, ◌≢◌, ℕ, zero, suc, ◌+◌, ◌<◌, ◌≤◌, ◌^◌, Bool, true, false, cond, eqb, leb, ◌&&◌, List}
use Rattle.std.proofs.Common.{[], ◌∷◌, ◌++◌, length, Option, Some, None, Result, Ok, Err, refl, sym, ap, subst, ◌∙◌}
use Rattle.std.proofs.Common.{append_assoc, arith, codes, rules, inl, inr}
use Rattle.std.specs.Prelude.{IsTrue, IfSome, nat_le}
use Rattle.std.specs.List.{AllByRecursion, flat_map, join_by, onto_first, slice_split}
use Rattle.std.specs.Option.{option_map}
use Rattle.std.specs.Result.{result_ok}
use Rattle.std.proofs.lemmas.Bool.{cases_Bool, eqb-true, leb-true, le-leb}
use Rattle.std.proofs.lemmas.List.{append-nil, nil_from_length}
use Rattle.std.proofs.lemmas.List.Splits.{length-slice_split}
use Rattle.jv_base.specs.External.{dotted, external_byte, external_end, external_text, keyword_base}
use Rattle.jv_base.specs.External.{read_external, word_base, word_text, SpellsExternal}
use Rattle.jv_base.specs.Walk.{walk}
use Rattle.jv_base.specs.Names.{is_class_name, is_member_name, is_name_byte, is_primitive_or_void}
use Rattle.jv_base.specs.Names.{is_text, part_after}
use Rattle.jv_base.specs.Types.{IsFieldType, IsMethodType, argument_words}
use Rattle.jv_base.specs.declared.descriptors.BadDescriptor.{BadDescriptor}
use Rattle.jv_base.specs.declared.types.Base.{Base}
use Rattle.jv_base.specs.declared.types.Base.TheVariants.{Boolean, Byte, Char, Short, Int, Long, Float, Double, Class}
use Rattle.jv_base.specs.declared.types.FieldType.{FieldType}
use Rattle.jv_base.specs.declared.types.MethodType.{MethodType}
use Rattle.jv_base.proofs.Equality.{text_Decides}
use Rattle.jv_base.proofs.ExternalLaw.{read_external-found, read_external-only}
use Rattle.jv_base.proofs.Options.{mapped}
use Rattle.text_lines.specs.Cut.{◌>>=◌, where_true, Lacks}
use Rattle.text_lines.specs.Members.{SpellsClass, arguments_of, arguments_text, class_of, class_of_base, class_of_type}
use Rattle.text_lines.specs.Members.{method_type, method_type_of, result_of, result_text, type_of, types_of}
use Rattle.text_lines.proofs.Arguments.{between, split_first, split_none}
use Rattle.text_lines.proofs.Words.{IsResult, IsWord, longer, type_word, word_lacks, returned_is}

-- ---- steps that may find nothing

pub then_some : {A B : Type 0} (o : Option A) (f : A → Option B) (y : B) → o >>= f ≡ Some y
    → (x : A) × (o ≡ Some x) × (f x ≡ Some y)
then_some None f y h = absurd cc
then_some (Some x) f y h = (x, refl, h)

pub where_some : {A : Type 0} (b : Bool) (x y : A) → where_true b x ≡ Some y → (b ≡ true) × (x ≡ y)
where_some true x y h = (refl, cc)
where_some false x y h = absurd cc

-- ---- types

pub type_found : (text : List ℕ) (ty : FieldType) → type_of text ≡ Some ty → SpellsExternal text ty
type_found text ty h = read_external-found text ty (by (read_external text) h)
  where
    by : (r : Result FieldType BadDescriptor) → result_ok r ≡ Some ty → r ≡ Ok ty
    by (Ok x) e = cc
    by (Err x) e = absurd cc

pub type_only : (text : List ℕ) (ty : FieldType) → SpellsExternal text ty → type_of text ≡ Some ty
type_only text ty h = ap result_ok (read_external-only text ty h)

-- ---- class names

class_base : (base : Base) (name : List ℕ) → class_of_base base ≡ Some name → base ≡ Class name
class_base (Class n) name e = let same : n ≡ name = cc in ap (λ (x : List ℕ). Class x) same
class_base Boolean name e = absurd cc
class_base Byte name e = absurd cc
class_base Char name e = absurd cc
class_base Short name e = absurd cc
class_base Int name e = absurd cc
class_base Long name e = absurd cc
class_base Float name e = absurd cc
class_base Double name e = absurd cc

class_type : (ty : FieldType) (name : List ℕ) → class_of_type ty ≡ Some name
    → ty ≡ (record { dims = 0; base = Class name })
class_type ty name h =
    elim (eqb ty.dims 0) as (λ b. eqb ty.dims 0 ≡ b → cond b (class_of_base ty.base) None ≡ Some name
    → ty ≡ (record { dims = 0; base = Class name })) [
      | true ↦ λ e k. (let dims = eqb-true ty.dims 0 e in let base = class_base ty.base name k in
          λ i. record { dims = dims i; base = base i })
      | false ↦ λ e k. absurd cc
    ] refl h

class_text : (name : List ℕ) → external_text (record { dims = 0; base = Class name }) ≡ dotted name
unfolding external_text word_text
class_text name = append-nil (dotted name)

pub class_found : (text name : List ℕ) → class_of text ≡ Some name → SpellsClass text name
class_found text name h =
    let t = then_some (type_of text) class_of_type name h in
    let spelled = type_found text t.0 t.1 in
    let is = class_type t.0 name t.2 in
    let there = subst (λ (ty : FieldType). SpellsExternal text ty) is spelled in
    (there.0.named, sym there.1 ∙ class_text name)

pub class_only : (text name : List ℕ) → SpellsClass text name → class_of text ≡ Some name
class_only text name h =
    let is : type_of text ≡ Some (record { dims = 0; base = Class name }) =
    type_only text (record { dims = 0; base = Class name })
    (record { dimensions = omega arith; named = h.0 }, class_text name ∙ sym h.1) in
    ap (λ (o : Option FieldType). o >>= class_of_type) is

-- ---- results

void_is_none : type_of (codes "void") ≡ None
unfolding read_external walk external_byte external_end word_base keyword_base part_after is_name_byte is_class_name
    is_member_name is_primitive_or_void
void_is_none = refl

pub result_found : (text : List ℕ) (ret : Option FieldType) → result_of text ≡ Some ret
    → IsResult ret × (text ≡ result_text ret)
result_found text ret h =
    elim (is_text text (codes "void")) as (λ b. is_text text (codes "void") ≡ b
    → cond b (Some None) (option_map (λ ty. Some ty) (type_of text)) ≡ Some ret
    → IsResult ret × (text ≡ result_text ret)) [
      | true ↦ λ e k.
          (let same : None ≡ ret = cc in
          subst (λ (r : Option FieldType). IsResult r × (text ≡ result_text r)) same
          (tt, (text_Decides text (codes "void")).0 e))
      | false ↦ λ e k. by (type_of text) refl k
    ] refl h
  where
    by : (o : Option FieldType) → type_of text ≡ o
        → option_map (λ ty. let r : Option FieldType = Some ty in r) o ≡ Some ret
        → IsResult ret × (text ≡ result_text ret)
    by None e k = absurd cc
    by (Some ty) e k =
        let same : Some ty ≡ ret = cc in
        let spelled = type_found text ty e in
        subst (λ (r : Option FieldType). IsResult r × (text ≡ result_text r)) same (spelled.0, sym spelled.1)

pub result_only : (text : List ℕ) (ret : Option FieldType) → IsResult ret → text ≡ result_text ret
    → result_of text ≡ Some ret
result_only text None h e =
    let yes : is_text text (codes "void") ≡ true = (text_Decides text (codes "void")).1 e in rw yes refl
result_only text (Some ty) h e =
    let there : type_of text ≡ Some ty = type_only text ty (h, sym e) in
    elim (cases_Bool (is_text text (codes "void"))) [
      | inl void_ ↦
          (let none : type_of text ≡ None = ap type_of ((text_Decides text (codes "void")).0 void_) ∙ void_is_none in
          absurd cc)
      | inr other ↦ rw (other, there) refl
    ]

-- ---- parameters

-- the types behind the first, each behind a comma
abbrev behind : List FieldType → List ℕ
behind tys = flat_map (λ ty. codes "," ++ external_text ty) tys

comma_no : (ty : FieldType) → IsFieldType ty → Lacks 44 (external_text ty)
unfolding is_name_byte
comma_no ty h = word_lacks 44 (external_text ty) refl (type_word ty h).0

split_all : (ty : FieldType) (tys : List FieldType) → IsFieldType ty → AllByRecursion IsFieldType tys
    → types_of (between (external_text ty ++ behind tys)) ≡ Some (ty ∷ tys)
split_all ty [] h all =
    let one : type_of (external_text ty) ≡ Some ty = type_only (external_text ty) ty (h, refl) in
    rw (append-nil (external_text ty), split_none (external_text ty) (comma_no ty h), one) refl
split_all ty (u ∷ us) h all =
    let one : type_of (external_text ty) ≡ Some ty = type_only (external_text ty) ty (h, refl) in
    rw (
      split_first (external_text ty) (external_text u ++ behind us) (comma_no ty h),
      one,
      split_all u us all.0 all.1,
    ) refl

pub arguments_only : (text : List ℕ) (args : List FieldType) → AllByRecursion IsFieldType args
    → text ≡ arguments_text args
    → arguments_of text ≡ Some args
arguments_only text [] h e = rw e refl
arguments_only text (ty ∷ tys) h e =
    let some : 0 < length (external_text ty ++ behind tys) = longer _ _ (type_word ty h.0).1 in
    let not_empty : eqb (length (external_text ty ++ behind tys)) 0 ≡ false = grind (arith, some) in
    ap arguments_of e ∙ rw not_empty (split_all ty tys h.0 h.1)

-- the parts joined by commas
abbrev joined : List (List ℕ) → List ℕ
joined [] = []
joined (x ∷ xs) = x ++ flat_map (λ t. 44 ∷ t) xs

onto : (b : ℕ) (parts : List (List ℕ)) → joined (onto_first b parts) ≡ b ∷ joined parts
onto b [] = refl
onto b (x ∷ xs) = refl

after_comma : (parts : List (List ℕ)) → 0 < length parts → flat_map (λ t. 44 ∷ t) parts ≡ 44 ∷ joined parts
after_comma [] h = absurd (omega arith)
after_comma (x ∷ xs) h = refl

some_part : (text : List ℕ) → 0 < length (between text)
some_part text = omega (arith, length-slice_split (λ b. eqb b 44) text)

joined_between : (text : List ℕ) → joined (between text) ≡ text
joined_between [] = refl
joined_between (b ∷ text) =
    elim (eqb b 44) as
    (λ t. eqb b 44 ≡ t → joined (cond t ([] ∷ between text) (onto_first b (between text))) ≡ b ∷ text) [
      | true ↦ λ e. after_comma (between text) (some_part text) ∙ ap (λ (t : List ℕ). 44 ∷ t) (joined_between text)
          ∙ ap (λ (c : ℕ). c ∷ text) (sym (eqb-true b 44 e))
      | false ↦ λ e. onto b (between text) ∙ ap (λ (t : List ℕ). b ∷ t) (joined_between text)
    ] refl

-- the types that texts spell, one by one
parts_found : (parts : List (List ℕ)) (tys : List FieldType) → types_of parts ≡ Some tys
    → AllByRecursion IsFieldType tys × (flat_map (λ t. 44 ∷ t) parts ≡ behind tys)
parts_found [] tys h =
    let same : [] ≡ tys = cc in
    subst (λ (us : List FieldType). AllByRecursion IsFieldType us × ([] ≡ behind us)) same (tt, refl)
parts_found (x ∷ xs) tys h =
    let first = then_some (type_of x) (λ ty. option_map (λ us. ty ∷ us) (types_of xs)) tys h in
    let others = mapped (λ (us : List FieldType). first.0 ∷ us) (types_of xs) tys first.2 in
    let more = parts_found xs others.0 others.1 in
    let spelled = type_found x first.0 first.1 in
    subst (λ (us : List FieldType). AllByRecursion IsFieldType us
    × (flat_map (λ t. 44 ∷ t) (x ∷ xs) ≡ behind us)) others.2 (
      (spelled.0, more.0),
      ap (λ (t : List ℕ). 44 ∷ (t ++ flat_map (λ u. 44 ∷ u) xs)) (sym spelled.1)
          ∙ ap (λ (t : List ℕ). 44 ∷ (external_text first.0 ++ t)) more.1,
    )

list_found : (parts : List (List ℕ)) (tys : List FieldType) → 0 < length parts → types_of parts ≡ Some tys
    → AllByRecursion IsFieldType tys × (joined parts ≡ arguments_text tys)
list_found [] tys some h = absurd (omega arith)
list_found (x ∷ xs) tys some h =
    let first = then_some (type_of x) (λ ty. option_map (λ us. ty ∷ us) (types_of xs)) tys h in
    let others = mapped (λ (us : List FieldType). first.0 ∷ us) (types_of xs) tys first.2 in
    let more = parts_found xs others.0 others.1 in
    let spelled = type_found x first.0 first.1 in
    subst (λ (us : List FieldType). AllByRecursion IsFieldType us × (joined (x ∷ xs) ≡ arguments_text us)) others.2 (
      (spelled.0, more.0),
      ap (λ (t : List ℕ). t ++ flat_map (λ u. 44 ∷ u) xs) (sym spelled.1)
          ∙ ap (λ (t : List ℕ). external_text first.0 ++ t) more.1,
    )

pub arguments_found : (text : List ℕ) (args : List FieldType) → arguments_of text ≡ Some args
    → AllByRecursion IsFieldType args × (text ≡ arguments_text args)
arguments_found text args h =
    elim (eqb (length text) 0) as (λ b. eqb (length text) 0 ≡ b
    → cond b (Some []) (types_of (between text)) ≡ Some args
    → AllByRecursion IsFieldType args × (text ≡ arguments_text args)) [
      | true ↦ λ e k. (let same : [] ≡ args = cc in
          subst (λ (us : List FieldType). AllByRecursion IsFieldType us × (text ≡ arguments_text us)) same
          (tt, nil_from_length text (eqb-true (length text) 0 e)))
      | false ↦ λ e k. (let found = list_found (between text) args (some_part text) k in
          (found.0, sym (joined_between text) ∙ found.1))
    ] refl h

-- ---- types of methods

pub method_type_found : (ret args : List ℕ) (ty : MethodType) → method_type_of ret args ≡ Some ty
    → IsMethodType ty × (ret ≡ result_text ty.ret) × (args ≡ arguments_text ty.args)
method_type_found ret args ty h =
    let r = then_some (result_of ret) (λ o. arguments_of args >>= (λ a. method_type o a)) ty h in
    let a = then_some (arguments_of args) (λ l. method_type r.0 l) ty r.2 in
    let w = where_some (leb (argument_words a.0) 255) (record { args = a.0; ret = r.0 }) ty a.2 in
    let result = result_found ret r.0 r.1 in
    let arguments = arguments_found args a.0 a.1 in
    subst (λ (m : MethodType). IsMethodType m × (ret ≡ result_text m.ret) × (args ≡ arguments_text m.args)) w.1 (
      record { arguments = arguments.0; words = leb-true (argument_words a.0) 255 w.0; returned = by r.0 result.0 },
      result.1,
      arguments.1,
    )
  where
    by : (o : Option FieldType) → IsResult o → IfSome o IsFieldType
    by None k = tt
    by (Some t) k = k

pub method_type_only : (ret args : List ℕ) (ty : MethodType) → IsMethodType ty → ret ≡ result_text ty.ret
    → args ≡ arguments_text ty.args → method_type_of ret args ≡ Some ty
method_type_only ret args ty h e d =
    let r : result_of ret ≡ Some ty.ret = result_only ret ty.ret (returned_is ty.ret h.returned) e in
    let a : arguments_of args ≡ Some ty.args = arguments_only args ty.args h.arguments d in
    let w : leb (argument_words ty.args) 255 ≡ true = le-leb (argument_words ty.args) 255 h.words in
    rw (r, a, w) refl
