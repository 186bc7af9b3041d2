-- A member is declared at the first row of its name and descriptor (JVMS 4.5, 4.6).
use Rattle.std.proofs.Common.{◌≡◌, ℕ, suc, ◌+◌, ◌&&◌, Bool, true, false, cond, List, [], ◌∷◌, ◌++◌, length, map}
use Rattle.std.proofs.Common.{slice_get}
use Rattle.std.proofs.Common.{Option, Some, None, refl, sym, ap, ◌∙◌, arith}
use Rattle.std.specs.Bool.{Decides}
use Rattle.std.specs.Option.{option_and_then, option_map, option_map_or, option_or}
use Rattle.std.specs.List.{enumerate_from, find, position}
use Rattle.std.proofs.lemmas.List.{length-map}
use Rattle.jv_base.specs.Names.{is_text}
use Rattle.jv_base.specs.Types.{field_text, method_text}
use Rattle.jv_base.proofs.Equality.{and_Decides, text_Decides, text_sym}
use Rattle.lib_table.specs.Library.{LibraryMember}
use Rattle.lib_table.specs.Lookups as table
use Rattle.lib_table.specs.declared.class.LibKind.{LibKind}
use Rattle.lib_table.specs.declared.member.LibMember.{LibMember}
use Rattle.class_model.specs.declared.class.Class.{Class}
use Rattle.class_model.specs.declared.class.Field.{Field}
use Rattle.class_model.specs.declared.class.Method.{Method}
use Rattle.class_pool.specs.Found.{MemberRow, NameAndType, field_row, library_row, method_row, rows_in}
use Rattle.class_pool.specs.Members.{declared_at, is_field, is_method, member_named, or_method}
use Rattle.class_pool.specs.declared.id.ClassId.{ClassId}
use Rattle.class_pool.specs.declared.id.ClassId.TheVariants.{Prog, Lib}
use Rattle.class_pool.proofs.Distinct.{position_next}
use Rattle.pair_laws.specs.RenamedImage.Naming.{is_row}

-- ---- positions

pub position_moved : {A B : Type 0} (f : A → B) (p : B → Bool) (q : A → Bool) (xs : List A)
    → ((k : ℕ) (x : A) → slice_get xs k ≡ Some x → p (f x) ≡ q x) → position p (map f xs) ≡ position q xs
position_moved f p q [] same = refl
position_moved f p q (x ∷ xs) same =
    position_next p (f x) (map f xs)
    ∙ (λ i. cond (same 0 x refl i) (Some 0)
    (option_map suc (position_moved f p q xs (λ k y at. same (suc k) y at) i)))
    ∙ sym (position_next q x xs)

-- so many places further
abbrev pub behind : ℕ → Option ℕ → Option ℕ
behind m found = option_map (λ k. m + k) found

behind_more : (o : Option ℕ) (n : ℕ) → option_map suc (behind n o) ≡ behind (suc n) o
behind_more None n = refl
behind_more (Some k) n = ap Some (omega arith)

or_behind : (b : Bool) (o r : Option ℕ) (n : ℕ)
    → cond b (Some 0) (option_map suc (option_or o (behind n r)))
    ≡ option_or (cond b (Some 0) (option_map suc o)) (behind (suc n) r)
or_behind true o r n = refl
or_behind false None r n = behind_more r n
or_behind false (Some k) r n = refl

behind_none : (o : Option ℕ) → o ≡ behind 0 o
behind_none None = refl
behind_none (Some k) = ap Some (omega arith)

pub position_append : {X : Type 0} (p : X → Bool) (xs ys : List X)
    → position p (xs ++ ys) ≡ option_or (position p xs) (behind (length xs) (position p ys))
position_append p [] ys = behind_none (position p ys)
position_append p (x ∷ xs) ys =
    position_next p x (xs ++ ys)
    ∙ ap (λ (o : Option ℕ). cond (p x) (Some 0) (option_map suc o)) (position_append p xs ys)
    ∙ or_behind (p x) (position p xs) (position p ys) (length xs)
    ∙ ap (λ (o : Option ℕ). option_or o (behind (suc (length xs)) (position p ys))) (sym (position_next p x xs))

-- ---- rows

pub row_Decides : (named : NameAndType) (row : MemberRow) → Decides (is_row named row) (row.named ≡ named)
row_Decides named row = and_Decides (is_text row.named.0 named.0) (is_text row.named.1 named.1)
    (text_Decides row.named.0 named.0) (text_Decides row.named.1 named.1) (λ p q i. (p i, q i))
    (ap (λ (n : NameAndType). n.0)) (ap (λ (n : NameAndType). n.1))

field_rows : (named : NameAndType) (fs : List Field)
    → position (is_row named) (map field_row fs) ≡ position (is_field named.0 named.1) fs
field_rows named fs = position_moved field_row (is_row named) (is_field named.0 named.1) fs
    (λ k f at. ap (λ (b : Bool). is_text f.name named.0 && b) (text_sym (field_text f.ty) named.1))

method_rows : (named : NameAndType) (ms : List Method)
    → position (is_row named) (map method_row ms) ≡ position (is_method named.0 named.1) ms
method_rows named ms = position_moved method_row (is_row named) (is_method named.0 named.1) ms
    (λ k m at. ap (λ (b : Bool). is_text m.name named.0 && b) (text_sym (method_text m.ty) named.1))

or_is : (c : Class) (named : NameAndType) (o : Option ℕ)
    → or_method c named.0 named.1 o
    ≡ option_or o (behind (length c.fields) (position (is_method named.0 named.1) c.methods))
or_is c named None = refl
or_is c named (Some n) = refl

in_class : (c : Class) (named : NameAndType)
    → member_named c named.0 named.1 ≡ position (is_row named) (map field_row c.fields ++ map method_row c.methods)
in_class c named =
    or_is c named (position (is_field named.0 named.1) c.fields)
    ∙ sym (position_append (is_row named) (map field_row c.fields) (map method_row c.methods)
    ∙ (λ i. option_or (field_rows named c.fields i)
    (behind (length-map c.fields field_row i) (method_rows named c.methods i))))

in_set : (named : NameAndType) (o : Option Class) → option_and_then (λ c. member_named c named.0 named.1) o
    ≡ position (is_row named) (option_map_or (λ c. map field_row c.fields ++ map method_row c.methods) o [])
in_set named None = refl
in_set named (Some c) = in_class c named

abbrev told_at : Option (ℕ × LibraryMember) → Option ℕ
told_at o = option_map (λ (m : LibMember). m.at) (option_map table.member_told o)

later : (start : ℕ) (o : Option ℕ) → behind (start + 1) o ≡ behind start (option_map suc o)
later start None = refl
later start (Some k) = ap Some (omega arith)

told_step : (start : ℕ) (m : LibraryMember) (b : Bool) (rest : Option (ℕ × LibraryMember)) (o : Option ℕ)
    → told_at rest ≡ behind (start + 1) o
    → told_at (cond b (Some (start, m)) rest) ≡ behind start (cond b (Some 0) (option_map suc o))
told_step start m true rest o h = ap Some (omega arith)
told_step start m false rest o h = h ∙ later start o

in_table : (kind : LibKind) (named : NameAndType) (start : ℕ) (ms : List LibraryMember)
    → told_at (find (λ p. table.is_member named.0 named.1 p.1) (enumerate_from start ms))
    ≡ behind start (position (is_row named) (map (library_row kind) ms))
in_table kind named start [] = refl
in_table kind named start (m ∷ ms) =
    told_step start m (table.is_member named.0 named.1 m) _ (position (is_row named) (map (library_row kind) ms))
    (in_table kind named (start + 1) ms)
    ∙ ap (behind start) (sym (position_next (is_row named) (library_row kind m) (map (library_row kind) ms)))

pub declared_rows : (classes : List Class) (c : ClassId) (named : NameAndType)
    → declared_at classes c named.0 named.1 ≡ position (is_row named) (rows_in classes c)
declared_rows classes (Prog n) named = in_set named (slice_get classes n)
declared_rows classes (Lib id) named =
    in_table (table.class_at id).kind named 0 (table.class_at id).members ∙ sym (behind_none _)
