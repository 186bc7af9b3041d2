-- What is seen of attributes one behind the other is what the attributes of each name say.
use Rattle.std.proofs.Common.{◌≡◌, ℕ, ◌+◌, Bool, true, false, cond, List, [], ◌∷◌, length, Option, Some, None, refl}
use Rattle.std.proofs.Common.{sym, ap, subst, ◌∙◌}
use Rattle.std.specs.List.{AllByRecursion}
use Rattle.format_reading.specs.Reader.{FormatReader, give}
use Rattle.format_reading.specs.Spelling.{Spells}
use Rattle.format_reading.proofs.Exact.{Exact, as_raw, give_exact}
use Rattle.jv_base.specs.Names.{is_text}
use Rattle.jv_base.proofs.Equality.{text_Decides}
use Rattle.class_model.specs.declared.pool.Entry.{Entry}
use Rattle.class_model.specs.Pool.{units_at}
use Rattle.class_model.specs.Structure.{AttributeInfo, attribute_info}
use Rattle.class_model.specs.ReadingCodeAttribute.{is_there}
use Rattle.class_model.specs.Attributes.{is_named, named, IsAttribute, Single, IsMark}
use Rattle.class_model.proofs.AttributeLaw.{text, Does, Knows, Steps}

-- ---- from what was seen to the attributes of a name

-- one attribute of a name after the other changes a part of what was seen
abbrev pub Chain : {F : Type 0} → (F → List ℕ → F → Type 0) → F → List AttributeInfo → F → Type 0
Chain R before [] out = out ≡ before
Chain R before (a ∷ others) out = (now : _) × R before a.info now × Chain R now others out

-- each has a name and a length
pub each_found : {S : Type 0} (pool : List Entry) (does : Does S) (at : ℕ) (all : List AttributeInfo) (seen out : S)
    → Steps pool does at all seen out → AllByRecursion (IsAttribute pool) all
each_found pool does at [] seen out h = tt
each_found pool does at (a ∷ others) seen out h =
    let s = h.1 in (
      record { index_fits = s.0; name = s.1; named = s.2; length_fits = s.3 },
      each_found pool does
          (at + length (attribute_info a)) others h.0 out h.2,
    )

-- what is seen of the attributes of a name
pub chain_found : {S F : Type 0} (pool : List Entry) (does : Does S) (name : List ℕ) (get : S → F)
    (R : F → List ℕ → F → Type 0)
    → ((at : ℕ) (units : List ℕ) (n : ℕ) (seen : S) (info : List ℕ) (out : S) → is_text units name ≡ true
    → does at units n seen info out → R (get seen) info (get out))
    → ((at : ℕ) (units : List ℕ) (n : ℕ) (seen : S) (info : List ℕ) (out : S) → is_text units name ≡ false
    → does at units n seen info out → get out ≡ get seen)
    → (at : ℕ) (all : List AttributeInfo) (seen out : S) → Steps pool does at all seen out
    → Chain R (get seen) (named pool name all) (get out)
chain_found pool does name get R same other at [] seen out h = ap get h
chain_found pool does name get R same other at (a ∷ rest) seen out h =
    by (is_text h.1.1 name) refl
    (chain_found pool does name get R same other (at + length (attribute_info a)) rest h.0 out h.2)
  where
    is : (b : Bool) → is_text h.1.1 name ≡ b → is_named (units_at pool a.attribute_name_index) name ≡ b
    is b e = ap (λ (o : Option (List ℕ)). is_named o name) h.1.2 ∙ e

    by : (b : Bool) → is_text h.1.1 name ≡ b → Chain R (get h.0) (named pool name rest) (get out)
        → Chain R (get seen) (named pool name (a ∷ rest)) (get out)
    by true e behind = rw (is true e) (get h.0, same at h.1.1 (length a.info) seen a.info h.0 e h.1.4, behind)
    by false e behind = rw (is false e)
        (subst (λ (f : _). Chain R f (named pool name rest) (get out))
        (other at h.1.1 (length a.info) seen a.info h.0 e h.1.4) behind)

-- ---- an attribute that may stand once

-- an attribute that stands once tells its value
abbrev pub Once : {A : Type 0} → (List ℕ → A → Type 0) → Option A → List ℕ → Option A → Type 0
Once Stands before info now = (before ≡ None) × (x : _) × Stands info x × (now ≡ Some x)

pub single_found : {A : Type 0} (Stands : List ℕ → A → Type 0) (all : List AttributeInfo) (out : Option A)
    → Chain (Once Stands) None all out → Single Stands all out
single_found Stands [] out h = subst (λ (o : Option _). Single Stands [] o) (sym h) tt
single_found Stands (a ∷ []) out h = subst (λ (o : Option _). Single Stands (a ∷ []) o) (sym (h.2 ∙ h.1.3)) h.1.2
single_found Stands (a ∷ b ∷ others) out h = let e : Some h.1.1 ≡ None = sym h.1.3 ∙ h.2.1.0 in absurd cc

pub single_only : {A : Type 0} (Stands : List ℕ → A → Type 0) (all : List AttributeInfo) (out : Option A)
    → Single Stands all out → Chain (Once Stands) None all out
single_only Stands [] None h = refl
single_only Stands [] (Some x) h = absurd h
single_only Stands (a ∷ []) (Some x) h = (Some x, (refl, x, h, refl), refl)
single_only Stands (a ∷ []) None h = absurd h
single_only Stands (a ∷ b ∷ others) out h = absurd h

-- ---- a mark

-- a mark that stands once, without contents
abbrev pub Marks : Bool → List ℕ → Bool → Type 0
Marks before info now = (before ≡ false) × (info ≡ []) × (now ≡ true)

pub mark_found : (all : List AttributeInfo) (out : Bool) → Chain Marks false all out → IsMark all out
mark_found [] out h = h
mark_found (a ∷ []) out h = (h.1.1, h.2 ∙ h.1.2)
mark_found (a ∷ b ∷ others) out h = let e : true ≡ false = sym h.1.2 ∙ h.2.1.0 in absurd cc

pub mark_only : (all : List AttributeInfo) (out : Bool) → IsMark all out → Chain Marks false all out
mark_only [] out h = h
mark_only (a ∷ []) out h = (true, (refl, h.0, refl), h.1)
mark_only (a ∷ b ∷ others) out h = absurd h

-- ---- from the attributes of a name to what was seen

-- an attribute of another name is none of this one
pub not_named : (pool : List Entry) (name units : List ℕ) (a : AttributeInfo) (rest : List AttributeInfo)
    → units_at pool a.attribute_name_index ≡ Some units → is_text units name ≡ false
    → named pool name (a ∷ rest) ≡ named pool name rest
not_named pool name units a rest at e = let is : is_named (units_at pool a.attribute_name_index) name
    ≡ false = ap (λ (o : Option (List ℕ)). is_named o name) at ∙ e in rw is refl

-- an attribute of this name is the first
pub is_first : (pool : List Entry) (name units : List ℕ) (a : AttributeInfo) (rest : List AttributeInfo)
    → units_at pool a.attribute_name_index ≡ Some units → is_text units name ≡ true
    → named pool name (a ∷ rest) ≡ a ∷ named pool name rest
is_first pool name units a rest at e = let is : is_named (units_at pool a.attribute_name_index) name
    ≡ true = ap (λ (o : Option (List ℕ)). is_named o name) at ∙ e in rw is refl

-- a text that is one name is no other
pub other_name : (units one other : List ℕ) → is_text units one ≡ true → is_text one other ≡ false
    → is_text units other ≡ false
other_name units one other e differ = ap (λ (t : List ℕ). is_text t other) ((text_Decides units one).0 e) ∙ differ

-- what was not seen
pub not_there : {A : Type 0} (o : Option A) → is_there o ≡ false → o ≡ None
not_there (Some x) h = absurd cc
not_there None h = refl

-- ---- what is known

-- of what a test chooses between, each is known
pub knows_if : {S : Type 0} (b : Bool) (one other : Option (FormatReader S)) (n : ℕ) (seen : S)
    (D E : List ℕ → S → Type 0) → Knows one n seen D → Knows other n seen E
    → Knows (cond b one other) n seen (λ info out. cond b (D info out) (E info out))
knows_if true one other n seen D E d e = d
knows_if false one other n seen D E d e = e

-- an attribute without contents that sets what was seen
pub give_text : {S X : Type 0} (x : S) → Exact (give {X = X} x) (Spells text (λ _ info out. (info ≡ []) × (out ≡ x)))
give_text x = as_raw text _ (λ u. []) (λ info. tt)
    (λ at u out h. (refl, (refl, h)))
    (λ at info out h. (h.0, h.1))
    (give_exact x)
