-- Codes and constants stay with their members.
use Rattle.std.proofs.Common.{◌≡◌, ℕ, zero, suc, ◌+◌, Bool, true, List, [], ◌∷◌, ◌++◌, length, map, Option, Some, None}
use Rattle.std.proofs.Common.{slice_get, refl, ap, ◌∙◌, arith}
use Rattle.std.specs.Option.{option_and_then, option_map}
use Rattle.class_model.specs.declared.class.Class.{Class}
use Rattle.class_model.specs.declared.class.Field.{Field}
use Rattle.class_model.specs.declared.class.Method.{Method}
use Rattle.class_model.specs.declared.code.Code.{Code}
use Rattle.class_pool.specs.Items.{class_item}
use Rattle.class_pool.specs.declared.id.ClassId.{ClassId}
use Rattle.class_pool.specs.declared.id.ClassId.TheVariants.{Prog, Lib}
use Rattle.class_pool.specs.declared.id.MemberAt.{MemberAt}
use Rattle.member_shrink.specs.Shrunk.{is_marked, shrunk}
use Rattle.set_view.specs.ViewOf.{told_at, told_in}
use Rattle.image_laws.specs.ShrunkImage.Keeping.{class_place, index_place, is_class_marked, is_index_marked}
use Rattle.image_laws.specs.ShrunkImage.Keeping.{is_member_kept, member_place}
use Rattle.image_laws.proofs.ShrunkImage.Classes.{class_at, class_marked, class_of_kept, f, member_marked}
use Rattle.image_laws.proofs.ShrunkImage.Members as members

-- what is told of a member of a class
abbrev pub told_of : {A : Type 0} → (Field → Option A) → (Method → Option A) → ℕ → Class → Option A
told_of g h k c = option_and_then (λ x. x) (slice_get (map g c.fields ++ map h c.methods) k)

module _ (classes : List Class) (marks : List Bool) where
  -- what is told of a kept member is told of it in what is left
  pub told_same : {A : Type 0} (g : Field → Option A) (h : Method → Option A) (m : MemberAt)
      → is_member_kept classes marks m ≡ true
      → told_at (shrunk classes marks) g h (member_place classes marks m) ≡ told_at classes g h m
  told_same {A} g h m kept =
      by m.class m.index (class_marked classes marks m.class (class_of_kept classes marks m kept))
      (member_marked classes marks m kept)
    where
      at : (n k : ℕ) (o : Option Class) → is_marked marks (class_item classes n + 1 + k) ≡ true
          → option_and_then (told_of g h (index_place classes marks (Prog n) k)) (option_map (f classes marks n) o)
          ≡ option_and_then (told_of g h k) o
      at n k None e = refl
      at n k (Some c) e = ap (option_and_then (λ x. x)) (members.told_at marks (class_item classes n) c g h k e)

      by : (x : ClassId) (k : ℕ) → is_class_marked classes marks x ≡ true → is_index_marked classes marks x k ≡ true
          → told_in (shrunk classes marks) g h (class_place classes marks x) (index_place classes marks x k)
          ≡ told_in classes g h x k
      by (Prog n) k class e =
          ap (option_and_then (told_of g h (index_place classes marks (Prog n) k))) (class_at classes marks n class)
          ∙ at n k (slice_get classes n) e
      by (Lib id) k class e = refl

-- a code that is told of a member is that of a method
in_methods : (ms : List Method) (k : ℕ) (code : Code)
    → option_and_then (λ x. x) (slice_get (map (λ (m : Method). m.code) ms) k) ≡ Some code
    → (m : Method) × (slice_get ms k ≡ Some m) × (m.code ≡ Some code)
in_methods [] k code e = absurd cc
in_methods (m ∷ ms) zero code e = (m, refl, e)
in_methods (m ∷ ms) (suc k) code e = in_methods ms k code e

in_members : (fs : List Field) (ms : List Method) (k : ℕ) (code : Code)
    → option_and_then (λ x. x) (slice_get (map (λ (f : Field). None) fs ++ map (λ (m : Method). m.code) ms) k)
    ≡ Some code
    → (j : ℕ) × (m : Method) × (k ≡ length fs + j) × (slice_get ms j ≡ Some m) × (m.code ≡ Some code)
in_members [] ms k code e = let p = in_methods ms k code e in (k, p.0, omega arith, p.1, p.2)
in_members (f ∷ fs) ms zero code e = absurd cc
in_members (f ∷ fs) ms (suc k) code e =
    let p = in_members fs ms k code e in (p.0, p.1, let at = p.2 in omega (arith, at), p.3, p.4)

-- the method that has a code
pub record HasCode (classes : List Class) (x : ClassId) (index : ℕ) (code : Code) : Type 0 where
  pub n : ℕ
  pub class_is : x ≡ Prog n
  pub class : Class
  pub class_at : slice_get classes n ≡ Some class
  pub k : ℕ
  pub index_is : index ≡ length class.fields + k
  pub method : Method
  pub method_at : slice_get class.methods k ≡ Some method
  pub code_is : method.code ≡ Some code

pub code_found : (classes : List Class) (x : ClassId) (index : ℕ) (code : Code)
    → told_in classes (λ f. None) (λ m. m.code) x index ≡ Some code → HasCode classes x index code
code_found classes (Lib id) index code e = absurd cc
code_found classes (Prog n) index code e = by (slice_get classes n) refl e
  where
    by : (o : Option Class) → slice_get classes n ≡ o
        → option_and_then (λ (c : Class). option_and_then (λ x. x)
        (slice_get (map (λ (f : Field). None) c.fields ++ map (λ (m : Method). m.code) c.methods) index)) o ≡ Some code
        → HasCode classes (Prog n) index code
    by None is e = absurd cc
    by (Some c) is e =
        let p = in_members c.fields c.methods index code e in
        record {
          n = n;
          class_is = refl;
          class = c;
          class_at = is;
          k = p.0;
          index_is = p.2;
          method = p.1;
          method_at = p.3;
          code_is = p.4;
        }
