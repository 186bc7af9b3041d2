-- Constants put behind texts that were put there for them.
use Rattle.std.proofs.Common.{◌≡◌, ℕ, Bool, true, false, cond, List, [], ◌∷◌, ◌++◌, map, length, Result, Ok, Err}
use Rattle.std.proofs.Common.{refl, sym, ap, ◌∙◌, ◌+◌}
use Rattle.std.specs.Prelude.{OnOk}
use Rattle.indexmap.specs.IndexSet.{insert_all}
use Rattle.class_model.specs.declared.constant.PoolConstant.{PoolConstant}
use Rattle.class_model.specs.declared.constant.PoolConstant.TheVariants.{Utf8, Class, NameAndType, Fieldref, Methodref}
use Rattle.class_model.specs.declared.constant.PoolConstant.TheVariants.{InterfaceMethodref}
use Rattle.class_model.specs.CanonicalPool.{same, info_of, infos_of}
use Rattle.class_model.specs.ConstantPool.{CpInfo, cp_info}
use Rattle.std.specs.Int.{w16, to_be_bytes}
use Rattle.std.specs.List.{flat_map}
use Rattle.std.proofs.lemmas.List.{length-map}
use Rattle.constant_table.specs.declared.key.Key.{Key}
use Rattle.constant_table.specs.declared.finding.MemberNumbers.{MemberNumbers}
use Rattle.constant_table.specs.bodies.Keys.{constant_of, constants_of, AreKeysOf, IsKeyIn}
use Rattle.constant_table.specs.bodies.Texts.{Grows}
use Rattle.constant_table.specs.bodies.Members.{TellsTexts, field_key, method_key, part_keys}
use Rattle.constant_table.proofs.Told.{told_grown}

-- what is put in by keys of more texts is what is wanted
pub on_put : {E : Type 0} (old new : List (List ℕ)) (keys after : List Key) (r : Result (Unit {0}) E) (ks : List Key)
    (wanted : List PoolConstant)
    → Grows old new → AreKeysOf old keys → map (constant_of new) ks ≡ wanted
    → OnOk r (constants_of new after ≡ insert_all same (constants_of new keys) (map (constant_of new) ks))
    → OnOk r (constants_of new after ≡ insert_all same (constants_of old keys) wanted)
on_put old new keys after (Err e) ks wanted g h is p = tt
on_put old new keys after (Ok x) ks wanted g h is p = p ∙ (λ i. insert_all same (told_grown old new keys g h i) (is i))

module _ (texts : List (List ℕ)) (m : MemberNumbers) (class name descriptor : List ℕ)
    (t : TellsTexts texts m class name descriptor) where
  -- the constants of a member's keys
  pub member_told : (key : Key) (k : PoolConstant) → constant_of texts key ≡ k
      → map (constant_of texts) (part_keys m ++ key ∷ [])
      ≡ Utf8 class ∷ Class class ∷ Utf8 name ∷ Utf8 descriptor ∷ NameAndType name descriptor ∷ k ∷ []
  member_told key k is = λ i. Utf8 (t.class.is i) ∷ Class (t.class.is i) ∷ Utf8 (t.name.is i) ∷ Utf8 (t.descriptor.is i)
      ∷ NameAndType (t.name.is i) (t.descriptor.is i) ∷ is i ∷ []

  pub field_told : constant_of texts (field_key m) ≡ Fieldref class name descriptor
  field_told = λ i. Fieldref (t.class.is i) (t.name.is i) (t.descriptor.is i)

  pub method_told : (b : Bool)
      → constant_of texts (method_key m b)
      ≡ cond b (InterfaceMethodref class name descriptor) (Methodref class name descriptor)
  method_told true = λ i. InterfaceMethodref (t.class.is i) (t.name.is i) (t.descriptor.is i)
  method_told false = λ i. Methodref (t.class.is i) (t.name.is i) (t.descriptor.is i)

  pub method_within : (b : Bool) → IsKeyIn (length texts) (method_key m b)
  method_within true = (t.class.within, t.name.within, t.descriptor.within)
  method_within false = (t.class.within, t.name.within, t.descriptor.within)

infos_told : (cs : List PoolConstant) (texts : List (List ℕ)) (keys : List Key)
    → flat_map (λ (k : Key). info_of cs (constant_of texts k)) keys ≡ flat_map (info_of cs) (constants_of texts keys)
infos_told cs texts [] = refl
infos_told cs texts (k ∷ ks) = ap (λ (x : List CpInfo). info_of cs (constant_of texts k) ++ x) (infos_told cs texts ks)

-- the items of a pool, by its keys
pub pool_told : (texts : List (List ℕ)) (keys : List Key)
    → (to_be_bytes w16 (length keys + 1) ++ flat_map cp_info
    (flat_map (λ (k : Key). info_of (constants_of texts keys) (constant_of texts k)) keys))
    ≡ (to_be_bytes w16 (length (constants_of texts keys) + 1) ++ flat_map cp_info (infos_of (constants_of texts keys)))
pool_told texts keys =
    let count : length keys ≡ length (constants_of texts keys) = sym (length-map keys (constant_of texts)) in
    λ i. to_be_bytes w16 (count i + 1) ++ flat_map cp_info (infos_told (constants_of texts keys) texts keys i)
