-- A pool that has the constants of instructions says them.
use Rattle.std.proofs.Common.{◌≡◌, ℕ, ◌+◌, ◌^◌, ◌<◌, ◌≤◌, Bool, true, false, cond, not, ◌||◌, List, [], ◌∷◌, ◌++◌}
use Rattle.std.proofs.Common.{length, map, Some, slice_get, refl, sym, ap, arith, one-add}
use Rattle.std.specs.List.{AllByRecursion, list_any, position_or_len}
use Rattle.std.proofs.lemmas.Bool.{or_left, or_right}
use Rattle.std.proofs.lemmas.List.Sums.{prefix_len-le-length}
use Rattle.indexmap.specs.IndexSet.{insert_key, insert_all}
use Rattle.jv_base.specs.Utf16.{units_of}
use Rattle.class_model.specs.declared.pool.Entry.{Entry}
use Rattle.class_model.specs.declared.constant.PoolConstant.{PoolConstant}
use Rattle.class_model.specs.declared.constant.PoolConstant.TheVariants.{Utf8, Integer, Long, SecondOfLong, Class, Str}
use Rattle.class_model.specs.declared.constant.PoolConstant.TheVariants.{NameAndType}
use Rattle.class_model.specs.declared.code.Ins.{Ins}
use Rattle.class_model.specs.declared.op.MemberRef.{MemberRef}
use Rattle.class_model.specs.declared.op.Op.{Op}
use Rattle.class_model.specs.declared.op.Op.TheVariants as op
use Rattle.class_model.specs.CanonicalPool.{same, index_of, filled, class_constants, string_constants, long_constants}
use Rattle.class_model.specs.CanonicalPool.{with_parts, type_name, fieldref, methodref}
use Rattle.class_model.specs.CanonicalCode.{op_constants, is_short, is_lconst}
use Rattle.class_model.specs.Says.{IsSaid, AreSaid}
use Rattle.class_model.specs.bodies.PoolEntries.{entry_of, entries_of, Has}
use Rattle.class_model.proofs.BackSame.{same_is, same_self}
use Rattle.class_model.proofs.BackMembers.{constant_by}

-- ---- where a constant is

place_by : (f : PoolConstant → Entry) (k x : PoolConstant) (pool : List PoolConstant) (b : Bool) → same k x ≡ b
    → (b || list_any (same k) pool) ≡ true
    → (Has pool k → slice_get (map f pool) (position_or_len (same k) pool) ≡ Some (f k))
    → slice_get (map f (x ∷ pool)) (cond (not b) (1 + position_or_len (same k) pool) 0) ≡ Some (f k)
place_by f k x pool true e h rest = ap (λ y. Some (f y)) (sym (same_is k x e))
place_by f k x pool false e h rest = rw one-add (rest h)

entry_at : (f : PoolConstant → Entry) (pool : List PoolConstant) (k : PoolConstant) → Has pool k
    → slice_get (map f pool) (position_or_len (same k) pool) ≡ Some (f k)
entry_at f [] k h = absurd cc
entry_at f (x ∷ pool) k h = place_by f k x pool (same k x) refl h (entry_at f pool k)

-- the entry at its index is the one that it is read as
pub at_index : (pool : List PoolConstant) (k : PoolConstant) → Has pool k
    → slice_get (entries_of pool) (index_of pool k) ≡ Some (entry_of pool k)
at_index pool k h = rw one-add (entry_at (entry_of pool) pool k h)

-- its index is one of the pool
pub index_fits : (pool : List PoolConstant) (k : PoolConstant) → length pool + 1 < 2 ^ 16 → index_of pool k < 2 ^ 16
index_fits pool k h = let g : position_or_len (same k) pool ≤ length pool = prefix_len-le-length _ pool in omega arith

-- ---- the constants of instructions

module _ (pool : List PoolConstant) (count : length pool + 1 < 2 ^ 16) where
  abbrev HasAll : List PoolConstant → Type 0
  HasAll ks = AllByRecursion (Has pool) ks

  abbrev SaysAll : List PoolConstant → Type 0
  SaysAll ks = AllByRecursion (IsSaid (entries_of pool) pool) ks

  text_said : (units : List ℕ) → Has pool (Utf8 units) → IsSaid (entries_of pool) pool (Utf8 units)
  text_said units h = (index_fits pool (Utf8 units) count, at_index pool (Utf8 units) h)

  class_said : (name : List ℕ) → Has pool (Utf8 name) → Has pool (Class name)
      → IsSaid (entries_of pool) pool (Class name)
  class_said name t h = (
    index_fits pool (Class name) count,
    (
      index_of pool (Utf8 name),
      at_index pool
          (Class name) h,
      at_index pool (Utf8 name) t,
    ),
  )

  names_said : (name descriptor : List ℕ) → Has pool (Utf8 name) → Has pool (Utf8 descriptor)
      → Has pool (NameAndType name descriptor) → IsSaid (entries_of pool) pool (NameAndType name descriptor)
  names_said name descriptor s t h = (
    index_fits pool (NameAndType name descriptor) count,
    (
      index_of pool (Utf8 name),
      index_of pool (Utf8 descriptor),
      at_index pool
          (NameAndType name descriptor) h,
      at_index pool (Utf8 name) s,
      at_index pool (Utf8 descriptor) t,
    ),
  )

  pub classes_said : (name : List ℕ) → HasAll (class_constants name) → SaysAll (class_constants name)
  classes_said name h = (text_said (units_of name) h.0, (class_said (units_of name) h.0 h.1.0, tt))

  strings_said : (units : List ℕ) → HasAll (string_constants units) → SaysAll (string_constants units)
  strings_said units h = (
    text_said units h.0,
    (
      (
        index_fits pool (Str units) count,
        (index_of pool (Utf8 units), at_index pool (Str units) h.1.0, at_index pool (Utf8 units) h.0),
      ),
      tt,
    ),
  )

  -- a reference of this kind behind its parts
  parts_said : (r : MemberRef) (k : PoolConstant)
      → (IsSaid (entries_of pool) pool (Class (units_of (type_name r.class)))
      → IsSaid (entries_of pool) pool (NameAndType (units_of r.name) (units_of r.ty)) → Has pool k
      → IsSaid (entries_of pool) pool k)
      → HasAll (with_parts r k) → SaysAll (with_parts r k)
  parts_said r k made h =
      let class = class_said (units_of (type_name r.class)) h.0 h.1.0 in
      let names = names_said (units_of r.name) (units_of r.ty) h.1.1.0 h.1.1.1.0 h.1.1.1.1.0 in (
        text_said (units_of (type_name r.class)) h.0,
        (
          class,
          (
            text_said (units_of r.name) h.1.1.0,
            (
              text_said (units_of r.ty) h.1.1.1.0,
              (names, (made class names h.1.1.1.1.1.0, tt)),
            ),
          ),
        ),
      )

  field_said : (r : MemberRef) → HasAll (with_parts r (fieldref r)) → SaysAll (with_parts r (fieldref r))
  field_said r h = parts_said r (fieldref r)
      (λ class names has. (
        index_fits pool (fieldref r) count,
        (_, _, at_index pool (fieldref r) has, class.1, names.1),
      )) h

  method_by : (b : Bool) (r : MemberRef) → HasAll (with_parts r (constant_by b r))
      → SaysAll (with_parts r (constant_by b r))
  method_by true r h = parts_said r (constant_by true r)
      (λ class names has. (
        index_fits pool (constant_by true r) count,
        (_, _, at_index pool (constant_by true r) has, class.1, names.1),
      )) h
  method_by false r h = parts_said r (constant_by false r)
      (λ class names has. (
        index_fits pool (constant_by false r) count,
        (_, _, at_index pool (constant_by false r) has, class.1, names.1),
      )) h

  method_said : (r : MemberRef) → HasAll (with_parts r (methodref r)) → SaysAll (with_parts r (methodref r))
  method_said r h = method_by r.of_interface r h

  int_by : (b : Bool) (n : _) → HasAll (cond b [] (Integer n ∷ [])) → SaysAll (cond b [] (Integer n ∷ []))
  int_by true n h = tt
  int_by false n h = ((index_fits pool (Integer n) count, at_index pool (Integer n) h.0), tt)

  long_by : (b : Bool) (n : _) → HasAll (cond b [] (long_constants n)) → SaysAll (cond b [] (long_constants n))
  long_by true n h = tt
  long_by false n h = (
    (index_fits pool (Long n) count, at_index pool (Long n) h.0),
    ((index_fits pool (SecondOfLong n) count, tt), tt),
  )

  op_said : (o : Op) → HasAll (op_constants o) → SaysAll (op_constants o)
  op_said (op.PushInt n) h = int_by (is_short n) n h
  op_said (op.PushLong n) h = long_by (is_lconst n) n h
  op_said (op.PushText units) h = strings_said units h
  op_said (op.GetStatic r) h = field_said r h
  op_said (op.PutStatic r) h = field_said r h
  op_said (op.GetField r) h = field_said r h
  op_said (op.PutField r) h = field_said r h
  op_said (op.InvokeVirtual r) h = method_said r h
  op_said (op.InvokeSpecial r) h = method_said r h
  op_said (op.InvokeStatic r) h = method_said r h
  op_said (op.InvokeInterface r) h = method_said r h
  op_said (op.New name) h = classes_said name h
  op_said (op.ANewArray ty) h = classes_said (type_name ty) h
  op_said (op.CheckCast ty) h = classes_said (type_name ty) h
  op_said (op.InstanceOf ty) h = classes_said (type_name ty) h
  op_said (op.MultiNewArray ty dimensions) h = classes_said (type_name ty) h
  op_said _ h = tt

  -- a pool with all constants that instructions name says them
  pub all_said : (ins : List Ins) → AllByRecursion (λ (i : Ins). AllByRecursion (Has pool) (op_constants i.op)) ins
      → AreSaid (entries_of pool) pool ins
  all_said [] h = tt
  all_said (i ∷ ins) h = (op_said i.op h.0, all_said ins h.1)

-- ---- a pool that was filled

front_by : (b : Bool) (k : PoolConstant) (ks js : List PoolConstant) → (b || list_any (same k) ks) ≡ true
    → (Has ks k → Has (ks ++ js) k) → (b || list_any (same k) (ks ++ js)) ≡ true
front_by true k ks js h rest = refl
front_by false k ks js h rest = rest h

-- a pool that grows keeps its constants
pub has_front : (k : PoolConstant) (ks js : List PoolConstant) → Has ks k → Has (ks ++ js) k
has_front k [] js h = absurd cc
has_front k (x ∷ ks) js h = front_by (same k x) k ks js h (has_front k ks js)

has_last : (k : PoolConstant) (ks : List PoolConstant) → Has (ks ++ k ∷ []) k
has_last k [] = or_left (same k k) _ (same_self k)
has_last k (x ∷ ks) = or_right (same k x) _ (has_last k ks)

kept_by : (b : Bool) (k j : PoolConstant) (ks : List PoolConstant) → Has ks k → Has (cond b ks (ks ++ j ∷ [])) k
kept_by true k j ks h = h
kept_by false k j ks h = has_front k ks (j ∷ []) h

kept : (wanted ks : List PoolConstant) (k : PoolConstant) → Has ks k → Has (insert_all same ks wanted) k
kept [] ks k h = h
kept (j ∷ wanted) ks k h = kept wanted (insert_key same ks j) k (kept_by (list_any (same j) ks) k j ks h)

put_by : (b : Bool) (k : PoolConstant) (ks : List PoolConstant) → list_any (same k) ks ≡ b
    → Has (cond b ks (ks ++ k ∷ [])) k
put_by true k ks h = h
put_by false k ks h = has_last k ks

-- each constant that is wanted is in it
wanted_have : (wanted ks : List PoolConstant) → AllByRecursion (Has (insert_all same ks wanted)) wanted
wanted_have [] ks = tt
wanted_have (k ∷ wanted) ks = (
  kept wanted (insert_key same ks k) k (put_by (list_any (same k) ks) k ks refl),
  wanted_have wanted
      (insert_key same ks k),
)

pub filled_has : (wanted : List PoolConstant) → AllByRecursion (Has (filled wanted)) wanted
unfolding filled
filled_has wanted = wanted_have wanted []
