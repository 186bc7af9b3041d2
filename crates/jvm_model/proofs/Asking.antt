-- What an instruction asks under new names.
use Rattle.std.proofs.Common.{ℕ, List, [], Option, Some, None, Bool, true, false, ◌≡◌, refl, sym, ap, subst}
use Rattle.std.specs.Prelude.{ℤ, pos, option_map, if◌then◌else◌}
use Rattle.std.specs.Int.{int_wrapping_div}
use Rattle.std.specs.Option.{option_and_then}
use Rattle.std.specs.Ordering.{int_eq}
use Rattle.std.specs.Prelude.{int_rem}
use Rattle.class_model.specs.declared.op.ArithOp.{ArithOp}
use Rattle.class_model.specs.declared.op.ArithOp.TheVariants as arith
use Rattle.class_model.specs.declared.op.ConvOp.{ConvOp}
use Rattle.class_model.specs.declared.op.ConvOp.TheVariants as conv
use Rattle.class_model.specs.declared.op.Kind.{Kind}
use Rattle.class_model.specs.declared.op.Kind.TheVariants as kind
use Rattle.class_model.specs.declared.op.MemberRef.{MemberRef}
use Rattle.class_model.specs.declared.op.Num.{Num}
use Rattle.class_model.specs.declared.op.Op.{Op}
use Rattle.class_model.specs.declared.op.Op.TheVariants as op
use Rattle.jvm_model.specs.Exceptions.{Arithmetic}
use Rattle.jvm_model.specs.Instructions.{Request, Known, Raise, GetStatic, PutStatic, GetField, PutField, CallStatic}
use Rattle.jvm_model.specs.Instructions.{CallSpecial, CallVirtual, CallInterface, New, NewArray, NewArrays, ArrayLength}
use Rattle.jvm_model.specs.Instructions.{GetAt, PutAt, Cast, Test, Sort, OnStack, Loads, Stores, Incs, Jumps, Asks}
use Rattle.jvm_model.specs.Instructions.{Leaves}
use Rattle.jvm_model.specs.Instructions.{Throws, arithmetic, as_field, conversion, divides, sort_of, taking}
use Rattle.jvm_model.specs.Instructions.{with_receiver}
use Rattle.jvm_model.specs.Local.{Local, Moves, Wants, Ends, Tosses, Stuck, after_ask, after_inc, after_jump}
use Rattle.jvm_model.specs.Local.{after_leave}
use Rattle.jvm_model.specs.Local.{after_load, after_stack, after_store, after_throw, by_sort}
use Rattle.jvm_model.specs.Mapped.{Mapping, ShapeMap, op_map}
use Rattle.jvm_model.specs.Numbers.{as_number, number, width_of}
use Rattle.jvm_model.specs.Program.{Shape}
use Rattle.jvm_model.specs.Same.{base_name, type_name}
use Rattle.jvm_model.specs.Stack.{◌>>=◌, Reader, counts_above, many, one, three, top, two}
use Rattle.jvm_model.specs.State.{Body}
use Rattle.jvm_model.specs.Types.{field_kind, kind_of_elem}
use Rattle.jvm_model.specs.Value.{Value, as_int, as_kind}
use Rattle.jvm_model.proofs.Compose.{mapped_some}

-- a request under the new names
abbrev pub request_map : Mapping → List ℕ → Request → Option Request
request_map m from (GetStatic r) = option_map GetStatic (m.field_ref r)
request_map m from (PutStatic r v) = option_map (λ s. PutStatic s v) (m.field_ref r)
request_map m from (GetField r v) = option_map (λ s. GetField s v) (m.field_ref r)
request_map m from (PutField r v x) = option_map (λ s. PutField s v x) (m.field_ref r)
request_map m from (CallStatic r args) = option_map (λ s. CallStatic s args) (m.method_ref r)
request_map m from (CallSpecial r args) = option_map (λ s. CallSpecial s args) (m.special_ref from r)
request_map m from (CallVirtual r args) = option_map (λ s. CallVirtual s args) (m.method_ref r)
request_map m from (CallInterface r args) = option_map (λ s. CallInterface s args) (m.method_ref r)
request_map m from (New c) = option_map New (m.names.class c)
request_map m from (NewArray ty n) = option_map (λ u. NewArray u n) (type_name m.names ty)
request_map m from (NewArrays ty ns) = option_map (λ u. NewArrays u ns) (type_name m.names ty)
request_map m from (Cast ty v) = option_map (λ u. Cast u v) (type_name m.names ty)
request_map m from (Test ty v) = option_map (λ u. Test u v) (type_name m.names ty)
request_map m from r = Some r

module _ (m : Mapping) (from : List ℕ) where
  abbrev pub AskMap : Option (Request × List Value) → Option (Request × List Value) → Type 0
  AskMap None b = Unit {0}
  AskMap (Some p) b = (r : Request) × (b ≡ Some (r, p.1)) × (request_map m from p.0 ≡ Some r)

  -- the same but for what is asked, and there the same asked
  abbrev pub SortMap : Sort → Sort → Type 0
  SortMap (OnStack g) t = t ≡ OnStack g
  SortMap (Loads k x) t = t ≡ Loads k x
  SortMap (Stores k x) t = t ≡ Stores k x
  SortMap (Incs x d) t = t ≡ Incs x d
  SortMap (Jumps g) t = t ≡ Jumps g
  SortMap (Asks g) t = (h : Reader Request) × (t ≡ Asks h) × ((s : List Value) → AskMap (g s) (h s))
  SortMap (Leaves g) t = t ≡ Leaves g
  SortMap Throws t = t ≡ Throws

  abbrev pub Alike : Request → Request → Type 0
  Alike r s = request_map m from r ≡ Some s

  -- what is asked of values that were read
  read_map : {A : Type 0} (f g : A → Request) → ((a : A) → Alike (f a) (g a)) → (o : Option (A × List Value))
      → AskMap (o >>= (λ p. Some (f p.0, p.1))) (o >>= (λ p. Some (g p.0, p.1)))
  read_map f g h None = tt
  read_map f g h (Some p) = (g p.0, refl, h p.0)

  one_map : {A : Type 0} (read : Value → Option A) (f g : A → Request) → ((a : A) → Alike (f a) (g a))
      → (s : List Value)
      → AskMap (one read f s) (one read g s)
  one_map read f g h s = read_map f g h (top read s)

  two_map : {A B : Type 0} (read1 : Value → Option A) (read2 : Value → Option B) (f g : A → B → Request)
      → ((a : A) (b : B) → Alike (f a b) (g a b)) → (s : List Value)
      → AskMap (two read1 read2 f s) (two read1 read2 g s)
  two_map read1 read2 f g h s = by (top read2 s)
    where
      by : (o : Option (_ × List Value))
          → AskMap (o >>= (λ q. top read1 q.1 >>= (λ p. Some (f p.0 q.0, p.1))))
          (o >>= (λ q. top read1 q.1 >>= (λ p. Some (g p.0 q.0, p.1))))
      by None = tt
      by (Some q) = read_map (λ a. f a q.0) (λ a. g a q.0) (λ a. h a q.0) (top read1 q.1)

  three_map : {A B C : Type 0} (read1 : Value → Option A) (read2 : Value → Option B) (read3 : Value → Option C)
      (f g : A → B → C → Request) → ((a : A) (b : B) (c : C) → Alike (f a b c) (g a b c)) → (s : List Value)
      → AskMap (three read1 read2 read3 f s) (three read1 read2 read3 g s)
  three_map read1 read2 read3 f g h s = by (top read3 s)
    where
      by : (o : Option (_ × List Value))
          → AskMap (o >>= (λ r. top read2 r.1 >>= (λ q. top read1 q.1 >>= (λ p. Some (f p.0 q.0 r.0, p.1)))))
          (o >>= (λ r. top read2 r.1 >>= (λ q. top read1 q.1 >>= (λ p. Some (g p.0 q.0 r.0, p.1)))))
      by None = tt
      by (Some r) = two_map read1 read2 (λ a b. f a b r.0) (λ a b. g a b r.0) (λ a b. h a b r.0) r.1

  taking_map : (o : Option (List Kind)) (f g : List Value → Request) → ((a : List Value) → Alike (f a) (g a))
      → (s : List Value) → AskMap (taking o f s) (taking o g s)
  taking_map None f g h s = tt
  taking_map (Some ks) f g h s = read_map f g h (many ks s)

  same_op : (o o' : Op) → Some o ≡ Some o' → SortMap (sort_of o) (sort_of o) → SortMap (sort_of o) (sort_of o')
  same_op o o' e h = let e' : o ≡ o' = cc in subst (λ z. SortMap (sort_of o) (sort_of z)) e' h

  divided_map : (n : Num) (f : ℤ → ℤ → ℤ) (a b : ℤ) (zero : Bool)
      → Alike (if zero then Raise Arithmetic else Known (number n (f a b)))
      (if zero then Raise Arithmetic else Known (number n (f a b)))
  divided_map n f a b true = refl
  divided_map n f a b false = refl

  divides_map : (n : Num) (f : ℤ → ℤ → ℤ) → SortMap (divides n f) (divides n f)
  divides_map n f = (_, refl, two_map (as_number n) (as_number n) _ _ (λ a b. divided_map n f a b (int_eq b (pos 0))))

  arithmetic_map : (o : ArithOp) (n : Num) → SortMap (arithmetic o n) (arithmetic o n)
  arithmetic_map arith.Add n = refl
  arithmetic_map arith.Sub n = refl
  arithmetic_map arith.Mul n = refl
  arithmetic_map arith.Div n = divides_map n (int_wrapping_div (width_of n))
  arithmetic_map arith.Rem n = divides_map n int_rem

  conversion_map : (o : ConvOp) → SortMap (conversion o) (conversion o)
  conversion_map conv.I2l = refl
  conversion_map conv.L2i = refl
  conversion_map conv.I2b = refl
  conversion_map conv.I2c = refl
  conversion_map conv.I2s = refl

  -- an instruction with a name in it
  via : {A : Type 0} (o : Op) (x : Option A) (f : A → Op) (o' : Op) → option_map f x ≡ Some o'
      → ((y : A) → x ≡ Some y → SortMap (sort_of o) (sort_of (f y))) → SortMap (sort_of o) (sort_of o')
  via o x f o' e h = let y = mapped_some f x o' e in subst (λ z. SortMap (sort_of o) (sort_of z)) (sym y.2) (h y.0 y.1)

  field_same : (r s : MemberRef) → field_kind s.ty ≡ field_kind r.ty → as_field s ≡ as_field r
  field_same r s e = λ i v. option_and_then (λ k. as_kind k v) (e i)

  module _ (p q : Shape) (is : ShapeMap m p q) where
    -- the same operands are read by both references
    put_static_map : (r s : MemberRef) → m.field_ref r ≡ Some s
        → SortMap (sort_of (op.PutStatic r)) (sort_of (op.PutStatic s))
    put_static_map r s h =
        subst (λ f. SortMap (sort_of (op.PutStatic r)) (Asks (one f (PutStatic s))))
        (sym (field_same r s (is.field_kind r s h)))
        (_, refl, one_map (as_field r) (PutStatic r) (PutStatic s) (λ v. ap (option_map (λ z. PutStatic z v)) h))

    put_field_map : (r s : MemberRef) → m.field_ref r ≡ Some s
        → SortMap (sort_of (op.PutField r)) (sort_of (op.PutField s))
    put_field_map r s h =
        subst (λ f. SortMap (sort_of (op.PutField r)) (Asks (two (as_kind kind.Ref) f (PutField s))))
        (sym (field_same r s (is.field_kind r s h))) (
          _,
          refl,
          two_map (as_kind kind.Ref) (as_field r) (PutField r) (PutField s)
              (λ v x. ap (option_map (λ z. PutField z v x)) h),
        )

    call_map : (o o' : Option (List Kind)) → o' ≡ o → (f g : List Value → Request)
        → ((a : List Value) → Alike (f a) (g a)) → SortMap (Asks (taking o f)) (Asks (taking o' g))
    call_map o o' e f g h =
        subst (λ x. SortMap (Asks (taking o f)) (Asks (taking x g))) (sym e) (_, refl, taking_map o f g h)

    pub sort_map : (o o' : Op) → op_map m from o ≡ Some o' → SortMap (sort_of o) (sort_of o')
    sort_map (op.GetStatic r) o' e = via (op.GetStatic r) (m.field_ref r) op.GetStatic o' e
        (λ s h. (_, refl, λ st. (GetStatic s, refl, ap (option_map GetStatic) h)))
    sort_map (op.PutStatic r) o' e = via (op.PutStatic r) (m.field_ref r) op.PutStatic o' e (put_static_map r)
    sort_map (op.GetField r) o' e = via (op.GetField r) (m.field_ref r) op.GetField o' e
        (λ s h. (
          _,
          refl,
          one_map (as_kind kind.Ref) (GetField r) (GetField s)
              (λ v. ap (option_map (λ z. GetField z v)) h),
        ))
    sort_map (op.PutField r) o' e = via (op.PutField r) (m.field_ref r) op.PutField o' e (put_field_map r)
    sort_map (op.InvokeVirtual r) o' e = via (op.InvokeVirtual r) (m.method_ref r) op.InvokeVirtual o' e
        (λ s h. call_map _ _ (ap with_receiver (is.method_kinds r s h)) (CallVirtual r) (CallVirtual s)
        (λ args. ap (option_map (λ z. CallVirtual z args)) h))
    sort_map (op.InvokeSpecial r) o' e = via (op.InvokeSpecial r) (m.special_ref from r) op.InvokeSpecial o' e
        (λ s h. call_map _ _ (ap with_receiver (is.special_kinds from r s h)) (CallSpecial r) (CallSpecial s)
        (λ args. ap (option_map (λ z. CallSpecial z args)) h))
    sort_map (op.InvokeStatic r) o' e = via (op.InvokeStatic r) (m.method_ref r) op.InvokeStatic o' e
        (λ s h. call_map _ _ (is.method_kinds r s h) (CallStatic r) (CallStatic s)
        (λ args. ap (option_map (λ z. CallStatic z args)) h))
    sort_map (op.InvokeInterface r) o' e = via (op.InvokeInterface r) (m.method_ref r) op.InvokeInterface o' e
        (λ s h. call_map _ _ (ap with_receiver (is.method_kinds r s h)) (CallInterface r) (CallInterface s)
        (λ args. ap (option_map (λ z. CallInterface z args)) h))
    sort_map (op.New c) o' e = via (op.New c) (m.names.class c) op.New o' e
        (λ d h. (_, refl, λ st. (New d, refl, ap (option_map New) h)))
    sort_map (op.NewArray b) o' e = via (op.NewArray b) (base_name m.names b) op.NewArray o' e
        (λ c h. (
          _,
          refl,
          one_map as_int _ _ (λ n. ap
              (λ z. option_map (λ u. NewArray u n) (option_map (λ x. record { dims = 0; base = x }) z)) h),
        ))
    sort_map (op.ANewArray ty) o' e = via (op.ANewArray ty) (type_name m.names ty) op.ANewArray o' e
        (λ u h. (_, refl, one_map as_int (NewArray ty) (NewArray u) (λ n. ap (option_map (λ z. NewArray z n)) h)))
    sort_map (op.CheckCast ty) o' e = via (op.CheckCast ty) (type_name m.names ty) op.CheckCast o' e
        (λ u h. (_, refl, one_map (as_kind kind.Ref) (Cast ty) (Cast u) (λ v. ap (option_map (λ z. Cast z v)) h)))
    sort_map (op.InstanceOf ty) o' e = via (op.InstanceOf ty) (type_name m.names ty) op.InstanceOf o' e
        (λ u h. (_, refl, one_map (as_kind kind.Ref) (Test ty) (Test u) (λ v. ap (option_map (λ z. Test z v)) h)))
    sort_map (op.MultiNewArray ty n) o' e =
        via (op.MultiNewArray ty n) (type_name m.names ty) (λ u. op.MultiNewArray u n) o' e
        (λ u h. (
          _,
          refl,
          λ st. read_map (NewArrays ty) (NewArrays u) (λ ns. ap (option_map (λ z. NewArrays z ns)) h)
              (counts_above n [] st),
        ))
    sort_map (op.Arith o n) o' e = same_op (op.Arith o n) o' e (arithmetic_map o n)
    sort_map op.ArrayLength o' e = same_op op.ArrayLength o' e
        (_, refl, one_map (as_kind kind.Ref) ArrayLength ArrayLength (λ v. refl))
    sort_map (op.ALoad k) o' e = same_op (op.ALoad k) o' e
        (_, refl, two_map (as_kind kind.Ref) as_int (GetAt k) (GetAt k) (λ v i. refl))
    sort_map (op.AStore k) o' e = same_op (op.AStore k) o' e
        (_, refl, three_map (as_kind kind.Ref) as_int (as_kind (kind_of_elem k)) (PutAt k) (PutAt k) (λ v i x. refl))
    sort_map op.Nop o' e = same_op op.Nop o' e refl
    sort_map op.PushNull o' e = same_op op.PushNull o' e refl
    sort_map (op.PushInt n) o' e = same_op (op.PushInt n) o' e refl
    sort_map (op.PushLong n) o' e = same_op (op.PushLong n) o' e refl
    sort_map (op.PushText t) o' e = same_op (op.PushText t) o' e refl
    sort_map (op.Load k x) o' e = same_op (op.Load k x) o' e refl
    sort_map (op.Store k x) o' e = same_op (op.Store k x) o' e refl
    sort_map (op.Inc x d) o' e = same_op (op.Inc x d) o' e refl
    sort_map op.Pop o' e = same_op op.Pop o' e refl
    sort_map op.Pop2 o' e = same_op op.Pop2 o' e refl
    sort_map op.Dup o' e = same_op op.Dup o' e refl
    sort_map op.DupX1 o' e = same_op op.DupX1 o' e refl
    sort_map op.DupX2 o' e = same_op op.DupX2 o' e refl
    sort_map op.Dup2 o' e = same_op op.Dup2 o' e refl
    sort_map op.Dup2X1 o' e = same_op op.Dup2X1 o' e refl
    sort_map op.Dup2X2 o' e = same_op op.Dup2X2 o' e refl
    sort_map op.Swap o' e = same_op op.Swap o' e refl
    sort_map (op.Neg n) o' e = same_op (op.Neg n) o' e refl
    sort_map (op.Shift o n) o' e = same_op (op.Shift o n) o' e refl
    sort_map (op.Logic o n) o' e = same_op (op.Logic o n) o' e refl
    sort_map (op.Conv o) o' e = same_op (op.Conv o) o' e (conversion_map o)
    sort_map op.LCmp o' e = same_op op.LCmp o' e refl
    sort_map (op.IfZero c to) o' e = same_op (op.IfZero c to) o' e refl
    sort_map (op.IfCmp c to) o' e = same_op (op.IfCmp c to) o' e refl
    sort_map (op.IfRef eq to) o' e = same_op (op.IfRef eq to) o' e refl
    sort_map (op.IfNull null to) o' e = same_op (op.IfNull null to) o' e refl
    sort_map (op.Goto to) o' e = same_op (op.Goto to) o' e refl
    sort_map (op.TableSwitch low other cases) o' e = same_op (op.TableSwitch low other cases) o' e refl
    sort_map (op.LookupSwitch other cases) o' e = same_op (op.LookupSwitch other cases) o' e refl
    sort_map (op.Return None) o' e = same_op (op.Return None) o' e refl
    sort_map (op.Return (Some k)) o' e = same_op (op.Return (Some k)) o' e refl
    sort_map op.Throw o' e = same_op op.Throw o' e refl

  -- ---- what a frame does

  abbrev pub LocalMap : Local → Local → Type 0
  LocalMap (Moves g) l = l ≡ Moves g
  LocalMap (Wants r s) l = (r' : Request) × (l ≡ Wants r' s) × Alike r r'
  LocalMap (Ends o) l = l ≡ Ends o
  LocalMap (Tosses v) l = l ≡ Tosses v
  LocalMap Stuck l = Unit {0}

  asked : (a b : Option (Request × List Value)) → AskMap a b → LocalMap (after_ask a) (after_ask b)
  asked None b h = tt
  asked (Some p) b h = subst (λ z. LocalMap (Wants p.0 p.1) (after_ask z)) (sym h.1) (h.0, refl, h.2)

  stack_local : (b : Body) (o : Option (List Value)) → LocalMap (after_stack b o) (after_stack b o)
  stack_local b None = tt
  stack_local b (Some s) = refl

  load_local : (b : Body) (o : Option Value) → LocalMap (after_load b o) (after_load b o)
  load_local b None = tt
  load_local b (Some s) = refl

  store_local : (b : Body) (x : ℕ) (o : Option (Value × List Value)) → LocalMap (after_store b x o) (after_store b x o)
  store_local b x None = tt
  store_local b x (Some s) = refl

  inc_local : (b : Body) (x : ℕ) (z : ℤ) (o : Option ℤ) → LocalMap (after_inc b x z o) (after_inc b x z o)
  inc_local b x z None = tt
  inc_local b x z (Some s) = refl

  jump_local : (b : Body) (o : Option (Option ℕ × List Value)) → LocalMap (after_jump b o) (after_jump b o)
  jump_local b None = tt
  jump_local b (Some s) = refl

  leave_local : (o : Option (Option Value × List Value)) → LocalMap (after_leave o) (after_leave o)
  leave_local None = tt
  leave_local (Some s) = refl

  throw_local : (o : Option (Value × List Value)) → LocalMap (after_throw o) (after_throw o)
  throw_local None = tt
  throw_local (Some s) = refl

  pub local_map : (b : Body) (s t : Sort) → SortMap s t → LocalMap (by_sort b s) (by_sort b t)
  local_map b (Asks g) t h = subst (λ z. LocalMap (after_ask (g b.stack)) (by_sort b z)) (sym h.1)
      (asked _ _ (h.2 b.stack))
  local_map b (OnStack f) t h = subst (λ z. LocalMap (by_sort b (OnStack f)) (by_sort b z)) (sym h)
      (stack_local b (f b.stack))
  local_map b (Loads k x) t h = subst (λ z. LocalMap (by_sort b (Loads k x)) (by_sort b z)) (sym h) (load_local b _)
  local_map b (Stores k x) t h = subst (λ z. LocalMap (by_sort b (Stores k x)) (by_sort b z)) (sym h)
      (store_local b x _)
  local_map b (Incs x d) t h = subst (λ z. LocalMap (by_sort b (Incs x d)) (by_sort b z)) (sym h) (inc_local b x d _)
  local_map b (Jumps g) t h = subst (λ z. LocalMap (by_sort b (Jumps g)) (by_sort b z)) (sym h)
      (jump_local b (g b.stack))
  local_map b (Leaves g) t h = subst (λ z. LocalMap (by_sort b (Leaves g)) (by_sort b z)) (sym h)
      (leave_local (g b.stack))
  local_map b Throws t h = subst (λ z. LocalMap (by_sort b Throws) (by_sort b z)) (sym h) (throw_local _)
