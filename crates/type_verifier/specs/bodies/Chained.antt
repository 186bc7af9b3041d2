-- Chains of the handlers that cover the same instruction as the first one (only the proof of the walk needs it).
use Rattle.std.specs.Prelude.{◌≡◌, ◌<◌, ◌≤◌, ◌+◌, ℕ, false, true, nat_eq, List, length, Option, None, get_or}
use Rattle.std.specs.Prelude.{slice_index_or, IfSome}
use Rattle.std.specs.Option.{is_some, option_map_or}
use Rattle.class_model.specs.declared.code.Handler.{Handler}
use Rattle.type_verifier.specs.declared.chain.Chain.{Chain}
use Rattle.type_verifier.specs.declared.frame.TypeFrame.{TypeFrame}
use Rattle.type_verifier.specs.Environment.{Environment}
use Rattle.type_verifier.specs.bodies.Asked.{no_handler, satisfies_if_first}
use Rattle.type_verifier.specs.bodies.Marking.{is_first_covered}

-- the first instruction that the handler of a number covers
abbrev pub from_of : List Handler → ℕ → ℕ
from_of handlers n = (get_or handlers n no_handler).from

-- how many handlers stand before the one of a number, or how many there are
abbrev pub count_before : List Handler → Option ℕ → ℕ
count_before handlers number = option_map_or (λ n. n) number (length handlers)

-- it is the number of a handler that covers the instruction as the first one, if there is one
abbrev pub IsCovering : List Handler → ℕ → Option ℕ → Type 0
IsCovering handlers at number = IfSome number (λ n. (n < length handlers) × (from_of handlers n ≡ at))

-- it is the number of the first such handler from one on
pub record IsFirstFrom (handlers : List Handler) (from at : ℕ) (number : Option ℕ) : Type 0 where
  pub least : from ≤ count_before handlers number
  pub none : (n : ℕ) → from ≤ n → n < count_before handlers number → nat_eq at (from_of handlers n) ≡ false
  pub covering : IsCovering handlers at number

-- of the handlers from one on, each instruction has the first that covers it as the first one, and each of them the
-- next
pub record IsChainFrom (handlers : List Handler) (from count : ℕ) (firsts nexts : List (Option ℕ)) : Type 0 where
  pub long : length firsts ≡ count
  pub numbers : length nexts ≡ length handlers
  pub first : (at : ℕ) → at < count → IsFirstFrom handlers from at (slice_index_or firsts at None)
  pub next : (n : ℕ) → from ≤ n → n < length handlers → from_of handlers n < count
      → IsFirstFrom handlers (n + 1) (from_of handlers n) (slice_index_or nexts n None)

-- the same of all handlers: an instruction has one where some handler covers it as the first one
pub record IsChain (handlers : List Handler) (count : ℕ) (chain : Chain) : Type 0 where
  pub chained : IsChainFrom handlers 0 count chain.first.items chain.next.items
  pub marked : (at : ℕ) → at < count → is_some (slice_index_or chain.first.items at None) ≡ is_first_covered handlers at

-- a frame satisfies each handler before the one of a number, if that covers the instruction as the first one
pub record IsSatisfiedBefore (env : Environment) (at : ℕ) (f : TypeFrame) (number : Option ℕ) : Type 0 where
  pub covering : IsCovering env.code.handlers at number
  pub each : (n : ℕ) → n < count_before env.code.handlers number
      → satisfies_if_first env at f (get_or env.code.handlers n no_handler) ≡ true
