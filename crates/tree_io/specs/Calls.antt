-- Calls that are counted, of which those whose numbers are named fail
-- (the project's own: devices that fail can be tried).
use Rattle.std.specs.Prelude.{ℕ, Bool, List, nat_eq, if◌then◌else◌, refl}
use Rattle.std.specs.Coded.{Coded, code_by, coded×, coded_list, coded_ℕ}
use Rattle.std.specs.List.{list_any}
use Rattle.tree_io.specs.Count.{counted}

-- the numbers of the calls that fail, how many calls there were, and how many of them failed
pub record CallCounts : Type 0 where
  pub fails : List ℕ
  pub calls : ℕ
  pub faults : ℕ

-- the counts are stored as the tuple of their parts
abbrev pub counts_code : Coded CallCounts
counts_code =
    code_by (List ℕ × (ℕ × ℕ)) (coded× (coded_list coded_ℕ) (coded× coded_ℕ coded_ℕ))
    (λ c. (c.fails, (c.calls, c.faults))) (λ p. record { fails = p.0; calls = p.1.0; faults = p.1.1 }) (λ _. refl)

-- no call yet
abbrev pub no_call : List ℕ → CallCounts
no_call fails = record { fails = fails; calls = 0; faults = 0 }

-- whether the next call fails: its number is how many there were before
abbrev pub fails_next : CallCounts → Bool
fails_next c = list_any (λ n. nat_eq n c.calls) c.fails

-- after a call that didn't fail
abbrev pub passed : CallCounts → CallCounts
passed c = record { fails = c.fails; calls = counted c.calls; faults = c.faults }

-- after a call that failed
abbrev pub failed : CallCounts → CallCounts
failed c = record { fails = c.fails; calls = counted c.calls; faults = counted c.faults }

-- after a call that fails just where it is named
abbrev pub called : CallCounts → CallCounts
called c = if fails_next c then failed c else passed c
