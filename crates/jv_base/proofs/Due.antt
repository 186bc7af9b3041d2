-- What a call answers, where it is due.
use Rattle.std.proofs.Common.{◌≡◌, Result, Ok, Err, ◌∙◌, sym, IfOk}
use Rattle.jv_base.specs.Longest.{IfFault}
use Rattle.jv_base.specs.Outcome.{IsDue}
use Rattle.jv_base.specs.declared.outcome.Or.{Or}
use Rattle.jv_base.specs.declared.outcome.Or.TheVariants.{Fault, OutOfMemory}

pub due_found : {V X : Type 0} (P : V → Type 0) (r : Result V (Or X)) (due : Result V X) → ((x : V) → due ≡ Ok x → P x)
    → IsDue r due → IfOk r P
due_found P (Ok x) due law h = law x h
due_found P (Err e) due law h = tt

pub due_only : {V X : Type 0} (r : Result V (Or X)) (due : Result V X) (x : V) → due ≡ Ok x → IsDue r due
    → IsDue r (Ok x)
due_only (Ok y) due x is h = sym is ∙ h
due_only (Err (Fault f)) due x is h = sym is ∙ h
due_only (Err OutOfMemory) due x is h = tt

pub due_fault : {V X : Type 0} (Q : X → Type 0) (r : Result V (Or X)) (due : Result V X) → ((f : X) → due ≡ Err f → Q f)
    → IsDue r due → IfFault r Q
due_fault Q (Ok y) due law h = tt
due_fault Q (Err (Fault f)) due law h = law f h
due_fault Q (Err OutOfMemory) due law h = tt
