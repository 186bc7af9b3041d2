-- How long tables are.
use Rattle.std.proofs.Common.{ℕ, ◌<◌, List, Bool, Option, ◌≡◌, sym, ap, ◌∙◌, subst}
use Rattle.std.specs.Prelude.{length}
use Rattle.class_model.specs.declared.code.Code.{Code}
use Rattle.class_model.specs.declared.code.Ins.{Ins}
use Rattle.code_edit.specs.declared.act.Act.{Act}
use Rattle.const_tables.specs.Folding.{is_unfolded, unfolded}
use Rattle.edit_tables.specs.Swept.{swept_of}
use Rattle.edit_tables.specs.Unskipped.{is_unskipped, unskipped}
use Rattle.edit_tables.proofs.Staying.{from_long}
use Rattle.edit_tables.proofs.Sweeping.{swept_long}

pub left_long : (acts : List Act) (count : ℕ) (left : List Bool) → left ≡ swept_of acts count
    → length left ≡ count
left_long acts count left e = ap (λ (xs : List Bool). length xs) e ∙ swept_long acts count

pub unskipped_few : (skips lives : List Bool) (code : Code) (n : ℕ) → lives ≡ unskipped skips code
    → length code.ins < n → length lives < n
unskipped_few skips lives code n e lt =
    subst (λ m. m < n)
    (sym (ap (λ (xs : List Bool). length xs) e ∙ from_long (is_unskipped skips) 0 code.ins)) lt

pub unfolded_few : (folds : List (Option ℕ)) (lives : List Bool) (code : Code) (n : ℕ)
    → lives ≡ unfolded folds code → length code.ins < n → length lives < n
unfolded_few folds lives code n e lt =
    subst (λ m. m < n)
    (sym (ap (λ (xs : List Bool). length xs) e
    ∙ from_long (λ at (i : Ins). is_unfolded folds code at) 0 code.ins)) lt
