-- Edits that a witness tells of, computed.
use Rattle.std.proofs.Common.{◌≡◌, refl, arith, inl, inr, None, Some}
use Rattle.jv_base.specs.External.{external_text, word_text}
use Rattle.jv_base.specs.Types.{base_text, field_text, method_text, result_text}
use Rattle.class_model.specs.declared.code.Code.{Code}
use Rattle.code_edit.specs.Legal.{AreLegal}
use Rattle.code_edit.specs.Reach.{first}
use Rattle.code_edit.specs.declared.act.Act.TheVariants as act
use Rattle.code_edit.specs.declared.act.Pass.TheVariants as passes
use Rattle.std.specs.Prelude.{[], ◌∷◌}
use Rattle.pair_edits.specs.Edits.{EditIllegal, stray_fault}
use Rattle.pair_rows.specs.Examples.{dropped, input, mapping, unedited}
use Rattle.pair_rows.proofs.Required.{method_g}

-- no code is edited
pub nothing_edited : EditIllegal unedited input None
nothing_edited = ((tt, refl), ((tt, (tt, refl)), refl))

-- g is kept, and its entry has all steps
pub g_kept : None ≡ stray_fault mapping input dropped
unfolding field_text base_text method_text result_text
g_kept = refl

-- control begins at the first instruction of any code
no_first_drop : (code : Code) → AreLegal passes.Reach (act.Drop 0 0 ∷ []) code → ⊥
no_first_drop code legal = (legal 0 (act.Drop 0 0) refl).0.2 0 (omega arith) (omega arith) (first refl)

-- so the drop of it isn't legal
pub g_dropped : EditIllegal dropped input (Some method_g)
unfolding field_text base_text method_text result_text word_text external_text
g_dropped = inr ((tt, refl), inl (inl ((λ legal. no_first_drop _ legal.0), refl)))
