-- Answers of `each_once`: what its calls ask for, and what it promises.
use Rattle.std.proofs.Common.{◌≡◌, ◌∷◌, ◌++◌, [], ℕ, List, sym, ap, ◌∙◌}
use Rattle.indexmap.specs.IndexSet.{insert_key}
use Rattle.jv_base.specs.Names.{is_text}
use Rattle.retrace_core.proofs.EachOnce.{key_put, key_there, once_more}
use Rattle.retrace_core.proofs.candidates.each_once.Goals.{then-branch+in_ok-clone-2+in_ok-push, else-branch}
use Rattle.retrace_core.proofs.candidates.each_once.Goals as goal

pub loop-method-preserved : goal.loop-method-preserved
loop-method-preserved c =
    let m = c.method-item.result in
    let inv = c.loop-method.invariant in
    let seen : List (List ℕ) = c.loop-method.seen in
    let key : List ℕ = c.in_ok-clone.field-0 in
    let put : c.insert.new.self ≡ insert_key is_text seen key = c.in_ok-insert.ensures.keys in
    let same : key ≡ m.now.old = c.in_ok-clone.ensures.cases in (
      put ∙ ap (insert_key is_text seen) same ∙ ap (λ (s : List (List ℕ)). insert_key is_text s m.now.old) inv.0
          ∙ sym (once_more c.args.methods.now c.loop-method.method-index m c.loop-method-test.true (sym c.method-item.is)),
      elim c.if-branch.branch [
        | then-branch+in_ok-clone-2+in_ok-push w ↦
            w.names-is ∙ w.in_ok-push.ensures
            ∙ (λ i. inv.1 i ++ (w.in_ok-clone-2.ensures.cases ∙ sym same) i ∷ [])
            ∙ sym (key_put seen key (sym w.if-branch.true ∙ c.in_ok-insert.ensures.is_new)) ∙ sym put
        | else-branch w ↦
            w.names-is ∙ inv.1 ∙ sym (key_there seen key (sym w.if-branch.false ∙ c.in_ok-insert.ensures.is_new))
            ∙ sym put
      ],
    )
