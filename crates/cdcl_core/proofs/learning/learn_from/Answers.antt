use Rattle.std.proofs.Common.{◌≡◌, ◌∙◌, ℕ, ◌+◌, ◌<◌, ◌^◌, List, length, [], ◌∷◌, ◌++◌, reverse, refl, ap, subst}
use Rattle.proof_semantics.specs.declared.item.Item.TheVariants.{Add}
use Rattle.proof_semantics.specs.Clauses.{Clause}
use Rattle.proof_semantics.specs.Logs.{StepValue, LogItem}
use Rattle.cdcl_core.specs.Placed.{last_start}
use Rattle.cdcl_core.specs.Analysed.{IsAnalysed}
use Rattle.cdcl_core.specs.StepLog.{LogValue}
use Rattle.cdcl_core.specs.declared.analysis.Learned.{Learned}
use Rattle.cdcl_core.proofs.Searching.{step_of, has_learned}
use Rattle.cdcl_core.proofs.learning.learn_from.Goals as goal

pub returns-clause-logged : goal.returns-clause-logged
returns-clause-logged c =
    let r : Learned = c.learn.new.learned in
    let s : StepValue = record { id = c.count-id.result + 1; literals = r.clause.items; hints = reverse r.hints.items } in
    let same : c.make_room.new.clauses.list ≡ c.args.search.now.clauses.list = c.make_room.ensures.clauses in
    has_learned c.args.search.now _ (last_start c.args.search.now.trail) r s
    (subst (λ (cs : List Clause). IsAnalysed cs c.args.search.now.trail (last_start c.args.search.now.trail) r) same c.learn.ensures.analysed)
    (step_of s (c.count-id.result + 1) (length c.args.search.now.clauses.list + 1) r.clause.items r.clause.items (reverse r.hints.items) refl
    (ap (λ (n : ℕ). n + 1) (c.count-id.ensures.value ∙ ap length same)) refl)
    (subst (λ (cs : List Clause). length cs < 2 ^ 59) same c.count-id.ensures.few)
    (ap (λ (l : LogValue). l.items) c.hold.ensures ∙ ap (λ (items : List LogItem). items ++ Add s ∷ []) c.pack.ensures.items)
    (c.in_ok-jump.ensures.added ∙ ap (λ (C : Clause). c.make_room.new.clauses.list ++ C ∷ []) c.deref-2.ensures.value ∙ ap (λ (cs : List Clause). cs ++ r.clause.items ∷ []) same)
