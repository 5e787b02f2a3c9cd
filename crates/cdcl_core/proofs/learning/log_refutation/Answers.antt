use Rattle.std.proofs.Common.{◌≡◌, ◌∙◌, ℕ, ◌+◌, ◌<◌, ◌^◌, List, length, [], ◌∷◌, ◌++◌, reverse, refl, ap, subst}
use Rattle.proof_semantics.specs.declared.item.Item.TheVariants.{Add}
use Rattle.proof_semantics.specs.Clauses.{Clause}
use Rattle.proof_semantics.specs.Logs.{StepValue, LogItem}
use Rattle.cdcl_core.specs.Refuted.{IsRefuted}
use Rattle.cdcl_core.specs.StepLog.{LogValue}
use Rattle.cdcl_core.proofs.Searching.{has_ended, step_of}
use Rattle.cdcl_core.proofs.learning.log_refutation.Goals as goal

pub returns-clause-ended : goal.returns-clause-ended
returns-clause-ended c =
    let hints : List ℕ = reverse c.refute.new.learned.hints.items in
    let s : StepValue = record { id = c.count.result + 1; literals = c.clear.new.self.items; hints = hints } in
    let same : c.make_room.new.clauses.list ≡ c.args.search.now.clauses.list = c.make_room.ensures.clauses in
    has_ended c.args.search.now.clauses.list c.args.search.now.log.items c.hold.new.self.items hints s
    (subst (λ (cs : List Clause). IsRefuted cs hints) same c.refute.ensures)
    (step_of s (c.count.result + 1) (length c.args.search.now.clauses.list + 1) c.clear.new.self.items [] hints refl (ap (λ (n : ℕ). n + 1) (c.count.ensures.value ∙ ap length same))
    c.clear.ensures.items)
    (subst (λ (cs : List Clause). length cs < 2 ^ 59) same c.count.ensures.few)
    (ap (λ (l : LogValue). l.items) c.hold.ensures ∙ ap (λ (items : List LogItem). items ++ Add s ∷ []) c.pack.ensures.items)
