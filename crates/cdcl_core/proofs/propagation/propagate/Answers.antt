use Rattle.std.specs.Prelude.{neg_ℤ}
use Rattle.std.proofs.Common.{◌∙◌, ap, sym, arith}
use Rattle.std.proofs.Math.IntN.{neg_ℤ-neg_ℤ}
use Rattle.cdcl_core.specs.Trail.{literal_at}
use Rattle.cdcl_core.proofs.Propagating.{extended_trans}
use Rattle.cdcl_core.proofs.WatchSteps.{handling_start}
use Rattle.cdcl_core.proofs.Watching.{watching_done}
use Rattle.cdcl_core.proofs.propagation.propagate.Goals as goal

pub handle-requires-clause-handling : goal.handle-requires-clause-handling
handle-requires-clause-handling c =
    handling_start c.args.clauses.now.list c.entries.trail c.entries.watches c.negated-x.result c.entries.invariant.watching (omega arith)
    (ap (literal_at c.entries.trail.literals) (sym c.handled-entry.ensures) ∙ sym c.literal.ensures ∙ sym (ap neg_ℤ c.negated-x.ensures ∙ neg_ℤ-neg_ℤ c.literal.result))

pub returns-in-Some-clause-extended : goal.returns-in-Some-clause-extended
returns-in-Some-clause-extended c = extended_trans c.args.clauses.now.list c.args.trail.now c.entries.trail c.handle.new.trail c.entries.invariant.extended c.in_ok-clause.ensures.extended

pub returns-clause-complete : goal.returns-clause-complete
returns-clause-complete c = watching_done c.args.clauses.now.list c.entries.trail c.entries.watches c.entries.invariant.watching (omega arith)
