use Rattle.std.proofs.Common.{◌∙◌, [], ap}
use Rattle.cdcl_core.specs.StepLog.{LogValue}
use Rattle.cdcl_core.proofs.Searching.{search_started}
use Rattle.cdcl_core.proofs.search.start.Goals as goal

pub returns-clause-search : goal.returns-clause-search
returns-clause-search c =
    search_started c.args.cnf.now c.args.merged.now
    (record {
      clauses = c.in_ok-clauses.clauses;
      trail = c.in_ok-trail.trail;
      watches = c.in_ok-watches.watches;
      order = c.args.order;
      log = c.new-log.result;
      marks = c.new-marks.result;
      implied = c.new-implied.result;
      learned = c.none-learned.result;
    })
    c.vars-variables.ensures.formed.literals c.vars-variables.ensures.formed.few_variables c.requires.merged c.in_ok-clauses.ensures
    (c.in_ok-trail.ensures ∙ ap (λ n. record { variables = n; literals = []; reasons = []; starts = [] }) c.vars-variables.ensures.value)
    c.requires.order (ap (λ (l : LogValue). l.items) c.new-log.ensures ∙ c.in_ok-log_copy.ensures ∙ c.as_slice.ensures)
