use Rattle.std.proofs.Common.{ℕ, List, ◌==◌, ◌&&◌, not, rules, tests}
use Rattle.std.specs.List.{list_all}
use Rattle.std.proofs.lemmas.Iterator.Consumers.{map_from_collect, YieldsList-from_filter, YieldsList-from_enumerate, YieldsList-at}
use Rattle.std.proofs.lemmas.Iterator.Splits.{YieldsList-from_slice_split}
use Rattle.std.proofs.lemmas.Result.{IfOk-weaker}
use Rattle.blif_semantics.specs.Lines.{is_blank, physical_lines}
use Rattle.solve_cnf.specs.Reading.{is_comment}
use Rattle.solve_cnf.proofs.NumberedLines.{without_numbers}
use Rattle.solve_cnf.proofs.lines.lines_of.Goals as goal

pub returns-clause-numbers : goal.returns-clause-numbers
returns-clause-numbers c =
    map_from_collect c.collect.result c.collect.ensures.ran
    (YieldsList-from_filter _ (λ (p : ℕ × List ℕ). not (is_comment p.1) && not (list_all is_blank p.1))
    (YieldsList-at c.filter.ensures.source
    (YieldsList-from_enumerate
    (YieldsList-at c.enumerate.ensures.source
    (YieldsList-from_slice_split _ (λ b. b == 10) c.args.text.now c.split.ensures.rest c.split.ensures.done c.split.ensures.closure (λ x b q k. search (rules, tests))))
    c.enumerate.ensures.count))
    c.filter.ensures.closure (λ x b q k. search (rules, tests)))

pub returns-clause-texts : goal.returns-clause-texts
returns-clause-texts c =
    IfOk-weaker c.collect.result _ _ (λ v same. without_numbers (λ line. not (is_comment line) && not (list_all is_blank line)) v.items (physical_lines c.args.text.now) same)
    (returns-clause-numbers c)
