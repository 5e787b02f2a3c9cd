use Rattle.std.proofs.Common.{◌≡◌, ◌-◌, ◌&&◌, not}
use Rattle.std.specs.List.{list_all}
use Rattle.chain_semantics.specs.TidyRules.{is_empty, first_from, mark_at, is_dash}
use Rattle.net_tidy.proofs.rules.dashed_pin.Given as goal

abbrev pub invariant-loop-q : goal.invariant-loop-q
invariant-loop-q g l =
    first_from (λ q. not (is_empty l.rows) && list_all (λ row. is_dash (mark_at (g.R.Marked.marks row) q)) l.rows) l.q (l.pins - l.q)
    ≡ first_from (λ q. not (is_empty l.rows) && list_all (λ row. is_dash (mark_at (g.R.Marked.marks row) q)) l.rows) 0 l.pins
