use Rattle.std.proofs.Common.{◌<◌, refl, ap, sym, ◌∙◌, below_more, arith}
use Rattle.std.specs.Option.{is_some}
use Rattle.std.proofs.lemmas.Bool.{false≢true}
use Rattle.semantics.specs.Net.{table_count}
use Rattle.net_tidy.proofs.Stepping.{tidy_by_rules, rule_none, none_of}
use Rattle.net_tidy.proofs.tidy.is_tidy.Goals as goal

pub returns-then-is_some : goal.returns-then-is_some
returns-then-is_some c = (
  λ no. absurd (false≢true no),
  λ tidy.
      let within : c.loop-t.t < table_count c.args.net.now = let count = c.tables-t-end.ensures.value in let below = c.loop-t-test.true in omega arith in
      let none = c.rule_at.ensures ∙ rule_none c.args.net.now c.loop-t.t tidy within in
      absurd (false≢true (sym (ap is_some none) ∙ sym c.is_some.ensures ∙ c.if-is_some.true)),
)

pub loop-t-preserved : goal.loop-t-preserved
loop-t-preserved c = below_more _ _ c.loop-t.invariant (sym c.rule_at.ensures ∙ none_of c.rule_at.result (sym c.is_some.ensures ∙ c.if-is_some.false))

pub returns : goal.returns
returns c = (
  λ yes. tidy_by_rules c.args.net.now (λ i h. c.loop-t.invariant i (let count = c.tables-t-end.ensures.value in let end = c.loop-t-test.false in omega (arith, h))),
  λ tidy. refl,
)
