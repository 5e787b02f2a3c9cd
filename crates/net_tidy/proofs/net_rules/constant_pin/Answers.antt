use Rattle.std.proofs.Common.{ℕ, List, get_or, ap, sym, ◌∙◌}
use Rattle.semantics.specs.Net.{input_count}
use Rattle.chain_semantics.specs.TidyRules.{pin_at, is_constant_signal}
use Rattle.net_tidy.proofs.First.{first_from_next}
use Rattle.net_tidy.proofs.net_rules.constant_pin.Goals as goal

pub loop-q-preserved : goal.loop-q-preserved
loop-q-preserved c =
    first_from_next (λ q. is_constant_signal (input_count c.args.net.now) c.args.net.now.tables (pin_at c.args.table.now q)) c.loop-q.q _ c.loop-q-test.true
    (ap (λ (pins : List ℕ). is_constant_signal (input_count c.args.net.now) c.args.net.now.tables (get_or pins c.loop-q.q 0)) (sym (c.as_slice-pins.ensures ∙ c.pins.ensures.value))
    ∙ sym c.is_constant_signal.ensures ∙ c.if-is_constant_signal.false)
    ∙ c.loop-q.invariant
