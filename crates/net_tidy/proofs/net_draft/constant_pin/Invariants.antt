use Rattle.std.proofs.Common.{◌≡◌, ◌-◌, length}
use Rattle.chain_semantics.specs.TidyRules.{first_from, pin_at, is_constant_signal, constant_pin}
use Rattle.net_tidy.proofs.net_draft.constant_pin.Given as goal

abbrev pub invariant-loop-q : goal.invariant-loop-q
invariant-loop-q l = first_from (λ q. is_constant_signal l.inputs l.tables (pin_at l.table q)) l.q (length l.pins - l.q) ≡ constant_pin l.inputs l.tables l.table
