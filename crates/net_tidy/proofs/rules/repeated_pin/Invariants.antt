use Rattle.std.proofs.Common.{◌≡◌, ◌-◌, length, take, slice_index}
use Rattle.chain_semantics.specs.TidyRules.{has, first_from}
use Rattle.net_tidy.proofs.rules.repeated_pin.Given as goal

abbrev pub invariant-loop-q : goal.invariant-loop-q
invariant-loop-q l =
    first_from (λ q. has (take q l.pins) (slice_index l.pins q)) l.q (length l.pins - l.q)
    ≡ first_from (λ q. has (take q l.pins) (slice_index l.pins q)) 0 (length l.pins)
