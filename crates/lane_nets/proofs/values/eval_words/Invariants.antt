use Rattle.semantics.specs.Net.{input_count}
use Rattle.net_core.proofs.InOrder.{HoldsBefore}
use Rattle.lane_nets.proofs.Evaluating.{IsValueFrom}
use Rattle.lane_nets.proofs.values.eval_words.Given as goal

abbrev pub invariant-loop-i : goal.invariant-loop-i
invariant-loop-i l = HoldsBefore (IsValueFrom l.net l.initial.words) 0 (input_count l.net) l.i-items l.i-index l.words
