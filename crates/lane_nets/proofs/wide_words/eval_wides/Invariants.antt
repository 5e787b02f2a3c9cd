use Rattle.std.proofs.Common.{[]}
use Rattle.semantics.specs.Net.{input_count}
use Rattle.net_core.proofs.InOrder.{HoldsBefore}
use Rattle.lane_nets.proofs.WideWords.{IsWideFrom}
use Rattle.lane_nets.proofs.wide_words.eval_wides.Given as goal

abbrev pub invariant-loop-i : goal.invariant-loop-i
invariant-loop-i l = HoldsBefore (IsWideFrom l.net l.initial.wides) [] (input_count l.net) l.i-items l.i-index l.wides
