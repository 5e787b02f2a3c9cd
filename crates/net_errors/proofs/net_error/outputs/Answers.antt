use Rattle.std.proofs.Common.{map, ap, ◌∙◌, arith}
use Rattle.std.proofs.lemmas.List.{take_all}
use Rattle.semantics.specs.Net.{input_count}
use Rattle.semantics.specs.Value.{value_of, outputs_of}
use Rattle.net_errors.proofs.net_error.outputs.Goals as goal

pub returns : goal.returns
unfolding outputs_of
returns c =
    let net = c.args.net.now in
    c.loop-i.invariant ∙ ap (map (value_of (input_count net) net.tables c.args.x.now)) (take_all c.loop-i.i net.outputs (omega arith))
