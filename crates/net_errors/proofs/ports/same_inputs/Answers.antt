use Rattle.std.proofs.Common.{◌∙◌, refl, arith}
use Rattle.net_errors.proofs.PortNames.{input_name, same_whole, apart_at, same_more}
use Rattle.net_errors.proofs.ports.same_inputs.Goals as goal

pub returns-then-ne : goal.returns-then-ne
returns-then-ne c =
    let here = c.bytes.ensures.value ∙ c.signal_name.ensures.value ∙ input_name c.args.n.now c.loop-i.i (omega arith) in
    let there = c.bytes-in-loop-i.ensures.value ∙ c.signal_name-in-loop-i.ensures.value ∙ input_name c.args.m.now c.loop-i.i (omega arith) in
    apart_at c.args.n.now.inputs c.args.m.now.inputs c.loop-i.i _ _ c.ne.result here there c.ne.ensures c.if-ne.true

pub loop-i-preserved : goal.loop-i-preserved
loop-i-preserved c =
    let here = c.bytes.ensures.value ∙ c.signal_name.ensures.value ∙ input_name c.args.n.now c.loop-i.i (omega arith) in
    let there = c.bytes-in-loop-i.ensures.value ∙ c.signal_name-in-loop-i.ensures.value ∙ input_name c.args.m.now c.loop-i.i (omega arith) in
    same_more c.args.n.now.inputs c.args.m.now.inputs c.loop-i.i _ _ c.ne.result (omega arith) (omega arith) here there c.ne.ensures c.if-ne.false c.loop-i.invariant

pub returns : goal.returns
returns c =
    let whole = same_whole c.args.n.now.inputs c.args.m.now.inputs c.loop-i.i (omega arith) (omega arith) c.loop-i.invariant in
    ((λ h. whole), λ h. refl)
