use Rattle.std.proofs.Common.{◌∙◌, refl, arith}
use Rattle.std.proofs.lemmas.List.{length-map}
use Rattle.semantics.specs.Net.{signal_names, name_of}
use Rattle.net_errors.proofs.PortNames.{output_names, output_name, same_whole, apart_at, same_more}
use Rattle.net_errors.proofs.ports.same_outputs.Goals as goal

pub returns-then-ne : goal.returns-then-ne
returns-then-ne c =
    let here = c.bytes.ensures.value ∙ c.signal_name.ensures.value ∙ output_name c.args.n.now c.loop-i.i c.output-here.result (omega arith) c.output-here.ensures.value in
    let there = c.bytes-in-loop-i.ensures.value ∙ c.signal_name-in-loop-i.ensures.value ∙ output_name c.args.m.now c.loop-i.i c.output-there.result (omega arith) c.output-there.ensures.value in
    apart_at (output_names c.args.n.now) (output_names c.args.m.now) c.loop-i.i _ _ c.ne.result here there c.ne.ensures c.if-ne.true

pub loop-i-preserved : goal.loop-i-preserved
loop-i-preserved c =
    let n_count = length-map c.args.n.now.outputs (name_of (signal_names c.args.n.now)) in
    let m_count = length-map c.args.m.now.outputs (name_of (signal_names c.args.m.now)) in
    let here = c.bytes.ensures.value ∙ c.signal_name.ensures.value ∙ output_name c.args.n.now c.loop-i.i c.output-here.result (omega arith) c.output-here.ensures.value in
    let there = c.bytes-in-loop-i.ensures.value ∙ c.signal_name-in-loop-i.ensures.value ∙ output_name c.args.m.now c.loop-i.i c.output-there.result (omega arith) c.output-there.ensures.value in
    same_more (output_names c.args.n.now) (output_names c.args.m.now) c.loop-i.i _ _ c.ne.result (omega (arith, n_count)) (omega (arith, n_count, m_count)) here there c.ne.ensures c.if-ne.false
    c.loop-i.invariant

pub returns : goal.returns
returns c =
    let n_count = length-map c.args.n.now.outputs (name_of (signal_names c.args.n.now)) in
    let m_count = length-map c.args.m.now.outputs (name_of (signal_names c.args.m.now)) in
    let whole = same_whole (output_names c.args.n.now) (output_names c.args.m.now) c.loop-i.i (omega (arith, n_count, m_count)) (omega (arith, n_count)) c.loop-i.invariant in
    ((λ h. whole), λ h. refl)
