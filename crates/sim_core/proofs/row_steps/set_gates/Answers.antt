use Rattle.std.proofs.Common.{◌≡◌, ℕ, ◌+◌, ◌*◌, ◌/◌, ◌<◌, ◌≤◌, List, length, get_or, ap, sym, ◌∙◌, arith}
use Rattle.lane_bits.specs.Rows.{word_count}
use Rattle.aig_core.specs.declared.gate.Gate.{Gate}
use Rattle.aig_core.specs.Graph.{GraphValue, no_gate, gate_at, gate_node, node_count, IsGraph}
use Rattle.sim_core.proofs.Values.{row_ends, left_before, right_before, gates_more}
use Rattle.sim_core.proofs.row_steps.set_gates.Goals as goal

-- where the rows are, by the terms of the code
module _ (g : GraphValue) (gates : List Gate) (i inputs words count : ℕ) (old rows : List ℕ) (is : gates ≡ g.gates) (graph : IsGraph g) (low : i < length gates) (first : inputs ≡ g.inputs)
    (wide : words ≡ word_count count) (long : length old ≡ node_count g * word_count count) (same : length rows ≡ length old) where
  inside : i < length g.gates
  inside = omega (arith, low, ap length is)

  here : get_or gates i no_gate ≡ gate_at g i
  here = ap (λ (gs : List Gate). get_or gs i no_gate) is

  all_words : length rows ≡ node_count g * words
  all_words = same ∙ long ∙ ap (λ w. node_count g * w) (sym wide)

  start_is : (1 + inputs + i) * words ≡ gate_node g i * words
  start_is = ap (λ n. (1 + n + i) * words) first

  row_fits : (n : ℕ) → n < node_count g → n * words + words ≤ length rows
  row_fits n below = omega (arith, row_ends n (node_count g) words below, all_words)

  left_low : (get_or gates i no_gate).left / 2 < gate_node g i
  left_low = left_before g i (get_or gates i no_gate) graph inside here

  right_low : (get_or gates i no_gate).right / 2 < gate_node g i
  right_low = right_before g i (get_or gates i no_gate) graph inside here

  left_fits : (get_or gates i no_gate).left / 2 * words + words ≤ length rows
  left_fits = row_fits ((get_or gates i no_gate).left / 2) (omega (arith, left_low, inside))

  right_fits : (get_or gates i no_gate).right / 2 * words + words ≤ length rows
  right_fits = row_fits ((get_or gates i no_gate).right / 2) (omega (arith, right_low, inside))

  ends : (n start : ℕ) → n < gate_node g i → start ≡ n * words → start + words ≤ (1 + inputs + i) * words
  ends n start below at = omega (arith, row_ends n (gate_node g i) words below, at, start_is)

  fits : (1 + inputs + i) * words + words ≤ length rows
  fits = omega (arith, row_fits (gate_node g i) (omega (arith, inside)), start_is)

pub side_of-left-requires : goal.side_of-left-requires
side_of-left-requires c =
    let e = c.gates-gate-items.ensures in
    left_fits c.args.aig.now c.gates-gate-items.result.now c.loop-i.i c.inputs.result c.word_count-words.result c.args.count c.args.rows.now c.loop-i.rows e.gates e.graph c.loop-i-test.true
    c.inputs.ensures
    c.word_count-words.ensures c.requires c.loop-i.auto.rows

pub side_of-right-requires : goal.side_of-right-requires
side_of-right-requires c =
    let e = c.gates-gate-items.ensures in
    right_fits c.args.aig.now c.gates-gate-items.result.now c.loop-i.i c.inputs.result c.word_count-words.result c.args.count c.args.rows.now c.loop-i.rows e.gates e.graph c.loop-i-test.true
    c.inputs.ensures
    c.word_count-words.ensures c.requires c.loop-i.auto.rows

pub set_conjunction-requires-clause-left : goal.set_conjunction-requires-clause-left
set_conjunction-requires-clause-left c =
    let e = c.gates-gate-items.ensures in
    let below = left_low c.args.aig.now c.gates-gate-items.result.now c.loop-i.i c.inputs.result c.word_count-words.result c.args.count c.args.rows.now c.loop-i.rows e.gates e.graph c.loop-i-test.true
    c.inputs.ensures c.word_count-words.ensures c.requires c.loop-i.auto.rows in
    ends c.args.aig.now c.gates-gate-items.result.now c.loop-i.i c.inputs.result c.word_count-words.result c.args.count c.args.rows.now c.loop-i.rows e.gates e.graph c.loop-i-test.true
    c.inputs.ensures
    c.word_count-words.ensures c.requires c.loop-i.auto.rows _ c.side_of-left.result.start below c.side_of-left.ensures.start

pub set_conjunction-requires-clause-right : goal.set_conjunction-requires-clause-right
set_conjunction-requires-clause-right c =
    let e = c.gates-gate-items.ensures in
    let below = right_low c.args.aig.now c.gates-gate-items.result.now c.loop-i.i c.inputs.result c.word_count-words.result c.args.count c.args.rows.now c.loop-i.rows e.gates e.graph
    c.loop-i-test.true
    c.inputs.ensures c.word_count-words.ensures c.requires c.loop-i.auto.rows in
    ends c.args.aig.now c.gates-gate-items.result.now c.loop-i.i c.inputs.result c.word_count-words.result c.args.count c.args.rows.now c.loop-i.rows e.gates e.graph c.loop-i-test.true
    c.inputs.ensures
    c.word_count-words.ensures c.requires c.loop-i.auto.rows _ c.side_of-right.result.start below c.side_of-right.ensures.start

pub set_conjunction-requires-clause-within : goal.set_conjunction-requires-clause-within
set_conjunction-requires-clause-within c =
    let e = c.gates-gate-items.ensures in
    fits c.args.aig.now c.gates-gate-items.result.now c.loop-i.i c.inputs.result c.word_count-words.result c.args.count c.args.rows.now c.loop-i.rows e.gates e.graph c.loop-i-test.true
    c.inputs.ensures
    c.word_count-words.ensures c.requires c.loop-i.auto.rows

pub loop-i-preserved : goal.loop-i-preserved
loop-i-preserved c = λ vectors count have.
    let e = c.gates-gate-items.ensures in
    let low : c.loop-i.i < length c.args.aig.now.gates = omega (arith, c.loop-i-test.true, ap length e.gates) in
    gates_more c.args.aig.now vectors c.loop-i.rows c.set_conjunction.new.rows c.loop-i.i c.side_of-left.result.start c.side_of-right.result.start
    ((1 + c.inputs.result + c.loop-i.i) * c.word_count-words.result)
    c.word_count-words.result c.side_of-left.result.flip c.side_of-right.result.flip (get_or c.gates-gate-items.result.now c.loop-i.i no_gate) e.graph low
    (ap (λ (gs : List Gate). get_or gs c.loop-i.i no_gate) e.gates) (c.word_count-words.ensures ∙ ap word_count (sym count))
    (ap (λ n. (1 + n + c.loop-i.i) * c.word_count-words.result) c.inputs.ensures)
    c.side_of-left.ensures.start c.side_of-right.ensures.start c.side_of-left.ensures.flip c.side_of-right.ensures.flip
    (λ p within. c.set_conjunction.ensures.bits p (omega (arith, within, count)))
    (λ p past within. c.set_conjunction.ensures.clear p (omega (arith, past, count)) within)
    c.set_conjunction.ensures.before (c.loop-i.invariant vectors count have)
