use Rattle.std.proofs.Common.{length, ap, arith}
use Rattle.std.proofs.lemmas.Nat.{pow_pos}
use Rattle.semantics.proofs.Vectors.{length-all_vectors}
use Rattle.case_tree.proofs.Behind.{inputs_behind}
use Rattle.case_tree.proofs.front_lanes.set_values_behind.Goals as goal

pub set_rest-requires-clause-some : goal.set_rest-requires-clause-some
set_rest-requires-clause-some c = omega (arith, ap length c.requires.all, length-all_vectors c.args.rest.now.inputs, pow_pos c.args.rest.now.inputs)

pub returns : goal.returns
returns c = λ x long begins.
    let known =
    inputs_behind c.args.net.now c.args.front.now c.args.rest.now.vectors c.set_rest.new.words c.set_front.new.words c.args.rest.now.inputs c.requires.width c.requires.few c.requires.all
    c.set_front.ensures c.set_rest.ensures.front c.set_rest.ensures.rest x long begins in
    c.eval_words.ensures _ x known.0 known.1
