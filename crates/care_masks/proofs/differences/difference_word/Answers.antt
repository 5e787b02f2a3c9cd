use Rattle.std.proofs.Common.{◌+◌, get_or, arith}
use Rattle.chain_semantics.specs.MoveLaws.{IsMoveOf}
use Rattle.chain_semantics.proofs.MoveMembers.{move_is}
use Rattle.chain_semantics.proofs.MovedNets.{move-within}
use Rattle.care_masks.proofs.Breaking.{difference_bit}
use Rattle.care_masks.proofs.differences.difference_word.Goals as goal

pub overflow_add-value : goal.overflow_add-value
overflow_add-value c =
    let is : IsMoveOf c.args.net.now c.args.a_move = move_is c.args.net.now c.inputs.ensures.built.sound.acyclic c.args.a_move c.requires.offered in
    omega (arith, c.table_of.ensures, c.inputs.ensures.value, c.inputs.ensures.built.few_signals, move-within c.args.net.now c.args.a_move is)

pub bounds-words-inputs : goal.bounds-words-inputs
bounds-words-inputs c =
    let is : IsMoveOf c.args.net.now c.args.a_move = move_is c.args.net.now c.inputs.ensures.built.sound.acyclic c.args.a_move c.requires.offered in
    omega (arith, c.table_of.ensures, c.inputs.ensures.value, c.requires.room, move-within c.args.net.now c.args.a_move is)

pub returns-clause-bits : goal.returns-clause-bits
returns-clause-bits c =
    let is : IsMoveOf c.args.net.now c.args.a_move = move_is c.args.net.now c.inputs.ensures.built.sound.acyclic c.args.a_move c.requires.offered in
    difference_bit c.args.net.now c.args.a_move c.args.words.now c.moved_word.result _ c.inputs.ensures.built.sound is
    (λ j. get_or c.args.words.now (c.inputs.ensures.value j + c.table_of.ensures j) 0) c.moved_word.ensures
