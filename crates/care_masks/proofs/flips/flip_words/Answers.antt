use Rattle.std.proofs.Common.{◌+◌, ◌-◌, List, ℕ, length-set, get_or, ap, sym, subst, refl, rules, arith}
use Rattle.std.proofs.lemmas.List.{take_all}
use Rattle.lane_nets.proofs.WordBits.{not_bit}
use Rattle.care_masks.specs.Flips.{IsSettled}
use Rattle.care_masks.proofs.Flipping.{flipped_none, flipped_more}
use Rattle.care_masks.proofs.flips.flip_words.Goals as goal

pub loop-i-init : goal.loop-i-init
loop-i-init c =
    flipped_none c.args.net.now c.args.turned.now.table c.args.words.now c.inputs-inputs.ensures.built.sound.acyclic c.requires.table _ _ _ c.requires.room
    (ap (λ k. k + c.args.turned.now.table) c.inputs-inputs.ensures.value) refl (λ b low. not_bit _ b (search rules) low)

pub table-requires : goal.table-requires
table-requires c = c.requires.later.in_turn.tables c.loop-i.i-index c.loop-i-test.true

pub loop-i-preserved : goal.loop-i-preserved
loop-i-preserved c =
    rw c.inputs-inputs.ensures.value
    (flipped_more c.args.net.now c.args.turned.now.table c.args.words.now c.inputs-inputs.ensures.built.sound.acyclic c.requires.table c.args.turned.now.later.now c.loop-i.words c.loop-i.i-index
    (get_or c.args.turned.now.later.now c.loop-i.i-index 0) c.table_word-word.result c.table.result.now c.requires.later.in_turn c.loop-i-test.true refl
    (omega (
      arith,
      c.loop-i.auto.words,
      c.requires.room,
      length-set c.args.words.now (c.inputs-inputs.result + c.args.turned.now.table) (18446744073709551615 - get_or c.args.words.now (c.inputs-inputs.result + c.args.turned.now.table) 0),
    ))
    c.table.ensures.value c.table_word-word.ensures c.loop-i.invariant)

pub returns : goal.returns
returns c =
    λ b x low values s within. c.loop-i.invariant s within
    (subst (λ (l : List ℕ). IsSettled c.args.net.now c.args.turned.now.table l s) (sym (take_all c.loop-i.i-index c.args.turned.now.later.now c.loop-i-test.false)) (c.requires.later.all s within)) b x
    low values
