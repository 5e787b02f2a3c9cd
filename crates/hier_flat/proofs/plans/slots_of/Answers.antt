use Rattle.std.proofs.Common.{◌∙◌}
use Rattle.blif_text.specs.Names.{place_of}
use Rattle.hier_flat.proofs.FlatSteps.{words_next}
use Rattle.hier_flat.proofs.plans.slots_of.Goals as goal

pub loop-word-preserved : goal.loop-word-preserved
loop-word-preserved c =
    c.in_ok-push.ensures.items
    ∙ words_next (place_of c.args.names.now) c.args.words.now c.loop-word.word-index _ c.loop-word.slots.items c.place.result c.loop-word-test.true c.place.ensures c.loop-word.invariant
