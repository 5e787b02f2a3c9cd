use Rattle.blif_text.proofs.Places.{named_at}
use Rattle.blif_text.proofs.name_list.name_list.Goals as goal

pub known-requires : goal.known-requires
known-requires c = named_at c.args.words.now c.loop-word.word-index _ c.loop-word-test.true c.requires
