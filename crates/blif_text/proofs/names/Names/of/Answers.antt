use Rattle.blif_text.proofs.Places.{named_at}
use Rattle.blif_text.proofs.names.Names.of.Goals as goal

pub known-requires : goal.known-requires
known-requires c = named_at c.args.names.now c.loop-name.name-index _ c.loop-name-test.true c.requires.named
