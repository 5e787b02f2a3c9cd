use Rattle.blif_semantics.proofs.WrittenLength.{blif_text-short}
use Rattle.blif_semantics.proofs.Written.{read, read_within, only, within}
use Rattle.blif_semantics.proofs.laws.written.Goals as goal

pub returns : goal.returns
returns c = record { read = read; read_within = read_within; only = only; short = blif_text-short; within = within }
