use Rattle.blif_semantics.proofs.Comments.{comment, last_comment}
use Rattle.blif_semantics.proofs.LineEnds.{last_line, carriage_returns}
use Rattle.blif_semantics.proofs.Written.{same_reading}
use Rattle.blif_semantics.proofs.laws.texts.Goals as goal

pub returns : goal.returns
returns c = record { comment = comment; last_comment = last_comment; last_line = last_line; carriage_returns = carriage_returns; same = same_reading }
