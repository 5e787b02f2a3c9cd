use Rattle.semantics.proofs.Signed.{least, greatest, flipped, flipped_error, signed_error-naturals}
use Rattle.semantics.proofs.laws.signed_words.Goals as goal

pub returns : goal.returns
returns c = record { least = least; greatest = greatest; flipped = flipped; flipped_error = flipped_error; naturals = signed_error-naturals }
