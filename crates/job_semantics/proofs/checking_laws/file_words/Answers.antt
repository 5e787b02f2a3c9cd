use Rattle.job_semantics.proofs.FileWords.{file_words_law}
use Rattle.job_semantics.proofs.checking_laws.file_words.Goals as goal

pub returns : goal.returns
returns c = file_words_law
