use Rattle.job_semantics.proofs.MetricWords.{metric_word-names}
use Rattle.job_semantics.proofs.laws.metric_words.Goals as goal

pub returns : goal.returns
returns c = metric_word-names
