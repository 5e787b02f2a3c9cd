use Rattle.quality_semantics.proofs.Quality.{word_quality_is}
use Rattle.quality_semantics.proofs.laws.word_quality.Goals as goal

pub returns : goal.returns
returns c = record {
  begins = λ kind W e a k pair. (word_quality_is kind W e a k pair).begins;
  formed = λ kind W e a k pair. (word_quality_is kind W e a k pair).formed.net;
  output = λ kind W e a k pair. (word_quality_is kind W e a k pair).formed.signal;
  value = λ kind W e a k pair. (word_quality_is kind W e a k pair).value;
}
