use Rattle.semantics.proofs.Words.{words_joined, word_length, some_word, none_greater, in_one_word, in_wide_words}
use Rattle.semantics.proofs.laws.words.Goals as goal

pub returns : goal.returns
returns c = record {
  joined = words_joined;
  width = word_length;
  some_word = some_word;
  none_greater = none_greater;
  in_one_word = in_one_word;
  in_wide_words = in_wide_words;
}
