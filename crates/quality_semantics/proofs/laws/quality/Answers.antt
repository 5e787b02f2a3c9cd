use Rattle.quality_semantics.proofs.Words.{quality_inputs, quality_formed, quality_output, quality_acyclic, quality_value, in_one_word, in_wide_words}
use Rattle.quality_semantics.proofs.Sound.{quality_sound, quality_tells}
use Rattle.quality_semantics.proofs.laws.quality.Goals as goal

pub returns : goal.returns
returns c = record {
  inputs = quality_inputs;
  formed = quality_formed;
  output = quality_output;
  acyclic = quality_acyclic;
  value = quality_value;
  tells = quality_tells;
  sound = quality_sound;
  in_one_word = in_one_word;
  in_wide_words = in_wide_words;
}
