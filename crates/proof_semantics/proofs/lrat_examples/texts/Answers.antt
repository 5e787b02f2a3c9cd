-- by computation
use Rattle.std.proofs.Common.{refl}
use Rattle.proof_semantics.specs.LratTokens.{is_blank, is_log_byte, ended_tokens}
use Rattle.proof_semantics.specs.LratReading.{good_part, whole_items, stage_of}
use Rattle.proof_semantics.proofs.lrat_examples.texts.Goals as goal

pub returns : goal.returns
unfolding is_blank is_log_byte ended_tokens good_part whole_items stage_of
returns c = record {
  no_text = refl;
  addition = refl;
  no_hints = refl;
  deletion = refl;
  deletion_of_none = refl;
  deletion_from_zero = refl;
  spelling = refl;
  greatest = refl;
  negative = refl;
  cut = refl;
  bad_byte = refl;
  id_alone = refl;
  large_literal = refl;
  large_number = refl;
  large_negative = refl;
  negative_id = refl;
  negative_lead = refl;
  zero_id = refl;
  late_letter = refl;
  minus_alone = refl;
  minus_at_end = refl;
  minus_within = refl;
  letters = refl;
  no_item = refl;
  number_first = refl;
  byte_first = refl;
  two_bytes = refl;
  not_decided = refl;
  decided = refl;
  not_whole = refl;
  whole = refl;
  before = refl;
}
