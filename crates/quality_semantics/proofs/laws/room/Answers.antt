use Rattle.quality_semantics.proofs.Room.{quality_room, one_word_room, joint_room, joint_one_word_room}
use Rattle.quality_semantics.proofs.laws.room.Goals as goal

pub returns : goal.returns
returns c = record { all_words = quality_room; one_word = one_word_room; joint = joint_room; joint_one_word = joint_one_word_room }
