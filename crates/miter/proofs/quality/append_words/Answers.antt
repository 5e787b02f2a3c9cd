use Rattle.std.proofs.Common.{arith}
use Rattle.miter.proofs.Words.{words_inputs, words_within, words_kept, next_words}
use Rattle.miter.proofs.quality.append_words.Goals as goal

pub append_word_at-requires-clause-inputs : goal.append_word_at-requires-clause-inputs
append_word_at-requires-clause-inputs c =
    words_inputs c.args.metric c.args.outputs c.args.k c.loop-word.word c.loop-word.net c.loop-word.over c.loop-word.invariant (omega (arith, c.loop-word-test.true, c.word_count-word-end.ensures))

pub join-requires-clause-before_in : goal.join-requires-clause-before_in
join-requires-clause-before_in c =
    words_kept c.args.metric c.args.outputs c.args.k c.loop-word.word c.loop-word.net _ c.loop-word.over c.loop-word.invariant (omega (arith, c.loop-word-test.true, c.word_count-word-end.ensures))
    c.in_ok-signal.ensures.ok

pub loop-word-preserved : goal.loop-word-preserved
loop-word-preserved c =
    next_words c.args.metric c.args.outputs c.args.k c.loop-word.word c.loop-word.net _ _ c.loop-word.over _ _ c.loop-word.invariant c.in_ok-signal.ensures.ok c.in_ok-signal.ensures.signal
    c.in_ok-over.ensures.ok c.in_ok-over.ensures.signal

pub returns-clause-within : goal.returns-clause-within
returns-clause-within c =
    words_within c.args.metric c.args.outputs c.args.k c.loop-word.word c.loop-word.net c.loop-word.over c.loop-word.invariant (omega (arith, c.word_count-word-end.ensures))
