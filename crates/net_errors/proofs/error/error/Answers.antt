use Rattle.std.proofs.Common.{◌≡◌, ◌∙◌, ap, length, arith}
use Rattle.semantics.specs.Error.{word_count, greatest_of, error_of_word, error_of}
use Rattle.net_errors.proofs.WordSlices.{word_found, greatest_more}
use Rattle.net_errors.proofs.error.error.Goals as goal

pub loop-word-preserved : goal.loop-word-preserved
loop-word-preserved c =
    let place = c.word_place-first in
    let here =
    word_found c.args.metric c.args.exact.now c.args.approx.now c.loop-word.word place.result.0 place.result.1 c.word_error.result c.requires.width place.ensures.first place.ensures.size
    c.word_error.ensures in
    greatest_more (error_of_word c.args.metric c.args.exact.now c.args.approx.now) c.loop-word.word c.loop-word.greatest c.word_error.result c.max-greatest.result c.loop-word.invariant here
    c.max-greatest.ensures

pub returns : goal.returns
unfolding error_of
returns c =
    let all : c.loop-word.word ≡ word_count c.args.metric (length c.args.exact.now) = omega (arith, c.word_count-word-end.ensures, c.loop-word-test.false) in
    c.loop-word.invariant ∙ ap (greatest_of (error_of_word c.args.metric c.args.exact.now c.args.approx.now)) all
