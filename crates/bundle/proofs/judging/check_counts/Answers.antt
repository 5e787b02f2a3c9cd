use Rattle.std.proofs.Common.{◌≡◌, true}
use Rattle.semantics.specs.declared.metric.Kind.TheVariants.{Abs}
use Rattle.semantics.specs.Error.{one_word}
use Rattle.bundle_texts.specs.Reading.{report_read}
use Rattle.bundle.proofs.JudgedTexts.{counts_at, other_counts, not_shown, all_hold}
use Rattle.bundle.proofs.judging.check_counts.Goals as goal

pub returns-then-not-are_counts : goal.returns-then-not-are_counts
returns-then-not-are_counts c texts known =
    let claimed = c.args.claimed.now in
    let claim = claimed.claim in
    let contents = c.args.contents.now in
    let metric = claim.metric in
    let read = contents.report.now in
    let N = claimed.nets.now.exact in
    let M = claimed.nets.now.approx in other_counts claim N texts M (report_read metric claim.bound read) contents.is_shown known
    (λ counts. let yes : c.are_counts.result ≡ true = c.are_counts.ensures.1 (counts_at claim.growth N M read metric (one_word Abs) claim.bound 0 counts) in cc)

pub returns-then-not-contents : goal.returns-then-not-contents
returns-then-not-contents c texts known =
    let claimed = c.args.claimed.now in
    let claim = claimed.claim in
    let contents = c.args.contents.now in
    let metric = claim.metric in
    let read = contents.report.now in
    let N = claimed.nets.now.exact in
    let M = claimed.nets.now.approx in
    not_shown claim N texts M (report_read metric claim.bound read) contents.is_shown known
    (counts_at claim.growth N M read (one_word Abs) metric 0 claim.bound (c.are_counts.ensures.0 c.if-not-are_counts.false)) (λ is. absurd (cc (is, c.if-not-contents.true)))

pub returns : goal.returns
returns c texts known =
    let claimed = c.args.claimed.now in
    let claim = claimed.claim in
    let contents = c.args.contents.now in
    let metric = claim.metric in
    let read = contents.report.now in
    let N = claimed.nets.now.exact in
    let M = claimed.nets.now.approx in
    all_hold claim N texts M (report_read metric claim.bound read) contents.is_shown known
    (counts_at claim.growth N M read (one_word Abs) metric 0 claim.bound (c.are_counts.ensures.0 c.if-not-are_counts.false)) c.if-not-contents.false
