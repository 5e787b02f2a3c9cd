use Rattle.std.proofs.Common.{◌≡◌, ◌<◌, ◌≤◌, IfOk, IfErr, Ok, Err, length, sym, ap, subst, ◌∙◌, arith}
use Rattle.std.proofs.lemmas.Option.{same_Some}
use Rattle.std.proofs.lemmas.Result.{err_from_is_err_and}
use Rattle.semantics.specs.declared.limits.TheConstants.{MOST_ROWS}
use Rattle.semantics.specs.Texts.{Bytes}
use Rattle.blif_semantics.specs.Reading.{named_net, names_of, single}
use Rattle.blif_semantics.specs.Named.{IsNamedNet}
use Rattle.blif_text.specs.KeptLines.{words_in, KeptLines, without_rows, refused_for_rows}
use Rattle.blif_text.specs.Refusals.{Tells}
use Rattle.blif_text.proofs.ManyRows.{names_of-bare, bare_formed}
use Rattle.blif_text.proofs.Numbered.{passed_on}
use Rattle.blif_text.proofs.Readings.{lines_of, none_wrong, few_if, many_if, few_named, many_named, many_told, formed, reading-long, reading-right, wrong_told}
use Rattle.blif_text.proofs.Sizes.{names_below}
use Rattle.blif_text.proofs.reading.read_blif.Goals as goal

pub returns-then-text-limit-clause-err : goal.returns-then-text-limit-clause-err
returns-then-text-limit-clause-err c = λ refusal e. reading-long c.args.text.now c.args.limit c.if-text-limit.true ∙ ap Err (same_Some _ _ e)

pub returns-in_err-kept-clause-err : goal.returns-in_err-kept-clause-err
returns-in_err-kept-clause-err c =
    passed_on _ _ _ (err_from_is_err_and c.from_residual.result c.from_residual.ensures.1)
    (wrong_told c.args.text.now c.args.limit _ c.if-text-limit.false c.in_err-kept.ensures.err)

-- ---- many rows

pub refusal_for_rows-requires-clause-named : goal.refusal_for_rows-requires-clause-named
refusal_for_rows-requires-clause-named c =
    let text : Bytes = c.args.text.now in
    let k : KeptLines = c.in_ok-kept.kept in
    let named : c.in_ok-named.named ≡ named_net (words_in k.lines) = c.in_ok-named.ensures ∙ ap (λ l. named_net (words_in l)) c.lines.ensures in
    let bare : c.in_ok-bare.bare ≡ without_rows (named_net (lines_of text)) = c.in_ok-bare.ensures ∙ ap without_rows named ∙ many_named text k c.in_ok-kept.ensures.ok in
    subst IsNamedNet (sym bare) (bare_formed (named_net (lines_of text)) (formed text (none_wrong text k c.in_ok-kept.ensures.ok)))

pub refusal_for_rows-requires-clause-few : goal.refusal_for_rows-requires-clause-few
refusal_for_rows-requires-clause-few c =
    let text : Bytes = c.args.text.now in
    let k : KeptLines = c.in_ok-kept.kept in
    let named : c.in_ok-named.named ≡ named_net (words_in k.lines) = c.in_ok-named.ensures ∙ ap (λ l. named_net (words_in l)) c.lines.ensures in
    let bare : c.in_ok-bare.bare ≡ without_rows (named_net (lines_of text)) = c.in_ok-bare.ensures ∙ ap without_rows named ∙ many_named text k c.in_ok-kept.ensures.ok in
    let count = ap (λ d. length (names_of d)) bare ∙ ap length (names_of-bare (named_net (lines_of text))) in
    omega (arith, count, names_below text, c.if-text-limit.false, c.requires)

pub returns-then-has_many_rows-clause-err : goal.returns-then-has_many_rows-clause-err
returns-then-has_many_rows-clause-err c =
    let text : Bytes = c.args.text.now in
    let k : KeptLines = c.in_ok-kept.kept in
    let taken = c.in_ok-kept.ensures.ok in
    let many : MOST_ROWS < k.rows = many_if k.rows c.has_many_rows.result c.has_many_rows.ensures c.if-has_many_rows.true in
    let named : c.in_ok-named.named ≡ named_net (words_in k.lines) = c.in_ok-named.ensures ∙ ap (λ l. named_net (words_in l)) c.lines.ensures in
    let bare : c.in_ok-bare.bare ≡ without_rows (named_net (lines_of text)) = c.in_ok-bare.ensures ∙ ap without_rows named ∙ many_named text k taken in
    subst (Tells c.refusal_for_rows.result)
    (ap (λ d. refused_for_rows (single d)) bare ∙ many_told text k taken many ∙ sym (reading-right text c.args.limit c.if-text-limit.false (none_wrong text k taken)))
    c.refusal_for_rows.ensures

-- ---- few rows

pub net_of-requires-clause-named : goal.net_of-requires-clause-named
net_of-requires-clause-named c =
    let text : Bytes = c.args.text.now in
    let k : KeptLines = c.in_ok-kept.kept in
    let taken = c.in_ok-kept.ensures.ok in
    let few : k.rows ≤ MOST_ROWS = few_if k.rows c.has_many_rows.result c.has_many_rows.ensures c.if-has_many_rows.false in
    let named : c.in_ok-named.named ≡ named_net (lines_of text) = c.in_ok-named.ensures ∙ ap (λ l. named_net (words_in l)) c.lines.ensures ∙ few_named text k taken few in
    subst IsNamedNet (sym named) (formed text (none_wrong text k taken))

pub net_of-requires-clause-few : goal.net_of-requires-clause-few
net_of-requires-clause-few c =
    let text : Bytes = c.args.text.now in
    let k : KeptLines = c.in_ok-kept.kept in
    let few : k.rows ≤ MOST_ROWS = few_if k.rows c.has_many_rows.result c.has_many_rows.ensures c.if-has_many_rows.false in
    let named : c.in_ok-named.named ≡ named_net (lines_of text) = c.in_ok-named.ensures ∙ ap (λ l. named_net (words_in l)) c.lines.ensures ∙ few_named text k c.in_ok-kept.ensures.ok few in
    omega (arith, ap (λ d. length (names_of d)) named, names_below text, c.if-text-limit.false, c.requires)

pub returns-clause-ok : goal.returns-clause-ok
returns-clause-ok c =
    let text : Bytes = c.args.text.now in
    let k : KeptLines = c.in_ok-kept.kept in
    let taken = c.in_ok-kept.ensures.ok in
    let few : k.rows ≤ MOST_ROWS = few_if k.rows c.has_many_rows.result c.has_many_rows.ensures c.if-has_many_rows.false in
    let named : c.in_ok-named.named ≡ named_net (lines_of text) = c.in_ok-named.ensures ∙ ap (λ l. named_net (words_in l)) c.lines.ensures ∙ few_named text k taken few in
    subst (λ g. IfOk c.net_of.result (λ n. g ≡ Ok n)) (ap single named ∙ sym (reading-right text c.args.limit c.if-text-limit.false (none_wrong text k taken))) c.net_of.ensures.ok

pub returns-clause-err : goal.returns-clause-err
returns-clause-err c =
    let text : Bytes = c.args.text.now in
    let k : KeptLines = c.in_ok-kept.kept in
    let taken = c.in_ok-kept.ensures.ok in
    let few : k.rows ≤ MOST_ROWS = few_if k.rows c.has_many_rows.result c.has_many_rows.ensures c.if-has_many_rows.false in
    let named : c.in_ok-named.named ≡ named_net (lines_of text) = c.in_ok-named.ensures ∙ ap (λ l. named_net (words_in l)) c.lines.ensures ∙ few_named text k taken few in
    subst (λ g. IfErr c.net_of.result (λ told. Tells told g)) (ap single named ∙ sym (reading-right text c.args.limit c.if-text-limit.false (none_wrong text k taken))) c.net_of.ensures.err
