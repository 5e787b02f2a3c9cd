use Rattle.std.proofs.Common.{All, ◌≡◌, sym, ap, subst, ◌∙◌}
use Rattle.std.proofs.lemmas.Result.{err_from_is_err_and}
use Rattle.semantics.specs.Net.{IsName}
use Rattle.blif_semantics.specs.Reading.{NamedNet, names_of}
use Rattle.text_words.specs.Slices.{texts}
use Rattle.blif_text.proofs.Numbered.{passed_on, names_named, names_as, doubled_told}
use Rattle.blif_text.proofs.numbering.net_of.Goals as goal

pub of-requires-clause-named : goal.of-requires-clause-named
of-requires-clause-named c =
    let d : NamedNet = c.args.named in
    let names : texts c.deref-3.result.now ≡ names_of d =
    ap texts c.deref-3.ensures.value ∙ c.in_ok-all.ensures
    ∙ names_as d (texts c.deref.result.now) c.deref-2.result.now (ap texts c.deref.ensures.value ∙ ap (λ v. v.inputs) c.named.view_is) (c.deref-2.ensures.value ∙ ap (λ v. v.tables) c.named.view_is) in
    subst (All IsName) (sym names) (names_named d c.requires.named)

pub returns-in_err-names-clause-err : goal.returns-in_err-names-clause-err
returns-in_err-names-clause-err c =
    let d : NamedNet = c.args.named in
    let names : texts c.deref-3.result.now ≡ names_of d =
    ap texts c.deref-3.ensures.value ∙ c.in_ok-all.ensures
    ∙ names_as d (texts c.deref.result.now) c.deref-2.result.now (ap texts c.deref.ensures.value ∙ ap (λ v. v.inputs) c.named.view_is) (c.deref-2.ensures.value ∙ ap (λ v. v.tables) c.named.view_is) in
    passed_on _ _ _ (err_from_is_err_and c.from_residual-in_err-names.result c.from_residual-in_err-names.ensures.1)
    (doubled_told d _ _ names c.in_err-names.ensures.err)
