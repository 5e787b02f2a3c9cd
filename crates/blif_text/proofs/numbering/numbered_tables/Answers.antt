use Rattle.std.proofs.Common.{[], ◌∷◌, ◌++◌, All, sym, ap, subst, ◌∙◌, append_assoc}
use Rattle.std.proofs.lemmas.List.{map_push}
use Rattle.std.proofs.lemmas.List.Elements.{All-tail}
use Rattle.std.proofs.lemmas.Result.{err_from_is_err_and}
use Rattle.blif_semantics.specs.Named.{IsNamedTable, with_signals}
use Rattle.blif_text.proofs.Numbered.{passed_on, pins-next, pins-told}
use Rattle.blif_text.proofs.numbering.numbered_tables.Goals as goal

pub returns-in_err-numbered-clause-err : goal.returns-in_err-numbered-clause-err
returns-in_err-numbered-clause-err c =
    passed_on _ _ _ (err_from_is_err_and c.from_residual.result c.from_residual.ensures.1)
    (pins-told c.args.names.now _ _ c.in-Some.table _ _ c.in-Some.ensures.steps.0 c.loop-table.invariant.same c.in_err-numbered.ensures.err)

pub loop-table-preserved : goal.loop-table-preserved
loop-table-preserved c =
    let cut = c.in-Some.ensures.steps.0 in
    let before = c.loop-table.invariant in
    let names = c.args.names.now in
    record {
      whole = append_assoc c.loop-table.yielded (c.in-Some.table ∷ []) _ ∙ ap (λ l. c.loop-table.yielded ++ l) (sym cut) ∙ before.whole;
      all =
          c.in_ok-push.ensures.ok
          ∙ ap (λ t. c.loop-table.list ++ t ∷ []) c.in_ok-numbered.ensures.ok
          ∙ ap (λ l. l ++ with_signals names c.in-Some.table ∷ []) before.all
          ∙ sym (map_push (with_signals names) c.loop-table.yielded c.in-Some.table);
      same = pins-next names _ _ c.in-Some.table _ cut c.in_ok-numbered.ensures.known before.same;
      formed = All-tail IsNamedTable _ _ (subst (λ tables. All IsNamedTable tables) cut before.formed);
    }
