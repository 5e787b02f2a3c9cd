use Rattle.std.proofs.Common.{◌≡◌, ◌∷◌, Err, IfOk, cond, decimal, ap, sym, subst, ◌∙◌}
use Rattle.std.proofs.lemmas.Bool.{false_from_ne_true}
use Rattle.semantics.specs.Texts.{Bytes}
use Rattle.blif_semantics.specs.Statements.{is_name}
use Rattle.blif_semantics.proofs.Names.{IsName-from_test, is_name-from_IsName}
use Rattle.aiger_text.proofs.place_names.name_or.Goals as goal

pub returns-in-Ok : goal.returns-in-Ok
returns-in-Ok c =
    let text : Bytes = c.args.text.now in
    let named = rw c.in-Ok.is at c.new.ensures.named in
    let same = rw c.in-Ok.is at c.new.ensures.ok in
    same ∙ sym (ap (λ t. cond t text (c.args.letter ∷ decimal c.args.place)) (is_name-from_IsName text named))

pub returns-in-Err-Bad : goal.returns-in-Err-Bad
returns-in-Err-Bad c =
    let text : Bytes = c.args.text.now in
    let bad = c.new.ensures.bad.0 (c.in-Err-Bad.is ∙ ap Err c.in-Err-Bad.field-0-is) in
    subst (λ (n : Bytes). IfOk c.numbered.result (λ name. name ≡ n))
    (ap (λ k. c.args.letter ∷ decimal k) c.from.ensures
    ∙ sym (ap (λ t. cond t text (c.args.letter ∷ decimal c.args.place)) (false_from_ne_true (is_name text) (λ e. bad (IsName-from_test text e))))) c.numbered.ensures
