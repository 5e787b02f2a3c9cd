use Rattle.std.proofs.Common.{take, ap, sym, ◌++◌, ◌∙◌, arith, rules, length-take, length-drop, ℕ}
use Rattle.std.proofs.lemmas.Slice.{overwrites}
use Rattle.cnf_core.proofs.Pieces.{take-part, take-written}
use Rattle.cnf_core.proofs.text_token.TextToken.give.Goals as goal

pub returns-clause-written : goal.returns-clause-written
returns-clause-written c =
    let a = c.self.inside in
    let count = c.min-count.result in
    take-written c.args.buf.now c.copy_from_slice.new.self a.bytes c.args.at _ _ count a.start c.copy_from_slice.ensures.after (omega arith)
    (omega (arith, c.copy_from_slice.ensures.len, c.min-count.ensures, length-take {A = ℕ}, length-drop {A = ℕ})) c.requires
    ∙ ap (λ t. take c.args.at c.args.buf.now ++ t) (sym (take-part a.bytes a.start a.end count c.self.invariant.0 (omega (arith, c.min-count.ensures))) ∙ ap (take count) c.self.view_is)

pub returns-clause-kept : goal.returns-clause-kept
returns-clause-kept c = search (rules, overwrites)
