use Rattle.std.proofs.Common.{ℕ, ◌++◌, length, get_or, [], ap, sym, ◌∙◌, arith, length-append}
use Rattle.std.specs.Borrow.{Bor}
use Rattle.semantics.specs.Texts.{Bytes}
use Rattle.file_core.proofs.Pieces.{joined-take_more}
use Rattle.cnf_core.proofs.Pieces.{joined-next}
use Rattle.cnf_core.proofs.text_token.TextToken.of.Goals as goal

pub loop-piece-preserved : goal.loop-piece-preserved
loop-piece-preserved c =
    let pieces = c.args.pieces.now in
    let i = c.loop-piece.piece-index in
    let none : Bor Bytes = record { ref_ptr = (0, 0); now = [] } in
    let kept = c.loop-piece.invariant in
    record {
      written = c.put-end.ensures.written ∙ ap (λ (t : Bytes). t ++ (get_or pieces i none).now) kept.written ∙ sym (joined-take_more pieces i none c.loop-piece-test.true);
      end = omega (arith, c.put-end.ensures.end, kept.end, ap (λ (t : Bytes). length t) (joined-next pieces i none c.loop-piece-test.true), length-append {A = ℕ});
    }
