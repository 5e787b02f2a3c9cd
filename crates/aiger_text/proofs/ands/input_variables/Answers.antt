use Rattle.std.proofs.Common.{◌≡◌, ◌+◌, [], ◌∷◌, ◌++◌, sym, ap, ◌∙◌, arith}
use Rattle.std.specs.List.{range_with_len}
use Rattle.aiger_text.proofs.NetAnds.{range_more}
use Rattle.aiger_text.proofs.ands.input_variables.Goals as goal

pub loop-i-preserved : goal.loop-i-preserved
loop-i-preserved c =
    let same : c.loop-i.i + 1 ≡ 1 + c.loop-i.i = omega arith in
    c.in_ok-push.ensures.ok ∙ ap (λ l. l ++ (c.loop-i.i + 1) ∷ []) c.loop-i.invariant
    ∙ ap (λ k. range_with_len 1 c.loop-i.i ++ k ∷ []) same ∙ sym (range_more 1 c.loop-i.i)
