use Rattle.std.proofs.Common.{true, false, replicate, get_or, ap, ◌∙◌, arith}
use Rattle.std.proofs.lemmas.List.{with_items_is}
use Rattle.net_tidy.proofs.Marking.{flagged_raised, marked_alone}
use Rattle.net_tidy.proofs.first_flags.first_flags.Goals as goal

pub loop-t-init : goal.loop-t-init
loop-t-init c = flagged_raised c.args.net.now c.in_ok-flags.flags (c.in_ok-flags.ensures ∙ ap (λ n. replicate n true) c.tables.ensures.value)

pub settle_at-requires-clause-output : goal.settle_at-requires-clause-output
settle_at-requires-clause-output c = λ s.
    ap (λ l. get_or l s false)
    (c.deref-in-loop-t.ensures.value ∙ with_items_is c.in_ok-output.output c.mark.new.marks (omega (arith, c.mark.auto.marks, c.deref_mut-2.ensures.len)))
    ∙ marked_alone c.output_signals.result.now c.args.net.now.outputs c.deref_mut-2.result.now c.mark.new.marks _ s
    (c.deref_mut-2.ensures.value ∙ c.in_ok-output.ensures.items_if_clones_equal (λ y is. is))
    c.output_signals.ensures (c.mark.ensures s)
