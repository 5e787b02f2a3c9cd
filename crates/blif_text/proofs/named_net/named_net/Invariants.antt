use Rattle.std.proofs.Common.{◌≡◌, map, drop}
use Rattle.blif_semantics.specs.Lines.{words_of}
use Rattle.blif_text.specs.NamedNets.{nothing_read, with_rest}
use Rattle.blif_text.proofs.named_net.named_net.Given as goal

abbrev pub invariant-loop-line : goal.invariant-loop-line
invariant-loop-line l =
    with_rest l.so_far (map (λ x. words_of x.bytes) (drop l.line-index l.lines)) ≡ with_rest nothing_read (map (λ x. words_of x.bytes) l.lines)
