use Rattle.std.proofs.Common.{◌≡◌, ◌<◌, ◌^◌, true, rules, arith}
use Rattle.std.specs.Prelude.{slice_index}
use Rattle.semantics.specs.Decimal.{is_digit}
use Rattle.cnf_core.proofs.FrontDigits.{digits_step}
use Rattle.cnf_core.proofs.front_digits.take_digits.Goals as goal

pub loop-count-preserved : goal.loop-count-preserved
loop-count-preserved c =
    let i = c.loop-count.count in
    let digit : is_digit (slice_index c.args.bytes.now i) ≡ true = search rules in
    let small : c.loop-count.size < 2 ^ 59 = omega (arith, c.if-size-ge-LARGE.false) in
    (digits_step c.args.number c.loop-count.size i c.args.bytes.now (omega arith) digit small c.loop-count.invariant.1 c.loop-count.invariant.0, λ zero. omega (arith, zero))
