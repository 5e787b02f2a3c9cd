use Rattle.std.proofs.Common.{◌-◌, ◌^◌, ◌≤◌, arith}
use Rattle.std.proofs.Math.Nat.{pow-le-pow_right}
use Rattle.graph_questions.proofs.gap_question.gap_places.Goals as goal

pub returns : goal.returns
returns c =
    let found = c.in-Some.ensures in
    let least = c.in-Some.least in
    let most = c.if-least-gt-MOST_PLACES.false in
    let up : least ≤ c.min-2.result = omega (arith, found, most, c.min.ensures, c.min-2.ensures) in
    let grown : 2 ^ (least - 2) ≤ 2 ^ (c.min-2.result - 2) = pow-le-pow_right {n = 2} (omega arith) (omega (arith, up)) in
    (omega (arith, up, found), omega (arith, found, c.min.ensures, c.min-2.ensures), omega (arith, c.min-2.ensures), omega (arith, grown, found), c.is_distance.ensures c.if-not-is_distance.false)
