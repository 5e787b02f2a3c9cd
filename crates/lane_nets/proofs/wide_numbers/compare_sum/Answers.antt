use Rattle.std.proofs.Common.{Bool, ◌≡◌, not, get_or, refl, ap, ◌∙◌}
use Rattle.lane_bits.specs.Rows.{turned}
use Rattle.lane_nets.specs.Words.{word_bit}
use Rattle.lane_nets.specs.Numbers.{sum_of}
use Rattle.lane_nets.proofs.Comparing.{goes_on}
use Rattle.lane_nets.proofs.WideErrors.{and_lane, or_lane, xor_lane}
use Rattle.lane_nets.proofs.wide_numbers.compare_sum.Goals as goal

pub returns : goal.returns
returns c = λ j b lane low.
    let x : Bool = word_bit (get_or c.args.first j 0) b in
    let z : Bool = word_bit (get_or c.args.second j 0) b in
    let y : Bool = word_bit (get_or c.args.high j 0) b in
    let k : Bool = word_bit (get_or c.args.so_far.carry j 0) b in
    let a : Bool = word_bit (get_or c.args.so_far.above j 0) b in
    let s : Bool = sum_of x z k in
    let half : word_bit (get_or c.xor_wide-half.result j 0) b ≡ turned z x = xor_lane _ _ _ b x z (c.xor_wide-half.ensures j lane) refl refl in
    let sum : word_bit (get_or c.xor_wide-sum.result j 0) b ≡ s = xor_lane _ _ _ b (turned z x) k (c.xor_wide-sum.ensures j lane) half refl in
    let apart : word_bit (get_or c.xor_wide-apart.result j 0) b ≡ turned s y = xor_lane _ _ _ b y s (c.xor_wide-apart.ensures j lane) refl sum in
    goes_on x y z k a _ _
    (or_lane _ _ _ b _ _ (c.or_wide-carry.ensures j lane) (and_lane _ _ _ b x z (c.and_wide.ensures j lane) refl refl)
    (and_lane _ _ _ b (turned z x) k (c.and_wide-2.ensures j lane) half refl))
    (or_lane _ _ _ b _ _ (c.or_wide-above.ensures j lane) (and_lane _ _ _ b y (not s) (c.and_wide-more.ensures j lane) refl (c.not_wide.ensures j b lane low ∙ ap not sum))
    (and_lane _ _ _ b a (not (turned s y)) (c.and_wide-3.ensures j lane) refl (c.not_wide-2.ensures j b lane low ∙ ap not apart)))
