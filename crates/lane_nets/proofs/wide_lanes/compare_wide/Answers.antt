use Rattle.std.proofs.Common.{Bool, ◌≡◌, not, get_or, refl, ap, ◌∙◌}
use Rattle.lane_bits.specs.Rows.{turned}
use Rattle.lane_nets.specs.Words.{word_bit}
use Rattle.lane_nets.specs.Numbers.{sum_of}
use Rattle.lane_nets.proofs.Comparing.{goes_on}
use Rattle.lane_nets.proofs.WideErrors.{and_lane, or_lane, xor_lane}
use Rattle.lane_nets.proofs.wide_lanes.compare_wide.Goals as goal

pub returns : goal.returns
returns c = λ j b lane low.
    let x : Bool = word_bit (get_or c.args.low j 0) b in
    let y : Bool = word_bit (get_or c.args.high j 0) b in
    let k : Bool = word_bit (get_or c.args.so_far.carry j 0) b in
    let a : Bool = word_bit (get_or c.args.so_far.above j 0) b in
    let s : Bool = sum_of x c.args.one k in
    let constant : word_bit (get_or c.equal_words-constant.result j 0) b ≡ c.args.one = ap (λ w. word_bit w b) (c.equal_words-constant.ensures j lane) ∙ c.bit_word.ensures b low in
    let half : word_bit (get_or c.xor_wide-half.result j 0) b ≡ turned c.args.one x = xor_lane _ _ _ b x c.args.one (c.xor_wide-half.ensures j lane) refl constant in
    let sum : word_bit (get_or c.xor_wide-sum.result j 0) b ≡ s = xor_lane _ _ _ b (turned c.args.one x) k (c.xor_wide-sum.ensures j lane) half refl in
    let apart : word_bit (get_or c.xor_wide-apart.result j 0) b ≡ turned s y = xor_lane _ _ _ b y s (c.xor_wide-apart.ensures j lane) refl sum in
    goes_on x y c.args.one k a _ _
    (or_lane _ _ _ b _ _ (c.or_wide-carry.ensures j lane) (and_lane _ _ _ b x c.args.one (c.and_wide.ensures j lane) refl constant)
    (and_lane _ _ _ b (turned c.args.one x) k (c.and_wide-2.ensures j lane) half refl))
    (or_lane _ _ _ b _ _ (c.or_wide-above.ensures j lane) (and_lane _ _ _ b y (not s) (c.and_wide-more.ensures j lane) refl (c.not_wide.ensures j b lane low ∙ ap not sum))
    (and_lane _ _ _ b a (not (turned s y)) (c.and_wide-3.ensures j lane) refl (c.not_wide-2.ensures j b lane low ∙ ap not apart)))
