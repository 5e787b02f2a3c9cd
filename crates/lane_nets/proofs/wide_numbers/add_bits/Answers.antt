use Rattle.std.proofs.Common.{Bool, ◌≡◌, get_or, refl}
use Rattle.lane_bits.specs.Rows.{turned}
use Rattle.lane_nets.specs.Words.{word_bit}
use Rattle.lane_nets.proofs.WideErrors.{and_lane, or_lane, xor_lane}
use Rattle.lane_nets.proofs.wide_numbers.add_bits.Goals as goal

pub returns : goal.returns
returns c = record {
  sum = λ j b lane low.
      let x : Bool = word_bit (get_or c.args.first j 0) b in
      let z : Bool = word_bit (get_or c.args.second j 0) b in
      let half : word_bit (get_or c.xor_wide-half.result j 0) b ≡ turned z x = xor_lane _ _ _ b x z (c.xor_wide-half.ensures j lane) refl refl in
      xor_lane _ _ _ b (turned z x) (word_bit (get_or c.args.carry j 0) b) (c.xor_wide.ensures j lane) half refl;
  carry = λ j b lane low.
      let x : Bool = word_bit (get_or c.args.first j 0) b in
      let z : Bool = word_bit (get_or c.args.second j 0) b in
      let half : word_bit (get_or c.xor_wide-half.result j 0) b ≡ turned z x = xor_lane _ _ _ b x z (c.xor_wide-half.ensures j lane) refl refl in
      or_lane _ _ _ b _ _ (c.or_wide.ensures j lane) (and_lane _ _ _ b x z (c.and_wide.ensures j lane) refl refl)
      (and_lane _ _ _ b (turned z x) (word_bit (get_or c.args.carry j 0) b) (c.and_wide-2.ensures j lane) half refl);
}
