-- What the quality network of one word says.
use Rattle.std.proofs.Common.{◌≡◌, ℕ, zero, suc, ◌*◌, ◌<◌, ◌≤◌, max, if◌then◌else◌, List, length, map, ltb, leb, inl, inr, refl, ap, sym, ◌∙◌, arith}
use Rattle.std.proofs.lemmas.Bool.{cases_lt, le-leb, lt-leb, le-ltb}
use Rattle.std.proofs.lemmas.Bool.Decides.{nat_tests}
use Rattle.std.proofs.lemmas.List.{length-map}
use Rattle.semantics.specs.Value.{Assignment}
use Rattle.semantics.specs.declared.metric.Kind.{Kind}
use Rattle.semantics.specs.declared.metric.Kind.TheVariants.{Abs, Rel, Ham, Sabs}
use Rattle.semantics.specs.Error.{distance, word_error, greatest_error}
use Rattle.semantics.proofs.Sizes.{word_error-le}
use Rattle.semantics.proofs.Signed.{flipped_error}
use Rattle.quality_semantics.specs.WordNets.{WordNetValue, BeginsWith}
use Rattle.quality_semantics.specs.Buses.{WithSignal, constant, times, not_zero_low, flip_top, differ, binary, places}
use Rattle.quality_semantics.specs.Quality.{absolute_excess, relative_excess, differing_excess, signed_excess, excess, word_quality}
use Rattle.quality_semantics.specs.Laws.{Fits, IsWordPair, number}
use Rattle.quality_semantics.proofs.Growth.{begins_itself, begins_after, begins_times, begins_low, begins_differences, begins_exceed, begins_at_least, signals_kept, Fits-earlier}
use Rattle.quality_semantics.proofs.Numbers.{exceed_value, constant_number, times_number, not_zero_number}
use Rattle.quality_semantics.proofs.Signed.{begins_flip_top, flip_top_formed, flip_top_bits}
use Rattle.quality_semantics.proofs.Counts.{differ_count, at_least_value}
use Rattle.quality_semantics.proofs.Formed.{HasSignal, zero_below, exceed_formed, constant_formed, times_formed, not_zero_formed, differ_formed, at_least_formed}
use Rattle.quality_semantics.proofs.Rounding.{rounded_up_exceeds}

-- a network that begins with W, well formed, whose signal says whether the error of the two words exceeds k
pub record IsExcess (kind : Kind) (W : WordNetValue) (e a : List ℕ) (k : ℕ) (r : WithSignal) : Type 0 where
  pub begins : BeginsWith r.net W
  pub formed : HasSignal r
  pub value : (v : Assignment) → Fits v r.net → v r.signal ≡ ltb k (word_error kind (map v e) (map v a))

map_widths : (v : Assignment) (W : WordNetValue) (e a : List ℕ) → IsWordPair W e a → length (map v e) ≡ length (map v a)
map_widths v W e a h = length-map e v ∙ h.widths ∙ sym (length-map a v)

absolute_is : (W : WordNetValue) (e a : List ℕ) (k : ℕ) → IsWordPair W e a → IsExcess Abs W e a k (absolute_excess W e a k)
absolute_is W e a k pair =
    let bound = constant W k in
    let begins = begins_exceed W e a bound in
    record {
      begins = begins;
      formed = exceed_formed W e a bound pair.formed pair.exact pair.approximate (constant_formed W k pair.formed);
      value = λ v h.
          let level = constant_number v W k (Fits-earlier v _ W begins h) in
          exceed_value v W e a bound h ∙ rw level refl;
    }

lt_as_le : (k n : ℕ) → leb (suc k) n ≡ ltb k n
lt_as_le k n = grind (arith, nat_tests)

differing_is : (W : WordNetValue) (e a : List ℕ) (k : ℕ) → IsWordPair W e a → IsExcess Ham W e a k (differing_excess W e a k)
differing_is W e a k pair =
    let d = differ W e a in
    let to_d = begins_differences W (places W.inputs e a) in
    let to_end = begins_at_least d.net d.bus (suc k) in
    let at_d = differ_formed W e a pair.formed pair.exact pair.approximate in
    record {
      begins = begins_after W d.net _ to_end to_d;
      formed = at_least_formed d.net d.bus (suc k) at_d.net at_d.bus;
      value = λ v h.
          let count = differ_count v W e a pair.widths (Fits-earlier v _ d.net to_end h) in
          at_least_value v d.net d.bus (suc k) h ∙ rw count (lt_as_le k _);
    }

scaled : (e a : ℕ) → distance (1000000 * e) (1000000 * a) ≡ distance e a * 1000000
scaled e a = omega arith

one_or_more : (e : ℕ) → 1 ≤ max 1 e
one_or_more e = grind arith

relative_is : (W : WordNetValue) (e a : List ℕ) (k : ℕ) → 0 < length e → IsWordPair W e a → IsExcess Rel W e a k (relative_excess W e a k)
relative_is W e a k some pair =
    let m = not_zero_low W e in
    let x = times m.net e 1000000 in
    let y = times x.net a 1000000 in
    let z = times y.net m.bus k in
    let to_m = begins_low W e in
    let to_x = begins_times m.net e (binary 1000000) in
    let to_y = begins_times x.net a (binary 1000000) in
    let to_z = begins_times y.net m.bus (binary k) in
    let to_end = begins_exceed z.net x.bus y.bus z.bus in
    let at_m = not_zero_formed W e pair.formed pair.exact in
    let at_x = times_formed m.net e 1000000 at_m.net (signals_kept W m.net e to_m pair.exact) in
    let at_y = times_formed x.net a 1000000 at_x.net (signals_kept m.net x.net a to_x (signals_kept W m.net a to_m pair.approximate)) in
    let m_in = signals_kept x.net y.net m.bus to_y (signals_kept m.net x.net m.bus to_x at_m.bus) in
    let at_z = times_formed y.net m.bus k at_y.net m_in in
    let x_in = signals_kept y.net z.net x.bus to_z (signals_kept x.net y.net x.bus to_y at_x.bus) in
    let y_in = signals_kept y.net z.net y.bus to_z at_y.bus in
    record {
      begins = begins_after W m.net _ (begins_after m.net x.net _ (begins_after x.net y.net _ (begins_after y.net z.net _ to_end to_z) to_y) to_x) to_m;
      formed = exceed_formed z.net x.bus y.bus z.bus at_z.net x_in y_in at_z.bus;
      value = λ v h.
          let at_end = Fits-earlier v _ z.net to_end h in
          let fits_y = Fits-earlier v z.net y.net to_z at_end in
          let fits_x = Fits-earlier v y.net x.net to_y fits_y in
          let fits_m = Fits-earlier v x.net m.net to_x fits_x in
          let exact = times_number v m.net e 1000000 fits_x in
          let approximate = times_number v x.net a 1000000 fits_y in
          let divisor = not_zero_number v W e some fits_m in
          let level = times_number v y.net m.bus k at_end in
          exceed_value v z.net x.bus y.bus z.bus h
          ∙ rw (exact, approximate, level, divisor, scaled (number v e) (number v a))
          (sym (rounded_up_exceeds (distance (number v e) (number v a) * 1000000) (max 1 (number v e)) k (one_or_more (number v e))));
    }

signed_is : (W : WordNetValue) (e a : List ℕ) (k : ℕ) → 0 < length e → IsWordPair W e a → IsExcess Sabs W e a k (signed_excess W e a k)
signed_is W e a k some pair =
    let x = flip_top W e in
    let y = flip_top x.net a in
    let bound = constant y.net k in
    let to_x = begins_flip_top W e in
    let to_y = begins_flip_top x.net a in
    let to_end = begins_exceed y.net x.bus y.bus bound in
    let at_x = flip_top_formed W e pair.formed pair.exact in
    let at_y = flip_top_formed x.net a at_x.net (signals_kept W x.net a to_x pair.approximate) in
    let x_in = signals_kept x.net y.net x.bus to_y at_x.bus in
    record {
      begins = begins_after W x.net _ (begins_after x.net y.net _ to_end to_y) to_x;
      formed = exceed_formed y.net x.bus y.bus bound at_y.net x_in at_y.bus (constant_formed y.net k at_y.net);
      value = λ v h.
          let fits_y = Fits-earlier v _ y.net to_end h in
          let fits_x = Fits-earlier v y.net x.net to_y fits_y in
          let exact = flip_top_bits v W e some fits_x in
          let approximate = flip_top_bits v x.net a (omega (arith, pair.widths, some)) fits_y in
          let level = constant_number v y.net k fits_y in
          exceed_value v y.net x.bus y.bus bound h
          ∙ rw (level, exact, approximate) refl
          ∙ ap (ltb k) (sym (flipped_error (map v e) (map v a) (map_widths v W e a pair)));
    }

-- no error of two words exceeds a level from the greatest error on
no_excess_is : (kind : Kind) (W : WordNetValue) (e a : List ℕ) (k : ℕ) → IsWordPair W e a → greatest_error kind (length e) ≤ k → IsExcess kind W e a k (record { net = W; signal = W.inputs })
no_excess_is kind W e a k pair high = record {
  begins = begins_itself W;
  formed = record { net = pair.formed; signal = zero_below W pair.formed };
  value = λ v h.
      let within = word_error-le kind (length e) (map v e) (map v a) (length-map e v) (length-map a v ∙ sym pair.widths) in
      h.zero ∙ sym (le-ltb k _ (omega (arith, within, high)));
}

some_places : (kind : Kind) (w k : ℕ) → k < greatest_error kind w → 0 < w
some_places kind (suc w) k low = omega arith
some_places Abs zero k low = absurd (omega (arith, low))
some_places Rel zero k low = absurd (omega (arith, low))
some_places Ham zero k low = absurd (omega (arith, low))
some_places Sabs zero k low = absurd (omega (arith, low))

excess_is : (kind : Kind) (W : WordNetValue) (e a : List ℕ) (k : ℕ) → IsWordPair W e a → k < greatest_error kind (length e) → IsExcess kind W e a k (excess kind W e a k)
excess_is Abs W e a k pair low = absolute_is W e a k pair
excess_is Rel W e a k pair low = relative_is W e a k (some_places Rel (length e) k low) pair
excess_is Ham W e a k pair low = differing_is W e a k pair
excess_is Sabs W e a k pair low = signed_is W e a k (some_places Sabs (length e) k low) pair

pub quality_zero : (kind : Kind) (W : WordNetValue) (e a : List ℕ) (k : ℕ) → greatest_error kind (length e) ≤ k → word_quality kind W e a k ≡ record { net = W; signal = W.inputs }
unfolding word_quality
quality_zero kind W e a k high = ap (λ b. if b then record { net = W; signal = W.inputs } else excess kind W e a k) (le-leb (greatest_error kind (length e)) k high)

pub quality_excess : (kind : Kind) (W : WordNetValue) (e a : List ℕ) (k : ℕ) → k < greatest_error kind (length e) → word_quality kind W e a k ≡ excess kind W e a k
unfolding word_quality
quality_excess kind W e a k low = ap (λ b. if b then record { net = W; signal = W.inputs } else excess kind W e a k) (lt-leb (greatest_error kind (length e)) k low)

pub word_quality_is : (kind : Kind) (W : WordNetValue) (e a : List ℕ) (k : ℕ) → IsWordPair W e a → IsExcess kind W e a k (word_quality kind W e a k)
word_quality_is kind W e a k pair =
    elim (cases_lt k (greatest_error kind (length e))) [
      | inl low ↦ rw (quality_excess kind W e a k low) (excess_is kind W e a k pair low)
      | inr high ↦ rw (quality_zero kind W e a k high) (no_excess_is kind W e a k pair high)
    ]
