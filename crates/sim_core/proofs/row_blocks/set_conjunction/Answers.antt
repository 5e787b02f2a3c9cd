use Rattle.std.proofs.Common.{◌≡◌, ℕ, ◌+◌, ◌*◌, ◌<◌, ◌≤◌, ◌&&◌, ◌++◌, List, length, take, drop, refl, ap, ◌∙◌, arith}
use Rattle.std.proofs.lemmas.List.{length-take-le}
use Rattle.lane_bits.specs.Rows.{row_bit, turned}
use Rattle.sim_core.proofs.Joined.{joined-row, joined-before, part_before, row_bit-front}
use Rattle.sim_core.proofs.row_blocks.set_conjunction.Goals as goal

-- the part that is written has `words` words
part_long : (rest row dst : List ℕ) (words start all : ℕ) → length rest + start ≡ all → start + words ≤ all → length dst ≡ length (take words rest) → length row ≡ length dst → length row ≡ words
part_long rest row dst words start all back ends long same = let wide : length (take words rest) ≡ words = length-take-le words rest (omega (arith, back, ends)) in same ∙ long ∙ wide

pub returns-clause-bits : goal.returns-clause-bits
returns-clause-bits c = λ p low.
    let s = c.split_at_mut-before.ensures in
    let front = c.split_at_mut-before.result.0.now in
    let rest = c.split_at_mut-before.result.1.now in
    let wide : length c.clear_past.new.row ≡ c.args.words =
    part_long rest c.clear_past.new.row c.and_rows.new.dst c.args.words c.args.start _ s.back_len c.requires.within c.and_rows.auto.dst c.clear_past.auto.row in
    let within : p < 64 * c.args.words = omega (arith, low, c.requires.words) in
    let inside : p < 64 * length (take c.args.words rest) = omega (arith, within, wide, c.and_rows.auto.dst, c.clear_past.auto.row) in
    joined-row front c.clear_past.new.row (drop c.args.words rest) (front ++ (c.clear_past.new.row ++ drop c.args.words rest)) c.args.start refl s.front_len p (omega (arith, within, wide))
    ∙ c.clear_past.ensures.same p low ∙ c.and_rows.ensures p inside
    ∙ (λ j. turned c.args.left.flip (part_before c.args.rows.now front c.args.start c.args.left.start c.args.words p s.front c.requires.left within j)
    && turned c.args.right.flip (part_before c.args.rows.now front c.args.start c.args.right.start c.args.words p s.front c.requires.right within j))

pub returns-clause-clear : goal.returns-clause-clear
returns-clause-clear c = λ p past within.
    let s = c.split_at_mut-before.ensures in
    let front = c.split_at_mut-before.result.0.now in
    let rest = c.split_at_mut-before.result.1.now in
    let wide : length c.clear_past.new.row ≡ c.args.words =
    part_long rest c.clear_past.new.row c.and_rows.new.dst c.args.words c.args.start _ s.back_len c.requires.within c.and_rows.auto.dst c.clear_past.auto.row in
    joined-row front c.clear_past.new.row (drop c.args.words rest) (front ++ (c.clear_past.new.row ++ drop c.args.words rest)) c.args.start refl s.front_len p (omega (arith, within, wide))
    ∙ c.clear_past.ensures.clear p past

pub returns-clause-before : goal.returns-clause-before
returns-clause-before c = λ q low.
    let s = c.split_at_mut-before.ensures in
    let front = c.split_at_mut-before.result.0.now in
    let rest = c.split_at_mut-before.result.1.now in
    joined-before front c.clear_past.new.row (drop c.args.words rest) (front ++ (c.clear_past.new.row ++ drop c.args.words rest)) c.args.start refl s.front_len q low
    ∙ ap (λ (xs : List ℕ). row_bit xs q) s.front ∙ row_bit-front c.args.rows.now c.args.start q low
