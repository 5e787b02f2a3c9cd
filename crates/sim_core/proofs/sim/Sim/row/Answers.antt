use Rattle.std.proofs.Common.{◌≡◌, ℕ, ◌+◌, ◌*◌, ◌/◌, ◌<◌, ◌≤◌, length, ap, sym, ◌∙◌, arith}
use Rattle.lane_bits.specs.Rows.{word_count}
use Rattle.sim_core.specs.Simulation.{SimValue}
use Rattle.sim_core.proofs.Joined.{part_read}
use Rattle.sim_core.proofs.Values.{row_ends, literal_row}
use Rattle.sim_core.proofs.sim.Sim.row.Goals as goal

-- a literal's node has its row among those of all nodes
row_room : (l nodes all_nodes count all_count wide all : ℕ) → l < 2 * all_nodes → nodes ≡ all_nodes → count ≡ all_count → wide ≡ word_count all_count → all ≡ nodes * word_count count
    → l / 2 * wide + wide ≤ all
row_room l nodes all_nodes count all_count wide all low same_nodes same_count is room =
    let words : wide ≡ word_count count = is ∙ ap word_count (sym same_count) in
    let fit : nodes * wide ≡ nodes * word_count count = ap (λ w. nodes * w) words in
    omega (arith, row_ends (l / 2) nodes wide (omega (arith, low, same_nodes)), fit, room)

pub side_of-from-requires : goal.side_of-from-requires
side_of-from-requires c =
    row_room c.args.literal c.self.inside.nodes c.args.self.now.nodes c.self.inside.count c.args.self.now.count (length c.args.dst.now) (length c.as_slice-rows.result.now) c.requires.literal
    (ap (λ (s : SimValue). s.nodes) c.self.view_is) (ap (λ (s : SimValue). s.count) c.self.view_is) c.requires.room (ap length c.as_slice-rows.ensures.value ∙ c.self.invariant)

pub returns : goal.returns
returns c = λ g vectors is.
    let count = ap (λ (s : SimValue). s.count) c.self.view_is in
    literal_row g vectors c.args.self.now.rows _ c.and_rows.new.dst c.clear_past.new.row c.args.literal c.self.inside.count (length c.args.dst.now) c.side_of-from.result.flip
    (omega (arith, c.requires.literal, is.is_for.nodes)) (count ∙ is.is_for.count) is.rows c.side_of-from.ensures.flip (c.and_rows.auto.dst ∙ c.requires.room ∙ ap word_count (sym count))
    (sym c.and_rows.auto.dst)
    (λ p low. part_read c.as_slice-rows.result.now c.args.self.now.rows c.side_of-from.result.start (length c.args.dst.now) (c.args.literal / 2 * length c.args.dst.now) p
    (c.as_slice-rows.ensures.value ∙ ap (λ (s : SimValue). s.rows) c.self.view_is) c.side_of-from.ensures.start low)
    c.and_rows.ensures c.clear_past.ensures.same c.clear_past.ensures.clear c.clear_past.auto.row
