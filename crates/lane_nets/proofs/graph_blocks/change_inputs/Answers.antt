use Rattle.std.proofs.Common.{refl, inl, length, get_or, ◌+◌, ◌<◌, [], arith}
use Rattle.lane_nets.proofs.GraphWords.{input_read, inputs_set, inputs_kept}
use Rattle.lane_nets.proofs.Schedules.{changed_more, later_more, constant_more}
use Rattle.lane_nets.proofs.graph_blocks.change_inputs.Goals as goal
use Rattle.lane_nets.proofs.graph_blocks.change_inputs.Goals.{then-is_marked, else-is_marked}

pub loop-s-init : goal.loop-s-init
loop-s-init c = record {
  inputs = λ i none. absurd (omega (arith, none));
  changed = λ n. inl (λ j b lane low. refl);
  constant = λ j b lane low. refl;
  later = λ n past j b lane low. refl;
}

pub loop-s-preserved : goal.loop-s-preserved
loop-s-preserved c =
    let s = c.args.next.now.patterns.now in
    let room : 1 + c.loop-s.s < length c.loop-s.wides = omega (arith, c.requires.room, c.loop-s.auto.wides, c.loop-s-test.true, c.loop-s.auto.s-end) in
    elim c.if-is_marked.branch [
      | then-is_marked w ↦
          rw (w.wides-is, w.from-is)
          (record {
            inputs =
                inputs_set s c.args.next.now.q c.loop-s.wides c.loop-s.s w.wide_at-wide.result room
                (input_read s.vectors c.loop-s.wides w.row.result.now w.wide_at-wide.result c.args.next.now.q c.loop-s.s room w.row.ensures.bits w.wide_at-wide.ensures) c.loop-s.invariant.inputs;
            changed =
                changed_more c.args.wides.now c.loop-s.wides (1 + c.loop-s.s) w.wide_at-wide.result room c.args.firsts.now c.loop-s.from w.first_changed-from.result
                (get_or c.args.firsts.now (1 + c.loop-s.s) 0) (get_or c.loop-s.wides (1 + c.loop-s.s) []) refl refl w.first_changed-from.ensures.most w.first_changed-from.ensures.changed
                (c.loop-s.invariant.later (1 + c.loop-s.s) (omega arith)) c.loop-s.invariant.changed;
            constant = constant_more c.args.wides.now c.loop-s.wides (1 + c.loop-s.s) w.wide_at-wide.result room (omega arith) c.loop-s.invariant.constant;
            later = λ n past. later_more c.args.wides.now c.loop-s.wides (1 + c.loop-s.s) w.wide_at-wide.result room c.loop-s.invariant.later n (omega (arith, past));
          })
      | else-is_marked w ↦
          rw (w.wides-is, w.from-is)
          (record {
            inputs =
                inputs_kept s c.args.next.now.q c.args.wides.now c.loop-s.wides c.loop-s.s (c.loop-s.invariant.later (1 + c.loop-s.s) (omega arith))
                (c.requires.kept c.loop-s.s (omega (arith, c.loop-s-test.true, c.loop-s.auto.s-end)) (c.is_marked.ensures w.if-is_marked.false)) c.loop-s.invariant.inputs;
            changed = c.loop-s.invariant.changed;
            constant = c.loop-s.invariant.constant;
            later = λ n past. c.loop-s.invariant.later n (omega (arith, past));
          })
    ]
