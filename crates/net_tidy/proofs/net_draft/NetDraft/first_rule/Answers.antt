use Rattle.std.proofs.Common.{ap, ◌∙◌, arith}
use Rattle.semantics.specs.Net.{table_count}
use Rattle.net_tidy.specs.Places.{DraftValue}
use Rattle.net_tidy.proofs.Flagged.{none_until}
use Rattle.net_tidy.proofs.net_draft.NetDraft.first_rule.Goals as goal

pub loop-t-preserved : goal.loop-t-preserved
loop-t-preserved c =
    let same = c.seek_at.ensures.same ∙ c.loop-t.invariant.same in
    let below = c.next_place-t.ensures.within in
    record {
      same = same;
      within = omega (arith, below, ap (λ (D : DraftValue). table_count D.net) same);
      none = none_until c.args.self.now c.loop-t.self c.seek_at.new.self c.loop-t.t c.next_place-t.result c.loop-t.invariant.same same c.loop-t.invariant.none c.in_default.ensures.found
          c.next_place-t.ensures.none;
    }
