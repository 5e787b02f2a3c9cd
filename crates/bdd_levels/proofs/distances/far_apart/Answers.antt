use Rattle.std.proofs.Common.{sym, arith}
use Rattle.bus_nets.proofs.Numbers.{both_ok}
use Rattle.quality_semantics.proofs.Growth.{begins_after, signals_kept}
use Rattle.bdd_levels.proofs.Subtraction.{far_made}
use Rattle.bdd_levels.proofs.distances.far_apart.Goals as goal

pub returns-clause-value : goal.returns-clause-value
returns-clause-value c =
    both_ok c.append_form.result _ _ (λ s signal net. far_made _ _ _ _ _ _ _ _ _ _ _ _ _ s _ _ (sym c.len-width.ensures) c.in_ok-bits.ensures.is c.in_ok-scaled.ensures.number
    c.in_ok-scaled.ensures.begins c.in_ok-over.ensures.value c.in_ok-over.ensures.begins c.in_ok-under.ensures.value c.in_ok-under.ensures.begins net signal)
    c.append_form.ensures.signal c.append_form.ensures.ok

pub difference-requires : goal.difference-requires
difference-requires c = record { x_in = c.requires.x_in; y_in = c.requires.y_in; widths = c.requires.widths }

pub times-requires : goal.times-requires
times-requires c = c.in_ok-bits.ensures.within.0

pub greater-requires : goal.greater-requires
greater-requires c = record {
  x_in = c.in_ok-scaled.ensures.within;
  y_in = signals_kept c.args.net.now c.times.new.self c.args.level.now
      (begins_after c.args.net.now c.difference.new.net c.times.new.self c.in_ok-scaled.ensures.begins c.in_ok-bits.ensures.begins) c.requires.level_in;
}

pub is_short-requires : goal.is_short-requires
is_short-requires c = record {
  narrow = omega (arith, c.requires.narrow, c.len-width.ensures);
  x_in = signals_kept c.args.net.now c.greater.new.self c.args.level.now
      (begins_after c.args.net.now c.times.new.self c.greater.new.self c.in_ok-over.ensures.begins
      (begins_after c.args.net.now c.difference.new.net c.times.new.self c.in_ok-scaled.ensures.begins c.in_ok-bits.ensures.begins)) c.requires.level_in;
  y_in = signals_kept c.times.new.self c.greater.new.self c.in_ok-scaled.scaled c.in_ok-over.ensures.begins c.in_ok-scaled.ensures.within;
}

pub returns-clause-begins : goal.returns-clause-begins
returns-clause-begins c =
    begins_after c.args.net.now c.is_short.new.net c.append_form.new.self c.append_form.ensures.begins
    (begins_after c.args.net.now c.greater.new.self c.is_short.new.net c.in_ok-under.ensures.begins
    (begins_after c.args.net.now c.times.new.self c.greater.new.self c.in_ok-over.ensures.begins
    (begins_after c.args.net.now c.difference.new.net c.times.new.self c.in_ok-scaled.ensures.begins c.in_ok-bits.ensures.begins)))

pub returns-clause-more : goal.returns-clause-more
returns-clause-more c =
    omega (arith, c.in_ok-bits.ensures.more, c.in_ok-scaled.ensures.more, c.in_ok-over.ensures.more, c.in_ok-under.ensures.more, c.append_form.ensures.more)
