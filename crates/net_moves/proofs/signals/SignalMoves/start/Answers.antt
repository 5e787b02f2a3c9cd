use Rattle.std.proofs.Common.{◌≡◌, length, ap, ◌∙◌, arith}
use Rattle.std.proofs.lemmas.List.{with_items_is}
use Rattle.semantics.specs.Net.{signal_count}
use Rattle.net_moves.specs.Left.{RoomAndMoves}
use Rattle.net_moves.proofs.Lists.{all_signals_left}
use Rattle.net_moves.proofs.signals.SignalMoves.start.Goals as goal

pub returns : goal.returns
returns c =
    let items = with_items_is c.self.inside.marks c.mark_dependents.new.marks (omega arith) in
    let whole : length c.mark_dependents.new.marks ≡ signal_count c.args.net.now =
    c.mark_dependents.auto.marks ∙ ap length c.deref_mut.ensures.value ∙ ap (λ (m : RoomAndMoves). m.room) c.self.view_is ∙ c.requires.room in
    rw items (all_signals_left c.args.net.now c.args.t c.args.self.now.room c.mark_dependents.new.marks c.mark_dependents.ensures.built.sound.acyclic whole c.requires.room
    c.mark_dependents.ensures.marks)
