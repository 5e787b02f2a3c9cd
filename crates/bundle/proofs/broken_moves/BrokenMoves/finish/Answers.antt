use Rattle.std.proofs.Common.{ap, subst, ◌∙◌}
use Rattle.std.specs.Prelude.{◌↔◌, IsTrue}
use Rattle.std.specs.List.{list_all}
use Rattle.bundle.specs.Shown.{AskedValue, BrokenValue, AreAllBroken}
use Rattle.bundle.proofs.Marks.{all_shown}
use Rattle.bundle.proofs.broken_moves.BrokenMoves.finish.Goals as goal

pub returns : goal.returns
returns c vectors seen =
    subst (λ (a : AskedValue). IsTrue c.are_all.result ↔ AreAllBroken a vectors) c.in_ok-drop_block.ensures.asked
    (all_shown c.drop_block.new.self c.are_all.result
    (c.are_all.ensures ∙ ap (list_all (λ mark. mark)) (c.deref.ensures.value ∙ ap (λ (b : BrokenValue). b.marks) c.rest.view_is))
    c.in_ok-drop_block.ensures.ok vectors (c.in_ok-drop_block.ensures.taken vectors seen))
