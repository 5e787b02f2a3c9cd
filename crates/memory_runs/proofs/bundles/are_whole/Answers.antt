use Rattle.std.proofs.Common.{◌≡◌, ◌∙◌, subst, rules}
use Rattle.std.proofs.lemmas.List.{take_all}
use Rattle.std.proofs.lemmas.List.Elements.{All-more}
use Rattle.std.specs.List.{All}
use Rattle.std.specs.FinMap.{get}
use Rattle.memory_runs.proofs.bundles.are_whole.Goals as goal

pub loop-name-preserved : goal.loop-name-preserved
loop-name-preserved c =
    All-more (λ name. get c.args.files.now.held name.now ≡ get c.args.whole.now.held name.now) c.args.names.now c.loop-name.name-index _ c.loop-name-test.true c.loop-name.invariant
    (c.holds.ensures.0 c.if-not-holds.false ∙ c.bytes.ensures)

pub returns : goal.returns
returns c = (
  (λ yes. subst (All (λ name. get c.args.files.now.held name.now ≡ get c.args.whole.now.held name.now)) (take_all c.loop-name.name-index c.args.names.now c.loop-name-test.false)
      c.loop-name.invariant),
  λ whole. search rules,
)
