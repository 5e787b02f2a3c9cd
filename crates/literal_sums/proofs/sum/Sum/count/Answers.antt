use Rattle.std.proofs.Common.{subst, sym, rules}
use Rattle.literal_sums.specs.Sums.{HasMore}
use Rattle.literal_sums.proofs.Counting.{push_more, no_term}
use Rattle.literal_sums.proofs.sum.Sum.count.Goals as goal

pub returns-then-at-len : goal.returns-then-at-len
returns-then-at-len c =
    subst (λ l. HasMore l c.args.weight c.args.self.now c.change.new.self) (c.place-at.ensures no_term (search rules)) (c.change.ensures no_term)

pub returns : goal.returns
returns c = push_more c.args.self.now c.self.inside.terms.items (sym c.self.view_is) _ _ c.in_ok-push.ensures.items
