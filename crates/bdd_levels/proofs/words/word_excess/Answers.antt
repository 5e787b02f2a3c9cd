use Rattle.std.proofs.Common.{sym, subst}
use Rattle.std.proofs.lemmas.Result.{on_ok_weaker}
use Rattle.semantics.specs.declared.metric.Kind.{Kind}
use Rattle.bus_nets.proofs.Numbers.{both_ok}
use Rattle.bdd_levels.specs.Words.{SaysWordExcess}
use Rattle.bdd_levels.proofs.Joining.{differing_after, differing_says}
use Rattle.bdd_levels.proofs.words.word_excess.Goals as goal

pub returns-in-Ham-clause-begins : goal.returns-in-Ham-clause-begins
returns-in-Ham-clause-begins c =
    on_ok_weaker c.append_word.result (λ made. differing_after c.args.net.now c.append_word.new.net c.args.exact.now c.args.approximate.now c.args.k made) c.append_word.ensures.ok

pub returns-in-Ham-clause-says : goal.returns-in-Ham-clause-says
returns-in-Ham-clause-says c =
    both_ok c.append_word.result _ _
    (λ s is made. subst (λ (kind : Kind). SaysWordExcess kind c.args.k (record { exact = c.args.exact.now; approximate = c.args.approximate.now }) c.append_word.new.net s) (sym c.in-Ham.is)
    (differing_says c.args.k c.args.net.now c.append_word.new.net c.args.exact.now c.args.approximate.now s c.requires.widths made is)) c.append_word.ensures.signal c.append_word.ensures.ok
