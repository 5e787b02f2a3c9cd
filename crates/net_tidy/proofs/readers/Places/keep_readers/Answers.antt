use Rattle.std.proofs.Common.{rules, ap, ◌∙◌}
use Rattle.std.specs.List.{filter}
use Rattle.std.proofs.lemmas.Fn.{filter_same}
use Rattle.semantics.specs.Net.{table_at}
use Rattle.chain_semantics.specs.TidyRules.{has}
use Rattle.net_tidy.proofs.readers.Places.keep_readers.Goals as goal

pub returns : goal.returns
returns c =
    filter_same _ (λ place. has (table_at c.args.tables.now place).pins c.args.s) _ (λ x b f' k. search rules) _ _ c.retain.ensures.filtered
    ∙ ap (filter (λ place. has (table_at c.args.tables.now place).pins c.args.s)) c.self.view_is
