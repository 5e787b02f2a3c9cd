use Rattle.std.proofs.Common.{◌-◌, length, ap, sym, ◌∙◌, arith}
use Rattle.semantics.specs.Net.{table_at}
use Rattle.chain_semantics.specs.TidyRules.{has, is_read}
use Rattle.net_tidy.specs.Readers.{list_at}
use Rattle.net_tidy.proofs.Reading.{listed_popped, listed_none, last_room}
use Rattle.net_tidy.proofs.tables.Tables.is_read.Goals as goal

pub loop-place-preserved : goal.loop-place-preserved
loop-place-preserved c = record {
  same = c.loop-place.invariant.same;
  listed = listed_popped c.loop-place.self-inside.tables.items c.loop-place.self-inside.readers c.pop.new.self c.args.s c.in-Some.place
      (length (list_at c.loop-place.self-inside.readers c.args.s) - 1) c.loop-place.invariant.listed
      (last_room c.loop-place.self-inside.readers c.args.s c.in-Some.ensures.some)
      (let some = c.in-Some.ensures.some in omega (arith, some)) c.in-Some.ensures.is
      (ap (λ ts. has (table_at ts c.in-Some.place).pins c.args.s) (sym c.deref.ensures.value) ∙ sym c.reads_at.ensures ∙ c.if-reads_at.false) c.pop.ensures;
}

pub returns-clause-value : goal.returns-clause-value
returns-clause-value c =
    sym (listed_none c.loop-place.self-inside.tables.items c.loop-place.self-inside.readers c.args.s c.loop-place.invariant.listed c.in_default.ensures)
    ∙ ap (λ ts. is_read ts c.args.s) c.loop-place.invariant.same
