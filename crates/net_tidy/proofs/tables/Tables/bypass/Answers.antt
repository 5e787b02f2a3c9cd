use Rattle.std.proofs.Common.{map, ap, sym, subst, ◌∙◌, arith}
use Rattle.chain_semantics.specs.TidyRules.{reading_past}
use Rattle.net_tidy.specs.Readers.{IsListed}
use Rattle.net_tidy.proofs.Edited.{written_back}
use Rattle.net_tidy.proofs.Reading.{read_room, kept_room, listed_kept_in, listed_shared_in, listed_past}
use Rattle.net_tidy.proofs.tables.Tables.bypass.Goals as goal

pub keep_readers-requires : goal.keep_readers-requires
keep_readers-requires c = read_room c.self.inside.tables.items c.args.self.now c.self.inside.readers c.args.from c.self.invariant c.self.view_is c.requires.from

pub share-requires-clause-from : goal.share-requires-clause-from
share-requires-clause-from c = kept_room _ _ _ _ _ (read_room c.self.inside.tables.items c.args.self.now c.self.inside.readers c.args.from c.self.invariant c.self.view_is c.requires.from)
    c.keep_readers.ensures

pub share-requires-clause-to : goal.share-requires-clause-to
share-requires-clause-to c = kept_room _ _ _ _ _ (read_room c.self.inside.tables.items c.args.self.now c.self.inside.readers c.args.to c.self.invariant c.self.view_is c.requires.to)
    c.keep_readers.ensures

pub invariant_of-self : goal.invariant_of-self
invariant_of-self c =
    subst (IsListed c.self.inside.tables.items) (sym c.in_err-share.ensures.err)
    (listed_kept_in c.self.inside.tables.items c.args.self.now c.deref.result.now c.self.inside.readers c.keep_readers.new.self c.args.from c.self.invariant c.self.view_is c.requires.from
    c.deref.ensures.value c.keep_readers.ensures)

pub read_past-requires-clause-listed : goal.read_past-requires-clause-listed
read_past-requires-clause-listed c =
    listed_shared_in c.self.inside.tables.items c.args.self.now c.deref.result.now c.deref_mut.result.now c.self.inside.readers c.keep_readers.new.self c.share.new.self c.of.result.now c.args.from
    c.args.to
    c.self.invariant c.self.view_is c.requires.from c.requires.to c.deref.ensures.value c.keep_readers.ensures c.in_ok-share.ensures.ok c.deref_mut.ensures.value c.of.ensures

pub clear-requires : goal.clear-requires
clear-requires c =
    kept_room _ _ _ _ _ (kept_room _ _ _ _ _ (read_room c.self.inside.tables.items c.args.self.now c.self.inside.readers c.args.from c.self.invariant c.self.view_is c.requires.from)
    c.keep_readers.ensures)
    c.in_ok-share.ensures.ok

pub invariant_of-self-2 : goal.invariant_of-self-2
invariant_of-self-2 c =
    let count = c.read_past.auto.tables in
    let back = written_back c.self.inside.tables.len c.read_past.new.tables c.self.inside.tables.items (omega (arith, count, c.deref_mut.ensures.len)) in
    let past = back ∙ c.read_past.ensures.tables ∙ ap (map (reading_past c.args.from c.args.to c.args.inverted)) c.deref_mut.ensures.value in
    subst (λ ts. IsListed ts c.clear.new.self) (sym past)
    (listed_past c.self.inside.tables.items c.keep_readers.new.self c.share.new.self c.clear.new.self c.args.from c.args.to c.args.inverted
    (listed_kept_in c.self.inside.tables.items c.args.self.now c.deref.result.now c.self.inside.readers c.keep_readers.new.self c.args.from c.self.invariant c.self.view_is c.requires.from
    c.deref.ensures.value c.keep_readers.ensures)
    (kept_room _ _ _ _ _ (read_room c.self.inside.tables.items c.args.self.now c.self.inside.readers c.args.from c.self.invariant c.self.view_is c.requires.from) c.keep_readers.ensures)
    (kept_room _ _ _ _ _ (read_room c.self.inside.tables.items c.args.self.now c.self.inside.readers c.args.to c.self.invariant c.self.view_is c.requires.to) c.keep_readers.ensures)
    c.requires.differ c.in_ok-share.ensures.ok c.clear.ensures)
