use Rattle.std.proofs.Common.{◌+◌, ◌<◌, ◌^◌, length, ◌∙◌, ap, refl, subst, sym, arith}
use Rattle.cnf_core.specs.declared.lrat_reader.LratReader.TheInside.{Inside}
use Rattle.cnf_core.specs.LratReads.{LogRead, fed}
use Rattle.cnf_core.proofs.LratReaders.{place-text, after_piece}
use Rattle.cnf_core.proofs.lrat_reader.LratReader.read.Goals as goal

pub with_bytes-requires : goal.with_bytes-requires
with_bytes-requires c =
    let place = place-text c.self.inside c.self.invariant (ap (λ (v : LogRead). v.finished) c.self.view_is ∙ c.requires.going) (ap (λ (v : LogRead). v.refused) c.self.view_is ∙ c.requires.calm) in
    let size = subst (λ (v : LogRead). length v.text + length c.args.piece.now < 2 ^ 63) (sym c.self.view_is) c.requires.size in
    omega (arith, place, size)

pub invariant_of-self-2 : goal.invariant_of-self-2
invariant_of-self-2 c =
    let b : Inside = record c.self.inside { scanner = c.in-Ok.scanner; draft = c.settle.new.self; waiting = c.with_bytes.new.items; text = c.and-self-inside.result } in
    (after_piece c.self.inside b c.args.piece.now c.with_bytes.new.draft c.self.invariant
    (ap (λ (v : LogRead). v.finished) c.self.view_is ∙ c.requires.going) (ap (λ (v : LogRead). v.refused) c.self.view_is ∙ c.requires.calm)
    refl c.and-self-inside.ensures c.settle.ensures c.in-Ok.ensures.ok.0 c.in-Ok.ensures.ok.1).stands

pub returns-clause-ok : goal.returns-clause-ok
returns-clause-ok c =
    let b : Inside = record c.self.inside { scanner = c.in-Ok.scanner; draft = c.settle.new.self; waiting = c.with_bytes.new.items; text = c.and-self-inside.result } in
    (after_piece c.self.inside b c.args.piece.now c.with_bytes.new.draft c.self.invariant
    (ap (λ (v : LogRead). v.finished) c.self.view_is ∙ c.requires.going) (ap (λ (v : LogRead). v.refused) c.self.view_is ∙ c.requires.calm)
    refl c.and-self-inside.ensures c.settle.ensures c.in-Ok.ensures.ok.0 c.in-Ok.ensures.ok.1).view
    ∙ ap (λ (v : LogRead). fed v c.args.piece.now) c.self.view_is
