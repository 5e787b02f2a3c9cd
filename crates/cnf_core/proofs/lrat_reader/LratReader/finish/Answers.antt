use Rattle.std.proofs.Common.{◌<◌, ◌^◌, length, true, ◌∙◌, refl, sym, subst, arith}
use Rattle.cnf_core.specs.declared.lrat_part.Part.TheVariants.{AfterRefusal}
use Rattle.cnf_core.specs.declared.lrat_reader.LratReader.TheInside.{Inside}
use Rattle.cnf_core.specs.LratReads.{LogRead}
use Rattle.cnf_core.proofs.LratReaders.{place-text, after_end, after_cut, finish_refuses, finish_goes, has_ended}
use Rattle.cnf_core.proofs.lrat_reader.LratReader.finish.Goals as goal

pub returns-then-self-clause-ok : goal.returns-then-self-clause-ok
returns-then-self-clause-ok c = has_ended c.self.inside c.args.self.now c.self.view_is c.self.invariant c.if-self.true

pub close-requires : goal.close-requires
close-requires c =
    let place = place-text c.self.inside c.self.invariant c.if-self.false (sym c.refusal.ensures ∙ c.in_default.is) in
    let size = subst (λ (v : LogRead). length v.text < 2 ^ 63) (sym c.self.view_is) c.requires in
    omega (arith, place, size)

pub returns-in-Some-refusal_at_end-clause-err : goal.returns-in-Some-refusal_at_end-clause-err
returns-in-Some-refusal_at_end-clause-err c =
    let a = c.self.inside in
    let r = c.in-Some-refusal_at_end.refusal in
    let calm = sym c.refusal.ensures ∙ c.in_default.is in
    let b : Inside = record a { scanner = record a.scanner { part = AfterRefusal r }; draft = c.settle.new.self; waiting = c.close.new.items } in
    let cut = after_cut a b c.in-Ok.scanner c.close.new.draft r c.self.invariant c.if-self.false calm refl refl refl c.settle.ensures c.in-Ok.ensures.ok.0 c.in-Ok.ensures.ok.1
    (sym c.refusal_at_end.ensures ∙ c.in-Some-refusal_at_end.is) in
    finish_refuses a c.args.self.now _ r c.self.view_is calm cut.items cut.view

pub invariant_of-self-2 : goal.invariant_of-self-2
invariant_of-self-2 c =
    let b : Inside = record c.self.inside { scanner = c.in-Ok.scanner; draft = c.settle.new.self; waiting = c.close.new.items; is_finished = true } in
    (after_end c.self.inside b c.close.new.draft c.self.invariant c.if-self.false (sym c.refusal.ensures ∙ c.in_default.is)
    refl refl c.settle.ensures c.in-Ok.ensures.ok.0 c.in-Ok.ensures.ok.1 (sym c.refusal_at_end.ensures ∙ c.in_default-refusal_at_end.is)).stands

pub returns-clause-ok : goal.returns-clause-ok
returns-clause-ok c =
    let b : Inside = record c.self.inside { scanner = c.in-Ok.scanner; draft = c.settle.new.self; waiting = c.close.new.items; is_finished = true } in
    finish_goes c.self.inside b c.args.self.now c.self.view_is
    (after_end c.self.inside b c.close.new.draft c.self.invariant c.if-self.false (sym c.refusal.ensures ∙ c.in_default.is)
    refl refl c.settle.ensures c.in-Ok.ensures.ok.0 c.in-Ok.ensures.ok.1 (sym c.refusal_at_end.ensures ∙ c.in_default-refusal_at_end.is))
