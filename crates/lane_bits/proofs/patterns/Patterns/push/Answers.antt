use Rattle.std.proofs.Common.{◌≡◌, ◌≤◌, ◌+◌, ◌∙◌, ℕ, Option, Some, All, length, ap, sym, subst, arith}
use Rattle.std.proofs.lemmas.Result.{err_from_is_err_and}
use Rattle.std.specs.Option.{SomeIff}
use Rattle.lane_bits.specs.Rows.{word_count}
use Rattle.lane_bits.proofs.Store.{room_before, readied_rows, readied_set, next_rows, next_set}
use Rattle.lane_bits.proofs.patterns.Patterns.push.Goals as goal

one_more : (added : Option ℕ) (P : Type 0) (n count : ℕ) → SomeIff added P (count + 1) → added ≡ Some n → n ≡ count + 1
one_more added P n count h is = let s = rw is at h in s.1

pub ready_rows-requires-clause-room : goal.ready_rows-requires-clause-room
ready_rows-requires-clause-room c = λ i low.
    let more = one_more c.checked_add.result _ c.in_ok-count.count c.self.inside.count c.checked_add.ensures c.in_ok-count.ensures.ok_part in
    omega (arith, more, c.word_count.ensures, ap word_count more, room_before c.self.inside.inputs c.self.inside.count c.self.inside.rows.items c.self.invariant i low)

pub invariant_of-self : goal.invariant_of-self
invariant_of-self c =
    readied_rows c.self.inside.inputs c.self.inside.count c.self.inside.rows.items c.ready_rows.new.rows.items c.self.invariant c.ready_rows.ensures.readied

pub returns-in_err-ready_rows-clause-err : goal.returns-in_err-ready_rows-clause-err
returns-in_err-ready_rows-clause-err c =
    let p = err_from_is_err_and c.from_residual-in_err-ready_rows.result c.from_residual-in_err-ready_rows.ensures.1 in
    rw p.1 (readied_set c.self.inside.inputs c.self.inside.count c.self.inside.rows.items c.ready_rows.new.rows.items c.self.invariant c.ready_rows.ensures.readied ∙ c.self.view_is)

pub invariant_of-self-2 : goal.invariant_of-self-2
invariant_of-self-2 c =
    next_rows c.self.inside.inputs c.self.inside.count c.in_ok-count.count c.ready_rows.new.rows.len c.self.inside.rows.items c.ready_rows.new.rows.items c.args.self.now
    c.self.invariant c.ready_rows.ensures.readied c.self.view_is (ap length (sym c.deref_mut.ensures.value) ∙ c.deref_mut.ensures.len)
    (one_more c.checked_add.result _ c.in_ok-count.count c.self.inside.count c.checked_add.ensures c.in_ok-count.ensures.ok_part)
    c.in_ok-ready_rows.ensures.count (subst (λ n. All (λ row. n ≤ length row) c.ready_rows.new.rows.items) c.word_count.ensures c.in_ok-ready_rows.ensures.room)
    c.args.x.now c.requires c.deref_mut.result.now c.set_bits.new.rows c.deref_mut.ensures.value c.set_bits.ensures

pub returns-clause-ok : goal.returns-clause-ok
returns-clause-ok c =
    next_set c.self.inside.inputs c.self.inside.count c.in_ok-count.count c.ready_rows.new.rows.len c.self.inside.rows.items c.ready_rows.new.rows.items c.args.self.now
    c.self.invariant c.ready_rows.ensures.readied c.self.view_is (ap length (sym c.deref_mut.ensures.value) ∙ c.deref_mut.ensures.len)
    (one_more c.checked_add.result _ c.in_ok-count.count c.self.inside.count c.checked_add.ensures c.in_ok-count.ensures.ok_part)
    c.in_ok-ready_rows.ensures.count (subst (λ n. All (λ row. n ≤ length row) c.ready_rows.new.rows.items) c.word_count.ensures c.in_ok-ready_rows.ensures.room)
    c.args.x.now c.requires c.deref_mut.result.now c.set_bits.new.rows c.deref_mut.ensures.value c.set_bits.ensures
