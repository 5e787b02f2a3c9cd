use Rattle.std.proofs.Common.{◌∙◌, ℕ, ◌<◌, length, get_or, true, false, sym, subst, arith}
use Rattle.std.proofs.lemmas.List.{length-set, take-set}
use Rattle.semantics.specs.Net.{NetValue, input_count}
use Rattle.case_tree.specs.Behind.{AreValuesBehind}
use Rattle.case_tree.proofs.Behind.{values_kept}
use Rattle.case_tree.proofs.Walk.{half-fits, other-id, other-fits, front-kept, walk-none, walk-joined}
use Rattle.case_tree.proofs.refute.+push_cases.Goals as goal

pub vector_step-requires-clause-values : goal.vector_step-requires-clause-values
vector_step-requires-clause-values t c = c.reach_values.ensures.values (omega (arith, c.if-depth-x.true))

pub returns-then-depth-x-clause-log : goal.returns-then-depth-x-clause-log
returns-then-depth-x-clause-log t c =
    let N : NetValue = c.args.tree.now.net.now in
    walk-none (input_count N) N.tables c.args.tree.now.order.now (get_or N.outputs 0 0) c.args.x.now c.args.depth c.args.cases.now.last c.args.cases.now.log c.push.new.self c.in_ok-vector_step.field-0
    c.if-depth-x.true c.in_ok-vector_step.ensures.step c.in_ok-push.ensures.ok

pub push_cases-requires : goal.push_cases-requires
push_cases-requires t c =
    let N : NetValue = c.args.tree.now.net.now in
    let r : ℕ = c.args.tree.now.rest.now.inputs in
    let size = length-set c.args.x.now c.args.depth false in
    let within : c.args.depth < length c.args.x.now = omega (arith, c.requires.depth, c.if-depth-x.false) in (
      omega (arith, size, within, c.decreases),
      (
        c.requires.tree,
        (
          size ∙ c.requires.width,
          (
            omega (arith, size, within),
            (
              half-fits (length c.args.x.now) _ c.args.depth c.args.cases.now.last size within c.requires.ids,
              (
                c.reach_values.auto.words ∙ c.requires.words,
                (
                  λ deep. values_kept N c.args.x.now _ r c.args.depth c.reach_values.new.words size (take-set c.args.x.now c.args.depth false) (omega (arith, deep)) c.reach_values.ensures.values,
                  c.requires.room,
                ),
              ),
            ),
          ),
        ),
      ),
    )

pub push_cases-requires-2 : goal.push_cases-requires-2
push_cases-requires-2 t c =
    let N : NetValue = c.args.tree.now.net.now in
    let r : ℕ = c.args.tree.now.rest.now.inputs in
    let size = length-set c.args.x.now c.args.depth false in
    let size2 = length-set c.push_cases.new.x c.args.depth true ∙ c.push_cases.auto.x ∙ size in
    let begins = take-set c.push_cases.new.x c.args.depth true ∙ front-kept c.args.x.now c.push_cases.new.x c.args.depth false c.in_ok-push_cases.ensures.front in
    let within : c.args.depth < length c.args.x.now = omega (arith, c.requires.depth, c.if-depth-x.false) in (
      omega (arith, size2, within, c.decreases),
      (
        c.requires.tree,
        (
          size2 ∙ c.requires.width,
          (
            omega (arith, size2, within),
            (
              other-fits (length c.args.x.now) _ _ c.args.depth c.args.cases.now.last c.push_cases.new.cases.last size size2 within c.in_ok-push_cases.ensures.last c.requires.ids,
              (
                c.push_cases.auto.words ∙ c.reach_values.auto.words ∙ c.requires.words,
                (
                  λ deep. subst (AreValuesBehind N _) (sym (c.in_ok-push_cases.ensures.words (omega (arith, deep, size, size2))))
                      (values_kept N c.args.x.now _ r c.args.depth c.reach_values.new.words size2 begins (omega (arith, deep)) c.reach_values.ensures.values),
                  c.push_cases.ensures.room,
                ),
              ),
            ),
          ),
        ),
      ),
    )

pub overflow_add-id-2 : goal.overflow_add-id-2
overflow_add-id-2 t c =
    let size = length-set c.args.x.now c.args.depth false in
    let size2 = length-set c.push_cases.new.x c.args.depth true ∙ c.push_cases.auto.x ∙ size in
    let within : c.args.depth < length c.args.x.now = omega (arith, c.requires.depth, c.if-depth-x.false) in
    let id = other-id (length c.args.x.now) _ _ c.args.depth c.args.cases.now.last c.push_cases.new.cases.last c.push_cases-2.new.cases.last size size2 within c.in_ok-push_cases.ensures.last
    c.in_ok-push_cases-2.ensures.last in
    omega (arith, id, c.requires.ids)

pub returns-clause-log : goal.returns-clause-log
returns-clause-log t c =
    let N : NetValue = c.args.tree.now.net.now in
    let size = length-set c.args.x.now c.args.depth false in
    walk-joined (input_count N) N.tables c.args.tree.now.order.now (get_or N.outputs 0 0) c.args.x.now c.push_cases.new.x c.push_cases-2.new.x c.args.depth c.args.cases.now.last
    c.push_cases.new.cases.last
    c.push_cases-2.new.cases.last
    c.args.cases.now.log c.push_cases.new.cases.log c.push_cases-2.new.cases.log c.push-2.new.self c.in_ok-join_step.field-0 (omega (arith, c.requires.depth, c.if-depth-x.false)) (c.push_cases.auto.x ∙
    size)
    c.in_ok-push_cases.ensures.log c.in_ok-push_cases.ensures.last c.in_ok-push_cases.ensures.front c.in_ok-push_cases-2.ensures.log c.in_ok-push_cases-2.ensures.last c.in_ok-push_cases-2.ensures.front
    c.in_ok-join_step.ensures c.in_ok-push-2.ensures.ok

pub returns-clause-last : goal.returns-clause-last
returns-clause-last t c =
    let size = length-set c.args.x.now c.args.depth false in
    let size2 = length-set c.push_cases.new.x c.args.depth true ∙ c.push_cases.auto.x ∙ size in
    let within : c.args.depth < length c.args.x.now = omega (arith, c.requires.depth, c.if-depth-x.false) in
    other-id (length c.args.x.now) _ _ c.args.depth c.args.cases.now.last c.push_cases.new.cases.last c.push_cases-2.new.cases.last size size2 within c.in_ok-push_cases.ensures.last
    c.in_ok-push_cases-2.ensures.last

pub returns-clause-front : goal.returns-clause-front
returns-clause-front t c =
    front-kept c.push_cases.new.x c.push_cases-2.new.x c.args.depth true c.in_ok-push_cases-2.ensures.front
    ∙ front-kept c.args.x.now c.push_cases.new.x c.args.depth false c.in_ok-push_cases.ensures.front

pub returns-clause-words : goal.returns-clause-words
returns-clause-words t c =
    let size = length-set c.args.x.now c.args.depth false in
    let size2 = length-set c.push_cases.new.x c.args.depth true ∙ c.push_cases.auto.x ∙ size in
    λ deep. c.in_ok-push_cases-2.ensures.words (omega (arith, deep, size2)) ∙ c.in_ok-push_cases.ensures.words (omega (arith, deep, size)) ∙ c.reach_values.ensures.same deep
