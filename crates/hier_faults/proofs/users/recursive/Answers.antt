use Rattle.std.proofs.Common.{◌≡◌, Some, IfOk, ap, sym, subst, ◌∙◌}
use Rattle.std.specs.Option.{option_map}
use Rattle.std.proofs.lemmas.Result.{MatchResult-at_ok, MatchResult-at_err}
use Rattle.std.proofs.lemmas.List.{get_or_read}
use Rattle.semantics.specs.Refusals.{first_ungrounded}
use Rattle.hierarchy_semantics.specs.Models.{BlifModel, no_model}
use Rattle.hierarchy_semantics.specs.Refusals.{recursive, first_recursive}
use Rattle.hier_faults.specs.Faults.{fault_value}
use Rattle.hier_parts.specs.Users.{users, IsModelOrder}
use Rattle.hier_parts.proofs.Grounded.{none_recursive, one_recursive}
use Rattle.hier_faults.proofs.users.recursive.Goals as goal
use Rattle.hier_faults.proofs.users.recursive.Goals.{in-Ok, in-Err}

pub bounds-models-i : goal.bounds-models-i
bounds-models-i c =
    let h = c.args.models.now in
    let told = MatchResult-at_err (λ order. IsModelOrder h order.items) (λ i. first_ungrounded 0 (users h) ≡ Some i) c.in-Err.i c.in-Err.is c.in_ok-i.ensures in
    (one_recursive h c.in-Err.i c.requires.known told).within

pub returns : goal.returns
returns c =
    let h = c.args.models.now in
    elim c.match-branch-2.branch [
      | in-Ok w ↦
          let told = MatchResult-at_ok (λ order. IsModelOrder h order.items) (λ i. first_ungrounded 0 (users h) ≡ Some i) w.in-Ok.field-0 w.in-Ok.is c.in_ok-i.ensures in
          subst (λ r. IfOk r (λ o. option_map fault_value o ≡ option_map (λ m. recursive m.name) (first_recursive h))) (sym w.result-is)
          (ap (option_map (λ m. recursive m.name)) (sym (none_recursive h w.in-Ok.field-0.items c.requires.known told)))
      | in-Err w ↦
          let told = MatchResult-at_err (λ order. IsModelOrder h order.items) (λ i. first_ungrounded 0 (users h) ≡ Some i) w.in-Err.i w.in-Err.is c.in_ok-i.ensures in
          let one = one_recursive h w.in-Err.i c.requires.known told in
          let name = ap (λ (m : BlifModel). m.name) w.m.view_is in
          let read = get_or_read h w.in-Err.i w.index-models-i.result one.within w.index-models-i.is no_model in
          subst (λ r. IfOk r (λ o. option_map fault_value o ≡ option_map (λ m. recursive m.name) (first_recursive h))) (sym w.result-is)
          (ap (λ n. Some (recursive n)) name ∙ ap (λ (m : BlifModel). Some (recursive m.name)) read ∙ sym (ap (option_map (λ m. recursive m.name)) one.is))
    ]
