use Rattle.std.proofs.Common.{◌≡◌, ap, sym, subst, ◌∙◌, [], IfOk, option_map, refl}
use Rattle.text_words.specs.Slices.{texts}
use Rattle.hier_faults.specs.Faults.{fault_value, uses_value}
use Rattle.hier_parts.specs.Sets.{with_names}
use Rattle.hier_faults.proofs.Tested.{IsNamesFault, first-told, known-none, after-names}
use Rattle.hier_faults.proofs.faulty.first_fault.Goals as goal

pub returns-then-is_some : goal.returns-then-is_some
returns-then-is_some c =
    let a : IsNamesFault c.args.models.now (option_map fault_value c.in_ok-fault.fault) = record {
      names = texts c.deref-2.result.now;
      known = c.in_ok-known.known;
      uses = uses_value c.deref-3.result.now;
      is = c.in_ok-fault.ensures;
      names_is = ap texts c.deref-2.ensures.value ∙ c.in_ok-names.ensures;
      known_is = c.in_ok-known.ensures.is ∙ ap (λ l. with_names [] (texts l)) (c.deref.ensures.value ∙ sym c.deref-2.ensures.value);
      uses_is = ap uses_value c.deref-3.ensures.value ∙ c.in_ok-uses.ensures;
    } in
    first-told c.args.models.now c.in_ok-fault.fault c.if-is_some.ensures a

pub known_fault-requires : goal.known_fault-requires
known_fault-requires c =
    let a : IsNamesFault c.args.models.now (option_map fault_value c.in_ok-fault.fault) = record {
      names = texts c.deref-2.result.now;
      known = c.in_ok-known.known;
      uses = uses_value c.deref-3.result.now;
      is = c.in_ok-fault.ensures;
      names_is = ap texts c.deref-2.ensures.value ∙ c.in_ok-names.ensures;
      known_is = c.in_ok-known.ensures.is ∙ ap (λ l. with_names [] (texts l)) (c.deref.ensures.value ∙ sym c.deref-2.ensures.value);
      uses_is = ap uses_value c.deref-3.ensures.value ∙ c.in_ok-uses.ensures;
    } in
    known-none c.args.models.now c.in_ok-fault.fault c.in_ok-known.known c.if-is_some.ensures a refl

pub returns : goal.returns
returns c =
    let a : IsNamesFault c.args.models.now (option_map fault_value c.in_ok-fault.fault) = record {
      names = texts c.deref-2.result.now;
      known = c.in_ok-known.known;
      uses = uses_value c.deref-3.result.now;
      is = c.in_ok-fault.ensures;
      names_is = ap texts c.deref-2.ensures.value ∙ c.in_ok-names.ensures;
      known_is = c.in_ok-known.ensures.is ∙ ap (λ l. with_names [] (texts l)) (c.deref.ensures.value ∙ sym c.deref-2.ensures.value);
      uses_is = ap uses_value c.deref-3.ensures.value ∙ c.in_ok-uses.ensures;
    } in
    subst (λ r. IfOk c.known_fault.result (λ o. option_map fault_value o ≡ r))
    (after-names c.args.models.now c.in_ok-fault.fault (uses_value c.deref-4.result.now) c.if-is_some.ensures a (ap uses_value c.deref-4.ensures.value ∙ c.in_ok-uses.ensures))
    c.known_fault.ensures
