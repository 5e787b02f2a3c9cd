use Rattle.std.proofs.Common.{◌≡◌, ℕ, List, ◌+◌, ◌<◌, length, true, ap, sym, subst, rules, arith}
use Rattle.std.proofs.lemmas.List.{take_rest}
use Rattle.std.specs.Prelude.{slice_index}
use Rattle.proof_semantics.specs.LratTokens.{is_blank}
use Rattle.cnf_core.specs.FrontDigits.{DigitsLead}
use Rattle.cnf_core.specs.FrontNumbers.{NumbersLead}
use Rattle.cnf_core.proofs.Drafts.{HasGrown-push}
use Rattle.cnf_core.proofs.FrontNumbers.{digit_taken, numbers_step}
use Rattle.cnf_core.proofs.front_numbers.take_numbers.Goals as goal

pub numbers-preserved : goal.numbers-preserved
numbers-preserved c =
    let text = c.args.bytes.now in
    let before = c.args.numbers.now.at_hand in
    let at = c.numbers.count in
    let digits = c.take_digits-digits in
    let blank : is_blank (slice_index text (at + digits.result.count)) ≡ true = search rules in
    let some : 0 < digits.result.size = omega (arith, c.if-digits-eq0.false) in
    let digit : 0 < digits.result.count = digit_taken digits.result.count digits.result.size some digits.ensures.none in
    let lt : at + digits.result.count < length text = omega (arith, c.if-end-bytes.false) in
    record {
      lead = subst (λ (hand : List ℕ). NumbersLead before text hand (at + digits.result.count + 1)) (sym (ap (λ d. d.at_hand) c.in_ok-push.ensures.ok))
          (numbers_step before c.numbers.numbers.at_hand text at digits.result.size digits.result.count lt digit some blank (λ zero. ap (λ d. d.at_hand) (c.numbers.invariant.none zero))
          (subst (λ t. DigitsLead 0 t digits.result.size digits.result.count) (take_rest text at) digits.ensures.lead) c.numbers.invariant.lead);
      none = λ zero. absurd (omega (arith, zero));
      within = omega (arith, lt);
      grown = HasGrown-push c.args.numbers.now c.numbers.numbers c.push.new.self digits.result.size c.numbers.invariant.grown c.in_ok-push.ensures.ok;
    }
