use Rattle.std.proofs.Common.{◌≡◌, List, Bool, [], ◌∷◌, ◌++◌, ◌∙◌, refl, ap, subst}
use Rattle.lane_bits.specs.Patterns.{PatternSet}
use Rattle.synth_core.specs.AllowedMoves.{IsCandidateMove}
use Rattle.synth_core.proofs.Searching.{masked-more, broken-more}
use Rattle.synth_core.proofs.Trying.{allowed-few}
use Rattle.synth_core.proofs.allowed_move.weigh.Goals as goal

-- k is the lifetimes of the call, since the judge is generic in one
pub try_move-requires : goal.try_move-requires
try_move-requires g c = λ k.
    let tester = c.args.tester.now in
    let masks = c.args.trials.now.masks in
    let offered = (subst (λ m. IsCandidateMove m c.args.candidate) c.requires.masked.masks c.requires.unbroken).offered in
    let known = allowed-few tester.aim c.args.nets.now tester.pool masks c.args.candidate c.requires.masked c.requires.unbroken in
    ((refl, tt), (c.requires.judge, (c.requires.limit, (c.requires.within, (c.requires.scratch, (offered, known))))))

pub returns-in_ok-add_vector-in-Over-clause-masked : goal.returns-in_ok-add_vector-in-Over-clause-masked
returns-in_ok-add_vector-in-Over-clause-masked g c =
    let tester = c.args.tester.now in
    let s : PatternSet = tester.pool in
    let t : PatternSet = c.add_vector.new.pool in
    let back = rw c.in-Over.is at c.in_ok-x.ensures.trial in
    let pushed : t ≡ record s { vectors = s.vectors ++ c.in-Over.x ∷ [] } =
    c.in_ok-add_vector-in-Over.ensures.pool ∙ ap (λ (p : PatternSet). record p { vectors = p.vectors ++ c.as_slice.result.now ∷ [] }) c.try_move.ensures.pool
    ∙ ap (λ (y : List Bool). record s { vectors = s.vectors ++ y ∷ [] }) c.as_slice.ensures in
    masked-more tester.aim c.args.nets.now s t c.args.candidate c.in-Over.x pushed c.args.trials.now.masks c.add_vector.new.masks c.requires.masked
    c.in_ok-add_vector-in-Over.ensures.masks c.requires.unbroken back.over

pub returns-in_ok-add_vector-in-Over-clause-weighed : goal.returns-in_ok-add_vector-in-Over-clause-weighed
returns-in_ok-add_vector-in-Over-clause-weighed g c =
    let tester = c.args.tester.now in
    let s : PatternSet = tester.pool in
    let t : PatternSet = c.add_vector.new.pool in
    let back = rw c.in-Over.is at c.in_ok-x.ensures.trial in
    let pushed : t ≡ record s { vectors = s.vectors ++ c.in-Over.x ∷ [] } =
    c.in_ok-add_vector-in-Over.ensures.pool ∙ ap (λ (p : PatternSet). record p { vectors = p.vectors ++ c.as_slice.result.now ∷ [] }) c.try_move.ensures.pool
    ∙ ap (λ (y : List Bool). record s { vectors = s.vectors ++ y ∷ [] }) c.as_slice.ensures in
    broken-more tester.aim c.args.nets.now s t c.args.candidate c.in-Over.x pushed back.over
