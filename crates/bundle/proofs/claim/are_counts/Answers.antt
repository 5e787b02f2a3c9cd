use Rattle.std.proofs.Common.{subst, sym, arith}
use Rattle.semantics.specs.Net.{IsSmall}
use Rattle.job_semantics.proofs.SmallNets.{literals_at_most}
use Rattle.bundle.proofs.claim.are_counts.Goals as goal

pub literals-old_literals-requires : goal.literals-old_literals-requires
literals-old_literals-requires c = omega (arith, literals_at_most c.exact-exact.result.now (subst IsSmall (sym c.exact-exact.ensures.value) c.requires.exact) c.see_sound.ensures.sound.tables_formed)

pub literals-new_literals-requires : goal.literals-new_literals-requires
literals-new_literals-requires c = omega (
  arith,
  literals_at_most c.approx-approx.result.now (subst IsSmall (sym c.approx-approx.ensures.value) c.requires.approx)
      c.see_sound-2.ensures.sound.tables_formed,
)
