-- The steps of the network.
use Rattle.std.proofs.Common.{◌≡◌, ℕ, suc, ◌+◌, List, refl, arith}
use Rattle.quality_semantics.specs.WordNets.{WordNetValue}
use Rattle.quality_semantics.specs.Buses.{differ, at_least}
use Rattle.quality_semantics.specs.Quality.{differing_excess}

pub differing_from : (k : ℕ) (W V : WordNetValue) (e a d : List ℕ) → V ≡ (differ W e a).net → d ≡ (differ W e a).bus → at_least V d (k + 1) ≡ differing_excess W e a k
differing_from k W V e a d hV hd = let next : k + 1 ≡ suc k = omega arith in rw (next, hd, hV) refl
