-- The steps of the networks.
use Rattle.std.proofs.Common.{◌≡◌, ℕ, List, refl}
use Rattle.quality_semantics.specs.WordNets.{WordNetValue}
use Rattle.quality_semantics.specs.Buses.{exceed, constant, flip_top}
use Rattle.quality_semantics.specs.Quality.{absolute_excess, signed_excess}

pub absolute_from : (k : ℕ) (W : WordNetValue) (e a b : List ℕ) → b ≡ constant W k → exceed W e a b ≡ absolute_excess W e a k
absolute_from k W e a b hb = rw hb refl

pub signed_from : (k : ℕ) (W F G : WordNetValue) (e a f g b : List ℕ) → F ≡ (flip_top W e).net → f ≡ (flip_top W e).bus → G ≡ (flip_top F a).net → g ≡ (flip_top F a).bus → b ≡ constant G k
    → exceed G f g b ≡ signed_excess W e a k
signed_from k W F G e a f g b hF hf hG hg hb = rw (hb, hg, hG, hf, hF) refl
