-- Bits that look like chance. Source: the multipliers of SplitMix64.
use Rattle.std.specs.Prelude.{ℕ, ◌*◌, ◌/◌, ◌%◌, ◌^◌, ◌==◌, Bool, bit_xor}

-- a seed and a place, mixed
abbrev mixed : ℕ → ℕ → ℕ
mixed seed at = (bit_xor ((seed * 0x9e37_79b9_7f4a_7c15) % 2 ^ 64) at * 0xbf58_476d_1ce4_e5b9) % 2 ^ 64

-- the highest bit, once what was mixed is mixed again
unfoldable pub chance : ℕ → ℕ → Bool
chance seed at = ((bit_xor (mixed seed at) (mixed seed at / 2 ^ 29) * 0x94d0_49bb_1331_11eb) % 2 ^ 64) / 2 ^
    63 == 1
