-- Why a hierarchy has no flat net.
use Rattle.std.specs.Prelude.{◌≡◌, Option, Some, None, option_map, Result, Err}
use Rattle.blif_text.specs.Refusals as b
use Rattle.blif_text.specs.declared.refusal.BlifRefusal.{BlifRefusal}
use Rattle.blif_text.specs.declared.refusal.BlifRefusal.TheVariants.{OutOfMemory}
use Rattle.hierarchy_semantics.specs.Refusals.{HierRefusal, flat}

-- the refusal of the flat net, in the definitions, that the code's refusal is; want of memory is none
abbrev pub refusal_of : BlifRefusal → Option HierRefusal
refusal_of told = option_map flat (b.refusal_of told)

-- the answer is this refusal, or the refusal is want of memory
abbrev pub Tells : {X : Type 0} → BlifRefusal → Result X HierRefusal → Type 0
Tells told answer = elim (refusal_of told) [ None ↦ told ≡ OutOfMemory | Some refusal ↦ answer ≡ Err refusal ]

-- the refusal is want of memory, or is the one that is told
abbrev pub TellsOne : BlifRefusal → Option HierRefusal → Type 0
TellsOne told answer = elim (refusal_of told)
    [ None ↦ told ≡ OutOfMemory | Some refusal ↦ answer ≡ Some refusal ]
