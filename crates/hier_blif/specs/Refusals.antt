-- Why a text of several models is refused.
use Rattle.std.specs.Prelude.{◌≡◌, ℕ, Option, Some, None, option_map, Result, Err}
use Rattle.blif_text.specs.Refusals as b
use Rattle.hierarchy_semantics.specs.Refusals as r
use Rattle.hier_blif.specs.declared.refusal.HierRefusal.{HierRefusal}
use Rattle.hier_blif.specs.declared.refusal.HierRefusal.TheVariants as h

-- the refusal of the definitions that the code's refusal is; want of memory is none
abbrev pub refusal_of : HierRefusal → Option r.HierRefusal
refusal_of (h.Line refusal) = option_map r.line (b.refusal_of refusal)
refusal_of (h.SameModel name) = Some (r.same_model name)
refusal_of (h.NoModel name) = Some (r.no_model_named name)
refusal_of (h.Recursive name) = Some (r.recursive name)
refusal_of (h.Ports model name) = Some (r.ports model name)
refusal_of (h.Formal line name) = Some (r.formal line name)
refusal_of (h.Unbound line name) = Some (r.unbound line name)
refusal_of (h.Part model refusal) = option_map (r.part model) (b.refusal_of refusal)
refusal_of (h.Taken name) = Some (r.taken name)
refusal_of (h.Flat refusal) = option_map r.flat (b.refusal_of refusal)
refusal_of h.OutOfMemory = None

-- the answer is this refusal, or the refusal is want of memory
abbrev pub Tells : {X : Type 0} → HierRefusal → Result X r.HierRefusal → Type 0
Tells told answer = elim (refusal_of told)
    [ None ↦ told ≡ h.OutOfMemory | Some refusal ↦ answer ≡ Err refusal ]

-- the place of a refusal in the order of the tests, from 1; want of memory stands last
abbrev pub number_of : HierRefusal → ℕ
number_of (h.Line refusal) = 1
number_of (h.SameModel name) = 2
number_of (h.NoModel name) = 3
number_of (h.Recursive name) = 4
number_of (h.Ports model name) = 5
number_of (h.Formal line name) = 6
number_of (h.Unbound line name) = 7
number_of (h.Part model refusal) = 8
number_of (h.Taken name) = 9
number_of (h.Flat refusal) = 10
number_of h.OutOfMemory = 11

-- the refusal is want of memory, or is the one that is told
abbrev pub TellsOne : HierRefusal → Option r.HierRefusal → Type 0
TellsOne told answer = elim (refusal_of told)
    [ None ↦ told ≡ h.OutOfMemory | Some refusal ↦ answer ≡ Some refusal ]
