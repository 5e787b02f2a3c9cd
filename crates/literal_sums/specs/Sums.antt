-- Sums of literals of a hashed graph, each with a weight, modulo 2^32. So with a weight of 2^32 - 1 a literal
-- is taken away, and with weights of 2^(32-p) and above two sums of words agree modulo 2^p. Source: residue
-- arithmetic.
use Rattle.std.specs.Prelude.{◌≡◌, ℕ, ◌+◌, ◌*◌, ◌%◌, ◌==◌, if◌then◌else◌, List, [], ◌∷◌, Bool, false}
use Rattle.std.specs.Prelude.{slice_index_or}
use Rattle.semantics.specs.Value.{Assignment}
use Rattle.aig_core.specs.Graph.{GraphValue, literal_value, IsConsistent}
use Rattle.literal_sums.specs.declared.term.Term.{Term}

-- the same number modulo 2^32
abbrev pub Agree : ℕ → ℕ → Type 0
Agree a b = a % 4294967296 ≡ b % 4294967296

-- what a weight counts where its literal is true, and where it is not
abbrev pub counted : Bool → ℕ → ℕ
counted b weight = if b then weight else 0

-- what a literal counts by a weight
abbrev pub literal_count : ℕ → ℕ → Assignment → ℕ
literal_count l weight v = counted (literal_value v l) weight

-- the sum of the weights whose literals are true
unfoldable pub sum_value : Assignment → List Term → ℕ
sum_value v [] = 0
sum_value v (t ∷ ts) = counted (literal_value v t.literal) t.weight + sum_value v ts

-- the weight of a literal: that of the first term that has it, or else 0
unfoldable pub weight_in : ℕ → List Term → ℕ
weight_in l [] = 0
weight_in l (t ∷ ts) = if t.literal == l then t.weight else weight_in l ts

-- the literals of a word, the lowest first, where the lowest counts this weight and each behind it twice as
-- much
unfoldable pub word_value : Assignment → ℕ → List ℕ → ℕ
word_value v weight [] = 0
word_value v weight (l ∷ ls) = counted (literal_value v l) weight + word_value v (2 * weight) ls

-- the constant has its value; so each assignment that is consistent with a graph
abbrev pub HasConstant : Assignment → Type 0
HasConstant v = v 0 ≡ false

-- the sum `all` counts this value and what the sum `part` counts, modulo 2^32
pub record CountsMore (value : Assignment → ℕ) (part all : List Term) : Type 0 where
  pub is : (v : Assignment) → HasConstant v → Agree (sum_value v all) (value v + sum_value v part)

-- the same of one literal
abbrev pub HasMore : ℕ → ℕ → List Term → List Term → Type 0
HasMore l weight part all = CountsMore (literal_count l weight) part all

abbrev pub term_at : List Term → ℕ → Term → Term
term_at ts i t = slice_index_or ts i t

-- two values agree modulo 2^32 wherever the graph's nodes have their values
pub record AgreeOver (g : GraphValue) (first second : Assignment → ℕ) : Type 0 where
  pub is : (x : List Bool) (v : Assignment) → IsConsistent g x v → Agree (first v) (second v)

-- two sums agree so
abbrev pub AgreeAsSums : GraphValue → List Term → List Term → Type 0
AgreeAsSums g first second = AgreeOver g (λ v. sum_value v first) (λ v. sum_value v second)
