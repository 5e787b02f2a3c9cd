-- The net of the tables that are made is the flat net.
use Rattle.std.proofs.Common.{◌≡◌, ℕ, ◌+◌, ◌^◌, ◌<◌, true, List, [], ◌∷◌, map, length, slice_get, Option, Some, None, Result, Ok, Err, IfOk, IfErr, All, refl, ap, sym, subst, ◌∙◌, arith}
use Rattle.std.proofs.lemmas.Option.{none-some, same_Some}
use Rattle.semantics.specs.Texts.{Bytes}
use Rattle.semantics.specs.Net.{TableValue, NetValue, signal_names, name_of, IsName, IsSmall}
use Rattle.semantics.specs.Refusals.{cycle, first_doubled, first_limit, net_refusal}
use Rattle.semantics.proofs.Refused.{small}
use Rattle.blif_semantics.specs.Reading as b
use Rattle.hierarchy_semantics.specs.Models.{BlifModel, Hierarchy, main_of}
use Rattle.hierarchy_semantics.specs.Flat.{flat_net, flat_checked, flattened}
use Rattle.hierarchy_semantics.specs.Refusals as r
use Rattle.hierarchy_semantics.specs.Refusals.{model_names}
use Rattle.hierarchy_semantics.proofs.Members.{IsIn}
use Rattle.hierarchy_semantics.proofs.Accepted.{read_parts, main_read}
use Rattle.hierarchy_semantics.proofs.Formed.{IsFormed}
use Rattle.blif_text.specs.declared.refusal.BlifRefusal.{BlifRefusal}
use Rattle.blif_text.specs.declared.refusal.BlifRefusal.TheVariants.{OutOfMemory as NoMemory}
use Rattle.hier_flat.specs.Hierarchies.{IsReading}
use Rattle.hier_flat.specs.Refusals.{refusal_of, Tells, TellsOne}
use Rattle.hier_flat.specs.Flattening.{main_signal, with_model}
use Rattle.hier_flat.proofs.Readings.{reading_good, reading_formed}
use Rattle.hier_flat.proofs.Checked.{checked_cycle}
use Rattle.hier_flat.proofs.FlatMade.{tables_made, outputs_made}

main_inside : (h : Hierarchy) → IsReading h → IsIn (main_of h) h
main_inside h reading = main_read reading.text reading.most h (read_parts reading.text reading.most h reading.read)

pub main_formed : (h : Hierarchy) → IsReading h → IsFormed (main_of h)
main_formed h reading = reading_formed h reading (main_of h) (main_inside h reading)

abbrev NetOf : Bytes → List Bytes → List TableValue → List ℕ → NetValue
NetOf model inputs tables outputs = record { model = model; inputs = inputs; tables = tables; outputs = outputs }

pub net_is : (h : Hierarchy) → IsReading h → (model : Bytes) (inputs : List Bytes) (tables : List TableValue) (outputs : List ℕ) → model ≡ (main_of h).name → inputs ≡ (main_of h).inputs
    → tables ≡ with_model h (length (main_of h).inputs) (length h) true (main_signal h) (main_of h) [] → outputs ≡ map (main_signal h) (main_of h).outputs
    → NetOf model inputs tables outputs ≡ flat_net h
unfolding flat_net
net_is h reading model inputs tables outputs named listed made given =
    let good = reading_good h reading in
    ap (λ m. NetOf m inputs tables outputs) named
    ∙ ap (λ names. NetOf (main_of h).name names tables outputs) listed
    ∙ ap (λ ts. NetOf (main_of h).name (main_of h).inputs ts outputs) (made ∙ tables_made h good)
    ∙ ap (λ os. NetOf (main_of h).name (main_of h).inputs (flat_net h).tables os) (given ∙ outputs_made h good)

flat_inputs : (h : Hierarchy) → (flat_net h).inputs ≡ (main_of h).inputs
unfolding flat_net
flat_inputs h = refl

pub few_inputs : (h : Hierarchy) → first_limit (flat_net h) ≡ None → length (main_of h).inputs < 2 ^ 31
few_inputs h limits = let little = (small (flat_net h) limits).inputs in let same = ap length (flat_inputs h) in omega (arith, little, same)

pub few_signals : (h : Hierarchy) (model : Bytes) (inputs : List Bytes) (tables : List TableValue) (outputs : List ℕ) → first_limit (flat_net h) ≡ None
    → NetOf model inputs tables outputs ≡ flat_net h → length inputs + length tables < 2 ^ 31
few_signals h model inputs tables outputs limits same =
    let little : IsSmall (NetOf model inputs tables outputs) = subst IsSmall (sym same) (small (flat_net h) limits) in
    let ins = little.inputs in
    let tabs = little.tables in
    omega (arith, ins, tabs)

-- ---- what is told of it

pub flattened_is : (h : Hierarchy) → flattened h ≡ flat_checked (flat_net h)
unfolding flattened
flattened_is h = refl

pub names_once : (h : Hierarchy) → IsReading h → first_doubled (model_names h) ≡ None
names_once h reading = (read_parts reading.text reading.most h reading.read).none.names_differ

abbrev OneOrNone : BlifRefusal → Option r.HierRefusal → Option r.HierRefusal → Type 0
OneOrNone told answer o = elim o [ None ↦ told ≡ NoMemory | Some refusal ↦ answer ≡ Some refusal ]

abbrev ErrOrNone : BlifRefusal → Result NetValue r.HierRefusal → Option r.HierRefusal → Type 0
ErrOrNone told answer o = elim o [ None ↦ told ≡ NoMemory | Some refusal ↦ answer ≡ Err refusal ]

pub tells_checked : (told : BlifRefusal) (answer : Result NetValue r.HierRefusal) (one : r.HierRefusal) → answer ≡ Err one → TellsOne told (Some one) → Tells told answer
tells_checked told answer one is tells = at_refusal (refusal_of told) tells
  where
    at_refusal : (o : Option r.HierRefusal) → OneOrNone told (Some one) o → ErrOrNone told answer o
    at_refusal None h = h
    at_refusal (Some refusal) h = is ∙ ap Err (same_Some one refusal h)

pub cycle_tells : (N : NetValue) (s : ℕ) (names : List Bytes) (told : BlifRefusal) → first_limit N ≡ None → net_refusal N ≡ Some (cycle s) → names ≡ signal_names N
    → TellsOne told (Some (r.flat (b.cycle (name_of names s)))) → Tells told (flat_checked N)
cycle_tells N s names told limits refused is tells =
    tells_checked told (flat_checked N) (r.flat (b.cycle (name_of (signal_names N) s))) (checked_cycle N s limits refused) (subst (λ l. TellsOne told (Some (r.flat (b.cycle (name_of l s))))) is tells)

-- ---- the models as they are held

pub name_at : (h : Hierarchy) (m : BlifModel) → IsReading h → m ≡ main_of h → IsName m.name
name_at h m reading main = subst (λ (k : BlifModel). IsName k.name) (sym main) (main_formed h reading).name

pub inputs_at : (h : Hierarchy) (m : BlifModel) (names : List Bytes) → IsReading h → m ≡ main_of h → names ≡ m.inputs → All IsName names
inputs_at h m names reading main same =
    let all : All IsName m.inputs = subst (λ (k : BlifModel). All IsName k.inputs) (sym main) (main_formed h reading).inputs in
    subst (All IsName) (sym same) all

pub few_at : (h p : Hierarchy) → first_limit (flat_net h) ≡ None → p ≡ h → length (main_of p).inputs < 2 ^ 31
few_at h p limits same = let few = few_inputs h limits in let size = ap (λ k. length (main_of k).inputs) same in omega (arith, few, size)

pub first_main : (h : Hierarchy) (m : BlifModel) → slice_get h 0 ≡ Some m → m ≡ main_of h
first_main [] m e = absurd (none-some m e)
first_main (k ∷ h) m e = sym (same_Some k m e)

pub net_at : (h p : Hierarchy) (m : BlifModel) (levels : ℕ) (model : Bytes) (inputs : List Bytes) (tables : List TableValue) (outputs : List ℕ) → IsReading h → p ≡ h → m ≡ main_of h
    → levels ≡ length h → model ≡ m.name → inputs ≡ m.inputs
    → tables ≡ with_model p (length (main_of p).inputs) levels true (main_signal p) (main_of p) [] → outputs ≡ map (main_signal p) (main_of p).outputs
    → NetOf model inputs tables outputs ≡ flat_net h
net_at h p m levels model inputs tables outputs reading same main count named listed made given =
    net_is h reading model inputs tables outputs (named ∙ ap (λ (k : BlifModel). k.name) main) (listed ∙ ap (λ (k : BlifModel). k.inputs) main)
    (made
    ∙ ap (λ k. with_model k (length (main_of k).inputs) levels true (main_signal k) (main_of k) []) same
    ∙ ap (λ l. with_model h (length (main_of h).inputs) l true (main_signal h) (main_of h) []) count)
    (given ∙ ap (λ k. map (main_signal k) (main_of k).outputs) same)

-- the parts are those of the flat net, so what is known of it is known of them
pub limit_at : (h : Hierarchy) (N : NetValue) → first_limit (flat_net h) ≡ None → N ≡ flat_net h → first_limit N ≡ None
limit_at h N limits same = ap first_limit same ∙ limits

pub ok_at : (h : Hierarchy) (N : NetValue) {E : Type 0} (r : Result NetValue E) → N ≡ flat_net h → IfOk r (λ n. flat_checked N ≡ Ok n) → IfOk r (λ n. flattened h ≡ Ok n)
ok_at h N (Ok n) same is = flattened_is h ∙ ap flat_checked (sym same) ∙ is
ok_at h N (Err told) same is = tt

pub err_at : (h : Hierarchy) (N : NetValue) {X : Type 0} (r : Result X BlifRefusal) → N ≡ flat_net h → IfErr r (λ told. Tells told (flat_checked N)) → IfErr r (λ told. Tells told (flattened h))
err_at h N (Ok x) same is = tt
err_at h N (Err told) same is = subst (Tells told) (sym (flattened_is h ∙ ap flat_checked (sym same))) is
