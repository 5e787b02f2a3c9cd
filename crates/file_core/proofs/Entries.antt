-- What a list of entries holds, and how it changes where an entry is set or put at its end.
use Rattle.std.proofs.Common.{◌≡◌, ◌≢◌, ℕ, zero, suc, ◌<◌, Bool, true, false, cond, List, [], ◌∷◌, ◌++◌, length, set, take, Some, None, refl, sym, ap, subst, ◌∙◌, arith, ⊎_elim, get_or-set_same}
use Rattle.std.proofs.Common.{get_or-set_other, length-set}
use Rattle.std.proofs.lemmas.List.{get_or_append_left, get_or_push, length_push, take_at}
use Rattle.std.proofs.lemmas.Bool.{cases_eq, cond-true, cond-false, false_from_ne_true}
use Rattle.std.specs.Ordering.{nat_cmp, eq_by_cmp}
use Rattle.std.specs.Cmp.{eq_by_cmp_equiv}
use Rattle.std.specs.Cmp.Lexicographic.{slice_cmp, nat_list_cmp_total}
use Rattle.std.specs.FinMap.{find, get, insert, get-insert, get-from_entries, from_entries_push, same_map, slice_cmp-IsAntisymmetric, nat_cmp-IsAntisymmetric}
use Rattle.semantics.specs.Texts.{Bytes}
use Rattle.file_core.specs.Entries.{Entry, name_at, bytes_at, held_in, LacksName, IsFirstAt, IsCounted, SetsFile}
use Rattle.outside_semantics.proofs.HeldFiles.{is_eq-Equal, inner_covered}

abbrev same_name : Bytes → Bytes → Bool
same_name = eq_by_cmp (slice_cmp nat_cmp)

same_name-is : (x y : Bytes) → same_name x y ≡ true → x ≡ y
same_name-is x y e = slice_cmp-IsAntisymmetric nat_cmp-IsAntisymmetric x y (is_eq-Equal _ e)

same_name-other : (x y : Bytes) → y ≢ x → same_name x y ≡ false
same_name-other x y ne = false_from_ne_true _ (λ e. ne (sym (same_name-is x y e)))

find_none : (es : List Entry) (name : Bytes) → LacksName es name → find (slice_cmp nat_cmp) name es ≡ None
find_none [] name lacks = refl
find_none (e ∷ es) name lacks =
    cond-false _ _ _ (same_name-other name e.0 (lacks 0 (omega arith))) ∙ find_none es name (λ k h. lacks (suc k) (omega arith))

find_first : (es : List Entry) (name : Bytes) (i : ℕ) → i < length es → name_at es i ≡ name → ((k : ℕ) → k < i → name_at es k ≢ name) → find (slice_cmp nat_cmp) name es ≡ Some (bytes_at es i)
find_first [] name i within named before = absurd (omega arith)
find_first (e ∷ es) name zero within named before =
    cond-true _ _ _ (subst (λ x. same_name name x ≡ true) (sym named) ((eq_by_cmp_equiv nat_list_cmp_total).refl name))
find_first (e ∷ es) name (suc i) within named before =
    cond-false _ _ _ (same_name-other name e.0 (before 0 (omega arith)))
    ∙ find_first es name i (omega arith) named (λ k h. before (suc k) (omega arith))

-- a name that no entry has is not held
pub get-lacks : (es : List Entry) (name : Bytes) → LacksName es name → get (held_in es) name ≡ None
get-lacks es name lacks = get-from_entries nat_list_cmp_total es name ∙ find_none es name lacks

-- a name holds the bytes of its first entry
pub get-first : {es : List Entry} {name : Bytes} {i : ℕ} → IsFirstAt es name i → get (held_in es) name ≡ Some (bytes_at es i)
get-first {es} {name} {i} at =
    get-from_entries nat_list_cmp_total es name ∙ find_first es name i at.within at.named at.before

swapped : {A : Type 0} (a b : Bool) (x y z : A) → (a ≡ true → b ≡ true → ⊥) → cond a x (cond b y z) ≡ cond b y (cond a x z)
swapped true true x y z apart = absurd (apart refl refl)
swapped true false x y z apart = refl
swapped false b x y z apart = refl

find-set : (es : List Entry) (name bytes q : Bytes) (i : ℕ) → i < length es → name_at es i ≡ name → ((k : ℕ) → k < i → name_at es k ≢ name)
    → find (slice_cmp nat_cmp) q (set es i (name, bytes)) ≡ cond (same_name q name) (Some bytes) (find (slice_cmp nat_cmp) q es)
find-set [] name bytes q i within named before = absurd (omega arith)
find-set (e ∷ es) name bytes q zero within named before =
    sym (ap (λ x. cond (same_name q name) (Some bytes) (cond (same_name q x) (Some e.1) (find (slice_cmp nat_cmp) q es))) named
    ∙ inner_covered (same_name q name) (Some bytes) (Some e.1) (find (slice_cmp nat_cmp) q es))
find-set (e ∷ es) name bytes q (suc i) within named before =
    ap (cond (same_name q e.0) (Some e.1)) (find-set es name bytes q i (omega arith) named (λ k h. before (suc k) (omega arith)))
    ∙ swapped (same_name q e.0) (same_name q name) (Some e.1) (Some bytes) (find (slice_cmp nat_cmp) q es)
    (λ p r. before 0 (omega arith) (sym (same_name-is q e.0 p) ∙ same_name-is q name r))

held_in-set : (es : List Entry) (name bytes : Bytes) (i : ℕ) → IsFirstAt es name i → held_in (set es i (name, bytes)) ≡ insert (held_in es) name bytes
held_in-set es name bytes i at =
    same_map nat_list_cmp_total (slice_cmp-IsAntisymmetric nat_cmp-IsAntisymmetric) _ _ (λ q.
    get-from_entries nat_list_cmp_total (set es i (name, bytes)) q
    ∙ find-set es name bytes q i at.within at.named at.before
    ∙ ap (cond (same_name q name) (Some bytes)) (sym (get-from_entries nat_list_cmp_total es q))
    ∙ sym (get-insert nat_list_cmp_total (held_in es) name bytes q))

-- a set of the bytes of an entry changes no name
name_at-set : (es : List Entry) (name bytes : Bytes) (i k : ℕ) → i < length es → name_at es i ≡ name → name_at (set es i (name, bytes)) k ≡ name_at es k
name_at-set es name bytes i k within named =
    ⊎_elim
    (λ (same : k ≡ i). subst (λ x. name_at (set es i (name, bytes)) x ≡ name_at es x) (sym same) (ap (λ e. e.0) (get_or-set_same es i (name, bytes) ([], []) within) ∙ sym named))
    (λ (other : k ≡ i → ⊥). ap (λ e. e.0) (get_or-set_other es i k (name, bytes) ([], []) other))
    (cases_eq k i)

first-set : (es : List Entry) (name bytes other : Bytes) (i k : ℕ) → i < length es → name_at es i ≡ name → IsFirstAt es other k → IsFirstAt (set es i (name, bytes)) other k
first-set es name bytes other i k within named at = record {
  within = subst (λ n. k < n) (sym (length-set es i (name, bytes))) at.within;
  named = name_at-set es name bytes i k within named ∙ at.named;
  before = λ j h e. at.before j h (sym (name_at-set es name bytes i j within named) ∙ e);
}

-- the bytes of the first entry with a name are set
pub SetsFile-set : (es new : List Entry) (name bytes : Bytes) (i : ℕ) → IsFirstAt es name i → new ≡ set es i (name, bytes) → SetsFile es new name bytes i
SetsFile-set es new name bytes i at e = subst (λ x. SetsFile es x name bytes i) (sym e) (record {
  first = first-set es name bytes name i i at.within at.named at;
  held = held_in-set es name bytes i at;
  keeps = λ other k was. first-set es name bytes other i k at.within at.named was;
})

first-push : (es : List Entry) (e : Entry) (other : Bytes) (k : ℕ) → IsFirstAt es other k → IsFirstAt (es ++ e ∷ []) other k
first-push es e other k at = record {
  within = subst (λ n. k < n) (sym (length_push es e)) (let h : k < length es = at.within in omega arith);
  named = ap (λ x. x.0) (get_or_append_left es (e ∷ []) ([], []) k at.within) ∙ at.named;
  before = λ j h is. at.before j h (sym (ap (λ x. x.0) (get_or_append_left es (e ∷ []) ([], []) j (let l : k < length es = at.within in omega arith))) ∙ is);
}

-- an entry with a new name is put at the end
pub SetsFile-push : (es new : List Entry) (name bytes : Bytes) (i : ℕ) → LacksName es name → i ≡ length es → new ≡ es ++ (name, bytes) ∷ [] → SetsFile es new name bytes i
SetsFile-push es new name bytes i lacks at_end e =
    subst (λ x. SetsFile es x name bytes i) (sym e) (subst (λ x. SetsFile es (es ++ (name, bytes) ∷ []) name bytes x) (sym at_end) (record {
      first = record {
        within = subst (λ n. length es < n) (sym (length_push es (name, bytes))) (omega arith);
        named = ap (λ x. x.0) (get_or_push es (name, bytes) ([], []) (length es) refl);
        before = λ k h is. lacks k h (sym (ap (λ x. x.0) (get_or_append_left es ((name, bytes) ∷ []) ([], []) k h)) ∙ is);
      };
      held = from_entries_push nat_list_cmp_total (slice_cmp-IsAntisymmetric nat_cmp-IsAntisymmetric) es name bytes (find_none es name lacks);
      keeps = λ other k was. first-push es (name, bytes) other k was;
    }))

-- a file is set through a slice of the whole list
SetsFile-within : (es new others : List Entry) (name bytes : Bytes) (i n : ℕ) → IsFirstAt es name i → length es ≡ n → new ≡ set es i (name_at es i, bytes)
    → SetsFile es (take n (new ++ others)) name bytes i
SetsFile-within es new others name bytes i n at whole e =
    SetsFile-set es (take n (new ++ others)) name bytes i at
    (take_at new others n (ap length e ∙ length-set es i (name_at es i, bytes) ∙ whole) ∙ e ∙ ap (λ x. set es i (x, bytes)) at.named)

pub SetsFile-emptied : (es part new others : List Entry) (name : Bytes) (i n : ℕ) → IsFirstAt es name i → length es ≡ n → part ≡ es → new ≡ set part i (name_at part i, [])
    → SetsFile es (take n (new ++ others)) name [] i
SetsFile-emptied es part new others name i n at whole same e =
    SetsFile-within es new others name [] i n at whole (e ∙ ap (λ x. set x i (name_at x i, [])) same)

pub SetsFile-extended : (es part new others : List Entry) (piece : Bytes) (i n : ℕ) → IsCounted es i → length es ≡ n → part ≡ es → new ≡ set part i (name_at part i, bytes_at part i ++ piece)
    → SetsFile es (take n (new ++ others)) (name_at es i) (bytes_at es i ++ piece) i
SetsFile-extended es part new others piece i n at whole same e =
    SetsFile-within es new others (name_at es i) (bytes_at es i ++ piece) i n at whole (e ∙ ap (λ x. set x i (name_at x i, bytes_at x i ++ piece)) same)
