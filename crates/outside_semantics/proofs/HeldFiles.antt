-- What is held after files were written.
use Rattle.std.proofs.Common.{◌≡◌, ◌≢◌, Bool, true, false, cond, List, [], ◌∷◌, ◌++◌, Some, refl, sym, ap, ◌∙◌}
use Rattle.std.specs.List.{AllByRecursion}
use Rattle.std.proofs.lemmas.Bool.{cond-true}
use Rattle.std.specs.Ordering.{nat_cmp, eq_by_cmp, is_eq}
use Rattle.std.specs.Cmp.{eq_by_cmp_equiv}
use Rattle.std.specs.Cmp.Lexicographic.{slice_cmp, nat_list_cmp_total}
use Rattle.std.specs.FinMap.{get, insert, get-insert, get_tied, same_map, slice_cmp-IsAntisymmetric, nat_cmp-IsAntisymmetric}
use Rattle.std.specs.declared.cmp.Ordering.{Ordering}
use Rattle.std.specs.declared.cmp.Ordering.TheVariants.{Less, Equal, Greater}
use Rattle.semantics.specs.Texts.{Bytes}
use Rattle.outside_semantics.specs.Outside.{Held}
use Rattle.outside_semantics.specs.WrittenFiles.{File, with_files}

pub is_eq-Equal : (r : Ordering) → is_eq r ≡ true → r ≡ Equal
is_eq-Equal Less e = cc
is_eq-Equal Equal e = refl
is_eq-Equal Greater e = cc

-- a name that was just inserted is held with what was inserted
pub get-insert_same : (h : Held) (name bytes : Bytes) → get (insert h name bytes) name ≡ Some bytes
get-insert_same h name bytes =
    get-insert nat_list_cmp_total h name bytes name ∙ cond-true _ _ _ ((eq_by_cmp_equiv nat_list_cmp_total).refl name)

cond-other : {A : Type 0} (b : Bool) (x y : A) → (b ≡ true → ⊥) → cond b x y ≡ y
cond-other true x y no_match = absurd (no_match refl)
cond-other false x y no_match = refl

-- and another name with what it was held with
pub get-insert_other : (h : Held) (name bytes other : Bytes) → (name ≢ other) → get (insert h name bytes) other ≡ get h other
get-insert_other h name bytes other differ =
    get-insert nat_list_cmp_total h name bytes other
    ∙ cond-other _ _ _ (λ e. differ (sym (slice_cmp-IsAntisymmetric nat_cmp-IsAntisymmetric other name (is_eq-Equal _ e))))

pub inner_covered : {A : Type 0} (b : Bool) (x y z : A) → cond b x (cond b y z) ≡ cond b x z
inner_covered true x y z = refl
inner_covered false x y z = refl

-- of two inserts under one name the last counts
pub insert-insert : (h : Held) (name s t : Bytes) → insert (insert h name s) name t ≡ insert h name t
insert-insert h name s t =
    same_map nat_list_cmp_total (slice_cmp-IsAntisymmetric nat_cmp-IsAntisymmetric) _ _ (λ q.
    get-insert nat_list_cmp_total (insert h name s) name t q
    ∙ ap (cond (eq_by_cmp (slice_cmp nat_cmp) q name) (Some t)) (get-insert nat_list_cmp_total h name s q)
    ∙ inner_covered (eq_by_cmp (slice_cmp nat_cmp) q name) (Some t) (Some s) (get h q)
    ∙ sym (get-insert nat_list_cmp_total h name t q))

covered_by_own : (h : Held) (name bytes q : Bytes) → get h name ≡ Some bytes → (b : Bool) → eq_by_cmp (slice_cmp nat_cmp) q name ≡ b → cond b (Some bytes) (get h q) ≡ get h q
covered_by_own h name bytes q is true e = sym is ∙ get_tied nat_list_cmp_total h q name (is_eq-Equal _ e)
covered_by_own h name bytes q is false e = refl

-- to insert under a name the bytes that it holds changes nothing
pub insert-get : (h : Held) (name bytes : Bytes) → get h name ≡ Some bytes → insert h name bytes ≡ h
insert-get h name bytes is =
    same_map nat_list_cmp_total (slice_cmp-IsAntisymmetric nat_cmp-IsAntisymmetric) _ _ (λ q.
    get-insert nat_list_cmp_total h name bytes q ∙ covered_by_own h name bytes q is (eq_by_cmp (slice_cmp nat_cmp) q name) refl)

pub with_files-others : (h : Held) (files : List File) (name : Bytes) → AllByRecursion (λ f. f.name ≢ name) files → get (with_files h files) name ≡ get h name
with_files-others h [] name differ = refl
with_files-others h (f ∷ files) name differ =
    with_files-others (insert h f.name f.text) files name differ.1 ∙ get-insert_other h f.name f.text name differ.0

pub with_files-append : (h : Held) (fs gs : List File) → with_files h (fs ++ gs) ≡ with_files (with_files h fs) gs
with_files-append h [] gs = refl
with_files-append h (f ∷ fs) gs = with_files-append (insert h f.name f.text) fs gs

pub with_files-holds : (h : Held) (before after : List File) (f : File) → AllByRecursion (λ g. g.name ≢ f.name) after
    → get (with_files h (before ++ f ∷ after)) f.name ≡ Some f.text
with_files-holds h before after f differ =
    ap (λ k. get k f.name) (with_files-append h before (f ∷ after))
    ∙ with_files-others (insert (with_files h before) f.name f.text) after f.name differ
    ∙ get-insert_same (with_files h before) f.name f.text
