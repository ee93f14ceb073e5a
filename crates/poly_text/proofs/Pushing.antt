-- A term that was pushed, if there was one.
use Rattle.std.proofs.Common.{◌≡◌, ◌++◌, List, All, Option, Some, None, refl, sym, subst, append-nil}
use Rattle.std.specs.Prelude.{IfSome}
use Rattle.std.proofs.lemmas.List.Elements.{All-push}
use Rattle.canonical_terms.specs.declared.term.TermOf.{TermOf}
use Rattle.poly_text.specs.ReadsTerms.{pushed}

all_pushed : {M E : Type 0} (B : TermOf M E → Type 0) (v : List (TermOf M E)) (m : Option M) (e : Option E) → All B v → ((x : M) (y : E) → m ≡ Some x → e ≡ Some y → B (record { mono = x; coef = y })) → All B (v ++ pushed m e)
all_pushed B v None e h f = subst (All B) (sym (append-nil v)) h
all_pushed B v (Some x) None h f = subst (All B) (sym (append-nil v)) h
all_pushed B v (Some x) (Some y) h f = All-push B v (record { mono = x; coef = y }) h (f x y refl refl)

pub monos_pushed : {M E : Type 0} (Q : M → Type 0) (v v' : List (TermOf M E)) (m : Option M) (e : Option E) → v' ≡ v ++ pushed m e → All (λ t. Q t.mono) v → IfSome m Q → All (λ t. Q t.mono) v'
monos_pushed Q v v' m e w h g = subst (All (λ t. Q t.mono)) (sym w) (all_pushed (λ t. Q t.mono) v m e h (λ x y s _. subst (λ o. IfSome o Q) s g))

pub coefs_pushed : {M E : Type 0} (Q : E → Type 0) (v v' : List (TermOf M E)) (m : Option M) (e : Option E) → v' ≡ v ++ pushed m e → All (λ t. Q t.coef) v → IfSome e Q → All (λ t. Q t.coef) v'
coefs_pushed Q v v' m e w h g = subst (All (λ t. Q t.coef)) (sym w) (all_pushed (λ t. Q t.coef) v m e h (λ x y _ s. subst (λ o. IfSome o Q) s g))
