-- The automaton goes on from where it stands.
use Rattle.std.proofs.Common.{◌≡◌, ◌<◌, ◌≤◌, ◌+◌, ℕ, true, cond, List, length, drop, get_or, Option, Some, None, sym, ◌∙◌, ap, add-one}
use Rattle.std.proofs.lemmas.List.{drop_more, drop_all}
use Rattle.text_laws.specs.Automaton.{next, is_whole, is_live, fault_from}
use Rattle.text_laws.specs.Bytes.{class_of}
use Rattle.text_laws.specs.declared.ByteClass.{ByteClass}
use Rattle.text_laws.specs.declared.State.{State}
use Rattle.text_laws.specs.declared.State.TheVariants as states

opened : (bs : List ℕ) (i : ℕ) (s t : State) (k : ByteClass) → i < length bs → k ≡ class_of (get_or bs i 0) → t ≡ next s k
    → fault_from s i (drop i bs) ≡ cond (is_live t) (fault_from t (i + 1) (drop (i + 1) bs)) (Some i)
opened bs i s t k h e f =
    let u : next s (class_of (get_or bs i 0)) ≡ t = ap (next s) (sym e) ∙ sym f in
    ap (fault_from s i) (drop_more bs i 0 h) ∙ (λ j. cond (is_live (u j)) (fault_from (u j) (sym (add-one i) j) (drop (i + 1) bs)) (Some i))

-- it lives
pub lives_on : (bs : List ℕ) (i : ℕ) (s t : State) (k : ByteClass) (total : Option ℕ) → i < length bs → k ≡ class_of (get_or bs i 0) → t ≡ next s k → is_live t ≡ true
    → fault_from s i (drop i bs) ≡ total → fault_from t (i + 1) (drop (i + 1) bs) ≡ total
lives_on bs i s t k total h e f l g = sym (opened bs i s t k h e f ∙ ap (λ b. cond b (fault_from t (i + 1) (drop (i + 1) bs)) (Some i)) l) ∙ g

-- it dies
pub dies : (bs : List ℕ) (i : ℕ) (s t : State) (k : ByteClass) (total : Option ℕ) → i < length bs → k ≡ class_of (get_or bs i 0) → t ≡ next s k → t ≡ states.Dead
    → fault_from s i (drop i bs) ≡ total → Some i ≡ total
dies bs i s t k total h e f d g = sym (opened bs i s t k h e f ∙ ap (λ q. cond (is_live q) (fault_from t (i + 1) (drop (i + 1) bs)) (Some i)) d) ∙ g

-- the end
pub ends : (bs : List ℕ) (i : ℕ) (s : State) (total : Option ℕ) → length bs ≤ i → fault_from s i (drop i bs) ≡ total → cond (is_whole s) None (Some i) ≡ total
ends bs i s total h g = sym (ap (fault_from s i) (drop_all i bs h)) ∙ g
