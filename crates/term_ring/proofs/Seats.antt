-- What a rule says of each seat, where a seat steps, is split or is joined.
use Rattle.std.proofs.Common.{◌≡◌, ◌≢◌, ℕ, List, [], ◌∷◌, ◌++◌, length, get_or, set, sym, subst, ⊎_elim}
use mathlib.Core.Option.{some}
use lib.ListN.{get_elem?}
use lib.Seq.{set-get_or}
use Rattle.atomic_table.specs.Table.{State, keeps, stepped}
use Rattle.atomic_table.proofs.Lists.{at_set}
use Rattle.term_ring.proofs.Lists.{at_snoc}

module _ {V : Type 0} where
  -- one seat has a new view, and what is said of the others stays
  pub seats_stay : (Says : ℕ → V → Type 0) (vs : List V) (me : ℕ) (w : V) → Says me w → ((j : ℕ) (v : V) → j ≢ me → get_elem? vs j ≡ some v → Says j v) → (j : ℕ) (v : V) → get_elem? (set vs me w) j ≡ some v → Says j v
  seats_stay Says vs me w mine others j v e = ⊎_elim (λ (t : (j ≡ me) × (w ≡ v)). subst (λ (x : ℕ × V). Says x.0 x.1) (λ i. (sym t.0 i, t.1 i)) mine)
      (λ (t : (j ≢ me) × (get_elem? vs j ≡ some v)). others j v t.0 t.1) (at_set vs me j w v e)

  -- there is one more seat
  pub seats_more : (Says : ℕ → V → Type 0) (vs : List V) (w : V) → Says (length vs) w → ((j : ℕ) (v : V) → get_elem? vs j ≡ some v → Says j v) → (j : ℕ) (v : V) → get_elem? (vs ++ w ∷ []) j ≡ some v → Says j v
  seats_more Says vs w mine others j v e = ⊎_elim (λ (t : get_elem? vs j ≡ some v). others j v t)
      (λ (t : (j ≡ length vs) × (w ≡ v)). subst (λ (x : ℕ × V). Says x.0 x.1) (λ i. (sym t.0 i, t.1 i)) mine) (at_snoc vs w v j e)

  -- the view of another seat
  pub other_at : (vs : List V) (id other : ℕ) (v w : V) → ¬ (other ≡ id) → get_elem? (set vs id v) other ≡ some w → get_elem? vs other ≡ some w
  other_at vs id other v w not_me e = ⊎_elim (λ (t : (other ≡ id) × (v ≡ w)). absurd (not_me t.0)) (λ (t : (other ≢ id) × (get_elem? vs other ≡ some w)). t.1) (at_set vs id other v w e)

-- The rule says of each seat what `Says` has for its kind, and it stays where the words stay and the views become others of which that is said.
pub record SaysOfSeats {S V K : Type 0} (Rule : State S V → Type 0) (kind : V → K) (Says : (s : State S V) → Rule s → ℕ → V → K → Type 0) : Type 0 where
  pub each : (s : State S V) (r : Rule s) (j : ℕ) (v : V) → get_elem? s.views j ≡ some v → Says s r j v (kind v)
  pub reseated : (s : State S V) (r : Rule s) (views : List V) → ((j : ℕ) (v : V) → get_elem? views j ≡ some v → Says s r j v (kind v)) → Rule record { words = s.words; homes = s.homes; views = views }

module _ {S V K : Type 0} {Rule : State S V → Type 0} {kind : V → K} {Says : (s : State S V) → Rule s → ℕ → V → K → Type 0} (h : SaysOfSeats Rule kind Says) (s : State S V) (r : Rule s) where
  -- what a seat of this kind knows
  pub knows : (id : ℕ) (v : V) (k : K) → get_elem? s.views id ≡ some v → kind v ≡ k → Says s r id v k
  knows id v k at is = subst (Says s r id v) is (h.each s r id v at)

  -- a step that changes no word
  pub unmoved : (i me : ℕ) (cs : List (ℕ × S)) (w : V) → Says s r me w (kind w) → Rule (stepped s i (get_or s.words i 0) me cs w keeps)
  unmoved i me cs w mine = subst (λ (ws : List ℕ). Rule record { words = ws; homes = s.homes; views = set s.views me w }) (sym (set-get_or s.words i 0))
      (h.reseated s r (set s.views me w) (seats_stay (λ j v. Says s r j v (kind v)) s.views me w mine (λ j v _. h.each s r j v)))

  -- a seat is split, and the new one has the view w
  pub split_off : (id : ℕ) (v w : V) → get_elem? s.views id ≡ some v → ((j : ℕ) → Says s r j w (kind w)) → Rule record { words = s.words; homes = s.homes; views = set s.views id v ++ w ∷ [] }
  split_off id v w at knows_w = h.reseated s r (set s.views id v ++ w ∷ [])
      (seats_more (λ j u. Says s r j u (kind u)) (set s.views id v) w (knows_w (length (set s.views id v)))
      (seats_stay (λ j u. Says s r j u (kind u)) s.views id v (h.each s r id v at) (λ j u _. h.each s r j u)))

  -- a seat takes in another, which is spent
  pub join_in : (id other : ℕ) (v spent : V) → Says s r id v (kind v) → Says s r other spent (kind spent) → Rule record { words = s.words; homes = s.homes; views = set (set s.views id v) other spent }
  join_in id other v spent mine nothing = h.reseated s r (set (set s.views id v) other spent)
      (seats_stay (λ j u. Says s r j u (kind u)) (set s.views id v) other spent nothing
      (λ j u _. seats_stay (λ j u. Says s r j u (kind u)) s.views id v mine (λ j u _. h.each s r j u) j u))
