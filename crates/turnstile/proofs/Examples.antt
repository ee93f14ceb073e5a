-- A turnstile round a counter, at moments that its rule allows, and at moments that it refuses.
use Rattle.std.proofs.Common.{◌≡◌, ℕ, zero, suc, ◌+◌, ◌≤◌, Bool, cond, [], ◌∷◌, Option, Some, true, false, true≢false, refl, sym, ap, ◌∙◌, subst, arith}
use mathlib.Core.Option.{some, none, some-injective, some-ne-none}
use Rattle.atomic_table.specs.Table.{State}
use Rattle.turnstile.specs.Turns.{View, Stays, Kept, members, Owned, Sound, ValueAtHome, owner, gave, fresh, entered}
use Rattle.turnstile.proofs.Lists.{got}

-- the number of the counter, and how far it has counted
record Counter : Type 0 where
  pub of : ℕ
  pub count : ℕ

abbrev counter : ℕ → ℕ → Counter
counter n k = record { of = n; count = k }

-- it keeps its number, counts up, and is whole up to 9
abbrev stays : Counter → Counter → Type 0
stays = Stays (λ c. c.of) (λ c. c.count) (λ a b. a ≤ b) (λ c. c.count ≤ 9)

-- the rule of a turnstile that was made with the counter 7 at 1
abbrev rule : State (Option Counter) (View Counter) → Type 0
rule = Kept (stays (counter 7 1))

-- its own seat, and its one pass
abbrev own : View Counter
own = gave (owner (counter 7 1))

abbrev pass : View Counter
pass = fresh own

-- the flag is 0, and a counter is at home
abbrev free : Counter → State (Option Counter) (View Counter)
free c = record { words = 0 ∷ []; homes = some (Some c) ∷ []; views = own ∷ pass ∷ [] }

-- the flag is 1, and the pass is inside
abbrev held : State (Option Counter) (View Counter)
held = record { words = 1 ∷ []; homes = none ∷ []; views = own ∷ entered pass ∷ [] }

-- the flag is 0, and nothing is at home
abbrev lost : State (Option Counter) (View Counter)
lost = record { words = 0 ∷ []; homes = none ∷ []; views = own ∷ pass ∷ [] }

owned : (w : View Counter) → w.is_pass ≡ true → Owned (own ∷ w ∷ [])
owned w is u here = subst (λ (x : View Counter). (x.is_pass ≡ false) × (x.inside ≡ false) × (members (own ∷ w ∷ []) ≡ x.out)) (some-injective own u here) (refl, refl, ap (λ (b : Bool). 0 + (cond {A = ℕ} b 1 0 + 0)) is)

sound : (w : View Counter) → w.is_pass ≡ true → Sound (own ∷ w ∷ [])
sound w is zero u here inside = absurd (true≢false (sym inside ∙ ap (λ (x : View Counter). x.inside) (sym (some-injective own u here))))
sound w is (suc zero) u here inside = ap (λ (x : View Counter). x.is_pass) (sym (some-injective w u here)) ∙ is
sound w is (suc (suc i)) u here inside = absurd (some-ne-none u (sym here))

home_of : ValueAtHome (stays (counter 7 1)) (free (counter 7 3))
home_of = (counter 7 3, refl, (refl, omega arith, omega arith))

allows_free : rule (free (counter 7 3))
allows_free = (refl, omega arith, refl, (λ _. home_of), owned pass refl, sound pass refl)

allows_held : rule held
allows_held = (refl, omega arith, refl, (λ e. absurd (omega arith)), owned (entered pass) refl, sound (entered pass) refl)

refuses_lost : rule lost → ⊥
refuses_lost k = some-ne-none _ (sym (some-injective _ _ (k.3 refl).1))

-- whatever is at home while the flag is 0 stays
at_home : (c : Counter) → ValueAtHome (stays (counter 7 1)) (free c) → stays (counter 7 1) c
at_home c home = subst (stays (counter 7 1)) (ap (got c) (sym (some-injective _ _ (some-injective _ _ home.1)))) home.2

refuses_another : rule (free (counter 8 3)) → ⊥
refuses_another k = let same = (at_home (counter 8 3) (k.3 refl)).0 in omega arith

refuses_broken : rule (free (counter 7 10)) → ⊥
refuses_broken k = let whole = (at_home (counter 7 10) (k.3 refl)).2 in omega arith

refuses_undone : rule (free (counter 7 0)) → ⊥
refuses_undone k = let follows = (at_home (counter 7 0) (k.3 refl)).1 in omega arith
