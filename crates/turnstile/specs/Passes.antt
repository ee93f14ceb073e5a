-- What a clause says of a turnstile and of a pass.
use Rattle.std.specs.Prelude.{◌≡◌, ℕ, true, false, List, [], ◌∷◌, map, Option, Some, None}
use Rattle.atomic_table.specs.Seated.{TableId}
use Rattle.turnstile.specs.Own.{out_of}
use Rattle.turnstile.specs.declared.members.Member.{Member}
use Rattle.turnstile.specs.declared.turn.Pass.{Pass}
use Rattle.turnstile.specs.declared.turn.Turnstile.{Turnstile}

module _ {T : Type 0} where
  -- the value with which the turnstile was made
  abbrev pub made_with : Turnstile T → T
  made_with t = t.table.shared.key.value

  -- how many passes were made
  abbrev pub passes_out : Turnstile T → ℕ
  passes_out t = out_of t.own

  -- the identity of its table
  abbrev pub table_of : Turnstile T → TableId
  table_of t = t.table.shared.table_id

  -- it is a pass of this turnstile
  abbrev pub IsPassOf : Turnstile T → Pass T → Type 0
  IsPassOf t p = (p.seat.table_id ≡ t.table.shared.table_id) × (p.seat.me.0.made ≡ Some (made_with t)) × (p.seat.me.0.is_pass ≡ true)

module _ {T : Type 0} where
  -- it holds nothing
  abbrev pub IsOutside : Pass T → Type 0
  IsOutside p = (p.seat.me.0.inside ≡ false) × (p.seat.me.1 ≡ [])

  -- it holds the turnstile's slot, and the value is out of it
  abbrev pub IsInside : Pass T → Type 0
  IsInside p = (p.seat.me.0.inside ≡ true) × (p.seat.me.1 ≡ (0, None) ∷ [])

  -- how often it came in
  abbrev pub entries : Pass T → ℕ
  entries p = p.seat.me.0.entries

  -- how many of its tries found the turnstile held
  abbrev pub busy : Pass T → ℕ
  busy p = p.seat.me.0.busy

module _ {T : Type 0} where
  -- there is a pass, of this turnstile and outside
  abbrev pub HasPass : Turnstile T → Option (Pass T) → Type 0
  HasPass t o = (p : Pass T) × (o ≡ Some p) × IsPassOf t p × IsOutside p

  -- how often the pass came in, and how many of its tries found the turnstile held
  abbrev pub entries_of : Option (Pass T) → ℕ
  entries_of None = 0
  entries_of (Some p) = entries p

  abbrev pub busy_of : Option (Pass T) → ℕ
  busy_of None = 0
  busy_of (Some p) = busy p

-- the members have the same workers, in the same order
abbrev pub SameTeam : {W T : Type 0} → List (Member W T) → List (Member W T) → Type 0
SameTeam old new = map (λ m. m.worker) new ≡ map (λ m. m.worker) old

-- how often at least a worker that finds the turnstile held each time tries it before it gives up
abbrev pub patience : ℕ
patience = 64
