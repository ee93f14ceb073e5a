-- The turnstile as plain data, and what each step does to it.
use Rattle.std.specs.Prelude.{◌≡◌, ◌≢◌, ℕ, ◌+◌, ◌-◌, ◌≤◌, Bool, true, false, cond, List, [], ◌∷◌, Option, Some, None, slice_index, length}
use mathlib.Core.Option.{some}
use lib.ListN.{get_elem?}
use Rattle.atomic_table.specs.Table.{State, Me}
pub use Rattle.turnstile.specs.declared.view.View.{View}

-- the second value has the name of the first, follows it, and is whole
abbrev pub Stays : {T N R : Type 0} → (T → N) → (T → R) → (R → R → Type 0) → (T → Type 0) → T → T → Type 0
Stays name reached follows whole made v = (name v ≡ name made) × follows (reached made) (reached v) × whole v

module _ {T : Type 0} where
  -- how many of the views meet a test
  abbrev pub tally : (View T → Bool) → List (View T) → ℕ
  tally p [] = 0
  tally p (v ∷ vs) = cond (p v) 1 0 + tally p vs

  -- the view of the turnstile's own seat at first
  abbrev pub owner : T → View T
  owner x = record { made = Some x; out = 0; is_pass = false; inside = false; entries = 0; busy = 0 }

  -- after a pass was given out
  abbrev pub gave : View T → View T
  gave v = record v { out = v.out + 1 }

  -- after a pass came back
  abbrev pub took_back : View T → View T
  took_back v = record v { out = v.out - 1 }

  -- the view of a new pass of a turnstile
  abbrev pub fresh : View T → View T
  fresh v = record { made = v.made; out = 0; is_pass = true; inside = false; entries = 0; busy = 0 }

  -- the view of a seat that was joined
  abbrev pub spent : View T
  spent = record { made = None; out = 0; is_pass = false; inside = false; entries = 0; busy = 0 }

  -- after a try that found the flag free
  abbrev pub entered : View T → View T
  entered v = record v { inside = true; entries = v.entries + 1 }

  -- after a try that found it held
  abbrev pub refused : View T → View T
  refused v = record v { busy = v.busy + 1 }

  -- after the value was put back
  abbrev pub came_out : View T → View T
  came_out v = record v { inside = false }

  -- how many views are passes
  abbrev pub members : List (View T) → ℕ
  members = tally (λ v. v.is_pass)

  -- how many views are inside
  abbrev pub insides : List (View T) → ℕ
  insides = tally (λ v. v.inside)

  -- the first seat is no pass, and knows how many passes are out
  abbrev pub Owned : List (View T) → Type 0
  Owned vs = (u : View T) → get_elem? vs 0 ≡ some u → (u.is_pass ≡ false) × (u.inside ≡ false) × (members vs ≡ u.out)

  -- only a pass is inside
  abbrev pub Sound : List (View T) → Type 0
  Sound vs = (i : ℕ) (u : View T) → get_elem? vs i ≡ some u → u.inside ≡ true → u.is_pass ≡ true

  -- the flag is 0
  abbrev pub IsFree : State (Option T) (View T) → Type 0
  IsFree s = slice_index s.words 0 ≡ 0

  -- slot 0 is at home, and the value in it fits
  abbrev pub ValueAtHome : (T → Type 0) → State (Option T) (View T) → Type 0
  ValueAtHome fits s = (value : T) × (get_elem? s.homes 0 ≡ some (some (Some value))) × fits value

  -- the flag is the number of passes inside, at most one; while it is 0 the value is at home
  abbrev pub Kept : (T → Type 0) → State (Option T) (View T) → Type 0
  Kept fits s =
      (length s.words ≡ 1)
      × (slice_index s.words 0 ≤ 1)
      × (insides s.views ≡ slice_index s.words 0)
      × (IsFree s → ValueAtHome fits s)
      × Owned s.views
      × Sound s.views

  -- two seats that are inside are one
  abbrev pub AtMostOneInside : State (Option T) (View T) → Type 0
  AtMostOneInside s = (i j : ℕ) (u v : View T) → get_elem? s.views i ≡ some u → u.inside ≡ true → get_elem? s.views j ≡ some v → v.inside ≡ true → i ≡ j

  -- the value fits what the view knows
  abbrev pub FitsMade : (T → T → Type 0) → Option T → T → Type 0
  FitsMade stays None v = Unit {0}
  FitsMade stays (Some made) v = stays made v

  -- a try that found the turnstile free took the value, and any other is counted
  abbrev pub Tried : (T → T → Type 0) → Me (Option T) (View T) → ℕ → Me (Option T) (View T) → Type 0
  Tried stays m n w =
      (n ≤ 1)
      × (n ≡ 0 → (w.0 ≡ entered m.0) × ((value : T) × (w.1 ≡ (0, Some value) ∷ m.1) × FitsMade stays m.0.made value))
      × (n ≢ 0 → (w ≡ (refused m.0, m.1)))

  -- a pass that left is outside and holds nothing
  abbrev pub Left : Me (Option T) (View T) → Me (Option T) (View T) → Type 0
  Left m w = w ≡ (came_out m.0, [])
