-- What the steps of a ring's ends and of a row's ends have in common.
use Rattle.std.specs.Prelude.{◌≡◌, ◌⊎◌, ℕ, List, [], ◌∷◌, ◌++◌, Option, Some}
use mathlib.Core.List.{IsPrefix}
use Rattle.atomic_table.specs.Table.{Me, Step}
use Rattle.term_ring.specs.declared.view.View.{View}

-- one of the lists begins with the other
abbrev pub Comparable : {N : Type 0} → List N → List N → Type 0
Comparable xs ys = IsPrefix xs ys ⊎ IsPrefix ys xs

module _ {K N C : Type 0} where
  -- a view of this kind with no notes
  abbrev pub blank : K → Option C → ℕ → View K N C
  blank kind subject places = record { kind = kind; subject = subject; places = places; notes = []; seen = 0; looks = 0; words = []; told = [] }

  -- the list of a copy is told
  abbrev pub told : View K N C → View K N C → View K N C
  told v w = record v { told = w.notes }

  -- the view has a subject, of which P holds
  abbrev pub HasSubject : View K N C → (C → Type 0) → Type 0
  HasSubject v P = (c : C) × (v.subject ≡ Some c) × P c

module _ {S K N C : Type 0} where
  -- a load of a word of the next place
  abbrev pub Peeks : Step S → Me S (View K N C) → ℕ → Me S (View K N C) → Type 0
  Peeks st m r w = w ≡ (record m.0 { words = m.0.words ++ r ∷ [] }, m.1)

  -- a store that gives away the note that the words of the next place spell
  abbrev pub Sends : (N → List ℕ) → (C → N → Type 0) → Step S → Me S (View K N C) → ℕ → Me S (View K N C) → Type 0
  Sends words fits st m r w =
      (n : N) × HasSubject m.0 (λ c. fits c n) × (words n ≡ m.0.words) × (w ≡ (record m.0 { notes = m.0.notes ++ n ∷ []; words = [] }, m.1))

  -- the seat has the note that these words spell
  abbrev pub Gains : (N → List ℕ) → (C → N → Type 0) → (C → List N → Type 0) → List ℕ → Me S (View K N C) → Me S (View K N C) → Type 0
  Gains words fits carry bits m w =
      (n : N) × (rest : List N)
      × HasSubject m.0 (λ c. fits c n × carry c (m.0.notes ++ n ∷ rest))
      × (words n ≡ bits)
      × Comparable (m.0.notes ++ n ∷ []) m.0.told
      × (w ≡ (record m.0 { notes = m.0.notes ++ n ∷ []; words = [] }, m.1))
