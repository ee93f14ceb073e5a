-- The statements of the laws.
use Rattle.std.specs.Prelude.{◌≡◌, ◌<◌, ◌^◌, ◌↔◌, ℕ, true, List, length, Result, Ok}
use Rattle.sdmp_laws.specs.Order.{Order}
use Rattle.sdmp_laws.specs.Poly.{Term}
use Rattle.sdmp_laws.specs.Canonical.{IsCanonical}
use Rattle.text_laws.specs.Automaton.{run, is_whole, is_live, start}
use Rattle.text_laws.specs.Grammar.{Tree, Spells, IsText, BeginsText}
use Rattle.text_laws.specs.Denotes.{IsSyntaxFault, IsDenoted}
use Rattle.text_laws.specs.Reading.{denotes, reading}
use Rattle.text_laws.specs.Canonical.{text, AreNames}
use Rattle.text_laws.specs.declared.TextFault.{TextFault}

-- the automaton accepts exactly the texts
abbrev pub AutomatonAccepts : Type 0
AutomatonAccepts = (bytes : List ℕ) → (is_whole (run start bytes) ≡ true ↔ IsText bytes)

-- it lives on exactly what begins a text
abbrev pub AutomatonLives : Type 0
AutomatonLives = (bytes : List ℕ) → (is_live (run start bytes) ≡ true ↔ BeginsText bytes)

-- a text has one tree
abbrev pub OneTree : Type 0
OneTree = (bytes : List ℕ) (t u : Tree) → Spells t bytes → Spells u bytes → t ≡ u

-- there is one place of a syntax fault
abbrev pub OnePlace : Type 0
OnePlace = (bytes : List ℕ) (j k : ℕ) → IsSyntaxFault bytes j → IsSyntaxFault bytes k → j ≡ k

-- bytes denote one thing at the most
abbrev pub OneReading : Type 0
OneReading =
    (names : List (List ℕ)) (p lim : ℕ) (bytes : List ℕ) (r s : Result (List Term) TextFault) →
    IsDenoted names p lim bytes r → IsDenoted names p lim bytes s → r ≡ s

-- what bytes denote by the grammar is what is computed of them
abbrev pub DenotesIs : Type 0
DenotesIs =
    (names : List (List ℕ)) (p lim : ℕ) (bytes : List ℕ) (r : Result (List Term) TextFault) →
    (IsDenoted names p lim bytes r ↔ (denotes names p lim bytes ≡ r))

-- the canonical text of a polynomial is read as that polynomial
abbrev pub TextReads : Type 0
TextReads =
    (ord : Order) (names : List (List ℕ)) (p lim : ℕ) (L : List Term) →
    p < 2 ^ 64 → lim < 2 ^ 32 → AreNames names → IsCanonical ord p (length names) lim L →
    reading ord names p lim (text names L) ≡ Ok L

-- what is read is a polynomial within the limits
abbrev pub ReadingIsCanonical : Type 0
ReadingIsCanonical =
    (ord : Order) (names : List (List ℕ)) (p lim : ℕ) (bytes : List ℕ) (L : List Term) →
    AreNames names →
    reading ord names p lim bytes ≡ Ok L → IsCanonical ord p (length names) lim L
