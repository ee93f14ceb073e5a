-- What a text denotes: terms whose sum is the polynomial, or its first fault with its place. It is said of whole texts, by the grammar.
use Rattle.std.specs.Prelude.{◌≡◌, ◌⊎◌, ◌<◌, ℕ, suc, List, length, take, Result, Err}
use Rattle.sdmp_laws.specs.Poly.{Term}
use Rattle.text_laws.specs.Grammar.{Tree, Spells, IsText, BeginsText}
use Rattle.text_laws.specs.Summands.{summands, verdict}
use Rattle.text_laws.specs.declared.TextFault.{TextFault}
use Rattle.text_laws.specs.declared.TextFault.TheVariants.{Syntax}

-- at is the least k such that the first k + 1 bytes begin no text; where all of the bytes begin one, it is their number
pub record IsSyntaxFault (bytes : List ℕ) (at : ℕ) : Type 0 where
  pub no_text : IsText bytes → ⊥
  pub before : (k : ℕ) → k < at → BeginsText (take (suc k) bytes)
  pub there : ((at < length bytes) × (BeginsText (take (suc at) bytes) → ⊥)) ⊎ ((at ≡ length bytes) × BeginsText bytes)

-- the bytes are spelled by a tree that has this verdict
abbrev pub HasVerdict : List (List ℕ) → ℕ → ℕ → List ℕ → Result (List Term) TextFault → Type 0
HasVerdict names p lim bytes r = (t : Tree) × Spells t bytes × (verdict names p lim (summands t) ≡ r)

-- the bytes denote the sum of these terms, or this fault
abbrev pub IsDenoted : List (List ℕ) → ℕ → ℕ → List ℕ → Result (List Term) TextFault → Type 0
IsDenoted names p lim bytes (Err (Syntax at)) = IsSyntaxFault bytes at
IsDenoted names p lim bytes r = HasVerdict names p lim bytes r
