-- The text of no terms.
use Rattle.std.proofs.Common.{◌≡◌, ℕ, zero, suc, cond, List, [], ◌∷◌, Some, None, Ok, pos, refl, ap, arith}
use Rattle.std.proofs.lemmas.Bool.{le-ltb}
use Rattle.text_laws.specs.Bytes.{class_of}
use Rattle.text_laws.specs.Grammar.{Tree, Numeral, Spells}
use Rattle.text_laws.specs.Summands.{vector_of, refused, above_degree, above_coefficient, summands, written_terms}
use Rattle.text_laws.specs.Denotes.{IsDenoted}
use Rattle.text_laws.specs.Canonical.{text}
use Rattle.text_laws.specs.declared.TextFault.TheVariants.{DegreeBound, CoefficientBound}

abbrev zero_tree : Tree
zero_tree = record { blanks = []; sign = None; first = record { head = Numeral (record { first = 48; more = []; blanks = [] }); factors = [] }; others = [] }

spells : (names : List (List ℕ)) → Spells zero_tree (text names [])
unfolding class_of
spells names = record {
  formed = record { blanks = tt; sign = tt; first = record { head = record { first = refl; more = tt; blanks = tt }; factors = tt }; others = tt };
  spelled = refl;
}

no_degree : (lim : ℕ) → above_degree lim (summands zero_tree) ≡ None
no_degree lim = ap (λ b. cond b (Some 0) None) (le-ltb lim 0 (omega arith))

no_coefficient : (p : ℕ) → above_coefficient p (summands zero_tree) ≡ None
no_coefficient zero = refl
no_coefficient (suc k) = refl

-- it denotes the one term 0
pub zero_denotes : (names : List (List ℕ)) (p lim : ℕ) → IsDenoted names p lim (text names []) (Ok (record { monomial = vector_of names []; coefficient = pos 0 } ∷ []))
zero_denotes names p lim = (
  zero_tree,
  spells names,
  (λ i. refused (λ at. DegreeBound at) (no_degree lim i) (refused (λ at. CoefficientBound at) (no_coefficient p i) (Ok (written_terms names (summands zero_tree))))),
)
