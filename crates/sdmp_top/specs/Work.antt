-- The products and divisions that the lines of a session make, and how many notes and quotient terms the workers make for them.
use Rattle.std.specs.Prelude.{◌≡◌, ◌+◌, ◌≤◌, ◌++◌, ℕ, leb, List, [], ◌∷◌, length, sum_by, if◌then◌else◌, Option, Some, None, Result, Ok, Err}
use Rattle.sdmp_laws.specs.Order.{Order}
use Rattle.sdmp_laws.specs.Poly.{Term}
use Rattle.sdmp_laws.specs.Division.{Division}
use Rattle.sdmp_laws.specs.LongDivision.{quotient_list}
use Rattle.sdmp_laws.specs.declared.Mode.TheVariants.{Exact, Remainder}
use Rattle.whole_laws.specs.Notes.{Product}
use Rattle.global_heap.specs.Names.{notes_total}
use Rattle.calc_session.specs.Body.{Form, Ask, form_of}
use Rattle.calc_session.specs.Session.{Setting, Defined, setting_of, undefined, polynomials_of, division_in, answer_to}
use Rattle.calc_session.specs.View.{Body, held}
use Rattle.calc_session.specs.Demo.{demo_input}
use Rattle.calc_session.specs.Heads.{Head, head_of}
use Rattle.calc_session.specs.declared.commands.Command.{Command}
use Rattle.calc_session.specs.declared.commands.Command.TheVariants.{Mul, Div, Rem}
use Rattle.calc_session.specs.declared.fault.LineFault.{LineFault}
use Rattle.calc_session.specs.declared.header.HeaderFault.{HeaderFault}
use Rattle.sdmp_words.specs.declared.settings.Settings.{Settings}
use Rattle.sdmp_top.specs.Outside.{last_count}
use Rattle.sdmp_top.specs.declared.ends.Ends.{Ends}

-- what a line makes
pub data Calculation : Type 0 where
  MakesProduct : Product → Calculation
  MakesDivision : Division → Calculation

-- the product of f and g modulo p in n variables; the factor with fewer terms gives the rows, the left one where they have as many
abbrev pub by_fewer_rows : Order → ℕ → ℕ → List Term → List Term → Product
by_fewer_rows ord p n f g =
    if leb (length f) (length g) then record { ord = ord; p = p; n = n; f = f; g = g } else record { ord = ord; p = p; n = n; f = g; g = f }

abbrev pub product_within : Setting → List Term → List Term → Product
product_within setting f g = by_fewer_rows setting.order setting.modulus (length setting.variables) f g

-- what a command makes of polynomials
abbrev pub calculations_of : Setting → Command → List (List Term) → List Calculation
calculations_of setting Mul (f ∷ g ∷ []) = MakesProduct (product_within setting f g) ∷ []
calculations_of setting Div (f ∷ g ∷ []) = MakesDivision (division_in setting Exact f g) ∷ []
calculations_of setting Rem (f ∷ g ∷ []) = MakesDivision (division_in setting Remainder f g) ∷ []
calculations_of setting _ _ = []

abbrev pub calculations_asked : Setting → Command → Result (List (List Term)) LineFault → List Calculation
calculations_asked setting command (Ok fs) = calculations_of setting command fs
calculations_asked setting command (Err fault) = []

abbrev pub calculations_said : Setting → Defined → Result Form LineFault → List Calculation
calculations_said setting defined (Ok (Ask command names)) = calculations_asked setting command (polynomials_of defined names)
calculations_said setting defined _ = []

-- what a line makes
unfoldable pub line_calculations : Setting → Defined → List ℕ → List Calculation
line_calculations setting defined line = calculations_said setting defined (form_of setting.variables line)

-- what the lines of a body make that are answered without a fault
unfoldable pub body_calculations : Setting → Defined → List (List ℕ) → List Calculation
body_calculations setting defined [] = []
body_calculations setting defined (line ∷ later) =
    elim (answer_to setting defined line) [
      | Ok answer ↦ line_calculations setting defined line ++ body_calculations setting answer.0 later
      | Err fault ↦ []
    ]

abbrev pub calculations_by : Body → List (List ℕ) → List Calculation
calculations_by body lines = body_calculations body.setting (held body.defined) lines

abbrev pub head_calculations : Result Head HeaderFault → List Calculation
head_calculations (Ok head) = body_calculations (setting_of head) undefined head.body
head_calculations (Err fault) = []

-- what the lines of a session make
unfoldable pub calculations : List ℕ → List Calculation
calculations bytes = head_calculations (head_of bytes)

-- the input of a run, where it is told: that of the demo of a seed, or else the bytes that the source has left
abbrev pub input_of : Option ℕ → Option (List ℕ) → Option (List ℕ)
input_of (Some seed) left = Some (demo_input seed)
input_of None left = left

-- ---- how much that is
-- how many products, notes of all their workers, divisions, and terms of their quotients
pub record Work : Type 0 where
  pub products : ℕ
  pub notes : ℕ
  pub divisions : ℕ
  pub terms : ℕ

-- what W workers do
abbrev pub work_of : ℕ → Calculation → Work
work_of W (MakesProduct m) = record { products = 1; notes = notes_total m W; divisions = 0; terms = 0 }
work_of W (MakesDivision d) = record { products = 0; notes = 0; divisions = 1; terms = length (quotient_list d) }

abbrev pub total : (Work → ℕ) → ℕ → List Calculation → ℕ
total part W made = sum_by (λ c. part (work_of W c)) made

-- what was counted
abbrev pub tally_of : Ends → Work
tally_of ends = record {
  products = ends.products.products;
  notes = ends.products.notes;
  divisions = ends.divisions.divisions;
  terms = ends.divisions.terms;
}

-- a count has risen by n, where it has room for that
abbrev pub IsRaised : ℕ → ℕ → ℕ → Type 0
IsRaised n before after = before + n ≤ last_count → after ≡ before + n

-- what W workers make has been counted
pub record IsTallied (W : ℕ) (made : List Calculation) (before after : Work) : Type 0 where
  pub products : IsRaised (total (λ w. w.products) W made) before.products after.products
  pub notes : IsRaised (total (λ w. w.notes) W made) before.notes after.notes
  pub divisions : IsRaised (total (λ w. w.divisions) W made) before.divisions after.divisions
  pub terms : IsRaised (total (λ w. w.terms) W made) before.terms after.terms

-- what a run is to make with these settings, where the source had these bytes left, has been counted
abbrev pub IsTalliedRun : Settings → Option (List ℕ) → Work → Work → Type 0
IsTalliedRun settings left before after = (input : List ℕ) → input_of settings.demo left ≡ Some input → IsTallied settings.workers (calculations input) before after

-- of all that is to be made what stands before the rest has been counted
pub record IsTalliedUpTo (W : ℕ) (all rest : List Calculation) (before after : Work) : Type 0 where
  pub made : List Calculation
  pub whole : all ≡ made ++ rest
  pub tallied : IsTallied W made before after
