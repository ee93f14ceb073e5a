-- What contracts see of a session.
use Rattle.std.specs.Prelude.{ℕ, List, [], ◌∷◌, ◌≡◌, length, Some, None, Ok, if◌then◌else◌}
use Rattle.std.specs.Str.{bytes_eq}
use Rattle.sdmp_laws.specs.Order.{Order}
use Rattle.sdmp_laws.specs.Poly.{Term}
use Rattle.text_laws.specs.declared.TextFault.{TextFault}
use Rattle.text_laws.specs.declared.TextFault.TheVariants.{Syntax, UnknownName, DegreeBound, CoefficientBound, NoMemory}
use Rattle.calc_session.specs.Answers.{Answers}
use Rattle.calc_session.specs.Session.{Setting, Defined, body_answers, reading_at, define}
use Rattle.calc_session.specs.Definitions.{Definition}

-- the setting, and the names with the terms of their polynomials
pub record Body : Type 0 where
  pub setting : Setting
  pub defined : List (List ℕ × List Term)

-- what the first pair of the name holds
abbrev pub held : List (List ℕ × List Term) → Defined
held [] name = None
held (d ∷ ds) name = if bytes_eq d.0 name then Some d.1 else held ds name

-- the answers to these lines, the first of which has this number
abbrev pub answers_of : Body → ℕ → List (List ℕ) → Answers
answers_of body number lines = body_answers body.setting (held body.defined) number lines

-- a definition as plain data
abbrev pub plain : Definition → List ℕ × List Term
plain d = (d.name, d.poly.list)

-- the place that a fault tells
abbrev pub place_in : TextFault → ℕ
place_in (Syntax at) = at
place_in (UnknownName at) = at
place_in (DegreeBound at) = at
place_in (CoefficientBound at) = at
place_in NoMemory = 0

-- the setting of a session whose monomials have this order, this limit and so many variables
pub record IsSettingOf (ord : Order) (lim n : ℕ) (setting : Setting) : Type 0 where
  pub order : setting.order ≡ ord
  pub limit : setting.limit ≡ lim
  pub variables : length setting.variables ≡ n

-- the name stands for the polynomial of the text that begins at the place
abbrev pub Defines : Setting → ℕ → List ℕ → List ℕ → Defined → Defined → Type 0
Defines setting start line name old now = (f : List Term) × (reading_at setting start line ≡ Ok f) × now ≡ define name f old
