-- What the arithmetic answers, said in the setting of a session.
use Rattle.std.proofs.Common.{◌≡◌, ◌≢◌, ℕ, List, [], ◌∷◌, ◌++◌, codes, Ok, Err, sym, ap, subst, ◌∙◌}
use Rattle.sdmp_laws.specs.Order.{Order}
use Rattle.sdmp_laws.specs.Poly.{Term, IsPoly}
use Rattle.sdmp_laws.specs.declared.Mode.{Mode}
use Rattle.sdmp_laws.specs.declared.Mode.TheVariants.{Exact, Remainder}
use Rattle.division_laws.specs.Outcome.{HasQuotient, HasNoQuotient, HasRemainder, IsOutcome, division}
use Rattle.text_laws.specs.Canonical.{text}
use Rattle.calc_session.specs.Product.{IsProduct, IsProductRefused}
use Rattle.calc_session.specs.Quotient.{IsUndivided}
use Rattle.calc_session.specs.Session.{Setting, answer_of, division_lines}
use Rattle.calc_session.specs.View.{IsSettingOf}
use Rattle.calc_session.specs.declared.commands.Command.TheVariants.{Mul, Div, Rem}
use Rattle.calc_session.specs.declared.fault.LineFault.{LineFault}
use Rattle.calc_session.specs.declared.fault.LineFault.TheVariants.{NoMemory}
use Rattle.calc_session.proofs.CommandLemmas.{ArePolynomials, on_empty, mul_ok, mul_err, div_ok, div_none, rem_ok, lines_err}

-- a line that was appended to nothing
pub line_there : (old new : List ℕ) (names variables : List (List ℕ)) (h : List Term) → old ≡ [] → names ≡ variables → new ≡ old ++ (text names h ++ 10 ∷ [])
    → new ≡ text variables h ++ 10 ∷ []
line_there old new names variables h empty same written =
    on_empty old new (text names h ++ 10 ∷ []) empty written ∙ ap (λ (ns : List (List ℕ)). text ns h ++ 10 ∷ []) same

lines_there : (new : List ℕ) (names variables : List (List ℕ)) (q r : List Term) → names ≡ variables
    → new ≡ (text names q ++ 10 ∷ []) ++ (text names r ++ 10 ∷ []) → new ≡ (text variables q ++ 10 ∷ []) ++ (text variables r ++ 10 ∷ [])
lines_there new names variables q r same written = written ∙ ap (λ (ns : List (List ℕ)). (text ns q ++ 10 ∷ []) ++ (text ns r ++ 10 ∷ [])) same

-- two polynomials of a session, which a command was given
module _ (ord : Order) (lim n : ℕ) (setting : Setting) (is : IsSettingOf ord lim n setting) (given : List (List Term)) (f g : List Term) (p q : ℕ)
    (lists : given ≡ f ∷ g ∷ []) (moduli : (p ≡ setting.modulus) × (q ≡ setting.modulus)) where
  -- ---- their product
  pub multiplied : (names : List (List ℕ)) (old new : List ℕ) (h : List Term) → IsProduct ord lim p f g h → names ≡ setting.variables → old ≡ [] → new ≡ old ++ (text names h ++ 10 ∷ [])
      → answer_of setting Mul given ≡ Ok new
  multiplied names old new h product same empty written =
      ap (answer_of setting Mul) lists
      ∙ mul_ok setting p f g moduli.0 new h
      (subst (λ (l : ℕ). IsProduct setting.order l p f g h) (sym is.limit) (subst (λ (o : Order). IsProduct o lim p f g h) (sym is.order) product))
      (line_there old new names setting.variables h empty same written)

  pub not_multiplied : (fault : LineFault) → IsProductRefused lim p f g fault → fault ≢ NoMemory → answer_of setting Mul given ≡ Err fault
  not_multiplied fault refused other =
      ap (answer_of setting Mul) lists ∙ mul_err setting p f g moduli.0 fault (subst (λ (l : ℕ). IsProductRefused l p f g fault) (sym is.limit) refused) other

  -- ---- their quotient
  module _ (canonical : IsPoly ord p n f × IsPoly ord q n g) where
    both : ArePolynomials setting n p f g
    both = record {
      modulus = moduli.0;
      variables = is.variables;
      dividend = subst (λ (o : Order). IsPoly o p n f) (sym is.order) canonical.0;
      divisor = subst (λ (r : ℕ). IsPoly setting.order r n g) (moduli.1 ∙ sym moduli.0) (subst (λ (o : Order). IsPoly o q n g) (sym is.order) canonical.1);
    }

    pub divided : (names : List (List ℕ)) (old new : List ℕ) (h : List Term) → IsOutcome (division Exact ord n p f g) (HasQuotient h) → names ≡ setting.variables → old ≡ []
        → new ≡ old ++ (text names h ++ 10 ∷ []) → answer_of setting Div given ≡ Ok new
    divided names old new h outcome same empty written =
        ap (answer_of setting Div) lists
        ∙ div_ok setting n p f g both new h (subst (λ (o : Order). IsOutcome (division Exact o n p f g) (HasQuotient h)) (sym is.order) outcome)
        (line_there old new names setting.variables h empty same written)

    pub divided_none : (new : List ℕ) → IsOutcome (division Exact ord n p f g) HasNoQuotient → new ≡ codes "none\n" → answer_of setting Div given ≡ Ok new
    divided_none new outcome written =
        ap (answer_of setting Div) lists ∙ div_none setting n p f g both new (subst (λ (o : Order). IsOutcome (division Exact o n p f g) HasNoQuotient) (sym is.order) outcome) written

    pub divided_with_rest : (names : List (List ℕ)) (new : List ℕ) (h r : List Term) → IsOutcome (division Remainder ord n p f g) (HasRemainder h r) → names ≡ setting.variables
        → new ≡ (text names h ++ 10 ∷ []) ++ (text names r ++ 10 ∷ []) → answer_of setting Rem given ≡ Ok new
    divided_with_rest names new h r outcome same written =
        ap (answer_of setting Rem) lists
        ∙ rem_ok setting n p f g both new h r (subst (λ (o : Order). IsOutcome (division Remainder o n p f g) (HasRemainder h r)) (sym is.order) outcome)
        (lines_there new names setting.variables h r same written)

    undivided : (mode : Mode) (fault : LineFault) → IsUndivided (division mode ord n p f g) fault → fault ≢ NoMemory → division_lines setting mode f g ≡ Err fault
    undivided mode fault refused other =
        lines_err setting mode n p f g fault both (subst (λ (o : Order). IsUndivided (division mode o n p f g) fault) (sym is.order) refused) other

    pub not_divided : (fault : LineFault) → IsUndivided (division Exact ord n p f g) fault → fault ≢ NoMemory → answer_of setting Div given ≡ Err fault
    not_divided fault refused other = ap (answer_of setting Div) lists ∙ undivided Exact fault refused other

    pub not_divided_with_rest : (fault : LineFault) → IsUndivided (division Remainder ord n p f g) fault → fault ≢ NoMemory → answer_of setting Rem given ≡ Err fault
    not_divided_with_rest fault refused other = ap (answer_of setting Rem) lists ∙ undivided Remainder fault refused other
