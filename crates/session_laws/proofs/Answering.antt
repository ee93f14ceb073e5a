-- The answers that the rules give are the computed ones.
use Rattle.std.proofs.Common.{◌≡◌, ◌+◌, ℕ, List, [], ◌∷◌, Option, Some, None, Result, Ok, Err, refl, sym, ap, ◌∙◌, subst, inl, inr}
use Rattle.poly_text.specs.Words.{words_of}
use Rattle.calc_session.specs.Lines.{lines, effective}
use Rattle.calc_session.specs.Header.{vars_of, ring_of, order_of}
use Rattle.calc_session.specs.Heads.{head_in, order_head, ring_head, vars_head, head_of}
use Rattle.calc_session.specs.Faults.{fault_line}
use Rattle.calc_session.specs.Answers.{Answers, before, done, refused}
use Rattle.calc_session.specs.Session.{Setting, setting_by, Defined, undefined, body_answers, answers_from, answers}
use Rattle.calc_session.specs.declared.order.Order.{Order}
use Rattle.calc_session.specs.declared.order.Order.TheVariants.{Grlex}
use Rattle.calc_session.specs.declared.ring.RingChoice.{RingChoice}
use Rattle.calc_session.specs.declared.fault.LineFault.{LineFault}
use Rattle.calc_session.specs.declared.fault.LineFault.TheVariants.{VarsExpected, RingExpected}
use Rattle.calc_session.proofs.CommandLemmas.{body_more, body_refused}
use Rattle.calc_session.proofs.HeadLemmas.{by_order, by_ring, by_vars}
use Rattle.session_laws.specs.Answered.{IsRight, IsBody, IsFromBody, IsFromOrder, IsFromRing, IsFromVars, IsAnswered}
use Rattle.session_laws.specs.Laws.{AnswersAreAnswered}
use Rattle.session_laws.proofs.Lines.{AllPolys, none_polys, right_is, wrong_is, right_polys, RightOrWrong, line_some}

-- ---- the body
body_is : (setting : Setting) (old : Defined) (number : ℕ) (lines : List (List ℕ)) (A : Answers) → AllPolys setting old → IsBody setting old number lines A → body_answers setting old number lines ≡ A
unfolding body_answers
body_is setting old number [] A all h = sym h
body_is setting old number (line ∷ later) A all (inl (now, piece, rest, right, body, is)) =
    body_more setting old now number line piece (right_is setting old line all now piece right) later
    ∙ ap (before piece) (body_is setting now (number + 1) later rest (right_polys setting old line all now piece right) body)
    ∙ sym is
body_is setting old number (line ∷ later) A all (inr (fault, wrong, is)) = body_refused setting old number line fault (wrong_is setting old line all fault wrong) later ∙ sym is

body_some : (setting : Setting) (old : Defined) (number : ℕ) (lines : List (List ℕ)) → AllPolys setting old → (A : Answers) × IsBody setting old number lines A
body_some setting old number [] all = (done, refl)
body_some setting old number (line ∷ later) all = by (λ now o. body_some setting now (number + 1) later o) (line_some setting old line all)
  where
    more : (now : Defined) (piece : List ℕ) → IsRight setting old line now piece → (A : Answers) × IsBody setting now (number + 1) later A → (A : Answers) × IsBody setting old number (line ∷ later) A
    more now piece right (rest, body) = (before piece rest, inl (now, piece, rest, right, body, refl))

    by : ((now : Defined) → AllPolys setting now → (A : Answers) × IsBody setting now (number + 1) later A)
        → RightOrWrong setting old line → (A : Answers) × IsBody setting old number (line ∷ later) A
    by rest (inl (now, piece, right)) = more now piece right (rest now (right_polys setting old line all now piece right))
    by rest (inr (fault, wrong)) = (refused (fault_line number fault), inr (fault, wrong, refl))

-- ---- the header
from_is : (variables : List (List ℕ)) (ring : RingChoice) (order : Order) (number : ℕ) (lines : List (List ℕ)) (A : Answers)
    → IsFromBody variables ring order number lines A → answers_from (Ok (head_in variables ring order number lines)) ≡ A
from_is variables ring order number lines A h =
    let setting : Setting = setting_by variables ring order in
    body_is setting undefined number lines A (none_polys setting) h

from_some : (variables : List (List ℕ)) (ring : RingChoice) (order : Order) (number : ℕ) (lines : List (List ℕ))
    → (A : Answers) × IsFromBody variables ring order number lines A
from_some variables ring order number lines =
    let setting : Setting = setting_by variables ring order in
    body_some setting undefined number lines (none_polys setting)

order_is : (variables : List (List ℕ)) (ring : RingChoice) (from : ℕ × List (List ℕ)) (A : Answers)
    → IsFromOrder variables ring from A → answers_from (order_head variables ring from) ≡ A
order_is variables ring (number, []) A h = from_is variables ring Grlex number [] A h
order_is variables ring (number, line ∷ later) A (inl (order, e, body)) =
    ap (λ said. answers_from (by_order variables ring number line later said)) e ∙ from_is variables ring order (number + 1) later A body
order_is variables ring (number, line ∷ later) A (inr (inl (e, body))) =
    ap (λ said. answers_from (by_order variables ring number line later said)) e ∙ from_is variables ring Grlex number (line ∷ later) A body
order_is variables ring (number, line ∷ later) A (inr (inr (fault, e, is))) =
    ap (λ said. answers_from (by_order variables ring number line later said)) e ∙ sym is

order_some : (variables : List (List ℕ)) (ring : RingChoice) (from : ℕ × List (List ℕ)) → (A : Answers) × IsFromOrder variables ring from A
order_some variables ring (number, []) = from_some variables ring Grlex number []
order_some variables ring (number, line ∷ later) = by (order_of line) refl
  where
    chosen : (order : Order) → order_of line ≡ Ok (Some order) → (A : Answers) × IsFromBody variables ring order (number + 1) later A
        → (A : Answers) × IsFromOrder variables ring (number, line ∷ later) A
    chosen order e (A, body) = (A, inl (order, e, body))

    unchosen : order_of line ≡ Ok None → (A : Answers) × IsFromBody variables ring Grlex number (line ∷ later) A
        → (A : Answers) × IsFromOrder variables ring (number, line ∷ later) A
    unchosen e (A, body) = (A, inr (inl (e, body)))

    by : (said : Result (Option Order) LineFault) → order_of line ≡ said → (A : Answers) × IsFromOrder variables ring (number, line ∷ later) A
    by (Ok (Some order)) e = chosen order e (from_some variables ring order (number + 1) later)
    by (Ok None) e = unchosen e (from_some variables ring Grlex number (line ∷ later))
    by (Err fault) e = (refused (fault_line number fault), inr (inr (fault, e, refl)))

ring_is : (variables : List (List ℕ)) (from : ℕ × List (List ℕ)) (A : Answers) → IsFromRing variables from A → answers_from (ring_head variables from) ≡ A
ring_is variables (number, []) A h = sym h
ring_is variables (number, line ∷ later) A (inl (ring, e, order)) =
    ap (λ said. answers_from (by_ring variables number later said)) e ∙ order_is variables ring (effective (number + 1) later) A order
ring_is variables (number, line ∷ later) A (inr (fault, e, is)) = ap (λ said. answers_from (by_ring variables number later said)) e ∙ sym is

ring_some : (variables : List (List ℕ)) (from : ℕ × List (List ℕ)) → (A : Answers) × IsFromRing variables from A
ring_some variables (number, []) = (refused (fault_line number RingExpected), refl)
ring_some variables (number, line ∷ later) = by (ring_of (words_of line)) refl
  where
    more : (ring : RingChoice) → ring_of (words_of line) ≡ Ok ring → (A : Answers) × IsFromOrder variables ring (effective (number + 1) later) A
        → (A : Answers) × IsFromRing variables (number, line ∷ later) A
    more ring e (A, order) = (A, inl (ring, e, order))

    by : (said : Result RingChoice LineFault) → ring_of (words_of line) ≡ said → (A : Answers) × IsFromRing variables (number, line ∷ later) A
    by (Ok ring) e = more ring e (order_some variables ring (effective (number + 1) later))
    by (Err fault) e = (refused (fault_line number fault), inr (fault, e, refl))

vars_is : (from : ℕ × List (List ℕ)) (A : Answers) → IsFromVars from A → answers_from (vars_head from) ≡ A
vars_is (number, []) A h = sym h
vars_is (number, line ∷ later) A (inl (variables, e, ring)) =
    ap (λ said. answers_from (by_vars number later said)) e ∙ ring_is variables (effective (number + 1) later) A ring
vars_is (number, line ∷ later) A (inr (fault, e, is)) = ap (λ said. answers_from (by_vars number later said)) e ∙ sym is

vars_some : (from : ℕ × List (List ℕ)) → (A : Answers) × IsFromVars from A
vars_some (number, []) = (refused (fault_line number VarsExpected), refl)
vars_some (number, line ∷ later) = by (vars_of (words_of line)) refl
  where
    more : (variables : List (List ℕ)) → vars_of (words_of line) ≡ Ok variables → (A : Answers) × IsFromRing variables (effective (number + 1) later) A
        → (A : Answers) × IsFromVars (number, line ∷ later) A
    more variables e (A, ring) = (A, inl (variables, e, ring))

    by : (said : Result (List (List ℕ)) LineFault) → vars_of (words_of line) ≡ said → (A : Answers) × IsFromVars (number, line ∷ later) A
    by (Ok variables) e = more variables e (ring_some variables (effective (number + 1) later))
    by (Err fault) e = (refused (fault_line number fault), inr (fault, e, refl))

-- ---- the law
answered_is : (bytes : List ℕ) (A : Answers) → IsAnswered bytes A → answers bytes ≡ A
unfolding answers head_of
answered_is bytes A h = vars_is (effective 1 (lines bytes)) A h

pub answers_are_answered : AnswersAreAnswered
answers_are_answered bytes A = (answered_is bytes A, λ e. by e (vars_some (effective 1 (lines bytes))))
  where
    by : answers bytes ≡ A → (B : Answers) × IsAnswered bytes B → IsAnswered bytes A
    by e (B, h) = subst (IsAnswered bytes) (sym (answered_is bytes B h) ∙ e) h
