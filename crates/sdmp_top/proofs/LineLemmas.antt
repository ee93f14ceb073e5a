-- What a line answers that asks a command, by what the command writes of polynomials.
use Rattle.std.proofs.Common.{◌≡◌, ◌≢◌, ◌<◌, ◌≤◌, ℕ, List, [], ◌∷◌, length, get_or, map, Result, Ok, Err, OnOk, IfErr, sym, ap, ◌∙◌, arith}
use Rattle.std.proofs.lemmas.Result.{IfErr-weaker, on_ok_weaker}
use Rattle.sdmp_laws.specs.Poly.{Term}
use Rattle.calc_session.specs.Body.{Ask, form_of}
use Rattle.calc_session.specs.Session.{Defined, polynomials_of, answer_of, answer_to}
use Rattle.calc_session.specs.View.{Body, held}
use Rattle.calc_session.specs.declared.commands.Command.{Command}
use Rattle.calc_session.specs.declared.fault.LineFault.{LineFault}
use Rattle.calc_session.specs.declared.fault.LineFault.TheVariants.{NoMemory}
use Rattle.calc_session.proofs.CommandLemmas.{to_piece, to_fault}

module _ {T : Type 0} (session : Body) (line : List ℕ) (command : Command) (names : List (List ℕ)) (fs : List (List Term)) (r : Result T LineFault)
    (said : form_of session.setting.variables line ≡ Ok (Ask command names)) (known : polynomials_of (held session.defined) names ≡ Ok fs) where
  pub answered : (piece : List ℕ) → OnOk r (answer_of session.setting command fs ≡ Ok piece) → OnOk r (answer_to session.setting (held session.defined) line ≡ Ok (held session.defined, piece))
  answered piece h = on_ok_weaker r (λ k. to_piece session.setting (held session.defined) line command names said fs piece known k) h

  pub refused : IfErr r (λ fault. fault ≢ NoMemory → answer_of session.setting command fs ≡ Err fault)
      → IfErr r (λ fault. fault ≢ NoMemory → answer_to session.setting (held session.defined) line ≡ Err fault)
  refused h = IfErr-weaker r _ _ (λ fault k other. to_fault session.setting (held session.defined) line command names said fs fault known (k other)) h

-- the names stand for what a copy of the list holds
pub known_there : {A : Type 0} (list_of : A → List Term) (defined : Defined) (names : List (List ℕ)) (found given : List A) → polynomials_of defined names ≡ Ok (map list_of found) → given ≡ found
    → polynomials_of defined names ≡ Ok (map list_of given)
known_there list_of defined names found given known same = known ∙ ap (λ xs. Ok (map list_of xs)) (sym same)

-- a list of one item
pub one_item : {A : Type 0} (xs : List A) (x : A) → 1 ≤ length xs → length xs < 2 → x ≡ get_or xs 0 x → xs ≡ x ∷ []
one_item [] x some few e = absurd (omega (arith, some))
one_item (y ∷ []) x some few e = λ i. sym e i ∷ []
one_item (y ∷ z ∷ xs) x some few e = absurd (omega (arith, few))
