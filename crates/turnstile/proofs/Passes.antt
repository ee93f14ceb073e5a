-- Of workers that may have a pass.
use Rattle.std.proofs.Common.{◌≡◌, Option, Some, None, is_some, true≢false, sym, ap, ◌∙◌, subst}
use Rattle.turnstile.specs.Passes.{made_with, table_of, IsPassOf, IsOutside, HasPass}
use Rattle.turnstile.specs.declared.turn.Pass.{Pass}
use Rattle.turnstile.specs.declared.turn.Turnstile.{Turnstile}
use Rattle.turnstile.proofs.Lists.{got}

module _ {T : Type 0} where
  -- a turnstile of the same table, made with the same value
  pub still_has : (s t : Turnstile T) (o : Option (Pass T)) → table_of t ≡ table_of s → made_with t ≡ made_with s → HasPass s o → HasPass t o
  still_has s t o same made h = (h.0, h.1, (h.2.0 ∙ sym same, h.2.1 ∙ ap Some (sym made), h.2.2), h.3)

  -- the pass that there is
  pub its_pass : (t : Turnstile T) (o : Option (Pass T)) (p : Pass T) → o ≡ Some p → HasPass t o → IsPassOf t p × IsOutside p
  its_pass t o p is h = subst (λ (q : Pass T). IsPassOf t q × IsOutside q) (ap (got p) (sym h.1 ∙ is)) (h.2, h.3)

  -- there is one
  pub no_pass : (t : Turnstile T) (o : Option (Pass T)) → HasPass t o → o ≡ None → ⊥
  no_pass t o h e = true≢false (ap is_some (sym h.1 ∙ e))
