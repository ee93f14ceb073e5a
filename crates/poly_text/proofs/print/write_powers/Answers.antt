use Rattle.std.proofs.Common.{◌≡◌, ◌<◌, ◌++◌, ◌∷◌, [], ℕ, List, cond, length, get_or, eqb, true, false, ap, sym, ◌∙◌, arith, eq-eqb, subst}
use Rattle.std.proofs.lemmas.Bool.{ne_eqb}
use Rattle.std.proofs.lemmas.Result.{err_from_is_err_and}
use Rattle.text_laws.specs.Canonical.{power_text}
use Rattle.poly_text.specs.Printed.{Extends}
use Rattle.poly_text.proofs.PowerTexts.{skips, writes}
use Rattle.poly_text.proofs.Extending.{extends_more, extends_same, extends_twice}
use Rattle.poly_text.proofs.print.write_powers.Goals.{then-written+in_ok-push, else-written}
use Rattle.poly_text.proofs.print.write_powers.Goals as goal

pub loop-i-preserved-then-exponent-eq0 : goal.loop-i-preserved-then-exponent-eq0
loop-i-preserved-then-exponent-eq0 g c =
    let laws = g.met.M.Monomial g.world.𝓛 g.world.𝓜 g.world.𝓡 ((λ s x. x), (λ x. x), (λ x. x), λ x. x) in
    let es : List ℕ = g.M.Monomial.vector c.args.mono in
    let same : length c.args.names.now ≡ length es = c.requires ∙ sym (laws.vars c.args.mono) in
    let here : c.loop-i.i < length es = omega (arith, c.loop-i-test.true, c.len-i-end.ensures.len, same) in
    let zero : eqb (get_or es c.loop-i.i 0) 0 ≡ true = eq-eqb _ _ (sym c.exponent-exponent.ensures ∙ c.if-exponent-eq0.true) in
    record {
      text = ap (λ r. c.loop-i.out.items ++ r) (sym (skips c.loop-i.written c.args.names.now es c.loop-i.i here same zero)) ∙ c.loop-i.invariant.text;
      front = c.loop-i.invariant.front;
    }

pub loop-i-preserved : goal.loop-i-preserved
loop-i-preserved g c =
    let laws = g.met.M.Monomial g.world.𝓛 g.world.𝓜 g.world.𝓡 ((λ s x. x), (λ x. x), (λ x. x), λ x. x) in
    let es : List ℕ = g.M.Monomial.vector c.args.mono in
    let i : ℕ = c.loop-i.i in
    let same : length c.args.names.now ≡ length es = c.requires ∙ sym (laws.vars c.args.mono) in
    let here : i < length es = omega (arith, c.loop-i-test.true, c.len-i-end.ensures.len, same) in
    let some : eqb (get_or es i 0) 0 ≡ false = ne_eqb (get_or es i 0) 0 (λ z. c.if-exponent-eq0.false (c.exponent-exponent.ensures ∙ z)) in
    let n : c.as_bytes.result.now ≡ get_or c.args.names.now i [] = c.as_bytes.ensures.value ∙ c.word.ensures in
    let o : c.write_power.new.out.items ≡ c.if-written.out.items ++ power_text c.as_bytes.result.now (get_or es i 0) =
    c.in_ok-write_power.ensures.ok ∙ ap (λ e. c.if-written.out.items ++ power_text c.as_bytes.result.now e) c.exponent-exponent.ensures in
    elim c.if-written.branch [
      | then-written+in_ok-push w ↦
          let q : c.if-written.out.items ≡ c.loop-i.out.items ++ 42 ∷ [] = ap (λ v. v.items) w.out-is ∙ w.in_ok-push.ensures.items in
          record {
            text = writes c.loop-i.written c.args.names.now es i c.loop-i.out.items c.if-written.out.items c.write_power.new.out.items c.as_bytes.result.now _ here same some n
                (q ∙ ap (λ b. cond b (c.loop-i.out.items ++ 42 ∷ []) c.loop-i.out.items) (sym w.if-written.true)) o c.loop-i.invariant.text;
            front = subst (Extends c.args.out.now.items) (sym o) (extends_more _ _ _ (subst (Extends c.args.out.now.items) (sym q) (extends_more _ _ _ c.loop-i.invariant.front)));
          }
      | else-written w ↦
          let q : c.if-written.out.items ≡ c.loop-i.out.items = ap (λ v. v.items) w.out-is in
          record {
            text = writes c.loop-i.written c.args.names.now es i c.loop-i.out.items c.if-written.out.items c.write_power.new.out.items c.as_bytes.result.now _ here same some n
                (q ∙ ap (λ b. cond b (c.loop-i.out.items ++ 42 ∷ []) c.loop-i.out.items) (sym w.if-written.false)) o c.loop-i.invariant.text;
            front = subst (Extends c.args.out.now.items) (sym o) (extends_more _ _ _ (extends_same _ _ _ c.loop-i.invariant.front q));
          }
    ]

pub returns-in_err-write_power-clause-err : goal.returns-in_err-write_power-clause-err
returns-in_err-write_power-clause-err g c =
    let p = err_from_is_err_and c.from_residual-in_err-write_power.result c.from_residual-in_err-write_power.ensures.1 in
    let before : Extends c.args.out.now.items c.if-written.out.items = elim c.if-written.branch [
      | then-written+in_ok-push w ↦ subst (Extends c.args.out.now.items) (sym (ap (λ v. v.items) w.out-is ∙ w.in_ok-push.ensures.items)) (extends_more _ _ _ c.loop-i.invariant.front)
      | else-written w ↦ extends_same _ _ _ c.loop-i.invariant.front (ap (λ v. v.items) w.out-is)
    ] in
    rw p.1 (extends_twice _ _ _ before c.in_err-write_power.ensures.err)
