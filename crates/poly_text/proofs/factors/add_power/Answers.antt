use Rattle.std.proofs.Common.{◌≡◌, ◌<◌, [], length, set, get_or, sym, ap, ◌∙◌, arith}
use Rattle.text_laws.specs.Summands.{same_name}
use Rattle.poly_text.proofs.Adding.{known_later, added_later, known_here, added_here, known_none, added_none}
use Rattle.poly_text.proofs.factors.add_power.Goals as goal

pub loop-i-preserved : goal.loop-i-preserved
loop-i-preserved c =
    let here : c.loop-i.i < length c.args.names.now = omega (arith, c.loop-i-test.true, c.len-i-end.ensures.len) in
    let long : length c.args.names.now ≡ length c.loop-i.exponents = c.requires ∙ sym c.loop-i.auto.exponents in
    let e : same_name (get_or c.args.names.now c.loop-i.i []) c.args.name.now ≡ c.is_same.result = sym (c.is_same.ensures ∙ ap (λ x. same_name x c.args.name.now) (c.as_bytes.ensures.value ∙ c.word.ensures)) in
    record {
      same = c.loop-i.invariant.same;
      known = known_later c.args.names.now c.loop-i.i c.args.name.now here (e ∙ c.if-is_same.false) ∙ c.loop-i.invariant.known;
      added = added_later c.args.names.now c.loop-i.exponents c.loop-i.i c.args.exponent c.args.name.now (omega (arith, here, long)) long (e ∙ c.if-is_same.false) ∙ c.loop-i.invariant.added;
    }

pub returns-then-is_same-clause-known : goal.returns-then-is_same-clause-known
returns-then-is_same-clause-known c =
    let here : c.loop-i.i < length c.args.names.now = omega (arith, c.loop-i-test.true, c.len-i-end.ensures.len) in
    let e : same_name (get_or c.args.names.now c.loop-i.i []) c.args.name.now ≡ c.is_same.result = sym (c.is_same.ensures ∙ ap (λ x. same_name x c.args.name.now) (c.as_bytes.ensures.value ∙ c.word.ensures)) in
    sym (known_here c.args.names.now c.loop-i.i c.args.name.now here (e ∙ c.if-is_same.true)) ∙ c.loop-i.invariant.known

pub returns-then-is_same-clause-added : goal.returns-then-is_same-clause-added
returns-then-is_same-clause-added c =
    let here : c.loop-i.i < length c.args.names.now = omega (arith, c.loop-i-test.true, c.len-i-end.ensures.len) in
    let long : length c.args.names.now ≡ length c.loop-i.exponents = c.requires ∙ sym c.loop-i.auto.exponents in
    let e : same_name (get_or c.args.names.now c.loop-i.i []) c.args.name.now ≡ c.is_same.result = sym (c.is_same.ensures ∙ ap (λ x. same_name x c.args.name.now) (c.as_bytes.ensures.value ∙ c.word.ensures)) in
    ap (set c.loop-i.exponents c.loop-i.i) c.saturating_add.ensures
    ∙ added_here c.args.names.now c.loop-i.exponents c.loop-i.i c.args.exponent c.args.name.now (omega (arith, here, long)) long (e ∙ c.if-is_same.true) ∙ c.loop-i.invariant.added

pub returns-clause-known : goal.returns-clause-known
returns-clause-known c =
    sym (known_none c.args.names.now c.loop-i.i c.args.name.now (omega (arith, c.loop-i-test.false, c.len-i-end.ensures.len))) ∙ c.loop-i.invariant.known

pub returns-clause-added : goal.returns-clause-added
returns-clause-added c =
    let long : length c.args.names.now ≡ length c.loop-i.exponents = c.requires ∙ sym c.loop-i.auto.exponents in
    sym (added_none c.args.names.now c.loop-i.exponents c.loop-i.i c.args.exponent c.args.name.now (omega (arith, c.loop-i-test.false, c.len-i-end.ensures.len)) long) ∙ c.loop-i.invariant.added
