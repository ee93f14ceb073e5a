use Rattle.std.proofs.Common.{◌≤◌, ◌<◌, List, ℕ, length, sym, ap, subst, ◌∙◌, arith}
use Rattle.std.proofs.lemmas.List.{take_rest, length-drop}
use Rattle.poly_text.specs.Words.{words_of}
use Rattle.poly_text.proofs.WordLemmas.{skip_one}
use Rattle.poly_text.proofs.words.skip_spaces.Goals as goal

pub loop-rest-preserved : goal.loop-rest-preserved
loop-rest-preserved c =
    let some : 0 < length c.loop-rest.rest.now = grind arith in
    record {
      words = ap words_of (take_rest c.loop-rest.rest.now 1) ∙ skip_one c.loop-rest.rest.now some (sym c.is_blank.ensures ∙ c.if-is_blank.true) ∙ c.loop-rest.invariant.words;
      shorter = subst (λ (r : List ℕ). length r ≤ length c.args.bytes.now) (sym (take_rest c.loop-rest.rest.now 1))
          (omega (arith, length-drop 1 c.loop-rest.rest.now, c.loop-rest.invariant.shorter));
    }
