-- Lemmas on the answers that have been written, and those that are to come.
use Rattle.std.proofs.Common.{◌≡◌, ◌≤◌, ℕ, List, [], ◌∷◌, ◌++◌, length, take, drop, Option, Result, Ok, Err, OnOk, OnErr, is_err, Bool, true, false, map, refl, sym, ap, subst, ◌∙◌, arith, append_assoc, append-nil, length-append}
use Rattle.std.proofs.Math.Seq.{take-append_seam, take-length}
use Rattle.std.proofs.lemmas.List.{take-append-drop}
use Rattle.calc_session.specs.Lines.{lines}
use Rattle.calc_session.proofs.EffectiveLemmas.{no_lines}
use Rattle.calc_session.specs.Answers.{Answers, joined, text, before, done, refused}
use Rattle.sdmp_laws.specs.Order as monomials
use Rattle.wide_monomial.specs.Packing.{limit_of}
use Rattle.calc_session.specs.Header.{characteristic_of, monomial_order}
use Rattle.calc_session.specs.Session.{Setting, Defined, body_answers, setting_by, setting_in, undefined}
use Rattle.calc_session.specs.View.{Body, answers_of, held}
use Rattle.sdmp_top.specs.declared.answering.Next.{Next}
use Rattle.sdmp_top.specs.declared.answering.Next.TheVariants as next
use Rattle.calc_session.specs.declared.ending.Ending.{Ending}
use Rattle.calc_session.specs.declared.order.Order.{Order}
use Rattle.calc_session.specs.declared.ring.RingChoice.{RingChoice}
use Rattle.sdmp_top.specs.declared.answering_fault.AnsweringFault.{AnsweringFault}
use Rattle.sdmp_top.specs.declared.answering_fault.AnsweringFault.TheVariants as stop
use Rattle.sdmp_top.specs.Outside.{Appends, AppendsPart, Rose}
use Rattle.sdmp_top.specs.Written.{AppendsPieces, IsAnswering}
use Rattle.sdmp_top.proofs.OutsideLemmas.{appends_none, appends_more}

-- these pieces stand before the others
abbrev pub after : List (List ℕ) → Answers → Answers
after pieces answers = record { pieces = pieces ++ answers.pieces; ending = answers.ending }

-- a line's piece, if it has one
abbrev pub piece_of : List ℕ → List (List ℕ)
piece_of [] = []
piece_of (byte ∷ piece) = (byte ∷ piece) ∷ []

pub before-after : (piece : List ℕ) (answers : Answers) → before piece answers ≡ after (piece_of piece) answers
before-after [] answers = refl
before-after (byte ∷ piece) answers = refl

pub joined-piece : (piece : List ℕ) → joined (piece_of piece) ≡ piece
joined-piece [] = refl
joined-piece (byte ∷ piece) = append-nil (byte ∷ piece)

pub joined-append : (xs ys : List (List ℕ)) → joined (xs ++ ys) ≡ joined xs ++ joined ys
joined-append [] ys = refl
joined-append (x ∷ xs) ys = ap (λ (l : List ℕ). x ++ l) (joined-append xs ys) ∙ sym (append_assoc x (joined xs) (joined ys))

-- some pieces of the first answers have been written, and the later ones are to come
pub record Reached (old now : Option (List ℕ)) (first later : Answers) : Type 0 where
  pub pieces : List (List ℕ)
  pub whole : first ≡ after pieces later
  pub appends : Appends old now (joined pieces)

pub reached_none : (old : Option (List ℕ)) (first : Answers) → Reached old old first first
reached_none old first = record { pieces = []; whole = refl; appends = appends_none old }

pub reached_more : (old mid now : Option (List ℕ)) (first later next : Answers) (piece : List ℕ)
    → Reached old mid first later → later ≡ before piece next → Appends mid now piece → Reached old now first next
reached_more old mid now first later next piece r e a = record {
  pieces = r.pieces ++ piece_of piece;
  whole = r.whole ∙ ap (after r.pieces) (e ∙ before-after piece next)
      ∙ ap (λ (ps : List (List ℕ)). let x : Answers = record { pieces = ps; ending = next.ending } in x)
      (sym (append_assoc r.pieces (piece_of piece) next.pieces));
  appends = subst (Appends old now) (ap (λ (l : List ℕ). joined r.pieces ++ l) (sym (joined-piece piece)) ∙ sym (joined-append r.pieces (piece_of piece)))
      (appends_more old mid now (joined r.pieces) piece r.appends a);
}

-- the text of the first answers is what has been written, and that of the later ones
pub reached_text : (old now : Option (List ℕ)) (first later : Answers) (r : Reached old now first later)
    → text first ≡ joined r.pieces ++ text later
reached_text old now first later r = ap text r.whole ∙ joined-append r.pieces later.pieces

pub reached_ending : (old now : Option (List ℕ)) (first later : Answers) → Reached old now first later → first.ending ≡ later.ending
reached_ending old now first later r = ap (λ (a : Answers). a.ending) r.whole

pub reached_end : (old mid now : Option (List ℕ)) (first later : Answers) → Reached old mid first later → Appends mid now (text later)
    → Appends old now (text first)
reached_end old mid now first later r a =
    subst (Appends old now) (sym (reached_text old mid first later r)) (appends_more old mid now (joined r.pieces) (text later) r.appends a)

pub reached_pieces : (old now : Option (List ℕ)) (first later : Answers) → Reached old now first later → AppendsPieces old now first.pieces
reached_pieces old now first later r =
    let pieces : first.pieces ≡ r.pieces ++ later.pieces = ap (λ (a : Answers). a.pieces) r.whole in
    record {
      k = length r.pieces;
      within = omega (arith, ap length pieces, length-append r.pieces later.pieces);
      appends = subst (λ (ps : List (List ℕ)). Appends old now (joined ps))
          (sym (ap (take (length r.pieces)) pieces ∙ take-append_seam r.pieces later.pieces)) r.appends;
    }

pub reached_part : (old mid now : Option (List ℕ)) (first later : Answers) (piece more : List ℕ)
    → Reached old mid first later → text later ≡ piece ++ more → AppendsPart mid now piece → AppendsPart old now (text first)
reached_part old mid now first later piece more r e p = record {
  part = joined r.pieces ++ p.part;
  rest = p.rest ++ more;
  whole = reached_text old mid first later r ∙ ap (λ (l : List ℕ). joined r.pieces ++ l)
      (e ∙ ap (λ (l : List ℕ). l ++ more) p.whole ∙ append_assoc p.part p.rest more)
      ∙ sym (append_assoc (joined r.pieces) p.part (p.rest ++ more));
  appends = appends_more old mid now (joined r.pieces) p.part r.appends p.appends;
}

pub text-before : (piece : List ℕ) (answers : Answers) → text (before piece answers) ≡ piece ++ text answers
text-before [] answers = refl
text-before (byte ∷ piece) answers = refl

pub text-refused : (piece : List ℕ) → text (refused piece) ≡ piece
text-refused piece = append-nil piece

-- what a line writes begins the text of the answers from there on
pub text_of_line : (after_line : Next) (told later : Answers) (piece : List ℕ)
    → (after_line ≡ next.More → told ≡ before piece later) → (after_line ≡ next.Refused → told ≡ refused piece)
    → (more : List ℕ) × (text told ≡ piece ++ more)
text_of_line next.More told later piece m r = (text later, ap text (m refl) ∙ text-before piece later)
text_of_line next.Refused told later piece m r = ([], ap text (r refl))

pub reached_refused : (old mid now : Option (List ℕ)) (first later : Answers) (piece bytes : List ℕ)
    → Reached old mid first later → later ≡ refused piece → bytes ≡ piece → Appends mid now bytes → Appends old now (text first)
reached_refused old mid now first later piece bytes r e same a =
    reached_end old mid now first later r (subst (Appends mid now) (same ∙ sym (ap text e ∙ text-refused piece)) a)

pub reached_done : (old now : Option (List ℕ)) (first later : Answers) → Reached old now first later → later ≡ done → Appends old now (text first)
reached_done old now first later r e =
    subst (Appends old now) (sym (reached_text old now first later r ∙ ap (λ (a : Answers). joined r.pieces ++ text a) e ∙ append-nil (joined r.pieces))) r.appends

-- the whole text is that of all pieces; a flush that fails leaves it
pub all_pieces : (old mid now : Option (List ℕ)) (answers : Answers) → Appends old mid (text answers) → now ≡ mid → AppendsPieces old now answers.pieces
all_pieces old mid now answers a kept = record {
  k = length answers.pieces;
  within = omega arith;
  appends = subst (λ (m : Option (List ℕ)). Appends old m (joined (take (length answers.pieces) answers.pieces))) (sym kept)
      (subst (λ (ps : List (List ℕ)). Appends old mid (joined ps)) (sym (take-length answers.pieces)) a);
}

-- whole pieces are a beginning of the text
pub pieces_part : (old now : Option (List ℕ)) (answers : Answers) → AppendsPieces old now answers.pieces → AppendsPart old now (text answers)
pieces_part old now answers p = record {
  part = joined (take p.k answers.pieces);
  rest = joined (drop p.k answers.pieces);
  whole = ap joined (sym (take-append-drop p.k answers.pieces)) ∙ joined-append (take p.k answers.pieces) (drop p.k answers.pieces);
  appends = p.appends;
}

-- ---- how answering ends

pub at_its_end : (told : Answers) (old now : Option (List ℕ)) (before after : ℕ) (at_last : Type 0) (end : Ending)
    → told.ending ≡ end → Appends old now (text told) → after ≡ before → IsAnswering told old now before after at_last (Ok end)
at_its_end told old now before after at_last end e a s = record {
  ending = e;
  written = a;
  part = λ h. absurd cc;
  pieces = λ h. absurd cc;
  later = omega (arith, s);
  rose = λ h. absurd cc;
  steady = λ h. s;
}

pub at_a_fault : (told : Answers) (old now : Option (List ℕ)) (before after : ℕ) (at_last : Type 0)
    → AppendsPart old now (text told) → before ≤ after → Rose before after at_last → IsAnswering told old now before after at_last (Err stop.WriteFault)
at_a_fault told old now before after at_last p l r = record {
  ending = tt;
  written = tt;
  part = λ h. p;
  pieces = λ h. absurd cc;
  later = l;
  rose = λ h. r;
  steady = λ h. absurd (h refl);
}

pub without_memory : (told : Answers) (old now : Option (List ℕ)) (before after : ℕ) (at_last : Type 0)
    → AppendsPieces old now told.pieces → after ≡ before → IsAnswering told old now before after at_last (Err stop.NoMemory)
without_memory told old now before after at_last p s = record {
  ending = tt;
  written = tt;
  part = λ h. absurd cc;
  pieces = λ h. p;
  later = omega (arith, s);
  rose = λ h. absurd cc;
  steady = λ h. s;
}

-- ---- the session that a header asks for

pub asked_for : (ring : RingChoice) (chosen : Order) (session : Body) (ord : monomials.Order) (names : List (List ℕ)) (lim p number : ℕ) (lines : List (List ℕ))
    → session ≡ record { setting = setting_in ord names lim p; defined = [] }
    → ord ≡ monomial_order chosen → lim ≡ limit_of (length names) → p ≡ characteristic_of ring
    → answers_of session number lines ≡ body_answers (setting_by names ring chosen) undefined number lines
asked_for ring chosen session ord names lim p number lines e o l m =
    ap (λ (s : Body). answers_of s number lines) e
    ∙ (λ i. body_answers (setting_in (o i) names (l i) (m i)) undefined number lines)

pub same_answering : (a b : Answers) (old now : Option (List ℕ)) (before after : ℕ) (at_last : Type 0) (result : Result Ending AnsweringFault)
    → a ≡ b → IsAnswering a old now before after at_last result → IsAnswering b old now before after at_last result
same_answering a b old now before after at_last result e h = subst (λ (told : Answers). IsAnswering told old now before after at_last result) e h

-- ---- the body's end

body_ends : (setting : Setting) (defined : Defined) (number : ℕ) → body_answers setting defined number [] ≡ done
unfolding body_answers
body_ends setting defined number = refl

pub no_more : (session : Body) (number : ℕ) (rest : List ℕ) → length rest ≡ 0 → answers_of session number (lines rest) ≡ done
no_more session number rest none = ap (answers_of session number) (no_lines rest none) ∙ body_ends session.setting (held session.defined) number

-- ---- what a call's result shows

pub when_err : {T E : Type 0} (r : Result T E) (b : Bool) (P : Type 0) → b ≡ is_err r → b ≡ true → OnErr r P → P
when_err (Ok x) b P e t h = absurd cc
when_err (Err x) b P e t h = h

pub when_ok : {T E : Type 0} (r : Result T E) (b : Bool) (P : Type 0) → b ≡ is_err r → b ≡ false → OnOk r P → P
when_ok (Ok x) b P e t h = h
when_ok (Err x) b P e t h = absurd cc
