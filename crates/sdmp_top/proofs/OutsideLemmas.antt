-- Lemmas on what sources give and sinks take.
use Rattle.std.proofs.Common.{◌≡◌, ◌+◌, ◌<◌, ◌≤◌, ℕ, List, [], ◌++◌, length, take, drop, Option, Some, None, refl, sym, ap, subst, ◌∙◌, arith, append_assoc, append-nil, length-append}
use Rattle.std.proofs.lemmas.List.{take-append-drop, nil_from_length}
use Rattle.sdmp_top.specs.declared.outside.Sink as Sink
use Rattle.sdmp_top.specs.Outside.{Gives, EndsAt, Appends, AppendsPart, HasGiven, Rose}

-- ---- sources

pub given_none : (old : Option (List ℕ)) → HasGiven old old []
given_none None = tt
given_none (Some left) = (left, refl, refl)

pub given_more : (old mid now : Option (List ℕ)) (bytes buffer : List ℕ) (n : ℕ)
    → HasGiven old mid bytes → Gives mid now buffer n → HasGiven old now (bytes ++ take n buffer)
given_more None mid now bytes buffer n h k = tt
given_more (Some left) mid now bytes buffer n h k =
    let rest = h.0 in
    let moved : Gives (Some rest) now buffer n = subst (λ (m : Option (List ℕ)). Gives m now buffer n) h.1 k in (
      drop n rest,
      moved.2,
      h.2 ∙ ap (λ (r : List ℕ). bytes ++ r) (sym (take-append-drop n rest) ∙ ap (λ (t : List ℕ). t ++ drop n rest) (sym moved.1))
          ∙ sym (append_assoc bytes (take n buffer) (drop n rest)),
    )

-- what was given and what comes now were left
pub given_length : (old mid now : Option (List ℕ)) (bytes buffer : List ℕ) (n : ℕ)
    → HasGiven old mid bytes → Gives mid now buffer n → (left : List ℕ) → old ≡ Some left → length bytes + n ≤ length left
given_length old mid now bytes buffer n h k left e =
    let given : HasGiven (Some left) mid bytes = subst (λ (o : Option (List ℕ)). HasGiven o mid bytes) e h in
    let moved : Gives (Some given.0) now buffer n = subst (λ (m : Option (List ℕ)). Gives m now buffer n) given.1 k in
    omega (arith, ap length given.2, length-append bytes given.0, moved.0)

-- at the end of input all has been given
pub given_whole : (old mid now : Option (List ℕ)) (bytes buffer : List ℕ)
    → 0 < length buffer → HasGiven old mid bytes → Gives mid now buffer 0 → EndsAt mid buffer 0
    → (left : List ℕ) → old ≡ Some left → bytes ≡ left
given_whole old mid now bytes buffer some h k end left e =
    let given : HasGiven (Some left) mid bytes = subst (λ (o : Option (List ℕ)). HasGiven o mid bytes) e h in
    let ended : EndsAt (Some given.0) buffer 0 = subst (λ (m : Option (List ℕ)). EndsAt m buffer 0) given.1 end in
    let none : given.0 ≡ [] = nil_from_length given.0 (ended some refl) in
    sym (append-nil bytes) ∙ ap (λ (r : List ℕ). bytes ++ r) (sym none) ∙ sym given.2

-- ---- sinks

pub appends_none : (old : Option (List ℕ)) → Appends old old []
appends_none None = tt
appends_none (Some held) = ap Some (sym (append-nil held))

pub appends_more : (old mid now : Option (List ℕ)) (xs ys : List ℕ) → Appends old mid xs → Appends mid now ys → Appends old now (xs ++ ys)
appends_more None mid now xs ys h k = tt
appends_more (Some held) mid now xs ys h k =
    let later : Appends (Some (held ++ xs)) now ys = subst (λ (m : Option (List ℕ)). Appends m now ys) h k in
    later ∙ ap Some (append_assoc held xs ys)

-- no write has failed
abbrev pub Steady : {K : Type 0} → Sink.Ghosts K → K → K → Type 0
Steady k old now = k.faults now ≡ k.faults old

-- some of the bytes have been appended, and the rest is left
pub record Leaves (old now : Option (List ℕ)) (bytes rest : List ℕ) : Type 0 where
  pub part : List ℕ
  pub whole : bytes ≡ part ++ rest
  pub appends : Appends old now part

pub leaves_all : (old : Option (List ℕ)) (bytes : List ℕ) → Leaves old old bytes bytes
leaves_all old bytes = record { part = []; whole = refl; appends = appends_none old }

pub leaves_less : (old mid now : Option (List ℕ)) (bytes rest : List ℕ) (n : ℕ)
    → Leaves old mid bytes rest → Appends mid now (take n rest) → Leaves old now bytes (drop n rest)
leaves_less old mid now bytes rest n h k = record {
  part = h.part ++ take n rest;
  whole = h.whole ∙ ap (λ (r : List ℕ). h.part ++ r) (sym (take-append-drop n rest)) ∙ sym (append_assoc h.part (take n rest) (drop n rest));
  appends = appends_more old mid now h.part (take n rest) h.appends k;
}

pub leaves_none : (old now : Option (List ℕ)) (bytes rest : List ℕ) → length rest ≤ 0 → Leaves old now bytes rest → Appends old now bytes
leaves_none old now bytes rest none h =
    let empty : rest ≡ [] = nil_from_length rest (omega arith) in
    let whole : h.part ≡ bytes = sym (append-nil h.part) ∙ ap (λ (r : List ℕ). h.part ++ r) (sym empty) ∙ sym h.whole in
    subst (Appends old now) whole h.appends

pub leaves_part : (old mid now : Option (List ℕ)) (bytes rest : List ℕ) → Leaves old mid bytes rest → now ≡ mid → AppendsPart old now bytes
leaves_part old mid now bytes rest h kept = record {
  part = h.part;
  rest = rest;
  whole = h.whole;
  appends = subst (λ (m : Option (List ℕ)). Appends old m h.part) (sym kept) h.appends;
}

-- ---- causes

pub rose_from : (first before now : ℕ) (last : Type 0) → before ≡ first → Rose before now last → Rose first now last
rose_from first before now last e h = subst (λ (b : ℕ). Rose b now last) e h
