-- The line at the front of bytes is read exactly where they begin with one.
use Rattle.std.proofs.Common.{◌≡◌, ℕ, ◌^◌, ◌<◌, List, [], ◌∷◌, ◌++◌, length, refl, sym, ap, ◌∙◌, subst, arith, length-append, Option, Some, None}
use Rattle.std.specs.Prelude.{decimal}
use Rattle.std.specs.Option.{option_and_then}
use Rattle.mls_model.specs.Schedules.{schedule_line}
use Rattle.mls_text.specs.Fronts.{number_before}
use Rattle.mls_text.proofs.Fronts.{first_same, second_same, number_before_is, number_before_found, two_parts}
use Rattle.mls_tape.specs.ScheduleLines.{BeginsWith}
use Rattle.mls_tape.specs.ScheduleReading.{line_in}

-- a line
pub line_in_is : (rank lane : ℕ) (rest : List ℕ) → rank < 2 ^ 32 → lane < 2 ^ 32 → line_in (schedule_line rank lane ++ rest) ≡ Some ((rank, lane), rest)
unfolding line_in
line_in_is rank lane rest a b =
    ap line_in (two_parts (decimal rank) (decimal lane) rest)
    ∙ ap (option_and_then (λ (x : ℕ × List ℕ). option_and_then (λ (y : ℕ × List ℕ). Some ((x.0, y.0), y.1)) (number_before 10 x.1))) (number_before_is rank 32 (decimal lane ++ 10 ∷ rest) a refl)
    ∙ ap (option_and_then (λ (y : ℕ × List ℕ). Some ((rank, y.0), y.1))) (number_before_is lane 10 rest b refl)

pub line_in_found : (bytes : List ℕ) (line : ℕ × ℕ) (rest : List ℕ) → line_in bytes ≡ Some (line, rest) → (bytes ≡ schedule_line line.0 line.1 ++ rest) × (line.0 < 2 ^ 32) × (line.1 < 2 ^ 32)
unfolding line_in
line_in_found bytes line rest h = go (number_before 32 bytes) refl h
  where
    there : (rank : ℕ) (l : List ℕ) → number_before 32 bytes ≡ Some (rank, l) → (o : Option (ℕ × List ℕ)) → number_before 10 l ≡ o → option_and_then {U = (ℕ × ℕ) × List ℕ} (λ (y : ℕ × List ℕ). Some ((rank, y.0), y.1)) o ≡ Some (line, rest) → (bytes ≡ schedule_line line.0 line.1 ++ rest) × (line.0 < 2 ^ 32) × (line.1 < 2 ^ 32)
    there rank l j None k h = cc
    there rank l j (Some (lane, m)) k h =
        let same0 = first_same (rank, lane) line m rest h in
        let same1 = second_same (rank, lane) line m rest h in
        let first = number_before_found 32 bytes rank l j in
        let second = number_before_found 10 l lane m k in
        let P : ℕ × ℕ → Type 0 = λ x. (bytes ≡ schedule_line x.0 x.1 ++ rest) × (x.0 < 2 ^ 32) × (x.1 < 2 ^ 32) in
        subst P same0 (
          first.0 ∙ ap (λ q. decimal rank ++ 32 ∷ q) (second.0 ∙ ap (λ q. decimal lane ++ 10 ∷ q) same1) ∙ sym (two_parts (decimal rank) (decimal lane) rest),
          first.1,
          second.1,
        )

    go : (o : Option (ℕ × List ℕ)) → number_before 32 bytes ≡ o → option_and_then {U = (ℕ × ℕ) × List ℕ} (λ (x : ℕ × List ℕ). option_and_then {U = (ℕ × ℕ) × List ℕ} (λ (y : ℕ × List ℕ). Some ((x.0, y.0), y.1)) (number_before 10 x.1)) o ≡ Some (line, rest) → (bytes ≡ schedule_line line.0 line.1 ++ rest) × (line.0 < 2 ^ 32) × (line.1 < 2 ^ 32)
    go None k h = cc
    go (Some (rank, l)) k h = there rank l k (number_before 10 l) refl h

pub begins : (bytes : List ℕ) (line : ℕ × ℕ) (rest : List ℕ) → line_in bytes ≡ Some (line, rest) → BeginsWith bytes line
begins bytes line rest e =
    let found = line_in_found bytes line rest e in
    record { after = rest; is_text = found.0; rank_fits = found.1; lane_fits = found.2 }

pub begins_not : (bytes : List ℕ) → line_in bytes ≡ None → (line : ℕ × ℕ) → BeginsWith bytes line → ⊥
begins_not bytes none line b =
    let read : line_in bytes ≡ Some (line, b.after) = ap line_in b.is_text ∙ line_in_is line.0 line.1 b.after b.rank_fits b.lane_fits in
    let wrong : ◌≡◌ {A = Option ((ℕ × ℕ) × List ℕ)} None (Some (line, b.after)) = sym none ∙ read in
    cc

pub line_some : (rank lane : ℕ) → 0 < length (schedule_line rank lane)
line_some rank lane = omega (arith, length-append (decimal rank) (32 ∷ (decimal lane ++ 10 ∷ [])))

pub shorter : (rest : List ℕ) (line : ℕ × ℕ) (after : List ℕ) → line_in rest ≡ Some (line, after) → length after < length rest
shorter rest line after h =
    let found = line_in_found rest line after h in
    omega (arith, ap length found.0, length-append (schedule_line line.0 line.1) after, line_some line.0 line.1)
