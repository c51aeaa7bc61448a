-- Where the counts of a checkpoint begin, and its version.
use Rattle.std.proofs.Common.{◌≡◌, ℕ, ◌+◌, ◌*◌, ◌≤◌, Bool, true, false, not, ◌&&◌, ◌||◌, cond, List, [], ◌∷◌, ◌++◌, length, map, Ok, Err, refl, sym, ap, ◌∙◌, inl, inr, arith, ◌⊎◌}
use Rattle.std.specs.Prelude.{◌==◌}
use Rattle.std.specs.Int.{Width, byte_len, w8, w16, w32}
use Rattle.std.proofs.lemmas.Bool.{eqb-true, and_parts}
use Rattle.mls_model.specs.Studies.{Sizes}
use Rattle.mls_ckpt.specs.Reading.{Cursor, Read, Refusal, number_at, text, texts}
use Rattle.mls_ckpt.specs.States.{State}
use Rattle.mls_ckpt.specs.Laws.{NumbersReadAgain}
use Rattle.mls_ckpt.specs.Spellings.{magic, is_read, samples_byte, fields_number, threshold_numbers, sized_text, head_numbers, head_text, counts_text, marks_text, pending_text, spelled_state}
use Rattle.mls_ckpt.proofs.Numbers.{text_long}

-- how many bytes some numbers have
abbrev widths : List (Width × ℕ) → ℕ
widths [] = 0
widths (n ∷ ns) = byte_len n.0 + widths ns

widths_append : (xs ys : List (Width × ℕ)) → widths (xs ++ ys) ≡ widths xs + widths ys
widths_append [] ys = omega arith
widths_append (x ∷ xs) ys = omega (arith, widths_append xs ys)

sized_long : (ns : List (Width × ℕ)) (rest : List ℕ) → length (texts sized_text ns rest) ≡ widths ns + length rest
sized_long [] rest = omega arith
sized_long (n ∷ ns) rest = omega (arith, text_long n.0 n.1 (texts sized_text ns rest), sized_long ns rest)

thresholds_wide : (ts : List ℕ) → widths (map (λ t. (w16, t)) ts) ≡ 2 * length ts
thresholds_wide [] = omega arith
thresholds_wide (t ∷ ts) = omega (arith, thresholds_wide ts)

samples_wide : (version : ℕ) (s : Sizes) → widths (samples_byte version s) ≡ cond (version == 1) 0 1
samples_wide version s = elim (version == 1) as (λ b. widths (cond b [] ((w8, cond s.signed 1 0) ∷ [])) ≡ cond b 0 1) [ true ↦ refl | false ↦ refl ]

fields_wide : (version : ℕ) (s : Sizes) → widths (fields_number version s) ≡ cond (version == 3) 4 0
fields_wide version s = elim (version == 3) as (λ b. widths (cond b ((w32, s.fields) ∷ []) []) ≡ cond b 4 0) [ true ↦ refl | false ↦ refl ]

pub head_long : (version : ℕ) (s : Sizes) (rank samples fields thresholds : ℕ) → samples ≡ cond (version == 1) 0 1 → fields ≡ cond (version == 3) 4 0 → thresholds ≡ length s.thresholds
    → 35 + samples + fields + 2 * thresholds ≡ length (head_text version s rank [])
unfolding head_text head_numbers
head_long version s rank samples fields thresholds samples_is fields_is thresholds_is =
    let tail = threshold_numbers s in
    let numbers = head_numbers version s rank in
    let whole = text_long w32 magic (text w16 version (texts sized_text numbers [])) in
    let behind = text_long w16 version (texts sized_text numbers []) in
    let all = sized_long numbers [] in
    let split = widths_append (samples_byte version s) ((w32, s.cells) ∷ (w32, s.steps) ∷ (fields_number version s ++ ((w32, s.groups) ∷ (w32, s.parameters) ∷ (w32, s.ranks) ∷ (w32, s.clients) ∷ (w32, rank) ∷ tail))) in
    let mesh = widths_append (fields_number version s) ((w32, s.groups) ∷ (w32, s.parameters) ∷ (w32, s.ranks) ∷ (w32, s.clients) ∷ (w32, rank) ∷ tail) in
    let first = samples_wide version s in
    let second = fields_wide version s in
    let third = thresholds_wide s.thresholds in
    omega (arith, whole, behind, all, split, mesh, first, second, third, samples_is, fields_is, thresholds_is)

or_cases : (a b : Bool) → (a || b) ≡ true → (a ≡ true) ⊎ (b ≡ true)
or_cases true b e = inl refl
or_cases false b e = inr e

-- no version is greater
pub version_few : (s : Sizes) (version : ℕ) → is_read s version ≡ true → version ≤ 3
version_few s version read = elim (or_cases ((version == 3) || ((version == 2) && (s.fields == 1))) ((version == 1) && (s.fields == 1) && not s.signed) read) [
  | inl later ↦ elim (or_cases (version == 3) ((version == 2) && (s.fields == 1)) later) [
    | inl third ↦ let is : version ≡ 3 = eqb-true version 3 third in omega (arith, is)
    | inr second ↦ let is : version ≡ 2 = eqb-true version 2 (and_parts (version == 2) (s.fields == 1) second).0 in omega (arith, is)
  ]
  | inr first ↦ let is : version ≡ 1 = eqb-true version 1 (and_parts (version == 1) (s.fields == 1) (and_parts ((version == 1) && (s.fields == 1)) (not s.signed) first).0).0 in omega (arith, is)
]

-- what stands behind the version
abbrev rest_of : ℕ → Sizes → ℕ → State → List ℕ
rest_of version s rank state = texts sized_text (head_numbers version s rank) (counts_text state.counts (marks_text state.marks (state.part ++ pending_text state.pending [])))

pub magic_read : (s : Sizes) (rank version : ℕ) (state : State) (bytes : List ℕ) (from : Cursor) → NumbersReadAgain → bytes ≡ spelled_state version s rank state → from ≡ record { at = 0; left = bytes }
    → number_at w32 4294967295 from ≡ Ok (magic, record { at = 4; left = text w16 version (rest_of version s rank state) })
unfolding spelled_state head_text
magic_read s rank version state bytes from again spelled is =
    ap (number_at w32 4294967295) (is ∙ ap (λ l. let c : Cursor = record { at = 0; left = l } in c) spelled) ∙ again w32 4294967295 magic 0 (text w16 version (rest_of version s rank state)) (omega arith) (omega arith)

pub version_read : (s : Sizes) (rank version : ℕ) (state : State) → NumbersReadAgain → version ≤ 3
    → number_at w16 65535 (record { at = 4; left = text w16 version (rest_of version s rank state) }) ≡ Ok (version, record { at = 6; left = rest_of version s rank state })
version_read s rank version state again few = again w16 65535 version 4 (rest_of version s rank state) (omega (arith, few)) (omega (arith, few))

-- one value of two equal answers, and none of two that differ
pub same_value : {A : Type 0} (a b : ℕ × A) (read : Read (ℕ × A)) → read ≡ Ok a → read ≡ Ok b → a ≡ b
same_value a b read first second = let both : ◌≡◌ {A = Read (ℕ × _)} (Ok a) (Ok b) = sym first ∙ second in cc

pub no_refusal : {A : Type 0} (a : A) (refusal : Refusal) (read : Read A) → read ≡ Ok a → read ≡ Err refusal → ⊥
no_refusal a refusal read first second = let both : ◌≡◌ {A = Read _} (Ok a) (Err refusal) = sym first ∙ second in absurd cc
