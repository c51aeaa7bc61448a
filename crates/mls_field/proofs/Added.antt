-- What a row at each place of a plane does to the lists that a field is made of.
use Rattle.std.proofs.Common.{◌≡◌, ◌≢◌, ℕ, ◌+◌, ◌*◌, ◌<◌, ◌≤◌, Bool, List, length, get_or, set, inl, inr, ap, ◌∙◌, refl, sym, subst, arith}
use Rattle.std.specs.Prelude.{IsTrue}
use Rattle.std.specs.List.{AllByRecursion}
use Rattle.std.proofs.lemmas.Bool.{cases_order}
use Rattle.std.proofs.lemmas.List.{length-set, get_or-set_same, get_or-set_other, length_push}
use Rattle.mls_model.specs.Studies.{Sizes, planes, rises}
use Rattle.mls_model.specs.Standing.{Table, with_block}
use Rattle.mls_field.specs.Cells.{cell_of, whole_cell}
use Rattle.mls_field.specs.ColumnSums.{sums_size, sums_step, column_at, most_before}
use Rattle.mls_field.proofs.Rooms.{sum_small, before_eight}
use Rattle.mls_field.specs.OutputSteps.{ends_step, numbers_step}
use Rattle.mls_field.specs.Fields.{IsPart, IsField, HoldsTable, added_of}
use Rattle.mls_field.specs.Kinds.{SumsWithin, HoldSums, ExtremaWithin, HoldExtrema, NumbersWithin, HoldNumbers}
use Rattle.mls_field.specs.ShiftedRows.{shifted_row}
use Rattle.mls_field.specs.Gathered.{waiting_row}
use Rattle.mls_field.proofs.Rows.{all_push, length-shifted_row}
use Rattle.mls_field.proofs.Grid.{with_block_there, with_block_elsewhere}
use Rattle.mls_field.proofs.WholeCells.{IsRow, IsKind, entry-cell, length-cell, length-with_rows, within_rows, cell_walked, cell_elsewhere}
use Rattle.mls_field.proofs.ThreeKinds.{sums_kind, ends_kind, numbers_kind}
use Rattle.mls_field.proofs.Growing.{IsGathered, Waits, waits_more, all_added, part_grows, row_is, row_given}
use Rattle.mls_field.specs.Walk.{Walk}

-- what is said of each plane and place, from what is said of the plane that grew and of the others
pub each_place : (P : ℕ → ℕ → Type 0) (step : ℕ) → ((place : ℕ) → P step place) → ((plane place : ℕ) → plane ≢ step → P plane place) → (plane place : ℕ) → P plane place
each_place P step here there plane place = elim (cases_order plane step) [
  | inl same ↦ subst (λ (p : ℕ). P p place) (sym same) (here place)
  | inr (inl low) ↦ there plane place (λ e. absurd (omega arith))
  | inr (inr high) ↦ there plane place (λ e. absurd (omega arith))
]

pub counted_added : (planes w : ℕ) (counts : List ℕ) (t : Table) (step n : ℕ) (row : ℕ → List ℕ) → step < length counts → n ≡ get_or counts step 0 → ((plane place : ℕ) → plane < planes → place < w → length (t plane place) ≡ get_or counts plane 0) → (plane place : ℕ) → plane < planes → place < w → length (with_block t step w row plane place) ≡ get_or (set counts step (n + 1)) plane 0
counted_added planes w counts t step n row fits count holds = each_place (λ p place. p < planes → place < w → length (with_block t step w row p place) ≡ get_or (set counts step (n + 1)) p 0) step
    (λ place inside h. ap length (with_block_there t step w row place h) ∙ (length_push (t step place) (row place) ∙ omega (arith, holds step place inside h, get_or-set_same counts step (n + 1) 0 fits)))
    (λ p place apart inside h. ap length (with_block_elsewhere t step w row p place apart) ∙ (holds p place inside h ∙ sym (get_or-set_other counts step p (n + 1) 0 apart)))

pub whole_added : (size planes w : ℕ) (t : Table) (step : ℕ) (row : ℕ → List ℕ) → ((place : ℕ) → length (row place) ≡ size) → ((plane place : ℕ) → plane < planes → place < w → AllByRecursion (λ (r : List ℕ). length r ≡ size) (t plane place)) → (plane place : ℕ) → plane < planes → place < w → AllByRecursion (λ (r : List ℕ). length r ≡ size) (with_block t step w row plane place)
whole_added size planes w t step row long holds = each_place (λ p place. p < planes → place < w → AllByRecursion (λ (r : List ℕ). length r ≡ size) (with_block t step w row p place)) step
    (λ place inside h. subst (λ (rs : List (List ℕ)). AllByRecursion (λ (r : List ℕ). length r ≡ size) rs) (sym (with_block_there t step w row place h)) (all_push _ (t step place) (row place) (holds step place inside h) (long place)))
    (λ p place apart inside h. subst (λ (rs : List (List ℕ)). AllByRecursion (λ (r : List ℕ). length r ≡ size) rs) (sym (with_block_elsewhere t step w row p place apart)) (holds p place inside h))

pub few_added : (counts : List ℕ) (step n : ℕ) → step < length counts → n < 65535 → ((plane : ℕ) → get_or counts plane 0 ≤ 65535) → (plane : ℕ) → get_or (set counts step (n + 1)) plane 0 ≤ 65535
few_added counts step n fits room few plane = each_place (λ p place. get_or (set counts step (n + 1)) p 0 ≤ 65535) step (λ place. omega (arith, get_or-set_same counts step (n + 1) 0 fits)) (λ p place apart. omega (arith, get_or-set_other counts step p (n + 1) 0 apart, few p)) plane 0

-- the rows that were added, where one more is given and waits
added_as_before : (counts waiting : List ℕ) (step n v : ℕ) → step < length counts → step < length waiting → n ≡ get_or counts step 0 → v ≡ get_or waiting step 0 → (plane : ℕ) → added_of (set counts step (n + 1)) (set waiting step (v + 1)) plane ≡ added_of counts waiting plane
added_as_before counts waiting step n v fits fits' e f plane = each_place (λ p place. added_of (set counts step (n + 1)) (set waiting step (v + 1)) p ≡ added_of counts waiting p) step
    (λ place. omega (arith, get_or-set_same counts step (n + 1) 0 fits, get_or-set_same waiting step (v + 1) 0 fits', e, f))
    (λ p place apart. omega (arith, get_or-set_other counts step p (n + 1) 0 apart, get_or-set_other waiting step p (v + 1) 0 apart)) plane 0

part_as_before : (within : ℕ → List ℕ → Type 0) (size planes places : ℕ) (added added' : ℕ → ℕ) (numbers : List ℕ) → ((plane : ℕ) → added' plane ≡ added plane) → IsPart within size planes places added numbers → IsPart within size planes places added' numbers
part_as_before within size planes places added added' numbers same part = record {
  long = part.long;
  range = λ plane place p_in here. subst (λ (n : ℕ). within n (cell_of size places numbers plane place)) (sym (same plane)) (part.range plane place p_in here);
}

pub waits_after : (waiting : List ℕ) (step v after : ℕ) → step < length waiting → v ≡ get_or waiting step 0 → ((plane : ℕ) → get_or waiting plane 0 ≤ 7) → Waits step v after waiting (set waiting step after)
waits_after waiting step v after fits e few = record {
  old_here = sym e;
  here = get_or-set_same waiting step after 0 fits;
  elsewhere = λ other apart. get_or-set_other waiting step other after 0 apart;
  few = few;
}

-- a row more waits
pub field_waits : (s : Sizes) (rank w : ℕ) (counts waiting sums ends numbers samples samples' : List ℕ) (step n v : ℕ) → IsField s rank w counts waiting sums ends numbers samples → step < planes s → n ≡ get_or counts step 0 → n < 65535 → v ≡ get_or waiting step 0 → v < 7 → length samples' ≡ length samples → ((i : ℕ) → get_or samples' i 0 ≤ 65535) → IsField s rank w (set counts step (n + 1)) (set waiting step (v + 1)) sums ends numbers samples'
field_waits s rank w counts waiting sums ends numbers samples samples' step n v is within e room f low long small =
    let fits : step < length counts = omega (arith, is.each_plane, within) in
    let fits' : step < length waiting = omega (arith, is.each_waits, within) in
    let same = added_as_before counts waiting step n v fits fits' e f in
    record {
      rank_in = is.rank_in;
      block_width = is.block_width;
      each_plane = length-set counts step (n + 1) ∙ is.each_plane;
      each_waits = length-set waiting step (v + 1) ∙ is.each_waits;
      few = few_added counts step n fits room is.few;
      few_wait = λ plane. each_place (λ p place. get_or (set waiting step (v + 1)) p 0 ≤ 7) step (λ place. omega (arith, get_or-set_same waiting step (v + 1) 0 fits', low)) (λ p place apart. omega (arith, get_or-set_other waiting step p (v + 1) 0 apart, is.few_wait p)) plane 0;
      given = λ plane. each_place (λ p place. get_or (set waiting step (v + 1)) p 0 ≤ get_or (set counts step (n + 1)) p 0) step
          (λ place. omega (arith, get_or-set_same waiting step (v + 1) 0 fits', get_or-set_same counts step (n + 1) 0 fits, is.given step, e, f))
          (λ p place apart. omega (arith, get_or-set_other waiting step p (v + 1) 0 apart, get_or-set_other counts step p (n + 1) 0 apart, is.given p)) plane 0;
      room = long ∙ is.room;
      small = small;
      sums_in = part_as_before (SumsWithin s.parameters) (sums_size s.parameters) (planes s) w _ _ sums same is.sums_in;
      extrema_in = part_as_before ExtremaWithin 2 (planes s) w _ _ ends same is.extrema_in;
      numbers_in = part_as_before NumbersWithin (length s.thresholds) (planes s) w _ _ numbers same is.numbers_in;
    }

-- a row of a block is one of samples of 16 bits
pub given_is : (n places plane w : ℕ) (signed : Bool) (given : ℕ → ℕ → ℕ) (samples samples' : List ℕ) → IsGathered n places plane w signed given samples samples' → ((i : ℕ) → get_or samples' i 0 ≤ 65535) → (place : ℕ) → place < places → IsRow n (shifted_row signed n given place)
given_is n places plane w signed given samples samples' is small place here = subst (λ (row : List ℕ). IsRow n row) (row_given n places plane w signed given samples samples' is place here) (row_is n places samples' plane place w small)

pub whole_long : (step : ℕ → List ℕ → ℕ → ℕ) (size places : ℕ) (numbers : List ℕ) (n : ℕ) (samples : List ℕ) (g plane place : ℕ) → length (whole_cell step size places numbers n samples g plane place) ≡ size
whole_long step size places numbers n samples g plane place = length-with_rows step (waiting_row n places samples plane place) g (cell_of size places numbers plane place) ∙ length-cell size places numbers plane place

pub table_waits : (s : Sizes) (w : ℕ) (counts waiting sums ends numbers samples samples' : List ℕ) (t : Table) (step n v : ℕ) (given : ℕ → ℕ → ℕ) → IsTrue (rises s.thresholds) → HoldsTable s w counts waiting sums ends numbers samples t → step < length counts → n ≡ get_or counts step 0 → v < 8 → Waits step v (v + 1) waiting (set waiting step (v + 1)) → IsGathered (s.parameters + 2) w step v s.signed given samples samples' → ((i : ℕ) → get_or samples' i 0 ≤ 65535) → HoldsTable s w (set counts step (n + 1)) (set waiting step (v + 1)) sums ends numbers samples' (with_block t step w (shifted_row s.signed (s.parameters + 2) given))
table_waits s w counts waiting sums ends numbers samples samples' t step n v given rises holds fits e v_in waits gathered small =
    let rows = shifted_row s.signed (s.parameters + 2) given in
    let q = s.parameters + 2 in
    record {
      counted = counted_added (planes s) w counts t step n rows fits e holds.counted;
      whole = whole_added q (planes s) w t step rows (λ place. length-shifted_row s.signed q given place) holds.whole;
      sums_of = part_grows (SumsWithin s.parameters) (HoldSums s.parameters) (sums_step s.parameters) (sums_size s.parameters) q (planes s) w step _ _ rows t (sums_kind s.parameters) (λ place. whole_long _ _ _ sums q samples _ step place) (given_is q w step v s.signed given samples samples' gathered small) (waits_more (sums_step s.parameters) (sums_size s.parameters) w q step v s.signed given samples samples' waiting _ gathered v_in sums waits) holds.sums_of;
      extrema_of = part_grows ExtremaWithin HoldExtrema ends_step 2 q (planes s) w step _ _ rows t (ends_kind q) (λ place. whole_long _ _ _ ends q samples _ step place) (given_is q w step v s.signed given samples samples' gathered small) (waits_more ends_step 2 w q step v s.signed given samples samples' waiting _ gathered v_in ends waits) holds.extrema_of;
      numbers_of = part_grows NumbersWithin (HoldNumbers s.thresholds) (numbers_step s.thresholds) (length s.thresholds) q (planes s) w step _ _ rows t (numbers_kind s.thresholds q rises) (λ place. whole_long _ _ _ numbers q samples _ step place) (given_is q w step v s.signed given samples samples' gathered small) (waits_more (numbers_step s.thresholds) (length s.thresholds) w q step v s.signed given samples samples' waiting _ gathered v_in numbers waits) holds.numbers_of;
    }

-- ---- all rows that wait are added
settled_count : (counts waiting : List ℕ) (step n : ℕ) → step < length counts → step < length waiting → n ≡ get_or counts step 0 → get_or waiting step 0 ≡ 7 → 7 ≤ n → added_of counts waiting step + 8 ≡ added_of (set counts step (n + 1)) (set waiting step 0) step
settled_count counts waiting step n fits fits' e f some = omega (arith, get_or-set_same counts step (n + 1) 0 fits, get_or-set_same waiting step 0 0 fits', e, f)

settled_elsewhere : (counts waiting : List ℕ) (step n p : ℕ) → p ≢ step → added_of (set counts step (n + 1)) (set waiting step 0) p ≡ added_of counts waiting p
settled_elsewhere counts waiting step n p apart = omega (arith, get_or-set_other counts step p (n + 1) 0 apart, get_or-set_other waiting step p 0 0 apart)

part_settled : (within : ℕ → List ℕ → Type 0) (holds : List ℕ → List (List ℕ) → Type 0) (kind : ℕ → List ℕ → ℕ → ℕ) (size q planes w : ℕ) (counts waiting samples' numbers numbers' : List ℕ) (step n : ℕ) → IsKind within holds kind size q → IsPart within size planes w (added_of counts waiting) numbers → step < planes → step < length counts → step < length waiting → n ≡ get_or counts step 0 → get_or waiting step 0 ≡ 7 → 7 ≤ n → ((i : ℕ) → get_or samples' i 0 ≤ 65535) → length numbers' ≡ length numbers → Walk (step * size) size w 0 w numbers numbers' (λ c i g m. kind c (waiting_row q w samples' step i g) m) → IsPart within size planes w (added_of (set counts step (n + 1)) (set waiting step 0)) numbers'
part_settled within holds kind size q planes w counts waiting samples' numbers numbers' step n is part inside fits fits' e f some small long walk = record {
  long = long ∙ part.long;
  range = each_place (λ p place. p < planes → place < w → within (added_of (set counts step (n + 1)) (set waiting step 0) p) (cell_of size w numbers' p place)) step
      (λ place _ here.
      subst (λ (m : ℕ). within m (cell_of size w numbers' step place)) (settled_count counts waiting step n fits fits' e f some)
      (subst (λ (xs : List ℕ). within (added_of counts waiting step + 8) xs) (sym (cell_walked size w step numbers numbers' kind (λ i g. waiting_row q w samples' step i g) walk place here))
      (within_rows within holds kind size q is (λ g. waiting_row q w samples' step place g) 8 (added_of counts waiting step) (cell_of size w numbers step place) (length-cell size w numbers step place) (λ g. row_is q w samples' step place g small) (part.range step place inside here))))
      (λ p place apart p_in here.
      subst (λ (m : ℕ). within m (cell_of size w numbers' p place)) (sym (settled_elsewhere counts waiting step n p apart))
      (subst (λ (xs : List ℕ). within (added_of counts waiting p) xs) (sym (cell_elsewhere size w step numbers numbers' (λ c i g m. kind c (waiting_row q w samples' step i g) m) walk p place apart here)) (part.range p place p_in here)));
}

pub field_settled : (s : Sizes) (rank w : ℕ) (counts waiting sums ends numbers samples sums' ends' numbers' samples' : List ℕ) (step n : ℕ) → IsTrue (rises s.thresholds) → IsField s rank w counts waiting sums ends numbers samples → step < planes s → n ≡ get_or counts step 0 → n < 65535 → get_or waiting step 0 ≡ 7 → length samples' ≡ length samples → ((i : ℕ) → get_or samples' i 0 ≤ 65535) → length sums' ≡ length sums → length ends' ≡ length ends → length numbers' ≡ length numbers
    → Walk (step * sums_size s.parameters) (sums_size s.parameters) w 0 w sums sums' (λ c i g m. sums_step s.parameters c (waiting_row (s.parameters + 2) w samples' step i g) m)
    → Walk (step * 2) 2 w 0 w ends ends' (λ c i g m. ends_step c (waiting_row (s.parameters + 2) w samples' step i g) m)
    → Walk (step * length s.thresholds) (length s.thresholds) w 0 w numbers numbers' (λ c i g m. numbers_step s.thresholds c (waiting_row (s.parameters + 2) w samples' step i g) m)
    → IsField s rank w (set counts step (n + 1)) (set waiting step 0) sums' ends' numbers' samples'
field_settled s rank w counts waiting sums ends numbers samples sums' ends' numbers' samples' step n rises is within e room f long small la lb ld a b d =
    let fits : step < length counts = omega (arith, is.each_plane, within) in
    let fits' : step < length waiting = omega (arith, is.each_waits, within) in
    let some : 7 ≤ n = omega (arith, is.given step, e, f) in
    let q = s.parameters + 2 in
    record {
      rank_in = is.rank_in;
      block_width = is.block_width;
      each_plane = length-set counts step (n + 1) ∙ is.each_plane;
      each_waits = length-set waiting step 0 ∙ is.each_waits;
      few = few_added counts step n fits room is.few;
      few_wait = λ plane. each_place (λ p place. get_or (set waiting step 0) p 0 ≤ 7) step (λ place. omega (arith, get_or-set_same waiting step 0 0 fits')) (λ p place apart. omega (arith, get_or-set_other waiting step p 0 0 apart, is.few_wait p)) plane 0;
      given = λ plane. each_place (λ p place. get_or (set waiting step 0) p 0 ≤ get_or (set counts step (n + 1)) p 0) step
          (λ place. omega (arith, get_or-set_same waiting step 0 0 fits'))
          (λ p place apart. omega (arith, get_or-set_other waiting step p 0 0 apart, get_or-set_other counts step p (n + 1) 0 apart, is.given p)) plane 0;
      room = long ∙ is.room;
      small = small;
      sums_in = part_settled (SumsWithin s.parameters) (HoldSums s.parameters) (sums_step s.parameters) (sums_size s.parameters) q (planes s) w counts waiting samples' sums sums' step n (sums_kind s.parameters) is.sums_in within fits fits' e f some small la a;
      extrema_in = part_settled ExtremaWithin HoldExtrema ends_step 2 q (planes s) w counts waiting samples' ends ends' step n (ends_kind q) is.extrema_in within fits fits' e f some small lb b;
      numbers_in = part_settled NumbersWithin (HoldNumbers s.thresholds) (numbers_step s.thresholds) (length s.thresholds) q (planes s) w counts waiting samples' numbers numbers' step n (numbers_kind s.thresholds q rises) is.numbers_in within fits fits' e f some small ld d;
    }

pub table_settled : (s : Sizes) (w : ℕ) (counts waiting sums ends numbers samples sums' ends' numbers' samples' : List ℕ) (t : Table) (step n : ℕ) (given : ℕ → ℕ → ℕ) → IsTrue (rises s.thresholds) → HoldsTable s w counts waiting sums ends numbers samples t → step < length counts → n ≡ get_or counts step 0 → Waits step 7 0 waiting (set waiting step 0) → IsGathered (s.parameters + 2) w step 7 s.signed given samples samples' → ((i : ℕ) → get_or samples' i 0 ≤ 65535)
    → Walk (step * sums_size s.parameters) (sums_size s.parameters) w 0 w sums sums' (λ c i g m. sums_step s.parameters c (waiting_row (s.parameters + 2) w samples' step i g) m)
    → Walk (step * 2) 2 w 0 w ends ends' (λ c i g m. ends_step c (waiting_row (s.parameters + 2) w samples' step i g) m)
    → Walk (step * length s.thresholds) (length s.thresholds) w 0 w numbers numbers' (λ c i g m. numbers_step s.thresholds c (waiting_row (s.parameters + 2) w samples' step i g) m)
    → HoldsTable s w (set counts step (n + 1)) (set waiting step 0) sums' ends' numbers' samples' (with_block t step w (shifted_row s.signed (s.parameters + 2) given))
table_settled s w counts waiting sums ends numbers samples sums' ends' numbers' samples' t step n given rises holds fits e waits gathered small a b d =
    let q = s.parameters + 2 in
    let rows = shifted_row s.signed q given in
    let seven : 7 < 8 = omega arith in
    record {
      counted = counted_added (planes s) w counts t step n rows fits e holds.counted;
      whole = whole_added q (planes s) w t step rows (λ place. length-shifted_row s.signed q given place) holds.whole;
      sums_of = part_grows (SumsWithin s.parameters) (HoldSums s.parameters) (sums_step s.parameters) (sums_size s.parameters) q (planes s) w step _ _ rows t (sums_kind s.parameters) (λ place. whole_long _ _ _ sums q samples _ step place) (given_is q w step 7 s.signed given samples samples' gathered small) (all_added (sums_step s.parameters) (sums_size s.parameters) w q step 7 s.signed given samples samples' waiting _ gathered seven sums sums' refl waits a) holds.sums_of;
      extrema_of = part_grows ExtremaWithin HoldExtrema ends_step 2 q (planes s) w step _ _ rows t (ends_kind q) (λ place. whole_long _ _ _ ends q samples _ step place) (given_is q w step 7 s.signed given samples samples' gathered small) (all_added ends_step 2 w q step 7 s.signed given samples samples' waiting _ gathered seven ends ends' refl waits b) holds.extrema_of;
      numbers_of = part_grows NumbersWithin (HoldNumbers s.thresholds) (numbers_step s.thresholds) (length s.thresholds) q (planes s) w step _ _ rows t (numbers_kind s.thresholds q rises) (λ place. whole_long _ _ _ numbers q samples _ step place) (given_is q w step 7 s.signed given samples samples' gathered small) (all_added (numbers_step s.thresholds) (length s.thresholds) w q step 7 s.signed given samples samples' waiting _ gathered seven numbers numbers' refl waits d) holds.numbers_of;
    }

-- ---- where seven rows wait, there is room for eight
pub room_for_sums : (s : Sizes) (rank w : ℕ) (counts waiting sums ends numbers samples : List ℕ) (step : ℕ) → IsField s rank w counts waiting sums ends numbers samples → step < planes s → get_or counts step 0 < 65535 → get_or waiting step 0 ≡ 7 → (c i : ℕ) → c < sums_size s.parameters → i < w → get_or sums ((step * sums_size s.parameters + c) * w + i) 0 ≤ most_before (column_at s.parameters c)
room_for_sums s rank w counts waiting sums ends numbers samples step is inside room f c i c_in here =
    let p = s.parameters in
    let m = added_of counts waiting step in
    let few : m ≤ 65527 = omega (arith, f, room) in
    let cell = cell_of (sums_size p) w sums step i in
    let small = sum_small m p cell (is.sums_in.range step i inside here) (omega (arith, few)) c c_in in
    omega (arith, entry-cell (sums_size p) w sums step i c c_in, small, before_eight m (column_at p c) few)

pub room_for_numbers : (s : Sizes) (rank w : ℕ) (counts waiting sums ends numbers samples : List ℕ) (step : ℕ) → IsField s rank w counts waiting sums ends numbers samples → step < planes s → get_or counts step 0 < 65535 → (c i : ℕ) → c < length s.thresholds → i < w → get_or numbers ((step * length s.thresholds + c) * w + i) 0 ≤ 131070
room_for_numbers s rank w counts waiting sums ends numbers samples step is inside room c i c_in here =
    omega (arith, entry-cell (length s.thresholds) w numbers step i c c_in, (is.numbers_in.range step i inside here).few c, room)
