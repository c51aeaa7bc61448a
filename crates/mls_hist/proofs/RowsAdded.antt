-- What a row at each place of a plane does to the counts.
use Rattle.std.proofs.Common.{◌≡◌, ◌≢◌, ℕ, ◌+◌, ◌*◌, ◌<◌, ◌≤◌, Bool, List, [], ◌∷◌, ◌++◌, length, get_or, set, inl, inr, append_assoc, ap, ◌∙◌, refl, sym, subst, arith, length-set, get_or-set_same, get_or-set_other}
use Rattle.std.specs.Prelude.{sum}
use Rattle.std.proofs.lemmas.Bool.{cases_order}
use Rattle.mls_model.specs.Studies.{Sizes, planes}
use Rattle.mls_model.specs.CellSums.{both}
use Rattle.mls_model.specs.Samples.{shifted}
use Rattle.mls_model.specs.Standing.{Table, with_block}
use Rattle.mls_field.specs.ShiftedRows.{shifted_row}
use Rattle.mls_field.proofs.Grid.{plane_before, with_block_there, with_block_elsewhere}
use Rattle.mls_field.proofs.Rows.{entry-shifted_row, shifted_outputs_push}
use Rattle.mls_field.proofs.Added.{each_place, counted_added, few_added}
use Rattle.mls_hist.specs.Bins.{count_in}
use Rattle.mls_hist.specs.Waiting.{column, plane_start}
use Rattle.mls_hist.specs.Histograms.{cell_start, count_at, counts_at, IsHist, HoldsTable}
use Rattle.mls_hist.specs.Packed.{Within}
use Rattle.mls_hist.proofs.Columns.{one, count-none, count-more, column-none, column-same, counted-two}
use Rattle.mls_hist.proofs.Counting.{total-same, total_grows, counts_opened}

-- two samples more of each place of a plane
pub record Grew (planes places step : ℕ) (waiting bins samples waiting' bins' samples' : List ℕ) (a b : ℕ → ℕ) : Type 0 where
  pub here : (place bin : ℕ) → place < places → bin < 64 → count_at places waiting' bins' samples' step place bin ≡ count_at places waiting bins samples step place bin + one bin (a place) + one bin (b place)
  pub elsewhere : (plane place bin : ℕ) → plane < planes → plane ≢ step → place < places → bin < 64 → count_at places waiting' bins' samples' plane place bin ≡ count_at places waiting bins samples plane place bin

-- samples of A and of B were put behind those that wait of a plane
pub record Gathered (places step v : ℕ) (samples samples' : List ℕ) (a b : ℕ → ℕ) : Type 0 where
  pub first : (place : ℕ) → place < places → get_or samples' (plane_start places step + 2 * v * places + place) 0 ≡ a place
  pub second : (place : ℕ) → place < places → get_or samples' (plane_start places step + 2 * v * places + places + place) 0 ≡ b place
  pub others : Within (plane_start places step + 2 * v * places) (2 * places) samples samples'

-- ---- the samples that wait
in_rows : (places place k n : ℕ) → k < n → place < places → place + k * places < n * places
in_rows places place k n low inside = omega (arith, plane_before k n places low, inside)

column_here : (places step v : ℕ) (samples samples' : List ℕ) (a b : ℕ → ℕ) → Gathered places step v samples samples' a b → (place : ℕ) → place < places → column places samples' (plane_start places step + place) (2 * v) ≡ column places samples (plane_start places step + place) (2 * v)
column_here places step v samples samples' a b g place inside =
    column-same places samples' samples (plane_start places step + place) (2 * v) (λ k low. g.others.before (plane_start places step + place + k * places) (let e = in_rows places place k (2 * v) low inside in omega (arith, e)))

column_elsewhere : (places step v : ℕ) (samples samples' : List ℕ) (a b : ℕ → ℕ) → v ≤ 7 → Gathered places step v samples samples' a b → (plane place n : ℕ) → n ≤ 14 → plane ≢ step → place < places → column places samples' (plane_start places plane + place) n ≡ column places samples (plane_start places plane + place) n
column_elsewhere places step v samples samples' a b few g plane place n short apart inside =
    column-same places samples' samples (plane_start places plane + place) n (λ k low.
    let row = in_rows places place k 16 (omega (arith, low, short)) inside in
    let at = plane_start places plane + place + k * places in
    elim (cases_order plane step) [
      | inl same ↦ absurd (apart same)
      | inr (inl less) ↦ g.others.before at (let e = plane_before plane step (16 * places) less in omega (arith, e, row))
      | inr (inr more) ↦ g.others.behind at (let e = plane_before step plane (16 * places) more in let f = plane_before_or (2 * v + 2) 16 places (omega (arith, few)) in omega (arith, e, f))
    ])
  where
    plane_before_or : (p q w : ℕ) → p ≤ q → p * w ≤ q * w
    plane_before_or p q w h = elim (cases_order p q) [
      | inl same ↦ ap_le p q w same
      | inr (inl less) ↦ omega (arith, plane_before p q w less)
      | inr (inr more) ↦ absurd (omega (arith, h, more))
    ]
      where
        ap_le : (p q w : ℕ) → p ≡ q → p * w ≤ q * w
        ap_le p q w e = subst (λ (m : ℕ). p * w ≤ m * w) e (omega arith)

-- the count of a bin, opened
pub count_opened : (places : ℕ) (waiting bins samples : List ℕ) (plane place bin : ℕ) → count_at places waiting bins samples plane place bin ≡ get_or bins (cell_start places plane place + bin) 0 + count_in bin (column places samples (plane_start places plane + place) (2 * get_or waiting plane 0))
unfolding count_at
count_opened places waiting bins samples plane place bin = refl

waiting_two : (places step v : ℕ) (samples samples' : List ℕ) (a b : ℕ → ℕ) → Gathered places step v samples samples' a b → (place bin m : ℕ) → place < places → m ≡ 2 * v + 2 → count_in bin (column places samples' (plane_start places step + place) m) ≡ count_in bin (column places samples (plane_start places step + place) (2 * v)) + one bin (a place) + one bin (b place)
waiting_two places step v samples samples' a b g place bin m inside e =
    let at = plane_start places step + place in
    let two = counted-two bin places samples' at (2 * v) m e in
    let before = ap (count_in bin) (column_here places step v samples samples' a b g place inside) in
    let first : get_or samples' (at + 2 * v * places) 0 ≡ a place = ap (λ i. get_or samples' i 0) (let f : at + 2 * v * places ≡ plane_start places step + 2 * v * places + place = omega arith in f) ∙ g.first place inside in
    let second : get_or samples' (at + (2 * v + 1) * places) 0 ≡ b place = ap (λ i. get_or samples' i 0) (let f : at + (2 * v + 1) * places ≡ plane_start places step + 2 * v * places + places + place = omega arith in f) ∙ g.second place inside in
    two ∙ (λ i. before i + one bin (first i) + one bin (second i))

-- ---- a row more waits
pub keeps : (s : Sizes) (places step v : ℕ) (waiting bins samples samples' : List ℕ) (a b : ℕ → ℕ) → step < length waiting → v ≡ get_or waiting step 0 → v < 7 → ((plane : ℕ) → get_or waiting plane 0 ≤ 7) → Gathered places step v samples samples' a b → Grew (planes s) places step waiting bins samples (set waiting step (v + 1)) bins samples' a b
keeps s places step v waiting bins samples samples' a b fits is few few_wait g = record {
  here = λ place bin inside low.
      let new : get_or (set waiting step (v + 1)) step 0 ≡ v + 1 = get_or-set_same waiting step (v + 1) 0 fits in
      let two = waiting_two places step v samples samples' a b g place bin (2 * get_or (set waiting step (v + 1)) step 0) inside (omega (arith, new)) in
      let old : count_in bin (column places samples (plane_start places step + place) (2 * v)) ≡ count_in bin (column places samples (plane_start places step + place) (2 * get_or waiting step 0)) = ap (λ m. count_in bin (column places samples (plane_start places step + place) (2 * m))) is in
      count_opened places (set waiting step (v + 1)) bins samples' step place bin ∙ omega (arith, two, old, count_opened places waiting bins samples step place bin);
  elsewhere = λ plane place bin p_in apart inside low.
      let same : get_or (set waiting step (v + 1)) plane 0 ≡ get_or waiting plane 0 = get_or-set_other waiting step plane (v + 1) 0 apart in
      let col : count_in bin (column places samples' (plane_start places plane + place) (2 * get_or (set waiting step (v + 1)) plane 0)) ≡ count_in bin (column places samples (plane_start places plane + place) (2 * get_or waiting plane 0)) =
      ap (λ m. count_in bin (column places samples' (plane_start places plane + place) (2 * m))) same ∙ ap (count_in bin) (column_elsewhere places step v samples samples' a b (omega (arith, few)) g plane place (2 * get_or waiting plane 0) (omega (arith, few_wait plane)) apart inside) in
      count_opened places (set waiting step (v + 1)) bins samples' plane place bin ∙ omega (arith, col, count_opened places waiting bins samples plane place bin);
}

-- ---- eight rows were added
pub record Added (places step : ℕ) (bins bins' samples' : List ℕ) : Type 0 where
  pub counts : (place bin : ℕ) → place < places → bin < 64 → get_or bins' ((step * places + place) * 64 + bin) 0 ≡ get_or bins ((step * places + place) * 64 + bin) 0 + count_in bin (column places samples' (plane_start places step + place) 16)
  pub others : Within (step * places * 64) (places * 64) bins bins'

pub adds : (s : Sizes) (places step : ℕ) (waiting bins bins' samples samples' : List ℕ) (a b : ℕ → ℕ) → step < length waiting → get_or waiting step 0 ≡ 7 → ((plane : ℕ) → get_or waiting plane 0 ≤ 7) → Gathered places step 7 samples samples' a b → Added places step bins bins' samples' → Grew (planes s) places step waiting bins samples (set waiting step 0) bins' samples' a b
adds s places step waiting bins bins' samples samples' a b fits is few_wait g added = record {
  here = λ place bin inside low.
      let none : count_in bin (column places samples' (plane_start places step + place) (2 * get_or (set waiting step 0) step 0)) ≡ 0 =
      ap (λ m. count_in bin (column places samples' (plane_start places step + place) (2 * m))) (get_or-set_same waiting step 0 0 fits) ∙ (ap (count_in bin) (column-none places samples' (plane_start places step + place)) ∙ count-none bin) in
      let two = waiting_two places step 7 samples samples' a b g place bin 16 inside (omega arith) in
      let old : count_in bin (column places samples (plane_start places step + place) (2 * 7)) ≡ count_in bin (column places samples (plane_start places step + place) (2 * get_or waiting step 0)) = ap (λ m. count_in bin (column places samples (plane_start places step + place) (2 * m))) (sym is) in
      count_opened places (set waiting step 0) bins' samples' step place bin ∙ omega (arith, none, two, old, added.counts place bin inside low, count_opened places waiting bins samples step place bin);
  elsewhere = λ plane place bin p_in apart inside low.
      let same : get_or (set waiting step 0) plane 0 ≡ get_or waiting plane 0 = get_or-set_other waiting step plane 0 0 apart in
      let col : count_in bin (column places samples' (plane_start places plane + place) (2 * get_or (set waiting step 0) plane 0)) ≡ count_in bin (column places samples (plane_start places plane + place) (2 * get_or waiting plane 0)) =
      ap (λ m. count_in bin (column places samples' (plane_start places plane + place) (2 * m))) same ∙ ap (count_in bin) (column_elsewhere places step 7 samples samples' a b (omega arith) g plane place (2 * get_or waiting plane 0) (omega (arith, few_wait plane)) apart inside) in
      let kept : get_or bins' (cell_start places plane place + bin) 0 ≡ get_or bins (cell_start places plane place + bin) 0 =
      elim (cases_order plane step) [
        | inl e ↦ absurd (apart e)
        | inr (inl less) ↦ added.others.before (cell_start places plane place + bin) (omega (arith, plane_before plane step places less, inside, low))
        | inr (inr more) ↦ added.others.behind (cell_start places plane place + bin) (omega (arith, plane_before step plane places more))
      ] in
      count_opened places (set waiting step 0) bins' samples' plane place bin ∙ omega (arith, col, kept, count_opened places waiting bins samples plane place bin);
}

-- ---- what that makes of the whole
pub hist_grown : (s : Sizes) (rank places step n : ℕ) (counts waiting bins samples waiting' bins' samples' : List ℕ) (a b : ℕ → ℕ) → IsHist s rank places counts waiting bins samples → Grew (planes s) places step waiting bins samples waiting' bins' samples' a b → step < planes s → n ≡ get_or counts step 0 → n < 65535
    → length waiting' ≡ length waiting → ((plane : ℕ) → get_or waiting' plane 0 ≤ 7) → length bins' ≡ length bins → length samples' ≡ length samples → ((i : ℕ) → get_or samples' i 0 ≤ 65535) → ((place : ℕ) → place < places → a place ≤ 65535) → ((place : ℕ) → place < places → b place ≤ 65535)
    → IsHist s rank places (set counts step (n + 1)) waiting' bins' samples'
hist_grown s rank places step n counts waiting bins samples waiting' bins' samples' a b is grew within e room wait_long few_wait bins_long samples_long small small_a small_b =
    let fits : step < length counts = omega (arith, is.each_plane, within) in
    record {
      rank_in = is.rank_in;
      block_width = is.block_width;
      each_plane = length-set counts step (n + 1) ∙ is.each_plane;
      each_waits = wait_long ∙ is.each_waits;
      few = few_added counts step n fits room is.few;
      few_wait = few_wait;
      long = bins_long ∙ is.long;
      room = samples_long ∙ is.room;
      small = small;
      whole = each_place (λ plane place. plane < planes s → place < places → sum (counts_at places waiting' bins' samples' plane place) ≡ 2 * get_or (set counts step (n + 1)) plane 0) step
          (λ place p_in inside.
          let more = total_grows (count_at places waiting bins samples step place) (count_at places waiting' bins' samples' step place) (a place) (b place) (small_a place inside) (small_b place inside) (λ bin low. grew.here place bin inside low) in
          let old = sym (ap sum (counts_opened places waiting bins samples step place)) ∙ is.whole step place p_in inside in
          ap sum (counts_opened places waiting' bins' samples' step place) ∙ (more ∙ omega (arith, old, e, get_or-set_same counts step (n + 1) 0 fits)))
          (λ plane place apart p_in inside.
          let same = total-same (count_at places waiting' bins' samples' plane place) (count_at places waiting bins samples plane place) 64 (λ bin low. grew.elsewhere plane place bin p_in apart inside low) in
          let old = sym (ap sum (counts_opened places waiting bins samples plane place)) ∙ is.whole plane place p_in inside in
          ap sum (counts_opened places waiting' bins' samples' plane place) ∙ (same ∙ (old ∙ ap (λ m. 2 * m) (sym (get_or-set_other counts step plane (n + 1) 0 apart)))));
    }

count_two : (bin : ℕ) (xs : List ℕ) (a b : ℕ) → count_in bin (xs ++ a ∷ b ∷ []) ≡ count_in bin xs + one bin a + one bin b
count_two bin xs a b = ap (count_in bin) (sym (append_assoc xs (a ∷ []) (b ∷ []))) ∙ (count-more bin (xs ++ a ∷ []) b ∙ ap (λ m. m + one bin b) (count-more bin xs a))

row_counted : (bin : ℕ) (rows : List (List ℕ)) (signed : Bool) (m : ℕ) (sample : ℕ → ℕ → ℕ) (place : ℕ) → 2 ≤ m → count_in bin (both (rows ++ shifted_row signed m sample place ∷ [])) ≡ count_in bin (both rows) + one bin (shifted signed (sample 0 place)) + one bin (shifted signed (sample 1 place))
row_counted bin rows signed m sample place some =
    let row = shifted_row signed m sample place in
    let first : get_or row 0 0 ≡ shifted signed (sample 0 place) = entry-shifted_row signed m sample place 0 (omega (arith, some)) in
    let second : get_or row 1 0 ≡ shifted signed (sample 1 place) = entry-shifted_row signed m sample place 1 (omega (arith, some)) in
    ap (count_in bin) (shifted_outputs_push rows row) ∙ (count_two bin (both rows) (get_or row 0 0) (get_or row 1 0) ∙ (λ i. count_in bin (both rows) + one bin (first i) + one bin (second i)))

pub table_grown : (s : Sizes) (places step n m : ℕ) (counts waiting bins samples waiting' bins' samples' : List ℕ) (signed : Bool) (sample : ℕ → ℕ → ℕ) (t : Table) → HoldsTable s places counts waiting bins samples t → Grew (planes s) places step waiting bins samples waiting' bins' samples' (λ place. shifted signed (sample 0 place)) (λ place. shifted signed (sample 1 place)) → step < length counts → n ≡ get_or counts step 0 → 2 ≤ m
    → HoldsTable s places (set counts step (n + 1)) waiting' bins' samples' (with_block t step places (shifted_row signed m sample))
table_grown s places step n m counts waiting bins samples waiting' bins' samples' signed sample t holds grew fits e some =
    let row = shifted_row signed m sample in
    record {
      counted = counted_added (planes s) places counts t step n row fits e holds.counted;
      each = λ plane place bin. each_place (λ plane place. plane < planes s → place < places → bin < 64 → count_at places waiting' bins' samples' plane place bin ≡ count_in bin (both (with_block t step places row plane place))) step
          (λ place p_in inside low.
          let old = holds.each step place bin p_in inside low in
          grew.here place bin inside low ∙ (omega_sum bin place old ∙ (sym (row_counted bin (t step place) signed m sample place some) ∙ ap (λ rows. count_in bin (both rows)) (sym (with_block_there t step places row place inside)))))
          (λ plane place apart p_in inside low.
          grew.elsewhere plane place bin p_in apart inside low ∙ (holds.each plane place bin p_in inside low ∙ ap (λ rows. count_in bin (both rows)) (sym (with_block_elsewhere t step places row plane place apart))))
          plane place;
    }
  where
    omega_sum : (bin place : ℕ) {x y : ℕ} → x ≡ y → x + one bin (shifted signed (sample 0 place)) + one bin (shifted signed (sample 1 place)) ≡ y + one bin (shifted signed (sample 0 place)) + one bin (shifted signed (sample 1 place))
    omega_sum bin place same = ap (λ z. z + one bin (shifted signed (sample 0 place)) + one bin (shifted signed (sample 1 place))) same
