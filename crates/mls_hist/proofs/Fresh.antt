-- The counts of no rows.
use Rattle.std.proofs.Common.{◌≡◌, ℕ, ◌+◌, ◌*◌, ◌<◌, ◌≤◌, List, length, get_or, ap, ◌∙◌, sym, arith}
use Rattle.std.specs.Prelude.{sum}
use Rattle.mls_model.specs.Studies.{Sizes, planes}
use Rattle.mls_model.specs.Blocks.{block, width}
use Rattle.mls_model.specs.Standing.{empty_table}
use Rattle.mls_field.proofs.Zeros.{AreZeros}
use Rattle.mls_hist.specs.Bins.{count_in}
use Rattle.mls_hist.specs.Waiting.{column, plane_start}
use Rattle.mls_hist.specs.Histograms.{cell_start, count_at, IsHist, HoldsTable}
use Rattle.mls_hist.proofs.Columns.{column-none, count-none}
use Rattle.mls_hist.proofs.Counting.{total-zero, counts_opened}
use Rattle.mls_hist.proofs.RowsAdded.{count_opened}

-- where no rows wait, a bin holds what was added
pub none_waits : (places : ℕ) (waiting bins samples : List ℕ) (plane place bin : ℕ) → get_or waiting plane 0 ≡ 0 → count_at places waiting bins samples plane place bin ≡ get_or bins (cell_start places plane place + bin) 0
none_waits places waiting bins samples plane place bin none =
    let held : count_in bin (column places samples (plane_start places plane + place) (2 * get_or waiting plane 0)) ≡ 0 =
    ap (λ m. count_in bin (column places samples (plane_start places plane + place) (2 * m))) none ∙ (ap (count_in bin) (column-none places samples (plane_start places plane + place)) ∙ count-none bin) in
    count_opened places waiting bins samples plane place bin ∙ omega (arith, held)

count_zero : (places : ℕ) (waiting bins samples : List ℕ) (plane place bin : ℕ) → ((plane : ℕ) → get_or waiting plane 0 ≡ 0) → ((i : ℕ) → get_or bins i 0 ≡ 0) → count_at places waiting bins samples plane place bin ≡ 0
count_zero places waiting bins samples plane place bin none zero = none_waits places waiting bins samples plane place bin (none plane) ∙ zero (cell_start places plane place + bin)

pub hist_fresh : (s : Sizes) (rank places : ℕ) (counts waiting bins samples : List ℕ) → rank < s.ranks → places ≡ width (block s rank) → AreZeros (planes s) counts → AreZeros (planes s) waiting → AreZeros (planes s * places * 64) bins → length samples ≡ planes s * (16 * places) → ((i : ℕ) → get_or samples i 0 ≤ 65535) → IsHist s rank places counts waiting bins samples
hist_fresh s rank places counts waiting bins samples rank_in wide c v z long small = record {
  rank_in = rank_in;
  block_width = wide;
  each_plane = c.long;
  each_waits = v.long;
  few = λ plane. omega (arith, c.each plane);
  few_wait = λ plane. omega (arith, v.each plane);
  long = z.long;
  room = long;
  small = small;
  whole = λ plane place p_in inside.
      ap sum (counts_opened places waiting bins samples plane place) ∙ (total-zero (count_at places waiting bins samples plane place) 64 (λ bin low. count_zero places waiting bins samples plane place bin v.each z.each) ∙ omega (arith, c.each plane));
}

pub table_fresh : (s : Sizes) (places : ℕ) (counts waiting bins samples : List ℕ) → AreZeros (planes s) counts → AreZeros (planes s) waiting → AreZeros (planes s * places * 64) bins → HoldsTable s places counts waiting bins samples empty_table
table_fresh s places counts waiting bins samples c v z = record {
  counted = λ plane place _ _. sym (c.each plane);
  each = λ plane place bin _ _ _. count_zero places waiting bins samples plane place bin v.each z.each ∙ sym (count-none bin);
}
