-- A part that was read, and the histograms that it makes.
use Rattle.std.proofs.Common.{◌≡◌, ℕ, ◌+◌, ◌*◌, ◌<◌, ◌≤◌, List, ◌++◌, length, map, get_or, Ok, Err, ap, ◌∙◌, refl, sym, arith}
use Rattle.std.specs.Prelude.{sum, Result, OnOk}
use Rattle.std.specs.Int.{w32}
use Rattle.mls_model.specs.Numbers.{below}
use Rattle.mls_model.specs.Studies.{Sizes, planes}
use Rattle.mls_model.specs.Blocks.{block, width}
use Rattle.mls_ckpt.specs.declared.faults.CkptWhy.TheVariants as why
use Rattle.mls_ckpt.specs.declared.faults.RecoverFault.{RecoverFault}
use Rattle.mls_ckpt.specs.Reading.{Cursor, AreBytes, fixed_at, text}
use Rattle.mls_field.specs.Answered.{AnswersWith}
use Rattle.mls_field.proofs.CellRules.{same_maps}
use Rattle.mls_field.proofs.Rows.{same_entries}
use Rattle.mls_field.proofs.Zeros.{AreZeros}
use Rattle.mls_hist.specs.HistPart.{mark, hist_text, cells_at}
use Rattle.mls_hist.specs.Histograms.{cell_start, count_at, counts_at, IsHist}
use Rattle.mls_hist.specs.Packed.{counts_from, packed_plane, packed_cells}
use Rattle.mls_hist.specs.declared.hist.Hist.{Hist}
use Rattle.mls_hist.specs.Stands.{bin_counts}
use Rattle.mls_hist.specs.Spelled.{cells_of_plane, cells_of_hist, part_of_hist}
use Rattle.mls_hist.proofs.PartLaws.{mark_taken, cells_taken, hist_text-front}
use Rattle.mls_hist.proofs.Fresh.{none_waits}
use Rattle.mls_hist.proofs.Counting.{counts_opened}

-- where no rows wait, the counts are the packed ones
from_opened : (bins : List ℕ) (start : ℕ) → counts_from bins start ≡ map (λ bin. get_or bins (start + bin) 0) (below 64)
unfolding counts_from
from_opened bins start = refl

pub counts_packed : (places : ℕ) (waiting bins samples : List ℕ) (plane place : ℕ) → get_or waiting plane 0 ≡ 0 → counts_at places waiting bins samples plane place ≡ counts_from bins (cell_start places plane place)
counts_packed places waiting bins samples plane place none =
    counts_opened places waiting bins samples plane place ∙ (same_entries (count_at places waiting bins samples plane place) (λ bin. get_or bins (cell_start places plane place + bin) 0) 64 (λ bin low. none_waits places waiting bins samples plane place bin none) ∙ sym (from_opened bins (cell_start places plane place)))

pub hist_taken : (s : Sizes) (rank places : ℕ) (counts waiting bins samples : List ℕ) → rank < s.ranks → places ≡ width (block s rank) → length counts ≡ planes s → ((plane : ℕ) → get_or counts plane 0 ≤ 65535) → AreZeros (planes s) waiting → length bins ≡ planes s * places * 64 → AreZeros (planes s * (16 * places)) samples
    → ((plane place : ℕ) → plane < planes s → place < places → sum (counts_from bins (cell_start places plane place)) ≡ 2 * get_or counts plane 0) → IsHist s rank places counts waiting bins samples
hist_taken s rank places counts waiting bins samples rank_in wide each few v long z whole = record {
  rank_in = rank_in;
  block_width = wide;
  each_plane = each;
  each_waits = v.long;
  few = few;
  few_wait = λ plane. omega (arith, v.each plane);
  long = long;
  room = z.long;
  small = λ i. omega (arith, z.each i);
  whole = λ plane place p_in inside. ap sum (counts_packed places waiting bins samples plane place (v.each plane)) ∙ whole plane place p_in inside;
}

plane_packed : (h : Hist) → ((plane : ℕ) → get_or h.waiting.items plane 0 ≡ 0) → (plane : ℕ) → packed_plane h.places h.bins.items plane h.places ≡ cells_of_plane h plane
unfolding packed_plane cells_of_plane
plane_packed h none plane = same_maps (λ place. counts_from h.bins.items (cell_start h.places plane place)) (bin_counts h plane) h.places (λ place _. sym (counts_packed h.places h.waiting.items h.bins.items h.samples.items plane place (none plane))) ∙ ap (λ w. map (bin_counts h plane) (below w)) h.kept.block_width

cells_packed : (h : Hist) → ((plane : ℕ) → get_or h.waiting.items plane 0 ≡ 0) → packed_cells h.places h.bins.items (planes h.shape) ≡ cells_of_hist h
unfolding packed_cells cells_of_hist
cells_packed h none = same_maps (λ plane. packed_plane h.places h.bins.items plane h.places) (cells_of_plane h) (planes h.shape) (λ plane _. plane_packed h none plane)

-- the bytes that were read are the part of the histograms that they made
pub taken_part : (h : Hist) (bins : List ℕ) (old new : List ℕ) → ((plane : ℕ) → get_or h.waiting.items plane 0 ≡ 0) → bins ≡ h.bins.items → old ≡ hist_text (packed_cells h.places bins (planes h.shape)) new → old ≡ part_of_hist h ++ new
unfolding part_of_hist
taken_part h bins old new none same e =
    e ∙ (ap (λ (xs : List ℕ). hist_text (packed_cells h.places xs (planes h.shape)) new) same ∙ (ap (λ (cells : List (List (List ℕ))). hist_text cells new) (cells_packed h none) ∙ hist_text-front (cells_of_hist h) new))

pub part_spelled : (s : Sizes) (rank : ℕ) (marks : List ℕ) (old mid new : Cursor) (cells : List (List (List ℕ))) (answer : Result (Unit {0}) RecoverFault) → AreBytes old.left → fixed_at why.Range w32 mark old ≡ Ok mid → AnswersWith cells new answer (cells_at s rank marks mid) → OnOk answer (old.left ≡ hist_text cells new.left)
unfolding hist_text
part_spelled s rank marks old mid new cells (Ok done) bytes begun read =
    let first = mark_taken old mid bytes begun in
    first.stands ∙ ap (text w32 mark) (cells_taken s rank marks mid (cells, new) first.bytes read).stands
part_spelled s rank marks old mid new cells (Err fault) bytes begun read = tt
