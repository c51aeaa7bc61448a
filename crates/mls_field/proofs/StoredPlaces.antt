-- Cells whose numbers were put into columns.
use Rattle.std.proofs.Common.{◌≡◌, ℕ, suc, ◌+◌, ◌-◌, ◌*◌, ◌<◌, ◌≤◌, List, [], ◌∷◌, ◌++◌, length, map, take, get_or, set, inl, inr, Ok, ap, ◌∙◌, refl, sym, subst, arith, get_or-set_same, get_or-set_other}
use Rattle.std.proofs.lemmas.Bool.{cases_lt, cases_order}
use Rattle.std.proofs.lemmas.List.{map-append}
use Rattle.mls_model.specs.Numbers.{below}
use Rattle.mls_model.specs.Studies.{Sizes, planes}
use Rattle.mls_model.specs.Blocks.{block, width}
use Rattle.mls_model.specs.CellSums.{CellSums}
use Rattle.std.specs.Prelude.{Result, Err, IsErrAnd}
use Rattle.mls_ckpt.specs.declared.faults.RecoverFault.{RecoverFault}
use Rattle.mls_ckpt.specs.declared.faults.RecoverFault.TheVariants.{Bad, Memory}
use Rattle.mls_ckpt.specs.Reading.{Cursor, Read, Refuses, many}
use Rattle.mls_ckpt.specs.States.{after_one}
use Rattle.mls_ckpt.specs.CellParts.{cell_at, plane_at, cells_at}
use Rattle.mls_field.specs.Answered.{before, AnswersWith}
use Rattle.mls_field.specs.Cells.{cell_of}
use Rattle.mls_field.specs.ColumnSums.{sums_size}
use Rattle.mls_field.specs.Kinds.{NumbersWithin}
use Rattle.mls_field.specs.OneCell.{SameFront}
use Rattle.mls_field.specs.PackedCells.{kept_cell, CellWithin, packed_cell, packed_plane, packed_cells, PackedWithin}
use Rattle.mls_field.specs.StoredCells.{Stored, SameCell}
use Rattle.mls_field.proofs.Grid.{plane_before}
use Rattle.mls_field.proofs.Walks.{apart_rows}
use Rattle.mls_field.proofs.OneRow.{get_or-beyond}
use Rattle.mls_field.proofs.WholeCells.{length-cell, entry-cell}
use Rattle.mls_field.proofs.Rows.{same_entries}
use Rattle.mls_field.proofs.Whole.{sums_front, firsts_same, seconds_same, thirds_same, fourths_same, front_taken, front_part}
use Rattle.mls_field.proofs.CellRules.{same_maps}
use Rattle.mls_field.proofs.ReadInOrder.{all_read, is_refused}

-- ---- one number more
pub stored_more : (row k places place n : ℕ) (old mid cell : List ℕ) → (row + k) * places + place < length mid → place < places → n ≡ get_or cell k 0 → Stored row k places place old mid cell → Stored row (k + 1) places place old (set mid ((row + k) * places + place) n) cell
stored_more row k places place n old mid cell fits inside is h =
    let at = (row + k) * places + place in
    record {
      there = λ c low. elim (cases_lt c k) [
        | inl before ↦ get_or-set_other mid at ((row + c) * places + place) n 0 (λ e. omega (arith, e, apart_rows (row + c) (row + k) places place place (omega (arith, before)) inside)) ∙ h.there c before
        | inr after ↦ (let e : k ≡ c = omega (arith, low, after) in subst (λ (m : ℕ). get_or (set mid at n) ((row + m) * places + place) 0 ≡ get_or cell m 0) e (get_or-set_same mid at n 0 fits ∙ is))
      ];
      rest = λ j apart. get_or-set_other mid at j n 0 (apart k (omega arith)) ∙ h.rest j (λ c low. apart c (omega (arith, low)));
    }

-- ---- the cell that was put, and the others
cell_there : (size places plane place : ℕ) (old new cell : List ℕ) → Stored (plane * size) size places place old new cell → SameFront size cell (cell_of size places new plane place)
cell_there size places plane place old new cell h = record { each = λ c low. sym (h.there c low) ∙ sym (entry-cell size places new plane place c low) }

-- two cells are apart
abbrev Apart : ℕ → ℕ → ℕ → ℕ → Type 0
Apart plane place other at = (plane ≡ other) → (place ≡ at) → ⊥

cell_apart : (size places plane place : ℕ) (old new cell : List ℕ) → place < places → Stored (plane * size) size places place old new cell → (other at : ℕ) → at < places → Apart plane place other at → cell_of size places old other at ≡ cell_of size places new other at
cell_apart size places plane place old new cell inside h other at at_in apart =
    same_entries (λ c. get_or old ((other * size + c) * places + at) 0) (λ c. get_or new ((other * size + c) * places + at) 0) size
    (λ c c_in. sym (h.rest ((other * size + c) * places + at) (λ d d_in e. elim (cases_order (other * size + c) (plane * size + d)) [
      | inl same ↦ different c d c_in d_in same (omega (arith, e, ap (λ m. m * places) same))
      | inr (inl low) ↦ omega (arith, e, apart_rows (other * size + c) (plane * size + d) places at place low at_in)
      | inr (inr high) ↦ omega (arith, e, apart_rows (plane * size + d) (other * size + c) places place at high inside)
    ])))
  where
    different : (c d : ℕ) → c < size → d < size → other * size + c ≡ plane * size + d → at ≡ place → ⊥
    different c d c_in d_in same e = elim (cases_order other plane) [
      | inl is ↦ apart (sym is) (sym e)
      | inr (inl low) ↦ omega (arith, same, c_in, plane_before other plane size low)
      | inr (inr high) ↦ omega (arith, same, d_in, plane_before plane other size high)
    ]

-- what was stored of a cell
pub record IsStored (s : Sizes) (places plane place : ℕ) (sums ends numbers sums' ends' numbers' one two three : List ℕ) : Type 0 where
  pub inside : place < places
  pub sums_put : Stored (plane * sums_size s.parameters) (sums_size s.parameters) places place sums sums' one
  pub ends_put : Stored (plane * 2) 2 places place ends ends' two
  pub numbers_put : Stored (plane * length s.thresholds) (length s.thresholds) places place numbers numbers' three
  pub sums_long : sums_size s.parameters ≤ length one
  pub numbers_long : length s.thresholds ≤ length three

module _ (s : Sizes) (places plane place : ℕ) (sums ends numbers sums' ends' numbers' one two three : List ℕ) (h : IsStored s places plane place sums ends numbers sums' ends' numbers' one two three) where
  pub other_cells : (other at : ℕ) → at < places → (plane ≡ other → place ≡ at → ⊥) → SameCell s places sums ends numbers sums' ends' numbers' other at
  other_cells other at at_in apart = record {
    sums_same = cell_apart (sums_size s.parameters) places plane place sums sums' one h.inside h.sums_put other at at_in apart;
    ends_same = cell_apart 2 places plane place ends ends' two h.inside h.ends_put other at at_in apart;
    numbers_same = cell_apart (length s.thresholds) places plane place numbers numbers' three h.inside h.numbers_put other at at_in apart;
  }

  pub cell_stored : (n : ℕ) → kept_cell s.parameters n one two (take (length s.thresholds) three) ≡ packed_cell s places sums' ends' numbers' n plane place
  cell_stored n =
      let p = s.parameters in
      let new = cell_of (sums_size p) places sums' plane place in
      let front = cell_there (sums_size p) places plane place sums sums' one h.sums_put in
      let e1 = firsts_same p one new front in
      let e2 = seconds_same p one new front in
      let e3 = thirds_same p one new front in
      let e4 = fourths_same p one new front in
      let e5 = (cell_there 2 places plane place ends ends' two h.ends_put).each 0 (omega arith) in
      let e6 = (cell_there 2 places plane place ends ends' two h.ends_put).each 1 (omega arith) in
      let e7 = front_taken (length s.thresholds) three (cell_of (length s.thresholds) places numbers' plane place) h.numbers_long (length-cell (length s.thresholds) places numbers' plane place) (cell_there (length s.thresholds) places plane place numbers numbers' three h.numbers_put) in
      let long = h.sums_long in
      let e8 = front_part (4 + 4 * p) one new (omega (arith, long)) (omega (arith, length-cell (sums_size p) places sums' plane place)) (λ i low. front.each i (omega (arith, low))) in
      λ i. record { rows = n; p1 = e1 i; p2 = e2 i; p3 = e3 i; p4 = e4 i; least = e5 i; greatest = e6 i; above = e7 i; products = e8 i }

  pub stored_within : (n : ℕ) → CellWithin s.parameters n one two three → PackedWithin s places sums' ends' numbers' n plane place
  stored_within n is =
      let t = length s.thresholds in
      let front = cell_there (sums_size s.parameters) places plane place sums sums' one h.sums_put in
      let e5 = (cell_there 2 places plane place ends ends' two h.ends_put).each 0 (omega arith) in
      let e6 = (cell_there 2 places plane place ends ends' two h.ends_put).each 1 (omega arith) in
      let above = cell_there t places plane place numbers numbers' three h.numbers_put in
      record {
        sums_in = sums_front s.parameters n (cell_of (sums_size s.parameters) places sums' plane place) one (record { each = λ c low. sym (front.each c low) }) is.sums_in;
        ends_in = record {
          rules = record {
            none_least = λ z. sym e5 ∙ is.ends_in.rules.none_least z;
            none_greatest = λ z. sym e6 ∙ is.ends_in.rules.none_greatest z;
            some = λ m. omega (arith, e5, e6, is.ends_in.rules.some m);
          };
          least_small = omega (arith, e5, is.ends_in.least_small);
          greatest_small = omega (arith, e6, is.ends_in.greatest_small);
        };
        numbers_in = front_numbers n t three (cell_of t places numbers' plane place) (length-cell t places numbers' plane place) above is.numbers_in;
      }
    where
      front_numbers : (n t : ℕ) (xs ys : List ℕ) → length ys ≡ t → SameFront t xs ys → NumbersWithin n xs → NumbersWithin n ys
      front_numbers n t xs ys long same is = record {
        few = λ i. elim (cases_lt i t) [
          | inl low ↦ omega (arith, same.each i low, is.few i)
          | inr high ↦ omega (arith, get_or-beyond ys i (omega (arith, high, long)))
        ];
        falling = λ i. elim (cases_lt (i + 1) t) [
          | inl low ↦ omega (arith, same.each i (omega (arith, low)), same.each (i + 1) low, is.falling i)
          | inr high ↦ omega (arith, get_or-beyond ys (i + 1) (omega (arith, high, long)))
        ];
      }

-- ---- the cells of a plane
pub same_within : (s : Sizes) (places : ℕ) (sums ends numbers sums' ends' numbers' : List ℕ) (n plane place : ℕ) → SameCell s places sums ends numbers sums' ends' numbers' plane place → PackedWithin s places sums ends numbers n plane place → PackedWithin s places sums' ends' numbers' n plane place
same_within s places sums ends numbers sums' ends' numbers' n plane place same is =
    subst (λ (xs : List ℕ). CellWithin s.parameters n xs (cell_of 2 places ends' plane place) (cell_of (length s.thresholds) places numbers' plane place)) same.sums_same
    (subst (λ (ys : List ℕ). CellWithin s.parameters n (cell_of (sums_size s.parameters) places sums plane place) ys (cell_of (length s.thresholds) places numbers' plane place)) same.ends_same
    (subst (λ (zs : List ℕ). CellWithin s.parameters n (cell_of (sums_size s.parameters) places sums plane place) (cell_of 2 places ends plane place) zs) same.numbers_same is))

same_packed : (s : Sizes) (places : ℕ) (sums ends numbers sums' ends' numbers' : List ℕ) (n plane place : ℕ) → SameCell s places sums ends numbers sums' ends' numbers' plane place → packed_cell s places sums ends numbers n plane place ≡ packed_cell s places sums' ends' numbers' n plane place
same_packed s places sums ends numbers sums' ends' numbers' n plane place same = λ i. kept_cell s.parameters n (same.sums_same i) (same.ends_same i) (same.numbers_same i)

pub plane_more : (s : Sizes) (places : ℕ) (sums ends numbers sums' ends' numbers' : List ℕ) (n plane place : ℕ) (cell : CellSums) → ((at : ℕ) → at < place → SameCell s places sums ends numbers sums' ends' numbers' plane at) → cell ≡ packed_cell s places sums' ends' numbers' n plane place → packed_plane s places sums ends numbers n plane place ++ cell ∷ [] ≡ packed_plane s places sums' ends' numbers' n plane (place + 1)
unfolding packed_plane
plane_more s places sums ends numbers sums' ends' numbers' n plane place cell same is =
    let old = packed_cell s places sums ends numbers n plane in
    let new = packed_cell s places sums' ends' numbers' n plane in
    let earlier : map old (below place) ≡ map new (below place) = same_maps old new place (λ at low. same_packed s places sums ends numbers sums' ends' numbers' n plane at (same at low)) in
    (λ i. earlier i ++ is i ∷ []) ∙ (sym (map-append new (below place) (place ∷ [])) ∙ ap (λ m. map new (below m)) (let e : suc place ≡ place + 1 = omega arith in e))

pub plane_same : (s : Sizes) (places : ℕ) (sums ends numbers sums' ends' numbers' : List ℕ) (n plane : ℕ) → ((at : ℕ) → at < places → SameCell s places sums ends numbers sums' ends' numbers' plane at) → packed_plane s places sums ends numbers n plane places ≡ packed_plane s places sums' ends' numbers' n plane places
unfolding packed_plane
plane_same s places sums ends numbers sums' ends' numbers' n plane same = same_maps (packed_cell s places sums ends numbers n plane) (packed_cell s places sums' ends' numbers' n plane) places (λ at low. same_packed s places sums ends numbers sums' ends' numbers' n plane at (same at low))

pub cells_more : (s : Sizes) (places : ℕ) (sums ends numbers sums' ends' numbers' counts : List ℕ) (plane : ℕ) → ((other at : ℕ) → other < plane → at < places → SameCell s places sums ends numbers sums' ends' numbers' other at) → packed_cells s places sums ends numbers counts plane ++ packed_plane s places sums' ends' numbers' (get_or counts plane 0) plane places ∷ [] ≡ packed_cells s places sums' ends' numbers' counts (plane + 1)
unfolding packed_cells
cells_more s places sums ends numbers sums' ends' numbers' counts plane same =
    let old : ℕ → List CellSums = λ p. packed_plane s places sums ends numbers (get_or counts p 0) p places in
    let new : ℕ → List CellSums = λ p. packed_plane s places sums' ends' numbers' (get_or counts p 0) p places in
    let earlier : map old (below plane) ≡ map new (below plane) = same_maps old new plane (λ p low. plane_same s places sums ends numbers sums' ends' numbers' (get_or counts p 0) p (λ at at_in. same p at low at_in)) in
    (λ i. earlier i ++ new plane ∷ []) ∙ (sym (map-append new (below plane) (plane ∷ [])) ∙ ap (λ m. map new (below m)) (let e : suc plane ≡ plane + 1 = omega arith in e))

pub no_cells : (s : Sizes) (places : ℕ) (sums ends numbers : List ℕ) (n plane : ℕ) → packed_plane s places sums ends numbers n plane 0 ≡ []
unfolding packed_plane
no_cells s places sums ends numbers n plane = refl

pub no_planes : (s : Sizes) (places : ℕ) (sums ends numbers counts : List ℕ) → packed_cells s places sums ends numbers counts 0 ≡ []
unfolding packed_cells
no_planes s places sums ends numbers counts = refl

pub same_trans : (s : Sizes) (places : ℕ) (a1 a2 a3 b1 b2 b3 c1 c2 c3 : List ℕ) (plane place : ℕ) → SameCell s places a1 a2 a3 b1 b2 b3 plane place → SameCell s places b1 b2 b3 c1 c2 c3 plane place → SameCell s places a1 a2 a3 c1 c2 c3 plane place
same_trans s places a1 a2 a3 b1 b2 b3 c1 c2 c3 plane place one two = record { sums_same = one.sums_same ∙ two.sums_same; ends_same = one.ends_same ∙ two.ends_same; numbers_same = one.numbers_same ∙ two.numbers_same }

pub plane_done : (s : Sizes) (rank places n plane k : ℕ) (sums ends numbers : List ℕ) (start c : Cursor) → width (block s rank) ≡ places → k ≡ places → before (packed_plane s places sums ends numbers n plane k) (many (λ i from. cell_at s n from) after_one (places - k) k c) ≡ many (λ i from. cell_at s n from) after_one places 0 start → plane_at s rank n start ≡ Ok (packed_plane s places sums ends numbers n plane places, c)
unfolding plane_at
plane_done s rank places n plane k sums ends numbers start c wide all e =
    ap (λ m. many (λ i from. cell_at s n from) after_one m 0 start) wide ∙
    (all_read (λ i from. cell_at s n from) after_one places k k (packed_plane s places sums ends numbers n plane k) c _ (omega (arith, all)) e ∙ ap (λ m. Ok (packed_plane s places sums ends numbers n plane m, c)) all)

pub cells_done : (s : Sizes) (rank places k : ℕ) (counts sums ends numbers : List ℕ) (start c : Cursor) → k ≡ planes s → before (packed_cells s places sums ends numbers counts k) (many (λ plane from. plane_at s rank (get_or counts plane 0) from) after_one (planes s - k) k c) ≡ many (λ plane from. plane_at s rank (get_or counts plane 0) from) after_one (planes s) 0 start → cells_at s rank counts start ≡ Ok (packed_cells s places sums ends numbers counts (planes s), c)
unfolding cells_at
cells_done s rank places k counts sums ends numbers start c all e =
    all_read (λ plane from. plane_at s rank (get_or counts plane 0) from) after_one (planes s) k k (packed_cells s places sums ends numbers counts k) c _ (omega (arith, all)) e ∙ ap (λ m. Ok (packed_cells s places sums ends numbers counts m, c)) all

-- a refusal of a cell is one of its plane, and a refusal of a plane is one of all planes
pub plane_refused : (s : Sizes) (rank places n k : ℕ) (xs : List CellSums) (start c : Cursor) (fault : RecoverFault) → width (block s rank) ≡ places → k < places → Refuses fault (cell_at s n c) → before xs (many (λ i from. cell_at s n from) after_one (places - k) k c) ≡ many (λ i from. cell_at s n from) after_one places 0 start → Refuses fault (plane_at s rank n start)
unfolding plane_at
plane_refused s rank places n k xs start c (Bad at why) wide less is e =
    ap (λ m. many (λ i from. cell_at s n from) after_one m 0 start) wide ∙ is_refused (λ i from. cell_at s n from) after_one places k k xs c _ _ less is e
plane_refused s rank places n k xs start c Memory wide less is e = tt

pub cells_refused : (s : Sizes) (rank k : ℕ) (counts : List ℕ) (xs : List (List CellSums)) (start c : Cursor) (fault : RecoverFault) → k < planes s → Refuses fault (plane_at s rank (get_or counts k 0) c) → before xs (many (λ plane from. plane_at s rank (get_or counts plane 0) from) after_one (planes s - k) k c) ≡ many (λ plane from. plane_at s rank (get_or counts plane 0) from) after_one (planes s) 0 start → Refuses fault (cells_at s rank counts start)
unfolding cells_at
cells_refused s rank k counts xs start c (Bad at why) less is e = is_refused (λ plane from. plane_at s rank (get_or counts plane 0) from) after_one (planes s) k k xs c _ _ less is e
cells_refused s rank k counts xs start c Memory less is e = tt

pub answers_fault : {B : Type 0} (value : B) (new : Cursor) (answer : Result (Unit {0}) RecoverFault) (fault : RecoverFault) (read : Read (B × Cursor)) → IsErrAnd answer (λ made. made ≡ fault) → Refuses fault read → AnswersWith value new answer read
answers_fault value new (Ok done) fault read e is = absurd e
answers_fault value new (Err made) fault read e is = subst (λ (f : RecoverFault). Refuses f read) (sym e) is
