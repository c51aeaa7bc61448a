-- A field whose sums were read.
use Rattle.std.proofs.Common.{◌≡◌, ℕ, ◌+◌, ◌*◌, ◌<◌, ◌≤◌, List, [], ◌++◌, length, map, get_or, replicate, ap, ◌∙◌, refl, sym, subst, arith}
use Rattle.std.proofs.lemmas.List.{length-replicate}
use Rattle.std.specs.Prelude.{Ok}
use Rattle.mls_ckpt.specs.declared.faults.RecoverFault.{RecoverFault}
use Rattle.mls_ckpt.specs.declared.faults.RecoverFault.TheVariants.{Bad, Memory}
use Rattle.mls_model.specs.Numbers.{below}
use Rattle.mls_model.specs.Studies.{Sizes, planes}
use Rattle.mls_model.specs.Blocks.{block, width}
use Rattle.mls_model.specs.CellSums.{CellSums}
use Rattle.mls_ckpt.specs.Reading.{Cursor, AreBytes, Refuses}
use Rattle.mls_ckpt.specs.CellParts.{cells_text, cells_at, part_at}
use Rattle.mls_field.specs.declared.field.Field.{Field}
use Rattle.mls_field.specs.Cells.{cell_of, whole_cell}
use Rattle.mls_field.specs.ColumnSums.{sums_size, sums_step}
use Rattle.mls_field.specs.OutputSteps.{ends_step, numbers_step}
use Rattle.mls_field.specs.Fields.{IsField, added_of}
use Rattle.mls_field.specs.Gathered.{waiting_row}
use Rattle.mls_field.specs.Kept.{sums_at, sums_in_cell, ends_in_cell, numbers_in_cell}
use Rattle.mls_field.specs.Kinds.{SumsWithin, ExtremaWithin, NumbersWithin}
use Rattle.mls_field.specs.PackedCells.{kept_cell, packed_cell, packed_plane, packed_cells, PackedWithin}
use Rattle.mls_field.specs.Spelled.{cells_of_plane, cells_of_field, part_of_field}
use Rattle.mls_field.proofs.WholeCells.{rows_none}
use Rattle.mls_field.proofs.Zeros.{AreZeros}
use Rattle.mls_field.proofs.CellRules.{same_maps}
use Rattle.mls_ckpt.proofs.CellLaws.{cells_taken, cells_text-front}

pub field_taken : (s : Sizes) (rank w : ℕ) (counts waiting sums ends numbers samples : List ℕ) → rank < s.ranks → w ≡ width (block s rank) → length counts ≡ planes s → ((plane : ℕ) → get_or counts plane 0 ≤ 65535) → AreZeros (planes s) waiting → AreZeros (planes s * (8 * ((s.parameters + 2) * w))) samples
    → length sums ≡ planes s * sums_size s.parameters * w → length ends ≡ planes s * 2 * w → length numbers ≡ planes s * length s.thresholds * w
    → ((plane place : ℕ) → plane < planes s → place < w → PackedWithin s w sums ends numbers (get_or counts plane 0) plane place) → IsField s rank w counts waiting sums ends numbers samples
field_taken s rank w counts waiting sums ends numbers samples rank_in wide each few v z l1 l2 l3 within =
    let same : (plane : ℕ) → get_or counts plane 0 ≡ added_of counts waiting plane = λ plane. omega (arith, v.each plane) in
    record {
      rank_in = rank_in;
      block_width = wide;
      each_plane = each;
      each_waits = v.long;
      few = few;
      few_wait = λ plane. omega (arith, v.each plane);
      given = λ plane. omega (arith, v.each plane);
      room = z.long;
      small = λ i. omega (arith, z.each i);
      sums_in = record { long = l1; range = λ plane place p_in inside. subst (λ (m : ℕ). SumsWithin s.parameters m (cell_of (sums_size s.parameters) w sums plane place)) (same plane) (within plane place p_in inside).sums_in };
      extrema_in = record { long = l2; range = λ plane place p_in inside. subst (λ (m : ℕ). ExtremaWithin m (cell_of 2 w ends plane place)) (same plane) (within plane place p_in inside).ends_in };
      numbers_in = record { long = l3; range = λ plane place p_in inside. subst (λ (m : ℕ). NumbersWithin m (cell_of (length s.thresholds) w numbers plane place)) (same plane) (within plane place p_in inside).numbers_in };
    }

-- where no rows wait, the sums are the packed ones
none_whole : (step : ℕ → List ℕ → ℕ → ℕ) (size w : ℕ) (numbers : List ℕ) (q : ℕ) (samples : List ℕ) (waits plane place : ℕ) → waits ≡ 0 → whole_cell step size w numbers q samples waits plane place ≡ cell_of size w numbers plane place
none_whole step size w numbers q samples waits plane place none = ap (λ g. whole_cell step size w numbers q samples g plane place) none ∙ rows_none step (waiting_row q w samples plane place) (cell_of size w numbers plane place)

cell_packed : (f : Field) → ((plane : ℕ) → get_or f.waiting.items plane 0 ≡ 0) → (plane place : ℕ) → packed_cell f.shape f.places f.sums.items f.ends.items f.numbers.items (get_or f.counts.items plane 0) plane place ≡ sums_at f plane place
cell_packed f none plane place =
    let s = f.shape in
    let e1 : cell_of (sums_size s.parameters) f.places f.sums.items plane place ≡ sums_in_cell f plane place = sym (none_whole (sums_step s.parameters) (sums_size s.parameters) f.places f.sums.items (s.parameters + 2) f.samples.items _ plane place (none plane)) in
    let e2 : cell_of 2 f.places f.ends.items plane place ≡ ends_in_cell f plane place = sym (none_whole ends_step 2 f.places f.ends.items (s.parameters + 2) f.samples.items _ plane place (none plane)) in
    let e3 : cell_of (length s.thresholds) f.places f.numbers.items plane place ≡ numbers_in_cell f plane place = sym (none_whole (numbers_step s.thresholds) (length s.thresholds) f.places f.numbers.items (s.parameters + 2) f.samples.items _ plane place (none plane)) in
    λ i. kept_cell s.parameters (get_or f.counts.items plane 0) (e1 i) (e2 i) (e3 i)

plane_packed : (f : Field) → ((plane : ℕ) → get_or f.waiting.items plane 0 ≡ 0) → (plane : ℕ) → packed_plane f.shape f.places f.sums.items f.ends.items f.numbers.items (get_or f.counts.items plane 0) plane f.places ≡ cells_of_plane f plane
unfolding packed_plane cells_of_plane
plane_packed f none plane = same_maps (packed_cell f.shape f.places f.sums.items f.ends.items f.numbers.items (get_or f.counts.items plane 0) plane) (sums_at f plane) f.places (λ place _. cell_packed f none plane place) ∙ ap (λ w. map (sums_at f plane) (below w)) f.kept.block_width

pub cells_packed : (f : Field) → ((plane : ℕ) → get_or f.waiting.items plane 0 ≡ 0) → packed_cells f.shape f.places f.sums.items f.ends.items f.numbers.items f.counts.items (planes f.shape) ≡ cells_of_field f
unfolding packed_cells cells_of_field
cells_packed f none = same_maps (λ plane. packed_plane f.shape f.places f.sums.items f.ends.items f.numbers.items (get_or f.counts.items plane 0) plane f.places) (cells_of_plane f) (planes f.shape) (λ plane _. plane_packed f none plane)

pub part_packed : (f : Field) → ((plane : ℕ) → get_or f.waiting.items plane 0 ≡ 0) → cells_text (packed_cells f.shape f.places f.sums.items f.ends.items f.numbers.items f.counts.items (planes f.shape)) [] ≡ part_of_field f
unfolding part_of_field
part_packed f none = ap (λ (cells : List (List CellSums)). cells_text cells []) (cells_packed f none)

pub part_read : (s : Sizes) (rank : ℕ) (marks : List ℕ) (c : Cursor) (cells : List (List CellSums)) (new : Cursor) → cells_at s rank marks c ≡ Ok (cells, new) → part_at s rank marks c ≡ Ok new
unfolding part_at
part_read s rank marks c cells new e = rw e refl

pub part_refused : (s : Sizes) (rank : ℕ) (marks : List ℕ) (c : Cursor) (fault : RecoverFault) → Refuses fault (cells_at s rank marks c) → Refuses fault (part_at s rank marks c)
unfolding part_at
part_refused s rank marks c (Bad at why) e = rw e refl
part_refused s rank marks c Memory e = tt

pub long_of : (items held : List ℕ) (n m : ℕ) → held ≡ items → items ≡ replicate n 0 → n ≡ m → length held ≡ m
long_of items held n m same is e = ap length (same ∙ is) ∙ (length-replicate n 0 ∙ e)

pub taken_part : (f : Field) (sums ends numbers counts : List ℕ) (old new : Cursor) → ((plane : ℕ) → get_or f.waiting.items plane 0 ≡ 0) → sums ≡ f.sums.items → ends ≡ f.ends.items → numbers ≡ f.numbers.items → counts ≡ f.counts.items → AreBytes old.left → cells_at f.shape f.rank counts old ≡ Ok (packed_cells f.shape f.places sums ends numbers counts (planes f.shape), new) → old.left ≡ part_of_field f ++ new.left
taken_part f sums ends numbers counts old new none e1 e2 e3 e4 bytes read =
    let cells = packed_cells f.shape f.places sums ends numbers counts (planes f.shape) in
    let same : cells ≡ packed_cells f.shape f.places f.sums.items f.ends.items f.numbers.items f.counts.items (planes f.shape) = λ i. packed_cells f.shape f.places (e1 i) (e2 i) (e3 i) (e4 i) (planes f.shape) in
    (cells_taken f.shape f.rank counts old (cells, new) bytes read).stands ∙ (cells_text-front cells new.left ∙
    ap (λ bytes. bytes ++ new.left) (ap (λ (cs : List (List CellSums)). cells_text cs []) same ∙ part_packed f none))

pub within_spliced : (s : Sizes) (w : ℕ) (a1 a2 a3 b1 b2 b3 : List ℕ) (n m plane place : ℕ) → a1 ≡ b1 → a2 ≡ b2 → a3 ≡ b3 → n ≡ m → PackedWithin s w a1 a2 a3 n plane place → PackedWithin s w b1 b2 b3 m plane place
within_spliced s w a1 a2 a3 b1 b2 b3 n m plane place e f g i h =
    subst (λ (k : ℕ). PackedWithin s w b1 b2 b3 k plane place) i
    (subst (λ (xs : List ℕ). PackedWithin s w xs b2 b3 n plane place) e (subst (λ (xs : List ℕ). PackedWithin s w a1 xs b3 n plane place) f (subst (λ (xs : List ℕ). PackedWithin s w a1 a2 xs n plane place) g h)))
