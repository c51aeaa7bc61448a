-- The counts of cells are read again, and what is read is valid and spelled.
use Rattle.std.proofs.Common.{◌≡◌, ℕ, ◌+◌, ◌-◌, ◌*◌, ◌<◌, ◌≤◌, ◌==◌, List, [], ◌∷◌, ◌++◌, slice_index, Ok, append_assoc, refl, sym, ap, subst, ◌∙◌, arith}
use Rattle.std.proofs.lemmas.List.Sums.{sum_by-cons}
use Rattle.std.specs.Prelude.{⊤, sum}
use Rattle.std.specs.Int.{w32}
use Rattle.mls_model.specs.Studies.{Sizes, planes}
use Rattle.mls_model.specs.Blocks.{block, width}
use Rattle.mls_ckpt.specs.declared.faults.CkptWhy.TheVariants as why
use Rattle.mls_ckpt.specs.Reading.{Cursor, rule, test, number_at, fixed_at, many, text, texts, AllFrom, AreBytes}
use Rattle.mls_ckpt.specs.States.{after_one}
use Rattle.mls_ckpt.specs.Checkpoints.{room_after}
use Rattle.mls_ckpt.specs.Laws.{IsReadPart, IsPartIn, ReadsParts}
use Rattle.mls_ckpt.proofs.Numbers.{Taken, IsRead, same_ok, number_again, number_taken}
use Rattle.mls_ckpt.proofs.Steps.{both, passed, many_again, many_taken, texts-front, text-front, row-front, row_again, row_taken}
use Rattle.mls_ckpt.proofs.Passing.{same_of, of_same}
use Rattle.mls_hist.specs.HistPart.{mark, counts_text, hist_text, counts_at, plane_at, cells_at, part_at, IsCounts, IsPlane, AreCells, IsHistPart}

-- ---- the counts of a cell
counts_fit : (values : List ℕ) (room : ℕ) → room < 4294967296 → sum values ≤ room → AllFrom (λ m number. IsRead w32 m number) room_after room values
counts_fit [] room few all = tt
counts_fit (x ∷ values) room few all =
    let more : sum (x ∷ values) ≡ x + sum values = sum_by-cons (λ y. y) x values in
    (record { fits = omega (arith, more, all, few); few = omega (arith, more, all) }, counts_fit values (room - x) (omega (arith, few)) (omega (arith, more, all)))

pub counts_again : (n : ℕ) (counts : List ℕ) → n ≤ 65535 → IsCounts n counts → (at : ℕ) (rest : List ℕ) → (place : ℕ) × (counts_at n (record { at = at; left = counts_text counts rest }) ≡ Ok (counts, record { at = place; left = rest }))
unfolding counts_at counts_text
counts_again n counts few valid at rest =
    let row = row_again w32 (λ m. m) room_after counts (2 * n) (counts_fit counts (2 * n) (omega (arith, few)) (omega (arith, valid.whole))) at rest in
    let read : many (number_at w32) room_after 64 (2 * n) (record { at = at; left = texts (text w32) counts rest }) ≡ Ok (counts, record { at = row.0; left = rest }) =
    ap (λ k. many (number_at w32) room_after k (2 * n) (record { at = at; left = texts (text w32) counts rest })) (sym valid.size) ∙ row.1 in
    (row.0, rw (read, of_same (sum counts) (2 * n) valid.whole) refl)

pub counts_taken : (n : ℕ) (c : Cursor) (r : List ℕ × Cursor) → AreBytes c.left → counts_at n c ≡ Ok r → Taken (IsCounts n r.0) (counts_text r.0) c r.1
unfolding counts_at counts_text
counts_taken n c r bytes e =
    let a = both (many (number_at w32) room_after 64 (2 * n) c) _ r e in
    let row = row_taken w32 (λ m. m) room_after 64 (2 * n) c a.0 bytes a.1 in
    let t = both (rule (sum a.0.0 == 2 * n) (c.at + 4 * 63)) _ r a.2 in
    subst (λ (p : List ℕ × Cursor). Taken (IsCounts n p.0) (texts (text w32) p.0) c p.1) (same_ok _ r t.2)
    (record { valid = record { size = row.valid.0; whole = same_of _ _ (passed _ _ _ t.0 t.1) }; stands = row.stands; bytes = row.bytes })

-- ---- a plane's cells, and all cells
plane_again : (s : Sizes) (rank n : ℕ) (cells : List (List ℕ)) → n ≤ 65535 → IsPlane s rank n cells → (at : ℕ) (rest : List ℕ) → (place : ℕ) × (plane_at s rank n (record { at = at; left = texts counts_text cells rest }) ≡ Ok (cells, record { at = place; left = rest }))
unfolding plane_at
plane_again s rank n cells few valid at rest =
    let all = many_again counts_text (λ i counts. IsCounts n counts) (λ i from. counts_at n from) after_one (λ i counts is. counts_again n counts few is) cells 0 valid.each at rest in
    (all.0, rw (sym valid.size) all.1)

plane_taken : (s : Sizes) (rank n : ℕ) (c : Cursor) (r : List (List ℕ) × Cursor) → AreBytes c.left → plane_at s rank n c ≡ Ok r → Taken (IsPlane s rank n r.0) (texts counts_text r.0) c r.1
unfolding plane_at
plane_taken s rank n c r bytes e =
    let all = many_taken counts_text (λ i counts. IsCounts n counts) (λ i from. counts_at n from) after_one (λ i c r bytes e. counts_taken n c r bytes e) (width (block s rank)) 0 c r bytes e in
    record { valid = record { size = all.valid.0; each = all.valid.1 }; stands = all.stands; bytes = all.bytes }

pub cells_again : (s : Sizes) (rank : ℕ) (marks : List ℕ) (cells : List (List (List ℕ))) → ((i : ℕ) → slice_index marks i ≤ 65535) → AreCells s rank marks cells → (at : ℕ) (rest : List ℕ) → (place : ℕ) × (cells_at s rank marks (record { at = at; left = texts (texts counts_text) cells rest }) ≡ Ok (cells, record { at = place; left = rest }))
unfolding cells_at
cells_again s rank marks cells few valid at rest =
    let all = many_again (texts counts_text) (λ plane row. IsPlane s rank (slice_index marks plane) row) (λ plane from. plane_at s rank (slice_index marks plane) from) after_one (λ plane row is. plane_again s rank (slice_index marks plane) row (few plane) is) cells 0 valid.each at rest in
    (all.0, rw (sym valid.size) all.1)

pub cells_taken : (s : Sizes) (rank : ℕ) (marks : List ℕ) (c : Cursor) (r : List (List (List ℕ)) × Cursor) → AreBytes c.left → cells_at s rank marks c ≡ Ok r → Taken (AreCells s rank marks r.0) (texts (texts counts_text) r.0) c r.1
unfolding cells_at
cells_taken s rank marks c r bytes e =
    let all = many_taken (texts counts_text) (λ plane row. IsPlane s rank (slice_index marks plane) row) (λ plane from. plane_at s rank (slice_index marks plane) from) after_one (λ plane c r bytes e. plane_taken s rank (slice_index marks plane) c r bytes e) (planes s) 0 c r bytes e in
    record { valid = record { size = all.valid.0; each = all.valid.1 }; stands = all.stands; bytes = all.bytes }

-- valid cells with one text are the same
pub cells_same : (s : Sizes) (rank : ℕ) (marks : List ℕ) (xs ys : List (List (List ℕ))) → ((i : ℕ) → slice_index marks i ≤ 65535) → AreCells s rank marks xs → AreCells s rank marks ys → hist_text xs [] ≡ hist_text ys [] → xs ≡ ys
unfolding hist_text
cells_same s rank marks xs ys few xs_valid ys_valid same =
    let mark_x = number_again w32 4294967295 mark 0 (texts (texts counts_text) xs []) (omega arith) (omega arith) in
    let mark_y = number_again w32 4294967295 mark 0 (texts (texts counts_text) ys []) (omega arith) (omega arith) in
    let marked = same_ok _ _ (sym mark_x ∙ (ap (λ (left : List ℕ). number_at w32 4294967295 (record { at = 0; left = left })) same ∙ mark_y)) in
    let tails : texts (texts counts_text) xs [] ≡ texts (texts counts_text) ys [] = ap (λ (r : ℕ × Cursor). r.1.left) marked in
    let first = cells_again s rank marks xs few xs_valid 0 [] in
    let second = cells_again s rank marks ys few ys_valid 0 [] in
    let read = same_ok _ _ (sym first.1 ∙ (ap (λ (left : List ℕ). cells_at s rank marks (record { at = 0; left = left })) tails ∙ second.1)) in
    ap (λ (r : List (List (List ℕ)) × Cursor). r.0) read

-- the text is that of no more before what follows
counts_text-front : (counts : List ℕ) (rest : List ℕ) → counts_text counts rest ≡ counts_text counts [] ++ rest
unfolding counts_text
counts_text-front counts rest = row-front w32 counts rest

pub hist_text-front : (cells : List (List (List ℕ))) (rest : List ℕ) → hist_text cells rest ≡ hist_text cells [] ++ rest
unfolding hist_text
hist_text-front cells rest =
    let body = texts (texts counts_text) cells [] in
    let tail : texts (texts counts_text) cells rest ≡ body ++ rest = texts-front (texts counts_text) (λ row rest. texts-front counts_text counts_text-front row rest) cells rest in
    ap (text w32 mark) tail ∙ (text-front w32 mark (body ++ rest) ∙ (sym (append_assoc (text w32 mark []) body rest) ∙ ap (λ r. r ++ rest) (sym (text-front w32 mark body))))

-- ---- the part
pub mark_again : (at : ℕ) (rest : List ℕ) → fixed_at why.Range w32 mark (record { at = at; left = text w32 mark rest }) ≡ Ok (record { at = at + 4; left = rest })
unfolding fixed_at
mark_again at rest = rw (number_again w32 4294967295 mark at rest (omega arith) (omega arith)) refl

pub mark_taken : (c new : Cursor) → AreBytes c.left → fixed_at why.Range w32 mark c ≡ Ok new → Taken (⊤) (text w32 mark) c new
unfolding fixed_at
mark_taken c new bytes e =
    let a = both (number_at w32 4294967295 c) _ new e in
    let number = number_taken w32 4294967295 c a.0 bytes a.1 in
    let t = both (test (a.0.0 == mark) c.at why.Range) _ new a.2 in
    let is : a.0.0 ≡ mark = same_of _ _ (passed _ _ _ t.0 t.1) in
    subst (λ (d : Cursor). Taken (⊤) (text w32 mark) c d) (same_ok _ new t.2)
    (record { valid = tt; stands = number.stands ∙ ap (λ m. text w32 m a.0.1.left) is; bytes = number.bytes })

pub hist_read_again : (s : Sizes) (rank : ℕ) (marks bytes : List ℕ) → ((i : ℕ) → slice_index marks i ≤ 65535) → IsHistPart s rank marks bytes → IsReadPart part_at s rank marks bytes
unfolding part_at hist_text
hist_read_again s rank marks bytes few valid at rest =
    let read = cells_again s rank marks valid.cells few valid.valid (at + 4) rest in
    let whole : text w32 mark (texts (texts counts_text) valid.cells rest) ≡ bytes ++ rest = hist_text-front valid.cells rest ∙ ap (λ b. b ++ rest) (sym valid.spelled) in
    (read.0, rw (sym whole, mark_again at (texts (texts counts_text) valid.cells rest), read.1) refl)

pub hist_is_spelled : (s : Sizes) (rank : ℕ) (marks : List ℕ) (old new : Cursor) → AreBytes old.left → part_at s rank marks old ≡ Ok new → IsPartIn (IsHistPart s rank marks) old new
unfolding part_at hist_text
hist_is_spelled s rank marks old new bytes e =
    let b = both (fixed_at why.Range w32 mark old) _ new e in
    let begun = mark_taken old b.0 bytes b.1 in
    let read = both (cells_at s rank marks b.0) _ new b.2 in
    let cells = cells_taken s rank marks b.0 read.0 begun.bytes read.1 in
    subst (λ (c : Cursor). IsPartIn (IsHistPart s rank marks) old c) (same_ok _ new read.2)
    (record { bytes = hist_text read.0.0 []; stands = begun.stands ∙ (ap (text w32 mark) cells.stands ∙ hist_text-front read.0.0 read.0.1.left); valid = record { cells = read.0.0; valid = cells.valid; spelled = refl } })

pub hist_are_parts : ReadsParts part_at
hist_are_parts s rank marks old new sizes few bytes e =
    let part = hist_is_spelled s rank marks old new bytes e in
    let groups = sizes.groups in
    record { bytes = part.bytes; stands = part.stands; valid = hist_read_again s rank marks part.bytes (λ i. omega (arith, few i, groups)) part.valid }
