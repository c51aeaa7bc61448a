-- The samples of a piece.
use Rattle.std.proofs.Common.{◌≡◌, ℕ, zero, suc, ◌+◌, ◌-◌, ◌*◌, ◌≤◌, List, [], ◌∷◌, ◌++◌, length, map, sym, ◌∙◌, ap, arith, append_assoc, length-append}
use Rattle.std.specs.List.{flat_map}
use Rattle.std.proofs.lemmas.List.{append-nil, length-map}
use Rattle.std.proofs.lemmas.Grind.{flat_map-append}
use Rattle.mls_model.specs.Numbers.{below}
use Rattle.std.proofs.Math.Nat.{mul-le-mul_right}
use Rattle.mls_model.specs.declared.blocks.Span.{Span}
use Rattle.mls_model.specs.Blocks.{overlap, width}
use Rattle.mls_model.specs.Frames.{Frame, piece}
use Rattle.mls_model.specs.Studies.{Study, plane_of}
use Rattle.mls_model.specs.Designs.{inputs, response, solve, solved_row, solved_piece}
use Rattle.mls_text.proofs.Counted.{length-below}
use Rattle.mls_design.proofs.Counting.{map-below_more, flat_map-below_more}

-- one sample more
pub row_more : (f : ℕ → ℕ) (n s : ℕ) (old now new : List ℕ) → now ≡ old ++ map f (below n) → new ≡ now ++ s ∷ [] → s ≡ f n → new ≡ old ++ map f (below (n + 1))
row_more f n s old now new so_far step is =
    step ∙ ap (λ xs. xs ++ s ∷ []) so_far ∙ append_assoc old (map f (below n)) (s ∷ [])
    ∙ ap (λ x. old ++ (map f (below n) ++ x ∷ [])) is ∙ ap (λ xs. old ++ xs) (sym (map-below_more f n))

pub row_none : (f : ℕ → ℕ) (old : List ℕ) → old ≡ old ++ map f (below 0)
row_none f old = sym (append-nil old)

-- what was added for a simulation is its row
pub row_is : (study : Study) (group sim step field first count : ℕ) (ss : List ℕ) → ss ≡ inputs study group sim → map (λ x. response (first + x + step + field) ss) (below count) ≡ solved_row study group sim step field first count
unfolding solved_row solve
row_is study group sim step field first count ss is = ap (λ (l : List ℕ). map (λ x. response (first + x + step + field) l) (below count)) is

-- one simulation more
pub rows_more : (f : ℕ → List ℕ) (n : ℕ) (row now new : List ℕ) → now ≡ flat_map f (below n) → new ≡ now ++ row → row ≡ f n → new ≡ flat_map f (below (n + 1))
rows_more f n row now new so_far step is =
    step ∙ ap (λ xs. xs ++ row) so_far ∙ ap (λ r. flat_map f (below n) ++ r) is ∙ sym (flat_map-below_more f n)

length-row : (study : Study) (group sim step field first count : ℕ) → length (solved_row study group sim step field first count) ≡ count
unfolding solved_row
length-row study group sim step field first count = length-map (below count) (λ x. solve study group sim step field (first + x)) ∙ length-below count

pub length-rows : (study : Study) (group step field first count n : ℕ) → length (flat_map (λ sim. solved_row study group sim step field first count) (below n)) ≡ n * count
length-rows study group step field first count zero = omega arith
length-rows study group step field first count (suc n) =
    let f : ℕ → List ℕ = λ sim. solved_row study group sim step field first count in
    let parts : flat_map f (below n ++ n ∷ []) ≡ flat_map f (below n) ++ (f n ++ []) = flat_map-append f (below n) (n ∷ []) in
    omega (arith, ap length parts, length-append (flat_map f (below n)) (f n ++ []), length-append (f n) [], length-row study group n step field first count, length-rows study group step field first count n)

pub body_small : (rows count : ℕ) → rows ≤ 18 → count ≤ 1048576 → 25 + 2 * (rows * count) ≤ 67108864
body_small rows count few small =
    let most : rows * count ≤ 18 * count = mul-le-mul_right count few in
    omega arith

-- the piece that is made of the samples
pub piece_is : (study : Study) (group life step field rank client plane rows : ℕ) (cells : Span) (samples : List ℕ) → plane ≡ plane_of study.sizes step field → rows ≡ 2 + study.sizes.parameters → cells ≡ overlap study.sizes rank client → samples ≡ flat_map (λ sim. solved_row study group sim step field cells.first (width cells)) (below (2 + study.sizes.parameters)) → ◌≡◌ {A = Frame} (piece (record { life = life; group = group; plane = plane; client = client; rows = rows; first = cells.first; count = cells.end - cells.first; samples = samples })) (piece (solved_piece study group life step field rank client))
unfolding solved_piece
piece_is study group life step field rank client plane rows cells samples is_plane is_rows is_cells are_samples =
    let own : Span = overlap study.sizes rank client in
    let n : ℕ = 2 + study.sizes.parameters in
    let of : ℕ → ℕ → Span → List ℕ → Frame = λ q m s xs. piece (record { life = life; group = group; plane = q; client = client; rows = m; first = s.first; count = s.end - s.first; samples = xs }) in
    let all : samples ≡ flat_map (λ sim. solved_row study group sim step field own.first (width own)) (below n) =
    are_samples ∙ ap (λ (s : Span). flat_map (λ sim. solved_row study group sim step field s.first (width s)) (below n)) is_cells in
    ap (λ q. of q rows cells samples) is_plane
    ∙ ap (λ m. of (plane_of study.sizes step field) m cells samples) is_rows
    ∙ ap (λ s. of (plane_of study.sizes step field) n s samples) is_cells
    ∙ ap (λ xs. of (plane_of study.sizes step field) n own xs) all
