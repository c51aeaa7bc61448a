-- Counts that were read into a list.
use Rattle.std.proofs.Common.{◌≡◌, ℕ, suc, ◌+◌, ◌-◌, ◌*◌, ◌<◌, ◌≤◌, ◌==◌, List, [], ◌∷◌, ◌++◌, length, map, get_or, set, Ok, Err, true, false, nat_lt, ap, ◌∙◌, refl, sym, arith, get_or-set_same, get_or-set_other}
use Rattle.std.specs.Prelude.{sum}
use Rattle.std.specs.Int.{w32, byte_len}
use Rattle.std.proofs.lemmas.Bool.Decides.{nat_tests}
use Rattle.std.proofs.lemmas.List.{map-append}
use Rattle.std.proofs.lemmas.List.Sums.{sum_by_push}
use Rattle.mls_model.specs.Numbers.{below}
use Rattle.mls_model.specs.Studies.{Sizes, planes}
use Rattle.mls_model.specs.Blocks.{block, width}
use Rattle.mls_ckpt.specs.declared.faults.CkptWhy.TheVariants as why
use Rattle.mls_ckpt.specs.declared.faults.RecoverFault.{RecoverFault}
use Rattle.mls_ckpt.specs.declared.faults.RecoverFault.TheVariants.{Bad, Memory}
use Rattle.mls_ckpt.specs.Reading.{Cursor, Refuses, number_at, many, front as first_number, behind}
use Rattle.mls_ckpt.specs.States.{after_one}
use Rattle.mls_ckpt.specs.Checkpoints.{room_after}
use Rattle.mls_ckpt.proofs.Numbers.{chosen, same_ok}
use Rattle.mls_field.specs.Answered.{before}
use Rattle.mls_field.proofs.Grid.{plane_before}
use Rattle.mls_field.proofs.Rows.{same_entries}
use Rattle.mls_field.proofs.CellRules.{same_maps}
use Rattle.mls_field.proofs.ReadInOrder.{goes_on, is_refused, all_read, none_read}
use Rattle.mls_hist.specs.HistPart.{counts_at, plane_at, cells_at}
use Rattle.mls_hist.specs.Histograms.{cell_start}
use Rattle.mls_hist.specs.Packed.{counts_from, packed_plane, packed_cells}

-- the counts from a start on, as far as they were read
abbrev pub front : List ℕ → ℕ → ℕ → List ℕ
front bins start k = map (λ bin. get_or bins (start + bin) 0) (below k)

pub front-set : (bins : List ℕ) (start k n : ℕ) → start + k < length bins → front (set bins (start + k) n) start (k + 1) ≡ front bins start k ++ n ∷ []
front-set bins start k n fits =
    let new = set bins (start + k) n in
    let earlier : front new start k ≡ front bins start k = same_entries (λ bin. get_or new (start + bin) 0) (λ bin. get_or bins (start + bin) 0) k (λ bin low. get_or-set_other bins (start + k) (start + bin) n 0 (λ e. omega (arith, e, low))) in
    let here : get_or new (start + k) 0 ≡ n = get_or-set_same bins (start + k) n 0 fits in
    ap (front new start) (let e : k + 1 ≡ suc k = omega arith in e) ∙ (map-append (λ bin. get_or new (start + bin) 0) (below k) (k ∷ []) ∙ (λ i. earlier i ++ here i ∷ []))

-- the place behind a number
pub number_moves : (most : ℕ) (c : Cursor) (n : ℕ) (new : Cursor) → number_at w32 most c ≡ Ok (n, new) → new.at ≡ c.at + 4
unfolding number_at
number_moves most c n new e =
    let outer = chosen (nat_lt (length c.left) (byte_len w32)) (record { at = c.at; why = why.Short }) _ (n, new) e in
    let inner = chosen (nat_lt most (first_number w32 c.left)) (record { at = c.at; why = why.Range }) _ (n, new) outer.1 in
    sym (ap (λ (r : ℕ × Cursor). r.1.at) (same_ok (first_number w32 c.left, behind w32 c) (n, new) inner.1))

-- one count more was read
pub record Reads (n start k room : ℕ) (bins : List ℕ) (c0 c : Cursor) : Type 0 where
  pub read : before (front bins start k) (many (number_at w32) room_after (64 - k) room c) ≡ many (number_at w32) room_after 64 (2 * n) c0
  pub left : sum (front bins start k) + room ≡ 2 * n
  pub place : c.at ≡ c0.at + 4 * k

pub reads_first : (n start : ℕ) (bins : List ℕ) (c : Cursor) → Reads n start 0 (2 * n) bins c c
reads_first n start bins c = record {
  read = none_read (number_at w32) room_after 64 (2 * n) c _ refl;
  left = omega arith;
  place = omega arith;
}

pub reads_more : (n start k room count : ℕ) (bins : List ℕ) (c0 c new : Cursor) → k < 64 → start + k < length bins → count ≤ room → number_at w32 room c ≡ Ok (count, new) → Reads n start k room bins c0 c → Reads n start (k + 1) (room - count) (set bins (start + k) count) c0 new
reads_more n start k room count bins c0 c new less fits few e h =
    let one = front-set bins start k count fits in
    let more : sum (front bins start k ++ count ∷ []) ≡ sum (front bins start k) + count = sum_by_push (λ x. x) (front bins start k) count in
    let all = ap sum one ∙ more in
    let left = h.left in
    let place = h.place in
    let moved = number_moves room c count new e in
    record {
      read = ap (λ ys. before ys (many (number_at w32) room_after (64 - (k + 1)) (room - count) new)) one ∙ goes_on (number_at w32) room_after 64 k room (front bins start k) count c new _ less e h.read;
      left = omega (arith, all, left, few);
      place = omega (arith, moved, place);
    }

counts_opened : (bins : List ℕ) (start : ℕ) → front bins start 64 ≡ counts_from bins start
unfolding counts_from
counts_opened bins start = refl

pub counts_done : (n start k room : ℕ) (bins : List ℕ) (c0 c : Cursor) → k ≡ 64 → room ≡ 0 → Reads n start k room bins c0 c → counts_at n c0 ≡ Ok (counts_from bins start, c)
unfolding counts_at
counts_done n start k room bins c0 c all none h =
    let read = all_read (number_at w32) room_after 64 k room (front bins start k) c _ (omega (arith, all)) h.read in
    let left = h.left in
    let whole : (sum (front bins start k) == 2 * n) ≡ true = (let e : sum (front bins start k) ≡ 2 * n = omega (arith, left, none) in grind (arith, nat_tests, e)) in
    rw (read, whole) (ap (λ m. Ok (front bins start m, c)) all ∙ ap (λ xs. Ok (xs, c)) (counts_opened bins start))

pub counts_whole : (n start k room : ℕ) (bins : List ℕ) (c0 c : Cursor) → k ≡ 64 → room ≡ 0 → Reads n start k room bins c0 c → sum (counts_from bins start) ≡ 2 * n
counts_whole n start k room bins c0 c all none h =
    let left = h.left in
    sym (ap sum (counts_opened bins start)) ∙ (ap (λ m. sum (front bins start m)) (sym all) ∙ omega (arith, left, none))

pub counts_short : (n start k room at : ℕ) (bins : List ℕ) (c0 c : Cursor) → k ≡ 64 → 0 < room → at ≡ c0.at + 4 * 63 → Reads n start k room bins c0 c → counts_at n c0 ≡ Err (record { at = at; why = why.Range })
unfolding counts_at
counts_short n start k room at bins c0 c all some is h =
    let read = all_read (number_at w32) room_after 64 k room (front bins start k) c _ (omega (arith, all)) h.read in
    let left = h.left in
    let whole : (sum (front bins start k) == 2 * n) ≡ false = (let e : sum (front bins start k) < 2 * n = omega (arith, left, some) in grind (arith, nat_tests, e)) in
    rw (read, whole) (ap (λ m. Err (record { at = m; why = why.Range })) (sym is))

pub counts_refused : (n start k room : ℕ) (bins : List ℕ) (c0 c : Cursor) (fault : RecoverFault) → k < 64 → Refuses fault (number_at w32 room c) → Reads n start k room bins c0 c → Refuses fault (counts_at n c0)
unfolding counts_at
counts_refused n start k room bins c0 c (Bad at why) less e h = rw (is_refused (number_at w32) room_after 64 k room (front bins start k) c _ _ less e h.read) refl
counts_refused n start k room bins c0 c Memory less e h = tt

-- ---- counts that stay
pub counts_kept : (old new : List ℕ) (end start : ℕ) → start + 64 ≤ end → ((j : ℕ) → j < end → get_or new j 0 ≡ get_or old j 0) → counts_from old start ≡ counts_from new start
unfolding counts_from
counts_kept old new end start inside same = same_entries (λ bin. get_or old (start + bin) 0) (λ bin. get_or new (start + bin) 0) 64 (λ bin low. sym (same (start + bin) (omega (arith, low, inside))))

-- one cell more of a plane
pub plane_more : (places plane place : ℕ) (old new : List ℕ) → ((j : ℕ) → j < cell_start places plane place → get_or new j 0 ≡ get_or old j 0) → packed_plane places old plane place ++ counts_from new (cell_start places plane place) ∷ [] ≡ packed_plane places new plane (place + 1)
unfolding packed_plane
plane_more places plane place old new same =
    let olds : ℕ → List ℕ = λ at. counts_from old (cell_start places plane at) in
    let news : ℕ → List ℕ = λ at. counts_from new (cell_start places plane at) in
    let earlier : map olds (below place) ≡ map news (below place) = same_maps olds news place (λ at low. counts_kept old new (cell_start places plane place) (cell_start places plane at) (omega (arith, low)) same) in
    (λ i. earlier i ++ news place ∷ []) ∙ (sym (map-append news (below place) (place ∷ [])) ∙ ap (λ m. map news (below m)) (let e : suc place ≡ place + 1 = omega arith in e))

pub plane_none : (places plane : ℕ) (bins : List ℕ) → packed_plane places bins plane 0 ≡ []
unfolding packed_plane
plane_none places plane bins = refl

pub plane_kept : (places plane end : ℕ) (old new : List ℕ) → (plane * places + places) * 64 ≤ end → ((j : ℕ) → j < end → get_or new j 0 ≡ get_or old j 0) → packed_plane places old plane places ≡ packed_plane places new plane places
unfolding packed_plane
plane_kept places plane end old new inside same = same_maps (λ at. counts_from old (cell_start places plane at)) (λ at. counts_from new (cell_start places plane at)) places (λ at low. counts_kept old new end (cell_start places plane at) (omega (arith, low, inside)) same)

pub cells_more : (places plane : ℕ) (old new : List ℕ) → ((j : ℕ) → j < plane * places * 64 → get_or new j 0 ≡ get_or old j 0) → packed_cells places old plane ++ packed_plane places new plane places ∷ [] ≡ packed_cells places new (plane + 1)
unfolding packed_cells
cells_more places plane old new same =
    let olds : ℕ → List (List ℕ) = λ p. packed_plane places old p places in
    let news : ℕ → List (List ℕ) = λ p. packed_plane places new p places in
    let earlier : map olds (below plane) ≡ map news (below plane) = same_maps olds news plane (λ p low. plane_kept places p (plane * places * 64) old new (omega (arith, plane_before p plane places low)) same) in
    (λ i. earlier i ++ news plane ∷ []) ∙ (sym (map-append news (below plane) (plane ∷ [])) ∙ ap (λ m. map news (below m)) (let e : suc plane ≡ plane + 1 = omega arith in e))

pub cells_none : (places : ℕ) (bins : List ℕ) → packed_cells places bins 0 ≡ []
unfolding packed_cells
cells_none places bins = refl

pub plane_done : (s : Sizes) (rank places n plane k : ℕ) (bins : List ℕ) (start c : Cursor) → width (block s rank) ≡ places → k ≡ places → before (packed_plane places bins plane k) (many (λ i from. counts_at n from) after_one (places - k) k c) ≡ many (λ i from. counts_at n from) after_one places 0 start → plane_at s rank n start ≡ Ok (packed_plane places bins plane places, c)
unfolding plane_at
plane_done s rank places n plane k bins start c wide all e =
    ap (λ m. many (λ i from. counts_at n from) after_one m 0 start) wide ∙
    (all_read (λ i from. counts_at n from) after_one places k k (packed_plane places bins plane k) c _ (omega (arith, all)) e ∙ ap (λ m. Ok (packed_plane places bins plane m, c)) all)

pub plane_refused : (s : Sizes) (rank places n k : ℕ) (xs : List (List ℕ)) (start c : Cursor) (fault : RecoverFault) → width (block s rank) ≡ places → k < places → Refuses fault (counts_at n c) → before xs (many (λ i from. counts_at n from) after_one (places - k) k c) ≡ many (λ i from. counts_at n from) after_one places 0 start → Refuses fault (plane_at s rank n start)
unfolding plane_at
plane_refused s rank places n k xs start c (Bad at why) wide less is e =
    ap (λ m. many (λ i from. counts_at n from) after_one m 0 start) wide ∙ is_refused (λ i from. counts_at n from) after_one places k k xs c _ _ less is e
plane_refused s rank places n k xs start c Memory wide less is e = tt

pub cells_done : (s : Sizes) (rank places k : ℕ) (counts bins : List ℕ) (start c : Cursor) → planes s ≡ length counts → k ≡ length counts → before (packed_cells places bins k) (many (λ plane from. plane_at s rank (get_or counts plane 0) from) after_one (length counts - k) k c) ≡ many (λ plane from. plane_at s rank (get_or counts plane 0) from) after_one (length counts) 0 start → cells_at s rank counts start ≡ Ok (packed_cells places bins (planes s), c)
unfolding cells_at
cells_done s rank places k counts bins start c size all e =
    ap (λ m. many (λ plane from. plane_at s rank (get_or counts plane 0) from) after_one m 0 start) size ∙
    (all_read (λ plane from. plane_at s rank (get_or counts plane 0) from) after_one (length counts) k k (packed_cells places bins k) c _ (omega (arith, all)) e ∙ ap (λ m. Ok (packed_cells places bins m, c)) (all ∙ sym size))

pub cells_refused : (s : Sizes) (rank k : ℕ) (counts : List ℕ) (xs : List (List (List ℕ))) (start c : Cursor) (fault : RecoverFault) → planes s ≡ length counts → k < length counts → Refuses fault (plane_at s rank (get_or counts k 0) c) → before xs (many (λ plane from. plane_at s rank (get_or counts plane 0) from) after_one (length counts - k) k c) ≡ many (λ plane from. plane_at s rank (get_or counts plane 0) from) after_one (length counts) 0 start → Refuses fault (cells_at s rank counts start)
unfolding cells_at
cells_refused s rank k counts xs start c (Bad at why) size less is e =
    ap (λ m. many (λ plane from. plane_at s rank (get_or counts plane 0) from) after_one m 0 start) size ∙ is_refused (λ plane from. plane_at s rank (get_or counts plane 0) from) after_one (length counts) k k xs c _ _ less is e
cells_refused s rank k counts xs start c Memory size less is e = tt
