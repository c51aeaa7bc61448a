-- Pieces that are put one after another, and where the bytes of a place stand.
use Rattle.std.proofs.Common.{◌≡◌, ℕ, zero, suc, ◌+◌, ◌-◌, ◌*◌, ◌<◌, ◌≤◌, List, [], ◌∷◌, ◌++◌, length, map, take, drop, get_or, Some, sym, ap, ◌∙◌, arith, append_assoc, add-one}
use Rattle.std.specs.Global.{Vec}
use Rattle.std.proofs.lemmas.List.{map-append, length-map}
use Rattle.std.proofs.Math.Nat.{mul-le-mul_right}
use Rattle.mls_model.specs.Numbers.{below}
use Rattle.mls_model.specs.Studies.{Sizes}
use Rattle.mls_model.specs.Blocks.{block, width, rank_of}
use Rattle.mls_resume.specs.Reads.{lists_of}
use Rattle.mls_resume.specs.Recut.{cell_size, bytes_in, cell_bytes, pieces_below}

-- one piece more
pub pieces_more : (piece : ℕ → List ℕ) (n : ℕ) (old mid new : List ℕ) → mid ≡ old ++ pieces_below piece n → new ≡ mid ++ piece n → new ≡ old ++ pieces_below piece (n + 1)
pieces_more piece n old mid new so_far put =
    put ∙ ap (λ l. l ++ piece n) so_far ∙ append_assoc old (pieces_below piece n) (piece n) ∙ ap (λ k. old ++ pieces_below piece k) (sym (add-one n))

-- all pieces
pub pieces_all : (piece : ℕ → List ℕ) (n end : ℕ) (old new : List ℕ) → new ≡ old ++ pieces_below piece n → n ≡ end → new ≡ old ++ pieces_below piece end
pieces_all piece n end old new so_far same = so_far ∙ ap (λ k. old ++ pieces_below piece k) same

-- the bytes of a place are within those of all places
pub place_fits : (planes places size plane place : ℕ) → plane < planes → place < places → (plane * places + place) * size + size ≤ planes * places * size
place_fits planes places size plane place plane_in place_in =
    let row : (plane + 1) * places ≤ planes * places = mul-le-mul_right places (omega arith) in
    let here : plane * places + place + 1 ≤ planes * places = omega (arith, row) in
    let bytes : (plane * places + place + 1) * size ≤ planes * places * size = mul-le-mul_right size here in
    omega (arith, bytes)

-- a list of bytes at a place
pub at_list : (lists : List (Vec ℕ)) (i : ℕ) (v : Vec ℕ) → i < length lists → v ≡ get_or lists i v → v.items ≡ get_or (lists_of lists) i []
at_list [] i v here is = absurd (omega arith)
at_list (x ∷ lists) zero v here is = ap (λ u. u.items) is
at_list (x ∷ lists) (suc i) v here is = at_list lists i v (omega arith) is

-- the bytes of a cell were put
pub cell_put : (old : Sizes) (parts : List (List ℕ)) (plane cell rank at size : ℕ) (part before now : List ℕ) → rank_of old cell ≡ Some rank → part ≡ get_or parts rank [] → size ≡ cell_size old
    → at ≡ (plane * width (block old rank) + (cell - (block old rank).first)) * size → now ≡ before ++ take size (drop at part) → now ≡ before ++ cell_bytes old parts plane cell
cell_put old parts plane cell rank at size part before now here part_is size_is at_is put =
    put ∙ ap (λ l. before ++ l)
    (ap (λ n. take n (drop at part)) size_is ∙ ap (λ k. take (cell_size old) (drop k part)) (at_is ∙ ap (λ n. (plane * width (block old rank) + (cell - (block old rank).first)) * n) size_is)
    ∙ ap (λ l. take (cell_size old) (drop ((plane * width (block old rank) + (cell - (block old rank).first)) * cell_size old) l)) part_is
    ∙ sym (ap (λ r. bytes_in old parts plane cell r) here))

-- a list of one rank more
pub list_more : (list : ℕ → List ℕ) (n : ℕ) (lists now : List (List ℕ)) (bytes : List ℕ) → lists ≡ map list (below n) → now ≡ lists ++ bytes ∷ [] → bytes ≡ list n → now ≡ map list (below (n + 1))
list_more list n lists now bytes so_far pushed is =
    pushed ∙ (λ i. so_far i ++ is i ∷ []) ∙ sym (ap (λ k. map list (below k)) (add-one n) ∙ map-append list (below n) (n ∷ []))

pub lists_all : (list : ℕ → List ℕ) (n end : ℕ) (lists : List (List ℕ)) → lists ≡ map list (below n) → n ≡ end → lists ≡ map list (below end)
lists_all list n end lists so_far same = so_far ∙ ap (λ k. map list (below k)) same

-- there is a file of each rank
pub files_long : (files : List (Vec ℕ)) (rank ranks : ℕ) → length (lists_of files) ≡ ranks → rank < ranks → rank < length files
files_long files rank ranks count within = omega (arith, length-map files (λ (v : Vec ℕ). v.items), count, within)
