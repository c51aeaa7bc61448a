-- The lines of ranks, counted from 0.
use Rattle.std.proofs.Common.{refl, [], ◌∷◌, ◌≡◌, List, ℕ, ◌+◌, ◌<◌, ◌≤◌, length, map, drop, get_or, sym, ◌∙◌, ap, subst, arith}
use Rattle.std.specs.List.{flat_map, enumerate_from}
use Rattle.std.proofs.lemmas.List.{length-map, get_or-map, get_or_default}
use Rattle.std.proofs.lemmas.List.FromFn.{length-enumerate_from, get_or-enumerate_from}
use Rattle.mls_model.specs.declared.outcomes.Counts.{Counts}
use Rattle.mls_model.specs.ResultText.{rank_line}
use Rattle.mls_text.specs.Writing.{SinkState, Wrote, FailedAfter}
use Rattle.mls_text.proofs.Writing.{IsFrontOut, texts_more, texts_failed, texts_all}

abbrev pub line_of_rank : ℕ × Counts → List ℕ
line_of_rank p = rank_line p.0 p.1

length-numbered : {X : Type 0} (f : X → Counts) (xs : List X) → length (enumerate_from 0 (map f xs)) ≡ length xs
length-numbered f xs = length-enumerate_from 0 (map f xs) ∙ length-map xs f

line_at : {X : Type 0} (f : X → Counts) (i : ℕ) (xs : List X) (dx : X) (d : ℕ × Counts) → i < length xs → line_of_rank (get_or (enumerate_from 0 (map f xs)) i d) ≡ rank_line i (f (get_or xs i dx))
line_at f i xs dx d here =
    ap line_of_rank (get_or-enumerate_from 0 (map f xs) i d (omega (arith, here, length-map xs f)) ∙ ap (λ (n : Counts). let p : ℕ × Counts = (0 + i, n) in p) (get_or_default (map f xs) i d.1 (f dx) (omega (arith, here, length-map xs f)) ∙ get_or-map f xs i dx (f dx) here))
    ∙ ap (λ m. rank_line m (f (get_or xs i dx))) (omega arith)

-- the pair of a core's place and its counts, for a list that has one
pair_of : {X : Type 0} (f : X → Counts) (dx : X) → ℕ × Counts
pair_of f dx = (0, f dx)

-- one line more is out, one failed, all are out
pub rank_more : {X : Type 0} (f : X → Counts) (i : ℕ) (xs : List X) (dx : X) (text : List ℕ) (old mid new : SinkState) → i < length xs → IsFrontOut (flat_map line_of_rank (drop i (enumerate_from 0 (map f xs)))) text old mid → Wrote mid new (rank_line i (f (get_or xs i dx))) → IsFrontOut (flat_map line_of_rank (drop (i + 1) (enumerate_from 0 (map f xs)))) text old new
rank_more f i xs dx text old mid new here so_far out =
    let there : i < length (enumerate_from 0 (map f xs)) = omega (arith, here, length-numbered f xs) in
    texts_more line_of_rank i (enumerate_from 0 (map f xs)) (pair_of f dx) text old mid new there so_far (subst (Wrote mid new) (sym (line_at f i xs dx (pair_of f dx) here)) out)

pub rank_failed : {X : Type 0} (f : X → Counts) (i : ℕ) (xs : List X) (dx : X) (text : List ℕ) (old mid new : SinkState) → i < length xs → IsFrontOut (flat_map line_of_rank (drop i (enumerate_from 0 (map f xs)))) text old mid → FailedAfter mid new (rank_line i (f (get_or xs i dx))) → FailedAfter old new text
rank_failed f i xs dx text old mid new here so_far failed =
    let there : i < length (enumerate_from 0 (map f xs)) = omega (arith, here, length-numbered f xs) in
    texts_failed line_of_rank i (enumerate_from 0 (map f xs)) (pair_of f dx) text old mid new there so_far (subst (FailedAfter mid new) (sym (line_at f i xs dx (pair_of f dx) here)) failed)

pub ranks_all : {X : Type 0} (f : X → Counts) (i : ℕ) (xs : List X) (text : List ℕ) (old new : SinkState) → length xs ≤ i → IsFrontOut (flat_map line_of_rank (drop i (enumerate_from 0 (map f xs)))) text old new → Wrote old new text
ranks_all f i xs text old new past so_far =
    texts_all line_of_rank i (enumerate_from 0 (map f xs)) text old new (omega (arith, past, length-numbered f xs)) so_far

-- each counts as they are kept
pub all_kept : (xs : List Counts) → map (λ (counts : Counts). counts) xs ≡ xs
all_kept [] = refl
all_kept (x ∷ xs) = ap (λ ys. x ∷ ys) (all_kept xs)
