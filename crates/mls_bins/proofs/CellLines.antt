-- The lines of a cell, cut where they are written in several calls.
use Rattle.std.proofs.Common.{◌≡◌, ℕ, List, [], ◌∷◌, ◌++◌, ◌+◌, ◌<◌, ◌≤◌, Bool, length, take, drop, get_or, Option, Some, None, refl, sym, ◌∙◌, ap, subst, arith, append_assoc, add-one, take-suc}
use Rattle.std.specs.Prelude.{codes}
use Rattle.std.specs.List.{flat_map, enumerate_from}
use Rattle.std.proofs.lemmas.Bool.{eq-eqb, ne_eqb, cond-true, cond-false}
use Rattle.std.proofs.lemmas.List.{append-nil, length-drop, get_or-drop, drop-drop, take-append-drop}
use Rattle.std.proofs.lemmas.List.Concat.{flat_map-append}
use Rattle.std.proofs.lemmas.List.FromFn.{length-enumerate_from, get_or-enumerate_from}
use Rattle.mls_model.specs.Samples.{unshifted}
use Rattle.mls_text.specs.Writing.{SinkState, Wrote, FailedAfter}
use Rattle.mls_text.proofs.Writing.{IsFrontOut, front_more, front_failed, texts_all}
use Rattle.mls_hist.specs.Bins.{least_in, greatest_in}
use Rattle.mls_hist.specs.BinsText.{bin_words, bins_line, bracket_words, quartiles_line}
use Rattle.mls_bins.specs.Words.{line_end, bins_start, no_bins, bin_said, words_of, part_words, bins_said, quartiles_start, no_quartiles, ends_said, quartiles_said}

-- ---- a bin and its count
pub bin_none : (bin count : ℕ) → count ≡ 0 → bin_words bin count ≡ []
unfolding bin_words
bin_none bin count none = cond-true _ _ _ (eq-eqb count 0 none)

pub bin_some : (bin count : ℕ) → 0 < count → bin_words bin count ≡ bin_said bin count
unfolding bin_words bin_said
bin_some bin count some = cond-false _ _ _ (ne_eqb count 0 (λ none. absurd (omega (arith, none, some))))

-- ---- the bins of a part, one after another
words_at : (counts : List ℕ) (bin : ℕ) (d : ℕ × ℕ) → bin < length counts → words_of (get_or (enumerate_from 0 counts) bin d) ≡ bin_words bin (get_or counts bin d.1)
words_at counts bin d here = ap words_of (get_or-enumerate_from 0 counts bin d here) ∙ ap (λ m. bin_words m (get_or counts bin d.1)) (omega arith)

pub bin_taken : (counts : List ℕ) (first k bin : ℕ) (line line' : List ℕ) → bin ≡ first + k → bin < length counts → line ≡ flat_map words_of (take k (drop first (enumerate_from 0 counts))) → line' ≡ line ++ bin_words bin (get_or counts bin 0) → line' ≡ flat_map words_of (take (k + 1) (drop first (enumerate_from 0 counts)))
bin_taken counts first k bin line line' is_bin here so_far taken =
    let d : ℕ × ℕ = (0, 0) in
    let xs = enumerate_from 0 counts in
    let ys = drop first xs in
    let inside : k < length ys = omega (arith, is_bin, here, length-enumerate_from 0 counts, length-drop first xs) in
    let own : words_of (get_or ys k d) ≡ bin_words bin (get_or counts bin 0) = ap words_of (get_or-drop first xs k d ∙ ap (λ m. get_or xs m d) (sym is_bin)) ∙ words_at counts bin d here in
    taken ∙ ap (λ t. t ++ bin_words bin (get_or counts bin 0)) so_far
    ∙ sym (ap (λ n. flat_map words_of (take n ys)) (add-one k) ∙ ap (flat_map words_of) (take-suc ys k d inside) ∙ flat_map-append words_of (take k ys) (get_or ys k d ∷ []) ∙ ap (λ t. flat_map words_of (take k ys) ++ t) (append-nil (words_of (get_or ys k d)) ∙ own))

-- ---- the parts, one after another
parts : (xs : List (ℕ × ℕ)) (at next : ℕ) → next ≡ at + 16 → flat_map words_of (drop at xs) ≡ flat_map words_of (take 16 (drop at xs)) ++ flat_map words_of (drop next xs)
parts xs at next is_next =
    ap (flat_map words_of) (sym (take-append-drop 16 (drop at xs)))
    ∙ flat_map-append words_of (take 16 (drop at xs)) (drop 16 (drop at xs))
    ∙ ap (λ ys. flat_map words_of (take 16 (drop at xs)) ++ flat_map words_of ys) (drop-drop 16 at xs ∙ ap (λ n. drop n xs) (sym is_next))

pub part_more : (counts text : List ℕ) (at next : ℕ) (old mid new : SinkState) → next ≡ at + 16 → IsFrontOut (flat_map words_of (drop at (enumerate_from 0 counts))) text old mid → Wrote mid new (part_words counts at) → IsFrontOut (flat_map words_of (drop next (enumerate_from 0 counts))) text old new
part_more counts text at next old mid new is_next so_far out =
    front_more (part_words counts at) (flat_map words_of (drop next (enumerate_from 0 counts))) text old mid new
    (subst (λ (rest : List ℕ). IsFrontOut rest text old mid) (parts (enumerate_from 0 counts) at next is_next) so_far) out

pub part_failed : (counts text : List ℕ) (at : ℕ) (old mid new : SinkState) → IsFrontOut (flat_map words_of (drop at (enumerate_from 0 counts))) text old mid → FailedAfter mid new (part_words counts at) → FailedAfter old new text
part_failed counts text at old mid new so_far failed =
    front_failed (part_words counts at) (flat_map words_of (drop (at + 16) (enumerate_from 0 counts))) text old mid new
    (subst (λ (rest : List ℕ). IsFrontOut rest text old mid) (parts (enumerate_from 0 counts) at (at + 16) refl) so_far) failed

pub parts_all : (counts text : List ℕ) (at : ℕ) (old new : SinkState) → length counts ≤ at → IsFrontOut (flat_map words_of (drop at (enumerate_from 0 counts))) text old new → Wrote old new text
parts_all counts text at old new past so_far = texts_all words_of at (enumerate_from 0 counts) text old new (omega (arith, past, length-enumerate_from 0 counts)) so_far

-- ---- the bins line
pub line_of_none : (n : ℕ) (counts : List ℕ) → n ≡ 0 → bins_line n counts ≡ no_bins
unfolding bins_line no_bins
line_of_none n counts none = cond-true _ _ _ (eq-eqb n 0 none)

pub line_of_some : (n : ℕ) (counts : List ℕ) → 0 < n → bins_line n counts ≡ bins_said counts
unfolding bins_line bins_start line_end
line_of_some n counts some = cond-false _ _ _ (ne_eqb n 0 (λ none. absurd (omega (arith, none, some))))

-- ---- a bracket
pub bracket_ends : (signed : Bool) (bin : ℕ) → bracket_words signed (Some bin) ≡ ends_said (unshifted signed (least_in bin)) (unshifted signed (greatest_in bin))
unfolding bracket_words ends_said
bracket_ends signed bin = refl

pub bracket_none : (signed : Bool) → bracket_words signed None ≡ []
unfolding bracket_words
bracket_none signed = refl

-- ---- the quartiles line
pub five_parts : (a b c d e l0 l1 l2 l3 l4 : List ℕ) → l0 ≡ a → l1 ≡ l0 ++ b → l2 ≡ l1 ++ c → l3 ≡ l2 ++ d → l4 ≡ l3 ++ e → l4 ≡ a ++ (b ++ (c ++ (d ++ e)))
five_parts a b c d e l0 l1 l2 l3 l4 e0 e1 e2 e3 e4 =
    e4 ∙ ap (λ l. l ++ e) (e3 ∙ ap (λ l. l ++ d) (e2 ∙ ap (λ l. l ++ c) (e1 ∙ ap (λ l. l ++ b) e0)))
    ∙ append_assoc ((a ++ b) ++ c) d e
    ∙ append_assoc (a ++ b) c (d ++ e)
    ∙ append_assoc a b (c ++ (d ++ e))

pub end_is : line_end ≡ codes "\n"
unfolding line_end
end_is = refl

pub quartiles_of_none : (signed : Bool) (n : ℕ) (brackets : ℕ → Option ℕ) → n ≡ 0 → quartiles_line signed n brackets ≡ no_quartiles
unfolding quartiles_line no_quartiles
quartiles_of_none signed n brackets none = cond-true _ _ _ (eq-eqb n 0 none)

pub quartiles_of_some : (signed : Bool) (n : ℕ) (brackets : ℕ → Option ℕ) → 0 < n → quartiles_line signed n brackets ≡ quartiles_said signed brackets
unfolding quartiles_line quartiles_start line_end
quartiles_of_some signed n brackets some = cond-false _ _ _ (ne_eqb n 0 (λ none. absurd (omega (arith, none, some))))
