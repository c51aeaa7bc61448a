-- The exceed line of numbers, number by number.
use Rattle.std.proofs.Common.{◌≡◌, List, ℕ, [], ◌∷◌, ◌+◌, ◌*◌, ◌<◌, ◌≤◌, ◌++◌, length, take, slice_index, refl, sym, ◌∙◌, ap, append_assoc, arith}
use Rattle.std.specs.Prelude.{codes}
use Rattle.std.proofs.lemmas.List.{append-nil, take_more, take_all}
use Rattle.std.proofs.lemmas.List.Concat.{flat_map-append}
use Rattle.mls_model.specs.ResultText.{exceed_words}
use Rattle.mls_result.specs.Words.{exceed_start, number_words}
use Rattle.mls_result.specs.Counted.{numbers_text}

exceed_words-split : (numbers : List ℕ) → exceed_words numbers ≡ exceed_start ++ (numbers_text numbers ++ codes "\n")
unfolding exceed_words exceed_start number_words
exceed_words-split numbers = refl

-- a line has the first word and the first numbers of every list that has these
pub record IsListed (all : List ℕ) (count : ℕ) (line : List ℕ) (i : ℕ) : Type 0 where
  pub text : (numbers : List ℕ) → length numbers ≡ count → ((k : ℕ) → slice_index all k ≡ slice_index numbers k) → line ≡ exceed_start ++ numbers_text (take i numbers)
  pub size : length line ≤ 6 + 11 * i

pub listed_none : (all line : List ℕ) (count : ℕ) → line ≡ exceed_start → length line ≤ 6 → IsListed all count line 0
listed_none all line count is short = record { text = λ numbers long same. is ∙ sym (append-nil exceed_start); size = omega (arith, short) }

one_more : (numbers : List ℕ) (i : ℕ) → i < length numbers → numbers_text (take (i + 1) numbers) ≡ numbers_text (take i numbers) ++ number_words (slice_index numbers i)
one_more numbers i here =
    ap numbers_text (take_more numbers i 0 here)
    ∙ flat_map-append number_words (take i numbers) (slice_index numbers i ∷ [])
    ∙ ap (λ t. numbers_text (take i numbers) ++ t) (append-nil (number_words (slice_index numbers i)))

pub listed_more : (all line new : List ℕ) (count i value : ℕ) → i < count → IsListed all count line i → value ≡ slice_index all i → new ≡ line ++ number_words value → length new ≤ length line + 11 → IsListed all count new (i + 1)
listed_more all line new count i value here l is step longer = record {
  text = λ numbers long same.
      step ∙ ap (λ t. t ++ number_words value) (l.text numbers long same)
      ∙ append_assoc exceed_start (numbers_text (take i numbers)) (number_words value)
      ∙ ap (λ v. exceed_start ++ (numbers_text (take i numbers) ++ number_words v)) (is ∙ same i)
      ∙ ap (λ t. exceed_start ++ t) (sym (one_more numbers i (omega (arith, long, here))));
  size = omega (arith, l.size, longer);
}

pub listed_all : (all line new : List ℕ) (count i : ℕ) → count ≤ i → IsListed all count line i → new ≡ line ++ codes "\n" → (numbers : List ℕ) → length numbers ≡ count → ((k : ℕ) → slice_index all k ≡ slice_index numbers k) → new ≡ exceed_words numbers
listed_all all line new count i past l ended numbers long same =
    ended ∙ ap (λ t. t ++ codes "\n") (l.text numbers long same ∙ ap (λ ns. exceed_start ++ numbers_text ns) (take_all i numbers (omega (arith, long, past))))
    ∙ append_assoc exceed_start (numbers_text numbers) (codes "\n")
    ∙ sym (exceed_words-split numbers)
