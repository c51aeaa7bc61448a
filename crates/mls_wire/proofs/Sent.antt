-- Laws of what a link tells: one write after another, one read after another, and a front of a text.
use Rattle.std.proofs.Common.{◌≡◌, ℕ, ◌+◌, ◌≤◌, List, [], ◌++◌, take, drop, length, Option, Some, None, refl, sym, ◌∙◌, ap, subst, append_assoc, drop-drop, arith}
use Rattle.std.proofs.lemmas.List.{append-nil}
use Rattle.std.proofs.Math.Seq.{take-add}
use Rattle.mls_base.specs.Told.{MayCease}
use Rattle.mls_base.proofs.Told.{MayCease-trans}
use Rattle.mls_wire.specs.Links.{Talk, reading, writing, after_read, after_write, SentFront}

abbrev pub talk_with : List ℕ → List ℕ → List ℕ → Talk
talk_with read left written = record { read = read; left = left; written = written }

-- one write after another is a write of both
pub write-write : (old : Option Talk) (a b : List ℕ) → after_write b (after_write a old) ≡ after_write (a ++ b) old
write-write None a b = refl
write-write (Some old) a b = ap (λ (xs : List ℕ). Some (talk_with old.read old.left xs)) (append_assoc old.written a b)

-- nothing written leaves what is told
pub write-nil : (old : Option Talk) → after_write [] old ≡ old
write-nil None = refl
write-nil (Some old) = ap (λ (xs : List ℕ). Some (talk_with old.read old.left xs)) (append-nil old.written)

-- A front of the text was written, and this is the rest. Something is told as before.
pub record Sent (old now : Option Talk) (text rest : List ℕ) : Type 0 where
  pub front : List ℕ
  pub is_text : front ++ rest ≡ text
  pub written : now ≡ after_write front old

pub Sent-none : (old : Option Talk) (text : List ℕ) → Sent old old text text
Sent-none old text = record { front = []; is_text = refl; written = sym (write-nil old) }

pub Sent-more : (old now new : Option Talk) (text rest piece next : List ℕ) → Sent old now text rest → piece ++ next ≡ rest → new ≡ after_write piece now → Sent old new text next
Sent-more old now new text rest piece next so_far parts wrote = record {
  front = so_far.front ++ piece;
  is_text = append_assoc so_far.front piece next ∙ ap (λ xs. so_far.front ++ xs) parts ∙ so_far.is_text;
  written = wrote ∙ ap (λ o. after_write piece o) so_far.written ∙ write-write old so_far.front piece;
}

pub Sent-all : (old now : Option Talk) (text : List ℕ) → Sent old now text [] → now ≡ after_write text old
Sent-all old now text all = all.written ∙ ap (λ xs. after_write xs old) (sym (append-nil all.front) ∙ all.is_text)

-- what was written before a failure is a front
pub Sent-failed : (old now new : Option Talk) (text rest : List ℕ) → Sent old now text rest → MayCease now new → SentFront old new text
Sent-failed old now new text rest so_far ceased =
    let P : Option Talk → Type 0 = λ o. MayCease o new in
    record { front = so_far.front; rest = rest; is_text = so_far.is_text; written = subst P so_far.written ceased }

-- one read after another is a read of both
pub read-read : (old : Option Talk) (n m : ℕ) → after_read m (after_read n old) ≡ after_read (n + m) old
read-read None n m = refl
read-read (Some old) n m =
    let all : (old.read ++ take n old.left) ++ take m (drop n old.left) ≡ old.read ++ take (n + m) old.left =
    append_assoc old.read (take n old.left) (take m (drop n old.left)) ∙ ap (λ xs. old.read ++ xs) (sym (take-add n m old.left)) in
    ap (λ (xs : List ℕ). Some (talk_with xs (drop m (drop n old.left)) old.written)) all
    ∙ ap (λ (xs : List ℕ). Some (talk_with (old.read ++ take (n + m) old.left) xs old.written)) (drop-drop m n old.left)

-- bytes of which those up to a place were read, after n more
pub reading_is : (at n : ℕ) (bytes written : List ℕ) → talk_with (take (at + n) bytes) (drop (at + n) bytes) written ≡ reading n (talk_with (take at bytes) (drop at bytes) written)
reading_is at n bytes written =
    ap (λ xs. talk_with xs (drop (at + n) bytes) written) (take-add at n bytes)
    ∙ ap (λ xs. talk_with (take at bytes ++ take n (drop at bytes)) xs written) (sym (drop-drop n at bytes))
