-- Bytes that are written into a list from a place on.
use Rattle.std.proofs.Common.{◌≡◌, ℕ, ◌+◌, ◌<◌, ◌≤◌, List, ◌++◌, length, take, append_assoc, ap, ◌∙◌, sym, subst, arith}
use Rattle.std.specs.Int.{Width, byte_len, bytes_high_first}
use Rattle.std.proofs.lemmas.Grind.{same_number_lists}
use Rattle.std.proofs.lemmas.List.{length-take-le, get_or-take}
use Rattle.std.proofs.Math.Seq.{take-append_seam, take-append-add}
use Rattle.byteorder.specs.Numbers.{length-bytes_high_first}
use Rattle.mls_ckpt.specs.Reading.{spelled, text}
use Rattle.mls_field.specs.Copied.{copied}
use Rattle.mls_field.specs.PutBytes.{Grown}
use Rattle.mls_field.proofs.Texts.{number_put}
use Rattle.mls_field.proofs.FourCopied.{entry, length-copied}

-- a number that is written at a place, before what was there
pub number_put_at : (w : Width) (n at : ℕ) (old tail behind post : List ℕ) → at ≤ length old → tail ≡ bytes_high_first (byte_len w) n ++ behind → Grown (take at old) (take (at + byte_len w) (take at old ++ (tail ++ post))) (text w n)
unfolding spelled
number_put_at w n at old tail behind post fits e =
    let front = take at old in
    let bytes = bytes_high_first (byte_len w) n in
    let long : at + byte_len w ≡ length front + length bytes = omega (arith, length-take-le at old fits, length-bytes_high_first (byte_len w) n) in
    let whole : tail ++ post ≡ bytes ++ (behind ++ post) = ap (λ (xs : List ℕ). xs ++ post) e ∙ append_assoc bytes behind post in
    number_put w n front (take (at + byte_len w) (front ++ (tail ++ post)))
    (ap (λ (m : ℕ). take m (front ++ (tail ++ post))) long ∙ (take-append-add front (tail ++ post) (length bytes) ∙
    (ap (λ (xs : List ℕ). front ++ take (length bytes) xs) whole ∙ ap (λ (xs : List ℕ). front ++ xs) (take-append_seam bytes (behind ++ post)))))

-- the same end, said otherwise
pub grown_to : (old bytes : List ℕ) (write : List ℕ → List ℕ) (i j : ℕ) → i ≡ j → Grown old (take i bytes) write → Grown old (take j bytes) write
grown_to old bytes write i j e grown = subst (λ (k : ℕ). Grown old (take k bytes) write) e grown

-- four texts one after the other
pub four_put : (o0 o1 o2 o3 o4 : List ℕ) (w0 w1 w2 w3 : List ℕ → List ℕ) → Grown o0 o1 w0 → Grown o1 o2 w1 → Grown o2 o3 w2 → Grown o3 o4 w3 → Grown o0 o4 (λ rest. w0 (w1 (w2 (w3 rest))))
four_put o0 o1 o2 o3 o4 w0 w1 w2 w3 s1 s2 s3 s4 rest = s4 rest ∙ (s3 _ ∙ (s2 _ ∙ s1 _))

-- the first columns of a cell
pub front_copied : (size more place : ℕ) (columns : List ℕ) → size ≤ more → copied size columns place ≡ take size (copied more columns place)
front_copied size more place columns fits =
    let taken = length-take-le size (copied more columns place) (omega (arith, fits, length-copied more place columns)) in
    same_number_lists (copied size columns place) (take size (copied more columns place)) (length-copied size place columns ∙ sym taken)
    (λ i h. let low : i < size = omega (arith, h, length-copied size place columns) in
    entry size place columns i low ∙ (sym (entry more place columns i (omega (arith, low, fits))) ∙ sym (get_or-take size (copied more columns place) i 0 low)))
